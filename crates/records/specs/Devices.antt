-- A device's row, and what becomes of it.
use Rattle.std.specs.Prelude.{ℕ, false, Some, None, Option}
use Rattle.ei.specs.declared.device.Keymap.{Keymap}
use Rattle.ei.specs.declared.device.Region.{Region}
use Rattle.ei.specs.declared.enums.DeviceType.{DeviceType}
use Rattle.ei.specs.declared.object.Object.{Object}
use Rattle.ei.specs.declared.text.Text.{Text}
use Rattle.records.specs.declared.device.Description.{Description}
use Rattle.records.specs.declared.device.Detail.{Detail}
use Rattle.records.specs.declared.device.Detail.TheVariants as details
use Rattle.records.specs.declared.device.DeviceRow.{DeviceRow}
use Rattle.records.specs.declared.device.DeviceStep.{DeviceStep}
use Rattle.records.specs.declared.device.DeviceStep.TheVariants as steps
use Rattle.records.specs.declared.device.Stage.{Stage}
use Rattle.records.specs.declared.device.Stage.TheVariants as stages
use Rattle.records.specs.declared.list.InterfaceList.{InterfaceList}
use Rattle.records.specs.declared.regions.Regions.{Regions}
use Rattle.records.specs.declared.standing.Head.{Head}
use Rattle.records.specs.declared.standing.Standing.{Standing}
use Rattle.records.specs.declared.standing.Standing.TheVariants.{Pending, Live, Detached}
use Rattle.records.specs.Heads.{new_head, live_head, detached_head}
use Rattle.records.specs.Listing.{no_entries, with_entry, all_owned, given_up}
use Rattle.records.specs.Places.{no_regions, with_region}

abbrev pub new_description : Description
new_description = record { name = None; device_type = None; dimensions = None; regions = no_regions; mapping_id = None; keymap = None }

-- a setter for each field of a description
abbrev pub with_name : Text → Description → Description
with_name t d = record { name = Some t; device_type = d.device_type; dimensions = d.dimensions; regions = d.regions; mapping_id = d.mapping_id; keymap = d.keymap }

abbrev pub with_type : DeviceType → Description → Description
with_type t d = record { name = d.name; device_type = Some t; dimensions = d.dimensions; regions = d.regions; mapping_id = d.mapping_id; keymap = d.keymap }

abbrev pub with_dimensions : ℕ × ℕ → Description → Description
with_dimensions x d = record { name = d.name; device_type = d.device_type; dimensions = Some x; regions = d.regions; mapping_id = d.mapping_id; keymap = d.keymap }

abbrev pub with_regions : Regions → Description → Description
with_regions rs d = record { name = d.name; device_type = d.device_type; dimensions = d.dimensions; regions = rs; mapping_id = d.mapping_id; keymap = d.keymap }

abbrev pub with_mapping_id : Option Text → Description → Description
with_mapping_id t d = record { name = d.name; device_type = d.device_type; dimensions = d.dimensions; regions = d.regions; mapping_id = t; keymap = d.keymap }

abbrev pub with_keymap : Keymap → Description → Description
with_keymap k d = record { name = d.name; device_type = d.device_type; dimensions = d.dimensions; regions = d.regions; mapping_id = d.mapping_id; keymap = Some k }

-- a region with this mapping id
abbrev pub with_id : Option Text → Region → Region
with_id t r = record { x = r.x; y = r.y; width = r.width; height = r.height; scale = r.scale; mapping_id = t }

-- the latest mapping id goes to the next region and is used up
abbrev pub with_next_region : Region → Description → Description
with_next_region r d = with_mapping_id None (with_regions (with_region (with_id d.mapping_id r) d.regions) d)

-- what one detail says
abbrev pub described : Detail → Description → Description
described (details.Name t) d = with_name t d
described (details.Type t) d = with_type t d
described (details.Dimensions x y) d = with_dimensions (x, y) d
described (details.Region r) d = with_next_region r d
described (details.MappingId t) d = with_mapping_id (Some t) d
described (details.Keymap k) d = with_keymap k d

-- a device that is to be set up
abbrev pub new_device : ℕ → ℕ → DeviceRow
new_device n seat = record { head = new_head n; seat = seat; description = new_description; list = no_entries }

-- a setter for each field of a row
abbrev pub device_with_head : Head → DeviceRow → DeviceRow
device_with_head h row = record { head = h; seat = row.seat; description = row.description; list = row.list }

abbrev pub device_with_description : Description → DeviceRow → DeviceRow
device_with_description d row = record { head = row.head; seat = row.seat; description = d; list = row.list }

abbrev pub device_with_list : InterfaceList → DeviceRow → DeviceRow
device_with_list l row = record { head = row.head; seat = row.seat; description = row.description; list = l }

-- an interface object is listed, and not yet owned; a later one of the kind replaces it
abbrev pub with_object : Object → InterfaceList → InterfaceList
with_object o l = with_entry o.kind (Some (record { object = o.number; owned = false })) l

-- Done of a pending device: it is live under its handle, and owns all that it lists
abbrev pub gone_live : ℕ → DeviceRow → DeviceRow
gone_live h row = device_with_list (all_owned row.list) (device_with_head (live_head h row.head) row)

-- a live device is detached and keeps its handle and its list
abbrev pub superseded : DeviceRow → DeviceRow
superseded row = device_with_head (detached_head row.head) row

-- a live device is destroyed: it is detached, and its list is empty
abbrev pub destroyed : DeviceRow → DeviceRow
destroyed row = device_with_list no_entries (superseded row)

-- by how the device stands and what is said of it together: only a pending device is set up
abbrev pub device_taken : Standing → Stage → DeviceRow → DeviceRow
device_taken Pending (stages.Setup d) row = device_with_description (described d row.description) row
device_taken Pending (stages.Interface o) row = device_with_list (with_object o row.list) row
device_taken Pending (stages.Done h) row = gone_live h row
device_taken Pending stages.Destroyed row = row
device_taken Live (stages.Setup d) row = row
device_taken Live (stages.Interface o) row = row
device_taken Live (stages.Done h) row = superseded row
device_taken Live stages.Destroyed row = destroyed row
device_taken Detached (stages.Setup d) row = row
device_taken Detached (stages.Interface o) row = row
device_taken Detached (stages.Done h) row = row
device_taken Detached stages.Destroyed row = row

abbrev pub device_stepped : DeviceRow → DeviceStep → DeviceRow
device_stepped row (steps.Take s) = device_taken row.head.standing s row
device_stepped row (steps.GiveUp l) = device_with_list (given_up l row.list) row
device_stepped row (steps.Forget c) = device_with_list (with_entry c None row.list) row
