-- How the book, which follows from the calls and their answers, is tied to the rows of the devices.
use Rattle.std.proofs.Common.{◌≡◌, ℕ, ◌≤◌, Bool, true, false, List, Option, refl}
use Rattle.std.proofs.lemmas.Bool.{both_ways}
use Rattle.std.specs.Option.{option_map}
use Rattle.std.specs.List.{AllByRecursion}
use Rattle.ei.specs.declared.capability.DeviceCapability.{DeviceCapability}
use Rattle.ei.specs.declared.object.Object.{Object}
use Rattle.records.specs.Owners.{owns_it}
use Rattle.records.specs.Rows.{same_standing, first}
use Rattle.records.specs.declared.device.DeviceRow.{DeviceRow}
use Rattle.records.specs.declared.standing.Standing.TheVariants.{Pending, Live}
use Rattle.tables.specs.Model.{Model, fresh}
use Rattle.tables.specs.Rules.{device_at, device_by_handle}
use Rattle.law.specs.History.{Book, blank}
use Rattle.law.proofs.LinkLists.{objects}
use Rattle.law.proofs.LinkRows.{Lone}

-- a row by its parts
abbrev pub handle_of : DeviceRow → ℕ
handle_of row = row.head.handle

abbrev pub listing : DeviceRow → DeviceCapability → Option ℕ
listing row = objects row.list

abbrev pub pending : DeviceRow → Bool
pending row = same_standing row.head.standing Pending

-- a row that is being set up owns nothing. Any other has a handle that was given and is not retired, under which the book has its list
pub record Sound (lists : ℕ → DeviceCapability → Option ℕ) (retired : ℕ → Bool) (handles : ℕ) (row : DeviceRow) : Type 0 where
  pub owns_nothing : pending row ≡ true → (o : Object) → owns_it o row ≡ false
  pub given : pending row ≡ false → handle_of row ≤ handles
  pub listed : pending row ≡ false → lists (handle_of row) ≡ listing row
  pub current : pending row ≡ false → retired (handle_of row) ≡ false

-- what the book says of the rows
pub record Linked (b : Book) (handles : ℕ) (rows : List DeviceRow) : Type 0 where
  pub counted : b.handles ≡ handles
  pub set_up : (n : ℕ) → b.setup n ≡ option_map listing (first (device_at n Pending) rows)
  pub alive : (n : ℕ) → b.live n ≡ option_map handle_of (first (device_at n Live) rows)
  pub owned : (o : Object) → b.owner o ≡ option_map handle_of (first (owns_it o) rows)
  pub one_pending : (n : ℕ) → Lone (device_at n Pending) rows
  pub one_live : (n : ℕ) → Lone (device_at n Live) rows
  pub one_handle : (h : ℕ) → Lone (device_by_handle h) rows
  pub one_owner : (o : Object) → Lone (owns_it o) rows
  pub sound : AllByRecursion (Sound b.lists b.retired handles) rows
  pub was_given : (h : ℕ) → b.retired h ≡ true → h ≤ handles

-- of a model only the devices and the last handle count
abbrev pub Link : Book → Model → Type 0
Link b m = Linked b m.handles m.devices

-- a new converter is as the book before any call
pub link_start : (s : ℕ) → Link blank (fresh s)
link_start s =
    record { counted = refl; set_up = λ _. refl; alive = λ _. refl; owned = λ _. refl; one_pending = λ _. tt; one_live = λ _. tt; one_handle = λ _. tt; one_owner = λ _. tt; sound = tt; was_given = λ h t. absurd (both_ways false refl t) }
