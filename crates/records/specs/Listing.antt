-- What a device lists: at most one object of each kind, and whether the device's handle owns it.
use Rattle.std.specs.Prelude.{◌≡◌, ℕ, suc, Bool, true, false, cond, List, [], ◌∷◌, map, length, Some, None, Option, ◌==◌, slice_index_or, slice_set, refl}
use Rattle.std.proofs.Common.{ap, ◌∙◌, length-set}
use Rattle.std.proofs.lemmas.List.{length-map}
use Rattle.ei.specs.Capabilities.{index_of}
use Rattle.ei.specs.declared.capability.DeviceCapability.{DeviceCapability}
use Rattle.ei.specs.declared.object.Object.{Object}
use Rattle.records.specs.declared.list.Entry.{Entry}
use Rattle.records.specs.declared.list.InterfaceList.{InterfaceList}

-- the entry of a kind
abbrev pub entry_at : InterfaceList → DeviceCapability → Option Entry
entry_at l c = slice_index_or l.entries (index_of c) None

abbrev pub names : ℕ → Option Entry → Bool
names n (Some e) = e.object == n
names n None = false

abbrev pub owned_as : ℕ → Option Entry → Bool
owned_as n (Some e) = cond e.owned (e.object == n) false
owned_as n None = false

-- the object is in the list
abbrev pub lists : Object → InterfaceList → Bool
lists o l = names o.number (entry_at l o.kind)

-- the object is in the list, and the device's handle owns it
abbrev pub owns : Object → InterfaceList → Bool
owns o l = owned_as o.number (entry_at l o.kind)

abbrev pub owned_entry : Option Entry → Option Entry
owned_entry (Some e) = Some (record { object = e.object; owned = true })
owned_entry None = None

-- an entry once another's claim to the other's object of this kind is made or ended
abbrev pub disowned_entry : Option Entry → Option Entry → Option Entry
disowned_entry (Some x) (Some e) = cond (x.object == e.object) (Some (record { object = e.object; owned = false })) (Some e)
disowned_entry (Some x) None = None
disowned_entry None (Some e) = Some e
disowned_entry None None = None

-- kind by kind
abbrev pub disowned_entries : List (Option Entry) → List (Option Entry) → List (Option Entry)
disowned_entries [] es = es
disowned_entries (x ∷ xs) [] = []
disowned_entries (x ∷ xs) (e ∷ es) = disowned_entry x e ∷ disowned_entries xs es

pub length_disowned : (xs es : List (Option Entry)) → length (disowned_entries xs es) ≡ length es
length_disowned [] es = refl
length_disowned (x ∷ xs) [] = refl
length_disowned (x ∷ xs) (e ∷ es) = ap suc (length_disowned xs es)

-- nothing listed
unfoldable pub no_entries : InterfaceList
no_entries = record { entries = None ∷ (None ∷ (None ∷ (None ∷ (None ∷ (None ∷ (None ∷ [])))))); long = refl }

-- the list with another entry of a kind
unfoldable pub with_entry : DeviceCapability → Option Entry → InterfaceList → InterfaceList
with_entry c e l = record { entries = slice_set l.entries (index_of c) e; long = length-set l.entries (index_of c) e ∙ l.long }

-- the list with all its objects owned
unfoldable pub all_owned : InterfaceList → InterfaceList
all_owned l = record { entries = map owned_entry l.entries; long = length-map l.entries owned_entry ∙ l.long }

-- the list with none of the other list's objects owned
unfoldable pub given_up : InterfaceList → InterfaceList → InterfaceList
given_up other l = record { entries = disowned_entries other.entries l.entries; long = length_disowned other.entries l.entries ∙ l.long }
