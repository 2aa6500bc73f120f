-- What a device lists, kind by kind, and what it owns, as its list is changed.
use Rattle.std.proofs.Common.{◌≡◌, ℕ, zero, suc, ◌<◌, Bool, true, false, cond, eqb, List, [], ◌∷◌, map, get_or, set, Some, None, Option, sym, refl, ap, ◌∙◌, ⊎_elim, arith}
use mathlib.Core.Path.{fun_ext}
use Rattle.std.proofs.lemmas.List.{get_or-set_same, get_or-set_other}
use Rattle.std.proofs.lemmas.Bool.{cond_both, cond-true, cond-false, cases_Bool, eqb-true, eqb-false}
use Rattle.std.proofs.lemmas.Bool.Decides.{nat_tests}
use Rattle.std.specs.Option.{option_map}
use Rattle.ei.specs.Capabilities.{index_of}
use Rattle.ei.specs.declared.capability.DeviceCapability.{DeviceCapability}
use Rattle.ei.specs.declared.capability.DeviceCapability.TheVariants.{Pointer, PointerAbsolute, Keyboard, Touch, Scroll, Button, Text}
use Rattle.ei.specs.declared.object.Object.{Object}
use Rattle.records.specs.Listing.{entry_at, names, owned_as, lists, owns, owned_entry, disowned_entry, disowned_entries, no_entries, with_entry, all_owned, given_up}
use Rattle.records.specs.declared.list.Entry.{Entry}
use Rattle.records.specs.declared.list.InterfaceList.{InterfaceList}
use Rattle.law.specs.History.{same_kind, put_kind, holds}

-- the objects of a list, by kind
abbrev pub objects : InterfaceList → DeviceCapability → Option ℕ
objects l c = option_map (λ e. e.object) (entry_at l c)

-- Entries.

-- each kind has a place
pub index_below : (c : DeviceCapability) → index_of c < 7
index_below Pointer = omega arith
index_below PointerAbsolute = omega arith
index_below Keyboard = omega arith
index_below Touch = omega arith
index_below Scroll = omega arith
index_below Button = omega arith
index_below Text = omega arith

-- another entry of a kind
pub entry_with : (c : DeviceCapability) (e : Option Entry) (l : InterfaceList) (k : DeviceCapability) → entry_at (with_entry c e l) k ≡ put_kind (entry_at l) c e k
unfolding with_entry
entry_with c e l k =
    ⊎_elim
    (λ t. ap (λ i. get_or (set l.entries (index_of c) e) i None) (eqb-true (index_of k) (index_of c) t) ∙ (get_or-set_same l.entries (index_of c) e None (omega (arith, l.long, index_below c)) ∙ sym (cond-true (same_kind k c) _ _ t)))
    (λ t. get_or-set_other l.entries (index_of c) (index_of k) e None (eqb-false (index_of k) (index_of c) t) ∙ sym (cond-false (same_kind k c) _ _ t))
    (cases_Bool (same_kind k c))

-- by place
owned_at : (es : List (Option Entry)) (i : ℕ) → get_or (map owned_entry es) i None ≡ owned_entry (get_or es i None)
owned_at [] i = refl
owned_at (e ∷ es) zero = refl
owned_at (e ∷ es) (suc i) = owned_at es i

-- all owned
pub entry_owned : (l : InterfaceList) (k : DeviceCapability) → entry_at (all_owned l) k ≡ owned_entry (entry_at l k)
unfolding all_owned
entry_owned l k = owned_at l.entries (index_of k)

-- nothing is disowned by an empty place
disowned_by_none : (e : Option Entry) → e ≡ disowned_entry None e
disowned_by_none None = refl
disowned_by_none (Some e) = refl

-- nor at one
disowned_none : (x : Option Entry) → None ≡ disowned_entry x None
disowned_none None = refl
disowned_none (Some x) = refl

-- by place
disowned_at : (xs es : List (Option Entry)) (i : ℕ) → get_or (disowned_entries xs es) i None ≡ disowned_entry (get_or xs i None) (get_or es i None)
disowned_at [] es i = disowned_by_none (get_or es i None)
disowned_at (x ∷ xs) [] i = disowned_none (get_or (x ∷ xs) i None)
disowned_at (x ∷ xs) (e ∷ es) zero = refl
disowned_at (x ∷ xs) (e ∷ es) (suc i) = disowned_at xs es i

-- given up
pub entry_given_up : (other l : InterfaceList) (k : DeviceCapability) → entry_at (given_up other l) k ≡ disowned_entry (entry_at other k) (entry_at l k)
unfolding given_up
entry_given_up other l k = disowned_at other.entries l.entries (index_of k)

-- nothing listed
pub entry_none : (k : DeviceCapability) → entry_at no_entries k ≡ None
unfolding no_entries
entry_none Pointer = refl
entry_none PointerAbsolute = refl
entry_none Keyboard = refl
entry_none Touch = refl
entry_none Scroll = refl
entry_none Button = refl
entry_none Text = refl

-- Objects.

-- an object is listed where it is its kind's
holds_names : (e : Option Entry) (n : ℕ) → holds (option_map (λ x. x.object) e) n ≡ names n e
holds_names None n = refl
holds_names (Some e) n = refl

-- and so of a list
pub holds_lists : (o : Object) (l : InterfaceList) → holds (objects l o.kind) o.number ≡ lists o l
holds_lists o l = holds_names (entry_at l o.kind) o.number

-- nothing is listed
pub objects_none : objects no_entries ≡ (λ _. None)
objects_none = fun_ext (λ c. ap (option_map (λ e. e.object)) (entry_none c))

-- an entry keeps its object as it is owned
object_owned : (e : Option Entry) → option_map (λ x. x.object) (owned_entry e) ≡ option_map (λ x. x.object) e
object_owned None = refl
object_owned (Some e) = refl

-- and so a list
pub objects_owned : (l : InterfaceList) → objects (all_owned l) ≡ objects l
objects_owned l = fun_ext (λ c. ap (option_map (λ e. e.object)) (entry_owned l c) ∙ object_owned (entry_at l c))

-- and as it is disowned
object_disowned : (x e : Option Entry) → option_map (λ x. x.object) (disowned_entry x e) ≡ option_map (λ x. x.object) e
object_disowned None None = refl
object_disowned None (Some e) = refl
object_disowned (Some x) None = refl
object_disowned (Some x) (Some e) = same (eqb x.object e.object)
  where
    same : (b : Bool) → option_map (λ x. x.object) (cond b (Some (record { object = e.object; owned = false })) (Some e)) ≡ Some e.object
    same true = refl
    same false = refl

-- and so a list
pub objects_given_up : (other l : InterfaceList) → objects (given_up other l) ≡ objects l
objects_given_up other l = fun_ext (λ c. ap (option_map (λ e. e.object)) (entry_given_up other l c) ∙ object_disowned (entry_at other c) (entry_at l c))

-- a function goes into a test
pub cond_into : {A B : Type 0} (f : A → B) (b : Bool) (x y : A) → f (cond b x y) ≡ cond b (f x) (f y)
cond_into f true x y = refl
cond_into f false x y = refl

-- another entry of a kind is another object of it
pub objects_with : (c : DeviceCapability) (e : Option Entry) (l : InterfaceList) → objects (with_entry c e l) ≡ put_kind (objects l) c (option_map (λ x. x.object) e)
objects_with c e l = fun_ext (λ k. ap (option_map (λ x. x.object)) (entry_with c e l k) ∙ cond_into (option_map (λ x. x.object)) (same_kind k c) e (entry_at l k))

-- Owned objects.

-- an empty list owns nothing
pub owns_none : (o : Object) → owns o no_entries ≡ false
owns_none o = ap (owned_as o.number) (entry_none o.kind)

-- an owned entry is owned where it is named
as_owned : (n : ℕ) (e : Option Entry) → owned_as n (owned_entry e) ≡ names n e
as_owned n None = refl
as_owned n (Some e) = refl

-- all that is listed is owned
pub owns_all : (o : Object) (l : InterfaceList) → owns o (all_owned l) ≡ lists o l
owns_all o l = ap (owned_as o.number) (entry_owned l o.kind) ∙ as_owned o.number (entry_at l o.kind)

-- a disowned entry is owned where the other does not name it
as_disowned : (n : ℕ) (x e : Option Entry) → owned_as n (disowned_entry x e) ≡ cond (names n x) false (owned_as n e)
as_disowned n None None = refl
as_disowned n None (Some e) = refl
as_disowned n (Some x) None = cond_both (eqb x.object n) false false (λ w. false ≡ w) (λ _. refl) (λ _. refl)
as_disowned n (Some x) (Some e) = grind (arith, nat_tests)

-- nothing that another list has is owned
pub owns_given_up : (o : Object) (other l : InterfaceList) → owns o (given_up other l) ≡ cond (lists o other) false (owns o l)
owns_given_up o other l = ap (owned_as o.number) (entry_given_up other l o.kind) ∙ as_disowned o.number (entry_at other o.kind) (entry_at l o.kind)

-- an entry of a kind bears on the objects of that kind
pub owns_with : (o : Object) (c : DeviceCapability) (e : Option Entry) (l : InterfaceList) → owns o (with_entry c e l) ≡ cond (same_kind o.kind c) (owned_as o.number e) (owns o l)
owns_with o c e l = ap (owned_as o.number) (entry_with c e l o.kind) ∙ cond_into (owned_as o.number) (same_kind o.kind c) e (entry_at l o.kind)

-- what an entry does not name it does not own
owned_named : (n : ℕ) (e : Option Entry) → names n e ≡ false → owned_as n e ≡ false
owned_named n None t = refl
owned_named n (Some e) t = grind (arith, nat_tests)

-- what is not listed is not owned
pub owns_listed : (o : Object) (l : InterfaceList) → lists o l ≡ false → owns o l ≡ false
owns_listed o l t = owned_named o.number (entry_at l o.kind) t
