-- What a row's number and standing say of the tests by which rows are found.
use Rattle.std.proofs.Common.{◌≡◌, ℕ, Bool, true, false, cond, eqb, List, Option, sym, refl, ap, ◌∙◌, ⊎_elim, arith}
use Rattle.std.proofs.lemmas.Bool.{cond_both, cond-true, cond-false, cases_Bool, both_ways, eqb-true, eq-eqb}
use Rattle.std.proofs.lemmas.Bool.Decides.{nat_tests}
use Rattle.std.specs.Option.{option_map}
use Rattle.ei.specs.declared.capability.DeviceCapability.{DeviceCapability}
use Rattle.ei.specs.declared.object.Object.{Object}
use Rattle.records.specs.Owners.{owns_it}
use Rattle.records.specs.Rows.{same_standing, at_number, first, changed}
use Rattle.records.specs.declared.device.DeviceRow.{DeviceRow}
use Rattle.records.specs.declared.standing.Standing.{Standing}
use Rattle.records.specs.declared.standing.Standing.TheVariants.{Pending, Live, Detached}
use Rattle.tables.specs.Rules.{device_at, device_by_handle}
use Rattle.law.proofs.Link.{Sound, handle_of, pending}
use Rattle.law.proofs.LinkRows.{Alike, changed_as, first_passes, each_changed, each_first}

-- the test of two standings
pub same_standing_true : (a b : Standing) → same_standing a b ≡ true → a ≡ b
same_standing_true Pending Pending t = refl
same_standing_true Pending Live t = absurd (both_ways false refl t)
same_standing_true Pending Detached t = absurd (both_ways false refl t)
same_standing_true Live Pending t = absurd (both_ways false refl t)
same_standing_true Live Live t = refl
same_standing_true Live Detached t = absurd (both_ways false refl t)
same_standing_true Detached Pending t = absurd (both_ways false refl t)
same_standing_true Detached Live t = absurd (both_ways false refl t)
same_standing_true Detached Detached t = refl

-- both parts of a test
pub both_of : (a b : Bool) → cond a b false ≡ true → (a ≡ true) × (b ≡ true)
both_of true b t = (refl, t)
both_of false b t = absurd (both_ways false refl t)

-- a row that is found stands so
pub at_standing : {X : Type 0} (number : X → ℕ) (stands : X → Standing) (n : ℕ) (s : Standing) (x : X) → at_number number stands n s x ≡ true → stands x ≡ s
at_standing number stands n s x t = same_standing_true (stands x) s (both_of (eqb (number x) n) (same_standing (stands x) s) t).1

-- a row of a standing takes a step as that standing does
pub stepped_by : {X : Type 0} (number : X → ℕ) (stands : X → Standing) (taken : Standing → X → X) (n : ℕ) (s : Standing) (f : X → X) → ((x : X) → taken s x ≡ f x) → (xs : List X) → changed (at_number number stands n s) (λ x. taken (stands x) x) xs ≡ changed (at_number number stands n s) f xs
stepped_by number stands taken n s f same xs =
    changed_as (at_number number stands n s) (λ x. taken (stands x) x) f (λ x t. ap (λ z. taken z x) (at_standing number stands n s x t) ∙ same x) xs

-- a device that is found has the number and the standing
pub at_number_is : (n : ℕ) (s : Standing) (row : DeviceRow) → device_at n s row ≡ true → row.head.number ≡ n
at_number_is n s row t = eqb-true row.head.number n (both_of (eqb row.head.number n) (same_standing row.head.standing s) t).0

-- and the standing
pub at_standing_is : (n : ℕ) (s : Standing) (row : DeviceRow) → device_at n s row ≡ true → row.head.standing ≡ s
at_standing_is n s row t = at_standing (λ x. x.head.number) (λ x. x.head.standing) n s row t

-- a row of another standing is not found
at_other_by : {X : Type 0} (number : X → ℕ) (stands : X → Standing) (n : ℕ) (s t : Standing) (x : X) → stands x ≡ t → same_standing t s ≡ false → at_number number stands n s x ≡ false
at_other_by number stands n s t x e d = ap (λ z. cond (eqb (number x) n) z false) (ap (λ z. same_standing z s) e ∙ d) ∙ cond_both (eqb (number x) n) false false (λ w. w ≡ false) (λ _. refl) (λ _. refl)

-- the same of a device
pub at_other : (n : ℕ) (s t : Standing) (row : DeviceRow) → row.head.standing ≡ t → same_standing t s ≡ false → device_at n s row ≡ false
at_other = at_other_by (λ row. row.head.number) (λ row. row.head.standing)

-- where the live row of a number is detached, the one that is being set up stays
pub pending_first : {X V : Type 0} (number : X → ℕ) (stands : X → Standing) (f : X → X) (v : X → V) → ((x : X) → stands (f x) ≡ Detached) → (n : ℕ) (xs : List X) → option_map v (first (at_number number stands n Pending) (changed (at_number number stands n Live) f xs)) ≡ option_map v (first (at_number number stands n Pending) xs)
pending_first {X} number stands f v gone n xs =
    let q : X → Bool = at_number number stands n Pending in
    let live : X → Bool = at_number number stands n Live in
    each_first q v xs (changed live f xs) (each_changed (Alike q v) live f (λ x. (refl, λ _. refl)) xs
    (λ x w. let was = at_other_by number stands n Pending Live x (at_standing number stands n Live x (first_passes live xs x w)) refl in
    (at_other_by number stands n Pending Detached (f x) (gone x) refl ∙ sym was, λ u. absurd (both_ways (q x) was u))))

-- a row of this standing is found by its number
pub at_own : (k n : ℕ) (s : Standing) (row : DeviceRow) → row.head.number ≡ n → same_standing row.head.standing s ≡ true → device_at k s row ≡ eqb k n
at_own k n s row e t = ap (λ x. cond (eqb row.head.number k) x false) t ∙ grind (arith, nat_tests)

-- a device found so is being set up
pub pending_is : (n : ℕ) (row : DeviceRow) → device_at n Pending row ≡ true → pending row ≡ true
pending_is n row t = ap (λ s. same_standing s Pending) (at_standing_is n Pending row t)

-- a live row is not being set up
pub live_settled : (n : ℕ) (row : DeviceRow) → device_at n Live row ≡ true → pending row ≡ false
live_settled n row t = ap (λ s. same_standing s Pending) (at_standing_is n Live row t)

-- nor is an owner
pub owner_settled : {lists : ℕ → DeviceCapability → Option ℕ} {retired : ℕ → Bool} {handles : ℕ} (o : Object) (row : DeviceRow) → Sound lists retired handles row → owns_it o row ≡ true → pending row ≡ false
owner_settled o row s t = ⊎_elim (λ p. absurd (both_ways (owns_it o row) (s.owns_nothing p o) t)) (λ p. p) (cases_Bool (pending row))

-- a row that is not being set up is found by its handle
pub by_own_handle : (h : ℕ) (row : DeviceRow) → pending row ≡ false → device_by_handle h row ≡ eqb (handle_of row) h
by_own_handle h row p = cond-false (pending row) _ _ p

-- and so by the handle that it has
pub found_by_handle : (row : DeviceRow) → pending row ≡ false → device_by_handle (handle_of row) row ≡ true
found_by_handle row p = by_own_handle (handle_of row) row p ∙ eq-eqb (handle_of row) (handle_of row) refl

-- what is found by a handle has it, and is not being set up
pub by_handle_is : (h : ℕ) (row : DeviceRow) → device_by_handle h row ≡ true → (pending row ≡ false) × (handle_of row ≡ h)
by_handle_is h row t =
    ⊎_elim
    (λ p. absurd (both_ways (device_by_handle h row) (cond-true (pending row) _ _ p) t))
    (λ p. (p, eqb-true (handle_of row) h (sym (by_own_handle h row p) ∙ t)))
    (cases_Bool (pending row))

-- a row that is not found by a handle has another
pub other_handle : (h : ℕ) (row : DeviceRow) → device_by_handle h row ≡ false → pending row ≡ false → eqb (handle_of row) h ≡ false
other_handle h row t p = sym (by_own_handle h row p) ∙ t

-- a row of a number is not found by another
pub at_other_number : (k n : ℕ) (s t : Standing) (row : DeviceRow) → device_at n t row ≡ true → eqb k n ≡ false → device_at k s row ≡ false
at_other_number k n s t row u d = let e = at_number_is n t row u in cond-false (eqb row.head.number k) _ _ (grind (arith, nat_tests))

-- the tests by number, standing and handle see the head only
pub same_at : (n : ℕ) (s : Standing) (x y : DeviceRow) → y.head ≡ x.head → device_at n s y ≡ device_at n s x
same_at n s x y e = ap (λ h. cond (eqb h.number n) (same_standing h.standing s) false) e

-- and so does the test by handle
pub same_by_handle : (k : ℕ) (x y : DeviceRow) → y.head ≡ x.head → device_by_handle k y ≡ device_by_handle k x
same_by_handle k x y e = ap (λ h. cond (same_standing h.standing Pending) false (eqb h.handle k)) e
