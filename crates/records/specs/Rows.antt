-- Rows by test and not by place: the first that passes, the rows with it changed, the rows without it.
use Rattle.std.specs.Prelude.{◌≡◌, ℕ, zero, suc, ◌<◌, ◌≤◌, Bool, true, false, cond, not, List, [], ◌∷◌, length, is_some, Some, None, Option, MatchOption, ◌==◌, nat_lt}
use Rattle.std.specs.List.{HoldsAt, AllWithin}
use Rattle.records.specs.declared.standing.Key.{Key}
use Rattle.records.specs.declared.standing.Standing.{Standing}
use Rattle.records.specs.declared.standing.Standing.TheVariants.{Pending, Live, Detached}

abbrev pub same_standing : Standing → Standing → Bool
same_standing Pending Pending = true
same_standing Pending Live = false
same_standing Pending Detached = false
same_standing Live Pending = false
same_standing Live Live = true
same_standing Live Detached = false
same_standing Detached Pending = false
same_standing Detached Live = false
same_standing Detached Detached = true

-- whether a table of so many rows, of at most so many, has no place for a new one; one that is replaced gives its place
abbrev pub no_row_for : Bool → ℕ → ℕ → Bool
no_row_for replaces rows most = cond replaces false (not (nat_lt rows most))

module _ {X : Type 0} where
  -- the row is of this number and stands so
  abbrev pub at_number : (X → ℕ) → (X → Standing) → ℕ → Standing → X → Bool
  at_number numbered stands n s x = cond (numbered x == n) (same_standing (stands x) s) false

  -- the row is the one of this key
  abbrev pub at_key : (X → ℕ) → (X → Standing) → Key → X → Bool
  at_key numbered stands k = at_number numbered stands k.number k.standing

  -- the row is the record of this handle; a pending one has none
  abbrev pub by_handle : (X → ℕ) → (X → Standing) → ℕ → X → Bool
  by_handle handled stands h x = cond (same_standing (stands x) Pending) false (handled x == h)

  -- the first row that passes
  abbrev pub first : (X → Bool) → List X → Option X
  first p [] = None
  first p (x ∷ xs) = cond (p x) (Some x) (first p xs)

  -- some row passes
  abbrev pub any : (X → Bool) → List X → Bool
  any p xs = is_some (first p xs)

  -- whether a table of at most n rows has no place for a new one in place of the first that passes
  abbrev pub lacks_row : (X → Bool) → List X → ℕ → Bool
  lacks_row p xs n = no_row_for (any p xs) (length xs) n

  -- the rows with the first that passes changed
  abbrev pub changed : (X → Bool) → (X → X) → List X → List X
  changed p f [] = []
  changed p f (x ∷ xs) = cond (p x) (f x ∷ xs) (x ∷ changed p f xs)

  -- the rows without the first that passes
  abbrev pub without : (X → Bool) → List X → List X
  without p [] = []
  without p (x ∷ xs) = cond (p x) xs (x ∷ without p xs)

  -- r is the place of the first row that passes, from a given place on, or none where none passes
  abbrev pub Finds : (X → Bool) → List X → ℕ → Option ℕ → Type 0
  Finds p xs from r = MatchOption r (AllWithin (λ x. p x ≡ false) xs from (length xs)) (λ i. (from ≤ i) × (i < length xs) × HoldsAt (λ x. p x ≡ true) xs i × AllWithin (λ x. p x ≡ false) xs from i)

  -- the rows with the one at a place changed
  abbrev pub changed_at : ℕ → (X → X) → List X → List X
  changed_at i f [] = []
  changed_at zero f (x ∷ xs) = f x ∷ xs
  changed_at (suc i) f (x ∷ xs) = x ∷ changed_at i f xs
