-- The readings that a clock has to come.
use Rattle.std.specs.Prelude.{ℕ, List, [], ◌∷◌}

-- the first reading to come, and 0 where there is none
abbrev pub first_of : List ℕ → ℕ
first_of [] = 0
first_of (r ∷ _) = r

-- the readings to come after one was read: one fewer, but for the last
abbrev pub onward : List ℕ → List ℕ
onward [] = []
onward (r ∷ []) = r ∷ []
onward (_ ∷ (r ∷ rs)) = r ∷ rs
