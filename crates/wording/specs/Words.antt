-- The words of a line, with one space between.
use Rattle.std.specs.Prelude.{ℕ, cond, List, [], ◌∷◌, Some, None, Ok, Err, Option, Result, ◌==◌}
use Rattle.wording.specs.declared.malformed.Malformed.{Malformed}
use Rattle.wording.specs.declared.malformed.Malformed.TheVariants.{ExtraWord, MissingWord}
use Rattle.wording.specs.Quoting.{unquoted}

-- the bytes before the first s
abbrev pub before : ℕ → List ℕ → List ℕ
before s [] = []
before s (b ∷ bs) = cond (b == s) [] (b ∷ before s bs)

-- the bytes behind the first s, if there is one
abbrev pub behind : ℕ → List ℕ → Option (List ℕ)
behind s [] = None
behind s (b ∷ bs) = cond (b == s) (Some bs) (behind s bs)

-- a word has a byte at least
abbrev pub filled : List ℕ → Result (List ℕ) Malformed
filled [] = Err MissingWord
filled (b ∷ bs) = Ok (b ∷ bs)

-- the next word of what is left of a line, where none is left behind the last word
abbrev pub next_word : Option (List ℕ) → Result (List ℕ) Malformed
next_word None = Err MissingWord
next_word (Some rest) = filled (before 32 rest)

-- what is left behind it
abbrev pub after_word : Option (List ℕ) → Option (List ℕ)
after_word None = None
after_word (Some rest) = behind 32 rest

-- a line ends behind its last word
abbrev pub at_end : Option (List ℕ) → Result (Unit {0}) Malformed
at_end None = Ok tt
at_end (Some rest) = Err ExtraWord

-- the text that all that is left of a line writes
abbrev pub text_in : Option (List ℕ) → Option (List ℕ)
text_in None = None
text_in (Some rest) = unquoted rest
