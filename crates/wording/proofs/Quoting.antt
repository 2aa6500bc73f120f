-- What is written of a text, one byte at a time, and how it is read.
use Rattle.std.proofs.Common.{◌≡◌, ℕ, ◌+◌, ◌<◌, List, [], ◌∷◌, ◌++◌, length, get_or, take, Some, None, Option, sym, refl, ap, ◌∙◌, append_assoc, append-nil}
use Rattle.std.proofs.lemmas.List.{take_more}
use Rattle.std.specs.Option.{option_map}
use Rattle.wording.specs.Quoting.{quoted_byte, quoted_bytes}

bytes_append : (xs ys : List ℕ) → quoted_bytes (xs ++ ys) ≡ quoted_bytes xs ++ quoted_bytes ys
bytes_append [] ys = refl
bytes_append (x ∷ xs) ys = ap (λ (l : List ℕ). quoted_byte x ++ l) (bytes_append xs ys) ∙ sym (append_assoc (quoted_byte x) (quoted_bytes xs) (quoted_bytes ys))

-- one byte more is written
pub bytes_more : (bs : List ℕ) (i : ℕ) → i < length bs → quoted_bytes (take i bs) ++ quoted_byte (get_or bs i 0) ≡ quoted_bytes (take (i + 1) bs)
bytes_more bs i h =
    sym (ap quoted_bytes (take_more bs i 0 h) ∙ (bytes_append (take i bs) (get_or bs i 0 ∷ []) ∙ ap (λ (l : List ℕ). quoted_bytes (take i bs) ++ l) (append-nil (quoted_byte (get_or bs i 0)))))

-- some bytes and then a text, if there is one
abbrev pub ahead : List ℕ → Option (List ℕ) → Option (List ℕ)
ahead out o = option_map (λ t. out ++ t) o

pub read_on : (out : List ℕ) → out ≡ [] → (o : Option (List ℕ)) → ahead out o ≡ o
read_on out e None = refl
read_on out e (Some t) = ap (λ (l : List ℕ). Some (l ++ t)) e
