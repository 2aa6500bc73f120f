-- Bounded texts, by the bytes that they hold.
use Rattle.std.specs.Prelude.{◌≡◌, ℕ, ◌-◌, ◌<◌, ◌≤◌, min, List, ◌++◌, length, take, replicate, slice_index, refl}
use Rattle.std.proofs.Common.{⊎_elim, ◌∙◌, arith}
use Rattle.std.proofs.lemmas.List.{length-take-le, length-append, length-replicate, get_or_past, get_or-append_right, get_or-replicate, get_or-take}
use Rattle.std.proofs.lemmas.Bool.{cases_lt}
use Rattle.ei.specs.declared.text.Text.{Text}

-- what is read of a text
abbrev pub text_bytes : Text → List ℕ
text_bytes t = take t.len t.bytes

-- the first n of some bytes with zeros behind them
unfoldable pub padded : ℕ → List ℕ → List ℕ
padded n bs = take n (bs ++ replicate n 0)

enough : (n : ℕ) (bs : List ℕ) → n ≤ length (bs ++ replicate n 0)
enough n bs = omega (arith, length-append bs (replicate n 0), length-replicate {A = ℕ} n 0)

pub padded_long : (n : ℕ) (bs : List ℕ) → length (padded n bs) ≡ n
unfolding padded
padded_long n bs = length-take-le n (bs ++ replicate n 0) (enough n bs)

pub padded_blank : (n : ℕ) (bs : List ℕ) (k : ℕ) → min (length bs) n ≤ k → slice_index (padded n bs) k ≡ 0
unfolding padded
padded_blank n bs k h =
    ⊎_elim
    (λ (lt : k < n). get_or-take n (bs ++ replicate n 0) k 0 lt ∙ (get_or-append_right bs (replicate n 0) (length bs) k 0 refl (omega arith) ∙ get_or-replicate n (k - length bs) 0 0 (omega arith)))
    (λ (ge : n ≤ k). get_or_past (take n (bs ++ replicate n 0)) k 0 (omega (arith, padded_long n bs)))
    (cases_lt k n)

-- the text of these bytes; of more than 128 it has the first 128
unfoldable pub text_of : List ℕ → Text
text_of bs = record { bytes = padded 128 bs; len = min (length bs) 128; long = padded_long 128 bs; fits = omega arith; blank = padded_blank 128 bs }

-- a text is read as it was made
abbrev pub ReadAsMade : Type 0
ReadAsMade = (bs : List ℕ) → length bs ≤ 128 → text_bytes (text_of bs) ≡ bs

-- a text is made anew from what is read of it, so two texts of the same bytes are the same
abbrev pub MadeAsRead : Type 0
MadeAsRead = (t : Text) → text_of (text_bytes t) ≡ t
