-- Words of digits, and the numbers that they write.
use Rattle.std.proofs.Common.{⊎_elim, ◌&&◌, ◌≡◌, ℕ, zero, suc, ◌+◌, ◌*◌, ◌^◌, ◌<◌, ◌≤◌, true, List, [], ◌∷◌, length, get_or, take, Some, None, Option, refl, sym, ap, ◌∙◌, arith}
use Rattle.std.proofs.lemmas.Bool.{cases_lt}
use Rattle.std.proofs.lemmas.Bool.Decides.{nat_tests}
use Rattle.std.proofs.lemmas.Int.Digits.{digits_value-lt, digits_value_more}
use Rattle.std.proofs.lemmas.Str.Parse.{IsNumeralModel, numerals_by_value, tells_all_ascii_digits, digits_value-take-le}
use Rattle.std.specs.Char.{digit_value, is_ascii_digit}
use Rattle.std.specs.List.{list_all}
use Rattle.std.specs.Option.{SomeIff, ok_or}
use Rattle.std.specs.Str.{all_ascii_digits}
use Rattle.std.specs.Str.Parse.{AllDigits, digits_value}
use Rattle.wording.specs.Numbers.{number_read}
use Rattle.wording.specs.declared.malformed.Malformed.TheVariants.{OutOfRange}

own : IsNumeralModel (λ ds. all_ascii_digits ds ≡ true) (digits_value 10)
own = numerals_by_value _ tells_all_ascii_digits

pub all_digits : (bs : List ℕ) → list_all is_ascii_digit bs ≡ all_ascii_digits bs
all_digits [] = refl
all_digits (c ∷ cs) = ap (λ b. is_ascii_digit c && b) (all_digits cs)

-- each of some digits is one
pub digit_among : (radix : ℕ) (ds : List ℕ) (i : ℕ) → AllDigits radix ds → i < length ds → digit_value (get_or ds i 0) < radix
digit_among radix [] i d h = absurd (omega arith)
digit_among radix (c ∷ cs) zero d h = d.0
digit_among radix (c ∷ cs) (suc i) d h = digit_among radix cs i d.1 (omega arith)

-- the first digits, read so far as n, and the next one write no more than all
pub front_fits : (radix : ℕ) (ds : List ℕ) (i n : ℕ) → 1 ≤ radix → i < length ds → n ≡ digits_value radix (take i ds) → n * radix + digit_value (get_or ds i 0) ≤ digits_value radix ds
front_fits radix ds i n one h e = rw e (omega (arith, digits_value_more radix ds i h, digits_value-take-le radix ds (i + 1) one))

-- a word of decimal digits, as it is read
pub number_written : (w : List ℕ) (r : Option ℕ) → 0 < length w → list_all is_ascii_digit w ≡ true → SomeIff r (AllDigits 10 w × (digits_value 10 w < 2 ^ 64)) (digits_value 10 w) → ok_or r OutOfRange ≡ number_read 64 w
number_written w (Some x) some t h = let n = sym (all_digits w) ∙ t in grind (arith, nat_tests, some, n, h.0.1, h.1)
number_written w None some t h =
    let n = sym (all_digits w) ∙ t in
    let large : 2 ^ 64 ≤ digits_value 10 w = ⊎_elim (λ lt. absurd (h (own.to w n, lt))) (λ le. le) (cases_lt (digits_value 10 w) (2 ^ 64)) in
    grind (arith, nat_tests, some, n, large)

-- eight hex digits write a number of 32 bits
pub hex_small : (ds : List ℕ) → length ds ≡ 8 → AllDigits 16 ds → digits_value 16 ds < 2 ^ 32
hex_small ds e d = omega (arith, digits_value-lt 16 ds d, ap (λ n. 16 ^ n) e)
