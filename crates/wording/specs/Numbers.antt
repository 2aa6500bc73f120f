-- Words that write numbers.
use Rattle.std.specs.Prelude.{◌≡◌, ℕ, ◌-◌, ◌^◌, Bool, cond, ◌&&◌, List, length, take, drop, ℤ, pos, negsuc, neg_ℤ, Some, None, Ok, Err, codes, Option, Result, from_bits, int_le, int_lt, nat_lt, Float}
use Rattle.std.specs.Float.{binary32}
use Rattle.std.specs.Option.{ok_or}
use Rattle.std.specs.Str.Parse.{AllDigits, starts_with_minus, digits_value}
use Rattle.std.specs.Str.{all_ascii_digits}
use Rattle.wording.specs.declared.malformed.Malformed.{Malformed}
use Rattle.wording.specs.declared.malformed.Malformed.TheVariants.{NotAFloat, NotANumber, OutOfRange}

-- one decimal digit or more
abbrev pub numeral : List ℕ → Bool
numeral w = nat_lt 0 (length w) && all_ascii_digits w

-- a number of so many bits, if it has no more
abbrev pub narrowed : ℕ → ℕ → Option ℕ
narrowed bits n = cond (nat_lt n (2 ^ bits)) (Some n) None

-- what a word is read as, where a decimal number of so many bits is wanted
abbrev pub number_read : ℕ → List ℕ → Result ℕ Malformed
number_read bits w = cond (numeral w) (ok_or (narrowed bits (digits_value 10 w)) OutOfRange) (Err NotANumber)

-- a number as one of 32 bits with a sign, if it is one
abbrev pub integer_within : ℤ → Result ℤ Malformed
integer_within z = cond (int_le (negsuc (2 ^ 31 - 1)) z && int_lt z (pos (2 ^ 31))) (Ok z) (Err OutOfRange)

-- a number read, with its sign, as one of 32 bits
abbrev pub with_sign : (ℕ → ℤ) → Result ℕ Malformed → Result ℤ Malformed
with_sign sign (Ok n) = integer_within (sign n)
with_sign sign (Err e) = Err e

-- what a word is read as, where a number of 32 bits with a sign is wanted
abbrev pub integer_read : List ℕ → Result ℤ Malformed
integer_read w = cond (starts_with_minus w) (with_sign (λ n. neg_ℤ (pos n)) (number_read 64 (drop 1 w))) (with_sign (λ n. pos n) (number_read 64 w))

-- the word of a float: 0x and eight hex digits
abbrev pub FloatWord : List ℕ → Type 0
FloatWord w = (take 2 w ≡ codes "0x") × (length (drop 2 w) ≡ 8) × AllDigits 16 (drop 2 w)

-- what a word is read as, where a float is wanted
abbrev pub ReadsFloat : List ℕ → Result Float Malformed → Type 0
ReadsFloat w (Ok x) = FloatWord w × (x ≡ from_bits binary32 (digits_value 16 (drop 2 w)))
ReadsFloat w (Err e) = (FloatWord w → ⊥) × (e ≡ NotAFloat)
