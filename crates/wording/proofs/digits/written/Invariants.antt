use Rattle.std.proofs.Common.{◌≡◌, ◌^◌, ◌<◌, take}
use Rattle.std.specs.Str.Parse.{AllDigits, digits_value}
use Rattle.wording.proofs.digits.written.Given as goal

-- the bytes so far are digits, and this is their number
abbrev pub invariant-loop-byte : goal.invariant-loop-byte
invariant-loop-byte l = AllDigits l.radix (take l.byte-index l.digits) × (l.number < 2 ^ 64) × (l.number ≡ digits_value l.radix (take l.byte-index l.digits))
