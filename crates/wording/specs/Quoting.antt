-- How a text is written in quotes, and read back.
use Rattle.std.specs.Prelude.{◌≡◌, ℕ, ◌+◌, ◌*◌, ◌/◌, ◌%◌, ◌<◌, cond, ◌⊎◌, List, [], ◌∷◌, ◌++◌, Some, None, Ok, Err, Option, Result, ◌==◌, nat_le, nat_lt}
use Rattle.std.specs.Option.{option_map, option_to_list}
use Rattle.std.specs.Char.{digit_char, digit_value}
use Rattle.std.specs.List.{AllByRecursion}
use Rattle.wording.specs.declared.malformed.Malformed.{Malformed}
use Rattle.wording.specs.declared.malformed.Malformed.TheVariants.{BadText, NoMemory}
use Rattle.wording.specs.declared.quote.Place.{Place}
use Rattle.wording.specs.declared.quote.Place.TheVariants.{Between, Escape, High, Low, Closed}
use Rattle.wording.specs.declared.quote.Step.{Step}

-- the two small hex digits of a byte
abbrev pub hex_byte : ℕ → List ℕ
hex_byte b = digit_char (b / 16) ∷ (digit_char (b % 16) ∷ [])

-- a byte from the space to the tilde as it is; any other as a backslash, an x and its hex digits
abbrev pub printed : ℕ → List ℕ
printed b = cond (nat_le 32 b) (cond (nat_le b 126) (b ∷ []) (92 ∷ (120 ∷ hex_byte b))) (92 ∷ (120 ∷ hex_byte b))

-- a quote and a backslash have a backslash in front
abbrev pub quoted_byte : ℕ → List ℕ
quoted_byte b = cond (b == 34) (92 ∷ (b ∷ [])) (cond (b == 92) (92 ∷ (b ∷ [])) (printed b))

abbrev pub quoted_bytes : List ℕ → List ℕ
quoted_bytes [] = []
quoted_bytes (b ∷ bs) = quoted_byte b ++ quoted_bytes bs

abbrev pub quoted : List ℕ → List ℕ
quoted bs = 34 ∷ (quoted_bytes bs ++ (34 ∷ []))

-- the byte that two hex digits write
abbrev pub hex_pair : ℕ → ℕ → Option ℕ
hex_pair h l = cond (nat_lt (digit_value h) 16) (cond (nat_lt (digit_value l) 16) (Some (digit_value h * 16 + digit_value l)) None) None

abbrev pub goes : Place → Option ℕ → Option Step
goes p d = Some (record { next = p; done = d })

-- a byte of the text is complete
abbrev pub completes : ℕ → Step
completes b = record { next = Between; done = Some b }

-- what one more byte does to the reading of a text
abbrev pub step_of : Place → ℕ → Option Step
step_of Between b = cond (b == 34) (goes Closed None) (cond (b == 92) (goes Escape None) (goes Between (Some b)))
step_of Escape b = cond (b == 34) (goes Between (Some b)) (cond (b == 92) (goes Between (Some b)) (cond (b == 120) (goes High None) None))
step_of High b = goes (Low b) None
step_of (Low h) b = option_map completes (hex_pair h b)
step_of Closed b = None

-- a text ends with its closing quote
abbrev pub ended : Place → Option (List ℕ)
ended Between = None
ended Escape = None
ended High = None
ended (Low h) = None
ended Closed = Some []

abbrev pub onward : Option Step → (Place → Option (List ℕ)) → Option (List ℕ)
onward None k = None
onward (Some s) k = option_map (λ t. option_to_list s.done ++ t) (k s.next)

-- what is still to come of a text, from a place in its writing
abbrev pub unquoted_from : Place → List ℕ → Option (List ℕ)
unquoted_from p [] = ended p
unquoted_from p (b ∷ bs) = onward (step_of p b) (λ q. unquoted_from q bs)

-- the text that a quoted text writes, if it is one
abbrev pub unquoted : List ℕ → Option (List ℕ)
unquoted [] = None
unquoted (b ∷ bs) = cond (b == 34) (unquoted_from Between bs) None

-- what reading a text answers, and what it leaves in its buffer
abbrev pub ReadsAs : Option (List ℕ) → Result (Unit {0}) Malformed → List ℕ → Type 0
ReadsAs o (Ok u) t = o ≡ Some t
ReadsAs o (Err e) t = (e ≡ NoMemory) ⊎ ((e ≡ BadText) × (o ≡ None))

-- what was quoted is read back
abbrev pub ReadBack : Type 0
ReadBack = (bs : List ℕ) → AllByRecursion (λ b. b < 256) bs → unquoted (quoted bs) ≡ Some bs
