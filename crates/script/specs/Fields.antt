-- What is read from the words of a line: what was left of it, the answer, and what is left then.
use Rattle.std.specs.Prelude.{◌≡◌, ℕ, ◌^◌, ◌≤◌, List, ℤ, Float, Ok, Err, Option, Result, ◌≢◌, MatchOption, MatchResult}
use Rattle.ei.specs.Capabilities.{interface_name}
use Rattle.ei.specs.declared.capability.DeviceCapability.{DeviceCapability}
use Rattle.ei.specs.declared.enums.NoSuchCase.{NoSuchCase}
use Rattle.ei.specs.declared.set.CapabilitySet.{CapabilitySet}
use Rattle.script.specs.declared.fields.Case.{Case}
use Rattle.wording.specs.Numbers.{integer_read, number_read, ReadsFloat}
use Rattle.wording.specs.Words.{after_word, next_word}
use Rattle.wording.specs.declared.malformed.Malformed.{Malformed}
use Rattle.wording.specs.declared.malformed.Malformed.TheVariants.{NotInTable}

-- a word is read, if there is one
abbrev pub ReadsNext : {A : Type 0} → (List ℕ → Result A Malformed → Type 0) → Result (List ℕ) Malformed → Result A Malformed → Type 0
ReadsNext reads (Ok w) r = reads w r
ReadsNext reads (Err e) r = r ≡ Err e

-- a value that takes one word
abbrev pub ReadsWord : {A : Type 0} → (List ℕ → Result A Malformed → Type 0) → Option (List ℕ) → Result A Malformed → Option (List ℕ) → Type 0
ReadsWord reads l r m = ReadsNext reads (next_word l) r × (m ≡ after_word l)

-- a decimal number of so many bits
abbrev pub ReadsNumber : ℕ → Option (List ℕ) → Result ℕ Malformed → Option (List ℕ) → Type 0
ReadsNumber bits l r m = ReadsWord (λ w q. q ≡ number_read bits w) l r m

abbrev pub ReadsInteger : Option (List ℕ) → Result ℤ Malformed → Option (List ℕ) → Type 0
ReadsInteger l r m = ReadsWord (λ w q. q ≡ integer_read w) l r m

abbrev pub ReadsFloats : Option (List ℕ) → Result Float Malformed → Option (List ℕ) → Type 0
ReadsFloats l r m = ReadsWord ReadsFloat l r m

-- a case of an enum, by its number; a number that no case has is refused
abbrev pub ReadsNumbered : {N : Type 0} → (ℕ → Result N NoSuchCase → Type 0) → List ℕ → Result (Case N) Malformed → Type 0
ReadsNumbered gives w (Ok c) = (n : ℕ) × (number_read 32 w ≡ Ok n) × gives n (Ok c.0)
ReadsNumbered gives w (Err e) = MatchResult (number_read 32 w) (λ n. (e ≡ NotInTable) × (d : NoSuchCase) × gives n (Err d)) (λ d. e ≡ d)

abbrev pub ReadsCase : {N : Type 0} → (ℕ → Result N NoSuchCase → Type 0) → Option (List ℕ) → Result (Case N) Malformed → Option (List ℕ) → Type 0
ReadsCase gives l r m = ReadsWord (ReadsNumbered gives) l r m

-- a capability, by the name of its interface; none for a name that no interface has
abbrev pub ReadsNamed : List ℕ → Result (Option DeviceCapability) Malformed → Type 0
ReadsNamed w (Ok o) = MatchOption o ((c : DeviceCapability) → w ≢ interface_name c) (λ c. w ≡ interface_name c)
ReadsNamed w (Err e) = ⊥

abbrev pub ReadsInterface : Option (List ℕ) → Result (Option DeviceCapability) Malformed → Option (List ℕ) → Type 0
ReadsInterface l r m = ReadsWord ReadsNamed l r m

-- a set of capabilities is a number of seven bits
abbrev pub ReadsSet : List ℕ → Result CapabilitySet Malformed → Type 0
ReadsSet w (Ok s) = number_read 64 w ≡ Ok s.bits
ReadsSet w (Err e) = MatchResult (number_read 64 w) (λ n. (2 ^ 7 ≤ n) × (e ≡ NotInTable)) (λ d. e ≡ d)

-- two values that are read, one after the other
abbrev pub ReadsPair : {A B : Type 0} → (Option (List ℕ) → Result A Malformed → Option (List ℕ) → Type 0) → (Option (List ℕ) → Result B Malformed → Option (List ℕ) → Type 0) → Option (List ℕ) → A → B → Option (List ℕ) → Type 0
ReadsPair first second l a b m = (k : Option (List ℕ)) × first l (Ok a) k × second k (Ok b) m

abbrev pub ReadsTriple : {A B C : Type 0} → (Option (List ℕ) → Result A Malformed → Option (List ℕ) → Type 0) → (Option (List ℕ) → Result B Malformed → Option (List ℕ) → Type 0) → (Option (List ℕ) → Result C Malformed → Option (List ℕ) → Type 0) → Option (List ℕ) → A → B → C → Option (List ℕ) → Type 0
ReadsTriple first second third l a b c m = (k : Option (List ℕ)) × ReadsPair first second l a b k × third k (Ok c) m
