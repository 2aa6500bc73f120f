-- What was quoted is read back.
use Rattle.std.proofs.Common.{◌≡◌, ℕ, ◌+◌, ◌*◌, ◌/◌, ◌%◌, ◌<◌, ◌≤◌, eqb, ltb, List, [], ◌∷◌, ◌++◌, Some, Option, sym, refl, ap, ◌∙◌, subst, ⊎_elim, append_assoc, div-add-mod', arith}
use Rattle.std.proofs.lemmas.Bool.{cases_eq, cases_lt, cond-true, cond-false, ne_eqb, lt-ltb}
use Rattle.std.proofs.lemmas.Str.{digit_value-digit_char}
use Rattle.std.proofs.lemmas.Bool.Decides.{nat_tests}
use Rattle.std.specs.Option.{option_map}
use Rattle.std.specs.Char.{digit_char, digit_value}
use Rattle.wording.specs.declared.quote.Place.TheVariants.{Between}
use Rattle.wording.specs.declared.quote.Step.{Step}
use Rattle.wording.specs.Quoting.{hex_byte, quoted_byte, quoted_bytes, hex_pair, completes, onward, unquoted_from, ReadBack}
use Rattle.wording.proofs.Quoting.{ahead, read_on}

-- the reading of the bytes behind one that is complete
abbrev back : ℕ → List ℕ → Type 0
back b rest = unquoted_from Between (quoted_byte b ++ rest) ≡ ahead (b ∷ []) (unquoted_from Between rest)

plain_back : (b : ℕ) (rest : List ℕ) → quoted_byte b ≡ b ∷ [] → (b ≡ 34 → ⊥) → (b ≡ 92 → ⊥) → back b rest
plain_back b rest q m n =
    ap (λ (l : List ℕ). unquoted_from Between (l ++ rest)) q ∙ ap (λ (o : Option Step). onward o (λ p. unquoted_from p rest)) (cond-false (eqb b 34) _ _ (ne_eqb b 34 m) ∙ cond-false (eqb b 92) _ _ (ne_eqb b 92 n))

-- a pair of hex digits, by their values
pair_of : (h l m n : ℕ) → digit_value h ≡ m → digit_value l ≡ n → m < 16 → n < 16 → hex_pair h l ≡ Some (m * 16 + n)
pair_of h l m n e f small little =
    cond-true (ltb (digit_value h) 16) _ _ (lt-ltb (digit_value h) 16 (subst (λ (x : ℕ). x < 16) (sym e) small)) ∙ (cond-true (ltb (digit_value l) 16) _ _ (lt-ltb (digit_value l) 16 (subst (λ (x : ℕ). x < 16) (sym f) little)) ∙ (λ i. Some (e i * 16 + f i)))

pair_back : (b : ℕ) → b < 256 → hex_pair (digit_char (b / 16)) (digit_char (b % 16)) ≡ Some b
pair_back b h =
    let high : b / 16 < 16 = omega arith in
    let low : b % 16 < 16 = omega arith in
    pair_of (digit_char (b / 16)) (digit_char (b % 16)) (b / 16) (b % 16) (digit_value-digit_char (b / 16) (omega arith)) (digit_value-digit_char (b % 16) (omega arith)) high low ∙ ap Some (div-add-mod' b 16)

hex_back : (b : ℕ) (rest : List ℕ) → quoted_byte b ≡ 92 ∷ (120 ∷ hex_byte b) → b < 256 → back b rest
hex_back b rest q h =
    ap (λ (l : List ℕ). unquoted_from Between (l ++ rest)) q ∙ (nothing _ ∙ (nothing _ ∙ (nothing _ ∙ ap (λ (o : Option ℕ). onward (option_map completes o) (λ p. unquoted_from p rest)) (pair_back b h))))
  where
    nothing : (o : Option (List ℕ)) → ahead [] o ≡ o
    nothing o = read_on [] refl o

byte_back : (b : ℕ) (rest : List ℕ) → b < 256 → back b rest
byte_back b rest h =
    ⊎_elim
    (λ (e : b ≡ 34). subst (λ (x : ℕ). back x rest) (sym e) (read_on [] refl _))
    (λ m. ⊎_elim
    (λ (e : b ≡ 92). subst (λ (x : ℕ). back x rest) (sym e) (read_on [] refl _))
    (λ n. ⊎_elim
    (λ (low : b < 32). hex_back b rest (grind (arith, nat_tests)) h)
    (λ (high : 32 ≤ b). ⊎_elim
    (λ (in_print : b < 127). plain_back b rest (grind (arith, nat_tests)) m n)
    (λ (past : 127 ≤ b). hex_back b rest (grind (arith, nat_tests)) h)
    (cases_lt b 127))
    (cases_lt b 32))
    (cases_eq b 92))
    (cases_eq b 34)

pub read_back : ReadBack
read_back [] a = refl
read_back (b ∷ bs) a =
    ap (unquoted_from Between) (append_assoc (quoted_byte b) (quoted_bytes bs) (34 ∷ [])) ∙ (byte_back b (quoted_bytes bs ++ (34 ∷ [])) a.0 ∙ ap (ahead (b ∷ [])) (read_back bs a.1))
