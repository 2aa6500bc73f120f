-- The eight hex digits of 32 bits, as the library pads and writes them.
use Rattle.std.proofs.Common.{◌≡◌, ℕ, zero, suc, ◌+◌, ◌-◌, ◌/◌, ◌%◌, ◌^◌, ◌<◌, ◌≤◌, false, eqb, List, [], ◌∷◌, ◌++◌, length, replicate, sym, refl, ap, ◌∙◌, subst, ⊎_elim, append-nil, arith}
use Rattle.std.proofs.lemmas.Bool.{cond-true, cond-false, eq-eqb, ne_eqb, cases_lt}
use Rattle.std.specs.Char.{digit_char}
use Rattle.std.specs.Fmt.{char_count, digit_glyph, digits, digits_onto, format_spec, padded_integral}
use Rattle.showing.specs.Showing.{hex_word}

-- the last k hex digits of a number, before some text
abbrev low : ℕ → ℕ → List ℕ → List ℕ
low zero n acc = acc
low (suc k) n acc = low k (n / 16) (digit_glyph false (n % 16) ∷ acc)

zeros_shift : (k : ℕ) (acc : List ℕ) → replicate k 48 ++ (48 ∷ acc) ≡ 48 ∷ (replicate k 48 ++ acc)
zeros_shift zero acc = refl
zeros_shift (suc k) acc = ap (λ l. 48 ∷ l) (zeros_shift k acc)

zeros : (k : ℕ) (acc : List ℕ) → replicate k 48 ++ acc ≡ low k 0 acc
zeros zero acc = refl
zeros (suc k) acc = sym (zeros_shift k acc) ∙ zeros k (48 ∷ acc)

-- these digits, and zeros in front, are the last k digits
abbrev Padded : ℕ → List ℕ → ℕ → List ℕ → Type 0
Padded k ds n acc = (m : ℕ) × (m + length ds ≡ k + length acc) × (replicate m 48 ++ ds ≡ low k n acc)

padded_last : (k f n : ℕ) (acc : List ℕ) → n < 16 → Padded (suc k) (digits_onto (suc f) 16 false n acc) n acc
padded_last k f n acc h =
    let none : n / 16 ≡ 0 = omega arith in
    subst (λ ds. Padded (suc k) ds n acc) (sym (cond-true (eqb (n / 16) 0) _ _ (eq-eqb (n / 16) 0 none))) (k, omega arith, zeros k (digit_glyph false (n % 16) ∷ acc) ∙ ap (λ m. low k m (digit_glyph false (n % 16) ∷ acc)) (sym none))

padded_onto : (k f n : ℕ) (acc : List ℕ) → n < 16 ^ suc k → k < f → Padded (suc k) (digits_onto f 16 false n acc) n acc
padded_onto k zero n acc h l = absurd (omega arith)
padded_onto zero (suc f) n acc h l = padded_last zero f n acc h
padded_onto (suc k) (suc f) n acc h l =
    ⊎_elim
    (λ (one : n < 16). padded_last (suc k) f n acc one)
    (λ (more : 16 ≤ n).
    let front : n / 16 < 16 ^ suc k = omega arith in
    let room : k < f = omega arith in
    let rest = padded_onto k f (n / 16) (digit_glyph false (n % 16) ∷ acc) front room in
    subst (λ ds. Padded (suc (suc k)) ds n acc) (sym (cond-false (eqb (n / 16) 0) _ _ (ne_eqb (n / 16) 0 (λ e. absurd (omega arith))))) (rest.0, omega (arith, rest.1), rest.2))
    (cases_lt n 16)

low_eight : (n : ℕ) → low 8 n [] ≡ hex_word n
low_eight n =
    let a : n / 16 / 16 / 16 / 16 / 16 / 16 / 16 % 16 ≡ n / 16777216 % 256 / 16 = omega arith in
    let b : n / 16 / 16 / 16 / 16 / 16 / 16 % 16 ≡ n / 16777216 % 256 % 16 = omega arith in
    let c : n / 16 / 16 / 16 / 16 / 16 % 16 ≡ n / 65536 % 256 / 16 = omega arith in
    let d : n / 16 / 16 / 16 / 16 % 16 ≡ n / 65536 % 256 % 16 = omega arith in
    let e : n / 16 / 16 / 16 % 16 ≡ n / 256 % 256 / 16 = omega arith in
    let f : n / 16 / 16 % 16 ≡ n / 256 % 256 % 16 = omega arith in
    let g : n / 16 % 16 ≡ n % 256 / 16 = omega arith in
    let h : n % 16 ≡ n % 256 % 16 = omega arith in
    (λ i. digit_char (a i) ∷ (digit_char (b i) ∷ (digit_char (c i) ∷ (digit_char (d i) ∷ (digit_char (e i) ∷ (digit_char (f i) ∷ (digit_char (g i) ∷ (digit_char (h i) ∷ []))))))))

padded_digits : (n : ℕ) → n < 2 ^ 32 → Padded 8 (digits 16 false n) n []
unfolding digits
padded_digits n h = padded_onto 7 64 n [] h (omega arith)

padded_text : (n : ℕ) (ds : List ℕ) → Padded 8 ds n [] → padded_integral (format_spec 32 0 4 8 (2 ^ 64 - 1)) false [] ds ≡ low 8 n []
unfolding padded_integral char_count
padded_text n ds p =
    let m : 8 - length ds - 0 - 0 ≡ p.0 = omega (arith, p.1) in
    (λ i. replicate (m i) 48 ++ append-nil ds i) ∙ p.2

-- what `{:08x}` writes of 32 bits
pub hex_text : (n : ℕ) → n < 2 ^ 32 → padded_integral (format_spec 32 0 4 8 (2 ^ 64 - 1)) false [] (digits 16 false n) ≡ hex_word n
hex_text n h = padded_text n (digits 16 false n) (padded_digits n h) ∙ low_eight n
