-- Where a line is split: at its first separator.
use Rattle.std.proofs.Common.{◌≡◌, ℕ, ◌+◌, ◌-◌, true, false, cond, eqb, ltb, not, List, [], ◌∷◌, length, take, drop, Some, None, sym, refl, ap, ◌∙◌, arith}
use Rattle.std.proofs.lemmas.Grind.{common_steps}
use Rattle.std.proofs.lemmas.Bool.Decides.{nat_tests}
use Rattle.std.proofs.lemmas.List.{length-drop, take_all}
use Rattle.std.specs.List.{before_first, position, position_or_len}
use Rattle.std.specs.Option.{option_map}
use Rattle.wording.specs.Words.{before, behind}

before_is : (s : ℕ) (bs : List ℕ) → before s bs ≡ before_first (λ b. eqb b s) bs
before_is s [] = refl
before_is s (b ∷ bs) =
    let n = position_or_len (λ x. eqb x s) bs in
    elim (eqb b s) as (λ v. cond v [] (b ∷ before s bs) ≡ take (cond (not v) (1 + n) 0) (b ∷ bs)) [
      | true ↦ refl
      | false ↦ grind (arith, common_steps, before_is s bs)
    ]

behind_is : (s : ℕ) (bs : List ℕ) → behind s bs ≡ option_map (λ i. drop (i + 1) bs) (position (λ b. eqb b s) bs)
behind_is s [] = refl
behind_is s (b ∷ bs) =
    let n = position_or_len (λ x. eqb x s) bs in
    elim (eqb b s) as (λ v. cond v (Some bs) (behind s bs) ≡ option_map (λ i. drop (i + 1) (b ∷ bs)) (cond (ltb (cond (not v) (1 + n) 0) (length (b ∷ bs))) (Some (cond (not v) (1 + n) 0)) None)) [
      | true ↦ grind (arith, common_steps)
      | false ↦ grind (arith, common_steps, behind_is s bs)
    ]

-- the parts at a separator's place
pub front_at : (s i : ℕ) (bs : List ℕ) → position (λ b. eqb b s) bs ≡ Some i → take i bs ≡ before s bs
front_at s i bs e = grind (arith, nat_tests, before_is s bs)

pub back_at : (s i : ℕ) (bs : List ℕ) → position (λ b. eqb b s) bs ≡ Some i → Some (take (length bs - (i + 1)) (drop (i + 1) bs)) ≡ behind s bs
back_at s i bs e =
    ap Some (take_all (length bs - (i + 1)) (drop (i + 1) bs) (omega (arith, length-drop (i + 1) bs))) ∙ sym (behind_is s bs ∙ ap (option_map (λ j. drop (j + 1) bs)) e)

-- and with no separator
pub front_whole : (s : ℕ) (bs : List ℕ) → position (λ b. eqb b s) bs ≡ None → bs ≡ before s bs
front_whole s bs e = grind (arith, common_steps, nat_tests, before_is s bs)

pub back_none : (s : ℕ) (bs : List ℕ) → position (λ b. eqb b s) bs ≡ None → None ≡ behind s bs
back_none s bs e = sym (behind_is s bs ∙ ap (option_map (λ j. drop (j + 1) bs)) e)
