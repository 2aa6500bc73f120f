use Rattle.std.proofs.Common.{rules, ◌≡◌, ℕ, Bool, true, false, cond, List, [], ◌∷◌, map, fold, filter, refl, ap, ◌∙◌}
use lib.Bits.{bit_or}
use Rattle.ei.specs.Capabilities.{mask_at, member, every_capability}
use Rattle.ei.proofs.capability.CapabilityMap.mask_of.Goals as goal

-- a fold whose steps pass over what fails the test
module _ {X : Type 0} (p : X → Bool) (f : X → ℕ) where
  abbrev step : ℕ → X → ℕ
  step j x = cond (p x) (bit_or j (f x)) j

  folded : (a : ℕ) (xs : List X) → fold step a xs ≡ fold bit_or a (map f (filter p xs))
  folded a [] = refl
  folded a (x ∷ xs) = elim (p x) as (λ b. fold step (cond b (bit_or a (f x)) a) xs ≡ fold bit_or a (map f (cond b (x ∷ filter p xs) (filter p xs)))) [ true ↦ folded (bit_or a (f x)) xs | false ↦ folded a xs ]

pub returns : goal.returns
returns c =
    let run = c.fold.ensures.runs in
    let p = member c.args.wanted.bits in
    let f = mask_at c.args.self.now in
    run.3 (λ j x. step p f j x.now) (λ j x r q k. search rules) ∙ ((c.iter.ensures.runs run.0 run.0.seen).5 (step p f) 0 run.2 ∙ (ap (λ s. fold (step p f) 0 s.rest.now) run.1 ∙ (ap (fold (step p f) 0) c.iter.ensures.rest ∙ folded p f 0 every_capability)))
