-- A filter over a filter.
use Rattle.std.proofs.Common.{◌≡◌, Bool, true, false, cond, List, [], ◌∷◌, filter, sym, refl, ap, ◌∙◌, ⊎_elim}
use Rattle.std.proofs.lemmas.Bool.{cases_Bool, cond-true, cond-false, both_ways}

module _ {X : Type 0} (p : X → Bool) where
  pub kept_yes : (x : X) (xs : List X) → p x ≡ true → filter p (x ∷ xs) ≡ x ∷ filter p xs
  kept_yes x xs t = cond-true (p x) _ _ t

  pub kept_no : (x : X) (xs : List X) → p x ≡ false → filter p (x ∷ xs) ≡ filter p xs
  kept_no x xs t = cond-false (p x) _ _ t

module _ {X : Type 0} (p q : X → Bool) where
  -- what passes p passes q
  pub kept_kept : ((x : X) → p x ≡ true → q x ≡ true) → (xs : List X) → filter p (filter q xs) ≡ filter p xs
  kept_kept h [] = refl
  kept_kept h (x ∷ xs) =
      ⊎_elim
      (λ t. ap (filter p) (kept_yes q x xs t) ∙ ap (λ l. cond (p x) (x ∷ l) l) (kept_kept h xs))
      (λ t. ap (filter p) (kept_no q x xs t) ∙ (kept_kept h xs ∙ sym (kept_no p x xs (⊎_elim (λ u. absurd (both_ways (q x) t (h x u))) (λ u. u) (cases_Bool (p x))))))
      (cases_Bool (q x))

  -- what passes q does not pass p
  pub kept_none : ((x : X) → q x ≡ true → p x ≡ false) → (xs : List X) → filter p (filter q xs) ≡ []
  kept_none h [] = refl
  kept_none h (x ∷ xs) =
      ⊎_elim
      (λ t. ap (filter p) (kept_yes q x xs t) ∙ (kept_no p x (filter q xs) (h x t) ∙ kept_none h xs))
      (λ t. ap (filter p) (kept_no q x xs t) ∙ kept_none h xs)
      (cases_Bool (q x))

  -- q passes what p does not, and none passes p
  pub kept_all : ((x : X) → p x ≡ false → q x ≡ true) → (xs : List X) → filter p xs ≡ [] → filter q xs ≡ xs
  kept_all h [] e = refl
  kept_all h (x ∷ xs) e =
      ⊎_elim
      (λ t. cc (kept_yes p x xs t))
      (λ t. kept_yes q x xs (h x t) ∙ ap (λ l. x ∷ l) (kept_all h xs (sym (kept_no p x xs t) ∙ e)))
      (cases_Bool (p x))
