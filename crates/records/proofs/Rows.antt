-- What `first`, `changed` and `without` are at the place that a search found.
use Rattle.std.proofs.Common.{◌≡◌, ℕ, zero, suc, ◌+◌, ◌-◌, ◌<◌, ◌≤◌, Bool, true, false, cond, ltb, List, [], ◌∷◌, length, get_or, take, drop, set, is_some, Some, None, Option, sym, refl, ap, ◌∙◌, suc-le-suc, zero-le, arith, MatchOption, length-drop, subst, Bor}
use Rattle.std.specs.List.{AllWithin, HoldsAt, remove}
use Rattle.std.specs.Option.{option_map}
use Rattle.std.specs.Slice.{IsItemAt}
use Rattle.std.proofs.lemmas.List.{take_all, get_or-drop}
use Rattle.std.proofs.lemmas.Bool.{cond-true, cond-false, lt-ltb, ltb-true, not-false}
use Rattle.records.specs.Rows.{Finds, first, any, no_row_for, changed, without, changed_at}

module _ {X : Type 0} (p : X → Bool) where
  -- what holds of each up to a place holds of the first, and of each of the others
  pub head_passed : (x : X) (xs : List X) (n : ℕ) → AllWithin (λ y. p y ≡ false) (x ∷ xs) 0 (suc n) → p x ≡ false
  head_passed x xs n e = e 0 x (zero-le) (omega arith)

  pub tail_passed : (x : X) (xs : List X) (n : ℕ) → AllWithin (λ y. p y ≡ false) (x ∷ xs) 0 (suc n) → AllWithin (λ y. p y ≡ false) xs 0 n
  tail_passed x xs n e k d low high = e (suc k) d zero-le (suc-le-suc high)

  pub first_none : (xs : List X) → AllWithin (λ y. p y ≡ false) xs 0 (length xs) → first p xs ≡ None
  first_none [] e = refl
  first_none (x ∷ xs) e = cond-false (p x) _ _ (head_passed x xs (length xs) e) ∙ first_none xs (tail_passed x xs (length xs) e)

  pub changed_none : (f : X → X) (xs : List X) → AllWithin (λ y. p y ≡ false) xs 0 (length xs) → changed p f xs ≡ xs
  changed_none f [] e = refl
  changed_none f (x ∷ xs) e = cond-false (p x) _ _ (head_passed x xs (length xs) e) ∙ ap (λ l. x ∷ l) (changed_none f xs (tail_passed x xs (length xs) e))

  pub without_none : (xs : List X) → AllWithin (λ y. p y ≡ false) xs 0 (length xs) → without p xs ≡ xs
  without_none [] e = refl
  without_none (x ∷ xs) e = cond-false (p x) _ _ (head_passed x xs (length xs) e) ∙ ap (λ l. x ∷ l) (without_none xs (tail_passed x xs (length xs) e))

  next_found : (x : X) (xs : List X) (i : ℕ) → Finds p (x ∷ xs) 0 (Some (suc i)) → Finds p xs 0 (Some i)
  next_found x xs i f = (zero-le, omega arith, f.2, tail_passed x xs i f.3)

  pub first_found : (xs : List X) (i : ℕ) (d : X) → Finds p xs 0 (Some i) → first p xs ≡ Some (get_or xs i d)
  first_found [] i d f = absurd (omega (arith, f.1))
  first_found (x ∷ xs) zero d f = cond-true (p x) _ _ (f.2 d)
  first_found (x ∷ xs) (suc i) d f = cond-false (p x) _ _ (head_passed x xs i f.3) ∙ first_found xs i d (next_found x xs i f)

  -- what a read at the place of a search gives
  pub first_read : (xs ys : List X) (place : Option ℕ) (i : ℕ) (r : Option (Bor X)) → ys ≡ xs → place ≡ Some i → IsItemAt ys i r → Finds p xs 0 place → option_map (λ x. x.now) r ≡ first p xs
  first_read xs ys place i r e w h f = at r (subst (λ (l : List X). IsItemAt l i r) e h) (subst (λ (o : Option ℕ). Finds p xs 0 o) w f)
    where
      at : (r : Option (Bor X)) → IsItemAt xs i r → Finds p xs 0 (Some i) → option_map (λ x. x.now) r ≡ first p xs
      at None h f = absurd (omega (arith, h.3, f.1))
      at (Some x) h f = ap Some h.1 ∙ sym (first_found xs i x.now f)

  pub changed_found : (f : X → X) (xs : List X) (i : ℕ) (d : X) → Finds p xs 0 (Some i) → changed p f xs ≡ set xs i (f (get_or xs i d))
  changed_found f [] i d s = absurd (omega (arith, s.1))
  changed_found f (x ∷ xs) zero d s = cond-true (p x) _ _ (s.2 d)
  changed_found f (x ∷ xs) (suc i) d s = cond-false (p x) _ _ (head_passed x xs i s.3) ∙ ap (λ l. x ∷ l) (changed_found f xs i d (next_found x xs i s))

  pub without_found : (xs : List X) (i : ℕ) → Finds p xs 0 (Some i) → without p xs ≡ remove xs i
  without_found [] i s = absurd (omega (arith, s.1))
  without_found (x ∷ xs) zero s = cond-true (p x) _ _ (s.2 x)
  without_found (x ∷ xs) (suc i) s = cond-false (p x) _ _ (head_passed x xs i s.3) ∙ ap (λ l. x ∷ l) (without_found xs i (next_found x xs i s))

module _ {X : Type 0} (f : X → X) where
  pub changed_at_within : (xs : List X) (i : ℕ) (d : X) → i < length xs → changed_at i f xs ≡ set xs i (f (get_or xs i d))
  changed_at_within [] i d h = absurd (omega arith)
  changed_at_within (x ∷ xs) zero d h = refl
  changed_at_within (x ∷ xs) (suc i) d h = ap (λ l. x ∷ l) (changed_at_within xs i d (omega arith))

  -- a step of the element that was read at a place
  pub changed_at_read : (xs : List X) (i : ℕ) (x y : X) → i < length xs → x ≡ get_or xs i x → y ≡ f x → set xs i y ≡ changed_at i f xs
  changed_at_read xs i x y h e s = ap (set xs i) (s ∙ ap f e) ∙ sym (changed_at_within xs i x h)

  pub changed_at_past : (xs : List X) (i : ℕ) → length xs ≤ i → changed_at i f xs ≡ xs
  changed_at_past [] i h = refl
  changed_at_past (x ∷ xs) zero h = absurd (omega arith)
  changed_at_past (x ∷ xs) (suc i) h = ap (λ l. x ∷ l) (changed_at_past xs i (omega arith))

module _ {X : Type 0} (p : X → Bool) where
  -- a search that found a place, or none, says whether some row passes
  pub any_found : (xs : List X) (r : Option ℕ) → Finds p xs 0 r → is_some r ≡ any p xs
  any_found xs None f = sym (ap is_some (first_none p xs f))
  any_found [] (Some i) f = absurd (omega (arith, f.1))
  any_found (x ∷ xs) (Some i) f = sym (ap is_some (first_found p (x ∷ xs) i x f))

  pub length_without : (xs : List X) → length (without p xs) + cond (any p xs) 1 0 ≡ length xs
  length_without [] = refl
  length_without (x ∷ xs) = at_head (p x) (length_without xs)
    where
      at_head : (b : Bool) → length (without p xs) + cond (any p xs) 1 0 ≡ length xs → length (cond b xs (x ∷ without p xs)) + cond (is_some (cond b (Some x) (first p xs))) 1 0 ≡ suc (length xs)
      at_head true e = omega arith
      at_head false e = omega arith

  -- a row that is replaced gives its place
  pub room_without : (xs : List X) (n : ℕ) → length xs ≤ n → no_row_for (any p xs) (length xs) n ≡ false → ltb (length (without p xs)) n ≡ true
  room_without xs n h e = by (any p xs) (length_without xs) e
    where
      by : (b : Bool) → length (without p xs) + cond b 1 0 ≡ length xs → no_row_for b (length xs) n ≡ false → ltb (length (without p xs)) n ≡ true
      by true l e' = lt-ltb _ _ (omega arith)
      by false l e' = lt-ltb _ _ (omega (arith, ltb-true (length xs) n (not-false _ e')))

-- a step at the place that a search found is a step of the first row that passes
pub changed_at_found : {X : Type 0} (p : X → Bool) (f : X → X) (xs : List X) (i : ℕ) → Finds p xs 0 (Some i) → changed_at i f xs ≡ changed p f xs
changed_at_found p f [] i s = absurd (omega (arith, s.1))
changed_at_found p f (x ∷ xs) i s = changed_at_within f (x ∷ xs) i x s.1 ∙ sym (changed_found p f (x ∷ xs) i x s)

-- a search of what is left from a place on is a search from there
module _ {X : Type 0} (p : X → Bool) (xs : List X) (from : ℕ) where
  at_drop : (k : ℕ) (d : X) → from ≤ k → get_or (drop from xs) (k - from) d ≡ get_or xs k d
  at_drop k d h = get_or-drop from xs (k - from) d ∙ ap (λ n. get_or xs n d) (omega arith)

  passed_from : (n m : ℕ) → n ≡ m - from → AllWithin (λ x. p x ≡ false) (drop from xs) 0 n → AllWithin (λ x. p x ≡ false) xs from m
  passed_from n m e h k d low high = ap p (sym (at_drop k d low)) ∙ h (k - from) d zero-le (omega arith)

  pub found_from : (r : Option ℕ) → MatchOption r (AllWithin (λ x. p x ≡ false) (drop from xs) 0 (length (drop from xs))) (λ i. (i < length (drop from xs)) × HoldsAt (λ x. p x ≡ true) (drop from xs) i × AllWithin (λ x. p x ≡ false) (drop from xs) 0 i) → Finds p xs from (option_map (λ i. from + i) r)
  found_from None h = passed_from (length (drop from xs)) (length xs) (length-drop from xs) h
  found_from (Some i) h = (omega arith, omega (arith, h.0, length-drop from xs), λ d. ap p (sym (get_or-drop from xs i d)) ∙ h.1 d, passed_from i (from + i) (omega arith) h.2)

pub left_from : {X : Type 0} (xs ys : List X) (from : ℕ) → ys ≡ take (length xs - from) (drop from xs) → ys ≡ drop from xs
left_from xs ys from e = e ∙ take_all _ (drop from xs) (omega (arith, length-drop from xs))
