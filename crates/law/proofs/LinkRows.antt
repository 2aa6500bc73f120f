-- Rows of which at most one passes a test, and what `first`, `changed`, `without`, `map` and a row more do to them.
use Rattle.std.proofs.Common.{◌≡◌, ℕ, Bool, true, false, cond, List, [], ◌∷◌, ◌++◌, map, is_some, Some, None, Option, sym, refl, ap, ◌∙◌, subst, ⊎_elim, arith}
use Rattle.std.proofs.ByRecursion.{All-push}
use Rattle.std.proofs.lemmas.Bool.{cond-true, cond-false, cond_both, cases_Bool, both_ways}
use Rattle.std.specs.Option.{option_map}
use Rattle.std.specs.List.{AllZip, AllByRecursion}
use Rattle.records.specs.Rows.{first, changed, without}

-- no value is a value
pub none_some : {A : Type 0} {x : A} → None ≡ Some x → ⊥
none_some e = let z : ◌≡◌ {A = ℕ} 0 1 = cc in omega arith

-- a value is itself
pub some_same : {A : Type 0} {x y : A} → Some x ≡ Some y → x ≡ y
some_same e = cc

-- a value of which something was mapped
pub mapped_some : {A B : Type 0} (f : A → B) (o : Option A) (y : B) → option_map f o ≡ Some y → (x : A) × (o ≡ Some x) × (f x ≡ y)
mapped_some f None y e = absurd (none_some e)
mapped_some f (Some x) y e = (x, refl, some_same e)

-- and one of which nothing was
pub mapped_none : {A B : Type 0} (f : A → B) (o : Option A) → option_map f o ≡ None → o ≡ None
mapped_none f None e = refl
mapped_none f (Some x) e = absurd (none_some (sym e))

-- there is one, or none
pub some_any : {X : Type 0} (w : Option X) → is_some w ≡ true → (x : X) × (w ≡ Some x)
some_any None t = absurd (both_ways false refl t)
some_any (Some x) t = (x, refl)

-- or none
pub none_any : {X : Type 0} (w : Option X) → is_some w ≡ false → w ≡ None
none_any None t = refl
none_any (Some x) t = absurd (both_ways true t refl)

module _ {X : Type 0} where
  -- none passes
  abbrev pub Nobody : (X → Bool) → List X → Type 0
  Nobody p xs = AllByRecursion (λ x. p x ≡ false) xs

  -- at most one passes
  abbrev pub Lone : (X → Bool) → List X → Type 0
  Lone p [] = Unit {0}
  Lone p (x ∷ xs) = (p x ≡ true → Nobody p xs) × Lone p xs

  -- What holds of all.

  -- two facts of all
  pub all_both : (P Q : X → Type 0) (xs : List X) → AllByRecursion P xs → AllByRecursion Q xs → AllByRecursion (λ x. P x × Q x) xs
  all_both P Q [] a b = tt
  all_both P Q (x ∷ xs) a b = ((a.0, b.0), all_both P Q xs a.1 b.1)

  -- what holds of any row
  pub all_here : (P : X → Type 0) → ((x : X) → P x) → (xs : List X) → AllByRecursion P xs
  all_here P f [] = tt
  all_here P f (x ∷ xs) = (f x, all_here P f xs)

  -- and of fewer
  pub all_without : (P : X → Type 0) (q : X → Bool) (xs : List X) → AllByRecursion P xs → AllByRecursion P (without q xs)
  all_without P q [] a = tt
  all_without P q (x ∷ xs) a = cond_both (q x) _ _ (AllByRecursion P) (λ _. a.1) (λ _. (a.0, all_without P q xs a.1))

  -- The first.

  -- the first that passes passes
  pub first_passes : (p : X → Bool) (xs : List X) (r : X) → first p xs ≡ Some r → p r ≡ true
  first_passes p [] r e = absurd (none_some e)
  first_passes p (x ∷ xs) r e =
      ⊎_elim
      (λ t. subst (λ y. p y ≡ true) (some_same (sym (cond-true (p x) _ _ t) ∙ e)) t)
      (λ t. first_passes p xs r (sym (cond-false (p x) _ _ t) ∙ e))
      (cases_Bool (p x))

  -- what holds of all holds of the first
  pub all_first : (P : X → Type 0) (p : X → Bool) (xs : List X) (r : X) → AllByRecursion P xs → first p xs ≡ Some r → P r
  all_first P p [] r a e = absurd (none_some e)
  all_first P p (x ∷ xs) r a e =
      ⊎_elim
      (λ t. subst P (some_same (sym (cond-true (p x) _ _ t) ∙ e)) a.0)
      (λ t. all_first P p xs r a.1 (sym (cond-false (p x) _ _ t) ∙ e))
      (cases_Bool (p x))

  -- there is no first where none passes
  pub nobody_first : (p : X → Bool) (xs : List X) → Nobody p xs → first p xs ≡ None
  nobody_first p [] a = refl
  nobody_first p (x ∷ xs) a = cond-false (p x) _ _ a.0 ∙ nobody_first p xs a.1

  -- and none passes where there is no first
  pub first_nobody : (p : X → Bool) (xs : List X) → first p xs ≡ None → Nobody p xs
  first_nobody p [] e = tt
  first_nobody p (x ∷ xs) e =
      ⊎_elim
      (λ t. absurd (none_some (sym e ∙ cond-true (p x) _ _ t)))
      (λ t. (t, first_nobody p xs (sym (cond-false (p x) _ _ t) ∙ e)))
      (cases_Bool (p x))

  -- a change counts only where it is made
  pub changed_as : (p : X → Bool) (f g : X → X) → ((x : X) → p x ≡ true → f x ≡ g x) → (xs : List X) → changed p f xs ≡ changed p g xs
  changed_as p f g same [] = refl
  changed_as p f g same (x ∷ xs) =
      ⊎_elim
      (λ t. cond-true (p x) _ _ t ∙ (ap (λ y. y ∷ xs) (same x t) ∙ sym (cond-true (p x) _ _ t)))
      (λ t. cond-false (p x) _ _ t ∙ (ap (λ l. x ∷ l) (changed_as p f g same xs) ∙ sym (cond-false (p x) _ _ t)))
      (cases_Bool (p x))

  -- Without one.

  -- of fewer at most one passes
  pub lone_without : (p q : X → Bool) (xs : List X) → Lone p xs → Lone p (without q xs)
  lone_without p q [] a = tt
  lone_without p q (x ∷ xs) a =
      cond_both (q x) _ _ (Lone p) (λ _. a.1) (λ _. ((λ t. all_without (λ y. p y ≡ false) q xs (a.0 t)), lone_without p q xs a.1))

  -- a row that does not pass is not missed
  pub first_without : (p q : X → Bool) (xs : List X) → ((r : X) → first q xs ≡ Some r → p r ≡ false) → first p (without q xs) ≡ first p xs
  first_without p q [] c = refl
  first_without p q (x ∷ xs) c =
      ⊎_elim
      (λ t. ap (first p) (cond-true (q x) _ _ t) ∙ sym (cond-false (p x) _ _ (c x (cond-true (q x) _ _ t))))
      (λ t. ap (first p) (cond-false (q x) _ _ t) ∙ ap (cond (p x) (Some x)) (first_without p q xs (λ r e. c r (cond-false (q x) _ _ t ∙ e))))
      (cases_Bool (q x))

  -- without the one that passes none does
  pub without_itself : (p : X → Bool) (xs : List X) → Lone p xs → Nobody p (without p xs)
  without_itself p [] a = tt
  without_itself p (x ∷ xs) a = cond_both (p x) _ _ (Nobody p) (λ t. a.0 t) (λ t. (t, without_itself p xs a.1))

  -- and so without a row that passes, by whatever test it was found
  pub others_fail : (p q : X → Bool) (xs : List X) (r : X) → first q xs ≡ Some r → p r ≡ true → Lone p xs → Nobody p (without q xs)
  others_fail p q [] r e t a = tt
  others_fail p q (x ∷ xs) r e t a =
      cond_both (q x) _ _ (Nobody p)
      (λ u. a.0 (subst (λ y. p y ≡ true) (some_same (sym e ∙ cond-true (q x) _ _ u)) t))
      (λ u. let e' : first q xs ≡ Some r = sym (cond-false (q x) _ _ u) ∙ e in
      ⊎_elim
      (λ s. absurd (both_ways (p r) (all_first (λ y. p y ≡ false) q xs r (a.0 s) e') t))
      (λ s. (s, others_fail p q xs r e' t a.1))
      (cases_Bool (p x)))

  -- The first that passes is changed.

  -- what holds of the changed row and of the others holds of all
  pub all_changed : (P : X → Type 0) (q : X → Bool) (f : X → X) (xs : List X) (r : X) → first q xs ≡ Some r → P (f r) → AllByRecursion P (without q xs) → AllByRecursion P (changed q f xs)
  all_changed P q f [] r e c a = tt
  all_changed P q f (x ∷ xs) r e c a =
      cond_both (q x) _ _ (AllByRecursion P)
      (λ t. (subst (λ y. P (f y)) (some_same (sym e ∙ cond-true (q x) _ _ t)) c, subst (AllByRecursion P) (cond-true (q x) _ _ t) a))
      (λ t. let b : AllByRecursion P (x ∷ without q xs) = subst (AllByRecursion P) (cond-false (q x) _ _ t) a in
      (b.0, all_changed P q f xs r (sym (cond-false (q x) _ _ t) ∙ e) c b.1))

  -- a row that comes to pass, where none did, is the first and the only one
  pub first_changed_in : (p q : X → Bool) (f : X → X) (xs : List X) (r : X) → first q xs ≡ Some r → Nobody p xs → p (f r) ≡ true → first p (changed q f xs) ≡ Some (f r)
  first_changed_in p q f [] r e a t = absurd (none_some e)
  first_changed_in p q f (x ∷ xs) r e a t =
      ⊎_elim
      (λ u. let same : x ≡ r = some_same (sym (cond-true (q x) _ _ u) ∙ e) in
      ap (first p) (cond-true (q x) _ _ u) ∙ (cond-true (p (f x)) _ _ (ap (λ y. p (f y)) same ∙ t) ∙ ap (λ y. Some (f y)) same))
      (λ u. ap (first p) (cond-false (q x) _ _ u) ∙ (cond-false (p x) _ _ a.0 ∙ first_changed_in p q f xs r (sym (cond-false (q x) _ _ u) ∙ e) a.1 t))
      (cases_Bool (q x))

  -- it is the only one
  pub lone_changed_in : (p q : X → Bool) (f : X → X) (xs : List X) → Nobody p xs → Lone p (changed q f xs)
  lone_changed_in p q f [] a = tt
  lone_changed_in p q f (x ∷ xs) a =
      cond_both (q x) _ _ (Lone p)
      (λ t. ((λ _. a.1), nobody_lone xs a.1))
      (λ t. ((λ u. absurd (both_ways (p x) a.0 u)), lone_changed_in p q f xs a.1))
    where
      nobody_lone : (ys : List X) → Nobody p ys → Lone p ys
      nobody_lone [] b = tt
      nobody_lone (y ∷ ys) b = ((λ _. b.1), nobody_lone ys b.1)

  -- Row by row.

  -- nothing is changed
  each_same : (R : X → X → Type 0) → ((x : X) → R x x) → (xs : List X) → AllZip R xs xs
  each_same R same [] = tt
  each_same R same (x ∷ xs) = (same x, each_same R same xs)

  -- of the rows it is enough to know the one that is changed
  pub each_changed : (R : X → X → Type 0) (q : X → Bool) (f : X → X) → ((x : X) → R x x) → (xs : List X) → ((r : X) → first q xs ≡ Some r → R r (f r)) → AllZip R xs (changed q f xs)
  each_changed R q f same [] c = tt
  each_changed R q f same (x ∷ xs) c =
      cond_both (q x) _ _ (AllZip R (x ∷ xs))
      (λ t. (c x (cond-true (q x) _ _ t), each_same R same xs))
      (λ t. (same x, each_changed R q f same xs (λ r e. c r (cond-false (q x) _ _ t ∙ e))))

  -- every row is changed
  pub each_map : (R : X → X → Type 0) (f : X → X) (xs : List X) → AllByRecursion (λ x. R x (f x)) xs → AllZip R xs (map f xs)
  each_map R f [] a = tt
  each_map R f (x ∷ xs) a = (a.0, each_map R f xs a.1)

  -- a weaker tie
  pub each_weaker : (R S : X → X → Type 0) → ((x y : X) → R x y → S x y) → (xs ys : List X) → AllZip R xs ys → AllZip S xs ys
  each_weaker R S f [] [] a = tt
  each_weaker R S f [] (y ∷ ys) a = a
  each_weaker R S f (x ∷ xs) [] a = a
  each_weaker R S f (x ∷ xs) (y ∷ ys) a = (f x y a.0, each_weaker R S f xs ys a.1)

  -- what a tie hands on
  pub each_all : (P Q : X → Type 0) (xs ys : List X) → AllZip (λ x y. P x → Q y) xs ys → AllByRecursion P xs → AllByRecursion Q ys
  each_all P Q [] [] e a = tt
  each_all P Q [] (y ∷ ys) e a = absurd e
  each_all P Q (x ∷ xs) [] e a = absurd e
  each_all P Q (x ∷ xs) (y ∷ ys) e a = (e.0 a.0, each_all P Q xs ys e.1 a.1)

  -- what a change keeps
  pub all_changed_by : (P : X → Type 0) (q : X → Bool) (f : X → X) (xs : List X) → ((r : X) → first q xs ≡ Some r → P r → P (f r)) → AllByRecursion P xs → AllByRecursion P (changed q f xs)
  all_changed_by P q f xs c a = each_all P P xs (changed q f xs) (each_changed (λ x y. P x → P y) q f (λ x p. p) xs c) a

  -- no more rows pass than did
  pub each_lone : (p : X → Bool) (xs ys : List X) → AllZip (λ x y. p x ≡ false → p y ≡ false) xs ys → Lone p xs → Lone p ys
  each_lone p [] [] e a = tt
  each_lone p [] (y ∷ ys) e a = absurd e
  each_lone p (x ∷ xs) [] e a = absurd e
  each_lone p (x ∷ xs) (y ∷ ys) e a = (
    (λ t. each_all (λ z. p z ≡ false) (λ z. p z ≡ false) xs ys e.1
        (⊎_elim (λ u. a.0 u) (λ u. absurd (both_ways (p y) (e.0 u) t)) (cases_Bool (p x)))),
    each_lone p xs ys e.1 a.1,
  )

  -- the same rows pass, and show the same
  abbrev pub Alike : {V : Type 0} → (X → Bool) → (X → V) → X → X → Type 0
  Alike p v x y = (p y ≡ p x) × (p x ≡ true → v y ≡ v x)

  -- the first shows the same
  pub each_first : {V : Type 0} (p : X → Bool) (v : X → V) (xs ys : List X) → AllZip (Alike p v) xs ys → option_map v (first p ys) ≡ option_map v (first p xs)
  each_first p v [] [] e = refl
  each_first p v [] (y ∷ ys) e = absurd e
  each_first p v (x ∷ xs) [] e = absurd e
  each_first p v (x ∷ xs) (y ∷ ys) e =
      ⊎_elim
      (λ t. ap (option_map v) (cond-true (p y) _ _ (e.0.0 ∙ t)) ∙ (ap Some (e.0.1 t) ∙ sym (ap (option_map v) (cond-true (p x) _ _ t))))
      (λ t. ap (option_map v) (cond-false (p y) _ _ (e.0.0 ∙ t)) ∙ (each_first p v xs ys e.1 ∙ sym (ap (option_map v) (cond-false (p x) _ _ t))))
      (cases_Bool (p x))

  -- a row that stays what it was found by is found again
  pub first_changed_itself : (q : X → Bool) (f : X → X) → ((x : X) → q x ≡ true → q (f x) ≡ true) → (xs : List X) → first q (changed q f xs) ≡ option_map f (first q xs)
  first_changed_itself q f stays [] = refl
  first_changed_itself q f stays (x ∷ xs) =
      ⊎_elim
      (λ t. ap (first q) (cond-true (q x) _ _ t) ∙ (cond-true (q (f x)) _ _ (stays x t) ∙ sym (ap (option_map f) (cond-true (q x) _ _ t))))
      (λ t. ap (first q) (cond-false (q x) _ _ t) ∙ (cond-false (q x) _ _ t ∙ (first_changed_itself q f stays xs ∙ sym (ap (option_map f) (cond-false (q x) _ _ t)))))
      (cases_Bool (q x))

  -- where the only one that passes ceases to, none does
  pub changed_out : (p : X → Bool) (f : X → X) → ((x : X) → p x ≡ true → p (f x) ≡ false) → (xs : List X) → Lone p xs → Nobody p (changed p f xs)
  changed_out p f out [] a = tt
  changed_out p f out (x ∷ xs) a = cond_both (p x) _ _ (Nobody p) (λ t. (out x t, a.0 t)) (λ t. (t, changed_out p f out xs a.1))

  -- a row that did not pass comes to pass, where none did, or does not pass now either
  pub first_changed_by : {V : Type 0} (p q : X → Bool) (f : X → X) (v : X → V) (xs : List X) (r : X) → first q xs ≡ Some r → p r ≡ false → (t : Bool) → p (f r) ≡ t → (t ≡ true → Nobody p xs) → option_map v (first p (changed q f xs)) ≡ cond t (Some (v (f r))) (option_map v (first p xs))
  first_changed_by p q f v xs r e out true is none = ap (option_map v) (first_changed_in p q f xs r e (none refl) is)
  first_changed_by p q f v xs r e out false is none =
      each_first p v xs (changed q f xs) (each_changed (Alike p v) q f (λ x. (refl, λ _. refl)) xs (λ y w. let same : r ≡ y = some_same (sym e ∙ w) in subst (λ z. Alike p v z (f z)) same (is ∙ sym out, λ t. absurd (both_ways (p r) out t))))

  -- so at most one passes
  pub lone_changed_by : (p q : X → Bool) (f : X → X) (xs : List X) (r : X) → first q xs ≡ Some r → (t : Bool) → p (f r) ≡ t → (t ≡ true → Nobody p xs) → Lone p xs → Lone p (changed q f xs)
  lone_changed_by p q f xs r e true is none a = lone_changed_in p q f xs (none refl)
  lone_changed_by p q f xs r e false is none a =
      each_lone p xs (changed q f xs) (each_changed (λ x y. p x ≡ false → p y ≡ false) q f (λ x t. t) xs (λ y w _. subst (λ z. p (f z) ≡ false) (some_same (sym e ∙ w)) is)) a

  -- One row more, behind the others.

  -- the new row is the first to pass
  pub first_push_in : (p : X → Bool) (xs : List X) (y : X) → Nobody p xs → p y ≡ true → first p (xs ++ (y ∷ [])) ≡ Some y
  first_push_in p [] y a t = cond-true (p y) _ _ t
  first_push_in p (x ∷ xs) y a t = cond-false (p x) _ _ a.0 ∙ first_push_in p xs y a.1 t

  -- the new row does not pass
  pub first_push_out : (p : X → Bool) (xs : List X) (y : X) → p y ≡ false → first p (xs ++ (y ∷ [])) ≡ first p xs
  first_push_out p [] y t = cond-false (p y) _ _ t
  first_push_out p (x ∷ xs) y t = ap (cond (p x) (Some x)) (first_push_out p xs y t)

  -- at most one passes, the new row among them
  pub lone_push : (p : X → Bool) (xs : List X) (y : X) → (p y ≡ true → Nobody p xs) → Lone p xs → Lone p (xs ++ (y ∷ []))
  lone_push p [] y n a = ((λ _. tt), tt)
  lone_push p (x ∷ xs) y n a = (
    (λ t. All-push (λ z. p z ≡ false) xs y (a.0 t)
        (⊎_elim (λ u. absurd (both_ways (p x) (n u).0 t)) (λ u. u) (cases_Bool (p y)))),
    lone_push p xs y (λ u. (n u).1) a.1,
  )
