-- Rows by the handles that they have: a change that gives no handle, and one that gives the next.
use Rattle.std.proofs.Common.{◌≡◌, ℕ, Bool, false, eqb, List, [], ◌∷◌, ◌++◌, Some, ◌∙◌, subst}
use Rattle.std.proofs.ByRecursion.{All-push}
use Rattle.std.proofs.lemmas.Bool.{both_ways, eqb-true}
use Rattle.std.specs.List.{AllZip}
use Rattle.records.specs.Rows.{first, changed, without}
use Rattle.law.proofs.LinkRows.{Nobody, Lone, all_without, all_changed, lone_without, lone_push, lone_changed_by, each_all, each_lone, each_weaker}

-- no row gains a handle; has says whether a row has a handle
pub data Still {X : Type 0} (has : ℕ → X → Bool) : List X → List X → Type 0 where
  stay : {xs : List X} → Still has xs xs
  tame : {xs ys : List X} → AllZip (λ x y. (h : ℕ) → has h y ≡ has h x) xs ys → Still has xs ys
  drop : {xs : List X} (q : X → Bool) → Still has xs (without q xs)
  push : {xs : List X} (y : X) → ((h : ℕ) → has h y ≡ false) → Still has xs (xs ++ (y ∷ []))
  both : {xs ys zs : List X} → Still has xs ys → Still has ys zs → Still has xs zs

-- one row gains the next handle, and has no other
pub data Given {X : Type 0} (has : ℕ → X → Bool) (next : ℕ) : List X → List X → Type 0 where
  given : {xs ys : List X} (q : X → Bool) (f : X → X) (r : X) → Still has xs ys → first q ys ≡ Some r → ((h : ℕ) → has h (f r) ≡ eqb next h) → Given has next xs (changed q f ys)

module _ {X : Type 0} {has : ℕ → X → Bool} where
  -- a handle that nobody had nobody has
  pub nobody_still : {xs ys : List X} → Still has xs ys → (h : ℕ) → Nobody (has h) xs → Nobody (has h) ys
  nobody_still stay h a = a
  nobody_still (tame {xs = xs} {ys = ys} e) h a = each_all (λ x. has h x ≡ false) (λ y. has h y ≡ false) xs ys (each_weaker _ _ (λ x y s n. s h ∙ n) xs ys e) a
  nobody_still (drop {xs = xs} q) h a = all_without (λ x. has h x ≡ false) q xs a
  nobody_still (push {xs = xs} y n) h a = All-push (λ x. has h x ≡ false) xs y a (n h)
  nobody_still (both s t) h a = nobody_still t h (nobody_still s h a)

  -- a handle that one had one has
  pub lone_still : {xs ys : List X} → Still has xs ys → (h : ℕ) → Lone (has h) xs → Lone (has h) ys
  lone_still stay h a = a
  lone_still (tame {xs = xs} {ys = ys} e) h a = each_lone (has h) xs ys (each_weaker _ _ (λ x y s n. s h ∙ n) xs ys e) a
  lone_still (drop {xs = xs} q) h a = lone_without (has h) q xs a
  lone_still (push {xs = xs} y n) h a = lone_push (has h) xs y (λ t. absurd (both_ways (has h y) (n h) t)) a
  lone_still (both s t) h a = lone_still t h (lone_still s h a)

  -- the same as the next handle is given
  pub nobody_given : {next : ℕ} {xs ys : List X} → Given has next xs ys → (h : ℕ) → eqb next h ≡ false → Nobody (has h) xs → Nobody (has h) ys
  nobody_given (given {ys = ys} q f r s e is) h ne a = all_changed (λ x. has h x ≡ false) q f ys r e (is h ∙ ne) (all_without (λ x. has h x ≡ false) q ys (nobody_still s h a))

  -- and at most one has that
  pub lone_given : {next : ℕ} {xs ys : List X} → Given has next xs ys → Nobody (has next) xs → (h : ℕ) → Lone (has h) xs → Lone (has h) ys
  lone_given {next} (given {ys = ys} q f r s e is) none h a =
      lone_changed_by (has h) q f ys r e (eqb next h) (is h) (λ t. subst (λ k. Nobody (has k) ys) (eqb-true next h t) (nobody_still s next none)) (lone_still s h a)
