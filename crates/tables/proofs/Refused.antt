-- What a refused call leaves as it was.
use Rattle.std.proofs.Common.{◌≡◌, ◌∙◌, is_err, Bool, true, false, cond, List, [], ◌∷◌, is_some, Some, Err, Result, sym, refl, ap}
use Rattle.std.proofs.lemmas.Bool.{true≢false}
use Rattle.ei.specs.declared.error.EventError.{EventError}
use Rattle.ei.specs.declared.error.EventError.TheVariants.{StoreFull}
use Rattle.ei.specs.declared.event.EiEvent.{EiEvent}
use Rattle.ei.specs.declared.event.Frame.{Frame}
use Rattle.records.specs.Rows.{any, changed, first}
use Rattle.store.specs.Moves.{Contents, added, can_commit, can_hold, commit, done_if, fits, framed, hold, pended, queue}

-- where no row passes, none changes
pub changed_never : {X : Type 0} (p : X → Bool) (f : X → X) (xs : List X) → any p xs ≡ false → changed p f xs ≡ xs
changed_never p f [] e = refl
changed_never p f (x ∷ xs) e = by (p x) e (changed_never p f xs)
  where
    by : (b : Bool) → is_some (cond b (Some x) (first p xs)) ≡ false → (any p xs ≡ false → changed p f xs ≡ xs) → cond b (f x ∷ xs) (x ∷ changed p f xs) ≡ x ∷ xs
    by true e' r = absurd (true≢false e')
    by false e' r = ap (λ l. x ∷ l) (r e')

-- A store that refuses a move is full, and has not changed.

full : (b : Bool) (r : Result (Unit {0}) EventError) → r ≡ done_if b → is_err r ≡ true → (r ≡ Err StoreFull) × (b ≡ false)
full true r h g = absurd (true≢false (sym g ∙ ap is_err h))
full false r h g = (h, refl)

pub refused_hold : (e : EiEvent) (c : Contents) (r : Result (Unit {0}) EventError) → r ≡ done_if (can_hold c) → is_err r ≡ true → (r ≡ Err StoreFull) × (can_hold c ≡ false) × (hold e c ≡ c)
unfolding hold
refused_hold e c r h g = let f = full (can_hold c) r h g in (f.0, f.1, ap (λ b. cond b (pended e c) c) f.1)

pub refused_commit : (f : Frame) (c : Contents) (r : Result (Unit {0}) EventError) → r ≡ done_if (can_commit f c) → is_err r ≡ true → (r ≡ Err StoreFull) × (can_commit f c ≡ false) × (commit f c ≡ c)
unfolding commit
refused_commit f c r h g = let q = full (can_commit f c) r h g in (q.0, q.1, ap (λ b. cond b (framed f c) c) q.1)

pub refused_queue : (e : EiEvent) (c : Contents) (r : Result (Unit {0}) EventError) → r ≡ done_if (fits 1 c) → is_err r ≡ true → (r ≡ Err StoreFull) × (fits 1 c ≡ false) × (queue e c ≡ c)
unfolding queue
refused_queue e c r h g = let f = full (fits 1 c) r h g in (f.0, f.1, ap (λ b. cond b (added e c) c) f.1)
