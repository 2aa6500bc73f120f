-- What a frame queues: stamped, framed, at the frame's time, and the pending events of its device in order.
use Rattle.std.proofs.Common.{◌≡◌, ℕ, true, false, eqb, leb, List, [], ◌∷◌, ◌++◌, map, Some, sym, refl, ap, ◌∙◌}
use Rattle.std.proofs.lemmas.Bool.{cond-true, cond-false, both_ways, eq-eqb, false≢true}
use Rattle.std.specs.List.{AllByRecursion}
use Rattle.ei.specs.Events.{device_of, timed, is_frame, time_of, at_time}
use Rattle.ei.specs.declared.event.EiEvent.{EiEvent}
use Rattle.ei.specs.declared.event.EiEvent.TheVariants as event
use Rattle.ei.specs.declared.event.Frame.{Frame}
use Rattle.store.proofs.Handles.{device_at_time}
use Rattle.store.specs.Moves.{batch}
use Rattle.law.specs.History.{holds}
use Rattle.law.specs.Law.{timed_of_handle, timed_of, next_frame, Stamped, FramedAfter, Framed}
use Rattle.law.proofs.Events.{timing, timed_no_frame, TimedFor}

-- events at the frame's time, and the frame behind them
abbrev run : Frame → List EiEvent → List EiEvent
run f es = map (at_time f.time) es ++ (event.Frame f ∷ [])

module _ (f : Frame) where
  -- one of the events at the frame's time
  module _ (e : EiEvent) (m : TimedFor f.device e) where
    still_timed : timed (at_time f.time e) ≡ true
    still_timed = ap (leb 12) (timing f.time e).kind ∙ m.0

    still_its : device_of (at_time f.time e) ≡ Some f.device
    still_its = device_at_time f.time e ∙ m.1

    no_frame : is_frame (at_time f.time e) ≡ false
    no_frame = timed_no_frame (at_time f.time e) still_timed

    as_pending : at_time 0 (at_time f.time e) ≡ e
    as_pending = (timing f.time e).again 0 ∙ m.2

    whose : (h : ℕ) → timed_of_handle h (at_time f.time e) ≡ eqb f.device h
    whose h = cond-true (timed (at_time f.time e)) _ _ still_timed ∙ ap (λ o. holds o h) still_its

  -- the next frame of the device is this one
  next_in_run : (es : List EiEvent) → AllByRecursion (TimedFor f.device) es → next_frame (Some f.device) (run f es) ≡ Some f.time
  next_in_run [] a = cond-true (eqb f.device f.device) _ _ (eq-eqb f.device f.device refl)
  next_in_run (e ∷ es) a = cond-false _ _ _ (cond-false (is_frame (at_time f.time e)) _ _ (no_frame e a.0)) ∙ next_in_run es a.1

  stamped_run : (es : List EiEvent) → AllByRecursion (TimedFor f.device) es → Stamped (run f es)
  stamped_run [] a = (λ t. absurd (false≢true t), tt)
  stamped_run (e ∷ es) a =
      (λ _. ap (λ d. next_frame d (run f es)) (still_its e a.0) ∙ (next_in_run es a.1 ∙ sym (ap (λ n. Some n) ((timing f.time e).its a.0.0))), stamped_run es a.1)

  framed_run : (e : EiEvent) (es : List EiEvent) → TimedFor f.device e → AllByRecursion (TimedFor f.device) es → FramedAfter (at_time f.time e) (run f es)
  framed_run e [] m a = (λ _. (still_timed e m, still_its e m), tt)
  framed_run e (x ∷ es) m a = (λ y. absurd (both_ways (is_frame (at_time f.time x)) (no_frame x a.0) y), framed_run x es a.0 a.1)

  times_run : (t : ℕ) → f.time ≡ t → (es : List EiEvent) → AllByRecursion (TimedFor f.device) es → AllByRecursion (λ x. is_frame x ≡ true → time_of x ≡ t) (run f es)
  times_run t e [] a = (λ _. e, tt)
  times_run t e (x ∷ es) a = (λ y. absurd (both_ways (is_frame (at_time f.time x)) (no_frame x a.0) y), times_run t e es a.1)

  own_run : (h : ℕ) → eqb f.device h ≡ true → (es : List EiEvent) → AllByRecursion (TimedFor f.device) es → timed_of h (run f es) ≡ es
  own_run h y [] a = refl
  own_run h y (e ∷ es) a =
      ap (map (at_time 0)) (cond-true (timed_of_handle h (at_time f.time e)) _ _ (whose e a.0 h ∙ y)) ∙ (ap (λ x. x ∷ timed_of h (run f es)) (as_pending e a.0) ∙ ap (λ l. e ∷ l) (own_run h y es a.1))

  other_run : (h : ℕ) → eqb f.device h ≡ false → (es : List EiEvent) → AllByRecursion (TimedFor f.device) es → timed_of h (run f es) ≡ []
  other_run h n [] a = refl
  other_run h n (e ∷ es) a =
      ap (map (at_time 0)) (cond-false (timed_of_handle h (at_time f.time e)) _ _ (whose e a.0 h ∙ n)) ∙ other_run h n es a.1

-- the batch of a frame, of the events pending for its device; t is the frame's time
pub record Batched (f : Frame) (t : ℕ) (es added : List EiEvent) : Type 0 where
  pub stamped : Stamped added
  pub framed : Framed added
  pub times : AllByRecursion (λ x. is_frame x ≡ true → time_of x ≡ t) added
  pub own : (h : ℕ) → eqb f.device h ≡ true → timed_of h added ≡ es
  pub others : (h : ℕ) → eqb f.device h ≡ false → timed_of h added ≡ []

pub batched : (f : Frame) (t : ℕ) → f.time ≡ t → (es : List EiEvent) → AllByRecursion (TimedFor f.device) es → Batched f t es (batch f es)
unfolding batch
batched f t e [] a = record { stamped = tt; framed = tt; times = tt; own = λ _ _. refl; others = λ _ _. refl }
batched f t e (x ∷ es) a =
    record { stamped = stamped_run f (x ∷ es) a; framed = (no_frame f x a.0, framed_run f x es a.0 a.1); times = times_run f t e (x ∷ es) a; own = λ h y. own_run f h y (x ∷ es) a; others = λ h n. other_run f h n (x ∷ es) a }
