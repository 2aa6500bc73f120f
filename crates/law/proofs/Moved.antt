-- Each move of the store is a step, by what the entry presses and bounds.
use Rattle.std.proofs.Common.{◌≡◌, ℕ, true, false, cond, eqb, List, [], ◌∷◌, ◌++◌, Some, None, filter, Option, sym, refl, ap, ◌∙◌, subst, ⊎_elim}
use Rattle.std.proofs.lemmas.List.{append-nil, append_assoc}
use Rattle.std.proofs.lemmas.Bool.{cases_Bool, cond-true, cond-false}
use Rattle.std.specs.Option.{option_to_list}
use Rattle.std.specs.List.{AllByRecursion}
use Rattle.ei.specs.Events.{device_of}
use Rattle.ei.specs.declared.event.EiEvent.{EiEvent}
use Rattle.ei.specs.declared.event.Frame.{Frame}
use Rattle.store.proofs.Handles.{hold_law, queue_law, commit_done, queue_framed_done, next_law}
use Rattle.store.specs.Moves.{Contents, is_device, of, pending_for, fits, batch, can_hold, hold, can_commit, commit, queue, can_queue_framed, queue_framed, added, framed, given, rest, discard}
use Rattle.law.specs.History.{Entry, Book, booked, press, bound}
use Rattle.law.specs.Law.{frame_time}
use Rattle.law.proofs.Effects.{free_step, bound_step, others_stay}
use Rattle.law.proofs.Events.{Plain, TimedFor}
use Rattle.law.proofs.Steps.{listed, Step}
use Rattle.law.proofs.Tidy.{TidyStore, Unstamped, tidy_others, tidy_hold}

same_pending : (h : ℕ) (c d : Contents) → d.pending ≡ c.pending → pending_for h d ≡ pending_for h c
unfolding pending_for
same_pending h c d e = ap (filter (of h)) e

listed_same : (o : Option EiEvent) → option_to_list o ≡ listed o
listed_same None = refl
listed_same (Some e) = refl

of_device : (k h : ℕ) (e : EiEvent) → device_of e ≡ Some h → of k e ≡ eqb h k
unfolding of
of_device k h e d = ap (is_device k) d

-- an entry that presses nothing and bounds nothing
pub record Idle (b : Book) (e : Entry) : Type 0 where
  pub frees : (h : ℕ) → bound h b e ≡ false
  pub no_press : (h : ℕ) → press h b e ≡ []

-- one that bounds the device of a frame, at the frame's time
pub record Bounding (b : Book) (e : Entry) (f : Frame) : Type 0 where
  pub time : f.time ≡ frame_time e
  pub bounds : (h : ℕ) → bound h b e ≡ eqb f.device h
  pub no_press : (h : ℕ) → press h b e ≡ []
  pub current : b.retired f.device ≡ false

module _ (b : Book) (e : Entry) (c : Contents) (tidy : TidyStore c) where
  -- what waits for a handle stays
  waits_still : Idle b e → (d : Contents) (h : ℕ) → pending_for h d ≡ pending_for h c → pending_for h d ≡ pending_for h c ++ press h b e
  waits_still idle d h s = s ∙ (sym (append-nil (pending_for h c)) ∙ ap (λ l. pending_for h c ++ l) (sym (idle.no_press h)))

  -- the oldest event is handed out
  pub gives : e.given ≡ given c → Idle b e → Step b e c (rest c)
  gives g idle =
      free_step b e c (rest c) [] tt
      (append-nil c.queued ∙ ((next_law c).from_front ∙ ap (λ l. l ++ (rest c).queued) (listed_same (given c) ∙ sym (ap listed g))))
      idle.frees
      (λ h _. waits_still idle (rest c) h (same_pending h c (rest c) (next_law c).all_wait))
      (subst (AllByRecursion Unstamped) (sym (next_law c).all_wait) tidy)

  module _ (none : e.given ≡ None) where
    -- nothing is handed out
    behind : (q r : List EiEvent) → q ≡ r → q ≡ listed e.given ++ r
    behind q r s = s ∙ sym (ap (λ o. listed o ++ r) none)

    -- nothing happens
    pub stays : Idle b e → Step b e c c
    stays idle = free_step b e c c [] tt (behind _ _ (append-nil c.queued)) idle.frees (λ h _. waits_still idle c h refl) tidy

    -- a plain event is queued
    pub queues : Idle b e → (x : EiEvent) → Plain x → fits 1 c ≡ true → Step b e c (queue x c)
    queues idle x p y =
        let law = queue_law x c y in
        free_step b e c (queue x c) (x ∷ []) (p, tt) (behind _ _ (sym law.event_last)) idle.frees
        (λ h _. waits_still idle (queue x c) h (same_pending h c (queue x c) law.all_wait))
        (subst (AllByRecursion Unstamped) (sym law.all_wait) tidy)

    -- what waits for a device that is retired now is discarded
    pub discards : Idle b e → (d : ℕ) → ((h : ℕ) → (booked b e.call e.answer).retired h ≡ false → eqb d h ≡ false) → Step b e c (discard d c)
    unfolding discard
    discards idle d apart =
        free_step b e c (discard d c) [] tt (behind _ _ (append-nil c.queued)) idle.frees
        (λ h r. waits_still idle (discard d c) h (others_stay d h c (discard d c) refl (apart h r)))
        (tidy_others d c tidy)

    -- a timed event waits
    pub holds_it : (x : EiEvent) (d : ℕ) → TimedFor d x → can_hold c ≡ true → ((h : ℕ) → bound h b e ≡ false) → ((h : ℕ) → press h b e ≡ cond (eqb d h) (x ∷ []) []) → Step b e c (hold x c)
    holds_it x d m y frees presses =
        let law = hold_law x c y in
        let more : (h : ℕ) (l : List EiEvent) → press h b e ≡ l → pending_for h (hold x c) ≡ pending_for h c ++ l → pending_for h (hold x c) ≡ pending_for h c ++ press h b e = λ h l p s. s ∙ ap (λ k. pending_for h c ++ k) (sym p) in
        free_step b e c (hold x c) [] tt
        (behind _ _ (append-nil c.queued ∙ sym law.queue_stays))
        frees
        (λ h _. ⊎_elim
        (λ t. more h (x ∷ []) (presses h ∙ cond-true (eqb d h) _ _ t) (law.waits_last h (of_device h d x m.1 ∙ t) ∙ ap (λ z. pending_for h c ++ (z ∷ [])) m.2))
        (λ t. more h [] (presses h ∙ cond-false (eqb d h) _ _ t) (law.others_wait h (of_device h d x m.1 ∙ t) ∙ sym (append-nil (pending_for h c))))
        (cases_Bool (eqb d h)))
        (tidy_hold x c y (subst Unstamped (sym m.2) (m.0, m.2)) tidy)

    -- a frame queues what waits for its device
    pub commits : (f : Frame) → Bounding b e f → can_commit f c ≡ true → Step b e c (commit f c)
    unfolding framed
    commits f g y =
        let done = commit_done f c y in
        bound_step b e c (commit f c) [] tt f g.time tidy (ap (λ d. d.pending) done) g.bounds g.no_press
        (behind _ _ (ap (λ l. c.queued ++ l) (append-nil (batch f (pending_for f.device c))) ∙ sym (ap (λ d. d.queued) done)))
        g.current

    -- and so does a frame that a plain event forces
    pub forces : (f : Frame) → Bounding b e f → (x : EiEvent) → Plain x → can_queue_framed f c ≡ true → Step b e c (queue_framed f x c)
    unfolding framed added
    forces f g x p y =
        let done = queue_framed_done f x c y in
        bound_step b e c (queue_framed f x c) (x ∷ []) (p, tt) f g.time tidy (ap (λ d. d.pending) done) g.bounds g.no_press
        (behind _ _ (sym (append_assoc c.queued (batch f (pending_for f.device c)) (x ∷ [])) ∙ sym (ap (λ d. d.queued) done)))
        g.current
