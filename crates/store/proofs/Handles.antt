-- What each move does to the events of each device, to the queue and to how many are held.
use Rattle.std.proofs.Common.{◌≡◌, ℕ, ◌+◌, Bool, true, false, cond, List, [], ◌∷◌, ◌++◌, map, length, Some, None, filter, Option, sym, refl, ap, ◌∙◌, subst, ⊎_elim, arith}
use Rattle.std.proofs.lemmas.List.Elements.{filter-append}
use Rattle.std.proofs.lemmas.List.{append-nil, append_assoc, length-append, length-map, length_push}
use Rattle.std.proofs.lemmas.Bool.{not_from_false, not-true, cond-true, cond-false, cond_both, cases_Bool, eqb-true, ne_eqb}
use Rattle.ei.specs.Events.{device_of, at_time}
use Rattle.ei.specs.declared.event.EiEvent.{EiEvent}
use Rattle.ei.specs.declared.event.EiEvent.TheVariants.{Disconnected, SeatAdded, SeatRemoved, DeviceAdded, DeviceRemoved, DevicePaused, DeviceResumed, KeyboardModifiers, Frame as frame, DeviceStartEmulating, DeviceStopEmulating, PointerMotion, PointerMotionAbsolute, Button, ScrollDelta, ScrollStop, ScrollCancel, ScrollDiscrete, KeyboardKey, TouchDown, TouchUp, TouchMotion, TouchCancel, TextKeysym, TextUtf8}
use Rattle.ei.specs.declared.event.Frame.{Frame}
use Rattle.store.specs.Laws.{Held, HoldLaw, Committed, CommitLaw, Queued, QueueLaw, QueuedFramed, QueueFramedLaw, HandedOut, NextLaw, DiscardLaw, Lengthens, Lengthening, Refusing}
use Rattle.store.specs.Moves.{Contents, is_device, some, of, not_of, pending_for, others, has_pending, held, fits, batch, pended, added, framed, can_hold, hold, can_commit, commit, queue, can_queue_framed, queue_framed, given, rest, discard}
use Rattle.store.proofs.Filters.{kept_all, kept_kept, kept_none, kept_yes, kept_no}
use Rattle.store.proofs.Stores.{same_contents, both_parts, fits_true, fits_from}

-- Whose an event is.

-- an event is of the same device at any time
pub device_at_time : (t : ℕ) (e : EiEvent) → device_of (at_time t e) ≡ device_of e
device_at_time t (Disconnected e) = refl
device_at_time t (SeatAdded e) = refl
device_at_time t (SeatRemoved e) = refl
device_at_time t (DeviceAdded e) = refl
device_at_time t (DeviceRemoved e) = refl
device_at_time t (DevicePaused e) = refl
device_at_time t (DeviceResumed e) = refl
device_at_time t (KeyboardModifiers e) = refl
device_at_time t (frame e) = refl
device_at_time t (DeviceStartEmulating e) = refl
device_at_time t (DeviceStopEmulating e) = refl
device_at_time t (PointerMotion e) = refl
device_at_time t (PointerMotionAbsolute e) = refl
device_at_time t (Button e) = refl
device_at_time t (ScrollDelta e) = refl
device_at_time t (ScrollStop e) = refl
device_at_time t (ScrollCancel e) = refl
device_at_time t (ScrollDiscrete e) = refl
device_at_time t (KeyboardKey e) = refl
device_at_time t (TouchDown e) = refl
device_at_time t (TouchUp e) = refl
device_at_time t (TouchMotion e) = refl
device_at_time t (TouchCancel e) = refl
device_at_time t (TextKeysym e) = refl
device_at_time t (TextUtf8 e) = refl

pub of_at_time : (h t : ℕ) (e : EiEvent) → of h (at_time t e) ≡ of h e
unfolding of
of_at_time h t e = ap (is_device h) (device_at_time t e)

apart : (h k : ℕ) → (k ≡ h → ⊥) → (o : Option ℕ) → is_device k o ≡ true → is_device h o ≡ false
apart h k ne None t = refl
apart h k ne (Some d) t = ne_eqb d h (λ e. ne (sym (eqb-true d k t) ∙ e))

-- an event is of one device at most
pub of_one : (h k : ℕ) (e : EiEvent) → (k ≡ h → ⊥) → of k e ≡ true → of h e ≡ false
unfolding of
of_one h k e ne t = apart h k ne (device_of e) t

-- What is pending by device, once the events of one are gone.

pub others_none : (h : ℕ) (es : List EiEvent) → filter (of h) (filter (not_of h) es) ≡ []
unfolding not_of
others_none h es = kept_none (of h) (not_of h) (λ e t. not-true (of h e) t) es

pub others_same : (h k : ℕ) → (k ≡ h → ⊥) → (es : List EiEvent) → filter (of k) (filter (not_of h) es) ≡ filter (of k) es
unfolding not_of
others_same h k ne es = kept_kept (of k) (not_of h) (λ e t. not_from_false (of h e) (of_one h k e ne t)) es

none_from_some : (es : List EiEvent) → some es ≡ false → es ≡ []
none_from_some [] t = refl
none_from_some (e ∷ es) t = cc

pub batch_none : (f : Frame) (es : List EiEvent) → some es ≡ false → batch f es ≡ []
unfolding batch
batch_none f es t = ap (batch f) (none_from_some es t)

pub length_batch : (f : Frame) (es : List EiEvent) → length (batch f es) ≡ length es + cond (some es) 1 0
unfolding batch
length_batch f [] = refl
length_batch f (e ∷ es) = length_push (map (at_time f.time) (e ∷ es)) (frame f) ∙ ap (λ n. n + 1) (length-map (e ∷ es) (at_time f.time))

-- a frame with nothing pending does nothing
pub framed_none : (f : Frame) (c : Contents) → has_pending f.device c ≡ false → framed f c ≡ c
unfolding framed has_pending pending_for others not_of
framed_none f c t =
    same_contents
    (kept_all (of f.device) (not_of f.device) (λ e n. not_from_false (of f.device e) n) c.pending (none_from_some (pending_for f.device c) t))
    (ap (λ l. c.queued ++ l) (batch_none f (pending_for f.device c) t) ∙ append-nil c.queued)

-- How many are held.

pub held_pended : (e : EiEvent) (c : Contents) → held (pended e c) ≡ held c + 1
unfolding held pended
held_pended e c = omega (arith, length_push c.pending (at_time 0 e))

pub held_added : (e : EiEvent) (c : Contents) → held (added e c) ≡ held c + 1
unfolding held added
held_added e c = omega (arith, length_push c.queued e)

pub held_framed : (f : Frame) (c : Contents) → held (framed f c) ≡ held c + cond (has_pending f.device c) 1 0
unfolding held framed others pending_for has_pending
held_framed f c =
    omega (
      arith,
      both_parts f.device c.pending,
      length-append c.queued (batch f (pending_for f.device c)),
      length_batch f (pending_for f.device c),
    )

-- An accepted call does its move.

pub hold_done : (e : EiEvent) (c : Contents) → can_hold c ≡ true → hold e c ≡ pended e c
unfolding hold
hold_done e c t = cond-true (can_hold c) _ _ t

pub commit_done : (f : Frame) (c : Contents) → can_commit f c ≡ true → commit f c ≡ framed f c
unfolding commit
commit_done f c t = cond-true (can_commit f c) _ _ t

pub queue_done : (e : EiEvent) (c : Contents) → fits 1 c ≡ true → queue e c ≡ added e c
unfolding queue
queue_done e c t = cond-true (fits 1 c) _ _ t

pub queue_framed_done : (f : Frame) (e : EiEvent) (c : Contents) → can_queue_framed f c ≡ true → queue_framed f e c ≡ added e (framed f c)
unfolding queue_framed
queue_framed_done f e c t = cond-true (can_queue_framed f c) _ _ t

-- the event's own place
one_of_two : (b : Bool) → ◌≡◌ {A = ℕ} (cond b 1 0 + 1) (cond b 2 1)
one_of_two true = refl
one_of_two false = refl

-- where a frame and its event fit, the frame does
pub framed_first : (f : Frame) (c : Contents) → can_queue_framed f c ≡ true → can_commit f c ≡ true
unfolding can_queue_framed can_commit
framed_first f c t =
    ⊎_elim
    (λ p. cond-true (has_pending f.device c) _ _ p ∙ fits_from 1 c (omega (arith, fits_true 2 c (sym (ap (λ b. fits (cond b 2 1) c) p) ∙ t))))
    (λ p. cond-false (has_pending f.device c) _ _ p)
    (cases_Bool (has_pending f.device c))

-- and the event after it
pub framed_next : (f : Frame) (c : Contents) → can_queue_framed f c ≡ true → fits 1 (framed f c) ≡ true
unfolding can_queue_framed
framed_next f c t =
    fits_from 1 (framed f c) (omega (arith, held_framed f c, fits_true (cond (has_pending f.device c) 2 1) c t, one_of_two (has_pending f.device c)))

-- The laws.

pended_law : (e : EiEvent) (c : Contents) → Held e c (pended e c)
unfolding pended pending_for
pended_law e c =
    let more : (h : ℕ) → filter (of h) (c.pending ++ (at_time 0 e ∷ [])) ≡ filter (of h) c.pending ++ filter (of h) (at_time 0 e ∷ []) = λ h. filter-append (of h) c.pending (at_time 0 e ∷ []) in
    record { waits_last = λ h t. more h ∙ ap (λ l. filter (of h) c.pending ++ l) (kept_yes (of h) (at_time 0 e) [] (of_at_time h 0 e ∙ t)); others_wait = λ h t. more h ∙ (ap (λ l. filter (of h) c.pending ++ l) (kept_no (of h) (at_time 0 e) [] (of_at_time h 0 e ∙ t)) ∙ append-nil (filter (of h) c.pending)); queue_stays = refl; one_more = held_pended e c }

pub hold_law : HoldLaw
hold_law e c t = let P : Contents → Type 0 = Held e c in subst P (sym (hold_done e c t)) (pended_law e c)

framed_law : (f : Frame) (c : Contents) → Committed f c (framed f c)
unfolding framed others pending_for
framed_law f c =
    record { none_waits = others_none f.device c.pending; others_wait = λ h ne. others_same f.device h ne c.pending; batch_last = refl; frame_more = held_framed f c }

pub commit_law : CommitLaw
commit_law f c t = let P : Contents → Type 0 = Committed f c in subst P (sym (commit_done f c t)) (framed_law f c)

added_law : (e : EiEvent) (c : Contents) → Queued e c (added e c)
unfolding added
added_law e c = record { all_wait = refl; event_last = refl; one_more = held_added e c }

pub queue_law : QueueLaw
queue_law e c t = let P : Contents → Type 0 = Queued e c in subst P (sym (queue_done e c t)) (added_law e c)

framed_added_law : (f : Frame) (e : EiEvent) (c : Contents) → can_queue_framed f c ≡ true → QueuedFramed f e c (added e (framed f c))
unfolding added framed others pending_for
framed_added_law f e c t =
    let done = commit_done f c (framed_first f c t) in
    record { frame_fits = framed_first f c t; event_fits = ap (fits 1) done ∙ framed_next f c t; in_turn = sym (ap (queue e) done ∙ queue_done e (framed f c) (framed_next f c t)); none_waits = others_none f.device c.pending; others_wait = λ h ne. others_same f.device h ne c.pending; batch_then_event = refl; both_more = omega (arith, held_added e (framed f c), held_framed f c, one_of_two (has_pending f.device c)) }

pub queue_framed_law : QueueFramedLaw
queue_framed_law f e c t = let P : Contents → Type 0 = QueuedFramed f e c in subst P (sym (queue_framed_done f e c t)) (framed_added_law f e c t)

next_of : (p q : List EiEvent) → (let c : Contents = record { pending = p; queued = q } in HandedOut c (rest c))
unfolding given rest held
next_of p [] = record { from_front = refl; none_queued = λ _. refl; all_wait = refl; given_fewer = omega arith }
next_of p (e ∷ es) =
    record { from_front = refl; none_queued = λ n. cc; all_wait = refl; given_fewer = omega arith }

pub next_law : NextLaw
next_law c = next_of c.pending c.queued

pub discard_law : DiscardLaw
unfolding discard others pending_for held
discard_law h c =
    record { none_waits = others_none h c.pending; others_wait = λ k ne. others_same h k ne c.pending; queue_stays = refl; pending_fewer = omega (arith, both_parts h c.pending) }

as_it_was : (c : Contents) → Lengthens c c
as_it_was c = ([], sym (append-nil c.queued))

pub lengthening : Lengthening
unfolding hold commit queue queue_framed discard pended framed added
lengthening =
    record { by_hold = λ e c. cond_both (can_hold c) (pended e c) c (Lengthens c) (λ _. as_it_was c) (λ _. as_it_was c); by_commit = λ f c. cond_both (can_commit f c) (framed f c) c (Lengthens c) (λ _. (batch f (pending_for f.device c), refl)) (λ _. as_it_was c); by_queue = λ e c. cond_both (fits 1 c) (added e c) c (Lengthens c) (λ _. (e ∷ [], refl)) (λ _. as_it_was c); by_queue_framed = λ f e c. cond_both (can_queue_framed f c) (added e (framed f c)) c (Lengthens c) (λ _. (batch f (pending_for f.device c) ++ (e ∷ []), append_assoc c.queued (batch f (pending_for f.device c)) (e ∷ []))) (λ _. as_it_was c); by_discard = λ h c. as_it_was c }

pub refusing : Refusing
unfolding hold commit queue queue_framed
refusing =
    record { of_hold = λ e c t. cond-false (can_hold c) _ _ t; of_commit = λ f c t. cond-false (can_commit f c) _ _ t; of_queue = λ e c t. cond-false (fits 1 c) _ _ t; of_queue_framed = λ f e c t. cond-false (can_queue_framed f c) _ _ t }
