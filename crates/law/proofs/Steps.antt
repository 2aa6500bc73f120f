-- What one call does to the queue and to what waits, and that the law stands after it.
use Rattle.std.proofs.Common.{◌≡◌, ℕ, Bool, true, false, eqb, List, [], ◌∷◌, ◌++◌, Some, None, Option, sym, refl, ap, ◌∙◌, subst, ⊎_elim}
use Rattle.std.proofs.lemmas.List.{append-nil, append_assoc}
use Rattle.std.proofs.lemmas.Bool.{cases_Bool, cond-true, cond-false, cond_both, both_ways}
use Rattle.std.specs.List.{AllByRecursion}
use Rattle.ei.specs.Events.{is_frame, time_of}
use Rattle.ei.specs.declared.event.EiEvent.{EiEvent}
use Rattle.store.specs.Moves.{Contents, pending_for}
use Rattle.tables.specs.Calls.{Call, handshake, new_seat, ping, disconnected, invalid_object, callback_done, seat_name, seat_capability, seat_done, seat_device, seat_destroyed, device_name, device_type, device_dimensions, device_region, device_mapping_id, device_interface, device_done, device_speech, device_frame, device_destroyed, keymap, modifiers, act, object_destroyed, next_event, add_callback, bind, retire_seat, retire_device}
use Rattle.law.specs.History.{Entry, Book, book, booked, accepted_call, refused_call, put, at_some, press, bound, accepted, since, queued_by, given_by}
use Rattle.law.specs.Law.{timed_of, Stamped, Framed, frame_time, Faithful}
use Rattle.law.proofs.Lists.{timed_of_append, stamped_append, framed_append}
use Rattle.law.proofs.Tidy.{TidyStore}

-- what is handed out, as a list
abbrev pub listed : Option EiEvent → List EiEvent
listed o = at_some o [] (λ x. x ∷ [])

-- what becomes of a handle that is not retired: all that waits for it is queued, or none of it and what is pressed waits too
pub data Fate (b : Book) (e : Entry) (added : List EiEvent) (h : ℕ) (waited waits : List EiEvent) : Type 0 where
  settled : bound h b e ≡ true → press h b e ≡ [] → timed_of h added ≡ waited → waits ≡ [] → Fate b e added h waited waits
  awaits : bound h b e ≡ false → timed_of h added ≡ [] → ((booked b e.call e.answer).retired h ≡ false → waits ≡ waited ++ press h b e) → Fate b e added h waited waits

pub record Step (b : Book) (e : Entry) (before after : Contents) : Type 0 where
  -- what the call queues
  pub added : List EiEvent
  pub moves : before.queued ++ added ≡ listed e.given ++ after.queued
  pub stamped : Stamped added
  pub framed : Framed added
  pub times : AllByRecursion (λ x. is_frame x ≡ true → time_of x ≡ frame_time e) added
  pub fate : (h : ℕ) → b.retired h ≡ false → Fate b e added h (pending_for h before) (pending_for h after)
  pub retired : (h : ℕ) → b.retired h ≡ true → timed_of h added ≡ []
  pub tidy : TidyStore after

-- Nothing brings a retired handle back.

put_true : (f : ℕ → Bool) (n k : ℕ) → put f n true k ≡ false → f k ≡ false
put_true f n k r = ⊎_elim (λ y. absurd (both_ways true (sym (cond-true (eqb k n) true (f k) y) ∙ r) refl)) (λ y. sym (cond-false (eqb k n) true (f k) y) ∙ r) (cases_Bool (eqb k n))

-- a book that keeps what is retired in either case
either_keeps : {X : Type 0} (b : Book) (o : Option X) (d : Book) (f : X → Book) (h : ℕ) → d.retired h ≡ b.retired h → ((x : X) → (f x).retired h ≡ b.retired h) → (at_some o d f).retired h ≡ b.retired h
either_keeps b None d f h p q = p
either_keeps b (Some x) d f h p q = q x

accepted_keeps : (b : Book) (c : Call) (h : ℕ) → (accepted_call b c).retired h ≡ false → b.retired h ≡ false
accepted_keeps b handshake h g = g
accepted_keeps b (new_seat n) h g = g
accepted_keeps b (ping n) h g = g
accepted_keeps b (disconnected n r t) h g = g
accepted_keeps b invalid_object h g = g
accepted_keeps b (callback_done n x) h g = g
accepted_keeps b (seat_name n t) h g = g
accepted_keeps b (seat_capability n m k) h g = g
accepted_keeps b (seat_done n) h g = g
accepted_keeps b (seat_device s n) h g = g
accepted_keeps b (seat_destroyed n s) h g = g
accepted_keeps b (device_name n t) h g = g
accepted_keeps b (device_type n t) h g = g
accepted_keeps b (device_dimensions n x y) h g = g
accepted_keeps b (device_region n r) h g = g
accepted_keeps b (device_mapping_id n t) h g = g
accepted_keeps b (device_interface n o) h g = sym (either_keeps b o _ _ h refl (λ _. refl)) ∙ g
accepted_keeps b (device_done n) h g = sym (either_keeps b (b.setup n) _ _ h refl (λ _. refl)) ∙ g
accepted_keeps b (device_speech n s x) h g = g
accepted_keeps b (device_frame n s t) h g = g
accepted_keeps b (device_destroyed n s) h g = sym (either_keeps b (b.live n) _ _ h refl (λ _. refl)) ∙ g
accepted_keeps b (keymap n k) h g = g
accepted_keeps b (modifiers n s x) h g = g
accepted_keeps b (act o x) h g = g
accepted_keeps b (object_destroyed o s) h g = sym (either_keeps b (b.owner o) _ _ h refl (λ _. refl)) ∙ g
accepted_keeps b next_event h g = g
accepted_keeps b (add_callback n t) h g = g
accepted_keeps b (bind h' x) h g = g
accepted_keeps b (retire_seat h') h g = g
accepted_keeps b (retire_device h') h g = put_true b.retired h' h g

refused_keeps : (b : Book) (a : ℕ) (c : Call) (h : ℕ) → (refused_call b a c).retired h ≡ false → b.retired h ≡ false
refused_keeps b a handshake h g = g
refused_keeps b a (new_seat n) h g = g
refused_keeps b a (ping n) h g = g
refused_keeps b a (disconnected n r t) h g = g
refused_keeps b a invalid_object h g = g
refused_keeps b a (callback_done n x) h g = g
refused_keeps b a (seat_name n t) h g = g
refused_keeps b a (seat_capability n m k) h g = g
refused_keeps b a (seat_done n) h g = g
refused_keeps b a (seat_device s n) h g = g
refused_keeps b a (seat_destroyed n s) h g = g
refused_keeps b a (device_name n t) h g = g
refused_keeps b a (device_type n t) h g = g
refused_keeps b a (device_dimensions n x y) h g = g
refused_keeps b a (device_region n r) h g = g
refused_keeps b a (device_mapping_id n t) h g = g
refused_keeps b a (device_interface n o) h g = g
refused_keeps b a (device_done n) h g = cond_both (eqb a 5) _ b (λ d. d.retired h ≡ false → b.retired h ≡ false) (λ _ s. s) (λ _ s. s) g
refused_keeps b a (device_speech n s x) h g = g
refused_keeps b a (device_frame n s t) h g = g
refused_keeps b a (device_destroyed n s) h g = g
refused_keeps b a (keymap n k) h g = g
refused_keeps b a (modifiers n s x) h g = g
refused_keeps b a (act o x) h g = g
refused_keeps b a (object_destroyed o s) h g = g
refused_keeps b a next_event h g = g
refused_keeps b a (add_callback n t) h g = g
refused_keeps b a (bind h' x) h g = g
refused_keeps b a (retire_seat h') h g = g
refused_keeps b a (retire_device h') h g = g

pub retired_before : (b : Book) (c : Call) (a h : ℕ) → (booked b c a).retired h ≡ false → b.retired h ≡ false
retired_before b c a h r =
    cond_both (eqb a 0) (accepted_call b c) (refused_call b a c) (λ d. d.retired h ≡ false → b.retired h ≡ false) (λ _ s. accepted_keeps b c h s) (λ _ s. refused_keeps b a c h s) r

-- The law after a step.

-- with ws waiting in place of w, and all of w queued or none of it
all_queued : (acc pr tq ta w ws tn : List EiEvent) → acc ≡ tq ++ w → pr ≡ [] → ta ≡ w → ws ≡ [] → tn ≡ tq ++ ta → acc ++ pr ≡ tn ++ ws
all_queued acc pr tq ta w ws tn a p t n m = cc (append-nil acc, append-nil tn)

none_queued : (acc pr tq ta w ws tn : List EiEvent) → acc ≡ tq ++ w → ta ≡ [] → ws ≡ w ++ pr → tn ≡ tq ++ ta → acc ++ pr ≡ tn ++ ws
none_queued acc pr tq ta w ws tn a t n m = cc (append_assoc tq w pr, append-nil tq)

module _ (es : List Entry) (e : Entry) (before after : Contents) (s : Step (book es) e before after) where
  module _ (i : e.queued ≡ (given_by es ++ listed e.given) ++ after.queued) (f : Faithful es (λ h. pending_for h before) before.queued) where
    longer : e.queued ≡ queued_by es ++ s.added
    longer =
        cc (i, append_assoc (given_by es) (listed e.given) after.queued, s.moves, append_assoc (given_by es) before.queued s.added, f.handed_out)

    longer_of : (h : ℕ) → timed_of h e.queued ≡ timed_of h (queued_by es) ++ timed_of h s.added
    longer_of h = ap (timed_of h) longer ∙ timed_of_append h (queued_by es) s.added

    lost : (h : ℕ) → (book es).retired h ≡ false → (book (e ∷ es)).retired h ≡ false → Fate (book es) e s.added h (pending_for h before) (pending_for h after) → accepted h (e ∷ es) ≡ timed_of h e.queued ++ pending_for h after
    lost h r r' (settled b p t w) = all_queued _ _ _ _ _ _ _ (f.nothing_lost h r) p t w (longer_of h)
    lost h r r' (awaits b t w) = none_queued _ _ _ _ _ _ _ (f.nothing_lost h r) t (w r') (longer_of h)

    still_waits : (h : ℕ) → (book es).retired h ≡ false → (book (e ∷ es)).retired h ≡ false → Fate (book es) e s.added h (pending_for h before) (pending_for h after) → pending_for h after ≡ since h (e ∷ es)
    still_waits h r r' (settled b p t w) = w ∙ sym (cond-true (bound h (book es) e) _ _ b)
    still_waits h r r' (awaits b t w) = w r' ∙ (ap (λ l. l ++ press h (book es) e) (f.waiting h r) ∙ sym (cond-false (bound h (book es) e) _ _ b))

    kept_order : (h : ℕ) → (book es).retired h ≡ false → Fate (book es) e s.added h (pending_for h before) (pending_for h after) → (rest : List EiEvent) × (accepted h (e ∷ es) ≡ timed_of h e.queued ++ rest)
    kept_order h r (settled b p t w) = ([], all_queued _ _ _ _ _ _ _ (f.nothing_lost h r) p t refl (longer_of h))
    kept_order h r (awaits b t w) = (pending_for h before ++ press h (book es) e, none_queued _ _ _ _ _ _ _ (f.nothing_lost h r) t refl (longer_of h))

    order_of_retired : (h : ℕ) → (book es).retired h ≡ true → (rest : List EiEvent) × (accepted h (e ∷ es) ≡ timed_of h e.queued ++ rest)
    order_of_retired h r = ((f.unchanged h).0 ++ press h (book es) e, none_queued _ _ _ _ _ _ _ (f.unchanged h).1 (s.retired h r) refl (longer_of h))

    not_before : (h : ℕ) → (book (e ∷ es)).retired h ≡ false → (book es).retired h ≡ false
    not_before h r = retired_before (book es) e.call e.answer h r

    pub faithful_step : Faithful (e ∷ es) (λ h. pending_for h after) after.queued
    faithful_step = record {
      nothing_lost = λ h r. lost h (not_before h r) r (s.fate h (not_before h r));
      waiting = λ h r. still_waits h (not_before h r) r (s.fate h (not_before h r));
      unchanged = λ h. ⊎_elim (order_of_retired h) (λ r. kept_order h r (s.fate h r)) (cases_Bool ((book es).retired h));
      stamped = subst Stamped (sym longer) (stamped_append (queued_by es) s.added f.stamped s.stamped);
      framed = subst Framed (sym longer) (framed_append (queued_by es) s.added f.framed s.framed);
      lengthened = ((s.added, longer, s.times), f.lengthened);
      handed_out = i;
    }
