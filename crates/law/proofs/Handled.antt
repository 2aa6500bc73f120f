-- Each call is a step.
use Rattle.std.proofs.Common.{◌≡◌, ℕ, ◌+◌, not, eqb, List, length, Some, None, Option, sym, refl, ap, ◌∙◌}
use Rattle.std.proofs.lemmas.Bool.{cond-true, cond_both, both_ways, not-false, ne_eqb, eq-eqb}
use Rattle.ei.specs.declared.enums.DisconnectReason.{DisconnectReason}
use Rattle.ei.specs.declared.object.Object.{Object}
use Rattle.records.specs.Owners.{keyboard_of}
use Rattle.records.specs.Rows.{first, any, no_row_for}
use Rattle.records.specs.declared.standing.Standing.TheVariants.{Live, Pending}
use Rattle.store.specs.Moves.{fits, can_commit, can_hold, hold, rest}
use Rattle.tables.specs.Calls.{Call, Act, acted, text_kept, Speech, spoken, Modifiers, modified, handshake, new_seat, ping, disconnected, invalid_object, callback_done, seat_name, seat_capability, seat_done, seat_device, seat_destroyed, device_name, device_type, device_dimensions, device_region, device_mapping_id, device_interface, device_done, device_speech, device_frame, device_destroyed, keymap, modifiers, act, object_destroyed, next_event, add_callback, bind, retire_seat, retire_device}
use Rattle.tables.specs.Model.{done, with_store}
use Rattle.tables.specs.Outcomes.{handled}
use Rattle.tables.specs.Refusal.{of_text, of_rows, of_notes, of_places, of_places_and_handles, too_long, some_too_long}
use Rattle.tables.specs.Rules.{most_seats, seat_at, device_at, device_by_handle, next_handle, no_handle, frame_of, no_places_for, connection_ends, seat_ready, seat_gone, device_ready, device_speaks, device_framed, device_gone, owner_of, keyboard_modified, owner_acts, device_retirable, device_retired}
use Rattle.law.specs.History.{book, timed_for, at_some}
use Rattle.law.proofs.Events.{acted_is, spoken_plain}
use Rattle.law.proofs.Fine.{entry_with, Scene, Fine, live_is, live_current, none_live, owner_current, next_current, commits_frame, refused_fine, quiet_fine, asked_fine, short_fine, quiet_short, queue_fine, untimed_fine, live_fine, of_pending}
use Rattle.law.proofs.Moved.{gives, discards, holds_it}
use Rattle.law.proofs.Outcomes.{at_cases, presses, done_idle}
use Rattle.law.proofs.Quiet.{of_callback_done, of_seat_name, of_seat_capability, of_seat_device, of_detail, of_words, of_region, of_interface, of_keymap, of_object_destroyed, of_add_callback, of_bind, of_retire_seat}

module _ (scene : Scene) where
  open scene use {es, v, m, k, tidy}

  -- Calls that queue an event of no device.

  of_disconnected : (n : ℕ) (r : DisconnectReason) (x : Option (List ℕ)) → Fine scene (disconnected n r x) (connection_ends n r x m)
  of_disconnected n r x =
      let c : Call = disconnected n r x in
      short_fine scene c refl (of_text (some_too_long x) (of_places (not (fits 1 m.store)))) _ (λ y. queue_fine scene c refl refl refl _ (refl, refl) y _ refl)

  of_seat_done : (n : ℕ) → Fine scene (seat_done n) (seat_ready n m)
  of_seat_done n =
      let c : Call = seat_done n in
      cond_both (any (seat_at n Pending) m.seats) _ _ (Fine scene c)
      (λ _. short_fine scene c refl (of_places_and_handles (not (fits 1 m.store)) (no_handle m)) _ (λ y. queue_fine scene c refl refl refl _ (refl, refl) y _ refl))
      (λ _. refused_fine scene c refl _ refl _)

  of_seat_destroyed : (n s : ℕ) → Fine scene (seat_destroyed n s) (seat_gone n s m)
  of_seat_destroyed n s =
      let c : Call = seat_destroyed n s in
      at_cases (Fine scene c) (first (seat_at n Live) m.seats) _ _
      (λ _. quiet_fine scene c refl refl refl _ refl)
      (λ _ _. short_fine scene c refl (of_places (not (fits 1 m.store))) _ (λ y. queue_fine scene c refl refl refl _ (refl, refl) y _ refl))

  -- Calls that bound a device.

  of_device_done : (n : ℕ) → Fine scene (device_done n) (device_ready v n m)
  of_device_done n =
      let c : Call = device_done n in
      of_pending scene c refl n _ (λ row. at_cases (Fine scene c) row.description.device_type _ _
      (λ _. refused_fine scene c refl _ refl _)
      (λ _ _. short_fine scene c refl (of_places_and_handles (no_places_for (next_handle m) m.store) (no_handle m)) _
      (λ y. untimed_fine scene c refl refl refl (next_handle m) (ap (λ x. Some (x + 1)) k.handles) (next_current (book es) m k) _ (refl, refl) y _ refl)))

  of_device_speech : (n s : ℕ) (x : Speech) → Fine scene (device_speech n s x) (device_speaks v n s (spoken x s) m)
  of_device_speech n s x =
      let c : Call = device_speech n s x in
      at_cases (Fine scene c) (first (device_at n Live) m.devices) _ _
      (λ _. refused_fine scene c refl _ refl _)
      (λ row f. live_fine scene n row f c refl refl refl refl _ (spoken_plain x s row.head.handle) _ refl)

  of_device_destroyed : (n s : ℕ) → Fine scene (device_destroyed n s) (device_gone v n s m)
  of_device_destroyed n s =
      let c : Call = device_destroyed n s in
      at_cases (Fine scene c) (first (device_at n Live) m.devices) _ _
      (λ f. quiet_fine scene c refl refl (none_live (book es) m k n f) _ refl)
      (λ row f. live_fine scene n row f c refl refl refl refl _ (refl, refl) _ refl)

  of_device_frame : (n s t : ℕ) → Fine scene (device_frame n s t) (device_framed n s t m)
  of_device_frame n s t =
      let c : Call = device_frame n s t in
      at_cases (Fine scene c) (first (device_at n Live) m.devices) _ _
      (λ _. refused_fine scene c refl _ refl _)
      (λ row f. short_fine scene c refl (of_places (not (can_commit (frame_of row.head.handle s t) m.store))) _
      (λ y. record { step = commits_frame scene c refl refl row.head.handle (live_is (book es) m k n row f) (live_current (book es) m k n row f) s t refl (not-false _ y) }))

  of_modifiers : (n s : ℕ) (x : Modifiers) → Fine scene (modifiers n s x) (keyboard_modified v n s (modified x s) m)
  of_modifiers n s x =
      let c : Call = modifiers n s x in
      at_cases (Fine scene c) (owner_of (keyboard_of n) m) _ _
      (λ _. refused_fine scene c refl _ refl _)
      (λ h f. short_fine scene c refl (of_places (no_places_for h m.store)) _
      (λ y. untimed_fine scene c refl refl refl h (k.owner (keyboard_of n) ∙ f) (owner_current (book es) m k (keyboard_of n) h f) _ (refl, refl) y _ refl))

  -- A timed event, the handing out, and the discarding.

  -- what an owner's act presses
  act_timed : (o : Object) (x : Act) (h : ℕ) → owner_of o m ≡ Some h → timed_for (book es) (act o x) ≡ Some (h, acted x h)
  act_timed o x h f = ap (λ w. at_some w None (λ q. Some (q, acted x q))) (k.owner o ∙ f)

  of_act : (o : Object) (x : Act) → Fine scene (act o x) (owner_acts o (text_kept x) (acted x) m)
  of_act o x =
      let c : Call = act o x in
      at_cases (Fine scene c) (owner_of o m) _ _
      (λ _. refused_fine scene c refl _ refl _)
      (λ h f. short_fine scene c refl (of_text (too_long (text_kept x)) (of_places (not (can_hold m.store)))) _
      (λ y. record { step = holds_it (book es) _ m.store tidy refl (acted x h) h (acted_is x h) (not-false _ y) (λ _. refl) (presses (book es) (entry_with es v m c 0 (hold (acted x h) m.store)) refl (Some (h, acted x h)) (act_timed o x h f)) }))

  of_next : Fine scene next_event (done (with_store (rest m.store) m))
  of_next = record { step = gives (book es) _ m.store tidy refl (done_idle (book es) _ refl refl refl) }

  of_retire_device : (h : ℕ) → Fine scene (retire_device h) (device_retired h m)
  of_retire_device h =
      let c : Call = retire_device h in
      at_cases (Fine scene c) (first (device_by_handle h) m.devices) _ _
      (λ _. refused_fine scene c refl _ refl _)
      (λ row _. cond_both (device_retirable row m.store) _ _ (Fine scene c)
      (λ _. record { step = discards (book es) _ m.store tidy refl (done_idle (book es) _ refl refl refl) h (λ d r. ne_eqb h d (λ e. both_ways _ r (cond-true (eqb d h) _ _ (eq-eqb d h (sym e))))) })
      (λ _. refused_fine scene c refl _ refl _))

  pub moved : (c : Call) → Fine scene c (handled v c m)
  moved handshake = refused_fine scene handshake refl m refl _
  moved (new_seat n) = quiet_short scene (new_seat n) refl refl refl (of_rows (no_row_for (any (seat_at n Pending) m.seats) (length m.seats) most_seats)) _ refl
  moved (ping n) = asked_fine scene (ping n) _ _ (quiet_short scene (ping n) refl refl refl (of_notes (eqb v.spare 0)) m refl)
  moved (disconnected n r x) = of_disconnected n r x
  moved invalid_object = quiet_fine scene invalid_object refl refl refl m refl
  moved (callback_done n x) = of_callback_done scene n x
  moved (seat_name n x) = of_seat_name scene n x
  moved (seat_capability n x y) = of_seat_capability scene n x y
  moved (seat_done n) = of_seat_done n
  moved (seat_device s n) = of_seat_device scene s n
  moved (seat_destroyed n s) = of_seat_destroyed n s
  moved (device_name n x) = of_words scene (device_name n x) refl refl refl n x _
  moved (device_type n x) = of_detail scene (device_type n x) refl refl refl n _
  moved (device_dimensions n x y) = of_detail scene (device_dimensions n x y) refl refl refl n _
  moved (device_region n x) = of_region scene (device_region n x) refl refl refl n x
  moved (device_mapping_id n x) = of_words scene (device_mapping_id n x) refl refl refl n x _
  moved (device_interface n x) = of_interface scene (device_interface n x) refl refl refl n x
  moved (device_done n) = of_device_done n
  moved (device_speech n s x) = of_device_speech n s x
  moved (device_frame n s x) = of_device_frame n s x
  moved (device_destroyed n s) = of_device_destroyed n s
  moved (keymap n x) = of_keymap scene n x
  moved (modifiers n s x) = of_modifiers n s x
  moved (act o x) = of_act o x
  moved (object_destroyed o s) = of_object_destroyed scene o s
  moved next_event = of_next
  moved (add_callback n x) = of_add_callback scene n x
  moved (bind h x) = of_bind scene h x
  moved (retire_seat h) = of_retire_seat scene h
  moved (retire_device h) = of_retire_device h
