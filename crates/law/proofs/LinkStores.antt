-- What each call does to the store, and whose handles the events have that it puts there.
use Rattle.std.proofs.Common.{◌≡◌, ℕ, ◌+◌, Bool, true, false, cond, eqb, List, [], ◌∷◌, ◌++◌, map, Some, None, sym, refl, ap, ◌∙◌, subst, ⊎_elim}
use Rattle.std.proofs.ByRecursion.{All-push, All-append, All-map, All-weaker, all_kept_by, All-drop}
use Rattle.std.proofs.lemmas.Bool.{cases_Bool, both_ways, eq-eqb, cond_both}
use Rattle.std.specs.Option.{option_map}
use Rattle.std.specs.List.{AllByRecursion}
use Rattle.ei.specs.Texts.{text_of}
use Rattle.ei.specs.Events.{device_of, handle_of, at_time}
use Rattle.ei.specs.declared.event.EiEvent.{EiEvent}
use Rattle.ei.specs.declared.event.EiEvent.TheVariants.{Disconnected, SeatAdded, SeatRemoved, DeviceAdded, DeviceRemoved, DevicePaused, DeviceResumed, KeyboardModifiers, Frame as frame, DeviceStartEmulating, DeviceStopEmulating, PointerMotion, PointerMotionAbsolute, Button, ScrollDelta, ScrollStop, ScrollCancel, ScrollDiscrete, KeyboardKey, TouchDown, TouchUp, TouchMotion, TouchCancel, TextKeysym, TextUtf8}
use Rattle.ei.specs.declared.event.Frame.{Frame}
use Rattle.ei.specs.declared.object.Object.{Object}
use Rattle.records.specs.Owners.{owns_it, keyboard_of}
use Rattle.records.specs.Rows.{first, any, same_standing}
use Rattle.records.specs.declared.device.DeviceRow.{DeviceRow}
use Rattle.records.specs.declared.seat.SeatRow.{SeatRow}
use Rattle.records.specs.declared.standing.Standing.TheVariants.{Pending, Live}
use Rattle.store.specs.Moves.{Contents, of, not_of, pending_for, others, fits, batch, pended, added, framed, can_hold, hold, can_commit, commit, queue, can_queue_framed, queue_framed, rest, discard}
use Rattle.tables.specs.Calls.{Call, Act, motion, motion_absolute, button, scroll, scroll_stop, scroll_cancel, scroll_discrete, key, touch_down, touch_up, touch_motion, touch_cancel, keysym, utf8, acted, Speech, resumed, paused, start_emulating, stop_emulating, spoken, modified, handshake, new_seat, ping, disconnected, invalid_object, callback_done, seat_name, seat_capability, seat_done, seat_device, seat_destroyed, device_name, device_type, device_dimensions, device_region, device_mapping_id, device_interface, device_done, device_speech, device_frame, device_destroyed, keymap, modifiers, act, object_destroyed, next_event, add_callback, bind, retire_seat, retire_device}
use Rattle.tables.specs.Model.{Model, View}
use Rattle.tables.specs.Outcomes.{handled}
use Rattle.tables.specs.Rules.{seat_at, seat_by_handle, device_at, device_by_handle, frame_of, owner_of, no_places_for, next_handle, no_handle}
use Rattle.law.specs.History.{Book}
use Rattle.law.proofs.Link.{Link, Sound}
use Rattle.law.proofs.Link as link
use Rattle.law.proofs.LinkHeads.{at_standing, live_settled, owner_settled, found_by_handle}
use Rattle.law.proofs.LinkMoves.{type_of}
use Rattle.law.proofs.LinkRows.{mapped_some, none_any, all_first, first_passes, first_nobody}
use Rattle.law.proofs.LinkShapes.{Kept, shapes, some_kept, done_full}

-- a handle that an event may have: of a row, the next one, or 0 for none
pub data Used (m : Model) (k : ℕ) : Type 0 where
  a_device : any (device_by_handle k) m.devices ≡ true → Used m k
  a_seat : any (seat_by_handle k) m.seats ≡ true → Used m k
  the_next : k ≡ m.handles + 1 → Used m k
  no_handle_at_all : k ≡ 0 → Used m k

-- the store after a call
pub data Stored (m : Model) : Contents → Type 0 where
  as_it_was : Stored m m.store
  queues : (e : EiEvent) → Used m (handle_of e) → Stored m (queue e m.store)
  frames : (f : Frame) (e : EiEvent) → Used m f.device → Used m (handle_of e) → Stored m (queue_framed f e m.store)
  commits : (f : Frame) → Used m f.device → Stored m (commit f m.store)
  holds : (e : EiEvent) → device_of e ≡ Some (handle_of e) → any (device_by_handle (handle_of e)) m.devices ≡ true → Stored m (hold e m.store)
  hands_out : Stored m (rest m.store)
  discards : (h : ℕ) → Stored m (discard h m.store)

-- What holds of the events.

module _ (P : EiEvent → Type 0) where
  all_batch : ((t : ℕ) (e : EiEvent) → P e → P (at_time t e)) → (f : Frame) → P (frame f) → (es : List EiEvent) → AllByRecursion P es → AllByRecursion P (batch f es)
  unfolding batch
  all_batch timed f p [] a = tt
  all_batch timed f p (e ∷ es) a = All-push P (map (at_time f.time) (e ∷ es)) (frame f) (All-map P (at_time f.time) (e ∷ es) (All-weaker P _ (timed f.time) (e ∷ es) a)) p

  module _ {m : Model} where
    -- of those that wait
    pub pending_stored : {c : Contents} → Stored m c → ((e : EiEvent) → device_of e ≡ Some (handle_of e) → any (device_by_handle (handle_of e)) m.devices ≡ true → P (at_time 0 e)) → AllByRecursion P m.store.pending → AllByRecursion P c.pending
    unfolding queue queue_framed commit hold rest discard added framed pended others
    pending_stored as_it_was new a = a
    pending_stored (queues e u) new a = cond_both (fits 1 m.store) _ _ (λ (c : Contents). AllByRecursion P c.pending) (λ _. a) (λ _. a)
    pending_stored (frames f e u w) new a = cond_both (can_queue_framed f m.store) _ _ (λ (c : Contents). AllByRecursion P c.pending) (λ _. all_kept_by (not_of f.device) P m.store.pending a) (λ _. a)
    pending_stored (commits f u) new a = cond_both (can_commit f m.store) _ _ (λ (c : Contents). AllByRecursion P c.pending) (λ _. all_kept_by (not_of f.device) P m.store.pending a) (λ _. a)
    pending_stored (holds e d u) new a = cond_both (can_hold m.store) _ _ (λ (c : Contents). AllByRecursion P c.pending) (λ _. All-push P m.store.pending (at_time 0 e) a (new e d u)) (λ _. a)
    pending_stored hands_out new a = a
    pending_stored (discards h) new a = all_kept_by (not_of h) P m.store.pending a

    -- of those that are queued
    pub queued_stored : {c : Contents} → Stored m c → ((t : ℕ) (e : EiEvent) → P e → P (at_time t e)) → ((e : EiEvent) → Used m (handle_of e) → P e) → AllByRecursion P m.store.pending → AllByRecursion P m.store.queued → AllByRecursion P c.queued
    unfolding queue queue_framed commit hold rest discard added framed pended pending_for
    queued_stored as_it_was timed new a b = b
    queued_stored (queues e u) timed new a b = cond_both (fits 1 m.store) _ _ (λ (c : Contents). AllByRecursion P c.queued) (λ _. All-push P m.store.queued e b (new e u)) (λ _. b)
    queued_stored (frames f e u w) timed new a b =
        cond_both (can_queue_framed f m.store) _ _ (λ (c : Contents). AllByRecursion P c.queued)
        (λ _. All-push P (m.store.queued ++ batch f (pending_for f.device m.store)) e (All-append P m.store.queued (batch f (pending_for f.device m.store)) b (all_batch timed f (new (frame f) u) _ (all_kept_by (of f.device) P m.store.pending a))) (new e w))
        (λ _. b)
    queued_stored (commits f u) timed new a b =
        cond_both (can_commit f m.store) _ _ (λ (c : Contents). AllByRecursion P c.queued)
        (λ _. All-append P m.store.queued (batch f (pending_for f.device m.store)) b (all_batch timed f (new (frame f) u) _ (all_kept_by (of f.device) P m.store.pending a)))
        (λ _. b)
    queued_stored (holds e d u) timed new a b = cond_both (can_hold m.store) _ _ (λ (c : Contents). AllByRecursion P c.queued) (λ _. b) (λ _. b)
    queued_stored hands_out timed new a b = All-drop P 1 m.store.queued b
    queued_stored (discards h) timed new a b = b

-- Whose an event is.

-- an event names the same at any time
pub handle_at_time : (t : ℕ) (e : EiEvent) → handle_of (at_time t e) ≡ handle_of e
handle_at_time t (Disconnected e) = refl
handle_at_time t (SeatAdded e) = refl
handle_at_time t (SeatRemoved e) = refl
handle_at_time t (DeviceAdded e) = refl
handle_at_time t (DeviceRemoved e) = refl
handle_at_time t (DevicePaused e) = refl
handle_at_time t (DeviceResumed e) = refl
handle_at_time t (KeyboardModifiers e) = refl
handle_at_time t (frame e) = refl
handle_at_time t (DeviceStartEmulating e) = refl
handle_at_time t (DeviceStopEmulating e) = refl
handle_at_time t (PointerMotion e) = refl
handle_at_time t (PointerMotionAbsolute e) = refl
handle_at_time t (Button e) = refl
handle_at_time t (ScrollDelta e) = refl
handle_at_time t (ScrollStop e) = refl
handle_at_time t (ScrollCancel e) = refl
handle_at_time t (ScrollDiscrete e) = refl
handle_at_time t (KeyboardKey e) = refl
handle_at_time t (TouchDown e) = refl
handle_at_time t (TouchUp e) = refl
handle_at_time t (TouchMotion e) = refl
handle_at_time t (TouchCancel e) = refl
handle_at_time t (TextKeysym e) = refl
handle_at_time t (TextUtf8 e) = refl

-- a timed event is of its device
acted_as : (x : Act) (h : ℕ) → (device_of (acted x h) ≡ Some h) × (handle_of (acted x h) ≡ h)
acted_as (motion x y) h = (refl, refl)
acted_as (motion_absolute x y) h = (refl, refl)
acted_as (button c s) h = (refl, refl)
acted_as (scroll x y) h = (refl, refl)
acted_as (scroll_stop x y) h = (refl, refl)
acted_as (scroll_cancel x y) h = (refl, refl)
acted_as (scroll_discrete x y) h = (refl, refl)
acted_as (key c s) h = (refl, refl)
acted_as (touch_down i x y) h = (refl, refl)
acted_as (touch_up i) h = (refl, refl)
acted_as (touch_motion i x y) h = (refl, refl)
acted_as (touch_cancel i) h = (refl, refl)
acted_as (keysym c s) h = (refl, refl)
acted_as (utf8 t) h = (refl, refl)

-- what a device says names it
spoken_as : (x : Speech) (s h : ℕ) → handle_of (spoken x s h) ≡ h
spoken_as resumed s h = refl
spoken_as paused s h = refl
spoken_as (start_emulating q) s h = refl
spoken_as stop_emulating s h = refl

-- a row that one test finds is found by another that it passes
any_from : {X : Type 0} (p q : X → Bool) (xs : List X) (r : X) → first p xs ≡ Some r → q r ≡ true → any q xs ≡ true
any_from p q xs r e t = ⊎_elim (λ u. u) (λ u. absurd (both_ways (q r) (all_first (λ x. q x ≡ false) p xs r (first_nobody q xs (none_any (first q xs) u)) e) t)) (cases_Bool (any q xs))

-- a live device has its handle
live_device : (m : Model) (n : ℕ) (row : DeviceRow) → first (device_at n Live) m.devices ≡ Some row → Used m row.head.handle
live_device m n row e = a_device (any_from (device_at n Live) (device_by_handle row.head.handle) m.devices row e (found_by_handle row (live_settled n row (first_passes (device_at n Live) m.devices row e))))

-- a live seat has its handle
live_seat : (m : Model) (n : ℕ) (row : SeatRow) → first (seat_at n Live) m.seats ≡ Some row → Used m row.head.handle
live_seat m n row e =
    a_seat (any_from (seat_at n Live) (seat_by_handle row.head.handle) m.seats row e
    (ap (λ z. cond (same_standing z Pending) false (eqb row.head.handle row.head.handle)) (at_standing (λ x. x.head.number) (λ x. x.head.standing) n Live row (first_passes (seat_at n Live) m.seats row e)) ∙ eq-eqb row.head.handle row.head.handle refl))

-- an owner has its handle
owner_device : (b : Book) (m : Model) → Link b m → (o : Object) (h : ℕ) → owner_of o m ≡ Some h → any (device_by_handle h) m.devices ≡ true
owner_device b m l o h e =
    let found = mapped_some link.handle_of (first (owns_it o) m.devices) h e in
    let r : DeviceRow = found.0 in
    let settled = owner_settled o r (all_first (Sound b.lists b.retired m.handles) (owns_it o) m.devices r l.sound found.1) (first_passes (owns_it o) m.devices r found.1) in
    subst (λ k. any (device_by_handle k) m.devices ≡ true) found.2 (any_from (owns_it o) (device_by_handle r.head.handle) m.devices r found.1 (found_by_handle r settled))

-- an untimed event of a handle, with the frame that it may force
framed_for : (m : Model) (k : ℕ) → Used m k → (e : EiEvent) → handle_of e ≡ k → (serial time : ℕ) → Stored m (queue_framed (frame_of k serial time) e m.store)
framed_for m k u e is serial time = frames (frame_of k serial time) e u (subst (Used m) (sym is) u)

-- a timed event waits
held_for : (b : Book) (m : Model) → Link b m → (o : Object) (x : Act) (h : ℕ) → owner_of o m ≡ Some h → Stored m (hold (acted x h) m.store)
held_for b m l o x h e = holds (acted x h) ((acted_as x h).0 ∙ ap Some (sym (acted_as x h).1)) (subst (λ k. any (device_by_handle k) m.devices ≡ true) (sym (acted_as x h).1) (owner_device b m l o h e))

-- an event is queued
queued_for : (m : Model) (e : EiEvent) → Used m (handle_of e) → Stored m (queue e m.store)
queued_for m e u = queues e u

-- a frame queues what waits
committed_for : (m : Model) (k : ℕ) → Used m k → (serial time : ℕ) → Stored m (commit (frame_of k serial time) m.store)
committed_for m k u serial time = commits (frame_of k serial time) u

-- what waits is discarded
discarded_for : (m : Model) (h : ℕ) → Stored m (discard h m.store)
discarded_for m h = discards h

-- the store after a call, beside what stood before
abbrev Stores : Model → Book → Model → Type 0
Stores m b m' = Stored m m'.store

-- call by call
storing_step : (b : Book) (m : Model) → Link b m → Stored m m.store → (v : View) (c : Call) → Kept (Stores m) b c (handled v c m)
storing_step b m l q v handshake = record { kept = q }
storing_step b m l q v (new_seat n) = search shapes
storing_step b m l q v (ping n) = search shapes
storing_step b m l q v (disconnected n x y) = let last = queued_for m (Disconnected (record { last_serial = n; reason = x; explanation = option_map text_of y })) (no_handle_at_all refl) in search shapes
storing_step b m l q v invalid_object = record { kept = q }
storing_step b m l q v (callback_done n x) = search shapes
storing_step b m l q v (seat_name n t) = search shapes
storing_step b m l q v (seat_capability n mask kind) = search shapes
storing_step b m l q v (seat_done n) = let new = queued_for m (SeatAdded (record { seat = next_handle m })) (the_next refl) in search shapes
storing_step b m l q v (seat_device s n) = search shapes
storing_step b m l q v (seat_destroyed n s) = let live = λ (row : SeatRow) (e : first (seat_at n Live) m.seats ≡ Some row). queued_for m (SeatRemoved (record { seat = row.head.handle })) (live_seat m n row e) in search shapes
storing_step b m l q v (device_name n t) = search shapes
storing_step b m l q v (device_type n t) = search shapes
storing_step b m l q v (device_dimensions n x y) = search shapes
storing_step b m l q v (device_region n r) = search shapes
storing_step b m l q v (device_mapping_id n t) = search shapes
storing_step b m l q v (device_interface n None) = search shapes
storing_step b m l q v (device_interface n (Some o)) = search shapes
storing_step b m l q v (device_done n) =
    some_kept (Stores m) b (device_done n) (first (device_at n Pending) m.devices) _ _ (λ _. record { kept = q })
    (λ row e. some_kept (Stores m) b (device_done n) (type_of row) _ _ (λ _. record { kept = q })
    (λ _ _. done_full (Stores m) b m q n (no_places_for (next_handle m) m.store) (no_handle m) _ (record { kept = framed_for m (next_handle m) (the_next refl) _ refl _ _ })))
storing_step b m l q v (device_speech n s x) = let live = λ (row : DeviceRow) (e : first (device_at n Live) m.devices ≡ Some row). framed_for m row.head.handle (live_device m n row e) (spoken x s row.head.handle) (spoken_as x s row.head.handle) in search shapes
storing_step b m l q v (device_frame n s t) = let live = λ (row : DeviceRow) (e : first (device_at n Live) m.devices ≡ Some row). committed_for m row.head.handle (live_device m n row e) in search shapes
storing_step b m l q v (device_destroyed n s) = let live = λ (row : DeviceRow) (e : first (device_at n Live) m.devices ≡ Some row). framed_for m row.head.handle (live_device m n row e) (DeviceRemoved (record { device = row.head.handle })) refl in search shapes
storing_step b m l q v (keymap n k) = search shapes
storing_step b m l q v (modifiers n s x) = let own = λ (h : ℕ) (e : owner_of (keyboard_of n) m ≡ Some h). framed_for m h (a_device (owner_device b m l (keyboard_of n) h e)) (modified x s h) refl in search shapes
storing_step b m l q v (act o x) = let own = held_for b m l o x in search shapes
storing_step b m l q v (object_destroyed o s) = search shapes
storing_step b m l q v next_event = record { kept = hands_out }
storing_step b m l q v (add_callback n t) = search shapes
storing_step b m l q v (bind h bits) = search shapes
storing_step b m l q v (retire_seat h) = search shapes
storing_step b m l q v (retire_device h) = let gone = discarded_for m h in search shapes

-- what a call stores
pub storing : (b : Book) (m : Model) → Link b m → (v : View) (c : Call) → Stored m (handled v c m).after.store
storing b m l v c = (storing_step b m l as_it_was v c).kept
