-- What the outcome of a call has to be to be a step, and the outcomes that are.
use Rattle.std.proofs.Common.{◌≡◌, ℕ, true, false, not, List, [], ◌∷◌, ◌++◌, Some, None, sym, refl, ap, ◌∙◌, subst, ⊎_elim, arith}
use Rattle.std.proofs.lemmas.Bool.{cases_Bool, not-false}
use Rattle.std.specs.Option.{option_map}
use Rattle.ei.specs.Refusals.{number_of, answer_of}
use Rattle.ei.specs.declared.error.EventError.{EventError}
use Rattle.ei.specs.declared.event.EiEvent.{EiEvent}
use Rattle.ei.specs.declared.object.Object.{Object}
use Rattle.records.specs.Rows.{first}
use Rattle.records.specs.declared.device.DeviceRow.{DeviceRow}
use Rattle.records.specs.declared.standing.Standing.TheVariants.{Live, Pending}
use Rattle.store.specs.Moves.{Contents, fits, can_commit, commit, can_queue_framed, queue, queue_framed}
use Rattle.tables.specs.Calls.{Call}
use Rattle.tables.specs.Model.{Model, View, Asked, Outcome, refused, done, asking, unless}
use Rattle.tables.specs.Refusal.{refusal, of_places}
use Rattle.tables.specs.Rules.{device_at, next_handle, frame_of, no_places_for, untimed_queued, of_pending_device, owner_of}
use Rattle.tables.specs.declared.shortage.Shortage.{Shortage}
use Rattle.law.specs.History.{Entry, Book, book, bounds_for, timed_for, given_by, at_some, server_time}
use Rattle.law.specs.Runs.{handed}
use Rattle.law.proofs.Events.{Plain}
use Rattle.law.proofs.Known.{Known}
use Rattle.law.proofs.Moved.{stays, queues, commits, forces}
use Rattle.law.proofs.Outcomes.{unless_cases, at_cases, places_left, refusal_not_0, refused_idle, done_idle, done_bounding}
use Rattle.law.proofs.Steps.{Step}
use Rattle.law.proofs.Tidy.{Tidy}

-- the entry of a call, by its answer and by what the store is left with
abbrev pub entry_with : List Entry → View → Model → Call → ℕ → Contents → Entry
entry_with es v m c a left = record {
  call = c;
  reading = v.reading;
  answer = a;
  given = handed c m;
  queued = (given_by es ++ at_some (handed c m) [] (λ x. x ∷ [])) ++ left.queued;
}

-- an answer and a store that are a step of a call
abbrev pub Moves : List Entry → View → Model → Call → ℕ → Contents → Type 0
Moves es v m c a left = Step (book es) (entry_with es v m c a left) m.store left

-- an outcome that is one
pub record Good (es : List Entry) (v : View) (m : Model) (c : Call) (o : Outcome) : Type 0 where
  pub step : Step (book es) (entry_with es v m c (answer_of o.answer) o.after.store) m.store o.after.store

-- Whom the rows name is whom the book names, and is not retired.

module _ (b : Book) (m : Model) (k : Known b m) where
  not_retired : (h : ℕ) → (b.retired h ≡ true → ⊥) → b.retired h ≡ false
  not_retired h n = ⊎_elim (λ y. absurd (n y)) (λ y. y) (cases_Bool (b.retired h))

  pub live_is : (n : ℕ) (row : DeviceRow) → first (device_at n Live) m.devices ≡ Some row → b.live n ≡ Some row.head.handle
  live_is n row f = k.live n ∙ ap (option_map (λ r. r.head.handle)) f

  pub live_current : (n : ℕ) (row : DeviceRow) → first (device_at n Live) m.devices ≡ Some row → b.retired row.head.handle ≡ false
  live_current n row f = not_retired row.head.handle (λ y. k.not_live row.head.handle n y (ap (option_map (λ r. r.head.handle)) f))

  pub none_live : (n : ℕ) → first (device_at n Live) m.devices ≡ None → b.live n ≡ None
  none_live n f = k.live n ∙ ap (option_map (λ r. r.head.handle)) f

  pub owner_current : (o : Object) (h : ℕ) → owner_of o m ≡ Some h → b.retired h ≡ false
  owner_current o h f = not_retired h (λ y. k.owns_none h o y f)

  pub next_current : b.retired (next_handle m) ≡ false
  next_current = not_retired (next_handle m) (λ y. omega (arith, k.given (next_handle m) y))

-- where a call stands: the entries before it, what it sees of the host, and a converter whose rows the book knows
pub record Scene : Type 0 where
  pub es : List Entry
  pub v : View
  pub m : Model
  pub k : Known (book es) m
  pub tidy : Tidy m

module _ (scene : Scene) where
  open scene use {es, v, m, k, tidy}

  -- a call that hands nothing out
  module _ (c : Call) (g : handed c m ≡ None) where
    refuses : (e : EventError) → Moves es v m c (number_of e) m.store
    refuses e = stays (book es) _ m.store tidy g (refused_idle (book es) _ (refusal_not_0 e))

    -- and presses nothing
    module _ (t : timed_for (book es) c ≡ None) where
      -- and bounds nothing
      module _ (n : bounds_for (book es) c ≡ None) where
        passes : Moves es v m c 0 m.store
        passes = stays (book es) _ m.store tidy g (done_idle (book es) _ refl n t)

        queues_plain : (x : EiEvent) → Plain x → fits 1 m.store ≡ true → Moves es v m c 0 (queue x m.store)
        queues_plain x p y = queues (book es) _ m.store tidy g (done_idle (book es) _ refl n t) x p y

      -- or bounds a handle
      module _ (h : ℕ) (n : bounds_for (book es) c ≡ Some h) (r : (book es).retired h ≡ false) where
        pub commits_frame : (serial time : ℕ) → server_time c ≡ Some time → can_commit (frame_of h serial time) m.store ≡ true → Moves es v m c 0 (commit (frame_of h serial time) m.store)
        commits_frame serial time u y =
            commits (book es) _ m.store tidy g (frame_of h serial time) (done_bounding (book es) _ refl (frame_of h serial time) n t (sym (ap (λ o. at_some o v.reading (λ x. x)) u)) r) y

        forces_frame : server_time c ≡ None → (serial : ℕ) (x : EiEvent) → Plain x → no_places_for h m.store ≡ false → Moves es v m c 0 (queue_framed (frame_of h serial v.reading) x m.store)
        unfolding can_queue_framed
        forces_frame u serial x p y =
            forces (book es) _ m.store tidy g (frame_of h serial v.reading) (done_bounding (book es) _ refl (frame_of h serial v.reading) n t (sym (ap (λ o. at_some o v.reading (λ x. x)) u)) r) x p (not-false _ y)

  abbrev pub Fine : Call → Outcome → Type 0
  Fine = Good es v m

  pub refused_fine : (c : Call) → handed c m ≡ None → (left : Model) → left.store ≡ m.store → (e : EventError) → Fine c (refused e left)
  refused_fine c g left s e = record { step = subst (Moves es v m c (number_of e)) (sym s) (refuses c g e) }

  pub quiet_fine : (c : Call) → handed c m ≡ None → timed_for (book es) c ≡ None → bounds_for (book es) c ≡ None → (left : Model) → left.store ≡ m.store → Fine c (done left)
  quiet_fine c g t n left s = record { step = subst (Moves es v m c 0) (sym s) (passes c g t n) }

  pub asked_fine : (c : Call) (a : Asked) (o : Outcome) → Fine c o → Fine c (asking a o)
  asked_fine c a o g = record { step = g.step }

  -- refused for a shortage, or with places left
  pub short_fine : (c : Call) → handed c m ≡ None → (s : Shortage) (o : Outcome) → (s.store_full ≡ false → Fine c o) → Fine c (unless (refusal s) m o)
  short_fine c g s o f = unless_cases (Fine c) (refusal s) m o (refused_fine c g m refl) (λ r. f (places_left s r))

  -- refused for a shortage, or done with the store as it was
  pub quiet_short : (c : Call) → handed c m ≡ None → timed_for (book es) c ≡ None → bounds_for (book es) c ≡ None → (s : Shortage) (left : Model) → left.store ≡ m.store → Fine c (unless (refusal s) m (done left))
  quiet_short c g t n s left e = short_fine c g s (done left) (λ _. quiet_fine c g t n left e)

  -- an event of no device is queued
  pub queue_fine : (c : Call) → handed c m ≡ None → timed_for (book es) c ≡ None → bounds_for (book es) c ≡ None → (x : EiEvent) → Plain x → not (fits 1 m.store) ≡ false → (left : Model) → left.store ≡ queue x m.store → Fine c (done left)
  queue_fine c g t n x p y left s = record { step = subst (Moves es v m c 0) (sym s) (queues_plain c g t n x p (not-false _ y)) }

  -- an untimed event of a device, in a model with the same store
  module _ (c : Call) (g : handed c m ≡ None) (t : timed_for (book es) c ≡ None) (u : server_time c ≡ None) (h : ℕ) (n : bounds_for (book es) c ≡ Some h) (r : (book es).retired h ≡ false) where
    pub untimed_fine : (x : EiEvent) → Plain x → no_places_for h m.store ≡ false → (left : Model) → left.store ≡ m.store → Fine c (untimed_queued v h x left)
    untimed_fine x p y left s = record { step = subst (λ l. Moves es v m c 0 (queue_framed (frame_of h left.serial v.reading) x l)) (sym s) (forces_frame c g t h n r u left.serial x p y) }

  -- of the live device of a number
  module _ (n : ℕ) (row : DeviceRow) (f : first (device_at n Live) m.devices ≡ Some row) where
    pub live_fine : (c : Call) → handed c m ≡ None → timed_for (book es) c ≡ None → server_time c ≡ None → bounds_for (book es) c ≡ (book es).live n → (x : EiEvent) → Plain x → (left : Model) → left.store ≡ m.store → Fine c (unless (refusal (of_places (no_places_for row.head.handle m.store))) m (untimed_queued v row.head.handle x left))
    live_fine c g t u b x p left s =
        short_fine c g (of_places (no_places_for row.head.handle m.store)) _ (λ y. untimed_fine c g t u row.head.handle (b ∙ live_is (book es) m k n row f) (live_current (book es) m k n row f) x p y left s)

  -- of a device that is being set up
  pub of_pending : (c : Call) → handed c m ≡ None → (n : ℕ) (f : DeviceRow → Outcome) → ((row : DeviceRow) → Fine c (f row)) → Fine c (of_pending_device n m f)
  of_pending c g n f fine = at_cases (Fine c) (first (device_at n Pending) m.devices) _ f (λ _. refused_fine c g _ refl _) (λ row _. fine row)
