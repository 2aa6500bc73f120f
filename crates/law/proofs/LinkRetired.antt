-- What is retired is never named again.
use Rattle.std.proofs.Common.{◌≡◌, ℕ, ◌≤◌, Bool, true, false, cond, not, eqb, ◌⊎◌, List, [], ◌∷◌, is_some, Some, None, filter, Option, sym, refl, ap, ◌∙◌, subst, inl, inr, ⊎_elim, arith}
use Rattle.std.proofs.ByRecursion.{All-weaker, all_kept_by, kept_by_passes}
use Rattle.std.proofs.lemmas.Bool.{cases_Bool, cases_lt, both_ways, not-true, cond-true, cond-false, eqb-true, ne_eqb, cond_both}
use Rattle.std.specs.List.{AllByRecursion}
use Rattle.ei.specs.Events.{handle_of, at_time}
use Rattle.ei.specs.Refusals.{answer_of}
use Rattle.ei.specs.declared.event.EiEvent.{EiEvent}
use Rattle.records.specs.Rows.{first, any, same_standing}
use Rattle.records.specs.declared.standing.Standing.TheVariants.{Detached}
use Rattle.store.specs.Moves.{Contents, is_device, of, not_of, named, names, some, others, discard, given}
use Rattle.tables.specs.Calls.{Call, retire_seat, retire_device}
use Rattle.tables.specs.Model.{Model, View, Outcome, at_some}
use Rattle.tables.specs.Outcomes.{handled}
use Rattle.tables.specs.Rules.{seat_by_handle, device_by_handle, device_retirable, seat_retirable, owns_any}
use Rattle.law.specs.Devices.{Retired, RetiredLaw, NeverNamedAgain}
use Rattle.law.specs.History.{Book, Entry, book}
use Rattle.law.specs.Runs.{Run, start, more}
use Rattle.law.proofs.Link.{Link}
use Rattle.law.proofs.LinkGiving.{giving}
use Rattle.law.proofs.LinkHeads.{both_of}
use Rattle.law.proofs.LinkOrder.{NoSeat, NoDevice, Waits, Orderly, somebody, handles_kept, seats_kept, devices_kept, order_start, order_step}
use Rattle.law.proofs.LinkRows.{Nobody, first_passes, none_some, all_both, without_itself}
use Rattle.law.proofs.LinkRuns.{run_link}
use Rattle.law.proofs.LinkStores.{Used, a_device, a_seat, the_next, no_handle_at_all, Stored, pending_stored, queued_stored, storing, handle_at_time}

-- no event of these names the handle
abbrev Silent : ℕ → List EiEvent → Type 0
Silent h es = AllByRecursion (λ e. eqb (handle_of e) h ≡ false) es

-- the handle was given, no row has it, and no event that is held names it
record Unused (h : ℕ) (m : Model) : Type 0 where
  positive : h ≡ 0 → ⊥
  given_once : h ≤ m.handles
  no_seat : NoSeat h m.seats
  no_device : NoDevice h m.devices
  none_pending : Silent h m.store.pending
  none_queued : Silent h m.store.queued

-- no event that is new names it
used_other : (h : ℕ) (m : Model) → Unused h m → (k : ℕ) → Used m k → eqb k h ≡ false
used_other h m u k (a_device t) = ne_eqb k h (λ e. somebody (device_by_handle h) m.devices (subst (λ j. any (device_by_handle j) m.devices ≡ true) e t) u.no_device)
used_other h m u k (a_seat t) = ne_eqb k h (λ e. somebody (seat_by_handle h) m.seats (subst (λ j. any (seat_by_handle j) m.seats ≡ true) e t) u.no_seat)
used_other h m u k (the_next n) = ne_eqb k h (λ e. let low = u.given_once in omega arith)
used_other h m u k (no_handle_at_all n) = ne_eqb k h (λ e. u.positive (sym e ∙ n))

-- every call leaves it unused
unused_step : (b : Book) (m : Model) → Link b m → (h : ℕ) → Unused h m → (v : View) (c : Call) → Unused h (handled v c m).after
unused_step b m l h u v c =
    let m' : Model = (handled v c m).after in
    let g = giving m v c in
    let st : Stored m m'.store = storing b m l v c in
    let P : EiEvent → Type 0 = λ e. eqb (handle_of e) h ≡ false in
    let timed : (t : ℕ) (e : EiEvent) → P e → P (at_time t e) = λ t e p. ap (λ k. eqb k h) (handle_at_time t e) ∙ p in
    let more : m.handles ≤ m'.handles = handles_kept m.handles m'.handles m.seats m'.seats m.devices m'.devices g in
    record {
      positive = u.positive;
      given_once = (let low = u.given_once in omega arith);
      no_seat = seats_kept m.handles m'.handles m.seats m'.seats m.devices m'.devices g h u.given_once u.no_seat;
      no_device = devices_kept m.handles m'.handles m.seats m'.seats m.devices m'.devices g h u.given_once u.no_device;
      none_pending = pending_stored P st (λ e _ t. timed 0 e (used_other h m u (handle_of e) (a_device t))) u.none_pending;
      none_queued = queued_stored P st timed (λ e w. used_other h m u (handle_of e) w) u.none_pending u.none_queued;
    }

-- Retiring.

-- a filter that keeps nothing lets nothing pass
none_kept : (p : EiEvent → Bool) (es : List EiEvent) → some (filter p es) ≡ false → AllByRecursion (λ e. p e ≡ false) es
none_kept p [] t = tt
none_kept p (e ∷ es) t =
    ⊎_elim
    (λ y. absurd (both_ways (some (filter p (e ∷ es))) t (ap some (cond-true (p e) _ _ y))))
    (λ n. (n, none_kept p es (sym (ap some (cond-false (p e) _ _ n)) ∙ t)))
    (cases_Bool (p e))

-- what no queued event names
unnamed : (h : ℕ) (c : Contents) → names h c ≡ false → Silent h c.queued
unfolding names named
unnamed h c t = none_kept (named h) c.queued t

-- the last part of a test
last_of : (p q : Bool) → cond p false (not q) ≡ true → q ≡ false
last_of true q t = absurd (both_ways false refl t)
last_of false q t = not-true q t

-- the row that is found by a handle has it
has_handle : (p : Bool) (k h : ℕ) → cond p false (eqb k h) ≡ true → k ≡ h
has_handle true k h t = absurd (both_ways false refl t)
has_handle false k h t = eqb-true k h t

-- a row that is found is somebody
found : {X : Type 0} (p : X → Bool) (xs : List X) (r : X) → first p xs ≡ Some r → Nobody p xs → ⊥
found p xs r e a = somebody p xs (ap is_some e) a

-- what is discarded waits no more
discarded_silent : (h : ℕ) (m : Model) → Orderly m → Silent h (discard h m.store).pending
unfolding discard others not_of of
discarded_silent h m o =
    All-weaker (λ e. Waits m.handles m.seats e × (not_of h e ≡ true)) _
    (λ e w. sym (ap (is_device h) w.0.device) ∙ not-true (of h e) w.1)
    (filter (not_of h) m.store.pending)
    (all_both _ _ (filter (not_of h) m.store.pending) (all_kept_by (not_of h) (Waits m.handles m.seats) m.store.pending o.waits) (kept_by_passes (not_of h) m.store.pending))

-- what is queued stays
discard_queued : (h : ℕ) (c : Contents) → (discard h c).queued ≡ c.queued
unfolding discard
discard_queued h c = refl

-- a call that is done leaves the handle unused
abbrev Leaves : ℕ → Outcome → Type 0
Leaves h o = answer_of o.answer ≡ 0 → Unused h o.after

-- by what there is
some_leaves : {X : Type 0} (h : ℕ) (w : Option X) (d : Outcome) (f : X → Outcome) → Leaves h d → ((x : X) → w ≡ Some x → Leaves h (f x)) → Leaves h (at_some w d f)
some_leaves h None d f n s = n
some_leaves h (Some x) d f n s = s x refl

-- retiring a device
retires_device : (m : Model) → Orderly m → (v : View) (h : ℕ) → Leaves h (handled v (retire_device h) m)
retires_device m o v h =
    some_leaves h (first (device_by_handle h) m.devices) _ _ (λ a. absurd (omega arith))
    (λ row e. cond_both (device_retirable row m.store) _ _ (Leaves h)
    (λ t _. let out : NoDevice h m.devices → ⊥ = found (device_by_handle h) m.devices row e in
    record {
      positive = λ z. out (o.devices_given h (inl z));
      given_once = ⊎_elim (λ high. absurd (out (o.devices_given h (inr high)))) (λ low. low) (cases_lt m.handles h);
      no_seat = ⊎_elim (λ x. x) (λ x. absurd (out x)) (o.apart h);
      no_device = without_itself (device_by_handle h) m.devices (o.one_device h);
      none_pending = discarded_silent h m o;
      none_queued = subst (Silent h) (sym (discard_queued h m.store)) (subst (λ k. Silent k m.store.queued) (has_handle _ row.head.handle h (first_passes (device_by_handle h) m.devices row e)) (unnamed row.head.handle m.store (last_of (owns_any row.list.entries) _ (both_of (same_standing row.head.standing Detached) _ t).1)));
    })
    (λ _ a. absurd (omega arith)))

-- retiring a seat
retires_seat : (m : Model) → Orderly m → (v : View) (h : ℕ) → Leaves h (handled v (retire_seat h) m)
retires_seat m o v h =
    some_leaves h (first (seat_by_handle h) m.seats) _ _ (λ a. absurd (omega arith))
    (λ row e. cond_both (seat_retirable row m) _ _ (Leaves h)
    (λ t _. let out : NoSeat h m.seats → ⊥ = found (seat_by_handle h) m.seats row e in
    record {
      positive = λ z. out (o.seats_given h (inl z));
      given_once = ⊎_elim (λ high. absurd (out (o.seats_given h (inr high)))) (λ low. low) (cases_lt m.handles h);
      no_seat = without_itself (seat_by_handle h) m.seats (o.one_seat h);
      no_device = ⊎_elim (λ x. absurd (out x)) (λ x. x) (o.apart h);
      none_pending = All-weaker (Waits m.handles m.seats) _ (λ w s. ne_eqb (handle_of w) h (λ z. out (subst (λ k. NoSeat k m.seats) z s.no_seat))) m.store.pending o.waits;
      none_queued = subst (λ k. Silent k m.store.queued) (has_handle _ row.head.handle h (first_passes (seat_by_handle h) m.seats row e)) (unnamed row.head.handle m.store (last_of (any (λ device. eqb device.seat row.head.handle) m.devices) _ (both_of (same_standing row.head.standing Detached) _ t).1));
    })
    (λ _ a. absurd (omega arith)))

-- Runs.

-- the order at every point
run_order : {es : List Entry} {m : Model} → Run es m → Orderly m
run_order (start s) = order_start s
run_order (more {es = es} {m = m} r v c) = order_step (book es) m (run_link r) (run_order r) v c

-- a handle as it is retired
retired_now : (m : Model) → Orderly m → (v : View) (c : Call) (h : ℕ) → (c ≡ retire_seat h) ⊎ (c ≡ retire_device h) → Leaves h (handled v c m)
retired_now m o v c h (inl e) = subst (λ x. Leaves h (handled v x m)) (sym e) (retires_seat m o v h)
retired_now m o v c h (inr e) = subst (λ x. Leaves h (handled v x m)) (sym e) (retires_device m o v h)

-- a retired handle is unused at every later point
run_retired : {es : List Entry} {m : Model} → Run es m → (h : ℕ) → Retired h es → Unused h m
run_retired (start s) h t = absurd t
run_retired (more {es = es} {m = m} r v c) h (inl now) = retired_now m (run_order r) v c h now.1 now.0
run_retired (more {es = es} {m = m} r v c) h (inr before) = unused_step (book es) m (run_link r) h (run_retired r h before) v c

-- so nothing that is held names it
pub retired_law : RetiredLaw
unfolding named
retired_law es m r h t = let u = run_retired r h t in (u.none_pending, u.none_queued)

-- what holds of all holds of the oldest
first_silent : (P : EiEvent → Type 0) (es : List EiEvent) (e : EiEvent) → AllByRecursion P es → Rattle.store.specs.Moves.first es ≡ Some e → P e
first_silent P [] e a is = absurd (none_some is)
first_silent P (x ∷ es) e a is = subst P (let same : Some x ≡ Some e = is in cc) a.0

-- nor does what is handed out
pub never_named_again : NeverNamedAgain
unfolding given
never_named_again es m r h t e is = first_silent (λ x. named h x ≡ false) m.store.queued e (retired_law es m r h t).1 is
