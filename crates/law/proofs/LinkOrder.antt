-- Handles in order: each was given once, to a seat or to a device, and what waits is of devices.
use Rattle.std.proofs.Common.{◌≡◌, ℕ, ◌+◌, ◌<◌, ◌≤◌, Bool, true, false, eqb, ◌⊎◌, List, is_some, Some, sym, ap, ◌∙◌, subst, inl, inr, ⊎_elim, arith}
use Rattle.std.proofs.ByRecursion.{All-weaker}
use Rattle.std.proofs.lemmas.Bool.{cases_Bool, cases_lt, both_ways, eqb-true, ne_eqb}
use Rattle.std.specs.List.{AllByRecursion}
use Rattle.ei.specs.Events.{device_of, handle_of, at_time}
use Rattle.ei.specs.declared.event.EiEvent.{EiEvent}
use Rattle.records.specs.Rows.{any}
use Rattle.records.specs.declared.device.DeviceRow.{DeviceRow}
use Rattle.records.specs.declared.seat.SeatRow.{SeatRow}
use Rattle.store.proofs.Handles.{device_at_time}
use Rattle.tables.specs.Calls.{Call}
use Rattle.tables.specs.Model.{Model, View, fresh}
use Rattle.tables.specs.Outcomes.{handled}
use Rattle.tables.specs.Rules.{seat_by_handle, device_by_handle}
use Rattle.law.specs.History.{Book, blank}
use Rattle.law.proofs.Link.{Link}
use Rattle.law.proofs.LinkGiving.{Giving, none, to_seat, to_device, Gives, giving}
use Rattle.law.proofs.LinkRows.{Nobody, Lone, nobody_first}
use Rattle.law.proofs.LinkStores.{Stored, pending_stored, storing, handle_at_time}
use Rattle.law.proofs.LinkTurns.{Still, Given, nobody_still, lone_still, nobody_given, lone_given}

-- no seat, no device has the handle
abbrev pub NoSeat : ℕ → List SeatRow → Type 0
NoSeat h ss = Nobody (seat_by_handle h) ss

abbrev pub NoDevice : ℕ → List DeviceRow → Type 0
NoDevice h ds = Nobody (device_by_handle h) ds

-- the handle was not given so far
abbrev Ungiven : ℕ → ℕ → Type 0
Ungiven hs h = (h ≡ 0) ⊎ (hs < h)

-- an event that waits is of a device's handle
pub record Waits (hs : ℕ) (ss : List SeatRow) (e : EiEvent) : Type 0 where
  pub device : device_of e ≡ Some (handle_of e)
  pub given : handle_of e ≤ hs
  pub no_seat : NoSeat (handle_of e) ss

pub record Orderly (m : Model) : Type 0 where
  pub seats_given : (h : ℕ) → Ungiven m.handles h → NoSeat h m.seats
  pub devices_given : (h : ℕ) → Ungiven m.handles h → NoDevice h m.devices
  pub one_seat : (h : ℕ) → Lone (seat_by_handle h) m.seats
  pub one_device : (h : ℕ) → Lone (device_by_handle h) m.devices
  pub apart : (h : ℕ) → NoSeat h m.seats ⊎ NoDevice h m.devices
  pub waits : AllByRecursion (Waits m.handles m.seats) m.store.pending

-- a row that is found is somebody
pub somebody : {X : Type 0} (p : X → Bool) (xs : List X) → any p xs ≡ true → Nobody p xs → ⊥
somebody p xs t a = both_ways (any p xs) (ap is_some (nobody_first p xs a)) t

-- a handle that was given is not the next
pub not_next : (hs h : ℕ) → h ≤ hs → eqb (hs + 1) h ≡ false
not_next hs h low = ne_eqb (hs + 1) h (λ e. omega arith)

-- nor is one that is not given even then
not_next_still : (hs h : ℕ) → Ungiven (hs + 1) h → eqb (hs + 1) h ≡ false
not_next_still hs h (inl e) = ne_eqb (hs + 1) h (λ w. omega arith)
not_next_still hs h (inr l) = ne_eqb (hs + 1) h (λ w. omega arith)

-- what is not given was not given
ungiven_before : (hs hs' h : ℕ) → hs ≤ hs' → Ungiven hs' h → Ungiven hs h
ungiven_before hs hs' h low (inl e) = inl e
ungiven_before hs hs' h low (inr l) = inr (omega arith)

-- One table, as handles are given.

-- the rows are still, or one gains the next handle
abbrev Grown : {X : Type 0} → (ℕ → X → Bool) → ℕ → ℕ → List X → List X → Type 0
Grown has hs hs' xs ys = (Still has xs ys × (hs ≤ hs')) ⊎ (Given has (hs + 1) xs ys × (hs' ≡ hs + 1))

module _ {X : Type 0} (has : ℕ → X → Bool) (hs hs' : ℕ) (xs ys : List X) where
  grown_kept : Grown has hs hs' xs ys → (h : ℕ) → eqb (hs + 1) h ≡ false → Nobody (has h) xs → Nobody (has h) ys
  grown_kept (inl s) h ne a = nobody_still s.0 h a
  grown_kept (inr g) h ne a = nobody_given g.0 h ne a

  -- what is not given is nobody's
  grown_given : Grown has hs hs' xs ys → ((h : ℕ) → Ungiven hs h → Nobody (has h) xs) → (h : ℕ) → Ungiven hs' h → Nobody (has h) ys
  grown_given (inl s) free h u = nobody_still s.0 h (free h (ungiven_before hs hs' h s.1 u))
  grown_given (inr g) free h u =
      let now : Ungiven (hs + 1) h = subst (λ k. Ungiven k h) g.1 u in
      nobody_given g.0 h (not_next_still hs h now) (free h (ungiven_before hs (hs + 1) h (omega arith) now))

  -- a handle is one row's
  grown_lone : Grown has hs hs' xs ys → ((h : ℕ) → Ungiven hs h → Nobody (has h) xs) → ((h : ℕ) → Lone (has h) xs) → (h : ℕ) → Lone (has h) ys
  grown_lone (inl s) free one h = lone_still s.0 h (one h)
  grown_lone (inr g) free one h = lone_given g.0 (free (hs + 1) (inr (omega arith))) h (one h)

-- Both tables.

module _ (hs hs' : ℕ) (ss ss' : List SeatRow) (ds ds' : List DeviceRow) where
  pub handles_kept : Giving hs ss ds hs' ss' ds' → hs ≤ hs'
  handles_kept (none s d e) = omega arith
  handles_kept (to_seat s d e) = omega arith
  handles_kept (to_device s d e) = omega arith

  -- each table by itself
  seats_grown : Giving hs ss ds hs' ss' ds' → Grown seat_by_handle hs hs' ss ss'
  seats_grown (none s d e) = inl (s, omega arith)
  seats_grown (to_seat s d e) = inr (s, e)
  seats_grown (to_device s d e) = inl (s, omega arith)

  devices_grown : Giving hs ss ds hs' ss' ds' → Grown device_by_handle hs hs' ds ds'
  devices_grown (none s d e) = inl (d, omega arith)
  devices_grown (to_seat s d e) = inl (d, omega arith)
  devices_grown (to_device s d e) = inr (d, e)

  -- a handle that was given before is nobody's who did not have it
  pub seats_kept : Giving hs ss ds hs' ss' ds' → (h : ℕ) → h ≤ hs → NoSeat h ss → NoSeat h ss'
  seats_kept g h low = grown_kept seat_by_handle hs hs' ss ss' (seats_grown g) h (not_next hs h low)

  -- and so among the devices
  pub devices_kept : Giving hs ss ds hs' ss' ds' → (h : ℕ) → h ≤ hs → NoDevice h ds → NoDevice h ds'
  devices_kept g h low = grown_kept device_by_handle hs hs' ds ds' (devices_grown g) h (not_next hs h low)

  -- one handle is given to one row
  still_apart : Giving hs ss ds hs' ss' ds' → ((h : ℕ) → Ungiven hs h → NoSeat h ss) → ((h : ℕ) → Ungiven hs h → NoDevice h ds) → (h : ℕ) → NoSeat h ss ⊎ NoDevice h ds → NoSeat h ss' ⊎ NoDevice h ds'
  still_apart (none s d e) no_seats no_devices h a = ⊎_elim (λ x. inl (nobody_still s h x)) (λ x. inr (nobody_still d h x)) a
  still_apart (to_seat s d e) no_seats no_devices h a =
      ⊎_elim
      (λ t. inr (nobody_still d h (no_devices h (inr (let same = eqb-true (hs + 1) h t in omega arith)))))
      (λ t. ⊎_elim (λ x. inl (nobody_given s h t x)) (λ x. inr (nobody_still d h x)) a)
      (cases_Bool (eqb (hs + 1) h))
  still_apart (to_device s d e) no_seats no_devices h a =
      ⊎_elim
      (λ t. inl (nobody_still s h (no_seats h (inr (let same = eqb-true (hs + 1) h t in omega arith)))))
      (λ t. ⊎_elim (λ x. inl (nobody_still s h x)) (λ x. inr (nobody_given d h t x)) a)
      (cases_Bool (eqb (hs + 1) h))

-- Every call keeps the order.

-- a new converter has given nothing
pub order_start : (s : ℕ) → Orderly (fresh s)
order_start s = record { seats_given = λ _ _. tt; devices_given = λ _ _. tt; one_seat = λ _. tt; one_device = λ _. tt; apart = λ _. inl tt; waits = tt }

-- a device's handle was given, and is no seat's
device_handle : (m : Model) → Orderly m → (h : ℕ) → any (device_by_handle h) m.devices ≡ true → (h ≤ m.handles) × NoSeat h m.seats
device_handle m o h t = (
  ⊎_elim (λ high. absurd (somebody (device_by_handle h) m.devices t (o.devices_given h (inr high)))) (λ low. low) (cases_lt m.handles h),
  ⊎_elim (λ x. x) (λ x. absurd (somebody (device_by_handle h) m.devices t x)) (o.apart h),
)

-- what a call gives and stores keeps the order
order_turn : (m m' : Model) → Orderly m → Gives m blank m' → Stored m m'.store → Orderly m'
order_turn m m' o g st =
    let seats = seats_grown m.handles m'.handles m.seats m'.seats m.devices m'.devices g in
    let devices = devices_grown m.handles m'.handles m.seats m'.seats m.devices m'.devices g in
    let kept = seats_kept m.handles m'.handles m.seats m'.seats m.devices m'.devices g in
    let more = handles_kept m.handles m'.handles m.seats m'.seats m.devices m'.devices g in
    record {
      seats_given = grown_given seat_by_handle m.handles m'.handles m.seats m'.seats seats o.seats_given;
      devices_given = grown_given device_by_handle m.handles m'.handles m.devices m'.devices devices o.devices_given;
      one_seat = grown_lone seat_by_handle m.handles m'.handles m.seats m'.seats seats o.seats_given o.one_seat;
      one_device = grown_lone device_by_handle m.handles m'.handles m.devices m'.devices devices o.devices_given o.one_device;
      apart = λ h. still_apart m.handles m'.handles m.seats m'.seats m.devices m'.devices g o.seats_given o.devices_given h (o.apart h);
      waits = pending_stored (Waits m'.handles m'.seats) st
          (λ e d t. let whose = device_handle m o (handle_of e) t in
          let at : handle_of (at_time 0 e) ≡ handle_of e = handle_at_time 0 e in
          record {
            device = device_at_time 0 e ∙ (d ∙ ap Some (sym at));
            given = subst (λ h. h ≤ m'.handles) (sym at) (let low = whose.0 in omega arith);
            no_seat = subst (λ h. NoSeat h m'.seats) (sym at) (kept (handle_of e) whose.0 whose.1);
          })
          (All-weaker (Waits m.handles m.seats) _ (λ e w. record { device = w.device; given = (let low = w.given in omega arith); no_seat = kept (handle_of e) w.given w.no_seat }) m.store.pending o.waits);
    }

-- and so each call
pub order_step : (b : Book) (m : Model) → Link b m → Orderly m → (v : View) (c : Call) → Orderly (handled v c m).after
order_step b m l o v c = order_turn m (handled v c m).after o (giving m v c) (storing b m l v c)
