-- Which handles each call gives: a seat's Done one to a seat, a device's Done one to a device, any other none.
use Rattle.std.proofs.Common.{◌≡◌, ℕ, ◌+◌, Bool, true, false, cond, eqb, List, [], ◌∷◌, ◌++◌, Some, None, sym, refl, ap, ◌∙◌, subst}
use Rattle.std.specs.Option.{option_map}
use Rattle.ei.specs.declared.object.Object.{Object}
use Rattle.records.specs.Devices.{new_device, device_taken, gone_live, superseded, destroyed}
use Rattle.records.specs.Owners.{owns_it, pending_lists}
use Rattle.records.specs.Rows.{first, any, changed, without, same_standing}
use Rattle.records.specs.Seats.{seat_taken, seat_set_up, seat_with_head}
use Rattle.records.specs.Seats as seats
use Rattle.records.specs.Heads.{live_head, detached_head}
use Rattle.records.specs.declared.device.Detail.{Detail}
use Rattle.records.specs.declared.device.DeviceRow.{DeviceRow}
use Rattle.records.specs.declared.device.DeviceStep.TheVariants as steps
use Rattle.records.specs.declared.device.Stage.TheVariants as stages
use Rattle.records.specs.declared.seat.SeatRow.{SeatRow}
use Rattle.records.specs.declared.seat.SeatSetup.{SeatSetup}
use Rattle.records.specs.declared.seat.SeatSetup.TheVariants as setups
use Rattle.records.specs.declared.seat.SeatStep.{SeatStep}
use Rattle.records.specs.declared.seat.SeatStep.TheVariants as seat_stages
use Rattle.records.specs.declared.standing.Standing.{Standing}
use Rattle.records.specs.declared.standing.Standing.TheVariants.{Pending, Live}
use Rattle.tables.specs.Calls.{Call, handshake, new_seat, ping, disconnected, invalid_object, callback_done, seat_name, seat_capability, seat_done, seat_device, seat_destroyed, device_name, device_type, device_dimensions, device_region, device_mapping_id, device_interface, device_done, device_speech, device_frame, device_destroyed, keymap, modifiers, act, object_destroyed, next_event, add_callback, bind, retire_seat, retire_device}
use Rattle.tables.specs.Model.{Model, View}
use Rattle.tables.specs.Outcomes.{handled}
use Rattle.tables.specs.Rules.{seat_at, seat_by_handle, seat_steps, device_at, device_by_handle, device_steps, all_step, no_places_for, next_handle, no_handle}
use Rattle.law.specs.History.{Book, blank}
use Rattle.law.proofs.LinkForget.{forgetting}
use Rattle.law.proofs.LinkHeads.{stepped_by, at_standing, pending_first, live_settled, by_own_handle, same_by_handle}
use Rattle.law.proofs.LinkKept.{with_one, less}
use Rattle.law.proofs.LinkMoves.{stepped_as, detail_head, type_of, pending_after}
use Rattle.law.proofs.LinkRows.{some_any, mapped_some, first_passes, all_here, each_map, each_changed}
use Rattle.law.proofs.LinkShapes.{Kept, shapes, some_kept, done_full}
use Rattle.law.proofs.LinkTurns.{Still, stay, tame, drop, push, both, Given, given}

-- Devices.

-- no device gains a handle
abbrev DevicesStill : List DeviceRow → List DeviceRow → Type 0
DevicesStill = Still device_by_handle

-- the same handles find the row
abbrev SameHandles : DeviceRow → DeviceRow → Type 0
SameHandles x y = (h : ℕ) → device_by_handle h y ≡ device_by_handle h x

-- a detail, an interface object, a new device, objects given up
detailed_still : (q : DeviceRow → Bool) (d : Detail) (xs : List DeviceRow) → DevicesStill xs (changed q (λ x. device_taken x.head.standing (stages.Setup d) x) xs)
detailed_still q d xs = tame (each_changed SameHandles q _ (λ x h. refl) xs (λ x _ h. same_by_handle h x (device_taken x.head.standing (stages.Setup d) x) (detail_head x.head.standing d x)))

equipped_still : (n : ℕ) (o : Object) (xs : List DeviceRow) → DevicesStill xs (device_steps n Pending (steps.Take (stages.Interface o)) xs)
equipped_still n o xs = subst (DevicesStill xs) (sym (stepped_as n Pending (stages.Interface o) (with_one o) (λ x. refl) xs)) (tame (each_changed SameHandles (device_at n Pending) (with_one o) (λ x h. refl) xs (λ x _ h. refl)))

arrived_still : (n seat : ℕ) (xs : List DeviceRow) → DevicesStill xs (without (device_at n Pending) xs ++ (new_device n seat ∷ []))
arrived_still n seat xs = both (drop (device_at n Pending)) (push (new_device n seat) (λ h. refl))

given_up_still : (row : DeviceRow) (xs : List DeviceRow) → DevicesStill xs (all_step (steps.GiveUp row.list) xs)
given_up_still row xs = tame (each_map SameHandles (less row.list) xs (all_here _ (λ x h. refl) xs))

-- a live device that is detached has its handle
detached_still : (n : ℕ) (f : DeviceRow → DeviceRow) → ((x : DeviceRow) → (f x).head ≡ detached_head x.head) → (xs : List DeviceRow) → DevicesStill xs (changed (device_at n Live) f xs)
detached_still n f heads xs =
    tame (each_changed SameHandles (device_at n Live) f (λ x h. refl) xs
    (λ x w h. ap (λ z. cond (same_standing z.standing Pending) false (eqb z.handle h)) (heads x) ∙ sym (by_own_handle h x (live_settled n x (first_passes (device_at n Live) xs x w)))))

-- a device is destroyed
gone_still : (n : ℕ) (row : DeviceRow) (xs : List DeviceRow) → DevicesStill xs (device_steps n Live (steps.Take stages.Destroyed) (all_step (steps.GiveUp row.list) (without (device_at n Pending) xs)))
gone_still n row xs =
    let ys : List DeviceRow = all_step (steps.GiveUp row.list) (without (device_at n Pending) xs) in
    both (drop (device_at n Pending)) (both (given_up_still row (without (device_at n Pending) xs))
    (subst (DevicesStill ys) (sym (stepped_as n Live stages.Destroyed destroyed (λ x. refl) ys)) (detached_still n destroyed (λ x. refl) ys)))

-- a device makes way for the next of its number
superseded_still : (n h : ℕ) (row : DeviceRow) (xs : List DeviceRow) → DevicesStill xs (device_steps n Live (steps.Take (stages.Done h)) (all_step (steps.GiveUp row.list) xs))
superseded_still n h row xs =
    let ys : List DeviceRow = all_step (steps.GiveUp row.list) xs in
    both (given_up_still row xs) (subst (DevicesStill ys) (sym (stepped_as n Live (stages.Done h) superseded (λ x. refl) ys)) (detached_still n superseded (λ x. refl) ys))

-- the device that is done has the next handle
done_given : (n h : ℕ) (row : DeviceRow) (xs : List DeviceRow) → first (device_at n Pending) xs ≡ Some row
    → Given device_by_handle h xs (device_steps n Pending (steps.Take (stages.Done h)) (device_steps n Live (steps.Take (stages.Done h)) (all_step (steps.GiveUp row.list) xs)))
done_given n h row xs e =
    let ys : List DeviceRow = device_steps n Live (steps.Take (stages.Done h)) (all_step (steps.GiveUp row.list) xs) in
    let found = mapped_some type_of (first (device_at n Pending) ys) (type_of row) (pending_after n h row xs e) in
    subst (Given device_by_handle h xs) (sym (stepped_as n Pending (stages.Done h) (gone_live h) (λ x. refl) ys))
    (given (device_at n Pending) (gone_live h) found.0 (superseded_still n h row xs) found.1 (λ k. refl))

-- Seats.

-- a seat by its parts
abbrev number_of : SeatRow → ℕ
number_of row = row.head.number

abbrev stands : SeatRow → Standing
stands row = row.head.standing

-- a live seat, once detached
abbrev superseded_seat : SeatRow → SeatRow
superseded_seat x = seat_with_head (detached_head x.head) x

-- no seat gains a handle
abbrev SeatsStill : List SeatRow → List SeatRow → Type 0
SeatsStill = Still seat_by_handle

-- the same handles find the seat
abbrev SameSeat : SeatRow → SeatRow → Type 0
SameSeat x y = (h : ℕ) → seat_by_handle h y ≡ seat_by_handle h x

-- a seat of a standing takes a step as that standing does
seat_stepped_as : (n : ℕ) (s : Standing) (step : SeatStep) (f : SeatRow → SeatRow) → ((x : SeatRow) → seat_taken s step x ≡ f x) → (xs : List SeatRow) → seat_steps n s step xs ≡ changed (seat_at n s) f xs
seat_stepped_as n s step f same xs = stepped_by number_of stands (λ z x. seat_taken z step x) n s f same xs

-- what is said of a seat leaves its head
set_up_head : (x : SeatSetup) (row : SeatRow) → (seat_set_up x row).head ≡ row.head
set_up_head (setups.Name t) row = refl
set_up_head (setups.Capability c m) row = refl

-- what is said of a seat, a new seat
seat_told_still : (n : ℕ) (x : SeatSetup) (xs : List SeatRow) → SeatsStill xs (seat_steps n Pending (seat_stages.Setup x) xs)
seat_told_still n x xs =
    subst (SeatsStill xs) (sym (seat_stepped_as n Pending (seat_stages.Setup x) (seat_set_up x) (λ _. refl) xs))
    (tame (each_changed SameSeat (seat_at n Pending) (seat_set_up x) (λ _ h. refl) xs (λ row _ h. ap (λ z. cond (same_standing z.standing Pending) false (eqb z.handle h)) (set_up_head x row))))

seat_arrived_still : (n : ℕ) (xs : List SeatRow) → SeatsStill xs (without (seat_at n Pending) xs ++ (seats.new_seat n ∷ []))
seat_arrived_still n xs = both (drop (seat_at n Pending)) (push (seats.new_seat n) (λ h. refl))

-- a live seat that is detached has its handle
seat_detached_still : (n : ℕ) (step : SeatStep) → ((x : SeatRow) → seat_taken Live step x ≡ superseded_seat x) → (xs : List SeatRow) → SeatsStill xs (seat_steps n Live step xs)
seat_detached_still n step is xs =
    subst (SeatsStill xs) (sym (seat_stepped_as n Live step superseded_seat is xs))
    (tame (each_changed SameSeat (seat_at n Live) superseded_seat (λ _ h. refl) xs
    (λ x w h. sym (ap (λ z. cond (same_standing z Pending) false (eqb x.head.handle h)) (at_standing number_of stands n Live x (first_passes (seat_at n Live) xs x w))))))

-- a seat is destroyed
seat_gone_still : (n : ℕ) (xs : List SeatRow) → SeatsStill xs (seat_steps n Live seat_stages.Destroyed (without (seat_at n Pending) xs))
seat_gone_still n xs = both (drop (seat_at n Pending)) (seat_detached_still n seat_stages.Destroyed (λ x. refl) (without (seat_at n Pending) xs))

-- the seat that is done has the next handle
seat_done_given : (n h : ℕ) (xs : List SeatRow) → any (seat_at n Pending) xs ≡ true → Given seat_by_handle h xs (seat_steps n Pending (seat_stages.Done h) (seat_steps n Live (seat_stages.Done h) xs))
seat_done_given n h xs t =
    let q : SeatRow → Bool = seat_at n Pending in
    let ys : List SeatRow = seat_steps n Live (seat_stages.Done h) xs in
    let was = some_any (first q xs) t in
    let found = mapped_some number_of (first q ys) (number_of was.0)
    (ap (λ zs. option_map number_of (first q zs)) (seat_stepped_as n Live (seat_stages.Done h) superseded_seat (λ x. refl) xs)
    ∙ (pending_first number_of stands superseded_seat number_of (λ x. refl) n xs ∙ ap (option_map number_of) was.1)) in
    subst (Given seat_by_handle h xs) (sym (seat_stepped_as n Pending (seat_stages.Done h) (λ x. seat_with_head (live_head h x.head) x) (λ x. refl) ys))
    (given q (λ x. seat_with_head (live_head h x.head) x) found.0 (seat_detached_still n (seat_stages.Done h) (λ x. refl) xs) found.1 (λ k. refl))

-- What a call gives.

pub data Giving (hs : ℕ) (ss : List SeatRow) (ds : List DeviceRow) (hs' : ℕ) (ss' : List SeatRow) (ds' : List DeviceRow) : Type 0 where
  none : Still seat_by_handle ss ss' → Still device_by_handle ds ds' → hs' ≡ hs → Giving hs ss ds hs' ss' ds'
  to_seat : Given seat_by_handle (hs + 1) ss ss' → Still device_by_handle ds ds' → hs' ≡ hs + 1 → Giving hs ss ds hs' ss' ds'
  to_device : Still seat_by_handle ss ss' → Given device_by_handle (hs + 1) ds ds' → hs' ≡ hs + 1 → Giving hs ss ds hs' ss' ds'

-- what stands after a call, beside what stood before
abbrev pub Gives : Model → Book → Model → Type 0
Gives m b m' = Giving m.handles m.seats m.devices m'.handles m'.seats m'.devices

-- only one table is changed
seats_only : (m : Model) {ss : List SeatRow} → Still seat_by_handle m.seats ss → Giving m.handles m.seats m.devices m.handles ss m.devices
seats_only m s = none s stay refl

devices_only : (m : Model) {ds : List DeviceRow} → Still device_by_handle m.devices ds → Giving m.handles m.seats m.devices m.handles m.seats ds
devices_only m s = none stay s refl

-- a detail of a device that is found by a test
told : (m : Model) (q : DeviceRow → Bool) (d : Detail) → Giving m.handles m.seats m.devices m.handles m.seats (changed q (λ x. device_taken x.head.standing (stages.Setup d) x) m.devices)
told m q d = devices_only m (detailed_still q d m.devices)

-- what is said of a seat
seat_told : (m : Model) (n : ℕ) (x : SeatSetup) → Giving m.handles m.seats m.devices m.handles (seat_steps n Pending (seat_stages.Setup x) m.seats) m.devices
seat_told m n x = seats_only m (seat_told_still n x m.seats)

-- a seat is done
seat_lives : (m : Model) (n : ℕ) → any (seat_at n Pending) m.seats ≡ true → Giving m.handles m.seats m.devices (next_handle m) (seat_steps n Pending (seat_stages.Done (next_handle m)) (seat_steps n Live (seat_stages.Done (next_handle m)) m.seats)) m.devices
seat_lives m n t = to_seat (seat_done_given n (next_handle m) m.seats t) stay refl

-- call by call
giving_step : (b : Book) (m : Model) → Gives m b m → (v : View) (c : Call) → Kept (Gives m) b c (handled v c m)
giving_step b m q v handshake = record { kept = q }
giving_step b m q v (new_seat n) = let new = seats_only m (seat_arrived_still n m.seats) in search shapes
giving_step b m q v (ping n) = search shapes
giving_step b m q v (disconnected n x y) = search shapes
giving_step b m q v invalid_object = record { kept = q }
giving_step b m q v (callback_done n x) = search shapes
giving_step b m q v (seat_name n t) = let to = seat_told m n in search shapes
giving_step b m q v (seat_capability n mask kind) = let to = seat_told m n in search shapes
giving_step b m q v (seat_done n) =
    let live = seat_lives m n in
    search shapes
giving_step b m q v (seat_device s n) = let new = λ (seat : ℕ). devices_only m (arrived_still n seat m.devices) in search shapes
giving_step b m q v (seat_destroyed n s) =
    let pending = seats_only m (drop (seat_at n Pending)) in
    let live = seats_only m (seat_gone_still n m.seats) in
    search shapes
giving_step b m q v (device_name n t) = let to = told m (device_at n Pending) in search shapes
giving_step b m q v (device_type n t) = let to = told m (device_at n Pending) in search shapes
giving_step b m q v (device_dimensions n x y) = let to = told m (device_at n Pending) in search shapes
giving_step b m q v (device_region n r) = let to = told m (device_at n Pending) in search shapes
giving_step b m q v (device_mapping_id n t) = let to = told m (device_at n Pending) in search shapes
giving_step b m q v (device_interface n None) = search shapes
giving_step b m q v (device_interface n (Some o)) = let to = devices_only m (equipped_still n o m.devices) in search shapes
giving_step b m q v (device_done n) =
    some_kept (Gives m) b (device_done n) (first (device_at n Pending) m.devices) _ _ (λ _. record { kept = q })
    (λ row e. some_kept (Gives m) b (device_done n) (type_of row) _ _ (λ _. record { kept = devices_only m (drop (device_at n Pending)) })
    (λ _ _. done_full (Gives m) b m q n (no_places_for (next_handle m) m.store) (no_handle m) _ (record { kept = to_device stay (done_given n (next_handle m) row m.devices e) refl })))
giving_step b m q v (device_speech n s x) = search shapes
giving_step b m q v (device_frame n s t) = search shapes
giving_step b m q v (device_destroyed n s) =
    let pending = devices_only m (drop (device_at n Pending)) in
    let live = λ (row : DeviceRow). devices_only m (gone_still n row m.devices) in
    search shapes
giving_step b m q v (keymap n k) = let to = told m (pending_lists n) in search shapes
giving_step b m q v (modifiers n s x) = search shapes
giving_step b m q v (act o x) = search shapes
giving_step b m q v (object_destroyed o s) =
    let gone = devices_only m (tame (each_changed SameHandles (owns_it o) (forgetting o.kind) (λ x h. refl) m.devices (λ x _ h. refl))) in
    search shapes
giving_step b m q v next_event = record { kept = q }
giving_step b m q v (add_callback n t) = search shapes
giving_step b m q v (bind h bits) = search shapes
giving_step b m q v (retire_seat h) = let gone = seats_only m (drop (seat_by_handle h)) in search shapes
giving_step b m q v (retire_device h) = let gone = devices_only m (drop (device_by_handle h)) in search shapes

-- what a call gives
pub giving : (m : Model) (v : View) (c : Call) → Gives m blank (handled v c m).after
giving m v c = (giving_step blank m (none stay stay refl) v c).kept
