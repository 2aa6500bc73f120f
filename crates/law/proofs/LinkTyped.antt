-- A device that is live, or was, has a type.
use Rattle.std.proofs.Common.{◌≡◌, ℕ, Bool, true, List, [], ◌∷◌, ◌++◌, is_some, Some, None, sym, refl, ap, ◌∙◌, subst}
use Rattle.std.proofs.ByRecursion.{All-push, All-map}
use Rattle.std.proofs.lemmas.Bool.{both_ways}
use Rattle.std.specs.Option.{option_map}
use Rattle.std.specs.List.{AllByRecursion}
use Rattle.ei.specs.declared.object.Object.{Object}
use Rattle.records.specs.Devices.{new_device, device_taken, gone_live, superseded, destroyed}
use Rattle.records.specs.Owners.{owns_it, pending_lists}
use Rattle.records.specs.Rows.{first, changed, without, same_standing}
use Rattle.records.specs.declared.device.Detail.{Detail}
use Rattle.records.specs.declared.device.DeviceRow.{DeviceRow}
use Rattle.records.specs.declared.device.DeviceStep.TheVariants as steps
use Rattle.records.specs.declared.device.Stage.TheVariants as stages
use Rattle.records.specs.declared.standing.Standing.{Standing}
use Rattle.records.specs.declared.standing.Standing.TheVariants.{Pending, Live, Detached}
use Rattle.tables.specs.Calls.{Call, handshake, new_seat, ping, disconnected, invalid_object, callback_done, seat_name, seat_capability, seat_done, seat_device, seat_destroyed, device_name, device_type, device_dimensions, device_region, device_mapping_id, device_interface, device_done, device_speech, device_frame, device_destroyed, keymap, modifiers, act, object_destroyed, next_event, add_callback, bind, retire_seat, retire_device}
use Rattle.tables.specs.Model.{Model, View}
use Rattle.tables.specs.Outcomes.{handled}
use Rattle.tables.specs.Rules.{device_at, device_by_handle, device_steps, all_step, no_places_for, next_handle, no_handle}
use Rattle.law.specs.Devices.{Typed, TypedLaw}
use Rattle.law.specs.History.{Book, Entry, blank}
use Rattle.law.specs.Runs.{Run, start, more}
use Rattle.law.proofs.LinkForget.{forgetting}
use Rattle.law.proofs.LinkHeads.{live_settled}
use Rattle.law.proofs.LinkKept.{with_one, less}
use Rattle.law.proofs.LinkMoves.{stepped_as, type_of, pending_after}
use Rattle.law.proofs.LinkRows.{some_same, first_passes, all_without, all_changed_by}
use Rattle.law.proofs.LinkShapes.{Kept, shapes, some_kept, done_full}

-- only a device that is being set up is described
described_typed : (s : Standing) (d : Detail) (x : DeviceRow) → x.head.standing ≡ s → Typed x → Typed (device_taken s (stages.Setup d) x)
described_typed Pending d x e t = λ p. absurd (both_ways (same_standing x.head.standing Pending) p (ap (λ z. same_standing z Pending) e))
described_typed Live d x e t = t
described_typed Detached d x e t = t

-- a detail
detailed_typed : (q : DeviceRow → Bool) (d : Detail) (xs : List DeviceRow) → AllByRecursion Typed xs → AllByRecursion Typed (changed q (λ x. device_taken x.head.standing (stages.Setup d) x) xs)
detailed_typed q d xs a = all_changed_by Typed q _ xs (λ x _ t. described_typed x.head.standing d x refl t) a

-- an interface object
equipped_typed : (n : ℕ) (o : Object) (xs : List DeviceRow) → AllByRecursion Typed xs → AllByRecursion Typed (device_steps n Pending (steps.Take (stages.Interface o)) xs)
equipped_typed n o xs a = subst (AllByRecursion Typed) (sym (stepped_as n Pending (stages.Interface o) (with_one o) (λ x. refl) xs)) (all_changed_by Typed (device_at n Pending) (with_one o) xs (λ x _ t. t) a)

-- a new device is being set up
arrived_typed : (n seat : ℕ) (xs : List DeviceRow) → AllByRecursion Typed xs → AllByRecursion Typed (without (device_at n Pending) xs ++ (new_device n seat ∷ []))
arrived_typed n seat xs a = All-push Typed (without (device_at n Pending) xs) (new_device n seat) (all_without Typed (device_at n Pending) xs a) (λ p. absurd (both_ways true p refl))

-- the device that goes live has the type that was looked at
done_typed : (n h : ℕ) (row : DeviceRow) (xs : List DeviceRow) → AllByRecursion Typed xs → first (device_at n Pending) xs ≡ Some row → is_some (type_of row) ≡ true
    → AllByRecursion Typed (device_steps n Pending (steps.Take (stages.Done h)) (device_steps n Live (steps.Take (stages.Done h)) (all_step (steps.GiveUp row.list) xs)))
done_typed n h row xs a e typed =
    let q : DeviceRow → Bool = device_at n Pending in
    let live : DeviceRow → Bool = device_at n Live in
    let xs₁ : List DeviceRow = all_step (steps.GiveUp row.list) xs in
    let xs₂ : List DeviceRow = changed live superseded xs₁ in
    let a₂ : AllByRecursion Typed xs₂ = all_changed_by Typed live superseded xs₁ (λ x w t _. t (live_settled n x (first_passes live xs₁ x w))) (All-map Typed (less row.list) xs a) in
    let back : xs₂ ≡ device_steps n Live (steps.Take (stages.Done h)) xs₁ = sym (stepped_as n Live (stages.Done h) superseded (λ x. refl) xs₁) in
    let is : (x : DeviceRow) → first q xs₂ ≡ Some x → is_some (type_of x) ≡ true = λ x w. ap is_some (some_same (sym (ap (option_map type_of) w) ∙ (ap (λ zs. option_map type_of (first q zs)) back ∙ pending_after n h row xs e))) ∙ typed in
    subst (λ zs. AllByRecursion Typed (device_steps n Pending (steps.Take (stages.Done h)) zs)) back
    (subst (AllByRecursion Typed) (sym (stepped_as n Pending (stages.Done h) (gone_live h) (λ x. refl) xs₂)) (all_changed_by Typed q (gone_live h) xs₂ (λ x w _ _. is x w) a₂))

-- a destroyed device keeps its type
gone_typed : (n : ℕ) (row : DeviceRow) (xs : List DeviceRow) → AllByRecursion Typed xs → AllByRecursion Typed (device_steps n Live (steps.Take stages.Destroyed) (all_step (steps.GiveUp row.list) (without (device_at n Pending) xs)))
gone_typed n row xs a =
    let ys : List DeviceRow = all_step (steps.GiveUp row.list) (without (device_at n Pending) xs) in
    subst (AllByRecursion Typed) (sym (stepped_as n Live stages.Destroyed destroyed (λ x. refl) ys))
    (all_changed_by Typed (device_at n Live) destroyed ys (λ x w t _. t (live_settled n x (first_passes (device_at n Live) ys x w))) (All-map Typed (less row.list) (without (device_at n Pending) xs) (all_without Typed (device_at n Pending) xs a)))

-- all rows, whatever the book says
abbrev AllTyped : Book → Model → Type 0
AllTyped b m = AllByRecursion Typed m.devices

-- call by call
typed_step : (b : Book) (m : Model) → AllByRecursion Typed m.devices → (v : View) (c : Call) → Kept AllTyped b c (handled v c m)
typed_step b m a v handshake = record { kept = a }
typed_step b m a v (new_seat n) = search shapes
typed_step b m a v (ping n) = search shapes
typed_step b m a v (disconnected n x y) = search shapes
typed_step b m a v invalid_object = record { kept = a }
typed_step b m a v (callback_done n x) = search shapes
typed_step b m a v (seat_name n t) = search shapes
typed_step b m a v (seat_capability n mask kind) = search shapes
typed_step b m a v (seat_done n) = search shapes
typed_step b m a v (seat_device s n) = let told : (seat : ℕ) → _ = λ seat. arrived_typed n seat m.devices a in search shapes
typed_step b m a v (seat_destroyed n s) = search shapes
typed_step b m a v (device_name n t) = let told = λ (d : Detail). detailed_typed (device_at n Pending) d m.devices a in search shapes
typed_step b m a v (device_type n t) = let told = λ (d : Detail). detailed_typed (device_at n Pending) d m.devices a in search shapes
typed_step b m a v (device_dimensions n x y) = let told = λ (d : Detail). detailed_typed (device_at n Pending) d m.devices a in search shapes
typed_step b m a v (device_region n r) = let told = λ (d : Detail). detailed_typed (device_at n Pending) d m.devices a in search shapes
typed_step b m a v (device_mapping_id n t) = let told = λ (d : Detail). detailed_typed (device_at n Pending) d m.devices a in search shapes
typed_step b m a v (device_interface n None) = search shapes
typed_step b m a v (device_interface n (Some o)) = let told = equipped_typed n o m.devices a in search shapes
typed_step b m a v (device_done n) =
    some_kept AllTyped b (device_done n) (first (device_at n Pending) m.devices) _ _ (λ _. record { kept = a })
    (λ row e. some_kept AllTyped b (device_done n) (type_of row) _ _ (λ _. record { kept = all_without Typed (device_at n Pending) m.devices a })
    (λ t is. done_full AllTyped b m a n (no_places_for (next_handle m) m.store) (no_handle m) _ (record { kept = done_typed n (next_handle m) row m.devices a e (ap is_some is) })))
typed_step b m a v (device_speech n s x) = search shapes
typed_step b m a v (device_frame n s t) = search shapes
typed_step b m a v (device_destroyed n s) =
    let live = λ (row : DeviceRow). gone_typed n row m.devices a in
    let none = all_without Typed (device_at n Pending) m.devices a in
    search shapes
typed_step b m a v (keymap n k) = let told = λ (d : Detail). detailed_typed (pending_lists n) d m.devices a in search shapes
typed_step b m a v (modifiers n s x) = search shapes
typed_step b m a v (act o x) = search shapes
typed_step b m a v (object_destroyed o s) = let gone = all_changed_by Typed (owns_it o) (forgetting o.kind) m.devices (λ x _ t. t) a in search shapes
typed_step b m a v next_event = record { kept = a }
typed_step b m a v (add_callback n t) = search shapes
typed_step b m a v (bind h bits) = search shapes
typed_step b m a v (retire_seat h) = search shapes
typed_step b m a v (retire_device h) = let gone = all_without Typed (device_by_handle h) m.devices a in search shapes

-- at every point of a run
pub typed_law : TypedLaw
typed_law es m r = go r
  where
    go : {es : List Entry} {m : Model} → Run es m → AllByRecursion Typed m.devices
    go (start s) = tt
    go (more {m = m} r v c) = (typed_step blank m (go r) v c).kept
