-- The calls that queue nothing, press nothing and bound nothing.
use Rattle.std.proofs.Common.{◌≡◌, ℕ, not, eqb, ltb, List, length, None, Option, refl}
use Rattle.std.proofs.lemmas.Bool.{cond_both}
use Rattle.ei.specs.declared.capability.DeviceCapability.{DeviceCapability}
use Rattle.ei.specs.declared.device.Keymap.{Keymap}
use Rattle.ei.specs.declared.device.Region.{Region}
use Rattle.ei.specs.declared.object.Object.{Object}
use Rattle.records.specs.Owners.{owns_it, pending_lists}
use Rattle.records.specs.Places.{regions_of}
use Rattle.records.specs.Rows.{first, any, no_row_for}
use Rattle.records.specs.declared.device.Detail.{Detail}
use Rattle.records.specs.declared.device.Stage.{Stage}
use Rattle.records.specs.declared.standing.Standing.TheVariants.{Live, Pending}
use Rattle.tables.specs.Calls.{Call, callback_done, seat_name, seat_capability, seat_device, keymap, object_destroyed, add_callback, bind, retire_seat}
use Rattle.tables.specs.Model.{unless}
use Rattle.tables.specs.Refusal.{refusal, ample, of_text, of_regions, of_rows, of_notes, too_long}
use Rattle.tables.specs.Rules.{most_devices, most_callbacks, seat_at, device_at, callback_at, seat_by_handle, callback_ends, seat_named, seat_capable, device_arrives, of_pending_device, device_told, device_detailed, device_placed, device_equipped, keymap_arrives, serial_anyway, object_gone, callback_added, seat_bound, seat_retirable, seat_retired}
use Rattle.law.specs.History.{book, bounds_for, timed_for}
use Rattle.law.specs.Runs.{handed}
use Rattle.law.proofs.Fine.{Scene, Fine, refused_fine, quiet_fine, asked_fine, quiet_short, of_pending}
use Rattle.law.proofs.Outcomes.{at_cases}

module _ (scene : Scene) where
  open scene use {es, v, m, k, tidy}

  pub of_callback_done : (n x : ℕ) → Fine scene (callback_done n x) (callback_ends v n x m)
  of_callback_done n x =
      let c : Call = callback_done n x in
      at_cases (Fine scene c) (first (callback_at n) m.callbacks) _ _ (λ _. quiet_fine scene c refl refl refl _ refl) (λ row _. asked_fine scene c _ _ (quiet_short scene c refl refl refl (of_notes (eqb v.spare 0)) _ refl))

  pub of_seat_name : (n : ℕ) (text : List ℕ) → Fine scene (seat_name n text) (seat_named n text m)
  of_seat_name n text =
      let c : Call = seat_name n text in
      cond_both (any (seat_at n Pending) m.seats) _ _ (Fine scene c) (λ _. quiet_short scene c refl refl refl (of_text (too_long text) ample) _ refl) (λ _. refused_fine scene c refl _ refl _)

  pub of_seat_capability : (n mask : ℕ) (kind : Option DeviceCapability) → Fine scene (seat_capability n mask kind) (seat_capable n mask kind m)
  of_seat_capability n mask kind =
      let c : Call = seat_capability n mask kind in
      cond_both (any (seat_at n Pending) m.seats) _ _ (Fine scene c) (λ _. at_cases (Fine scene c) kind _ _ (λ _. refused_fine scene c refl _ refl _) (λ _ _. quiet_fine scene c refl refl refl _ refl)) (λ _. refused_fine scene c refl _ refl _)

  pub of_seat_device : (s n : ℕ) → Fine scene (seat_device s n) (device_arrives s n m)
  of_seat_device s n =
      let c : Call = seat_device s n in
      at_cases (Fine scene c) (first (seat_at s Live) m.seats) _ _
      (λ _. refused_fine scene c refl _ refl _)
      (λ _ _. quiet_short scene c refl refl refl (of_rows (no_row_for (any (device_at n Pending) m.devices) (length m.devices) most_devices)) _ refl)

  -- of a device that is being set up
  module _ (c : Call) (g : handed c m ≡ None) (t : timed_for (book es) c ≡ None) (b : bounds_for (book es) c ≡ None) (n : ℕ) where
    pub of_detail : (d : Detail) → Fine scene c (device_detailed n d m)
    of_detail d = of_pending scene c g n _ (λ _. quiet_fine scene c g t b _ refl)

    -- a name or a mapping id
    pub of_words : (text : List ℕ) (stage : Stage) → Fine scene c (of_pending_device n m (λ _. unless (refusal (of_text (too_long text) ample)) m (device_told n stage m)))
    of_words text stage = of_pending scene c g n _ (λ _. quiet_short scene c g t b (of_text (too_long text) ample) _ refl)

    pub of_region : (r : Region) → Fine scene c (device_placed n r m)
    of_region r = of_pending scene c g n _ (λ row. quiet_short scene c g t b (of_regions (eqb (length (regions_of row.description.regions)) 8)) _ refl)

    pub of_interface : (o : Option Object) → Fine scene c (device_equipped n o m)
    of_interface o = of_pending scene c g n _ (λ _. at_cases (Fine scene c) o _ _ (λ _. quiet_fine scene c g t b _ refl) (λ _ _. quiet_fine scene c g t b _ refl))

  pub of_keymap : (n : ℕ) (x : Keymap) → Fine scene (keymap n x) (keymap_arrives n x m)
  of_keymap n x = cond_both (any (pending_lists n) m.devices) _ _ (Fine scene (keymap n x)) (λ _. quiet_fine scene (keymap n x) refl refl refl _ refl) (λ _. refused_fine scene (keymap n x) refl _ refl _)

  pub of_object_destroyed : (o : Object) (s : ℕ) → Fine scene (object_destroyed o s) (object_gone o s m)
  of_object_destroyed o s =
      let c : Call = object_destroyed o s in
      cond_both (any (owns_it o) m.devices) _ _ (Fine scene c)
      (λ _. quiet_fine scene c refl refl refl _ refl)
      (λ _. cond_both (serial_anyway o.kind) _ _ (Fine scene c) (λ _. quiet_fine scene c refl refl refl _ refl) (λ _. refused_fine scene c refl _ refl _))

  pub of_add_callback : (n t : ℕ) → Fine scene (add_callback n t) (callback_added n t m)
  of_add_callback n t =
      let c : Call = add_callback n t in
      cond_both (any (callback_at n) m.callbacks) _ _ (Fine scene c)
      (λ _. quiet_fine scene c refl refl refl _ refl)
      (λ _. quiet_short scene c refl refl refl (of_rows (not (ltb (length m.callbacks) most_callbacks))) _ refl)

  pub of_bind : (h bits : ℕ) → Fine scene (bind h bits) (seat_bound v h bits m)
  of_bind h bits =
      let c : Call = bind h bits in
      at_cases (Fine scene c) (first (seat_by_handle h) m.seats) _ _ (λ _. refused_fine scene c refl _ refl _) (λ _ _. asked_fine scene c _ _ (quiet_short scene c refl refl refl (of_notes (eqb v.spare 0)) m refl))

  pub of_retire_seat : (h : ℕ) → Fine scene (retire_seat h) (seat_retired h m)
  of_retire_seat h =
      let c : Call = retire_seat h in
      at_cases (Fine scene c) (first (seat_by_handle h) m.seats) _ _ (λ _. refused_fine scene c refl _ refl _)
      (λ row _. cond_both (seat_retirable row m) _ _ (Fine scene c) (λ _. quiet_fine scene c refl refl refl _ refl) (λ _. refused_fine scene c refl _ refl _))
