-- What a call leaves of book and model, by the shape of its outcome.
use Rattle.std.proofs.Common.{◌≡◌, ℕ, Bool, true, false, cond, eqb, Some, None, Option, sym, refl, subst}
use Rattle.std.proofs.lemmas.Bool.{cond-false, cond_both}
use Rattle.ei.specs.Refusals.{answer_of, number_of}
use Rattle.ei.specs.declared.error.EventError.{EventError}
use Rattle.ei.specs.declared.error.EventError.TheVariants.{DeviceEventBeforeDone, DeviceSetupEventAfterDone, SeatSetupEventAfterDone, SeatEventBeforeDone, NoDeviceType, UnexpectedHandshakeEvent, UnknownCapabilityInterface, LongText, StoreFull, TableFull, HandlesUsedUp, HostFull, NoSuchHandle, HandleBusy, RegionsFull}
use Rattle.tables.specs.Calls.{Call, device_done}
use Rattle.tables.specs.Model.{Model, Asked, Outcome, refused, done, asking, at_some, unless}
use Rattle.tables.specs.Refusal.{refusal, of_places_and_handles}
use Rattle.law.specs.History.{Book, booked, accepted_call, refused_call}

-- what holds of book and model after a call
pub record Kept (Q : Book → Model → Type 0) (b : Book) (c : Call) (o : Outcome) : Type 0 where
  pub kept : Q (booked b c (answer_of o.answer)) o.after

-- no refusal is numbered 0
refusal_number : (e : EventError) → eqb (number_of e) 0 ≡ false
refusal_number DeviceEventBeforeDone = refl
refusal_number DeviceSetupEventAfterDone = refl
refusal_number SeatSetupEventAfterDone = refl
refusal_number SeatEventBeforeDone = refl
refusal_number NoDeviceType = refl
refusal_number UnexpectedHandshakeEvent = refl
refusal_number UnknownCapabilityInterface = refl
refusal_number LongText = refl
refusal_number StoreFull = refl
refusal_number TableFull = refl
refusal_number HandlesUsedUp = refl
refusal_number HostFull = refl
refusal_number NoSuchHandle = refl
refusal_number HandleBusy = refl
refusal_number RegionsFull = refl

module _ (Q : Book → Model → Type 0) (b : Book) (c : Call) where
  -- the call is done
  pub done_kept : (m : Model) → Q (accepted_call b c) m → Kept Q b c (done m)
  done_kept m l = record { kept = l }

  -- it is refused
  pub refused_kept : (e : EventError) (m : Model) → Q (refused_call b (number_of e) c) m → Kept Q b c (refused e m)
  refused_kept e m l = record { kept = subst (λ w. Q w m) (sym (cond-false (eqb (number_of e) 0) _ _ (refusal_number e))) l }

  -- it is refused where something is short
  pub unless_kept : (r : Option EventError) (m : Model) (o : Outcome) → ((e : EventError) → Q (refused_call b (number_of e) c) m) → Kept Q b c o → Kept Q b c (unless r m o)
  unless_kept None m o l k = k
  unless_kept (Some e) m o l k = refused_kept e m (l e)

  -- by what there is
  pub some_kept : {X : Type 0} (w : Option X) (d : Outcome) (f : X → Outcome) → (w ≡ None → Kept Q b c d) → ((x : X) → w ≡ Some x → Kept Q b c (f x)) → Kept Q b c (at_some w d f)
  some_kept None d f n s = n refl
  some_kept (Some x) d f n s = s x refl

  -- by a test
  pub cond_kept : (t : Bool) (x y : Outcome) → (t ≡ true → Kept Q b c x) → (t ≡ false → Kept Q b c y) → Kept Q b c (cond t x y)
  cond_kept t x y p q = cond_both t x y (Kept Q b c) p q

  -- with what it asks of the host
  pub asking_kept : (a : Asked) (o : Outcome) → Kept Q b c o → Kept Q b c (asking a o)
  asking_kept a o k = record { kept = k.kept }

pub ruleset shapes = (cond_kept, some_kept, unless_kept, asking_kept, refused_kept, done_kept)

-- the Done of a device that finds no place or handle changes nothing
pub done_full : (Q : Book → Model → Type 0) (b : Book) (m : Model) → Q b m → (n : ℕ) (p h : Bool) (o : Outcome) → Kept Q b (device_done n) o → Kept Q b (device_done n) (unless (refusal (of_places_and_handles p h)) m o)
done_full Q b m l n true h o k = record { kept = l }
done_full Q b m l n false true o k = record { kept = l }
done_full Q b m l n false false o k = k
