-- The cases of an outcome, and what an entry is by its call and answer.
use Rattle.std.proofs.Common.{◌≡◌, ℕ, Bool, true, false, cond, eqb, [], ◌∷◌, Some, None, Option, refl, ap, ◌∙◌, arith}
use Rattle.std.proofs.lemmas.Bool.{cond-true, cond-false}
use Rattle.ei.specs.Refusals.{number_of}
use Rattle.ei.specs.declared.error.EventError.{EventError}
use Rattle.ei.specs.declared.error.EventError.TheVariants.{DeviceEventBeforeDone, DeviceSetupEventAfterDone, SeatSetupEventAfterDone, SeatEventBeforeDone, NoDeviceType, UnexpectedHandshakeEvent, UnknownCapabilityInterface, LongText, StoreFull, TableFull, HandlesUsedUp, HostFull, NoSuchHandle, HandleBusy, RegionsFull}
use Rattle.ei.specs.declared.event.EiEvent.{EiEvent}
use Rattle.ei.specs.declared.event.Frame.{Frame}
use Rattle.tables.specs.Model.{Model, Outcome, refused, unless, at_some}
use Rattle.tables.specs.Refusal.{refusal}
use Rattle.tables.specs.declared.shortage.Shortage.{Shortage}
use Rattle.law.specs.History as history
use Rattle.law.specs.History.{Entry, Book, holds, bounds_for, timed_for, press, bound}
use Rattle.law.specs.Law.{frame_time}
use Rattle.law.proofs.Moved.{Idle, Bounding}

-- what holds of an outcome, by the cases in which it is told
module _ (P : Outcome → Type 0) where
  pub unless_cases : (r : Option EventError) (m : Model) (o : Outcome) → ((e : EventError) → P (refused e m)) → (r ≡ None → P o) → P (unless r m o)
  unless_cases None m o no' yes' = yes' refl
  unless_cases (Some e) m o no' yes' = no' e

  pub at_cases : {X : Type 0} (r : Option X) (d : Outcome) (f : X → Outcome) → (r ≡ None → P d) → ((x : X) → r ≡ Some x → P (f x)) → P (at_some r d f)
  at_cases None d f no' yes' = no' refl
  at_cases (Some x) d f no' yes' = yes' x refl

-- where nothing is refused, the first is not short, nor is any other
not_short : (b : Bool) (e : EventError) (r : Option EventError) → cond b (Some e) r ≡ None → (b ≡ false) × (r ≡ None)
not_short true e r n = let z : ◌≡◌ {A = ℕ} 0 1 = cc in absurd (omega arith)
not_short false e r n = (refl, n)

pub places_left : (s : Shortage) → refusal s ≡ None → s.store_full ≡ false
places_left s n =
    (not_short s.store_full _ _ (not_short s.host_full _ _ (not_short s.table_full _ _ (not_short s.regions_full _ _ (not_short s.long_text _ _ n).1).1).1).1).0

-- a refusal is not answered 0
pub refusal_not_0 : (e : EventError) → eqb (number_of e) 0 ≡ false
refusal_not_0 DeviceEventBeforeDone = refl
refusal_not_0 DeviceSetupEventAfterDone = refl
refusal_not_0 SeatSetupEventAfterDone = refl
refusal_not_0 SeatEventBeforeDone = refl
refusal_not_0 NoDeviceType = refl
refusal_not_0 UnexpectedHandshakeEvent = refl
refusal_not_0 UnknownCapabilityInterface = refl
refusal_not_0 LongText = refl
refusal_not_0 StoreFull = refl
refusal_not_0 TableFull = refl
refusal_not_0 HandlesUsedUp = refl
refusal_not_0 HostFull = refl
refusal_not_0 NoSuchHandle = refl
refusal_not_0 HandleBusy = refl
refusal_not_0 RegionsFull = refl

module _ (b : Book) (e : Entry) where
  -- a refused call presses and bounds nothing
  pub refused_idle : eqb e.answer 0 ≡ false → Idle b e
  refused_idle n = record { frees = λ h. cond-false (eqb e.answer 0) _ _ n; no_press = λ h. cond-false (eqb e.answer 0) _ _ n }

  module _ (done' : eqb e.answer 0 ≡ true) where
    pub presses : (o : Option (ℕ × EiEvent)) → timed_for b e.call ≡ o → (h : ℕ) → press h b e ≡ history.at_some o [] (λ p. cond (eqb p.0 h) (p.1 ∷ []) [])
    presses o t h = cond-true (eqb e.answer 0) _ _ done' ∙ ap (λ x. history.at_some x [] (λ p. cond (eqb p.0 h) (p.1 ∷ []) [])) t

    bounds_it : (o : Option ℕ) → bounds_for b e.call ≡ o → (h : ℕ) → bound h b e ≡ holds o h
    bounds_it o t h = cond-true (eqb e.answer 0) _ _ done' ∙ ap (λ x. holds x h) t

    -- nor does one that is done and tells of no live device
    pub done_idle : bounds_for b e.call ≡ None → timed_for b e.call ≡ None → Idle b e
    done_idle n t = record { frees = bounds_it None n; no_press = presses None t }

    pub done_bounding : (f : Frame) → bounds_for b e.call ≡ Some f.device → timed_for b e.call ≡ None → f.time ≡ frame_time e → b.retired f.device ≡ false → Bounding b e f
    done_bounding f s t u c = record { time = u; bounds = bounds_it (Some f.device) s; no_press = presses None t; current = c }
