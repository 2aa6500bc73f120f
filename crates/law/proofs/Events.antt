-- What the events are that the calls make: timed or plain, and whose; and what another time does to an event.
use Rattle.std.proofs.Common.{◌≡◌, ℕ, true, false, Some, refl, arith}
use Rattle.std.proofs.lemmas.Bool.{false≢true, leb-true, ne_eqb}
use Rattle.ei.specs.Events.{kind_of, device_of, timed, is_frame, time_of, at_time}
use Rattle.ei.specs.declared.event.EiEvent.{EiEvent}
use Rattle.ei.specs.declared.event.EiEvent.TheVariants.{Disconnected, SeatAdded, SeatRemoved, DeviceAdded, DeviceRemoved, DevicePaused, DeviceResumed, KeyboardModifiers, Frame, DeviceStartEmulating, DeviceStopEmulating, PointerMotion, PointerMotionAbsolute, Button, ScrollDelta, ScrollStop, ScrollCancel, ScrollDiscrete, KeyboardKey, TouchDown, TouchUp, TouchMotion, TouchCancel, TextKeysym, TextUtf8}
use Rattle.tables.specs.Calls.{Act, acted, Speech, spoken, motion, motion_absolute, button, scroll, scroll_stop, scroll_cancel, scroll_discrete, key, touch_down, touch_up, touch_motion, touch_cancel, keysym, utf8, resumed, paused, start_emulating, stop_emulating}

-- an event at another time
pub record Timing (t : ℕ) (e : EiEvent) : Type 0 where
  pub kind : kind_of (at_time t e) ≡ kind_of e
  pub again : (s : ℕ) → at_time s (at_time t e) ≡ at_time s e
  pub its : timed e ≡ true → time_of (at_time t e) ≡ t

pub timing : (t : ℕ) (e : EiEvent) → Timing t e
timing t (Disconnected e) = record { kind = refl; again = λ _. refl; its = λ c. absurd (false≢true c) }
timing t (SeatAdded e) = record { kind = refl; again = λ _. refl; its = λ c. absurd (false≢true c) }
timing t (SeatRemoved e) = record { kind = refl; again = λ _. refl; its = λ c. absurd (false≢true c) }
timing t (DeviceAdded e) = record { kind = refl; again = λ _. refl; its = λ c. absurd (false≢true c) }
timing t (DeviceRemoved e) = record { kind = refl; again = λ _. refl; its = λ c. absurd (false≢true c) }
timing t (DevicePaused e) = record { kind = refl; again = λ _. refl; its = λ c. absurd (false≢true c) }
timing t (DeviceResumed e) = record { kind = refl; again = λ _. refl; its = λ c. absurd (false≢true c) }
timing t (KeyboardModifiers e) = record { kind = refl; again = λ _. refl; its = λ c. absurd (false≢true c) }
timing t (Frame e) = record { kind = refl; again = λ _. refl; its = λ c. absurd (false≢true c) }
timing t (DeviceStartEmulating e) = record { kind = refl; again = λ _. refl; its = λ c. absurd (false≢true c) }
timing t (DeviceStopEmulating e) = record { kind = refl; again = λ _. refl; its = λ c. absurd (false≢true c) }
timing t (PointerMotion e) = record { kind = refl; again = λ _. refl; its = λ _. refl }
timing t (PointerMotionAbsolute e) = record { kind = refl; again = λ _. refl; its = λ _. refl }
timing t (Button e) = record { kind = refl; again = λ _. refl; its = λ _. refl }
timing t (ScrollDelta e) = record { kind = refl; again = λ _. refl; its = λ _. refl }
timing t (ScrollStop e) = record { kind = refl; again = λ _. refl; its = λ _. refl }
timing t (ScrollCancel e) = record { kind = refl; again = λ _. refl; its = λ _. refl }
timing t (ScrollDiscrete e) = record { kind = refl; again = λ _. refl; its = λ _. refl }
timing t (KeyboardKey e) = record { kind = refl; again = λ _. refl; its = λ _. refl }
timing t (TouchDown e) = record { kind = refl; again = λ _. refl; its = λ _. refl }
timing t (TouchUp e) = record { kind = refl; again = λ _. refl; its = λ _. refl }
timing t (TouchMotion e) = record { kind = refl; again = λ _. refl; its = λ _. refl }
timing t (TouchCancel e) = record { kind = refl; again = λ _. refl; its = λ _. refl }
timing t (TextKeysym e) = record { kind = refl; again = λ _. refl; its = λ _. refl }
timing t (TextUtf8 e) = record { kind = refl; again = λ _. refl; its = λ _. refl }

-- a timed event is no frame
pub timed_no_frame : (e : EiEvent) → timed e ≡ true → is_frame e ≡ false
timed_no_frame e t = ne_eqb (kind_of e) 9 (λ c. omega (arith, leb-true 12 (kind_of e) t))

-- neither timed nor a frame
abbrev pub Plain : EiEvent → Type 0
Plain e = (timed e ≡ false) × (is_frame e ≡ false)

-- timed, of a device, and without a time
abbrev pub TimedFor : ℕ → EiEvent → Type 0
TimedFor h e = (timed e ≡ true) × (device_of e ≡ Some h) × (at_time 0 e ≡ e)

pub acted_is : (x : Act) (h : ℕ) → TimedFor h (acted x h)
acted_is (motion x y) h = (refl, refl, refl)
acted_is (motion_absolute x y) h = (refl, refl, refl)
acted_is (button c s) h = (refl, refl, refl)
acted_is (scroll x y) h = (refl, refl, refl)
acted_is (scroll_stop x y) h = (refl, refl, refl)
acted_is (scroll_cancel x y) h = (refl, refl, refl)
acted_is (scroll_discrete x y) h = (refl, refl, refl)
acted_is (key c s) h = (refl, refl, refl)
acted_is (touch_down i x y) h = (refl, refl, refl)
acted_is (touch_up i) h = (refl, refl, refl)
acted_is (touch_motion i x y) h = (refl, refl, refl)
acted_is (touch_cancel i) h = (refl, refl, refl)
acted_is (keysym c s) h = (refl, refl, refl)
acted_is (utf8 t) h = (refl, refl, refl)

pub spoken_plain : (x : Speech) (s h : ℕ) → Plain (spoken x s h)
spoken_plain resumed s h = (refl, refl)
spoken_plain paused s h = (refl, refl)
spoken_plain (start_emulating q) s h = (refl, refl)
spoken_plain stop_emulating s h = (refl, refl)
