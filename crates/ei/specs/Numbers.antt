-- The numbers of the protocol's enums.
use Rattle.std.specs.Prelude.{◌≡◌, ℕ, ◌≢◌, Result, MatchResult}
use Rattle.ei.specs.declared.enums.NoSuchCase.{NoSuchCase}
use Rattle.ei.specs.declared.enums.ButtonState.{ButtonState}
use Rattle.ei.specs.declared.enums.ButtonState.TheVariants as ButtonStateCases
use Rattle.ei.specs.declared.enums.KeyState.{KeyState}
use Rattle.ei.specs.declared.enums.KeyState.TheVariants as KeyStateCases
use Rattle.ei.specs.declared.enums.KeymapType.{KeymapType}
use Rattle.ei.specs.declared.enums.KeymapType.TheVariants as KeymapTypeCases
use Rattle.ei.specs.declared.enums.DeviceType.{DeviceType}
use Rattle.ei.specs.declared.enums.DeviceType.TheVariants as DeviceTypeCases
use Rattle.ei.specs.declared.enums.DisconnectReason.{DisconnectReason}
use Rattle.ei.specs.declared.enums.DisconnectReason.TheVariants as DisconnectReasonCases

abbrev pub button_state : ButtonState → ℕ
button_state ButtonStateCases.Released = 0
button_state ButtonStateCases.Press = 1

abbrev pub key_state : KeyState → ℕ
key_state KeyStateCases.Released = 0
key_state KeyStateCases.Press = 1

abbrev pub keymap_type : KeymapType → ℕ
keymap_type KeymapTypeCases.Xkb = 1

abbrev pub device_type : DeviceType → ℕ
device_type DeviceTypeCases.Virtual = 1
device_type DeviceTypeCases.Physical = 2

abbrev pub disconnect_reason : DisconnectReason → ℕ
disconnect_reason DisconnectReasonCases.Disconnected = 0
disconnect_reason DisconnectReasonCases.Error = 1
disconnect_reason DisconnectReasonCases.Mode = 2
disconnect_reason DisconnectReasonCases.Protocol = 3
disconnect_reason DisconnectReasonCases.Value = 4
disconnect_reason DisconnectReasonCases.Transport = 5

-- the answer is the case of a number; where no case has it, the number comes back
abbrev pub CaseOf : {X : Type 0} → (X → ℕ) → ℕ → Result X NoSuchCase → Type 0
CaseOf {X} number n r = MatchResult r (λ x. number x ≡ n) (λ e. (e.0 ≡ n) × ((x : X) → number x ≢ n))
