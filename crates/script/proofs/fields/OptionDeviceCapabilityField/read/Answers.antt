use Rattle.script.proofs.Names.{no_name}
use Rattle.script.proofs.fields.OptionDeviceCapabilityField.read.Goals as goal

-- what is no text names no interface
pub returns-in_default : goal.returns-in_default
returns-in_default c = (rw c.in_ok-word.ensures.word (no_name c.in_ok-word.word.now c.in_default.ensures.cases.0), c.in_ok-word.ensures.rest)
