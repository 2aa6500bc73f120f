use Rattle.law.proofs.LinkRetired.{retired_law, never_named_again}
use Rattle.law.proofs.retired_law.Goals as goal

pub returns : goal.returns
returns c = record { held = retired_law; handed = never_named_again }
