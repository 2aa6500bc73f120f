use Rattle.law.proofs.LinkTyped.{typed_law}
use Rattle.law.proofs.typed_law.Goals as goal

pub returns : goal.returns
returns c = typed_law
