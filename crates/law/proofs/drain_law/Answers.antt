use Rattle.law.proofs.Drain.{drain_law}
use Rattle.law.proofs.drain_law.Goals as goal

pub returns : goal.returns
returns c = drain_law
