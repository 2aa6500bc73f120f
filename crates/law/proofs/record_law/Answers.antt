use Rattle.law.proofs.RecordLaw.{record_law}
use Rattle.law.proofs.record_law.Goals as goal

pub returns : goal.returns
returns c = record_law
