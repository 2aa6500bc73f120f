use Rattle.ei.proofs.Texts.{read_as_made, made_as_read}
use Rattle.ei.proofs.text.Text.as_bytes.Goals as goal

pub returns-clause-reads : goal.returns-clause-reads
returns-clause-reads c = read_as_made

pub returns-clause-one : goal.returns-clause-one
returns-clause-one c = made_as_read
