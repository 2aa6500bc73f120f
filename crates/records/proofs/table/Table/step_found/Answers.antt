use Rattle.std.proofs.Common.{Some, None, sym, ◌∙◌}
use Rattle.records.proofs.Rows.{any_found, changed_none, changed_at_found}
use Rattle.records.proofs.table.Table.step_found.Goals as goal

pub returns-in_default : goal.returns-in_default
returns-in_default g c = record {
  answer = λ p f. any_found p c.args.self.now None (rw c.in_default.is at f);
  after = λ p f. sym (changed_none p _ c.args.self.now (rw c.in_default.is at f));
}

pub returns : goal.returns
returns g c = record {
  answer = λ p f. any_found p c.args.self.now (Some c.in-Some.i) (rw c.in-Some.is at f);
  after = λ p f. c.step_at.ensures ∙ changed_at_found p _ c.args.self.now c.in-Some.i (rw c.in-Some.is at f);
}
