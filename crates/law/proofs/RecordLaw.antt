-- The record law, and the law at one call.
use Rattle.std.proofs.Common.{◌≡◌, ℕ, Option, sym, subst}
use Rattle.ei.specs.Refusals.{answer_of}
use Rattle.ei.specs.declared.event.EiEvent.{EiEvent}
use Rattle.tables.specs.Calls.{Call}
use Rattle.tables.specs.Model.{Model, View}
use Rattle.tables.specs.Outcomes.{handled}
use Rattle.law.specs.Runs.{more, handed, RecordLaw, GoesOn}
use Rattle.law.proofs.LawStep.{record_law_from}
use Rattle.law.proofs.LinkRuns.{run_known}

pub record_law : RecordLaw
record_law = record_law_from (λ es m r. run_known r)

-- a call that answers, hands out and leaves what the model says goes on with every run
pub goes_on : (v : View) (c : Call) (m : Model) (answer : ℕ) (given : Option EiEvent) (after : Model) → answer ≡ answer_of (handled v c m).answer → given ≡ handed c m → after ≡ (handled v c m).after → GoesOn v.reading c answer given m after
goes_on v c m answer given after e f g =
    subst (λ (a : ℕ). GoesOn v.reading c a given m after) (sym e)
    (subst (λ (x : Option EiEvent). GoesOn v.reading c (answer_of (handled v c m).answer) x m after) (sym f)
    (subst (λ (k : Model). GoesOn v.reading c (answer_of (handled v c m).answer) (handed c m) m k) (sym g)
    (λ es r. (more r v c, record_law _ _ (more r v c)))))
