-- The law at a call, from its outcome.
use Rattle.std.proofs.Common.{◌≡◌, ℕ, Option}
use Rattle.ei.specs.Refusals.{answer_of}
use Rattle.ei.specs.declared.event.EiEvent.{EiEvent}
use Rattle.host.specs.Leaving.{HostState}
use Rattle.law.proofs.RecordLaw.{goes_on}
use Rattle.law.specs.Runs.{handed, GoesOn}
use Rattle.tables.specs.Calls.{Call}
use Rattle.tables.specs.Model.{Model}
use Rattle.tables.specs.Outcomes.{handled}
use Rattle.converter.specs.Contract.{model, view}
use Rattle.converter.specs.declared.convert.EiEventConverter.{EiEventConverter}

-- a call that answered, handed out and left what the rules say goes on with every run
pub lawful : {H : Type 0} (state : H → HostState) (c : Call) (before : EiEventConverter H) {after : Model} {answer : ℕ} {given : Option EiEvent} → answer ≡ answer_of (handled (view (state before.host)) c (model before)).answer → given ≡ handed c (model before) → after ≡ (handled (view (state before.host)) c (model before)).after → GoesOn (state before.host).reading c answer given (model before) after
lawful state c before = goes_on (view (state before.host)) c (model before) _ _ _
