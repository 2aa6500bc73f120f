-- next_event, called again and again with no other call between.
use Rattle.std.specs.Prelude.{◌≡◌, ℕ, List, [], ◌∷◌, Some, None, Ok}
use Rattle.ei.specs.declared.event.EiEvent.{EiEvent}
use Rattle.tables.specs.Calls.{next_event}
use Rattle.tables.specs.Model.{Model, View}
use Rattle.tables.specs.Outcomes.{handled}
use Rattle.law.specs.Runs.{handed, pending_of}

-- a call of next_event is done, and takes nothing that waits
pub record Taken (v : View) (m : Model) : Type 0 where
  pub done : (handled v next_event m).answer ≡ Ok tt
  pub all_wait : (h : ℕ) → pending_of (handled v next_event m).after h ≡ pending_of m h

-- these are given in order, one a call; then none is given, and the converter stays as it is
abbrev pub Gives : List EiEvent → Model → Type 0
Gives [] m = (v : View) → Taken v m × (handed next_event m ≡ None) × ((handled v next_event m).after ≡ m)
Gives (e ∷ q) m = (v : View) → Taken v m × (handed next_event m ≡ Some e) × Gives q (handled v next_event m).after

-- all that is queued is given, in order, and then none
abbrev pub DrainLaw : Type 0
DrainLaw = (m : Model) → Gives m.store.queued m
