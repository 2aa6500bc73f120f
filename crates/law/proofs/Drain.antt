-- next_event gives all that is queued, in order, and then none.
use Rattle.std.proofs.Common.{◌≡◌, List, [], ◌∷◌, drop, sym, refl, ap, ◌∙◌}
use Rattle.ei.specs.declared.event.EiEvent.{EiEvent}
use Rattle.store.specs.Moves.{pending_for, first, given, rest}
use Rattle.tables.specs.Calls.{next_event}
use Rattle.tables.specs.Model.{Model, View, with_store}
use Rattle.tables.specs.Outcomes.{handled}
use Rattle.law.specs.Drain.{Taken, Gives, DrainLaw}

taken : (v : View) (m : Model) → Taken v m
unfolding rest pending_for
taken v m = record { done = refl; all_wait = λ _. refl }

-- a model by its queue
abbrev with_queue : List EiEvent → Model → Model
with_queue q m = with_store (record { pending = m.store.pending; queued = q }) m

gives_all : (q : List EiEvent) (m : Model) → m.store.queued ≡ q → Gives q m
unfolding given rest
gives_all [] m e = λ v. (taken v m, ap first e, ap (λ l. with_queue l m) (ap (drop 1) e ∙ sym e))
gives_all (x ∷ q) m e = λ v. (taken v m, ap first e, gives_all q (handled v next_event m).after (ap (drop 1) e))

pub drain_law : DrainLaw
drain_law m = gives_all m.store.queued m refl
