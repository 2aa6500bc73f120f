use Rattle.std.proofs.Common.{vec_items, ◌∙◌, rules, tests}
use Rattle.std.proofs.lemmas.Iterator.Search.{any_from_yields_List}
use Rattle.std.proofs.lemmas.Iterator.{YieldsList-from_slice}
use Rattle.store.specs.Moves.{of, has_pending, pending_for}
use Rattle.store.proofs.Searches.{some_filter}
use Rattle.store.proofs.kept.EventStore.has_pending.Goals as goal

pub returns : goal.returns
unfolding has_pending pending_for
returns c =
    let es = vec_items c.self.inside.pending in
    rw (← c.self.view_is) (any_from_yields_List (of c.args.device) _ _ _ c.any.ensures.ran (YieldsList-from_slice es cc) (λ x b q k. search (rules, tests)) ∙ some_filter (of c.args.device) es)
