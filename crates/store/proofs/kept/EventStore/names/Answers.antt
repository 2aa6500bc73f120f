use Rattle.std.proofs.Common.{deque_items, ◌∙◌, rules, tests}
use Rattle.std.proofs.lemmas.Iterator.Consumers.{YieldsList-from_deque}
use Rattle.std.proofs.lemmas.Iterator.Search.{any_from_yields_List}
use Rattle.store.specs.Moves.{named, names}
use Rattle.store.proofs.Searches.{some_filter}
use Rattle.store.proofs.kept.EventStore.names.Goals as goal

pub returns : goal.returns
unfolding names named
returns c =
    let es = deque_items c.self.inside.queued in
    rw (← c.self.view_is) (any_from_yields_List (named c.args.handle) _ _ _ c.any.ensures.ran (YieldsList-from_deque es cc) (λ x b q k. search (rules, tests)) ∙ some_filter (named c.args.handle) es)
