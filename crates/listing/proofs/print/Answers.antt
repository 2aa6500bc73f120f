use Rattle.std.proofs.Common.{◌≡◌, ◌<◌, true, List, [], ◌∷◌, length, drop, sym, ap, ◌∙◌, arith}
use Rattle.std.specs.Option.{is_some}
use Rattle.converter.specs.Contract.{model}
use Rattle.ei.specs.declared.event.EiEvent.{EiEvent}
use Rattle.store.specs.Moves.{first, given, rest}
use Rattle.listing.proofs.print.Goals as goal

shorter : (es : List EiEvent) → is_some (first es) ≡ true → length (drop 1 es) < length es
shorter [] t = cc
shorter (e ∷ es) t = omega arith

pub loop-event-smaller : goal.loop-event-smaller
unfolding given rest
loop-event-smaller g c =
    let es = (model c.loop-event.converter).store.queued in
    omega (arith, shorter es (sym c.next_event.ensures.answer ∙ c.loop-event-test.true), ap (λ m. length m.store.queued) c.next_event.ensures.left)
