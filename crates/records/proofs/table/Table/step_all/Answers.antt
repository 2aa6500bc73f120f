use Rattle.std.proofs.Common.{set, sym, ap, ◌∙◌}
use Rattle.std.proofs.lemmas.List.Edits.{map_over_more}
use Rattle.records.proofs.table.Table.step_all.Goals as goal

pub loop-row-preserved : goal.loop-row-preserved
loop-row-preserved g c =
    let ys = c.loop-row.row-items in
    let i = c.loop-row.row-index in
    ap (set ys i) (c.step.ensures ∙ ap (λ row. g.R.Record.stepped row c.args.step) (sym c.row-item.is)) ∙ map_over_more (λ row. g.R.Record.stepped row c.args.step) c.deref_mut-row-items.result.now ys i c.row-item.result c.loop-row-test.true c.loop-row.invariant c.row-item.is
