use Rattle.std.proofs.Common.{◌≡◌, ◌++◌, map, take, drop}
use Rattle.records.proofs.table.Table.step_all.Given as goal

-- the rows so far have taken the step, and the others not yet
abbrev pub invariant-loop-row : goal.invariant-loop-row
invariant-loop-row g l = l.row-items ≡ map (λ row. g.R.Record.stepped row l.step) (take l.row-index l.initial.row-items) ++ drop l.row-index l.initial.row-items
