-- The link at every point of a run.
use Rattle.std.proofs.Common.{List}
use Rattle.tables.specs.Model.{Model}
use Rattle.law.specs.History.{Entry, book}
use Rattle.law.specs.Runs.{Run, start, more}
use Rattle.law.proofs.Known.{Known}
use Rattle.law.proofs.Link.{Link, link_start}
use Rattle.law.proofs.LinkKnown.{link_known}
use Rattle.law.proofs.LinkStep.{link_step}

-- book and rows are tied
pub run_link : {es : List Entry} {m : Model} → Run es m → Link (book es) m
run_link (start s) = link_start s
run_link (more {es = es} {m = m} r v c) = link_step (book es) m (run_link r) v c

-- and so what the law takes from the rows is known
pub run_known : {es : List Entry} {m : Model} → Run es m → Known (book es) m
run_known {es} {m} r = link_known (book es) m (run_link r)
