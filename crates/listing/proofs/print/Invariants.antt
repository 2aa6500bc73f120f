use Rattle.std.proofs.Common.{length}
use Rattle.converter.specs.Contract.{model}
use Rattle.listing.proofs.print.Given as goal

-- each turn hands out one of the events that are queued
abbrev pub decreases-loop-event : goal.decreases-loop-event
decreases-loop-event g l = length (model l.converter).store.queued
