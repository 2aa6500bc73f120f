use Rattle.std.proofs.Common.{None, arith}
use Rattle.records.proofs.Listing.{same_list, all_disowned}
use Rattle.records.specs.Listing.{given_up}
use Rattle.records.proofs.list.InterfaceList.give_up.Goals as goal

pub returns : goal.returns
unfolding given_up
returns c = same_list _ (given_up c.args.other c.args.self.now) (all_disowned _ _ _ 7 None c.args.other.long c.args.self.now.long c.loop-kind.invariant.long (λ k b. c.loop-kind.invariant.so_far k (omega arith)))
