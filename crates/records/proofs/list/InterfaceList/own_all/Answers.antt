use Rattle.std.proofs.Common.{None, rules}
use Rattle.records.proofs.Listing.{same_list, mapped}
use Rattle.records.specs.Listing.{owned_entry, all_owned}
use Rattle.records.proofs.list.InterfaceList.own_all.Goals as goal

pub returns : goal.returns
unfolding all_owned
returns c = same_list _ (all_owned c.args.self.now) (mapped owned_entry c.args.self.now.entries _ 7 None c.args.self.now.long c.map-self.ensures.items.long (λ k b. let h = c.map-self.ensures.items.at k None None b in search rules))
