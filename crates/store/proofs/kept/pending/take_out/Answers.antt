use Rattle.std.proofs.Common.{◌≡◌, length, vec_items, filter, ap, arith, rules}
use Rattle.std.proofs.lemmas.Fn.{filter_same}
use Rattle.store.specs.Moves.{not_of}
use Rattle.store.proofs.Stores.{both_parts}
use Rattle.store.proofs.kept.pending.take_out.Goals as goal

pub returns : goal.returns
unfolding not_of
returns c =
    let es = vec_items c.args.events.now in
    let kept : vec_items c.retain.new.self ≡ filter (not_of c.args.device) es = filter_same _ _ _ (λ x b f' k. search rules) _ _ c.retain.ensures.filtered in record {
      items = kept;
      len = omega (arith, ap length kept, both_parts c.args.device es, c.args.events.now.ok.0, c.retain.new.self.ok.0);
      capacity = c.retain.ensures.capacity;
    }
