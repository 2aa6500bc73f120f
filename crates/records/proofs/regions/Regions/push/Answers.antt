use Rattle.std.proofs.Common.{◌≡◌, sym, refl, arith}
use Rattle.std.proofs.lemmas.Bool.Decides.{nat_tests}
use Rattle.std.proofs.lemmas.List.{set_past, length-take}
use Rattle.records.proofs.Places.{same_regions}
use Rattle.records.specs.Places.{with_region}
use Rattle.records.proofs.regions.Regions.push.Goals as goal

pub returns-then-not-is_full : goal.returns-then-not-is_full
unfolding with_region
returns-then-not-is_full c = same_regions _ (with_region c.args.region c.args.self.now) refl (omega arith)

pub returns-else-not-is_full : goal.returns-else-not-is_full
unfolding with_region
returns-else-not-is_full c =
    let here = c.args.self.now in
    let full : here.count ≡ 8 = grind (arith, nat_tests, length-take here.count here.items) in
    same_regions _ (with_region c.args.region here) (sym (set_past here.items here.count c.args.region (omega (arith, here.long)))) (omega arith)
