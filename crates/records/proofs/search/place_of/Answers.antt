use Rattle.std.proofs.Common.{◌≡◌, ℕ, true, false, Some, None, Option, drop, sym, subst, ◌∙◌}
use Rattle.std.proofs.lemmas.Iterator.{IsFirst-from_position, YieldsList-from_slice}
use Rattle.records.proofs.Rows.{found_from, left_from}
use Rattle.records.specs.Rows.{Finds}
use Rattle.records.proofs.search.place_of.Goals as goal

pub returns-in_err-place : goal.returns-in_err-place
returns-in_err-place g c = λ p acts.
    let rows = c.args.rows.now in
    let from = c.args.from in
    let rest : c.iter.result.rest.now ≡ drop from rows = c.iter.ensures.rest ∙ left_from rows _ from c.in_ok-get.ensures.lookup.0.2 in
    subst (λ (r : Option ℕ). Finds p rows from r) (sym c.from_residual-in_err-place.ensures)
    (found_from p rows from None
    (IsFirst-from_position _ c.args.passes None (λ x. p x ≡ true) (λ x. p x ≡ false) c.in_err-place.ensures.ran (YieldsList-from_slice (drop from rows) rest) (λ x q k. sym (acts x true q k).1) (λ x q k. ((acts x false q k).0, sym (acts x false q k).1))))

pub returns : goal.returns
returns g c = λ p acts.
    let rows = c.args.rows.now in
    let from = c.args.from in
    let rest : c.iter.result.rest.now ≡ drop from rows = c.iter.ensures.rest ∙ left_from rows _ from c.in_ok-get.ensures.lookup.0.2 in
    found_from p rows from (Some c.in_ok-place.place)
    (IsFirst-from_position _ c.args.passes (Some c.in_ok-place.place) (λ x. p x ≡ true) (λ x. p x ≡ false) c.in_ok-place.ensures.ran (YieldsList-from_slice (drop from rows) rest) (λ x q k. sym (acts x true q k).1) (λ x q k. ((acts x false q k).0, sym (acts x false q k).1)))
