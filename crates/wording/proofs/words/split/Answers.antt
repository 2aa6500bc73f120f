use Rattle.std.proofs.Common.{sym, ◌∙◌, rules, tests}
use Rattle.std.proofs.lemmas.Iterator.{YieldsList-from_slice}
use Rattle.std.proofs.lemmas.Iterator.Search.{position_from_yields_List}
use Rattle.wording.proofs.Splits.{front_at, back_at, front_whole, back_none}
use Rattle.wording.proofs.words.split.Goals as goal

pub returns-in-Some : goal.returns-in-Some
returns-in-Some c =
    let bs = c.args.bytes.now in
    let i = c.in-Some.i in
    let e = position_from_yields_List _ _ _ c.position.result c.position.ensures.ran (YieldsList-from_slice bs cc) (λ x b q k. search (rules, tests)) in
    record { front = front_at c.args.separator i bs (sym e ∙ c.in-Some.is); back = back_at c.args.separator i bs (sym e ∙ c.in-Some.is) }

pub returns-in-None : goal.returns-in-None
returns-in-None c =
    let bs = c.args.bytes.now in
    let e = position_from_yields_List _ _ _ c.position.result c.position.ensures.ran (YieldsList-from_slice bs cc) (λ x b q k. search (rules, tests)) in
    record { front = front_whole c.args.separator bs (sym e ∙ c.in-None.is); back = back_none c.args.separator bs (sym e ∙ c.in-None.is) }
