use Rattle.std.proofs.Common.{◌≡◌, ◌++◌, ◌∷◌, Some, Ok, sym, ◌∙◌, inr, arith, rules}
use Rattle.std.proofs.lemmas.Str.Pattern.{split_parts}
use Rattle.script.specs.Events.{EventLine}
use Rattle.wording.specs.Words.{after_word, next_word}
use Rattle.script.proofs.lines.parse.Goals as goal

pub returns-in_ok-event-in-Some : goal.returns-in_ok-event-in-Some
returns-in_ok-event-in-Some c =
    let i = c.in-Some.interface.now in
    let n = c.in-Some.name.now in
    let w = c.in_ok-word.field-0.now in
    let first : next_word (Some c.args.line.now) ≡ Ok w = search rules in
    let same : c.in_ok-word-2.word.now ≡ w = search rules in
    let cut : c.in_ok-word-2.word.now ≡ i ++ (46 ∷ n) = (split_parts 46 c.in_ok-word-2.word.now (Some (c.in-Some.interface, c.in-Some.name)) c.in-Some.ensures.cases (omega arith)).0 in
    let says : EventLine i n (after_word (Some c.args.line.now)) c.in_ok-event-in-Some.field-0 = search rules in
    inr (w, first, inr (i, n, sym same ∙ cut, says))
