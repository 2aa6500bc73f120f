use Rattle.std.proofs.Common.{leb, length, get_or, Some, sym, ap, ◌∙◌, arith}
use Rattle.std.proofs.lemmas.Bool.{cond-true, le-leb}
use Rattle.ei.proofs.Texts.{same_text}
use Rattle.ei.specs.Texts.{text_of, padded_long, padded_blank}
use Rattle.ei.proofs.text.Text.from_bytes.Goals as goal

pub invariant_of-result : goal.invariant_of-result
invariant_of-result c =
    let bs = c.args.bytes.now in
    let e = c.with_zeros.ensures in
    record {
      long = ap length e ∙ padded_long 128 bs;
      fits = c.if-len-gt128.false;
      blank = λ k h. ap (λ b. get_or b k 0) e ∙ padded_blank 128 bs k (omega arith);
    }

pub returns : goal.returns
unfolding text_of
returns c =
    let bs = c.args.bytes.now in
    ap Some (same_text _ (text_of bs) c.with_zeros.ensures (omega arith)) ∙ sym (cond-true (leb (length bs) 128) _ _ (le-leb (length bs) 128 (omega arith)))
