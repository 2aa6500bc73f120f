use Rattle.std.proofs.Common.{ap, ◌∙◌, subst, arith}
use Rattle.std.proofs.lemmas.Int.Digits.{digits_more, digits_value_more}
use Rattle.std.proofs.lemmas.List.{take_all}
use Rattle.std.specs.Str.Parse.{AllDigits, digits_value}
use Rattle.wording.proofs.Numbers.{digit_among, front_fits}
use Rattle.wording.proofs.digits.written.Goals as goal

pub returns-in_err-number : goal.returns-in_err-number
returns-in_err-number c =
    let most = front_fits c.args.radix c.args.digits.now c.loop-byte.byte-index c.loop-byte.number (omega arith) c.loop-byte-test.true c.loop-byte.invariant.2 in
    rw c.from_residual.ensures (λ p. c.in_err-number.ensures (digit_among c.args.radix c.args.digits.now c.loop-byte.byte-index p.0 c.loop-byte-test.true, omega (arith, most, p.1)))

pub loop-byte-preserved : goal.loop-byte-preserved
loop-byte-preserved c =
    let ds = c.args.digits.now in
    let i = c.loop-byte.byte-index in
    let e = digits_value_more c.args.radix ds i c.loop-byte-test.true in (
      digits_more c.args.radix ds i c.loop-byte-test.true c.loop-byte.invariant.0 c.in_ok-number.ensures.0.0,
      omega (arith, c.in_ok-number.ensures.0.1, c.in_ok-number.ensures.1),
      cc (c.in_ok-number.ensures.1, e),
    )

pub returns : goal.returns
returns c =
    let whole = take_all c.loop-byte.byte-index c.args.digits.now c.loop-byte-test.false in
    let e = c.loop-byte.invariant.2 ∙ ap (digits_value c.args.radix) whole in
    ((subst (AllDigits c.args.radix) whole c.loop-byte.invariant.0, omega (arith, e)), e)
