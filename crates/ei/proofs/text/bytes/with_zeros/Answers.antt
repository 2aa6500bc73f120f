use Rattle.std.proofs.Common.{◌++◌, length, drop, replicate, ap, ◌∙◌}
use Rattle.ei.proofs.Texts.{padded_front}
use Rattle.ei.proofs.text.bytes.with_zeros.Goals as goal

pub returns : goal.returns
returns c =
    let bs = c.args.bytes.now in
    ap (λ front. front ++ drop (length bs) (replicate 128 0)) c.copy_from_slice.ensures.after ∙ padded_front 128 bs c.requires
