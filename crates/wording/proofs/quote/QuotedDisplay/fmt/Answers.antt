use Rattle.std.proofs.Common.{is_ok, ap}
use Rattle.std.proofs.Output.{has_written_of_eq, has_written_append}
use Rattle.wording.proofs.Quoting.{bytes_more}
use Rattle.wording.proofs.quote.QuotedDisplay.fmt.Goals as goal

pub loop-byte-preserved : goal.loop-byte-preserved
loop-byte-preserved g c = λ plain.
    let took = g.W.Write.write_str_gives in
    let so_far = c.loop-byte.invariant plain in
    let one = c.write-in-loop-byte.ensures.writes so_far.plain (ap is_ok c.in_ok-write-2.was) in
    has_written_of_eq took _ _ _ _ (bytes_more c.args.self.now.0.now c.loop-byte.byte-index c.loop-byte-test.true) (has_written_append took _ _ _ _ _ so_far one)
