use Rattle.std.proofs.Common.{◌≡◌, drop, vec_items}
use Rattle.wording.proofs.Quoting.{ahead}
use Rattle.wording.specs.Quoting.{unquoted_from}
use Rattle.wording.specs.declared.quote.Place.TheVariants.{Between}
use Rattle.wording.proofs.quote.unquote_rest.Given as goal

-- what was read, and what is still to come, is the text
abbrev pub invariant-loop-byte : goal.invariant-loop-byte
invariant-loop-byte l = ahead (vec_items l.out) (unquoted_from l.place (drop l.byte-index l.rest)) ≡ unquoted_from Between l.rest
