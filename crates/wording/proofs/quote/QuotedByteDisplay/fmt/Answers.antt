use Rattle.std.proofs.Common.{◌≡◌, ℕ, List, [], ◌∷◌, ◌++◌, Some, false, ◌-◌, ◌^◌, sym, ap, ◌∙◌, subst, arith}
use Rattle.std.proofs.lemmas.Bool.Decides.{nat_tests}
use Rattle.std.proofs.lemmas.Fmt.{hex_byte as hex_text}
use Rattle.std.specs.Fmt.{◌++?◌, format_spec, padded_integral, styled_digits_output, DisplaysOnOk}
use Rattle.std.specs.Option.{option_map}
use Rattle.wording.specs.Quoting.{hex_byte, quoted_byte}
use Rattle.wording.proofs.quote.QuotedByteDisplay.fmt.Goals as goal

pub returns-in_default-clause-writes : goal.returns-in_default-clause-writes
returns-in_default-clause-writes g c =
    let b = c.args.self.now.0 in
    let start : List ℕ = 92 ∷ (120 ∷ []) in
    let q : quoted_byte b ≡ 92 ∷ (120 ∷ hex_byte b) = grind (arith, nat_tests) in
    let text : (Some start ++? styled_digits_output c.in_radix.result c.laid_out.result) ≡ Some (quoted_byte b) =
    (λ i. Some start ++? styled_digits_output c.in_radix.result (c.laid_out.ensures i)) ∙ ((λ i. Some start ++? option_map (padded_integral (format_spec 32 0 4 2 (2 ^ 64 - 1)) false []) (c.in_radix.ensures i)) ∙ ((λ i. Some (start ++ hex_text false b (omega arith) i)) ∙ ap Some (sym q))) in
    subst (λ o. DisplaysOnOk g.W.Write.write_str_gives c.args.f.now c.write-in_default.result o c.write-in_default.new.self) text c.write-in_default.ensures.writes
