use Rattle.std.proofs.Common.{List, ℕ, [], ◌∷◌, ◌++◌, Some, false, ◌-◌, ◌^◌, ◌<◌, ◌≡◌, ap, ◌∙◌, subst, arith}
use Rattle.std.specs.Fmt.{◌++?◌, format_spec, padded_integral, styled_digits_output, DisplaysOnOk}
use Rattle.std.specs.Option.{option_map}
use Rattle.showing.proofs.Hex.{hex_text}
use Rattle.showing.specs.Showing.{float_bits, hex_word}
use Rattle.showing.proofs.BitsDisplay.fmt.Goals as goal

pub returns-clause-writes : goal.returns-clause-writes
returns-clause-writes g c =
    let start : List ℕ = 48 ∷ (120 ∷ []) in
    let n = c.f32_to_bits_with_nan.result in
    let small : n < 2 ^ 32 = omega arith in
    let text : (Some start ++? styled_digits_output c.in_radix.result c.laid_out.result) ≡ Some (float_bits c.args.self.now.0) =
    (λ i. Some start ++? styled_digits_output c.in_radix.result (c.laid_out.ensures i)) ∙ ((λ i. Some start ++? option_map (padded_integral (format_spec 32 0 4 8 (2 ^ 64 - 1)) false []) (c.in_radix.ensures i)) ∙ ap (λ l. Some (start ++ l)) (hex_text n small) ∙ ap (λ m. Some (start ++ hex_word m)) c.f32_to_bits_with_nan.ensures) in
    subst (λ o. DisplaysOnOk g.W.Write.write_str_gives c.args.f.now c.write.result o c.write.new.self) text c.write.ensures.writes
