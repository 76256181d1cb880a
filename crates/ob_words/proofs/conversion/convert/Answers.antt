use Rattle.std.proofs.Common.{◌≡◌, ◌^◌, pos, FitsSigned, sym, ap, ◌∙◌, subst, arith}
use Rattle.std.specs.Int.{w128}
use Rattle.std.proofs.lemmas.Int.{to_z-of_z, to_z_pos}
use Rattle.ob_words.specs.Types.{width}
use Rattle.ob_words.specs.Conversion.{residue, twos_complement, IsConversion}
use Rattle.ob_words.proofs.Conversions.{conversion, convert_signed, convert_unsigned}
use Rattle.ob_words.proofs.conversion.convert.Goals as goal

pub returns-then-signed-clause-value : goal.returns-then-signed-clause-value
returns-then-signed-clause-value c =
    let low : c.low_bits-low.result ≡ residue (2 ^ width c.args.t) c.args.n =
    c.low_bits-low.ensures ∙ (λ i. residue (2 ^ c.width-bits.ensures i) (to_z-of_z w128 c.args.n c.ranges.n i)) in
    let fits : FitsSigned w128 c.signed_number.result = record { sfits = c.signed_number.type_inv } in
    to_z-of_z w128 c.signed_number.result fits
    ∙ c.signed_number.ensures
    ∙ (λ i. twos_complement (c.width-bits.ensures i) (low i))
    ∙ sym (convert_signed c.args.t c.args.n (sym c.signed.ensures ∙ c.if-signed.true))

pub returns-then-signed-clause-meaning : goal.returns-then-signed-clause-meaning
returns-then-signed-clause-meaning c = subst (IsConversion c.args.t c.args.n) (sym (returns-then-signed-clause-value c)) (conversion c.args.t c.args.n)

pub returns-else-signed-clause-value : goal.returns-else-signed-clause-value
returns-else-signed-clause-value c =
    let low : c.low_bits-low.result ≡ residue (2 ^ width c.args.t) c.args.n =
    c.low_bits-low.ensures ∙ (λ i. residue (2 ^ c.width-bits.ensures i) (to_z-of_z w128 c.args.n c.ranges.n i)) in
    to_z_pos w128 c.low_bits-low.result (omega arith)
    ∙ ap pos low
    ∙ sym (convert_unsigned c.args.t c.args.n (sym c.signed.ensures ∙ c.if-signed.false))

pub returns-else-signed-clause-meaning : goal.returns-else-signed-clause-meaning
returns-else-signed-clause-meaning c = subst (IsConversion c.args.t c.args.n) (sym (returns-else-signed-clause-value c)) (conversion c.args.t c.args.n)
