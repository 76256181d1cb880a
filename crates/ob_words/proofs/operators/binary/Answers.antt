use Rattle.std.proofs.Common.{◌^◌, ◌<◌, ◌*◌, ◌%◌, bit_and, bit_or, arith, refl, subst, sym, ap, ◌∙◌}
use Rattle.std.specs.Prelude.{bit_xor}
use Rattle.std.specs.Int.{w128}
use Rattle.std.proofs.lemmas.Int.{to_z-of_z, rem_is}
use Rattle.ob_words.specs.declared.types.BinOp.TheVariants.{Add, Sub, Mul, Div, Rem, And, Or, Xor, Shl, Shr}
use Rattle.ob_words.specs.Conversion.{convert}
use Rattle.ob_words.specs.Words.{word, number}
use Rattle.ob_words.specs.Operators.{shifts, places}
use Rattle.ob_words.proofs.Operations.{answered, places_below, sum_exact, difference_exact, quotient_exact, not_zero, shifted_exact, shifted_fits, product_word, shifted_word, and_word, or_word, xor_word}
use Rattle.ob_words.proofs.operators.binary.Goals as goal

pub overflow_shl-word : goal.overflow_shl-word
overflow_shl-word c = subst (λ k. k < 64) (sym c.places.ensures) (places_below c.args.t _)

pub overflow_shr-result : goal.overflow_shr-result
overflow_shr-result c = let below : c.places-in-Shr.result < 64 = subst (λ k. k < 64) (sym c.places-in-Shr.ensures) (places_below c.args.t _) in omega arith

pub returns-in-Add : goal.returns-in-Add
returns-in-Add c =
    let right = c.requires.right (ap shifts c.in-Add.is) in
    answered c.args.op Add c.args.t c.args.a c.args.b c.convert.result c.in-Add.is refl (record { sfits = c.convert.type_inv })
    (c.convert.ensures.value ∙ ap (convert c.args.t) (sum_exact c.args.t c.args.a c.args.b c.ranges.a c.ranges.b c.requires.left right))

pub returns-in-Sub : goal.returns-in-Sub
returns-in-Sub c =
    let right = c.requires.right (ap shifts c.in-Sub.is) in
    answered c.args.op Sub c.args.t c.args.a c.args.b c.convert-in-Sub.result c.in-Sub.is refl (record { sfits = c.convert-in-Sub.type_inv })
    (c.convert-in-Sub.ensures.value ∙ ap (convert c.args.t) (difference_exact c.args.t c.args.a c.args.b c.ranges.a c.ranges.b c.requires.left right))

pub returns-in-Mul : goal.returns-in-Mul
returns-in-Mul c =
    let t = c.args.t in
    let a = c.word.ensures ∙ ap word (to_z-of_z w128 c.args.a c.ranges.a) in
    let b = c.word-in-Mul.ensures ∙ ap word (to_z-of_z w128 c.args.b c.ranges.b) in
    answered c.args.op Mul t c.args.a c.args.b c.number.result c.in-Mul.is refl (record { sfits = c.number.type_inv })
    (c.number.ensures ∙ (λ i. number t (a i * b i % 2 ^ 64)) ∙ product_word t c.args.a c.args.b)

pub returns-in-Div-2 : goal.returns-in-Div-2
returns-in-Div-2 c =
    answered c.args.op Div c.args.t c.args.a c.args.b c.convert-in-Div-2.result c.in-Div-2.is (not_zero c.args.b c.if-b-eq0.false) (record { sfits = c.convert-in-Div-2.type_inv })
    (c.convert-in-Div-2.ensures.value ∙ ap (convert c.args.t) (quotient_exact c.args.t c.args.a c.args.b c.ranges.a c.ranges.b c.requires.left))

pub returns-in-Rem-2 : goal.returns-in-Rem-2
returns-in-Rem-2 c =
    answered c.args.op Rem c.args.t c.args.a c.args.b c.convert-in-Rem-2.result c.in-Rem-2.is (not_zero c.args.b c.if-b-eq0-2.false) (record { sfits = c.convert-in-Rem-2.type_inv })
    (c.convert-in-Rem-2.ensures.value ∙ ap (convert c.args.t) (rem_is w128 c.args.a c.args.b c.ranges.a c.ranges.b))

pub returns-in-And : goal.returns-in-And
returns-in-And c =
    let t = c.args.t in
    let a = c.word-in-And.ensures ∙ ap word (to_z-of_z w128 c.args.a c.ranges.a) in
    let b = c.word-in-And-2.ensures ∙ ap word (to_z-of_z w128 c.args.b c.ranges.b) in
    answered c.args.op And t c.args.a c.args.b c.number-in-And.result c.in-And.is refl (record { sfits = c.number-in-And.type_inv })
    (c.number-in-And.ensures ∙ (λ i. number t (bit_and (a i) (b i))) ∙ and_word t c.args.a c.args.b)

pub returns-in-Or : goal.returns-in-Or
returns-in-Or c =
    let t = c.args.t in
    let a = c.word-in-Or.ensures ∙ ap word (to_z-of_z w128 c.args.a c.ranges.a) in
    let b = c.word-in-Or-2.ensures ∙ ap word (to_z-of_z w128 c.args.b c.ranges.b) in
    answered c.args.op Or t c.args.a c.args.b c.number-in-Or.result c.in-Or.is refl (record { sfits = c.number-in-Or.type_inv })
    (c.number-in-Or.ensures ∙ (λ i. number t (bit_or (a i) (b i))) ∙ or_word t c.args.a c.args.b)

pub returns-in-Xor : goal.returns-in-Xor
returns-in-Xor c =
    let t = c.args.t in
    let a = c.word-in-Xor.ensures ∙ ap word (to_z-of_z w128 c.args.a c.ranges.a) in
    let b = c.word-in-Xor-2.ensures ∙ ap word (to_z-of_z w128 c.args.b c.ranges.b) in
    answered c.args.op Xor t c.args.a c.args.b c.number-in-Xor.result c.in-Xor.is refl (record { sfits = c.number-in-Xor.type_inv })
    (c.number-in-Xor.ensures ∙ (λ i. number t (bit_xor (a i) (b i))) ∙ xor_word t c.args.a c.args.b)

pub returns-in-Shl : goal.returns-in-Shl
returns-in-Shl c =
    let t = c.args.t in
    let a = c.word-in-Shl.ensures ∙ ap word (to_z-of_z w128 c.args.a c.ranges.a) in
    let k = c.places.ensures ∙ ap (places t) (to_z-of_z w128 c.args.b c.ranges.b) in
    answered c.args.op Shl t c.args.a c.args.b c.number-in-Shl.result c.in-Shl.is refl (record { sfits = c.number-in-Shl.type_inv })
    (c.number-in-Shl.ensures ∙ (λ i. number t (a i * 2 ^ k i % 2 ^ 64)) ∙ shifted_word t c.args.a (places t c.args.b))

pub returns-in-Shr : goal.returns-in-Shr
returns-in-Shr c =
    answered c.args.op Shr c.args.t c.args.a c.args.b _ c.in-Shr.is refl (shifted_fits c.args.a _ c.ranges.a)
    (shifted_exact c.args.t c.args.a c.args.b c.places-in-Shr.result c.ranges.a c.ranges.b c.places-in-Shr.ensures c.requires.left)
