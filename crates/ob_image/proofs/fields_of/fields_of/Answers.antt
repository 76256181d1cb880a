use Rattle.std.proofs.Common.{◌≤◌, refl, arith}
use Rattle.ob_image.specs.Layout.{any_word, any_number, fields_of}
use Rattle.ob_image.proofs.FormLimits.{within}
use Rattle.ob_image.proofs.fields_of.fields_of.Goals as goal

pub returns-clause-value : goal.returns-clause-value
returns-clause-value c =
    rw (c.operation_of.ensures, c.kind_of.ensures, c.line_of.ensures, c.a_of.ensures, c.b_of.ensures, c.c_of.ensures, c.number_of.ensures.value) refl

pub returns-clause-valid : goal.returns-clause-valid
returns-clause-valid c = λ rule.
    let line : (fields_of c.args.instr).line ≤ any_word = omega (arith, c.line_of.ensures, c.line_of.type_inv) in
    let a : (fields_of c.args.instr).a ≤ any_word = omega (arith, c.a_of.ensures, c.a_of.type_inv) in
    let b : (fields_of c.args.instr).b ≤ any_word = omega (arith, c.b_of.ensures, c.b_of.type_inv) in
    let k : (fields_of c.args.instr).c ≤ any_word = omega (arith, c.c_of.ensures, c.c_of.type_inv) in
    let imm : (fields_of c.args.instr).imm ≤ any_number = omega (arith, c.number_of.ensures.value, c.number_of.type_inv) in
    record { fields = within c.args.instr (record { line = line; a = a; b = b; c = k; imm = imm }) rule; number = c.number_of.ensures.signed }
