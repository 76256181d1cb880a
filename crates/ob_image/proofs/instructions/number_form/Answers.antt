use Rattle.std.proofs.Common.{◌≡◌, arith}
use Rattle.ob_image.specs.Layout.{limits_of, all_limits}
use Rattle.ob_image.specs.Instructions.{instruction, instructions}
use Rattle.ob_image.proofs.FormLimits.{kind_at, imm_at}
use Rattle.ob_image.proofs.instructions.number_form.Goals as goal

pub integer_type-requires : goal.integer_type-requires
unfolding limits_of all_limits
integer_type-requires c = kind_at _ 4 _ c.in-4.is c.requires.form.kind

pub integer_type-requires-in-5 : goal.integer_type-requires-in-5
unfolding limits_of all_limits
integer_type-requires-in-5 c = kind_at _ 5 _ c.in-5.is c.requires.form.kind

pub operator-requires : goal.operator-requires
unfolding limits_of all_limits
operator-requires c = imm_at _ 5 _ c.in-5.is c.requires.form.imm

pub integer_type-requires-in-6 : goal.integer_type-requires-in-6
unfolding limits_of all_limits
integer_type-requires-in-6 c = kind_at _ 6 _ c.in-6.is c.requires.form.kind

pub relation-requires : goal.relation-requires
unfolding limits_of all_limits
relation-requires c = imm_at _ 6 _ c.in-6.is c.requires.form.imm

pub returns-in_default : goal.returns-in_default
unfolding instruction instructions
returns-in_default c = let e : c.args.f.op ≡ 1 = omega (arith, c.requires.last, c.requires.form.first) in rw e
