use Rattle.std.proofs.Common.{◌≡◌, arith}
use Rattle.ob_image.specs.Layout.{limits_of, all_limits}
use Rattle.ob_image.specs.Instructions.{instruction, instructions}
use Rattle.ob_image.proofs.FormLimits.{imm_at}
use Rattle.ob_image.proofs.instructions.pointer_form.Goals as goal

pub relation-requires : goal.relation-requires
unfolding limits_of all_limits
relation-requires c = let h = imm_at _ 21 _ c.in-21.is c.requires.form.imm in omega (arith, h)

pub returns-in_default : goal.returns-in_default
unfolding instruction instructions
returns-in_default c = let e : c.args.f.op ≡ 19 = omega (arith, c.requires.first, c.requires.last) in rw e
