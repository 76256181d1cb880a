use Rattle.std.proofs.Common.{◌≡◌, arith, rules}
use Rattle.ob_image.specs.Layout.{limits_of, all_limits}
use Rattle.ob_image.specs.Instructions.{instruction, instructions}
use Rattle.ob_image.proofs.FormLimits.{kind_at}
use Rattle.ob_image.proofs.instructions.object_form.Goals as goal

pub load_kind-requires : goal.load_kind-requires
unfolding limits_of all_limits
load_kind-requires c = kind_at _ 15 _ c.in-15.is c.requires.form.kind

pub load_kind-requires-in-16 : goal.load_kind-requires-in-16
unfolding limits_of all_limits
load_kind-requires-in-16 c = kind_at _ 16 _ c.in-16.is c.requires.form.kind

pub returns-in_default : goal.returns-in_default
unfolding instruction instructions
returns-in_default c = let e : c.args.f.op ≡ 14 = omega (arith, c.requires.first, c.requires.last) in search (rules, e, c.cast_signed-imm.ensures)
