use Rattle.std.proofs.Common.{◌≡◌, arith}
use Rattle.ob_image.specs.Instructions.{instruction, instructions}
use Rattle.ob_image.proofs.instructions.control_form.Goals as goal

pub returns-in_default : goal.returns-in_default
unfolding instruction instructions
returns-in_default c = let e : c.args.f.op ≡ 11 = omega (arith, c.requires.first, c.requires.last) in rw e
