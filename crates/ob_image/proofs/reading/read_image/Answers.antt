use Rattle.std.proofs.Common.{arith}
use Rattle.ob_image.proofs.Readers.{are_bytes}
use Rattle.ob_image.proofs.Wholes.{read_whole, read_wrong}
use Rattle.ob_image.proofs.reading.read_image.Goals as goal

pub overflow_sub-result : goal.overflow_sub-result
overflow_sub-result c = (read_wrong c.args.bytes.now c.in-Err-Left.left (are_bytes c.args.bytes.now (λ i. omega (arith, c.type_inv.bytes i))) (rw c.in-Err-Left.field-0-is at c.in-Err-Left.ensures)).1

pub returns-in-Ok : goal.returns-in-Ok
returns-in-Ok c = read_whole c.args.bytes.now _ (are_bytes c.args.bytes.now (λ i. omega (arith, c.type_inv.bytes i))) c.in-Ok.ensures

pub returns-in-Err-Left : goal.returns-in-Err-Left
returns-in-Err-Left c = (read_wrong c.args.bytes.now c.in-Err-Left.left (are_bytes c.args.bytes.now (λ i. omega (arith, c.type_inv.bytes i))) (rw c.in-Err-Left.field-0-is at c.in-Err-Left.ensures)).0
