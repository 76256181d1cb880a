use Rattle.std.proofs.Common.{◌≡◌, length, drop, arith}
use Rattle.ob_machine.proofs.Filled.{filled_is}
use Rattle.ob_machine.proofs.buffers.input.InputBuffer.fill.Goals as goal

pub returns-clause-end : goal.returns-clause-end
returns-clause-end g c =
    let whole : c.self.inside.bytes.len ≡ length c.read.new.buf = omega arith in
    filled_is c.in_ok-count.count c.self.inside.bytes.len c.read.new.buf (drop (length c.read.new.buf) c.self.inside.bytes.items) (g.S.Source.left c.read.new.self) whole c.in_ok-count.ensures.within
    (λ none. c.in_ok-count.ensures.end none (omega arith))
