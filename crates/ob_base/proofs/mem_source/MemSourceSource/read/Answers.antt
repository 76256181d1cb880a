use Rattle.std.proofs.Common.{◌≡◌, ◌+◌, ◌≤◌, ◌++◌, Some, length, take, drop, ap, ◌∙◌, sym, arith}
use Rattle.std.proofs.lemmas.List.{drop-drop}
use Rattle.std.proofs.lemmas.Grind.{common_steps}
use Rattle.ob_base.proofs.Pieces.{copied_then_rest}
use Rattle.ob_base.proofs.mem_source.MemSourceSource.read.Goals as goal

pub returns-clause-bytes : goal.returns-clause-bytes
returns-clause-bytes c =
    let left = c.args.self.now.left in
    let n = c.min-count.result in
    let front = c.copy_from_slice.new.self in
    let behind = drop n c.args.buf.now in
    let within : n ≤ length left = grind (arith, common_steps) in
    let copied : front ≡ take n left = grind (arith, common_steps) in
    let after : drop (c.self.inside.at + n) c.self.inside.bytes.items ≡ drop n left = grind (arith, drop-drop) in
    ap Some (copied_then_rest n left front behind copied within ∙ ap (λ r. take n (front ++ behind) ++ r) (sym after))
