use Rattle.std.proofs.Common.{ap}
use Rattle.ob_tree.specs.TypeView.{plain_type}
use Rattle.ob_typed.specs.Conversions.{Checked}
use Rattle.ob_typed.specs.TypedTree.{TypedExpr}
use Rattle.ob_uses.proofs.ArgumentRows.{builtin_call_node}
use Rattle.ob_uses.proofs.calls.builtin_node.Goals as goal

pub returns : goal.returns
returns c = ap (λ n. Checked.Plain (TypedExpr.Typed c.args.line (plain_type c.args.ty) n)) (builtin_call_node c.args.b c.args.es)
