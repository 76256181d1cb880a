-- The node of a call from the list of its arguments.
use Rattle.std.proofs.Common.{◌≡◌, ℕ, refl, ◌∙◌, ap}
use Rattle.std.specs.Prelude.{Vec, map}
use Rattle.std.specs.declared.alloc.Global.{Global}
use Rattle.ob_typed.specs.declared.names.Builtin.{Builtin}
use Rattle.ob_typed.specs.declared.expressions.TExpr.{TExpr}
use Rattle.ob_typed.specs.declared.expressions.TNode as node
use Rattle.ob_typed.specs.declared.expressions.TLean.TheBlock as block
use Rattle.ob_typed.specs.declared.expressions.TLean.TheBlock.{Row_of-TExpr, end_of-TExpr, more_of-TExpr, items-the_row-TExpr, items_hidden-the_row-TExpr-0}
use Rattle.ob_typed.specs.PostfixRules.{expr_list}
use Rattle.ob_typed.specs.TypedTree.{TypedExprs, TypedNode}
use Rattle.ob_typed.specs.TypedView.{argument_row, typed, typed_expr, typed_node}
use Rattle.ob_uses.specs.Passing.{typed_list}

row_arguments : (n : _) (row : Row_of-TExpr n) → argument_row row ≡ expr_list (map typed_expr (items-the_row-TExpr n row))
row_arguments n end_of-TExpr = refl
row_arguments n (more_of-TExpr l t e es) = ap (TypedExprs.Argument (typed l t (typed_node e))) (row_arguments _ es)

arguments_of : (es : Vec TExpr Global) → argument_row (block.hidden-the_row-TExpr-0 es) ≡ expr_list (typed_list es)
arguments_of es = row_arguments _ (block.hidden-the_row-TExpr-0 es) ∙ ap (λ xs. expr_list (map typed_expr xs)) (items_hidden-the_row-TExpr-0 es)

pub call_node : (n : ℕ) (es : Vec TExpr Global) → typed_node (node.Call n es) ≡ TypedNode.Call n (expr_list (typed_list es))
call_node n es = ap (TypedNode.Call n) (arguments_of es)

pub builtin_call_node : (b : Builtin) (es : Vec TExpr Global) → typed_node (node.Builtin b es) ≡ TypedNode.CallBuiltin b (expr_list (typed_list es))
builtin_call_node b es = ap (TypedNode.CallBuiltin b) (arguments_of es)
