-- What the arguments of a call assign, where the program keeps them in a vector.
use Rattle.std.proofs.Common.{◌≡◌, ℕ, Bool, ◌||◌, List, ◌⊎◌, ⊎_elim, refl, ap, ◌∙◌}
use Rattle.std.specs.Prelude.{Vec}
use Rattle.std.specs.declared.alloc.Global.{Global}
use Rattle.std.specs.List.{list_any}
use Rattle.ob_typed.specs.declared.names.Builtin.{Builtin}
use Rattle.ob_typed.specs.declared.expressions.TExpr.{TExpr}
use Rattle.ob_typed.specs.declared.expressions.TNode as node
use Rattle.ob_typed.specs.declared.expressions.TLean.TheBlock as nodes
use Rattle.ob_typed.specs.declared.expressions.TLean.TheBlock.{Row_of-TExpr, end_of-TExpr, more_of-TExpr, items-the_row-TExpr, items_hidden-the_row-TExpr-0}
use Rattle.ob_typed.specs.TypedView.{typed, typed_node, typed_expr, argument_row}
use Rattle.ob_lower.specs.Assigned.{assigns, arguments_assign, node_assigns}
use Rattle.ob_lower.specs.Homes.{Context}

abbrev of_expr : Context → ℕ → TExpr → Bool
of_expr c w e = assigns c (typed_expr e) w

of_row : (c : Context) (w : ℕ) (n : _) (row : Row_of-TExpr n) → arguments_assign c (argument_row row) w ≡ list_any (of_expr c w) (items-the_row-TExpr n row)
of_row c w n end_of-TExpr = refl
of_row c w n (more_of-TExpr l t e es) = ap (λ b. assigns c (typed l t (typed_node e)) w || b) (of_row c w _ es)

of_vector : (c : Context) (w : ℕ) (es : Vec TExpr Global) → arguments_assign c (argument_row (nodes.hidden-the_row-TExpr-0 es)) w ≡ list_any (of_expr c w) es.items
of_vector c w es = of_row c w _ (nodes.hidden-the_row-TExpr-0 es) ∙ ap (list_any (of_expr c w)) (items_hidden-the_row-TExpr-0 es)

-- a call assigns what one of its arguments assigns
pub call_assigns : (c : Context) (w : ℕ) (e : TExpr) (es : Vec TExpr Global) → ((n : ℕ) × (e.node ≡ node.Call n es)) ⊎ ((b : Builtin) × (e.node ≡ node.Builtin b es)) →
    assigns c (typed_expr e) w ≡ list_any (λ x. assigns c (typed_expr x) w) es.items
call_assigns c w e es h = ⊎_elim
    (λ (p : (n : ℕ) × (e.node ≡ node.Call n es)). ap (λ x. node_assigns c (typed_node x) w) p.1 ∙ of_vector c w es)
    (λ (p : (b : Builtin) × (e.node ≡ node.Builtin b es)). ap (λ x. node_assigns c (typed_node x) w) p.1 ∙ of_vector c w es)
    h
