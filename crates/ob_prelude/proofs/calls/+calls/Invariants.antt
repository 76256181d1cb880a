use Rattle.std.proofs.Common.{◌≡◌, take, false}
use Rattle.std.specs.List.{list_any}
use Rattle.ob_tree.specs.ExpressionView.{expr_tree, obj_tree, init_tree, one_member, one_dim}
use Rattle.ob_prelude.specs.Calls.{calls, members_call, obj_calls, dims_call, init_calls}
use Rattle.ob_prelude.proofs.calls.+calls.Given as goal

abbrev pub invariant-arguments_call-loop-e : goal.invariant-arguments_call-loop-e
invariant-arguments_call-loop-e l = list_any (λ e. calls l.name (expr_tree e)) (take l.e-index l.arguments) ≡ false

abbrev pub invariant-dims_call-loop-dim : goal.invariant-dims_call-loop-dim
invariant-dims_call-loop-dim l = list_any (λ d. dims_call l.name (one_dim d)) (take l.dim-index l.dims) ≡ false

abbrev pub invariant-inits_call-loop-item : goal.invariant-inits_call-loop-item
invariant-inits_call-loop-item l = list_any (λ i. init_calls l.name (init_tree i)) (take l.item-index l.items) ≡ false

abbrev pub invariant-members_call-loop-member : goal.invariant-members_call-loop-member
invariant-members_call-loop-member l = list_any (λ m. members_call l.name (one_member m)) (take l.member-index l.members) ≡ false

abbrev pub invariant-objs_call-loop-object : goal.invariant-objs_call-loop-object
invariant-objs_call-loop-object l = list_any (λ o. obj_calls l.name (obj_tree o)) (take l.object-index l.objects) ≡ false
