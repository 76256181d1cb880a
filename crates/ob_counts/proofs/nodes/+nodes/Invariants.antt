use Rattle.std.proofs.Common.{◌≡◌, ◌+◌, take}
use Rattle.std.specs.List.{sum_by}
use Rattle.ob_tree.specs.ExpressionView.{expr_tree, obj_tree, init_tree, one_member, one_dim}
use Rattle.ob_typed.specs.Counts.{nodes, nodes_of_members, nodes_of_object, nodes_of_dims, nodes_of_init}
use Rattle.ob_counts.proofs.nodes.+nodes.Given as goal

abbrev pub invariant-add_arguments-loop-e : goal.invariant-add_arguments-loop-e
invariant-add_arguments-loop-e l = l.total ≡ l.fn.total + sum_by (λ e. nodes (expr_tree e)) (take l.e-index l.arguments)

abbrev pub invariant-add_members-loop-member : goal.invariant-add_members-loop-member
invariant-add_members-loop-member l = l.total ≡ l.fn.total + sum_by (λ m. nodes_of_members (one_member m)) (take l.member-index l.members)

abbrev pub invariant-add_objects-loop-name : goal.invariant-add_objects-loop-name
invariant-add_objects-loop-name l = l.total ≡ l.fn.total + sum_by (λ o. nodes_of_object (obj_tree o)) (take l.name-index l.names)

abbrev pub invariant-add_dims-loop-dim : goal.invariant-add_dims-loop-dim
invariant-add_dims-loop-dim l = l.total ≡ l.fn.total + sum_by (λ d. nodes_of_dims (one_dim d)) (take l.dim-index l.dims)

abbrev pub invariant-add_inits-loop-item : goal.invariant-add_inits-loop-item
invariant-add_inits-loop-item l = l.total ≡ l.fn.total + sum_by (λ i. nodes_of_init (init_tree i)) (take l.item-index l.items)
