use Rattle.std.proofs.Common.{◌≡◌, ◌++◌, take}
use Rattle.std.specs.List.{flat_map}
use Rattle.ob_tree.specs.Spelling.{spell, spell_members, spell_obj, spell_dims, spell_init, listed}
use Rattle.ob_tree.specs.ExpressionView.{expr_tree, obj_tree, init_tree, one_member, one_dim}
use Rattle.ob_tree.proofs.spelling.+spell.Given as goal

abbrev pub invariant-put_arguments-loop-i : goal.invariant-put_arguments-loop-i
invariant-put_arguments-loop-i l = l.out.items ≡ l.fn.out.items ++ listed (λ e. spell (expr_tree e)) (take l.i l.arguments)

abbrev pub invariant-put_dims-loop-dim : goal.invariant-put_dims-loop-dim
invariant-put_dims-loop-dim l = l.out.items ≡ l.fn.out.items ++ flat_map (λ d. spell_dims (one_dim d)) (take l.dim-index l.dims)

abbrev pub invariant-put_inits-loop-i : goal.invariant-put_inits-loop-i
invariant-put_inits-loop-i l = l.out.items ≡ l.fn.out.items ++ listed (λ i. spell_init (init_tree i)) (take l.i l.items)

abbrev pub invariant-put_members-loop-member : goal.invariant-put_members-loop-member
invariant-put_members-loop-member l = l.out.items ≡ l.fn.out.items ++ flat_map (λ m. spell_members (one_member m)) (take l.member-index l.members)

abbrev pub invariant-put_objs-loop-i : goal.invariant-put_objs-loop-i
invariant-put_objs-loop-i l = l.out.items ≡ l.fn.out.items ++ listed (λ o. spell_obj (obj_tree o)) (take l.i l.names)
