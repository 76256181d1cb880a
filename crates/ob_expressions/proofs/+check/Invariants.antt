use Rattle.std.proofs.Common.{◌≡◌, [], drop}
use Rattle.ob_tree.specs.ExpressionView.{dim_trees, obj_trees}
use Rattle.ob_tree.specs.TypeView.{plain_type}
use Rattle.ob_typed.specs.Expressions.{check_arguments, check_lengths, check_members, check_names}
use Rattle.ob_context.specs.KnownView.{env_of, known_of, stand_of}
use Rattle.ob_uses.specs.ArgumentView.{arguments}
use Rattle.ob_expressions.specs.Lists.{expr_trees, member_trees}
use Rattle.ob_expressions.proofs.+check.Given as goal

abbrev pub invariant-calls::check_arguments-loop-e : goal.invariant-calls::check_arguments-loop-e
invariant-calls::check_arguments-loop-e l =
    (check_arguments (env_of l.env (stand_of l.fn.known)) [] (expr_trees l.fn.es.items) (known_of l.fn.known)
    ≡ check_arguments (env_of l.env (stand_of l.fn.known)) (arguments l.given.items) (expr_trees (drop l.e-index l.e-items)) (known_of l.known))
    × (stand_of l.known ≡ stand_of l.fn.known)

abbrev pub invariant-lengths::check_lengths-loop-dim : goal.invariant-lengths::check_lengths-loop-dim
invariant-lengths::check_lengths-loop-dim l =
    (check_lengths (env_of l.env (stand_of l.fn.known)) [] (dim_trees l.fn.dims.items) (known_of l.fn.known)
    ≡ check_lengths (env_of l.env (stand_of l.fn.known)) l.lengths.items (dim_trees (drop l.dim-index l.dim-items)) (known_of l.known))
    × (stand_of l.known ≡ stand_of l.fn.known)

abbrev pub invariant-specifiers::check_members-loop-line : goal.invariant-specifiers::check_members-loop-line
invariant-specifiers::check_members-loop-line l =
    (check_members (env_of l.env (stand_of l.fn.known)) [] (member_trees l.fn.lines.items) (known_of l.fn.known)
    ≡ check_members (env_of l.env (stand_of l.fn.known)) l.list (member_trees (drop l.line-index l.line-items)) (known_of l.known))
    × (stand_of l.known ≡ stand_of l.fn.known)

abbrev pub invariant-specifiers::check_names-loop-o : goal.invariant-specifiers::check_names-loop-o
invariant-specifiers::check_names-loop-o l =
    (check_names (env_of l.env (stand_of l.fn.known)) (plain_type l.t) l.fn.list (obj_trees l.fn.names.items) (known_of l.fn.known)
    ≡ check_names (env_of l.env (stand_of l.fn.known)) (plain_type l.t) l.list (obj_trees (drop l.o-index l.o-items)) (known_of l.known))
    × (stand_of l.known ≡ stand_of l.fn.known)
