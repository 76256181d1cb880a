-- The newest_path path is one of those that have begun.
use Rattle.std.proofs.Common.{◌≡◌, ◌≤◌, List, [], ◌∷◌, length, refl, arith}
use Rattle.ob_tree.specs.declared.expressions.Dim.{Dim, Dim'}
use Rattle.ob_tree.specs.declared.expressions.ExprNode.TheBlock.{Dim-length-None', Dim-length-Some'}
use Rattle.ob_tree.specs.ExpressionView.{dim_trees}
use Rattle.ob_tree.specs.ProgramStates.{PendingStmt, InBody, InBlock, InIf, InElse, InWhile, InDo, InFor, State, Items, Specifying, Declare, Dims, Optional, Reading, Init, AfterInit, Params, NextParam, Param, Closed, Begin, Opening, ForWord, ForOpen, Semi, Done}
use Rattle.ob_exprs.specs.DeepestPaths.{count}
use Rattle.ob_parser.specs.DeepestPaths.{deepest_stack_path, deepest_path, newest_path}
use Rattle.ob_parser.proofs.CompleteStates.{stmt-some}
use Rattle.ob_parser.proofs.Light.{lists-depth, use-deep}

stack-tall : (fs : List PendingStmt) → length fs ≤ deepest_stack_path fs
stack-tall [] = omega arith
stack-tall (InBody d ∷ fs) = omega arith
stack-tall (InBlock f n items ∷ fs) = omega arith
stack-tall (InIf f n c ∷ fs) = omega arith
stack-tall (InElse f n c s ∷ fs) = omega arith
stack-tall (InWhile f n c ∷ fs) = omega arith
stack-tall (InDo f n ∷ fs) = omega arith
stack-tall (InFor f n start test next ∷ fs) = omega arith

pub newest_path-path : (s : State) → newest_path s ≤ deepest_path s
newest_path-path (Items items) = omega arith
newest_path-path (Specifying u s) = omega arith
newest_path-path (Declare d n) = omega arith
newest_path-path (Dims h ds) = omega arith
newest_path-path (Optional u) = use-deep u
newest_path-path (Reading u s) = omega arith
newest_path-path (Init t is) = lists-depth t is
newest_path-path (AfterInit t is i) = omega arith
newest_path-path (Params l) = omega arith
newest_path-path (NextParam l) = omega arith
newest_path-path (Param l f n s i) = omega arith
newest_path-path (Closed x ps) = omega arith
newest_path-path (Begin fs) = stack-tall fs
newest_path-path (Opening u) = use-deep u
newest_path-path (ForWord f n fs) = omega arith
newest_path-path (ForOpen f n fs) = omega arith
newest_path-path (Semi s fs) = omega (arith, stmt-some s)
newest_path-path (Done s fs) = omega (arith, stmt-some s)

-- brackets are counted
pub count_dims : (ds : List Dim) → count (dim_trees ds) ≡ length ds
count_dims [] = refl
count_dims (Dim' Dim-length-None' ∷ ds) = omega (arith, count_dims ds)
count_dims (Dim' (Dim-length-Some' f a l x) ∷ ds) = omega (arith, count_dims ds)
