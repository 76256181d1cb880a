-- Statements that are blocks, by their parts.
use Rattle.std.proofs.Common.{◌≡◌, Bool, Option, Some, None, Ok, Err, refl, ap, ◌∙◌}
use Rattle.std.specs.Prelude.{Box}
use Rattle.std.specs.declared.alloc.Global.{Global}
use Rattle.ob_tree.specs.declared.expressions.Expr.{Expr}
use Rattle.ob_tree.specs.declared.faults.TypeFault.{TypeFault}
use Rattle.ob_tree.specs.declared.faults.TypeFault.TheVariants as code
use Rattle.ob_tree.specs.declared.programs.ForStart.{ForStart}
use Rattle.ob_tree.specs.declared.programs.Stmt.{Stmt}
use Rattle.ob_tree.specs.declared.programs.StmtNode as node
use Rattle.ob_tree.specs.ExpressionView.{expr_tree}
use Rattle.ob_tree.specs.ProgramView.{option_tree, start_tree, stmt_node_tree, stmt_tree}
use Rattle.ob_tree.specs.Types.{PlainType}
use Rattle.ob_typed.specs.Declarations.{Body}
use Rattle.ob_typed.specs.Faults.{Walk, next}
use Rattle.ob_typed.specs.Scopes.{Env, deeper}
use Rattle.ob_typed.specs.Statements.{block, check_control, check_stmt}
use Rattle.ob_typed.specs.TypedTree.{TypedStmt as stmt}
use Rattle.ob_context.specs.Walks.{Walks}
use Rattle.ob_statements.specs.Parts.{do_parts, for_last, for_parts, for_rest, if_begun, if_ended, if_parts, while_parts}

after : {A B C : Type 0} (w : Walk Body B) (x : A) (k : A × B → Body → Walk Body C) →
    next w (λ y b2. k (x, y) b2) ≡ next (next w (λ y b2. Ok ((x, y), b2))) k
after (Ok r) x k = refl
after (Err f) x k = refl

-- two steps, then what follows both
in_two : {A B C : Type 0} (w : Walk Body A) (v : Body → Walk Body B) (k : A × B → Body → Walk Body C) →
    next w (λ x b1. next (v b1) (λ y b2. k (x, y) b2)) ≡ next (next w (λ x b1. next (v b1) (λ y b2. Ok ((x, y), b2)))) k
in_two (Err f) v k = refl
in_two (Ok r) v k = after (v r.1) r.0 k

-- a block has the fault of its first part
pub block_fault : {A B C D : Type 0} (v : A → B) (u : C → D) (y : TypeFault) (s r b : Body) (w : Walk Body B) (k : B → Body → Walk Body D) →
    Walks v (Err y) s w → Walks u (Err y) r (block b (next w k))
block_fault v u (code.Fault kind place) s r b w k is = ap (λ w1. block b (next w1 k)) is
block_fault v u code.NoMemory s r b w k is = tt

module _ (env : Env) (loop : Bool) (t : PlainType) (b : Body) (s : Stmt) where
  pub if_by : (c : Expr) (x : Box Stmt Global) (o : Option (Box Stmt Global)) → s.node ≡ node.If c x o → o ≡ None →
      check_stmt env loop t (stmt_tree s) b ≡ block b (if_parts (deeper env) loop t (expr_tree c) (stmt_tree x.value) b)
  unfolding if_parts
  if_by c x o h none = ap (λ n. check_stmt env loop t (stmt_node_tree n s.first s.line) b) (h ∙ ap (node.If c x) none)

  pub if_else_by : (c : Expr) (x : Box Stmt Global) (o : Option (Box Stmt Global)) (y : Box Stmt Global) → s.node ≡ node.If c x o → o ≡ Some y →
      check_stmt env loop t (stmt_tree s) b ≡ block b (next (if_begun (deeper env) loop t (expr_tree c) (stmt_tree x.value) b) (λ p b1. if_ended (deeper env) loop t p (stmt_tree y.value) b1))
  unfolding if_begun if_ended
  if_else_by c x o y h some =
      ap (λ n. check_stmt env loop t (stmt_node_tree n s.first s.line) b) (h ∙ ap (node.If c x) some)
      ∙ ap (λ w. block b w) (in_two (check_control (deeper env) (expr_tree c) b) (λ b1. block b1 (check_stmt (deeper (deeper env)) loop t (stmt_tree x.value) b1)) (λ p b2. next (check_stmt (deeper (deeper env)) loop t (stmt_tree y.value) b2) (λ z b3. Ok (stmt.IfElse p.0 p.1 z, b3))))

  pub while_by : (c : Expr) (x : Box Stmt Global) → s.node ≡ node.While c x →
      check_stmt env loop t (stmt_tree s) b ≡ block b (while_parts (deeper env) t (expr_tree c) (stmt_tree x.value) b)
  unfolding while_parts
  while_by c x h = ap (λ n. check_stmt env loop t (stmt_node_tree n s.first s.line) b) h

  pub do_by : (x : Box Stmt Global) (c : Expr) → s.node ≡ node.Do x c →
      check_stmt env loop t (stmt_tree s) b ≡ block b (do_parts (deeper env) t (stmt_tree x.value) (expr_tree c) b)
  unfolding do_parts
  do_by x c h = ap (λ n. check_stmt env loop t (stmt_node_tree n s.first s.line) b) h

  pub for_by : (i : ForStart) (c n : Option Expr) (x : Box Stmt Global) → s.node ≡ node.For i c n x →
      check_stmt env loop t (stmt_tree s) b ≡ block b (for_parts (deeper env) t (start_tree i) (option_tree c) (option_tree n) (stmt_tree x.value) b)
  unfolding for_parts for_rest for_last
  for_by i c n x h = ap (λ y. check_stmt env loop t (stmt_node_tree y s.first s.line) b) h
