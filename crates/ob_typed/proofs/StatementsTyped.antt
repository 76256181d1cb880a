-- Each statement of a function (C99 6.8) is well typed.
use Rattle.std.proofs.Common.{◌≡◌, ℕ, Bool, true, false, Option, Some, None, List, [], ◌∷◌, ◌++◌, refl}
use Rattle.ob_tree.specs.Levels.{mark_of}
use Rattle.ob_tree.specs.Programs.{BlockTrees, StartTree, StmtTree}
use Rattle.ob_tree.specs.Programs.{BlockTrees as items, StartTree as start, StmtTree as source}
use Rattle.ob_tree.specs.ProgramValid.{ValidBlock, ValidOption, ValidStart, ValidStmt}
use Rattle.ob_tree.specs.Trees.{ExprTree, Mark}
use Rattle.ob_tree.specs.Types.{PlainType}
use Rattle.ob_tree.specs.Types.{PlainType as type}
use Rattle.ob_tree.specs.Valid.{Valid}
use Rattle.ob_typed.specs.Conversions.{Checked, as_type, fits, is_null, value, value_type}
use Rattle.ob_typed.specs.Declarations.{Body, check_declaration}
use Rattle.ob_typed.specs.Scopes.{Env, deeper}
use Rattle.ob_typed.specs.Statements.{check_block, check_control, check_dropped, check_option, check_return, check_start, check_stmt, control_rule, dropped_rule, expr_stmt, jump, return_nothing, return_rule, returned, start_list}
use Rattle.ob_typed.specs.TypeTests.{is_scalar, is_struct, is_unusable}
use Rattle.ob_typed.specs.TypedTree.{TypedExpr, TypedStmt}
use Rattle.ob_typed.specs.TypedTree.{TypedStmt as stmt}
use Rattle.ob_typed.specs.WellTyped.{Around, IsTypedOption, IsTypedReturn, IsTypedStmt, IsTypedTest, IsTypedTestOption, IsWellTyped}
use Rattle.ob_typed.proofs.AssignNodes.{no_struct}
use Rattle.ob_typed.proofs.BinaryNodes.{scalar_typed}
use Rattle.ob_typed.proofs.BodyWalks.{BodyGives, body_block, body_by, body_by_one, body_in, body_map, body_next, body_ok, body_step}
use Rattle.ob_typed.proofs.ConvertedValues.{IsChecked, fitted, value_is}
use Rattle.ob_typed.proofs.ExpressionsTyped.{IsRightEnv, check_gives}
use Rattle.ob_typed.proofs.LocalsTyped.{AreStmts, declaration_gives, declaration_says, list_typed, stmts_more}
use Rattle.ob_typed.proofs.Walks.{Fine, Says, fine_if, says_after, says_ok}

pub right_deeper : (c : Around) (bodies : List (List ℕ)) (env : Env) → IsRightEnv c bodies env → IsRightEnv c bodies (deeper env)
right_deeper c bodies env ok = record { means = ok.means }

-- ---- what starts a `for`

start_says : (c : Around) (bodies : List (List ℕ)) (env : Env) → IsRightEnv c bodies env → (i : StartTree) (b : Body) → Says (λ e. IsRightEnv c bodies e.env) (check_start env i b)
start_says c bodies env ok (start.Expr e) b =
    says_after (check_option check_dropped env e b) (λ x b1. says_ok {a = record { env = env; statements = start_list x }} {s = b1} ok)
start_says c bodies env ok (start.Local d) b = declaration_says c bodies env ok d b

module _ (c : Around) (bodies : List (List ℕ)) (result : PlainType) (locals : List PlainType) where
  -- ---- the expressions of statements

  dropped_fine : (m : Mark) (x : Checked) → IsChecked c x → Fine (IsWellTyped c) (dropped_rule m (value x))
  dropped_fine m x h =
      fine_if (IsWellTyped c) (is_struct (value_type (value x))) _ _ (λ struct. tt) (λ other. no_struct c (value x) (value_is c x h) other)

  control_fine : (m : Mark) (x : Checked) → IsChecked c x → Fine (IsTypedTest c) (control_rule m (value x))
  control_fine m x h =
      fine_if (IsTypedTest c) (is_scalar (value_type (value x))) _ _ (λ scalar. scalar_typed c (value x) (value_is c x h) scalar) (λ other. tt)

  dropped_gives : (env : Env) → IsRightEnv c bodies env → (e : ExprTree) → Valid e → (b : Body) → BodyGives c bodies locals (IsWellTyped c) b (check_dropped env e b)
  dropped_gives env ok e v b =
      body_next c bodies locals (body_in c bodies locals (check_gives c bodies env ok e v b.known)) (λ x b1.
      body_by_one c bodies locals _ (λ h. dropped_fine (mark_of e) x h))

  control_gives : (env : Env) → IsRightEnv c bodies env → (e : ExprTree) → Valid e → (b : Body) → BodyGives c bodies locals (IsTypedTest c) b (check_control env e b)
  control_gives env ok e v b =
      body_next c bodies locals (body_in c bodies locals (check_gives c bodies env ok e v b.known)) (λ x b1.
      body_by_one c bodies locals _ (λ h. control_fine (mark_of e) x h))

  dropped_option : (env : Env) → IsRightEnv c bodies env → (o : Option ExprTree) → ValidOption o → (b : Body) → BodyGives c bodies locals (IsTypedOption c) b (check_option check_dropped env o b)
  dropped_option env ok None v b = body_ok c bodies locals tt
  dropped_option env ok (Some e) v b =
      body_next c bodies locals (dropped_gives env ok e v b) (λ x b1. body_ok c bodies locals (λ h. h))

  control_option : (env : Env) → IsRightEnv c bodies env → (o : Option ExprTree) → ValidOption o → (b : Body) → BodyGives c bodies locals (IsTypedTestOption c) b (check_option check_control env o b)
  control_option env ok None v b = body_ok c bodies locals tt
  control_option env ok (Some e) v b =
      body_next c bodies locals (control_gives env ok e v b) (λ x b1. body_ok c bodies locals (λ h. h))

  expr_typed : (o : Option TypedExpr) → IsTypedOption c o → IsTypedStmt c result locals (expr_stmt o)
  expr_typed None h = tt
  expr_typed (Some e) h = h

  -- ---- jumps

  jump_fine : (loop : Bool) (first : ℕ) (s : TypedStmt) → IsTypedStmt c result locals s → Fine (IsTypedStmt c result locals) (jump loop first s)
  jump_fine true first s h = h
  jump_fine false first s h = tt

  nothing_fine : (t : PlainType) (first : ℕ) → Fine (IsTypedStmt c t locals) (return_nothing t first)
  nothing_fine type.Void first = refl
  nothing_fine (type.Int k) first = tt
  nothing_fine (type.Pointer t) first = tt
  nothing_fine (type.Array t n) first = tt
  nothing_fine (type.Struct n) first = tt

  fit_fine : (t : PlainType) (x : Checked) → IsChecked c x → fits x t ≡ true → IsTypedReturn c t (Some (as_type (value x) t))
  fit_fine t x h fit =
      let made = fitted c (is_null x) (value x) t (value_is c x h) fit in
      (made.0, made.1.0, made.1.1)

  returned_fine : (t : PlainType) (first : ℕ) (m : Mark) (x : Checked) → IsChecked c x → Fine (IsTypedStmt c t locals) (returned t first m x)
  returned_fine type.Void first m x h = tt
  returned_fine (type.Int k) first m x h =
      fine_if (IsTypedStmt c (type.Int k) locals) (fits x (type.Int k)) _ _ (λ fit. fit_fine (type.Int k) x h fit) (λ unfit. tt)
  returned_fine (type.Pointer t) first m x h =
      fine_if (IsTypedStmt c (type.Pointer t) locals) (fits x (type.Pointer t)) _ _ (λ fit. fit_fine (type.Pointer t) x h fit) (λ unfit. tt)
  returned_fine (type.Array t n) first m x h =
      fine_if (IsTypedStmt c (type.Array t n) locals) (fits x (type.Array t n)) _ _ (λ fit. fit_fine (type.Array t n) x h fit) (λ unfit. tt)
  returned_fine (type.Struct n) first m x h =
      fine_if (IsTypedStmt c (type.Struct n) locals) (fits x (type.Struct n)) _ _ (λ fit. fit_fine (type.Struct n) x h fit) (λ unfit. tt)

  return_fine : (t : PlainType) (first : ℕ) (m : Mark) (x : Checked) → IsChecked c x → Fine (IsTypedStmt c t locals) (return_rule t first m x)
  return_fine t first m x h =
      fine_if (IsTypedStmt c t locals) (is_unusable (value_type (value x))) _ _ (λ unusable. tt) (λ usable. returned_fine t first m x h)

  return_gives : (env : Env) → IsRightEnv c bodies env → (first : ℕ) (o : Option ExprTree) → ValidOption o → (b : Body) → BodyGives c bodies locals (IsTypedStmt c result locals) b (check_return env result first o b)
  return_gives env ok first None v b = body_by c bodies locals _ (nothing_fine result first)
  return_gives env ok first (Some e) v b =
      body_next c bodies locals (body_in c bodies locals (check_gives c bodies env ok e v b.known)) (λ x b1.
      body_by_one c bodies locals _ (λ h. return_fine result first (mark_of e) x h))

  -- ---- what starts a `for`

  started : (o : Option TypedExpr) → IsTypedOption c o → AreStmts c result locals (start_list o)
  started None h = tt
  started (Some e) h = (h, tt)

  start_gives : (env : Env) → IsRightEnv c bodies env → (i : StartTree) → ValidStart i → (b : Body) → BodyGives c bodies locals (λ e. AreStmts c result locals e.statements) b (check_start env i b)
  start_gives env ok (start.Expr e) v b =
      body_next c bodies locals (dropped_option env ok e v b) (λ x b1. body_ok c bodies locals (λ h. started x h))
  start_gives env ok (start.Local d) v b = declaration_gives c bodies result locals env ok d v.1 b

  -- ---- all statements

  mutual
    pub stmt_gives : (env : Env) → IsRightEnv c bodies env → (loop : Bool) (s : StmtTree) → ValidStmt s → (b : Body) → BodyGives c bodies locals (IsTypedStmt c result locals) b (check_stmt env loop result s b)
    stmt_gives env ok loop (source.Block first line is) v b =
        body_next c bodies locals
        (body_block c bodies locals (body_map c bodies locals (λ ss h. h tt) (block_gives (deeper env) (right_deeper c bodies env ok) loop [] is v b)))
        (λ ss b1. body_ok c bodies locals (λ h. list_typed c result locals ss h))
    stmt_gives env ok loop (source.Expr first line e) v b =
        body_next c bodies locals (dropped_option env ok e v b) (λ x b1. body_ok c bodies locals (λ h. expr_typed x h))
    stmt_gives env ok loop (source.If first line z s) v b =
        let once = right_deeper c bodies env ok in
        let twice = right_deeper c bodies (deeper env) once in
        body_block c bodies locals (body_next c bodies locals (control_gives (deeper env) once z v.0 b) (λ x b1.
        body_next c bodies locals (stmt_gives (deeper (deeper env)) twice loop s v.1 b1) (λ y b2. body_ok c bodies locals (λ h i. (i, h)))))
    stmt_gives env ok loop (source.IfElse first line z s other) v b =
        let once = right_deeper c bodies env ok in
        let twice = right_deeper c bodies (deeper env) once in
        body_block c bodies locals (body_next c bodies locals (control_gives (deeper env) once z v.0 b) (λ x b1.
        body_next c bodies locals (body_block c bodies locals (stmt_gives (deeper (deeper env)) twice loop s v.1 b1)) (λ y b2.
        body_next c bodies locals (stmt_gives (deeper (deeper env)) twice loop other v.3 b2) (λ w b3. body_ok c bodies locals (λ h i j. (j, i, h))))))
    stmt_gives env ok loop (source.While first line z s) v b =
        let once = right_deeper c bodies env ok in
        let twice = right_deeper c bodies (deeper env) once in
        body_block c bodies locals (body_next c bodies locals (control_gives (deeper env) once z v.0 b) (λ x b1.
        body_next c bodies locals (stmt_gives (deeper (deeper env)) twice true s v.1 b1) (λ y b2. body_ok c bodies locals (λ h i. (i, h)))))
    stmt_gives env ok loop (source.Do first line s z) v b =
        let once = right_deeper c bodies env ok in
        let twice = right_deeper c bodies (deeper env) once in
        body_block c bodies locals (body_next c bodies locals (body_block c bodies locals (stmt_gives (deeper (deeper env)) twice true s v.0 b)) (λ y b1.
        body_next c bodies locals (control_gives (deeper env) once z v.1 b1) (λ x b2. body_ok c bodies locals (λ h i. (i, h)))))
    stmt_gives env ok loop (source.For first line i z n s) v b =
        let once = right_deeper c bodies env ok in
        body_block c bodies locals (body_step c bodies locals (check_start (deeper env) i b) (start_gives (deeper env) once i v.0 b) (start_says c bodies (deeper env) once i b) (λ e b1 right.
        body_next c bodies locals (control_option e.env right z v.1 b1) (λ x b2.
        body_next c bodies locals (dropped_option e.env right n v.2 b2) (λ y b3.
        body_next c bodies locals (stmt_gives (deeper e.env) (right_deeper c bodies e.env right) true s v.3 b3) (λ w b4.
        body_ok c bodies locals (λ h next test first. (list_typed c result locals e.statements first, test, next, h)))))))
    stmt_gives env ok loop (source.Break first line) v b = body_by c bodies locals _ (jump_fine loop first stmt.Break tt)
    stmt_gives env ok loop (source.Continue first line) v b = body_by c bodies locals _ (jump_fine loop first stmt.Continue tt)
    stmt_gives env ok loop (source.Return first line e) v b = return_gives env ok first e v b

    pub block_gives : (env : Env) → IsRightEnv c bodies env → (loop : Bool) (done : List TypedStmt) (is : BlockTrees) → ValidBlock is → (b : Body) → BodyGives c bodies locals (λ ss. AreStmts c result locals done → AreStmts c result locals ss) b (check_block env loop result done is b)
    block_gives env ok loop done items.NoItems v b = body_ok c bodies locals (λ h. h)
    block_gives env ok loop done (items.Declaration d rest) v b =
        body_step c bodies locals (check_declaration env d b) (declaration_gives c bodies result locals env ok d v.0 b) (declaration_says c bodies env ok d b) (λ e b1 right.
        body_map c bodies locals (λ ss all made before. all (stmts_more c result locals done e.statements before made))
        (block_gives e.env right loop (done ++ e.statements) rest v.1 b1))
    block_gives env ok loop done (items.Statement s rest) v b =
        body_next c bodies locals (stmt_gives env ok loop s v.0 b) (λ x b1.
        body_map c bodies locals (λ ss all made before. all (stmts_more c result locals done (x ∷ []) before (made, tt)))
        (block_gives env ok loop (done ++ x ∷ []) rest v.1 b1))
