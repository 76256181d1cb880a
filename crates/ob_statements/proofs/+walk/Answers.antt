use Rattle.std.proofs.Common.{rules, ◌≡◌, ◌<◌, [], Ok, Err, length, get_or, arith, ap, ◌∙◌, subst, sym}
use Rattle.std.specs.Prelude.{Vec}
use Rattle.std.specs.declared.alloc.Global.{Global}
use Rattle.std.proofs.lemmas.Grind.{common_steps}
use Rattle.ob_tree.specs.declared.programs.Stmt.{Stmt}
use Rattle.ob_tree.specs.ExpressionView.{expr_tree}
use Rattle.ob_tree.specs.Programs.{StmtTree}
use Rattle.ob_tree.specs.ProgramView.{stmt_tree}
use Rattle.ob_tree.specs.TypeView.{plain_type}
use Rattle.ob_typed.specs.Declarations.{Body, Entered}
use Rattle.ob_typed.specs.Faults.{Walk, next}
use Rattle.ob_typed.specs.Scopes.{Env, deeper}
use Rattle.ob_typed.specs.Statements.{block, check_block, check_stmt}
use Rattle.ob_typed.specs.declared.expressions.TExpr.{TExpr}
use Rattle.ob_typed.specs.declared.statements.TStmt.{TStmt}
use Rattle.ob_typed.specs.TypedTree.{TypedExpr, TypedStmt}
use Rattle.ob_typed.specs.TypedView.{typed_expr, typed_stmt}
use Rattle.ob_context.specs.KnownView.{Stand, env_of, left_tags, stand_of}
use Rattle.ob_context.specs.Walks.{Walks}
use Rattle.ob_variables.specs.BodyView.{body_of, stmts_of}
use Rattle.ob_statements.specs.BlockTrees.{block_trees}
use Rattle.ob_statements.specs.Parts.{if_begun, if_ended}
use Rattle.ob_statements.proofs.Arms.{block_fault, do_by, for_by, if_by, if_else_by, while_by}
use Rattle.ob_statements.proofs.BlockRows.{block_tree}
use Rattle.ob_statements.proofs.Turns.{turn_err, turn_on}
use Rattle.ob_statements.proofs.+walk.Goals as goal

pub walk::check_items-returns-in_err-check_item-clause-walks : goal.walk::check_items-returns-in_err-check_item-clause-walks
walk::check_items-returns-in_err-check_item-clause-walks t c =
    let start = check_block (env_of c.args.env.now (stand_of c.args.body.now.known)) c.args.in_loop (plain_type c.args.t.now) [] (block_trees c.args.items.now.items) (body_of c.args.body.now) in
    let within : c.loop-item.item-index < length c.args.items.now.items = first_of (search rules, grind (arith, common_steps)) in
    let at : c.item-item.result ≡ get_or c.args.items.now.items c.loop-item.item-index c.item-item.result = first_of (search rules, grind (arith, common_steps)) in
    let entered : Entered = record { env = env_of c.check_item.new.env (stand_of c.check_item.new.body.known); statements = stmts_of c.check_item.new.done.items } in
    let h : Walks (λ (ss : Vec TStmt Global). stmts_of ss.items) (Err c.in_err-check_item.field-0.0) (body_of c.check_item.new.body) start =
    turn_err c.args.in_loop (plain_type c.args.t.now) (λ (u : Unit {0}). entered) (λ (ss : Vec TStmt Global). stmts_of ss.items) c.in_err-check_item.field-0.0 start
    (env_of c.loop-item.env (stand_of c.loop-item.body.known)) (stmts_of c.loop-item.done.items) c.args.items.now.items c.loop-item.item-index c.item-item.result
    (body_of c.loop-item.body) (body_of c.check_item.new.body) (body_of c.check_item.new.body) c.loop-item.invariant.walks within at c.in_err-check_item.ensures.walks in
    first_of (search rules, grind (arith, common_steps))

pub walk::check_items-loop-item-preserved : goal.walk::check_items-loop-item-preserved
walk::check_items-loop-item-preserved t c =
    let within : c.loop-item.item-index < length c.args.items.now.items = first_of (search rules, grind (arith, common_steps)) in
    let at : c.item-item.result ≡ get_or c.args.items.now.items c.loop-item.item-index c.item-item.result = first_of (search rules, grind (arith, common_steps)) in
    let entered : Entered = record { env = env_of c.check_item.new.env (stand_of c.check_item.new.body.known); statements = stmts_of c.check_item.new.done.items } in
    record {
      walks =
          turn_on c.args.in_loop (plain_type c.args.t.now) _
          (env_of c.loop-item.env (stand_of c.loop-item.body.known)) (stmts_of c.loop-item.done.items) c.args.items.now.items c.loop-item.item-index c.item-item.result
          (body_of c.loop-item.body) (body_of c.check_item.new.body) entered c.loop-item.invariant.walks within at c.in_ok-check_item.ensures.walks;
      stays = first_of (search rules, grind (arith, common_steps));
      scopes = first_of (search rules, grind (arith, common_steps));
      bodies = first_of (search rules, grind (arith, common_steps));
    }

pub walk::check_stmt-returns-in-Block-clause-walks : goal.walk::check_stmt-returns-in-Block-clause-walks
walk::check_stmt-returns-in-Block-clause-walks t c =
    let e = block_tree c.args.s.now c.in-Block.items c.in-Block.is in
    let P = λ (s : StmtTree). Walks typed_stmt c.block_stmt.result (body_of c.block_stmt.new.body) (check_stmt (env_of c.args.env.now (stand_of c.args.body.now.known)) c.args.in_loop (plain_type c.args.t.now) s (body_of c.args.body.now)) in
    subst P (sym e) c.block_stmt.ensures.walks

pub walk::check_stmt-returns-in-None-clause-walks : goal.walk::check_stmt-returns-in-None-clause-walks
walk::check_stmt-returns-in-None-clause-walks t c =
    let e = if_by (env_of c.args.env.now (stand_of c.args.body.now.known)) c.args.in_loop (plain_type c.args.t.now) (body_of c.args.body.now) c.args.s.now c.in-If.c c.in-If.s c.in-If.other c.in-If.is c.in-None.is in
    subst (λ (w : Walk Body TypedStmt). Walks typed_stmt c.if_stmt.result (body_of c.if_stmt.new.body) w) (sym e) (first_of (search rules, grind (arith, common_steps)))

pub walk::check_stmt-returns-in-While-clause-walks : goal.walk::check_stmt-returns-in-While-clause-walks
walk::check_stmt-returns-in-While-clause-walks t c =
    let e = while_by (env_of c.args.env.now (stand_of c.args.body.now.known)) c.args.in_loop (plain_type c.args.t.now) (body_of c.args.body.now) c.args.s.now c.in-While.c c.in-While.s c.in-While.is in
    subst (λ (w : Walk Body TypedStmt). Walks typed_stmt c.while_stmt.result (body_of c.while_stmt.new.body) w) (sym e) (first_of (search rules, grind (arith, common_steps)))

pub walk::check_stmt-returns-in-Do-clause-walks : goal.walk::check_stmt-returns-in-Do-clause-walks
walk::check_stmt-returns-in-Do-clause-walks t c =
    let e = do_by (env_of c.args.env.now (stand_of c.args.body.now.known)) c.args.in_loop (plain_type c.args.t.now) (body_of c.args.body.now) c.args.s.now c.in-Do.s c.in-Do.c c.in-Do.is in
    subst (λ (w : Walk Body TypedStmt). Walks typed_stmt c.do_stmt.result (body_of c.do_stmt.new.body) w) (sym e) (first_of (search rules, grind (arith, common_steps)))

pub walk::check_stmt-returns-in-For-clause-walks : goal.walk::check_stmt-returns-in-For-clause-walks
walk::check_stmt-returns-in-For-clause-walks t c =
    let e = for_by (env_of c.args.env.now (stand_of c.args.body.now.known)) c.args.in_loop (plain_type c.args.t.now) (body_of c.args.body.now) c.args.s.now c.in-For.start c.in-For.test c.in-For.next c.in-For.s c.in-For.is in
    subst (λ (w : Walk Body TypedStmt). Walks typed_stmt c.for_stmt.result (body_of c.for_stmt.new.body) w) (sym e) (first_of (search rules, grind (arith, common_steps)))

pub walk::check_stmt-returns-in_err-begun-in-Some-clause-walks : goal.walk::check_stmt-returns-in_err-begun-in-Some-clause-walks
walk::check_stmt-returns-in_err-begun-in-Some-clause-walks t c =
    let env = env_of c.args.env.now (stand_of c.args.body.now.known) in
    let result = plain_type c.args.t.now in
    let before = body_of c.args.body.now in
    let fault = c.in_err-begun-in-Some.field-0.0 in
    let view : TExpr × TStmt → TypedExpr × TypedStmt = λ p. (typed_expr p.0, typed_stmt p.1) in
    let e = if_else_by env c.args.in_loop result before c.args.s.now c.in-If.c c.in-If.s c.in-If.other c.in-Some.other c.in-If.is c.in-Some.is in
    let begun : Walks view (Err fault) (body_of c.if_begun.new.body) (if_begun (deeper env) c.args.in_loop result (expr_tree c.in-If.c) (stmt_tree c.in-If.s.value) before) =
    subst (λ (x : Stmt). Walks view (Err fault) (body_of c.if_begun.new.body) (if_begun (deeper env) c.args.in_loop result (expr_tree c.in-If.c) (stmt_tree x) before)) c.deref-in-Some.ensures c.in_err-begun-in-Some.ensures.walks in
    let h : Walks typed_stmt (Err fault) (body_of c.if_begun.new.body) (check_stmt env c.args.in_loop result (stmt_tree c.args.s.now) before) =
    subst (λ (w : Walk Body TypedStmt). Walks typed_stmt (Err fault) (body_of c.if_begun.new.body) w) (sym e)
    (block_fault view typed_stmt fault (body_of c.if_begun.new.body) (body_of c.if_begun.new.body) before (if_begun (deeper env) c.args.in_loop result (expr_tree c.in-If.c) (stmt_tree c.in-If.s.value) before)
    (λ p b1. if_ended (deeper env) c.args.in_loop result p (stmt_tree c.in-Some.other.value) b1) begun) in
    first_of (search rules, grind (arith, common_steps))

pub walk::check_stmt-returns-in_ok-begun-in-Some-clause-walks : goal.walk::check_stmt-returns-in_ok-begun-in-Some-clause-walks
walk::check_stmt-returns-in_ok-begun-in-Some-clause-walks t c =
    let env = env_of c.args.env.now (stand_of c.args.body.now.known) in
    let env1 = env_of c.if_begun.new.env (stand_of c.if_begun.new.body.known) in
    let result = plain_type c.args.t.now in
    let before = body_of c.args.body.now in
    let body1 = body_of c.if_begun.new.body in
    let p : TypedExpr × TypedStmt = (typed_expr c.in_ok-begun-in-Some.begun.0, typed_stmt c.in_ok-begun-in-Some.begun.1) in
    let e = if_else_by env c.args.in_loop result before c.args.s.now c.in-If.c c.in-If.s c.in-If.other c.in-Some.other c.in-If.is c.in-Some.is in
    let begun : if_begun (deeper env) c.args.in_loop result (expr_tree c.in-If.c) (stmt_tree c.in-If.s.value) before ≡ Ok (p, body1) =
    subst (λ (x : Stmt). if_begun (deeper env) c.args.in_loop result (expr_tree c.in-If.c) (stmt_tree x) before ≡ Ok (p, body1)) c.deref-in-Some.ensures c.in_ok-begun-in-Some.ensures.walks in
    let tags : before.known.tags ≡ left_tags body1.known.tags (stand_of c.if_begun.new.body.known).outer =
    ap (λ (s : Stand). left_tags body1.known.tags s.outer) (sym c.in_ok-begun-in-Some.ensures.stand) in
    let entered : env1 ≡ deeper env = first_of (search rules, grind (arith, common_steps)) in
    let whole : check_stmt env c.args.in_loop result (stmt_tree c.args.s.now) before ≡ block before (if_ended env1 c.args.in_loop result p (stmt_tree c.deref-in-Some-2.result.now) body1) =
    e ∙ ap (λ (w : Walk Body (TypedExpr × TypedStmt)). block before (next w (λ q b1. if_ended (deeper env) c.args.in_loop result q (stmt_tree c.in-Some.other.value) b1))) begun
    ∙ ap (λ (f : Env). block before (if_ended f c.args.in_loop result p (stmt_tree c.in-Some.other.value) body1)) (sym entered)
    ∙ ap (λ (x : Stmt). block before (if_ended env1 c.args.in_loop result p (stmt_tree x) body1)) (sym c.deref-in-Some-2.ensures) in
    subst (λ (w : Walk Body TypedStmt). Walks typed_stmt c.if_ended.result (body_of c.if_ended.new.body) w) (sym whole) (c.if_ended.ensures.walks before tags)
