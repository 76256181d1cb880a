use Rattle.std.proofs.Common.{[], false, subst, sym}
use Rattle.std.specs.Prelude.{Vec}
use Rattle.std.specs.declared.alloc.Global.{Global}
use Rattle.ob_tree.specs.Programs.{StmtTree}
use Rattle.ob_tree.specs.TypeView.{plain_type}
use Rattle.ob_typed.specs.Statements.{check_block}
use Rattle.ob_typed.specs.Typing.{body_items}
use Rattle.ob_typed.specs.declared.statements.TStmt.{TStmt}
use Rattle.ob_context.specs.KnownView.{env_of, stand_of}
use Rattle.ob_context.specs.Walks.{Walks}
use Rattle.ob_variables.specs.BodyView.{body_of, stmts_of}
use Rattle.ob_statements.proofs.BlockRows.{block_tree}
use Rattle.ob_statements.proofs.walk.check_body.Goals as goal

pub returns-in-Block-clause-walks : goal.returns-in-Block-clause-walks
returns-in-Block-clause-walks c =
    let e = block_tree c.args.s.now c.in-Block.items c.in-Block.is in
    let P = λ (s : StmtTree). Walks (λ (ss : Vec TStmt Global). stmts_of ss.items) c.check_items.result (body_of c.check_items.new.body) (check_block (env_of c.args.env.now (stand_of c.args.body.now.known)) false (plain_type c.args.t.now) [] (body_items s) (body_of c.args.body.now)) in
    subst P (sym e) c.check_items.ensures.walks
