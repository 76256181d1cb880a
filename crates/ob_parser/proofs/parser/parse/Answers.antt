use Rattle.std.proofs.Common.{◌≡◌, Err, length, sym, subst, arith}
use Rattle.std.proofs.lemmas.Result.{err_from_is_err_and}
use Rattle.ob_tree.specs.declared.faults.SyntaxFault.TheVariants as fault
use Rattle.ob_parser.specs.Answer.{ParsedProgram}
use Rattle.ob_declarations.specs.Shifts.{state_of}
use Rattle.ob_parser.proofs.Loop.{parsed-whole, parsed-open, parsed-fault}
use Rattle.ob_parser.proofs.parser.parse.Goals as goal

pub returns-in_err-state : goal.returns-in_err-state
returns-in_err-state c =
    let p = err_from_is_err_and c.from_residual.result c.from_residual.ensures.1 in
    rw (p.1, p.2) (parsed-fault c.args.tokens.now.items c.in_err-state.field-0.0 c.in_err-state.ensures)

pub returns-in-Some : goal.returns-in-Some
returns-in-Some c =
    parsed-whole c.args.tokens.now.items c.requires.of_source (state_of c.in_ok-state.state) c.in_ok-state.ensures c.in_ok-program.field-0 c.in-Some.program c.in_ok-program.ensures c.in-Some.is

pub returns-in-None : goal.returns-in-None
returns-in-None c =
    let ts = c.args.tokens.now.items in
    let e : c.len.result ≡ length ts = omega (arith, c.args.tokens.now.ok.0) in
    subst (λ n. ParsedProgram ts (Err (fault.NoTree n))) (sym e)
    (parsed-open ts c.requires.of_source (state_of c.in_ok-state.state) c.in_ok-state.ensures c.in_ok-program.field-0 c.in_ok-program.ensures c.in-None.is)
