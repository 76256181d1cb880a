use Rattle.std.proofs.Common.{Ok, Err, ap, sym, subst, ◌∙◌, rules, arith}
use Rattle.std.proofs.lemmas.Grind.{common_steps}
use Rattle.ob_tree.specs.ProgramView.{program_tree}
use Rattle.ob_typed.specs.Faults.{Answer}
use Rattle.ob_typed.specs.ProgramView.{typed_program}
use Rattle.ob_typed.specs.TypedTree.{TypedProgram}
use Rattle.ob_conversions.specs.Gives.{Gives}
use Rattle.ob_types.specs.FileView.{file_of, program_of}
use Rattle.ob_types.proofs.Parts.{gives_err, gives_ok, typing_walked}
use Rattle.ob_types.proofs.programs.checked.Goals as goal

pub returns-in_err-main : goal.returns-in_err-main
returns-in_err-main c =
    let p = program_tree c.args.p.now in
    let file = c.in_ok-file.file in
    let is = typing_walked p file.env.bodies (file_of file) c.in_ok-file.ensures.is c.in_ok-file.ensures.bodies in
    let given = gives_err (program_of (file_of file)) typed_program c.completed_file.result c.in_err-main.field-0.0 _ c.in_err-main.ensures.fault c.completed_file.ensures in
    let h = subst (λ (a : Answer TypedProgram). Gives typed_program (Err c.in_err-main.field-0.0) a) (sym is) given in
    first_of (search rules, grind (arith, common_steps))

pub typed-requires-clause-types : goal.typed-requires-clause-types
typed-requires-clause-types c =
    let p = program_tree c.args.p.now in
    let file = c.in_ok-file.file in
    typing_walked p file.env.bodies (file_of file) c.in_ok-file.ensures.is c.in_ok-file.ensures.bodies
    ∙ gives_ok (program_of (file_of file)) c.completed_file.result c.in_ok-main.main _ c.in_ok-main.ensures.part c.completed_file.ensures
    ∙ ap (λ f. Ok (program_of (file_of f) c.in_ok-main.main)) (sym c.in_ok-main.ensures.kept)

pub returns : goal.returns
returns c =
    let p = program_tree c.args.p.now in
    let file = c.in_ok-file.file in
    typing_walked p file.env.bodies (file_of file) c.in_ok-file.ensures.is c.in_ok-file.ensures.bodies
    ∙ gives_ok (program_of (file_of file)) c.completed_file.result c.in_ok-main.main _ c.in_ok-main.ensures.part c.completed_file.ensures
    ∙ ap (λ f. Ok (program_of (file_of f) c.in_ok-main.main)) (sym c.in_ok-main.ensures.kept)
    ∙ ap Ok (sym c.typed.ensures)
