use Rattle.ob_tree.specs.ProgramView.{program_tree}
use Rattle.ob_first.proofs.Refusing.{is_text}
use Rattle.ob_first.proofs.compile.compile_first.Goals as goal

pub returns-in-Ok-Some : goal.returns-in-Ok-Some
returns-in-Ok-Some c =
    let source = c.in-Ok.source in
    let made = rw c.in-Ok-Some.field-0-is at c.in-Ok-Some.ensures in
    record {
      form = made.0;
      is_form = record {
        program = program_tree source.program;
        is_text = is_text c.args.bytes.now source.tokens.items (program_tree source.program) c.in-Ok.ensures.tokens c.in-Ok.ensures.program;
        has_form = made.1;
      };
      image_is = made.2;
    }

pub returns-in-Ok-None : goal.returns-in-Ok-None
returns-in-Ok-None c =
    let source = c.in-Ok.source in
    record {
      program = program_tree source.program;
      is_text = is_text c.args.bytes.now source.tokens.items (program_tree source.program) c.in-Ok.ensures.tokens c.in-Ok.ensures.program;
      no_form = rw c.in-Ok-None.field-0-is at c.in-Ok-None.ensures;
    }
