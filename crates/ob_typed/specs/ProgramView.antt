-- What a typed program is without its boxes and vectors.
use Rattle.ob_typed.specs.declared.program.Typed.{Typed}
use Rattle.ob_typed.specs.TypedTree.{TypedProgram}
use Rattle.ob_typed.specs.TypedView.{typed_parts}

abbrev pub typed_program : Typed → TypedProgram
typed_program t = typed_parts t.structs t.statics t.functions t.main
