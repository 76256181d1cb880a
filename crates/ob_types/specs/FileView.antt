-- What the items of a program add to, as the definition's (C99 6.9).
use Rattle.std.specs.Prelude.{ℕ, nat_eq, Option, Some, None, Ok, List, [], length, map}
use Rattle.ob_tree.specs.Programs.{ItemTree as item}
use Rattle.ob_tree.specs.Programs.{ItemTree}
use Rattle.ob_tree.specs.Types.{PlainType}
use Rattle.ob_typed.specs.Counts.{weight}
use Rattle.ob_typed.specs.Declarations.{Body}
use Rattle.ob_typed.specs.Faults.{Answer, no_place}
use Rattle.ob_typed.specs.Functions.{Parameter, parameter_names, parameter_types, with_parameters}
use Rattle.ob_typed.specs.Scopes.{Env, Known, with_declared}
use Rattle.ob_typed.specs.TypedTree.{TypedFunction, TypedProgram, TypedStmt}
use Rattle.ob_typed.specs.TypedView.{typed_function}
use Rattle.ob_typed.specs.Typing.{File as PlainFile, head_known}
use Rattle.ob_scopes.specs.Names.{declared_in}
use Rattle.ob_context.specs.KnownView.{Stand, known_of}
use Rattle.ob_types.specs.declared.file.File.{File}

abbrev pub file_of : File → PlainFile
file_of f = record {
  known = known_of f.body.known;
  declared = declared_in f.env.names;
  functions = map typed_function f.functions.items;
}

-- at file scope no block is open
abbrev pub file_stand : Stand
file_stand = record { outer = []; around = [] }

-- ---- these serve the proof

-- where the body of a function stands: its parameters are declared in the block that is open
abbrev pub among_params : Env → List Parameter → Env
among_params env ps = with_declared env (with_parameters env.depth 0 env.declared ps)

-- what the body of a function adds to at its begin
abbrev pub first_body : Known → List Parameter → Body
first_body k ps = record { known = k; locals = parameter_types ps; names = parameter_names ps }

abbrev pub function_from : (name : List ℕ) → PlainType → (params nodes : ℕ) → Body → TypedStmt → TypedFunction
function_from name t params n b s = record {
  name = name;
  result = t;
  params = params;
  locals = b.locals;
  names = b.names;
  nodes = n;
  weight = weight b.known.structs (length b.locals) n s;
  body = s;
}

-- what is known before the first line of an item
abbrev pub known_item : (bodies : List (List ℕ)) → ItemTree → PlainFile → Answer PlainFile
known_item bodies (item.Function first line fixed s stars name at ps body) f = head_known (nat_eq first no_place) bodies s stars name at ps f
known_item bodies (item.Decls first line fixed s ds) f = Ok f

-- the first place, or another one
abbrev pub or_else : Option ℕ → Option ℕ → Option ℕ
or_else None o = o
or_else (Some n) o = Some n

-- the typed tree of a program that was walked, with the number of `main`
abbrev pub program_of : PlainFile → (main : ℕ) → TypedProgram
program_of f main = record { structs = f.known.structs; statics = f.known.statics; functions = f.functions; main = main }
