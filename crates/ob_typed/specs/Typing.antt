-- Programs (C99 6.9): the items in order, then the functions that are called, or `main`, without a body. The typed
-- tree of a program, or its first fault, is a function of the tree of the grammar.
use Rattle.std.specs.Prelude.{◌≡◌, ℕ, min, Bool, true, false, nat_eq, ◌&&◌, if◌then◌else◌, Option, Some, None, Ok, Err, List, [], ◌∷◌, ◌++◌, length, map, slice_get}
use Rattle.std.specs.Str.{bytes_eq}
use Rattle.ob_words.specs.declared.types.IntType.TheVariants.{Int}
use Rattle.ob_tree.specs.declared.faults.TypeKind.TheVariants as kind
use Rattle.ob_tree.specs.Trees.{SpecTree}
use Rattle.ob_tree.specs.Trees.{ObjTree as declarator}
use Rattle.ob_tree.specs.Programs.{BlockTrees, FileTree, ItemTree, ParamsTree, ProgramTree, StmtTree}
use Rattle.ob_tree.specs.Programs.{BlockTrees as items, FileTree as file, ItemTree as item, StmtTree as source}
use Rattle.ob_tree.specs.ProgramValid.{ValidProgram}
use Rattle.ob_tree.specs.Types.{PlainType}
use Rattle.ob_tree.specs.Types.{PlainType as type}
use Rattle.ob_typed.specs.declared.names.Builtin.{Builtin}
use Rattle.ob_typed.specs.declared.names.Builtin.TheVariants as builtin
use Rattle.ob_typed.specs.TypedTree.{TypedFunction, TypedProgram, TypedStmt}
use Rattle.ob_typed.specs.TypedTree.{TypedStmt as stmt}
use Rattle.ob_typed.specs.Faults.{Answer, Fault, Walk, fault, no_place, then_rule, next, by}
use Rattle.ob_typed.specs.Scopes.{Called, Declared, Env, Known, leaving}
use Rattle.ob_typed.specs.Scopes.{Meaning as meaning}
use Rattle.ob_typed.specs.TypeTests.{same_type}
use Rattle.ob_typed.specs.Specifiers.{pointers}
use Rattle.ob_typed.specs.Expressions.{check_spec, number_from}
use Rattle.ob_typed.specs.Declarations.{Body, alone, check_static}
use Rattle.ob_typed.specs.Statements.{check_block, stmt_list}
use Rattle.ob_typed.specs.Counts.{nodes_of_function, weight}
use Rattle.ob_typed.specs.Functions.{Parameter, check_params, function_rule, is_one_of, parameter_names, parameter_types, with_parameters}

-- what the items add to
pub record File : Type 0 where
  pub known : Known
  pub declared : List Declared
  pub functions : List TypedFunction

-- ---- names that are known before the first line

abbrev pub builtin_named : List ℕ → Builtin → Declared
builtin_named name b = record { name = name; depth = 0; meaning = meaning.BuiltIn b }

-- getchar, putchar, malloc, calloc, free and exit (7.19.7, 7.20.3, 7.20.4)
abbrev pub builtins : List Declared
builtins =
    builtin_named (103 ∷ 101 ∷ 116 ∷ 99 ∷ 104 ∷ 97 ∷ 114 ∷ []) builtin.GetChar
    ∷ builtin_named (112 ∷ 117 ∷ 116 ∷ 99 ∷ 104 ∷ 97 ∷ 114 ∷ []) builtin.PutChar
    ∷ builtin_named (109 ∷ 97 ∷ 108 ∷ 108 ∷ 111 ∷ 99 ∷ []) builtin.Malloc
    ∷ builtin_named (99 ∷ 97 ∷ 108 ∷ 108 ∷ 111 ∷ 99 ∷ []) builtin.Calloc
    ∷ builtin_named (102 ∷ 114 ∷ 101 ∷ 101 ∷ []) builtin.Free
    ∷ builtin_named (101 ∷ 120 ∷ 105 ∷ 116 ∷ []) builtin.Exit
    ∷ []

abbrev pub main_name : List ℕ
main_name = 109 ∷ 97 ∷ 105 ∷ 110 ∷ []

-- the functions with a body, in order
abbrev pub body_names : ProgramTree → List (List ℕ)
body_names [] = []
body_names (item.Function first line fixed s stars name at ps body ∷ is) = name ∷ body_names is
body_names (item.Decls first line fixed s ds ∷ is) = body_names is

abbrev pub file_env : (bodies : List (List ℕ)) → List Declared → Env
file_env bodies ds = record { declared = ds; depth = 0; bodies = bodies; around = [] }

abbrev pub function_names : List TypedFunction → List (List ℕ)
function_names fs = map (λ f. f.name) fs

-- ---- function declarators

-- a function's result, its parameters, and the declarations with it
pub record Head : Type 0 where
  pub result : PlainType
  pub params : List Parameter
  pub declared : List Declared

-- The declarator of a function of this result. The tags in its parameters are in force in its body alone.
abbrev pub check_head : (bodies : List (List ℕ)) → File → (body : Bool) → (name : List ℕ) → (at : ℕ) → PlainType → ParamsTree → Known → Walk Known Head
check_head bodies f body name at t ps k =
    next (check_params (file_env bodies f.declared) ps k) (λ qs k1.
    next (by (function_rule f.declared (function_names f.functions) body name at t (parameter_types qs)) k1) (λ ds k2.
    Ok (record { result = t; params = qs; declared = ds }, k2)))

-- ---- functions with a body (6.9.1); the body's outermost block is that of the parameters

abbrev pub body_items : StmtTree → BlockTrees
body_items (source.Block first line is) = is
body_items s = items.Statement s items.NoItems

abbrev pub body_of : Head → Known → Body
body_of h k = record { known = k; locals = parameter_types h.params; names = parameter_names h.params }

abbrev pub body_env : (bodies : List (List ℕ)) → Head → Env
body_env bodies h = record { declared = with_parameters 1 0 h.declared h.params; depth = 1; bodies = bodies; around = [] }

abbrev pub function_of : (name : List ℕ) → Head → (nodes : ℕ) → Body → TypedStmt → TypedFunction
function_of name h n b s = record {
  name = name;
  result = h.result;
  params = length h.params;
  locals = b.locals;
  names = b.names;
  nodes = n;
  weight = weight b.known.structs (length b.locals) n s;
  body = s;
}

-- the file after a function; `before` has the tags at file scope
abbrev pub with_function_of : File → (before : Known) → (name : List ℕ) → Head → (nodes : ℕ) → Walk Body (List TypedStmt) → Answer File
with_function_of f before name h n (Err e) = Err e
with_function_of f before name h n (Ok r) = Ok (record {
  known = leaving before r.1.known;
  declared = h.declared;
  functions = f.functions ++ function_of name h n r.1 (stmt.Block (stmt_list r.0)) ∷ [];
})

abbrev pub check_function : (bodies : List (List ℕ)) → File → SpecTree → (stars : ℕ) → (name : List ℕ) → (at : ℕ) → ParamsTree → StmtTree → Answer File
check_function bodies f s stars name at ps body =
    then_rule (check_spec (file_env bodies f.declared) s f.known) (λ t.
    then_rule (check_head bodies f true name at (pointers stars t.0) ps t.1) (λ h.
    with_function_of f t.1 name h.0 (nodes_of_function s ps body)
    (check_block (body_env bodies h.0) false h.0.result [] (body_items body) (body_of h.0 h.1))))

-- ---- declarations at file scope

abbrev pub with_head : File → (before : Known) → Walk Known Head → Answer File
with_head f before (Err e) = Err e
with_head f before (Ok r) = Ok (record { known = leaving before r.1; declared = r.0.declared; functions = f.functions })

abbrev pub with_object : File → Walk Known Declared → Answer File
with_object f (Err e) = Err e
with_object f (Ok r) = Ok (record { known = r.1; declared = r.0 ∷ f.declared; functions = f.functions })

abbrev pub check_file : (bodies : List (List ℕ)) → (line : ℕ) → PlainType → FileTree → File → Answer File
check_file bodies line t (file.Function stars name at ps) f =
    with_head f f.known (check_head bodies f false name at (pointers stars t) ps f.known)
check_file bodies line t (file.Object o) f = with_object f (check_static (file_env bodies f.declared) line t o f.known)

abbrev pub check_files : (bodies : List (List ℕ)) → (line : ℕ) → PlainType → List FileTree → File → Answer File
check_files bodies line t [] f = Ok f
check_files bodies line t (d ∷ ds) f = then_rule (check_file bodies line t d f) (λ g. check_files bodies line t ds g)

-- the specifier of a declaration; a tag alone is declared
abbrev pub file_base : Env → SpecTree → List FileTree → Known → Walk Known PlainType
file_base env s [] k = alone env s k
file_base env s (d ∷ ds) k = check_spec env s k

abbrev pub knowing : File → Known → File
knowing f k = record { known = k; declared = f.declared; functions = f.functions }

-- ---- items

abbrev pub check_item : (bodies : List (List ℕ)) → ItemTree → File → Answer File
check_item bodies (item.Function first line fixed s stars name at ps body) f = check_function bodies f s stars name at ps body
check_item bodies (item.Decls first line fixed s ds) f =
    then_rule (file_base (file_env bodies f.declared) s ds f.known) (λ t. check_files bodies line t.0 ds (knowing f t.1))

abbrev pub check_all : (bodies : List (List ℕ)) → ProgramTree → File → Answer File
check_all bodies [] f = Ok f
check_all bodies (i ∷ is) f = then_rule (check_item bodies i f) (λ g. check_all bodies is g)

-- A library function, whose tree has no places, is known before the first line.
abbrev pub head_known : (library : Bool) → (bodies : List (List ℕ)) → SpecTree → (stars : ℕ) → (name : List ℕ) → (at : ℕ) → ParamsTree → File → Answer File
head_known false bodies s stars name at ps f = Ok f
head_known true bodies s stars name at ps f =
    then_rule (check_spec (file_env bodies f.declared) s f.known) (λ t.
    with_head f f.known (check_head bodies f false name at (pointers stars t.0) ps t.1))

abbrev pub library_known : (bodies : List (List ℕ)) → ProgramTree → File → Answer File
library_known bodies [] f = Ok f
library_known bodies (item.Function first line fixed s stars name at ps body ∷ is) f =
    then_rule (head_known (nat_eq first no_place) bodies s stars name at ps f) (λ g. library_known bodies is g)
library_known bodies (item.Decls first line fixed s ds ∷ is) f = library_known bodies is f

abbrev pub empty_file : File
empty_file = record {
  known = record { structs = []; tags = []; statics = []; calls = [] };
  declared = builtins;
  functions = [];
}

-- ---- functions without a body: at the least place of a call, or at the name of `main`

abbrev pub least : Option ℕ → Option ℕ → Option ℕ
least None o = o
least (Some a) None = Some a
least (Some a) (Some b) = Some (min a b)

abbrev pub missing_call : (bodies : List (List ℕ)) → List Called → Option ℕ
missing_call bodies [] = None
missing_call bodies (c ∷ cs) = least (if is_one_of c.name bodies then None else Some c.place) (missing_call bodies cs)

-- where a name is declared at file scope first
abbrev pub if_named : (name : List ℕ) → (other : List ℕ) → (at : ℕ) → Option ℕ → Option ℕ
if_named name other at after = if bytes_eq other name then Some at else after

abbrev pub place_in_files : (name : List ℕ) → List FileTree → Option ℕ → Option ℕ
place_in_files name [] after = after
place_in_files name (file.Function stars x at ps ∷ ds) after = if_named name x at (place_in_files name ds after)
place_in_files name (file.Object (declarator.Bare stars x at dims) ∷ ds) after = if_named name x at (place_in_files name ds after)
place_in_files name (file.Object (declarator.Initial stars x at dims i) ∷ ds) after = if_named name x at (place_in_files name ds after)

abbrev pub place_of : (name : List ℕ) → ProgramTree → Option ℕ
place_of name [] = None
place_of name (item.Function first line fixed s stars x at ps body ∷ is) = if_named name x at (place_of name is)
place_of name (item.Decls first line fixed s ds ∷ is) = place_in_files name ds (place_of name is)

-- `main` is an `int` without parameters (5.1.2.2.1)
abbrev pub is_main : Option TypedFunction → Bool
is_main None = false
is_main (Some f) = same_type f.result (type.Int Int) && nat_eq f.params 0

abbrev pub or_no_place : Option ℕ → ℕ
or_no_place None = no_place
or_no_place (Some n) = n

abbrev pub missing_main : ProgramTree → Option TypedFunction → Option ℕ
missing_main p f = if is_main f then None else Some (or_no_place (place_of main_name p))

abbrev pub finished : Option ℕ → (main : ℕ) → File → Answer TypedProgram
finished (Some place) n f = fault kind.NoBody place
finished None n f = Ok (record { structs = f.known.structs; statics = f.known.statics; functions = f.functions; main = n })

abbrev pub completed_file : (bodies : List (List ℕ)) → ProgramTree → File → Answer TypedProgram
completed_file bodies p f =
    let n = number_from 0 main_name bodies in
    finished (least (missing_call bodies f.known.calls) (missing_main p (slice_get f.functions n))) n f

-- ---- the typed tree of a program, or its first fault

abbrev pub check_program : (bodies : List (List ℕ)) → ProgramTree → Answer TypedProgram
check_program bodies p = then_rule (library_known bodies p empty_file) (λ f. then_rule (check_all bodies p f) (λ g. completed_file bodies p g))

abbrev pub typing : ProgramTree → Answer TypedProgram
typing p = check_program (body_names p) p

-- t is the typed tree of p
abbrev pub Types : ProgramTree → TypedProgram → Type 0
Types p t = typing p ≡ Ok t

-- f is the first fault of p
abbrev pub FirstTypeFault : ProgramTree → Fault → Type 0
FirstTypeFault p f = typing p ≡ Err f

-- t is the typed tree of a program of the grammar
abbrev pub WellTyped : TypedProgram → Type 0
WellTyped t = ∥ ((p : ProgramTree) × ValidProgram p × Types p t) ∥₁
