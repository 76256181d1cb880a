-- The image of a typed program. The functions' code stands one behind the other, in order; where it gets its place, each jump gets the
-- place that it goes to. Static objects and functions keep their numbers, but those of static objects are counted from 1.
use Rattle.std.specs.Prelude.{ℕ, ◌+◌, List, [], ◌∷◌, ◌++◌, length, map}
use Rattle.ob_model.specs.declared.settings.Profile.TheVariants.{One}
use Rattle.ob_tree.specs.Sizes.{size}
use Rattle.ob_tree.specs.Types.{PlainStructs}
use Rattle.ob_typed.specs.declared.statics.StaticPointer.{StaticPointer}
use Rattle.ob_typed.specs.TypedTree.{TypedFunction, TypedObject, TypedProgram}
use Rattle.ob_code.specs.declared.image.FunctionRow.{FunctionRow}
use Rattle.ob_code.specs.declared.image.Image.{Image}
use Rattle.ob_code.specs.declared.image.PointerRow.{PointerRow}
use Rattle.ob_code.specs.declared.image.StaticRow.{StaticRow}
use Rattle.ob_code.specs.declared.instructions.Instr.{Instr}
use Rattle.ob_lower.specs.Functions.{function_code, function_row}
use Rattle.ob_lower.specs.Instructions.{placed_from}
use Rattle.ob_lower.specs.Names.{function_names, static_names}

-- ---- static objects

abbrev pub static_row : PlainStructs → TypedObject → StaticRow
static_row structs o = record { size = size structs o.ty; given = o.image.bytes }

abbrev pub pointer_row : ℕ → StaticPointer → PointerRow
pointer_row holder p = record { holder = holder; offset = p.at; target = p.target + 1; target_offset = p.offset }

abbrev pub pointer_rows : ℕ → List TypedObject → List PointerRow
pointer_rows holder [] = []
pointer_rows holder (o ∷ os) = map (pointer_row holder) o.image.pointers ++ pointer_rows (holder + 1) os

-- ---- code, function by function, from a place on

abbrev pub codes_of : TypedProgram → List TypedFunction → List (List Instr)
codes_of t fs = map (function_code t) fs

abbrev pub rows_of : TypedProgram → ℕ → List TypedFunction → List (List Instr) → List FunctionRow
rows_of t place [] codes = []
rows_of t place (f ∷ fs) [] = []
rows_of t place (f ∷ fs) (code ∷ codes) =
    function_row t f place code ∷ rows_of t (place + length code) fs codes

abbrev pub joined : ℕ → List (List Instr) → List Instr
joined place [] = []
joined place (code ∷ codes) = placed_from place code ++ joined (place + length code) codes

abbrev pub image_of : TypedProgram → List (List Instr) → Image
image_of t codes =
    record {
      profile = One;
      statics = map (static_row t.structs) t.statics;
      pointers = pointer_rows 1 t.statics;
      functions = rows_of t 0 t.functions codes;
      main = t.main;
      code = joined 0 codes;
      names = static_names 1 t.statics ++ function_names 1 t.functions;
    }

abbrev pub code_of : TypedProgram → Image
code_of t = image_of t (codes_of t t.functions)
