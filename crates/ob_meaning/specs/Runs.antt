-- Whole runs (C99 5.1.2.2.3, 6.7.8, 6.9). The static objects are made, `main` is called, and the run's outcome is how it ends,
-- what it has written, its stray accesses, and the place in the cycle of manufactured values.
use Rattle.std.specs.Prelude.{ℕ, zero, suc, ◌+◌, ◌/◌, pos, List, [], ◌∷◌, ◌++◌, map, take, drop, replicate, slice_set, Some, None}
use Rattle.ob_words.specs.declared.types.IntType.TheVariants.{Int}
use Rattle.ob_words.specs.Conversion.{convert}
use Rattle.ob_model.specs.declared.endings.Ending.TheVariants.{Ended}
use Rattle.ob_model.specs.declared.objects.Sort.TheVariants.{Static}
use Rattle.ob_model.specs.declared.settings.RunSettings.{RunSettings}
use Rattle.ob_model.specs.declared.values.Value.{Value}
use Rattle.ob_model.specs.declared.values.Value.TheVariants as value_of
use Rattle.ob_model.specs.Accesses.{own_granules}
use Rattle.ob_model.specs.Cells.{bytes, pointer}
use Rattle.ob_model.specs.Endings.{Finish, InputEnd, Outcome, plain}
use Rattle.ob_model.specs.Objects.{live}
use Rattle.ob_tree.specs.Types.{PlainStructs}
use Rattle.ob_typed.specs.declared.statics.StaticPointer.{StaticPointer}
use Rattle.ob_typed.specs.TypedTree.{PlainImage, TypedObject, TypedProgram}
use Rattle.ob_meaning.specs.Calls.{below}
use Rattle.ob_meaning.specs.Memory.{Object, no_object}
use Rattle.ob_meaning.specs.Setup.{Setup}
use Rattle.ob_tree.specs.Sizes.{size}
use Rattle.ob_meaning.specs.Values.{Cell, number_of}
use Rattle.ob_meaning.specs.World.{Rule, World, Run, stop, go, end_of, step}

-- ---- static objects

-- a granule of the first bytes of a list, and zero bytes after them
abbrev pub first_granule : List ℕ → Cell
first_granule bs = bytes (map Some (take 8 (bs ++ replicate 8 0)))

abbrev pub granules_of : ℕ → List ℕ → List Cell
granules_of zero bs = []
granules_of (suc n) bs = first_granule bs ∷ granules_of n (drop 8 bs)

-- static objects are numbered from 0 in the tree, and from 1 among objects
abbrev pub with_pointers : List StaticPointer → List Cell → List Cell
with_pointers [] cells = cells
with_pointers (p ∷ ps) cells =
    with_pointers ps (slice_set cells (p.at / 8) (pointer (value_of.Ptr (p.target + 1) (pos p.offset))))

abbrev pub static_cells : PlainImage → ℕ → List Cell
static_cells image n = with_pointers image.pointers (granules_of n image.bytes)

abbrev pub static_object : PlainStructs → TypedObject → Object
static_object structs o =
    record {
      size = size structs o.ty;
      sort = Static;
      state = live;
      own = static_cells o.image (own_granules (size structs o.ty));
    }

-- ---- runs

abbrev pub first_world : Setup → ℕ → List ℕ → ℕ → World
first_world u cycle_place input steps =
    record {
      objects = no_object ∷ map (static_object u.program.structs) u.program.statics;
      outside = [];
      heap = [];
      out_of_bounds = [];
      first_drop = None;
      cycle_place = cycle_place;
      input = input;
      output = [];
      events = [];
      calls = [];
      left = steps;
    }

-- a run of so many steps at most; the call of `main` takes the first
abbrev pub run : Setup → ℕ → List ℕ → ℕ → Run Value
run u cycle_place input steps =
    step (first_world u cycle_place input steps) ((below u steps).call u.program.main [])

-- how a run ends; that of `main` is an `int`
abbrev pub finish_of : Run Value → Finish
finish_of (stop finish w) = finish
finish_of (go v w) = plain (Ended (convert Int (number_of v)))

abbrev pub outcome_at : Finish → World → Outcome
outcome_at finish w =
    record { finish = finish; output = w.output; events = w.events; cycle_place = w.cycle_place }

abbrev pub outcome_of : Run Value → Outcome
outcome_of r = outcome_at (finish_of r) (end_of r)

-- what a program means: under a rule and settings, with a cycle of manufactured values from a place on, on an input with its
-- end, for a number of steps
abbrev pub setup_of : TypedProgram → Rule → RunSettings → List ℕ → InputEnd → Setup
setup_of program rule settings cycle input_end =
    record { program = program; rule = rule; settings = settings; cycle = cycle; input_end = input_end }

abbrev pub meaning : TypedProgram → Rule → RunSettings → List ℕ → ℕ → List ℕ → InputEnd → ℕ → Outcome
meaning program rule settings cycle place input input_end steps =
    outcome_of (run (setup_of program rule settings cycle input_end) place input steps)

abbrev pub meaning_end : TypedProgram → Rule → RunSettings → List ℕ → ℕ → List ℕ → InputEnd → ℕ → World
meaning_end program rule settings cycle place input input_end steps =
    end_of (run (setup_of program rule settings cycle input_end) place input steps)
