-- Laws of freed objects and of what shows of a run, by example programs that run as the others do.
use Rattle.std.specs.Prelude.{◌≡◌, ℕ, pos, List, [], ◌∷◌, Some, None}
use Rattle.ob_model.specs.declared.endings.Ending.TheVariants.{Descriptors}
use Rattle.ob_model.specs.declared.settings.Profile.{Profile}
use Rattle.ob_model.specs.declared.settings.Profile.TheVariants.{One, Two}
use Rattle.ob_model.specs.declared.strays.Act.TheVariants as act
use Rattle.ob_model.specs.declared.values.Shown.{Shown}
use Rattle.ob_model.specs.declared.values.Shown.TheVariants as shown
use Rattle.ob_model.specs.Accesses.{stray_event}
use Rattle.ob_model.specs.Endings.{closed, dead, plain}
use Rattle.ob_model.specs.Shown.{ShownList, ShownVariable}
use Rattle.ob_typed.specs.TypedTree.{TypedProgram}
use Rattle.ob_meaning.specs.ControlExamples as control
use Rattle.ob_meaning.specs.Examples as examples
use Rattle.ob_meaning.specs.ExampleRuns.{Gives, Prints, end_under, example_settings, run_in, stray_load, stray_store}
use Rattle.ob_meaning.specs.FreedExamples as freed
use Rattle.ob_meaning.specs.Runs.{setup_of}
use Rattle.ob_meaning.specs.Shown.{shown_list}
use Rattle.ob_meaning.specs.World.{Rule, vanish}

-- ---- freed objects under the second profile

-- a store through a freed object's pointer is told with its line, and vanishes
abbrev pub FreedStoreVanishes : Rule → Type 0
FreedStoreVanishes rule =
    Prints (run_in Two rule examples.use_after_free) (65 ∷ []) (stray_event 6 act.Store 2 (pos 0) 1 ∷ []) 0

-- a freed object's block isn't given again; under the first profile it is
abbrev pub BlockIsGivenAgain : Profile → ℕ → Type 0
BlockIsGivenAgain profile printed = Prints (run_in profile vanish freed.block_again) (printed ∷ []) [] 0

-- freeing again is told; the pointer leaves its object, comes back, and a load through it takes the next manufactured value
abbrev pub FreedIsFreedAgain : Rule → Type 0
FreedIsFreedAgain rule =
    Prints (run_in Two rule freed.freed_twice) (48 ∷ []) (stray_event 1 act.Free 2 (pos 0) 0 ∷ stray_load 2 2 1 ∷ []) 1

-- what was stored outside of an object isn't loaded once the object is freed
abbrev pub FreedGranuleIsGone : Rule → Type 0
FreedGranuleIsGone rule = Prints (run_in Two rule freed.freed_outside) (48 ∷ []) (stray_store 2 100 1 ∷ stray_load 2 100 1 ∷ []) 1

-- pointers to a freed object are moved, ordered, subtracted and compared as those to a live one
abbrev pub FreedIsCompared : Type 0
FreedIsCompared = Prints (run_in Two vanish freed.freed_compared) (49 ∷ 50 ∷ 48 ∷ []) [] 0

-- a freed object's pointer out of bounds stays listed, and a dead object's doesn't
abbrev pub FreedPairStays : Type 0
FreedPairStays =
    Gives (run_in Two vanish freed.pair_of_freed) (plain Descriptors) (65 ∷ []) [] 0
    × Prints (run_in One vanish freed.pair_of_freed) (65 ∷ 66 ∷ []) [] 0

-- its granules outside leave, so that another object's fits
abbrev pub GranuleMakesRoom : Profile → Rule → Type 0
GranuleMakesRoom profile rule =
    Prints (run_in profile rule freed.granule_of_freed) (54 ∷ []) (stray_store 3 100 1 ∷ stray_store 2 100 1 ∷ stray_load 2 100 1 ∷ []) 0

-- ---- dead objects

-- an automatic object dies under each profile
abbrev pub AutomaticsDie : Profile → Type 0
AutomaticsDie profile = Gives (run_in profile vanish control.dangling) (dead 1) (65 ∷ []) [] 0

-- ---- what shows

abbrev pub shown_of : TypedProgram → ShownList
shown_of program =
    shown_list (setup_of program vanish example_settings (0 ∷ 1 ∷ 2 ∷ []) closed) (end_under vanish program)

abbrev pub variable : ℕ → Shown → ShownVariable
variable name value = record { name = name ∷ []; value = value }

abbrev pub shown_statics : List ShownVariable
shown_statics = variable 110 (shown.Num (pos 3)) ∷ variable 115 shown.Pointer ∷ []

-- the statics n and s, and in f the variables i, q and c
abbrev pub VariablesShow : Type 0
VariablesShow =
    shown_of (freed.shown 5)
    ≡ record {
      statics = shown_statics;
      function = Some 0;
      variables = variable 105 (shown.Num (pos 5)) ∷ variable 113 shown.Null ∷ variable 99 (shown.Num (pos 121)) ∷ [];
    }

-- once `main` has returned, no call is in progress
abbrev pub StaticsShowAtTheEnd : Type 0
StaticsShowAtTheEnd = shown_of (freed.shown 0) ≡ record { statics = shown_statics; function = None; variables = [] }
