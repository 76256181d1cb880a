-- Runs of an image beside the meaning of its program. The stack has 1,024 bytes here, so that a run is short to compute.
use Rattle.std.specs.Prelude.{◌≡◌, ℕ, pos, List, [], ◌∷◌}
use Rattle.ob_model.specs.declared.endings.Ending.TheVariants.{Ended}
use Rattle.ob_model.specs.declared.settings.Mode.{Mode}
use Rattle.ob_model.specs.declared.settings.Mode.TheVariants.{Boundless}
use Rattle.ob_model.specs.declared.settings.Profile.{Profile}
use Rattle.ob_model.specs.declared.settings.Profile.TheVariants.{Two}
use Rattle.ob_model.specs.declared.settings.RunSettings.{RunSettings}
use Rattle.ob_model.specs.Endings.{InputEnd, Outcome, closed, plain}
use Rattle.ob_typed.specs.TypedTree.{TypedProgram}
use Rattle.ob_code.specs.declared.image.Image.{Image}
use Rattle.ob_code.specs.Start.{laid_out, outcome_of, run_from}
use Rattle.ob_meaning.specs.ControlExamples.{factorial}
use Rattle.ob_meaning.specs.Runs.{meaning}
use Rattle.ob_meaning.specs.Setup.{rule_of}
use Rattle.ob_lower.specs.Programs.{code_of}

abbrev pub image_run : Image → RunSettings → List ℕ → InputEnd → ℕ → Outcome
image_run image settings input input_end steps =
    outcome_of
    (run_from (record { image = image; settings = settings; cycle = 0 ∷ 1 ∷ 2 ∷ []; input_end = input_end })
    (laid_out 1024 image.statics image.pointers settings) 0 input steps)

-- the code does what the program means, with room for one out-of-bounds pointer, two granules and 32 bytes of heap
abbrev pub settings_of : Mode → Profile → RunSettings
settings_of mode profile = record { mode = mode; store = 2; away = 1; heap = 32; profile = profile }

abbrev pub AgreesOn : RunSettings → List ℕ → InputEnd → ℕ → TypedProgram → Type 0
AgreesOn settings input input_end steps t =
    image_run (code_of t) settings input input_end steps ≡ meaning t (rule_of settings) settings (0 ∷ 1 ∷ 2 ∷ []) 0 input input_end steps

abbrev pub Agrees : Mode → Profile → TypedProgram → Type 0
Agrees mode profile t = AgreesOn (settings_of mode profile) [] closed 60 t

-- a function that calls itself gives the product of four numbers, as the program means: its run is told apart from its meaning's, which
-- ob_meaning tells
abbrev pub FactorialIsComputed : Mode → Profile → Type 0
FactorialIsComputed mode profile =
    image_run (code_of factorial) (settings_of mode profile) [] closed 60
    ≡ record { finish = plain (Ended (pos 0)); output = 65 ∷ []; events = []; cycle_place = 0 }

-- the same with so many steps, of which none may be left before the end
abbrev pub AgreesFor : ℕ → TypedProgram → Type 0
AgreesFor steps t = AgreesOn (settings_of Boundless Two) [] closed steps t
