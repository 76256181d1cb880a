-- Which objects are freed and which are dead at the end of a run, by its profile (C99 6.2.4 and 7.20.3).
use Rattle.std.specs.Prelude.{◌≡◌, ◌≢◌, ℕ, ◌<◌, List, length, All}
use Rattle.ob_model.specs.declared.objects.Sort.TheVariants.{Automatic}
use Rattle.ob_model.specs.declared.settings.Profile.TheVariants.{One, Two}
use Rattle.ob_model.specs.declared.settings.RunSettings.{RunSettings}
use Rattle.ob_model.specs.Endings.{InputEnd}
use Rattle.ob_model.specs.Objects.{live, freed, dead}
use Rattle.ob_typed.specs.TypedTree.{TypedProgram}
use Rattle.ob_meaning.specs.Memory.{object_at}
use Rattle.ob_meaning.specs.Runs.{meaning_end}
use Rattle.ob_meaning.specs.World.{Rule, World}

-- no object is freed under the first profile
abbrev pub NoneIsFreed : Type 0
NoneIsFreed =
    (program : TypedProgram) (rule : Rule) (settings : RunSettings) (cycle : List ℕ) (place : ℕ) (input : List ℕ) (input_end : InputEnd) (steps object : ℕ) →
    settings.profile ≡ One →
    (object_at (meaning_end program rule settings cycle place input input_end steps).objects object).state ≢ freed

-- under the second one automatic objects alone die
abbrev pub IsMade : World → ℕ → Type 0
IsMade w object = (0 < object) × (object < length w.objects)

abbrev pub AutomaticsAloneDie : Type 0
AutomaticsAloneDie =
    (program : TypedProgram) (rule : Rule) (settings : RunSettings) (cycle : List ℕ) (place : ℕ) (input : List ℕ) (input_end : InputEnd) (steps object : ℕ) →
    settings.profile ≡ Two →
    let end = meaning_end program rule settings cycle place input input_end steps in
    IsMade end object →
    (object_at end.objects object).state ≡ dead →
    (object_at end.objects object).sort ≡ Automatic

-- the granules that are kept outside of objects are those of live objects
abbrev pub LiveObjectsAloneCount : Type 0
LiveObjectsAloneCount =
    (program : TypedProgram) (rule : Rule) (settings : RunSettings) (cycle : List ℕ) (place : ℕ) (input : List ℕ) (input_end : InputEnd) (steps : ℕ) →
    let end = meaning_end program rule settings cycle place input input_end steps in
    All (λ e. (object_at end.objects e.object).state ≡ live) end.outside
