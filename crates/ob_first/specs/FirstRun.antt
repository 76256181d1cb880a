-- An image that runs as a program of the first form does.
use Rattle.std.specs.Prelude.{◌≡◌, ℕ, ◌<◌, List, [], length}
use Rattle.ob_model.specs.declared.endings.Ending.TheVariants.{Ended}
use Rattle.ob_model.specs.declared.settings.RunSettings.{RunSettings}
use Rattle.ob_model.specs.Endings.{InputEnd}
use Rattle.ob_model.specs.Settings.{IsFit}
use Rattle.ob_code.specs.declared.image.Image.{Image}
use Rattle.ob_code.specs.Start.{flat_final}
use Rattle.ob_code.specs.State.{Final}
use Rattle.ob_first.specs.FirstForm.{FirstForm, printed, sum_value}

-- a run ended with the result's value and wrote what is printed, and nothing of it strayed from an object
pub record RunsAs (f : FirstForm) (final : Final) : Type 0 where
  pub ending : final.ending ≡ Ended (sum_value f.result)
  pub output : final.state.output ≡ printed f
  pub quiet : final.state.events ≡ []

-- whatever the settings, the input and the place in a cycle of manufactured values are, where there is a step for each print and
-- one for `main`
abbrev pub Prints : Image → FirstForm → Type 0
Prints image f =
    (settings : RunSettings) (cycle : List ℕ) (place : ℕ) (input : List ℕ) (input_end : InputEnd) (steps : ℕ) →
    IsFit settings →
    length f.prints < steps →
    RunsAs f (flat_final image settings cycle place input input_end steps)
