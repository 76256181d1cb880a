-- A run in progress as the program keeps it, and the state of the definition's that it stands for.
use Rattle.std.specs.Prelude.{◌≡◌, ℕ, ◌-◌, ◌%◌, ◌^◌, ℤ, List, [], ◌∷◌, Option, Some, None, Result, Ok, Err, slice_get, if◌then◌else◌}
use Rattle.ob_words.specs.declared.types.DivideByZero.{DivideByZero}
use Rattle.ob_words.specs.Words.{word}
use Rattle.ob_model.specs.Accesses.{is_far}
use Rattle.ob_model.specs.declared.endings.Ending.{Ending}
use Rattle.ob_model.specs.declared.settings.RunSettings.{RunSettings}
use Rattle.ob_model.specs.declared.strays.StrayEvent.{StrayEvent}
use Rattle.ob_model.specs.Endings.{InputEnd}
use Rattle.ob_code.specs.declared.image.Image.{Image}
use Rattle.ob_code.specs.Machine.{act_on}
use Rattle.ob_code.specs.State.{Call, Next, Setup, State, goes, stops}
use Rattle.ob_space.specs.Loaded.{Loaded}
use Rattle.ob_machine.specs.declared.execution.Execution.{Execution}

-- what stands beside it in a state: the input that is left, the output and the stray accesses so far, and the place in the
-- cycle of manufactured values
pub record Beside : Type 0 where
  pub input : List ℕ
  pub output : List ℕ
  pub events : List StrayEvent
  pub cycle_place : ℕ

abbrev pub state_of : Execution → Beside → State
state_of e b =
    record { space = e.space.space; counter = e.counter; steps = e.steps; input = b.input; output = b.output; events = b.events; cycle_place = b.cycle_place; instructions = e.instructions }

-- what is answered for a definition's next state: nothing where the run goes on, and else how it ends
abbrev pub Is : Option Ending → Next → Execution → Beside → Type 0
Is None x e b = x ≡ goes (state_of e b)
Is (Some ending) x e b = x ≡ stops ending (state_of e b)

-- the image and the settings that a memory was laid out for stay
pub record SameRows (s t : Loaded) : Type 0 where
  pub statics : t.statics ≡ s.statics
  pub pointers : t.pointers ≡ s.pointers
  pub functions : t.functions ≡ s.functions
  pub settings : t.settings ≡ s.settings

-- what stays the same in a run of an image
abbrev pub setup : Image → RunSettings → List ℕ → InputEnd → Setup
setup image settings cycle input_end =
    record { image = image; settings = settings; cycle = cycle; input_end = input_end }

-- what the next instruction of an image does, on an input that ends so
abbrev pub does : Image → RunSettings → List ℕ → InputEnd → State → Next
does image settings cycle input_end s = act_on (setup image settings cycle input_end) (slice_get image.code s.counter) s

-- the number of the innermost call's function
abbrev pub top_number : List Call → ℕ
top_number [] = 0
top_number (c ∷ cs) = c.function

-- ---- results as words

-- the word of a result, and of a displacement that isn't too far
abbrev pub result_word : Result ℤ DivideByZero → Option ℕ
result_word (Ok n) = Some (word n)
result_word (Err e) = None

abbrev pub near_word : ℤ → Option ℕ
near_word d = if is_far d then None else Some (word d)

-- what a byte that was read puts into a word, and -1 at the end
abbrev pub word_of_byte : Option ℕ → ℕ
word_of_byte (Some byte) = byte % 256
word_of_byte None = 2 ^ 64 - 1
