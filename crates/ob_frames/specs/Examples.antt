-- Two small functions, and calls of them on a stack of 128 bytes.
use Rattle.std.specs.Prelude.{List, [], ◌∷◌}
use Rattle.ob_model.specs.declared.settings.Mode.TheVariants.{Oblivious}
use Rattle.ob_code.specs.declared.image.FunctionRow.{FunctionRow}
use Rattle.ob_code.specs.Examples.{function_of, settings_of}
use Rattle.ob_code.specs.Frames.{entered}
use Rattle.ob_code.specs.Start.{laid_out}
use Rattle.ob_code.specs.State.{Space}
use Rattle.ob_frames.specs.Leaving.{left_top}

abbrev pub functions : List FunctionRow
functions = function_of 0 0 3 48 ∷ function_of 1 0 5 64 ∷ function_of 2 0 2 16 ∷ []

abbrev pub no_call : Space
no_call = laid_out 128 [] [] (settings_of Oblivious 0 0)

abbrev pub one_call : Space
one_call = entered functions 0 3 no_call

abbrev pub two_calls : Space
two_calls = entered functions 1 9 one_call

-- the second function is left and entered again
abbrev pub again : Space → Space
again s = entered functions 1 9 (left_top functions s.calls s)
