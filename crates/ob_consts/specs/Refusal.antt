-- The answer of `constant`: the value where there is one, else the refusal.
use Rattle.std.specs.Prelude.{◌≡◌, ℤ, Option, Some, None, Result, Ok, Err}
use Rattle.ob_consts.specs.declared.constants.NotConstant.{NotConstant}

abbrev pub Answers : Result ℤ NotConstant → Option ℤ → Type 0
Answers (Ok z) o = o ≡ Some z
Answers (Err e) o = o ≡ None
