-- What shows of a run that has no step left: the static numbers and pointers that have names, the function of the innermost
-- call in progress, and the numbers and pointers among that call's variables, each with its name and value.
use Rattle.std.specs.Prelude.{ℕ, List, Option}
use Rattle.ob_model.specs.declared.values.Shown.{Shown}
use Rattle.ob_model.specs.declared.values.Shown.TheVariants as shown
use Rattle.ob_model.specs.declared.values.Value.{Value}
use Rattle.ob_model.specs.declared.values.Value.TheVariants as value

-- how a value shows: a pointer that isn't null shows as a pointer alone
abbrev pub shown_value : Value → Shown
shown_value (value.Num n) = shown.Num n
shown_value value.Null = shown.Null
shown_value (value.Ptr object offset) = shown.Pointer

-- a variable's name, in bytes, and its value
pub record ShownVariable : Type 0 where
  pub name : List ℕ
  pub value : Shown

-- the function is counted from 0; there is none, and no variable, where no call is in progress
pub record ShownList : Type 0 where
  pub statics : List ShownVariable
  pub function : Option ℕ
  pub variables : List ShownVariable
