-- The code of a program of the first form. A sum is added up in word 2 of the frame, with each further constant in word 3.
use Rattle.std.specs.Prelude.{ℕ, pos, List, [], ◌∷◌, ◌++◌}
use Rattle.std.specs.List.{flat_map}
use Rattle.ob_words.specs.declared.types.BinOp.TheVariants.{Add}
use Rattle.ob_words.specs.declared.types.IntType.TheVariants.{Int}
use Rattle.ob_model.specs.declared.settings.Profile.TheVariants.{One}
use Rattle.ob_code.specs.declared.image.FunctionRow.{FunctionRow}
use Rattle.ob_code.specs.declared.image.Image.{Image}
use Rattle.ob_code.specs.declared.instructions.Instr.{Instr}
use Rattle.ob_code.specs.declared.instructions.Instr.TheVariants.{Set, Binary, PutChar, Return}
use Rattle.ob_first.specs.FirstForm.{FirstForm}

abbrev pub addend_code : ℕ → List Instr
addend_code constant = Set 3 (pos constant) ∷ (Binary Int Add 2 2 3 ∷ [])

abbrev pub sum_code : List ℕ → List Instr
sum_code [] = []
sum_code (constant ∷ more) = Set 2 (pos constant) ∷ flat_map addend_code more

abbrev pub print_code : List ℕ → List Instr
print_code constants = sum_code constants ++ PutChar 3 2 ∷ []

abbrev pub return_code : List ℕ → List Instr
return_code constants = sum_code constants ++ Return 2 ∷ []

abbrev pub body_code : List (List ℕ) → List ℕ → List Instr
body_code prints result = flat_map print_code prints ++ return_code result

abbrev pub first_code : FirstForm → List Instr
first_code f = body_code f.prints f.result

-- one function with four words, without objects
abbrev pub main_row : FunctionRow
main_row = record { entry = 0; params = 0; words = 4; vars = 0; allowance = 32; locals = [] }

abbrev pub only_main : List Instr → Image
only_main code = record { profile = One; statics = []; pointers = []; functions = main_row ∷ []; main = 0; code = code; names = [] }

-- the image of a program of the first form
abbrev pub code_of : FirstForm → Image
code_of f = only_main (first_code f)
