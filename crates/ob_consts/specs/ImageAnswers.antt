-- The answer of `static_image`: a refusal exactly where an item is no constant; else the image, or too little memory.
use Rattle.std.specs.Prelude.{◌≡◌, Bool, true, false, Result, Ok, Err}
use Rattle.ob_typed.specs.declared.statics.StaticImage.{StaticImage}
use Rattle.ob_typed.specs.TypedTree.{PlainImage}
use Rattle.ob_typed.specs.TypedView.{plain_image}
use Rattle.ob_consts.specs.declared.images.ConstFault.{ConstFault}
use Rattle.ob_consts.specs.declared.images.ConstFault.TheVariants.{NotConstant, NoMemory}

abbrev pub ImageAnswers : Result StaticImage ConstFault → (constants : Bool) → PlainImage → Type 0
ImageAnswers (Ok i) constants image = (constants ≡ true) × (plain_image i ≡ image)
ImageAnswers (Err NotConstant) constants image = constants ≡ false
ImageAnswers (Err NoMemory) constants image = constants ≡ true
