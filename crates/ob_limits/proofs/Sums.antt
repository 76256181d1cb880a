-- What static objects and functions add to the sums that are limited, as the code holds them.
use Rattle.std.proofs.Common.{ℕ}
use Rattle.ob_words.specs.Words.{block}
use Rattle.ob_tree.specs.Sizes.{size}
use Rattle.ob_tree.specs.Types.{PlainStructs}
use Rattle.ob_tree.specs.TypeView.{plain_type}
use Rattle.ob_typed.specs.declared.program.TFunction.{TFunction}
use Rattle.ob_typed.specs.declared.statics.TStatic.{TStatic}

abbrev pub object_block : PlainStructs → TStatic → ℕ
object_block s o = block (size s (plain_type o.ty))

abbrev pub function_weight : TFunction → ℕ
function_weight f = f.weight
