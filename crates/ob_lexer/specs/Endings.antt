use Rattle.std.specs.Prelude.{ℕ, List}
use Rattle.ob_tree.specs.declared.constants.Suffix.{Suffix}
use Rattle.ob_lexer.specs.declared.numbers.Ending.{Ending}

abbrev pub row_of : Ending → List ℕ × Suffix
row_of ending = (ending.text.now, ending.suffix)
