-- Where an expression, an initialiser and a specifier stand.
use Rattle.std.specs.Prelude.{ℕ}
use Rattle.ob_tree.specs.Levels.{mark_of}
use Rattle.ob_tree.specs.Trees.{ExprTree, InitTree}
use Rattle.ob_tree.specs.Trees.{InitTree as init}

abbrev pub first_of : ExprTree → ℕ
first_of e = (mark_of e).first

abbrev pub first_of_init : InitTree → ℕ
first_of_init (init.Value e) = first_of e
first_of_init (init.Braces f is comma) = f
