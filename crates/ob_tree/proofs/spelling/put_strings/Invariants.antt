use Rattle.std.proofs.Common.{◌≡◌, ◌++◌, map, take}
use Rattle.ob_tree.specs.declared.tokens.TokenKind.TheVariants.{Str}
use Rattle.ob_tree.proofs.spelling.put_strings.Given as goal

abbrev pub invariant-loop-string : goal.invariant-loop-string
invariant-loop-string l = l.out.items ≡ l.fn.out.items ++ map Str (take l.string-index l.strings)
