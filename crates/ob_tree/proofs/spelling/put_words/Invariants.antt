use Rattle.std.proofs.Common.{◌≡◌, ◌++◌, map, take}
use Rattle.ob_tree.specs.declared.tokens.TokenKind.TheVariants.{Word}
use Rattle.ob_tree.proofs.spelling.put_words.Given as goal

abbrev pub invariant-loop-word : goal.invariant-loop-word
invariant-loop-word l = l.out.items ≡ l.fn.out.items ++ map Word (take l.word-index l.words)
