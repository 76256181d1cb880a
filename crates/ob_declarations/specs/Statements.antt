-- What is decided about statements that have begun: the ones that a last part makes whole, and the tokens that may
-- stand where an expression is left out.
use Rattle.std.specs.Prelude.{List, [], ◌∷◌, Bool, false, true, Option, Some, None, cond}
use Rattle.ob_tree.specs.declared.tokens.TokenKind.{TokenKind}
use Rattle.ob_tree.specs.declared.tokens.TokenKind.TheVariants as kind
use Rattle.ob_tree.specs.declared.tokens.Keyword.TheVariants as word
use Rattle.ob_tree.specs.declared.tokens.Keyword.{Keyword}
use Rattle.ob_tree.specs.declared.tokens.Sign.TheVariants as sign
use Rattle.ob_tree.specs.Trees.{Mark}
use Rattle.ob_tree.specs.Programs.{StmtTree, BlockTrees}
use Rattle.ob_tree.specs.ProgramStates.{PendingStmt, InBlock, InIf, InElse, InWhile, InDo, InFor, IfTest, WhileTest, Return, State, Optional, Begin, Opening, ForWord, Semi}
use Rattle.ob_tree.specs.ExprMachine.{is_spec_word}
use Rattle.ob_tree.specs.ProgramMachine.{begins_declaration}

-- whether a statement makes the innermost pending statement whole; where ifs is false, an `if` waits for an `else`
abbrev pub closes : (ifs : Bool) → List PendingStmt → Bool
closes ifs (InIf f n c ∷ fs) = ifs
closes ifs (InElse f n c x ∷ fs) = true
closes ifs (InWhile f n c ∷ fs) = true
closes ifs (InFor f n i c x ∷ fs) = true
closes ifs fs = false

-- a pending statement with its last part; where it takes none, the part
abbrev pub completed : PendingStmt → StmtTree → StmtTree
completed (InIf f n c) s = StmtTree.If f n c s
completed (InElse f n c x) s = StmtTree.IfElse f n c x s
completed (InWhile f n c) s = StmtTree.While f n c s
completed (InFor f n i c x) s = StmtTree.For f n i c x s
completed f s = s

-- the innermost pending statement with its last part, and the others
abbrev pub closed_top : StmtTree → List PendingStmt → StmtTree × List PendingStmt
closed_top s [] = (s, [])
closed_top s (f ∷ fs) = (completed f s, fs)

-- the pending statements that close, the innermost first, closed
abbrev pub closed : (ifs : Bool) → StmtTree → List PendingStmt → StmtTree × List PendingStmt
closed ifs s (InIf f n c ∷ fs) = cond ifs (closed ifs (StmtTree.If f n c s) fs) (s, InIf f n c ∷ fs)
closed ifs s (InElse f n c x ∷ fs) = closed ifs (StmtTree.IfElse f n c x s) fs
closed ifs s (InWhile f n c ∷ fs) = closed ifs (StmtTree.While f n c s) fs
closed ifs s (InFor f n i c x ∷ fs) = closed ifs (StmtTree.For f n i c x s) fs
closed ifs s fs = (s, fs)

-- whether the innermost pending statement is a block
abbrev pub in_block : List PendingStmt → Bool
in_block (InBlock f n items ∷ fs) = true
in_block fs = false

-- an `else` behind a statement that makes no other whole but an `if`
abbrev pub else_at : StmtTree → List PendingStmt → Option State
else_at s (InIf f n c ∷ fs) = Some (Begin (InElse f n c s ∷ fs))
else_at s fs = None

-- whether the machine goes on
abbrev pub goes_on : Option State → Bool
goes_on None = false
goes_on (Some s) = true

-- whether a declaration in a block begins with the token
abbrev pub begins_local : TokenKind → Bool
begins_local (kind.Word w) = begins_declaration w
begins_local k = false

-- whether a type specifier begins with the token
abbrev pub begins_type : TokenKind → Bool
begins_type (kind.Word w) = is_spec_word w
begins_type k = false

abbrev pub is_else : TokenKind → Bool
is_else (kind.Word word.Else) = true
is_else k = false

abbrev pub ends_block : TokenKind → Bool
ends_block (kind.Sign sign.CloseBrace) = true
ends_block k = false

-- whether a statement begins with the token that no expression begins
abbrev pub is_statement_word : Keyword → Bool
is_statement_word word.If = true
is_statement_word word.While = true
is_statement_word word.Do = true
is_statement_word word.For = true
is_statement_word word.Break = true
is_statement_word word.Continue = true
is_statement_word word.Return = true
is_statement_word w = false

abbrev pub begins_statement : TokenKind → Bool
begins_statement (kind.Word w) = is_statement_word w
begins_statement (kind.Sign sign.OpenBrace) = true
begins_statement k = false

-- the state behind that token
abbrev pub word_begun : Mark → Keyword → List PendingStmt → Option State
word_begun m word.If fs = Some (Opening (IfTest m.first m.line fs))
word_begun m word.While fs = Some (Opening (WhileTest m.first m.line fs))
word_begun m word.Do fs = Some (Begin (InDo m.first m.line ∷ fs))
word_begun m word.For fs = Some (ForWord m.first m.line fs)
word_begun m word.Break fs = Some (Semi (StmtTree.Break m.first m.line) fs)
word_begun m word.Continue fs = Some (Semi (StmtTree.Continue m.first m.line) fs)
word_begun m word.Return fs = Some (Optional (Return m.first m.line fs))
word_begun m w fs = None

abbrev pub begun : Mark → TokenKind → List PendingStmt → Option State
begun m (kind.Word w) fs = word_begun m w fs
begun m (kind.Sign sign.OpenBrace) fs = Some (Begin (InBlock m.first m.line BlockTrees.NoItems ∷ fs))
begun m k fs = None
