-- What the steps through statements need of the machine.
use Rattle.std.proofs.Common.{◌≡◌, ℕ, List, [], ◌∷◌, ◌++◌, Bool, true, false, Option, Some, None, refl, sym, ◌∙◌, ap, cond}
use Rattle.std.specs.Prelude.{Vec}
use Rattle.std.specs.declared.alloc.Global.{Global}
use Rattle.ob_tree.specs.declared.tokens.TokenKind.{TokenKind}
use Rattle.ob_tree.specs.declared.tokens.TokenKind.TheVariants as kind
use Rattle.ob_tree.specs.declared.tokens.Keyword.{Keyword}
use Rattle.ob_tree.specs.declared.tokens.Keyword.TheVariants as word
use Rattle.ob_tree.specs.declared.tokens.Sign.TheVariants as sign
use Rattle.ob_tree.specs.declared.programs.BlockItem as item
use Rattle.ob_tree.specs.declared.programs.BlockItem.{BlockItem}
use Rattle.ob_tree.specs.declared.programs.BlockItem.TheBlock as block
use Rattle.ob_tree.specs.declared.programs.BlockItem.TheBlock.{Row_of-BlockItem, end_of-BlockItem, more_of-BlockItem, items-the_row-BlockItem, items_hidden-the_row-BlockItem-0}
use Rattle.ob_tree.specs.declared.programs.Stmt.{Stmt}
use Rattle.ob_tree.specs.declared.programs.StmtNode as node
use Rattle.ob_tree.specs.Trees.{Mark}
use Rattle.ob_tree.specs.Programs.{StmtTree, BlockTrees}
use Rattle.ob_tree.specs.ProgramView.{stmt_tree, stmt_node_tree, block_row, in_front, local_tree}
use Rattle.ob_tree.specs.ExprMachine as expr
use Rattle.ob_tree.specs.ProgramStates.{PendingStmt, InBody, InBlock, InIf, InElse, InWhile, InDo, InFor, State, Done, BlockScope, ForScope, ForDeclaration, Statement, ForStart}
use Rattle.ob_tree.specs.ProgramParts.{add_statement}
use Rattle.ob_tree.specs.ProgramMachine.{begin, begin_declaration, block_item, statement, statement_word, for_start, specify, optional, heading}
use Rattle.ob_declarations.specs.Statements.{in_block, begins_local, begins_type, ends_block, is_statement_word, begins_statement, word_begun, begun}
use Rattle.ob_declarations.specs.View.{block_trees}

row-items : (n : _) (row : Row_of-BlockItem n) → block_row row ≡ block_trees (items-the_row-BlockItem n row)
row-items n end_of-BlockItem = refl
row-items n (more_of-BlockItem i is) = ap (in_front i) (row-items _ is)

pub block_tree : (f l : ℕ) (is : Vec BlockItem Global) → stmt_node_tree (node.Block is) f l ≡ StmtTree.Block f l (block_trees is.items)
block_tree f l is =
    ap (StmtTree.Block f l) (row-items _ (block.hidden-the_row-BlockItem-0 is) ∙ ap block_trees (items_hidden-the_row-BlockItem-0 is))

pub statements_pushed : (is : List BlockItem) (s : Stmt) → block_trees (is ++ item.Stmt s ∷ []) ≡ add_statement (block_trees is) (stmt_tree s)
statements_pushed [] s = refl
statements_pushed (item.Local l ∷ is) s = ap (BlockTrees.Declaration (local_tree l)) (statements_pushed is s)
statements_pushed (item.Stmt' f l x ∷ is) s = ap (BlockTrees.Statement (stmt_node_tree x f l)) (statements_pushed is s)

-- in a block
pub local_comes : (m : Mark) (k : TokenKind) (f n : ℕ) (is : BlockTrees) (fs : List PendingStmt) → begins_local k ≡ true
    → block_item m k f n is fs ≡ begin_declaration m k (BlockScope f n is fs)
local_comes m (kind.Word w) f n is fs h = rw h refl
local_comes m (kind.Name t) f n is fs h = absurd cc
local_comes m (kind.Number v t) f n is fs h = absurd cc
local_comes m (kind.Str t) f n is fs h = absurd cc
local_comes m (kind.Sign s) f n is fs h = absurd cc

pub block_ends : (m : Mark) (k : TokenKind) (f n : ℕ) (is : BlockTrees) (fs : List PendingStmt) → ends_block k ≡ true
    → block_item m k f n is fs ≡ Some (Done (StmtTree.Block f n is) fs)
block_ends m (kind.Sign sign.CloseBrace) f n is fs h = refl
block_ends m k f n is fs h = absurd cc

pub statement_comes : (m : Mark) (k : TokenKind) (f n : ℕ) (is : BlockTrees) (fs : List PendingStmt) → begins_local k ≡ false → ends_block k ≡ false
    → block_item m k f n is fs ≡ statement m k (InBlock f n is ∷ fs)
statement_comes m (kind.Word w) f n is fs h g = rw h refl
statement_comes m (kind.Sign sign.CloseBrace) f n is fs h g = absurd cc
statement_comes m k f n is fs h g = refl

-- no block is left
pub none_in_block : (m : Mark) (k : TokenKind) (fs : List PendingStmt) → in_block fs ≡ false → begin m k fs ≡ statement m k fs
none_in_block m k [] h = refl
none_in_block m k (InBody d ∷ fs) h = refl
none_in_block m k (InBlock f n is ∷ fs) h = absurd cc
none_in_block m k (InIf f n c ∷ fs) h = refl
none_in_block m k (InElse f n c x ∷ fs) h = refl
none_in_block m k (InWhile f n c ∷ fs) h = refl
none_in_block m k (InDo f n ∷ fs) h = refl
none_in_block m k (InFor f n i c x ∷ fs) h = refl

pub statement_begins : (m : Mark) (k : TokenKind) (fs : List PendingStmt) → begins_local k ≡ false → ends_block k ≡ false → begin m k fs ≡ statement m k fs
statement_begins m k [] h g = refl
statement_begins m k (InBody d ∷ fs) h g = refl
statement_begins m k (InBlock f n is ∷ fs) h g = statement_comes m k f n is fs h g
statement_begins m k (InIf f n c ∷ fs) h g = refl
statement_begins m k (InElse f n c x ∷ fs) h g = refl
statement_begins m k (InWhile f n c ∷ fs) h g = refl
statement_begins m k (InDo f n ∷ fs) h g = refl
statement_begins m k (InFor f n i c x ∷ fs) h g = refl

-- a statement
word-begun : (m : Mark) (w : Keyword) (fs : List PendingStmt) → is_statement_word w ≡ true → statement_word m w fs ≡ word_begun m w fs
word-begun m word.If fs h = refl
word-begun m word.While fs h = refl
word-begun m word.Do fs h = refl
word-begun m word.For fs h = refl
word-begun m word.Break fs h = refl
word-begun m word.Continue fs h = refl
word-begun m word.Return fs h = refl
word-begun m w fs h = absurd cc

other-word : (m : Mark) (w : Keyword) (fs : List PendingStmt) → is_statement_word w ≡ false
    → statement_word m w fs ≡ optional m (kind.Word w) (Statement m.first m.line fs)
other-word m word.If fs h = absurd cc
other-word m word.While fs h = absurd cc
other-word m word.Do fs h = absurd cc
other-word m word.For fs h = absurd cc
other-word m word.Break fs h = absurd cc
other-word m word.Continue fs h = absurd cc
other-word m word.Return fs h = absurd cc
other-word m w fs h = refl

pub statement_begun : (m : Mark) (k : TokenKind) (fs : List PendingStmt) → begins_statement k ≡ true → statement m k fs ≡ begun m k fs
statement_begun m (kind.Word w) fs h = word-begun m w fs h
statement_begun m (kind.Sign sign.OpenBrace) fs h = refl
statement_begun m k fs h = absurd cc

pub expression_stands : (m : Mark) (k : TokenKind) (fs : List PendingStmt) → begins_statement k ≡ false → statement m k fs ≡ optional m k (Statement m.first m.line fs)
expression_stands m (kind.Word w) fs h = other-word m w fs h
expression_stands m (kind.Sign sign.OpenBrace) fs h = absurd cc
expression_stands m k fs h = refl

-- behind `for` and its opening parenthesis
pub type_comes : (m : Mark) (k : TokenKind) (f n : ℕ) (fs : List PendingStmt) → begins_type k ≡ true
    → for_start m k f n fs ≡ specify m k (ForDeclaration (heading (ForScope f n fs) m false)) (expr.Specifier [])
type_comes m (kind.Word w) f n fs h = rw h refl
type_comes m (kind.Name t) f n fs h = absurd cc
type_comes m (kind.Number v t) f n fs h = absurd cc
type_comes m (kind.Str t) f n fs h = absurd cc
type_comes m (kind.Sign s) f n fs h = absurd cc

pub expression_comes : (m : Mark) (k : TokenKind) (f n : ℕ) (fs : List PendingStmt) → begins_type k ≡ false → for_start m k f n fs ≡ optional m k (ForStart f n fs)
expression_comes m (kind.Word w) f n fs h = rw h refl
expression_comes m k f n fs h = refl
