-- The token kinds of statements and external declarations, in order (C99 6.7 to 6.9).
use Rattle.std.specs.Prelude.{ℕ, Bool, false, true, List, [], ◌∷◌, ◌++◌, Option, Some, None}
use Rattle.std.specs.List.{flat_map}
use Rattle.ob_tree.specs.declared.tokens.TokenKind.{TokenKind}
use Rattle.ob_tree.specs.declared.tokens.TokenKind.TheVariants as kind
use Rattle.ob_tree.specs.declared.tokens.Keyword.TheVariants as word
use Rattle.ob_tree.specs.declared.tokens.Sign.TheVariants as sign
use Rattle.ob_tree.specs.Trees.{ExprTree}
use Rattle.ob_tree.specs.Programs.{LocalTree, StartTree, StmtTree, BlockTrees, ParamTree, ParamsTree, FileTree, ItemTree, ProgramTree}
use Rattle.ob_tree.specs.Spelling.{spell, spell_spec, spell_objs, spell_obj, spell_dims, spell_name, stars, listed}

-- an expression that may be left out
abbrev pub spell_option : Option ExprTree → List TokenKind
spell_option None = []
spell_option (Some e) = spell e

abbrev pub spell_static : Bool → List TokenKind
spell_static false = []
spell_static true = kind.Word word.Static ∷ []

abbrev pub spell_local : LocalTree → List TokenKind
spell_local l = spell_static l.fixed ++ (spell_spec l.spec ++ (spell_objs l.names ++ kind.Sign sign.Semi ∷ []))

-- the first part of a `for`, with its semicolon
abbrev pub spell_start : StartTree → List TokenKind
spell_start (StartTree.Expr e) = spell_option e ++ kind.Sign sign.Semi ∷ []
spell_start (StartTree.Local l) = spell_local l

abbrev mutual
  pub spell_stmt : StmtTree → List TokenKind
  spell_stmt (StmtTree.Block f n items) = kind.Sign sign.OpenBrace ∷ (spell_block items ++ kind.Sign sign.CloseBrace ∷ [])
  spell_stmt (StmtTree.Expr f n e) = spell_option e ++ kind.Sign sign.Semi ∷ []
  spell_stmt (StmtTree.If f n c s) =
      kind.Word word.If ∷ (kind.Sign sign.OpenParen ∷ (spell c ++ kind.Sign sign.CloseParen ∷ spell_stmt s))
  spell_stmt (StmtTree.IfElse f n c s t) =
      kind.Word word.If ∷ (kind.Sign sign.OpenParen ∷ (spell c ++ kind.Sign sign.CloseParen ∷ (spell_stmt s ++ kind.Word word.Else ∷ spell_stmt t)))
  spell_stmt (StmtTree.While f n c s) =
      kind.Word word.While ∷ (kind.Sign sign.OpenParen ∷ (spell c ++ kind.Sign sign.CloseParen ∷ spell_stmt s))
  spell_stmt (StmtTree.Do f n s c) =
      kind.Word word.Do ∷ (spell_stmt s ++ kind.Word word.While ∷ (kind.Sign sign.OpenParen ∷ (spell c ++ kind.Sign sign.CloseParen ∷ (kind.Sign sign.Semi ∷ []))))
  spell_stmt (StmtTree.For f n start test next s) =
      kind.Word word.For ∷ (kind.Sign sign.OpenParen ∷ (spell_start start ++ (spell_option test ++ kind.Sign sign.Semi ∷ (spell_option next ++ kind.Sign sign.CloseParen ∷ spell_stmt s))))
  spell_stmt (StmtTree.Break f n) = kind.Word word.Break ∷ (kind.Sign sign.Semi ∷ [])
  spell_stmt (StmtTree.Continue f n) = kind.Word word.Continue ∷ (kind.Sign sign.Semi ∷ [])
  spell_stmt (StmtTree.Return f n e) = kind.Word word.Return ∷ (spell_option e ++ kind.Sign sign.Semi ∷ [])

  pub spell_block : BlockTrees → List TokenKind
  spell_block BlockTrees.NoItems = []
  spell_block (BlockTrees.Declaration l items) = spell_local l ++ spell_block items
  spell_block (BlockTrees.Statement s items) = spell_stmt s ++ spell_block items

abbrev pub spell_param : ParamTree → List TokenKind
spell_param p = spell_spec p.spec ++ (stars p.stars ++ (spell_name p.name ++ spell_dims p.dims))

abbrev pub spell_params : ParamsTree → List TokenKind
spell_params ParamsTree.Empty = []
spell_params ParamsTree.Void = kind.Word word.Void ∷ []
spell_params (ParamsTree.Listed ps) = listed spell_param ps

-- a function declarator
abbrev pub spell_function : ℕ → List ℕ → ParamsTree → List TokenKind
spell_function n name ps =
    stars n ++ kind.Name name ∷ (kind.Sign sign.OpenParen ∷ (spell_params ps ++ kind.Sign sign.CloseParen ∷ []))

abbrev pub spell_file : FileTree → List TokenKind
spell_file (FileTree.Function n name a ps) = spell_function n name ps
spell_file (FileTree.Object o) = spell_obj o

abbrev pub spell_item : ItemTree → List TokenKind
spell_item (ItemTree.Function f n fixed s stars name a ps body) =
    spell_static fixed ++ (spell_spec s ++ (spell_function stars name ps ++ spell_stmt body))
spell_item (ItemTree.Decls f n fixed s ds) =
    spell_static fixed ++ (spell_spec s ++ (listed spell_file ds ++ kind.Sign sign.Semi ∷ []))

abbrev pub spell_program : ProgramTree → List TokenKind
spell_program items = flat_map spell_item items
