-- The grammar of statements and external declarations (C99 6.7 to 6.9), with the conditions that its rules
-- don't show.
use Rattle.std.specs.Prelude.{ℕ, zero, ◌≡◌, Bool, false, true, List, [], ◌∷◌, Option, Some, None}
use Rattle.std.specs.List.{AllByRecursion}
use Rattle.ob_tree.specs.Trees.{ExprTree, SpecTree, ObjTrees, DimTrees}
use Rattle.ob_tree.specs.Programs.{LocalTree, StartTree, StmtTree, BlockTrees, ParamTree, ParamsTree, FileTree, ItemTree, ProgramTree}
use Rattle.ob_tree.specs.Valid.{ValidName, ValidTag, Valid, ValidSpec, ValidOpenDims, ValidObj, ValidObjs}

-- an expression that may be left out
abbrev pub ValidOption : Option ExprTree → Type 0
ValidOption None = Unit {0}
ValidOption (Some e) = Valid e

-- a name that is there
abbrev pub HasTag : Option (List ℕ) → Type 0
HasTag None = ⊥
HasTag (Some tag) = Unit {0}

-- the specifier names a structure with a tag, so that it declares something alone (C99 6.7, paragraph 2)
abbrev pub DeclaresTag : SpecTree → Type 0
DeclaresTag (SpecTree.Void f) = ⊥
DeclaresTag (SpecTree.SizeT f) = ⊥
DeclaresTag (SpecTree.Integer f words) = ⊥
DeclaresTag (SpecTree.Tag f tag) = Unit {0}
DeclaresTag (SpecTree.Struct f tag ms) = HasTag tag

-- the declarators behind a specifier, which may lack where it declares a tag
abbrev pub ValidNames : SpecTree → ObjTrees → Type 0
ValidNames s ObjTrees.NoDeclarators = DeclaresTag s
ValidNames s (ObjTrees.Declarator o os) = ValidObj o × ValidObjs os

-- a declaration in a block
abbrev pub ValidLocal : LocalTree → Type 0
ValidLocal l = ValidSpec l.spec × ValidNames l.spec l.names

-- the declaration of a `for` isn't `static` (C99 6.8.5, paragraph 3)
abbrev pub ValidStart : StartTree → Type 0
ValidStart (StartTree.Expr e) = ValidOption e
ValidStart (StartTree.Local l) = (l.fixed ≡ false) × ValidLocal l

-- The statement ends in an `if` without `else`: an `else` behind it would be that one's (C99 6.8.4.1, paragraph 3).
abbrev pub ends_in_if : StmtTree → Bool
ends_in_if (StmtTree.Block f n items) = false
ends_in_if (StmtTree.Expr f n e) = false
ends_in_if (StmtTree.If f n c s) = true
ends_in_if (StmtTree.IfElse f n c s t) = ends_in_if t
ends_in_if (StmtTree.While f n c s) = ends_in_if s
ends_in_if (StmtTree.Do f n s c) = false
ends_in_if (StmtTree.For f n start test next s) = ends_in_if s
ends_in_if (StmtTree.Break f n) = false
ends_in_if (StmtTree.Continue f n) = false
ends_in_if (StmtTree.Return f n e) = false

abbrev mutual
  pub ValidStmt : StmtTree → Type 0
  ValidStmt (StmtTree.Block f n items) = ValidBlock items
  ValidStmt (StmtTree.Expr f n e) = ValidOption e
  ValidStmt (StmtTree.If f n c s) = Valid c × ValidStmt s
  ValidStmt (StmtTree.IfElse f n c s t) = Valid c × ValidStmt s × (ends_in_if s ≡ false) × ValidStmt t
  ValidStmt (StmtTree.While f n c s) = Valid c × ValidStmt s
  ValidStmt (StmtTree.Do f n s c) = ValidStmt s × Valid c
  ValidStmt (StmtTree.For f n start test next s) = ValidStart start × ValidOption test × ValidOption next × ValidStmt s
  ValidStmt (StmtTree.Break f n) = Unit {0}
  ValidStmt (StmtTree.Continue f n) = Unit {0}
  ValidStmt (StmtTree.Return f n e) = ValidOption e

  pub ValidBlock : BlockTrees → Type 0
  ValidBlock BlockTrees.NoItems = Unit {0}
  ValidBlock (BlockTrees.Declaration l items) = ValidLocal l × ValidBlock items
  ValidBlock (BlockTrees.Statement s items) = ValidStmt s × ValidBlock items

-- a parameter; the first of its lengths may be missing
abbrev pub ValidParam : ParamTree → Type 0
ValidParam p = ValidSpec p.spec × ValidTag p.name × ValidOpenDims p.dims

-- the word `void` and nothing else
abbrev pub is_void_alone : SpecTree → (stars : ℕ) → Option (List ℕ) → DimTrees → Bool
is_void_alone (SpecTree.Void f) zero None DimTrees.NoDims = true
is_void_alone s n name ds = false

-- At least one parameter. `void` alone between the parentheses is the empty list and no parameter (C99 6.7.5.3,
-- paragraph 10).
abbrev pub ValidList : List ParamTree → Type 0
ValidList [] = ⊥
ValidList (p ∷ []) = (is_void_alone p.spec p.stars p.name p.dims ≡ false) × ValidParam p
ValidList (p ∷ (q ∷ ps)) = ValidParam p × ValidParam q × AllByRecursion ValidParam ps

abbrev pub ValidParams : ParamsTree → Type 0
ValidParams ParamsTree.Empty = Unit {0}
ValidParams ParamsTree.Void = Unit {0}
ValidParams (ParamsTree.Listed ps) = ValidList ps

-- each parameter has a name, as those of a function with a body do (C99 6.9.1, paragraph 5)
abbrev pub AreNamed : ParamsTree → Type 0
AreNamed ParamsTree.Empty = Unit {0}
AreNamed ParamsTree.Void = Unit {0}
AreNamed (ParamsTree.Listed ps) = AllByRecursion (λ p. HasTag p.name) ps

-- a declarator at file scope
abbrev pub ValidFile : FileTree → Type 0
ValidFile (FileTree.Function n name a ps) = ValidName name × ValidParams ps
ValidFile (FileTree.Object o) = ValidObj o

-- the declarators behind a specifier, which may lack where it declares a tag
abbrev pub ValidFiles : SpecTree → List FileTree → Type 0
ValidFiles s [] = DeclaresTag s
ValidFiles s (d ∷ ds) = ValidFile d × AllByRecursion ValidFile ds

-- the body of a function is a block
abbrev pub IsBlock : StmtTree → Type 0
IsBlock (StmtTree.Block f n items) = Unit {0}
IsBlock s = ⊥

abbrev pub ValidItem : ItemTree → Type 0
ValidItem (ItemTree.Function f n fixed s stars name a ps body) =
    ValidSpec s × ValidName name × ValidParams ps × AreNamed ps × IsBlock body × ValidStmt body
ValidItem (ItemTree.Decls f n fixed s ds) = ValidSpec s × ValidFiles s ds

-- a translation unit has at least one external declaration
abbrev pub ValidProgram : ProgramTree → Type 0
ValidProgram [] = ⊥
ValidProgram (i ∷ is) = ValidItem i × AllByRecursion ValidItem is
