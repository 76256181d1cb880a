-- The grammar of expressions and of what stands in them (C99 6.5, 6.7): each operand is of the nonterminal that
-- the grammar has there, each name, number and string is one that a token can have.
use Rattle.std.specs.Prelude.{ℕ, ◌≤◌, List, [], ◌∷◌, length, Option, Some, None, IsTrue}
use Rattle.std.specs.List.{AllByRecursion}
use Rattle.ob_tree.specs.declared.tokens.TokenKind.{TokenKind}
use Rattle.ob_tree.specs.declared.tokens.TokenKind.TheVariants as kind
use Rattle.ob_tree.specs.Words.{IsName}
use Rattle.ob_tree.specs.Pieces.{IsToken}
use Rattle.ob_tree.specs.Trees.{ExprTree, ExprTrees, TypeTree, SpecTree, MemberTrees, ObjTree, ObjTrees, DimTrees, InitTree, InitTrees}
use Rattle.ob_tree.specs.Integers.{is_integer}
use Rattle.ob_tree.specs.Levels.{assign_level, cond_level, or_level, cast_level, unary_level, postfix_level, is_unary, IsInfix, left_level, right_level, step_level, level_of}

-- the greatest length of a source, in bytes
abbrev pub greatest_source : ℕ
greatest_source = 1048576

-- Some text is a token of this kind.
pub record IsSpelled (token : TokenKind) : Type 0 where
  pub text : List ℕ
  pub after : List ℕ
  pub spelled : IsToken text after token

-- Some text that a source can have is a token of this kind.
pub record IsOfSource (token : TokenKind) : Type 0 where
  pub text : List ℕ
  pub after : List ℕ
  pub spelled : IsToken text after token
  pub short : length text ≤ greatest_source

abbrev pub ValidName : List ℕ → Type 0
ValidName name = IsName name × (length name ≤ greatest_source)

-- a name that may be left out
abbrev pub ValidTag : Option (List ℕ) → Type 0
ValidTag None = Unit {0}
ValidTag (Some tag) = ValidName tag

-- neighbouring string literals, at least one
abbrev pub ValidStrings : List (List ℕ) → Type 0
ValidStrings [] = ⊥
ValidStrings (s ∷ ss) = IsSpelled (kind.Str s) × AllByRecursion (λ x. IsSpelled (kind.Str x)) ss

-- there is a member, a declarator, an item
abbrev pub HasMember : MemberTrees → Type 0
HasMember MemberTrees.NoMembers = ⊥
HasMember (MemberTrees.MemberLine s names ms) = Unit {0}

abbrev pub HasDeclarator : ObjTrees → Type 0
HasDeclarator ObjTrees.NoDeclarators = ⊥
HasDeclarator (ObjTrees.Declarator o os) = Unit {0}

abbrev pub HasItem : InitTrees → Type 0
HasItem InitTrees.NoItems = ⊥
HasItem (InitTrees.Item i is) = Unit {0}

abbrev mutual
  pub Valid : ExprTree → Type 0
  Valid (ExprTree.Name m name) = ValidName name
  Valid (ExprTree.Number m value ty) = IsSpelled (kind.Number value ty)
  Valid (ExprTree.Null m) = Unit {0}
  Valid (ExprTree.Eof m) = Unit {0}
  Valid (ExprTree.Str m strings) = ValidStrings strings
  Valid (ExprTree.Paren m e) = Valid e
  Valid (ExprTree.Index m b i) = Valid b × (postfix_level ≤ level_of b) × Valid i
  Valid (ExprTree.Call m name es) = ValidName name × ValidArguments es
  Valid (ExprTree.Member m b name) = Valid b × (postfix_level ≤ level_of b) × ValidName name
  Valid (ExprTree.Arrow m b name) = Valid b × (postfix_level ≤ level_of b) × ValidName name
  Valid (ExprTree.Step m post down e) = Valid e × (step_level post ≤ level_of e)
  Valid (ExprTree.Unary m s e) = IsTrue (is_unary s) × Valid e × (cast_level ≤ level_of e)
  Valid (ExprTree.SizeExpr m e) = Valid e × (unary_level ≤ level_of e)
  Valid (ExprTree.SizeType m t) = ValidType t
  Valid (ExprTree.Cast m t e) = ValidType t × Valid e × (cast_level ≤ level_of e)
  Valid (ExprTree.Cond m c x y) = Valid c × (or_level ≤ level_of c) × Valid x × Valid y × (cond_level ≤ level_of y)
  Valid (ExprTree.Join m op l r) =
      IsInfix op × Valid l × (left_level op ≤ level_of l) × Valid r × (right_level op ≤ level_of r)

  -- an argument is an assignment expression
  pub ValidArguments : ExprTrees → Type 0
  ValidArguments ExprTrees.NoArguments = Unit {0}
  ValidArguments (ExprTrees.Argument e es) = Valid e × (assign_level ≤ level_of e) × ValidArguments es

  pub ValidType : TypeTree → Type 0
  ValidType (TypeTree.TypeName s n ds) = ValidSpec s × ValidDims ds

  pub ValidSpec : SpecTree → Type 0
  ValidSpec (SpecTree.Void f) = Unit {0}
  ValidSpec (SpecTree.SizeT f) = Unit {0}
  ValidSpec (SpecTree.Integer f words) = IsTrue (is_integer words)
  ValidSpec (SpecTree.Tag f tag) = ValidName tag
  ValidSpec (SpecTree.Struct f tag ms) = ValidTag tag × HasMember ms × ValidMembers ms

  pub ValidMembers : MemberTrees → Type 0
  ValidMembers MemberTrees.NoMembers = Unit {0}
  ValidMembers (MemberTrees.MemberLine s names ms) =
      ValidSpec s × HasDeclarator names × ValidMemberNames names × ValidMembers ms

  pub ValidMemberNames : ObjTrees → Type 0
  ValidMemberNames ObjTrees.NoDeclarators = Unit {0}
  ValidMemberNames (ObjTrees.Declarator o os) = ValidMemberName o × ValidMemberNames os

  -- a member has no initialiser
  pub ValidMemberName : ObjTree → Type 0
  ValidMemberName (ObjTree.Bare n name a ds) = ValidName name × ValidDims ds
  ValidMemberName (ObjTree.Initial n name a ds i) = ⊥

  -- brackets that all have a length, which is a conditional expression
  pub ValidDims : DimTrees → Type 0
  ValidDims DimTrees.NoDims = Unit {0}
  ValidDims (DimTrees.Unsized ds) = ⊥
  ValidDims (DimTrees.Sized e ds) = Valid e × (cond_level ≤ level_of e) × ValidDims ds

-- brackets of which the first may lack its length
abbrev pub ValidOpenDims : DimTrees → Type 0
ValidOpenDims (DimTrees.Unsized ds) = ValidDims ds
ValidOpenDims ds = ValidDims ds

-- an initialiser is an assignment expression, or a list that isn't empty
abbrev mutual
  pub ValidInit : InitTree → Type 0
  ValidInit (InitTree.Value e) = Valid e × (assign_level ≤ level_of e)
  ValidInit (InitTree.Braces f is comma) = HasItem is × ValidInits is

  pub ValidInits : InitTrees → Type 0
  ValidInits InitTrees.NoItems = Unit {0}
  ValidInits (InitTrees.Item i is) = ValidInit i × ValidInits is

-- the declarator of an object: before an initialiser the first length may be missing
abbrev pub ValidObj : ObjTree → Type 0
ValidObj (ObjTree.Bare n name a ds) = ValidName name × ValidDims ds
ValidObj (ObjTree.Initial n name a ds i) = ValidName name × ValidOpenDims ds × ValidInit i

abbrev pub ValidObjs : ObjTrees → Type 0
ValidObjs ObjTrees.NoDeclarators = Unit {0}
ValidObjs (ObjTrees.Declarator o os) = ValidObj o × ValidObjs os

-- an expression of the nonterminal with this number
abbrev pub IsOf : (level : ℕ) → ExprTree → Type 0
IsOf level e = Valid e × (level ≤ level_of e)
