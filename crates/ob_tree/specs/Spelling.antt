-- The token kinds of an expression and of what stands in it, in order (C99 6.5, 6.7).
use Rattle.std.specs.Prelude.{ℕ, zero, suc, Bool, false, true, List, [], ◌∷◌, ◌++◌, map, Option, Some, None}
use Rattle.ob_tree.specs.declared.tokens.TokenKind.{TokenKind}
use Rattle.ob_tree.specs.declared.tokens.TokenKind.TheVariants as kind
use Rattle.ob_tree.specs.declared.tokens.Keyword.TheVariants as word
use Rattle.ob_tree.specs.declared.tokens.Sign.{Sign}
use Rattle.ob_tree.specs.declared.tokens.Sign.TheVariants as sign
use Rattle.ob_tree.specs.Trees.{Infix, ExprTree, ExprTrees, TypeTree, SpecTree, MemberTrees, ObjTree, ObjTrees, DimTrees, InitTree, InitTrees}

abbrev pub stars : ℕ → List TokenKind
stars zero = []
stars (suc n) = kind.Sign sign.Star ∷ stars n

-- the sign of a step: of `--` where it goes down
abbrev pub step_sign : (down : Bool) → Sign
step_sign false = sign.PlusPlus
step_sign true = sign.MinusMinus

abbrev pub infix_sign : Infix → Sign
infix_sign Infix.Comma = sign.Comma
infix_sign (Infix.Assign s) = s
infix_sign (Infix.Binary s) = s

-- a step and its operand, by where the step stands
abbrev pub spell_step : (post : Bool) → (step operand : List TokenKind) → List TokenKind
spell_step false step operand = step ++ operand
spell_step true step operand = operand ++ step

-- a name that may be left out
abbrev pub spell_name : Option (List ℕ) → List TokenKind
spell_name None = []
spell_name (Some name) = kind.Name name ∷ []

-- the comma that may stand before a closing brace
abbrev pub spell_comma : Bool → List TokenKind
spell_comma false = []
spell_comma true = kind.Sign sign.Comma ∷ []

-- what a list spells, each item with a comma before it
abbrev pub more_listed : {A : Type 0} → (A → List TokenKind) → List A → List TokenKind
more_listed f [] = []
more_listed f (x ∷ xs) = kind.Sign sign.Comma ∷ (f x ++ more_listed f xs)

-- what a list spells, with commas between its items
abbrev pub listed : {A : Type 0} → (A → List TokenKind) → List A → List TokenKind
listed f [] = []
listed f (x ∷ xs) = f x ++ more_listed f xs

-- the comma before the item of this number, counted from 0: before each but the first
abbrev pub comma_before : ℕ → List TokenKind
comma_before zero = []
comma_before (suc n) = kind.Sign sign.Comma ∷ []

abbrev mutual
  pub spell : ExprTree → List TokenKind
  spell (ExprTree.Name m name) = kind.Name name ∷ []
  spell (ExprTree.Number m value ty) = kind.Number value ty ∷ []
  spell (ExprTree.Null m) = kind.Word word.Null ∷ []
  spell (ExprTree.Eof m) = kind.Word word.Eof ∷ []
  spell (ExprTree.Str m strings) = map kind.Str strings
  spell (ExprTree.Paren m e) = kind.Sign sign.OpenParen ∷ (spell e ++ kind.Sign sign.CloseParen ∷ [])
  spell (ExprTree.Index m b i) =
      spell b ++ kind.Sign sign.OpenBracket ∷ (spell i ++ kind.Sign sign.CloseBracket ∷ [])
  spell (ExprTree.Call m name es) =
      kind.Name name ∷ (kind.Sign sign.OpenParen ∷ (spell_arguments es ++ kind.Sign sign.CloseParen ∷ []))
  spell (ExprTree.Member m b name) = spell b ++ kind.Sign sign.Dot ∷ (kind.Name name ∷ [])
  spell (ExprTree.Arrow m b name) = spell b ++ kind.Sign sign.Arrow ∷ (kind.Name name ∷ [])
  spell (ExprTree.Step m post down e) = spell_step post (kind.Sign (step_sign down) ∷ []) (spell e)
  spell (ExprTree.Unary m s e) = kind.Sign s ∷ spell e
  spell (ExprTree.SizeExpr m e) = kind.Word word.Sizeof ∷ spell e
  spell (ExprTree.SizeType m t) =
      kind.Word word.Sizeof ∷ (kind.Sign sign.OpenParen ∷ (spell_type t ++ kind.Sign sign.CloseParen ∷ []))
  spell (ExprTree.Cast m t e) = kind.Sign sign.OpenParen ∷ (spell_type t ++ kind.Sign sign.CloseParen ∷ spell e)
  spell (ExprTree.Cond m c x y) =
      spell c ++ kind.Sign sign.Question ∷ (spell x ++ kind.Sign sign.Colon ∷ spell y)
  spell (ExprTree.Join m op l r) = spell l ++ kind.Sign (infix_sign op) ∷ spell r

  -- expressions with commas between them
  pub spell_arguments : ExprTrees → List TokenKind
  spell_arguments ExprTrees.NoArguments = []
  spell_arguments (ExprTrees.Argument e es) = spell e ++ spell_more_arguments es

  -- expressions with a comma before each
  pub spell_more_arguments : ExprTrees → List TokenKind
  spell_more_arguments ExprTrees.NoArguments = []
  spell_more_arguments (ExprTrees.Argument e es) = kind.Sign sign.Comma ∷ (spell e ++ spell_more_arguments es)

  pub spell_type : TypeTree → List TokenKind
  spell_type (TypeTree.TypeName s n ds) = spell_spec s ++ (stars n ++ spell_dims ds)

  pub spell_spec : SpecTree → List TokenKind
  spell_spec (SpecTree.Void f) = kind.Word word.Void ∷ []
  spell_spec (SpecTree.SizeT f) = kind.Word word.SizeT ∷ []
  spell_spec (SpecTree.Integer f words) = map kind.Word words
  spell_spec (SpecTree.Tag f tag) = kind.Word word.Struct ∷ (kind.Name tag ∷ [])
  spell_spec (SpecTree.Struct f tag ms) =
      kind.Word word.Struct ∷ (spell_name tag ++ kind.Sign sign.OpenBrace ∷ (spell_members ms ++ kind.Sign sign.CloseBrace ∷ []))

  pub spell_members : MemberTrees → List TokenKind
  spell_members MemberTrees.NoMembers = []
  spell_members (MemberTrees.MemberLine s names ms) = spell_spec s ++ (spell_objs names ++ kind.Sign sign.Semi ∷ spell_members ms)

  -- declarators with commas between them
  pub spell_objs : ObjTrees → List TokenKind
  spell_objs ObjTrees.NoDeclarators = []
  spell_objs (ObjTrees.Declarator o os) = spell_obj o ++ spell_more_objs os

  -- declarators with a comma before each
  pub spell_more_objs : ObjTrees → List TokenKind
  spell_more_objs ObjTrees.NoDeclarators = []
  spell_more_objs (ObjTrees.Declarator o os) = kind.Sign sign.Comma ∷ (spell_obj o ++ spell_more_objs os)

  pub spell_obj : ObjTree → List TokenKind
  spell_obj (ObjTree.Bare n name a ds) = stars n ++ kind.Name name ∷ spell_dims ds
  spell_obj (ObjTree.Initial n name a ds i) =
      stars n ++ kind.Name name ∷ (spell_dims ds ++ kind.Sign sign.Assign ∷ spell_init i)

  pub spell_dims : DimTrees → List TokenKind
  spell_dims DimTrees.NoDims = []
  spell_dims (DimTrees.Unsized ds) = kind.Sign sign.OpenBracket ∷ (kind.Sign sign.CloseBracket ∷ spell_dims ds)
  spell_dims (DimTrees.Sized e ds) = kind.Sign sign.OpenBracket ∷ (spell e ++ kind.Sign sign.CloseBracket ∷ spell_dims ds)

  pub spell_init : InitTree → List TokenKind
  spell_init (InitTree.Value e) = spell e
  spell_init (InitTree.Braces f is comma) =
      kind.Sign sign.OpenBrace ∷ (spell_inits is ++ (spell_comma comma ++ kind.Sign sign.CloseBrace ∷ []))

  -- initialisers with commas between them
  pub spell_inits : InitTrees → List TokenKind
  spell_inits InitTrees.NoItems = []
  spell_inits (InitTrees.Item i is) = spell_init i ++ spell_more_inits is

  -- initialisers with a comma before each
  pub spell_more_inits : InitTrees → List TokenKind
  spell_more_inits InitTrees.NoItems = []
  spell_more_inits (InitTrees.Item i is) = kind.Sign sign.Comma ∷ (spell_init i ++ spell_more_inits is)
