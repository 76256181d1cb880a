-- Where the nodes of a tree stand: the same tree with the places that it has where its first token stands at
-- place p. `lines` gives the line of the token at each place.
use Rattle.std.specs.Prelude.{◌≡◌, ℕ, ◌+◌, Bool, List, length, Option}
use Rattle.ob_tree.specs.Trees.{Mark, ExprTree, ExprTrees, TypeTree, SpecTree, MemberTrees, ObjTree, ObjTrees, DimTrees, InitTree, InitTrees}
use Rattle.ob_tree.specs.Spelling.{spell, spell_name, spell_type, spell_spec, spell_objs, spell_obj, spell_dims, spell_init}

-- how many tokens a tree has
abbrev pub width : ExprTree → ℕ
width e = length (spell e)

abbrev pub width_name : Option (List ℕ) → ℕ
width_name name = length (spell_name name)

abbrev pub width_type : TypeTree → ℕ
width_type t = length (spell_type t)

abbrev pub width_spec : SpecTree → ℕ
width_spec s = length (spell_spec s)

abbrev pub width_objs : ObjTrees → ℕ
width_objs os = length (spell_objs os)

abbrev pub width_obj : ObjTree → ℕ
width_obj o = length (spell_obj o)

abbrev pub width_dims : DimTrees → ℕ
width_dims ds = length (spell_dims ds)

abbrev pub width_init : InitTree → ℕ
width_init i = length (spell_init i)

-- a node whose sign is its first token
abbrev pub here : (lines : ℕ → ℕ) (p : ℕ) → Mark
here lines p = record { first = p; at = p; line = lines p }

-- a node whose sign stands at q
abbrev pub signed : (lines : ℕ → ℕ) (p q : ℕ) → Mark
signed lines p q = record { first = p; at = q; line = lines p }

-- the sign of a step stands behind its operand or before it
abbrev pub step_mark : (lines : ℕ → ℕ) (p : ℕ) (post : Bool) (operand : ℕ) → Mark
step_mark lines p Bool.false operand = here lines p
step_mark lines p Bool.true operand = signed lines p (p + operand)

-- the place of a step's operand
abbrev pub step_place : (p : ℕ) (post : Bool) → ℕ
step_place p Bool.false = p + 1
step_place p Bool.true = p

abbrev mutual
  pub place : (lines : ℕ → ℕ) (p : ℕ) → ExprTree → ExprTree
  place lines p (ExprTree.Name m name) = ExprTree.Name (here lines p) name
  place lines p (ExprTree.Number m value ty) = ExprTree.Number (here lines p) value ty
  place lines p (ExprTree.Null m) = ExprTree.Null (here lines p)
  place lines p (ExprTree.Eof m) = ExprTree.Eof (here lines p)
  place lines p (ExprTree.Str m strings) = ExprTree.Str (here lines p) strings
  place lines p (ExprTree.Paren m e) = ExprTree.Paren (here lines p) (place lines (p + 1) e)
  place lines p (ExprTree.Index m b i) =
      ExprTree.Index (signed lines p (p + width b)) (place lines p b) (place lines (p + width b + 1) i)
  place lines p (ExprTree.Call m name es) = ExprTree.Call (here lines p) name (place_arguments lines (p + 2) es)
  place lines p (ExprTree.Member m b name) = ExprTree.Member (signed lines p (p + width b)) (place lines p b) name
  place lines p (ExprTree.Arrow m b name) = ExprTree.Arrow (signed lines p (p + width b)) (place lines p b) name
  place lines p (ExprTree.Step m post down e) =
      ExprTree.Step (step_mark lines p post (width e)) post down (place lines (step_place p post) e)
  place lines p (ExprTree.Unary m s e) = ExprTree.Unary (here lines p) s (place lines (p + 1) e)
  place lines p (ExprTree.SizeExpr m e) = ExprTree.SizeExpr (here lines p) (place lines (p + 1) e)
  place lines p (ExprTree.SizeType m t) = ExprTree.SizeType (here lines p) (place_type lines (p + 2) t)
  place lines p (ExprTree.Cast m t e) =
      ExprTree.Cast (here lines p) (place_type lines (p + 1) t) (place lines (p + width_type t + 2) e)
  place lines p (ExprTree.Cond m c x y) =
      ExprTree.Cond (signed lines p (p + width c)) (place lines p c) (place lines (p + width c + 1) x) (place lines (p + width c + width x + 2) y)
  place lines p (ExprTree.Join m op l r) =
      ExprTree.Join (signed lines p (p + width l)) op (place lines p l) (place lines (p + width l + 1) r)

  -- behind each argument but the last stands a comma
  pub place_arguments : (lines : ℕ → ℕ) (p : ℕ) → ExprTrees → ExprTrees
  place_arguments lines p ExprTrees.NoArguments = ExprTrees.NoArguments
  place_arguments lines p (ExprTrees.Argument e es) =
      ExprTrees.Argument (place lines p e) (place_arguments lines (p + width e + 1) es)

  pub place_type : (lines : ℕ → ℕ) (p : ℕ) → TypeTree → TypeTree
  place_type lines p (TypeTree.TypeName s n ds) =
      TypeTree.TypeName (place_spec lines p s) n (place_dims lines (p + width_spec s + n) ds)

  pub place_spec : (lines : ℕ → ℕ) (p : ℕ) → SpecTree → SpecTree
  place_spec lines p (SpecTree.Void f) = SpecTree.Void p
  place_spec lines p (SpecTree.SizeT f) = SpecTree.SizeT p
  place_spec lines p (SpecTree.Integer f words) = SpecTree.Integer p words
  place_spec lines p (SpecTree.Tag f tag) = SpecTree.Tag p tag
  place_spec lines p (SpecTree.Struct f tag ms) = SpecTree.Struct p tag (place_members lines (p + width_name tag + 2) ms)

  -- behind the names of each line stands a semicolon
  pub place_members : (lines : ℕ → ℕ) (p : ℕ) → MemberTrees → MemberTrees
  place_members lines p MemberTrees.NoMembers = MemberTrees.NoMembers
  place_members lines p (MemberTrees.MemberLine s names ms) =
      MemberTrees.MemberLine (place_spec lines p s) (place_objs lines (p + width_spec s) names) (place_members lines (p + width_spec s + width_objs names + 1) ms)

  -- behind each declarator but the last stands a comma
  pub place_objs : (lines : ℕ → ℕ) (p : ℕ) → ObjTrees → ObjTrees
  place_objs lines p ObjTrees.NoDeclarators = ObjTrees.NoDeclarators
  place_objs lines p (ObjTrees.Declarator o os) =
      ObjTrees.Declarator (place_obj lines p o) (place_objs lines (p + width_obj o + 1) os)

  pub place_obj : (lines : ℕ → ℕ) (p : ℕ) → ObjTree → ObjTree
  place_obj lines p (ObjTree.Bare n name a ds) = ObjTree.Bare n name (p + n) (place_dims lines (p + n + 1) ds)
  place_obj lines p (ObjTree.Initial n name a ds i) =
      ObjTree.Initial n name (p + n) (place_dims lines (p + n + 1) ds) (place_init lines (p + n + width_dims ds + 2) i)

  pub place_dims : (lines : ℕ → ℕ) (p : ℕ) → DimTrees → DimTrees
  place_dims lines p DimTrees.NoDims = DimTrees.NoDims
  place_dims lines p (DimTrees.Unsized ds) = DimTrees.Unsized (place_dims lines (p + 2) ds)
  place_dims lines p (DimTrees.Sized e ds) = DimTrees.Sized (place lines (p + 1) e) (place_dims lines (p + width e + 2) ds)

  pub place_init : (lines : ℕ → ℕ) (p : ℕ) → InitTree → InitTree
  place_init lines p (InitTree.Value e) = InitTree.Value (place lines p e)
  place_init lines p (InitTree.Braces f is comma) = InitTree.Braces p (place_inits lines (p + 1) is) comma

  -- behind each initialiser but the last stands a comma
  pub place_inits : (lines : ℕ → ℕ) (p : ℕ) → InitTrees → InitTrees
  place_inits lines p InitTrees.NoItems = InitTrees.NoItems
  place_inits lines p (InitTrees.Item i is) = InitTrees.Item (place_init lines p i) (place_inits lines (p + width_init i + 1) is)

-- The tree stands where its own tokens stand, from place p on.
abbrev pub PlacedExpr : (lines : ℕ → ℕ) (p : ℕ) → ExprTree → Type 0
PlacedExpr lines p e = place lines p e ≡ e

abbrev pub PlacedSpec : (lines : ℕ → ℕ) (p : ℕ) → SpecTree → Type 0
PlacedSpec lines p s = place_spec lines p s ≡ s
