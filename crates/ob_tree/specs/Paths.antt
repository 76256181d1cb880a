-- The nodes on the paths of a tree. Nodes are expressions, initialiser lists, structure specifiers, and the
-- stars and square brackets of a declarator or a type name, which stand one below another in the order of the
-- text. The length of an array stands below its bracket, and nothing else stands below stars and brackets. A
-- node has begun when its first token was read.
use Rattle.std.specs.Prelude.{ℕ, zero, suc, ◌+◌, ◌-◌, max, min}
use Rattle.ob_tree.specs.Trees.{ExprTree, ExprTrees, TypeTree, SpecTree, MemberTrees, ObjTree, ObjTrees, DimTrees, InitTree, InitTrees}
use Rattle.ob_tree.specs.Places.{width, width_name, width_type, width_spec, width_objs, width_obj, width_dims, width_init, step_place}

-- a node with so many nodes below it, when k tokens from its first one on were read
abbrev pub node_with : (k below : ℕ) → ℕ
node_with zero below = 0
node_with (suc k) below = 1 + below

-- The most nodes on a path that have begun when k tokens of the spelling were read.
abbrev mutual
  pub begun : ExprTree → (k : ℕ) → ℕ
  begun (ExprTree.Name m name) k = node_with k 0
  begun (ExprTree.Number m value ty) k = node_with k 0
  begun (ExprTree.Null m) k = node_with k 0
  begun (ExprTree.Eof m) k = node_with k 0
  begun (ExprTree.Str m strings) k = node_with k 0
  begun (ExprTree.Paren m e) k = node_with k (begun e (k - 1))
  begun (ExprTree.Index m b i) k = node_with k (max (begun b k) (begun i (k - (width b + 1))))
  begun (ExprTree.Call m name es) k = node_with k (begun_arguments es (k - 2))
  begun (ExprTree.Member m b name) k = node_with k (begun b k)
  begun (ExprTree.Arrow m b name) k = node_with k (begun b k)
  begun (ExprTree.Step m post down e) k = node_with k (begun e (k - step_place 0 post))
  begun (ExprTree.Unary m s e) k = node_with k (begun e (k - 1))
  begun (ExprTree.SizeExpr m e) k = node_with k (begun e (k - 1))
  begun (ExprTree.SizeType m t) k = node_with k (begun_type t (k - 2))
  begun (ExprTree.Cast m t e) k = node_with k (max (begun_type t (k - 1)) (begun e (k - (width_type t + 2))))
  begun (ExprTree.Cond m c x y) k =
      node_with k (max (begun c k) (max (begun x (k - (width c + 1))) (begun y (k - (width c + width x + 2)))))
  begun (ExprTree.Join m op l r) k = node_with k (max (begun l k) (begun r (k - (width l + 1))))

  pub begun_arguments : ExprTrees → (k : ℕ) → ℕ
  begun_arguments ExprTrees.NoArguments k = 0
  begun_arguments (ExprTrees.Argument e es) k = max (begun e k) (begun_arguments es (k - (width e + 1)))

  -- the specifier's nodes, and beside them the stars with the brackets below them
  pub begun_type : TypeTree → (k : ℕ) → ℕ
  begun_type (TypeTree.TypeName s n ds) k =
      max (begun_spec s k) (min n (k - width_spec s) + begun_dims ds (k - (width_spec s + n)))

  pub begun_spec : SpecTree → (k : ℕ) → ℕ
  begun_spec (SpecTree.Void f) k = 0
  begun_spec (SpecTree.SizeT f) k = 0
  begun_spec (SpecTree.Integer f words) k = 0
  begun_spec (SpecTree.Tag f tag) k = node_with k 0
  begun_spec (SpecTree.Struct f tag ms) k = node_with k (begun_members ms (k - (width_name tag + 2)))

  pub begun_members : MemberTrees → (k : ℕ) → ℕ
  begun_members MemberTrees.NoMembers k = 0
  begun_members (MemberTrees.MemberLine s names ms) k =
      max (begun_spec s k) (max (begun_objs names (k - width_spec s)) (begun_members ms (k - (width_spec s + width_objs names + 1))))

  pub begun_objs : ObjTrees → (k : ℕ) → ℕ
  begun_objs ObjTrees.NoDeclarators k = 0
  begun_objs (ObjTrees.Declarator o os) k = max (begun_obj o k) (begun_objs os (k - (width_obj o + 1)))

  -- the stars with the brackets below them, and beside them the initialiser
  pub begun_obj : ObjTree → (k : ℕ) → ℕ
  begun_obj (ObjTree.Bare n name a ds) k = min n k + begun_dims ds (k - (n + 1))
  begun_obj (ObjTree.Initial n name a ds i) k =
      max (min n k + begun_dims ds (k - (n + 1))) (begun_init i (k - (n + width_dims ds + 2)))

  -- a bracket, and below it its length and the brackets behind it
  pub begun_dims : DimTrees → (k : ℕ) → ℕ
  begun_dims DimTrees.NoDims k = 0
  begun_dims (DimTrees.Unsized ds) k = node_with k (begun_dims ds (k - 2))
  begun_dims (DimTrees.Sized e ds) k = node_with k (max (begun e (k - 1)) (begun_dims ds (k - (width e + 2))))

  pub begun_init : InitTree → (k : ℕ) → ℕ
  begun_init (InitTree.Value e) k = begun e k
  begun_init (InitTree.Braces f is comma) k = node_with k (begun_inits is (k - 1))

  pub begun_inits : InitTrees → (k : ℕ) → ℕ
  begun_inits InitTrees.NoItems k = 0
  begun_inits (InitTrees.Item i is) k = max (begun_init i k) (begun_inits is (k - (width_init i + 1)))

-- The most nodes on a path.
abbrev mutual
  pub height : ExprTree → ℕ
  height (ExprTree.Name m name) = 1
  height (ExprTree.Number m value ty) = 1
  height (ExprTree.Null m) = 1
  height (ExprTree.Eof m) = 1
  height (ExprTree.Str m strings) = 1
  height (ExprTree.Paren m e) = 1 + height e
  height (ExprTree.Index m b i) = 1 + max (height b) (height i)
  height (ExprTree.Call m name es) = 1 + height_arguments es
  height (ExprTree.Member m b name) = 1 + height b
  height (ExprTree.Arrow m b name) = 1 + height b
  height (ExprTree.Step m post down e) = 1 + height e
  height (ExprTree.Unary m s e) = 1 + height e
  height (ExprTree.SizeExpr m e) = 1 + height e
  height (ExprTree.SizeType m t) = 1 + height_type t
  height (ExprTree.Cast m t e) = 1 + max (height_type t) (height e)
  height (ExprTree.Cond m c x y) = 1 + max (height c) (max (height x) (height y))
  height (ExprTree.Join m op l r) = 1 + max (height l) (height r)

  pub height_arguments : ExprTrees → ℕ
  height_arguments ExprTrees.NoArguments = 0
  height_arguments (ExprTrees.Argument e es) = max (height e) (height_arguments es)

  pub height_type : TypeTree → ℕ
  height_type (TypeTree.TypeName s n ds) = max (height_spec s) (n + height_dims ds)

  pub height_spec : SpecTree → ℕ
  height_spec (SpecTree.Void f) = 0
  height_spec (SpecTree.SizeT f) = 0
  height_spec (SpecTree.Integer f words) = 0
  height_spec (SpecTree.Tag f tag) = 1
  height_spec (SpecTree.Struct f tag ms) = 1 + height_members ms

  pub height_members : MemberTrees → ℕ
  height_members MemberTrees.NoMembers = 0
  height_members (MemberTrees.MemberLine s names ms) = max (height_spec s) (max (height_objs names) (height_members ms))

  pub height_objs : ObjTrees → ℕ
  height_objs ObjTrees.NoDeclarators = 0
  height_objs (ObjTrees.Declarator o os) = max (height_obj o) (height_objs os)

  pub height_obj : ObjTree → ℕ
  height_obj (ObjTree.Bare n name a ds) = n + height_dims ds
  height_obj (ObjTree.Initial n name a ds i) = max (n + height_dims ds) (height_init i)

  pub height_dims : DimTrees → ℕ
  height_dims DimTrees.NoDims = 0
  height_dims (DimTrees.Unsized ds) = 1 + height_dims ds
  height_dims (DimTrees.Sized e ds) = 1 + max (height e) (height_dims ds)

  pub height_init : InitTree → ℕ
  height_init (InitTree.Value e) = height e
  height_init (InitTree.Braces f is comma) = 1 + height_inits is

  pub height_inits : InitTrees → ℕ
  height_inits InitTrees.NoItems = 0
  height_inits (InitTrees.Item i is) = max (height_init i) (height_inits is)
