-- Which plain variables an expression assigns, by their words. While an operand waits in a variable's word for the rest of its
-- expression, nothing in that rest assigns the variable.
use Rattle.std.specs.Prelude.{ℕ, Bool, false, ◌||◌, ◌==◌, Option, Some, None}
use Rattle.ob_typed.specs.TypedTree.{TypedExpr, TypedExprs, TypedLean, TypedNode, TypedPlace}
use Rattle.ob_typed.specs.TypedTree.TypedExpr.{Typed}
use Rattle.ob_typed.specs.TypedTree.TypedPlace.{Place}
use Rattle.ob_typed.specs.TypedTree.{TypedExprs as exprs, TypedLean as at, TypedNode as node}
use Rattle.ob_lower.specs.Homes.{Context, variable_word}

abbrev pub is_word : Option ℕ → ℕ → Bool
is_word None w = false
is_word (Some v) w = v == w

abbrev mutual
  pub assigns : Context → TypedExpr → ℕ → Bool
  assigns c (Typed line ty what) w = node_assigns c what w

  -- a place that is assigned
  pub place_assigns : Context → TypedPlace → ℕ → Bool
  place_assigns c (Place line ty lean) w = is_word (variable_word c lean) w || lean_assigns c lean w

  pub lean_assigns : Context → TypedLean → ℕ → Bool
  lean_assigns c (at.Static n) w = false
  lean_assigns c (at.Local n) w = false
  lean_assigns c (at.Value e) w = assigns c e w
  lean_assigns c (at.Slide lean scale minus number_first e) w = lean_assigns c lean w || assigns c e w
  lean_assigns c (at.Member lean offset) w = lean_assigns c lean w

  pub node_assigns : Context → TypedNode → ℕ → Bool
  node_assigns c (node.Num n) w = false
  node_assigns c node.Null w = false
  node_assigns c (node.Read (Place line ty lean)) w = lean_assigns c lean w
  node_assigns c (node.Lean lean) w = lean_assigns c lean w
  node_assigns c (node.Convert k e) w = assigns c e w
  node_assigns c (node.ToVoid e) w = assigns c e w
  node_assigns c (node.Arith op k a b) w = assigns c a w || assigns c b w
  node_assigns c (node.Compare r a b) w = assigns c a w || assigns c b w
  node_assigns c (node.PtrCompare r a b) w = assigns c a w || assigns c b w
  node_assigns c (node.PtrDiff size a b) w = assigns c a w || assigns c b w
  node_assigns c (node.And a b) w = assigns c a w || assigns c b w
  node_assigns c (node.Or a b) w = assigns c a w || assigns c b w
  node_assigns c (node.Cond a b d) w = assigns c a w || (assigns c b w || assigns c d w)
  node_assigns c (node.Comma a b) w = assigns c a w || assigns c b w
  node_assigns c (node.Assign p e) w = place_assigns c p w || assigns c e w
  node_assigns c (node.Update op k post p e) w = place_assigns c p w || assigns c e w
  node_assigns c (node.PtrUpdate scale minus post p e) w = place_assigns c p w || assigns c e w
  node_assigns c (node.CopyStruct (Place line ty to) (Place from_line from_ty from)) w = lean_assigns c to w || lean_assigns c from w
  node_assigns c (node.Call f es) w = arguments_assign c es w
  node_assigns c (node.CallBuiltin b es) w = arguments_assign c es w

  pub arguments_assign : Context → TypedExprs → ℕ → Bool
  arguments_assign c exprs.NoArguments w = false
  arguments_assign c (exprs.Argument e es) w = assigns c e w || arguments_assign c es w

-- nothing comes after
abbrev pub assigns_none : ℕ → Bool
assigns_none w = false

-- what comes after is two things
abbrev pub either : (ℕ → Bool) → (ℕ → Bool) → ℕ → Bool
either first second w = first w || second w
