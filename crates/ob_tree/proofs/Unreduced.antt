-- What the machine holds when it has read a whole tree, and that a sign behind it closes what it binds tighter
-- than.
use Rattle.std.proofs.Common.{◌≡◌, ℕ, ◌+◌, ◌<◌, ◌≤◌, List, [], ◌∷◌, true, false, refl, ◌∙◌, arith}
use Rattle.std.specs.Prelude.{nat_lt, nat_le}
use Rattle.std.proofs.lemmas.Bool.Decides.{nat_tests}
use Rattle.ob_tree.specs.declared.tokens.Sign.{Sign}
use Rattle.ob_tree.specs.declared.tokens.Sign.TheVariants as sign
use Rattle.ob_tree.specs.Trees.{Infix, ExprTree}
use Rattle.ob_tree.specs.Levels.{binary_level, IsInfix, infix_level, right_level, level_of}
use Rattle.ob_tree.specs.Valid.{Valid, IsOf}
use Rattle.ob_tree.specs.ExprStates.{PendingNode, InParen, InIndex, InCall, InStep, InUnary, InSize, InCast, InJoin, InThen, InElse, InLength, InType, InStruct, State, AfterOperand, operand_level, right_precedence, top_operand_level, top_right_precedence, close, reduce}

pub lt-yes : (a b : ℕ) → a < b → nat_lt a b ≡ true
lt-yes a b h = grind (arith, nat_tests)

pub lt-no : (a b : ℕ) → b ≤ a → nat_lt a b ≡ false
lt-no a b h = grind (arith, nat_tests)

pub le-yes : (a b : ℕ) → a ≤ b → nat_le a b ≡ true
le-yes a b h = grind (arith, nat_tests)

-- The tree is the last operand of what it waits in: the nodes on its right side as pending nodes, and the operand at
-- their end.
abbrev pub unreduced : ExprTree → List PendingNode → ExprTree × List PendingNode
unreduced (ExprTree.Step m false down e) fs = unreduced e (InStep m down ∷ fs)
unreduced (ExprTree.Unary m s e) fs = unreduced e (InUnary m s ∷ fs)
unreduced (ExprTree.SizeExpr m e) fs = unreduced e (InSize m ∷ fs)
unreduced (ExprTree.Cast m t e) fs = unreduced e (InCast m t ∷ fs)
unreduced (ExprTree.Cond m c x y) fs = unreduced y (InElse m c x ∷ fs)
unreduced (ExprTree.Join m op l r) fs = unreduced r (InJoin m op l ∷ fs)
unreduced t fs = (t, fs)

-- what the machine holds behind a whole tree
abbrev pub state_behind : ExprTree → List PendingNode → State
state_behind t fs = AfterOperand (unreduced t fs).0 (unreduced t fs).1

-- n closes each pending node on the right side
abbrev pub Closes : ℕ → ExprTree → Type 0
Closes n (ExprTree.Step m false down e) = (n < 14) × Closes n e
Closes n (ExprTree.Unary m s e) = (n < 13) × Closes n e
Closes n (ExprTree.SizeExpr m e) = (n < 14) × Closes n e
Closes n (ExprTree.Cast m t e) = (n < 13) × Closes n e
Closes n (ExprTree.Cond m c x y) = (n < 2) × Closes n y
Closes n (ExprTree.Join m op l r) = (n < right_level op) × Closes n r
Closes n t = Unit {0}

close-one : (n : ℕ) (e : ExprTree) (f : PendingNode) (fs : List PendingNode) → n < right_precedence f → reduce n e (f ∷ fs) ≡ reduce n (close f e) fs
close-one n e f fs h = rw (lt-yes n (right_precedence f) h) refl

reduce-unreduced : (n : ℕ) (t : ExprTree) (fs : List PendingNode) → Closes n t → reduce n (unreduced t fs).0 (unreduced t fs).1 ≡ reduce n t fs
reduce-unreduced n (ExprTree.Step m false down e) fs c = reduce-unreduced n e (InStep m down ∷ fs) c.1 ∙ close-one n e (InStep m down) fs c.0
reduce-unreduced n (ExprTree.Unary m s e) fs c = reduce-unreduced n e (InUnary m s ∷ fs) c.1 ∙ close-one n e (InUnary m s) fs c.0
reduce-unreduced n (ExprTree.SizeExpr m e) fs c = reduce-unreduced n e (InSize m ∷ fs) c.1 ∙ close-one n e (InSize m) fs c.0
reduce-unreduced n (ExprTree.Cast m t e) fs c = reduce-unreduced n e (InCast m t ∷ fs) c.1 ∙ close-one n e (InCast m t) fs c.0
reduce-unreduced n (ExprTree.Cond m x y z) fs c = reduce-unreduced n z (InElse m x y ∷ fs) c.1 ∙ close-one n z (InElse m x y) fs c.0
reduce-unreduced n (ExprTree.Join m op l r) fs c = reduce-unreduced n r (InJoin m op l ∷ fs) c.1 ∙ close-one n r (InJoin m op l) fs c.0
reduce-unreduced n t fs c = refl

-- n stops at a pending node of a right_precedence of at most n
pub reduce-stop : (n : ℕ) (t : ExprTree) (fs : List PendingNode) → top_right_precedence fs ≤ n → reduce n t fs ≡ (t, fs)
reduce-stop n t [] h = refl
reduce-stop n t (f ∷ fs) h = rw (lt-no n (right_precedence f) h) refl

precedence-level : (f : PendingNode) → right_precedence f ≤ operand_level f
precedence-level (InParen m) = omega arith
precedence-level (InIndex m b) = omega arith
precedence-level (InCall m name es) = omega arith
precedence-level (InStep m down) = omega arith
precedence-level (InUnary m s) = omega arith
precedence-level (InSize m) = omega arith
precedence-level (InCast m t) = omega arith
precedence-level (InJoin m op l) = omega arith
precedence-level (InThen m c) = omega arith
precedence-level (InElse m c x) = omega arith
precedence-level (InLength h ds) = omega arith
precedence-level (InType m z) = omega arith
precedence-level (InStruct b) = omega arith

pub top-precedence : (least : ℕ) (fs : List PendingNode) → top_right_precedence fs ≤ top_operand_level least fs
top-precedence least [] = omega arith
top-precedence least (f ∷ fs) = precedence-level f

-- n closes the pending nodes of all nodes of the nonterminals from m on
pub record Binds (n m : ℕ) : Type 0 where
  pub near : m ≤ n + 1
  pub infixes : (op : Infix) → IsInfix op → m ≤ infix_level op → n < right_level op
  pub conds : m ≤ 2 → n < 2
  pub prefixes : m ≤ 14 → n < 13

binds-closes : (n m : ℕ) (t : ExprTree) → Binds n m → Valid t → m ≤ level_of t → Closes n t
binds-closes n m (ExprTree.Name k name) b v h = tt
binds-closes n m (ExprTree.Number k value ty) b v h = tt
binds-closes n m (ExprTree.Null k) b v h = tt
binds-closes n m (ExprTree.Eof k) b v h = tt
binds-closes n m (ExprTree.Str k strings) b v h = tt
binds-closes n m (ExprTree.Paren k e) b v h = tt
binds-closes n m (ExprTree.Index k x i) b v h = tt
binds-closes n m (ExprTree.Call k name es) b v h = tt
binds-closes n m (ExprTree.Member k x name) b v h = tt
binds-closes n m (ExprTree.Arrow k x name) b v h = tt
binds-closes n m (ExprTree.Step k true down e) b v h = tt
binds-closes n m (ExprTree.SizeType k t) b v h = tt
binds-closes n m (ExprTree.Step k false down e) b v h =
    let c : n < 13 = b.prefixes h in
    let d : n < 14 = omega arith in
    (d, binds-closes n m e b v.0 (omega (arith, b.near, v.1)))
binds-closes n m (ExprTree.Unary k s e) b v h =
    let c : n < 13 = b.prefixes h in (c, binds-closes n m e b v.1 (omega (arith, b.near, v.2)))
binds-closes n m (ExprTree.SizeExpr k e) b v h =
    let c : n < 13 = b.prefixes h in
    let d : n < 14 = omega arith in
    (d, binds-closes n m e b v.0 (omega (arith, b.near, v.1)))
binds-closes n m (ExprTree.Cast k t e) b v h =
    let c : n < 13 = b.prefixes (omega arith) in (c, binds-closes n m e b v.1 (omega (arith, b.near, v.2)))
binds-closes n m (ExprTree.Cond k c x y) b v h =
    let d : n < 2 = b.conds h in (d, binds-closes n m y b v.3 (omega (arith, b.near, v.4)))
binds-closes n m (ExprTree.Join k op l r) b v h =
    let c : n < right_level op = b.infixes op v.0 h in (c, binds-closes n m r b v.3 (omega (arith, b.near, v.4)))

-- where n binds the tree, n reduces what it is read into to the tree
pub reduce-behind : (n m : ℕ) (t : ExprTree) (fs : List PendingNode) → Binds n m → IsOf m t → top_right_precedence fs ≤ n
    → reduce n (unreduced t fs).0 (unreduced t fs).1 ≡ (t, fs)
reduce-behind n m t fs b v h = reduce-unreduced n t fs (binds-closes n m t b v.0 v.1) ∙ reduce-stop n t fs h

-- the levels of binary operators
pub binary-most : (s : Sign) → binary_level s ≤ 12
binary-most sign.OrOr = omega arith
binary-most sign.AndAnd = omega arith
binary-most sign.Bar = omega arith
binary-most sign.Caret = omega arith
binary-most sign.Amp = omega arith
binary-most sign.EqEq = omega arith
binary-most sign.NotEq = omega arith
binary-most sign.Lt = omega arith
binary-most sign.Gt = omega arith
binary-most sign.Le = omega arith
binary-most sign.Ge = omega arith
binary-most sign.Shl = omega arith
binary-most sign.Shr = omega arith
binary-most sign.Plus = omega arith
binary-most sign.Minus = omega arith
binary-most sign.Star = omega arith
binary-most sign.Slash = omega arith
binary-most sign.Percent = omega arith
binary-most s = omega arith

pub binary-least : (s : Sign) → 0 < binary_level s → 3 ≤ binary_level s
binary-least sign.OrOr h = omega arith
binary-least sign.AndAnd h = omega arith
binary-least sign.Bar h = omega arith
binary-least sign.Caret h = omega arith
binary-least sign.Amp h = omega arith
binary-least sign.EqEq h = omega arith
binary-least sign.NotEq h = omega arith
binary-least sign.Lt h = omega arith
binary-least sign.Gt h = omega arith
binary-least sign.Le h = omega arith
binary-least sign.Ge h = omega arith
binary-least sign.Shl h = omega arith
binary-least sign.Shr h = omega arith
binary-least sign.Plus h = omega arith
binary-least sign.Minus h = omega arith
binary-least sign.Star h = omega arith
binary-least sign.Slash h = omega arith
binary-least sign.Percent h = omega arith
binary-least s h = absurd (omega arith)

pub infix-most : (op : Infix) → infix_level op ≤ 12
infix-most Infix.Comma = omega arith
infix-most (Infix.Assign s) = omega arith
infix-most (Infix.Binary s) = binary-most s

-- what binds what
pub binds-comma : Binds 0 0
binds-comma = record { near = omega arith; infixes = at_infix; conds = λ _. omega arith; prefixes = λ _. omega arith }
  where
    at_infix : (op : Infix) → IsInfix op → 0 ≤ infix_level op → 0 < right_level op
    at_infix Infix.Comma i h = omega arith
    at_infix (Infix.Assign s) i h = omega arith
    at_infix (Infix.Binary s) i h = omega arith

pub binds-assign : Binds 1 2
binds-assign = record { near = omega arith; infixes = at_infix; conds = λ _. omega arith; prefixes = λ _. omega arith }
  where
    at_infix : (op : Infix) → IsInfix op → 2 ≤ infix_level op → 1 < right_level op
    at_infix Infix.Comma i h = absurd (omega arith)
    at_infix (Infix.Assign s) i h = absurd (omega arith)
    at_infix (Infix.Binary s) i h = omega arith

pub binds-question : Binds 2 3
binds-question = record { near = omega arith; infixes = at_infix; conds = λ h. absurd (omega arith); prefixes = λ _. omega arith }
  where
    at_infix : (op : Infix) → IsInfix op → 3 ≤ infix_level op → 2 < right_level op
    at_infix Infix.Comma i h = absurd (omega arith)
    at_infix (Infix.Assign s) i h = absurd (omega arith)
    at_infix (Infix.Binary s) i h = omega arith

pub binds-binary : (n : ℕ) → 3 ≤ n → n ≤ 12 → Binds n n
binds-binary n least most =
    record { near = omega arith; infixes = at_infix n least; conds = λ h. absurd (omega arith); prefixes = λ _. omega arith }
  where
    at_infix : (n : ℕ) → 3 ≤ n → (op : Infix) → IsInfix op → n ≤ infix_level op → n < right_level op
    at_infix n least Infix.Comma i h = absurd (omega arith)
    at_infix n least (Infix.Assign s) i h = absurd (omega arith)
    at_infix n least (Infix.Binary s) i h = omega arith
