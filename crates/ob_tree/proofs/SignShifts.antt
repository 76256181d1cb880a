-- What a sign behind a whole operand leads to.
use Rattle.std.proofs.Common.{◌≡◌, ℕ, ◌<◌, ◌≤◌, List, [], ◌∷◌, true, false, Some, refl, ◌∙◌, ap, arith}
use Rattle.std.specs.Prelude.{IsTrue}
use Rattle.ob_tree.specs.declared.tokens.TokenKind.TheVariants as kind
use Rattle.ob_tree.specs.declared.tokens.Sign.{Sign}
use Rattle.ob_tree.specs.declared.tokens.Sign.TheVariants as sign
use Rattle.ob_tree.specs.Trees.{Mark, Infix, ExprTree, ExprTrees, DimTrees}
use Rattle.ob_tree.specs.Spelling.{infix_sign}
use Rattle.ob_tree.specs.Levels.{binary_level, is_assign, IsInfix, infix_level, left_level, level_of, mark_of}
use Rattle.ob_tree.specs.Valid.{Valid, IsOf}
use Rattle.ob_tree.specs.ExprStates.{Head, PendingNode, InParen, InIndex, InCall, InJoin, InThen, InElse, InLength, BeforeOperand, Select, AfterOperand, Dims, top_operand_level, top_right_precedence, reduce, add_argument, add_dim, at_sign}
use Rattle.ob_tree.specs.ExprMachine.{join_to, comma_to, after_sign, shift}
use Rattle.ob_tree.proofs.Unreduced.{le-yes, unreduced, state_behind, top-precedence, reduce-behind, binary-most, binary-least, infix-most, binds-comma, binds-assign, binds-question, binds-binary}

pub no : {A : Type 0} → IsTrue false → A
no h = absurd cc

-- the signs of operators
pub assign-sign : (least p : ℕ) (s : Sign) (e : ExprTree) (fs : List PendingNode) → IsTrue (is_assign s)
    → after_sign least p s e fs ≡ join_to least (Infix.Assign s) p (reduce 1 e fs)
assign-sign least p sign.Assign e fs h = refl
assign-sign least p sign.StarAssign e fs h = refl
assign-sign least p sign.SlashAssign e fs h = refl
assign-sign least p sign.PercentAssign e fs h = refl
assign-sign least p sign.PlusAssign e fs h = refl
assign-sign least p sign.MinusAssign e fs h = refl
assign-sign least p sign.ShlAssign e fs h = refl
assign-sign least p sign.ShrAssign e fs h = refl
assign-sign least p sign.AmpAssign e fs h = refl
assign-sign least p sign.CaretAssign e fs h = refl
assign-sign least p sign.BarAssign e fs h = refl
assign-sign least p s e fs h = no h

pub binary-sign : (least p : ℕ) (s : Sign) (e : ExprTree) (fs : List PendingNode) → 0 < binary_level s
    → after_sign least p s e fs ≡ join_to least (Infix.Binary s) p (reduce (binary_level s) e fs)
binary-sign least p sign.OrOr e fs h = refl
binary-sign least p sign.AndAnd e fs h = refl
binary-sign least p sign.Bar e fs h = refl
binary-sign least p sign.Caret e fs h = refl
binary-sign least p sign.Amp e fs h = refl
binary-sign least p sign.EqEq e fs h = refl
binary-sign least p sign.NotEq e fs h = refl
binary-sign least p sign.Lt e fs h = refl
binary-sign least p sign.Gt e fs h = refl
binary-sign least p sign.Le e fs h = refl
binary-sign least p sign.Ge e fs h = refl
binary-sign least p sign.Shl e fs h = refl
binary-sign least p sign.Shr e fs h = refl
binary-sign least p sign.Plus e fs h = refl
binary-sign least p sign.Minus e fs h = refl
binary-sign least p sign.Star e fs h = refl
binary-sign least p sign.Slash e fs h = refl
binary-sign least p sign.Percent e fs h = refl
binary-sign least p s e fs h = absurd (omega arith)

pub comma-joins : (least p : ℕ) (e : ExprTree) (fs : List PendingNode) → top_operand_level least fs ≤ 0 → comma_to least p e fs ≡ join_to least Infix.Comma p (e, fs)
comma-joins least p e [] h = refl
comma-joins least p e (InCall m name es ∷ fs) h = absurd (omega arith)
comma-joins least p e (f ∷ fs) h = refl

join-it : (least p : ℕ) (op : Infix) (t : ExprTree) (fs : List PendingNode) → left_level op ≤ level_of t → top_operand_level least fs ≤ infix_level op
    → join_to least op p (t, fs) ≡ Some (BeforeOperand (InJoin (at_sign (mark_of t) p) op t ∷ fs))
join-it least p op t fs l h = rw (le-yes (left_level op) (level_of t) l, le-yes (top_operand_level least fs) (infix_level op) h) refl

low : (least n : ℕ) (fs : List PendingNode) → top_operand_level least fs ≤ n → top_right_precedence fs ≤ n
low least n fs h = omega (arith, top-precedence least fs)

pub shift-join : (least : ℕ) (m : Mark) (op : Infix) (t : ExprTree) (fs : List PendingNode) → IsInfix op → IsOf (left_level op) t → top_operand_level least fs ≤ infix_level op
    → shift least m (kind.Sign (infix_sign op)) (state_behind t fs) ≡ Some (BeforeOperand (InJoin (at_sign (mark_of t) m.first) op t ∷ fs))
shift-join least m Infix.Comma t fs i v h =
    ap (λ r. comma_to least m.first r.0 r.1) (reduce-behind 0 0 t fs binds-comma v (low least 0 fs h))
    ∙ comma-joins least m.first t fs h ∙ join-it least m.first Infix.Comma t fs v.1 h
shift-join least m (Infix.Assign s) t fs i v h =
    assign-sign least m.first s (unreduced t fs).0 (unreduced t fs).1 i
    ∙ ap (join_to least (Infix.Assign s) m.first) (reduce-behind 1 2 t fs binds-assign (v.0, omega (arith, v.1)) (low least 1 fs h))
    ∙ join-it least m.first (Infix.Assign s) t fs v.1 h
shift-join least m (Infix.Binary s) t fs i v h =
    binary-sign least m.first s (unreduced t fs).0 (unreduced t fs).1 i
    ∙ ap (join_to least (Infix.Binary s) m.first)
    (reduce-behind (binary_level s) (binary_level s) t fs (binds-binary (binary_level s) (binary-least s i) (binary-most s)) v (low least (binary_level s) fs h))
    ∙ join-it least m.first (Infix.Binary s) t fs v.1 h

pub shift-question : (least : ℕ) (m : Mark) (t : ExprTree) (fs : List PendingNode) → IsOf 3 t → top_operand_level least fs ≤ 2
    → shift least m (kind.Sign sign.Question) (state_behind t fs) ≡ Some (BeforeOperand (InThen (at_sign (mark_of t) m.first) t ∷ fs))
shift-question least m t fs v h =
    rw (reduce-behind 2 3 t fs binds-question v (low least 2 fs h), le-yes 3 (level_of t) v.1, le-yes (top_operand_level least fs) 2 h) refl

-- a postfix expression has nothing on its right side
pub unreduced-postfix : (t : ExprTree) (fs : List PendingNode) → 15 ≤ level_of t → unreduced t fs ≡ (t, fs)
unreduced-postfix (ExprTree.Step m false down e) fs h = absurd (omega arith)
unreduced-postfix (ExprTree.Unary m s e) fs h = absurd (omega arith)
unreduced-postfix (ExprTree.SizeExpr m e) fs h = absurd (omega arith)
unreduced-postfix (ExprTree.Cast m t e) fs h = absurd (omega arith)
unreduced-postfix (ExprTree.Cond m c x y) fs h = absurd (omega arith)
unreduced-postfix (ExprTree.Join m op l r) fs h = absurd (omega (arith, infix-most op))
unreduced-postfix t fs h = refl

behind-postfix : (t : ExprTree) (fs : List PendingNode) → 15 ≤ level_of t → state_behind t fs ≡ AfterOperand t fs
behind-postfix t fs h = ap (λ r. AfterOperand r.0 r.1) (unreduced-postfix t fs h)

pub shift-index : (least : ℕ) (m : Mark) (t : ExprTree) (fs : List PendingNode) → 15 ≤ level_of t
    → shift least m (kind.Sign sign.OpenBracket) (state_behind t fs) ≡ Some (BeforeOperand (InIndex (at_sign (mark_of t) m.first) t ∷ fs))
shift-index least m t fs h =
    ap (shift least m (kind.Sign sign.OpenBracket)) (behind-postfix t fs h) ∙ rw (le-yes 15 (level_of t) h) refl

pub shift-dot : (least : ℕ) (m : Mark) (t : ExprTree) (fs : List PendingNode) → 15 ≤ level_of t
    → shift least m (kind.Sign sign.Dot) (state_behind t fs) ≡ Some (Select (at_sign (mark_of t) m.first) false t fs)
shift-dot least m t fs h = ap (shift least m (kind.Sign sign.Dot)) (behind-postfix t fs h) ∙ rw (le-yes 15 (level_of t) h) refl

pub shift-arrow : (least : ℕ) (m : Mark) (t : ExprTree) (fs : List PendingNode) → 15 ≤ level_of t
    → shift least m (kind.Sign sign.Arrow) (state_behind t fs) ≡ Some (Select (at_sign (mark_of t) m.first) true t fs)
shift-arrow least m t fs h = ap (shift least m (kind.Sign sign.Arrow)) (behind-postfix t fs h) ∙ rw (le-yes 15 (level_of t) h) refl

pub shift-up : (least : ℕ) (m : Mark) (t : ExprTree) (fs : List PendingNode) → 15 ≤ level_of t
    → shift least m (kind.Sign sign.PlusPlus) (state_behind t fs) ≡ Some (AfterOperand (ExprTree.Step (at_sign (mark_of t) m.first) true false t) fs)
shift-up least m t fs h = ap (shift least m (kind.Sign sign.PlusPlus)) (behind-postfix t fs h) ∙ rw (le-yes 15 (level_of t) h) refl

pub shift-down : (least : ℕ) (m : Mark) (t : ExprTree) (fs : List PendingNode) → 15 ≤ level_of t
    → shift least m (kind.Sign sign.MinusMinus) (state_behind t fs) ≡ Some (AfterOperand (ExprTree.Step (at_sign (mark_of t) m.first) true true t) fs)
shift-down least m t fs h = ap (shift least m (kind.Sign sign.MinusMinus)) (behind-postfix t fs h) ∙ rw (le-yes 15 (level_of t) h) refl

-- what ends a part of a pending node that waits for a token
module _ (least : ℕ) (m : Mark) (t : ExprTree) (fs : List PendingNode) (v : Valid t) where
  all-of : IsOf 0 t
  all-of = (v, omega arith)

  pub shift-paren : (n : Mark) → shift least m (kind.Sign sign.CloseParen) (state_behind t (InParen n ∷ fs)) ≡ Some (AfterOperand (ExprTree.Paren n t) fs)
  shift-paren n = rw (reduce-behind 0 0 t (InParen n ∷ fs) binds-comma all-of (omega arith)) refl

  pub shift-argument : (n : Mark) (name : List ℕ) (es : ExprTrees)
      → shift least m (kind.Sign sign.Comma) (state_behind t (InCall n name es ∷ fs)) ≡ Some (BeforeOperand (InCall n name (add_argument es t) ∷ fs))
  shift-argument n name es = rw (reduce-behind 0 0 t (InCall n name es ∷ fs) binds-comma all-of (omega arith)) refl

  pub shift-called : (n : Mark) (name : List ℕ) (es : ExprTrees)
      → shift least m (kind.Sign sign.CloseParen) (state_behind t (InCall n name es ∷ fs)) ≡ Some (AfterOperand (ExprTree.Call n name (add_argument es t)) fs)
  shift-called n name es = rw (reduce-behind 0 0 t (InCall n name es ∷ fs) binds-comma all-of (omega arith)) refl

  pub shift-bracket : (n : Mark) (b : ExprTree)
      → shift least m (kind.Sign sign.CloseBracket) (state_behind t (InIndex n b ∷ fs)) ≡ Some (AfterOperand (ExprTree.Index n b t) fs)
  shift-bracket n b = rw (reduce-behind 0 0 t (InIndex n b ∷ fs) binds-comma all-of (omega arith)) refl

  pub shift-length : (h : Head) (ds : DimTrees)
      → shift least m (kind.Sign sign.CloseBracket) (state_behind t (InLength h ds ∷ fs)) ≡ Some (Dims h (add_dim ds t) fs)
  shift-length h ds = rw (reduce-behind 0 0 t (InLength h ds ∷ fs) binds-comma all-of (omega arith)) refl

  pub shift-colon : (n : Mark) (c : ExprTree)
      → shift least m (kind.Sign sign.Colon) (state_behind t (InThen n c ∷ fs)) ≡ Some (BeforeOperand (InElse n c t ∷ fs))
  shift-colon n c = rw (reduce-behind 0 0 t (InThen n c ∷ fs) binds-comma all-of (omega arith)) refl
