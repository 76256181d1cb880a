-- Closing pending nodes keeps what is spelled, the shape and the deepest path.
use Rattle.std.proofs.Common.{◌≡◌, ℕ, ◌<◌, ◌≤◌, List, [], ◌∷◌, ◌++◌, refl, sym, ◌∙◌, ap, arith, inl, inr, ◌⊎◌, append_assoc}
use Rattle.std.proofs.lemmas.Bool.{cases_lt}
use Rattle.ob_tree.specs.declared.tokens.TokenKind.TheVariants as kind
use Rattle.ob_tree.specs.declared.tokens.Sign.TheVariants as sign
use Rattle.ob_tree.specs.Trees.{Infix, ExprTree}
use Rattle.ob_tree.specs.Spelling.{spell, spell_type, infix_sign}
use Rattle.ob_tree.specs.Valid.{IsOf}
use Rattle.ob_tree.specs.ExprStates.{PendingNode, InParen, InIndex, InCall, InStep, InUnary, InSize, InCast, InJoin, InThen, InElse, InLength, InType, InStruct, AfterOperand, operand_level, right_precedence, top_operand_level, close, reduce}
use Rattle.ob_tree.proofs.Unreduced.{lt-yes, lt-no, binary-most}
use Rattle.ob_exprs.specs.DeepestPaths.{deepest_path}
use Rattle.ob_exprs.proofs.Shapes.{pending_spell, stack_spell, PendingOk, PendingFits, Stands, IsGoal}
use Rattle.ob_tree.specs.Levels.{primary_level, unary_level}

-- no pending node waits for more than a unary expression, but for those that wait for a specifier
level-most : (f : PendingNode) → operand_level f ≤ primary_level → operand_level f ≤ unary_level
level-most (InParen m) h = omega arith
level-most (InIndex m b) h = omega arith
level-most (InCall m name es) h = omega arith
level-most (InStep m down) h = omega arith
level-most (InUnary m s) h = omega arith
level-most (InSize m) h = omega arith
level-most (InCast m t) h = omega arith
level-most (InJoin m Infix.Comma l) h = omega arith
level-most (InJoin m (Infix.Assign s) l) h = omega arith
level-most (InJoin m (Infix.Binary s) l) h = omega (arith, binary-most s)
level-most (InThen m c) h = omega arith
level-most (InElse m c x) h = omega arith
level-most (InLength h ds) g = omega arith
level-most (InType m z) h = absurd (omega arith)
level-most (InStruct b) h = absurd (omega arith)

pub top-most : (least : ℕ) (fs : List PendingNode) → IsGoal least → top_operand_level least fs ≤ primary_level → top_operand_level least fs ≤ unary_level
top-most least [] g h = omega (arith, g h)
top-most least (f ∷ fs) g h = level-most f h

-- a pending node that is closed is its node with the operand
close-spell : (n : ℕ) (f : PendingNode) (e : ExprTree) → n < right_precedence f → spell (close f e) ≡ pending_spell f ++ spell e
close-spell n (InParen m) e h = absurd (omega arith)
close-spell n (InIndex m b) e h = absurd (omega arith)
close-spell n (InCall m name es) e h = absurd (omega arith)
close-spell n (InStep m down) e h = refl
close-spell n (InUnary m s) e h = refl
close-spell n (InSize m) e h = refl
close-spell n (InCast m t) e h = ap (λ ks. kind.Sign sign.OpenParen ∷ ks) (sym (append_assoc (spell_type t) (kind.Sign sign.CloseParen ∷ []) (spell e)))
close-spell n (InJoin m op l) e h = sym (append_assoc (spell l) (kind.Sign (infix_sign op) ∷ []) (spell e))
close-spell n (InThen m c) e h = absurd (omega arith)
close-spell n (InElse m c x) e h =
    ap (λ ks. spell c ++ kind.Sign sign.Question ∷ ks) (sym (append_assoc (spell x) (kind.Sign sign.Colon ∷ []) (spell e)))
    ∙ sym (append_assoc (spell c) (kind.Sign sign.Question ∷ (spell x ++ kind.Sign sign.Colon ∷ [])) (spell e))
close-spell n (InLength h ds) e g = absurd (omega arith)
close-spell n (InType m z) e h = absurd (omega arith)
close-spell n (InStruct b) e h = absurd (omega arith)

close-of : (n least : ℕ) (f : PendingNode) (e : ExprTree) (fs : List PendingNode) → n < right_precedence f → PendingOk f → PendingFits least fs f → IsOf (operand_level f) e → IsOf (top_operand_level least fs) (close f e)
close-of n least (InParen m) e fs h k l v = absurd (omega arith)
close-of n least (InIndex m b) e fs h k l v = absurd (omega arith)
close-of n least (InCall m name es) e fs h k l v = absurd (omega arith)
close-of n least (InStep m down) e fs h k l v = (v, l)
close-of n least (InUnary m s) e fs h k l v = ((k, v.0, v.1), l)
close-of n least (InSize m) e fs h k l v = (v, l)
close-of n least (InCast m t) e fs h k l v = ((k, v.0, v.1), l)
close-of n least (InJoin m op x) e fs h k l v = ((k.0, k.1.0, k.1.1, v.0, v.1), l)
close-of n least (InThen m c) e fs h k l v = absurd (omega arith)
close-of n least (InElse m c x) e fs h k l v = ((k.0.0, k.0.1, k.1, v.0, v.1), l)
close-of n least (InLength h ds) e fs g k l v = absurd (omega arith)
close-of n least (InType m z) e fs h k l v = absurd (omega arith)
close-of n least (InStruct b) e fs h k l v = absurd (omega arith)

pub close-path : (n : ℕ) (f : PendingNode) (e : ExprTree) (fs : List PendingNode) → n < right_precedence f → deepest_path (AfterOperand (close f e) fs) ≡ deepest_path (AfterOperand e (f ∷ fs))
close-path n (InParen m) e fs h = absurd (omega arith)
close-path n (InIndex m b) e fs h = absurd (omega arith)
close-path n (InCall m name es) e fs h = absurd (omega arith)
close-path n (InStep m down) e fs h = omega arith
close-path n (InUnary m s) e fs h = omega arith
close-path n (InSize m) e fs h = omega arith
close-path n (InCast m t) e fs h = omega arith
close-path n (InJoin m op l) e fs h = omega arith
close-path n (InThen m c) e fs h = absurd (omega arith)
close-path n (InElse m c x) e fs h = omega arith
close-path n (InLength h ds) e fs g = absurd (omega arith)
close-path n (InType m z) e fs h = absurd (omega arith)
close-path n (InStruct b) e fs h = absurd (omega arith)

-- what reducing keeps
pub record Kept (least : ℕ) (e : ExprTree) (fs : List PendingNode) (r : ExprTree × List PendingNode) : Type 0 where
  pub stands : Stands least r.1
  pub of : IsOf (top_operand_level least r.1) r.0
  pub spelled : stack_spell r.1 ++ spell r.0 ≡ stack_spell fs ++ spell e
  pub deepest_path : deepest_path (AfterOperand r.0 r.1) ≡ deepest_path (AfterOperand e fs)

close-kept : (least n : ℕ) (e : ExprTree) (f : PendingNode) (fs : List PendingNode) → n < right_precedence f → Stands least (f ∷ fs) → IsOf (operand_level f) e → Kept least e (f ∷ fs) (close f e, fs)
close-kept least n e f fs h s v = record {
  stands = s.2;
  of = close-of n least f e fs h s.0 s.1 v;
  spelled = ap (λ ks. stack_spell fs ++ ks) (close-spell n f e h) ∙ sym (append_assoc (stack_spell fs) (pending_spell f) (spell e));
  deepest_path = close-path n f e fs h;
}

kept-trans : (least : ℕ) (e e2 : ExprTree) (fs gs : List PendingNode) (r : ExprTree × List PendingNode) → Kept least e fs (e2, gs) → Kept least e2 gs r → Kept least e fs r
kept-trans least e e2 fs gs r a b = record { stands = b.stands; of = b.of; spelled = b.spelled ∙ a.spelled; deepest_path = b.deepest_path ∙ a.deepest_path }

pub reduce-kept : (least n : ℕ) (e : ExprTree) (fs : List PendingNode) → Stands least fs → IsOf (top_operand_level least fs) e → Kept least e fs (reduce n e fs)
reduce-kept least n e [] s v = record { stands = s; of = v; spelled = refl; deepest_path = refl }
reduce-kept least n e (f ∷ fs) s v = go (λ k. reduce-kept least n (close f e) fs k.stands k.of) (cases_lt n (right_precedence f))
  where
    go : (Kept least e (f ∷ fs) (close f e, fs) → Kept least (close f e) fs (reduce n (close f e) fs)) → (n < right_precedence f) ⊎ (right_precedence f ≤ n) → Kept least e (f ∷ fs) (reduce n e (f ∷ fs))
    go next (inl h) =
        let k = close-kept least n e f fs h s v in
        rw (lt-yes n (right_precedence f) h) (kept-trans least e (close f e) (f ∷ fs) fs (reduce n (close f e) fs) k (next k))
    go next (inr h) = rw (lt-no n (right_precedence f) h) (record { stands = s; of = v; spelled = refl; deepest_path = refl })
