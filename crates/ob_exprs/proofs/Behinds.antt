-- What the steps behind whole operands need of the machine.
use Rattle.std.proofs.Common.{◌≡◌, ℕ, ◌≤◌, ◌<◌, max, List, ◌∷◌, false, Option, Some, None, refl, sym, ◌∙◌, ap, subst, arith}
use Rattle.std.specs.Prelude.{Result, Ok, Err, IfOk}
use Rattle.ob_base.specs.declared.text.NoMemory.{NoMemory}
use Rattle.ob_tree.specs.declared.tokens.Sign.{Sign}
use Rattle.ob_tree.specs.declared.tokens.Sign.TheVariants as sign
use Rattle.ob_tree.specs.declared.expressions.Expr.{Expr}
use Rattle.ob_tree.specs.declared.expressions.ExprNode as from
use Rattle.ob_tree.specs.declared.expressions.ExprNode.{ExprNode}
use Rattle.ob_tree.specs.Trees.{Mark, Infix, ExprTree, ExprTrees}
use Rattle.ob_tree.specs.Paths.{height, height_arguments}
use Rattle.ob_tree.specs.Levels.{mark_of}
use Rattle.ob_tree.specs.ExpressionView.{marked, node_tree, expr_tree}
use Rattle.ob_tree.specs.ExprStates.{PendingNode, InParen, InIndex, InCall, InThen, InLength, State, AfterOperand, reduce, at_sign}
use Rattle.ob_tree.specs.ExprMachine.{after_sign, call_to, string_to, comma_to, join_to, close_paren, close_bracket, colon_to, finish, finish_spec, whole_of}
use Rattle.ob_exprs.specs.declared.reader.Reader.{Reader}
use Rattle.ob_exprs.specs.declared.reader.Shift.{Shift}
use Rattle.ob_exprs.specs.declared.reader.Shift.TheVariants as outcome
use Rattle.ob_exprs.specs.DeepestPaths.{depth_of, deepest_path}
use Rattle.ob_exprs.specs.Reading.{Leads, Shifts}
use Rattle.ob_exprs.specs.Behind.{is_postfix, closing_level, behind, is_name, is_string, in_call, in_paren, in_bracket, in_then, shifted}
use Rattle.ob_exprs.proofs.Heights.{depth-path}
use Rattle.ob_tree.specs.Fronts.{greatest_path}

pub after_reduced : (least p : ℕ) (s : Sign) (e : ExprTree) (fs : List PendingNode) → is_postfix s ≡ false
    → after_sign least p s e fs ≡ behind least p s (reduce (closing_level s) e fs)
after_reduced least p sign.OpenBracket e fs h = absurd cc
after_reduced least p sign.OpenParen e fs h = absurd cc
after_reduced least p sign.Dot e fs h = absurd cc
after_reduced least p sign.Arrow e fs h = absurd cc
after_reduced least p sign.PlusPlus e fs h = absurd cc
after_reduced least p sign.MinusMinus e fs h = absurd cc
after_reduced least p s e fs h = refl

-- what stands for the same whole tree and is no deeper
pub after_kept : (e e2 : ExprTree) (fs gs : List PendingNode) (a : Shift) (next : Option State) → reduce 0 e2 gs ≡ reduce 0 e fs → deepest_path (AfterOperand e2 gs) ≤ deepest_path (AfterOperand e fs)
    → Shifts (AfterOperand e2 gs) a next → Shifts (AfterOperand e fs) a next
after_kept e e2 fs gs (outcome.Shifted r) next h l a = a
after_kept e e2 fs gs (outcome.Ended r) next h l a = (a.0, a.1 ∙ ap whole_of h, a.2, omega (arith, a.3))
after_kept e e2 fs gs outcome.Rejected next h l a = (a.0, ap whole_of (sym h) ∙ a.1, a.2)

pub leads_answers : (s : State) (o : Option Reader) (next : Option State) → finish s ≡ None → finish_spec s ≡ None → Leads o next → Shifts s (shifted o) next
leads_answers s None next f g l = (l, f, g)
leads_answers s (Some r) next f g l = l

mark-node : (n : ExprNode) (f a l : ℕ) → mark_of (node_tree n f a l) ≡ marked f a l
mark-node (from.Name name) f a l = refl
mark-node (from.Number value ty) f a l = refl
mark-node from.Null f a l = refl
mark-node from.Eof f a l = refl
mark-node (from.Str strings) f a l = refl
mark-node (from.Paren' p f1 a1 l1 e) f a l = refl
mark-node (from.Index' p f1 a1 l1 b q f2 a2 l2 i) f a l = refl
mark-node (from.Call' name r es) f a l = refl
mark-node (from.Member' p f1 a1 l1 b name) f a l = refl
mark-node (from.Arrow' p f1 a1 l1 b name) f a l = refl
mark-node (from.Step' post down p f1 a1 l1 e) f a l = refl
mark-node (from.Unary' s p f1 a1 l1 e) f a l = refl
mark-node (from.SizeExpr' p f1 a1 l1 e) f a l = refl
mark-node (from.SizeType t) f a l = refl
mark-node (from.Cast' t p f1 a1 l1 e) f a l = refl
mark-node (from.Binary' s p f1 a1 l1 x q f2 a2 l2 y) f a l = refl
mark-node (from.Cond' p f1 a1 l1 c q f2 a2 l2 x r f3 a3 l3 y) f a l = refl
mark-node (from.Assign' s p f1 a1 l1 x q f2 a2 l2 y) f a l = refl
mark-node (from.Comma' p f1 a1 l1 x q f2 a2 l2 y) f a l = refl

pub sign_made : (e : Expr) (p : ℕ) → marked e.first p e.line ≡ at_sign (mark_of (expr_tree e)) p
sign_made e p = ap (λ m. at_sign m p) (sym (mark-node e.node e.first e.at e.line))

-- few nodes stand above what comes next
pub shallow_2000 : (e : ExprTree) (fs : List PendingNode) → deepest_path (AfterOperand e fs) ≤ greatest_path → depth_of fs ≤ 2000
shallow_2000 e fs l = omega (arith, depth-path fs)

-- a call with one argument more is small
pub call_small : (n : ℕ) (m : Mark) (name : List ℕ) (es : ExprTrees) (e : ExprTree) (fs gs : List PendingNode) → n ≡ max (height_arguments es) (height e)
    → gs ≡ InCall m name es ∷ fs → deepest_path (AfterOperand e gs) ≤ greatest_path → n < 1000
call_small n m name es e fs gs h g l = let k : deepest_path (AfterOperand e (InCall m name es ∷ fs)) ≤ greatest_path = rw g at l in omega arith

-- the answer behind what was closed is the answer behind what was read
pub closed_answers : (least p n : ℕ) (s : Sign) (e e2 : ExprTree) (fs gs : List PendingNode) (r : Result Shift NoMemory) → is_postfix s ≡ false → n ≡ closing_level s → (e2, gs) ≡ reduce n e fs
    → reduce 0 e2 gs ≡ reduce 0 e fs → deepest_path (AfterOperand e2 gs) ≤ deepest_path (AfterOperand e fs)
    → IfOk r (λ a. Shifts (AfterOperand e2 gs) a (behind least p s (e2, gs))) → IfOk r (λ a. Shifts (AfterOperand e fs) a (after_sign least p s e fs))
closed_answers least p n s e e2 fs gs (Err x) o c d again l w = tt
closed_answers least p n s e e2 fs gs (Ok a) o c d again l w =
    let q : behind least p s (e2, gs) ≡ after_sign least p s e fs = ap (behind least p s) d ∙ ap (λ m. behind least p s (reduce m e fs)) c ∙ sym (after_reduced least p s e fs o) in
    after_kept e e2 fs gs a (after_sign least p s e fs) again l (subst (λ x. Shifts (AfterOperand e2 gs) a x) q w)

-- what no part of the newest node ends, and what can't go on with an operand
pub no_call : (e : ExprTree) (fs : List PendingNode) → is_name e ≡ false → call_to e fs ≡ None
no_call (ExprTree.Name m name) fs h = absurd cc
no_call e fs h = refl

pub no_string : (s : List ℕ) (e : ExprTree) (fs : List PendingNode) → is_string e ≡ false → string_to s e fs ≡ None
no_string s (ExprTree.Str m ss) fs h = absurd cc
no_string s e fs h = refl

pub comma_joins : (least p : ℕ) (e : ExprTree) (fs : List PendingNode) → in_call fs ≡ false → comma_to least p e fs ≡ join_to least Infix.Comma p (e, fs)
comma_joins least p e (InCall m name es ∷ fs) h = absurd cc
comma_joins least p e fs h = refl

pub no_paren : (e : ExprTree) (fs : List PendingNode) → in_paren fs ≡ false → close_paren e fs ≡ None
no_paren e (InParen m ∷ fs) h = absurd cc
no_paren e (InCall m name es ∷ fs) h = absurd cc
no_paren e fs h = refl

pub no_bracket : (e : ExprTree) (fs : List PendingNode) → in_bracket fs ≡ false → close_bracket e fs ≡ None
no_bracket e (InIndex m b ∷ fs) h = absurd cc
no_bracket e (InLength n ds ∷ fs) h = absurd cc
no_bracket e fs h = refl

pub no_colon : (e : ExprTree) (fs : List PendingNode) → in_then fs ≡ false → colon_to e fs ≡ None
no_colon e (InThen m c ∷ fs) h = absurd cc
no_colon e fs h = refl
