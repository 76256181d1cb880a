-- What closing the newest node does, a turn at a time.
use Rattle.std.proofs.Common.{◌≡◌, ℕ, ◌<◌, ◌≤◌, List, [], ◌∷◌, length, refl, sym, ◌∙◌, ap, subst, arith, inl, inr, ◌⊎◌}
use Rattle.std.proofs.lemmas.Bool.{cases_lt}
use Rattle.ob_tree.specs.Trees.{ExprTree}
use Rattle.ob_tree.specs.Paths.{height}
use Rattle.ob_tree.specs.ExprStates.{PendingNode, AfterOperand, right_precedence, top_right_precedence, close, reduce}
use Rattle.ob_tree.proofs.Unreduced.{lt-yes, lt-no}
use Rattle.ob_exprs.specs.DeepestPaths.{depth_of, inner, deepest_path}
use Rattle.ob_exprs.specs.View.{closed_top}
use Rattle.ob_exprs.proofs.Heights.{depth-path}
use Rattle.ob_exprs.proofs.Kept.{close-path}
use Rattle.ob_tree.specs.Fronts.{greatest_path}

-- reducing by less goes on from reducing by more
reduce-again : (n : ℕ) (e : ExprTree) (fs : List PendingNode) → reduce 0 (reduce n e fs).0 (reduce n e fs).1 ≡ reduce 0 e fs
reduce-again n e [] = refl
reduce-again n e (f ∷ fs) = go (reduce-again n (close f e) fs) (cases_lt n (right_precedence f))
  where
    go : reduce 0 (reduce n (close f e) fs).0 (reduce n (close f e) fs).1 ≡ reduce 0 (close f e) fs → (n < right_precedence f) ⊎ (right_precedence f ≤ n)
        → reduce 0 (reduce n e (f ∷ fs)).0 (reduce n e (f ∷ fs)).1 ≡ reduce 0 e (f ∷ fs)
    go next (inl h) = rw (lt-yes n (right_precedence f) h, lt-yes 0 (right_precedence f) (omega arith)) next
    go next (inr h) = rw (lt-no n (right_precedence f) h) refl

-- what one turn of reducing does
pub record Turn (n : ℕ) (e : ExprTree) (fs : List PendingNode) (r : ExprTree × List PendingNode) : Type 0 where
  pub same : reduce n r.0 r.1 ≡ reduce n e fs
  pub deepest_path : deepest_path (AfterOperand r.0 r.1) ≡ deepest_path (AfterOperand e fs)
  pub fewer : length r.1 < length fs

turn-at : (n : ℕ) (e : ExprTree) (fs : List PendingNode) → n < top_right_precedence fs → Turn n e fs (closed_top e fs)
turn-at n e [] h = absurd (omega arith)
turn-at n e (f ∷ fs) h = record { same = rw (lt-yes n (right_precedence f) h) refl; deepest_path = close-path n f e fs h; fewer = omega arith }

pub turn : (n : ℕ) (e : ExprTree) (fs : List PendingNode) (e2 : ExprTree) (gs : List PendingNode) → n < top_right_precedence fs → (e2, gs) ≡ closed_top e fs → Turn n e fs (e2, gs)
turn n e fs e2 gs h g = subst (Turn n e fs) (sym g) (turn-at n e fs h)

pub turned : (n : ℕ) (e : ExprTree) (fs : List PendingNode) → top_right_precedence fs ≤ n → reduce n e fs ≡ (e, fs)
turned n e [] h = refl
turned n e (f ∷ fs) h = rw (lt-no n (right_precedence f) h) refl

-- the newest node is small, and few nodes stand above what comes next
pub top_small : (e : ExprTree) (f : PendingNode) (fs gs : List PendingNode) → gs ≡ f ∷ fs → deepest_path (AfterOperand e gs) ≤ greatest_path → (inner f < 1000) × (height e < 1000)
top_small e f fs gs g l = let h : deepest_path (AfterOperand e (f ∷ fs)) ≤ greatest_path = rw g at l in (omega arith, omega arith)

pub shallow : (e : ExprTree) (fs : List PendingNode) → deepest_path (AfterOperand e fs) ≤ greatest_path → depth_of fs ≤ 1000
shallow e fs l = omega (arith, depth-path fs)

-- what is reduced further is what is reduced at once
pub again : (n : ℕ) (e : ExprTree) (fs : List PendingNode) (e2 : ExprTree) (gs : List PendingNode) → (e2, gs) ≡ reduce n e fs → reduce 0 e2 gs ≡ reduce 0 e fs
again n e fs e2 gs g = ap (λ r. reduce 0 r.0 r.1) g ∙ reduce-again n e fs
