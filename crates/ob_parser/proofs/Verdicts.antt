-- The verdict on how far an expression or a specifier goes on: the machine's is right, and only one is.
use Rattle.std.proofs.Common.{◌≡◌, ℕ, ◌-◌, ◌<◌, ◌≤◌, ◌⊎◌, inl, inr, List, [], length, take, drop, map, Some, refl, sym, ◌∙◌, ap, subst, arith}
use Rattle.std.specs.List.{All}
use Rattle.std.proofs.lemmas.Bool.{cases_lt}
use Rattle.ob_tree.specs.declared.tokens.Token.{Token}
use Rattle.ob_tree.specs.Trees.{ExprTree, SpecTree}
use Rattle.ob_tree.specs.Valid.{IsOfSource}
use Rattle.ob_tree.specs.Places.{PlacedExpr, PlacedSpec}
use Rattle.ob_tree.specs.Fronts.{kinds, lines, within, FrontExpr, DeepFrontExpr, IsExpr, FrontSpec, DeepFrontSpec, IsSpec}
use Rattle.ob_tree.specs.Verdicts.{IsLeastWithout, Stops, Verdict, Whole, NoTree, TooDeep, IsVerdict}
use Rattle.ob_tree.proofs.OneTree.{one-expression, one-specifier}
use Rattle.ob_tree.specs.ExprStates.{BeforeOperand, Specifier}
use Rattle.ob_tree.specs.ExprMachine.{finish, finish_spec}
use Rattle.ob_tree.specs.Readings.{verdict}
use Rattle.ob_tree.proofs.RightReadings.{right}
use Rattle.ob_exprs.specs.Parsed.{IsExprVerdict, IsSpecVerdict}
use Rattle.ob_exprs.specs.ReadTokens.{reading}
use Rattle.ob_exprs.proofs.Exact.{exact-expr, exact-spec, machine as run_expr, spec_machine}

-- Only one verdict is right, where only one tree is at a place.
module _ {T : Type 0} (front deep : ℕ → Type 0) (from end : ℕ) (is : ℕ → T → Type 0) (placed : T → Type 0)
    (one : (i : ℕ) (t u : T) → is i t → is i u → placed t → placed u → t ≡ u) where
  same-place : (i j : ℕ) → IsLeastWithout front from end i → IsLeastWithout front from end j → i ≡ j
  same-place i j a b = go (cases_lt i j) (cases_lt j i)
    where
      go : (i < j) ⊎ (j ≤ i) → (j < i) ⊎ (i ≤ j) → i ≡ j
      go (inl h) k = absurd (a.without (b.before i a.at_least h))
      go (inr h) (inl k) = absurd (b.without (a.before j b.at_least k))
      go (inr h) (inr k) = omega arith

  stop-place : (i j : ℕ) → Stops front deep from end i → Stops front deep from end j → i ≡ j
  stop-place i j (inl a) (inl b) = same-place i j a.0 b.0
  stop-place i j (inl a) (inr b) = absurd (a.0.without (b.1 i a.0.at_least a.0.below))
  stop-place i j (inr a) (inl b) = absurd (b.0.without (a.1 j b.0.at_least b.0.below))
  stop-place i j (inr a) (inr b) = a.0 ∙ sym b.0

  not-deep : (i j : ℕ) → Stops front deep from end i → IsLeastWithout front from end j → deep j → ⊥
  not-deep i j (inl a) b d = a.1 (subst deep (same-place j i b a.0) d)
  not-deep i j (inr a) b d = b.without (a.1 j b.at_least b.below)

  one-verdict : (v w : Verdict T) → IsVerdict front deep from end is placed v → IsVerdict front deep from end is placed w → v ≡ w
  one-verdict (Whole t i) (Whole u j) a b =
      let e : i ≡ j = stop-place i j a.0 b.0 in
      ap (λ n. Whole t n) e ∙ ap (λ x. Whole x j) (one j t u (subst (λ n. is n t) e a.1) b.1 a.2 b.2)
  one-verdict (Whole t i) (NoTree j) a b = absurd (b.1 t (subst (λ n. is n t) (stop-place i j a.0 b.0) a.1))
  one-verdict (Whole t i) (TooDeep j) a b = absurd (not-deep i j a.0 b.0 b.1)
  one-verdict (NoTree i) (Whole u j) a b = absurd (a.1 u (subst (λ n. is n u) (stop-place j i b.0 a.0) b.1))
  one-verdict (NoTree i) (NoTree j) a b = ap NoTree (stop-place i j a.0 b.0)
  one-verdict (NoTree i) (TooDeep j) a b = absurd (not-deep i j a.0 b.0 b.1)
  one-verdict (TooDeep i) (Whole u j) a b = absurd (not-deep j i b.0 a.0 a.1)
  one-verdict (TooDeep i) (NoTree j) a b = absurd (not-deep j i b.0 a.0 a.1)
  one-verdict (TooDeep i) (TooDeep j) a b = ap TooDeep (same-place i j a.0 b.0)

pub stop-from : (front deep : ℕ → Type 0) (from end i : ℕ) → from ≤ end → Stops front deep from end i → (from ≤ i) × (i ≤ end)
stop-from front deep from end i h (inl a) = (a.0.at_least, omega (arith, a.0.below))
stop-from front deep from end i h (inr a) = (omega (arith, a.0), omega (arith, a.0))

module _ (ts : List Token) (from depth : ℕ) where
  pub one-expr : (level : ℕ) (v w : Verdict ExprTree) → IsExprVerdict ts from depth level v → IsExprVerdict ts from depth level w → v ≡ w
  one-expr level v w a b =
      one-verdict (FrontExpr ts from depth level) (DeepFrontExpr ts from level) from (length ts)
      (λ i e. IsExpr level (within depth) (kinds ts from i) e) (PlacedExpr (lines ts) from)
      (λ i e f x y p q. one-expression (lines ts) from e f x.valid.0 y.valid.0 p q (x.spelled ∙ sym y.spelled)) v w a b

  pub one-spec : (v w : Verdict SpecTree) → IsSpecVerdict ts from depth v → IsSpecVerdict ts from depth w → v ≡ w
  one-spec v w a b =
      one-verdict (FrontSpec ts from depth) (DeepFrontSpec ts from) from (length ts)
      (λ i s. IsSpec (within depth) (kinds ts from i) s) (PlacedSpec (lines ts) from)
      (λ i s t x y p q. one-specifier (lines ts) from s t x.valid y.valid p q (x.spelled ∙ sym y.spelled)) v w a b

-- nothing was read yet
start-run : (ts : List Token) (from least : ℕ) → run_expr (lines ts) least from (kinds ts from from) ≡ Some (BeforeOperand [])
start-run ts from least =
    let e : from - from ≡ 0 = omega arith in
    ap (λ n. run_expr (lines ts) least from (map (λ t. t.kind) (take n (drop from ts)))) e

start-spec : (ts : List Token) (from : ℕ) → spec_machine (lines ts) from (kinds ts from from) ≡ Some (Specifier [])
start-spec ts from =
    let e : from - from ≡ 0 = omega arith in
    ap (λ n. spec_machine (lines ts) from (map (λ t. t.kind) (take n (drop from ts)))) e

module _ (ts : List Token) (from depth : ℕ) (all : All (λ t. IsOfSource t.kind) ts) (f : from ≤ length ts) (b : depth ≤ 256) where
  pub expr-verdict : (level : ℕ) → level ≤ 2 → IsExprVerdict ts from depth level (verdict finish (reading ts level depth from (BeforeOperand [])))
  expr-verdict level small =
      right _ _ _ _ _ _ from depth (run_expr (lines ts) level from) (exact-expr (lines ts) level small from depth) ts all (drop from ts) from (BeforeOperand []) refl (omega arith) f
      (start-run ts from level) (omega arith) (λ j h g. absurd (omega arith))

  pub spec-verdict : IsSpecVerdict ts from depth (verdict finish_spec (reading ts 17 depth from (Specifier [])))
  spec-verdict =
      right _ _ _ _ _ _ from depth (spec_machine (lines ts) from) (exact-spec (lines ts) from depth) ts all (drop from ts) from (Specifier []) refl (omega arith) f
      (start-spec ts from) (omega arith) (λ j h g. absurd (omega arith))
