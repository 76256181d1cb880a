-- Which answer there is for the tokens from a place on: the expression of a level, or the specifier, that begins
-- there and goes on as far as any does, or the first token that can't stand where it stands.
use Rattle.std.specs.Prelude.{ℕ, List, length, Result, Ok, Err}
use Rattle.ob_tree.specs.declared.tokens.Token.{Token}
use Rattle.ob_tree.specs.declared.expressions.Expr.{Expr}
use Rattle.ob_tree.specs.declared.expressions.Spec.{Spec}
use Rattle.ob_tree.specs.declared.faults.SyntaxFault.{SyntaxFault}
use Rattle.ob_tree.specs.declared.faults.SyntaxFault.TheVariants as fault
use Rattle.ob_tree.specs.Trees.{ExprTree, SpecTree}
use Rattle.ob_tree.specs.ExpressionView.{expr_tree, spec_tree}
use Rattle.ob_tree.specs.Places.{PlacedExpr, PlacedSpec}
use Rattle.ob_tree.specs.Fronts.{kinds, lines, within, FrontExpr, DeepFrontExpr, IsExpr, FrontSpec, DeepFrontSpec, IsSpec}
use Rattle.ob_tree.specs.Verdicts.{Verdict, Whole, NoTree, TooDeep, IsVerdict}

abbrev pub IsExprVerdict : List Token → (from depth level : ℕ) → Verdict ExprTree → Type 0
IsExprVerdict ts from depth level v =
    IsVerdict (FrontExpr ts from depth level) (DeepFrontExpr ts from level) from (length ts)
    (λ i e. IsExpr level (within depth) (kinds ts from i) e) (PlacedExpr (lines ts) from) v

abbrev pub ParsedExpr : List Token → (from depth level : ℕ) → Result (Expr × ℕ) SyntaxFault → Type 0
ParsedExpr ts from depth level (Ok r) = IsExprVerdict ts from depth level (Whole (expr_tree r.0) r.1)
ParsedExpr ts from depth level (Err (fault.NoTree i)) = IsExprVerdict ts from depth level (NoTree i)
ParsedExpr ts from depth level (Err (fault.TooDeep i)) = IsExprVerdict ts from depth level (TooDeep i)
ParsedExpr ts from depth level (Err fault.NoMemory) = Unit {0}

abbrev pub IsSpecVerdict : List Token → (from depth : ℕ) → Verdict SpecTree → Type 0
IsSpecVerdict ts from depth v =
    IsVerdict (FrontSpec ts from depth) (DeepFrontSpec ts from) from (length ts)
    (λ i s. IsSpec (within depth) (kinds ts from i) s) (PlacedSpec (lines ts) from) v

abbrev pub ParsedSpec : List Token → (from depth : ℕ) → Result (Spec × ℕ) SyntaxFault → Type 0
ParsedSpec ts from depth (Ok r) = IsSpecVerdict ts from depth (Whole (spec_tree r.0) r.1)
ParsedSpec ts from depth (Err (fault.NoTree i)) = IsSpecVerdict ts from depth (NoTree i)
ParsedSpec ts from depth (Err (fault.TooDeep i)) = IsSpecVerdict ts from depth (TooDeep i)
ParsedSpec ts from depth (Err fault.NoMemory) = Unit {0}
