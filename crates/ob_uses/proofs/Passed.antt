-- Arguments that become the parameters' types, one after another.
use Rattle.std.proofs.Common.{◌≡◌, ℕ, zero, suc, ◌+◌, Bool, true, false, Some, None, List, [], ◌∷◌, ◌++◌, drop, reverse, refl, sym, ap, ◌∙◌, add-one, Ok, Err}
use Rattle.std.specs.Prelude.{if◌then◌else◌, slice_get}
use Rattle.std.proofs.lemmas.List.{reverse-append}
use Rattle.ob_tree.specs.declared.faults.TypeKind.TheVariants as kind
use Rattle.ob_tree.specs.declared.faults.TypeFault.{TypeFault}
use Rattle.ob_tree.specs.declared.faults.TypeFault.TheVariants as code
use Rattle.ob_tree.specs.Trees.{Mark}
use Rattle.ob_tree.specs.Types.{PlainType}
use Rattle.ob_typed.specs.Conversions.{as_type, fits, value}
use Rattle.ob_typed.specs.Faults.{Answer, Fault, fault, then_rule}
use Rattle.ob_typed.specs.PostfixRules.{Argument as PlainArgument, passed}
use Rattle.ob_typed.specs.TypedTree.{TypedExpr}
use Rattle.ob_conversions.specs.Gives.{Gives}
use Rattle.ob_uses.specs.declared.arguments.Argument.{Argument}
use Rattle.ob_uses.specs.ArgumentView.{argument, arguments}
use Rattle.ob_uses.specs.Passing.{converted}

abbrev Passed : Type 0
Passed = Answer (List TypedExpr)

types_at : (ts : List PlainType) (i : ℕ) (t : PlainType) → Some t ≡ slice_get ts i → drop i ts ≡ t ∷ drop (suc i) ts
types_at [] i t is = absurd (cc)
types_at (u ∷ ts) zero t is = let e : t ≡ u = cc in ap (λ x. x ∷ ts) (sym e)
types_at (u ∷ ts) (suc i) t is = types_at ts i t is

types_past : (ts : List PlainType) (i : ℕ) → None ≡ slice_get ts i → drop i ts ≡ []
types_past [] zero is = refl
types_past [] (suc i) is = refl
types_past (u ∷ ts) zero is = absurd (cc)
types_past (u ∷ ts) (suc i) is = types_past ts i is

chosen : (b : Bool) (e : TypedExpr) (place : ℕ) (k : TypedExpr → Passed) →
    (if b then k e else fault kind.Assign place) ≡ then_rule (if b then Ok e else fault kind.Assign place) k
chosen true e place k = refl
chosen false e place k = refl

-- the rest, after one more argument
abbrev after : Mark → (done : List TypedExpr) → List PlainArgument → List PlainType → TypedExpr → Passed
after m done given ts e = passed m (done ++ e ∷ []) given ts

pass_turn : (m : Mark) (start : Passed) (done : List TypedExpr) (old rest : List Argument) (a : Argument) (ts : List PlainType) (i : ℕ) (t : PlainType) →
    start ≡ passed m done (arguments (reverse old)) (drop i ts) → old ≡ rest ++ a ∷ [] → Some t ≡ slice_get ts i →
    start ≡ then_rule (converted (argument a) t) (after m done (arguments (reverse rest)) (drop (suc i) ts))
pass_turn m start done old rest a ts i t before popped is =
    before ∙ ap (λ xs. passed m done (arguments (reverse xs)) (drop i ts)) popped
    ∙ ap (λ xs. passed m done (arguments xs) (drop i ts)) (reverse-append rest (a ∷ []))
    ∙ ap (λ us. passed m done (argument a ∷ arguments (reverse rest)) us) (types_at ts i t is)
    ∙ chosen (fits (argument a).is t) (as_type (value (argument a).is) t) a.first (after m done (arguments (reverse rest)) (drop (suc i) ts))

rule_on : (x : Answer TypedExpr) (done new : List TypedExpr) (m : Mark) (given : List PlainArgument) (ts : List PlainType) →
    then_rule x (λ e. Ok (done ++ e ∷ [])) ≡ Ok new → then_rule x (after m done given ts) ≡ passed m new given ts
rule_on (Ok e) done new m given ts is = let same : done ++ e ∷ [] ≡ new = cc in ap (λ d. passed m d given ts) same
rule_on (Err f) done new m given ts is = absurd (cc)

rule_fault : (x : Answer TypedExpr) (done : List TypedExpr) (f : Fault) (k : TypedExpr → Passed) → then_rule x (λ e. Ok (done ++ e ∷ [])) ≡ Err f → then_rule x k ≡ Err f
rule_fault (Ok e) done f k is = absurd (cc)
rule_fault (Err g) done f k is = let same : g ≡ f = cc in ap (λ h. Err h) same

-- one more argument is passed
pub pass_on : (m : Mark) (start : Passed) (done new : List TypedExpr) (old rest : List Argument) (a : Argument) (ts : List PlainType) (i : ℕ) (t : PlainType) →
    start ≡ passed m done (arguments (reverse old)) (drop i ts) → old ≡ rest ++ a ∷ [] → Some t ≡ slice_get ts i →
    then_rule (converted (argument a) t) (λ e. Ok (done ++ e ∷ [])) ≡ Ok new → start ≡ passed m new (arguments (reverse rest)) (drop (i + 1) ts)
pass_on m start done new old rest a ts i t before popped is one =
    pass_turn m start done old rest a ts i t before popped is
    ∙ rule_on (converted (argument a) t) done new m (arguments (reverse rest)) (drop (suc i) ts) one
    ∙ ap (λ n. passed m new (arguments (reverse rest)) (drop n ts)) (sym (add-one i))

-- one isn't
pass_fault : (m : Mark) (start : Passed) (done : List TypedExpr) (old rest : List Argument) (a : Argument) (ts : List PlainType) (i : ℕ) (t : PlainType) (f : Fault) →
    start ≡ passed m done (arguments (reverse old)) (drop i ts) → old ≡ rest ++ a ∷ [] → Some t ≡ slice_get ts i →
    then_rule (converted (argument a) t) (λ e. Ok (done ++ e ∷ [])) ≡ Err f → start ≡ Err f
pass_fault m start done old rest a ts i t f before popped is one =
    pass_turn m start done old rest a ts i t before popped is
    ∙ rule_fault (converted (argument a) t) done f (after m done (arguments (reverse rest)) (drop (suc i) ts)) one

pub pass_err : {A B : Type 0} (v : A → List TypedExpr) (w : B → List TypedExpr) (y : TypeFault) (m : Mark) (start : Passed) (done : List TypedExpr) (old rest : List Argument) (a : Argument) (ts : List PlainType) (i : ℕ) (t : PlainType) →
    start ≡ passed m done (arguments (reverse old)) (drop i ts) → old ≡ rest ++ a ∷ [] → Some t ≡ slice_get ts i →
    Gives v (Err y) (then_rule (converted (argument a) t) (λ e. Ok (done ++ e ∷ []))) → Gives w (Err y) start
pass_err v w (code.Fault kind place) m start done old rest a ts i t before popped is one =
    pass_fault m start done old rest a ts i t (record { kind = kind; place = place }) before popped is one
pass_err v w code.NoMemory m start done old rest a ts i t before popped is one = tt

-- there are too many
pub pass_many : (m : Mark) (start : Passed) (done : List TypedExpr) (old rest : List Argument) (a : Argument) (ts : List PlainType) (i : ℕ) →
    start ≡ passed m done (arguments (reverse old)) (drop i ts) → old ≡ rest ++ a ∷ [] → None ≡ slice_get ts i → start ≡ fault kind.Count m.first
pass_many m start done old rest a ts i before popped is =
    before ∙ ap (λ xs. passed m done (arguments (reverse xs)) (drop i ts)) popped
    ∙ ap (λ xs. passed m done (arguments xs) (drop i ts)) (reverse-append rest (a ∷ []))
    ∙ ap (λ us. passed m done (argument a ∷ arguments (reverse rest)) us) (types_past ts i is)

-- there are too few
pub pass_few : (m : Mark) (start : Passed) (done : List TypedExpr) (old : List Argument) (ts : List PlainType) (i : ℕ) (t : PlainType) →
    start ≡ passed m done (arguments (reverse old)) (drop i ts) → old ≡ [] → Some t ≡ slice_get ts i → start ≡ fault kind.Count m.first
pass_few m start done old ts i t before none is =
    before ∙ ap (λ xs. passed m done (arguments (reverse xs)) (drop i ts)) none ∙ ap (λ us. passed m done [] us) (types_at ts i t is)

-- all are passed
pub pass_all : (m : Mark) (start : Passed) (done : List TypedExpr) (old : List Argument) (ts : List PlainType) (i : ℕ) →
    start ≡ passed m done (arguments (reverse old)) (drop i ts) → old ≡ [] → None ≡ slice_get ts i → start ≡ Ok done
pass_all m start done old ts i before none is =
    before ∙ ap (λ xs. passed m done (arguments (reverse xs)) (drop i ts)) none ∙ ap (λ us. passed m done [] us) (types_past ts i is)
