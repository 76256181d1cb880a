-- The loop that reads token by token.
use Rattle.std.proofs.Common.{◌≡◌, ℕ, zero, suc, ◌+◌, ◌-◌, ◌<◌, ◌≤◌, max, List, [], ◌∷◌, length, take, drop, map, get_or, false, Option, Some, None, cond, option_map, refl, sym, ◌∙◌, ap, subst, arith}
use Rattle.std.specs.Prelude.{nat_le, Err}
use Rattle.ob_tree.specs.declared.faults.SyntaxFault.{SyntaxFault}
use Rattle.ob_tree.specs.declared.faults.SyntaxFault.TheVariants as fault
use Rattle.ob_exprs.specs.declared.level.Level.{Level}
use Rattle.ob_exprs.specs.declared.level.Level.TheVariants as level
use Rattle.std.specs.List.{All}
use Rattle.std.proofs.lemmas.Bool.Decides.{nat_tests}
use Rattle.ob_tree.proofs.Unreduced.{le-yes}
use Rattle.ob_tree.specs.declared.tokens.Token.{Token}
use Rattle.ob_tree.specs.declared.expressions.Expr.{Expr}
use Rattle.ob_tree.specs.declared.expressions.Spec.{Spec}
use Rattle.ob_tree.specs.ExpressionView.{expr_tree, spec_tree}
use Rattle.ob_tree.specs.Places.{here}
use Rattle.ob_tree.specs.Valid.{IsOfSource}
use Rattle.ob_tree.specs.Fronts.{greatest_path, lines, kinds}
use Rattle.ob_tree.specs.Verdicts.{Whole, NoTree, TooDeep}
use Rattle.ob_tree.specs.ExprStates.{no_level, PendingNode, State, BeforeOperand, Specifier}
use Rattle.ob_tree.specs.ExprMachine.{shift, finish, finish_spec}
use Rattle.ob_tree.specs.Readings as machine
use Rattle.ob_tree.proofs.RightReadings as right_readings
use Rattle.ob_exprs.specs.declared.state.Mode.{Mode}
use Rattle.ob_exprs.specs.declared.state.Mode.TheVariants as mode
use Rattle.ob_exprs.specs.declared.reader.Reader.{Reader}
use Rattle.ob_exprs.specs.declared.reader.Shift.{Shift}
use Rattle.ob_exprs.specs.declared.reader.Shift.TheVariants as outcome
use Rattle.ob_exprs.specs.DeepestPaths.{level_number, depth_of, deepest_stack_path, deepest_path, newest_path}
use Rattle.ob_exprs.specs.Reading.{Shifts, held, mode_state, state_of}
use Rattle.ob_exprs.specs.ReadTokens.{reading, Leaves, Stands}
use Rattle.ob_exprs.specs.Parsed.{IsExprVerdict, IsSpecVerdict, ParsedExpr, ParsedSpec}
use Rattle.ob_exprs.proofs.Exact.{exact-expr, exact-spec, machine as run_expr, spec_machine}
use Rattle.ob_exprs.proofs.Heights.{depth-path}
use Rattle.ob_exprs.proofs.Light.{Light, shift-light}

drop-at : (ts : List Token) (i : ℕ) (d : Token) → i < length ts → drop i ts ≡ get_or ts i d ∷ drop (i + 1) ts
drop-at [] i d h = absurd (omega arith)
drop-at (t ∷ ts) zero d h = refl
drop-at (t ∷ ts) (suc i) d h =
    let e : suc i + 1 ≡ suc (i + 1) = omega arith in
    drop-at ts i d (omega arith) ∙ ap (λ k. get_or ts i d ∷ drop k (t ∷ ts)) (sym e)

drop-end : (ts : List Token) (i : ℕ) → length ts ≤ i → drop i ts ≡ []
drop-end [] zero h = refl
drop-end [] (suc i) h = refl
drop-end (t ∷ ts) zero h = absurd (omega arith)
drop-end (t ∷ ts) (suc i) h = drop-end ts i (omega arith)

pub lines-at : (ts : List Token) (i : ℕ) (d : Token) → i < length ts → lines ts i ≡ (get_or ts i d).span.line
lines-at [] i d h = absurd (omega arith)
lines-at (t ∷ ts) zero d h = refl
lines-at (t ∷ ts) (suc i) d h = lines-at ts i d (omega arith)

le-false : (a b : ℕ) → b < a → nat_le a b ≡ false
le-false a b h = grind (arith, nat_tests)

-- the pending nodes of a state have no more nodes than the state
stack-path : (r : Reader) → deepest_stack_path (held r.stack) ≤ deepest_path (state_of r)
stack-path r = go r.mode
  where
    go : (m : Mode) → deepest_stack_path (held r.stack) ≤ deepest_path (mode_state m (held r.stack))
    go mode.BeforeOperand = omega arith
    go (mode.Open p) = omega arith
    go (mode.Size p) = omega arith
    go (mode.SizeOpen p q) = omega arith
    go (mode.Called p name) = omega arith
    go (mode.Select p arrow b) = omega arith
    go (mode.AfterOperand e) = omega arith
    go mode.Specifier = omega arith
    go (mode.StructWord f) = omega arith
    go (mode.Members b) = omega arith
    go (mode.Declare l n) = omega arith
    go (mode.Dims h ds) = omega arith
    go (mode.AfterSpec s) = omega arith

-- nothing was read yet
start-run : (ts : List Token) (from least : ℕ) → run_expr (lines ts) least from (kinds ts from from) ≡ Some (BeforeOperand [])
start-run ts from least =
    let e : from - from ≡ 0 = omega arith in
    ap (λ n. run_expr (lines ts) least from (map (λ t. t.kind) (take n (drop from ts)))) e

start-spec : (ts : List Token) (from : ℕ) → spec_machine (lines ts) from (kinds ts from from) ≡ Some (Specifier [])
start-spec ts from =
    let e : from - from ≡ 0 = omega arith in
    ap (λ n. spec_machine (lines ts) from (map (λ t. t.kind) (take n (drop from ts)))) e

-- one token
reading-turn : (ts : List Token) (least depth i : ℕ) (d : Token) (s : State) → i < length ts
    → reading ts least depth i s ≡ machine.turn deepest_path depth i s (λ t. reading ts least depth (i + 1) t) (shift least (here (lines ts) i) (get_or ts i d).kind s)
reading-turn ts least depth i d s h = ap (λ l. machine.read (λ q k t. shift least (here (lines ts) q) k t) deepest_path depth i (map (λ t. t.kind) l) s) (drop-at ts i d h)

-- what the loop keeps
pub record Kept (ts : List Token) (least depth : ℕ) (left : machine.Reading State) (i : ℕ) (r : Reader) : Type 0 where
  pub reads : left ≡ reading ts least depth i (state_of r)
  pub limit : depth + deepest_path (state_of r) ≤ greatest_path
  pub shallow : depth_of (held r.stack) ≤ 1000

module _ (ts : List Token) (least depth : ℕ) (left : machine.Reading State) (i : ℕ) (d t : Token) (r : Reader) (b : i < length ts) (q : t ≡ get_or ts i d) (k : Kept ts least depth left i r)
    (a : Shift) (given : Shifts (state_of r) a (shift least (record { first = i; at = i; line = t.span.line }) t.kind (state_of r))) where
  g : Shifts (state_of r) a (shift least (here (lines ts) i) (get_or ts i d).kind (state_of r))
  g =
      subst (λ n. Shifts (state_of r) a (shift least (record { first = i; at = i; line = n }) (get_or ts i d).kind (state_of r))) (sym (lines-at ts i d b))
      (subst (λ u. Shifts (state_of r) a (shift least (record { first = i; at = i; line = u.span.line }) u.kind (state_of r))) q given)

  -- what the machine's shift leads to
  turned : (o : Option State) → shift least (here (lines ts) i) (get_or ts i d).kind (state_of r) ≡ o → left ≡ machine.turn deepest_path depth i (state_of r) (λ t. reading ts least depth (i + 1) t) o
  turned o e = k.reads ∙ reading-turn ts least depth i d (state_of r) b ∙ ap (λ x. machine.turn deepest_path depth i (state_of r) (λ t. reading ts least depth (i + 1) t) x) e

  answer-is : (x : Shift) → a ≡ x → Shifts (state_of r) x (shift least (here (lines ts) i) (get_or ts i d).kind (state_of r))
  answer-is x e = subst (λ y. Shifts (state_of r) y (shift least (here (lines ts) i) (get_or ts i d).kind (state_of r))) e g

  next-path : (next : Reader) → a ≡ outcome.Shifted next → deepest_path (state_of next) ≤ max (deepest_path (state_of r)) (newest_path (state_of next))
  next-path next e = subst (Light (deepest_path (state_of r))) (answer-is (outcome.Shifted next) e) (shift-light least (here (lines ts) i) (get_or ts i d).kind (state_of r))

  pub goes-on : (next : Reader) → a ≡ outcome.Shifted next → newest_path (state_of next) ≤ greatest_path - depth → depth ≤ greatest_path → Kept ts least depth left (i + 1) next
  goes-on next e n h =
      let l : depth + deepest_path (state_of next) ≤ greatest_path = omega (arith, next-path next e, k.limit) in
      record {
        reads = turned (Some (state_of next)) (answer-is (outcome.Shifted next) e) ∙ ap (λ c. cond c (reading ts least depth (i + 1) (state_of next)) (machine.Deep i)) (le-yes (depth + deepest_path (state_of next)) greatest_path l);
        limit = l;
        shallow = shallow-state next l;
      }
    where
      shallow-state : (next : Reader) → depth + deepest_path (state_of next) ≤ greatest_path → depth_of (held next.stack) ≤ 1000
      shallow-state next l = omega (arith, depth-path (held next.stack), stack-path next)

  pub too-deep : (next : Reader) → a ≡ outcome.Shifted next → greatest_path - depth < newest_path (state_of next) → left ≡ machine.Deep i
  too-deep next e n =
      let l : greatest_path < depth + deepest_path (state_of next) = omega arith in
      turned (Some (state_of next)) (answer-is (outcome.Shifted next) e) ∙ ap (λ c. cond c (reading ts least depth (i + 1) (state_of next)) (machine.Deep i)) (le-false (depth + deepest_path (state_of next)) greatest_path l)

  pub stays : (rest : Reader) → a ≡ outcome.Ended rest → Stands left i rest
  stays rest e =
      let h = answer-is (outcome.Ended rest) e in
      record { state = state_of r; reached = turned None h.0; finishes = h.1; finishes_spec = h.2; small = omega (arith, h.3, k.limit) }

  pub stuck : (rest : Reader) → a ≡ outcome.Rejected → state_of rest ≡ BeforeOperand [] → Stands left i rest
  stuck rest e n =
      let h = answer-is outcome.Rejected e in
      record { state = state_of r; reached = turned None h.0; finishes = ap finish n ∙ sym h.1; finishes_spec = ap finish_spec n ∙ sym h.2; small = omega (arith, ap deepest_path n) }

at-length : (ts : List Token) (least depth : ℕ) (left : machine.Reading State) (r : Reader) → Kept ts least depth left (length ts) r → Stands left (length ts) r
at-length ts least depth left r k =
    let e : reading ts least depth (length ts) (state_of r) ≡ machine.Reached (length ts) (state_of r) =
    ap (λ l. machine.read (λ q k t. shift least (here (lines ts) q) k t) deepest_path depth (length ts) (map (λ t. t.kind) l) (state_of r)) (drop-end ts (length ts) (omega arith)) in
    record { state = state_of r; reached = k.reads ∙ e; finishes = refl; finishes_spec = refl; small = omega (arith, k.limit) }

pub at-end : (ts : List Token) (least depth : ℕ) (left : machine.Reading State) (i : ℕ) (r : Reader) → i ≡ length ts → Kept ts least depth left i r → Stands left (length ts) r
at-end ts least depth left i r e k = at-length ts least depth left r (subst (λ j. Kept ts least depth left j r) e k)

-- the verdict on expressions
module _ (ts : List Token) (from depth least : ℕ) (small : least ≤ 2) (all : All (λ t. IsOfSource t.kind) ts) (f : from ≤ length ts) (b : depth ≤ greatest_path) where
  expr-verdict : IsExprVerdict ts from depth least (machine.verdict finish (reading ts least depth from (BeforeOperand [])))
  expr-verdict = right_readings.right _ _ _ _ _ _ from depth (run_expr (lines ts) least from) (exact-expr (lines ts) least small from depth) ts all (drop from ts) from (BeforeOperand []) refl (omega arith) f (start-run ts from least) (omega arith) (λ j h g. absurd (omega arith))

  pub expr-found : (i : ℕ) (r : Reader) (o : Option Expr) (e : Expr) → Stands (reading ts least depth from (BeforeOperand [])) i r → option_map expr_tree o ≡ finish (state_of r) → o ≡ Some e
      → IsExprVerdict ts from depth least (Whole (expr_tree e) i)
  expr-found i r o e s h g =
      let q : finish s.state ≡ Some (expr_tree e) = sym s.finishes ∙ sym h ∙ ap (option_map expr_tree) g in
      subst (IsExprVerdict ts from depth least) (ap (machine.verdict finish) s.reached ∙ ap (machine.found i) q) expr-verdict

  pub expr-none : (i : ℕ) (r : Reader) (o : Option Expr) → Stands (reading ts least depth from (BeforeOperand [])) i r → option_map expr_tree o ≡ finish (state_of r) → o ≡ None
      → IsExprVerdict ts from depth least (NoTree i)
  expr-none i r o s h g =
      let q : finish s.state ≡ None = sym s.finishes ∙ sym h ∙ ap (option_map expr_tree) g in
      subst (IsExprVerdict ts from depth least) (ap (machine.verdict finish) s.reached ∙ ap (machine.found i) q) expr-verdict

  pub expr-deep : (i : ℕ) → reading ts least depth from (BeforeOperand []) ≡ machine.Deep i → IsExprVerdict ts from depth least (TooDeep i)
  expr-deep i e = subst (IsExprVerdict ts from depth least) (ap (machine.verdict finish) e) expr-verdict

-- and on specifiers
module _ (ts : List Token) (from depth : ℕ) (all : All (λ t. IsOfSource t.kind) ts) (f : from ≤ length ts) (b : depth ≤ greatest_path) where
  spec-verdict : IsSpecVerdict ts from depth (machine.verdict finish_spec (reading ts no_level depth from (Specifier [])))
  spec-verdict = right_readings.right _ _ _ _ _ _ from depth (spec_machine (lines ts) from) (exact-spec (lines ts) from depth) ts all (drop from ts) from (Specifier []) refl (omega arith) f (start-spec ts from) (omega arith) (λ j h g. absurd (omega arith))

  pub spec-found : (i : ℕ) (r : Reader) (o : Option Spec) (e : Spec) → Stands (reading ts no_level depth from (Specifier [])) i r → option_map spec_tree o ≡ finish_spec (state_of r) → o ≡ Some e
      → IsSpecVerdict ts from depth (Whole (spec_tree e) i)
  spec-found i r o e s h g =
      let q : finish_spec s.state ≡ Some (spec_tree e) = sym s.finishes_spec ∙ sym h ∙ ap (option_map spec_tree) g in
      subst (IsSpecVerdict ts from depth) (ap (machine.verdict finish_spec) s.reached ∙ ap (machine.found i) q) spec-verdict

  pub spec-none : (i : ℕ) (r : Reader) (o : Option Spec) → Stands (reading ts no_level depth from (Specifier [])) i r → option_map spec_tree o ≡ finish_spec (state_of r) → o ≡ None
      → IsSpecVerdict ts from depth (NoTree i)
  spec-none i r o s h g =
      let q : finish_spec s.state ≡ None = sym s.finishes_spec ∙ sym h ∙ ap (option_map spec_tree) g in
      subst (IsSpecVerdict ts from depth) (ap (machine.verdict finish_spec) s.reached ∙ ap (machine.found i) q) spec-verdict

  pub spec-deep : (i : ℕ) → reading ts no_level depth from (Specifier []) ≡ machine.Deep i → IsSpecVerdict ts from depth (TooDeep i)
  spec-deep i e = subst (IsSpecVerdict ts from depth) (ap (machine.verdict finish_spec) e) spec-verdict

level_number-low : (l : Level) → level_number l ≤ 2
level_number-low level.Comma = omega arith
level_number-low level.Assign = omega arith
level_number-low level.Cond = omega arith

-- what the parser of expressions answers
module _ (ts : List Token) (from depth : ℕ) (l : Level) (n : ℕ) (fs : List PendingNode) (e1 : n ≡ level_number l) (e2 : fs ≡ []) (all : All (λ t. IsOfSource t.kind) ts) (f : from ≤ length ts) (b : depth ≤ greatest_path) where
  same : reading ts n depth from (BeforeOperand fs) ≡ reading ts (level_number l) depth from (BeforeOperand [])
  same = ap (λ m. reading ts m depth from (BeforeOperand fs)) e1 ∙ ap (λ gs. reading ts (level_number l) depth from (BeforeOperand gs)) e2

  pub parsed-some : (i : ℕ) (r : Reader) (o : Option Expr) (e : Expr) → Stands (reading ts n depth from (BeforeOperand fs)) i r → option_map expr_tree o ≡ finish (state_of r) → o ≡ Some e
      → IsExprVerdict ts from depth (level_number l) (Whole (expr_tree e) i)
  parsed-some i r o e s h g = expr-found ts from depth (level_number l) (level_number-low l) all f b i r o e (subst (λ x. Stands x i r) same s) h g

  pub parsed-none : (i : ℕ) (r : Reader) (o : Option Expr) → Stands (reading ts n depth from (BeforeOperand fs)) i r → option_map expr_tree o ≡ finish (state_of r) → o ≡ None
      → IsExprVerdict ts from depth (level_number l) (NoTree i)
  parsed-none i r o s h g = expr-none ts from depth (level_number l) (level_number-low l) all f b i r o (subst (λ x. Stands x i r) same s) h g

  pub parsed-fault : (x : SyntaxFault) → Leaves (reading ts n depth from (BeforeOperand fs)) (Err x) → ParsedExpr ts from depth (level_number l) (Err x)
  parsed-fault (fault.NoTree i) h = absurd h
  parsed-fault (fault.TooDeep i) h = expr-deep ts from depth (level_number l) (level_number-low l) all f b i (sym same ∙ h)
  parsed-fault fault.NoMemory h = tt

-- what the parser of specifiers answers
module _ (ts : List Token) (from depth : ℕ) (fs : List PendingNode) (e : fs ≡ []) (all : All (λ t. IsOfSource t.kind) ts) (f : from ≤ length ts) (b : depth ≤ greatest_path) where
  same-spec : reading ts no_level depth from (Specifier fs) ≡ reading ts no_level depth from (Specifier [])
  same-spec = ap (λ gs. reading ts no_level depth from (Specifier gs)) e

  pub spec-some : (i : ℕ) (r : Reader) (o : Option Spec) (s : Spec) → Stands (reading ts no_level depth from (Specifier fs)) i r → option_map spec_tree o ≡ finish_spec (state_of r) → o ≡ Some s
      → IsSpecVerdict ts from depth (Whole (spec_tree s) i)
  spec-some i r o s k h g = spec-found ts from depth all f b i r o s (subst (λ x. Stands x i r) same-spec k) h g

  pub spec-no : (i : ℕ) (r : Reader) (o : Option Spec) → Stands (reading ts no_level depth from (Specifier fs)) i r → option_map spec_tree o ≡ finish_spec (state_of r) → o ≡ None
      → IsSpecVerdict ts from depth (NoTree i)
  spec-no i r o k h g = spec-none ts from depth all f b i r o (subst (λ x. Stands x i r) same-spec k) h g

  pub spec-fault : (x : SyntaxFault) → Leaves (reading ts no_level depth from (Specifier fs)) (Err x) → ParsedSpec ts from depth (Err x)
  spec-fault (fault.NoTree i) h = absurd h
  spec-fault (fault.TooDeep i) h = spec-deep ts from depth all f b i (sym same-spec ∙ h)
  spec-fault fault.NoMemory h = tt
