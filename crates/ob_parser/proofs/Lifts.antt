-- Reading an expression or a specifier by itself, and going on behind it, is reading it within the program.
use Rattle.std.proofs.Common.{◌≡◌, ℕ, suc, ◌+◌, ◌-◌, ◌≤◌, max, List, [], ◌∷◌, drop, Bool, true, false, Option, Some, None, cond, refl, sym, ◌∙◌, ap, arith}
use Rattle.std.specs.Prelude.{nat_le}
use Rattle.std.proofs.lemmas.Bool.Decides.{nat_tests}
use Rattle.ob_tree.specs.declared.tokens.TokenKind.{TokenKind}
use Rattle.ob_tree.specs.Trees.{ExprTree, SpecTree}
use Rattle.ob_tree.specs.Programs.{ProgramTree}
use Rattle.ob_tree.specs.Places.{here}
use Rattle.ob_tree.specs.Verdicts.{Verdict, Whole, NoTree, TooDeep}
use Rattle.ob_tree.specs.ExprMachine as reader
use Rattle.ob_tree.specs.Readings.{Reading, Deep, turn, read, found, verdict}
use Rattle.ob_tree.specs.ProgramStates as program
use Rattle.ob_tree.specs.ProgramStates.{SpecContext, ExprContext, State, Specifying}
use Rattle.ob_tree.specs.ProgramMachine.{context_level, used, read_to, read_whole, specified, specify_to, shift, finish}
use Rattle.ob_exprs.specs.DeepestPaths as loads
use Rattle.ob_parser.specs.DeepestPaths.{spec_depth, spec_path, context_depth, context_path, deepest_path}

-- a limit that one of two keeps is kept by both where the other one keeps it
max-test : (a b : ℕ) → a ≤ 256 → nat_le (0 + max a b) 256 ≡ nat_le b 256
max-test a b h = grind (arith, nat_tests)

module _ (lines : ℕ → ℕ) where
  -- reading a program from a state on
  abbrev pub reading : (p : ℕ) → List TokenKind → State → Reading State
  reading p ks s = read (λ q k s. shift (here lines q) k s) deepest_path 0 p ks s

  -- reading an expression for this, and a specifier
  abbrev pub expr_reading : ExprContext → (p : ℕ) → List TokenKind → reader.State → Reading reader.State
  expr_reading u p ks s = read (λ q k s. reader.shift (context_level u) (here lines q) k s) loads.deepest_path (context_depth u) p ks s

  abbrev pub spec_reading : SpecContext → (p : ℕ) → List TokenKind → reader.State → Reading reader.State
  spec_reading u p ks s = read (λ q k s. reader.shift 17 (here lines q) k s) loads.deepest_path (spec_depth u) p ks s

  -- what the answer is behind one more token, at place p
  abbrev pub turned : (p : ℕ) → List TokenKind → Option State → Verdict ProgramTree
  turned p ks None = NoTree p
  turned p ks (Some t) = verdict finish (cond (nat_le (0 + deepest_path t) 256) (reading (p + 1) ks t) (Deep p))

  -- what it is behind an expression, and behind a specifier
  abbrev pub behind_expr : ExprContext → ExprTree → (p : ℕ) → List TokenKind → Verdict ProgramTree
  behind_expr u e p [] = NoTree p
  behind_expr u e p (k ∷ ks) = turned p ks (used k u (Some e))

  abbrev pub behind_spec : SpecContext → SpecTree → (p : ℕ) → List TokenKind → Verdict ProgramTree
  behind_spec u s p [] = NoTree p
  behind_spec u s p (k ∷ ks) = turned p ks (specified (here lines p) k u (Some s))

  abbrev pub after_expr : ExprContext → (p : ℕ) → List TokenKind → Verdict ExprTree → Verdict ProgramTree
  after_expr u p ks (Whole e i) = behind_expr u e i (drop (i - p) ks)
  after_expr u p ks (NoTree i) = NoTree i
  after_expr u p ks (TooDeep i) = TooDeep i

  abbrev pub after_spec : SpecContext → (p : ℕ) → List TokenKind → Verdict SpecTree → Verdict ProgramTree
  after_spec u p ks (Whole s i) = behind_spec u s i (drop (i - p) ks)
  after_spec u p ks (NoTree i) = NoTree i
  after_spec u p ks (TooDeep i) = TooDeep i

  -- where an answer is found
  abbrev IsFrom : {T : Type 0} → ℕ → Verdict T → Type 0
  IsFrom p (Whole t i) = p ≤ i
  IsFrom p (NoTree i) = p ≤ i
  IsFrom p (TooDeep i) = p ≤ i

  found-from : {T : Type 0} (p : ℕ) (o : Option T) → IsFrom p (found p o)
  found-from p None = omega arith
  found-from p (Some t) = omega arith

  from-less : {T : Type 0} (p : ℕ) (v : Verdict T) → IsFrom (p + 1) v → IsFrom p v
  from-less p (Whole t i) h = omega arith
  from-less p (NoTree i) h = omega arith
  from-less p (TooDeep i) h = omega arith

  expr-from : (u : ExprContext) (ks : List TokenKind) (p : ℕ) (s : reader.State) → IsFrom p (verdict reader.finish (expr_reading u p ks s))
  expr-from u [] p s = found-from p (reader.finish s)
  expr-from u (k ∷ ks) p s = go (reader.shift (context_level u) (here lines p) k s) (λ t. from-less p (verdict reader.finish (expr_reading u (p + 1) ks t)) (expr-from u ks (p + 1) t))
    where
      go : (o : Option reader.State) → ((t : reader.State) → IsFrom p (verdict reader.finish (expr_reading u (p + 1) ks t)))
          → IsFrom p (verdict reader.finish (turn loads.deepest_path (context_depth u) p s (λ t. expr_reading u (p + 1) ks t) o))
      go None again = found-from p (reader.finish s)
      go (Some t) again = test (nat_le (context_depth u + loads.deepest_path t) 256)
        where
          test : (b : Bool) → IsFrom p (verdict reader.finish (cond b (expr_reading u (p + 1) ks t) (Deep p)))
          test true = again t
          test false = omega arith

  -- one place further on
  behind-more : (u : ExprContext) (p : ℕ) (k : TokenKind) (ks : List TokenKind) (v : Verdict ExprTree) → IsFrom (p + 1) v → after_expr u (p + 1) ks v ≡ after_expr u p (k ∷ ks) v
  behind-more u p k ks (Whole e i) h =
      let n : i - p ≡ suc (i - (p + 1)) = omega arith in ap (λ z. behind_expr u e i (drop z (k ∷ ks))) (sym n)
  behind-more u p k ks (NoTree i) h = refl
  behind-more u p k ks (TooDeep i) h = refl

  -- the answer where the expression stops before this token
  stop-here : (u : ExprContext) (p : ℕ) (k : TokenKind) (ks : List TokenKind) (s : reader.State) (o : Option ExprTree) → reader.finish s ≡ o
      → verdict finish (turn deepest_path 0 p (program.Reading u s) (λ t. reading (p + 1) ks t) (read_whole k u o)) ≡ after_expr u p (k ∷ ks) (found p o)
  stop-here u p k ks s None e = refl
  stop-here u p k ks s (Some x) e =
      let n : p - p ≡ 0 = omega arith in
      go (used k u (Some x)) ∙ ap (λ z. behind_expr u x p (drop z (k ∷ ks))) (sym n)
    where
      go : (o : Option State) → verdict finish (turn deepest_path 0 p (program.Reading u s) (λ t. reading (p + 1) ks t) o) ≡ turned p ks o
      go None = refl
      go (Some t) = refl

  stop-end : (u : ExprContext) (p : ℕ) (s : reader.State) (o : Option ExprTree) → NoTree p ≡ after_expr u p [] (found p o)
  stop-end u p s None = refl
  stop-end u p s (Some x) = let n : p - p ≡ 0 = omega arith in ap (λ z. behind_expr u x p (drop z [])) (sym n)

  pub expr-answer : (u : ExprContext) (ks : List TokenKind) (p : ℕ) (s : reader.State) → context_path u ≤ 256
      → verdict finish (reading p ks (program.Reading u s)) ≡ after_expr u p ks (verdict reader.finish (expr_reading u p ks s))
  expr-answer u [] p s l = stop-end u p s (reader.finish s)
  expr-answer u (k ∷ ks) p s l =
      go (reader.shift (context_level u) (here lines p) k s)
      (λ t. expr-answer u ks (p + 1) t l ∙ behind-more u p k ks (verdict reader.finish (expr_reading u (p + 1) ks t)) (expr-from u ks (p + 1) t))
    where
      go : (o : Option reader.State)
          → ((t : reader.State) → verdict finish (reading (p + 1) ks (program.Reading u t)) ≡ after_expr u p (k ∷ ks) (verdict reader.finish (expr_reading u (p + 1) ks t)))
          → verdict finish (turn deepest_path 0 p (program.Reading u s) (λ t. reading (p + 1) ks t) (read_to k u s o))
          ≡ after_expr u p (k ∷ ks) (verdict reader.finish (turn loads.deepest_path (context_depth u) p s (λ t. expr_reading u (p + 1) ks t) o))
      go None again = stop-here u p k ks s (reader.finish s) refl
      go (Some t) again =
          ap (λ b. verdict finish (cond b (reading (p + 1) ks (program.Reading u t)) (Deep p))) (max-test (context_path u) (context_depth u + loads.deepest_path t) l)
          ∙ test (nat_le (context_depth u + loads.deepest_path t) 256)
        where
          test : (b : Bool) → verdict finish (cond b (reading (p + 1) ks (program.Reading u t)) (Deep p))
              ≡ after_expr u p (k ∷ ks) (verdict reader.finish (cond b (expr_reading u (p + 1) ks t) (Deep p)))
          test true = again t
          test false = refl

  spec-from : (u : SpecContext) (ks : List TokenKind) (p : ℕ) (s : reader.State) → IsFrom p (verdict reader.finish_spec (spec_reading u p ks s))
  spec-from u [] p s = found-from p (reader.finish_spec s)
  spec-from u (k ∷ ks) p s = go (reader.shift 17 (here lines p) k s) (λ t. from-less p (verdict reader.finish_spec (spec_reading u (p + 1) ks t)) (spec-from u ks (p + 1) t))
    where
      go : (o : Option reader.State) → ((t : reader.State) → IsFrom p (verdict reader.finish_spec (spec_reading u (p + 1) ks t)))
          → IsFrom p (verdict reader.finish_spec (turn loads.deepest_path (spec_depth u) p s (λ t. spec_reading u (p + 1) ks t) o))
      go None again = found-from p (reader.finish_spec s)
      go (Some t) again = test (nat_le (spec_depth u + loads.deepest_path t) 256)
        where
          test : (b : Bool) → IsFrom p (verdict reader.finish_spec (cond b (spec_reading u (p + 1) ks t) (Deep p)))
          test true = again t
          test false = omega arith

  spec-more : (u : SpecContext) (p : ℕ) (k : TokenKind) (ks : List TokenKind) (v : Verdict SpecTree) → IsFrom (p + 1) v → after_spec u (p + 1) ks v ≡ after_spec u p (k ∷ ks) v
  spec-more u p k ks (Whole s i) h =
      let n : i - p ≡ suc (i - (p + 1)) = omega arith in ap (λ z. behind_spec u s i (drop z (k ∷ ks))) (sym n)
  spec-more u p k ks (NoTree i) h = refl
  spec-more u p k ks (TooDeep i) h = refl

  no-specified : (u : SpecContext) (p : ℕ) (k : TokenKind) → specified (here lines p) k u None ≡ None
  no-specified (program.ForDeclaration h) p k = refl
  no-specified (program.ForParam l f n) p k = refl

  spec-stop : (u : SpecContext) (p : ℕ) (k : TokenKind) (ks : List TokenKind) (s : reader.State) (o : Option SpecTree) → reader.finish_spec s ≡ o
      → verdict finish (turn deepest_path 0 p (program.Specifying u s) (λ t. reading (p + 1) ks t) (specified (here lines p) k u o)) ≡ after_spec u p (k ∷ ks) (found p o)
  spec-stop u p k ks s None e = ap (λ o. verdict finish (turn deepest_path 0 p (program.Specifying u s) (λ t. reading (p + 1) ks t) o)) (no-specified u p k)
  spec-stop u p k ks s (Some x) e =
      let n : p - p ≡ 0 = omega arith in
      go (specified (here lines p) k u (Some x)) ∙ ap (λ z. behind_spec u x p (drop z (k ∷ ks))) (sym n)
    where
      go : (o : Option State) → verdict finish (turn deepest_path 0 p (program.Specifying u s) (λ t. reading (p + 1) ks t) o) ≡ turned p ks o
      go None = refl
      go (Some t) = refl

  spec-end : (u : SpecContext) (p : ℕ) (o : Option SpecTree) → NoTree p ≡ after_spec u p [] (found p o)
  spec-end u p None = refl
  spec-end u p (Some x) = let n : p - p ≡ 0 = omega arith in ap (λ z. behind_spec u x p (drop z [])) (sym n)

  pub spec-answer : (u : SpecContext) (ks : List TokenKind) (p : ℕ) (s : reader.State) → spec_path u ≤ 256
      → verdict finish (reading p ks (program.Specifying u s)) ≡ after_spec u p ks (verdict reader.finish_spec (spec_reading u p ks s))
  spec-answer u [] p s l = spec-end u p (reader.finish_spec s)
  spec-answer u (k ∷ ks) p s l =
      go (reader.shift 17 (here lines p) k s)
      (λ t. spec-answer u ks (p + 1) t l ∙ spec-more u p k ks (verdict reader.finish_spec (spec_reading u (p + 1) ks t)) (spec-from u ks (p + 1) t))
    where
      go : (o : Option reader.State)
          → ((t : reader.State) → verdict finish (reading (p + 1) ks (program.Specifying u t)) ≡ after_spec u p (k ∷ ks) (verdict reader.finish_spec (spec_reading u (p + 1) ks t)))
          → verdict finish (turn deepest_path 0 p (program.Specifying u s) (λ t. reading (p + 1) ks t) (specify_to (here lines p) k u s o))
          ≡ after_spec u p (k ∷ ks) (verdict reader.finish_spec (turn loads.deepest_path (spec_depth u) p s (λ t. spec_reading u (p + 1) ks t) o))
      go None again = spec-stop u p k ks s (reader.finish_spec s) refl
      go (Some t) again =
          ap (λ b. verdict finish (cond b (reading (p + 1) ks (program.Specifying u t)) (Deep p))) (max-test (spec_path u) (spec_depth u + loads.deepest_path t) l)
          ∙ test (nat_le (spec_depth u + loads.deepest_path t) 256)
        where
          test : (b : Bool) → verdict finish (cond b (reading (p + 1) ks (program.Specifying u t)) (Deep p))
              ≡ after_spec u p (k ∷ ks) (verdict reader.finish_spec (cond b (spec_reading u (p + 1) ks t) (Deep p)))
          test true = again t
          test false = refl
