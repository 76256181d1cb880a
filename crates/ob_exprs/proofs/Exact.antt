-- What the machine answers is what the grammar says.
use Rattle.std.proofs.Common.{◌≡◌, ℕ, ◌+◌, ◌≤◌, inl, inr, List, [], ◌∷◌, ◌++◌, length, take, Option, Some, None, refl, sym, ◌∙◌, ap, subst, arith, append_assoc, append-nil}
use Rattle.std.specs.List.{All}
use Rattle.std.proofs.lemmas.List.Elements.{All-head, All-tail}
use Rattle.std.proofs.Math.Seq.{take-append_seam}
use Rattle.ob_tree.specs.declared.tokens.TokenKind.{TokenKind}
use Rattle.ob_tree.specs.Trees.{ExprTree, SpecTree}
use Rattle.ob_tree.specs.Spelling.{spell, spell_spec}
use Rattle.ob_tree.specs.Valid.{ValidSpec, IsOf, IsOfSource}
use Rattle.ob_tree.specs.Places.{here, place, place_spec, PlacedExpr, PlacedSpec}
use Rattle.ob_tree.specs.Paths.{begun, begun_spec, height}
use Rattle.ob_tree.specs.Fronts.{greatest_path, BeginsExpr, BeginsSpec, IsExpr, IsSpec, within, any}
use Rattle.ob_tree.specs.ExprStates.{no_level, PendingNode, State, BeforeOperand, AfterOperand, Specifier, AfterSpec, reduce}
use Rattle.ob_tree.specs.ExprMachine.{shift, shift_if, run, whole_of, finish, finish_spec}
use Rattle.ob_tree.specs.Readings.{CorrectPrefix}
use Rattle.ob_tree.proofs.Runs.{run-append, run-none}
use Rattle.ob_tree.proofs.Unreduced.{state_behind}
use Rattle.ob_tree.proofs.Through.{through, through-spec}
use Rattle.ob_tree.proofs.OneTree.{finish-behind}
use Rattle.ob_tree.proofs.PlaceKeeps.{valid-place}
use Rattle.ob_exprs.specs.DeepestPaths.{deepest_path}
use Rattle.ob_exprs.proofs.Within.{Within}
use Rattle.ob_exprs.proofs.Reach.{reach, reach-spec}
use Rattle.ob_exprs.proofs.Shapes.{stack_spell, state_spell, StateOk, IsGoal}
use Rattle.ob_exprs.proofs.Sound.{Good}
use Rattle.ob_exprs.proofs.SoundSpecs.{shift-good}
use Rattle.ob_exprs.proofs.Kept.{Kept, reduce-kept}
use Rattle.ob_exprs.proofs.Complete.{Completes}
use Rattle.ob_exprs.proofs.States.{state-whole}

-- a state that stands for the tokens
abbrev pub Ended : (least : ℕ) → List TokenKind → Option State → Type 0
Ended least ks None = Unit {0}
Ended least ks (Some s) = StateOk least s × (state_spell s ≡ ks)

-- some state, which has no more than so many nodes
abbrev Shifted : (m : ℕ) → Option State → Type 0
Shifted m o = (s : State) × (o ≡ Some s) × (deepest_path s ≤ m)

goes : (m : ℕ) (o : Option State) → Within m o → Shifted m o
goes m None w = absurd w
goes m (Some s) w = (s, refl, w)

module _ (lines : ℕ → ℕ) (least : ℕ) (goal : IsGoal least) where
  pub run-stays : (p : ℕ) (ks before : List TokenKind) (o : Option State) → All IsOfSource ks → Ended least before o → Ended least (before ++ ks) (run lines least p ks o)
  run-stays p [] before o a h = rw append-nil h
  run-stays p (k ∷ ks) before None a h = rw run-none tt
  run-stays p (k ∷ ks) before (Some s) a h =
      let g : Good least (state_spell s) k (shift least (here lines p) k s) = shift-good least goal (here lines p) k s (All-head IsOfSource k ks a) h.0 in
      subst (λ x. Ended least x (run lines least (p + 1) ks (shift least (here lines p) k s))) (append_assoc before (k ∷ []) ks)
      (run-stays (p + 1) ks (before ++ k ∷ []) (shift least (here lines p) k s) (All-tail IsOfSource k ks a) (stays before h.1 (shift least (here lines p) k s) g))
    where
      stays : (before : List TokenKind) → state_spell s ≡ before → (o : Option State) → Good least (state_spell s) k o → Ended least (before ++ k ∷ []) o
      stays before e None g = tt
      stays before e (Some t) g = (g.0, g.1 ∙ ap (λ x. x ++ k ∷ []) e)

  -- one token more
  pub run-more : (p : ℕ) (ks : List TokenKind) (k : TokenKind) (start s : State) → run lines least p ks (Some start) ≡ Some s
      → run lines least p (ks ++ k ∷ []) (Some start) ≡ shift least (here lines (p + length ks)) k s
  run-more p ks k start s e = run-append lines least p ks (k ∷ []) (Some start) ∙ ap (λ o. shift_if least (here lines (p + length ks)) k o) e

  -- what was read of a run that ends was read
  pub run-part : (p : ℕ) (ks rest : List TokenKind) (start s : State) → run lines least p (ks ++ rest) (Some start) ≡ Some s → (t : State) × (run lines least p ks (Some start) ≡ Some t)
  run-part p ks rest start s e = go (run lines least p ks (Some start)) refl
    where
      go : (o : Option State) → run lines least p ks (Some start) ≡ o → (t : State) × (o ≡ Some t)
      go None n =
          let q : None ≡ Some s = sym (run-none lines least (p + length ks) rest) ∙ ap (λ o. run lines least (p + length ks) rest o) (sym n) ∙ sym (run-append lines least p ks rest (Some start)) ∙ e in
          absurd cc
      go (Some t) n = (t, refl)

-- Expressions.
abbrev pub machine : (lines : ℕ → ℕ) (least p : ℕ) → List TokenKind → Option State
machine lines least p ks = run lines least p ks (Some (BeforeOperand []))

module _ (lines : ℕ → ℕ) (least : ℕ) (small : least ≤ 2) (p : ℕ) where
  goal : IsGoal least
  goal h = small

  machine-stays : (ks : List TokenKind) → All IsOfSource ks → Ended least ks (machine lines least p ks)
  machine-stays ks a = run-stays lines least goal p ks [] (Some (BeforeOperand [])) a ((tt, omega (arith, small)), refl)

  machine-whole : (t : ExprTree) → IsOf least t → machine lines least p (spell t) ≡ Some (state_behind (place lines p t) [])
  machine-whole t v = through lines least t p [] v

  goes-on : (depth : ℕ) (ks : List TokenKind) → BeginsExpr least (within depth) ks → (s : State) × (machine lines least p ks ≡ Some s) × (depth + deepest_path s ≤ greatest_path)
  goes-on depth ks b =
      let n = begun b.whole (length ks) in
      let same : take (length ks) (spell b.whole) ≡ ks = ap (take (length ks)) b.spelled ∙ take-append_seam ks b.rest in
      let w : Within n (machine lines least p ks) = subst (λ xs. Within n (machine lines least p xs)) same
      (reach lines least b.whole (length ks) p n [] b.valid (omega arith) (omega arith)) in
      let g = goes n (machine lines least p ks) w in
      (g.0, g.1, omega (arith, g.2, b.limit))

  goes-on-deep : (ks : List TokenKind) → BeginsExpr least any ks → (s : State) × (machine lines least p ks ≡ Some s)
  goes-on-deep ks b =
      run-part lines least goal p ks b.rest (BeforeOperand []) (state_behind (place lines p b.whole) []) (ap (machine lines least p) (sym b.spelled) ∙ machine-whole b.whole b.valid)

  whole-begins : (m : ℕ) (ks : List TokenKind) → Completes least m ks → BeginsExpr least (λ n. n ≤ m) ks
  whole-begins m ks (inl c) = c.1
  whole-begins m ks (inr c) = absurd (omega (arith, small, c.0))

  completes : (ks : List TokenKind) (s : State) → All IsOfSource ks → machine lines least p ks ≡ Some s → BeginsExpr least (λ n. n ≤ deepest_path s) ks
  completes ks s a e =
      let k : Ended least ks (Some s) = subst (Ended least ks) e (machine-stays ks a) in
      whole-begins (deepest_path s) ks (subst (Completes least (deepest_path s)) k.1 (state-whole least (deepest_path s) s k.0 (omega arith)))

  begins : (depth : ℕ) (ks : List TokenKind) (s : State) → All IsOfSource ks → machine lines least p ks ≡ Some s → depth + deepest_path s ≤ greatest_path → BeginsExpr least (within depth) ks
  begins depth ks s a e l =
      let w = completes ks s a e in
      record { whole = w.whole; rest = w.rest; valid = w.valid; spelled = w.spelled; limit = omega (arith, w.limit) }

  begins-deep : (ks : List TokenKind) (s : State) → All IsOfSource ks → machine lines least p ks ≡ Some s → BeginsExpr least any ks
  begins-deep ks s a e =
      let w = completes ks s a e in
      record { whole = w.whole; rest = w.rest; valid = w.valid; spelled = w.spelled; limit = tt }

  -- a tree that is read whole is what the machine finishes with
  finish-whole : (t : ExprTree) (s : State) → IsOf least t → machine lines least p (spell t) ≡ Some s → finish s ≡ Some (place lines p t)
  finish-whole t s v e =
      let g : Some (state_behind (place lines p t) []) ≡ Some s = sym (machine-whole t v) ∙ e in
      let f : state_behind (place lines p t) [] ≡ s = cc in
      subst (λ x. finish x ≡ Some (place lines p t)) f (finish-behind (place lines p t) (valid-place lines p t v.0))

  finish-spells : (depth : ℕ) (ks : List TokenKind) (s : State) (t : ExprTree) → All IsOfSource ks → machine lines least p ks ≡ Some s → depth + deepest_path s ≤ greatest_path
      → finish s ≡ Some t → IsExpr least (within depth) ks t × PlacedExpr lines p t
  finish-spells depth ks (AfterOperand x fs) t a e l f =
      let k : Ended least ks (Some (AfterOperand x fs)) = subst (Ended least ks) e (machine-stays ks a) in
      let r : Kept least x fs (reduce 0 x fs) = reduce-kept least 0 x fs k.0.0 k.0.1 in
      let w : (IsOf least t × (spell t ≡ stack_spell fs ++ spell x)) × (depth + height t ≤ greatest_path) = end (reduce 0 x fs) r f in
      let g : spell t ≡ ks = w.0.1 ∙ k.1 in
      let m : machine lines least p (spell t) ≡ Some (AfterOperand x fs) = ap (machine lines least p) g ∙ e in
      let h : Some (place lines p t) ≡ Some t = sym (finish-whole t (AfterOperand x fs) w.0.0 m) ∙ f in
      (record { valid = w.0.0; spelled = g; limit = w.1 }, cc)
    where
      end : (r : ExprTree × List PendingNode) → Kept least x fs r → whole_of r ≡ Some t → (IsOf least t × (spell t ≡ stack_spell fs ++ spell x)) × (depth + height t ≤ greatest_path)
      end (y, []) k e =
          let q : y ≡ t = cc in
          subst (λ z. (IsOf least z × (spell z ≡ stack_spell fs ++ spell x)) × (depth + height z ≤ greatest_path)) q ((k.of, k.spelled), omega (arith, k.deepest_path))
      end (y, f ∷ fs) k e = absurd cc
  finish-spells depth ks s t a e l f = absurd cc

  finish-none : (ks : List TokenKind) (s : State) → machine lines least p ks ≡ Some s → finish s ≡ None → (fits : ℕ → Type 0) (t : ExprTree) → IsExpr least fits ks t → ⊥
  finish-none ks s e f fits t i =
      let m : machine lines least p (spell t) ≡ Some s = ap (machine lines least p) i.spelled ∙ e in
      let q : None ≡ Some (place lines p t) = sym f ∙ finish-whole t s i.valid m in
      absurd cc

  pub exact-expr : (depth : ℕ) → CorrectPrefix (λ q k s. shift least (here lines q) k s) deepest_path finish (BeginsExpr least) (λ fits ks t. IsExpr least fits ks t) (PlacedExpr lines p) p depth (machine lines least p)
  exact-expr depth = record {
    more = λ ks k s e. run-more lines least goal p ks k (BeforeOperand []) s e;
    goes_on = goes-on depth;
    goes_on_deep = goes-on-deep;
    begins = begins depth;
    begins_deep = begins-deep;
    some_tree = finish-spells depth;
    no_tree = λ ks s e f. finish-none ks s e f (within depth);
  }

-- Specifiers.
abbrev pub spec_machine : (lines : ℕ → ℕ) (p : ℕ) → List TokenKind → Option State
spec_machine lines p ks = run lines no_level p ks (Some (Specifier []))

module _ (lines : ℕ → ℕ) (p : ℕ) where
  spec-goal : IsGoal no_level
  spec-goal h = absurd (omega arith)

  spec-stays : (ks : List TokenKind) → All IsOfSource ks → Ended no_level ks (spec_machine lines p ks)
  spec-stays ks a = run-stays lines no_level spec-goal p ks [] (Some (Specifier [])) a ((tt, refl), refl)

  spec-goes-on : (depth : ℕ) (ks : List TokenKind) → BeginsSpec (within depth) ks → (s : State) × (spec_machine lines p ks ≡ Some s) × (depth + deepest_path s ≤ greatest_path)
  spec-goes-on depth ks b =
      let n = begun_spec b.whole (length ks) in
      let same : take (length ks) (spell_spec b.whole) ≡ ks = ap (take (length ks)) b.spelled ∙ take-append_seam ks b.rest in
      let w : Within n (spec_machine lines p ks) = subst (λ xs. Within n (spec_machine lines p xs)) same
      (reach-spec lines no_level b.whole (length ks) p n [] b.valid (omega arith) (omega arith)) in
      let g = goes n (spec_machine lines p ks) w in
      (g.0, g.1, omega (arith, g.2, b.limit))

  spec-goes-on-deep : (ks : List TokenKind) → BeginsSpec any ks → (s : State) × (spec_machine lines p ks ≡ Some s)
  spec-goes-on-deep ks b =
      run-part lines no_level spec-goal p ks b.rest (Specifier []) (AfterSpec (place_spec lines p b.whole) []) (ap (spec_machine lines p) (sym b.spelled) ∙ through-spec lines no_level b.whole p [] b.valid)

  whole-begins-spec : (m : ℕ) (ks : List TokenKind) → Completes no_level m ks → BeginsSpec (λ n. n ≤ m) ks
  whole-begins-spec m ks (inl c) = absurd (omega (arith, c.0))
  whole-begins-spec m ks (inr c) = c.1

  completes-spec : (ks : List TokenKind) (s : State) → All IsOfSource ks → spec_machine lines p ks ≡ Some s → BeginsSpec (λ n. n ≤ deepest_path s) ks
  completes-spec ks s a e =
      let k : Ended no_level ks (Some s) = subst (Ended no_level ks) e (spec-stays ks a) in
      whole-begins-spec (deepest_path s) ks (subst (Completes no_level (deepest_path s)) k.1 (state-whole no_level (deepest_path s) s k.0 (omega arith)))

  begins-spec : (depth : ℕ) (ks : List TokenKind) (s : State) → All IsOfSource ks → spec_machine lines p ks ≡ Some s → depth + deepest_path s ≤ greatest_path → BeginsSpec (within depth) ks
  begins-spec depth ks s a e l =
      let w = completes-spec ks s a e in
      record { whole = w.whole; rest = w.rest; valid = w.valid; spelled = w.spelled; limit = omega (arith, w.limit) }

  begins-spec-deep : (ks : List TokenKind) (s : State) → All IsOfSource ks → spec_machine lines p ks ≡ Some s → BeginsSpec any ks
  begins-spec-deep ks s a e =
      let w = completes-spec ks s a e in
      record { whole = w.whole; rest = w.rest; valid = w.valid; spelled = w.spelled; limit = tt }

  finish-whole-spec : (t : SpecTree) (s : State) → ValidSpec t → spec_machine lines p (spell_spec t) ≡ Some s → finish_spec s ≡ Some (place_spec lines p t)
  finish-whole-spec t s v e =
      let g : Some (AfterSpec (place_spec lines p t) []) ≡ Some s = sym (through-spec lines no_level t p [] v) ∙ e in
      let f : AfterSpec (place_spec lines p t) [] ≡ s = cc in
      subst (λ x. finish_spec x ≡ Some (place_spec lines p t)) f refl

  finish-spells-spec : (depth : ℕ) (ks : List TokenKind) (s : State) (t : SpecTree) → All IsOfSource ks → spec_machine lines p ks ≡ Some s → depth + deepest_path s ≤ greatest_path
      → finish_spec s ≡ Some t → IsSpec (within depth) ks t × PlacedSpec lines p t
  finish-spells-spec depth ks (AfterSpec x []) t a e l f =
      let k : Ended no_level ks (Some (AfterSpec x [])) = subst (Ended no_level ks) e (spec-stays ks a) in
      let q : x ≡ t = cc in
      let m : spec_machine lines p (spell_spec x) ≡ Some (AfterSpec x []) = ap (spec_machine lines p) k.1 ∙ e in
      let h : Some (place_spec lines p x) ≡ Some x = sym (finish-whole-spec x (AfterSpec x []) k.0.2 m) in
      let pl : place_spec lines p x ≡ x = cc in
      subst (λ z. IsSpec (within depth) ks z × PlacedSpec lines p z) q (record { valid = k.0.2; spelled = k.1; limit = omega arith }, pl)
  finish-spells-spec depth ks (AfterSpec x (g ∷ fs)) t a e l f = absurd cc
  finish-spells-spec depth ks s t a e l f = absurd cc

  finish-none-spec : (ks : List TokenKind) (s : State) → spec_machine lines p ks ≡ Some s → finish_spec s ≡ None → (fits : ℕ → Type 0) (t : SpecTree) → IsSpec fits ks t → ⊥
  finish-none-spec ks s e f fits t i =
      let m : spec_machine lines p (spell_spec t) ≡ Some s = ap (spec_machine lines p) i.spelled ∙ e in
      let q : None ≡ Some (place_spec lines p t) = sym f ∙ finish-whole-spec t s i.valid m in
      absurd cc

  pub exact-spec : (depth : ℕ) → CorrectPrefix (λ q k s. shift no_level (here lines q) k s) deepest_path finish_spec BeginsSpec (λ fits ks t. IsSpec fits ks t) (PlacedSpec lines p) p depth (spec_machine lines p)
  exact-spec depth = record {
    more = λ ks k s e. run-more lines no_level spec-goal p ks k (Specifier []) s e;
    goes_on = spec-goes-on depth;
    goes_on_deep = spec-goes-on-deep;
    begins = begins-spec depth;
    begins_deep = begins-spec-deep;
    some_tree = finish-spells-spec depth;
    no_tree = λ ks s e f. finish-none-spec ks s e f (within depth);
  }
