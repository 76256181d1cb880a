-- Runs that keep within so many nodes on a path, in parts; and those over expressions, specifiers, brackets and
-- initialisers.
use Rattle.std.proofs.Common.{◌≡◌, ℕ, zero, suc, ◌+◌, ◌-◌, ◌<◌, ◌≤◌, ◌⊎◌, inl, inr, max, List, [], ◌∷◌, ◌++◌, length, take, Bool, true, false, Option, Some, None, refl, sym, ◌∙◌, ap, subst, arith, append_assoc}
use Rattle.std.proofs.lemmas.List.{take-append-le}
use Rattle.std.proofs.lemmas.Bool.{cases_lt}
use Rattle.std.proofs.Math.Seq.{take-append-add}
use Rattle.ob_tree.specs.declared.tokens.TokenKind.{TokenKind}
use Rattle.ob_tree.specs.declared.tokens.TokenKind.TheVariants as kind
use Rattle.ob_tree.specs.declared.tokens.Sign.TheVariants as sign
use Rattle.ob_tree.specs.Trees.{ExprTree, SpecTree, DimTrees, InitTree, InitTrees}
use Rattle.ob_tree.specs.Spelling.{stars, spell, spell_spec, spell_dims, spell_comma, spell_init, spell_more_inits}
use Rattle.ob_tree.specs.ProgramSpelling.{spell_option}
use Rattle.ob_tree.specs.Valid.{ValidSpec, ValidDims, ValidOpenDims, ValidInit, ValidInits, IsOf}
use Rattle.ob_tree.specs.Places.{here, place, place_init, width, width_init}
use Rattle.ob_tree.specs.ProgramPlaces.{place_option}
use Rattle.ob_tree.specs.Paths.{begun, begun_spec, begun_dims, begun_init, begun_inits, height, height_dims, height_init}
use Rattle.ob_tree.specs.ProgramPaths.{begun_option}
use Rattle.ob_tree.specs.ExprMachine as reader
use Rattle.ob_tree.proofs.FirstTokens.{FirstOf}
use Rattle.ob_tree.specs.ProgramStates.{Head, InitDeclarator, InitList, SpecContext, ExprContext, Length, Item, State, Specifying, Dims, Optional, Reading, Init, AfterInit}
use Rattle.ob_tree.specs.ProgramParts.{add_init}
use Rattle.ob_tree.specs.ProgramMachine.{context_level, initialised, shift, run}
use Rattle.ob_tree.proofs.ProgramRuns.{run-append, RunsTo, expr-lift, spec-lift, Ends, StartsExpr, first-expr}
use Rattle.ob_tree.proofs.ProgramInits.{AtLevel, after_option, optional-starts, read-option, option-ends, open-bracket, after_init, init-ends, init-starts, comma-close, read-init}
use Rattle.ob_exprs.specs.DeepestPaths.{count}
use Rattle.ob_exprs.proofs.Begun.{begun-full}
use Rattle.ob_exprs.proofs.Heights.{height-place, init-place, dims-height, dims-count}
use Rattle.ob_exprs.proofs.Within as expr_within
use Rattle.ob_exprs.proofs.Reach.{reach, reach-spec}
use Rattle.ob_parser.specs.DeepestPaths.{head_rise, head_path, init_declarator_depth, lists_path, spec_depth, spec_path, context_depth, context_path, deepest_path}
use Rattle.ob_parser.proofs.Adding.{init-height}
use Rattle.ob_parser.proofs.Full.{node-some, full-init}

-- the machine goes on, and what it holds has at most m nodes on a path
abbrev pub Within : ℕ → Option State → Type 0
Within m None = ⊥
Within m (Some s) = deepest_path s ≤ m

module _ (lines : ℕ → ℕ) (m : ℕ) where
  -- nothing more is read
  pub w-nothing : (k p : ℕ) (s : State) → deepest_path s ≤ m → Within m (run lines p (take k []) (Some s))
  w-nothing zero p s h = h
  w-nothing (suc k) p s h = h

  -- a token, and those behind it
  pub w-token : (c : TokenKind) (ys : List TokenKind) (k p q : ℕ) (s t : State) → (k ≡ 0 → deepest_path s ≤ m) → shift (here lines p) c s ≡ Some t → q ≡ p + 1
      → ((j : ℕ) → k ≡ suc j → Within m (run lines q (take j ys) (Some t))) → Within m (run lines p (take k (c ∷ ys)) (Some s))
  w-token c ys zero p q s t h e n next = h refl
  w-token c ys (suc k) p q s t h e n next =
      subst (Within m) (sym (ap (λ o. run lines (p + 1) (take k ys) o) e)) (subst (λ z. Within m (run lines z (take k ys) (Some t))) n (next k refl))

  -- tokens, and those behind them
  pub w-part : (xs ys : List TokenKind) (k p q : ℕ) (s t : State) → RunsTo lines p xs s q t → (k ≤ length xs → Within m (run lines p (take k xs) (Some s)))
      → ((j : ℕ) → k ≡ length xs + suc j → Within m (run lines q (take (suc j) ys) (Some t))) → Within m (run lines p (take k (xs ++ ys)) (Some s))
  w-part xs ys k p q s t r first second = go (cases_lt (length xs) k)
    where
      go : (length xs < k) ⊎ (k ≤ length xs) → Within m (run lines p (take k (xs ++ ys)) (Some s))
      go (inr h) = rw (take-append-le k xs ys h) (first h)
      go (inl h) =
          let j : ℕ = k - (length xs + 1) in
          let n : k ≡ length xs + suc j = omega arith in
          let e : take k (xs ++ ys) ≡ xs ++ take (suc j) ys = ap (λ i. take i (xs ++ ys)) n ∙ take-append-add xs ys (suc j) in
          let w : run lines p (xs ++ take (suc j) ys) (Some s) ≡ run lines q (take (suc j) ys) (Some t) =
          run-append lines p xs (take (suc j) ys) (Some s)
          ∙ ap (λ o. run lines (p + length xs) (take (suc j) ys) o) r.runs
          ∙ ap (λ z. run lines z (take (suc j) ys) (Some t)) (sym r.ends) in
          subst (Within m) (sym (ap (λ l. run lines p l (Some s)) e ∙ w)) (second j n)

  -- the same tokens in other groups
  pub w-spelled : (k p : ℕ) (xs ys : List TokenKind) (s : State) → xs ≡ ys → Within m (run lines p (take k xs) (Some s)) → Within m (run lines p (take k ys) (Some s))
  w-spelled k p xs ys s e w = subst (λ l. Within m (run lines p (take k l) (Some s))) e w

  -- from a state that does with the first token what another does
  pub w-restart : (other : State) (Fits : TokenKind → Type 0) (xs : List TokenKind) (k p : ℕ) (s : State) → FirstOf Fits xs
      → ((c : TokenKind) → Fits c → shift (here lines p) c s ≡ shift (here lines p) c other) → (k ≡ 0 → deepest_path s ≤ m)
      → ((j : ℕ) → k ≡ suc j → Within m (run lines p (take (suc j) xs) (Some other))) → Within m (run lines p (take k xs) (Some s))
  w-restart other Fits xs zero p s f same h next = h refl
  w-restart other Fits xs (suc k) p s f same h next = subst (Within m) (sym agree) (next k refl)
    where
      agree : run lines p (take (suc k) xs) (Some s) ≡ run lines p (take (suc k) xs) (Some other)
      agree = rw f.are (ap (λ o. run lines (p + 1) (take k f.rest) o) (same f.token f.fits))

  -- stars, or some of them
  pub w-stars : (starred : ℕ → State) → ((i : ℕ) (p : ℕ) → shift (here lines p) (kind.Sign sign.Star) (starred i) ≡ Some (starred (i + 1)))
      → (n k p i : ℕ) → k ≤ n → ((j : ℕ) → j ≤ k → deepest_path (starred (i + j)) ≤ m) → Within m (run lines p (take k (stars n)) (Some (starred i)))
  w-stars starred goes n zero p i h l = let e : i + 0 ≡ i = omega arith in subst (λ z. deepest_path (starred z) ≤ m) e (l 0 (omega arith))
  w-stars starred goes zero (suc k) p i h l = absurd (omega arith)
  w-stars starred goes (suc n) (suc k) p i h l =
      subst (Within m) (sym (ap (λ o. run lines (p + 1) (take k (stars n)) o) (goes i p)))
      (w-stars starred goes n k (p + 1) (i + 1) (omega arith) (λ j b. (let e : i + suc j ≡ i + 1 + j = omega arith in subst (λ z. deepest_path (starred z) ≤ m) e (l (suc j) (omega arith)))))

  -- Expressions and specifiers.
  reads-on : (u : ExprContext) (ks : List TokenKind) (p : ℕ) (s : reader.State) (o : Option reader.State) → reader.run lines (context_level u) p ks (Some s) ≡ o → context_path u ≤ m → context_depth u ≤ m
      → expr_within.Within (m - context_depth u) o → Within m (run lines p ks (Some (Reading u s)))
  reads-on u ks p s None e l d w = absurd w
  reads-on u ks p s (Some t) e l d w = subst (Within m) (sym (expr-lift lines u ks p s t e)) (omega arith)

  specifies-on : (u : SpecContext) (ks : List TokenKind) (p : ℕ) (s : reader.State) (o : Option reader.State) → reader.run lines 17 p ks (Some s) ≡ o → spec_path u ≤ m → spec_depth u ≤ m
      → expr_within.Within (m - spec_depth u) o → Within m (run lines p ks (Some (Specifying u s)))
  specifies-on u ks p s None e l d w = absurd w
  specifies-on u ks p s (Some t) e l d w = subst (Within m) (sym (spec-lift lines u ks p s t e)) (omega arith)

  pub reach-expr : (u : ExprContext) (e : ExprTree) (k p : ℕ) → IsOf (context_level u) e → context_path u ≤ m → context_depth u + begun e k ≤ m
      → Within m (run lines p (take k (spell e)) (Some (Reading u (reader.BeforeOperand []))))
  reach-expr u e k p v l d =
      reads-on u (take k (spell e)) p (reader.BeforeOperand []) _ refl l (omega arith) (reach lines (context_level u) e k p (m - context_depth u) [] v (omega arith) (omega arith))

  pub reach-specifier : (u : SpecContext) (s : SpecTree) (k p : ℕ) → ValidSpec s → spec_path u ≤ m → spec_depth u + begun_spec s k ≤ m
      → Within m (run lines p (take k (spell_spec s)) (Some (Specifying u (reader.Specifier []))))
  reach-specifier u s k p v l d =
      specifies-on u (take k (spell_spec s)) p (reader.Specifier []) _ refl l (omega arith) (reach-spec lines 17 s k p (m - spec_depth u) [] v (omega arith) (omega arith))

  pub reach-option : (u : ExprContext) (o : Option ExprTree) (k p : ℕ) → AtLevel (context_level u) o → context_path u ≤ m → context_depth u + begun_option o k ≤ m
      → Within m (run lines p (take k (spell_option o)) (Some (Optional u)))
  reach-option u None k p v l d = w-nothing k p (Optional u) l
  reach-option u (Some e) k p v l d =
      w-restart (Reading u (reader.BeforeOperand [])) StartsExpr (spell e) k p (Optional u) (first-expr e v.0) (λ c s. optional-starts u (here lines p) c s) (λ z. l)
      (λ j z. reach-expr u e (suc j) p v l (omega (arith, ap (begun e) z, d)))

  -- Brackets.
  pub reach-dims : (h : Head) (ds done : DimTrees) (k p : ℕ) → ValidDims ds → head_path h ≤ m → head_rise h + height_dims done ≤ m → head_rise h + count done + begun_dims ds k ≤ m
      → Within m (run lines p (take k (spell_dims ds)) (Some (Dims h done)))
  reach-dims h DimTrees.NoDims done k p v l a d = w-nothing k p (Dims h done) (omega arith)
  reach-dims h (DimTrees.Unsized ds) done k p v l a d = absurd v
  reach-dims h (DimTrees.Sized e ds) done k p v l a d =
      let u = Length h done in
      let e' = place lines (p + 1) e in
      let q = p + width e + 2 in
      w-token (kind.Sign sign.OpenBracket) (spell e ++ kind.Sign sign.CloseBracket ∷ spell_dims ds) k p (p + 1) (Dims h done) (Optional u) (λ z. omega arith) (open-bracket (here lines p) h done) refl
      (λ j z.
      (
      let n = node-some k (max (begun e (k - 1)) (begun_dims ds (k - (width e + 2)))) (omega arith) in
      let b : k - 1 ≡ j = omega arith in
      w-part (spell e) (kind.Sign sign.CloseBracket ∷ spell_dims ds) j (p + 1) (p + 1 + width e) (Optional u) _ (read-option lines u (Some e) (p + 1) (v.0, v.1))
      (λ w. reach-option u (Some e) j (p + 1) (v.0, v.1) (omega (arith, n)) (omega (arith, n, ap (begun e) b)))
      (λ i y.
      w-token (kind.Sign sign.CloseBracket) (spell_dims ds) (suc i) (p + 1 + width e) q (after_option u (place_option lines (p + 1) (Some e))) (Dims h (reader.add_dim done e')) (λ x. (let f : ⊥ = omega arith in absurd f))
      (option-ends lines u (Some e) (p + 1) (here lines (p + 1 + width e)) (kind.Sign sign.CloseBracket) _ (v.0, v.1) tt refl) (omega arith)
      (λ g x.
      (
      let f : begun e (k - 1) ≡ height e = begun-full e (k - 1) v.0 (omega arith) in
      let r : k - (width e + 2) ≡ g = omega arith in
      reach-dims h ds (reader.add_dim done e') g q v.2 l (omega (arith, n, f, dims-height done e', height-place lines (p + 1) e)) (omega (arith, n, dims-count done e', ap (begun_dims ds) r))
      )))
      ))

  pub reach-open-dims : (h : Head) (ds : DimTrees) (k p : ℕ) → ValidOpenDims ds → head_path h ≤ m → head_rise h + begun_dims ds k ≤ m
      → Within m (run lines p (take k (spell_dims ds)) (Some (Dims h DimTrees.NoDims)))
  reach-open-dims h DimTrees.NoDims k p v l d = reach-dims h DimTrees.NoDims DimTrees.NoDims k p v l (omega arith) (omega arith)
  reach-open-dims h (DimTrees.Sized e ds) k p v l d = reach-dims h (DimTrees.Sized e ds) DimTrees.NoDims k p v l (omega arith) (omega arith)
  reach-open-dims h (DimTrees.Unsized ds) k p v l d =
      w-token (kind.Sign sign.OpenBracket) (kind.Sign sign.CloseBracket ∷ spell_dims ds) k p (p + 1) (Dims h DimTrees.NoDims) (Optional (Length h DimTrees.NoDims)) (λ z. omega arith)
      (open-bracket (here lines p) h DimTrees.NoDims) refl
      (λ j z.
      (
      let n = node-some k (begun_dims ds (k - 2)) (omega arith) in
      w-token (kind.Sign sign.CloseBracket) (spell_dims ds) j (p + 1) (p + 2) (Optional (Length h DimTrees.NoDims)) (Dims h (DimTrees.Unsized DimTrees.NoDims)) (λ x. omega (arith, n)) refl (omega arith)
      (λ i y. (let b : k - 2 ≡ i = omega arith in reach-dims h ds (DimTrees.Unsized DimTrees.NoDims) i (p + 2) v l (omega (arith, n)) (omega (arith, n, ap (begun_dims ds) b))))
      ))

  -- Initialisers.
  module _ (t : InitDeclarator) where
    mutual
      pub reach-init : (i : InitTree) (is : List InitList) (k p : ℕ) → ValidInit i → lists_path t is ≤ m → init_declarator_depth t + length is + begun_init i k ≤ m
          → Within m (run lines p (take k (spell_init i)) (Some (Init t is)))
      reach-init (InitTree.Value e) is k p v l d =
          w-restart (Reading (Item t is) (reader.BeforeOperand [])) StartsExpr (spell e) k p (Init t is) (first-expr e v.0) (λ c s. init-starts t is (here lines p) c s) (λ z. l)
          (λ j z. reach-expr (Item t is) e (suc j) p v l (omega (arith, ap (begun e) z, d)))
      reach-init (InitTree.Braces f InitTrees.NoItems comma) is k p v l d = absurd v.0
      reach-init (InitTree.Braces f (InitTrees.Item i xs) comma) is k p v l d =
          let b : InitList = record { first = p; items = InitTrees.NoItems } in
          let tail = spell_comma comma ++ kind.Sign sign.CloseBrace ∷ [] in
          w-token (kind.Sign sign.OpenBrace) ((spell_init i ++ spell_more_inits xs) ++ tail) k p (p + 1) (Init t is) (Init t (b ∷ is)) (λ z. l) refl refl
          (λ j z.
          (
          let n = node-some k (max (begun_init i (k - 1)) (begun_inits xs (k - 1 - (width_init i + 1)))) (omega arith) in
          let g : k - 1 ≡ j = omega arith in
          w-spelled j (p + 1) (spell_init i ++ (spell_more_inits xs ++ tail)) ((spell_init i ++ spell_more_inits xs) ++ tail) (Init t (b ∷ is)) (sym (append_assoc (spell_init i) (spell_more_inits xs) tail)) (
          w-part (spell_init i) (spell_more_inits xs ++ tail) j (p + 1) (p + 1 + width_init i) (Init t (b ∷ is)) _ (read-init lines t i (b ∷ is) (p + 1) v.1.0)
          (λ w. reach-init i (b ∷ is) j (p + 1) v.1.0 (omega (arith, n)) (omega (arith, d, n, ap (begun_init i) g)))
          (λ r y.
          (
          let fi : begun_init i (k - 1) ≡ height_init i = full-init i (k - 1) v.1.0 (omega arith) in
          let gi : k - 1 - (width_init i + 1) ≡ suc r - 1 = omega arith in
          reach-more xs comma is b (place_init lines (p + 1) i) (suc r) (p + 1 + width_init i) v.1.1 (λ c h. init-ends lines t (b ∷ is) i (p + 1) (here lines (p + 1 + width_init i)) c v.1.0 h)
          (omega arith) (omega (arith, n)) (omega (arith, d, n, fi, init-place lines (p + 1) i)) (omega (arith, d, n, ap (begun_inits xs) gi))
          ))
          )
          ))

      -- behind an initialiser of a list
      reach-more : (xs : InitTrees) (comma : Bool) (is : List InitList) (b : InitList) (i : InitTree) (k p : ℕ) → ValidInits xs
          → ((c : TokenKind) → Ends 1 c → shift (here lines p) c (after_init t (b ∷ is) i) ≡ initialised c t (b ∷ is) i) → 0 < k
          → lists_path t (b ∷ is) ≤ m → init_declarator_depth t + length is + 1 + height_init i ≤ m → init_declarator_depth t + length is + 1 + begun_inits xs (k - 1) ≤ m
          → Within m (run lines p (take k (spell_more_inits xs ++ (spell_comma comma ++ kind.Sign sign.CloseBrace ∷ []))) (Some (after_init t (b ∷ is) i)))
      reach-more InitTrees.NoItems false is b i k p v h z l a d =
          w-token (kind.Sign sign.CloseBrace) [] k p (p + 1) (after_init t (b ∷ is) i) (AfterInit t is (InitTree.Braces b.first (add_init b.items i) false)) (λ x. (let f : ⊥ = omega arith in absurd f)) (h (kind.Sign sign.CloseBrace) tt) refl
          (λ j x. w-nothing j (p + 1) (AfterInit t is (InitTree.Braces b.first (add_init b.items i) false)) (omega (arith, a, init-height b.items i)))
      reach-more InitTrees.NoItems true is b i k p v h z l a d =
          let c : InitList = record { first = b.first; items = add_init b.items i } in
          let y = AfterInit t is (InitTree.Braces b.first (add_init b.items i) true) in
          w-token (kind.Sign sign.Comma) (kind.Sign sign.CloseBrace ∷ []) k p (p + 1) (after_init t (b ∷ is) i) (Init t (c ∷ is)) (λ x. (let f : ⊥ = omega arith in absurd f)) (h (kind.Sign sign.Comma) (omega arith)) refl
          (λ j x.
          w-token (kind.Sign sign.CloseBrace) [] j (p + 1) (p + 2) (Init t (c ∷ is)) y (λ r. omega (arith, a, init-height b.items i)) (comma-close (here lines (p + 1)) t is b.first b.items i) (omega arith)
          (λ r s. w-nothing r (p + 2) y (omega (arith, a, init-height b.items i))))
      reach-more (InitTrees.Item x xs) comma is b i k p v h z l a d =
          let c : InitList = record { first = b.first; items = add_init b.items i } in
          let tail = spell_comma comma ++ kind.Sign sign.CloseBrace ∷ [] in
          w-token (kind.Sign sign.Comma) ((spell_init x ++ spell_more_inits xs) ++ tail) k p (p + 1) (after_init t (b ∷ is) i) (Init t (c ∷ is)) (λ y. (let f : ⊥ = omega arith in absurd f)) (h (kind.Sign sign.Comma) (omega arith)) refl
          (λ j y.
          (
          let g : k - 1 ≡ j = omega arith in
          let lc : lists_path t (c ∷ is) ≤ m = omega (arith, a, init-height b.items i) in
          w-spelled j (p + 1) (spell_init x ++ (spell_more_inits xs ++ tail)) ((spell_init x ++ spell_more_inits xs) ++ tail) (Init t (c ∷ is)) (sym (append_assoc (spell_init x) (spell_more_inits xs) tail)) (
          w-part (spell_init x) (spell_more_inits xs ++ tail) j (p + 1) (p + 1 + width_init x) (Init t (c ∷ is)) _ (read-init lines t x (c ∷ is) (p + 1) v.0)
          (λ w. reach-init x (c ∷ is) j (p + 1) v.0 lc (omega (arith, d, ap (begun_init x) g)))
          (λ r s.
          (
          let fi : begun_init x (k - 1) ≡ height_init x = full-init x (k - 1) v.0 (omega arith) in
          let gi : k - 1 - (width_init x + 1) ≡ suc r - 1 = omega arith in
          reach-more xs comma is c (place_init lines (p + 1) x) (suc r) (p + 1 + width_init x) v.1 (λ e f. init-ends lines t (c ∷ is) x (p + 1) (here lines (p + 1 + width_init x)) e v.0 f)
          (omega arith) lc (omega (arith, d, fi, init-place lines (p + 1) x)) (omega (arith, d, ap (begun_inits xs) gi))
          ))
          )
          ))
