-- What the machine holds after a part of the tokens of parameters is no deeper than the nodes that have begun.
use Rattle.std.proofs.Common.{◌≡◌, ℕ, zero, suc, ◌+◌, ◌-◌, ◌≤◌, max, min, List, [], ◌∷◌, ◌++◌, take, Option, Some, None, refl, sym, ap, subst, arith, append_assoc}
use Rattle.std.specs.List.{AllByRecursion}
use Rattle.ob_tree.specs.declared.tokens.TokenKind.{TokenKind}
use Rattle.ob_tree.specs.declared.tokens.TokenKind.TheVariants as kind
use Rattle.ob_tree.specs.declared.tokens.Keyword.TheVariants as word
use Rattle.ob_tree.specs.declared.tokens.Sign.TheVariants as sign
use Rattle.ob_tree.specs.Trees.{SpecTree, DimTrees}
use Rattle.ob_tree.specs.Programs.{ParamTree, ParamsTree}
use Rattle.ob_tree.specs.Spelling.{stars, spell_spec, spell_name, spell_dims, listed, more_listed}
use Rattle.ob_tree.specs.ProgramSpelling.{spell_param, spell_params}
use Rattle.ob_tree.specs.Valid.{ValidOpenDims}
use Rattle.ob_tree.specs.ProgramValid.{ValidParam, ValidParams}
use Rattle.ob_tree.specs.Places.{here, place_spec, width_name, width_spec}
use Rattle.ob_tree.specs.ProgramPlaces.{width_param, place_param}
use Rattle.ob_tree.specs.Paths.{begun_spec, begun_dims, height_spec}
use Rattle.ob_tree.specs.ProgramPaths.{begun_param, begun_list, begun_params, height_param}
use Rattle.ob_tree.specs.ExprMachine as reader
use Rattle.ob_tree.proofs.FirstTokens.{FirstOf, first-more, first-spec, BeginsSpec}
use Rattle.ob_tree.proofs.SpecShifts.{length-stars}
use Rattle.ob_tree.specs.ProgramStates.{Declarator, ParamList, OfParam, ForParam, State, Specifying, Dims, Params, NextParam, Param, Closed}
use Rattle.ob_tree.specs.ProgramParts.{add_param, params_of}
use Rattle.ob_tree.specs.ProgramMachine.{shift, run}
use Rattle.ob_tree.proofs.ProgramRuns.{restart, read-spec, spec-ends, EndsSpec, all-stars}
use Rattle.ob_tree.proofs.ProgramParams.{StartsDims, dims-start, first-starts, read-param}
use Rattle.ob_exprs.proofs.Begun.{full-spec}
use Rattle.ob_exprs.proofs.Heights.{spec-place}
use Rattle.ob_parser.specs.DeepestPaths.{depth_in, declarator_path, param_list_path, deepest_path}
use Rattle.ob_parser.proofs.Adding.{params-height, list-height}
use Rattle.ob_parser.proofs.Full.{full-param, param-place}
use Rattle.ob_parser.proofs.Climbs.{Within, w-nothing, w-token, w-part, w-spelled, w-restart, w-stars, reach-specifier, reach-open-dims}

module _ (lines : ℕ → ℕ) (m : ℕ) where
  -- behind the specifier of a parameter
  module _ (l : ParamList) (f : ℕ) (s : SpecTree) where
    -- brackets without a name
    unnamed-reach : (i : ℕ) (ds : DimTrees) (k p : ℕ) → ValidOpenDims ds → param_list_path l ≤ m → depth_in l.function.declaration + max (height_spec s) i ≤ m
        → depth_in l.function.declaration + i + begun_dims ds k ≤ m → Within m (run lines p (take k (spell_dims ds)) (Some (Param l f (lines f) s i)))
    unnamed-reach i DimTrees.NoDims k p v a b d = w-nothing lines m k p (Param l f (lines f) s i) (omega arith)
    unnamed-reach i (DimTrees.Sized e ds) k p v a b d =
        let h = OfParam l f (lines f) s i None f in
        let z : FirstOf StartsDims (spell_dims (DimTrees.Sized e ds)) = record { token = kind.Sign sign.OpenBracket; rest = _; are = refl; fits = tt } in
        w-restart lines m (Dims h DimTrees.NoDims) StartsDims (spell_dims (DimTrees.Sized e ds)) k p (Param l f (lines f) s i) z (dims-start lines l f s i (here lines p)) (λ x. omega arith)
        (λ j x. reach-open-dims lines m h (DimTrees.Sized e ds) (suc j) p v (omega arith) (omega (arith, d, ap (begun_dims (DimTrees.Sized e ds)) x)))
    unnamed-reach i (DimTrees.Unsized ds) k p v a b d =
        let h = OfParam l f (lines f) s i None f in
        let z : FirstOf StartsDims (spell_dims (DimTrees.Unsized ds)) = record { token = kind.Sign sign.OpenBracket; rest = _; are = refl; fits = tt } in
        w-restart lines m (Dims h DimTrees.NoDims) StartsDims (spell_dims (DimTrees.Unsized ds)) k p (Param l f (lines f) s i) z (dims-start lines l f s i (here lines p)) (λ x. omega arith)
        (λ j x. reach-open-dims lines m h (DimTrees.Unsized ds) (suc j) p v (omega arith) (omega (arith, d, ap (begun_dims (DimTrees.Unsized ds)) x)))

    -- a name that may be left out, and brackets
    named-reach : (i : ℕ) (name : Option (List ℕ)) (ds : DimTrees) (k p : ℕ) → ValidOpenDims ds → param_list_path l ≤ m → depth_in l.function.declaration + max (height_spec s) i ≤ m
        → depth_in l.function.declaration + i + begun_dims ds (k - width_name name) ≤ m
        → Within m (run lines p (take k (spell_name name ++ spell_dims ds)) (Some (Param l f (lines f) s i)))
    named-reach i None ds k p v a b d = let e : k - 0 ≡ k = omega arith in unnamed-reach i ds k p v a b (omega (arith, d, ap (begun_dims ds) e))
    named-reach i (Some name) ds k p v a b d =
        let h = OfParam l f (lines f) s i (Some name) p in
        w-token lines m (kind.Name name) (spell_dims ds) k p (p + 1) (Param l f (lines f) s i) (Dims h DimTrees.NoDims) (λ x. omega arith) refl refl
        (λ j x. (let e : k - 1 ≡ j = omega arith in reach-open-dims lines m h ds j (p + 1) v (omega arith) (omega (arith, d, ap (begun_dims ds) e))))

    stars-reach : (i : ℕ) (name : Option (List ℕ)) (ds : DimTrees) (k p : ℕ) → ValidOpenDims ds → param_list_path l ≤ m → depth_in l.function.declaration + height_spec s ≤ m
        → depth_in l.function.declaration + (min i k + begun_dims ds (k - (i + width_name name))) ≤ m
        → Within m (run lines p (take k (stars i ++ (spell_name name ++ spell_dims ds))) (Some (Param l f (lines f) s 0)))
    stars-reach i name ds k p v a b d =
        let starred = Param l f (lines f) s in
        w-part lines m (stars i) (spell_name name ++ spell_dims ds) k p (p + i) (starred 0) (starred i) (all-stars lines starred (λ x y. refl) i p)
        (λ h. w-stars lines m starred (λ x y. refl) i k p 0 (omega (arith, h, length-stars i)) (λ j g. omega (arith, h, length-stars i, d)))
        (λ j h.
        (
        let e : k - (i + width_name name) ≡ suc j - width_name name = omega (arith, h, length-stars i) in
        named-reach i name ds (suc j) (p + i) v a (omega (arith, h, length-stars i, d)) (omega (arith, h, length-stars i, d, ap (begun_dims ds) e))
        ))

    spec-reach : (i : ℕ) (name : Option (List ℕ)) (ds : DimTrees) (k p : ℕ) → FirstOf EndsSpec (stars i ++ (spell_name name ++ spell_dims ds)) → ValidOpenDims ds → param_list_path l ≤ m
        → depth_in l.function.declaration + height_spec s ≤ m → depth_in l.function.declaration + (min i (suc k) + begun_dims ds (suc k - (i + width_name name))) ≤ m
        → Within m (run lines p (take (suc k) (stars i ++ (spell_name name ++ spell_dims ds))) (Some (Specifying (ForParam l f (lines f)) (reader.AfterSpec s []))))
    spec-reach i name ds k p first v a b d =
        w-restart lines m (Param l f (lines f) s 0) EndsSpec (stars i ++ (spell_name name ++ spell_dims ds)) (suc k) p (Specifying (ForParam l f (lines f)) (reader.AfterSpec s [])) first
        (λ c h. spec-ends (ForParam l f (lines f)) (here lines p) c s h) (λ x. (let g : ⊥ = omega arith in absurd g))
        (λ j x. (let e : suc k ≡ suc j = x in subst (λ z. Within m (run lines p (take z (stars i ++ (spell_name name ++ spell_dims ds))) (Some (Param l f (lines f) s 0)))) e (stars-reach i name ds (suc k) p v a b d)))

    behind-spec : (i : ℕ) (name : Option (List ℕ)) (ds : DimTrees) (k p : ℕ) → ValidOpenDims ds → param_list_path l ≤ m
        → depth_in l.function.declaration + height_spec s ≤ m → depth_in l.function.declaration + (min i (suc k) + begun_dims ds (suc k - (i + width_name name))) ≤ m
        → Within m (run lines p (take (suc k) (stars i ++ (spell_name name ++ spell_dims ds))) (Some (Specifying (ForParam l f (lines f)) (reader.AfterSpec s []))))
    behind-spec zero None DimTrees.NoDims k p v a b d = omega arith
    behind-spec zero None (DimTrees.Sized e ds) k p v a b d =
        spec-reach zero None (DimTrees.Sized e ds) k p (record { token = kind.Sign sign.OpenBracket; rest = _; are = refl; fits = tt }) v a b d
    behind-spec zero None (DimTrees.Unsized ds) k p v a b d =
        spec-reach zero None (DimTrees.Unsized ds) k p (record { token = kind.Sign sign.OpenBracket; rest = _; are = refl; fits = tt }) v a b d
    behind-spec zero (Some name) ds k p v a b d = spec-reach zero (Some name) ds k p (record { token = kind.Name name; rest = _; are = refl; fits = tt }) v a b d
    behind-spec (suc i) name ds k p v a b d = spec-reach (suc i) name ds k p (record { token = kind.Sign sign.Star; rest = _; are = refl; fits = tt }) v a b d

  reach-param : (l : ParamList) (x : ParamTree) (k p : ℕ) → ValidParam x → param_list_path l ≤ m → depth_in l.function.declaration + begun_param x k ≤ m
      → Within m (run lines p (take k (spell_param x)) (Some (Specifying (ForParam l p (lines p)) (reader.Specifier []))))
  reach-param l x k p v a d =
      let u = ForParam l p (lines p) in
      let s' = place_spec lines p x.spec in
      w-part lines m (spell_spec x.spec) (stars x.stars ++ (spell_name x.name ++ spell_dims x.dims)) k p (p + width_spec x.spec) (Specifying u (reader.Specifier [])) (Specifying u (reader.AfterSpec s' []))
      (read-spec lines u x.spec p v.0) (λ h. reach-specifier lines m u x.spec k p v.0 a (omega (arith, d)))
      (λ j h.
      (
      let f : begun_spec x.spec k ≡ height_spec x.spec = full-spec x.spec k v.0 (omega arith) in
      let e : k - (width_spec x.spec + x.stars + width_name x.name) ≡ suc j - (x.stars + width_name x.name) = omega arith in
      behind-spec l p s' x.stars x.name x.dims j (p + width_spec x.spec) v.2 a (omega (arith, d, f, spec-place lines p x.spec)) (omega (arith, d, f, h, ap (begun_dims x.dims) e))
      ))

  -- parameters up to the closing parenthesis, from a state that takes the first one's specifier
  reach-list : (x : ParamTree) (xs : List ParamTree) (l : ParamList) (s : State) (k p : ℕ)
      → ((c : TokenKind) → BeginsSpec c → shift (here lines p) c s ≡ shift (here lines p) c (Specifying (ForParam l p (lines p)) (reader.Specifier [])))
      → ValidParam x → AllByRecursion ValidParam xs → (k ≡ 0 → deepest_path s ≤ m) → param_list_path l ≤ m → depth_in l.function.declaration + begun_list (x ∷ xs) k ≤ m
      → Within m (run lines p (take k (listed spell_param (x ∷ xs) ++ kind.Sign sign.CloseParen ∷ [])) (Some s))
  reach-list x [] l s k p same v w z a d =
      let r = read-param lines l x p v in
      let start = Specifying (ForParam l p (lines p)) (reader.Specifier []) in
      let x' = place_param lines p x in
      let first = first-more BeginsSpec (spell_spec x.spec) (stars x.stars ++ (spell_name x.name ++ spell_dims x.dims)) (first-spec x.spec v.0) in
      let end = Closed l.function (params_of (l.params ++ x' ∷ [])) in
      w-spelled lines m k p (spell_param x ++ kind.Sign sign.CloseParen ∷ []) ((spell_param x ++ []) ++ kind.Sign sign.CloseParen ∷ []) s (sym (append_assoc (spell_param x) [] (kind.Sign sign.CloseParen ∷ []))) (
      w-part lines m (spell_param x) (kind.Sign sign.CloseParen ∷ []) k p (p + width_param x) s r.behind (restart start BeginsSpec first same r.reads)
      (λ h. w-restart lines m start BeginsSpec (spell_param x) k p s first same z (λ j e. reach-param l x (suc j) p v a (omega (arith, d, ap (begun_param x) e))))
      (λ j h.
      w-token lines m (kind.Sign sign.CloseParen) [] (suc j) (p + width_param x) (p + width_param x + 1) r.behind end (λ e. (let g : ⊥ = omega arith in absurd g))
      (r.ends (here lines (p + width_param x)) (kind.Sign sign.CloseParen) tt) refl
      (λ i e. w-nothing lines m i (p + width_param x + 1) end (omega (arith, d, params-height l.params x', param-place lines p x, full-param x k v (omega arith)))))
      )
  reach-list x (y ∷ ys) l s k p same v w z a d =
      let r = read-param lines l x p v in
      let start = Specifying (ForParam l p (lines p)) (reader.Specifier []) in
      let x' = place_param lines p x in
      let q = p + width_param x + 1 in
      let first = first-more BeginsSpec (spell_spec x.spec) (stars x.stars ++ (spell_name x.name ++ spell_dims x.dims)) (first-spec x.spec v.0) in
      let rest = listed spell_param (y ∷ ys) ++ kind.Sign sign.CloseParen ∷ [] in
      w-spelled lines m k p (spell_param x ++ kind.Sign sign.Comma ∷ rest) (listed spell_param (x ∷ (y ∷ ys)) ++ kind.Sign sign.CloseParen ∷ []) s
      (sym (append_assoc (spell_param x) (more_listed spell_param (y ∷ ys)) (kind.Sign sign.CloseParen ∷ []))) (
      w-part lines m (spell_param x) (kind.Sign sign.Comma ∷ rest) k p (p + width_param x) s r.behind (restart start BeginsSpec first same r.reads)
      (λ h. w-restart lines m start BeginsSpec (spell_param x) k p s first same z (λ j e. reach-param l x (suc j) p v a (omega (arith, d, ap (begun_param x) e))))
      (λ j h.
      w-token lines m (kind.Sign sign.Comma) rest (suc j) (p + width_param x) q r.behind (NextParam (add_param l x')) (λ e. (let g : ⊥ = omega arith in absurd g))
      (r.ends (here lines (p + width_param x)) (kind.Sign sign.Comma) tt) refl
      (λ i e.
      (
      let f : begun_param x k ≡ height_param x = full-param x k v (omega arith) in
      let la : param_list_path (add_param l x') ≤ m = omega (arith, a, d, f, list-height l.params x', param-place lines p x) in
      let b : k - (width_param x + 1) ≡ i = omega arith in
      reach-list y ys (add_param l x') (NextParam (add_param l x')) i q (λ c g. refl) w.0 w.1 (λ g. la) la (omega (arith, d, ap (begun_list (y ∷ ys)) b))
      )))
      )

  pub reach-params : (x : Declarator) (ps : ParamsTree) (k p : ℕ) → ValidParams ps → declarator_path x ≤ m → depth_in x.declaration + begun_params ps k ≤ m
      → Within m (run lines p (take k (spell_params ps ++ kind.Sign sign.CloseParen ∷ [])) (Some (Params (record { function = x; params = [] }))))
  reach-params x ParamsTree.Empty k p v a d =
      let l : ParamList = record { function = x; params = [] } in
      w-token lines m (kind.Sign sign.CloseParen) [] k p (p + 1) (Params l) (Closed x ParamsTree.Empty) (λ e. omega arith) refl refl (λ j e. w-nothing lines m j (p + 1) (Closed x ParamsTree.Empty) (omega arith))
  reach-params x ParamsTree.Void k p v a d =
      let l : ParamList = record { function = x; params = [] } in
      let s = Specifying (ForParam l p (lines p)) (reader.AfterSpec (SpecTree.Void p) []) in
      w-token lines m (kind.Word word.Void) (kind.Sign sign.CloseParen ∷ []) k p (p + 1) (Params l) s (λ e. omega arith) refl refl
      (λ j e. w-token lines m (kind.Sign sign.CloseParen) [] j (p + 1) (p + 1 + 1) s (Closed x ParamsTree.Void) (λ f. omega arith) refl refl
      (λ i f. w-nothing lines m i (p + 1 + 1) (Closed x ParamsTree.Void) (omega arith)))
  reach-params x (ParamsTree.Listed []) k p v a d = absurd v
  reach-params x (ParamsTree.Listed (y ∷ [])) k p v a d =
      let l : ParamList = record { function = x; params = [] } in
      reach-list y [] l (Params l) k p (first-starts (here lines p) l) v.1 tt (λ e. omega arith) (omega arith) (omega arith)
  reach-params x (ParamsTree.Listed (y ∷ (z ∷ zs))) k p v a d =
      let l : ParamList = record { function = x; params = [] } in
      reach-list y (z ∷ zs) l (Params l) k p (first-starts (here lines p) l) v.0 (v.1, v.2) (λ e. omega arith) (omega arith) (omega arith)
