-- The machine reads parameters.
use Rattle.std.proofs.Common.{◌≡◌, ℕ, zero, suc, ◌+◌, List, [], ◌∷◌, ◌++◌, length, false, Option, Some, None, refl, sym, ◌∙◌, ap, subst, arith, append_assoc, length-append}
use Rattle.std.specs.Prelude.{cond}
use Rattle.std.specs.List.{AllByRecursion}
use Rattle.ob_tree.specs.declared.tokens.TokenKind.{TokenKind}
use Rattle.ob_tree.specs.declared.tokens.TokenKind.TheVariants as kind
use Rattle.ob_tree.specs.declared.tokens.Keyword.TheVariants as word
use Rattle.ob_tree.specs.declared.tokens.Sign.TheVariants as sign
use Rattle.ob_tree.specs.Trees.{Mark, SpecTree, DimTrees}
use Rattle.ob_tree.specs.Programs.{ParamTree, ParamsTree}
use Rattle.ob_tree.specs.Spelling.{stars, spell_spec, spell_name, spell_dims, listed, more_listed}
use Rattle.ob_tree.specs.ProgramSpelling.{spell_param, spell_params}
use Rattle.ob_tree.specs.Valid.{ValidOpenDims}
use Rattle.ob_tree.specs.ProgramValid.{ValidParam, ValidParams, is_void_alone}
use Rattle.ob_tree.specs.Places.{here, place_spec, place_dims, width_name, width_spec}
use Rattle.ob_tree.specs.ProgramPlaces.{width_param, width_params, name_place, place_param, place_list, place_params}
use Rattle.ob_tree.specs.ExprMachine as expr
use Rattle.ob_tree.proofs.FirstTokens.{FirstOf, first-more, first-spec, BeginsSpec}
use Rattle.ob_tree.specs.ProgramStates.{Declarator, ParamList, OfParam, ForParam, State, Specifying, Dims, Params, NextParam, Param, Closed}
use Rattle.ob_tree.specs.ProgramParts.{add_param, params_of}
use Rattle.ob_tree.specs.ProgramMachine.{next_param, shift}
use Rattle.ob_tree.proofs.ProgramRuns.{RunsTo, nothing, token, ◌before◌, counted, respelled, arrives, relocated, restart, read-spec, spec-ends, EndsSpec, all-stars}
use Rattle.ob_tree.proofs.ProgramInits.{read-open-dims}

-- A token that ends a parameter.
abbrev pub EndsParam : TokenKind → Type 0
EndsParam (kind.Sign sign.Comma) = Unit {0}
EndsParam (kind.Sign sign.CloseParen) = Unit {0}
EndsParam k = ⊥

-- The tokens lead to what is behind this parameter.
pub record ReadsParam (lines : ℕ → ℕ) (p : ℕ) (tokens : List TokenKind) (s : State) (l : ParamList) (x : ParamTree) : Type 0 where
  pub behind : State
  pub reads : RunsTo lines p tokens s (p + length tokens) behind
  pub ends : (m : Mark) (k : TokenKind) → EndsParam k → shift m k behind ≡ next_param k (add_param l x)

same-param : {lines : ℕ → ℕ} {p : ℕ} {tokens : List TokenKind} {s : State} {l : ParamList} {x y : ParamTree} → x ≡ y → ReadsParam lines p tokens s l x → ReadsParam lines p tokens s l y
same-param {lines = lines} {p = p} {tokens = tokens} {s = s} {l = l} e r = subst (λ z. ReadsParam lines p tokens s l z) e r

-- brackets begin
abbrev pub StartsDims : TokenKind → Type 0
StartsDims (kind.Sign sign.OpenBracket) = Unit {0}
StartsDims k = ⊥

-- a parameter whose first token stands at f
module _ (lines : ℕ → ℕ) (l : ParamList) (f : ℕ) (s : SpecTree) where
  abbrev made : ℕ → Option (List ℕ) → ℕ → DimTrees → ParamTree
  made i name a ds = record { first = f; line = lines f; spec = s; stars = i; name = name; at = a; dims = ds }

  pub dims-start : (i : ℕ) (m : Mark) (k : TokenKind) → StartsDims k
      → shift m k (Param l f (lines f) s i) ≡ shift m k (Dims (OfParam l f (lines f) s i None f) DimTrees.NoDims)
  dims-start i m (kind.Sign sign.OpenBracket) h = refl
  dims-start i m _ h = absurd h

  dims-end : (i : ℕ) (name : Option (List ℕ)) (a : ℕ) (ds : DimTrees) (m : Mark) (k : TokenKind) → EndsParam k
      → shift m k (Dims (OfParam l f (lines f) s i name a) ds) ≡ next_param k (add_param l (made i name a ds))
  dims-end i name a ds m (kind.Sign sign.Comma) h = refl
  dims-end i name a ds m (kind.Sign sign.CloseParen) h = refl
  dims-end i name a ds m _ h = absurd h

  stars-end : (i : ℕ) (m : Mark) (k : TokenKind) → EndsParam k → shift m k (Param l f (lines f) s i) ≡ next_param k (add_param l (made i None f DimTrees.NoDims))
  stars-end i m (kind.Sign sign.Comma) h = refl
  stars-end i m (kind.Sign sign.CloseParen) h = refl
  stars-end i m _ h = absurd h

  spec-end : (m : Mark) (k : TokenKind) → EndsParam k
      → shift m k (Specifying (ForParam l f (lines f)) (expr.AfterSpec s [])) ≡ next_param k (add_param l (made 0 None f DimTrees.NoDims))
  spec-end m (kind.Sign sign.Comma) h = refl
  spec-end m (kind.Sign sign.CloseParen) h = refl
  spec-end m _ h = absurd h

  -- brackets behind the stars of a parameter without a name
  read-unnamed : (i : ℕ) (ds : DimTrees) (p : ℕ) → ValidOpenDims ds
      → ReadsParam lines p (spell_dims ds) (Param l f (lines f) s i) l (made i None f (place_dims lines p ds))
  read-unnamed i DimTrees.NoDims p v = record { behind = Param l f (lines f) s i; reads = counted nothing; ends = stars-end i }
  read-unnamed i (DimTrees.Sized e ds) p v =
      let h = OfParam l f (lines f) s i None f in
      let b : FirstOf StartsDims (spell_dims (DimTrees.Sized e ds)) = record { token = kind.Sign sign.OpenBracket; rest = _; are = refl; fits = tt } in
      record {
        behind = Dims h (place_dims lines p (DimTrees.Sized e ds));
        reads = restart (Dims h DimTrees.NoDims) StartsDims b (dims-start i (here lines p)) (read-open-dims lines h (DimTrees.Sized e ds) p v);
        ends = dims-end i None f (place_dims lines p (DimTrees.Sized e ds));
      }
  read-unnamed i (DimTrees.Unsized ds) p v =
      let h = OfParam l f (lines f) s i None f in
      let b : FirstOf StartsDims (spell_dims (DimTrees.Unsized ds)) = record { token = kind.Sign sign.OpenBracket; rest = _; are = refl; fits = tt } in
      record {
        behind = Dims h (place_dims lines p (DimTrees.Unsized ds));
        reads = restart (Dims h DimTrees.NoDims) StartsDims b (dims-start i (here lines p)) (read-open-dims lines h (DimTrees.Unsized ds) p v);
        ends = dims-end i None f (place_dims lines p (DimTrees.Unsized ds));
      }

  -- a name that may be left out, and brackets; b tokens stand before them
  read-named : (i : ℕ) (name : Option (List ℕ)) (ds : DimTrees) (b q : ℕ) → q ≡ f + b + width_name name → ValidOpenDims ds
      → ReadsParam lines (f + b) (spell_name name ++ spell_dims ds) (Param l f (lines f) s i) l (made i name (name_place f b name) (place_dims lines q ds))
  read-named i None ds b q e v =
      let g : f + b ≡ q = omega (arith, e) in same-param (ap (λ z. made i None f (place_dims lines z ds)) g) (read-unnamed i ds (f + b) v)
  read-named i (Some name) ds b q e v =
      let h = OfParam l f (lines f) s i (Some name) (f + b) in
      record {
        behind = Dims h (place_dims lines q ds);
        reads = counted (
            token (kind.Name name) q (Dims h DimTrees.NoDims) refl e
            before read-open-dims lines h ds q v
            );
        ends = dims-end i (Some name) (f + b) (place_dims lines q ds);
      }

  -- what stands behind the specifier
  from-stars : (i : ℕ) (name : Option (List ℕ)) (ds : DimTrees) (b q : ℕ) → q ≡ f + b + i + width_name name → ValidOpenDims ds
      → ReadsParam lines (f + b) (stars i ++ (spell_name name ++ spell_dims ds)) (Param l f (lines f) s 0) l (made i name (name_place f (b + i) name) (place_dims lines q ds))
  from-stars i name ds b q e v =
      let g : f + b + i ≡ f + (b + i) = omega arith in
      let r = read-named i name ds (b + i) q (omega (arith, e)) v in
      record {
        behind = r.behind;
        reads = counted (relocated g (all-stars lines (Param l f (lines f) s) (λ m j. refl) i (f + b)) before r.reads);
        ends = r.ends;
      }

  behind-spec : (i : ℕ) (name : Option (List ℕ)) (ds : DimTrees) (b q : ℕ) → q ≡ f + b + i + width_name name → ValidOpenDims ds
      → FirstOf EndsSpec (stars i ++ (spell_name name ++ spell_dims ds))
      → ReadsParam lines (f + b) (stars i ++ (spell_name name ++ spell_dims ds)) (Specifying (ForParam l f (lines f)) (expr.AfterSpec s [])) l
      (made i name (name_place f (b + i) name) (place_dims lines q ds))
  behind-spec i name ds b q e v first =
      let r = from-stars i name ds b q e v in
      record {
        behind = r.behind;
        reads = restart (Param l f (lines f) s 0) EndsSpec first (λ k h. spec-ends (ForParam l f (lines f)) (here lines (f + b)) k s h) r.reads;
        ends = r.ends;
      }

  from-spec : (i : ℕ) (name : Option (List ℕ)) (ds : DimTrees) (b q : ℕ) → q ≡ f + b + i + width_name name → ValidOpenDims ds
      → ReadsParam lines (f + b) (stars i ++ (spell_name name ++ spell_dims ds)) (Specifying (ForParam l f (lines f)) (expr.AfterSpec s [])) l
      (made i name (name_place f (b + i) name) (place_dims lines q ds))
  from-spec zero None DimTrees.NoDims b q e v =
      record { behind = Specifying (ForParam l f (lines f)) (expr.AfterSpec s []); reads = counted nothing; ends = spec-end }
  from-spec zero None (DimTrees.Sized x ds) b q e v =
      behind-spec zero None (DimTrees.Sized x ds) b q e v (record { token = kind.Sign sign.OpenBracket; rest = _; are = refl; fits = tt })
  from-spec zero None (DimTrees.Unsized ds) b q e v =
      behind-spec zero None (DimTrees.Unsized ds) b q e v (record { token = kind.Sign sign.OpenBracket; rest = _; are = refl; fits = tt })
  from-spec zero (Some name) ds b q e v =
      behind-spec zero (Some name) ds b q e v (record { token = kind.Name name; rest = _; are = refl; fits = tt })
  from-spec (suc i) name ds b q e v =
      behind-spec (suc i) name ds b q e v (record { token = kind.Sign sign.Star; rest = _; are = refl; fits = tt })

pub read-param : (lines : ℕ → ℕ) (l : ParamList) (x : ParamTree) (p : ℕ) → ValidParam x
    → ReadsParam lines p (spell_param x) (Specifying (ForParam l p (lines p)) (expr.Specifier [])) l (place_param lines p x)
read-param lines l x p v =
    let b = width_spec x.spec in
    let r = from-spec lines l p (place_spec lines p x.spec) x.stars x.name x.dims b (p + b + x.stars + width_name x.name) refl v.2 in
    record {
      behind = r.behind;
      reads = counted (read-spec lines (ForParam l p (lines p)) x.spec p v.0 before r.reads);
      ends = r.ends;
    }

-- parameters up to the closing parenthesis, from a state that takes the first one's specifier
read-list : (lines : ℕ → ℕ) (x : ParamTree) (xs : List ParamTree) (l : ParamList) (s : State) (p : ℕ)
    → ((k : TokenKind) → BeginsSpec k → shift (here lines p) k s ≡ shift (here lines p) k (Specifying (ForParam l p (lines p)) (expr.Specifier [])))
    → ValidParam x → AllByRecursion ValidParam xs
    → RunsTo lines p (listed spell_param (x ∷ xs) ++ kind.Sign sign.CloseParen ∷ []) s (p + length (listed spell_param (x ∷ xs) ++ kind.Sign sign.CloseParen ∷ []))
    (Closed l.function (params_of (l.params ++ place_list lines p (x ∷ xs))))
read-list lines x [] l s p same v w =
    let r = read-param lines l x p v in
    let first = first-more BeginsSpec (spell_spec x.spec) (stars x.stars ++ (spell_name x.name ++ spell_dims x.dims)) (first-spec x.spec v.0) in
    counted (
    respelled (sym (append_assoc (spell_param x) [] (kind.Sign sign.CloseParen ∷ []))) (
    restart (Specifying (ForParam l p (lines p)) (expr.Specifier [])) BeginsSpec first same r.reads
    before token (kind.Sign sign.CloseParen) (p + width_param x + 1) (Closed l.function (params_of (l.params ++ place_param lines p x ∷ []))) (r.ends (here lines (p + width_param x)) (kind.Sign sign.CloseParen) tt) refl
    )
    )
read-list lines x (y ∷ ys) l s p same v w =
    let r = read-param lines l x p v in
    let x' = place_param lines p x in
    let q = p + width_param x + 1 in
    let first = first-more BeginsSpec (spell_spec x.spec) (stars x.stars ++ (spell_name x.name ++ spell_dims x.dims)) (first-spec x.spec v.0) in
    counted (
    respelled (sym (append_assoc (spell_param x) (more_listed spell_param (y ∷ ys)) (kind.Sign sign.CloseParen ∷ []))) (
    arrives (ap (λ z. Closed l.function (params_of z)) (append_assoc l.params (x' ∷ []) (place_list lines q (y ∷ ys)))) (
    restart (Specifying (ForParam l p (lines p)) (expr.Specifier [])) BeginsSpec first same r.reads
    before token (kind.Sign sign.Comma) q (NextParam (add_param l x')) (r.ends (here lines (p + width_param x)) (kind.Sign sign.Comma) tt) refl
    before read-list lines y ys (add_param l x') (NextParam (add_param l x')) q (λ k h. refl) w.0 w.1
    )
    )
    )

-- `void` alone is what it was, placed or not
void-placed : (lines : ℕ → ℕ) (p q : ℕ) (s : SpecTree) (i : ℕ) (name : Option (List ℕ)) (ds : DimTrees)
    → is_void_alone (place_spec lines p s) i name (place_dims lines q ds) ≡ is_void_alone s i name ds
void-placed lines p q (SpecTree.Void f) zero None DimTrees.NoDims = refl
void-placed lines p q (SpecTree.Void f) zero None (DimTrees.Unsized ds) = refl
void-placed lines p q (SpecTree.Void f) zero None (DimTrees.Sized e ds) = refl
void-placed lines p q (SpecTree.Void f) zero (Some name) ds = refl
void-placed lines p q (SpecTree.Void f) (suc i) name ds = refl
void-placed lines p q (SpecTree.SizeT f) i name ds = refl
void-placed lines p q (SpecTree.Integer f ws) i name ds = refl
void-placed lines p q (SpecTree.Tag f tag) i name ds = refl
void-placed lines p q (SpecTree.Struct f tag ms) i name ds = refl

pub first-starts : (m : Mark) (l : ParamList) (k : TokenKind) → BeginsSpec k → shift m k (Params l) ≡ shift m k (Specifying (ForParam l m.first m.line) (expr.Specifier []))
first-starts m l (kind.Word w) h = refl
first-starts m l _ h = absurd h

pub read-params : (lines : ℕ → ℕ) (x : Declarator) (ps : ParamsTree) (p : ℕ) → ValidParams ps
    → RunsTo lines p (spell_params ps ++ kind.Sign sign.CloseParen ∷ []) (Params (record { function = x; params = [] })) (p + width_params ps + 1) (Closed x (place_params lines p ps))
read-params lines x ParamsTree.Empty p v = token (kind.Sign sign.CloseParen) (p + 0 + 1) (Closed x ParamsTree.Empty) refl (omega arith)
read-params lines x ParamsTree.Void p v =
    let l : ParamList = record { function = x; params = [] } in
    token (kind.Word word.Void) (p + 1) (Specifying (ForParam l p (lines p)) (expr.AfterSpec (SpecTree.Void p) [])) refl refl
    before token (kind.Sign sign.CloseParen) (p + 1 + 1) (Closed x ParamsTree.Void) refl refl
read-params lines x (ParamsTree.Listed []) p v = absurd v
read-params lines x (ParamsTree.Listed (y ∷ [])) p v =
    let l : ParamList = record { function = x; params = [] } in
    let n : p + length ((spell_param y ++ []) ++ kind.Sign sign.CloseParen ∷ []) ≡ p + length (spell_param y ++ []) + 1 =
    omega (arith, length-append (spell_param y ++ []) (kind.Sign sign.CloseParen ∷ [])) in
    let e : is_void_alone (place_spec lines p y.spec) y.stars y.name (place_dims lines (p + width_spec y.spec + y.stars + width_name y.name) y.dims) ≡ false =
    void-placed lines p (p + width_spec y.spec + y.stars + width_name y.name) y.spec y.stars y.name y.dims ∙ v.0 in
    relocated n (
    arrives (ap (λ b. Closed x (cond b ParamsTree.Void (ParamsTree.Listed (place_param lines p y ∷ [])))) e)
    (read-list lines y [] l (Params l) p (first-starts (here lines p) l) v.1 tt)
    )
read-params lines x (ParamsTree.Listed (y ∷ (z ∷ zs))) p v =
    let l : ParamList = record { function = x; params = [] } in
    let n : p + length (listed spell_param (y ∷ (z ∷ zs)) ++ kind.Sign sign.CloseParen ∷ []) ≡ p + length (listed spell_param (y ∷ (z ∷ zs))) + 1 =
    omega (arith, length-append (listed spell_param (y ∷ (z ∷ zs))) (kind.Sign sign.CloseParen ∷ [])) in
    relocated n (read-list lines y (z ∷ zs) l (Params l) p (first-starts (here lines p) l) v.0 (v.1, v.2))
