-- What the machine holds of a declarator can be made a whole program in which no further node has begun.
use Rattle.std.proofs.Common.{◌≡◌, ℕ, ◌+◌, ◌-◌, ◌≤◌, max, List, [], ◌∷◌, ◌++◌, length, false, None, sym, ◌∙◌, ap, arith, append_assoc, append-nil, length-append}
use Rattle.std.specs.List.{AllByRecursion}
use Rattle.ob_tree.specs.declared.tokens.TokenKind.{TokenKind}
use Rattle.ob_tree.specs.declared.tokens.TokenKind.TheVariants as kind
use Rattle.ob_tree.specs.declared.tokens.Sign.TheVariants as sign
use Rattle.ob_tree.specs.Trees.{SpecTree, ObjTree, DimTrees, InitTree}
use Rattle.ob_tree.specs.Programs.{ParamTree, FileTree}
use Rattle.ob_tree.specs.Spelling.{stars, spell, spell_spec, spell_name, spell_dims, spell_init}
use Rattle.ob_tree.specs.ProgramSpelling.{spell_static, spell_param}
use Rattle.ob_tree.specs.Valid.{ValidSpec, ValidDims, ValidOpenDims, ValidInit, ValidInits}
use Rattle.ob_tree.specs.ProgramValid.{ValidParam}
use Rattle.ob_tree.specs.Places.{width_name, width_spec, width_dims}
use Rattle.ob_tree.specs.Paths.{begun_spec, begun_dims, begun_init, begun_inits}
use Rattle.ob_tree.specs.ProgramPlaces.{width_static}
use Rattle.ob_tree.specs.ProgramPaths.{begun_param, begun_files}
use Rattle.ob_tree.proofs.SpecShifts.{length-stars}
use Rattle.ob_tree.specs.ProgramStates.{Declarator, ParamList, Head, OfName, OfParam, InitDeclarator, InitList, SpecContext, ForDeclaration, ForParam}
use Rattle.ob_tree.specs.ProgramParts.{add_init, params_of, bare, initial, function}
use Rattle.ob_exprs.proofs.Filling.{leaf, x, valid-x}
use Rattle.ob_parser.specs.DeepestPaths.{depth_in, declarator_path, param_list_path, head_rise, head_path, init_declarator_depth, init_declarator_path, lists_path, spec_depth, spec_path}
use Rattle.ob_parser.proofs.Most.{node-most, spec-most, dims-most}
use Rattle.ob_parser.proofs.Shapes.{params_before, inits_before, scope_spell, heading_spell, declaration_spell, declarator_spell, param_list_spell, head_spell, lists_spell, spec_context_spell, DeclaratorOk, ParamListOk, HeadOk, InitDeclaratorOk, SpecContextOk}
use Rattle.ob_parser.proofs.Adding.{params-spelled, params-valid, params-begun, init-spelled, init-valid, init-some, init-begun}
use Rattle.ob_parser.proofs.Complete.{Completes, completes-same, complete-declaration, complete-name}

module _ (m : ℕ) where
  -- a row of brackets behind a name
  dims-bare : (y : Declarator) (ds : DimTrees) (read rest : List TokenKind) → DeclaratorOk y → ValidDims ds → spell_dims ds ≡ read ++ rest
      → declarator_path y ≤ m → depth_in y.declaration + y.stars + begun_dims ds (length read) ≤ m → Completes m (declarator_spell y ++ read)
  dims-bare y ds read rest ok v g l h =
      let read2 = stars y.stars ++ kind.Name y.name ∷ read in
      let k = length read2 in
      let n : k ≡ y.stars + 1 + length read = omega (arith, length-append (stars y.stars) (kind.Name y.name ∷ read), length-stars y.stars) in
      let e : k - (y.stars + 1) ≡ length read = omega (arith, n) in
      completes-same m (declaration_spell y.declaration ++ read2) (declarator_spell y ++ read) (groups (declaration_spell y.declaration) (stars y.stars) (kind.Name y.name) read) (
      complete-name m y.declaration (bare y ds) read2 rest ok.0 (ok.1, v) tt
      (ap (λ ks. stars y.stars ++ kind.Name y.name ∷ ks) g ∙ sym (append_assoc (stars y.stars) (kind.Name y.name ∷ read) rest)) (omega arith)
      (omega (arith, ap (λ z. begun_dims ds z) e))
      )
    where
      groups : (d s : List TokenKind) (n : TokenKind) (r : List TokenKind) → d ++ (s ++ n ∷ r) ≡ (d ++ (s ++ n ∷ [])) ++ r
      groups d s n r = simp append_assoc

  -- an initialiser behind a row of brackets
  complete-first : (t : InitDeclarator) (i : InitTree) (read rest : List TokenKind) → InitDeclaratorOk t → ValidInit i → spell_init i ≡ read ++ rest
      → init_declarator_path t ≤ m → init_declarator_depth t + begun_init i (length read) ≤ m → Completes m (lists_spell t [] ++ read)
  complete-first t i read rest ok v g l h =
      let y = t.declarator in
      let read2 = stars y.stars ++ kind.Name y.name ∷ (spell_dims t.dims ++ kind.Sign sign.Assign ∷ read) in
      let k = length read2 in
      let n : k ≡ y.stars + width_dims t.dims + 2 + length read = omega (
        arith,
        length-append (stars y.stars) (kind.Name y.name ∷ (spell_dims t.dims ++ kind.Sign sign.Assign ∷ read)),
        length-stars y.stars,
        length-append (spell_dims t.dims) (kind.Sign sign.Assign ∷ read),
      ) in
      let e : k - (y.stars + width_dims t.dims + 2) ≡ length read = omega (arith, n) in
      completes-same m (declaration_spell y.declaration ++ read2) (lists_spell t [] ++ read)
      (groups (declaration_spell y.declaration) (stars y.stars) (kind.Name y.name) (spell_dims t.dims) (kind.Sign sign.Assign) read) (
      complete-name m y.declaration (initial t i) read2 rest ok.0.0 (ok.0.1, ok.1, v) tt
      (
      ap (λ ks. stars y.stars ++ kind.Name y.name ∷ (spell_dims t.dims ++ kind.Sign sign.Assign ∷ ks)) g
      ∙ regroup (stars y.stars) (kind.Name y.name) (spell_dims t.dims) (kind.Sign sign.Assign) read rest
      )
      (omega arith)
      (omega (arith, dims-most t.dims (k - (y.stars + 1)), ap (λ z. begun_init i z) e))
      )
    where
      groups : (d s : List TokenKind) (n : TokenKind) (l : List TokenKind) (e : TokenKind) (r : List TokenKind) → d ++ (s ++ n ∷ (l ++ e ∷ r)) ≡ ((d ++ (s ++ n ∷ [])) ++ (l ++ e ∷ [])) ++ r
      groups d s n l e r = simp append_assoc

      regroup : (s : List TokenKind) (n : TokenKind) (l : List TokenKind) (e : TokenKind) (r t : List TokenKind) → s ++ n ∷ (l ++ e ∷ (r ++ t)) ≡ (s ++ n ∷ (l ++ e ∷ r)) ++ t
      regroup s n l e r t = simp append_assoc

  -- an initialiser in lists
  pub complete-init : (t : InitDeclarator) (is : List InitList) (i : InitTree) (read rest : List TokenKind) → InitDeclaratorOk t → AllByRecursion (λ b. ValidInits b.items) is → ValidInit i → spell_init i ≡ read ++ rest
      → lists_path t is ≤ m → init_declarator_depth t + length is + begun_init i (length read) ≤ m → Completes m (lists_spell t is ++ read)
  complete-init t [] i read rest ok a v g l h = complete-first t i read rest ok v g l (omega (arith, h))
  complete-init t (b ∷ is) i read rest ok a v g l h =
      let z = InitTree.Braces b.first (add_init b.items i) false in
      let read2 = kind.Sign sign.OpenBrace ∷ (inits_before b.items ++ read) in
      let k = length read2 in
      let n : k ≡ 1 + length (inits_before b.items) + length read = omega (arith, length-append (inits_before b.items) read) in
      completes-same m (lists_spell t is ++ read2) (lists_spell t (b ∷ is) ++ read) (sym (append_assoc (lists_spell t is) (kind.Sign sign.OpenBrace ∷ inits_before b.items) read)) (
      complete-init t is z read2 (rest ++ kind.Sign sign.CloseBrace ∷ []) ok a.1 (init-some b.items i, init-valid b.items i a.0 v)
      (
      ap (λ ks. kind.Sign sign.OpenBrace ∷ (ks ++ kind.Sign sign.CloseBrace ∷ [])) (init-spelled b.items i ∙ ap (λ ks. inits_before b.items ++ ks) g)
      ∙ ap (λ ks. kind.Sign sign.OpenBrace ∷ ks) (groups (inits_before b.items) read rest (kind.Sign sign.CloseBrace ∷ []))
      )
      (omega arith)
      (omega (arith, h, node-most k (begun_inits (add_init b.items i) (k - 1)), init-begun b.items i (k - 1) (length read) (omega (arith, n))))
      )
    where
      groups : (a b c d : List TokenKind) → (a ++ (b ++ c)) ++ d ≡ (a ++ b) ++ (c ++ d)
      groups a b c d = simp append_assoc

  -- a row of brackets of which the first has no length gets an initialiser
  dims-open : (y : Declarator) (ds : DimTrees) (read rest : List TokenKind) → DeclaratorOk y → ValidOpenDims ds → spell_dims ds ≡ read ++ rest
      → declarator_path y ≤ m → depth_in y.declaration + y.stars + begun_dims ds (length read) ≤ m → Completes m (declarator_spell y ++ read)
  dims-open y ds read rest ok v g l h =
      let t : InitDeclarator = record { declarator = y; dims = ds } in
      let i = InitTree.Value leaf in
      let read2 = stars y.stars ++ kind.Name y.name ∷ read in
      let k = length read2 in
      let n : k ≡ y.stars + 1 + length read = omega (arith, length-append (stars y.stars) (kind.Name y.name ∷ read), length-stars y.stars) in
      let e : k - (y.stars + 1) ≡ length read = omega (arith, n) in
      let z : k - (y.stars + width_dims ds + 2) ≡ 0 = omega (arith, n, ap length g, length-append read rest) in
      completes-same m (declaration_spell y.declaration ++ read2) (declarator_spell y ++ read) (groups (declaration_spell y.declaration) (stars y.stars) (kind.Name y.name) read) (
      complete-name m y.declaration (initial t i) read2 (rest ++ kind.Sign sign.Assign ∷ spell leaf) ok.0 (ok.1, v, (tt, omega arith)) tt
      (
      ap (λ ks. stars y.stars ++ kind.Name y.name ∷ (ks ++ kind.Sign sign.Assign ∷ spell leaf)) g
      ∙ regroup (stars y.stars) (kind.Name y.name) read rest (kind.Sign sign.Assign ∷ spell leaf)
      )
      (omega arith)
      (omega (arith, ap (λ z. begun_dims ds z) e, ap (λ z. begun_init i z) z))
      )
    where
      groups : (d s : List TokenKind) (n : TokenKind) (r : List TokenKind) → d ++ (s ++ n ∷ r) ≡ (d ++ (s ++ n ∷ [])) ++ r
      groups d s n r = simp append_assoc

      regroup : (s : List TokenKind) (n : TokenKind) (r t k : List TokenKind) → s ++ n ∷ ((r ++ t) ++ k) ≡ (s ++ n ∷ r) ++ (t ++ k)
      regroup s n r t k = simp append_assoc

  complete-dims : (y : Declarator) (ds : DimTrees) (read rest : List TokenKind) → DeclaratorOk y → ValidOpenDims ds → spell_dims ds ≡ read ++ rest
      → declarator_path y ≤ m → depth_in y.declaration + y.stars + begun_dims ds (length read) ≤ m → Completes m (declarator_spell y ++ read)
  complete-dims y DimTrees.NoDims read rest ok v g l h = dims-bare y DimTrees.NoDims read rest ok v g l h
  complete-dims y (DimTrees.Sized e ds) read rest ok v g l h = dims-bare y (DimTrees.Sized e ds) read rest ok v g l h
  complete-dims y (DimTrees.Unsized ds) read rest ok v g l h = dims-open y (DimTrees.Unsized ds) read rest ok v g l h

  -- a parameter
  pub complete-param : (l : ParamList) (y : ParamTree) (read rest : List TokenKind) → ParamListOk l → ValidParam y → spell_param y ≡ read ++ rest
      → param_list_path l ≤ m → depth_in l.function.declaration + begun_param y (length read) ≤ m → Completes m (param_list_spell l ++ read)
  complete-param l y read rest ok v g b h =
      let f = l.function in
      let ps = params_of (l.params ++ y ∷ []) in
      let read2 = stars f.stars ++ kind.Name f.name ∷ (kind.Sign sign.OpenParen ∷ (params_before l.params ++ read)) in
      let k = length read2 in
      let n : k ≡ f.stars + 2 + length (params_before l.params) + length read = omega (
        arith,
        length-append (stars f.stars) (kind.Name f.name ∷ (kind.Sign sign.OpenParen ∷ (params_before l.params ++ read))),
        length-stars f.stars,
        length-append (params_before l.params) read,
      ) in
      completes-same m (declaration_spell f.declaration ++ read2) (param_list_spell l ++ read)
      (groups (declaration_spell f.declaration) (stars f.stars) (kind.Name f.name) (kind.Sign sign.OpenParen) (params_before l.params) read) (
      complete-name m f.declaration (function f ps) read2 (rest ++ kind.Sign sign.CloseParen ∷ []) ok.0.0 (ok.0.1, params-valid l.params y ok.2 v) ok.1
      (
      ap (λ ks. stars f.stars ++ kind.Name f.name ∷ (kind.Sign sign.OpenParen ∷ (ks ++ kind.Sign sign.CloseParen ∷ []))) (params-spelled l.params y ∙ ap (λ ks. params_before l.params ++ ks) g)
      ∙ regroup (stars f.stars) (kind.Name f.name) (kind.Sign sign.OpenParen) (params_before l.params) read rest (kind.Sign sign.CloseParen ∷ [])
      )
      (omega arith)
      (omega (arith, params-begun l.params y (k - (f.stars + 2)) (length read) (omega (arith, n))))
      )
    where
      groups : (d s : List TokenKind) (n o : TokenKind) (p r : List TokenKind) → d ++ (s ++ n ∷ (o ∷ (p ++ r))) ≡ ((d ++ (s ++ n ∷ [])) ++ o ∷ p) ++ r
      groups d s n o p r = simp append_assoc

      regroup : (s : List TokenKind) (n o : TokenKind) (p r t k : List TokenKind) → s ++ n ∷ (o ∷ ((p ++ (r ++ t)) ++ k)) ≡ (s ++ n ∷ (o ∷ (p ++ r))) ++ (t ++ k)
      regroup s n o p r t k = simp append_assoc

  -- brackets
  pub complete-head : (h : Head) (ds : DimTrees) (read rest : List TokenKind) → HeadOk h → ValidOpenDims ds → spell_dims ds ≡ read ++ rest
      → head_path h ≤ m → head_rise h + begun_dims ds (length read) ≤ m → Completes m (head_spell h ++ read)
  complete-head (OfName y) ds read rest ok v g b h = complete-dims y ds read rest ok v g b h
  complete-head (OfParam l f n s i name a) ds read rest ok v g b h =
      let y : ParamTree = record { first = f; line = n; spec = s; stars = i; name = name; at = a; dims = ds } in
      let read2 = spell_spec s ++ (stars i ++ (spell_name name ++ read)) in
      let k = length read2 in
      let w : k ≡ width_spec s + i + width_name name + length read = omega (
        arith,
        length-append (spell_spec s) (stars i ++ (spell_name name ++ read)),
        length-append (stars i) (spell_name name ++ read),
        length-stars i,
        length-append (spell_name name) read,
      ) in
      let e : k - (width_spec s + i + width_name name) ≡ length read = omega (arith, w) in
      completes-same m (param_list_spell l ++ read2) (head_spell (OfParam l f n s i name a) ++ read) (groups (param_list_spell l) (spell_spec s) (stars i) (spell_name name) read) (
      complete-param l y read2 rest ok.0 (ok.1, ok.2, v)
      (ap (λ ks. spell_spec s ++ (stars i ++ (spell_name name ++ ks))) g ∙ regroup (spell_spec s) (stars i) (spell_name name) read rest) (omega arith)
      (omega (arith, spec-most s k, ap (λ z. begun_dims ds z) e))
      )
    where
      groups : (l s i n r : List TokenKind) → l ++ (s ++ (i ++ (n ++ r))) ≡ (l ++ (s ++ (i ++ n))) ++ r
      groups l s i n r = simp append_assoc

      regroup : (s i n r t : List TokenKind) → s ++ (i ++ (n ++ (r ++ t))) ≡ (s ++ (i ++ (n ++ r))) ++ t
      regroup s i n r t = simp append_assoc

  -- a specifier
  pub complete-spec : (u : SpecContext) (s : SpecTree) (read rest : List TokenKind) → SpecContextOk u → ValidSpec s → spell_spec s ≡ read ++ rest
      → spec_path u ≤ m → spec_depth u + begun_spec s (length read) ≤ m → Completes m (spec_context_spell u ++ read)
  complete-spec (ForParam l f n) s read rest ok v g b h =
      let y : ParamTree = record { first = f; line = n; spec = s; stars = 0; name = None; at = f; dims = DimTrees.NoDims } in
      complete-param l y read rest ok (v, tt, tt) (append-nil (spell_spec s) ∙ g) b (omega (arith, h))
  complete-spec (ForDeclaration d) s read rest ok v g b h =
      let o = d.scope in
      let y = FileTree.Object (ObjTree.Bare 0 x 0 DimTrees.NoDims) in
      let read2 = spell_static d.fixed ++ read in
      let w = width_static d.fixed in
      let k = length read2 in
      let n : k ≡ w + length read = length-append (spell_static d.fixed) read in
      let e : k - w ≡ length read = omega (arith, n) in
      let z : k - (w + width_spec s) ≡ 0 = omega (arith, n, ap length g, length-append read rest) in
      let tail = kind.Name x ∷ (kind.Sign sign.Semi ∷ []) in
      let files = λ (j : ℕ). begun_files (y ∷ []) j in
      completes-same m (scope_spell o ++ read2) (heading_spell d ++ read)
      (sym (append_assoc (scope_spell o) (spell_static d.fixed) read)) (
      complete-declaration m o d.fixed s (y ∷ []) read2 (rest ++ tail) ok.0 ok.1 v (tt, tt) ((valid-x, tt), tt)
      (ap (λ ks. spell_static d.fixed ++ (ks ++ tail)) g ∙ groups (spell_static d.fixed) read rest tail) (omega arith)
      (omega (arith, h, node-most k (max (begun_spec s (k - w)) (files (k - (w + width_spec s)))), ap (λ j. begun_spec s j) e, ap files z))
      )
    where
      groups : (a b c d : List TokenKind) → a ++ ((b ++ c) ++ d) ≡ (a ++ b) ++ (c ++ d)
      groups a b c d = simp append_assoc
