-- What the machine holds after a part of the tokens of a declaration is no deeper than the nodes that have begun.
use Rattle.std.proofs.Common.{◌≡◌, ℕ, zero, suc, ◌+◌, ◌-◌, ◌≤◌, max, min, List, [], ◌∷◌, ◌++◌, length, take, Bool, true, false, Some, None, refl, sym, ◌∙◌, ap, arith, append_assoc, length-append}
use Rattle.std.specs.Prelude.{cond}
use Rattle.std.specs.List.{AllByRecursion}
use Rattle.ob_tree.specs.declared.tokens.TokenKind.{TokenKind}
use Rattle.ob_tree.specs.declared.tokens.TokenKind.TheVariants as kind
use Rattle.ob_tree.specs.declared.tokens.Keyword.TheVariants as word
use Rattle.ob_tree.specs.declared.tokens.Sign.TheVariants as sign
use Rattle.ob_tree.specs.Trees.{SpecTree, ObjTree, ObjTrees, DimTrees}
use Rattle.ob_tree.specs.Programs.{LocalTree, ParamsTree, FileTree}
use Rattle.ob_tree.specs.Spelling.{stars, spell_spec, spell_dims, spell_init, spell_objs, listed, more_listed}
use Rattle.ob_tree.specs.ProgramSpelling.{spell_static, spell_params, spell_function, spell_file, spell_local}
use Rattle.ob_tree.specs.Valid.{ValidSpec}
use Rattle.ob_tree.specs.ProgramValid.{ValidFile, ValidFiles, ValidParams, ValidLocal}
use Rattle.ob_tree.specs.Places.{here, place_spec, place_dims, width_spec, width_dims, width_obj}
use Rattle.ob_tree.specs.ProgramPlaces.{width_static, width_file, place_file}
use Rattle.ob_tree.specs.Paths.{node_with, begun_spec, begun_dims, begun_init, begun_objs, height_spec, height_dims, height_objs}
use Rattle.ob_tree.specs.ProgramPaths.{begun_params, begun_function, begun_file, begun_files, begun_local, height_file, height_files}
use Rattle.ob_tree.specs.ExprMachine as reader
use Rattle.ob_tree.proofs.FirstTokens.{first-more, first-spec, BeginsSpec}
use Rattle.ob_tree.proofs.SpecShifts.{length-stars}
use Rattle.ob_tree.specs.ProgramStates.{PendingStmt, Scope, FileScope, BlockScope, ForScope, Heading, Declaration, OfName, InitDeclarator, ForDeclaration, State, Specifying, Declare, Dims, Init, Params, ForOpen}
use Rattle.ob_tree.specs.ProgramParts.{add_name, objects, local_of, item_of}
use Rattle.ob_tree.specs.ProgramMachine.{begin_declaration, end_declaration, shift, run}
use Rattle.ob_tree.proofs.ProgramRuns.{restart, read-spec, all-stars}
use Rattle.ob_tree.proofs.ProgramInits.{read-open-dims}
use Rattle.ob_tree.proofs.ProgramNames.{IsFileScope, MayDeclare, named, outer-parameters, behind, read-file, name-ends, StartsName, file-first, name-starts, tag-declared}
use Rattle.ob_tree.proofs.ProgramDeclarations.{BeginsDeclaration, spec-declares, begin-spec, read-head, files, all-files, valid-files, may-declare, for-starts}
use Rattle.ob_exprs.proofs.Begun.{full-spec}
use Rattle.ob_exprs.proofs.Heights.{spec-place, dims-place}
use Rattle.ob_parser.specs.DeepestPaths.{scope_depth, scope_path, depth_in, declaration_path, deepest_path}
use Rattle.ob_parser.proofs.Adding.{item-height, local-height, name-height}
use Rattle.ob_parser.proofs.Complete.{begun_declaration}
use Rattle.ob_parser.proofs.Full.{node-some, full-open-dims, full-file, file-place}
use Rattle.ob_parser.proofs.Climbs.{Within, w-nothing, w-token, w-part, w-spelled, w-restart, w-stars, reach-specifier, reach-dims, reach-open-dims, reach-init}
use Rattle.ob_parser.proofs.ReachParams.{reach-params}

-- a declaration that ends has no more nodes than it had
objects-height : (xs : List FileTree) → height_objs (objects xs) ≤ height_files xs
objects-height [] = omega arith
objects-height (FileTree.Object o ∷ xs) = omega (arith, objects-height xs)
objects-height (FileTree.Function n name a ps ∷ xs) = omega (arith, objects-height xs)

pub end-path : (m : ℕ) (o : Scope) (f n : ℕ) (fixed : Bool) (s : SpecTree) (xs : List FileTree)
    → declaration_path (record { heading = record { scope = o; first = f; line = n; fixed = fixed }; spec = s; names = xs }) ≤ m
    → deepest_path (end_declaration (record { heading = record { scope = o; first = f; line = n; fixed = fixed }; spec = s; names = xs })) ≤ m
end-path m (FileScope items) f n fixed s xs h =
    omega (arith, h, item-height items (item_of (record { heading = record { scope = FileScope items; first = f; line = n; fixed = fixed }; spec = s; names = xs })))
end-path m (BlockScope g i items fs) f n fixed s xs h =
    omega (arith, h, local-height items (local_of (record { heading = record { scope = BlockScope g i items fs; first = f; line = n; fixed = fixed }; spec = s; names = xs })), objects-height xs)
end-path m (ForScope g i fs) f n fixed s xs h = omega (arith, h, objects-height xs)

module _ (lines : ℕ → ℕ) (m : ℕ) where
  -- the stars and the name of a declarator, and what stands behind them
  named-reach : (d : Declaration) (n : ℕ) (name : List ℕ) (ys : List TokenKind) (k p : ℕ) → declaration_path d ≤ m → depth_in d + min n k ≤ m
      → ((j : ℕ) → k ≡ n + 1 + j → Within m (run lines (p + n + 1) (take j ys) (Some (Dims (OfName (named d n name (p + n))) DimTrees.NoDims))))
      → Within m (run lines p (take k (stars n ++ kind.Name name ∷ ys)) (Some (Declare d 0)))
  named-reach d n name ys k p l a next =
      w-part lines m (stars n) (kind.Name name ∷ ys) k p (p + n) (Declare d 0) (Declare d n) (all-stars lines (Declare d) (λ x y. refl) n p)
      (λ h. w-stars lines m (Declare d) (λ x y. refl) n k p 0 (omega (arith, h, length-stars n)) (λ j g. omega (arith, h, length-stars n)))
      (λ j h.
      w-token lines m (kind.Name name) ys (suc j) (p + n) (p + n + 1) (Declare d n) (Dims (OfName (named d n name (p + n))) DimTrees.NoDims) (λ e. (let g : ⊥ = omega arith in absurd g)) refl refl
      (λ i e. next i (omega (arith, h, length-stars n))))

  pub reach-function : (d : Declaration) (n : ℕ) (name : List ℕ) (ps : ParamsTree) (k p : ℕ) → ValidParams ps → IsFileScope d.heading.scope → declaration_path d ≤ m → depth_in d + begun_function n ps k ≤ m
      → Within m (run lines p (take k (spell_function n name ps)) (Some (Declare d 0)))
  reach-function d n name ps k p v o l a =
      let x = named d n name (p + n) in
      named-reach d n name (kind.Sign sign.OpenParen ∷ (spell_params ps ++ kind.Sign sign.CloseParen ∷ [])) k p l (omega (arith, a))
      (λ j h.
      w-token lines m (kind.Sign sign.OpenParen) (spell_params ps ++ kind.Sign sign.CloseParen ∷ []) j (p + n + 1) (p + n + 2) (Dims (OfName x) DimTrees.NoDims) (Params (record { function = x; params = [] }))
      (λ e. omega (arith, a)) (outer-parameters d.heading.scope x o) (omega arith)
      (λ i e. (let b : k - (n + 2) ≡ i = omega arith in reach-params lines m x ps i (p + n + 2) v (omega (arith, a)) (omega (arith, a, ap (begun_params ps) b)))))

  reach-file : (d : Declaration) (x : FileTree) (k p : ℕ) → ValidFile x → MayDeclare d.heading.scope x → declaration_path d ≤ m → depth_in d + begun_file x k ≤ m
      → Within m (run lines p (take k (spell_file x)) (Some (Declare d 0)))
  reach-file d (FileTree.Function n name a ps) k p v o l b = reach-function d n name ps k p v.1 o l b
  reach-file d (FileTree.Object (ObjTree.Bare n name a ds)) k p v o l b =
      let h = OfName (named d n name (p + n)) in
      named-reach d n name (spell_dims ds) k p l (omega (arith, b))
      (λ j g. (let e : k - (n + 1) ≡ j = omega arith in reach-dims lines m h ds DimTrees.NoDims j (p + n + 1) v.1 (omega (arith, b, g)) (omega (arith, b, g)) (omega (arith, b, g, ap (begun_dims ds) e))))
  reach-file d (FileTree.Object (ObjTree.Initial n name a ds i)) k p v o l b =
      let x = named d n name (p + n) in
      let h = OfName x in
      let ds' = place_dims lines (p + n + 1) ds in
      let t : InitDeclarator = record { declarator = x; dims = ds' } in
      let q = p + n + 1 + width_dims ds in
      named-reach d n name (spell_dims ds ++ kind.Sign sign.Assign ∷ spell_init i) k p l (omega (arith, b))
      (λ j g.
      (
      let e : k - (n + 1) ≡ j = omega arith in
      w-part lines m (spell_dims ds) (kind.Sign sign.Assign ∷ spell_init i) j (p + n + 1) q (Dims h DimTrees.NoDims) (Dims h ds') (read-open-dims lines h ds (p + n + 1) v.1)
      (λ w. reach-open-dims lines m h ds j (p + n + 1) v.1 (omega (arith, b, g)) (omega (arith, b, g, ap (begun_dims ds) e)))
      (λ r w.
      (
      let f : begun_dims ds (k - (n + 1)) ≡ height_dims ds = full-open-dims ds (k - (n + 1)) v.1 (omega arith) in
      let y = dims-place lines (p + n + 1) ds in
      w-token lines m (kind.Sign sign.Assign) (spell_init i) (suc r) q (q + 1) (Dims h ds') (Init t []) (λ z. (let u : ⊥ = omega arith in absurd u)) refl refl
      (λ c z. (let s : k - (n + width_dims ds + 2) ≡ c = omega arith in reach-init lines m t i [] c (q + 1) v.2 (omega (arith, b, g, f, y)) (omega (arith, b, ap (begun_init i) s))))
      ))
      ))

  -- declarators up to the semicolon
  reach-files : (x : FileTree) (xs : List FileTree) (d : Declaration) (k p : ℕ) → ValidFile x → AllByRecursion ValidFile xs → MayDeclare d.heading.scope x → AllByRecursion (MayDeclare d.heading.scope) xs
      → declaration_path d ≤ m → depth_in d + begun_files (x ∷ xs) k ≤ m
      → Within m (run lines p (take k (listed spell_file (x ∷ xs) ++ kind.Sign sign.Semi ∷ [])) (Some (Declare d 0)))
  reach-files x [] d k p v vs o os l b =
      let x' = place_file lines p x in
      let q = p + width_file x in
      let h = d.heading in
      w-spelled lines m k p (spell_file x ++ kind.Sign sign.Semi ∷ []) ((spell_file x ++ []) ++ kind.Sign sign.Semi ∷ []) (Declare d 0) (sym (append_assoc (spell_file x) [] (kind.Sign sign.Semi ∷ []))) (
      w-part lines m (spell_file x) (kind.Sign sign.Semi ∷ []) k p q (Declare d 0) (behind d x') (read-file lines d x p v o) (λ w. reach-file d x k p v o l (omega (arith, b)))
      (λ j w.
      (
      let f : begun_file x k ≡ height_file x = full-file x k v (omega arith) in
      let e : deepest_path (end_declaration (add_name d x')) ≤ m = end-path m h.scope h.first h.line h.fixed d.spec (d.names ++ x' ∷ []) (omega (arith, b, f, name-height d.names x', file-place lines p x)) in
      w-token lines m (kind.Sign sign.Semi) [] (suc j) q (q + 1) (behind d x') (end_declaration (add_name d x')) (λ z. (let u : ⊥ = omega arith in absurd u)) (name-ends lines d x p (here lines q) (kind.Sign sign.Semi) v tt) refl
      (λ i z. w-nothing lines m i (q + 1) (end_declaration (add_name d x')) e)
      ))
      )
  reach-files x (y ∷ ys) d k p v vs o os l b =
      let x' = place_file lines p x in
      let q = p + width_file x in
      let rest = listed spell_file (y ∷ ys) ++ kind.Sign sign.Semi ∷ [] in
      w-spelled lines m k p (spell_file x ++ kind.Sign sign.Comma ∷ rest) (listed spell_file (x ∷ (y ∷ ys)) ++ kind.Sign sign.Semi ∷ []) (Declare d 0)
      (sym (append_assoc (spell_file x) (more_listed spell_file (y ∷ ys)) (kind.Sign sign.Semi ∷ []))) (
      w-part lines m (spell_file x) (kind.Sign sign.Comma ∷ rest) k p q (Declare d 0) (behind d x') (read-file lines d x p v o) (λ w. reach-file d x k p v o l (omega (arith, b)))
      (λ j w.
      w-token lines m (kind.Sign sign.Comma) rest (suc j) q (q + 1) (behind d x') (Declare (add_name d x') 0) (λ z. (let u : ⊥ = omega arith in absurd u)) (name-ends lines d x p (here lines q) (kind.Sign sign.Comma) v tt) refl
      (λ i z.
      (
      let f : begun_file x k ≡ height_file x = full-file x k v (omega arith) in
      let e : k - (width_file x + 1) ≡ i = omega arith in
      reach-files y ys (add_name d x') i (q + 1) vs.0 vs.1 os.0 os.1 (omega (arith, b, f, name-height d.names x', file-place lines p x)) (omega (arith, b, ap (begun_files (y ∷ ys)) e))
      )))
      )

  -- all declarators behind a specifier that was placed at r
  pub reach-names : (h : Heading) (s : SpecTree) (r : ℕ) (xs : List FileTree) (k p : ℕ) → ValidFiles s xs → AllByRecursion (MayDeclare h.scope) xs
      → declaration_path (record { heading = h; spec = place_spec lines r s; names = [] }) ≤ m → scope_depth h.scope + 1 + begun_files xs k ≤ m
      → Within m (run lines p (take k (listed spell_file xs ++ kind.Sign sign.Semi ∷ [])) (Some (Specifying (ForDeclaration h) (reader.AfterSpec (place_spec lines r s) []))))
  reach-names h s r [] k p v o l b =
      let s' = place_spec lines r s in
      let d : Declaration = record { heading = h; spec = s'; names = [] } in
      w-token lines m (kind.Sign sign.Semi) [] k p (p + 1) (Specifying (ForDeclaration h) (reader.AfterSpec s' [])) (end_declaration d) (λ z. omega (arith, l))
      (ap (λ c. cond c (Some (end_declaration d)) None) (tag-declared lines r s v)) refl
      (λ j z. w-nothing lines m j (p + 1) (end_declaration d) (end-path m h.scope h.first h.line h.fixed s' [] l))
  reach-names h s r (x ∷ xs) k p v o l b =
      let s' = place_spec lines r s in
      let d : Declaration = record { heading = h; spec = s'; names = [] } in
      let first = first-more StartsName (listed spell_file (x ∷ xs)) (kind.Sign sign.Semi ∷ []) (first-more StartsName (spell_file x) (more_listed spell_file xs) (file-first x)) in
      w-restart lines m (Declare d 0) StartsName (listed spell_file (x ∷ xs) ++ kind.Sign sign.Semi ∷ []) k p (Specifying (ForDeclaration h) (reader.AfterSpec s' [])) first (name-starts h s' (here lines p))
      (λ z. omega (arith, l)) (λ j z. reach-files x xs d (suc j) p v.0 v.1 o.0 o.1 l (omega (arith, b, ap (begun_files (x ∷ xs)) z)))

  -- `static` or not, and a specifier
  pub reach-head : (o : Scope) (fixed : Bool) (spec : SpecTree) (s : State) (k p : ℕ) → ValidSpec spec
      → ((c : TokenKind) → BeginsDeclaration c → shift (here lines p) c s ≡ begin_declaration (here lines p) c o) → (k ≡ 0 → deepest_path s ≤ m) → scope_path o ≤ m
      → scope_depth o + node_with k (begun_spec spec (k - width_static fixed)) ≤ m
      → Within m (run lines p (take k (spell_static fixed ++ spell_spec spec)) (Some s))
  reach-head o false spec s k p v same z l b =
      let h : Heading = record { scope = o; first = p; line = lines p; fixed = false } in
      w-restart lines m (Specifying (ForDeclaration h) (reader.Specifier [])) BeginsSpec (spell_spec spec) k p s (first-spec spec v)
      (λ c f. same c (spec-declares c f) ∙ begin-spec (here lines p) c o f) z
      (λ j e.
      (
      let n = node-some k (begun_spec spec (k - 0)) (omega arith) in
      let g : k - 0 ≡ suc j = omega arith in
      reach-specifier lines m (ForDeclaration h) spec (suc j) p v (omega (arith, b, n)) (omega (arith, b, n, ap (begun_spec spec) g))
      ))
  reach-head o true spec s k p v same z l b =
      let h : Heading = record { scope = o; first = p; line = lines p; fixed = true } in
      w-token lines m (kind.Word word.Static) (spell_spec spec) k p (p + 1) s (Specifying (ForDeclaration h) (reader.Specifier [])) z (same (kind.Word word.Static) refl) refl
      (λ j e.
      (
      let n = node-some k (begun_spec spec (k - 1)) (omega arith) in
      let g : k - 1 ≡ j = omega arith in
      reach-specifier lines m (ForDeclaration h) spec j (p + 1) v (omega (arith, b, n)) (omega (arith, b, n, ap (begun_spec spec) g))
      ))

  head-less : (fixed : Bool) (s : SpecTree) (xs : List FileTree) (k : ℕ) → node_with k (begun_spec s (k - width_static fixed)) ≤ begun_declaration fixed s xs k
  head-less fixed s xs zero = omega arith
  head-less fixed s xs (suc k) = omega arith

  -- a declaration
  pub reach-declaration : (o : Scope) (fixed : Bool) (spec : SpecTree) (xs : List FileTree) (s : State) (k p : ℕ) → ValidSpec spec → ValidFiles spec xs → AllByRecursion (MayDeclare o) xs
      → ((c : TokenKind) → BeginsDeclaration c → shift (here lines p) c s ≡ begin_declaration (here lines p) c o) → (k ≡ 0 → deepest_path s ≤ m) → scope_path o ≤ m
      → scope_depth o + begun_declaration fixed spec xs k ≤ m
      → Within m (run lines p (take k ((spell_static fixed ++ spell_spec spec) ++ (listed spell_file xs ++ kind.Sign sign.Semi ∷ []))) (Some s))
  reach-declaration o fixed spec xs s k p v w u same z l b =
      let h : Heading = record { scope = o; first = p; line = lines p; fixed = fixed } in
      let a = p + width_static fixed in
      let q = a + width_spec spec in
      let t = Specifying (ForDeclaration h) (reader.AfterSpec (place_spec lines a spec) []) in
      w-part lines m (spell_static fixed ++ spell_spec spec) (listed spell_file xs ++ kind.Sign sign.Semi ∷ []) k p q s t (read-head lines o fixed spec s p v same)
      (λ e. reach-head o fixed spec s k p v same z l (omega (arith, b, head-less fixed spec xs k)))
      (λ j e.
      (
      let y : length (spell_static fixed ++ spell_spec spec) ≡ width_static fixed + width_spec spec = length-append (spell_static fixed) (spell_spec spec) in
      let n = node-some k (max (begun_spec spec (k - width_static fixed)) (begun_files xs (k - (width_static fixed + width_spec spec)))) (omega arith) in
      let f : begun_spec spec (k - width_static fixed) ≡ height_spec spec = full-spec spec (k - width_static fixed) v (omega (arith, y)) in
      let g : k - (width_static fixed + width_spec spec) ≡ suc j = omega (arith, y) in
      reach-names h spec a xs (suc j) q w u (omega (arith, b, n, f, spec-place lines a spec)) (omega (arith, b, n, ap (begun_files xs) g))
      ))

files-begun : (os : ObjTrees) (k : ℕ) → begun_files (files os) k ≡ begun_objs os k
files-begun ObjTrees.NoDeclarators k = refl
files-begun (ObjTrees.Declarator o os) k = ap (λ z. max (begun_file (FileTree.Object o) k) z) (files-begun os (k - (width_obj o + 1)))

local-begun : (l : LocalTree) (k : ℕ) → begun_declaration l.fixed l.spec (files l.names) k ≡ begun_local l k
local-begun l k = ap (λ z. node_with k (max (begun_spec l.spec (k - width_static l.fixed)) z)) (files-begun l.names (k - (width_static l.fixed + width_spec l.spec)))

-- the tokens of a declaration in a block
local-spelled : (l : LocalTree) → (spell_static l.fixed ++ spell_spec l.spec) ++ (listed spell_file (files l.names) ++ kind.Sign sign.Semi ∷ []) ≡ spell_local l
local-spelled l =
    ap (λ ks. (spell_static l.fixed ++ spell_spec l.spec) ++ (ks ++ kind.Sign sign.Semi ∷ [])) (all-files l.names)
    ∙ append_assoc (spell_static l.fixed) (spell_spec l.spec) (spell_objs l.names ++ kind.Sign sign.Semi ∷ [])

module _ (lines : ℕ → ℕ) (m : ℕ) where
  pub reach-local : (o : Scope) (l : LocalTree) (s : State) (k p : ℕ) → ValidLocal l
      → ((c : TokenKind) → BeginsDeclaration c → shift (here lines p) c s ≡ begin_declaration (here lines p) c o) → (k ≡ 0 → deepest_path s ≤ m) → scope_path o ≤ m
      → scope_depth o + begun_local l k ≤ m → Within m (run lines p (take k (spell_local l)) (Some s))
  reach-local o l s k p v same z a b =
      w-spelled lines m k p ((spell_static l.fixed ++ spell_spec l.spec) ++ (listed spell_file (files l.names) ++ kind.Sign sign.Semi ∷ [])) (spell_local l) s (local-spelled l)
      (reach-declaration lines m o l.fixed l.spec (files l.names) s k p v.0 (valid-files l.spec l.names v.1) (may-declare o l.names) same z a (omega (arith, b, local-begun l k)))

  -- a declaration that stands first in a `for`
  pub reach-for-local : (f n : ℕ) (fs : List PendingStmt) (l : LocalTree) (k p : ℕ) → l.fixed ≡ false → ValidLocal l → scope_path (ForScope f n fs) ≤ m
      → scope_depth (ForScope f n fs) + begun_local l k ≤ m → Within m (run lines p (take k (spell_local l)) (Some (ForOpen f n fs)))
  reach-for-local f n fs l k p e v a b =
      let o = ForScope f n fs in
      let h : Heading = record { scope = o; first = p; line = lines p; fixed = false } in
      let start = Specifying (ForDeclaration h) (reader.Specifier []) in
      let rest = listed spell_file (files l.names) ++ kind.Sign sign.Semi ∷ [] in
      let spelled : spell_spec l.spec ++ rest ≡ spell_local l = ap (λ c. (spell_static c ++ spell_spec l.spec) ++ rest) (sym e) ∙ local-spelled l in
      let q = p + width_spec l.spec in
      let t = Specifying (ForDeclaration h) (reader.AfterSpec (place_spec lines p l.spec) []) in
      let w : width_static l.fixed ≡ 0 = ap width_static e in
      let y : begun_declaration l.fixed l.spec (files l.names) k ≡ begun_declaration false l.spec (files l.names) k = ap (λ c. begun_declaration c l.spec (files l.names) k) e in
      let first = first-spec l.spec v.0 in
      let same = λ (c : TokenKind) (g : BeginsSpec c). for-starts (here lines p) c f n fs g in
      w-spelled lines m k p (spell_spec l.spec ++ rest) (spell_local l) (ForOpen f n fs) spelled (
      w-part lines m (spell_spec l.spec) rest k p q (ForOpen f n fs) t (restart start BeginsSpec first same (read-spec lines (ForDeclaration h) l.spec p v.0))
      (λ g. w-restart lines m start BeginsSpec (spell_spec l.spec) k p (ForOpen f n fs) first same (λ z. a)
      (λ j z.
      (
      let i = node-some k (max (begun_spec l.spec (k - 0)) (begun_files (files l.names) (k - (0 + width_spec l.spec)))) (omega arith) in
      let r : k - 0 ≡ suc j = omega arith in
      reach-specifier lines m (ForDeclaration h) l.spec (suc j) p v.0 (omega (arith, a, b, local-begun l k, y, i)) (omega (arith, b, local-begun l k, y, i, ap (begun_spec l.spec) r))
      )))
      (λ j g.
      (
      let i = node-some k (max (begun_spec l.spec (k - 0)) (begun_files (files l.names) (k - (0 + width_spec l.spec)))) (omega arith) in
      let c : begun_spec l.spec (k - 0) ≡ height_spec l.spec = full-spec l.spec (k - 0) v.0 (omega arith) in
      let r : k - (0 + width_spec l.spec) ≡ suc j = omega arith in
      reach-names lines m h l.spec p (files l.names) (suc j) q (valid-files l.spec l.names v.1) (may-declare o l.names) (omega (arith, a, b, local-begun l k, y, i, c, spec-place lines p l.spec))
      (omega (arith, b, local-begun l k, y, i, ap (begun_files (files l.names)) r))
      ))
      )
