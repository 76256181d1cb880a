-- What the machine answers is what the grammar says of programs.
use Rattle.std.proofs.Common.{◌≡◌, ℕ, zero, suc, ◌+◌, ◌-◌, ◌≤◌, max, List, [], ◌∷◌, ◌++◌, length, take, Bool, Option, Some, None, cond, refl, sym, ◌∙◌, ap, subst, arith, append_assoc, append-nil, length-append}
use Rattle.std.specs.List.{All, AllByRecursion}
use Rattle.std.proofs.lemmas.List.Elements.{All-head, All-tail}
use Rattle.std.proofs.Math.Seq.{take-append_seam}
use Rattle.ob_tree.specs.declared.tokens.TokenKind.{TokenKind}
use Rattle.ob_tree.specs.declared.tokens.TokenKind.TheVariants as kind
use Rattle.ob_tree.specs.declared.tokens.Sign.TheVariants as sign
use Rattle.ob_tree.specs.Trees.{SpecTree}
use Rattle.ob_tree.specs.Programs.{StmtTree, BlockTrees, ParamsTree, ItemTree, ProgramTree}
use Rattle.ob_tree.specs.Spelling.{stars, spell_spec, listed}
use Rattle.ob_tree.specs.ProgramSpelling.{spell_static, spell_function, spell_file, spell_block, spell_item, spell_program}
use Rattle.ob_tree.specs.Valid.{IsOfSource}
use Rattle.ob_tree.specs.ProgramValid.{ValidItem, ValidProgram}
use Rattle.ob_tree.specs.Places.{here, place_spec, width_spec}
use Rattle.ob_tree.specs.Paths.{node_with, begun_spec, height_spec}
use Rattle.ob_tree.specs.ProgramPlaces.{width_static, width_params, width_item, place_params, place_item, place_program, PlacedProgram}
use Rattle.ob_tree.specs.ProgramPaths.{begun_function, begun_stmt, begun_block, begun_item, begun_program, height_function, height_item, height_program}
use Rattle.ob_tree.specs.Fronts.{within, any}
use Rattle.ob_tree.specs.ProgramFronts.{BeginsProgram, IsProgram}
use Rattle.ob_tree.specs.ExprMachine as reader
use Rattle.ob_tree.specs.Readings as readings
use Rattle.ob_tree.specs.ProgramStates.{Definition, PendingStmt, InBody, InBlock, InIf, InElse, InWhile, InFor, FileScope, Heading, Declaration, ForDeclaration, State, Items, Specifying, Declare, Closed, Begin, Done}
use Rattle.ob_tree.specs.ProgramMachine.{begin_declaration, begin_body, reduce, define, shift, shift_if, run, whole, finish}
use Rattle.ob_tree.proofs.ProgramRuns.{run-append, RunsTo, restart}
use Rattle.ob_tree.proofs.ProgramNames.{named, StartsName, stars-first, name-starts, read-function}
use Rattle.ob_tree.proofs.ProgramDeclarations.{BeginsDeclaration, read-head}
use Rattle.ob_tree.proofs.ProgramThrough.{declares-not-else}
use Rattle.ob_tree.proofs.OneProgram.{params-named, length-function, may-declare, read-item, read-program}
use Rattle.ob_exprs.proofs.Begun.{full-spec}
use Rattle.ob_exprs.proofs.Heights.{spec-place}
use Rattle.ob_parser.specs.DeepestPaths.{declaration_path, deepest_stack_path, deepest_path}
use Rattle.ob_parser.proofs.Adding.{item-height}
use Rattle.ob_parser.proofs.Full.{node-some, full-function, full-item, params-place, item-place}
use Rattle.ob_parser.proofs.Shapes.{state_spell, StateOk}
use Rattle.ob_parser.proofs.Sound.{Good}
use Rattle.ob_parser.proofs.SoundStatements.{Kept, stmt-kept, define-valid, define-spelled, program-shift-good}
use Rattle.ob_parser.proofs.Complete.{Completes}
use Rattle.ob_parser.proofs.CompleteStates.{program-whole}
use Rattle.ob_parser.proofs.Climbs.{Within, w-nothing, w-token, w-part, w-spelled, w-restart}
use Rattle.ob_parser.proofs.ReachNames.{reach-head, reach-declaration, reach-function}
use Rattle.ob_parser.proofs.ReachStatements.{none-zero, reach-block}

module _ (lines : ℕ → ℕ) (m : ℕ) where
  -- a function with its body
  reach-definition : (n : ℕ) (name : List ℕ) (ps : ParamsTree) (f b : ℕ) (body : BlockTrees) (fixed : Bool) (s : SpecTree) (items : ProgramTree) (st : State) (k p z g a : ℕ)
      → ValidItem (ItemTree.Function z g fixed s n name a ps (StmtTree.Block f b body))
      → ((c : TokenKind) → BeginsDeclaration c → shift (here lines p) c st ≡ begin_declaration (here lines p) c (FileScope items)) → (k ≡ 0 → deepest_path st ≤ m) → height_program items ≤ m
      → begun_item (ItemTree.Function z g fixed s n name a ps (StmtTree.Block f b body)) k ≤ m
      → Within m (run lines p (take k (spell_item (ItemTree.Function z g fixed s n name a ps (StmtTree.Block f b body)))) (Some st))
  reach-definition n name ps f b body fixed s items st k p z g a v same y l d =
      let o = FileScope items in
      let r = p + width_static fixed in
      let q = r + width_spec s in
      let s' = place_spec lines r s in
      let h : Heading = record { scope = o; first = p; line = lines p; fixed = fixed } in
      let decl : Declaration = record { heading = h; spec = s'; names = [] } in
      let ps' = place_params lines (q + n + 2) ps in
      let c = q + length (spell_function n name ps) in
      let e : Definition = record { items = items; first = p; line = lines p; fixed = fixed; spec = s'; stars = n; name = name; at = q + n; params = ps' } in
      let gs = InBody e ∷ [] in
      let start = Begin (InBlock c (lines c) BlockTrees.NoItems ∷ gs) in
      let t = Specifying (ForDeclaration h) (reader.AfterSpec s' []) in
      let x = named decl n name (q + n) in
      let open_body : shift (here lines c) (kind.Sign sign.OpenBrace) (Closed x ps') ≡ Some start =
      ap (λ t. cond t (begin_body (here lines c) o x ps') None) (params-named lines (q + n + 2) ps v.3) in
      let head = spell_static fixed ++ spell_spec s in
      let rest = spell_block body ++ kind.Sign sign.CloseBrace ∷ [] in
      let ka = k - width_static fixed in
      let kb = k - (width_static fixed + width_spec s) in
      let kc = k - (width_static fixed + width_spec s + n + width_params ps + 3) in
      let wh : length head ≡ width_static fixed + width_spec s = length-append (spell_static fixed) (spell_spec s) in
      w-spelled lines m k p (head ++ (spell_function n name ps ++ kind.Sign sign.OpenBrace ∷ rest)) (spell_static fixed ++ (spell_spec s ++ (spell_function n name ps ++ kind.Sign sign.OpenBrace ∷ rest))) st
      (append_assoc (spell_static fixed) (spell_spec s) (spell_function n name ps ++ kind.Sign sign.OpenBrace ∷ rest)) (
      w-part lines m head (spell_function n name ps ++ kind.Sign sign.OpenBrace ∷ rest) k p q st t (read-head lines o fixed s st p v.0 same)
      (λ w. reach-head lines m o fixed s st k p v.0 same y l (omega (arith, d, head-less k (begun_spec s ka) (max (begun_function n ps kb) (begun_stmt (StmtTree.Block f b body) kc)))))
      (λ j w.
      (
      let n1 = node-some k (max (begun_spec s ka) (max (begun_function n ps kb) (begun_stmt (StmtTree.Block f b body) kc))) (omega arith) in
      let f1 : begun_spec s ka ≡ height_spec s = full-spec s ka v.0 (omega (arith, wh)) in
      let eb : kb ≡ suc j = omega (arith, wh) in
      let ld : declaration_path decl ≤ m = omega (arith, d, n1, f1, spec-place lines r s) in
      let first = stars-first n name _ in
      w-part lines m (spell_function n name ps) (kind.Sign sign.OpenBrace ∷ rest) (suc j) q c t (Closed x ps') (restart (Declare decl 0) StartsName first (name-starts h s' (here lines q)) (read-function lines decl n name ps q v.2 tt))
      (λ w2. w-restart lines m (Declare decl 0) StartsName (spell_function n name ps) (suc j) q t first (name-starts h s' (here lines q)) (none-zero j)
      (λ i u. reach-function lines m decl n name ps (suc i) q v.2 tt ld (omega (arith, d, n1, ap (begun_function n ps) (eb ∙ u)))))
      (λ j2 w2.
      w-token lines m (kind.Sign sign.OpenBrace) rest (suc j2) c (c + 1) (Closed x ps') start (none-zero j2) open_body refl
      (λ j3 w3.
      (
      let lf = length-function n name ps in
      let f2 : begun_function n ps kb ≡ height_function n ps = full-function n name ps kb v.2 (omega (arith, wh)) in
      let n2 = node-some kc (begun_block body (kc - 1)) (omega (arith, wh, lf)) in
      let ec : kc - 1 ≡ j3 = omega (arith, wh, lf) in
      let lg : deepest_stack_path gs ≤ m = omega (arith, d, n1, f1, f2, spec-place lines r s, params-place lines (q + n + 2) ps) in
      let lb : deepest_stack_path (InBlock c (lines c) BlockTrees.NoItems ∷ gs) ≤ m = omega (arith, lg, d, n1, n2) in
      reach-block lines m body c (lines c) BlockTrees.NoItems gs start j3 (c + 1) v.5 (λ u i. refl) (λ u. lb) lb (omega (arith, d, n1, n2, ap (begun_block body) ec))
      )))
      ))
      )
    where
      head-less : (k x y : ℕ) → node_with k x ≤ node_with k (max x y)
      head-less zero x y = omega arith
      head-less (suc k) x y = omega arith

  reach-item : (i : ItemTree) (items : ProgramTree) (s : State) (k p : ℕ) → ValidItem i
      → ((c : TokenKind) → BeginsDeclaration c → shift (here lines p) c s ≡ begin_declaration (here lines p) c (FileScope items)) → (k ≡ 0 → deepest_path s ≤ m) → height_program items ≤ m
      → begun_item i k ≤ m → Within m (run lines p (take k (spell_item i)) (Some s))
  reach-item (ItemTree.Function f n fixed s stars name a ps (StmtTree.Block g b body)) items st k p v same z l d = reach-definition stars name ps g b body fixed s items st k p f n a v same z l d
  reach-item (ItemTree.Function f n fixed s stars name a ps _) items st k p v same z l d = absurd v.4
  reach-item (ItemTree.Decls f n fixed s xs) items st k p v same z l d =
      w-spelled lines m k p ((spell_static fixed ++ spell_spec s) ++ (listed spell_file xs ++ kind.Sign sign.Semi ∷ [])) (spell_item (ItemTree.Decls f n fixed s xs)) st
      (append_assoc (spell_static fixed) (spell_spec s) (listed spell_file xs ++ kind.Sign sign.Semi ∷ []))
      (reach-declaration lines m (FileScope items) fixed s xs st k p v.0 v.1 (may-declare items xs) same z l (omega (arith, d)))

  -- a whole external declaration leaves no more
  item-whole : (i : ItemTree) (items : ProgramTree) (s t : State) (p q : ℕ) → ValidItem i → ((c : TokenKind) → BeginsDeclaration c → shift (here lines p) c s ≡ begin_declaration (here lines p) c (FileScope items))
      → deepest_path s ≤ m → height_program items ≤ m → height_item i ≤ m → RunsTo lines p (spell_item i) s q t → deepest_path t ≤ m
  item-whole i items s t p q v same a l d r =
      let n = width_item i in
      let w = reach-item i items s n p v same (λ z. a) l (omega (arith, d, full-item i n v (omega arith))) in
      let e : run lines p (take n (spell_item i)) (Some s) ≡ Some t = ap (λ ks. run lines p ks (Some s)) (take-all (spell_item i)) ∙ r.runs in
      subst (Within m) e w
    where
      take-all : (xs : List TokenKind) → take (length xs) xs ≡ xs
      take-all [] = refl
      take-all (x ∷ xs) = ap (λ ks. x ∷ ks) (take-all xs)

  reach-items : (is items : ProgramTree) (s : State) (k p : ℕ) → AllByRecursion ValidItem is → ((c : TokenKind) → BeginsDeclaration c → shift (here lines p) c s ≡ begin_declaration (here lines p) c (FileScope items))
      → deepest_path s ≤ m → height_program items ≤ m → begun_program is k ≤ m → Within m (run lines p (take k (spell_program is)) (Some s))
  reach-items [] items s k p v same a l d = w-nothing lines m k p s a
  reach-items (i ∷ is) items s k p v same a l d =
      let r = read-item lines i items s p v.0 same in
      let i' = place_item lines p i in
      let q = p + width_item i in
      w-part lines m (spell_item i) (spell_program is) k p q s r.state r.reads (λ w. reach-item i items s k p v.0 same (λ z. a) l (omega (arith, d)))
      (λ j w.
      (
      let f : begun_item i k ≡ height_item i = full-item i k v.0 (omega arith) in
      let g : k - width_item i ≡ suc j = omega arith in
      reach-items is (items ++ i' ∷ []) r.state (suc j) q v.1 (λ c b. r.behind.next (here lines q) c (declares-not-else c b)) (item-whole i items s r.state p q v.0 same a l (omega (arith, d, f)) r.reads)
      (omega (arith, d, f, item-height items i', item-place lines p i)) (omega (arith, d, ap (begun_program is) g))
      ))

-- a program has an external declaration
some-items : (is : ProgramTree) → ValidProgram is → AllByRecursion ValidItem is
some-items [] v = absurd v
some-items (i ∷ is) v = v

program-some : (items : ProgramTree) (i : ItemTree) → AllByRecursion ValidItem (items ++ i ∷ []) → ValidProgram (items ++ i ∷ [])
program-some [] i v = v
program-some (x ∷ xs) i v = v

-- What a whole program spells, and its nodes.
record IsFinished (s : State) (t : ProgramTree) : Type 0 where
  valid : ValidProgram t
  spelled : spell_program t ≡ state_spell s
  limit : height_program t ≤ deepest_path s

-- closing pending statements keeps the nodes
pub reduce-path : (s : StmtTree) (fs : List PendingStmt) → deepest_path (Done (reduce s fs).0 (reduce s fs).1) ≡ deepest_path (Done s fs)
reduce-path s (InIf f n c ∷ fs) = omega (arith, reduce-path (StmtTree.If f n c s) fs)
reduce-path s (InElse f n c x ∷ fs) = omega (arith, reduce-path (StmtTree.IfElse f n c x s) fs)
reduce-path s (InWhile f n c ∷ fs) = omega (arith, reduce-path (StmtTree.While f n c s) fs)
reduce-path s (InFor f n i c x ∷ fs) = omega (arith, reduce-path (StmtTree.For f n i c x s) fs)
reduce-path s fs = refl

finished-body : (s : StmtTree) (fs : List PendingStmt) (t : ProgramTree) (r : StmtTree × List PendingStmt) → Kept s fs r → deepest_path (Done r.0 r.1) ≡ deepest_path (Done s fs) → whole r.0 r.1 ≡ Some t → IsFinished (Done s fs) t
finished-body s fs t (y, InBody d ∷ []) k l e =
    let i = ItemTree.Function d.first d.line d.fixed d.spec d.stars d.name d.at d.params y in
    let q : define d y ≡ t = cc in
    subst (IsFinished (Done s fs)) q (record {
      valid = program-some d.items i (define-valid d y k.stands k.valid k.takes);
      spelled = define-spelled d y ∙ k.spelled;
      limit = omega (arith, item-height d.items i, l);
    })
finished-body s fs t (y, InBody d ∷ (f ∷ gs)) k l e = absurd k.stands.0
finished-body s fs t (y, []) k l e = let n : None ≡ Some t = e in cc
finished-body s fs t (y, f ∷ gs) k l e = let n : None ≡ Some t = e in cc

finished : (s : State) (t : ProgramTree) → StateOk s → finish s ≡ Some t → IsFinished s t
finished (Items (i ∷ is)) t ok e =
    let q : i ∷ is ≡ t = cc in
    let w : IsFinished (Items (i ∷ is)) (i ∷ is) = record { valid = ok; spelled = refl; limit = omega arith } in subst (IsFinished (Items (i ∷ is))) q w
finished (Done s fs) t ok e = finished-body s fs t (reduce s fs) (stmt-kept s fs ok.0 ok.1 ok.2) (reduce-path s fs) e
finished s t ok e = let n : None ≡ Some t = e in cc

-- a state that stands for the tokens
abbrev Stays : List TokenKind → Option State → Type 0
Stays ks None = Unit {0}
Stays ks (Some s) = StateOk s × (state_spell s ≡ ks)

abbrev pub machine : (lines : ℕ → ℕ) → List TokenKind → Option State
machine lines ks = run lines 0 ks (Some (Items []))

module _ (lines : ℕ → ℕ) where
  run-nothing : (p : ℕ) (ks : List TokenKind) → run lines p ks None ≡ None
  run-nothing p [] = refl
  run-nothing p (k ∷ ks) = run-nothing (p + 1) ks

  run-stays : (p : ℕ) (ks before : List TokenKind) (o : Option State) → All IsOfSource ks → Stays before o → Stays (before ++ ks) (run lines p ks o)
  run-stays p [] before o a h = rw append-nil h
  run-stays p (k ∷ ks) before None a h = subst (Stays (before ++ k ∷ ks)) (sym (run-nothing (p + 1) ks)) tt
  run-stays p (k ∷ ks) before (Some s) a h =
      let g : Good (state_spell s) k (shift (here lines p) k s) = program-shift-good (here lines p) k s (All-head IsOfSource k ks a) h.0 in
      subst (λ x. Stays x (run lines (p + 1) ks (shift (here lines p) k s))) (append_assoc before (k ∷ []) ks)
      (run-stays (p + 1) ks (before ++ k ∷ []) (shift (here lines p) k s) (All-tail IsOfSource k ks a) (stays before h.1 (shift (here lines p) k s) g))
    where
      stays : (before : List TokenKind) → state_spell s ≡ before → (o : Option State) → Good (state_spell s) k o → Stays (before ++ k ∷ []) o
      stays before e None g = tt
      stays before e (Some t) g = (g.0, g.1 ∙ ap (λ x. x ++ k ∷ []) e)

  machine-stays : (ks : List TokenKind) (s : State) → All IsOfSource ks → machine lines ks ≡ Some s → Stays ks (Some s)
  machine-stays ks s a e = subst (Stays ks) e (run-stays 0 ks [] (Some (Items [])) a (tt, refl))

  -- what was read of a run that ends was read
  run-part : (ks rest : List TokenKind) (s : State) → machine lines (ks ++ rest) ≡ Some s → (t : State) × (machine lines ks ≡ Some t)
  run-part ks rest s e = go (machine lines ks) refl
    where
      go : (o : Option State) → machine lines ks ≡ o → (t : State) × (o ≡ Some t)
      go None n =
          let q : None ≡ Some s = sym (run-nothing (0 + length ks) rest) ∙ ap (λ o. run lines (0 + length ks) rest o) (sym n) ∙ sym (run-append lines 0 ks rest (Some (Items []))) ∙ e in
          absurd cc
      go (Some t) n = (t, refl)

  goes : (m : ℕ) (o : Option State) → Within m o → (s : State) × (o ≡ Some s) × (deepest_path s ≤ m)
  goes m None w = absurd w
  goes m (Some s) w = (s, refl, w)

  pub goes-on : (ks : List TokenKind) → BeginsProgram (within 0) ks → (s : State) × (machine lines ks ≡ Some s) × (0 + deepest_path s ≤ 256)
  goes-on ks b =
      let n = begun_program b.whole (length ks) in
      let same : take (length ks) (spell_program b.whole) ≡ ks = ap (take (length ks)) b.spelled ∙ take-append_seam ks b.rest in
      let w : Within n (machine lines ks) = subst (λ xs. Within n (machine lines xs)) same
      (reach-items lines n b.whole [] (Items []) (length ks) 0 (some-items b.whole b.valid) (λ c f. refl) (omega arith) (omega arith) (omega arith)) in
      let g = goes n (machine lines ks) w in
      (g.0, g.1, omega (arith, g.2, b.limit))

  goes-on-deep : (ks : List TokenKind) → BeginsProgram any ks → (s : State) × (machine lines ks ≡ Some s)
  goes-on-deep ks b = let r = read-program lines b.whole b.valid in run-part ks b.rest r.state (ap (machine lines) (sym b.spelled) ∙ r.reads.runs)

  completes : (ks : List TokenKind) (s : State) → All IsOfSource ks → machine lines ks ≡ Some s → BeginsProgram (λ n. n ≤ deepest_path s) ks
  completes ks s a e = let k = machine-stays ks s a e in subst (Completes (deepest_path s)) k.1 (program-whole (deepest_path s) s k.0 (omega arith))

  begins : (ks : List TokenKind) (s : State) → All IsOfSource ks → machine lines ks ≡ Some s → 0 + deepest_path s ≤ 256 → BeginsProgram (within 0) ks
  begins ks s a e l =
      let w = completes ks s a e in
      record { whole = w.whole; rest = w.rest; valid = w.valid; spelled = w.spelled; limit = omega (arith, w.limit) }

  begins-deep : (ks : List TokenKind) (s : State) → All IsOfSource ks → machine lines ks ≡ Some s → BeginsProgram any ks
  begins-deep ks s a e =
      let w = completes ks s a e in
      record { whole = w.whole; rest = w.rest; valid = w.valid; spelled = w.spelled; limit = tt }

  -- a program that is read whole is what the machine finishes with
  pub finish-whole : (ks : List TokenKind) (t : ProgramTree) (s : State) → ValidProgram t → spell_program t ≡ ks → machine lines ks ≡ Some s → finish s ≡ Some (place_program lines 0 t)
  finish-whole ks t s v g e =
      let r = read-program lines t v in
      let q : Some r.state ≡ Some s = sym r.reads.runs ∙ ap (machine lines) g ∙ e in
      let f : r.state ≡ s = cc in
      subst (λ x. finish x ≡ Some (place_program lines 0 t)) f r.whole

  pub some-tree : (ks : List TokenKind) (s : State) (t : ProgramTree) → All IsOfSource ks → machine lines ks ≡ Some s → 0 + deepest_path s ≤ 256 → finish s ≡ Some t
      → IsProgram (within 0) ks t × PlacedProgram lines t
  some-tree ks s t a e l f =
      let k = machine-stays ks s a e in
      let w = finished s t k.0 f in
      let g : spell_program t ≡ ks = w.spelled ∙ k.1 in
      let h : Some (place_program lines 0 t) ≡ Some t = sym (finish-whole ks t s w.valid g e) ∙ f in
      (record { valid = w.valid; spelled = g; limit = omega (arith, w.limit) }, cc)

  no-tree : (ks : List TokenKind) (s : State) → machine lines ks ≡ Some s → finish s ≡ None → (t : ProgramTree) → IsProgram (within 0) ks t → ⊥
  no-tree ks s e f t i =
      let q : None ≡ Some (place_program lines 0 t) = sym f ∙ finish-whole ks t s i.valid i.spelled e in
      absurd cc

  -- the machine for programs goes on exactly as long as some program begins so
  pub exact-program : readings.CorrectPrefix (λ q k s. shift (here lines q) k s) deepest_path finish BeginsProgram IsProgram (PlacedProgram lines) 0 0 (machine lines)
  exact-program = record {
    more = λ ks k s e. run-append lines 0 ks (k ∷ []) (Some (Items [])) ∙ ap (λ o. shift_if (here lines (0 + length ks)) k o) e;
    goes_on = goes-on;
    goes_on_deep = goes-on-deep;
    begins = begins;
    begins_deep = begins-deep;
    some_tree = some-tree;
    no_tree = no-tree;
  }
