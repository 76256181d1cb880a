-- The machine reads each valid program from its spelling, so programs that stand on one token list and spell it are
-- the same.
use Rattle.std.proofs.Common.{◌≡◌, ℕ, ◌+◌, List, [], ◌∷◌, ◌++◌, length, Bool, true, Some, None, refl, sym, ◌∙◌, ap, ap₂, arith, append_assoc, append-nil, length-append}
use Rattle.std.specs.Prelude.{cond, ◌&&◌}
use Rattle.std.specs.List.{AllByRecursion}
use Rattle.ob_tree.specs.declared.tokens.TokenKind.{TokenKind}
use Rattle.ob_tree.specs.declared.tokens.TokenKind.TheVariants as kind
use Rattle.ob_tree.specs.declared.tokens.Sign.TheVariants as sign
use Rattle.ob_tree.specs.Trees.{Mark, SpecTree}
use Rattle.ob_tree.specs.Programs.{StmtTree, BlockTrees, ParamTree, ParamsTree, FileTree, ItemTree, ProgramTree}
use Rattle.ob_tree.specs.Spelling.{stars, spell_spec, listed}
use Rattle.ob_tree.specs.ProgramSpelling.{spell_static, spell_params, spell_function, spell_file, spell_item, spell_program, spell_stmt}
use Rattle.ob_tree.specs.ProgramValid.{ValidItem, ValidProgram, AreNamed, HasTag}
use Rattle.ob_tree.specs.Places.{here, place_spec, width_spec}
use Rattle.ob_tree.specs.ProgramPlaces.{width_static, width_param, width_params, width_item, place_list, place_params, place_files, place_block, place_item, place_program, PlacedProgram}
use Rattle.ob_tree.proofs.SpecShifts.{length-stars}
use Rattle.ob_tree.specs.ProgramStates.{Definition, InBody, InBlock, FileScope, Heading, Declaration, State, Items, Declare, Closed, Begin, Done}
use Rattle.ob_tree.specs.ProgramParts.{are_all_named, are_named}
use Rattle.ob_tree.specs.ProgramMachine.{begin_declaration, begin_body, shift, run, finish}
use Rattle.ob_tree.proofs.ProgramRuns.{RunsTo, nothing, token, ◌before◌, counted, respelled, relocated, restart}
use Rattle.ob_tree.proofs.ProgramNames.{named, MayDeclare, read-function, StartsName, stars-first, name-starts, tagged, read-names}
use Rattle.ob_tree.proofs.ProgramDeclarations.{BeginsDeclaration, read-head}
use Rattle.ob_tree.proofs.ProgramThrough.{NotElse, declares-not-else, stmt-ends, read-block}

-- named parameters keep their names where they are placed
all-named : (lines : ℕ → ℕ) (p : ℕ) (xs : List ParamTree) → AllByRecursion (λ x. HasTag x.name) xs → are_all_named (place_list lines p xs) ≡ true
all-named lines p [] h = refl
all-named lines p (x ∷ xs) h = ap₂ (λ a b. a && b) (tagged x.name h.0) (all-named lines (p + width_param x + 1) xs h.1)

pub params-named : (lines : ℕ → ℕ) (p : ℕ) (ps : ParamsTree) → AreNamed ps → are_named (place_params lines p ps) ≡ true
params-named lines p ParamsTree.Empty h = refl
params-named lines p ParamsTree.Void h = refl
params-named lines p (ParamsTree.Listed xs) h = all-named lines p xs h

-- Behind these items the state begins another one, and the program can end there.
pub record Behind (items : ProgramTree) (s : State) : Type 0 where
  pub next : (m : Mark) (k : TokenKind) → NotElse k → shift m k s ≡ begin_declaration m k (FileScope items)
  pub whole : finish s ≡ Some items

pub record ReadsItem (lines : ℕ → ℕ) (p : ℕ) (i : ItemTree) (items : ProgramTree) (s : State) : Type 0 where
  pub state : State
  pub reads : RunsTo lines p (spell_item i) s (p + width_item i) state
  pub behind : Behind (items ++ place_item lines p i ∷ []) state

finish-items : (items : ProgramTree) (i : ItemTree) → finish (Items (items ++ i ∷ [])) ≡ Some (items ++ i ∷ [])
finish-items [] i = refl
finish-items (x ∷ xs) i = refl

pub may-declare : (items : ProgramTree) (xs : List FileTree) → AllByRecursion (MayDeclare (FileScope items)) xs
may-declare items [] = tt
may-declare items (FileTree.Function n name a ps ∷ xs) = (tt, may-declare items xs)
may-declare items (FileTree.Object o ∷ xs) = (tt, may-declare items xs)

pub length-function : (n : ℕ) (name : List ℕ) (ps : ParamsTree) → length (spell_function n name ps) ≡ n + width_params ps + 3
length-function n name ps =
    let tail = kind.Sign sign.OpenParen ∷ (spell_params ps ++ kind.Sign sign.CloseParen ∷ []) in
    omega (arith, length-append (stars n) (kind.Name name ∷ tail), length-stars n, length-append (spell_params ps) (kind.Sign sign.CloseParen ∷ []))

module _ (lines : ℕ → ℕ) where
  -- a function with its body
  read-definition : (n : ℕ) (name : List ℕ) (ps : ParamsTree) (f b : ℕ) (body : BlockTrees) (fixed : Bool) (s : SpecTree) (items : ProgramTree) (st : State) (p z g a : ℕ)
      → ValidItem (ItemTree.Function z g fixed s n name a ps (StmtTree.Block f b body))
      → ((k : TokenKind) → BeginsDeclaration k → shift (here lines p) k st ≡ begin_declaration (here lines p) k (FileScope items))
      → ReadsItem lines p (ItemTree.Function z g fixed s n name a ps (StmtTree.Block f b body)) items st
  read-definition n name ps f b body fixed s items st p z g a v same =
      let o = FileScope items in
      let r = p + width_static fixed in
      let q = r + width_spec s in
      let s' = place_spec lines r s in
      let h : Heading = record { scope = o; first = p; line = lines p; fixed = fixed } in
      let d : Declaration = record { heading = h; spec = s'; names = [] } in
      let ps' = place_params lines (q + n + 2) ps in
      let c = q + n + width_params ps + 3 in
      let e : Definition = record { items = items; first = p; line = lines p; fixed = fixed; spec = s'; stars = n; name = name; at = q + n; params = ps' } in
      let gs = InBody e ∷ [] in
      let start = Begin (InBlock c (lines c) BlockTrees.NoItems ∷ gs) in
      let whole = StmtTree.Block c (lines c) (place_block lines (c + 1) body) in
      let l : q + length (spell_function n name ps) ≡ c = omega (arith, length-function n name ps) in
      let open_body : shift (here lines c) (kind.Sign sign.OpenBrace) (Closed (named d n name (q + n)) ps') ≡ Some start =
      ap (λ t. cond t (begin_body (here lines c) o (named d n name (q + n)) ps') None) (params-named lines (q + n + 2) ps v.3) in
      record {
        state = Done whole gs;
        reads = counted (
            respelled (append_assoc (spell_static fixed) (spell_spec s) (spell_function n name ps ++ spell_stmt (StmtTree.Block f b body))) (
            read-head lines o fixed s st p v.0 same
            before restart (Declare d 0) StartsName (stars-first n name _) (name-starts h s' (here lines q)) (relocated l (read-function lines d n name ps q v.2 tt))
            before token (kind.Sign sign.OpenBrace) (c + 1) start open_body refl
            before read-block lines body c (lines c) BlockTrees.NoItems gs start (c + 1) v.5 (λ k x. refl)
            )
            );
        behind = record { next = λ m k x. stmt-ends m k whole gs x; whole = refl };
      }

  pub read-item : (i : ItemTree) (items : ProgramTree) (s : State) (p : ℕ) → ValidItem i
      → ((k : TokenKind) → BeginsDeclaration k → shift (here lines p) k s ≡ begin_declaration (here lines p) k (FileScope items))
      → ReadsItem lines p i items s
  read-item (ItemTree.Function f n fixed s stars name a ps (StmtTree.Block g b body)) items st p v same =
      read-definition stars name ps g b body fixed s items st p f n a v same
  read-item (ItemTree.Function f n fixed s stars name a ps _) items st p v same = absurd v.4
  read-item (ItemTree.Decls f n fixed s xs) items st p v same =
      let o = FileScope items in
      let r = p + width_static fixed in
      let q = r + width_spec s in
      let h : Heading = record { scope = o; first = p; line = lines p; fixed = fixed } in
      let i' = ItemTree.Decls p (lines p) fixed (place_spec lines r s) (place_files lines q xs) in
      record {
        state = Items (items ++ i' ∷ []);
        reads = counted (
            respelled (append_assoc (spell_static fixed) (spell_spec s) (listed spell_file xs ++ kind.Sign sign.Semi ∷ [])) (
            read-head lines o fixed s st p v.0 same
            before read-names lines h s r xs q v.1 (may-declare items xs)
            )
            );
        behind = record { next = λ m k x. refl; whole = finish-items items i' };
      }

  pub record ReadsItems (p : ℕ) (is items : ProgramTree) (s : State) : Type 0 where
    pub state : State
    pub reads : RunsTo lines p (spell_program is) s (p + length (spell_program is)) state
    pub whole : finish state ≡ Some (items ++ place_program lines p is)

  read-items : (is items : ProgramTree) (s : State) (p : ℕ) → AllByRecursion ValidItem is → Behind items s → ReadsItems p is items s
  read-items [] items s p v b = record { state = s; reads = counted nothing; whole = b.whole ∙ ap (λ x. Some x) (sym (append-nil items)) }
  read-items (i ∷ is) items s p v b =
      let i' = place_item lines p i in
      let q = p + width_item i in
      let r = read-item i items s p v.0 (λ k x. b.next (here lines p) k (declares-not-else k x)) in
      let t = read-items is (items ++ i' ∷ []) r.state q v.1 r.behind in
      record {
        state = t.state;
        reads = counted (r.reads before t.reads);
        whole = t.whole ∙ ap (λ x. Some x) (append_assoc items (i' ∷ []) (place_program lines q is));
      }

  -- the whole program, from the start
  pub read-program : (p : ProgramTree) → ValidProgram p → ReadsItems 0 p [] (Items [])
  read-program [] v = absurd v
  read-program (i ∷ is) v =
      let r = read-item i [] (Items []) 0 v.0 (λ k x. refl) in
      let q = 0 + width_item i in
      let t = read-items is (place_item lines 0 i ∷ []) r.state q v.1 r.behind in
      record { state = t.state; reads = counted (r.reads before t.reads); whole = t.whole }

  pub one-program : (p q : ProgramTree) → ValidProgram p → ValidProgram q → PlacedProgram lines p → PlacedProgram lines q → spell_program p ≡ spell_program q → p ≡ q
  one-program p q v w a b e =
      let r = read-program p v in
      let t = read-program q w in
      let same : Some r.state ≡ Some t.state = sym r.reads.runs ∙ ap (λ ks. run lines 0 ks (Some (Items []))) e ∙ t.reads.runs in
      let state : r.state ≡ t.state = cc in
      let placed : Some (place_program lines 0 p) ≡ Some (place_program lines 0 q) = sym r.whole ∙ ap finish state ∙ t.whole in
      let trees : place_program lines 0 p ≡ place_program lines 0 q = cc in
      sym a ∙ trees ∙ b
