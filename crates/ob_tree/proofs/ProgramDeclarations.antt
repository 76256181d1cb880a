-- The machine reads declarations in blocks, and what stands before the declarators of any declaration.
use Rattle.std.proofs.Common.{◌≡◌, ℕ, ◌+◌, List, [], ◌∷◌, ◌++◌, length, Bool, true, false, refl, sym, ◌∙◌, ap, arith, append_assoc}
use Rattle.std.specs.Prelude.{cond}
use Rattle.std.specs.List.{AllByRecursion}
use Rattle.ob_tree.specs.declared.tokens.TokenKind.{TokenKind}
use Rattle.ob_tree.specs.declared.tokens.TokenKind.TheVariants as kind
use Rattle.ob_tree.specs.declared.tokens.Keyword.TheVariants as word
use Rattle.ob_tree.specs.declared.tokens.Sign.TheVariants as sign
use Rattle.ob_tree.specs.Trees.{Mark, SpecTree, ObjTrees}
use Rattle.ob_tree.specs.Programs.{LocalTree, StartTree, BlockTrees, FileTree}
use Rattle.ob_tree.specs.Spelling.{spell_spec, spell_obj, spell_objs, spell_more_objs, listed, more_listed}
use Rattle.ob_tree.specs.ProgramSpelling.{spell_static, spell_local, spell_file}
use Rattle.ob_tree.specs.Valid.{ValidSpec, ValidObjs}
use Rattle.ob_tree.specs.ProgramValid.{ValidNames, ValidFile, ValidFiles, ValidLocal}
use Rattle.ob_tree.specs.Places.{here, place_spec, place_objs, place_obj, width_spec, width_obj}
use Rattle.ob_tree.specs.ProgramPlaces.{width_static, width_local, place_local, place_files}
use Rattle.ob_tree.specs.ExprMachine as expr
use Rattle.ob_tree.proofs.FirstTokens.{first-spec, BeginsSpec}
use Rattle.ob_tree.specs.ProgramStates.{PendingStmt, InBlock, Scope, BlockScope, ForScope, Heading, ForDeclaration, ForStart, ForTest, State, Specifying, Optional, Begin, ForOpen}
use Rattle.ob_tree.specs.ProgramParts.{add_local, objects}
use Rattle.ob_tree.specs.ProgramMachine.{heading, optional, begin_declaration, begins_declaration, end_declaration, shift}
use Rattle.ob_tree.proofs.ProgramRuns.{RunsTo, token, ◌before◌, counted, respelled, arrives, relocated, restart, read-spec}
use Rattle.ob_tree.proofs.ProgramNames.{MayDeclare, read-names}

-- What a declaration begins with.
abbrev pub BeginsDeclaration : TokenKind → Type 0
BeginsDeclaration (kind.Word w) = begins_declaration w ≡ true
BeginsDeclaration k = ⊥

pub spec-declares : (k : TokenKind) → BeginsSpec k → BeginsDeclaration k
spec-declares (kind.Word word.Static) h = refl
spec-declares (kind.Word w) h = h
spec-declares _ h = absurd h

pub begin-spec : (m : Mark) (k : TokenKind) (o : Scope) → BeginsSpec k
    → begin_declaration m k o ≡ shift m k (Specifying (ForDeclaration (heading o m false)) (expr.Specifier []))
begin-spec m (kind.Word word.Static) o h = let e : false ≡ true = h in cc
begin-spec m (kind.Word w) o h = refl
begin-spec m _ o h = absurd h

-- `static` or not, and a specifier
pub read-head : (lines : ℕ → ℕ) (o : Scope) (fixed : Bool) (spec : SpecTree) (s : State) (p : ℕ) → ValidSpec spec
    → ((k : TokenKind) → BeginsDeclaration k → shift (here lines p) k s ≡ begin_declaration (here lines p) k o)
    → RunsTo lines p (spell_static fixed ++ spell_spec spec) s (p + width_static fixed + width_spec spec)
    (Specifying (ForDeclaration (record { scope = o; first = p; line = lines p; fixed = fixed })) (expr.AfterSpec (place_spec lines (p + width_static fixed) spec) []))
read-head lines o false spec s p v same =
    let h : Heading = record { scope = o; first = p; line = lines p; fixed = false } in
    let e : p ≡ p + 0 = omega arith in
    relocated (let g : p + width_spec spec ≡ p + 0 + width_spec spec = omega arith in g) (
    arrives (ap (λ z. Specifying (ForDeclaration h) (expr.AfterSpec (place_spec lines z spec) [])) e) (
    restart (Specifying (ForDeclaration h) (expr.Specifier [])) BeginsSpec (first-spec spec v) (λ k b. same k (spec-declares k b) ∙ begin-spec (here lines p) k o b)
    (read-spec lines (ForDeclaration h) spec p v)
    )
    )
read-head lines o true spec s p v same =
    let h : Heading = record { scope = o; first = p; line = lines p; fixed = true } in
    token (kind.Word word.Static) (p + 1) (Specifying (ForDeclaration h) (expr.Specifier [])) (same (kind.Word word.Static) refl) refl
    before read-spec lines (ForDeclaration h) spec (p + 1) v

-- Objects as declarators.
abbrev pub files : ObjTrees → List FileTree
files ObjTrees.NoDeclarators = []
files (ObjTrees.Declarator o os) = FileTree.Object o ∷ files os

more-files : (os : ObjTrees) → more_listed spell_file (files os) ≡ spell_more_objs os
more-files ObjTrees.NoDeclarators = refl
more-files (ObjTrees.Declarator o os) = ap (λ ks. kind.Sign sign.Comma ∷ (spell_obj o ++ ks)) (more-files os)

pub all-files : (os : ObjTrees) → listed spell_file (files os) ≡ spell_objs os
all-files ObjTrees.NoDeclarators = refl
all-files (ObjTrees.Declarator o os) = ap (λ ks. spell_obj o ++ ks) (more-files os)

pub objects-files : (os : ObjTrees) → objects (files os) ≡ os
objects-files ObjTrees.NoDeclarators = refl
objects-files (ObjTrees.Declarator o os) = ap (ObjTrees.Declarator o) (objects-files os)

pub place-files : (lines : ℕ → ℕ) (p : ℕ) (os : ObjTrees) → place_files lines p (files os) ≡ files (place_objs lines p os)
place-files lines p ObjTrees.NoDeclarators = refl
place-files lines p (ObjTrees.Declarator o os) = ap (λ xs. FileTree.Object (place_obj lines p o) ∷ xs) (place-files lines (p + width_obj o + 1) os)

pub valid-more : (os : ObjTrees) → ValidObjs os → AllByRecursion ValidFile (files os)
valid-more ObjTrees.NoDeclarators v = tt
valid-more (ObjTrees.Declarator o os) v = (v.0, valid-more os v.1)

pub valid-files : (s : SpecTree) (os : ObjTrees) → ValidNames s os → ValidFiles s (files os)
valid-files s ObjTrees.NoDeclarators v = v
valid-files s (ObjTrees.Declarator o os) v = (v.0, valid-more os v.1)

pub may-declare : (o : Scope) (os : ObjTrees) → AllByRecursion (MayDeclare o) (files os)
may-declare o ObjTrees.NoDeclarators = tt
may-declare o (ObjTrees.Declarator x os) = (tt, may-declare o os)

-- the declarators of a declaration in a block, up to the semicolon
pub read-objs : (lines : ℕ → ℕ) (h : Heading) (s : SpecTree) (r : ℕ) (os : ObjTrees) (p : ℕ) → ValidNames s os
    → RunsTo lines p (spell_objs os ++ kind.Sign sign.Semi ∷ []) (Specifying (ForDeclaration h) (expr.AfterSpec (place_spec lines r s) []))
    (p + length (spell_objs os ++ kind.Sign sign.Semi ∷ []))
    (end_declaration (record { heading = h; spec = place_spec lines r s; names = files (place_objs lines p os) }))
read-objs lines h s r os p v =
    counted (
    respelled (ap (λ ks. ks ++ kind.Sign sign.Semi ∷ []) (all-files os)) (
    arrives (ap (λ ns. end_declaration (record { heading = h; spec = place_spec lines r s; names = ns })) (place-files lines p os))
    (read-names lines h s r (files os) p (valid-files s os v) (may-declare h.scope os))
    )
    )

-- a declaration in a block
pub read-local : (lines : ℕ → ℕ) (f n : ℕ) (items : BlockTrees) (fs : List PendingStmt) (l : LocalTree) (s : State) (p : ℕ) → ValidLocal l
    → ((k : TokenKind) → BeginsDeclaration k → shift (here lines p) k s ≡ begin_declaration (here lines p) k (BlockScope f n items fs))
    → RunsTo lines p (spell_local l) s (p + width_local l) (Begin (InBlock f n (add_local items (place_local lines p l)) ∷ fs))
read-local lines f n items fs l s p v same =
    let o = BlockScope f n items fs in
    let h : Heading = record { scope = o; first = p; line = lines p; fixed = l.fixed } in
    let a = p + width_static l.fixed in
    let q = a + width_spec l.spec in
    counted (
    respelled (append_assoc (spell_static l.fixed) (spell_spec l.spec) (spell_objs l.names ++ kind.Sign sign.Semi ∷ [])) (
    arrives (
    ap (λ ns. Begin (InBlock f n (add_local items (record { first = p; line = lines p; fixed = l.fixed; spec = place_spec lines a l.spec; names = ns })) ∷ fs))
    (objects-files (place_objs lines q l.names))
    ) (
    read-head lines o l.fixed l.spec s p v.0 same
    before read-objs lines h l.spec a l.names q v.1
    )
    )
    )

pub for-starts : (m : Mark) (k : TokenKind) (f n : ℕ) (fs : List PendingStmt) → BeginsSpec k
    → shift m k (ForOpen f n fs) ≡ shift m k (Specifying (ForDeclaration (heading (ForScope f n fs) m false)) (expr.Specifier []))
for-starts m (kind.Word w) f n fs h =
    let s = Specifying (ForDeclaration (heading (ForScope f n fs) m false)) (expr.Specifier []) in
    ap (λ b. cond b (shift m (kind.Word w) s) (optional m (kind.Word w) (ForStart f n fs))) h
for-starts m _ f n fs h = absurd h

for-local : (lines : ℕ → ℕ) (f n : ℕ) (fs : List PendingStmt) (spec : SpecTree) (names : ObjTrees) (p : ℕ) → ValidSpec spec → ValidNames spec names
    → RunsTo lines p (spell_spec spec ++ (spell_objs names ++ kind.Sign sign.Semi ∷ [])) (ForOpen f n fs) (p + length (spell_spec spec ++ (spell_objs names ++ kind.Sign sign.Semi ∷ [])))
    (Optional (ForTest f n (StartTree.Local (record { first = p; line = lines p; fixed = false; spec = place_spec lines p spec; names = place_objs lines (p + width_spec spec) names })) fs))
for-local lines f n fs spec names p v w =
    let h : Heading = record { scope = ForScope f n fs; first = p; line = lines p; fixed = false } in
    let q = p + width_spec spec in
    counted (
    arrives (
    ap (λ ns. Optional (ForTest f n (StartTree.Local (record { first = p; line = lines p; fixed = false; spec = place_spec lines p spec; names = ns })) fs))
    (objects-files (place_objs lines q names))
    ) (
    restart (Specifying (ForDeclaration h) (expr.Specifier [])) BeginsSpec (first-spec spec v) (λ k b. for-starts (here lines p) k f n fs b)
    (read-spec lines (ForDeclaration h) spec p v)
    before read-objs lines h spec p names q w
    )
    )

-- a declaration that stands first in a `for`
pub read-for-local : (lines : ℕ → ℕ) (f n : ℕ) (fs : List PendingStmt) (l : LocalTree) (p : ℕ) → l.fixed ≡ false → ValidLocal l
    → RunsTo lines p (spell_local l) (ForOpen f n fs) (p + width_local l) (Optional (ForTest f n (StartTree.Local (place_local lines p l)) fs))
read-for-local lines f n fs l p e v =
    let r = for-local lines f n fs l.spec l.names p v.0 v.1 in
    let z : p ≡ p + 0 = omega arith in
    let placed = λ (b : Bool) (a : ℕ). Optional (ForTest f n (StartTree.Local (record { first = p; line = lines p; fixed = b; spec = place_spec lines a l.spec; names = place_objs lines (a + width_spec l.spec) l.names })) fs) in
    counted (
    respelled (ap (λ b. spell_static b ++ (spell_spec l.spec ++ (spell_objs l.names ++ kind.Sign sign.Semi ∷ []))) (sym e))
    (arrives (ap (λ a. placed false a) z ∙ ap (λ b. placed b (p + width_static b)) (sym e)) r)
    )
