-- The machine reads the declarators of a declaration.
use Rattle.std.proofs.Common.{◌≡◌, ℕ, zero, suc, ◌+◌, List, [], ◌∷◌, ◌++◌, length, true, Option, Some, None, refl, sym, ap, arith, append_assoc}
use Rattle.std.specs.Prelude.{cond}
use Rattle.std.specs.List.{AllByRecursion}
use Rattle.ob_tree.specs.declared.tokens.TokenKind.{TokenKind}
use Rattle.ob_tree.specs.declared.tokens.TokenKind.TheVariants as kind
use Rattle.ob_tree.specs.declared.tokens.Sign.TheVariants as sign
use Rattle.ob_tree.specs.Trees.{Mark, SpecTree, ObjTree, DimTrees}
use Rattle.ob_tree.specs.Programs.{ParamsTree, FileTree}
use Rattle.ob_tree.specs.Spelling.{stars, listed, more_listed}
use Rattle.ob_tree.specs.ProgramSpelling.{spell_file, spell_function}
use Rattle.ob_tree.specs.Valid.{ValidDims}
use Rattle.ob_tree.specs.ProgramValid.{ValidFile, ValidFiles, ValidParams, HasTag, DeclaresTag}
use Rattle.ob_tree.specs.Places.{here, place_spec, place_dims, width_dims}
use Rattle.ob_tree.specs.ProgramPlaces.{width_file, place_params, place_file, place_files}
use Rattle.ob_tree.specs.ExprMachine as expr
use Rattle.ob_tree.proofs.FirstTokens.{FirstOf, first-more}
use Rattle.ob_tree.specs.ProgramStates.{Scope, FileScope, BlockScope, ForScope, Heading, Declaration, Declarator, OfName, InitDeclarator, ForDeclaration, State, Specifying, Declare, Dims, Init, Params, Closed}
use Rattle.ob_tree.specs.ProgramParts.{add_name, is_tagged, has_lengths, declares_tag, bare}
use Rattle.ob_tree.specs.ProgramMachine.{next_name, end_declaration, parameters, shift}
use Rattle.ob_tree.proofs.ProgramRuns.{RunsTo, token, ◌before◌, counted, respelled, arrives, restart, Ends, all-stars}
use Rattle.ob_tree.proofs.ProgramInits.{read-dims, read-open-dims, after_init, init-ends, read-init}
use Rattle.ob_tree.proofs.ProgramParams.{read-params}

abbrev pub named : Declaration → ℕ → List ℕ → ℕ → Declarator
named d n name a = record { declaration = d; stars = n; name = name; at = a }

-- Functions are declared by external declarations alone.
abbrev pub IsFileScope : Scope → Type 0
IsFileScope (FileScope items) = Unit {0}
IsFileScope (BlockScope f n items fs) = ⊥
IsFileScope (ForScope f n fs) = ⊥

abbrev pub MayDeclare : Scope → FileTree → Type 0
MayDeclare o (FileTree.Function n name a ps) = IsFileScope o
MayDeclare o (FileTree.Object x) = Unit {0}

pub outer-parameters : (o : Scope) (x : Declarator) → IsFileScope o → parameters o x ≡ Some (Params (record { function = x; params = [] }))
outer-parameters (FileScope items) x h = refl
outer-parameters (BlockScope f n items fs) x h = absurd h
outer-parameters (ForScope f n fs) x h = absurd h

-- a function declarator up to its closing parenthesis
pub read-function : (lines : ℕ → ℕ) (d : Declaration) (n : ℕ) (name : List ℕ) (ps : ParamsTree) (p : ℕ) → ValidParams ps → IsFileScope d.heading.scope
    → RunsTo lines p (spell_function n name ps) (Declare d 0) (p + length (spell_function n name ps)) (Closed (named d n name (p + n)) (place_params lines (p + n + 2) ps))
read-function lines d n name ps p v o =
    let x = named d n name (p + n) in
    counted (
    all-stars lines (Declare d) (λ m i. refl) n p
    before token (kind.Name name) (p + n + 1) (Dims (OfName x) DimTrees.NoDims) refl refl
    before token (kind.Sign sign.OpenParen) (p + n + 2) (Params (record { function = x; params = [] })) (outer-parameters d.heading.scope x o) (omega arith)
    before read-params lines x ps (p + n + 2) v
    )

-- what is held behind a declarator
abbrev pub behind : Declaration → FileTree → State
behind d (FileTree.Function n name a ps) = Closed (named d n name a) ps
behind d (FileTree.Object (ObjTree.Bare n name a ds)) = Dims (OfName (named d n name a)) ds
behind d (FileTree.Object (ObjTree.Initial n name a ds i)) = after_init (record { declarator = named d n name a; dims = ds }) [] i

pub read-file : (lines : ℕ → ℕ) (d : Declaration) (x : FileTree) (p : ℕ) → ValidFile x → MayDeclare d.heading.scope x
    → RunsTo lines p (spell_file x) (Declare d 0) (p + width_file x) (behind d (place_file lines p x))
read-file lines d (FileTree.Function n name a ps) p v o = read-function lines d n name ps p v.1 o
read-file lines d (FileTree.Object (ObjTree.Bare n name a ds)) p v o =
    let h = OfName (named d n name (p + n)) in
    counted (
    all-stars lines (Declare d) (λ m i. refl) n p
    before token (kind.Name name) (p + n + 1) (Dims h DimTrees.NoDims) refl refl
    before read-dims lines h ds DimTrees.NoDims (p + n + 1) v.1
    )
read-file lines d (FileTree.Object (ObjTree.Initial n name a ds i)) p v o =
    let x = named d n name (p + n) in
    let ds' = place_dims lines (p + n + 1) ds in
    let t : InitDeclarator = record { declarator = x; dims = ds' } in
    counted (
    all-stars lines (Declare d) (λ m i. refl) n p
    before token (kind.Name name) (p + n + 1) (Dims (OfName x) DimTrees.NoDims) refl refl
    before read-open-dims lines (OfName x) ds (p + n + 1) v.1
    before token (kind.Sign sign.Assign) (p + n + width_dims ds + 2) (Init t []) refl (omega arith)
    before read-init lines t i [] (p + n + width_dims ds + 2) v.2
    )

-- A token that ends a declarator.
abbrev pub EndsName : TokenKind → Type 0
EndsName (kind.Sign sign.Comma) = Unit {0}
EndsName (kind.Sign sign.Semi) = Unit {0}
EndsName k = ⊥

init-end : (k : TokenKind) → EndsName k → Ends 1 k
init-end (kind.Sign sign.Comma) h = omega arith
init-end (kind.Sign sign.Semi) h = tt
init-end _ h = absurd h

lengths : (lines : ℕ → ℕ) (p : ℕ) (ds : DimTrees) → ValidDims ds → has_lengths (place_dims lines p ds) ≡ true
lengths lines p DimTrees.NoDims v = refl
lengths lines p (DimTrees.Unsized ds) v = absurd v
lengths lines p (DimTrees.Sized e ds) v = refl

bare-ends : (x : Declarator) (ds : DimTrees) (m : Mark) (k : TokenKind) → has_lengths ds ≡ true → EndsName k
    → shift m k (Dims (OfName x) ds) ≡ next_name k (add_name x.declaration (bare x ds))
bare-ends x ds m (kind.Sign sign.Comma) e h = ap (λ b. cond b (next_name (kind.Sign sign.Comma) (add_name x.declaration (bare x ds))) None) e
bare-ends x ds m (kind.Sign sign.Semi) e h = ap (λ b. cond b (next_name (kind.Sign sign.Semi) (add_name x.declaration (bare x ds))) None) e
bare-ends x ds m _ e h = absurd h

closed-ends : (x : Declarator) (ps : ParamsTree) (m : Mark) (k : TokenKind) → EndsName k
    → shift m k (Closed x ps) ≡ next_name k (add_name x.declaration (FileTree.Function x.stars x.name x.at ps))
closed-ends x ps m (kind.Sign sign.Comma) h = refl
closed-ends x ps m (kind.Sign sign.Semi) h = refl
closed-ends x ps m _ h = absurd h

pub name-ends : (lines : ℕ → ℕ) (d : Declaration) (x : FileTree) (p : ℕ) (m : Mark) (k : TokenKind) → ValidFile x → EndsName k
    → shift m k (behind d (place_file lines p x)) ≡ next_name k (add_name d (place_file lines p x))
name-ends lines d (FileTree.Function n name a ps) p m k v h = closed-ends (named d n name (p + n)) (place_params lines (p + n + 2) ps) m k h
name-ends lines d (FileTree.Object (ObjTree.Bare n name a ds)) p m k v h =
    bare-ends (named d n name (p + n)) (place_dims lines (p + n + 1) ds) m k (lengths lines (p + n + 1) ds v.1) h
name-ends lines d (FileTree.Object (ObjTree.Initial n name a ds i)) p m k v h =
    let t : InitDeclarator = record { declarator = named d n name (p + n); dims = place_dims lines (p + n + 1) ds } in
    init-ends lines t [] i (p + n + width_dims ds + 2) m k v.2 (init-end k h)

-- the declaration with more declarators
abbrev pub with_names : Declaration → List FileTree → Declaration
with_names d xs = record { heading = d.heading; spec = d.spec; names = d.names ++ xs }

-- declarators up to the semicolon
read-files : (lines : ℕ → ℕ) (x : FileTree) (xs : List FileTree) (d : Declaration) (p : ℕ)
    → ValidFile x → AllByRecursion ValidFile xs → MayDeclare d.heading.scope x → AllByRecursion (MayDeclare d.heading.scope) xs
    → RunsTo lines p (listed spell_file (x ∷ xs) ++ kind.Sign sign.Semi ∷ []) (Declare d 0) (p + length (listed spell_file (x ∷ xs) ++ kind.Sign sign.Semi ∷ []))
    (end_declaration (with_names d (place_files lines p (x ∷ xs))))
read-files lines x [] d p v vs o os =
    let x' = place_file lines p x in
    counted (
    respelled (sym (append_assoc (spell_file x) [] (kind.Sign sign.Semi ∷ []))) (
    read-file lines d x p v o
    before token (kind.Sign sign.Semi) (p + width_file x + 1) (end_declaration (add_name d x')) (name-ends lines d x p (here lines (p + width_file x)) (kind.Sign sign.Semi) v tt) refl
    )
    )
read-files lines x (y ∷ ys) d p v vs o os =
    let x' = place_file lines p x in
    let q = p + width_file x + 1 in
    counted (
    respelled (sym (append_assoc (spell_file x) (more_listed spell_file (y ∷ ys)) (kind.Sign sign.Semi ∷ []))) (
    arrives (ap (λ z. end_declaration (record { heading = d.heading; spec = d.spec; names = z })) (append_assoc d.names (x' ∷ []) (place_files lines q (y ∷ ys)))) (
    read-file lines d x p v o
    before token (kind.Sign sign.Comma) q (Declare (add_name d x') 0) (name-ends lines d x p (here lines (p + width_file x)) (kind.Sign sign.Comma) v tt) refl
    before read-files lines y ys (add_name d x') q vs.0 vs.1 os.0 os.1
    )
    )
    )

-- A declarator begins with a star or a name.
abbrev pub StartsName : TokenKind → Type 0
StartsName (kind.Sign sign.Star) = Unit {0}
StartsName (kind.Name name) = Unit {0}
StartsName k = ⊥

pub stars-first : (n : ℕ) (name : List ℕ) (ks : List TokenKind) → FirstOf StartsName (stars n ++ kind.Name name ∷ ks)
stars-first zero name ks = record { token = kind.Name name; rest = ks; are = refl; fits = tt }
stars-first (suc n) name ks = record { token = kind.Sign sign.Star; rest = stars n ++ kind.Name name ∷ ks; are = refl; fits = tt }

pub file-first : (x : FileTree) → FirstOf StartsName (spell_file x)
file-first (FileTree.Function n name a ps) = stars-first n name _
file-first (FileTree.Object (ObjTree.Bare n name a ds)) = stars-first n name _
file-first (FileTree.Object (ObjTree.Initial n name a ds i)) = stars-first n name _

pub name-starts : (h : Heading) (s : SpecTree) (m : Mark) (k : TokenKind) → StartsName k
    → shift m k (Specifying (ForDeclaration h) (expr.AfterSpec s [])) ≡ shift m k (Declare (record { heading = h; spec = s; names = [] }) 0)
name-starts h s m (kind.Sign sign.Star) f = refl
name-starts h s m (kind.Name name) f = refl
name-starts h s m _ f = absurd f

pub tagged : (tag : Option (List ℕ)) → HasTag tag → is_tagged tag ≡ true
tagged None h = absurd h
tagged (Some tag) h = refl

pub tag-declared : (lines : ℕ → ℕ) (p : ℕ) (s : SpecTree) → DeclaresTag s → declares_tag (place_spec lines p s) ≡ true
tag-declared lines p (SpecTree.Void f) h = absurd h
tag-declared lines p (SpecTree.SizeT f) h = absurd h
tag-declared lines p (SpecTree.Integer f ws) h = absurd h
tag-declared lines p (SpecTree.Tag f tag) h = refl
tag-declared lines p (SpecTree.Struct f tag ms) h = tagged tag h

-- all declarators, none too, behind the specifier s that was placed at r
pub read-names : (lines : ℕ → ℕ) (h : Heading) (s : SpecTree) (r : ℕ) (xs : List FileTree) (p : ℕ) → ValidFiles s xs → AllByRecursion (MayDeclare h.scope) xs
    → RunsTo lines p (listed spell_file xs ++ kind.Sign sign.Semi ∷ []) (Specifying (ForDeclaration h) (expr.AfterSpec (place_spec lines r s) []))
    (p + length (listed spell_file xs ++ kind.Sign sign.Semi ∷ []))
    (end_declaration (record { heading = h; spec = place_spec lines r s; names = place_files lines p xs }))
read-names lines h s r [] p v o =
    let d : Declaration = record { heading = h; spec = place_spec lines r s; names = [] } in
    token (kind.Sign sign.Semi) (p + 1) (end_declaration d) (ap (λ b. cond b (Some (end_declaration d)) None) (tag-declared lines r s v)) refl
read-names lines h s r (x ∷ xs) p v o =
    let s' = place_spec lines r s in
    let first = first-more StartsName (listed spell_file (x ∷ xs)) (kind.Sign sign.Semi ∷ []) (first-more StartsName (spell_file x) (more_listed spell_file xs) (file-first x)) in
    restart (Declare (record { heading = h; spec = s'; names = [] }) 0) StartsName first (name-starts h s' (here lines p))
    (read-files lines x xs (record { heading = h; spec = s'; names = [] }) p v.0 v.1 o.0 o.1)
