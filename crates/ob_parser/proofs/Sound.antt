-- Each shift of the machine through declarations keeps the shape of what it holds and spells one token more.
use Rattle.std.proofs.Common.{◌≡◌, ℕ, zero, suc, ◌+◌, List, [], ◌∷◌, ◌++◌, Bool, true, false, Option, Some, None, refl, sym, ◌∙◌, ap, subst, arith, append_assoc, append-nil}
use Rattle.std.specs.Prelude.{cond}
use Rattle.std.specs.List.{AllByRecursion}
use Rattle.ob_tree.specs.declared.tokens.TokenKind.{TokenKind}
use Rattle.ob_tree.specs.declared.tokens.TokenKind.TheVariants as kind
use Rattle.ob_tree.specs.declared.tokens.Sign.TheVariants as sign
use Rattle.ob_tree.specs.Trees.{Mark, SpecTree, DimTrees}
use Rattle.ob_tree.specs.Programs.{LocalTree, ParamTree, FileTree, ItemTree}
use Rattle.ob_tree.specs.Spelling.{stars, spell_spec, spell_name, spell_obj, spell_objs, spell_more_objs, spell_dims, listed, more_listed}
use Rattle.ob_tree.specs.ProgramSpelling.{spell_static, spell_local, spell_block, spell_param, spell_file, spell_program}
use Rattle.ob_tree.specs.Valid.{ValidSpec, ValidDims, ValidOpenDims, ValidObjs, IsOfSource}
use Rattle.ob_tree.specs.ProgramValid.{DeclaresTag, HasTag, ValidNames, ValidParam, ValidFile, ValidFiles, ValidItem}
use Rattle.ob_tree.specs.ProgramStates.{Scope, FileScope, BlockScope, ForScope, Heading, Declaration, Declarator, ParamList, Head, OfName, OfParam, State}
use Rattle.ob_tree.specs.ProgramParts.{add_name, add_param, is_tagged, declares_tag, has_lengths, has_dims, objects, bare}
use Rattle.ob_tree.specs.ProgramMachine.{end_declaration, next_name, declare, first_name, parameters, after_name, next_param, after_dims, param}
use Rattle.ob_tree.proofs.ProgramNames.{IsFileScope, MayDeclare}
use Rattle.ob_exprs.proofs.Sound.{name-of}
use Rattle.ob_parser.proofs.Shapes.{names_before, params_before, for_open, stack_spell, scope_spell, heading_spell, declaration_spell, declarator_spell, param_list_spell, head_spell, state_spell, ScopeOk, MayBe, HeadingOk, DeclarationOk, DeclaratorOk, ParamListOk, HeadOk, StateOk}
use Rattle.ob_parser.proofs.Adding.{local-spelled, local-valid, item-spelled, all-more, name-spelled, names-more, params-spelled, params-more, params-valid}

-- the next state, where there is one, has the shape and spells one token more
abbrev pub Good : List TokenKind → TokenKind → Option State → Type 0
Good read k None = Unit {0}
Good read k (Some s) = StateOk s × (state_spell s ≡ read ++ k ∷ [])

pub same-good : (xs ys : List TokenKind) (k : TokenKind) (o : Option State) → xs ≡ ys → Good xs k o → Good ys k o
same-good xs ys k o e g = subst (λ read. Good read k o) e g

pub cond-good : (read : List TokenKind) (k : TokenKind) (b : Bool) (o : Option State) → (b ≡ true → Good read k o) → Good read k (cond b o None)
cond-good read k true o g = g refl
cond-good read k false o g = tt

pub stars-more : (n : ℕ) → stars (n + 1) ≡ stars n ++ kind.Sign sign.Star ∷ []
stars-more n = let e : n + 1 ≡ suc n = omega arith in ap stars e ∙ one n
  where
    one : (n : ℕ) → stars (suc n) ≡ stars n ++ kind.Sign sign.Star ∷ []
    one zero = refl
    one (suc i) = ap (λ ks. kind.Sign sign.Star ∷ ks) (one i)

-- Declarations that end.
more-objects : (o : Scope) (xs : List FileTree) → (IsFileScope o → ⊥) → AllByRecursion (MayDeclare o) xs → more_listed spell_file xs ≡ spell_more_objs (objects xs)
more-objects o [] n v = refl
more-objects o (FileTree.Object x ∷ xs) n v = ap (λ ks. kind.Sign sign.Comma ∷ (spell_obj x ++ ks)) (more-objects o xs n v.1)
more-objects o (FileTree.Function i name a ps ∷ xs) n v = absurd (n v.0)

pub all-objects : (o : Scope) (xs : List FileTree) → (IsFileScope o → ⊥) → AllByRecursion (MayDeclare o) xs → spell_objs (objects xs) ≡ listed spell_file xs
all-objects o [] n v = refl
all-objects o (FileTree.Object x ∷ xs) n v = ap (λ ks. spell_obj x ++ ks) (sym (more-objects o xs n v.1))
all-objects o (FileTree.Function i name a ps ∷ xs) n v = absurd (n v.0)

valid-objects : (o : Scope) (xs : List FileTree) → (IsFileScope o → ⊥) → AllByRecursion (MayDeclare o) xs → AllByRecursion ValidFile xs → ValidObjs (objects xs)
valid-objects o [] n v w = tt
valid-objects o (FileTree.Object x ∷ xs) n v w = (w.0, valid-objects o xs n v.1 w.1)
valid-objects o (FileTree.Function i name a ps ∷ xs) n v w = absurd (n v.0)

pub valid-names : (o : Scope) (s : SpecTree) (xs : List FileTree) → (IsFileScope o → ⊥) → AllByRecursion (MayDeclare o) xs → ValidFiles s xs → ValidNames s (objects xs)
valid-names o s [] n v w = w
valid-names o s (FileTree.Object x ∷ xs) n v w = (w.0, valid-objects o xs n v.1 w.1)
valid-names o s (FileTree.Function i name a ps ∷ xs) n v w = absurd (n v.0)

-- the declaration up to its last declarator
abbrev whole_spell : Declaration → List TokenKind
whole_spell d = heading_spell d.heading ++ (spell_spec d.spec ++ listed spell_file d.names)

regroup : (o s p l : List TokenKind) (k : TokenKind) → o ++ (s ++ (p ++ (l ++ k ∷ []))) ≡ ((o ++ s) ++ (p ++ l)) ++ k ∷ []
regroup o s p l k = simp append_assoc

end-good : (o : Scope) (f n : ℕ) (fixed : Bool) (s : SpecTree) (xs : List FileTree) → ScopeOk o → MayBe o fixed → ValidSpec s → AllByRecursion (MayDeclare o) xs → ValidFiles s xs
    → Good ((scope_spell o ++ spell_static fixed) ++ (spell_spec s ++ listed spell_file xs)) (kind.Sign sign.Semi)
    (Some (end_declaration (record { heading = record { scope = o; first = f; line = n; fixed = fixed }; spec = s; names = xs })))
end-good (FileScope items) f n fixed s xs ok b v m w =
    let i = ItemTree.Decls f n fixed s xs in (
      all-more ValidItem items i ok (v, w),
      item-spelled items i ∙ regroup (spell_program items) (spell_static fixed) (spell_spec s) (listed spell_file xs) (kind.Sign sign.Semi),
    )
end-good (BlockScope g h items fs) f n fixed s xs ok b v m w =
    let o = BlockScope g h items fs in
    let l : LocalTree = record { first = f; line = n; fixed = fixed; spec = s; names = objects xs } in
    let e : spell_local l ≡ spell_static fixed ++ (spell_spec s ++ (listed spell_file xs ++ kind.Sign sign.Semi ∷ [])) =
    ap (λ ks. spell_static fixed ++ (spell_spec s ++ (ks ++ kind.Sign sign.Semi ∷ []))) (all-objects o xs (λ x. x) m) in (
      (tt, (local-valid items l ok.0 (v, valid-names o s xs (λ x. x) m w), ok.1, ok.2)),
      ap (λ ks. stack_spell fs ++ kind.Sign sign.OpenBrace ∷ ks) (local-spelled items l ∙ ap (λ ks. spell_block items ++ ks) e)
          ∙ sym (append_assoc (stack_spell fs) (kind.Sign sign.OpenBrace ∷ spell_block items) (spell_static fixed ++ (spell_spec s ++ (listed spell_file xs ++ kind.Sign sign.Semi ∷ []))))
          ∙ regroup (scope_spell o) (spell_static fixed) (spell_spec s) (listed spell_file xs) (kind.Sign sign.Semi),
    )
end-good (ForScope g h fs) f n fixed s xs ok b v m w =
    let o = ForScope g h fs in
    let l : LocalTree = record { first = f; line = n; fixed = fixed; spec = s; names = objects xs } in
    let e : spell_local l ≡ spell_static fixed ++ (spell_spec s ++ (listed spell_file xs ++ kind.Sign sign.Semi ∷ [])) =
    ap (λ ks. spell_static fixed ++ (spell_spec s ++ (ks ++ kind.Sign sign.Semi ∷ []))) (all-objects o xs (λ x. x) m) in (
      (ok.0, ok.1, (b, (v, valid-names o s xs (λ x. x) m w))),
      ap (λ ks. stack_spell fs ++ (for_open ++ ks)) e
          ∙ sym (append_assoc (stack_spell fs) for_open (spell_static fixed ++ (spell_spec s ++ (listed spell_file xs ++ kind.Sign sign.Semi ∷ []))))
          ∙ regroup (scope_spell o) (spell_static fixed) (spell_spec s) (listed spell_file xs) (kind.Sign sign.Semi),
    )

-- behind a declarator
pub valid-more : (s : SpecTree) (xs : List FileTree) (x : FileTree) → AllByRecursion ValidFile xs → ValidFile x → ValidFiles s (xs ++ x ∷ [])
valid-more s [] x v w = (w, tt)
valid-more s (y ∷ ys) x v w = (v.0, all-more ValidFile ys x v.1 w)

declaration-more : (d : Declaration) (x : FileTree) → DeclarationOk d → ValidFile x → MayDeclare d.heading.scope x → DeclarationOk (add_name d x)
declaration-more d x ok v m = (ok.0, ok.1, all-more ValidFile d.names x ok.2 v, all-more (MayDeclare d.heading.scope) d.names x ok.3 m)

pub next-good : (k : TokenKind) (d : Declaration) (x : FileTree) → DeclarationOk d → ValidFile x → MayDeclare d.heading.scope x
    → Good (declaration_spell d ++ spell_file x) k (next_name k (add_name d x))
next-good (kind.Sign sign.Comma) d x ok v m = (
  declaration-more d x ok v m,
  ap (λ ks. (heading_spell d.heading ++ (spell_spec d.spec ++ ks)) ++ []) (names-more d.names x) ∙ groups (heading_spell d.heading) (spell_spec d.spec) (names_before d.names) (spell_file x),
)
  where
    groups : (h s n x : List TokenKind) → (h ++ (s ++ (n ++ (x ++ kind.Sign sign.Comma ∷ [])))) ++ [] ≡ ((h ++ (s ++ n)) ++ x) ++ kind.Sign sign.Comma ∷ []
    groups h s n x = append-nil (h ++ (s ++ (n ++ (x ++ kind.Sign sign.Comma ∷ [])))) ∙ simp append_assoc
next-good (kind.Sign sign.Semi) d x ok v m =
    let h = d.heading in
    same-good (heading_spell h ++ (spell_spec d.spec ++ listed spell_file (d.names ++ x ∷ []))) (declaration_spell d ++ spell_file x) (kind.Sign sign.Semi) (Some (end_declaration (add_name d x)))
    (ap (λ ks. heading_spell h ++ (spell_spec d.spec ++ ks)) (name-spelled d.names x) ∙ groups (heading_spell h) (spell_spec d.spec) (names_before d.names) (spell_file x))
    (end-good h.scope h.first h.line h.fixed d.spec (d.names ++ x ∷ []) ok.0.0 ok.0.1 ok.1 (all-more (MayDeclare h.scope) d.names x ok.3 m) (valid-more d.spec d.names x ok.2 v))
  where
    groups : (h s n x : List TokenKind) → h ++ (s ++ (n ++ x)) ≡ (h ++ (s ++ n)) ++ x
    groups h s n x = simp append_assoc
next-good (kind.Sign s) d x ok v m = tt
next-good k d x ok v m = tt

pub declare-good : (m : Mark) (k : TokenKind) (d : Declaration) (n : ℕ) → IsOfSource k → DeclarationOk d → Good (declaration_spell d ++ stars n) k (declare m k d n)
declare-good m (kind.Sign sign.Star) d n t ok =
    (ok, ap (λ ks. declaration_spell d ++ ks) (stars-more n) ∙ sym (append_assoc (declaration_spell d) (stars n) (kind.Sign sign.Star ∷ [])))
declare-good m (kind.Name name) d n t ok = (
  ((ok, name-of name t), tt),
  append-nil (declaration_spell d ++ (stars n ++ kind.Name name ∷ [])) ∙ sym (append_assoc (declaration_spell d) (stars n) (kind.Name name ∷ [])),
)
declare-good m (kind.Sign s) d n t ok = tt
declare-good m k d n t ok = tt

tagged : (tag : Option (List ℕ)) → is_tagged tag ≡ true → HasTag tag
tagged None h = let e : false ≡ true = h in cc
tagged (Some tag) h = tt

tag-declared : (s : SpecTree) → declares_tag s ≡ true → DeclaresTag s
tag-declared (SpecTree.Tag f tag) h = tt
tag-declared (SpecTree.Struct f tag ms) h = tagged tag h
tag-declared (SpecTree.Void f) h = let e : false ≡ true = h in cc
tag-declared (SpecTree.SizeT f) h = let e : false ≡ true = h in cc
tag-declared (SpecTree.Integer f ws) h = let e : false ≡ true = h in cc

-- behind the specifier of a declaration
abbrev begun_with : Heading → SpecTree → Declaration
begun_with h s = record { heading = h; spec = s; names = [] }

pub first-good : (m : Mark) (k : TokenKind) (h : Heading) (s : SpecTree) → IsOfSource k → HeadingOk h → ValidSpec s
    → Good (heading_spell h ++ spell_spec s) k (first_name m k (begun_with h s))
first-good m (kind.Sign sign.Semi) h s t ok v =
    same-good (heading_spell h ++ (spell_spec s ++ [])) (heading_spell h ++ spell_spec s) (kind.Sign sign.Semi) (first_name m (kind.Sign sign.Semi) (begun_with h s))
    (ap (λ ks. heading_spell h ++ ks) (append-nil (spell_spec s)))
    (cond-good (heading_spell h ++ (spell_spec s ++ [])) (kind.Sign sign.Semi) (declares_tag s) (Some (end_declaration (begun_with h s)))
    (λ d. end-good h.scope h.first h.line h.fixed s [] ok.0 ok.1 v tt (tag-declared s d)))
first-good m (kind.Sign x) h s t ok v =
    same-good (declaration_spell (begun_with h s) ++ []) (heading_spell h ++ spell_spec s) (kind.Sign x) (declare m (kind.Sign x) (begun_with h s) 0)
    (append-nil (heading_spell h ++ (spell_spec s ++ [])) ∙ ap (λ ks. heading_spell h ++ ks) (append-nil (spell_spec s)))
    (declare-good m (kind.Sign x) (begun_with h s) 0 t (ok, v, tt, tt))
first-good m k h s t ok v =
    same-good (declaration_spell (begun_with h s) ++ []) (heading_spell h ++ spell_spec s) k (declare m k (begun_with h s) 0)
    (append-nil (heading_spell h ++ (spell_spec s ++ [])) ∙ ap (λ ks. heading_spell h ++ ks) (append-nil (spell_spec s)))
    (declare-good m k (begun_with h s) 0 t (ok, v, tt, tt))

-- behind the name of a declarator
parameters-good : (o : Scope) (x : Declarator) → DeclaratorOk x → o ≡ x.declaration.heading.scope → Good (declarator_spell x) (kind.Sign sign.OpenParen) (parameters o x)
parameters-good (FileScope items) x ok e = (((ok, subst IsFileScope e tt, tt), refl), refl)
parameters-good (BlockScope f n items fs) x ok e = tt
parameters-good (ForScope f n fs) x ok e = tt

call-good : (x : Declarator) (ds : DimTrees) → DeclaratorOk x
    → Good (declarator_spell x ++ spell_dims ds) (kind.Sign sign.OpenParen) (cond (has_dims ds) None (parameters x.declaration.heading.scope x))
call-good x DimTrees.NoDims ok =
    same-good (declarator_spell x) (declarator_spell x ++ []) (kind.Sign sign.OpenParen) (parameters x.declaration.heading.scope x) (sym (append-nil (declarator_spell x)))
    (parameters-good x.declaration.heading.scope x ok refl)
call-good x (DimTrees.Unsized ds) ok = tt
call-good x (DimTrees.Sized e ds) ok = tt

all-lengths : (ds : DimTrees) → has_lengths ds ≡ true → ValidOpenDims ds → ValidDims ds
all-lengths DimTrees.NoDims h v = v
all-lengths (DimTrees.Unsized ds) h v = let e : false ≡ true = h in cc
all-lengths (DimTrees.Sized e ds) h v = v

bare-good : (k : TokenKind) (x : Declarator) (ds : DimTrees) → DeclaratorOk x → ValidOpenDims ds
    → Good (declarator_spell x ++ spell_dims ds) k (cond (has_lengths ds) (next_name k (add_name x.declaration (bare x ds))) None)
bare-good k x ds ok v =
    cond-good (declarator_spell x ++ spell_dims ds) k (has_lengths ds) (next_name k (add_name x.declaration (bare x ds)))
    (λ h.
    same-good (declaration_spell x.declaration ++ spell_file (bare x ds)) (declarator_spell x ++ spell_dims ds) k (next_name k (add_name x.declaration (bare x ds)))
    (groups (declaration_spell x.declaration) (stars x.stars) (kind.Name x.name) (spell_dims ds))
    (next-good k x.declaration (bare x ds) ok.0 (ok.1, all-lengths ds h v) tt))
  where
    groups : (d s : List TokenKind) (n : TokenKind) (l : List TokenKind) → d ++ (s ++ n ∷ l) ≡ (d ++ (s ++ n ∷ [])) ++ l
    groups d s n l = simp append_assoc

after-name-good : (k : TokenKind) (x : Declarator) (ds : DimTrees) → DeclaratorOk x → ValidOpenDims ds → Good (declarator_spell x ++ spell_dims ds) k (after_name k x ds)
after-name-good (kind.Sign sign.OpenBracket) x ds ok v = ((ok, v), sym (append_assoc (declarator_spell x) (spell_dims ds) (kind.Sign sign.OpenBracket ∷ [])))
after-name-good (kind.Sign sign.Assign) x ds ok v = (((ok, v), tt), sym (append_assoc (declarator_spell x) (spell_dims ds) (kind.Sign sign.Assign ∷ [])))
after-name-good (kind.Sign sign.OpenParen) x ds ok v = call-good x ds ok
after-name-good (kind.Sign s) x ds ok v = bare-good (kind.Sign s) x ds ok v
after-name-good k x ds ok v = bare-good k x ds ok v

-- Parameters.
next-param-good : (k : TokenKind) (l : ParamList) (x : ParamTree) → ParamListOk l → ValidParam x
    → Good (param_list_spell l ++ spell_param x) k (next_param k (add_param l x))
next-param-good (kind.Sign sign.Comma) l x ok v = (
  (ok.0, ok.1, all-more ValidParam l.params x ok.2 v),
  ap (λ ks. declarator_spell l.function ++ kind.Sign sign.OpenParen ∷ ks) (params-more l.params x)
      ∙ groups (declarator_spell l.function) (kind.Sign sign.OpenParen) (params_before l.params) (spell_param x) (kind.Sign sign.Comma ∷ []),
)
  where
    groups : (d : List TokenKind) (o : TokenKind) (p x c : List TokenKind) → d ++ o ∷ (p ++ (x ++ c)) ≡ ((d ++ o ∷ p) ++ x) ++ c
    groups d o p x c = simp append_assoc
next-param-good (kind.Sign sign.CloseParen) l x ok v = (
  (ok.0, ok.1, params-valid l.params x ok.2 v),
  ap (λ ks. declarator_spell l.function ++ kind.Sign sign.OpenParen ∷ (ks ++ kind.Sign sign.CloseParen ∷ [])) (params-spelled l.params x)
      ∙ groups (declarator_spell l.function) (kind.Sign sign.OpenParen) (params_before l.params) (spell_param x) (kind.Sign sign.CloseParen ∷ []),
)
  where
    groups : (d : List TokenKind) (o : TokenKind) (p x c : List TokenKind) → d ++ o ∷ ((p ++ x) ++ c) ≡ ((d ++ o ∷ p) ++ x) ++ c
    groups d o p x c = simp append_assoc
next-param-good (kind.Sign s) l x ok v = tt
next-param-good k l x ok v = tt

abbrev made : (f n : ℕ) → SpecTree → ℕ → Option (List ℕ) → ℕ → DimTrees → ParamTree
made f n s i name a ds = record { first = f; line = n; spec = s; stars = i; name = name; at = a; dims = ds }

param-ends : (k : TokenKind) (l : ParamList) (f n : ℕ) (s : SpecTree) (i : ℕ) (name : Option (List ℕ)) (a : ℕ) (ds : DimTrees) → HeadOk (OfParam l f n s i name a) → ValidOpenDims ds
    → Good (head_spell (OfParam l f n s i name a) ++ spell_dims ds) k (next_param k (add_param l (made f n s i name a ds)))
param-ends k l f n s i name a ds ok v =
    same-good (param_list_spell l ++ spell_param (made f n s i name a ds)) (head_spell (OfParam l f n s i name a) ++ spell_dims ds) k (next_param k (add_param l (made f n s i name a ds)))
    (groups (param_list_spell l) (spell_spec s) (stars i) (spell_name name) (spell_dims ds)) (next-param-good k l (made f n s i name a ds) ok.0 (ok.1, ok.2, v))
  where
    groups : (l s i n d : List TokenKind) → l ++ (s ++ (i ++ (n ++ d))) ≡ (l ++ (s ++ (i ++ n))) ++ d
    groups l s i n d = simp append_assoc

after-param-good : (k : TokenKind) (l : ParamList) (f n : ℕ) (s : SpecTree) (i : ℕ) (name : Option (List ℕ)) (a : ℕ) (ds : DimTrees) → HeadOk (OfParam l f n s i name a) → ValidOpenDims ds
    → Good (head_spell (OfParam l f n s i name a) ++ spell_dims ds) k (after_dims k (OfParam l f n s i name a) ds)
after-param-good (kind.Sign sign.OpenBracket) l f n s i name a ds ok v =
    ((ok, v), sym (append_assoc (head_spell (OfParam l f n s i name a)) (spell_dims ds) (kind.Sign sign.OpenBracket ∷ [])))
after-param-good (kind.Sign x) l f n s i name a ds ok v = param-ends (kind.Sign x) l f n s i name a ds ok v
after-param-good k l f n s i name a ds ok v = param-ends k l f n s i name a ds ok v

pub dims-good : (k : TokenKind) (h : Head) (ds : DimTrees) → HeadOk h → ValidOpenDims ds → Good (head_spell h ++ spell_dims ds) k (after_dims k h ds)
dims-good k (OfName x) ds ok v = after-name-good k x ds ok v
dims-good k (OfParam l f n s i name a) ds ok v = after-param-good k l f n s i name a ds ok v

unnamed : (k : TokenKind) (l : ParamList) (f n : ℕ) (s : SpecTree) (i : ℕ) → ParamListOk l → ValidSpec s
    → Good (param_list_spell l ++ (spell_spec s ++ stars i)) k (after_dims k (OfParam l f n s i None f) DimTrees.NoDims)
unnamed k l f n s i ok v =
    same-good (head_spell (OfParam l f n s i None f) ++ []) (param_list_spell l ++ (spell_spec s ++ stars i)) k (after_dims k (OfParam l f n s i None f) DimTrees.NoDims)
    (append-nil (head_spell (OfParam l f n s i None f)) ∙ ap (λ ks. param_list_spell l ++ (spell_spec s ++ ks)) (append-nil (stars i)))
    (dims-good k (OfParam l f n s i None f) DimTrees.NoDims (ok, v, tt) tt)

pub param-good : (m : Mark) (k : TokenKind) (l : ParamList) (f n : ℕ) (s : SpecTree) (i : ℕ) → IsOfSource k → ParamListOk l → ValidSpec s
    → Good (param_list_spell l ++ (spell_spec s ++ stars i)) k (param m k l f n s i)
param-good m (kind.Sign sign.Star) l f n s i t ok v = (
  (ok, v),
  ap (λ ks. param_list_spell l ++ (spell_spec s ++ ks)) (stars-more i) ∙ groups (param_list_spell l) (spell_spec s) (stars i) (kind.Sign sign.Star ∷ []),
)
  where
    groups : (l s i k : List TokenKind) → l ++ (s ++ (i ++ k)) ≡ (l ++ (s ++ i)) ++ k
    groups l s i k = simp append_assoc
param-good m (kind.Name name) l f n s i t ok v = (
  ((ok, v, name-of name t), tt),
  append-nil (param_list_spell l ++ (spell_spec s ++ (stars i ++ kind.Name name ∷ []))) ∙ groups (param_list_spell l) (spell_spec s) (stars i) (kind.Name name ∷ []),
)
  where
    groups : (l s i k : List TokenKind) → l ++ (s ++ (i ++ k)) ≡ (l ++ (s ++ i)) ++ k
    groups l s i k = simp append_assoc
param-good m (kind.Sign x) l f n s i t ok v = unnamed (kind.Sign x) l f n s i ok v
param-good m k l f n s i t ok v = unnamed k l f n s i ok v
