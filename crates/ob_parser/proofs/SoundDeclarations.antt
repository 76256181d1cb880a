-- Each shift of the machine through specifiers, function declarators and initialisers keeps the shape of what it
-- holds and spells one token more.
use Rattle.std.proofs.Common.{◌≡◌, ℕ, List, [], ◌∷◌, ◌++◌, Bool, true, false, Option, Some, None, refl, sym, ◌∙◌, ap, arith, append_assoc, append-nil}
use Rattle.std.specs.Prelude.{cond, ◌&&◌}
use Rattle.std.specs.List.{AllByRecursion}
use Rattle.ob_tree.specs.declared.tokens.TokenKind.{TokenKind}
use Rattle.ob_tree.specs.declared.tokens.TokenKind.TheVariants as kind
use Rattle.ob_tree.specs.declared.tokens.Keyword.TheVariants as word
use Rattle.ob_tree.specs.declared.tokens.Sign.TheVariants as sign
use Rattle.ob_tree.specs.Trees.{Mark, SpecTree, InitTree}
use Rattle.ob_tree.specs.Programs.{ParamTree, ParamsTree, FileTree}
use Rattle.ob_tree.specs.Spelling.{stars, spell_spec, spell_dims, spell_init, spell_inits}
use Rattle.ob_tree.specs.ProgramSpelling.{spell_static, spell_params, spell_file, spell_program}
use Rattle.ob_tree.specs.Valid.{ValidSpec, ValidInit, ValidInits, IsOfSource}
use Rattle.ob_tree.specs.ProgramValid.{HasTag, ValidParams, AreNamed}
use Rattle.ob_tree.specs.ExprMachine as reader
use Rattle.ob_tree.specs.ProgramStates.{Scope, FileScope, BlockScope, ForScope, Declarator, ParamList, InitDeclarator, InitList, SpecContext, ForDeclaration, ForParam, AfterInit}
use Rattle.ob_tree.specs.ProgramParts.{add_init, add_name, is_tagged, is_first, are_all_named, are_named, initial, function, has_items, at_brace}
use Rattle.ob_tree.specs.ProgramMachine.{next_name, specified, specify_to, specify, begin_param, first_param, heading, begin_declaration, begin_body, closed, next_init, initialised, last_comma}
use Rattle.ob_tree.proofs.ProgramNames.{IsFileScope}
use Rattle.ob_exprs.proofs.Shapes as expr
use Rattle.ob_exprs.proofs.Sound as expr_sound
use Rattle.ob_exprs.proofs.SoundSpecs.{shift-good}
use Rattle.ob_parser.proofs.Shapes.{params_before, inits_before, scope_spell, declaration_spell, declarator_spell, param_list_spell, lists_spell, spec_context_spell, ScopeOk, MayBe, DeclaratorOk, ParamListOk, InitDeclaratorOk, SpecContextOk}
use Rattle.ob_parser.proofs.Adding.{init-spelled, inits-more, init-valid, init-some, comma-spelled, some-items}
use Rattle.ob_parser.proofs.Sound.{Good, same-good, cond-good, first-good, next-good, param-good}

-- Specifiers.
spec-goal : expr.IsGoal 17
spec-goal h = absurd (omega arith)

specified-good : (m : Mark) (k : TokenKind) (u : SpecContext) (s : SpecTree) → IsOfSource k → SpecContextOk u → ValidSpec s
    → Good (spec_context_spell u ++ spell_spec s) k (specified m k u (Some s))
specified-good m k (ForDeclaration h) s t ok v = first-good m k h s t ok v
specified-good m k (ForParam l f n) s t ok v =
    same-good (param_list_spell l ++ (spell_spec s ++ [])) (param_list_spell l ++ spell_spec s) k (specified m k (ForParam l f n) (Some s)) (ap (λ ks. param_list_spell l ++ ks) (append-nil (spell_spec s)))
    (param-good m k l f n s 0 t ok v)

whole-spec : (m : Mark) (k : TokenKind) (u : SpecContext) (s : SpecTree) (fs : List reader.PendingNode) → IsOfSource k → SpecContextOk u → ValidSpec s
    → Good (spec_context_spell u ++ (expr.stack_spell fs ++ spell_spec s)) k (specified m k u (reader.spec_of s fs))
whole-spec m k u s [] t ok v = specified-good m k u s t ok v
whole-spec m k (ForDeclaration h) s (f ∷ fs) t ok v = tt
whole-spec m k (ForParam l g n) s (f ∷ fs) t ok v = tt

no-spec : (read : List TokenKind) (m : Mark) (k : TokenKind) (u : SpecContext) → Good read k (specified m k u None)
no-spec read m k (ForDeclaration h) = tt
no-spec read m k (ForParam l f n) = tt

finish-good : (m : Mark) (k : TokenKind) (u : SpecContext) (s : reader.State) → IsOfSource k → SpecContextOk u → expr.StateOk 17 s
    → Good (spec_context_spell u ++ expr.state_spell s) k (specified m k u (reader.finish_spec s))
finish-good m k u (reader.AfterSpec s fs) t ok v = whole-spec m k u s fs t ok v.2
finish-good m k u s t ok v = no-spec (spec_context_spell u ++ expr.state_spell s) m k u

pub specify-good : (m : Mark) (k : TokenKind) (u : SpecContext) (s : reader.State) → IsOfSource k → SpecContextOk u → expr.StateOk 17 s
    → Good (spec_context_spell u ++ expr.state_spell s) k (specify m k u s)
specify-good m k u s t ok v = go (reader.shift 17 m k s) (shift-good 17 spec-goal m k s t v) (finish-good m k u s t ok v)
  where
    go : (o : Option reader.State) → expr_sound.Good 17 (expr.state_spell s) k o → Good (spec_context_spell u ++ expr.state_spell s) k (specified m k u (reader.finish_spec s))
        → Good (spec_context_spell u ++ expr.state_spell s) k (specify_to m k u s o)
    go (Some x) g f = ((ok, g.0), ap (λ ks. spec_context_spell u ++ ks) g.1 ∙ sym (append_assoc (spec_context_spell u) (expr.state_spell s) (k ∷ [])))
    go None g f = f

-- a specifier comes
pub begin-spec-good : (m : Mark) (k : TokenKind) (u : SpecContext) → IsOfSource k → SpecContextOk u → Good (spec_context_spell u) k (specify m k u (reader.Specifier []))
begin-spec-good m k u t ok =
    same-good (spec_context_spell u ++ []) (spec_context_spell u) k (specify m k u (reader.Specifier [])) (append-nil (spec_context_spell u)) (specify-good m k u (reader.Specifier []) t ok (tt, refl))

pub begin-param-good : (m : Mark) (k : TokenKind) (l : ParamList) → IsOfSource k → ParamListOk l → Good (param_list_spell l) k (begin_param m k l)
begin-param-good m k l t ok = begin-spec-good m k (ForParam l m.first m.line) t ok

pub first-param-good : (m : Mark) (k : TokenKind) (l : ParamList) → IsOfSource k → ParamListOk l → l.params ≡ [] → Good (param_list_spell l) k (first_param m k l)
first-param-good m (kind.Sign sign.CloseParen) l t ok e = (
  (ok.0, ok.1, tt),
  sym (append_assoc (declarator_spell l.function) (kind.Sign sign.OpenParen ∷ []) (kind.Sign sign.CloseParen ∷ []))
      ∙ ap (λ xs. (declarator_spell l.function ++ kind.Sign sign.OpenParen ∷ params_before xs) ++ kind.Sign sign.CloseParen ∷ []) (sym e),
)
first-param-good m (kind.Sign s) l t ok e = begin-param-good m (kind.Sign s) l t ok
first-param-good m k l t ok e = begin-param-good m k l t ok

plain-good : (m : Mark) (k : TokenKind) (o : Scope) → IsOfSource k → ScopeOk o → ((b : Bool) → MayBe o b)
    → Good (scope_spell o) k (specify m k (ForDeclaration (heading o m false)) (reader.Specifier []))
plain-good m k o t ok f =
    same-good (scope_spell o ++ []) (scope_spell o) k (specify m k (ForDeclaration (heading o m false)) (reader.Specifier [])) (append-nil (scope_spell o))
    (begin-spec-good m k (ForDeclaration (heading o m false)) t (ok, f false))

pub begin-declaration-good : (m : Mark) (k : TokenKind) (o : Scope) → IsOfSource k → ScopeOk o → ((b : Bool) → MayBe o b) → Good (scope_spell o) k (begin_declaration m k o)
begin-declaration-good m (kind.Word word.Static) o t ok f = (((ok, f true), (tt, refl)), append-nil (scope_spell o ++ kind.Word word.Static ∷ []))
begin-declaration-good m (kind.Word w) o t ok f = plain-good m (kind.Word w) o t ok f
begin-declaration-good m k o t ok f = plain-good m k o t ok f

-- Behind the parameters of a function.
all-named : (xs : List ParamTree) → are_all_named xs ≡ true → AllByRecursion (λ x. HasTag x.name) xs
all-named [] h = tt
all-named (x ∷ xs) h = both (is_tagged x.name) (are_all_named xs) h (named x.name) (all-named xs)
  where
    named : (name : Option (List ℕ)) → is_tagged name ≡ true → HasTag name
    named None h = let e : false ≡ true = h in cc
    named (Some n) h = tt

    both : (a b : Bool) → (a && b) ≡ true → (a ≡ true → HasTag x.name) → (b ≡ true → AllByRecursion (λ x. HasTag x.name) xs) → HasTag x.name × AllByRecursion (λ x. HasTag x.name) xs
    both true true h f g = (f refl, g refl)
    both true false h f g = let e : false ≡ true = h in cc
    both false b h f g = let e : false ≡ true = h in cc

params-named : (ps : ParamsTree) → are_named ps ≡ true → AreNamed ps
params-named ParamsTree.Empty h = tt
params-named ParamsTree.Void h = tt
params-named (ParamsTree.Listed xs) h = all-named xs h

abbrev closed_spell : Declarator → ParamsTree → List TokenKind
closed_spell x ps = declarator_spell x ++ kind.Sign sign.OpenParen ∷ (spell_params ps ++ kind.Sign sign.CloseParen ∷ [])

abbrev declarator : (o : Scope) (f n : ℕ) (fixed : Bool) (s : SpecTree) (names : List FileTree) (i : ℕ) (name : List ℕ) (a : ℕ) → Declarator
declarator o f n fixed s names i name a =
    record { declaration = record { heading = record { scope = o; first = f; line = n; fixed = fixed }; spec = s; names = names }; stars = i; name = name; at = a }

body-good : (m : Mark) (o : Scope) (f n : ℕ) (fixed : Bool) (s : SpecTree) (names : List FileTree) (i : ℕ) (name : List ℕ) (a : ℕ) (ps : ParamsTree)
    → DeclaratorOk (declarator o f n fixed s names i name a) → ValidParams ps
    → Good (closed_spell (declarator o f n fixed s names i name a) ps) (kind.Sign sign.OpenBrace)
    (cond (is_first names && are_named ps) (begin_body m o (declarator o f n fixed s names i name a) ps) None)
body-good m o f n fixed s (x ∷ xs) i name a ps ok v = tt
body-good m (BlockScope g h items fs) f n fixed s [] i name a ps ok v =
    cond-good (closed_spell (declarator (BlockScope g h items fs) f n fixed s [] i name a) ps) (kind.Sign sign.OpenBrace) (are_named ps) None (λ w. tt)
body-good m (ForScope g h fs) f n fixed s [] i name a ps ok v =
    cond-good (closed_spell (declarator (ForScope g h fs) f n fixed s [] i name a) ps) (kind.Sign sign.OpenBrace) (are_named ps) None (λ w. tt)
body-good m (FileScope items) f n fixed s [] i name a ps ok v =
    let x = declarator (FileScope items) f n fixed s [] i name a in
    cond-good (closed_spell x ps) (kind.Sign sign.OpenBrace) (are_named ps) (begin_body m (FileScope items) x ps)
    (λ w. (
      (tt, (tt, (tt, (ok.0.0.0, ok.0.1, ok.1, v, params-named ps w)), tt)),
      groups (spell_program items) (spell_static fixed) (spell_spec s) (stars i) (kind.Name name) (kind.Sign sign.OpenParen ∷ (spell_params ps ++ kind.Sign sign.CloseParen ∷ [])) (kind.Sign sign.OpenBrace ∷ []),
    ))
  where
    groups : (p f s i : List TokenKind) (n : TokenKind) (c b : List TokenKind) → (p ++ (f ++ (s ++ (i ++ n ∷ c)))) ++ b ≡ ((((p ++ f) ++ (s ++ [])) ++ (i ++ n ∷ [])) ++ c) ++ b
    groups p f s i n c b = simp (append_assoc, append-nil)

name-good : (k : TokenKind) (x : Declarator) (ps : ParamsTree) → DeclaratorOk x → IsFileScope x.declaration.heading.scope → ValidParams ps
    → Good (closed_spell x ps) k (next_name k (add_name x.declaration (function x ps)))
name-good k x ps ok o v =
    same-good (declaration_spell x.declaration ++ spell_file (function x ps)) (closed_spell x ps) k (next_name k (add_name x.declaration (function x ps)))
    (groups (declaration_spell x.declaration) (stars x.stars) (kind.Name x.name) (kind.Sign sign.OpenParen ∷ (spell_params ps ++ kind.Sign sign.CloseParen ∷ [])))
    (next-good k x.declaration (function x ps) ok.0 (ok.1, v) o)
  where
    groups : (d s : List TokenKind) (n : TokenKind) (c : List TokenKind) → d ++ (s ++ n ∷ c) ≡ (d ++ (s ++ n ∷ [])) ++ c
    groups d s n c = simp append_assoc

pub closed-good : (m : Mark) (k : TokenKind) (x : Declarator) (ps : ParamsTree) → DeclaratorOk x → IsFileScope x.declaration.heading.scope → ValidParams ps
    → Good (closed_spell x ps) k (closed m k x ps)
closed-good m (kind.Sign sign.OpenBrace) x ps ok o v =
    let d = x.declaration in
    let h = d.heading in
    body-good m h.scope h.first h.line h.fixed d.spec d.names x.stars x.name x.at ps ok v
closed-good m (kind.Sign s) x ps ok o v = name-good (kind.Sign s) x ps ok o v
closed-good m k x ps ok o v = name-good k x ps ok o v

-- Initialisers.
list-good : (k : TokenKind) (t : InitDeclarator) (is : List InitList) (b : InitList) (i : InitTree) → InitDeclaratorOk t → AllByRecursion (λ b. ValidInits b.items) (b ∷ is) → ValidInit i
    → Good (lists_spell t (b ∷ is) ++ spell_init i) k (next_init k t is (record { first = b.first; items = add_init b.items i }))
list-good (kind.Sign sign.Comma) t is b i ok v w = (
  (ok, (init-valid b.items i v.0 w, v.1)),
  ap (λ ks. lists_spell t is ++ kind.Sign sign.OpenBrace ∷ ks) (inits-more b.items i) ∙ groups (lists_spell t is) (kind.Sign sign.OpenBrace) (inits_before b.items) (spell_init i) (kind.Sign sign.Comma ∷ []),
)
  where
    groups : (l : List TokenKind) (o : TokenKind) (b i c : List TokenKind) → l ++ o ∷ (b ++ (i ++ c)) ≡ ((l ++ o ∷ b) ++ i) ++ c
    groups l o b i c = simp append_assoc
list-good (kind.Sign sign.CloseBrace) t is b i ok v w = (
  (ok, v.1, (init-some b.items i, init-valid b.items i v.0 w)),
  ap (λ ks. lists_spell t is ++ kind.Sign sign.OpenBrace ∷ (ks ++ kind.Sign sign.CloseBrace ∷ [])) (init-spelled b.items i)
      ∙ groups (lists_spell t is) (kind.Sign sign.OpenBrace) (inits_before b.items) (spell_init i) (kind.Sign sign.CloseBrace ∷ []),
)
  where
    groups : (l : List TokenKind) (o : TokenKind) (b i c : List TokenKind) → l ++ o ∷ ((b ++ i) ++ c) ≡ ((l ++ o ∷ b) ++ i) ++ c
    groups l o b i c = simp append_assoc
list-good (kind.Sign s) t is b i ok v w = tt
list-good k t is b i ok v w = tt

pub initialised-good : (k : TokenKind) (t : InitDeclarator) (is : List InitList) (i : InitTree) → InitDeclaratorOk t → AllByRecursion (λ b. ValidInits b.items) is → ValidInit i
    → Good (lists_spell t is ++ spell_init i) k (initialised k t is i)
initialised-good k t [] i ok v w =
    let x = t.declarator in
    same-good (declaration_spell x.declaration ++ spell_file (initial t i)) (lists_spell t [] ++ spell_init i) k (next_name k (add_name x.declaration (initial t i)))
    (groups (declaration_spell x.declaration) (stars x.stars) (kind.Name x.name) (spell_dims t.dims) (kind.Sign sign.Assign) (spell_init i))
    (next-good k x.declaration (initial t i) ok.0.0 (ok.0.1, ok.1, w) tt)
  where
    groups : (d s : List TokenKind) (n : TokenKind) (l : List TokenKind) (e : TokenKind) (i : List TokenKind) → d ++ (s ++ n ∷ (l ++ e ∷ i)) ≡ ((d ++ (s ++ n ∷ [])) ++ (l ++ e ∷ [])) ++ i
    groups d s n l e i = simp append_assoc
initialised-good k t (b ∷ is) i ok v w = list-good k t is b i ok v w

pub comma-good : (k : TokenKind) (t : InitDeclarator) (is : List InitList) → InitDeclaratorOk t → AllByRecursion (λ b. ValidInits b.items) is
    → Good (lists_spell t is) k (last_comma k t is)
comma-good k t [] ok v = tt
comma-good k t (b ∷ is) ok v = cond-good (lists_spell t (b ∷ is)) k (has_items b.items) _ (λ h. brace k h)
  where
    brace : (k : TokenKind) → has_items b.items ≡ true
        → Good (lists_spell t (b ∷ is)) k (at_brace k (AfterInit t is (InitTree.Braces b.first b.items true)))
    brace (kind.Sign sign.CloseBrace) h = (
      (ok, v.1, (some-items b.items h, v.0)),
      ap (λ ks. lists_spell t is ++ kind.Sign sign.OpenBrace ∷ ks) (sym (append_assoc (spell_inits b.items) (kind.Sign sign.Comma ∷ []) (kind.Sign sign.CloseBrace ∷ [])) ∙ ap (λ ks. ks ++ kind.Sign sign.CloseBrace ∷ []) (sym (comma-spelled b.items h)))
          ∙ sym (append_assoc (lists_spell t is) (kind.Sign sign.OpenBrace ∷ inits_before b.items) (kind.Sign sign.CloseBrace ∷ [])),
    )
    brace (kind.Sign s) h = tt
    brace k h = tt
