-- The machine reads what may be left out, array brackets and initialisers.
use Rattle.std.proofs.Common.{◌≡◌, ℕ, ◌+◌, List, [], ◌∷◌, ◌++◌, length, Bool, true, false, Option, Some, None, refl, sym, ◌∙◌, ap, arith, append_assoc}
use Rattle.std.specs.Prelude.{cond}
use Rattle.ob_tree.specs.declared.tokens.TokenKind.{TokenKind}
use Rattle.ob_tree.specs.declared.tokens.TokenKind.TheVariants as kind
use Rattle.ob_tree.specs.declared.tokens.Sign.TheVariants as sign
use Rattle.ob_tree.specs.Trees.{Mark, ExprTree, DimTrees, InitTree, InitTrees}
use Rattle.ob_tree.specs.Spelling.{spell_dims, spell_comma, spell_init, spell_more_inits}
use Rattle.ob_tree.specs.ProgramSpelling.{spell_option}
use Rattle.ob_tree.specs.Valid.{ValidDims, ValidOpenDims, ValidInit, ValidInits, IsOf}
use Rattle.ob_tree.specs.ProgramValid.{ValidOption}
use Rattle.ob_tree.specs.Places.{here, place, place_dims, place_init, place_inits, width, width_dims, width_init}
use Rattle.ob_tree.specs.ProgramPlaces.{width_option, place_option}
use Rattle.ob_tree.specs.ExprMachine as expr
use Rattle.ob_tree.proofs.PlaceKeeps.{valid-place}
use Rattle.ob_tree.proofs.Unreduced.{state_behind}
use Rattle.ob_tree.proofs.SpecShifts.{append_dims, dims-end, dims-more}
use Rattle.ob_tree.specs.ProgramStates.{Head, OfName, OfParam, InitDeclarator, InitList, ExprContext, Statement, IfTest, WhileTest, DoTest, ForStart, ForTest, ForNext, Return, Length, Item, State, Dims, Optional, Reading, Init, AfterInit}
use Rattle.ob_tree.specs.ProgramParts.{at_semi, at_close, at_bracket, at_brace, add_init, has_items}
use Rattle.ob_tree.specs.ProgramMachine.{context_level, first_length, last_comma, used, optional_to, initialised, shift}
use Rattle.ob_tree.proofs.ProgramRuns.{RunsTo, nothing, token, ◌before◌, counted, respelled, arrives, restart, read-expr, Ends, expr-ends, StartsExpr, first-expr}

-- Where an expression may be left out, the token that it begins with is none that may stand in its place.
no-semi : (k : TokenKind) (s : State) → StartsExpr k → at_semi k s ≡ None
no-semi (kind.Sign sign.Semi) s h = absurd h
no-semi (kind.Sign x) s h = refl
no-semi k s h = refl

no-close : (k : TokenKind) (s : State) → StartsExpr k → at_close k s ≡ None
no-close (kind.Sign sign.CloseParen) s h = absurd h
no-close (kind.Sign x) s h = refl
no-close k s h = refl

no-bracket : (k : TokenKind) (s : State) → StartsExpr k → at_bracket k s ≡ None
no-bracket (kind.Sign sign.CloseBracket) s h = absurd h
no-bracket (kind.Sign x) s h = refl
no-bracket k s h = refl

no-brace : (k : TokenKind) (s : State) → StartsExpr k → at_brace k s ≡ None
no-brace (kind.Sign sign.CloseBrace) s h = absurd h
no-brace (kind.Sign x) s h = refl
no-brace k s h = refl

none-both : (b : Bool) (o : Option State) → o ≡ None → cond b o None ≡ None
none-both true o e = e
none-both false o e = refl

no-length : (k : TokenKind) (h : Head) (ds : DimTrees) → StartsExpr k → first_length k h ds ≡ None
no-length k h DimTrees.NoDims s = no-bracket k (Dims h (DimTrees.Unsized DimTrees.NoDims)) s
no-length k h ds s = refl

no-comma : (k : TokenKind) (t : InitDeclarator) (is : List InitList) → StartsExpr k → last_comma k t is ≡ None
no-comma k t [] s = refl
no-comma k t (b ∷ is) s = none-both (has_items b.items) _ (no-brace k _ s)

none-used : (k : TokenKind) (u : ExprContext) → StartsExpr k → used k u None ≡ None
none-used k (Statement f n fs) s = no-semi k _ s
none-used k (IfTest f n fs) s = refl
none-used k (WhileTest f n fs) s = refl
none-used k (DoTest f n b fs) s = refl
none-used k (ForStart f n fs) s = no-semi k _ s
none-used k (ForTest f n i fs) s = no-semi k _ s
none-used k (ForNext f n i t fs) s = no-close k _ s
none-used k (Return f n fs) s = no-semi k _ s
none-used k (Length h ds) s = no-length k h ds s
none-used k (Item t is) s = no-comma k t is s

pub optional-starts : (u : ExprContext) (m : Mark) (k : TokenKind) → StartsExpr k → shift m k (Optional u) ≡ shift m k (Reading u (expr.BeforeOperand []))
optional-starts u m k s = ap (λ o. optional_to m k u o) (none-used k u s)

-- an expression of the level, or none
abbrev pub AtLevel : ℕ → Option ExprTree → Type 0
AtLevel level None = Unit {0}
AtLevel level (Some e) = IsOf level e

pub any-level : (o : Option ExprTree) → ValidOption o → AtLevel 0 o
any-level None v = tt
any-level (Some e) v = (v, omega arith)

abbrev pub after_option : ExprContext → Option ExprTree → State
after_option u None = Optional u
after_option u (Some e) = Reading u (state_behind e [])

pub read-option : (lines : ℕ → ℕ) (u : ExprContext) (o : Option ExprTree) (p : ℕ) → AtLevel (context_level u) o
    → RunsTo lines p (spell_option o) (Optional u) (p + width_option o) (after_option u (place_option lines p o))
read-option lines u None p v = counted nothing
read-option lines u (Some e) p v = restart (Reading u (expr.BeforeOperand [])) StartsExpr (first-expr e v.0) (optional-starts u (here lines p)) (read-expr lines u e p v)

pub option-ends : (lines : ℕ → ℕ) (u : ExprContext) (o : Option ExprTree) (p : ℕ) (m : Mark) (k : TokenKind) (t : State) → AtLevel (context_level u) o
    → Ends (context_level u) k → used k u (place_option lines p o) ≡ Some t → shift m k (after_option u (place_option lines p o)) ≡ Some t
option-ends lines u None p m k t v h g = ap (λ o. optional_to m k u o) g
option-ends lines u (Some e) p m k t v h g = expr-ends u m k (place lines p e) (valid-place lines p e v.0) h ∙ g

-- Array brackets.
pub open-bracket : (m : Mark) (h : Head) (ds : DimTrees) → shift m (kind.Sign sign.OpenBracket) (Dims h ds) ≡ Some (Optional (Length h ds))
open-bracket m (OfName x) ds = refl
open-bracket m (OfParam l f n s i name a) ds = refl

pub read-dims : (lines : ℕ → ℕ) (h : Head) (ds done : DimTrees) (p : ℕ) → ValidDims ds
    → RunsTo lines p (spell_dims ds) (Dims h done) (p + width_dims ds) (Dims h (append_dims done (place_dims lines p ds)))
read-dims lines h DimTrees.NoDims done p v = arrives (ap (λ ds. Dims h ds) (sym (dims-end done))) (counted nothing)
read-dims lines h (DimTrees.Unsized ds) done p v = absurd v
read-dims lines h (DimTrees.Sized e ds) done p v =
    let e' = place lines (p + 1) e in
    let u = Length h done in
    counted (
    arrives (ap (λ x. Dims h x) (dims-more done e' (place_dims lines (p + width e + 2) ds))) (
    token (kind.Sign sign.OpenBracket) (p + 1) (Optional u) (open-bracket (here lines p) h done) refl
    before read-option lines u (Some e) (p + 1) (v.0, v.1)
    before token (kind.Sign sign.CloseBracket) (p + width e + 2) (Dims h (expr.add_dim done e'))
    (option-ends lines u (Some e) (p + 1) (here lines (p + 1 + width e)) (kind.Sign sign.CloseBracket) _ (v.0, v.1) tt refl) (omega arith)
    before read-dims lines h ds (expr.add_dim done e') (p + width e + 2) v.2
    )
    )

pub read-open-dims : (lines : ℕ → ℕ) (h : Head) (ds : DimTrees) (p : ℕ) → ValidOpenDims ds
    → RunsTo lines p (spell_dims ds) (Dims h DimTrees.NoDims) (p + width_dims ds) (Dims h (place_dims lines p ds))
read-open-dims lines h DimTrees.NoDims p v = read-dims lines h DimTrees.NoDims DimTrees.NoDims p v
read-open-dims lines h (DimTrees.Sized e ds) p v = read-dims lines h (DimTrees.Sized e ds) DimTrees.NoDims p v
read-open-dims lines h (DimTrees.Unsized ds) p v =
    counted (
    token (kind.Sign sign.OpenBracket) (p + 1) (Optional (Length h DimTrees.NoDims)) (open-bracket (here lines p) h DimTrees.NoDims) refl
    before token (kind.Sign sign.CloseBracket) (p + 2) (Dims h (DimTrees.Unsized DimTrees.NoDims)) refl (omega arith)
    before read-dims lines h ds (DimTrees.Unsized DimTrees.NoDims) (p + 2) v
    )

-- Initialisers.
abbrev pub append_inits : InitTrees → InitTrees → InitTrees
append_inits InitTrees.NoItems is = is
append_inits (InitTrees.Item x xs) is = InitTrees.Item x (append_inits xs is)

inits-add : (xs : InitTrees) (i : InitTree) → add_init xs i ≡ append_inits xs (InitTrees.Item i InitTrees.NoItems)
inits-add InitTrees.NoItems i = refl
inits-add (InitTrees.Item x xs) i = ap (InitTrees.Item x) (inits-add xs i)

inits-more : (xs : InitTrees) (i : InitTree) (is : InitTrees) → append_inits (add_init xs i) is ≡ append_inits xs (InitTrees.Item i is)
inits-more InitTrees.NoItems i is = refl
inits-more (InitTrees.Item x xs) i is = ap (InitTrees.Item x) (inits-more xs i is)

pub added : (xs : InitTrees) (i : InitTree) → has_items (add_init xs i) ≡ true
added InitTrees.NoItems i = refl
added (InitTrees.Item x xs) i = refl

abbrev pub after_init : InitDeclarator → List InitList → InitTree → State
after_init t is (InitTree.Value e) = Reading (Item t is) (state_behind e [])
after_init t is (InitTree.Braces f items comma) = AfterInit t is (InitTree.Braces f items comma)

pub init-ends : (lines : ℕ → ℕ) (t : InitDeclarator) (is : List InitList) (i : InitTree) (p : ℕ) (m : Mark) (k : TokenKind) → ValidInit i → Ends 1 k
    → shift m k (after_init t is (place_init lines p i)) ≡ initialised k t is (place_init lines p i)
init-ends lines t is (InitTree.Value e) p m k v h = expr-ends (Item t is) m k (place lines p e) (valid-place lines p e v.0) h
init-ends lines t is (InitTree.Braces f items comma) p m k v h = refl

pub init-starts : (t : InitDeclarator) (is : List InitList) (m : Mark) (k : TokenKind) → StartsExpr k → shift m k (Init t is) ≡ shift m k (Reading (Item t is) (expr.BeforeOperand []))
init-starts t is m (kind.Sign sign.OpenBrace) s = absurd s
init-starts t is m (kind.Sign x) s = optional-starts (Item t is) m (kind.Sign x) s
init-starts t is m k s = optional-starts (Item t is) m k s

pub comma-close : (m : Mark) (t : InitDeclarator) (is : List InitList) (f : ℕ) (xs : InitTrees) (i : InitTree)
    → shift m (kind.Sign sign.CloseBrace) (Init t (record { first = f; items = add_init xs i } ∷ is)) ≡ Some (AfterInit t is (InitTree.Braces f (add_init xs i) true))
comma-close m t is f xs i =
    let u = Item t (record { first = f; items = add_init xs i } ∷ is) in
    ap (λ b. optional_to m (kind.Sign sign.CloseBrace) u (cond b (Some (AfterInit t is (InitTree.Braces f (add_init xs i) true))) None)) (added xs i)

module _ (lines : ℕ → ℕ) (t : InitDeclarator) where
  mutual
    pub read-init : (i : InitTree) (is : List InitList) (p : ℕ) → ValidInit i
        → RunsTo lines p (spell_init i) (Init t is) (p + width_init i) (after_init t is (place_init lines p i))
    read-init (InitTree.Value e) is p v =
        restart (Reading (Item t is) (expr.BeforeOperand [])) StartsExpr (first-expr e v.0) (init-starts t is (here lines p)) (read-expr lines (Item t is) e p v)
    read-init (InitTree.Braces f InitTrees.NoItems comma) is p v = absurd v.0
    read-init (InitTree.Braces f (InitTrees.Item i xs) comma) is p v =
        let b : InitList = record { first = p; items = InitTrees.NoItems } in
        counted (
        token (kind.Sign sign.OpenBrace) (p + 1) (Init t (b ∷ is)) refl refl
        before respelled (sym (append_assoc (spell_init i) (spell_more_inits xs) (spell_comma comma ++ kind.Sign sign.CloseBrace ∷ []))) (
        read-init i (b ∷ is) (p + 1) v.1.0
        before read-more-inits xs comma is b (place_init lines (p + 1) i) (p + 1 + width_init i) v.1.1 (λ m k h. init-ends lines t (b ∷ is) i (p + 1) m k v.1.0 h)
        )
        )

    -- the initialisers behind one, and what closes the list
    read-more-inits : (xs : InitTrees) (comma : Bool) (is : List InitList) (b : InitList) (i : InitTree) (p : ℕ) → ValidInits xs
        → ((m : Mark) (k : TokenKind) → Ends 1 k → shift m k (after_init t (b ∷ is) i) ≡ initialised k t (b ∷ is) i)
        → RunsTo lines p (spell_more_inits xs ++ (spell_comma comma ++ kind.Sign sign.CloseBrace ∷ [])) (after_init t (b ∷ is) i)
        (p + length (spell_more_inits xs ++ (spell_comma comma ++ kind.Sign sign.CloseBrace ∷ [])))
        (AfterInit t is (InitTree.Braces b.first (append_inits b.items (InitTrees.Item i (place_inits lines (p + 1) xs))) comma))
    read-more-inits InitTrees.NoItems false is b i p v h =
        arrives (ap (λ x. AfterInit t is (InitTree.Braces b.first x false)) (inits-add b.items i)) (
        token (kind.Sign sign.CloseBrace) (p + 1) (AfterInit t is (InitTree.Braces b.first (add_init b.items i) false)) (h (here lines p) (kind.Sign sign.CloseBrace) tt) refl
        )
    read-more-inits InitTrees.NoItems true is b i p v h =
        let c : InitList = record { first = b.first; items = add_init b.items i } in
        counted (
        arrives (ap (λ x. AfterInit t is (InitTree.Braces b.first x true)) (inits-add b.items i)) (
        token (kind.Sign sign.Comma) (p + 1) (Init t (c ∷ is)) (h (here lines p) (kind.Sign sign.Comma) (omega arith)) refl
        before token (kind.Sign sign.CloseBrace) (p + 2) (AfterInit t is (InitTree.Braces b.first (add_init b.items i) true)) (comma-close (here lines (p + 1)) t is b.first b.items i) (omega arith)
        )
        )
    read-more-inits (InitTrees.Item x xs) comma is b i p v h =
        let c : InitList = record { first = b.first; items = add_init b.items i } in
        let x' = place_init lines (p + 1) x in
        let rest = place_inits lines (p + 1 + width_init x + 1) xs in
        counted (
        arrives (ap (λ y. AfterInit t is (InitTree.Braces b.first y comma)) (inits-more b.items i (InitTrees.Item x' rest))) (
        token (kind.Sign sign.Comma) (p + 1) (Init t (c ∷ is)) (h (here lines p) (kind.Sign sign.Comma) (omega arith)) refl
        before respelled (sym (append_assoc (spell_init x) (spell_more_inits xs) (spell_comma comma ++ kind.Sign sign.CloseBrace ∷ []))) (
        read-init x (c ∷ is) (p + 1) v.0
        before read-more-inits xs comma is c x' (p + 1 + width_init x) v.1 (λ m k g. init-ends lines t (c ∷ is) x (p + 1) m k v.0 g)
        )
        )
        )
