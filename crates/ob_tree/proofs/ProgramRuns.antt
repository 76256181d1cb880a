-- Runs of the machine that reads programs, in parts, and what it does with an expression or a specifier.
use Rattle.std.proofs.Common.{◌≡◌, ℕ, zero, suc, ◌+◌, ◌≤◌, List, [], ◌∷◌, ◌++◌, length, false, Option, Some, None, refl, sym, ◌∙◌, ap, subst, arith, length-append}
use Rattle.std.specs.Prelude.{nat_le}
use Rattle.std.proofs.lemmas.Bool.Decides.{nat_tests}
use Rattle.ob_tree.specs.declared.tokens.TokenKind.{TokenKind}
use Rattle.ob_tree.specs.declared.tokens.TokenKind.TheVariants as kind
use Rattle.ob_tree.specs.declared.tokens.Keyword.{Keyword}
use Rattle.ob_tree.specs.declared.tokens.Keyword.TheVariants as word
use Rattle.ob_tree.specs.declared.tokens.Sign.TheVariants as sign
use Rattle.ob_tree.specs.Trees.{Mark, ExprTree, SpecTree}
use Rattle.ob_tree.specs.Spelling.{stars, spell, spell_spec}
use Rattle.ob_tree.specs.Levels.{level_of}
use Rattle.ob_tree.specs.Valid.{Valid, ValidSpec, IsOf}
use Rattle.ob_tree.specs.Places.{here, place, place_spec, width, width_spec}
use Rattle.ob_tree.specs.ExprMachine as expr
use Rattle.ob_tree.proofs.PlaceKeeps.{valid-place}
use Rattle.ob_tree.proofs.Unreduced.{unreduced, state_behind, reduce-behind, binds-comma, le-yes}
use Rattle.ob_tree.proofs.Runs.{run-none}
use Rattle.ob_tree.proofs.FirstTokens.{FirstOf, first-operand}
use Rattle.ob_tree.proofs.Through.{through, through-spec}
use Rattle.ob_tree.specs.ProgramStates.{ExprContext, SpecContext, State, Reading, Specifying}
use Rattle.ob_tree.specs.ProgramMachine.{context_level, used, read_to, read_whole, specify_to, specified, shift, shift_if, run}

pub run-append : (lines : ℕ → ℕ) (p : ℕ) (xs ys : List TokenKind) (s : Option State)
    → run lines p (xs ++ ys) s ≡ run lines (p + length xs) ys (run lines p xs s)
run-append lines p [] ys s = let e : p + 0 ≡ p = omega arith in ap (λ q. run lines q ys s) (sym e)
run-append lines p (x ∷ xs) ys s =
    let e : p + 1 + length xs ≡ p + suc (length xs) = omega arith in
    run-append lines (p + 1) xs ys (shift_if (here lines p) x s)
    ∙ ap (λ q. run lines q ys (run lines (p + 1) xs (shift_if (here lines p) x s))) e

-- From state s at place p these tokens lead to state t at place q.
pub record RunsTo (lines : ℕ → ℕ) (p : ℕ) (tokens : List TokenKind) (s : State) (q : ℕ) (t : State) : Type 0 where
  pub runs : run lines p tokens (Some s) ≡ Some t
  pub ends : q ≡ p + length tokens

pub nothing : {lines : ℕ → ℕ} {p : ℕ} {s : State} → RunsTo lines p [] s p s
nothing = record { runs = refl; ends = omega arith }

-- one token
pub token : {lines : ℕ → ℕ} {p : ℕ} {s : State} → (k : TokenKind) (q : ℕ) (t : State)
    → shift (here lines p) k s ≡ Some t → q ≡ p + 1 → RunsTo lines p (k ∷ []) s q t
token k q t e h = record { runs = e; ends = h }

-- tokens, and those behind them
infixr 30 ◌before◌
pub ◌before◌ : {lines : ℕ → ℕ} {p q r : ℕ} {xs ys : List TokenKind} {s t u : State}
    → RunsTo lines p xs s q t → RunsTo lines q ys t r u → RunsTo lines p (xs ++ ys) s r u
◌before◌ {lines = lines} {p = p} {q = q} {r = r} {xs = xs} {ys = ys} {s = s} {t = t} {u = u} a b = record {
  runs = run-append lines p xs ys (Some s)
      ∙ ap (λ o. run lines (p + length xs) ys o) a.runs
      ∙ ap (λ z. run lines z ys (Some t)) (sym a.ends)
      ∙ b.runs;
  ends = omega (arith, a.ends, b.ends, length-append xs ys);
}

-- the end as the number of tokens gives it
pub counted : {lines : ℕ → ℕ} {p q : ℕ} {xs : List TokenKind} {s t : State} → RunsTo lines p xs s q t → RunsTo lines p xs s (p + length xs) t
counted r = record { runs = r.runs; ends = refl }

-- the same tokens, state or place, written otherwise
pub respelled : {lines : ℕ → ℕ} {p q : ℕ} {xs ys : List TokenKind} {s t : State} → xs ≡ ys → RunsTo lines p xs s q t → RunsTo lines p ys s q t
respelled {lines = lines} {p = p} {q = q} {s = s} {t = t} e r = subst (λ ks. RunsTo lines p ks s q t) e r

pub arrives : {lines : ℕ → ℕ} {p q : ℕ} {xs : List TokenKind} {s t u : State} → t ≡ u → RunsTo lines p xs s q t → RunsTo lines p xs s q u
arrives {lines = lines} {p = p} {q = q} {xs = xs} {s = s} e r = subst (λ v. RunsTo lines p xs s q v) e r

pub relocated : {lines : ℕ → ℕ} {p q r : ℕ} {xs : List TokenKind} {s t : State} → q ≡ r → RunsTo lines p xs s q t → RunsTo lines p xs s r t
relocated {lines = lines} {p = p} {xs = xs} {s = s} {t = t} e x = subst (λ z. RunsTo lines p xs s z t) e x

-- A state that does with the first token what another does leads where that one leads.
pub restart : {lines : ℕ → ℕ} {p q : ℕ} {xs : List TokenKind} {s t : State} → (other : State) (Fits : TokenKind → Type 0) → FirstOf Fits xs
    → ((k : TokenKind) → Fits k → shift (here lines p) k s ≡ shift (here lines p) k other) → RunsTo lines p xs other q t → RunsTo lines p xs s q t
restart {lines = lines} {p = p} {xs = xs} {s = s} {t = t} other Fits f same r = record { runs = agree ∙ r.runs; ends = r.ends }
  where
    agree : run lines p xs (Some s) ≡ run lines p xs (Some other)
    agree = rw f.are (ap (λ o. run lines (p + 1) f.rest o) (same f.token f.fits))

-- so many stars, where each leads from one state to the next
pub read-stars : (lines : ℕ → ℕ) (starred : ℕ → State) → ((m : Mark) (i : ℕ) → shift m (kind.Sign sign.Star) (starred i) ≡ Some (starred (i + 1)))
    → (n p i : ℕ) → RunsTo lines p (stars n) (starred i) (p + n) (starred (i + n))
read-stars lines starred goes zero p i = arrives (let e : i ≡ i + 0 = omega arith in ap starred e) (counted nothing)
read-stars lines starred goes (suc n) p i =
    relocated (let e : p + 1 + n ≡ p + suc n = omega arith in e) (
    arrives (let e : i + 1 + n ≡ i + suc n = omega arith in ap starred e) (
    token (kind.Sign sign.Star) (p + 1) (starred (i + 1)) (goes (here lines p) i) refl before read-stars lines starred goes n (p + 1) (i + 1)
    )
    )

pub all-stars : (lines : ℕ → ℕ) (starred : ℕ → State) → ((m : Mark) (i : ℕ) → shift m (kind.Sign sign.Star) (starred i) ≡ Some (starred (i + 1)))
    → (n p : ℕ) → RunsTo lines p (stars n) (starred 0) (p + n) (starred n)
all-stars lines starred goes n p = arrives (let e : 0 + n ≡ n = omega arith in ap starred e) (read-stars lines starred goes n p 0)

-- The machine that reads expressions goes on in this one.
pub expr-lift : (lines : ℕ → ℕ) (u : ExprContext) (ks : List TokenKind) (p : ℕ) (s t : expr.State)
    → expr.run lines (context_level u) p ks (Some s) ≡ Some t → run lines p ks (Some (Reading u s)) ≡ Some (Reading u t)
expr-lift lines u [] p s t e = let h : s ≡ t = cc in ap (λ x. Some (Reading u x)) h
expr-lift lines u (k ∷ ks) p s t e = go (expr.shift (context_level u) (here lines p) k s) (expr-lift lines u ks (p + 1)) e
  where
    go : (o : Option expr.State)
        → ((a b : expr.State) → expr.run lines (context_level u) (p + 1) ks (Some a) ≡ Some b → run lines (p + 1) ks (Some (Reading u a)) ≡ Some (Reading u b))
        → expr.run lines (context_level u) (p + 1) ks o ≡ Some t
        → run lines (p + 1) ks (read_to k u s o) ≡ Some (Reading u t)
    go (Some a) again h = again a t h
    go None again h = let n : None ≡ Some t = sym (run-none lines (context_level u) (p + 1) ks) ∙ h in cc

pub spec-lift : (lines : ℕ → ℕ) (u : SpecContext) (ks : List TokenKind) (p : ℕ) (s t : expr.State)
    → expr.run lines expr.no_level p ks (Some s) ≡ Some t → run lines p ks (Some (Specifying u s)) ≡ Some (Specifying u t)
spec-lift lines u [] p s t e = let h : s ≡ t = cc in ap (λ x. Some (Specifying u x)) h
spec-lift lines u (k ∷ ks) p s t e = go (expr.shift expr.no_level (here lines p) k s) (spec-lift lines u ks (p + 1)) e
  where
    go : (o : Option expr.State)
        → ((a b : expr.State) → expr.run lines expr.no_level (p + 1) ks (Some a) ≡ Some b → run lines (p + 1) ks (Some (Specifying u a)) ≡ Some (Specifying u b))
        → expr.run lines expr.no_level (p + 1) ks o ≡ Some t
        → run lines (p + 1) ks (specify_to (here lines p) k u s o) ≡ Some (Specifying u t)
    go (Some a) again h = again a t h
    go None again h = let n : None ≡ Some t = sym (run-none lines expr.no_level (p + 1) ks) ∙ h in cc

pub read-expr : (lines : ℕ → ℕ) (u : ExprContext) (e : ExprTree) (p : ℕ) → IsOf (context_level u) e
    → RunsTo lines p (spell e) (Reading u (expr.BeforeOperand [])) (p + width e) (Reading u (state_behind (place lines p e) []))
read-expr lines u e p v = record {
  runs = expr-lift lines u (spell e) p (expr.BeforeOperand []) (state_behind (place lines p e) []) (through lines (context_level u) e p [] v);
  ends = refl;
}

pub read-spec : (lines : ℕ → ℕ) (u : SpecContext) (s : SpecTree) (p : ℕ) → ValidSpec s
    → RunsTo lines p (spell_spec s) (Specifying u (expr.Specifier [])) (p + width_spec s) (Specifying u (expr.AfterSpec (place_spec lines p s) []))
read-spec lines u s p v = record {
  runs = spec-lift lines u (spell_spec s) p (expr.Specifier []) (expr.AfterSpec (place_spec lines p s) []) (through-spec lines expr.no_level s p [] v);
  ends = refl;
}

-- A token that ends an expression of the level wherever it stands.
abbrev pub Ends : (level : ℕ) → TokenKind → Type 0
Ends level (kind.Sign sign.Semi) = Unit {0}
Ends level (kind.Sign sign.CloseParen) = Unit {0}
Ends level (kind.Sign sign.CloseBracket) = Unit {0}
Ends level (kind.Sign sign.CloseBrace) = Unit {0}
Ends level (kind.Sign sign.Comma) = 1 ≤ level
Ends level k = ⊥

all-closed : (e : ExprTree) → Valid e → expr.reduce 0 (unreduced e []).0 (unreduced e []).1 ≡ (e, [])
all-closed e v = reduce-behind 0 0 e [] binds-comma (v, omega arith) (omega arith)

no-operator : (level p : ℕ) (e : ExprTree) → 1 ≤ level → expr.comma_to level p e [] ≡ None
no-operator level p e h = rw (le-yes 0 (level_of e) (omega arith), le-no level h) refl
  where
    le-no : (n : ℕ) → 1 ≤ n → nat_le n 0 ≡ false
    le-no n h = grind (arith, nat_tests)

stops : (level : ℕ) (m : Mark) (k : TokenKind) (e : ExprTree) → Valid e → Ends level k → expr.shift level m k (state_behind e []) ≡ None
stops level m (kind.Sign sign.Semi) e v h = refl
stops level m (kind.Sign sign.CloseBrace) e v h = refl
stops level m (kind.Sign sign.CloseParen) e v h = ap (λ r. expr.close_paren r.0 r.1) (all-closed e v)
stops level m (kind.Sign sign.CloseBracket) e v h = ap (λ r. expr.close_bracket r.0 r.1) (all-closed e v)
stops level m (kind.Sign sign.Comma) e v h = ap (λ r. expr.comma_to level m.first r.0 r.1) (all-closed e v) ∙ no-operator level m.first e h
stops level m _ e v h = absurd h

-- behind a whole expression
pub expr-ends : (u : ExprContext) (m : Mark) (k : TokenKind) (e : ExprTree) → Valid e → Ends (context_level u) k
    → shift m k (Reading u (state_behind e [])) ≡ used k u (Some e)
expr-ends u m k e v h =
    ap (λ o. read_to k u (state_behind e []) o) (stops (context_level u) m k e v h)
    ∙ ap (λ r. read_whole k u (expr.whole_of r)) (all-closed e v)

-- an expression and a token that ends it
pub expr-close : {lines : ℕ → ℕ} (u : ExprContext) (e : ExprTree) (p q : ℕ) (k : TokenKind) (t : State)
    → IsOf (context_level u) e → Ends (context_level u) k → used k u (Some (place lines p e)) ≡ Some t → q ≡ p + width e + 1
    → RunsTo lines p (spell e ++ k ∷ []) (Reading u (expr.BeforeOperand [])) q t
expr-close {lines = lines} u e p q k t v h g n =
    read-expr lines u e p v
    before token k q t (expr-ends u (here lines (p + width e)) k (place lines p e) (valid-place lines p e v.0) h ∙ g) n

-- A token that no specifier goes on with.
abbrev pub EndsSpec : TokenKind → Type 0
EndsSpec (kind.Word w) = ⊥
EndsSpec (kind.Sign sign.OpenBrace) = ⊥
EndsSpec k = Unit {0}

pub spec-ends : (u : SpecContext) (m : Mark) (k : TokenKind) (s : SpecTree) → EndsSpec k
    → shift m k (Specifying u (expr.AfterSpec s [])) ≡ specified m k u (Some s)
spec-ends u m (kind.Word w) s h = absurd h
spec-ends u m (kind.Sign sign.OpenBrace) s h = absurd h
spec-ends u m (kind.Sign x) s h = refl
spec-ends u m k s h = refl

-- A token that an expression can begin with.
abbrev StartWord : Keyword → Type 0
StartWord word.Null = Unit {0}
StartWord word.Eof = Unit {0}
StartWord word.Sizeof = Unit {0}
StartWord w = ⊥

abbrev pub StartsExpr : TokenKind → Type 0
StartsExpr (kind.Word w) = StartWord w
StartsExpr (kind.Sign sign.Semi) = ⊥
StartsExpr (kind.Sign sign.CloseParen) = ⊥
StartsExpr (kind.Sign sign.CloseBracket) = ⊥
StartsExpr (kind.Sign sign.OpenBrace) = ⊥
StartsExpr (kind.Sign sign.CloseBrace) = ⊥
StartsExpr k = Unit {0}

start-word : (m : Mark) (w : Keyword) → (expr.operand_word m w [] ≡ None → ⊥) → StartWord w
start-word m word.Null h = tt
start-word m word.Eof h = tt
start-word m word.Sizeof h = tt
start-word m w h = h refl

starts : (m : Mark) (k : TokenKind) → (expr.operand m k [] ≡ None → ⊥) → StartsExpr k
starts m (kind.Word w) h = start-word m w h
starts m (kind.Sign sign.Semi) h = h refl
starts m (kind.Sign sign.CloseParen) h = h refl
starts m (kind.Sign sign.CloseBracket) h = h refl
starts m (kind.Sign sign.OpenBrace) h = h refl
starts m (kind.Sign sign.CloseBrace) h = h refl
starts m (kind.Sign s) h = tt
starts m k h = tt

pub first-expr : (e : ExprTree) → Valid e → FirstOf StartsExpr (spell e)
first-expr e v =
    let lines = λ (p : ℕ). p in
    let f = first-operand e v in
    let r : expr.run lines 0 0 (spell e) (Some (expr.BeforeOperand [])) ≡ Some (state_behind (place lines 0 e) []) = through lines 0 e 0 [] (v, omega arith) in
    let s : expr.run lines 0 1 f.rest (expr.operand (here lines 0) f.token []) ≡ Some (state_behind (place lines 0 e) []) =
    subst (λ ks. expr.run lines 0 0 ks (Some (expr.BeforeOperand [])) ≡ Some (state_behind (place lines 0 e) [])) f.are r in
    record {
      token = f.token;
      rest = f.rest;
      are = f.are;
      fits = starts (here lines 0) f.token (λ h. (let n : None ≡ Some (state_behind (place lines 0 e) []) = sym (run-none lines 0 1 f.rest) ∙ ap (λ o. expr.run lines 0 1 f.rest o) (sym h) ∙ s in cc));
    }
