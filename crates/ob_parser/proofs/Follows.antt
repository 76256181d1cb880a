-- What a token leads to, and what an expression or a specifier leads to that begins with it.
use Rattle.std.proofs.Common.{◌≡◌, ℕ, zero, suc, ◌+◌, ◌-◌, ◌<◌, ◌≤◌, ◌⊎◌, inl, inr, min, List, [], ◌∷◌, length, drop, map, slice_get, Bool, true, false, Option, Some, None, cond, refl, sym, ◌∙◌, ap, subst, arith}
use Rattle.std.specs.Prelude.{nat_le}
use Rattle.std.specs.List.{All}
use Rattle.std.proofs.lemmas.Bool.{leb-true, cases_lt}
use Rattle.std.proofs.lemmas.Bool.Decides.{nat_tests}
use Rattle.std.proofs.lemmas.List.{drop-map}
use Rattle.ob_tree.specs.declared.tokens.Token.{Token}
use Rattle.ob_tree.specs.declared.tokens.TokenKind.{TokenKind}
use Rattle.ob_tree.specs.declared.tokens.TokenKind.TheVariants as kind
use Rattle.ob_tree.specs.declared.tokens.Keyword.{Keyword}
use Rattle.ob_tree.specs.declared.tokens.Keyword.TheVariants as word
use Rattle.ob_tree.specs.declared.tokens.Sign.{Sign}
use Rattle.ob_tree.specs.declared.tokens.Sign.TheVariants as sign
use Rattle.ob_tree.specs.Trees.{Mark, ExprTree, SpecTree}
use Rattle.ob_tree.specs.Programs.{ProgramTree}
use Rattle.ob_tree.specs.Valid.{IsOfSource}
use Rattle.ob_tree.specs.Levels.{is_unary}
use Rattle.ob_tree.specs.Paths.{height, height_spec}
use Rattle.ob_tree.specs.Places.{here}
use Rattle.ob_tree.specs.Fronts.{lines, FrontExpr, DeepFrontExpr, FrontSpec, DeepFrontSpec}
use Rattle.ob_tree.specs.Verdicts.{Verdict, Whole, NoTree, TooDeep}
use Rattle.ob_tree.specs.ExprMachine as reader
use Rattle.ob_tree.specs.Readings.{Deep, turn, read, found, verdict}
use Rattle.ob_tree.specs.ProgramStates.{SpecContext, ForDeclaration, ForParam, ExprContext, State, Specifying, Reading}
use Rattle.ob_tree.specs.ProgramMachine as program
use Rattle.ob_tree.specs.ProgramMachine.{context_level, used, specified, shift, finish}
use Rattle.ob_exprs.specs.DeepestPaths as loads
use Rattle.ob_exprs.specs.Parsed.{IsExprVerdict, IsSpecVerdict}
use Rattle.ob_exprs.specs.ReadTokens as exprs
use Rattle.ob_parser.specs.Answer.{Answer, IsAnswer, IsProgramVerdict}
use Rattle.ob_parser.specs.DeepestPaths.{spec_depth, spec_path, context_depth, context_path, deepest_path}
use Rattle.ob_declarations.specs.Statements.{begins_type}
use Rattle.ob_parser.specs.ReadTokens.{reading, Kept, Reached, Behind, After, AwaitsExpr, AwaitsSpec}
use Rattle.ob_parser.proofs.SoundContexts.{use-low}
use Rattle.ob_parser.proofs.OneAnswer.{stopped, no-tree, too-deep}
use Rattle.ob_parser.proofs.Light.{Light, IsBetween, shift-light, used-light, specified-light, use-deep}
use Rattle.ob_parser.proofs.Lifts.{turned, behind_expr, behind_spec, after_expr, after_spec, expr-answer, spec-answer}
use Rattle.ob_parser.proofs.NewestPath.{newest_path-path}
use Rattle.ob_parser.proofs.Verdicts.{stop-from, one-expr, one-spec, expr-verdict, spec-verdict}

le-true : (a b : ℕ) → a ≤ b → nat_le a b ≡ true
le-true a b h = grind (arith, nat_tests)

le-false : (a b : ℕ) → b < a → nat_le a b ≡ false
le-false a b h = grind (arith, nat_tests)

false-le : (a b : ℕ) → nat_le a b ≡ false → b < a
false-le a b h = grind (arith, nat_tests)

-- the token at a place
pub record TokenAt (ts : List Token) (i : ℕ) (t : Token) : Type 0 where
  pub below : i < length ts
  pub rest : drop i ts ≡ t ∷ drop (i + 1) ts
  pub line : lines ts i ≡ t.span.line

pub token-at : (ts : List Token) (i : ℕ) (t : Token) → slice_get ts i ≡ Some t → TokenAt ts i t
token-at [] i t e = absurd cc
token-at (x ∷ xs) zero t e =
    let h : x ≡ t = cc in
    record { below = omega arith; rest = ap (λ y. y ∷ xs) h; line = ap (λ y. y.span.line) h }
token-at (x ∷ xs) (suc i) t e =
    let r = token-at xs i t e in
    let n : suc (i + 1) ≡ suc i + 1 = omega arith in
    record { below = omega (arith, r.below); rest = r.rest ∙ ap (λ k. t ∷ drop k (x ∷ xs)) n; line = r.line }

none-at : (ts : List Token) (i : ℕ) → slice_get ts i ≡ None → drop i ts ≡ []
none-at [] zero e = refl
none-at [] (suc i) e = refl
none-at (x ∷ xs) zero e = absurd cc
none-at (x ∷ xs) (suc i) e = none-at xs i e

drop-more : {A : Type 0} (xs : List A) (m n : ℕ) → drop m (drop n xs) ≡ drop (n + m) xs
drop-more xs m zero = let e : zero + m ≡ m = omega arith in ap (λ k. drop k xs) (sym e)
drop-more [] zero (suc n) = let e : suc n + zero ≡ suc (n + zero) = omega arith in ap (λ k. drop k []) (sym e)
drop-more [] (suc m) (suc n) = let e : suc n + suc m ≡ suc (n + suc m) = omega arith in ap (λ k. drop k []) (sym e)
drop-more (y ∷ ys) m (suc n) = let e : suc n + m ≡ suc (n + m) = omega arith in drop-more ys m n ∙ ap (λ k. drop k (y ∷ ys)) (sym e)

-- an expression or a specifier that has begun has a node
abbrev HasNode : Option reader.State → Type 0
HasNode None = Unit {0}
HasNode (Some q) = 1 ≤ loads.deepest_path q

cond-node : (b : Bool) (q : reader.State) → 1 ≤ loads.deepest_path q → HasNode (cond b (Some q) None)
cond-node true q h = h
cond-node false q h = tt

sign-node : (m : Mark) (s : Sign) → HasNode (reader.operand_sign m s [])
sign-node m sign.OpenParen = omega arith
sign-node m sign.PlusPlus = omega arith
sign-node m sign.MinusMinus = omega arith
sign-node m s = cond-node (is_unary s) (reader.BeforeOperand (reader.InUnary m s ∷ [])) (omega arith)

word-node : (m : Mark) (w : Keyword) → HasNode (reader.operand_word m w [])
word-node m word.Null = omega arith
word-node m word.Eof = omega arith
word-node m word.Sizeof = omega arith
word-node m w = tt

expr-node : (m : Mark) (k : TokenKind) → HasNode (reader.operand m k [])
expr-node m (kind.Name name) = omega arith
expr-node m (kind.Number value ty) = omega arith
expr-node m (kind.Str s) = omega arith
expr-node m (kind.Word w) = word-node m w
expr-node m (kind.Sign s) = sign-node m s

-- where a specifier goes on
abbrev Agrees : Bool → Option reader.State → Type 0
Agrees true (Some q) = Unit {0}
Agrees false None = Unit {0}
Agrees b o = ⊥

word-agrees : (p : ℕ) (w : Keyword) → Agrees (reader.is_spec_word w) (reader.spec_word p w [])
word-agrees p word.Void = tt
word-agrees p w = tt

spec-agrees : (p : ℕ) (k : TokenKind) → Agrees (begins_type k) (reader.specifier p k [])
spec-agrees p (kind.Word w) = word-agrees p w
spec-agrees p k = tt

no-specified : (m : Mark) (k : TokenKind) (u : SpecContext) → specified m k u None ≡ None
no-specified m k (ForDeclaration h) = refl
no-specified m k (ForParam l f n) = refl

-- the verdict on the expression that begins at i, and on the specifier, where so many nodes stand above it
abbrev of_expr : List Token → ExprContext → (depth i : ℕ) → Verdict ExprTree
of_expr ts u depth i = verdict reader.finish (exprs.reading ts (context_level u) depth i (reader.BeforeOperand []))

abbrev of_spec : List Token → (depth i : ℕ) → Verdict SpecTree
of_spec ts depth i = verdict reader.finish_spec (exprs.reading ts 17 depth i (reader.Specifier []))

-- what it is where no more nodes may stand below
abbrev at_limit : {T : Type 0} → ℕ → Option reader.State → Verdict T
at_limit i None = NoTree i
at_limit i (Some q) = TooDeep i

module _ (ts : List Token) (all : All (λ t. IsOfSource t.kind) ts) where
  kinds-at : (i : ℕ) (t : Token) → TokenAt ts i t → map (λ t. t.kind) (drop i ts) ≡ t.kind ∷ map (λ t. t.kind) (drop (i + 1) ts)
  kinds-at i t a = ap (map (λ (t : Token). t.kind)) a.rest

  kinds-from : (i j : ℕ) → i ≤ j → drop (j - i) (map (λ t. t.kind) (drop i ts)) ≡ map (λ t. t.kind) (drop j ts)
  kinds-from i j h =
      let n : i + (j - i) ≡ j = omega arith in
      drop-map (λ (t : Token). t.kind) (j - i) (drop i ts) ∙ ap (map (λ (t : Token). t.kind)) (drop-more ts (j - i) i ∙ ap (λ k. drop k ts) n)

  found-none : (i : ℕ) (o : Option ProgramTree) → i < length ts → IsProgramVerdict ts (found i o) → IsAnswer ts (Answer.NoTree i)
  found-none i None b v = no-tree ts all i v
  found-none i (Some p) b v = stopped ts all i p b v

  -- a state that a token leads to
  reached : (i : ℕ) (s : State) → Light 256 (Some s) → IsProgramVerdict ts (verdict finish (cond (nat_le (0 + deepest_path s) 256) (reading ts (i + 1) s) (Deep i))) → Reached ts i s
  reached i s l v = record {
    goes_on = λ n. (
        let m : deepest_path s ≤ 256 = l n in
        record { right = subst (λ b. IsProgramVerdict ts (verdict finish (cond b (reading ts (i + 1) s) (Deep i)))) (le-true (0 + deepest_path s) 256 (omega arith)) v; limit = m }
        );
    too_deep = λ n. too-deep ts all i (subst (λ b. IsProgramVerdict ts (verdict finish (cond b (reading ts (i + 1) s) (Deep i)))) (le-false (0 + deepest_path s) 256 (omega (arith, newest_path-path s))) v);
  }

  behind : (i : ℕ) (o : Option State) → Light 256 o → IsProgramVerdict ts (turned (lines ts) i (map (λ t. t.kind) (drop (i + 1) ts)) o) → Behind ts i o
  behind i None l v = no-tree ts all i v
  behind i (Some s) l v = reached i s l v

  -- the token at i, where reading goes on with this
  module _ (i : ℕ) (t : Token) (a : TokenAt ts i t) (s : State) (b : IsBetween s) (k : Kept ts i s) where
    whole_verdict : IsProgramVerdict ts (verdict finish (turn deepest_path 0 i s (λ x. reading ts (i + 1) x) (shift (here (lines ts) i) t.kind s)))
    whole_verdict = subst (λ ks. IsProgramVerdict ts (verdict finish (read (λ q k x. shift (here (lines ts) q) k x) deepest_path 0 i ks s))) (kinds-at i t a) k.right

    light : Light 256 (shift (here (lines ts) i) t.kind s)
    light = shift-light 256 (here (lines ts) i) t.kind s b k.limit

    pub shifted : Behind ts i (shift (here (lines ts) i) t.kind s)
    shifted = go (shift (here (lines ts) i) t.kind s) light whole_verdict
      where
        go : (o : Option State) → Light 256 o → IsProgramVerdict ts (verdict finish (turn deepest_path 0 i s (λ x. reading ts (i + 1) x) o)) → Behind ts i o
        go None l v = found-none i (finish s) a.below v
        go (Some x) l v = reached i x l v

    -- an expression that begins with it
    first-expr : (u : ExprContext) (depth : ℕ)
        → of_expr ts u depth i ≡ verdict reader.finish (turn loads.deepest_path depth i (reader.BeforeOperand []) (λ q. exprs.reading ts (context_level u) depth (i + 1) q) (reader.shift (context_level u) (here (lines ts) i) t.kind (reader.BeforeOperand [])))
    first-expr u depth = ap (λ ks. verdict reader.finish (read (λ q k x. reader.shift (context_level u) (here (lines ts) q) k x) loads.deepest_path depth i ks (reader.BeforeOperand []))) (kinds-at i t a)

    deep-expr : (u : ExprContext) (depth : ℕ) → 256 ≤ depth → of_expr ts u depth i ≡ at_limit i (reader.shift (context_level u) (here (lines ts) i) t.kind (reader.BeforeOperand []))
    deep-expr u depth d = first-expr u depth ∙ go (reader.shift (context_level u) (here (lines ts) i) t.kind (reader.BeforeOperand [])) (expr-node (here (lines ts) i) t.kind)
      where
        go : (o : Option reader.State) → HasNode o → verdict reader.finish (turn loads.deepest_path depth i (reader.BeforeOperand []) (λ q. exprs.reading ts (context_level u) depth (i + 1) q) o) ≡ at_limit i o
        go None h = refl
        go (Some q) h = ap (λ c. verdict reader.finish (cond c (exprs.reading ts (context_level u) depth (i + 1) q) (Deep i))) (le-false (depth + loads.deepest_path q) 256 (omega arith))

    same-expr : (u : ExprContext) → of_expr ts u (min (context_depth u) 256) i ≡ of_expr ts u (context_depth u) i
    same-expr u = go (cases_lt 256 (context_depth u))
      where
        go : (256 < context_depth u) ⊎ (context_depth u ≤ 256) → of_expr ts u (min (context_depth u) 256) i ≡ of_expr ts u (context_depth u) i
        go (inl h) =
            let e : min (context_depth u) 256 ≡ 256 = omega arith in
            ap (λ d. of_expr ts u d i) e ∙ deep-expr u 256 (omega arith) ∙ sym (deep-expr u (context_depth u) (omega arith))
        go (inr h) = let e : min (context_depth u) 256 ≡ context_depth u = omega arith in ap (λ d. of_expr ts u d i) e

    ends-expr : (u : ExprContext) (v : Verdict ExprTree) → IsExprVerdict ts i (min (context_depth u) 256) (context_level u) v → context_path u ≤ 256
        → IsProgramVerdict ts (after_expr (lines ts) u i (map (λ t. t.kind) (drop i ts)) v) → After ts i (λ j e k. used k u (Some e)) v
    ends-expr u (NoTree j) x l v = no-tree ts all j v
    ends-expr u (TooDeep j) x l v = too-deep ts all j v
    ends-expr u (Whole e j) x l v =
        let depth = min (context_depth u) 256 in
        let f = stop-from (FrontExpr ts i depth (context_level u)) (DeepFrontExpr ts i (context_level u)) i (length ts) j (omega (arith, a.below)) x.0 in
        let high : context_depth u + height e ≤ 256 = omega (arith, x.1.limit, use-deep u) in
        record {
          from_on = f.0;
          token = λ z g. behind j (used z.kind u (Some e)) (used-light 256 z.kind u (Some e) l high)
              (subst (λ ks. IsProgramVerdict ts (behind_expr (lines ts) u e j ks)) (kinds-from i j f.0 ∙ kinds-at j z (token-at ts j z g)) v);
          nothing = λ g. no-tree ts all j (subst (λ ks. IsProgramVerdict ts (behind_expr (lines ts) u e j ks)) (kinds-from i j f.0 ∙ ap (map (λ (t : Token). t.kind)) (none-at ts j g)) v);
        }

    after-expr : (u : ExprContext) → shift (here (lines ts) i) t.kind s ≡ program.read (here (lines ts) i) t.kind u (reader.BeforeOperand [])
        → (v : Verdict ExprTree) → IsExprVerdict ts i (min (context_depth u) 256) (context_level u) v → v ≡ of_expr ts u (context_depth u) i → After ts i (λ j e k. used k u (Some e)) v
    after-expr u e v x y =
        go (reader.shift (context_level u) (here (lines ts) i) t.kind (reader.BeforeOperand [])) refl
        (subst (λ o. IsProgramVerdict ts (verdict finish (turn deepest_path 0 i s (λ x. reading ts (i + 1) x) o))) e whole_verdict)
        (subst (Light 256) e light)
      where
        leads : (o : Option reader.State) → reader.shift (context_level u) (here (lines ts) i) t.kind (reader.BeforeOperand []) ≡ o
            → v ≡ verdict reader.finish (turn loads.deepest_path (context_depth u) i (reader.BeforeOperand []) (λ q. exprs.reading ts (context_level u) (context_depth u) (i + 1) q) o)
        leads o g = y ∙ first-expr u (context_depth u) ∙ ap (λ o. verdict reader.finish (turn loads.deepest_path (context_depth u) i (reader.BeforeOperand []) (λ q. exprs.reading ts (context_level u) (context_depth u) (i + 1) q) o)) g

        go : (o : Option reader.State) → reader.shift (context_level u) (here (lines ts) i) t.kind (reader.BeforeOperand []) ≡ o
            → IsProgramVerdict ts (verdict finish (turn deepest_path 0 i s (λ x. reading ts (i + 1) x) (program.read_to t.kind u (reader.BeforeOperand []) o)))
            → Light 256 (program.read_to t.kind u (reader.BeforeOperand []) o) → After ts i (λ j e k. used k u (Some e)) v
        go None g p l = subst (After ts i (λ j e k. used k u (Some e))) (sym (leads None g)) (found-none i (finish s) a.below p)
        go (Some q) g p l = test (nat_le (context_depth u + loads.deepest_path q) 256) refl
          where
            test : (c : Bool) → nat_le (context_depth u + loads.deepest_path q) 256 ≡ c → After ts i (λ j e k. used k u (Some e)) v
            test true h =
                let w : context_depth u + loads.deepest_path q ≤ 256 = leb-true _ _ h in
                let m : context_path u ≤ 256 = omega (arith, l w) in
                let z : verdict finish (reading ts i (Reading u (reader.BeforeOperand []))) ≡ verdict finish (cond (nat_le (0 + deepest_path (Reading u q)) 256) (reading ts (i + 1) (Reading u q)) (Deep i)) =
                ap (λ ks. verdict finish (read (λ q k x. shift (here (lines ts) q) k x) deepest_path 0 i ks (Reading u (reader.BeforeOperand [])))) (kinds-at i t a)
                ∙ ap (λ o. verdict finish (turn deepest_path 0 i (Reading u (reader.BeforeOperand [])) (λ x. reading ts (i + 1) x) (program.read_to t.kind u (reader.BeforeOperand []) o))) g in
                ends-expr u v x m
                (subst (IsProgramVerdict ts) (sym z ∙ expr-answer (lines ts) u (map (λ t. t.kind) (drop i ts)) i (reader.BeforeOperand []) m ∙ ap (after_expr (lines ts) u i (map (λ t. t.kind) (drop i ts))) (sym y)) p)
            test false h =
                let d : 256 < 0 + deepest_path (Reading u q) = omega (arith, false-le _ _ h) in
                subst (After ts i (λ j e k. used k u (Some e)))
                (sym (leads (Some q) g ∙ ap (λ c. verdict reader.finish (cond c (exprs.reading ts (context_level u) (context_depth u) (i + 1) q) (Deep i))) h))
                (too-deep ts all i (subst (λ c. IsProgramVerdict ts (verdict finish (cond c (reading ts (i + 1) (Reading u q)) (Deep i)))) (le-false (0 + deepest_path (Reading u q)) 256 d) p))

    pub awaits-expr : (u : ExprContext) → shift (here (lines ts) i) t.kind s ≡ program.read (here (lines ts) i) t.kind u (reader.BeforeOperand []) → AwaitsExpr ts i u
    awaits-expr u e v x =
        let depth = min (context_depth u) 256 in
        let y : v ≡ of_expr ts u depth i = one-expr ts i depth (context_level u) v (of_expr ts u depth i) x (expr-verdict ts i depth all (omega (arith, a.below)) (omega arith) (context_level u) (use-low u)) in
        after-expr u e v x (y ∙ same-expr u)

    -- a specifier that begins with it
    first-spec : (depth : ℕ)
        → of_spec ts depth i ≡ verdict reader.finish_spec (turn loads.deepest_path depth i (reader.Specifier []) (λ q. exprs.reading ts 17 depth (i + 1) q) (reader.shift 17 (here (lines ts) i) t.kind (reader.Specifier [])))
    first-spec depth = ap (λ ks. verdict reader.finish_spec (read (λ q k x. reader.shift 17 (here (lines ts) q) k x) loads.deepest_path depth i ks (reader.Specifier []))) (kinds-at i t a)

    ends-spec : (u : SpecContext) (v : Verdict SpecTree) → IsSpecVerdict ts i (spec_depth u) v → spec_path u ≤ 256
        → IsProgramVerdict ts (after_spec (lines ts) u i (map (λ t. t.kind) (drop i ts)) v) → After ts i (λ j e k. specified (here (lines ts) j) k u (Some e)) v
    ends-spec u (NoTree j) x l v = no-tree ts all j v
    ends-spec u (TooDeep j) x l v = too-deep ts all j v
    ends-spec u (Whole e j) x l v =
        let f = stop-from (FrontSpec ts i (spec_depth u)) (DeepFrontSpec ts i) i (length ts) j (omega (arith, a.below)) x.0 in
        let high : spec_depth u + height_spec e ≤ 256 = omega (arith, x.1.limit) in
        record {
          from_on = f.0;
          token = λ z g. behind j (specified (here (lines ts) j) z.kind u (Some e)) (specified-light 256 (here (lines ts) j) z.kind u e l high)
              (subst (λ ks. IsProgramVerdict ts (behind_spec (lines ts) u e j ks)) (kinds-from i j f.0 ∙ kinds-at j z (token-at ts j z g)) v);
          nothing = λ g. no-tree ts all j (subst (λ ks. IsProgramVerdict ts (behind_spec (lines ts) u e j ks)) (kinds-from i j f.0 ∙ ap (map (λ (t : Token). t.kind)) (none-at ts j g)) v);
        }

    after-spec : (u : SpecContext) → shift (here (lines ts) i) t.kind s ≡ program.specify (here (lines ts) i) t.kind u (reader.Specifier [])
        → (v : Verdict SpecTree) → IsSpecVerdict ts i (spec_depth u) v → v ≡ of_spec ts (spec_depth u) i → After ts i (λ j e k. specified (here (lines ts) j) k u (Some e)) v
    after-spec u e v x y =
        go (reader.shift 17 (here (lines ts) i) t.kind (reader.Specifier [])) refl
        (subst (λ o. IsProgramVerdict ts (verdict finish (turn deepest_path 0 i s (λ x. reading ts (i + 1) x) o))) e whole_verdict)
        (subst (Light 256) e light)
      where
        leads : (o : Option reader.State) → reader.shift 17 (here (lines ts) i) t.kind (reader.Specifier []) ≡ o
            → v ≡ verdict reader.finish_spec (turn loads.deepest_path (spec_depth u) i (reader.Specifier []) (λ q. exprs.reading ts 17 (spec_depth u) (i + 1) q) o)
        leads o g = y ∙ first-spec (spec_depth u) ∙ ap (λ o. verdict reader.finish_spec (turn loads.deepest_path (spec_depth u) i (reader.Specifier []) (λ q. exprs.reading ts 17 (spec_depth u) (i + 1) q) o)) g

        go : (o : Option reader.State) → reader.shift 17 (here (lines ts) i) t.kind (reader.Specifier []) ≡ o
            → IsProgramVerdict ts (verdict finish (turn deepest_path 0 i s (λ x. reading ts (i + 1) x) (program.specify_to (here (lines ts) i) t.kind u (reader.Specifier []) o)))
            → Light 256 (program.specify_to (here (lines ts) i) t.kind u (reader.Specifier []) o) → After ts i (λ j e k. specified (here (lines ts) j) k u (Some e)) v
        go None g p l = subst (After ts i (λ j e k. specified (here (lines ts) j) k u (Some e))) (sym (leads None g))
            (found-none i (finish s) a.below (subst (λ o. IsProgramVerdict ts (verdict finish (turn deepest_path 0 i s (λ x. reading ts (i + 1) x) o))) (no-specified (here (lines ts) i) t.kind u) p))
        go (Some q) g p l = test (nat_le (spec_depth u + loads.deepest_path q) 256) refl
          where
            test : (c : Bool) → nat_le (spec_depth u + loads.deepest_path q) 256 ≡ c → After ts i (λ j e k. specified (here (lines ts) j) k u (Some e)) v
            test true h =
                let w : spec_depth u + loads.deepest_path q ≤ 256 = leb-true _ _ h in
                let m : spec_path u ≤ 256 = omega (arith, l w) in
                let z : verdict finish (reading ts i (Specifying u (reader.Specifier []))) ≡ verdict finish (cond (nat_le (0 + deepest_path (Specifying u q)) 256) (reading ts (i + 1) (Specifying u q)) (Deep i)) =
                ap (λ ks. verdict finish (read (λ q k x. shift (here (lines ts) q) k x) deepest_path 0 i ks (Specifying u (reader.Specifier [])))) (kinds-at i t a)
                ∙ ap (λ o. verdict finish (turn deepest_path 0 i (Specifying u (reader.Specifier [])) (λ x. reading ts (i + 1) x) (program.specify_to (here (lines ts) i) t.kind u (reader.Specifier []) o))) g in
                ends-spec u v x m
                (subst (IsProgramVerdict ts) (sym z ∙ spec-answer (lines ts) u (map (λ t. t.kind) (drop i ts)) i (reader.Specifier []) m ∙ ap (after_spec (lines ts) u i (map (λ t. t.kind) (drop i ts))) (sym y)) p)
            test false h =
                let d : 256 < 0 + deepest_path (Specifying u q) = omega (arith, false-le _ _ h) in
                subst (After ts i (λ j e k. specified (here (lines ts) j) k u (Some e)))
                (sym (leads (Some q) g ∙ ap (λ c. verdict reader.finish_spec (cond c (exprs.reading ts 17 (spec_depth u) (i + 1) q) (Deep i))) h))
                (too-deep ts all i (subst (λ c. IsProgramVerdict ts (verdict finish (cond c (reading ts (i + 1) (Specifying u q)) (Deep i)))) (le-false (0 + deepest_path (Specifying u q)) 256 d) p))

    deep-answer : (u : SpecContext) (o : Option reader.State) (c : Bool) → Agrees c o → 256 < spec_depth u
        → IsProgramVerdict ts (verdict finish (turn deepest_path 0 i s (λ x. reading ts (i + 1) x) (program.specify_to (here (lines ts) i) t.kind u (reader.Specifier []) o)))
        → IsAnswer ts (cond c (Answer.TooDeep i) (Answer.NoTree i))
    deep-answer u (Some q) true g h p =
        let d : 256 < 0 + deepest_path (Specifying u q) = omega arith in
        too-deep ts all i (subst (λ c. IsProgramVerdict ts (verdict finish (cond c (reading ts (i + 1) (Specifying u q)) (Deep i)))) (le-false (0 + deepest_path (Specifying u q)) 256 d) p)
    deep-answer u None false g h p =
        found-none i (finish s) a.below (subst (λ o. IsProgramVerdict ts (verdict finish (turn deepest_path 0 i s (λ x. reading ts (i + 1) x) o))) (no-specified (here (lines ts) i) t.kind u) p)
    deep-answer u (Some q) false g h p = absurd g
    deep-answer u None true g h p = absurd g

    same-token : (x : Token) → slice_get ts i ≡ Some x → slice_get ts i ≡ Some t → t ≡ x
    same-token x g h = let e : Some t ≡ Some x = sym h ∙ g in cc

    pub awaits-spec : (u : SpecContext) → slice_get ts i ≡ Some t → shift (here (lines ts) i) t.kind s ≡ program.specify (here (lines ts) i) t.kind u (reader.Specifier []) → AwaitsSpec ts i u
    awaits-spec u g e = record {
      shallow = λ h v x.
          after-spec u e v x (one-spec ts i (spec_depth u) v (of_spec ts (spec_depth u) i) x (spec-verdict ts i (spec_depth u) all (omega (arith, a.below)) h));
      deep = λ h x n.
          subst (λ (z : Token). IsAnswer ts (cond (begins_type z.kind) (Answer.TooDeep i) (Answer.NoTree i))) (same-token x n g)
          (deep-answer u (reader.shift 17 (here (lines ts) i) t.kind (reader.Specifier [])) (begins_type t.kind) (spec-agrees i t.kind) h
          (subst (λ o. IsProgramVerdict ts (verdict finish (turn deepest_path 0 i s (λ x. reading ts (i + 1) x) o))) e whole_verdict));
    }
