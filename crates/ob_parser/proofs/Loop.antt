-- The loop that reads a program token by token.
use Rattle.std.proofs.Common.{◌≡◌, ℕ, ◌<◌, ◌≤◌, min, List, [], length, map, get_or, slice_get, Bool, true, false, cond, Option, Some, None, option_map, refl, sym, ◌∙◌, ap, subst, arith}
use Rattle.std.specs.Prelude.{Ok, Err}
use Rattle.std.specs.List.{All}
use Rattle.std.proofs.lemmas.Option.{slice_get_read}
use Rattle.std.proofs.Math.Seq.{drop-length}
use Rattle.ob_tree.specs.declared.faults.SyntaxFault.{SyntaxFault}
use Rattle.ob_tree.specs.declared.faults.SyntaxFault.TheVariants as fault
use Rattle.ob_tree.specs.declared.expressions.Expr.{Expr}
use Rattle.ob_tree.specs.declared.expressions.Spec.{Spec}
use Rattle.ob_tree.specs.declared.programs.Item.{Item}
use Rattle.ob_tree.specs.declared.programs.Program.{Program}
use Rattle.ob_tree.specs.declared.tokens.Token.{Token}
use Rattle.ob_tree.specs.declared.tokens.TokenKind.{TokenKind}
use Rattle.ob_tree.specs.Trees.{Mark, ExprTree, SpecTree}
use Rattle.ob_tree.specs.Programs.{ProgramTree}
use Rattle.ob_tree.specs.ExpressionView.{expr_tree, spec_tree}
use Rattle.ob_tree.specs.ProgramView.{item_tree, program_tree}
use Rattle.ob_tree.specs.Valid.{IsOfSource}
use Rattle.ob_tree.specs.Places.{here}
use Rattle.ob_tree.specs.Fronts.{lines}
use Rattle.ob_tree.specs.Verdicts.{Verdict, Whole, NoTree, TooDeep}
use Rattle.ob_tree.specs.Readings.{read, found, verdict}
use Rattle.ob_tree.specs.ProgramStates as plain
use Rattle.ob_tree.specs.ProgramStates.{SpecContext, ExprContext}
use Rattle.ob_tree.specs.ProgramMachine.{context_level, used, specified, shift, finish}
use Rattle.ob_exprs.specs.Parsed.{IsExprVerdict, ParsedExpr, IsSpecVerdict, ParsedSpec}
use Rattle.ob_declarations.specs.declared.state.State.{State}
use Rattle.ob_declarations.specs.declared.state.State.TheVariants as state
use Rattle.ob_declarations.specs.declared.state.Shift.{Shift}
use Rattle.ob_declarations.specs.declared.state.Shift.TheVariants as shifted_to
use Rattle.ob_declarations.specs.declared.state.ExprContext.{ExprContext as CodeContext}
use Rattle.ob_declarations.specs.declared.state.SpecContext.{SpecContext as CodeSpecUse}
use Rattle.ob_parser.specs.Answer.{Answer, IsAnswer, IsProgramVerdict, ParsedProgram}
use Rattle.ob_parser.specs.DeepestPaths.{spec_depth, context_depth, deepest_path}
use Rattle.ob_declarations.specs.Shifts.{Leads, Reaches, state_of}
use Rattle.ob_declarations.specs.View.{spec_context_of, expr_context_of}
use Rattle.ob_parser.specs.ReadTokens.{Kept, Behind, Ends, After, AwaitsExpr, AwaitsSpec, IsRightFault, Turned}
use Rattle.ob_parser.proofs.OneAnswer.{first-right, parsed, no-tree}
use Rattle.ob_parser.proofs.Light.{IsBetween}
use Rattle.ob_parser.proofs.Follows.{token-at, shifted, awaits-expr, awaits-spec}

-- What stands behind a tree.
module _ (ts : List Token) (i j : ℕ) (next : TokenKind → Option plain.State) (e : Ends ts i j next) where
  pub ends-goes : (t : Token) (o : Option State) (s : State) → Some t ≡ slice_get ts j → Reaches o (next t.kind) → o ≡ Some s → Turned ts i (Ok (s, j))
  ends-goes t o s g r n =
      let h : next t.kind ≡ Some (state_of s) = subst (λ x. Reaches x (next t.kind)) n r in
      (e.from_on, (token-at ts j t (sym g)).below, subst (Behind ts j) h (e.token t (sym g)))

  pub ends-stuck : (t : Token) (o : Option State) → Some t ≡ slice_get ts j → Reaches o (next t.kind) → o ≡ None → IsAnswer ts (Answer.NoTree j)
  ends-stuck t o g r n =
      let h : next t.kind ≡ None = subst (λ x. Reaches x (next t.kind)) n r in
      subst (Behind ts j) h (e.token t (sym g))

pub none_left : {A : Type 0} (value : A → Token) (ts : List Token) (j : ℕ) (o : Option A) → option_map value o ≡ slice_get ts j → ((x : A) → o ≡ Some x → ⊥) → slice_get ts j ≡ None
none_left value ts j None e n = sym e
none_left value ts j (Some x) e n = absurd (n x refl)

-- What the parser of expressions answers.
module _ (ts : List Token) (i : ℕ) (u : ExprContext) (w : AwaitsExpr ts i u) (depth level : ℕ) (d : depth ≡ min (context_depth u) 256) (l : level ≡ context_level u) where
  expr-leads : (v : Verdict ExprTree) → IsExprVerdict ts i depth level v → After ts i (λ j e k. used k u (Some e)) v
  expr-leads v h = w v (subst (λ m. IsExprVerdict ts i (min (context_depth u) 256) m v) l (subst (λ n. IsExprVerdict ts i n level v) d h))

  pub expr-fault : (x : SyntaxFault) → ParsedExpr ts i depth level (Err x) → IsRightFault ts x
  expr-fault (fault.NoTree j) h = expr-leads (NoTree j) h
  expr-fault (fault.TooDeep j) h = expr-leads (TooDeep j) h
  expr-fault fault.NoMemory h = tt

  pub expr-ends : (e : Expr) (j : ℕ) → ParsedExpr ts i depth level (Ok (e, j)) → Ends ts i j (λ k. used k u (Some (expr_tree e)))
  expr-ends e j h = expr-leads (Whole (expr_tree e) j) h

-- What the parser of specifiers answers.
module _ (ts : List Token) (i : ℕ) (u : SpecContext) (w : AwaitsSpec ts i u) (depth : ℕ) (d : depth ≡ spec_depth u) (b : depth ≤ 256) where
  spec-leads : (v : Verdict SpecTree) → IsSpecVerdict ts i depth v → After ts i (λ j s k. specified (here (lines ts) j) k u (Some s)) v
  spec-leads v h = w.shallow (omega (arith, d, b)) v (subst (λ n. IsSpecVerdict ts i n v) d h)

  pub spec-fault : (x : SyntaxFault) → ParsedSpec ts i depth (Err x) → IsRightFault ts x
  spec-fault (fault.NoTree j) h = spec-leads (NoTree j) h
  spec-fault (fault.TooDeep j) h = spec-leads (TooDeep j) h
  spec-fault fault.NoMemory h = tt

  pub spec-ends : (s : Spec) (j : ℕ) → ParsedSpec ts i depth (Ok (s, j)) → Ends ts i j (λ k. specified (here (lines ts) j) k u (Some (spec_tree s)))
  spec-ends s j h = spec-leads (Whole (spec_tree s) j) h

-- a specifier where no node may stand
pub deep-fault : (ts : List Token) (i : ℕ) (b : Bool) (x : SyntaxFault) → x ≡ cond b (fault.TooDeep i) (fault.NoTree i) → IsAnswer ts (cond b (Answer.TooDeep i) (Answer.NoTree i)) → IsRightFault ts x
deep-fault ts i true x e h = subst (IsRightFault ts) (sym e) h
deep-fault ts i false x e h = subst (IsRightFault ts) (sym e) h

pub token_read : (ts : List Token) (i : ℕ) (t : Token) → i < length ts → t ≡ get_or ts i t → slice_get ts i ≡ Some t
token_read ts i t b q = slice_get_read ts (length ts) i t refl b q

-- the mark of the token, by its own line
pub at_line : (ts : List Token) (j : ℕ) (t : Token) (P : Mark → Type 0) → slice_get ts j ≡ Some t → P (record { first = j; at = j; line = t.span.line }) → P (here (lines ts) j)
at_line ts j t P g h = subst (λ n. P (record { first = j; at = j; line = n })) (sym (token-at ts j t g).line) h

between : (s : State) → IsBetween (state_of s)
between (state.Items items) = tt
between (state.Specifying u) = refl
between (state.Declare d n) = tt
between (state.Dims h ds) = tt
between (state.Optional u) = tt
between (state.Reading u) = refl
between (state.Init t bs) = tt
between (state.AfterInit t bs i) = tt
between (state.Params l) = tt
between (state.NextParam l) = tt
between (state.Param l f n s i) = tt
between (state.Closed x ps) = tt
between (state.Begin fs) = tt
between (state.Opening u) = tt
between (state.ForWord f n fs) = tt
between (state.ForOpen f n fs) = tt
between (state.Semi s fs) = tt
between (state.Done s fs) = tt

-- What one shift leads to.
module _ (ts : List Token) (all : All (λ t. IsOfSource t.kind) ts) (i : ℕ) (t : Token) (b : i < length ts) (q : t ≡ get_or ts i t) (s : State) (k : Kept ts i (state_of s)) (x : Shift)
    (given : Leads (record { first = i; at = i; line = t.span.line }) t.kind x (shift (record { first = i; at = i; line = t.span.line }) t.kind (state_of s))) where
  found_at : slice_get ts i ≡ Some t
  found_at = token_read ts i t b q

  leads : (y : Shift) → x ≡ y → Leads (here (lines ts) i) t.kind y (shift (here (lines ts) i) t.kind (state_of s))
  leads y e =
      subst (λ z. Leads (here (lines ts) i) t.kind z (shift (here (lines ts) i) t.kind (state_of s))) e
      (at_line ts i t (λ m. Leads m t.kind x (shift m t.kind (state_of s))) found_at given)

  next : Behind ts i (shift (here (lines ts) i) t.kind (state_of s))
  next = shifted ts all i t (token-at ts i t found_at) (state_of s) (between s) k

  pub turn-goes : (y : State) → x ≡ shifted_to.Shifted y → Turned ts i (Ok (y, i))
  turn-goes y e = (omega arith, b, subst (Behind ts i) (leads (shifted_to.Shifted y) e) next)

  pub turn-stuck : x ≡ shifted_to.Rejected → IsAnswer ts (Answer.NoTree i)
  turn-stuck e = subst (Behind ts i) (leads shifted_to.Rejected e) next

  pub turn-reads : (u : CodeContext) → x ≡ shifted_to.NeedsExpr u → AwaitsExpr ts i (expr_context_of u)
  turn-reads u e = awaits-expr ts all i t (token-at ts i t found_at) (state_of s) (between s) k (expr_context_of u) (leads (shifted_to.NeedsExpr u) e)

  pub turn-specifies : (u : CodeSpecUse) → x ≡ shifted_to.NeedsSpec u → AwaitsSpec ts i (spec_context_of u)
  turn-specifies u e = awaits-spec ts all i t (token-at ts i t found_at) (state_of s) (between s) k (spec_context_of u) found_at (leads (shifted_to.NeedsSpec u) e)

-- nothing was read yet
pub at-start : (ts : List Token) → All (λ t. IsOfSource t.kind) ts → (items : List Item) → items ≡ [] → Kept ts 0 (plain.Items (map item_tree items))
at-start ts all items e =
    subst (λ (is : List Item). Kept ts 0 (plain.Items (map item_tree is))) (sym e) (record { right = first-right ts all; limit = omega arith })

-- all tokens were read
module _ (ts : List Token) (all : All (λ t. IsOfSource t.kind) ts) (s : plain.State) (k : Kept ts (length ts) s) where
  last : (o : Option ProgramTree) → finish s ≡ o → IsProgramVerdict ts (found (length ts) o)
  last o e =
      subst (IsProgramVerdict ts)
      (ap (λ (rest : List Token). verdict finish (read (λ q k x. shift (here (lines ts) q) k x) deepest_path 0 (length ts) (map (λ t. t.kind) rest) s)) (drop-length ts) ∙ ap (found (length ts)) e) k.right

  end-whole : (p : ProgramTree) → finish s ≡ Some p → IsAnswer ts (Answer.Parsed p)
  end-whole p e = parsed ts all (length ts) p (omega arith) (last (Some p) e)

  end-open : finish s ≡ None → IsAnswer ts (Answer.NoTree (length ts))
  end-open e = no-tree ts all (length ts) (last None e)

  pub parsed-whole : (o : Option Program) (p : Program) → option_map program_tree o ≡ finish s → o ≡ Some p → ParsedProgram ts (Ok p)
  parsed-whole o p e n = end-whole (program_tree p) (sym e ∙ ap (option_map program_tree) n)

  pub parsed-open : (o : Option Program) → option_map program_tree o ≡ finish s → o ≡ None → ParsedProgram ts (Err (fault.NoTree (length ts)))
  parsed-open o e n = end-open (sym e ∙ ap (option_map program_tree) n)

pub parsed-fault : (ts : List Token) (x : SyntaxFault) → IsRightFault ts x → ParsedProgram ts (Err x)
parsed-fault ts (fault.NoTree i) h = h
parsed-fault ts (fault.TooDeep i) h = h
parsed-fault ts fault.NoMemory h = tt
