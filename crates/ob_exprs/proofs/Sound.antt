-- A shift of the machine where an operand or a specifier comes keeps the shape of what it holds, and spells one
-- token more.
use Rattle.std.proofs.Common.{◌≡◌, ℕ, ◌≤◌, List, [], ◌∷◌, ◌++◌, length, Bool, true, false, Option, Some, None, refl, sym, ◌∙◌, ap, subst, arith, append_assoc, cond}
use Rattle.std.specs.Prelude.{nat_le}
use Rattle.std.proofs.lemmas.Bool.{leb-true}
use Rattle.ob_tree.specs.declared.tokens.TokenKind.{TokenKind}
use Rattle.ob_tree.specs.declared.tokens.TokenKind.TheVariants as kind
use Rattle.ob_tree.specs.declared.tokens.Keyword.{Keyword}
use Rattle.ob_tree.specs.declared.tokens.Keyword.TheVariants as word
use Rattle.ob_tree.specs.declared.tokens.Sign.{Sign}
use Rattle.ob_tree.specs.declared.tokens.Sign.TheVariants as sign
use Rattle.ob_tree.specs.Trees.{Mark, ExprTree, ExprTrees, SpecTree}
use Rattle.ob_tree.specs.Spelling.{spell}
use Rattle.ob_tree.specs.Integers.{is_integer}
use Rattle.ob_tree.specs.Levels.{primary_level, postfix_level, unary_level, cast_level, is_unary}
use Rattle.ob_tree.specs.Valid.{ValidName, IsSpelled, IsOfSource, IsOf}
use Rattle.ob_tree.specs.ExprStates.{PendingNode, InParen, InCall, InUnary, InSize, InType, State, BeforeOperand, SizeOpen, AfterSpec, top_operand_level}
use Rattle.ob_tree.specs.ExprMachine.{is_spec_word, spec_word, specifier, operand_word, operand_sign, operand, opened, sized, size_opened, called, select}
use Rattle.ob_exprs.proofs.Shapes.{stack_spell, select_sign, state_spell, TakesSpec, Stands, StateOk, IsGoal}

-- the next state, where there is one, has the shape and spells one token more
abbrev pub Good : (least : ℕ) → List TokenKind → TokenKind → Option State → Type 0
Good least before k None = Unit {0}
Good least before k (Some s) = StateOk least s × (state_spell s ≡ before ++ k ∷ [])

-- what a token of a source has
pub name-of : (name : List ℕ) → IsOfSource (kind.Name name) → ValidName name
name-of name t = (t.spelled.1, subst (λ x. length x ≤ 1048576) t.spelled.0 t.short)

pub spelled-of : (k : TokenKind) → IsOfSource k → IsSpelled k
spelled-of k t = record { text = t.text; after = t.after; spelled = t.spelled }

pub cond-good : (least : ℕ) (before : List TokenKind) (k : TokenKind) (b : Bool) (s : State) → (b ≡ true → Good least before k (Some s)) → Good least before k (cond b (Some s) None)
cond-good least before k true s f = f refl
cond-good least before k false s f = tt

module _ (least : ℕ) (goal : IsGoal least) where
  -- an operand comes
  unary-good : (m : Mark) (s : Sign) (fs : List PendingNode) → Stands least fs → top_operand_level least fs ≤ unary_level
      → Good least (stack_spell fs) (kind.Sign s) (cond (is_unary s) (Some (BeforeOperand (InUnary m s ∷ fs))) None)
  unary-good m s fs st h = cond-good least (stack_spell fs) (kind.Sign s) (is_unary s) (BeforeOperand (InUnary m s ∷ fs)) (λ u. (((u, h, st), omega arith), refl))

  operand-sign-good : (m : Mark) (s : Sign) (fs : List PendingNode) → Stands least fs → top_operand_level least fs ≤ unary_level → Good least (stack_spell fs) (kind.Sign s) (operand_sign m s fs)
  operand-sign-good m sign.OpenParen fs st h = ((st, h), refl)
  operand-sign-good m sign.PlusPlus fs st h = (((tt, h, st), omega arith), refl)
  operand-sign-good m sign.MinusMinus fs st h = (((tt, h, st), omega arith), refl)
  operand-sign-good m s fs st h = unary-good m s fs st h

  operand-word-good : (m : Mark) (w : Keyword) (fs : List PendingNode) → Stands least fs → top_operand_level least fs ≤ unary_level → Good least (stack_spell fs) (kind.Word w) (operand_word m w fs)
  operand-word-good m word.Null fs st h = ((st, (tt, omega (arith, h))), refl)
  operand-word-good m word.Eof fs st h = ((st, (tt, omega (arith, h))), refl)
  operand-word-good m word.Sizeof fs st h = ((st, h), refl)
  operand-word-good m w fs st h = tt

  pub operand-good : (m : Mark) (k : TokenKind) (fs : List PendingNode) → IsOfSource k → Stands least fs → top_operand_level least fs ≤ unary_level → Good least (stack_spell fs) k (operand m k fs)
  operand-good m (kind.Name name) fs t st h = ((st, (name-of name t, omega (arith, h))), refl)
  operand-good m (kind.Number value ty) fs t st h = ((st, (spelled-of (kind.Number value ty) t, omega (arith, h))), refl)
  operand-good m (kind.Str s) fs t st h = ((st, ((spelled-of (kind.Str s) t, tt), omega (arith, h))), refl)
  operand-good m (kind.Word w) fs t st h = operand-word-good m w fs st h
  operand-good m (kind.Sign s) fs t st h = operand-sign-good m s fs st h

  -- a specifier comes
  spec-word-good : (p : ℕ) (w : Keyword) (fs : List PendingNode) → Stands least fs → TakesSpec least fs → Good least (stack_spell fs) (kind.Word w) (spec_word p w fs)
  spec-word-good p word.Void fs st h = ((st, h, tt), refl)
  spec-word-good p word.SizeT fs st h = ((st, h, tt), refl)
  spec-word-good p word.Struct fs st h = ((st, h), refl)
  spec-word-good p w fs st h = cond-good least (stack_spell fs) (kind.Word w) (is_integer (w ∷ [])) (AfterSpec (SpecTree.Integer p (w ∷ [])) fs) (λ i. ((st, h, i), refl))

  pub specifier-good : (p : ℕ) (k : TokenKind) (fs : List PendingNode) → Stands least fs → TakesSpec least fs → Good least (stack_spell fs) k (specifier p k fs)
  specifier-good p (kind.Word w) fs st h = spec-word-good p w fs st h
  specifier-good p (kind.Name name) fs st h = tt
  specifier-good p (kind.Number value ty) fs st h = tt
  specifier-good p (kind.Str s) fs st h = tt
  specifier-good p (kind.Sign s) fs st h = tt

  -- behind an opening parenthesis
  opened-word-good : (m : Mark) (w : Keyword) (paren : Mark) (fs : List PendingNode) → Stands least fs → top_operand_level least fs ≤ unary_level
      → Good least (stack_spell fs ++ kind.Sign sign.OpenParen ∷ []) (kind.Word w) (opened least m (kind.Word w) paren fs)
  opened-word-good m w paren fs st h = go (is_spec_word w) (nat_le (top_operand_level least fs) cast_level) refl
    where
      go : (a b : Bool) → nat_le (top_operand_level least fs) cast_level ≡ b
          → Good least (stack_spell fs ++ kind.Sign sign.OpenParen ∷ []) (kind.Word w) (cond a (cond b (spec_word m.first w (InType paren false ∷ fs)) None) (operand_word m w (InParen paren ∷ fs)))
      go true true e = spec-word-good m.first w (InType paren false ∷ fs) (tt, leb-true _ _ e, st) tt
      go true false e = tt
      go false b e = operand-word-good m w (InParen paren ∷ fs) (tt, omega (arith, h), st) (omega arith)

  pub opened-good : (m : Mark) (k : TokenKind) (paren : Mark) (fs : List PendingNode) → IsOfSource k → Stands least fs → top_operand_level least fs ≤ unary_level
      → Good least (stack_spell fs ++ kind.Sign sign.OpenParen ∷ []) k (opened least m k paren fs)
  opened-good m (kind.Word w) paren fs t st h = opened-word-good m w paren fs st h
  opened-good m (kind.Name name) paren fs t st h = operand-good m (kind.Name name) (InParen paren ∷ fs) t (tt, omega (arith, h), st) (omega arith)
  opened-good m (kind.Number value ty) paren fs t st h = operand-good m (kind.Number value ty) (InParen paren ∷ fs) t (tt, omega (arith, h), st) (omega arith)
  opened-good m (kind.Str s) paren fs t st h = operand-good m (kind.Str s) (InParen paren ∷ fs) t (tt, omega (arith, h), st) (omega arith)
  opened-good m (kind.Sign s) paren fs t st h = operand-good m (kind.Sign s) (InParen paren ∷ fs) t (tt, omega (arith, h), st) (omega arith)

  -- behind `sizeof`, and a parenthesis behind it
  pub sized-good : (m : Mark) (k : TokenKind) (size : Mark) (fs : List PendingNode) → IsOfSource k → Stands least fs → top_operand_level least fs ≤ unary_level
      → Good least (stack_spell fs ++ kind.Word word.Sizeof ∷ []) k (sized m k size fs)
  sized-good m (kind.Sign sign.OpenParen) size fs t st h = ((st, h), sym (append_assoc (stack_spell fs) (kind.Word word.Sizeof ∷ []) (kind.Sign sign.OpenParen ∷ [])))
  sized-good m (kind.Sign s) size fs t st h = operand-good m (kind.Sign s) (InSize size ∷ fs) t (tt, h, st) (omega arith)
  sized-good m k size fs t st h = operand-good m k (InSize size ∷ fs) t (tt, h, st) (omega arith)

  size-opened-word-good : (m : Mark) (w : Keyword) (size paren : Mark) (fs : List PendingNode) → Stands least fs → top_operand_level least fs ≤ unary_level
      → Good least ((stack_spell fs ++ kind.Word word.Sizeof ∷ []) ++ kind.Sign sign.OpenParen ∷ []) (kind.Word w) (size_opened m (kind.Word w) size paren fs)
  size-opened-word-good m w size paren fs st h = go (is_spec_word w)
    where
      go : (a : Bool) → Good least ((stack_spell fs ++ kind.Word word.Sizeof ∷ []) ++ kind.Sign sign.OpenParen ∷ []) (kind.Word w)
          (cond a (spec_word m.first w (InType size true ∷ fs)) (operand_word m w (InParen paren ∷ (InSize size ∷ fs))))
      go true = subst (λ ks. Good least ks (kind.Word w) (spec_word m.first w (InType size true ∷ fs)))
          (sym (append_assoc (stack_spell fs) (kind.Word word.Sizeof ∷ []) (kind.Sign sign.OpenParen ∷ [])))
          (spec-word-good m.first w (InType size true ∷ fs) (tt, h, st) tt)
      go false = operand-word-good m w (InParen paren ∷ (InSize size ∷ fs)) (tt, omega arith, (tt, h, st)) (omega arith)

  pub size-opened-good : (m : Mark) (k : TokenKind) (size paren : Mark) (fs : List PendingNode) → IsOfSource k → Stands least fs → top_operand_level least fs ≤ unary_level
      → Good least (state_spell (SizeOpen size paren fs)) k (size_opened m k size paren fs)
  size-opened-good m k size paren fs t st h =
      subst (λ ks. Good least ks k (size_opened m k size paren fs))
      (append_assoc (stack_spell fs) (kind.Word word.Sizeof ∷ []) (kind.Sign sign.OpenParen ∷ [])) (go k t)
    where
      go : (k : TokenKind) → IsOfSource k → Good least ((stack_spell fs ++ kind.Word word.Sizeof ∷ []) ++ kind.Sign sign.OpenParen ∷ []) k (size_opened m k size paren fs)
      go (kind.Word w) t = size-opened-word-good m w size paren fs st h
      go (kind.Name name) t = operand-good m (kind.Name name) (InParen paren ∷ (InSize size ∷ fs)) t (tt, omega arith, (tt, h, st)) (omega arith)
      go (kind.Number value ty) t = operand-good m (kind.Number value ty) (InParen paren ∷ (InSize size ∷ fs)) t (tt, omega arith, (tt, h, st)) (omega arith)
      go (kind.Str s) t = operand-good m (kind.Str s) (InParen paren ∷ (InSize size ∷ fs)) t (tt, omega arith, (tt, h, st)) (omega arith)
      go (kind.Sign s) t = operand-good m (kind.Sign s) (InParen paren ∷ (InSize size ∷ fs)) t (tt, omega arith, (tt, h, st)) (omega arith)

  -- behind a called name and its parenthesis
  pub called-good : (m : Mark) (k : TokenKind) (call : Mark) (name : List ℕ) (fs : List PendingNode) → IsOfSource k → Stands least fs → top_operand_level least fs ≤ primary_level → ValidName name
      → Good least (stack_spell fs ++ kind.Name name ∷ (kind.Sign sign.OpenParen ∷ [])) k (called m k call name fs)
  called-good m (kind.Sign sign.CloseParen) call name fs t st h v =
      ((st, ((v, tt), h)), sym (append_assoc (stack_spell fs) (kind.Name name ∷ (kind.Sign sign.OpenParen ∷ [])) (kind.Sign sign.CloseParen ∷ [])))
  called-good m (kind.Sign s) call name fs t st h v = operand-good m (kind.Sign s) (InCall call name ExprTrees.NoArguments ∷ fs) t ((v, tt), h, st) (omega arith)
  called-good m k call name fs t st h v = operand-good m k (InCall call name ExprTrees.NoArguments ∷ fs) t ((v, tt), h, st) (omega arith)

  -- behind `.` and `->`
  pub select-good : (k : TokenKind) (m : Mark) (arrow : Bool) (b : ExprTree) (fs : List PendingNode) → IsOfSource k → Stands least fs → top_operand_level least fs ≤ postfix_level → IsOf postfix_level b
      → Good least (stack_spell fs ++ (spell b ++ kind.Sign (select_sign arrow) ∷ [])) k (select k m arrow b fs)
  select-good (kind.Name name) m false b fs t st h v =
      ((st, ((v.0, v.1, name-of name t), h)), ap (λ ks. stack_spell fs ++ ks) (sym (append_assoc (spell b) (kind.Sign sign.Dot ∷ []) (kind.Name name ∷ []))) ∙ sym (append_assoc (stack_spell fs) (spell b ++ kind.Sign sign.Dot ∷ []) (kind.Name name ∷ [])))
  select-good (kind.Name name) m true b fs t st h v =
      ((st, ((v.0, v.1, name-of name t), h)), ap (λ ks. stack_spell fs ++ ks) (sym (append_assoc (spell b) (kind.Sign sign.Arrow ∷ []) (kind.Name name ∷ []))) ∙ sym (append_assoc (stack_spell fs) (spell b ++ kind.Sign sign.Arrow ∷ []) (kind.Name name ∷ [])))
  select-good (kind.Word w) m arrow b fs t st h v = tt
  select-good (kind.Number value ty) m arrow b fs t st h v = tt
  select-good (kind.Str s) m arrow b fs t st h v = tt
  select-good (kind.Sign s) m arrow b fs t st h v = tt
