-- A shift of the machine behind a whole operand keeps the shape of what it holds, and spells one token more.
use Rattle.std.proofs.Common.{◌≡◌, ℕ, ◌<◌, ◌≤◌, List, [], ◌∷◌, ◌++◌, map, Bool, true, false, Some, None, refl, sym, ◌∙◌, ap, arith, append_assoc, cond, ◌&&◌}
use Rattle.std.specs.Prelude.{nat_le, nat_lt}
use Rattle.std.proofs.lemmas.Bool.{leb-true}
use Rattle.std.proofs.lemmas.Bool.Decides.{nat_tests}
use Rattle.ob_tree.specs.declared.tokens.TokenKind.{TokenKind}
use Rattle.ob_tree.specs.declared.tokens.TokenKind.TheVariants as kind
use Rattle.ob_tree.specs.declared.tokens.Sign.{Sign}
use Rattle.ob_tree.specs.declared.tokens.Sign.TheVariants as sign
use Rattle.ob_tree.specs.Trees.{Infix, ExprTree}
use Rattle.ob_tree.specs.Spelling.{spell, spell_dims, step_sign, infix_sign}
use Rattle.ob_tree.specs.Levels.{primary_level, postfix_level, unary_level, binary_level, is_assign, IsInfix, infix_level, left_level, right_level, level_of, mark_of}
use Rattle.ob_tree.specs.Valid.{IsOfSource, IsOf}
use Rattle.ob_tree.specs.ExprStates.{PendingNode, InParen, InIndex, InCall, InJoin, InThen, InLength, BeforeOperand, Select, AfterOperand, top_operand_level, reduce, at_sign}
use Rattle.ob_tree.specs.ExprMachine.{index_to, select_to, step_to, call_to, string_to, join_to, then_to, comma_to, close_paren, close_bracket, colon_to, operator_to, after_sign, after}
use Rattle.ob_tree.proofs.Unreduced.{infix-most, binary-most}
use Rattle.ob_exprs.proofs.Shapes.{spell_arguments_before, head_spell, stack_spell, select_sign, Stands, IsGoal}
use Rattle.ob_exprs.proofs.Adding.{arguments-added, arguments-before, arguments-valid, dims-added, dims-valid, strings-valid, strings-added}
use Rattle.ob_exprs.proofs.Kept.{top-most, Kept, reduce-kept}
use Rattle.ob_exprs.proofs.Sound.{Good, spelled-of, cond-good}

-- tokens in other groups
pub last : (a b c : List TokenKind) → a ++ (b ++ c) ≡ (a ++ b) ++ c
last a b c = sym (append_assoc a b c)

lt-true : (a b : ℕ) → nat_lt a b ≡ true → a < b
lt-true a b h = grind (arith, nat_tests)

-- the right operand of an operator is no more than a cast
right-most : (op : Infix) → right_level op ≤ unary_level
right-most Infix.Comma = omega arith
right-most (Infix.Assign s) = omega arith
right-most (Infix.Binary s) = omega (arith, binary-most s)

pub level-most : (e : ExprTree) → level_of e ≤ primary_level
level-most (ExprTree.Step m false down e) = omega arith
level-most (ExprTree.Step m true down e) = omega arith
level-most (ExprTree.Join m op l r) = omega (arith, infix-most op)
level-most e = omega arith

module _ (least : ℕ) (goal : IsGoal least) where
  -- a postfix sign
  module _ (p : ℕ) (e : ExprTree) (fs : List PendingNode) (st : Stands least fs) (v : IsOf (top_operand_level least fs) e) where
    low : top_operand_level least fs ≤ unary_level
    low = top-most least fs goal (omega (arith, v.1, level-most e))

    index-good : Good least (stack_spell fs ++ spell e) (kind.Sign sign.OpenBracket) (index_to p e fs)
    index-good = cond-good least (stack_spell fs ++ spell e) (kind.Sign sign.OpenBracket) (nat_le postfix_level (level_of e)) (BeforeOperand (InIndex (at_sign (mark_of e) p) e ∷ fs))
        (λ b. ((((v.0, leb-true _ _ b), omega (arith, low), st), omega arith), last (stack_spell fs) (spell e) (kind.Sign sign.OpenBracket ∷ [])))

    select-to-good : (arrow : Bool) → Good least (stack_spell fs ++ spell e) (kind.Sign (select_sign arrow)) (select_to p arrow e fs)
    select-to-good arrow = cond-good least (stack_spell fs ++ spell e) (kind.Sign (select_sign arrow)) (nat_le postfix_level (level_of e)) (Select (at_sign (mark_of e) p) arrow e fs)
        (λ b. ((st, omega (arith, low), (v.0, leb-true _ _ b)), last (stack_spell fs) (spell e) (kind.Sign (select_sign arrow) ∷ [])))

    shift-to-good : (down : Bool) → Good least (stack_spell fs ++ spell e) (kind.Sign (step_sign down)) (step_to p down e fs)
    shift-to-good down = cond-good least (stack_spell fs ++ spell e) (kind.Sign (step_sign down)) (nat_le postfix_level (level_of e)) (AfterOperand (ExprTree.Step (at_sign (mark_of e) p) true down e) fs)
        (λ b. ((st, ((v.0, leb-true _ _ b), omega (arith, low))), last (stack_spell fs) (spell e) (kind.Sign (step_sign down) ∷ [])))

    -- a name is called, a string literal goes on
    call-to-good : Good least (stack_spell fs ++ spell e) (kind.Sign sign.OpenParen) (call_to e fs)
    call-to-good = go e v
      where
        go : (e : ExprTree) → IsOf (top_operand_level least fs) e → Good least (stack_spell fs ++ spell e) (kind.Sign sign.OpenParen) (call_to e fs)
        go (ExprTree.Name m name) v = ((st, v.1, v.0), last (stack_spell fs) (kind.Name name ∷ []) (kind.Sign sign.OpenParen ∷ []))
        go e v = tt

    string-to-good : (s : List ℕ) → IsOfSource (kind.Str s) → Good least (stack_spell fs ++ spell e) (kind.Str s) (string_to s e fs)
    string-to-good s t = go e v
      where
        go : (e : ExprTree) → IsOf (top_operand_level least fs) e → Good least (stack_spell fs ++ spell e) (kind.Str s) (string_to s e fs)
        go (ExprTree.Str m ss) v = (
          (st, (strings-valid ss s v.0 (spelled-of (kind.Str s) t), v.1)),
          ap (λ ks. stack_spell fs ++ ks) (strings-added ss s) ∙ last (stack_spell fs) (map kind.Str ss) (kind.Str s ∷ []),
        )
        go e v = tt

  -- an operator behind what was reduced
  module _ (p : ℕ) (e : ExprTree) (fs : List PendingNode) (r : ExprTree × List PendingNode) (kept : Kept least e fs r) where
    more : (k : TokenKind) → stack_spell r.1 ++ (spell r.0 ++ k ∷ []) ≡ (stack_spell fs ++ spell e) ++ k ∷ []
    more k = last (stack_spell r.1) (spell r.0) (k ∷ []) ∙ ap (λ s. s ++ k ∷ []) kept.spelled

    join-good : (op : Infix) → IsInfix op → Good least (stack_spell fs ++ spell e) (kind.Sign (infix_sign op)) (join_to least op p r)
    join-good op i = go (nat_le (left_level op) (level_of r.0)) (nat_le (top_operand_level least r.1) (infix_level op)) refl refl
      where
        go : (a b : Bool) → nat_le (left_level op) (level_of r.0) ≡ a → nat_le (top_operand_level least r.1) (infix_level op) ≡ b
            → Good least (stack_spell fs ++ spell e) (kind.Sign (infix_sign op)) (cond (a && b) (Some (BeforeOperand (InJoin (at_sign (mark_of r.0) p) op r.0 ∷ r.1))) None)
        go false b x y = tt
        go true false x y = tt
        go true true x y = ((((i, (kept.of.0, leb-true _ _ x)), leb-true _ _ y, kept.stands), right-most op), more (kind.Sign (infix_sign op)))

    then-good : Good least (stack_spell fs ++ spell e) (kind.Sign sign.Question) (then_to least p r)
    then-good = go (nat_le 3 (level_of r.0)) (nat_le (top_operand_level least r.1) 2) refl refl
      where
        go : (a b : Bool) → nat_le 3 (level_of r.0) ≡ a → nat_le (top_operand_level least r.1) 2 ≡ b
            → Good least (stack_spell fs ++ spell e) (kind.Sign sign.Question) (cond (a && b) (Some (BeforeOperand (InThen (at_sign (mark_of r.0) p) r.0 ∷ r.1))) None)
        go false b x y = tt
        go true false x y = tt
        go true true x y = ((((kept.of.0, leb-true _ _ x), leb-true _ _ y, kept.stands), omega arith), more (kind.Sign sign.Question))

  operator-good : (p : ℕ) (s : Sign) (e : ExprTree) (fs : List PendingNode) → Stands least fs → IsOf (top_operand_level least fs) e
      → Good least (stack_spell fs ++ spell e) (kind.Sign s) (operator_to least p s e fs)
  operator-good p s e fs st v = go (is_assign s) (nat_lt 0 (binary_level s)) refl refl
    where
      go : (a b : Bool) → is_assign s ≡ a → nat_lt 0 (binary_level s) ≡ b
          → Good least (stack_spell fs ++ spell e) (kind.Sign s)
          (cond a (join_to least (Infix.Assign s) p (reduce 1 e fs)) (cond b (join_to least (Infix.Binary s) p (reduce (binary_level s) e fs)) None))
      go true b x y = join-good p e fs (reduce 1 e fs) (reduce-kept least 1 e fs st v) (Infix.Assign s) x
      go false true x y = join-good p e fs (reduce (binary_level s) e fs) (reduce-kept least (binary_level s) e fs st v) (Infix.Binary s) (lt-true 0 (binary_level s) y)
      go false false x y = tt

  -- a sign that ends a part of a pending node
  comma-good : (p : ℕ) (e x : ExprTree) (fs gs : List PendingNode) → Kept least e fs (x, gs) → Good least (stack_spell fs ++ spell e) (kind.Sign sign.Comma) (comma_to least p x gs)
  comma-good p e x fs (InCall m name es ∷ gs) k = (
    (((k.stands.0.0, arguments-valid es x k.stands.0.1 k.of), k.stands.1, k.stands.2), omega arith),
    ap (λ ks. stack_spell gs ++ kind.Name name ∷ (kind.Sign sign.OpenParen ∷ ks)) (arguments-before es x)
        ∙ ap (λ ks. stack_spell gs ++ ks) (last (kind.Name name ∷ (kind.Sign sign.OpenParen ∷ spell_arguments_before es)) (spell x) (kind.Sign sign.Comma ∷ []))
        ∙ last (stack_spell gs) ((kind.Name name ∷ (kind.Sign sign.OpenParen ∷ spell_arguments_before es)) ++ spell x) (kind.Sign sign.Comma ∷ [])
        ∙ ap (λ ks. ks ++ kind.Sign sign.Comma ∷ []) (last (stack_spell gs) (kind.Name name ∷ (kind.Sign sign.OpenParen ∷ spell_arguments_before es)) (spell x) ∙ k.spelled),
  )
  comma-good p e x fs [] k = join-good p e fs (x, []) k Infix.Comma tt
  comma-good p e x fs (f ∷ gs) k = join-good p e fs (x, f ∷ gs) k Infix.Comma tt

  paren-good : (e x : ExprTree) (fs gs : List PendingNode) → Kept least e fs (x, gs) → Good least (stack_spell fs ++ spell e) (kind.Sign sign.CloseParen) (close_paren x gs)
  paren-good e x fs [] k = tt
  paren-good e x fs (InParen m ∷ gs) k = (
    (k.stands.2, (k.of.0, k.stands.1)),
    ap (λ ks. stack_spell gs ++ ks) (last (kind.Sign sign.OpenParen ∷ []) (spell x) (kind.Sign sign.CloseParen ∷ []))
        ∙ last (stack_spell gs) (kind.Sign sign.OpenParen ∷ spell x) (kind.Sign sign.CloseParen ∷ [])
        ∙ ap (λ ks. ks ++ kind.Sign sign.CloseParen ∷ []) (last (stack_spell gs) (kind.Sign sign.OpenParen ∷ []) (spell x) ∙ k.spelled),
  )
  paren-good e x fs (InCall m name es ∷ gs) k =
      let start = kind.Name name ∷ (kind.Sign sign.OpenParen ∷ spell_arguments_before es) in (
        (k.stands.2, ((k.stands.0.0, arguments-valid es x k.stands.0.1 k.of), k.stands.1)),
        ap (λ ks. stack_spell gs ++ kind.Name name ∷ (kind.Sign sign.OpenParen ∷ (ks ++ kind.Sign sign.CloseParen ∷ []))) (arguments-added es x)
            ∙ last (stack_spell gs) (start ++ spell x) (kind.Sign sign.CloseParen ∷ [])
            ∙ ap (λ ks. ks ++ kind.Sign sign.CloseParen ∷ []) (last (stack_spell gs) start (spell x) ∙ k.spelled),
      )
  paren-good e x fs (f ∷ gs) k = tt

  bracket-good : (e x : ExprTree) (fs gs : List PendingNode) → Kept least e fs (x, gs) → Good least (stack_spell fs ++ spell e) (kind.Sign sign.CloseBracket) (close_bracket x gs)
  bracket-good e x fs [] k = tt
  bracket-good e x fs (InIndex m b ∷ gs) k = (
    (k.stands.2, ((k.stands.0.0, k.stands.0.1, k.of.0), k.stands.1)),
    ap (λ ks. stack_spell gs ++ ks) (last (spell b) (kind.Sign sign.OpenBracket ∷ []) (spell x ++ kind.Sign sign.CloseBracket ∷ []))
        ∙ ap (λ ks. stack_spell gs ++ ks) (last (spell b ++ kind.Sign sign.OpenBracket ∷ []) (spell x) (kind.Sign sign.CloseBracket ∷ []))
        ∙ last (stack_spell gs) ((spell b ++ kind.Sign sign.OpenBracket ∷ []) ++ spell x) (kind.Sign sign.CloseBracket ∷ [])
        ∙ ap (λ ks. ks ++ kind.Sign sign.CloseBracket ∷ []) (last (stack_spell gs) (spell b ++ kind.Sign sign.OpenBracket ∷ []) (spell x) ∙ k.spelled),
  )
  bracket-good e x fs (InLength h ds ∷ gs) k =
      let start = head_spell h ++ (spell_dims ds ++ kind.Sign sign.OpenBracket ∷ []) in (
        (k.stands.2, k.stands.1, k.stands.0.0, dims-valid ds x k.stands.0.1 k.of),
        ap (λ ks. stack_spell gs ++ (head_spell h ++ ks))
            (dims-added ds x ∙ last (spell_dims ds) (kind.Sign sign.OpenBracket ∷ []) (spell x ++ kind.Sign sign.CloseBracket ∷ [])
            ∙ last (spell_dims ds ++ kind.Sign sign.OpenBracket ∷ []) (spell x) (kind.Sign sign.CloseBracket ∷ []))
            ∙ ap (λ ks. stack_spell gs ++ ks)
            (last (head_spell h) ((spell_dims ds ++ kind.Sign sign.OpenBracket ∷ []) ++ spell x) (kind.Sign sign.CloseBracket ∷ [])
            ∙ ap (λ ks. ks ++ kind.Sign sign.CloseBracket ∷ []) (last (head_spell h) (spell_dims ds ++ kind.Sign sign.OpenBracket ∷ []) (spell x)))
            ∙ last (stack_spell gs) (start ++ spell x) (kind.Sign sign.CloseBracket ∷ [])
            ∙ ap (λ ks. ks ++ kind.Sign sign.CloseBracket ∷ []) (last (stack_spell gs) start (spell x) ∙ k.spelled),
      )
  bracket-good e x fs (f ∷ gs) k = tt

  colon-good : (e x : ExprTree) (fs gs : List PendingNode) → Kept least e fs (x, gs) → Good least (stack_spell fs ++ spell e) (kind.Sign sign.Colon) (colon_to x gs)
  colon-good e x fs [] k = tt
  colon-good e x fs (InThen m c ∷ gs) k = (
    (((k.stands.0, k.of.0), k.stands.1, k.stands.2), omega arith),
    ap (λ ks. stack_spell gs ++ ks) (last (spell c) (kind.Sign sign.Question ∷ []) (spell x ++ kind.Sign sign.Colon ∷ []))
        ∙ ap (λ ks. stack_spell gs ++ ks) (last (spell c ++ kind.Sign sign.Question ∷ []) (spell x) (kind.Sign sign.Colon ∷ []))
        ∙ last (stack_spell gs) ((spell c ++ kind.Sign sign.Question ∷ []) ++ spell x) (kind.Sign sign.Colon ∷ [])
        ∙ ap (λ ks. ks ++ kind.Sign sign.Colon ∷ []) (last (stack_spell gs) (spell c ++ kind.Sign sign.Question ∷ []) (spell x) ∙ k.spelled),
  )
  colon-good e x fs (f ∷ gs) k = tt

  after-sign-good : (p : ℕ) (s : Sign) (e : ExprTree) (fs : List PendingNode) → Stands least fs → IsOf (top_operand_level least fs) e
      → Good least (stack_spell fs ++ spell e) (kind.Sign s) (after_sign least p s e fs)
  after-sign-good p sign.OpenBracket e fs st v = index-good p e fs st v
  after-sign-good p sign.OpenParen e fs st v = call-to-good p e fs st v
  after-sign-good p sign.Dot e fs st v = select-to-good p e fs st v false
  after-sign-good p sign.Arrow e fs st v = select-to-good p e fs st v true
  after-sign-good p sign.PlusPlus e fs st v = shift-to-good p e fs st v false
  after-sign-good p sign.MinusMinus e fs st v = shift-to-good p e fs st v true
  after-sign-good p sign.Question e fs st v = then-good p e fs (reduce 2 e fs) (reduce-kept least 2 e fs st v)
  after-sign-good p sign.Comma e fs st v = comma-good p e (reduce 0 e fs).0 fs (reduce 0 e fs).1 (reduce-kept least 0 e fs st v)
  after-sign-good p sign.CloseParen e fs st v = paren-good e (reduce 0 e fs).0 fs (reduce 0 e fs).1 (reduce-kept least 0 e fs st v)
  after-sign-good p sign.CloseBracket e fs st v = bracket-good e (reduce 0 e fs).0 fs (reduce 0 e fs).1 (reduce-kept least 0 e fs st v)
  after-sign-good p sign.Colon e fs st v = colon-good e (reduce 0 e fs).0 fs (reduce 0 e fs).1 (reduce-kept least 0 e fs st v)
  after-sign-good p s e fs st v = operator-good p s e fs st v

  pub after-good : (p : ℕ) (k : TokenKind) (e : ExprTree) (fs : List PendingNode) → IsOfSource k → Stands least fs → IsOf (top_operand_level least fs) e
      → Good least (stack_spell fs ++ spell e) k (after least p k e fs)
  after-good p (kind.Sign s) e fs t st v = after-sign-good p s e fs st v
  after-good p (kind.Str s) e fs t st v = string-to-good p e fs st v s t
  after-good p (kind.Name name) e fs t st v = tt
  after-good p (kind.Number value ty) e fs t st v = tt
  after-good p (kind.Word w) e fs t st v = tt
