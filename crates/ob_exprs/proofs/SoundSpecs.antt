-- A shift of the machine keeps the shape of what it holds, and spells one token more.
use Rattle.std.proofs.Common.{◌≡◌, ℕ, List, [], ◌∷◌, ◌++◌, map, true, false, Option, refl, sym, ◌∙◌, ap, subst, arith, append_assoc, append-nil}
use Rattle.ob_tree.specs.declared.tokens.TokenKind.{TokenKind}
use Rattle.ob_tree.specs.declared.tokens.TokenKind.TheVariants as kind
use Rattle.ob_tree.specs.declared.tokens.Keyword.{Keyword}
use Rattle.ob_tree.specs.declared.tokens.Keyword.TheVariants as word
use Rattle.ob_tree.specs.declared.tokens.Sign.{Sign}
use Rattle.ob_tree.specs.declared.tokens.Sign.TheVariants as sign
use Rattle.ob_tree.specs.Trees.{Mark, SpecTree, MemberTrees, ObjTree, ObjTrees, DimTrees}
use Rattle.ob_tree.specs.Spelling.{spell_spec, spell_members, spell_objs, spell_obj, spell_dims, spell_name, stars}
use Rattle.ob_tree.specs.Integers.{is_integer}
use Rattle.ob_tree.specs.Valid.{ValidSpec, ValidDims, ValidTag, ValidMembers, IsOfSource}
use Rattle.ob_tree.specs.ExprStates.{Head, OfType, OfMember, StructBody, StructDeclaration, PendingNode, InType, InStruct, State, BeforeOperand, Open, Size, SizeOpen, Called, Select, AfterOperand, Specifier, StructWord, Members, Declare, Dims, AfterSpec, add_obj}
use Rattle.ob_tree.specs.ExprMachine.{ended, more_stars, close_type, next_name, end_line, dims_sign, after_dims, declare, spec_under, word_to, brace_to, after_spec, struct_to, close_struct, members_to, shift}
use Rattle.ob_tree.proofs.Lists.{stars-more}
use Rattle.ob_exprs.proofs.Shapes.{spell_objs_before, body_spell, line_spell, type_start, stack_spell, state_spell, LineOk, BodyOk, HeadOk, TakesSpec, HeadFits, Stands, StateOk, IsGoal}
use Rattle.ob_exprs.proofs.Adding.{objs-added, objs-before, objs-valid, objs-some, members-added, members-valid}
use Rattle.ob_exprs.proofs.Sound.{Good, name-of, cond-good, operand-good, specifier-good, opened-good, sized-good, size-opened-good, called-good, select-good}
use Rattle.ob_exprs.proofs.SoundAfter.{last, after-good}

-- tokens in other groups
groups : (f a b c d z : List TokenKind) → f ++ (a ++ (b ++ ((c ++ d) ++ z))) ≡ (f ++ ((a ++ (b ++ c)) ++ d)) ++ z
groups f a b c d z = simp append_assoc

groups2 : (f a b c d z : List TokenKind) → f ++ (a ++ (b ++ (c ++ (d ++ z)))) ≡ (f ++ ((a ++ (b ++ c)) ++ d)) ++ z
groups2 f a b c d z = simp append_assoc

-- a structure with one line more, a line with one name more
ended-spell : (l : StructDeclaration) (o : ObjTree) (fs : List TokenKind)
    → fs ++ body_spell (ended (record { body = l.body; spec = l.spec; names = add_obj l.names o })) ≡ (fs ++ (line_spell l ++ spell_obj o)) ++ kind.Sign sign.Semi ∷ []
ended-spell l o fs =
    let a = kind.Word word.Struct ∷ (spell_name l.body.tag ++ kind.Sign sign.OpenBrace ∷ spell_members l.body.members) in
    let zs = spell_spec l.spec ++ (spell_objs (add_obj l.names o) ++ kind.Sign sign.Semi ∷ []) in
    ap (λ ks. fs ++ kind.Word word.Struct ∷ (spell_name l.body.tag ++ kind.Sign sign.OpenBrace ∷ ks)) (members-added l.body.members l.spec (add_obj l.names o))
    ∙ ap (λ ks. fs ++ kind.Word word.Struct ∷ ks) (last (spell_name l.body.tag) (kind.Sign sign.OpenBrace ∷ spell_members l.body.members) zs)
    ∙ ap (λ ks. fs ++ (a ++ (spell_spec l.spec ++ (ks ++ kind.Sign sign.Semi ∷ [])))) (objs-added l.names o)
    ∙ groups fs a (spell_spec l.spec) (spell_objs_before l.names) (spell_obj o) (kind.Sign sign.Semi ∷ [])

named-spell : (l : StructDeclaration) (o : ObjTree) (fs : List TokenKind)
    → fs ++ (line_spell (record { body = l.body; spec = l.spec; names = add_obj l.names o }) ++ []) ≡ (fs ++ (line_spell l ++ spell_obj o)) ++ kind.Sign sign.Comma ∷ []
named-spell l o fs =
    ap (λ ks. fs ++ ks) (append-nil (body_spell l.body ++ (spell_spec l.spec ++ spell_objs_before (add_obj l.names o))))
    ∙ ap (λ ks. fs ++ (body_spell l.body ++ (spell_spec l.spec ++ ks))) (objs-before l.names o)
    ∙ groups2 fs (body_spell l.body) (spell_spec l.spec) (spell_objs_before l.names) (spell_obj o) (kind.Sign sign.Comma ∷ [])

-- a name with its stars and brackets
bare-spell : (l : StructDeclaration) (n : ℕ) (name : List ℕ) (a : ℕ) (ds : DimTrees) → (line_spell l ++ (stars n ++ kind.Name name ∷ [])) ++ spell_dims ds ≡ line_spell l ++ spell_obj (ObjTree.Bare n name a ds)
bare-spell l n name a ds =
    append_assoc (line_spell l) (stars n ++ kind.Name name ∷ []) (spell_dims ds)
    ∙ ap (λ ks. line_spell l ++ ks) (append_assoc (stars n) (kind.Name name ∷ []) (spell_dims ds))

module _ (least : ℕ) (goal : IsGoal least) where
  -- behind a row of brackets
  more-stars-good : (h : Head) (ds : DimTrees) (fs : List PendingNode) → Stands least fs → HeadFits least fs h → HeadOk h → ValidDims ds
      → Good least (state_spell (Dims h ds fs)) (kind.Sign sign.Star) (more_stars h ds fs)
  more-stars-good (OfType m z s n) DimTrees.NoDims fs st f v w = (
    (st, f, v, tt),
    ap (λ ks. stack_spell fs ++ ((type_start z ++ (spell_spec s ++ ks)) ++ [])) (stars-more n)
        ∙ simp (append_assoc, append-nil),
  )
  more-stars-good (OfType m z s n) (DimTrees.Unsized ds) fs st f v w = tt
  more-stars-good (OfType m z s n) (DimTrees.Sized e ds) fs st f v w = tt
  more-stars-good (OfMember l n name a) ds fs st f v w = tt

  close-type-good : (h : Head) (ds : DimTrees) (fs : List PendingNode) → Stands least fs → HeadFits least fs h → HeadOk h → ValidDims ds
      → Good least (state_spell (Dims h ds fs)) (kind.Sign sign.CloseParen) (close_type h ds fs)
  close-type-good (OfType m false s n) ds fs st f v w = ((((v, w), f, st), omega arith), simp append_assoc)
  close-type-good (OfType m true s n) ds fs st f v w = ((st, ((v, w), f)), simp append_assoc)
  close-type-good (OfMember l n name a) ds fs st f v w = tt

  next-name-good : (h : Head) (ds : DimTrees) (fs : List PendingNode) → Stands least fs → HeadFits least fs h → HeadOk h → ValidDims ds
      → Good least (state_spell (Dims h ds fs)) (kind.Sign sign.Comma) (next_name h ds fs)
  next-name-good (OfType m z s n) ds fs st f v w = tt
  next-name-good (OfMember l n name a) ds fs st f v w = (
    (st, f, (v.0.0, v.0.1, objs-valid l.names (ObjTree.Bare n name a ds) v.0.2 (v.1, w))),
    named-spell l (ObjTree.Bare n name a ds) (stack_spell fs) ∙ ap (λ ks. (stack_spell fs ++ ks) ++ kind.Sign sign.Comma ∷ []) (sym (bare-spell l n name a ds)),
  )

  end-line-good : (h : Head) (ds : DimTrees) (fs : List PendingNode) → Stands least fs → HeadFits least fs h → HeadOk h → ValidDims ds
      → Good least (state_spell (Dims h ds fs)) (kind.Sign sign.Semi) (end_line h ds fs)
  end-line-good (OfType m z s n) ds fs st f v w = tt
  end-line-good (OfMember l n name a) ds fs st f v w =
      let o = ObjTree.Bare n name a ds in (
        (st, f, (v.0.0.0, members-valid l.body.members l.spec (add_obj l.names o) v.0.0.1 v.0.1 (objs-some l.names o) (objs-valid l.names o v.0.2 (v.1, w)))),
        ended-spell l o (stack_spell fs) ∙ ap (λ ks. (stack_spell fs ++ ks) ++ kind.Sign sign.Semi ∷ []) (sym (bare-spell l n name a ds)),
      )

  dims-sign-good : (s : Sign) (h : Head) (ds : DimTrees) (fs : List PendingNode) → Stands least fs → HeadFits least fs h → HeadOk h → ValidDims ds
      → Good least (state_spell (Dims h ds fs)) (kind.Sign s) (dims_sign s h ds fs)
  dims-sign-good sign.OpenBracket h ds fs st f v w = ((((v, w), f, st), omega arith), simp append_assoc)
  dims-sign-good sign.Star h ds fs st f v w = more-stars-good h ds fs st f v w
  dims-sign-good sign.CloseParen h ds fs st f v w = close-type-good h ds fs st f v w
  dims-sign-good sign.Comma h ds fs st f v w = next-name-good h ds fs st f v w
  dims-sign-good sign.Semi h ds fs st f v w = end-line-good h ds fs st f v w
  dims-sign-good s h ds fs st f v w = tt

  dims-good : (k : TokenKind) (h : Head) (ds : DimTrees) (fs : List PendingNode) → Stands least fs → HeadFits least fs h → HeadOk h → ValidDims ds
      → Good least (state_spell (Dims h ds fs)) k (after_dims k h ds fs)
  dims-good (kind.Sign s) h ds fs st f v w = dims-sign-good s h ds fs st f v w
  dims-good (kind.Name name) h ds fs st f v w = tt
  dims-good (kind.Number value ty) h ds fs st f v w = tt
  dims-good (kind.Str s) h ds fs st f v w = tt
  dims-good (kind.Word w2) h ds fs st f v w = tt

  -- a member's stars and name
  declare-good : (p : ℕ) (k : TokenKind) (l : StructDeclaration) (n : ℕ) (fs : List PendingNode) → IsOfSource k → Stands least fs → TakesSpec least fs → LineOk l
      → Good least (state_spell (Declare l n fs)) k (declare p k l n fs)
  declare-good p (kind.Sign sign.Star) l n fs t st f v = (
    (st, f, v),
    ap (λ ks. stack_spell fs ++ (line_spell l ++ ks)) (stars-more n)
        ∙ ap (λ ks. stack_spell fs ++ ks) (last (line_spell l) (stars n) (kind.Sign sign.Star ∷ []))
        ∙ last (stack_spell fs) (line_spell l ++ stars n) (kind.Sign sign.Star ∷ []),
  )
  declare-good p (kind.Name name) l n fs t st f v = (
    (st, f, (v, name-of name t), tt),
    ap (λ ks. stack_spell fs ++ ks) (append-nil (line_spell l ++ (stars n ++ kind.Name name ∷ [])) ∙ last (line_spell l) (stars n) (kind.Name name ∷ []))
        ∙ last (stack_spell fs) (line_spell l ++ stars n) (kind.Name name ∷ []),
  )
  declare-good p (kind.Sign s) l n fs t st f v = tt
  declare-good p (kind.Number value ty) l n fs t st f v = tt
  declare-good p (kind.Str s) l n fs t st f v = tt
  declare-good p (kind.Word w) l n fs t st f v = tt

  -- behind a whole specifier
  under-good : (p : ℕ) (k : TokenKind) (s : SpecTree) (fs : List PendingNode) → IsOfSource k → Stands least fs → TakesSpec least fs → ValidSpec s
      → Good least (stack_spell fs ++ spell_spec s) k (spec_under p k s fs)
  under-good p k s (InType m z ∷ fs) t st h v =
      let e : stack_spell fs ++ ((type_start z ++ (spell_spec s ++ [])) ++ []) ≡ (stack_spell fs ++ type_start z) ++ spell_spec s = simp (append_assoc, append-nil) in
      subst (λ ks. Good least ks k (after_dims k (OfType m z s 0) DimTrees.NoDims fs)) e
      (dims-good k (OfType m z s 0) DimTrees.NoDims fs st.2 st.1 v tt)
  under-good p k s (InStruct b ∷ fs) t st h v =
      let e : stack_spell fs ++ ((body_spell b ++ (spell_spec s ++ [])) ++ []) ≡ (stack_spell fs ++ body_spell b) ++ spell_spec s = simp (append_assoc, append-nil) in
      subst (λ ks. Good least ks k (declare p k (record { body = b; spec = s; names = ObjTrees.NoDeclarators }) 0 fs)) e
      (declare-good p k (record { body = b; spec = s; names = ObjTrees.NoDeclarators }) 0 fs t st.2 st.1 (st.0, v, tt))
  under-good p k s fs t st h v = tt

  word-good : (w : Keyword) (s : SpecTree) (fs : List PendingNode) → Stands least fs → TakesSpec least fs → ValidSpec s
      → Good least (stack_spell fs ++ spell_spec s) (kind.Word w) (word_to w s fs)
  word-good w (SpecTree.Integer f ws) fs st h v =
      cond-good least (stack_spell fs ++ map kind.Word ws) (kind.Word w) (is_integer (ws ++ w ∷ [])) (AfterSpec (SpecTree.Integer f (ws ++ w ∷ [])) fs)
      (λ i. ((st, h, i), ap (λ ks. stack_spell fs ++ ks) (words-added ws) ∙ last (stack_spell fs) (map kind.Word ws) (kind.Word w ∷ [])))
    where
      words-added : (ws : List Keyword) → map kind.Word (ws ++ w ∷ []) ≡ map kind.Word ws ++ kind.Word w ∷ []
      words-added [] = refl
      words-added (x ∷ ws) = ap (λ ks. kind.Word x ∷ ks) (words-added ws)
  word-good w (SpecTree.Void f) fs st h v = tt
  word-good w (SpecTree.SizeT f) fs st h v = tt
  word-good w (SpecTree.Tag f tag) fs st h v = tt
  word-good w (SpecTree.Struct f tag ms) fs st h v = tt

  brace-good : (s : SpecTree) (fs : List PendingNode) → Stands least fs → TakesSpec least fs → ValidSpec s
      → Good least (stack_spell fs ++ spell_spec s) (kind.Sign sign.OpenBrace) (brace_to s fs)
  brace-good (SpecTree.Tag f tag) fs st h v =
      ((st, h, (v, tt)), last (stack_spell fs) (kind.Word word.Struct ∷ (kind.Name tag ∷ [])) (kind.Sign sign.OpenBrace ∷ []))
  brace-good (SpecTree.Integer f ws) fs st h v = tt
  brace-good (SpecTree.Void f) fs st h v = tt
  brace-good (SpecTree.SizeT f) fs st h v = tt
  brace-good (SpecTree.Struct f tag ms) fs st h v = tt

  after-spec-good : (p : ℕ) (k : TokenKind) (s : SpecTree) (fs : List PendingNode) → IsOfSource k → Stands least fs → TakesSpec least fs → ValidSpec s
      → Good least (stack_spell fs ++ spell_spec s) k (after_spec p k s fs)
  after-spec-good p (kind.Word w) s fs t st h v = word-good w s fs st h v
  after-spec-good p (kind.Sign sign.OpenBrace) s fs t st h v = brace-good s fs st h v
  after-spec-good p (kind.Sign x) s fs t st h v = under-good p (kind.Sign x) s fs t st h v
  after-spec-good p k s fs t st h v = under-good p k s fs t st h v

  -- behind `struct`, and in a structure
  struct-good : (k : TokenKind) (f : ℕ) (fs : List PendingNode) → IsOfSource k → Stands least fs → TakesSpec least fs
      → Good least (stack_spell fs ++ kind.Word word.Struct ∷ []) k (struct_to k f fs)
  struct-good (kind.Name tag) f fs t st h = ((st, h, name-of tag t), last (stack_spell fs) (kind.Word word.Struct ∷ []) (kind.Name tag ∷ []))
  struct-good (kind.Sign sign.OpenBrace) f fs t st h = ((st, h, (tt, tt)), last (stack_spell fs) (kind.Word word.Struct ∷ []) (kind.Sign sign.OpenBrace ∷ []))
  struct-good (kind.Sign s) f fs t st h = tt
  struct-good (kind.Number value ty) f fs t st h = tt
  struct-good (kind.Str s) f fs t st h = tt
  struct-good (kind.Word w) f fs t st h = tt

  close-struct-good : (f : ℕ) (tag : Option (List ℕ)) (ms : MemberTrees) (fs : List PendingNode) → Stands least fs → TakesSpec least fs → ValidTag tag → ValidMembers ms
      → Good least (stack_spell fs ++ kind.Word word.Struct ∷ (spell_name tag ++ kind.Sign sign.OpenBrace ∷ spell_members ms)) (kind.Sign sign.CloseBrace) (close_struct f tag ms fs)
  close-struct-good f tag MemberTrees.NoMembers fs st h v w = tt
  close-struct-good f tag (MemberTrees.MemberLine s names ms) fs st h v w =
      let xs = spell_members (MemberTrees.MemberLine s names ms) in (
        (st, h, (v, tt, w)),
        ap (λ ks. stack_spell fs ++ kind.Word word.Struct ∷ ks) (last (spell_name tag) (kind.Sign sign.OpenBrace ∷ xs) (kind.Sign sign.CloseBrace ∷ []))
            ∙ last (stack_spell fs) (kind.Word word.Struct ∷ (spell_name tag ++ kind.Sign sign.OpenBrace ∷ xs)) (kind.Sign sign.CloseBrace ∷ []),
      )

  members-good : (p : ℕ) (k : TokenKind) (b : StructBody) (fs : List PendingNode) → Stands least fs → TakesSpec least fs → BodyOk b
      → Good least (stack_spell fs ++ body_spell b) k (members_to p k b fs)
  members-good p (kind.Sign sign.CloseBrace) b fs st h v = close-struct-good b.first b.tag b.members fs st h v.0 v.1
  members-good p (kind.Sign s) b fs st h v = tt
  members-good p (kind.Word w) b fs st h v = specifier-good least goal p (kind.Word w) (InStruct b ∷ fs) (v, h, st) tt
  members-good p (kind.Name name) b fs st h v = tt
  members-good p (kind.Number value ty) b fs st h v = tt
  members-good p (kind.Str s) b fs st h v = tt

  pub shift-good : (m : Mark) (k : TokenKind) (s : State) → IsOfSource k → StateOk least s → Good least (state_spell s) k (shift least m k s)
  shift-good m k (BeforeOperand fs) t ok = operand-good least goal m k fs t ok.0 ok.1
  shift-good m k (Open paren fs) t ok = opened-good least goal m k paren fs t ok.0 ok.1
  shift-good m k (Size size fs) t ok = sized-good least goal m k size fs t ok.0 ok.1
  shift-good m k (SizeOpen size paren fs) t ok = size-opened-good least goal m k size paren fs t ok.0 ok.1
  shift-good m k (Called call name fs) t ok = called-good least goal m k call name fs t ok.0 ok.1 ok.2
  shift-good m k (Select n arrow b fs) t ok = select-good least goal k n arrow b fs t ok.0 ok.1 ok.2
  shift-good m k (AfterOperand e fs) t ok = after-good least goal m.first k e fs t ok.0 ok.1
  shift-good m k (Specifier fs) t ok = specifier-good least goal m.first k fs ok.0 ok.1
  shift-good m k (StructWord f fs) t ok = struct-good k f fs t ok.0 ok.1
  shift-good m k (Members b fs) t ok = members-good m.first k b fs ok.0 ok.1 ok.2
  shift-good m k (Declare l n fs) t ok = declare-good m.first k l n fs t ok.0 ok.1 ok.2
  shift-good m k (Dims h ds fs) t ok = dims-good k h ds fs ok.0 ok.1 ok.2 ok.3
  shift-good m k (AfterSpec s fs) t ok = after-spec-good m.first k s fs t ok.0 ok.1 ok.2
