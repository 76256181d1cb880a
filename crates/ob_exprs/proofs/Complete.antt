-- What the machine holds can be made a whole tree in which no further node has begun.
use Rattle.std.proofs.Common.{◌≡◌, ℕ, zero, suc, ◌+◌, ◌-◌, ◌≤◌, ◌⊎◌, inl, inr, max, List, [], ◌∷◌, ◌++◌, length, Bool, sym, ◌∙◌, ap, subst, arith, append_assoc, append-nil, length-append}
use Rattle.ob_tree.specs.declared.tokens.TokenKind.{TokenKind}
use Rattle.ob_tree.specs.declared.tokens.TokenKind.TheVariants as kind
use Rattle.ob_tree.specs.declared.tokens.Sign.TheVariants as sign
use Rattle.ob_tree.specs.Trees.{Mark, ExprTree, TypeTree, SpecTree, ObjTree, ObjTrees, DimTrees}
use Rattle.ob_tree.specs.Spelling.{spell, spell_spec, spell_dims, stars}
use Rattle.ob_tree.specs.Valid.{ValidSpec, IsOf}
use Rattle.ob_tree.specs.Places.{width_name, width_spec, width_dims, width_type}
use Rattle.ob_tree.specs.Paths.{begun, begun_spec, begun_dims, height_dims, height_members}
use Rattle.ob_tree.specs.Fronts.{BeginsExpr, BeginsSpec}
use Rattle.ob_tree.specs.ExprStates.{no_level, OfType, OfMember, StructBody, StructDeclaration, PendingNode, InParen, InIndex, InCall, InStep, InUnary, InSize, InCast, InJoin, InThen, InElse, InLength, InType, InStruct, operand_level, top_operand_level, add_dim}
use Rattle.ob_tree.proofs.SpecShifts.{length-stars}
use Rattle.ob_exprs.specs.DeepestPaths.{count, rise, inner, depth_of, deepest_stack_path}
use Rattle.ob_exprs.proofs.Shapes.{body_spell, line_spell, type_start, pending_spell, stack_spell, PendingOk, BodyOk, TakesSpec, PendingFits, Stands}
use Rattle.ob_exprs.proofs.Adding.{dims-added, dims-valid}
use Rattle.ob_exprs.proofs.SoundAfter.{level-most}
use Rattle.ob_exprs.proofs.Fills.{IsExprPending, fill, behind, fill-spell, fill-of, fill-begun}
use Rattle.ob_exprs.proofs.Filling.{x, valid-x, begun-dim, struct_with, struct-begun, struct-spell, struct-valid, length-body, begun-member, type_filled, type_behind, type-filled-spell, type-filled-of, type-filled-begun}
use Rattle.ob_tree.specs.Levels.{primary_level}

-- a whole tree of what is read begins with these tokens, and at most m nodes of a path have begun with them
abbrev pub Completes : (least m : ℕ) → List TokenKind → Type 0
Completes least m read =
    ((least ≤ primary_level) × BeginsExpr least (λ n. n ≤ m) read) ⊎ ((least ≡ no_level) × BeginsSpec (λ n. n ≤ m) read)

-- what an expression, or a specifier, that stands on these pending nodes completes to
abbrev pub NextExpr : (least m : ℕ) → List PendingNode → Type 0
NextExpr least m fs =
    (e : ExprTree) (read rest : List TokenKind) → IsOf (top_operand_level least fs) e → spell e ≡ read ++ rest → depth_of fs + begun e (length read) ≤ m
    → Completes least m (stack_spell fs ++ read)

abbrev pub NextSpec : (least m : ℕ) → List PendingNode → Type 0
NextSpec least m fs =
    (s : SpecTree) (read rest : List TokenKind) → TakesSpec least fs → ValidSpec s → spell_spec s ≡ read ++ rest → depth_of fs + begun_spec s (length read) ≤ m
    → Completes least m (stack_spell fs ++ read)

module _ (least m : ℕ) where
  -- a pending node that an expression ends as an expression
  wrap : (f : PendingNode) (fs : List PendingNode) (e : ExprTree) (read rest : List TokenKind) → IsExprPending f → PendingOk f → PendingFits least fs f → IsOf (operand_level f) e → spell e ≡ read ++ rest
      → deepest_stack_path (f ∷ fs) ≤ m → depth_of (f ∷ fs) + begun e (length read) ≤ m → NextExpr least m fs → Completes least m (stack_spell (f ∷ fs) ++ read)
  wrap f fs e read rest i k h v g l d next =
      let g2 : spell (fill f e) ≡ (pending_spell f ++ read) ++ (rest ++ behind f) =
      fill-spell f e i ∙ ap (λ ks. pending_spell f ++ (ks ++ behind f)) g ∙ groups (pending_spell f) read rest (behind f) in
      let b : begun (fill f e) (length (pending_spell f ++ read)) ≤ max (inner f) (rise f + begun e (length read)) =
      fill-begun f e (length read) (length (pending_spell f ++ read)) i k (omega (arith, ap length g, length-append read rest)) (length-append (pending_spell f) read) in
      subst (Completes least m) (sym (append_assoc (stack_spell fs) (pending_spell f) read))
      (next (fill f e) (pending_spell f ++ read) (rest ++ behind f) (fill-of f e least fs i k h v) g2 (omega arith))
    where
      groups : (a b c d : List TokenKind) → a ++ ((b ++ c) ++ d) ≡ (a ++ b) ++ (c ++ d)
      groups a b c d = simp append_assoc

  -- a length of a member's bracket
  wrap-member : (line : StructDeclaration) (n : ℕ) (name : List ℕ) (a : ℕ) (ds : DimTrees) (fs : List PendingNode) (e : ExprTree) (read rest : List TokenKind)
      → PendingOk (InLength (OfMember line n name a) ds) → TakesSpec least fs → IsOf 2 e → spell e ≡ read ++ rest
      → deepest_stack_path (InLength (OfMember line n name a) ds ∷ fs) ≤ m → depth_of (InLength (OfMember line n name a) ds ∷ fs) + begun e (length read) ≤ m
      → NextSpec least m fs → Completes least m (stack_spell (InLength (OfMember line n name a) ds ∷ fs) ++ read)
  wrap-member line n name a ds fs e read rest k h v g l d next =
      let o = ObjTree.Bare n name a (add_dim ds e) in
      let f = InLength (OfMember line n name a) ds in
      let bracket = kind.Sign sign.OpenBracket ∷ [] in
      let ends = kind.Sign sign.CloseBracket ∷ (kind.Sign sign.Semi ∷ (kind.Sign sign.CloseBrace ∷ [])) in
      let g2 : spell_spec (struct_with line o) ≡ (pending_spell f ++ read) ++ (rest ++ ends) =
      struct-spell line o
      ∙ ap (λ ks. line_spell line ++ ((stars n ++ kind.Name name ∷ ks) ++ kind.Sign sign.Semi ∷ (kind.Sign sign.CloseBrace ∷ []))) (dims-added ds e)
      ∙ ap (λ ks. line_spell line ++ ((stars n ++ kind.Name name ∷ (spell_dims ds ++ kind.Sign sign.OpenBracket ∷ (ks ++ kind.Sign sign.CloseBracket ∷ []))) ++ kind.Sign sign.Semi ∷ (kind.Sign sign.CloseBrace ∷ []))) g
      ∙ groups (line_spell line) (stars n) (kind.Name name ∷ []) (spell_dims ds) bracket read rest (kind.Sign sign.CloseBracket ∷ []) (kind.Sign sign.Semi ∷ (kind.Sign sign.CloseBrace ∷ [])) in
      let j = n + 1 + width_dims ds + 1 + length read in
      let w : length (pending_spell f ++ read) ≡ length (line_spell line) + j = omega (
        arith,
        length-append (pending_spell f) read,
        length-append (line_spell line ++ (stars n ++ kind.Name name ∷ [])) (spell_dims ds ++ bracket),
        length-append (line_spell line) (stars n ++ kind.Name name ∷ []),
        length-append (stars n) (kind.Name name ∷ []),
        length-append (spell_dims ds) bracket,
        length-stars n,
      ) in
      let b : begun_dims (add_dim ds e) (j - (n + 1)) ≤ max (height_dims ds) (count ds + (1 + begun e (length read))) =
      begun-dim ds e (j - (n + 1)) (length read) k.1 (omega arith) in
      subst (Completes least m) (sym (append_assoc (stack_spell fs) (pending_spell f) read))
      (next (struct_with line o) (pending_spell f ++ read) (rest ++ ends) h (struct-valid line o k.0.0 (k.0.1, dims-valid ds e k.1 v)) g2
      (omega (arith, struct-begun line o (length (pending_spell f ++ read)) j k.0.0 w)))
    where
      groups : (l s n d b r t c z : List TokenKind) → l ++ ((s ++ (n ++ (d ++ (b ++ ((r ++ t) ++ c))))) ++ z) ≡ (((l ++ (s ++ n)) ++ (d ++ b)) ++ r) ++ (t ++ (c ++ z))
      groups l s n d b r t c z = simp append_assoc

  expr-node : (f : PendingNode) (fs : List PendingNode) (e : ExprTree) (read rest : List TokenKind) → PendingOk f → PendingFits least fs f → IsOf (operand_level f) e → spell e ≡ read ++ rest
      → deepest_stack_path (f ∷ fs) ≤ m → depth_of (f ∷ fs) + begun e (length read) ≤ m → NextExpr least m fs → NextSpec least m fs → Completes least m (stack_spell (f ∷ fs) ++ read)
  expr-node (InLength (OfMember line n name a) ds) fs e read rest k h v g l d next specs = wrap-member line n name a ds fs e read rest k h v g l d specs
  expr-node (InType n z) fs e read rest k h v g l d next specs = absurd (omega (arith, v.1, level-most e))
  expr-node (InStruct b) fs e read rest k h v g l d next specs = absurd (omega (arith, v.1, level-most e))
  expr-node (InParen n) fs e read rest k h v g l d next specs = wrap (InParen n) fs e read rest tt k h v g l d next
  expr-node (InIndex n b) fs e read rest k h v g l d next specs = wrap (InIndex n b) fs e read rest tt k h v g l d next
  expr-node (InCall n name es) fs e read rest k h v g l d next specs = wrap (InCall n name es) fs e read rest tt k h v g l d next
  expr-node (InStep n down) fs e read rest k h v g l d next specs = wrap (InStep n down) fs e read rest tt k h v g l d next
  expr-node (InUnary n s) fs e read rest k h v g l d next specs = wrap (InUnary n s) fs e read rest tt k h v g l d next
  expr-node (InSize n) fs e read rest k h v g l d next specs = wrap (InSize n) fs e read rest tt k h v g l d next
  expr-node (InCast n t) fs e read rest k h v g l d next specs = wrap (InCast n t) fs e read rest tt k h v g l d next
  expr-node (InJoin n op a) fs e read rest k h v g l d next specs = wrap (InJoin n op a) fs e read rest tt k h v g l d next
  expr-node (InThen n c) fs e read rest k h v g l d next specs = wrap (InThen n c) fs e read rest tt k h v g l d next
  expr-node (InElse n c y) fs e read rest k h v g l d next specs = wrap (InElse n c y) fs e read rest tt k h v g l d next
  expr-node (InLength (OfType n z s i) ds) fs e read rest k h v g l d next specs = wrap (InLength (OfType n z s i) ds) fs e read rest tt k h v g l d next

  -- a pending node that a specifier ends
  type-node : (n : Mark) (z : Bool) (fs : List PendingNode) (s : SpecTree) (read rest : List TokenKind) → PendingFits least fs (InType n z) → ValidSpec s → spell_spec s ≡ read ++ rest
      → deepest_stack_path (InType n z ∷ fs) ≤ m → depth_of (InType n z ∷ fs) + begun_spec s (length read) ≤ m → NextExpr least m fs → Completes least m (stack_spell (InType n z ∷ fs) ++ read)
  type-node n z fs s read rest h v g l d next =
      let t = TypeTree.TypeName s 0 DimTrees.NoDims in
      let j = length read in
      let g2 : spell (type_filled n z t) ≡ (type_start z ++ read) ++ (rest ++ type_behind z) =
      type-filled-spell n z t ∙ ap (λ ks. type_start z ++ (ks ++ type_behind z)) (append-nil (spell_spec s) ∙ g) ∙ groups (type_start z) read rest (type_behind z) in
      let w : width_type t ≡ width_spec s = ap length (append-nil (spell_spec s)) in
      subst (Completes least m) (sym (append_assoc (stack_spell fs) (type_start z) read))
      (next (type_filled n z t) (type_start z ++ read) (rest ++ type_behind z) (type-filled-of n z t least fs (v, tt) h) g2
      (omega (arith, type-filled-begun n z t (length (type_start z ++ read)) j (length-append (type_start z) read) (omega (arith, ap length g, length-append read rest)))))
    where
      groups : (a b c d : List TokenKind) → a ++ ((b ++ c) ++ d) ≡ (a ++ b) ++ (c ++ d)
      groups a b c d = simp append_assoc

  struct-node : (b : StructBody) (fs : List PendingNode) (s : SpecTree) (read rest : List TokenKind) → BodyOk b → TakesSpec least fs → ValidSpec s → spell_spec s ≡ read ++ rest
      → deepest_stack_path (InStruct b ∷ fs) ≤ m → depth_of (InStruct b ∷ fs) + begun_spec s (length read) ≤ m → NextSpec least m fs → Completes least m (stack_spell (InStruct b ∷ fs) ++ read)
  struct-node b fs s read rest k h v g l d next =
      let line : StructDeclaration = record { body = b; spec = s; names = ObjTrees.NoDeclarators } in
      let o = ObjTree.Bare 0 x 0 DimTrees.NoDims in
      let j = length read in
      let q = length (body_spell b ++ read) in
      let ends = kind.Name x ∷ (kind.Sign sign.Semi ∷ (kind.Sign sign.CloseBrace ∷ [])) in
      let g2 : spell_spec (struct_with line o) ≡ (body_spell b ++ read) ++ (rest ++ ends) =
      struct-spell line o ∙ ap (λ ks. (body_spell b ++ (ks ++ [])) ++ ends) g ∙ groups (body_spell b) read rest ends in
      let n : q ≡ length (body_spell b) + j = length-append (body_spell b) read in
      let w : j ≤ width_spec s = omega (arith, ap length g, length-append read rest) in
      let z : j - width_spec s ≡ 0 = omega arith in
      let c : begun_spec (struct_with line o) q ≤ 1 + max (height_members b.members) (begun_spec s j) = struct-few b s o q j k v n z in
      subst (Completes least m) (sym (append_assoc (stack_spell fs) (body_spell b) read))
      (next (struct_with line o) (body_spell b ++ read) (rest ++ ends) h (struct-valid line o (k, v, tt) (valid-x, tt)) g2 (omega arith))
    where
      groups : (a b c d : List TokenKind) → (a ++ ((b ++ c) ++ [])) ++ d ≡ (a ++ b) ++ (c ++ d)
      groups a b c d = simp (append_assoc, append-nil)

      struct-few : (b : StructBody) (s : SpecTree) (o : ObjTree) (q j : ℕ) → BodyOk b → ValidSpec s → q ≡ length (body_spell b) + j → j - width_spec s ≡ 0
          → begun_spec (struct_with (record { body = b; spec = s; names = ObjTrees.NoDeclarators }) (ObjTree.Bare 0 x 0 DimTrees.NoDims)) q ≤ 1 + max (height_members b.members) (begun_spec s j)
      struct-few b s o zero j k v n z = omega arith
      struct-few b s o (suc q) j k v n z =
          let c = begun-member b.members s (ObjTrees.Declarator (ObjTree.Bare 0 x 0 DimTrees.NoDims) ObjTrees.NoDeclarators) (suc q - (width_name b.tag + 2)) j k.1 (omega (arith, length-body b)) in
          omega (arith, c, z)

  mutual
    pub complete-expr : (fs : List PendingNode) (e : ExprTree) (read rest : List TokenKind) → Stands least fs → IsOf (top_operand_level least fs) e → spell e ≡ read ++ rest
        → deepest_stack_path fs ≤ m → depth_of fs + begun e (length read) ≤ m → Completes least m (stack_spell fs ++ read)
    complete-expr [] e read rest s v g l d =
        inl (omega (arith, v.1, level-most e), record { whole = e; rest = rest; valid = v; spelled = g; limit = omega arith })
    complete-expr (f ∷ fs) e read rest s v g l d =
        expr-node f fs e read rest s.0 s.1 v g l d
        (λ e2 r t v2 g2 d2. complete-expr fs e2 r t s.2 v2 g2 (omega arith) d2)
        (λ s2 r t h2 v2 g2 d2. complete-spec fs s2 r t s.2 h2 v2 g2 (omega arith) d2)

    pub complete-spec : (fs : List PendingNode) (s : SpecTree) (read rest : List TokenKind) → Stands least fs → TakesSpec least fs → ValidSpec s → spell_spec s ≡ read ++ rest
        → deepest_stack_path fs ≤ m → depth_of fs + begun_spec s (length read) ≤ m → Completes least m (stack_spell fs ++ read)
    complete-spec [] s read rest st h v g l d =
        inr (h, record { whole = s; rest = rest; valid = v; spelled = g; limit = omega arith })
    complete-spec (InType n z ∷ fs) s read rest st h v g l d =
        type-node n z fs s read rest st.1 v g l d (λ e2 r t v2 g2 d2. complete-expr fs e2 r t st.2 v2 g2 (omega arith) d2)
    complete-spec (InStruct b ∷ fs) s read rest st h v g l d =
        struct-node b fs s read rest st.0 st.1 v g l d (λ s2 r t h2 v2 g2 d2. complete-spec fs s2 r t st.2 h2 v2 g2 (omega arith) d2)
    complete-spec (f ∷ fs) s read rest st h v g l d = absurd h
