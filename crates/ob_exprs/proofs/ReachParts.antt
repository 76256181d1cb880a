-- Parts of trees whose nodes that have begun bound what the machine holds.
use Rattle.std.proofs.Common.{◌≡◌, ℕ, zero, suc, ◌+◌, ◌≤◌, List, [], ◌∷◌, ◌++◌, length, take, Bool, false, true, Option, Some, sym, ◌∙◌, ap, arith, inl, inr, append_assoc, length-append}
use Rattle.ob_tree.specs.declared.tokens.TokenKind.{TokenKind}
use Rattle.ob_tree.specs.declared.tokens.TokenKind.TheVariants as kind
use Rattle.ob_tree.specs.declared.tokens.Sign.TheVariants as sign
use Rattle.ob_tree.specs.Trees.{Mark, ExprTree, TypeTree, SpecTree, MemberTrees, ObjTree, ObjTrees}
use Rattle.ob_tree.specs.Spelling.{spell, spell_members, spell_obj, spell_dims, stars}
use Rattle.ob_tree.specs.Valid.{ValidMembers, ValidMemberName, HasMember, IsOf}
use Rattle.ob_tree.specs.Places.{here, signed, place, place_members, width}
use Rattle.ob_tree.specs.Paths.{begun, begun_members, height, height_members, height_type}
use Rattle.ob_tree.specs.ExprStates.{StructBody, PendingNode, top_operand_level, InSize, InStruct, BeforeOperand, Size, Select, AfterOperand, Members, Declare, AfterSpec}
use Rattle.ob_tree.specs.ExprMachine.{run}
use Rattle.ob_tree.proofs.PlaceKeeps.{has-member, mark-place, of-place}
use Rattle.ob_tree.proofs.Unreduced.{state_behind}
use Rattle.ob_tree.proofs.SignShifts.{shift-dot, shift-arrow}
use Rattle.ob_tree.proofs.FirstTokens.{UnaryFirst, NoParen, first-take, paren-take, size-list}
use Rattle.ob_tree.proofs.SpecShifts.{more_members, type_state, struct-ends}
use Rattle.ob_tree.proofs.Through.{through, through-members}
use Rattle.ob_exprs.specs.DeepestPaths.{depth_of, deepest_stack_path}
use Rattle.ob_exprs.proofs.Begun.{begun-full, full-members}
use Rattle.ob_exprs.proofs.Heights.{height-place, members-place}
use Rattle.ob_exprs.proofs.Within.{Within, within-then, within-end, within-same, within-as, line-on-part}
use Rattle.ob_tree.specs.Levels.{postfix_level}

-- what a type name leaves has its nodes
pub type-path : (m : ℕ) (n : Mark) (z : Bool) (t : TypeTree) (fs : List PendingNode) → deepest_stack_path fs ≤ m → depth_of fs + (1 + height_type t) ≤ m → Within m (Some (type_state n z t fs))
type-path m n false t fs l d = omega arith
type-path m n true t fs l d = omega arith

pub length-more : (xs : List TokenKind) (k : TokenKind) → length (xs ++ k ∷ []) ≡ length xs + 1
length-more xs k = length-append xs (k ∷ [])

module _ (lines : ℕ → ℕ) (least : ℕ) where
  -- the name behind `.` and `->`
  pub within-name : (n : Mark) (arrow : Bool) (b : ExprTree) (name : List ℕ) (k q m : ℕ) (fs : List PendingNode) → deepest_stack_path fs ≤ m → depth_of fs + (1 + height b) ≤ m
      → Within m (run lines least q (take k (kind.Name name ∷ [])) (Some (Select n arrow b fs)))
  within-name n arrow b name zero q m fs l d = omega arith
  within-name n false b name (suc k) q m fs l d = within-end lines least (q + 1) k m (Some (AfterOperand (ExprTree.Member n b name) fs)) (omega arith)
  within-name n true b name (suc k) q m fs l d = within-end lines least (q + 1) k m (Some (AfterOperand (ExprTree.Arrow n b name) fs)) (omega arith)

  pub obj-on-part : (o : ObjTree) (k q : ℕ) (s : SpecTree) (b : StructBody) (zs : List TokenKind) (fs : List PendingNode) → ValidMemberName o
      → run lines least q (take (suc k) (spell_obj o ++ zs)) (Some (AfterSpec s (InStruct b ∷ fs)))
      ≡ run lines least q (take (suc k) (spell_obj o ++ zs)) (Some (Declare (record { body = b; spec = s; names = ObjTrees.NoDeclarators }) 0 fs))
  obj-on-part (ObjTree.Initial n name a ds i) k q s b zs fs v = absurd v
  obj-on-part (ObjTree.Bare n name a ds) k q s b zs fs v =
      let e = append_assoc (stars n) (kind.Name name ∷ spell_dims ds) zs in
      ap (λ ks. run lines least q (take (suc k) ks) (Some (AfterSpec s (InStruct b ∷ fs)))) e
      ∙ line-on-part lines least q k n s b name (spell_dims ds ++ zs) fs
      ∙ ap (λ ks. run lines least q (take (suc k) ks) (Some (Declare (record { body = b; spec = s; names = ObjTrees.NoDeclarators }) 0 fs))) (sym e)

  -- behind `sizeof`
  pub reach-size : (e : ExprTree) (k p m : ℕ) (fs : List PendingNode) → deepest_stack_path fs ≤ m → depth_of fs + 1 ≤ m → UnaryFirst (spell e)
      → Within m (run lines least (p + 1) (take k (spell e)) (Some (BeforeOperand (InSize (here lines p) ∷ fs))))
      → Within m (run lines least (p + 1) (take k (spell e)) (Some (Size (here lines p) fs)))
  reach-size e zero p m fs l d f w = omega arith
  reach-size e (suc k) p m fs l d (inl f) w =
      within-as lines least m _ (run lines least (p + 1) (take (suc k) (spell e)) (Some (BeforeOperand (InSize (here lines p) ∷ fs))))
      (size-list lines least (p + 1) (here lines p) (take (suc k) (spell e)) fs (inl (first-take NoParen k (spell e) f))) w
  reach-size e (suc zero) p m fs l d (inr f) w =
      within-same lines least (p + 1) m 1 (spell e) (kind.Sign sign.OpenParen ∷ (f.token ∷ f.rest)) (Some (Size (here lines p) fs)) f.are (omega arith)
  reach-size e (suc (suc k)) p m fs l d (inr f) w =
      within-as lines least m _ (run lines least (p + 1) (take (suc (suc k)) (spell e)) (Some (BeforeOperand (InSize (here lines p) ∷ fs))))
      (size-list lines least (p + 1) (here lines p) (take (suc (suc k)) (spell e)) fs (inr (paren-take k (spell e) f))) w

  -- the members of a structure and its closing brace
  pub reach-body : (ms : MemberTrees) (k p m first : ℕ) (tag : Option (List ℕ)) (fs : List PendingNode) → HasMember ms → ValidMembers ms
      → deepest_stack_path fs ≤ m → depth_of fs + (1 + begun_members ms k) ≤ m
      → Within m (run lines least p (take k (spell_members ms)) (Some (Members (record { first = first; tag = tag; members = MemberTrees.NoMembers }) fs)))
      → Within m (run lines least p (take k (spell_members ms ++ kind.Sign sign.CloseBrace ∷ [])) (Some (Members (record { first = first; tag = tag; members = MemberTrees.NoMembers }) fs)))
  reach-body ms k p m first tag fs h v l d w =
      let b : StructBody = record { first = first; tag = tag; members = MemberTrees.NoMembers } in
      let ms' = place_members lines p ms in
      within-then lines least p k m (spell_members ms) (kind.Sign sign.CloseBrace) [] (Some (Members b fs)) (Members (more_members b ms') fs) (Some (AfterSpec (SpecTree.Struct first tag ms') fs))
      (through-members lines least ms p b fs v)
      (struct-ends first tag ms' fs (has-member lines p ms h))
      (λ _. w)
      (λ j n. let hm : height_members ms' ≡ begun_members ms k = members-place lines p ms ∙ sym (full-members ms k v (omega arith)) in
      within-end lines least _ j m (Some (AfterSpec (SpecTree.Struct first tag ms') fs)) (omega arith))

  pub member-reach : (n : Mark) (b : ExprTree) (name : List ℕ) (k p m : ℕ) (fs : List PendingNode) → IsOf (top_operand_level least fs) (ExprTree.Member n b name)
      → deepest_stack_path fs ≤ m → depth_of fs + (1 + begun b (suc k)) ≤ m → Within m (run lines least p (take (suc k) (spell b)) (Some (BeforeOperand fs)))
      → Within m (run lines least p (take (suc k) (spell (ExprTree.Member n b name))) (Some (BeforeOperand fs)))
  member-reach n b name k p m fs v l d w =
      let b' = place lines p b in
      let q = p + width b in
      within-then lines least p (suc k) m (spell b) (kind.Sign sign.Dot) (kind.Name name ∷ []) (Some (BeforeOperand fs)) (state_behind b' fs) (Some (Select (signed lines p q) false b' fs))
      (through lines least b p fs (v.0.0, omega (arith, v.1, v.0.1)))
      (shift-dot least (here lines q) b' fs (of-place lines p postfix_level b (v.0.0, v.0.1)).1 ∙ ap (λ k. Some (Select k false b' fs)) (mark-place lines p q b))
      (λ _. w)
      (λ j n. let hb : height b' ≡ begun b (suc k) = height-place lines p b ∙ sym (begun-full b (suc k) v.0.0 (omega arith)) in
      within-name (signed lines p q) false b' name j (q + 1) m fs l (omega arith))

  pub arrow-reach : (n : Mark) (b : ExprTree) (name : List ℕ) (k p m : ℕ) (fs : List PendingNode) → IsOf (top_operand_level least fs) (ExprTree.Arrow n b name)
      → deepest_stack_path fs ≤ m → depth_of fs + (1 + begun b (suc k)) ≤ m → Within m (run lines least p (take (suc k) (spell b)) (Some (BeforeOperand fs)))
      → Within m (run lines least p (take (suc k) (spell (ExprTree.Arrow n b name))) (Some (BeforeOperand fs)))
  arrow-reach n b name k p m fs v l d w =
      let b' = place lines p b in
      let q = p + width b in
      within-then lines least p (suc k) m (spell b) (kind.Sign sign.Arrow) (kind.Name name ∷ []) (Some (BeforeOperand fs)) (state_behind b' fs) (Some (Select (signed lines p q) true b' fs))
      (through lines least b p fs (v.0.0, omega (arith, v.1, v.0.1)))
      (shift-arrow least (here lines q) b' fs (of-place lines p postfix_level b (v.0.0, v.0.1)).1 ∙ ap (λ k. Some (Select k true b' fs)) (mark-place lines p q b))
      (λ _. w)
      (λ j n. let hb : height b' ≡ begun b (suc k) = height-place lines p b ∙ sym (begun-full b (suc k) v.0.0 (omega arith)) in
      within-name (signed lines p q) true b' name j (q + 1) m fs l (omega arith))
