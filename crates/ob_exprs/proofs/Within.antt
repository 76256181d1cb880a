-- Runs that keep within so many nodes on a path, in parts.
use Rattle.std.proofs.Common.{◌≡◌, ℕ, zero, suc, ◌+◌, ◌-◌, ◌<◌, ◌≤◌, List, [], ◌∷◌, ◌++◌, length, map, take, Bool, true, Option, Some, None, refl, sym, ◌∙◌, ap, subst, arith, inl, inr, ◌⊎◌, append_assoc}
use Rattle.std.specs.Prelude.{IsTrue}
use Rattle.std.proofs.lemmas.List.{take-append-le}
use Rattle.std.proofs.lemmas.Bool.{cases_lt}
use Rattle.std.proofs.Math.Seq.{take-append-add}
use Rattle.ob_tree.specs.declared.tokens.TokenKind.{TokenKind}
use Rattle.ob_tree.specs.declared.tokens.TokenKind.TheVariants as kind
use Rattle.ob_tree.specs.declared.tokens.Keyword.{Keyword}
use Rattle.ob_tree.specs.declared.tokens.Sign.TheVariants as sign
use Rattle.ob_tree.specs.Trees.{Mark, ExprTree, SpecTree, ObjTrees, DimTrees}
use Rattle.ob_tree.specs.Spelling.{stars, spell_dims}
use Rattle.ob_tree.specs.Integers.{is_integer}
use Rattle.ob_tree.specs.Paths.{height_spec}
use Rattle.ob_tree.specs.Valid.{ValidDims}
use Rattle.ob_tree.specs.Places.{here}
use Rattle.ob_tree.specs.ExprStates.{OfType, StructBody, StructDeclaration, PendingNode, InType, InStruct, State, AfterOperand, Specifier, Declare, Dims, AfterSpec}
use Rattle.ob_tree.specs.ExprMachine.{shift, run}
use Rattle.ob_tree.proofs.IntegerWords.{integer-part}
use Rattle.ob_tree.proofs.SignShifts.{no}
use Rattle.ob_tree.proofs.Runs.{run-on, run-shift}
use Rattle.ob_tree.proofs.SpecShifts.{integer-starts}
use Rattle.ob_exprs.specs.DeepestPaths.{line_height, depth_of, deepest_stack_path, newest_stack_path, deepest_path}
use Rattle.ob_exprs.proofs.Heights.{depth-path}

-- the machine goes on, and what it holds has at most m nodes on a path
abbrev pub Within : ℕ → Option State → Type 0
Within m None = ⊥
Within m (Some s) = deepest_path s ≤ m

pub newest_path-stack : (fs : List PendingNode) → newest_stack_path fs ≤ deepest_stack_path fs
newest_path-stack [] = omega arith
newest_path-stack (f ∷ fs) = omega arith

module _ (lines : ℕ → ℕ) (least : ℕ) where
  -- a part of two lists
  pub within-on : (p k m : ℕ) (xs ys : List TokenKind) (s : Option State) (t : State)
      → run lines least p xs s ≡ Some t
      → (k ≤ length xs → Within m (run lines least p (take k xs) s))
      → ((j : ℕ) → k ≡ length xs + suc j → Within m (run lines least (p + length xs) (take (suc j) ys) (Some t)))
      → Within m (run lines least p (take k (xs ++ ys)) s)
  within-on p k m xs ys s t e first second = go (cases_lt (length xs) k)
    where
      go : (length xs < k) ⊎ (k ≤ length xs) → Within m (run lines least p (take k (xs ++ ys)) s)
      go (inr h) = rw (take-append-le k xs ys h) (first h)
      go (inl h) =
          let j : ℕ = k - (length xs + 1) in
          let n : k ≡ length xs + suc j = omega arith in
          let t2 : take k (xs ++ ys) ≡ xs ++ take (suc j) ys = ap (λ i. take i (xs ++ ys)) n ∙ take-append-add xs ys (suc j) in
          subst (Within m) (sym (ap (λ l. run lines least p l s) t2 ∙ run-on lines least p xs (take (suc j) ys) s (Some t) e)) (second j n)

  -- a part of two lists with a token between them
  pub within-then : (p k m : ℕ) (xs : List TokenKind) (c : TokenKind) (ys : List TokenKind) (s : Option State) (t : State) (o : Option State)
      → run lines least p xs s ≡ Some t → shift least (here lines (p + length xs)) c t ≡ o
      → (k ≤ length xs → Within m (run lines least p (take k xs) s))
      → ((j : ℕ) → k ≡ length xs + 1 + j → Within m (run lines least (p + length xs + 1) (take j ys) o))
      → Within m (run lines least p (take k (xs ++ c ∷ ys)) s)
  within-then p k m xs c ys s t o e1 e2 first second =
      within-on p k m xs (c ∷ ys) s t e1 first
      (λ j n. subst (Within m) (sym (ap (λ x. run lines least (p + length xs + 1) (take j ys) x) e2)) (second j (omega arith)))

  -- nothing more is read
  pub within-end : (p k m : ℕ) (o : Option State) → Within m o → Within m (run lines least p (take k []) o)
  within-end p zero m o h = h
  within-end p (suc k) m o h = h

  -- the same tokens in other groups, and a run that is another one
  pub within-same : (p m k : ℕ) (xs ys : List TokenKind) (s : Option State) → xs ≡ ys
      → Within m (run lines least p (take k ys) s) → Within m (run lines least p (take k xs) s)
  within-same p m k xs ys s e w = subst (λ l. Within m (run lines least p (take k l) s)) (sym e) w

  pub within-as : (m : ℕ) (a b : Option State) → a ≡ b → Within m b → Within m a
  within-as m a b e w = subst (Within m) (sym e) w

  -- string literals
  pub strings-reach : (p k m : ℕ) (n : Mark) (xs ss : List (List ℕ)) (fs : List PendingNode) → deepest_stack_path fs ≤ m → depth_of fs + 1 ≤ m
      → Within m (run lines least p (take k (map kind.Str ss)) (Some (AfterOperand (ExprTree.Str n xs) fs)))
  strings-reach p zero m n xs ss fs l d = omega arith
  strings-reach p (suc k) m n xs [] fs l d = omega arith
  strings-reach p (suc k) m n xs (s ∷ ss) fs l d = strings-reach (p + 1) k m n (xs ++ s ∷ []) ss fs l d

  -- the words of an integer type
  words-reach : (p k m f : ℕ) (xs ws : List Keyword) (fs : List PendingNode) → IsTrue (is_integer (xs ++ ws)) → deepest_stack_path fs ≤ m
      → Within m (run lines least p (take k (map kind.Word ws)) (Some (AfterSpec (SpecTree.Integer f xs) fs)))
  words-reach p zero m f xs ws fs h l = omega (arith, depth-path fs)
  words-reach p (suc k) m f xs [] fs h l = omega (arith, depth-path fs)
  words-reach p (suc k) m f xs (w ∷ ws) fs h l =
      let part : is_integer (xs ++ w ∷ []) ≡ true = integer-part xs w ws h in
      let again : IsTrue (is_integer ((xs ++ w ∷ []) ++ ws)) = subst (λ x. IsTrue (is_integer x)) (sym (append_assoc xs (w ∷ []) ws)) h in
      within-as m _ (run lines least (p + 1) (take k (map kind.Word ws)) (Some (AfterSpec (SpecTree.Integer f (xs ++ w ∷ [])) fs)))
      (run-shift lines least p (kind.Word w) (take k (map kind.Word ws)) (AfterSpec (SpecTree.Integer f xs) fs) (Some (AfterSpec (SpecTree.Integer f (xs ++ w ∷ [])) fs)) (rw part refl))
      (words-reach (p + 1) k m f (xs ++ w ∷ []) ws fs again l)

  pub integer-reach : (p k m : ℕ) (ws : List Keyword) (fs : List PendingNode) → IsTrue (is_integer ws) → deepest_stack_path fs ≤ m
      → Within m (run lines least p (take k (map kind.Word ws)) (Some (Specifier fs)))
  integer-reach p zero m ws fs h l = omega (arith, newest_path-stack fs)
  integer-reach p (suc k) m [] fs h l = no h
  integer-reach p (suc k) m (w ∷ ws) fs h l =
      within-as m _ (run lines least (p + 1) (take k (map kind.Word ws)) (Some (AfterSpec (SpecTree.Integer p (w ∷ [])) fs)))
      (run-shift lines least p (kind.Word w) (take k (map kind.Word ws)) (Specifier fs) (Some (AfterSpec (SpecTree.Integer p (w ∷ [])) fs)) (integer-starts lines least p w ws fs h))
      (words-reach (p + 1) k m p (w ∷ []) ws fs h l)

  -- stars, or some of them
  pub type-stars-reach : (p k m : ℕ) (t : Mark) (z : Bool) (s : SpecTree) (i n : ℕ) (fs : List PendingNode)
      → k ≤ n → deepest_stack_path fs ≤ m → depth_of fs + (1 + height_spec s) ≤ m → depth_of fs + (1 + (i + k)) ≤ m
      → Within m (run lines least p (take k (stars n)) (Some (Dims (OfType t z s i) DimTrees.NoDims fs)))
  type-stars-reach p zero m t z s i n fs h l a d = omega arith
  type-stars-reach p (suc k) m t z s i zero fs h l a d = absurd (omega arith)
  type-stars-reach p (suc k) m t z s i (suc n) fs h l a d = type-stars-reach (p + 1) k m t z s (i + 1) n fs (omega arith) l a (omega arith)

  pub member-stars-reach : (p k m : ℕ) (l : StructDeclaration) (i n : ℕ) (fs : List PendingNode)
      → k ≤ n → deepest_stack_path fs ≤ m → depth_of fs + (1 + line_height l) ≤ m → depth_of fs + (1 + (i + k)) ≤ m
      → Within m (run lines least p (take k (stars n)) (Some (Declare l i fs)))
  member-stars-reach p zero m l i n fs h a b d = omega arith
  member-stars-reach p (suc k) m l i zero fs h a b d = absurd (omega arith)
  member-stars-reach p (suc k) m l i (suc n) fs h a b d = member-stars-reach (p + 1) k m l (i + 1) n fs (omega arith) a b (omega arith)

  -- behind a whole specifier
  pub type-on-part : (p j n : ℕ) (s : SpecTree) (m : Mark) (z : Bool) (ds : DimTrees) (ys : List TokenKind) (fs : List PendingNode) → ValidDims ds
      → run lines least p (take (suc j) (stars n ++ (spell_dims ds ++ kind.Sign sign.CloseParen ∷ ys))) (Some (AfterSpec s (InType m z ∷ fs)))
      ≡ run lines least p (take (suc j) (stars n ++ (spell_dims ds ++ kind.Sign sign.CloseParen ∷ ys))) (Some (Dims (OfType m z s 0) DimTrees.NoDims fs))
  type-on-part p j (suc n) s m z ds ys fs v = refl
  type-on-part p j zero s m z DimTrees.NoDims ys fs v = refl
  type-on-part p j zero s m z (DimTrees.Unsized ds) ys fs v = absurd v
  type-on-part p j zero s m z (DimTrees.Sized e ds) ys fs v = refl

  pub line-on-part : (p j n : ℕ) (s : SpecTree) (b : StructBody) (name : List ℕ) (ys : List TokenKind) (fs : List PendingNode)
      → run lines least p (take (suc j) (stars n ++ kind.Name name ∷ ys)) (Some (AfterSpec s (InStruct b ∷ fs)))
      ≡ run lines least p (take (suc j) (stars n ++ kind.Name name ∷ ys)) (Some (Declare (record { body = b; spec = s; names = ObjTrees.NoDeclarators }) 0 fs))
  line-on-part p j zero s b name ys fs = refl
  line-on-part p j (suc n) s b name ys fs = refl
