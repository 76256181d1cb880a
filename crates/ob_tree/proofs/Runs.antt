-- Runs of the machine in parts.
use Rattle.std.proofs.Common.{◌≡◌, ℕ, suc, ◌+◌, List, [], ◌∷◌, ◌++◌, length, Option, Some, None, refl, sym, ◌∙◌, ap, arith}
use Rattle.ob_tree.specs.declared.tokens.TokenKind.{TokenKind}
use Rattle.ob_tree.specs.Places.{here}
use Rattle.ob_tree.specs.ExprStates.{State}
use Rattle.ob_tree.specs.ExprMachine.{shift, shift_if, run}

module _ (lines : ℕ → ℕ) (least : ℕ) where
  pub run-append : (p : ℕ) (xs ys : List TokenKind) (s : Option State)
      → run lines least p (xs ++ ys) s ≡ run lines least (p + length xs) ys (run lines least p xs s)
  run-append p [] ys s = let e : p + 0 ≡ p = omega arith in ap (λ q. run lines least q ys s) (sym e)
  run-append p (x ∷ xs) ys s =
      let e : p + 1 + length xs ≡ p + suc (length xs) = omega arith in
      run-append (p + 1) xs ys (shift_if least (here lines p) x s)
      ∙ ap (λ q. run lines least q ys (run lines least (p + 1) xs (shift_if least (here lines p) x s))) e

  pub run-none : (p : ℕ) (ks : List TokenKind) → run lines least p ks None ≡ None
  run-none p [] = refl
  run-none p (k ∷ ks) = run-none (p + 1) ks

  -- tokens that are read to a state, and more
  pub run-on : (p : ℕ) (xs ys : List TokenKind) (s t : Option State)
      → run lines least p xs s ≡ t → run lines least p (xs ++ ys) s ≡ run lines least (p + length xs) ys t
  run-on p xs ys s t e = run-append p xs ys s ∙ ap (λ o. run lines least (p + length xs) ys o) e

  -- tokens that are read to a state, one more, and the rest
  pub run-then : (p : ℕ) (xs : List TokenKind) (k : TokenKind) (ys : List TokenKind) (s : Option State) (t : State) (o : Option State)
      → run lines least p xs s ≡ Some t → shift least (here lines (p + length xs)) k t ≡ o
      → run lines least p (xs ++ k ∷ ys) s ≡ run lines least (p + length xs + 1) ys o
  run-then p xs k ys s t o e1 e2 =
      run-on p xs (k ∷ ys) s (Some t) e1 ∙ ap (λ x. run lines least (p + length xs + 1) ys x) e2

  -- one place for another
  pub run-from : (p q : ℕ) (ks : List TokenKind) (s : Option State) → p ≡ q → run lines least p ks s ≡ run lines least q ks s
  run-from p q ks s e = ap (λ r. run lines least r ks s) e

  -- one token, and the rest
  pub run-shift : (p : ℕ) (k : TokenKind) (ks : List TokenKind) (s : State) (o : Option State)
      → shift least (here lines p) k s ≡ o → run lines least p (k ∷ ks) (Some s) ≡ run lines least (p + 1) ks o
  run-shift p k ks s o e = ap (λ x. run lines least (p + 1) ks x) e
