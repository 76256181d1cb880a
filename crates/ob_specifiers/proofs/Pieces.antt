-- String literals: joined piece by piece, and as static objects.
use Rattle.std.proofs.Common.{◌≡◌, ◌<◌, ◌+◌, ℕ, zero, suc, List, [], ◌∷◌, ◌++◌, length, take, get_or, sym, ap, ◌∙◌, arith, append_assoc}
use Rattle.std.proofs.lemmas.List.{append-nil}
use Rattle.std.specs.Prelude.{false, true, Result, Ok, Err, IfOk, OnOk}
use Rattle.std.proofs.lemmas.Bool.{cond-true, cond-false}
use Rattle.ob_tree.specs.declared.faults.TypeKind.TheVariants as kind
use Rattle.ob_tree.specs.Sizes.{is_complete}
use Rattle.ob_tree.specs.Trees.{Mark}
use Rattle.ob_tree.specs.Types.{PlainType}
use Rattle.ob_typed.specs.Conversions.{Checked}
use Rattle.ob_typed.specs.Faults.{fault}
use Rattle.ob_typed.specs.Scopes.{Known}
use Rattle.ob_typed.specs.Strings.{joined_bytes, string, string_object, string_type, with_static}
use Rattle.ob_typed.specs.TypedTree.{TypedLean}

pub joined_more : (ss : List (List ℕ)) (i : ℕ) (d : List ℕ) → i < length ss → joined_bytes (take i ss) ++ get_or ss i d ≡ joined_bytes (take (i + 1) ss)
joined_more [] i d h = absurd (omega (arith, h))
joined_more (s ∷ ss) zero d h = sym (append-nil s)
joined_more (s ∷ ss) (suc i) d h =
    let n : suc i + 1 ≡ suc (i + 1) = omega arith in
    append_assoc s (joined_bytes (take i ss)) (get_or ss i d) ∙ ap (λ r. s ++ r) (joined_more ss i d (omega (arith, h)))
    ∙ ap (λ k. joined_bytes (take k (s ∷ ss))) (sym n)

module _ (m : Mark) (bytes : List ℕ) (k : Known) where
  pub string_refused : is_complete k.structs (string_type bytes) ≡ false → string m bytes k ≡ fault kind.Constant m.first
  string_refused h = cond-false (is_complete k.structs (string_type bytes)) _ (fault kind.Constant m.first) h

  pub string_taken : {E : Type 0} (r : Result ℕ E) (n : ℕ) (p : Checked) (after : Known) (t : PlainType) → is_complete k.structs (string_type bytes) ≡ true → r ≡ Ok n → IfOk r (λ i. i ≡ length k.statics) → OnOk r (after ≡ with_static k (string_object m.line bytes)) → t ≡ string_type bytes → p ≡ Checked.Place m.line t (TypedLean.Static n) → string m bytes k ≡ Ok (p, after)
  string_taken (Err e) n p after t c is number known ty place = absurd cc
  string_taken (Ok i) n p after t c is number known ty place =
      let same : n ≡ length k.statics = cc in
      let whole : p ≡ Checked.Place m.line (string_type bytes) (TypedLean.Static (length k.statics)) =
      place ∙ ap (λ u. Checked.Place m.line u (TypedLean.Static n)) ty ∙ ap (λ x. Checked.Place m.line (string_type bytes) (TypedLean.Static x)) same in
      cond-true (is_complete k.structs (string_type bytes)) _ (fault kind.Constant m.first) c
      ∙ ap (λ x. Ok (x, with_static k (string_object m.line bytes))) (sym whole) ∙ ap (λ x. Ok (p, x)) (sym known)
