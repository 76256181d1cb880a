-- What lists spell, an item at a time.
use Rattle.std.proofs.Common.{◌≡◌, ℕ, zero, suc, ◌+◌, ◌<◌, List, [], ◌∷◌, ◌++◌, length, take, get_or, refl, sym, ap, ◌∙◌, arith}
use Rattle.std.proofs.lemmas.List.{append_assoc, append-nil}
use Rattle.ob_tree.specs.declared.tokens.TokenKind.{TokenKind}
use Rattle.ob_tree.specs.declared.tokens.TokenKind.TheVariants as kind
use Rattle.ob_tree.specs.declared.tokens.Sign.TheVariants as sign
use Rattle.ob_tree.specs.Spelling.{listed, more_listed, comma_before, stars}

pub stars-more : (n : ℕ) → stars (n + 1) ≡ stars n ++ kind.Sign sign.Star ∷ []
stars-more zero = refl
stars-more (suc n) =
    let e : suc n + 1 ≡ suc (n + 1) = omega arith in
    ap stars e ∙ ap (λ ks. kind.Sign sign.Star ∷ ks) (stars-more n)

more_listed-step : {A : Type 0} (f : A → List TokenKind) (xs : List A) (i : ℕ) (x : A) →
    i < length xs → x ≡ get_or xs i x →
    more_listed f (take (suc i) xs) ≡ more_listed f (take i xs) ++ kind.Sign sign.Comma ∷ f x
more_listed-step f [] i x h is = absurd (omega arith)
more_listed-step f (y ∷ ys) zero x h is =
    ap (λ ks. kind.Sign sign.Comma ∷ ks) (append-nil (f y) ∙ ap f (sym is))
more_listed-step f (y ∷ ys) (suc i) x h is =
    ap (λ ks. kind.Sign sign.Comma ∷ (f y ++ ks)) (more_listed-step f ys i x (omega arith) is)
    ∙ ap (λ ks. kind.Sign sign.Comma ∷ ks) (sym (append_assoc (f y) (more_listed f (take i ys)) (kind.Sign sign.Comma ∷ f x)))

listed-step : {A : Type 0} (f : A → List TokenKind) (xs : List A) (i : ℕ) (x : A) →
    i < length xs → x ≡ get_or xs i x →
    listed f (take (suc i) xs) ≡ listed f (take i xs) ++ (comma_before i ++ f x)
listed-step f [] i x h is = absurd (omega arith)
listed-step f (y ∷ ys) zero x h is = append-nil (f y) ∙ ap f (sym is)
listed-step f (y ∷ ys) (suc i) x h is =
    ap (λ ks. f y ++ ks) (more_listed-step f ys i x (omega arith) is)
    ∙ sym (append_assoc (f y) (more_listed f (take i ys)) (kind.Sign sign.Comma ∷ f x))

-- one turn of a loop that puts an item and the comma before it
pub listed-turn : {A : Type 0} (f : A → List TokenKind) (before out after : List TokenKind) (xs : List A) (i : ℕ) (x : A) →
    out ≡ before ++ listed f (take i xs) → i < length xs → x ≡ get_or xs i x →
    after ≡ (out ++ comma_before i) ++ f x →
    after ≡ before ++ listed f (take (i + 1) xs)
listed-turn f before out after xs i x o h is a =
    let e : i + 1 ≡ suc i = omega arith in
    a ∙ append_assoc out (comma_before i) (f x)
    ∙ ap (λ ks. ks ++ (comma_before i ++ f x)) o
    ∙ append_assoc before (listed f (take i xs)) (comma_before i ++ f x)
    ∙ ap (λ ks. before ++ ks) (sym (listed-step f xs i x h is))
    ∙ ap (λ k. before ++ listed f (take k xs)) (sym e)
