-- Bytes without the zeros at their end.
use Rattle.std.proofs.Common.{◌≡◌, ◌<◌, ◌≤◌, ◌-◌, ℕ, zero, suc, List, [], ◌∷◌, ◌++◌, length, take, get_or, refl, sym, ap, ◌∙◌, arith}
use Rattle.std.proofs.Math.Seq.{take-suc}
use Rattle.ob_typed.specs.Strings.{behind, trimmed}

pub trimmed-zero : (bs : List ℕ) → trimmed (bs ++ 0 ∷ []) ≡ trimmed bs
trimmed-zero [] = refl
trimmed-zero (b ∷ bs) = ap (behind b) (trimmed-zero bs)

behind-some : (b c : ℕ) (bs : List ℕ) → behind b (bs ++ suc c ∷ []) ≡ b ∷ (bs ++ suc c ∷ [])
behind-some zero c [] = refl
behind-some zero c (d ∷ bs) = refl
behind-some (suc b) c bs = refl

pub trimmed-some : (bs : List ℕ) (c : ℕ) → trimmed (bs ++ suc c ∷ []) ≡ bs ++ suc c ∷ []
trimmed-some [] c = refl
trimmed-some (b ∷ bs) c = ap (behind b) (trimmed-some bs c) ∙ behind-some b c bs

at_end : (bs : List ℕ) (n : ℕ) (b : ℕ) → 0 < n → n ≤ length bs → b ≡ get_or bs (n - 1) b → take n bs ≡ take (n - 1) bs ++ b ∷ []
at_end bs n b some within is =
    let e : n ≡ suc (n - 1) = omega arith in
    ap (λ k. take k bs) e ∙ take-suc bs (n - 1) b (omega arith) ∙ ap (λ c. take (n - 1) bs ++ c ∷ []) (sym is)

-- a zero at the end doesn't count
pub without_zero : (bs : List ℕ) (n b : ℕ) → 0 < n → n ≤ length bs → b ≡ get_or bs (n - 1) b → b ≡ 0 → trimmed (take n bs) ≡ trimmed bs → trimmed (take (n - 1) bs) ≡ trimmed bs
without_zero bs n b some within is none h =
    sym (trimmed-zero (take (n - 1) bs)) ∙ ap (λ c. trimmed (take (n - 1) bs ++ c ∷ [])) (sym none) ∙ ap trimmed (sym (at_end bs n b some within is)) ∙ h

pub all_gone : (bs : List ℕ) (n : ℕ) → n ≡ 0 → trimmed (take n bs) ≡ trimmed bs → take n bs ≡ trimmed bs
all_gone bs zero e h = h
all_gone bs (suc n) e h = absurd (omega arith)

some_at_end : (cs : List ℕ) (b : ℕ) → 0 < b → trimmed (cs ++ b ∷ []) ≡ cs ++ b ∷ []
some_at_end cs zero h = absurd (omega arith)
some_at_end cs (suc b) h = trimmed-some cs b

pub none_gone : (bs : List ℕ) (n b : ℕ) → 0 < n → n ≤ length bs → b ≡ get_or bs (n - 1) b → 0 < b → trimmed (take n bs) ≡ trimmed bs → take n bs ≡ trimmed bs
none_gone bs n b some within is more h =
    at_end bs n b some within is ∙ sym (some_at_end (take (n - 1) bs) b more) ∙ ap trimmed (sym (at_end bs n b some within is)) ∙ h
