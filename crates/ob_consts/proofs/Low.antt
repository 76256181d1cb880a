-- The bytes of a word, one after another.
use Rattle.std.proofs.Common.{◌≡◌, ◌<◌, ℕ, zero, suc, ◌-◌, ◌/◌, ◌%◌, List, [], ◌∷◌, ◌++◌, refl, sym, ap, ◌∙◌, arith}
use Rattle.std.proofs.lemmas.List.{append_assoc, append-nil}
use Rattle.ob_words.specs.Fields.{low_bytes}

pub low_none : (bs : List ℕ) (n w : ℕ) → n ≡ 0 → bs ≡ bs ++ low_bytes n w
unfolding low_bytes
low_none bs zero w h = sym (append-nil bs)
low_none bs (suc n) w h = absurd (omega arith)

pub low_turn : (bs after : List ℕ) (n w : ℕ) → 0 < n → after ≡ (bs ++ w % 256 ∷ []) ++ low_bytes (n - 1) (w / 256) → after ≡ bs ++ low_bytes n w
unfolding low_bytes
low_turn bs after zero w h a = absurd (omega arith)
low_turn bs after (suc n) w h a =
    let e : suc n - 1 ≡ n = omega arith in
    a ∙ append_assoc bs (w % 256 ∷ []) (low_bytes (suc n - 1) (w / 256)) ∙ ap (λ k. bs ++ w % 256 ∷ low_bytes k (w / 256)) e
