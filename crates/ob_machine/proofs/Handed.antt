-- Taking a step, and the words that a call hands over, one after another.
use Rattle.std.proofs.Common.{◌≡◌, ℕ, zero, suc, ◌+◌, ◌-◌, ◌<◌, List, [], ◌∷◌, ◌++◌, length, drop, get_or, refl, sym, ap, ◌∙◌, arith, add-one, drop-cons}
use Rattle.ob_code.specs.Frames.{frame_word, with_word, with_words, words_from}
use Rattle.ob_code.specs.Machine.{ticked}
use Rattle.ob_code.specs.State.{Next, Space, State}

-- a step is taken
pub ticked_once : (left : ℕ) (s : State) (k : State → Next) → (left ≡ 0 → ⊥) → ticked left s k ≡ k (record s { steps = left - 1 })
ticked_once zero s k some = absurd (some refl)
ticked_once (suc n) s k some = let e : n ≡ suc n - 1 = omega arith in ap (λ m. k (record s { steps = m })) e

-- one more word
pub words_from_more : (s : Space) (i n : ℕ) → words_from s i (n + 1) ≡ words_from s i n ++ frame_word s (i + n) ∷ []
words_from_more s i zero = let e : i ≡ i + 0 = omega arith in ap (λ k. frame_word s k ∷ []) e
words_from_more s i (suc n) =
    let more : suc n + 1 ≡ suc (n + 1) = omega arith in
    let last : i + 1 + n ≡ i + suc n = omega arith in
    ap (words_from s i) more
    ∙ ap (λ ws. frame_word s i ∷ ws) (words_from_more s (i + 1) n)
    ∙ ap (λ k. frame_word s i ∷ (words_from s (i + 1) n ++ frame_word s k ∷ [])) last

-- the next of the words is written
pub with_words_next : (s : Space) (i k w : ℕ) (ws : List ℕ) → k < length ws → get_or ws k w ≡ w → with_words s i (drop k ws) ≡ with_words (with_word s i w) (i + 1) (drop (k + 1) ws)
with_words_next s i k w ws within is =
    let next : drop k ws ≡ w ∷ drop (k + 1) ws = drop-cons ws k w within ∙ ap (λ x. x ∷ drop (suc k) ws) is ∙ ap (λ n. w ∷ drop n ws) (sym (add-one k)) in
    ap (with_words s i) next
