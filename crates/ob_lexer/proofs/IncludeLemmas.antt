-- The end of an include line.
use Rattle.std.proofs.Common.{◌≡◌, ℕ, zero, suc, ◌-◌, List, [], ◌∷◌, drop, true, false, refl, arith, ◌∙◌, ap, sym}
use Rattle.std.proofs.lemmas.Bool.{ne_eqb}
use Rattle.ob_tree.specs.Bytes.{ends_line}
use Rattle.ob_lexer.specs.Scan.{filler_length, is_return, line_end_from}

-- the bytes of a filler that began before are passed over
pub line_end_from-drop : (n : ℕ) (cs : List ℕ) → line_end_from n cs ≡ line_end_from 0 (drop n cs)
line_end_from-drop zero [] = refl
line_end_from-drop zero (c ∷ cs) = refl
line_end_from-drop (suc n) [] = refl
line_end_from-drop (suc n) (c ∷ cs) = line_end_from-drop n cs

drop-pred : (n c : ℕ) (cs : List ℕ) → (n ≡ 0 → ⊥) → drop (n - 1) cs ≡ drop n (c ∷ cs)
drop-pred zero c cs h = absurd (h refl)
drop-pred (suc n) c cs h = ap (λ k. drop k cs) (let e : suc n - 1 ≡ n = omega arith in e)

-- behind a filler the line goes on
pub line_end-fill : (left : List ℕ) (n : ℕ) → ends_line left ≡ false → is_return left ≡ false → n ≡ filler_length left → (n ≡ 0 → ⊥) → line_end_from 0 (drop n left) ≡ line_end_from 0 left
line_end-fill [] n e r f h = absurd (let x : true ≡ false = e in cc)
line_end-fill (c ∷ cs) n e r f h =
    let goes : line_end_from 0 (c ∷ cs) ≡ line_end_from (filler_length (c ∷ cs) - 1) cs = rw (e, r, ne_eqb (filler_length (c ∷ cs)) 0 (λ z. h (f ∙ z))) refl in
    sym (goes ∙ line_end_from-drop (filler_length (c ∷ cs) - 1) cs ∙ ap (λ k. line_end_from 0 (drop (k - 1) cs)) (sym f) ∙ ap (line_end_from 0) (drop-pred n c cs h))

pub ruleset line_steps = line_end-fill
