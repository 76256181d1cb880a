-- A cap on counts may be taken before or after they grow.
use Rattle.std.proofs.Common.{◌≡◌, ℕ, zero, suc, ◌+◌, ◌*◌, ◌<◌, ◌≤◌, refl, ap, arith, ⊎_elim, ◌∙◌, mul-le-mul_right}
use Rattle.std.specs.Prelude.{min}
use Rattle.std.proofs.lemmas.Bool.{cases_lt}
use Rattle.ob_tree.specs.Sizes.{Layout, appended, padded, repeated, round_up}
use Rattle.ob_layout.specs.Capped.{capped, cap}

abbrev layout_of : ℕ → ℕ → ℕ → Layout
layout_of a b c = record { size = a; align = b; scalars = c }

pub same_layout : {a b c d e f : ℕ} → a ≡ b → c ≡ d → e ≡ f → layout_of a c e ≡ layout_of b d f
same_layout {b = b} {c = c} {d = d} {e = e} p q r = ap (λ x. layout_of x c e) p ∙ ap (λ x. layout_of b x e) q ∙ ap (λ x. layout_of b d x) r

-- the cap may be taken before rounding up
pub min_round_up : (n align x : ℕ) → min (round_up (min n cap) align + x) cap ≡ min (round_up n align + x) cap
min_round_up n align x = ⊎_elim
    (λ (below : n < cap). ap (λ (m : ℕ). min (round_up m align + x) cap) (omega arith))
    (λ (above : cap ≤ n). omega arith)
    (cases_lt n cap)

pub min_product : (a n : ℕ) → min (min a cap * n) cap ≡ min (a * n) cap
min_product a zero = omega arith
min_product a (suc n) = ⊎_elim
    (λ (below : a < cap). ap (λ (m : ℕ). min (m * suc n) cap) (omega arith))
    (λ (above : cap ≤ a).
    let one : min a cap ≡ cap = omega arith in
    let two = mul-le-mul_right (suc n) above in
    let three : cap ≤ min a cap = omega arith in
    let four = mul-le-mul_right (suc n) three in
    omega arith)
    (cases_lt a cap)

pub capped_repeated : (l : Layout) (n : ℕ) → capped (repeated (capped l) n) ≡ capped (repeated l n)
capped_repeated l n = same_layout (min_product l.size n) refl (min_product l.scalars n)

padded_size : (l : Layout) → min (round_up (min l.size cap) l.align) cap ≡ min (round_up l.size l.align) cap
padded_size l = let h = min_round_up l.size l.align 0 in omega arith

pub capped_padded : (l : Layout) → capped (padded (capped l)) ≡ capped (padded l)
capped_padded l = same_layout (padded_size l) refl (omega arith)

-- a member may be capped before it is put behind others, and so may these
pub capped_appended : (l m : Layout) → capped (appended l (capped m)) ≡ capped (appended l m)
capped_appended l m = same_layout (omega arith) refl (omega arith)

pub capped_appended_before : (l m : Layout) → capped (appended (capped l) m) ≡ capped (appended l m)
capped_appended_before l m = same_layout (min_round_up l.size m.align m.size) refl (omega arith)

pub capped_twice : (l : Layout) → capped (capped l) ≡ capped l
capped_twice l = same_layout (omega arith) refl (omega arith)
