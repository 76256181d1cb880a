-- Pointers, star by star.
use Rattle.std.proofs.Common.{◌≡◌, ◌+◌, ℕ, zero, suc, refl, sym, ap, ◌∙◌, arith}
use Rattle.ob_tree.specs.Types.{PlainType}
use Rattle.ob_typed.specs.Specifiers.{pointers}

pub pointers_more : (n : ℕ) (t : PlainType) → PlainType.Pointer (pointers n t) ≡ pointers (n + 1) t
pointers_more zero t = refl
pointers_more (suc n) t =
    let s : suc n + 1 ≡ suc (n + 1) = omega arith in
    pointers_more n (PlainType.Pointer t) ∙ ap (λ k. pointers k t) (sym s)
