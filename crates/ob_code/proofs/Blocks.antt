-- What the blocks of static objects take, row by row.
use Rattle.std.proofs.Common.{◌≡◌, ℕ, zero, suc, ◌+◌, ◌<◌, List, [], ◌∷◌, length, take, arith, subst}
use Rattle.ob_words.specs.Words.{block}
use Rattle.ob_code.specs.declared.image.StaticRow.{StaticRow}
use Rattle.ob_code.specs.Layout.{static_blocks}
use Rattle.ob_code.specs.Rules.{static_at}

by_steps : (rows : List StaticRow) (i : ℕ) → i < length rows → static_blocks (take (suc i) rows) ≡ static_blocks (take i rows) + block (static_at rows i).size
by_steps [] i h = absurd (omega arith)
by_steps (r ∷ rs) zero h = omega arith
by_steps (r ∷ rs) (suc i) h = omega (arith, by_steps rs i (omega arith))

pub blocks_up_to : (rows : List StaticRow) (i : ℕ) → i < length rows → static_blocks (take (i + 1) rows) ≡ static_blocks (take i rows) + block (static_at rows i).size
blocks_up_to rows i h = let e : suc i ≡ i + 1 = omega arith in subst (λ n. static_blocks (take n rows) ≡ static_blocks (take i rows) + block (static_at rows i).size) e (by_steps rows i h)
