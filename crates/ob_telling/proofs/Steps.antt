-- A change of each element, one after another: what was changed so far stands before the change of the rest.
use Rattle.std.proofs.Common.{◌≡◌, ℕ, zero, suc, ◌+◌, ◌<◌, List, [], ◌∷◌, ◌++◌, length, map, take, drop, get_or, set, arith, ap, sym, ◌∙◌, refl}
use Rattle.std.proofs.lemmas.List.{length-map, map-set}
use Rattle.std.proofs.Math.ListN.{get_or-map}

step : {X : Type 0} (f : X → X) (xs : List X) (i : ℕ) (d : X) → i < length xs → take (suc i) (set xs i (f (get_or xs i d))) ++ map f (drop (suc i) (set xs i (f (get_or xs i d)))) ≡ take i xs ++ map f (drop i xs)
step f [] i d inside = absurd (omega arith)
step f (x ∷ xs) zero d inside = refl
step {X} f (x ∷ xs) (suc i) d inside = ap (λ (ys : List X). x ∷ ys) (step f xs i d (omega arith))

pub next_changed : {X Y : Type 0} (see : X → Y) (f : Y → Y) (xs : List X) (i : ℕ) (old new : X) (all : List Y) → i < length xs → old ≡ get_or xs i old → see new ≡ f (see old) → take i (map see xs) ++ map f (drop i (map see xs)) ≡ all → take (i + 1) (map see (set xs i new)) ++ map f (drop (i + 1) (map see (set xs i new))) ≡ all
next_changed {X} {Y} see f xs i old new all inside is changed so_far =
    let seen : List Y = map see xs in
    let here : get_or seen i (see old) ≡ see old = get_or-map see xs i old ∙ ap see (sym is) in
    let list : map see (set xs i new) ≡ set seen i (f (get_or seen i (see old))) =
    map-set see xs i new ∙ ap (set seen i) (changed ∙ ap f (sym here)) in
    let long : length seen ≡ length xs = length-map xs see in
    let one : i + 1 ≡ suc i = omega arith in
    ap (λ (ys : List Y). take (i + 1) ys ++ map f (drop (i + 1) ys)) list
    ∙ ap (λ (n : ℕ). take n (set seen i (f (get_or seen i (see old)))) ++ map f (drop n (set seen i (f (get_or seen i (see old)))))) one
    ∙ step f seen i (see old) (omega (arith, long, inside))
    ∙ so_far
