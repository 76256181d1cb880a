-- A whole splay: its beginning, its end, and the way between them.
use Rattle.std.proofs.Common.{◌≡◌, ℕ, ◌<◌, ◌≤◌, Bool, true, false, List, [], ◌∷◌, ◌++◌, length, length-append, append_assoc, append-nil, ap, sym, ◌∙◌, subst, refl, arith, Option, Some, None, ◌⊎◌, inl, inr, ⊎_elim}
use Rattle.std.specs.List.{AllByRecursion}
use Rattle.ob_model.specs.declared.objects.Entry.{Entry}
use Rattle.ob_objects.specs.declared.node.Node.{Node}
use Rattle.ob_objects.specs.declared.node.Side.{Side}
use Rattle.ob_objects.specs.declared.node.Side.TheVariants.{Less, More}
use Rattle.ob_objects.specs.declared.splay.Place.{Place}
use Rattle.ob_objects.specs.Nodes.{node_at, side_of}
use Rattle.ob_objects.specs.Trees.{Tree, leaf, fork, top, walk, times, Stands, tree_at, IsRising, IsPast, IsAhead}
use Rattle.ob_objects.specs.Spread.{Hung, walk_below, walk_above, Spread, times_spread, walk_spread, IsSpread, IsParted, Moves, EndsAt, IsAtEnd, Steps, IsRooted, IsSplit}
use Rattle.ob_objects.specs.Turned.{closed}
use Rattle.ob_objects.proofs.Lists.{all_append, past_before, ahead_behind}
use Rattle.ob_objects.proofs.Hanging.{plug, times-plug, IsClosed, closes}
use Rattle.ob_objects.proofs.Steps.{side_more, side_less, side_none, moves_on, stays}
use Rattle.ob_objects.proofs.Reading.{read_tree}

pub walk-plug_below : (hs : List Hung) (a : Tree) → walk (plug More hs a) ≡ walk_below hs ++ walk a
walk-plug_below [] a = refl
walk-plug_below (h ∷ hs) a = walk-plug_below hs (fork h.rest h.index h.entry a) ∙ simp append_assoc

pub walk-plug_above : (hs : List Hung) (a : Tree) → walk (plug Less hs a) ≡ walk a ++ walk_above hs
walk-plug_above [] a = sym (append-nil (walk a))
walk-plug_above (h ∷ hs) a = walk-plug_above hs (fork a h.index h.entry h.rest) ∙ simp append_assoc

-- ---- the end

-- what lies before the last entry is past, and what lies behind it is ahead
module _ (address : ℕ) (e : Entry) (xs ys : List Entry) (rising : IsRising (xs ++ e ∷ ys)) where
  pub below_end : (o : Option Side) (l r : Tree) → side_of address e ≡ o → EndsAt o l r → AllByRecursion (IsPast address) xs ⊎ (l ≡ leaf)
  below_end None l r is ends = inl (past_before address xs e ys rising ((side_none address e is).0))
  below_end (Some Less) l r is ends = inr ends
  below_end (Some More) l r is ends = inl (past_before address xs e ys rising (let p = side_more address e is in omega arith))

  pub above_end : (o : Option Side) (l r : Tree) → side_of address e ≡ o → EndsAt o l r → AllByRecursion (IsAhead address) ys ⊎ (r ≡ leaf)
  above_end None l r is ends = inl (ahead_behind address xs e ys rising ((side_none address e is).1))
  above_end (Some Less) l r is ends = inl (ahead_behind address xs e ys rising (let p = side_less address e is in omega arith))
  above_end (Some More) l r is ends = inr ends

pub record IsEnded (address : ℕ) (nodes new : List Node) (here : ℕ) (z : Spread) : Type 0 where
  pub less : Tree
  pub entry : Entry
  pub more : Tree
  pub stands : Stands new (fork less here entry more)
  pub size : length new ≡ length nodes
  pub same_walk : walk (fork less here entry more) ≡ walk_spread z
  pub same_times : (k : ℕ) → times k (fork less here entry more) ≡ times_spread k z
  pub others : (k : ℕ) → 0 < k → times_spread k z ≡ 0 → node_at new k ≡ node_at nodes k
  pub below : AllByRecursion (IsPast address) (walk less)
  pub above : AllByRecursion (IsAhead address) (walk more)

module _ (address : ℕ) (nodes : List Node) (place : Place) (l : Tree) (i : ℕ) (e : Entry) (r : Tree) (hs gs : List Hung) (spread : IsSpread nodes place (record { here = fork l i e r; below = hs; above = gs })) (ends : EndsAt (side_of address e) l r) (parted : IsParted address (record { here = fork l i e r; below = hs; above = gs })) where
  low : Tree
  low = plug More hs l

  high : Tree
  high = plug Less gs r

  middle : List Node
  middle = closed nodes place More

  to_middle : IsClosed nodes middle More l i e r hs gs
  unfolding middle
  to_middle = closes nodes More l i e r hs gs spread.stands spread.hangs_below spread.hangs_above spread.once spread.header place spread.here spread.below

  to_end : IsClosed middle (closed middle place Less) Less r i e low gs []
  unfolding low
  to_end =
      closes middle Less r i e (plug More hs l) gs [] to_middle.stands to_middle.others tt
      (λ k. omega (arith, spread.once k, times-plug k More hs l))
      (omega (arith, spread.header, to_middle.size))
      place spread.here spread.above

  order : walk (fork low i e high) ≡ walk_spread (record { here = fork l i e r; below = hs; above = gs })
  unfolding low high
  order =
      ap (λ (xs : List Entry). xs ++ e ∷ walk (plug Less gs r)) (walk-plug_below hs l)
      ∙ ap (λ (xs : List Entry). (walk_below hs ++ walk l) ++ e ∷ xs) (walk-plug_above gs r)
      ∙ simp append_assoc

  rising : IsRising ((walk_below hs ++ walk l) ++ e ∷ (walk r ++ walk_above gs))
  rising = subst IsRising (simp append_assoc) parted.rising

  low_past : AllByRecursion (IsPast address) (walk low)
  unfolding low
  low_past =
      subst (AllByRecursion (IsPast address)) (sym (walk-plug_below hs l))
      (⊎_elim
      (λ past. past)
      (λ none. subst (λ t. AllByRecursion (IsPast address) (walk_below hs ++ walk t)) (sym none) (all_append (IsPast address) (walk_below hs) [] parted.below tt))
      (below_end address e (walk_below hs ++ walk l) (walk r ++ walk_above gs) rising (side_of address e) l r refl ends))

  high_ahead : AllByRecursion (IsAhead address) (walk high)
  unfolding high
  high_ahead =
      subst (AllByRecursion (IsAhead address)) (sym (walk-plug_above gs r))
      (⊎_elim
      (λ ahead. ahead)
      (λ none. subst (λ t. AllByRecursion (IsAhead address) (walk t ++ walk_above gs)) (sym none) parted.above)
      (above_end address e (walk_below hs ++ walk l) (walk r ++ walk_above gs) rising (side_of address e) l r refl ends))

  ended_fork : IsEnded address nodes (closed (closed nodes place More) place Less) place.here (record { here = fork l i e r; below = hs; above = gs })
  unfolding middle low high
  ended_fork = subst (λ k. IsEnded address nodes (closed (closed nodes place More) place Less) k (record { here = fork l i e r; below = hs; above = gs })) (sym spread.here)
      (record {
        less = plug More hs l;
        entry = e;
        more = plug Less gs r;
        stands = to_end.stands;
        size = to_end.size ∙ to_middle.size;
        same_walk = order;
        same_times = λ k. omega (arith, times-plug k More hs l, times-plug k Less gs r);
        others = λ k some none. to_end.beside k some (omega (arith, times-plug k More hs l)) ∙ to_middle.beside k some (omega arith);
        below = low_past;
        above = high_ahead;
      })

abbrev pub Ends : ℕ → List Node → Place → List Hung → List Hung → Tree → Type 0
Ends address nodes place hs gs t =
    IsSpread nodes place (record { here = t; below = hs; above = gs }) → IsAtEnd address t → IsParted address (record { here = t; below = hs; above = gs }) →
    IsEnded address nodes (closed (closed nodes place More) place Less) place.here (record { here = t; below = hs; above = gs })

ends_tree : (address : ℕ) (nodes : List Node) (place : Place) (hs gs : List Hung) (t : Tree) → Ends address nodes place hs gs t
ends_tree address nodes place hs gs leaf = λ spread at parted. absurd at
ends_tree address nodes place hs gs (fork l i e r) = λ spread at parted. ended_fork address nodes place l i e r hs gs spread at parted

pub ends : (address : ℕ) (nodes : List Node) (place : Place) (z : Spread) → IsSpread nodes place z → IsAtEnd address z.here → IsParted address z → IsEnded address nodes (closed (closed nodes place More) place Less) place.here z
ends address nodes place z spread at parted = ends_tree address nodes place z.below z.above z.here spread at parted

-- ---- the beginning

abbrev pub start : Tree → Spread
start t = record { here = t; below = []; above = [] }

pub starts : (nodes : List Node) (root : ℕ) (t : Tree) → 0 < root → IsRooted nodes root t → IsSpread nodes (record { here = root; below = 0; above = 0 }) (start t)
starts nodes root t some rooted = record {
  here = rooted.link;
  some = omega (arith, rooted.link);
  below = refl;
  above = refl;
  stands = rooted.stands;
  hangs_below = tt;
  hangs_above = tt;
  once = λ k. omega (arith, rooted.once k);
  header = not_empty t rooted.stands (omega (arith, rooted.link));
}
  where
    not_empty : (t : Tree) → Stands nodes t → 0 < top t → 0 < length nodes
    not_empty leaf stands some = absurd (omega arith)
    not_empty (fork l i e r) stands some = let within = (stands.0).within in omega arith

pub start_parted : (address : ℕ) (nodes : List Node) (root : ℕ) (t : Tree) → IsRooted nodes root t → IsParted address (start t)
start_parted address nodes root t rooted = record {
  rising = subst IsRising (sym (append-nil (walk t))) rooted.rising;
  below = tt;
  above = tt;
}

-- ---- the way

abbrev pub IsOnWay : ℕ → List Node → List Node → Place → Tree → Type 0
IsOnWay address old new place t = (z : Spread) × Moves address old new place (start t) z

pub begins : (address : ℕ) (nodes : List Node) (root : ℕ) (t : Tree) → 0 < root → IsRooted nodes root t → IsOnWay address nodes nodes (record { here = root; below = 0; above = 0 }) t
begins address nodes root t some rooted = (start t, stays address nodes (record { here = root; below = 0; above = 0 }) (start t) (starts nodes root t some rooted))

pub goes_on : (address : ℕ) (old new last : List Node) (p q : Place) (t : Tree) (more : Bool) (way : IsOnWay address old new p t) → Steps address new last q way.0 more → IsOnWay address old last q t
goes_on address old new last p q t more way step = (step.to, moves_on address old new last p q (start t) way.0 step.to way.1 step.moves)

pub few_left : (address : ℕ) (old new : List Node) (root : ℕ) (p : Place) (t : Tree) (z : Spread) → IsRooted old root t → Moves address old new p (start t) z → length (walk z.here) ≤ length new
few_left address old new root p t z rooted moves =
    let few = rooted.few in
    let same : length (walk_spread z) ≡ length (walk t ++ []) = ap length moves.walk in
    let inner = length-append (walk z.here) (walk_above z.above) in
    let outer = length-append (walk_below z.below) (walk z.here ++ walk_above z.above) in
    let all = length-append (walk t) [] in
    omega (arith, moves.size)

pub measure_is : (address : ℕ) (old new : List Node) (root : ℕ) (p : Place) (t : Tree) (z : Spread) → IsRooted old root t → Moves address old new p (start t) z → length (walk (tree_at new (length new) p.here)) ≡ length (walk z.here)
measure_is address old new root p t z rooted moves =
    ap (λ k. length (walk (tree_at new (length new) k))) moves.spread.here
    ∙ ap (λ s. length (walk s)) (read_tree new z.here (length new) moves.spread.stands (few_left address old new root p t z rooted moves))

pub measure_falls : (address : ℕ) (old new last : List Node) (root : ℕ) (p q : Place) (t : Tree) → IsRooted old root t → (way : IsOnWay address old new p t) → Steps address new last q way.0 true → length (walk (tree_at last (length last) q.here)) < length (walk (tree_at new (length new) p.here))
measure_falls address old new last root p q t rooted way step =
    let before = measure_is address old new root p t way.0 rooted way.1 in
    let after = measure_is address old last root q t step.to rooted (moves_on address old new last p q (start t) way.0 step.to way.1 step.moves) in
    omega (arith, step.goes)

pub splits : (address : ℕ) (old new last : List Node) (root : ℕ) (p q : Place) (t : Tree) → IsRooted old root t → (way : IsOnWay address old new p t) → Steps address new last q way.0 false → IsSplit address old (closed (closed last q More) q Less) q.here t
splits address old new last root p q t rooted way step =
    let moves : Moves address old last q (start t) step.to = moves_on address old new last p q (start t) way.0 step.to way.1 step.moves in
    let done : IsEnded address last (closed (closed last q More) q Less) q.here step.to = ends address last q step.to moves.spread step.goes (moves.parted (start_parted address old root t rooted)) in
    let order : walk (fork done.less q.here done.entry done.more) ≡ walk t = done.same_walk ∙ moves.walk ∙ append-nil (walk t) in
    let size : length (closed (closed last q More) q Less) ≡ length old = done.size ∙ moves.size in
    let count : (k : ℕ) → times k (fork done.less q.here done.entry done.more) ≡ times k t = λ k. omega (arith, done.same_times k, moves.times k) in
    record {
      less = done.less;
      entry = done.entry;
      more = done.more;
      rooted = record {
        link = refl;
        stands = done.stands;
        once = λ k. omega (arith, rooted.once k, count k);
        few = omega (arith, rooted.few, size, ap length order);
        rising = subst IsRising (sym order) rooted.rising;
      };
      size = size;
      same_walk = order;
      same_times = count;
      others = λ k some none. done.others k some (omega (arith, moves.times k)) ∙ moves.others k some (omega arith);
      below = done.below;
      above = done.above;
    }
