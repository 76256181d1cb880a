-- One step of a splay.
use Rattle.std.proofs.Common.{◌≡◌, ℕ, ◌+◌, ◌<◌, ◌≤◌, true, List, [], ◌∷◌, ◌++◌, length, length-append, append_assoc, ap, sym, ◌∙◌, subst, refl, arith, Option, Some, None}
use Rattle.std.proofs.lemmas.Bool.Decides.{nat_tests}
use Rattle.ob_model.specs.declared.objects.Entry.{Entry}
use Rattle.ob_objects.specs.declared.node.Node.{Node}
use Rattle.ob_objects.specs.declared.node.Side.{Side}
use Rattle.ob_objects.specs.declared.node.Side.TheVariants.{Less, More}
use Rattle.ob_objects.specs.declared.splay.Place.{Place}
use Rattle.ob_objects.specs.Nodes.{child, node_at, side_of, with_child}
use Rattle.ob_objects.specs.Trees.{Tree, leaf, fork, top, walk, times, join, Stands, IsRising, IsPast, IsAhead}
use Rattle.ob_objects.specs.Spread.{Hung, end, times_hung, walk_below, walk_above, Spread, walk_spread, IsSpread, IsParted, Moves, EndsAt, IsAtEnd, Steps}
use Rattle.ob_objects.specs.Turned.{is_on, hung, next_place}
use Rattle.ob_objects.proofs.Nodes.{length-with_child}
use Rattle.ob_objects.proofs.Lists.{all_append, all_left, all_right, past_before, ahead_behind}
use Rattle.ob_objects.proofs.Kept.{parts, top-join, by_join}
use Rattle.ob_objects.proofs.Hanging.{beside_end, hung_near, hung_others, hung_child, hung_hangs}

-- ---- sides of an address

pub side_more : (address : ℕ) (e : Entry) → side_of address e ≡ Some More → e.base + e.size < address
side_more address e is = grind (arith, nat_tests)

pub side_less : (address : ℕ) (e : Entry) → side_of address e ≡ Some Less → address < e.base
side_less address e is = grind (arith, nat_tests)

pub side_none : (address : ℕ) (e : Entry) → side_of address e ≡ None → (e.base ≤ address) × (address ≤ e.base + e.size)
side_none address e is = grind (arith, nat_tests)

pub on_side : (s : Side) (o : Option Side) → is_on s o ≡ true → o ≡ Some s
on_side Less None is = cc
on_side Less (Some Less) is = refl
on_side Less (Some More) is = cc
on_side More None is = cc
on_side More (Some Less) is = cc
on_side More (Some More) is = refl

-- ---- the last step

pub empty_top : (nodes : List Node) (t : Tree) → Stands nodes t → top t ≡ 0 → t ≡ leaf
empty_top nodes leaf stands is = refl
empty_top nodes (fork l i e r) stands is = absurd (let some = (stands.0).some in omega arith)

pub at_end : (address : ℕ) (nodes : List Node) (s : Side) (near : Tree) (i : ℕ) (e : Entry) (far : Tree) → Stands nodes (join s near i e far) → side_of address e ≡ Some s → top near ≡ 0 → IsAtEnd address (join s near i e far)
at_end address nodes Less near i e far stands side none = subst (λ o. EndsAt o near far) (sym side) (empty_top nodes near stands.1 none)
at_end address nodes More near i e far stands side none = subst (λ o. EndsAt o far near) (sym side) (empty_top nodes near stands.2 none)

abbrev pub HasNone : ℕ → List Node → ℕ → Side → Tree → Type 0
HasNone address nodes here s t = here ≡ top t → Stands nodes t → side_of address (node_at nodes here).entry ≡ Some s → child s (node_at nodes here) ≡ 0 → IsAtEnd address t

pub none_at_end : (address : ℕ) (nodes : List Node) (here : ℕ) (s : Side) (t : Tree) → 0 < top t → HasNone address nodes here s t
none_at_end address nodes here s t some =
    by_join (HasNone address nodes here s) s t some
    (λ near i e far is stands side none.
    let j = parts nodes s near i e far stands in
    let at : here ≡ i = is ∙ top-join s near i e far in
    let entry : (node_at nodes here).entry ≡ e = ap (λ k. (node_at nodes k).entry) at ∙ j.entry in
    let link : child s (node_at nodes here) ≡ top near = ap (λ k. child s (node_at nodes k)) at ∙ j.near_is in
    at_end address nodes s near i e far stands (ap (side_of address) (sym entry) ∙ side) (sym link ∙ none))

pub stays : (address : ℕ) (nodes : List Node) (place : Place) (z : Spread) → IsSpread nodes place z → Moves address nodes nodes place z z
stays address nodes place z spread = record {
  spread = spread;
  size = refl;
  walk = refl;
  times = λ k. refl;
  others = λ k some none. refl;
  parted = λ p. p;
}

pub moves_on : (address : ℕ) (a b c : List Node) (p q : Place) (x y z : Spread) → Moves address a b p x y → Moves address b c q y z → Moves address a c q x z
moves_on address a b c p q x y z m n = record {
  spread = n.spread;
  size = n.size ∙ m.size;
  walk = n.walk ∙ m.walk;
  times = λ k. n.times k ∙ m.times k;
  others = λ k some none. n.others k some (m.times k ∙ none) ∙ m.others k some none;
  parted = λ t. n.parted (m.parted t);
}

-- ---- the node at the place is hung aside

-- the child there
abbrev pub HangsAside : ℕ → List Node → Place → Side → List Hung → List Hung → Tree → Type 0
HangsAside address nodes place s below above t =
    IsSpread nodes place (record { here = t; below = below; above = above }) →
    side_of address (node_at nodes place.here).entry ≡ Some s → 0 < child s (node_at nodes place.here) →
    Steps address nodes (hung nodes place s) (next_place s (child s (node_at (hung nodes place s) place.here)) place) (record { here = t; below = below; above = above }) true

rest_shorter : (xs : List Entry) (e : Entry) (ys : List Entry) → (length xs < length (xs ++ e ∷ ys)) × (length ys < length (xs ++ e ∷ ys))
rest_shorter xs e ys = (omega (arith, length-append xs (e ∷ ys)), omega (arith, length-append xs (e ∷ ys)))

-- below the address: the node and its child with less
module _ (address : ℕ) (nodes : List Node) (place : Place) (near : Tree) (i : ℕ) (e : Entry) (far : Tree) (below above : List Hung) (spread : IsSpread nodes place (record { here = fork far i e near; below = below; above = above })) (side : side_of address e ≡ Some More) (some : 0 < top near) where
  from_more : Spread
  from_more = record { here = fork far i e near; below = below; above = above }

  to_more : Spread
  to_more = record { here = near; below = record { index = i; entry = e; rest = far } ∷ below; above = above }

  clear_more : (k : ℕ) → times k (fork far i e near) + times_hung k below + times_hung k above ≤ 1
  clear_more k = spread.once k

  arena_more : hung nodes place More ≡ with_child nodes (end below) More i
  arena_more = ap (λ k. with_child nodes k More place.here) spread.below ∙ ap (λ k. with_child nodes (end below) More k) spread.here

  order_more : walk_spread to_more ≡ walk_spread from_more
  unfolding to_more from_more
  order_more = simp append_assoc

  parted_more : IsParted address from_more → IsParted address to_more
  unfolding to_more from_more
  parted_more p =
      let rising : IsRising ((walk_below below ++ walk far) ++ e ∷ (walk near ++ walk_above above)) = subst IsRising (simp append_assoc) p.rising in
      let past = past_before address (walk_below below ++ walk far) e (walk near ++ walk_above above) rising (omega (arith, side_more address e side)) in
      record {
        rising = subst IsRising (sym order_more) p.rising;
        below = all_append (IsPast address) (walk_below below) (walk far ++ e ∷ []) p.below
            (all_append (IsPast address) (walk far) (e ∷ []) (all_right (IsPast address) (walk_below below) (walk far) past) (side_more address e side, tt));
        above = p.above;
      }

  moves_more : Moves address nodes (with_child nodes (end below) More i) (next_place More (child More (node_at (with_child nodes (end below) More i) place.here)) place) from_more to_more
  unfolding to_more from_more
  moves_more =
      let link : child More (node_at (with_child nodes (end below) More i) place.here) ≡ top near = ap (λ k. child More (node_at (with_child nodes (end below) More i) k)) spread.here ∙ hung_child nodes More near i e far below above spread.stands spread.hangs_below spread.hangs_above clear_more spread.header in
      record {
        spread = record {
          here = link;
          some = some;
          below = spread.here;
          above = spread.above;
          stands = hung_near nodes More near i e far below above spread.stands spread.hangs_below spread.hangs_above clear_more spread.header;
          hangs_below = hung_hangs nodes More near i e far below above spread.stands spread.hangs_below spread.hangs_above clear_more spread.header;
          hangs_above = hung_others nodes More near i e far below above spread.stands spread.hangs_below spread.hangs_above clear_more spread.header;
          once = λ k. omega (arith, spread.once k);
          header = omega (arith, spread.header, length-with_child nodes (end below) More i);
        };
        size = length-with_child nodes (end below) More i;
        walk = order_more;
        times = λ k. omega arith;
        others = λ k positive none. beside_end nodes More i below spread.hangs_below spread.header k positive (omega arith);
        parted = parted_more;
      }

  pub hung_more : Steps address nodes (hung nodes place More) (next_place More (child More (node_at (hung nodes place More) place.here)) place) (record { here = fork far i e near; below = below; above = above }) true
  unfolding to_more from_more
  hung_more = subst (λ (ns : List Node). Steps address nodes ns (next_place More (child More (node_at ns place.here)) place) (record { here = fork far i e near; below = below; above = above }) true) (sym arena_more)
      (record { to = record { here = near; below = record { index = i; entry = e; rest = far } ∷ below; above = above }; moves = moves_more; goes = (rest_shorter (walk far) e (walk near)).1 })

-- above it: the node and its child with more
module _ (address : ℕ) (nodes : List Node) (place : Place) (near : Tree) (i : ℕ) (e : Entry) (far : Tree) (below above : List Hung) (spread : IsSpread nodes place (record { here = fork near i e far; below = below; above = above })) (side : side_of address e ≡ Some Less) (some : 0 < top near) where
  from_less : Spread
  from_less = record { here = fork near i e far; below = below; above = above }

  to_less : Spread
  to_less = record { here = near; below = below; above = record { index = i; entry = e; rest = far } ∷ above }

  clear_less : (k : ℕ) → times k (fork near i e far) + times_hung k above + times_hung k below ≤ 1
  clear_less k = omega (arith, spread.once k)

  arena_less : hung nodes place Less ≡ with_child nodes (end above) Less i
  arena_less = ap (λ k. with_child nodes k Less place.here) spread.above ∙ ap (λ k. with_child nodes (end above) Less k) spread.here

  order_less : walk_spread to_less ≡ walk_spread from_less
  unfolding to_less from_less
  order_less = simp append_assoc

  parted_less : IsParted address from_less → IsParted address to_less
  unfolding to_less from_less
  parted_less p =
      let rising : IsRising ((walk_below below ++ walk near) ++ e ∷ (walk far ++ walk_above above)) = subst IsRising (simp append_assoc) p.rising in
      let ahead = ahead_behind address (walk_below below ++ walk near) e (walk far ++ walk_above above) rising (omega (arith, side_less address e side)) in
      record {
        rising = subst IsRising (sym order_less) p.rising;
        below = p.below;
        above = (side_less address e side, all_append (IsAhead address) (walk far) (walk_above above) (all_left (IsAhead address) (walk far) (walk_above above) ahead) p.above);
      }

  moves_less : Moves address nodes (with_child nodes (end above) Less i) (next_place Less (child Less (node_at (with_child nodes (end above) Less i) place.here)) place) from_less to_less
  unfolding to_less from_less
  moves_less =
      let link : child Less (node_at (with_child nodes (end above) Less i) place.here) ≡ top near = ap (λ k. child Less (node_at (with_child nodes (end above) Less i) k)) spread.here ∙ hung_child nodes Less near i e far above below spread.stands spread.hangs_above spread.hangs_below clear_less spread.header in
      record {
        spread = record {
          here = link;
          some = some;
          below = spread.below;
          above = spread.here;
          stands = hung_near nodes Less near i e far above below spread.stands spread.hangs_above spread.hangs_below clear_less spread.header;
          hangs_below = hung_others nodes Less near i e far above below spread.stands spread.hangs_above spread.hangs_below clear_less spread.header;
          hangs_above = hung_hangs nodes Less near i e far above below spread.stands spread.hangs_above spread.hangs_below clear_less spread.header;
          once = λ k. omega (arith, spread.once k);
          header = omega (arith, spread.header, length-with_child nodes (end above) Less i);
        };
        size = length-with_child nodes (end above) Less i;
        walk = order_less;
        times = λ k. omega arith;
        others = λ k positive none. beside_end nodes Less i above spread.hangs_above spread.header k positive (omega arith);
        parted = parted_less;
      }

  pub hung_less : Steps address nodes (hung nodes place Less) (next_place Less (child Less (node_at (hung nodes place Less) place.here)) place) (record { here = fork near i e far; below = below; above = above }) true
  unfolding to_less from_less
  hung_less = subst (λ (ns : List Node). Steps address nodes ns (next_place Less (child Less (node_at ns place.here)) place) (record { here = fork near i e far; below = below; above = above }) true) (sym arena_less)
      (record { to = record { here = near; below = below; above = record { index = i; entry = e; rest = far } ∷ above }; moves = moves_less; goes = (rest_shorter (walk near) e (walk far)).0 })

hung_join : (address : ℕ) (nodes : List Node) (place : Place) (s : Side) (below above : List Hung) (near : Tree) (i : ℕ) (e : Entry) (far : Tree) → HangsAside address nodes place s below above (join s near i e far)
hung_join address nodes place Less below above near i e far = λ spread side child_there.
    let j = parts nodes Less near i e far spread.stands in
    let entry : (node_at nodes place.here).entry ≡ e = ap (λ k. (node_at nodes k).entry) spread.here ∙ j.entry in
    let link : child Less (node_at nodes place.here) ≡ top near = ap (λ k. child Less (node_at nodes k)) spread.here ∙ j.near_is in
    hung_less address nodes place near i e far below above spread (ap (side_of address) (sym entry) ∙ side) (omega (arith, child_there, link))
hung_join address nodes place More below above near i e far = λ spread side child_there.
    let j = parts nodes More near i e far spread.stands in
    let entry : (node_at nodes place.here).entry ≡ e = ap (λ k. (node_at nodes k).entry) spread.here ∙ j.entry in
    let link : child More (node_at nodes place.here) ≡ top near = ap (λ k. child More (node_at nodes k)) spread.here ∙ j.near_is in
    hung_more address nodes place near i e far below above spread (ap (side_of address) (sym entry) ∙ side) (omega (arith, child_there, link))

pub hangs_on : (address : ℕ) (nodes : List Node) (place : Place) (s : Side) (z : Spread) → IsSpread nodes place z → side_of address (node_at nodes place.here).entry ≡ Some s → 0 < child s (node_at nodes place.here) → Steps address nodes (hung nodes place s) (next_place s (child s (node_at (hung nodes place s) place.here)) place) z true
hangs_on address nodes place s z spread =
    by_join (HangsAside address nodes place s z.below z.above) s z.here spread.some (hung_join address nodes place s z.below z.above) spread
