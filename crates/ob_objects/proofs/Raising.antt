-- The step before a node is hung aside: its child is raised above it where the address lies on one side of both.
use Rattle.std.proofs.Common.{◌≡◌, ℕ, ◌+◌, ◌<◌, ◌≤◌, Bool, true, false, List, ◌++◌, length, ap, sym, ◌∙◌, subst, refl, arith, Some}
use Rattle.ob_model.specs.declared.objects.Entry.{Entry}
use Rattle.ob_objects.specs.declared.node.Node.{Node}
use Rattle.ob_objects.specs.declared.node.Side.{Side}
use Rattle.ob_objects.specs.declared.node.Side.TheVariants.{Less, More}
use Rattle.ob_objects.specs.declared.splay.Place.{Place}
use Rattle.ob_objects.specs.Nodes.{child, node_at, side_of}
use Rattle.ob_objects.specs.Trees.{Tree, leaf, fork, top, walk, times, join, Stands, IsRising}
use Rattle.ob_objects.specs.Spread.{Hung, times_hung, Hangs, walk_below, walk_above, Spread, walk_spread, IsSpread, Moves, Steps}
use Rattle.ob_objects.specs.Turned.{rotated, is_on, raised, raised_top, end_of, hung, next_place}
use Rattle.ob_objects.proofs.Kept.{hangs_kept, stands_no_zero, IsJoin, parts, top-join, by_join}
use Rattle.ob_objects.proofs.Turns.{rotated_stands, rotated_others, rotated_size, rotated_walk, rotated_times, end_within}
use Rattle.ob_objects.proofs.Steps.{on_side, none_at_end, stays, moves_on, hangs_on}

-- ---- links are indices of the arena

pub top_within : (nodes : List Node) (t : Tree) → 0 < length nodes → Stands nodes t → top t < length nodes
top_within nodes leaf header stands = header
top_within nodes (fork l i e r) header stands = (stands.0).within

abbrev pub HasChild : List Node → ℕ → Side → Tree → Type 0
HasChild nodes here s t = here ≡ top t → Stands nodes t → child s (node_at nodes here) < length nodes

pub child_within : (nodes : List Node) (place : Place) (s : Side) (z : Spread) → IsSpread nodes place z → child s (node_at nodes place.here) < length nodes
child_within nodes place s z spread =
    by_join (HasChild nodes place.here s) s z.here spread.some
    (λ near i e far is stands.
    let j = parts nodes s near i e far stands in
    let at : place.here ≡ i = is ∙ top-join s near i e far in
    let link : child s (node_at nodes place.here) ≡ top near = ap (λ k. child s (node_at nodes k)) at ∙ j.near_is in
    omega (arith, top_within nodes near spread.header j.near_stands, link))
    spread.here spread.stands

pub here_within : (nodes : List Node) (place : Place) (z : Spread) → IsSpread nodes place z → place.here < length nodes
here_within nodes place z spread = omega (arith, top_within nodes z.here spread.header spread.stands, spread.here)

pub end_of_within : (nodes : List Node) (place : Place) (s : Side) (z : Spread) → IsSpread nodes place z → end_of s place < length nodes
end_of_within nodes place Less z spread = omega (arith, end_within nodes Less z.above spread.header spread.hangs_above, spread.above)
end_of_within nodes place More z spread = omega (arith, end_within nodes More z.below spread.header spread.hangs_below, spread.below)

-- ---- the node that was raised

abbrev pub with_here : Place → ℕ → Place
with_here place here = record { here = here; below = place.below; above = place.above }

pub record IsRaised (address : ℕ) (nodes new : List Node) (place : Place) (s : Side) (z : Spread) : Type 0 where
  pub to : Spread
  pub moves : Moves address nodes new place z to
  pub size : length (walk to.here) ≡ length (walk z.here)
  pub side : side_of address (node_at new place.here).entry ≡ Some s

module _ (address : ℕ) (nodes : List Node) (place : Place) (s : Side) (a b d : Tree) (c i : ℕ) (f e : Entry) (below above : List Hung) (spread : IsSpread nodes place (record { here = join s (join s a c f b) i e d; below = below; above = above })) (side : side_of address f ≡ Some s) where
  old_tree : Tree
  old_tree = join s (join s a c f b) i e d

  new_tree : Tree
  new_tree = join s a c f (join s b i e d)

  once_tree : (k : ℕ) → times k (join s (join s a c f b) i e d) ≤ 1
  once_tree k = omega (arith, spread.once k)

  new_nodes : List Node
  new_nodes = rotated nodes i c s

  new_stands : Stands new_nodes new_tree
  unfolding new_nodes new_tree
  new_stands = rotated_stands nodes s a b d c i f e spread.stands once_tree

  new_size : length new_nodes ≡ length nodes
  unfolding new_nodes
  new_size = rotated_size nodes s a b d c i f e spread.stands once_tree

  new_others : (k : ℕ) → times k old_tree ≡ 0 → node_at new_nodes k ≡ node_at nodes k
  unfolding new_nodes old_tree
  new_others = rotated_others nodes s a b d c i f e spread.stands once_tree

  new_hangs : (o : Side) (hs : List Hung) → ((k : ℕ) → times_hung k hs + times k old_tree ≤ 1) → Hangs nodes o hs → Hangs new_nodes o hs
  unfolding old_tree
  new_hangs o hs apart hangs =
      hangs_kept nodes new_nodes new_size o hs
      (λ k some. new_others k (omega (arith, apart k)))
      (ap (child o) (new_others 0 (stands_no_zero nodes (join s (join s a c f b) i e d) spread.stands)))
      hangs

  new_times : (k : ℕ) → times k new_tree ≡ times k old_tree
  unfolding new_tree old_tree
  new_times k = rotated_times k s a b d c i f e

  new_walk : walk new_tree ≡ walk old_tree
  unfolding new_tree old_tree
  new_walk = rotated_walk s a b d c i f e

  new_join : IsJoin new_nodes s a c f (join s b i e d)
  unfolding new_tree
  new_join = parts new_nodes s a c f (join s b i e d) new_stands

  raised_moves : Moves address nodes new_nodes (with_here place c) (record { here = old_tree; below = below; above = above }) (record { here = new_tree; below = below; above = above })
  unfolding old_tree
  raised_moves =
      let order : walk_spread (record { here = new_tree; below = below; above = above }) ≡ walk_spread (record { here = old_tree; below = below; above = above }) = ap (λ (es : List Entry). walk_below below ++ (es ++ walk_above above)) new_walk in
      let head : c ≡ top new_tree = unfold new_tree in sym (top-join s a c f (join s b i e d)) in
      record {
        spread = record {
          here = head;
          some = omega (arith, new_join.some, head);
          below = spread.below;
          above = spread.above;
          stands = new_stands;
          hangs_below = new_hangs More below (λ k. omega (arith, spread.once k)) spread.hangs_below;
          hangs_above = new_hangs Less above (λ k. omega (arith, spread.once k)) spread.hangs_above;
          once = λ k. omega (arith, spread.once k, new_times k);
          header = omega (arith, spread.header, new_size);
        };
        size = new_size;
        walk = order;
        times = λ k. omega (arith, new_times k);
        others = λ k positive none. new_others k (omega arith);
        parted = λ p. record { rising = subst IsRising (sym order) p.rising; below = p.below; above = p.above };
      }

  pub rotates : (up : ℕ) → up ≡ c → IsRaised address nodes (rotated nodes place.here up s) (with_here place up) s (record { here = join s (join s a c f b) i e d; below = below; above = above })
  unfolding old_tree new_nodes
  rotates up is =
      let at : place.here ≡ i = spread.here ∙ top-join s (join s a c f b) i e d in
      let arena : rotated nodes place.here up s ≡ rotated nodes i c s = ap (λ k. rotated nodes k up s) at ∙ ap (λ k. rotated nodes i k s) is in
      let made : IsRaised address nodes (rotated nodes i c s) (with_here place c) s (record { here = join s (join s a c f b) i e d; below = below; above = above }) =
      record {
        to = record { here = new_tree; below = below; above = above };
        moves = raised_moves;
        size = ap length new_walk;
        side = ap (side_of address) new_join.entry ∙ side;
      } in
      subst (λ (ns : List Node). IsRaised address nodes ns (with_here place up) s (record { here = join s (join s a c f b) i e d; below = below; above = above })) (sym arena)
      (subst (λ k. IsRaised address nodes (rotated nodes i c s) (with_here place k) s (record { here = join s (join s a c f b) i e d; below = below; above = above })) (sym is) made)

-- whatever the child there is
abbrev pub Rotates : ℕ → List Node → Place → Side → List Hung → List Hung → Tree → Type 0
Rotates address nodes place s below above t =
    IsSpread nodes place (record { here = t; below = below; above = above }) →
    0 < child s (node_at nodes place.here) →
    side_of address (node_at nodes (child s (node_at nodes place.here))).entry ≡ Some s →
    IsRaised address nodes (rotated nodes place.here (child s (node_at nodes place.here)) s) (with_here place (child s (node_at nodes place.here))) s (record { here = t; below = below; above = above })

rotates_two : (address : ℕ) (nodes : List Node) (place : Place) (s : Side) (below above : List Hung) (i : ℕ) (e : Entry) (far near : Tree) → 0 < top near → Rotates address nodes place s below above (join s near i e far)
rotates_two address nodes place s below above i e far near some =
    by_join (λ t. Rotates address nodes place s below above (join s t i e far)) s near some
    (λ a c f b spread there side.
    let outer = parts nodes s (join s a c f b) i e far spread.stands in
    let inner = parts nodes s a c f b outer.near_stands in
    let at : place.here ≡ i = spread.here ∙ top-join s (join s a c f b) i e far in
    let link : child s (node_at nodes place.here) ≡ c = ap (λ k. child s (node_at nodes k)) at ∙ outer.near_is ∙ top-join s a c f b in
    let entry : (node_at nodes (child s (node_at nodes place.here))).entry ≡ f = ap (λ k. (node_at nodes k).entry) link ∙ inner.entry in
    rotates address nodes place s a b far c i f e below above spread (ap (side_of address) (sym entry) ∙ side) (child s (node_at nodes place.here)) link)

rotates_any : (address : ℕ) (nodes : List Node) (place : Place) (s : Side) (z : Spread) → IsSpread nodes place z → 0 < child s (node_at nodes place.here) → side_of address (node_at nodes (child s (node_at nodes place.here))).entry ≡ Some s → IsRaised address nodes (rotated nodes place.here (child s (node_at nodes place.here)) s) (with_here place (child s (node_at nodes place.here))) s z
rotates_any address nodes place s z spread =
    by_join (Rotates address nodes place s z.below z.above) s z.here spread.some
    (λ near i e far inside there.
    let j = parts nodes s near i e far inside.stands in
    let at : place.here ≡ i = inside.here ∙ top-join s near i e far in
    let link : child s (node_at nodes place.here) ≡ top near = ap (λ k. child s (node_at nodes k)) at ∙ j.near_is in
    rotates_two address nodes place s z.below z.above i e far near (omega arith) inside there)
    spread

-- both cases of the program
pub raises : (address : ℕ) (nodes : List Node) (place : Place) (s : Side) (z : Spread) (up : ℕ) (test : Bool) → up ≡ child s (node_at nodes place.here) → test ≡ is_on s (side_of address (node_at nodes up).entry) → IsSpread nodes place z → side_of address (node_at nodes place.here).entry ≡ Some s → 0 < up → IsRaised address nodes (raised test nodes place.here up s) (with_here place (raised_top test place.here up)) s z
raises address nodes place s z up false up_is test_is spread side some = record {
  to = z;
  moves = stays address nodes place z spread;
  size = refl;
  side = side;
}
raises address nodes place s z up true up_is test_is spread side some =
    subst (λ k. IsRaised address nodes (rotated nodes place.here k s) (with_here place k) s z) (sym up_is)
    (rotates_any address nodes place s z spread (omega arith)
    (on_side s _ (ap (λ k. is_on s (side_of address (node_at nodes k).entry)) (sym up_is) ∙ sym test_is)))

-- ---- the step

pub no_child : (address : ℕ) (nodes : List Node) (place : Place) (s : Side) (z : Spread) → IsSpread nodes place z → side_of address (node_at nodes place.here).entry ≡ Some s → child s (node_at nodes place.here) ≡ 0 → Steps address nodes nodes place z false
no_child address nodes place s z spread side none = record {
  to = z;
  moves = stays address nodes place z spread;
  goes = none_at_end address nodes place.here s z.here spread.some spread.here spread.stands side none;
}

pub raised_last : (address : ℕ) (nodes new : List Node) (place : Place) (s : Side) (z : Spread) → IsRaised address nodes new place s z → child s (node_at new place.here) ≡ 0 → Steps address nodes new place z false
raised_last address nodes new place s z up none = record {
  to = up.to;
  moves = up.moves;
  goes = none_at_end address new place.here s up.to.here up.moves.spread.some up.moves.spread.here up.moves.spread.stands up.side none;
}

pub raised_hung : (address : ℕ) (nodes new : List Node) (place : Place) (s : Side) (z : Spread) → IsRaised address nodes new place s z → 0 < child s (node_at new place.here) → Steps address nodes (hung new place s) (next_place s (child s (node_at (hung new place s) place.here)) place) z true
raised_hung address nodes new place s z up some =
    let rest = hangs_on address new place s up.to up.moves.spread up.side some in
    record {
      to = rest.to;
      moves = moves_on address nodes new (hung new place s) place (next_place s (child s (node_at (hung new place s) place.here)) place) z up.to rest.to up.moves rest.moves;
      goes = omega (arith, rest.goes, up.size);
    }

-- what the program's calls gave
pub raised_is : (address : ℕ) (nodes new : List Node) (place : Place) (s : Side) (root : ℕ) (z : Spread) →
    new ≡ raised (is_on s (side_of address (node_at nodes (child s (node_at nodes place.here))).entry)) nodes place.here (child s (node_at nodes place.here)) s →
    root ≡ raised_top (is_on s (side_of address (node_at nodes (child s (node_at nodes place.here))).entry)) place.here (child s (node_at nodes place.here)) →
    IsSpread nodes place z → side_of address (node_at nodes place.here).entry ≡ Some s → 0 < child s (node_at nodes place.here) →
    IsRaised address nodes new (with_here place root) s z
raised_is address nodes new place s root z new_is root_is spread side some =
    subst (λ (ns : List Node). IsRaised address nodes ns (with_here place root) s z) (sym new_is)
    (subst (λ k. IsRaised address nodes (raised (is_on s (side_of address (node_at nodes (child s (node_at nodes place.here))).entry)) nodes place.here (child s (node_at nodes place.here)) s) (with_here place k) s z) (sym root_is)
    (raises address nodes place s z (child s (node_at nodes place.here)) (is_on s (side_of address (node_at nodes (child s (node_at nodes place.here))).entry)) refl refl spread side some))

pub hung_is : (address : ℕ) (nodes new last : List Node) (place next : Place) (s : Side) (z : Spread) →
    last ≡ hung new place s → next ≡ next_place s (child s (node_at last place.here)) place →
    IsRaised address nodes new place s z → 0 < child s (node_at new place.here) → Steps address nodes last next z true
hung_is address nodes new last place next s z last_is next_is up some =
    subst (λ (p : Place). Steps address nodes last p z true) (sym next_is)
    (subst (λ (ns : List Node). Steps address nodes ns (next_place s (child s (node_at ns place.here)) place) z true) (sym last_is)
    (raised_hung address nodes new place s z up some))
