-- The node at the place is hung aside.
use Rattle.std.proofs.Common.{◌≡◌, ℕ, ◌+◌, ◌<◌, ◌≤◌, ◌==◌, List, [], ◌∷◌, length, ap, sym, ◌∙◌, subst, arith, ⊎_elim}
use Rattle.std.proofs.lemmas.Bool.{cases_eq}
use Rattle.ob_model.specs.declared.objects.Entry.{Entry}
use Rattle.ob_objects.specs.declared.node.Node.{Node}
use Rattle.ob_objects.specs.declared.node.Side.{Side}
use Rattle.ob_objects.specs.Nodes.{other, child, node_at, with_child}
use Rattle.ob_objects.specs.Trees.{Tree, top, one_if, times, join, Stands}
use Rattle.ob_objects.specs.Spread.{Hung, end, times_hung, Hangs}
use Rattle.ob_objects.specs.declared.splay.Place.{Place}
use Rattle.ob_objects.specs.Turned.{end_of, filled, closed}
use Rattle.ob_objects.proofs.Nodes.{length-with_child, node_at-other, child-own, other-own, entry-own}
use Rattle.ob_objects.proofs.Kept.{one_same, stands_kept, hangs_kept, stands_no_zero, hangs_no_zero, IsJoin, joined, parts, times-join, top-join}
use Rattle.ob_objects.proofs.Turns.{end_within, end_apart, end_written}

-- a write on one side leaves the links of the other
pub other_kept : (nodes : List Node) (at : ℕ) (s : Side) (x k : ℕ) → at < length nodes → child (other s) (node_at (with_child nodes at s x) k) ≡ child (other s) (node_at nodes k)
other_kept nodes at s x k within =
    ⊎_elim
    (λ is. subst (λ j. child (other s) (node_at (with_child nodes at s x) j) ≡ child (other s) (node_at nodes j)) (sym is) (other-own nodes at s x within))
    (λ apart. ap (child (other s)) (node_at-other nodes at s x k apart))
    (cases_eq k at)

-- a write where a child is awaited leaves the trees and what is hung on the other side
module _ (nodes : List Node) (s : Side) (x : ℕ) (hs : List Hung) (hangs : Hangs nodes s hs) (header : 0 < length nodes) where
  pub beside_end : (k : ℕ) → 0 < k → times_hung k hs ≡ 0 → node_at (with_child nodes (end hs) s x) k ≡ node_at nodes k
  beside_end k some none = node_at-other nodes (end hs) s x k (end_apart hs k some none)

  pub tree_beside_end : (t : Tree) → ((k : ℕ) → times k t + times_hung k hs ≤ 1) → Stands nodes t → Stands (with_child nodes (end hs) s x) t
  tree_beside_end t once stands =
      stands_kept nodes (with_child nodes (end hs) s x) (length-with_child nodes (end hs) s x) t
      (λ k some. beside_end k (⊎_elim (λ (is : k ≡ 0). absurd (let none : times k t ≡ 0 = ap (λ j. times j t) is ∙ stands_no_zero nodes t stands in omega arith)) (λ (apart : k ≡ 0 → ⊥). omega arith) (cases_eq k 0)) (omega (arith, once k)))
      stands

  pub hangs_beside_end : (gs : List Hung) → ((k : ℕ) → times_hung k gs + times_hung k hs ≤ 1) → Hangs nodes (other s) gs → Hangs (with_child nodes (end hs) s x) (other s) gs
  hangs_beside_end gs once others =
      hangs_kept nodes (with_child nodes (end hs) s x) (length-with_child nodes (end hs) s x) (other s) gs
      (λ k some. beside_end k (⊎_elim (λ (is : k ≡ 0). absurd (let none : times_hung k gs ≡ 0 = ap (λ j. times_hung j gs) is ∙ hangs_no_zero nodes (other s) gs others in omega arith)) (λ (apart : k ≡ 0 → ⊥). omega arith) (cases_eq k 0)) (omega (arith, once k)))
      (other_kept nodes (end hs) s x 0 (end_within nodes s hs header hangs))
      others

-- the node at the place is hung aside
module _ (nodes : List Node) (s : Side) (a : Tree) (i : ℕ) (e : Entry) (b : Tree) (hs gs : List Hung) (stands : Stands nodes (join s a i e b)) (hangs : Hangs nodes s hs) (others : Hangs nodes (other s) gs) (once : (k : ℕ) → times k (join s a i e b) + times_hung k hs + times_hung k gs ≤ 1) (header : 0 < length nodes) where
  whole : IsJoin nodes s a i e b
  whole = parts nodes s a i e b stands

  clear : (k : ℕ) → times k a + one_if (k == i) + times k b + times_hung k hs + times_hung k gs ≤ 1
  clear k = omega (arith, once k, times-join k s a i e b)

  own_kept : node_at (with_child nodes (end hs) s i) i ≡ node_at nodes i
  own_kept = beside_end nodes s i hs hangs header i whole.some (omega (arith, clear i, one_same i))

  pub hung_near : Stands (with_child nodes (end hs) s i) a
  hung_near = tree_beside_end nodes s i hs hangs header a (λ k. omega (arith, clear k)) whole.near_stands

  pub hung_others : Hangs (with_child nodes (end hs) s i) (other s) gs
  hung_others = hangs_beside_end nodes s i hs hangs header gs (λ k. omega (arith, clear k)) others

  pub hung_child : child s (node_at (with_child nodes (end hs) s i) i) ≡ top a
  hung_child = ap (child s) own_kept ∙ whole.near_is

  pub hung_hangs : Hangs (with_child nodes (end hs) s i) s (record { index = i; entry = e; rest = b } ∷ hs)
  hung_hangs = (
    record {
      some = whole.some;
      within = omega (arith, length-with_child nodes (end hs) s i, whole.within);
      entry = ap (λ (n : Node). n.entry) own_kept ∙ whole.entry;
      rest = ap (child (other s)) own_kept ∙ whole.far_is;
      stands = tree_beside_end nodes s i hs hangs header b (λ k. omega (arith, clear k)) whole.far_stands;
      link = child-own nodes (end hs) s i (end_within nodes s hs header hangs);
    },
    end_written nodes s i hs hangs (λ k. omega (arith, clear k)),
  )

-- ---- what was hung aside becomes a child

abbrev pub plug : Side → List Hung → Tree → Tree
plug s [] a = a
plug s (h ∷ hs) a = plug s hs (join s a h.index h.entry h.rest)

pub plugged : (nodes : List Node) (s : Side) (hs : List Hung) (a : Tree) → Hangs nodes s hs → Stands nodes a → child s (node_at nodes (end hs)) ≡ top a → Stands nodes (plug s hs a) × (child s (node_at nodes 0) ≡ top (plug s hs a))
plugged nodes s [] a hangs stands link = (stands, link)
plugged nodes s (h ∷ hs) a hangs stands link =
    let own = hangs.0 in
    plugged nodes s hs (join s a h.index h.entry h.rest) hangs.1
    (joined nodes s a h.index h.entry h.rest (record {
      some = own.some;
      within = own.within;
      entry = own.entry;
      near_is = link;
      far_is = own.rest;
      near_stands = stands;
      far_stands = own.stands;
    }))
    (own.link ∙ sym (top-join s a h.index h.entry h.rest))

pub times-plug : (k : ℕ) (s : Side) (hs : List Hung) (a : Tree) → times k (plug s hs a) ≡ times k a + times_hung k hs
times-plug k s [] a = omega arith
times-plug k s (h ∷ hs) a = omega (arith, times-plug k s hs (join s a h.index h.entry h.rest), times-join k s a h.index h.entry h.rest)

pub record IsClosed (nodes new : List Node) (s : Side) (a : Tree) (i : ℕ) (e : Entry) (b : Tree) (hs gs : List Hung) : Type 0 where
  pub stands : Stands new (join (other s) (plug s hs a) i e b)
  pub others : Hangs new (other s) gs
  pub size : length new ≡ length nodes
  pub beside : (k : ℕ) → 0 < k → times k (join (other s) a i e b) + times_hung k hs ≡ 0 → node_at new k ≡ node_at nodes k

module _ (nodes : List Node) (s : Side) (a : Tree) (i : ℕ) (e : Entry) (b : Tree) (hs gs : List Hung) (stands : Stands nodes (join (other s) a i e b)) (hangs : Hangs nodes s hs) (others : Hangs nodes (other s) gs) (once : (k : ℕ) → times k (join (other s) a i e b) + times_hung k hs + times_hung k gs ≤ 1) (header : 0 < length nodes) where
  around : IsJoin nodes (other s) a i e b
  around = parts nodes (other s) a i e b stands

  free : (k : ℕ) → times k a + one_if (k == i) + times k b + times_hung k hs + times_hung k gs ≤ 1
  free k = omega (arith, once k, times-join k (other s) a i e b)

  first : List Node
  first = with_child nodes (end hs) s (top a)

  first_size : length first ≡ length nodes
  unfolding first
  first_size = length-with_child nodes (end hs) s (top a)

  first_beside : (k : ℕ) → 0 < k → times_hung k hs ≡ 0 → node_at first k ≡ node_at nodes k
  unfolding first
  first_beside = beside_end nodes s (top a) hs hangs header

  full : Stands first (plug s hs a) × (child s (node_at first 0) ≡ top (plug s hs a))
  unfolding first
  full =
      plugged (with_child nodes (end hs) s (top a)) s hs a
      (end_written nodes s (top a) hs hangs (λ k. omega (arith, free k)))
      (tree_beside_end nodes s (top a) hs hangs header a (λ k. omega (arith, free k)) around.near_stands)
      (child-own nodes (end hs) s (top a) (end_within nodes s hs header hangs))

  first_far : Stands first b
  unfolding first
  first_far = tree_beside_end nodes s (top a) hs hangs header b (λ k. omega (arith, free k)) around.far_stands

  first_others : Hangs first (other s) gs
  unfolding first
  first_others = hangs_beside_end nodes s (top a) hs hangs header gs (λ k. omega (arith, free k)) others

  second : List Node
  second = with_child first i (other s) (child s (node_at first 0))

  second_size : length second ≡ length nodes
  unfolding second
  second_size = length-with_child first i (other s) (child s (node_at first 0)) ∙ first_size

  second_beside : (k : ℕ) → (k ≡ i → ⊥) → node_at second k ≡ node_at first k
  unfolding second
  second_beside k apart = node_at-other first i (other s) (child s (node_at first 0)) k apart

  is_own : (k : ℕ) → k ≡ i → one_if (k == i) ≡ 1
  is_own k is = ap (λ j. one_if (j == i)) is ∙ one_same i

  second_tree : (t : Tree) → ((k : ℕ) → times k t + one_if (k == i) ≤ 1) → Stands first t → Stands second t
  second_tree t apart standing =
      stands_kept first second (second_size ∙ sym first_size) t
      (λ k some. second_beside k (λ is. omega (arith, apart k, is_own k is)))
      standing

  closed_stands : Stands second (join (other s) (plug s hs a) i e b)
  unfolding second
  closed_stands =
      let within : i < length first = omega (arith, first_size, around.within) in
      let same : node_at first i ≡ node_at nodes i = first_beside i around.some (omega (arith, free i, one_same i)) in
      let link : ℕ = child s (node_at first 0) in
      let clear_plug : (k : ℕ) → times k (plug s hs a) + one_if (k == i) ≤ 1 = λ k. omega (arith, free k, times-plug k s hs a) in
      joined (with_child first i (other s) link) (other s) (plug s hs a) i e b (record {
        some = around.some;
        within = omega (arith, second_size, around.within);
        entry = entry-own first i (other s) link within ∙ ap (λ (n : Node). n.entry) same ∙ around.entry;
        near_is = child-own first i (other s) link within ∙ full.1;
        far_is = other-own first i (other s) link within ∙ ap (child (other (other s))) same ∙ around.far_is;
        near_stands = second_tree (plug s hs a) clear_plug full.0;
        far_stands = second_tree b (λ k. omega (arith, free k)) first_far;
      })

  closed_others : Hangs second (other s) gs
  closed_others =
      hangs_kept first second (second_size ∙ sym first_size) (other s) gs
      (λ k some. second_beside k (λ is. omega (arith, free k, is_own k is)))
      (ap (child (other s)) (second_beside 0 (λ is. let p = around.some in omega arith)))
      first_others

  closed_size : length second ≡ length nodes
  closed_size = second_size

  closed_beside : (k : ℕ) → 0 < k → times k (join (other s) a i e b) + times_hung k hs ≡ 0 → node_at second k ≡ node_at nodes k
  closed_beside k some none =
      second_beside k (λ is. omega (arith, is_own k is, times-join k (other s) a i e b))
      ∙ first_beside k some (omega arith)

  closed_is : (place : Place) → place.here ≡ i → end_of s place ≡ end hs → closed nodes place s ≡ second
  unfolding second first
  closed_is place here end_is =
      let inner : child (other s) (node_at nodes place.here) ≡ top a = ap (λ k. child (other s) (node_at nodes k)) here ∙ around.near_is in
      let filling : filled nodes place s ≡ with_child nodes (end hs) s (top a) = ap (λ k. with_child nodes k s (child (other s) (node_at nodes place.here))) end_is ∙ ap (λ x. with_child nodes (end hs) s x) inner in
      ap (λ (ns : List Node). with_child ns place.here (other s) (child s (node_at ns 0))) filling
      ∙ ap (λ k. with_child (with_child nodes (end hs) s (top a)) k (other s) (child s (node_at (with_child nodes (end hs) s (top a)) 0))) here

  pub closes : (place : Place) → place.here ≡ i → end_of s place ≡ end hs → IsClosed nodes (closed nodes place s) s a i e b hs gs
  closes place here end_is =
      subst (λ (ns : List Node). IsClosed nodes ns s a i e b hs gs) (sym (closed_is place here end_is))
      (record { stands = closed_stands; others = closed_others; size = closed_size; beside = closed_beside })
