-- A rotation, and a node that is hung aside.
use Rattle.std.proofs.Common.{◌≡◌, ℕ, ◌+◌, ◌<◌, ◌≤◌, ◌==◌, List, [], ◌∷◌, length, append_assoc, ap, sym, ◌∙◌, subst, arith}
use Rattle.ob_model.specs.declared.objects.Entry.{Entry}
use Rattle.ob_objects.specs.declared.node.Node.{Node}
use Rattle.ob_objects.specs.declared.node.Side.{Side}
use Rattle.ob_objects.specs.declared.node.Side.TheVariants.{Less, More}
use Rattle.ob_objects.specs.Nodes.{other, child, node_at, with_child}
use Rattle.ob_objects.specs.Trees.{Tree, top, walk, one_if, times, join, Stands}
use Rattle.ob_objects.specs.Spread.{Hung, end, times_hung, Hangs}
use Rattle.ob_objects.specs.Turned.{rotated}
use Rattle.ob_objects.proofs.Nodes.{length-with_child, node_at-other, child-own, other-own, entry-own, child-other_own}
use Rattle.ob_objects.proofs.Kept.{one_same, stands_kept, hangs_kept, IsJoin, joined, parts, times-join, top-join}

-- ---- a rotation

module _ (nodes : List Node) (s : Side) (a b d : Tree) (c i : ℕ) (f e : Entry) (stands : Stands nodes (join s (join s a c f b) i e d)) (once : (k : ℕ) → times k (join s (join s a c f b) i e d) ≤ 1) where
  outer : IsJoin nodes s (join s a c f b) i e d
  outer = parts nodes s (join s a c f b) i e d stands

  inner : IsJoin nodes s a c f b
  inner = parts nodes s a c f b outer.near_stands

  counted : (k : ℕ) → times k (join s (join s a c f b) i e d) ≡ times k a + one_if (k == c) + times k b + one_if (k == i) + times k d
  counted k = omega (arith, times-join k s (join s a c f b) i e d, times-join k s a c f b)

  apart : c ≡ i → ⊥
  apart is =
      let one : one_if (i == c) ≡ 1 = ap (λ k. one_if (i == k)) is ∙ one_same i in
      omega (arith, once i, counted i, one, one_same i)

  middle : List Node
  middle = with_child nodes i s (top b)

  middle_other : (k : ℕ) → (k ≡ i → ⊥) → node_at middle k ≡ node_at nodes k
  unfolding middle
  middle_other k other = node_at-other nodes i s (top b) k other

  middle_size : length middle ≡ length nodes
  unfolding middle
  middle_size = length-with_child nodes i s (top b)

  last : List Node
  last = with_child middle c (other s) i

  last_size : length last ≡ length nodes
  unfolding last
  last_size = length-with_child middle c (other s) i ∙ middle_size

  last_other : (k : ℕ) → (k ≡ i → ⊥) → (k ≡ c → ⊥) → node_at last k ≡ node_at nodes k
  unfolding last
  last_other k first second = node_at-other middle c (other s) i k second ∙ middle_other k first

  last_tree : (t : Tree) → ((k : ℕ) → times k t + one_if (k == c) + one_if (k == i) ≤ 1) → Stands nodes t → Stands last t
  last_tree t clear standing =
      stands_kept nodes last last_size t
      (λ k some. last_other k
      (λ is. let one : one_if (k == i) ≡ 1 = ap (λ j. one_if (j == i)) is ∙ one_same i in omega (arith, clear k))
      (λ is. let one : one_if (k == c) ≡ 1 = ap (λ j. one_if (j == c)) is ∙ one_same c in omega (arith, clear k)))
      standing

  low : IsJoin last s b i e d
  unfolding middle last
  low =
      let same : node_at last i ≡ node_at middle i = node_at-other middle c (other s) i i (λ is. apart (sym is)) in
      record {
        some = outer.some;
        within = omega (arith, last_size, outer.within);
        entry = ap (λ (n : Node). n.entry) same ∙ entry-own nodes i s (top b) outer.within ∙ outer.entry;
        near_is = ap (child s) same ∙ child-own nodes i s (top b) outer.within;
        far_is = ap (child (other s)) same ∙ other-own nodes i s (top b) outer.within ∙ outer.far_is;
        near_stands = last_tree b (λ k. omega (arith, once k, counted k)) inner.far_stands;
        far_stands = last_tree d (λ k. omega (arith, once k, counted k)) outer.far_stands;
      }

  high : IsJoin last s a c f (join s b i e d)
  unfolding middle last
  high =
      let within : c < length middle = omega (arith, middle_size, inner.within) in
      let same : node_at middle c ≡ node_at nodes c = middle_other c apart in
      record {
        some = inner.some;
        within = omega (arith, last_size, inner.within);
        entry = entry-own middle c (other s) i within ∙ ap (λ (n : Node). n.entry) same ∙ inner.entry;
        near_is = child-other_own middle c s i within ∙ ap (child s) same ∙ inner.near_is;
        far_is = child-own middle c (other s) i within ∙ sym (top-join s b i e d);
        near_stands = last_tree a (λ k. omega (arith, once k, counted k)) inner.near_stands;
        far_stands = joined last s b i e d low;
      }

  last_is : rotated nodes i c s ≡ last
  unfolding middle last
  last_is = ap (λ x. with_child (with_child nodes i s x) c (other s) i) inner.far_is

  pub rotated_stands : Stands (rotated nodes i c s) (join s a c f (join s b i e d))
  rotated_stands = subst (λ (ns : List Node). Stands ns (join s a c f (join s b i e d))) (sym last_is) (joined last s a c f (join s b i e d) high)

  pub rotated_others : (k : ℕ) → times k (join s (join s a c f b) i e d) ≡ 0 → node_at (rotated nodes i c s) k ≡ node_at nodes k
  rotated_others k none =
      subst (λ (ns : List Node). node_at ns k ≡ node_at nodes k) (sym last_is)
      (last_other k
      (λ is. let one : one_if (k == i) ≡ 1 = ap (λ j. one_if (j == i)) is ∙ one_same i in omega (arith, counted k))
      (λ is. let one : one_if (k == c) ≡ 1 = ap (λ j. one_if (j == c)) is ∙ one_same c in omega (arith, counted k)))

  pub rotated_size : length (rotated nodes i c s) ≡ length nodes
  rotated_size = ap length last_is ∙ last_size

pub rotated_walk : (s : Side) (a b d : Tree) (c i : ℕ) (f e : Entry) → walk (join s a c f (join s b i e d)) ≡ walk (join s (join s a c f b) i e d)
rotated_walk Less a b d c i f e = sym (append_assoc (walk a) (f ∷ walk b) (e ∷ walk d))
rotated_walk More a b d c i f e = append_assoc (walk d) (e ∷ walk b) (f ∷ walk a)

pub rotated_times : (k : ℕ) (s : Side) (a b d : Tree) (c i : ℕ) (f e : Entry) → times k (join s a c f (join s b i e d)) ≡ times k (join s (join s a c f b) i e d)
rotated_times k s a b d c i f e =
    omega (arith, times-join k s a c f (join s b i e d), times-join k s b i e d, times-join k s (join s a c f b) i e d, times-join k s a c f b)

-- ---- a write at the last hung node, where a child is awaited

pub end_within : (nodes : List Node) (s : Side) (hs : List Hung) → 0 < length nodes → Hangs nodes s hs → end hs < length nodes
end_within nodes s [] header hangs = header
end_within nodes s (h ∷ hs) header hangs = (hangs.0).within

pub end_apart : (hs : List Hung) (k : ℕ) → 0 < k → times_hung k hs ≡ 0 → k ≡ end hs → ⊥
end_apart [] k some none is = omega arith
end_apart (h ∷ hs) k some none is =
    let one : one_if (k == h.index) ≡ 1 = ap (λ j. one_if (j == h.index)) is ∙ one_same h.index in
    omega arith

module _ (nodes : List Node) (s : Side) (x : ℕ) where
  pub end_written : (hs : List Hung) → Hangs nodes s hs → ((k : ℕ) → times_hung k hs ≤ 1) → Hangs (with_child nodes (end hs) s x) s hs
  end_written [] hangs once = tt
  end_written (h ∷ hs) hangs once =
      let own = hangs.0 in
      let new : List Node = with_child nodes h.index s x in
      let size : length new ≡ length nodes = length-with_child nodes h.index s x in
      let one : one_if (h.index == h.index) ≡ 1 = one_same h.index in
      let here = once h.index in
      let kept : (k : ℕ) → (k ≡ h.index → ⊥) → node_at new k ≡ node_at nodes k = λ k apart. node_at-other nodes h.index s x k apart in (
        record {
          some = own.some;
          within = omega (arith, size, own.within);
          entry = entry-own nodes h.index s x own.within ∙ own.entry;
          rest = other-own nodes h.index s x own.within ∙ own.rest;
          stands = stands_kept nodes new size h.rest (λ k some. kept k (λ is. let o : one_if (k == h.index) ≡ 1 = ap (λ j. one_if (j == h.index)) is ∙ one in omega (arith, once k))) own.stands;
          link = ap (child s) (kept (end hs) (λ is. end_apart hs h.index own.some (omega arith) (sym is))) ∙ own.link;
        },
        hangs_kept nodes new size s hs
            (λ k some. kept k (λ is. let o : one_if (k == h.index) ≡ 1 = ap (λ j. one_if (j == h.index)) is ∙ one in omega (arith, once k)))
            (ap (child s) (kept 0 (λ is. let p = own.some in omega arith)))
            hangs.1,
      )
