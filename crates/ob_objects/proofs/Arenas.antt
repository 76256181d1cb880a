-- The whole arena: a splay, a node more and a node less.
use Rattle.std.proofs.Common.{◌≡◌, ℕ, ◌+◌, ◌<◌, ◌≤◌, List, [], ◌∷◌, length, ap, sym, ◌∙◌, subst, refl, arith, ⊎_elim}
use Rattle.std.proofs.lemmas.Bool.{cases_lt, cases_eq}
use Rattle.ob_objects.specs.declared.node.Node.{Node}
use Rattle.ob_objects.specs.Objects.{IsInOrder}
use Rattle.ob_objects.specs.Nodes.{node_at}
use Rattle.ob_objects.specs.Trees.{Tree, fork, walk, times}
use Rattle.ob_objects.specs.Spread.{IsRooted, IsSplit}
use Rattle.ob_objects.specs.Arena.{times_listed, AreFree, IsArena}
use Rattle.ob_objects.proofs.Lists.{in_order_rising}
use Rattle.ob_objects.proofs.Kept.{one_same, one_apart, stands_no_zero, stands_within}

-- ---- the free nodes

pub free_no_zero : (nodes : List Node) (link : ℕ) (is : List ℕ) → AreFree nodes link is → times_listed 0 is ≡ 0
free_no_zero nodes link [] free = refl
free_no_zero nodes link (i ∷ is) free =
    let some = free.1 in
    omega (arith, one_apart 0 i (λ is. omega arith), free_no_zero nodes (node_at nodes i).more is free.3)

pub free_within : (nodes : List Node) (link : ℕ) (is : List ℕ) (k : ℕ) → AreFree nodes link is → length nodes ≤ k → times_listed k is ≡ 0
free_within nodes link [] k free past = refl
free_within nodes link (i ∷ is) k free past =
    let within = free.2 in
    omega (arith, one_apart k i (λ is. omega arith), free_within nodes (node_at nodes i).more is k free.3 past)

pub free_still : (nodes new : List Node) → length nodes ≤ length new → (link : ℕ) (is : List ℕ) → ((k : ℕ) → 0 < times_listed k is → node_at new k ≡ node_at nodes k) → AreFree nodes link is → AreFree new link is
free_still nodes new size link [] kept free = free
free_still nodes new size link (i ∷ is) kept free =
    let one = one_same i in
    let same : node_at new i ≡ node_at nodes i = kept i (omega arith) in
    let within = free.2 in (
      free.0,
      free.1,
      omega arith,
      subst (λ (n : Node). AreFree new n.more is) (sym same) (free_still nodes new size (node_at nodes i).more is (λ k some. kept k (omega arith)) free.3),
    )

-- ---- each node once

module _ (nodes : List Node) (root free : ℕ) (t : Tree) (frees : List ℕ) (arena : IsArena nodes root free t frees) where
  pub arena_once : (k : ℕ) → times k t + times_listed k frees ≤ 1
  arena_once k =
      ⊎_elim
      (λ (is : k ≡ 0). subst (λ j. times j t + times_listed j frees ≤ 1) (sym is) (omega (arith, stands_no_zero nodes t arena.stands, free_no_zero nodes free frees arena.listed)))
      (λ (apart : k ≡ 0 → ⊥). ⊎_elim
      (λ (below : k < length nodes). omega (arith, arena.each k (omega arith) below))
      (λ (past : length nodes ≤ k). omega (arith, stands_within nodes t k arena.stands past, free_within nodes free frees k arena.listed past))
      (cases_lt k (length nodes)))
      (cases_eq k 0)

  pub arena_rooted : IsRooted nodes root t
  arena_rooted = record {
    link = arena.link;
    stands = arena.stands;
    once = λ k. omega (arith, arena_once k);
    few = omega (arith, arena.count);
    rising = in_order_rising (walk t) arena.in_order;
  }

  pub free_apart : (k : ℕ) → 0 < times_listed k frees → (0 < k) × (times k t ≡ 0)
  free_apart k some = (
    ⊎_elim
        (λ (is : k ≡ 0). absurd (let none : times_listed k frees ≡ 0 = ap (λ j. times_listed j frees) is ∙ free_no_zero nodes free frees arena.listed in omega arith))
        (λ (apart : k ≡ 0 → ⊥). omega arith)
        (cases_eq k 0),
    omega (arith, arena_once k),
  )

-- a splay leaves the free nodes
pub split_arena : (address : ℕ) (old new : List Node) (root root' free : ℕ) (t : Tree) (frees : List ℕ) → IsArena old root free t frees → (split : IsSplit address old new root' t) → IsArena new root' free (fork split.less root' split.entry split.more) frees
split_arena address old new root root' free t frees arena split = record {
  link = refl;
  stands = split.rooted.stands;
  listed = free_still old new (omega (arith, split.size)) free frees
      (λ k some. let p = free_apart old root free t frees arena k some in split.others k p.0 p.1)
      arena.listed;
  each = λ k some within. omega (arith, split.same_times k, arena.each k some (omega (arith, split.size)));
  count = omega (arith, arena.count, split.size, ap length split.same_walk);
  in_order = subst IsInOrder (sym split.same_walk) arena.in_order;
}
