-- The table over its arena.
use Rattle.std.proofs.Common.{◌≡◌, ℕ, ◌<◌, ◌≤◌, List, [], ◌∷◌, ◌++◌, length, get_or, length-append, ap, sym, ◌∙◌, subst, refl, arith}
use Rattle.std.specs.List.{All, AllByRecursion, Contains}
use Rattle.std.specs.Global.{Vec}
use Rattle.std.specs.Vec.{vec_capacity, with_items}
use Rattle.std.proofs.lemmas.List.{with_items_is, get_or_default}
use Rattle.ob_model.specs.declared.objects.Entry.{Entry}
use Rattle.ob_objects.specs.declared.node.Node.{Node}
use Rattle.ob_model.specs.Entries.{with_entry}
use Rattle.ob_objects.specs.Objects.{Objects, AreApart}
use Rattle.ob_objects.specs.Spread.{IsRooted}
use Rattle.ob_objects.specs.Trees.{Tree, leaf, fork, top, walk, Stands}
use Rattle.ob_objects.specs.Nodes.{no_node}
use Rattle.ob_objects.specs.Arena.{IsArena, IsKept, IsOpened, AreFree, tree_of, objects, with_node, place_for, next_free}
use Rattle.std.proofs.lemmas.List.Elements.{recursion_from_All, Contains-append_right}
use Rattle.ob_objects.proofs.Arenas.{arena_rooted}
use Rattle.ob_objects.proofs.Entries.{with_entry-between}
use Rattle.ob_objects.proofs.Entering.{IsEntered, entered, more_length}
use Rattle.ob_objects.proofs.Reading.{read_tree}

-- what callers see
pub seen_tree : (nodes : List Node) (root free : ℕ) (t : Tree) (frees : List ℕ) → IsArena nodes root free t frees → tree_of nodes root ≡ t
seen_tree nodes root free t frees arena = ap (tree_of nodes) arena.link ∙ read_tree nodes t (length nodes) arena.stands (omega (arith, arena.count))

-- the vector with other nodes
pub items_are : (v : Vec Node) (nodes : List Node) → length nodes ≡ length v.items → (with_items v nodes).items ≡ nodes
items_are v nodes size = with_items_is v nodes (size ∙ sym v.ok.0)

pub kept_with : (most : ℕ) (v : Vec Node) (nodes : List Node) (root free root' free' : ℕ) (t : Tree) (frees : List ℕ) → IsKept most v root free → length nodes ≡ length v.items → IsArena nodes root' free' t frees → IsKept most (with_items v nodes) root' free'
kept_with most v nodes root free root' free' t frees kept size arena =
    let items : (with_items v nodes).items ≡ nodes = items_are v nodes size in
    record {
      tree = t;
      frees = frees;
      arena = subst (λ (ns : List Node). IsArena ns root' free' t frees) (sym items) arena;
      few = omega (arith, kept.few, size, ap length items);
      fit = kept.fit;
      limit = kept.limit;
    }

pub seen_with : (v : Vec Node) (nodes : List Node) (root free : ℕ) (t : Tree) (frees : List ℕ) → length nodes ≡ length v.items → IsArena nodes root free t frees → tree_of (with_items v nodes).items root ≡ t
seen_with v nodes root free t frees size arena = ap (λ (ns : List Node). tree_of ns root) (items_are v nodes size) ∙ seen_tree nodes root free t frees arena

-- a root, an entry
pub some_entries : (t : Tree) → 0 < top t → walk t ≡ [] → ⊥
some_entries leaf some is = omega arith
some_entries (fork l i e r) some is = let none : length (walk l ++ e ∷ walk r) ≡ 0 = ap length is in omega (arith, length-append (walk l) (e ∷ walk r))

-- the root is one of the entries
pub root_among : (nodes : List Node) (root : ℕ) (t : Tree) (node : Node) → 0 < root → root ≡ top t → Stands nodes t → node ≡ get_or nodes root node → Contains (walk t) node.entry
root_among nodes root leaf node some is stands here = absurd (omega arith)
root_among nodes root (fork l i e r) node some is stands here =
    let own = stands.0 in
    let same : node.entry ≡ e =
    ap (λ (n : Node). n.entry) (here ∙ ap (λ k. get_or nodes k node) is ∙ get_or_default nodes i node no_node own.within) ∙ own.entry in
    subst (Contains (walk l ++ e ∷ walk r)) (sym same)
    (Contains-append_right (walk l) (e ∷ walk r) e (0, omega arith, refl))

-- ---- one entry more

module _ (most : ℕ) (v w : Vec Node) (new : List Node) (node : Node) (e : Entry) (root free place next : ℕ) (less more : Tree) (kept : IsKept most v root free) (size : length new ≡ length v.items) (entered : IsEntered e new node free less more) (room : length (walk less ++ e ∷ walk more) ≤ most) (items : w.items ≡ with_node (with_items v new).items free node) (place_is : place ≡ place_for (with_items v new).items free) (next_is : next ≡ next_free (with_items v new).items free) (capacity : vec_capacity w ≡ vec_capacity v) where
  old_items : (with_items v new).items ≡ new
  old_items = items_are v new size

  all_items : w.items ≡ with_node new free node
  all_items = items ∙ ap (λ (ns : List Node). with_node ns free node) old_items

  at_place : place ≡ place_for new free
  at_place = place_is ∙ ap (λ (ns : List Node). place_for ns free) old_items

  at_next : next ≡ next_free new free
  at_next = next_is ∙ ap (λ (ns : List Node). next_free ns free) old_items

  pub entered_arena : IsArena w.items place next (fork less place e more) entered.rest
  entered_arena =
      subst (λ (ns : List Node). IsArena ns place next (fork less place e more) entered.rest) (sym all_items)
      (subst (λ k. IsArena (with_node new free node) place k (fork less place e more) entered.rest) (sym at_next)
      (subst (λ k. IsArena (with_node new free node) k (next_free new free) (fork less k e more) entered.rest) (sym at_place) entered.arena))

  pub kept_entered : IsKept most w place next
  kept_entered = record {
    tree = fork less place e more;
    frees = entered.rest;
    arena = entered_arena;
    few = omega (arith, entered.few most (omega (arith, kept.few, size)) room, ap length all_items);
    fit = omega (arith, kept.fit, capacity);
    limit = kept.limit;
  }

  pub seen_entered : tree_of w.items place ≡ fork less place e more
  seen_entered = seen_tree w.items place next (fork less place e more) entered.rest entered_arena

-- ---- what the table says of its arena

pub seen_entries : (most : ℕ) (v : Vec Node) (root free : ℕ) (now : Objects) → (kept : IsKept most v root free) → objects most v.items root ≡ now → walk kept.tree ≡ now.entries
seen_entries most v root free now kept view =
    sym (ap walk (seen_tree v.items root free kept.tree kept.frees kept.arena)) ∙ ap (λ (o : Objects). o.entries) view

pub arena_in : (most : ℕ) (v : Vec Node) (slice : List Node) (root free : ℕ) → (kept : IsKept most v root free) → slice ≡ v.items → IsArena slice root free kept.tree kept.frees
arena_in most v slice root free kept is = subst (λ (ns : List Node). IsArena ns root free kept.tree kept.frees) (sym is) kept.arena

free_first : (nodes : List Node) (link : ℕ) (is : List ℕ) → 0 < length nodes → AreFree nodes link is → link < length nodes
free_first nodes link [] some free = omega arith
free_first nodes link (i ∷ is) some free = let at = free.0 in let within = free.2 in omega arith

none_free : (nodes : List Node) (link : ℕ) (is : List ℕ) → link ≡ 0 → AreFree nodes link is → length is ≡ 0
none_free nodes link [] none free = refl
none_free nodes link (i ∷ is) none free = let at = free.0 in let some = free.1 in absurd (omega arith)

-- ---- an entry is entered

module _ (e : Entry) (most : ℕ) (v : Vec Node) (slice : List Node) (root free : ℕ) (now : Objects) (kept : IsKept most v root free) (view : objects most v.items root ≡ now) (slice_is : slice ≡ v.items) (apart : All (AreApart e) now.entries) (room : length now.entries < now.most) where
  sliced : IsArena slice root free kept.tree kept.frees
  sliced = arena_in most v slice root free kept slice_is

  all_apart : AllByRecursion (AreApart e) (walk kept.tree)
  all_apart = recursion_from_All (AreApart e) (walk kept.tree) (subst (All (AreApart e)) (sym (seen_entries most v root free now kept view)) apart)

  pub open_needs : (x : Tree) × IsRooted slice root x × AllByRecursion (AreApart e) (walk x)
  open_needs = (kept.tree, arena_rooted slice root free kept.tree kept.frees sliced, all_apart)

  some_room : length (walk kept.tree) < most
  some_room =
      let all : length (walk kept.tree) ≡ length now.entries = ap length (seen_entries most v root free now kept view) in
      let limit : most ≡ now.most = ap (λ (o : Objects). o.most) view in
      omega (arith, room)

  module _ (new : List Node) (node : Node) (opens : (t : Tree) → IsRooted slice root t → AllByRecursion (AreApart e) (walk t) → IsOpened e slice new node t) where
    opened : IsOpened e slice new node kept.tree
    opened = opens kept.tree (arena_rooted slice root free kept.tree kept.frees sliced) all_apart

    same_size : length new ≡ length v.items
    same_size = opened.size ∙ ap length slice_is

    pub put_free : free < length (with_items v new).items
    put_free =
        subst (λ (ns : List Node). free < length ns) (sym (items_are v new same_size))
        (omega (arith, free_first v.items free kept.frees (omega (arith, kept.arena.count)) kept.arena.listed, same_size))

    pub put_room : free ≡ 0 → length (with_items v new).items < vec_capacity v
    put_room none =
        subst (λ (ns : List Node). length ns < vec_capacity v) (sym (items_are v new same_size))
        (omega (arith, some_room, kept.fit, kept.arena.count, same_size, none_free v.items free kept.frees none kept.arena.listed))

    module _ (w : Vec Node) (place next : ℕ) (items : w.items ≡ with_node (with_items v new).items free node) (place_is : place ≡ place_for (with_items v new).items free) (next_is : next ≡ next_free (with_items v new).items free) (capacity : vec_capacity w ≡ vec_capacity v) where
      inside : IsEntered e new node free opened.less opened.more
      inside = entered e slice new node root free kept.tree kept.frees sliced opened all_apart

      fits : length (walk opened.less ++ e ∷ walk opened.more) ≤ most
      fits = omega (arith, more_length e slice new node root free kept.tree kept.frees sliced opened all_apart, some_room)

      pub insert_keeps : IsKept most w place next
      insert_keeps = kept_entered most v w new node e root free place next opened.less opened.more kept same_size inside fits items place_is next_is capacity

      pub insert_enters : walk (tree_of w.items place) ≡ with_entry e now.entries
      insert_enters =
          ap walk (seen_entered most v w new node e root free place next opened.less opened.more kept same_size inside fits items place_is next_is capacity)
          ∙ sym (with_entry-between e (walk opened.less) (walk opened.more) opened.below opened.above)
          ∙ ap (with_entry e) (opened.same_walk ∙ seen_entries most v root free now kept view)
