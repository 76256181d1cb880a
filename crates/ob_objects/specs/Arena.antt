-- An arena of nodes: each is in the tree once, or in the list of free nodes once. The first one is neither: the parts of a splay
-- hang at it.
use Rattle.std.specs.Prelude.{◌≡◌, ℕ, ◌+◌, ◌<◌, ◌≤◌, ◌^◌, ◌==◌, Bool, true, false, if◌then◌else◌, List, [], ◌∷◌, ◌++◌, length, slice_set, Option, Some, None, IfSome}
use Rattle.std.specs.List.{AllByRecursion}
use Rattle.std.specs.Global.{Vec}
use Rattle.std.specs.Vec.{vec_capacity}
use Rattle.ob_model.specs.declared.objects.Entry.{Entry}
use Rattle.ob_objects.specs.declared.node.Node.{Node}
use Rattle.ob_objects.specs.declared.node.Side.{Side}
use Rattle.ob_objects.specs.declared.node.Side.TheVariants.{Less, More}
use Rattle.ob_model.specs.Entries.{entry_at, at_base, without_base}
use Rattle.ob_objects.specs.Objects.{Objects, IsInOrder}
use Rattle.ob_objects.specs.Nodes.{node_at, with_child}
use Rattle.ob_objects.specs.Trees.{Tree, leaf, fork, top, walk, one_if, times, Stands, tree_at, IsPast, IsAhead}
use Rattle.ob_objects.specs.Spread.{IsRooted}

-- ---- the free nodes

abbrev pub times_listed : ℕ → List ℕ → ℕ
times_listed k [] = 0
times_listed k (i ∷ is) = one_if (k == i) + times_listed k is

-- the nodes of a list are linked from a node on
abbrev pub AreFree : List Node → ℕ → List ℕ → Type 0
AreFree nodes link [] = link ≡ 0
AreFree nodes link (i ∷ is) = (link ≡ i) × (0 < i) × (i < length nodes) × AreFree nodes (node_at nodes i).more is

-- where a new node comes, what the arena is then, and which node is free next
abbrev pub place_for : List Node → ℕ → ℕ
place_for nodes free = if free == 0 then length nodes else free

abbrev pub with_node : List Node → ℕ → Node → List Node
with_node nodes free node = if free == 0 then nodes ++ node ∷ [] else slice_set nodes free node

abbrev pub next_free : List Node → ℕ → ℕ
next_free nodes free = if free == 0 then 0 else (node_at nodes free).more

-- ---- the whole

pub record IsArena (nodes : List Node) (root free : ℕ) (t : Tree) (frees : List ℕ) : Type 0 where
  pub link : root ≡ top t
  pub stands : Stands nodes t
  pub listed : AreFree nodes free frees
  pub each : (k : ℕ) → 0 < k → k < length nodes → times k t + times_listed k frees ≡ 1
  pub count : length (walk t) + length frees + 1 ≡ length nodes
  pub in_order : IsInOrder (walk t)

-- what a table keeps
pub record IsKept (most : ℕ) (nodes : Vec Node) (root free : ℕ) : Type 0 where
  pub tree : Tree
  pub frees : List ℕ
  pub arena : IsArena nodes.items root free tree frees
  pub few : length nodes.items ≤ most + 1
  pub fit : most + 1 ≤ vec_capacity nodes
  pub limit : most ≤ 2 ^ 24

-- the table as its callers see it
abbrev pub root_entry : Tree → Option Entry
root_entry leaf = None
root_entry (fork less i e more) = Some e

abbrev pub tree_of : List Node → ℕ → Tree
tree_of nodes root = tree_at nodes (length nodes) root

abbrev pub objects : ℕ → List Node → ℕ → Objects
objects most nodes root = record { most = most; entries = walk (tree_of nodes root); root = root_entry (tree_of nodes root) }

-- ---- parts of a change

-- the entry where an address lies on no side of it
abbrev pub entry_if : Option Side → Entry → Option Entry
entry_if None e = Some e
entry_if (Some side) e = None

-- the root is cut off what lies on one side of it, and becomes a child of a new node
abbrev pub cut_nodes : Bool → List Node → ℕ → List Node
cut_nodes true nodes root = with_child nodes root More 0
cut_nodes false nodes root = with_child nodes root Less 0

abbrev pub cut_node : Bool → List Node → ℕ → Entry → Node
cut_node true nodes root e = record { entry = e; less = root; more = (node_at nodes root).more }
cut_node false nodes root e = record { entry = e; less = (node_at nodes root).less; more = root }

-- the trees of a new node split another tree's entries
pub record IsOpened (e : Entry) (old new : List Node) (node : Node) (t : Tree) : Type 0 where
  pub less : Tree
  pub more : Tree
  pub entry : node.entry ≡ e
  pub less_link : node.less ≡ top less
  pub more_link : node.more ≡ top more
  pub less_stands : Stands new less
  pub more_stands : Stands new more
  pub size : length new ≡ length old
  pub same_walk : walk less ++ walk more ≡ walk t
  pub same_times : (k : ℕ) → times k less + times k more ≡ times k t
  pub others : (k : ℕ) → 0 < k → times k t ≡ 0 → node_at new k ≡ node_at old k
  pub below : AllByRecursion (IsPast e.base) (walk less)
  pub above : AllByRecursion (IsAhead e.base) (walk more)

-- two trees become one, the entries of the first before those of the second
pub record IsJoined (old new : List Node) (root : ℕ) (first second : Tree) : Type 0 where
  pub to : Tree
  pub link : root ≡ top to
  pub stands : Stands new to
  pub size : length new ≡ length old
  pub same_walk : walk to ≡ walk first ++ walk second
  pub same_times : (k : ℕ) → times k to ≡ times k first + times k second
  pub others : (k : ℕ) → 0 < k → times k first + times k second ≡ 0 → node_at new k ≡ node_at old k

-- two trees that can be joined: the entries of the first end before an address
pub record AreBeside (address : ℕ) (nodes : List Node) (less more : ℕ) (first second : Tree) : Type 0 where
  pub first_rooted : IsRooted nodes less first
  pub second_rooted : IsRooted nodes more second
  pub apart : (k : ℕ) → times k first + times k second ≤ 1
  pub past : AllByRecursion (IsPast address) (walk first)

-- ---- the calls

pub record IsFound (address : ℕ) (old new : List Node) (root free : ℕ) (entry : Option Entry) (t : Tree) (frees : List ℕ) : Type 0 where
  pub to : Tree
  pub arena : IsArena new root free to frees
  pub size : length new ≡ length old
  pub same_walk : walk to ≡ walk t
  pub found : entry ≡ entry_at address (walk t)
  pub at_root : IfSome entry (λ e. root_entry to ≡ Some e)

pub record IsTaken (base : ℕ) (old new : List Node) (root free : ℕ) (entry : Option Entry) (t : Tree) : Type 0 where
  pub to : Tree
  pub frees : List ℕ
  pub arena : IsArena new root free to frees
  pub size : length new ≡ length old
  pub others : walk to ≡ without_base base (walk t)
  pub found : entry ≡ at_base base (walk t)
