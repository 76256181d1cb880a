-- A binary search tree of entries as plain data: each fork has the index of its node.
use Rattle.std.specs.Prelude.{◌≡◌, ℕ, zero, suc, ◌+◌, ◌<◌, ◌==◌, Bool, true, false, if◌then◌else◌, List, [], ◌∷◌, ◌++◌, length}
use Rattle.std.specs.List.{AllByRecursion}
use Rattle.ob_model.specs.declared.objects.Entry.{Entry}
use Rattle.ob_objects.specs.declared.node.Node.{Node}
use Rattle.ob_objects.specs.declared.node.Side.{Side}
use Rattle.ob_objects.specs.declared.node.Side.TheVariants.{Less, More}
use Rattle.ob_objects.specs.Nodes.{node_at}
use Rattle.ob_objects.specs.Objects.{Precedes}

pub data Tree : Type 0 where
  leaf : Tree
  fork : Tree → ℕ → Entry → Tree → Tree

-- the link to a tree
abbrev pub top : Tree → ℕ
top leaf = 0
top (fork less i e more) = i

-- the entries in order
abbrev pub walk : Tree → List Entry
walk leaf = []
walk (fork less i e more) = walk less ++ e ∷ walk more

-- how often an index stands in a tree
abbrev pub one_if : Bool → ℕ
one_if true = 1
one_if false = 0

abbrev pub times : ℕ → Tree → ℕ
times k leaf = 0
times k (fork less i e more) = times k less + one_if (k == i) + times k more

-- the fork whose child on a side is `near`, and whose other child is `far`
abbrev pub join : Side → Tree → ℕ → Entry → Tree → Tree
join Less near i e far = fork near i e far
join More near i e far = fork far i e near

-- a node of the arena is the fork of a tree
pub record IsNode (nodes : List Node) (i : ℕ) (e : Entry) (a b : ℕ) : Type 0 where
  pub some : 0 < i
  pub within : i < length nodes
  pub entry : (node_at nodes i).entry ≡ e
  pub less : (node_at nodes i).less ≡ a
  pub more : (node_at nodes i).more ≡ b

-- the nodes of a tree stand in the arena
abbrev pub Stands : List Node → Tree → Type 0
Stands nodes leaf = Unit {0}
Stands nodes (fork less i e more) = IsNode nodes i e (top less) (top more) × Stands nodes less × Stands nodes more

-- the tree at a link, as far down as the number tells
abbrev pub tree_from : ℕ → Entry → Tree → Tree → Tree
tree_from link e less more = if link == 0 then leaf else fork less link e more

abbrev pub tree_at : List Node → ℕ → ℕ → Tree
tree_at nodes zero link = leaf
tree_at nodes (suc depth) link = tree_from link (node_at nodes link).entry (tree_at nodes depth (node_at nodes link).less) (tree_at nodes depth (node_at nodes link).more)

-- entries in order, by recursion
abbrev pub IsRising : List Entry → Type 0
IsRising [] = Unit {0}
IsRising (e ∷ es) = AllByRecursion (Precedes e) es × IsRising es

-- the entry ends before an address, or begins behind it
abbrev pub IsPast : ℕ → Entry → Type 0
IsPast address e = e.base + e.size < address

abbrev pub IsAhead : ℕ → Entry → Type 0
IsAhead address e = address < e.base
