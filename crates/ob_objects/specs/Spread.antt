-- A splay on its way down: the tree that is left at the place, and what was hung aside on the way. What lies below the address
-- makes a tree whose last node waits for a child with more, and what lies above it one whose last node waits for one with less.
-- Both hang at the node of index 0, which has no entry of its own.
use Rattle.std.specs.Prelude.{◌≡◌, ℕ, ◌+◌, ◌<◌, ◌≤◌, ◌==◌, Bool, true, false, List, [], ◌∷◌, ◌++◌, length, Option, Some, None}
use Rattle.std.specs.List.{AllByRecursion}
use Rattle.ob_model.specs.declared.objects.Entry.{Entry}
use Rattle.ob_objects.specs.declared.node.Node.{Node}
use Rattle.ob_objects.specs.declared.node.Side.{Side}
use Rattle.ob_objects.specs.declared.node.Side.TheVariants.{Less, More}
use Rattle.ob_objects.specs.declared.splay.Place.{Place}
use Rattle.ob_objects.specs.Nodes.{other, child, node_at, side_of}
use Rattle.ob_objects.specs.Trees.{Tree, leaf, fork, top, walk, one_if, times, Stands, IsRising, IsPast, IsAhead}

-- a node that was hung aside, with the child that it keeps
pub record Hung : Type 0 where
  pub index : ℕ
  pub entry : Entry
  pub rest : Tree

-- the last one, and 0 before the first
abbrev pub end : List Hung → ℕ
end [] = 0
end (h ∷ hs) = h.index

abbrev pub times_hung : ℕ → List Hung → ℕ
times_hung k [] = 0
times_hung k (h ∷ hs) = one_if (k == h.index) + times k h.rest + times_hung k hs

-- a node waits on a side for a child, and keeps the other
pub record IsHung (nodes : List Node) (side : Side) (h : Hung) (parent : ℕ) : Type 0 where
  pub some : 0 < h.index
  pub within : h.index < length nodes
  pub entry : (node_at nodes h.index).entry ≡ h.entry
  pub rest : child (other side) (node_at nodes h.index) ≡ top h.rest
  pub stands : Stands nodes h.rest
  pub link : child side (node_at nodes parent) ≡ h.index

-- the last one first
abbrev pub Hangs : List Node → Side → List Hung → Type 0
Hangs nodes side [] = Unit {0}
Hangs nodes side (h ∷ hs) = IsHung nodes side h (end hs) × Hangs nodes side hs

abbrev pub walk_below : List Hung → List Entry
walk_below [] = []
walk_below (h ∷ hs) = walk_below hs ++ (walk h.rest ++ h.entry ∷ [])

abbrev pub walk_above : List Hung → List Entry
walk_above [] = []
walk_above (h ∷ hs) = (h.entry ∷ walk h.rest) ++ walk_above hs

-- ---- the whole

pub record Spread : Type 0 where
  pub here : Tree
  pub below : List Hung
  pub above : List Hung

abbrev pub times_spread : ℕ → Spread → ℕ
times_spread k z = times k z.here + times_hung k z.below + times_hung k z.above

abbrev pub walk_spread : Spread → List Entry
walk_spread z = walk_below z.below ++ (walk z.here ++ walk_above z.above)

-- the arena and the place of the program hold it
pub record IsSpread (nodes : List Node) (place : Place) (z : Spread) : Type 0 where
  pub here : place.here ≡ top z.here
  pub some : 0 < top z.here
  pub below : place.below ≡ end z.below
  pub above : place.above ≡ end z.above
  pub stands : Stands nodes z.here
  pub hangs_below : Hangs nodes More z.below
  pub hangs_above : Hangs nodes Less z.above
  pub once : (k : ℕ) → times_spread k z ≤ 1
  pub header : 0 < length nodes

-- what was hung aside lies on its side of the address
pub record IsParted (address : ℕ) (z : Spread) : Type 0 where
  pub rising : IsRising (walk_spread z)
  pub below : AllByRecursion (IsPast address) (walk_below z.below)
  pub above : AllByRecursion (IsAhead address) (walk_above z.above)

-- ---- one step down

-- another spread of the same nodes in the same order; no other node changes
pub record Moves (address : ℕ) (old new : List Node) (place : Place) (z to : Spread) : Type 0 where
  pub spread : IsSpread new place to
  pub size : length new ≡ length old
  pub walk : walk_spread to ≡ walk_spread z
  pub times : (k : ℕ) → times_spread k to ≡ times_spread k z
  pub others : (k : ℕ) → 0 < k → times_spread k z ≡ 0 → node_at new k ≡ node_at old k
  pub parted : IsParted address z → IsParted address to

-- no further step: the entry has the address, or there is no child on its side
abbrev pub EndsAt : Option Side → Tree → Tree → Type 0
EndsAt None less more = Unit {0}
EndsAt (Some Less) less more = less ≡ leaf
EndsAt (Some More) less more = more ≡ leaf

abbrev pub IsAtEnd : ℕ → Tree → Type 0
IsAtEnd address leaf = ⊥
IsAtEnd address (fork less i e more) = EndsAt (side_of address e) less more

-- whether a step goes on, with less of the tree left, or was the last
abbrev pub GoesOn : Bool → ℕ → Tree → Tree → Type 0
GoesOn true address from to = length (walk to) < length (walk from)
GoesOn false address from to = IsAtEnd address to

pub record Steps (address : ℕ) (old new : List Node) (place : Place) (z : Spread) (more : Bool) : Type 0 where
  pub to : Spread
  pub moves : Moves address old new place z to
  pub goes : GoesOn more address z.here to.here

-- ---- a whole splay

-- the nodes of a tree stand below a root, each once
pub record IsRooted (nodes : List Node) (root : ℕ) (t : Tree) : Type 0 where
  pub link : root ≡ top t
  pub stands : Stands nodes t
  pub once : (k : ℕ) → times k t ≤ 1
  pub few : length (walk t) ≤ length nodes
  pub rising : IsRising (walk t)

-- the entry at the root splits the others at the address
pub record IsSplit (address : ℕ) (old new : List Node) (root : ℕ) (t : Tree) : Type 0 where
  pub less : Tree
  pub entry : Entry
  pub more : Tree
  pub rooted : IsRooted new root (fork less root entry more)
  pub size : length new ≡ length old
  pub same_walk : walk (fork less root entry more) ≡ walk t
  pub same_times : (k : ℕ) → times k (fork less root entry more) ≡ times k t
  pub others : (k : ℕ) → 0 < k → times k t ≡ 0 → node_at new k ≡ node_at old k
  pub below : AllByRecursion (IsPast address) (walk less)
  pub above : AllByRecursion (IsAhead address) (walk more)
