-- What the parts of a step of a splay write.
use Rattle.std.specs.Prelude.{ℕ, Bool, true, false, List, Option, Some, None}
use Rattle.ob_objects.specs.declared.node.Node.{Node}
use Rattle.ob_objects.specs.declared.node.Side.{Side}
use Rattle.ob_objects.specs.declared.node.Side.TheVariants.{Less, More}
use Rattle.ob_objects.specs.declared.splay.Place.{Place}
use Rattle.ob_objects.specs.Nodes.{other, child, node_at, with_child}

-- the child on a side is raised above its parent
abbrev pub rotated : List Node → ℕ → ℕ → Side → List Node
rotated nodes at up side = with_child (with_child nodes at side (child (other side) (node_at nodes up))) up (other side) at

-- only where the address lies on that side of the child as well
abbrev pub is_on : Side → Option Side → Bool
is_on side None = false
is_on Less (Some Less) = true
is_on Less (Some More) = false
is_on More (Some Less) = false
is_on More (Some More) = true

abbrev pub raised : Bool → List Node → ℕ → ℕ → Side → List Node
raised true nodes at up side = rotated nodes at up side
raised false nodes at up side = nodes

abbrev pub raised_top : Bool → ℕ → ℕ → ℕ
raised_top true at up = up
raised_top false at up = at

-- the node at the place is hung aside, and its child is the place
abbrev pub end_of : Side → Place → ℕ
end_of Less place = place.above
end_of More place = place.below

abbrev pub hung : List Node → Place → Side → List Node
hung nodes place side = with_child nodes (end_of side place) side place.here

abbrev pub next_place : Side → ℕ → Place → Place
next_place Less next place = record { here = next; below = place.below; above = place.here }
next_place More next place = record { here = next; below = place.here; above = place.above }

-- what was hung aside becomes a child of the node at the place, whose own child fills the gap
abbrev pub filled : List Node → Place → Side → List Node
filled nodes place side = with_child nodes (end_of side place) side (child (other side) (node_at nodes place.here))

abbrev pub closed : List Node → Place → Side → List Node
closed nodes place side = with_child (filled nodes place side) place.here (other side) (child side (node_at (filled nodes place side) 0))
