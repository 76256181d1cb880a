-- The nodes of a tree in an arena. A link is an index, and 0 where there is no child.
use Rattle.std.specs.Prelude.{ℕ, ◌+◌, nat_lt, if◌then◌else◌, List, slice_index_or, slice_set, Option, Some, None}
use Rattle.ob_model.specs.declared.objects.Entry.{Entry}
use Rattle.ob_model.specs.declared.objects.Sort.TheVariants.{Static}
use Rattle.ob_objects.specs.declared.node.Node.{Node}
use Rattle.ob_objects.specs.declared.node.Side.{Side}
use Rattle.ob_objects.specs.declared.node.Side.TheVariants.{Less, More}

abbrev pub other : Side → Side
other Less = More
other More = Less

-- where an address lies that isn't one of the entry's
abbrev pub side_of : ℕ → Entry → Option Side
side_of address e = if nat_lt address e.base then Some Less else (if nat_lt (e.base + e.size) address then Some More else None)

abbrev pub child : Side → Node → ℕ
child Less node = node.less
child More node = node.more

abbrev pub linked : Side → ℕ → Node → Node
linked Less link node = record node { less = link }
linked More link node = record node { more = link }

-- what a read of an index gives past the end
abbrev pub no_node : Node
no_node = record { entry = record { base = 0; size = 0; object = 0; sort = Static }; less = 0; more = 0 }

abbrev pub node_at : List Node → ℕ → Node
node_at nodes at = slice_index_or nodes at no_node

abbrev pub with_child : List Node → ℕ → Side → ℕ → List Node
with_child nodes at side link = slice_set nodes at (linked side link (node_at nodes at))
