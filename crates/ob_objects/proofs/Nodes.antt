-- Reads of an arena after a write of a link.
use Rattle.std.proofs.Common.{◌≡◌, ℕ, ◌<◌, List, length, length-set, ap, ◌∙◌, refl}
use Rattle.std.proofs.lemmas.List.{get_or-set_same, get_or-set_other}
use Rattle.ob_objects.specs.declared.node.Node.{Node}
use Rattle.ob_objects.specs.declared.node.Side.{Side}
use Rattle.ob_objects.specs.declared.node.Side.TheVariants.{Less, More}
use Rattle.ob_objects.specs.Nodes.{other, child, linked, no_node, node_at, with_child}

pub other_twice : (s : Side) → other (other s) ≡ s
other_twice Less = refl
other_twice More = refl

pub child-linked : (s : Side) (x : ℕ) (n : Node) → child s (linked s x n) ≡ x
child-linked Less x n = refl
child-linked More x n = refl

pub other-linked : (s : Side) (x : ℕ) (n : Node) → child (other s) (linked s x n) ≡ child (other s) n
other-linked Less x n = refl
other-linked More x n = refl

pub own-linked_other : (s : Side) (x : ℕ) (n : Node) → child s (linked (other s) x n) ≡ child s n
own-linked_other Less x n = refl
own-linked_other More x n = refl

pub entry-linked : (s : Side) (x : ℕ) (n : Node) → (linked s x n).entry ≡ n.entry
entry-linked Less x n = refl
entry-linked More x n = refl

pub length-with_child : (nodes : List Node) (i : ℕ) (s : Side) (x : ℕ) → length (with_child nodes i s x) ≡ length nodes
length-with_child nodes i s x = length-set nodes i (linked s x (node_at nodes i))

pub node_at-other : (nodes : List Node) (i : ℕ) (s : Side) (x k : ℕ) → (k ≡ i → ⊥) → node_at (with_child nodes i s x) k ≡ node_at nodes k
node_at-other nodes i s x k apart = get_or-set_other nodes i k (linked s x (node_at nodes i)) no_node apart

pub node_at-own : (nodes : List Node) (i : ℕ) (s : Side) (x : ℕ) → i < length nodes → node_at (with_child nodes i s x) i ≡ linked s x (node_at nodes i)
node_at-own nodes i s x within = get_or-set_same nodes i (linked s x (node_at nodes i)) no_node within

module _ (nodes : List Node) (i : ℕ) (s : Side) (x : ℕ) (within : i < length nodes) where
  pub child-own : child s (node_at (with_child nodes i s x) i) ≡ x
  child-own = ap (child s) (node_at-own nodes i s x within) ∙ child-linked s x (node_at nodes i)

  pub other-own : child (other s) (node_at (with_child nodes i s x) i) ≡ child (other s) (node_at nodes i)
  other-own = ap (child (other s)) (node_at-own nodes i s x within) ∙ other-linked s x (node_at nodes i)

  pub entry-own : (node_at (with_child nodes i s x) i).entry ≡ (node_at nodes i).entry
  entry-own = ap (λ (n : Node). n.entry) (node_at-own nodes i s x within) ∙ entry-linked s x (node_at nodes i)

-- a write of the other link
pub child-other_own : (nodes : List Node) (i : ℕ) (s : Side) (x : ℕ) → i < length nodes → child s (node_at (with_child nodes i (other s) x) i) ≡ child s (node_at nodes i)
child-other_own nodes i s x within = ap (child s) (node_at-own nodes i (other s) x within) ∙ own-linked_other s x (node_at nodes i)
