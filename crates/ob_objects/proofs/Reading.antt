-- The tree that is read at a link is the one that stands there.
use Rattle.std.proofs.Common.{◌≡◌, ℕ, zero, suc, ◌≤◌, ◌==◌, List, ◌∷◌, length, length-append, ap, ◌∙◌, refl, arith}
use Rattle.std.proofs.lemmas.Bool.{ne_eqb, cond-false}
use Rattle.ob_objects.specs.declared.node.Node.{Node}
use Rattle.ob_objects.specs.Nodes.{node_at}
use Rattle.ob_objects.specs.Trees.{Tree, leaf, fork, top, walk, Stands, tree_at}

pub read_tree : (nodes : List Node) (t : Tree) (depth : ℕ) → Stands nodes t → length (walk t) ≤ depth → tree_at nodes depth (top t) ≡ t
read_tree nodes leaf zero stands deep = refl
read_tree nodes leaf (suc depth) stands deep = refl
read_tree nodes (fork l i e r) zero stands deep = absurd (omega (arith, length-append (walk l) (e ∷ walk r)))
read_tree nodes (fork l i e r) (suc depth) stands deep =
    let own = stands.0 in
    let many = length-append (walk l) (e ∷ walk r) in
    let less : tree_at nodes depth (node_at nodes i).less ≡ l = ap (tree_at nodes depth) own.less ∙ read_tree nodes l depth stands.1 (omega arith) in
    let more : tree_at nodes depth (node_at nodes i).more ≡ r = ap (tree_at nodes depth) own.more ∙ read_tree nodes r depth stands.2 (omega arith) in
    cond-false (i == 0) leaf (fork (tree_at nodes depth (node_at nodes i).less) i (node_at nodes i).entry (tree_at nodes depth (node_at nodes i).more)) (ne_eqb i 0 (λ is. let p = own.some in omega arith))
    ∙ ap (λ t. fork t i (node_at nodes i).entry (tree_at nodes depth (node_at nodes i).more)) less
    ∙ ap (λ en. fork l i en (tree_at nodes depth (node_at nodes i).more)) own.entry
    ∙ ap (λ t. fork l i e t) more
