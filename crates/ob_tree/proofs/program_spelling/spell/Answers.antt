use Rattle.std.proofs.Common.{rules, ◌≡◌, ◌∙◌, sym, arith}
use Rattle.std.specs.List.{flat_map}
use Rattle.std.proofs.lemmas.Grind.{common_steps}
use Rattle.ob_tree.specs.ProgramSpelling.{spell_item}
use Rattle.ob_tree.specs.ProgramView.{item_tree}
use Rattle.ob_tree.proofs.ProgramRows.{flat_map_map}
use Rattle.ob_tree.proofs.program_spelling.spell.Goals as goal

pub returns : goal.returns
returns c =
    let t : c.loop-item.out.items ≡ flat_map (λ i. spell_item (item_tree i)) c.args.p.now.items.items = first_of (search rules, grind (arith, common_steps)) in
    t ∙ sym (flat_map_map spell_item item_tree c.args.p.now.items.items)
