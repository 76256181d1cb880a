use Rattle.std.proofs.Common.{sym, ◌∙◌}
use Rattle.ob_initialisers.proofs.TypedRows.{list_told}
use Rattle.ob_initialisers.proofs.lengths.told_length.Goals as goal

pub returns-in-List : goal.returns-in-List
returns-in-List c = c.len.ensures ∙ c.in-List.items.ok.0 ∙ sym (list_told c.args.x.now c.in-List.items c.in-List.is)
