use Rattle.std.proofs.Common.{sym, ◌∙◌}
use Rattle.ob_initialisers.proofs.SourceRows.{list_length}
use Rattle.ob_initialisers.proofs.lengths.text_length.Goals as goal

pub returns-in-List : goal.returns-in-List
returns-in-List c = c.len.ensures ∙ c.in-List.items.ok.0 ∙ sym (list_length c.args.i.now c.in-List.first c.in-List.items c.in-List.comma c.in-List.is)
