use Rattle.ob_commands.proofs.Caused.{caused}
use Rattle.ob_commands.proofs.Rows.{all_is_told, no_other, not_yet_only, own_only, refusals_are_told, sinks_take_prefixes}
use Rattle.ob_program.specs.Language.{language}
use Rattle.ob_program.proofs.laws.law_causes.Goals as goal

pub returns-clause-causes : goal.returns-clause-causes
returns-clause-causes c = caused language

pub returns-clause-told : goal.returns-clause-told
returns-clause-told c = all_is_told language c.law_status.ensures.own c.law_endings.ensures

pub returns-clause-prefixes : goal.returns-clause-prefixes
returns-clause-prefixes c = sinks_take_prefixes language c.law_status.ensures.own c.law_endings.ensures

pub returns-clause-lines : goal.returns-clause-lines
returns-clause-lines c = refusals_are_told language

pub returns-clause-own : goal.returns-clause-own
returns-clause-own c = own_only language c.law_status.ensures.own c.law_endings.ensures

pub returns-clause-not_yet : goal.returns-clause-not_yet
returns-clause-not_yet c = not_yet_only language c.law_status.ensures.own c.law_endings.ensures

pub returns-clause-no_other : goal.returns-clause-no_other
returns-clause-no_other c = no_other language c.law_status.ensures.own c.law_endings.ensures
