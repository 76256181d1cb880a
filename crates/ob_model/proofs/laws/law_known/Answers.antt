use Rattle.ob_model.specs.Entries.{holds_address}
use Rattle.ob_model.specs.declared.objects.Entry.{Entry}
use Rattle.std.proofs.Common.{◌==◌}
use Rattle.ob_model.proofs.FreedObjects.{inserted, survive, freed_keep, found_by}
use Rattle.ob_model.proofs.laws.law_known.Goals as goal

pub returns-clause-inserted : goal.returns-clause-inserted
returns-clause-inserted c = inserted

pub returns-clause-survive : goal.returns-clause-survive
returns-clause-survive c = survive

pub returns-clause-freed : goal.returns-clause-freed
returns-clause-freed c = freed_keep

pub returns-clause-found : goal.returns-clause-found
returns-clause-found c = λ address object all. (found_by (holds_address address) all, found_by (λ (e : Entry). e.object == object) all)
