use Rattle.std.proofs.Common.{◌≡◌, arith, ◌∙◌}
use Rattle.std.specs.Prelude.{insert}
use Rattle.std.proofs.lemmas.Grind.{common_steps}
use Rattle.ob_objects_trials.specs.Sorted.{Splits}
use Rattle.ob_objects_trials.proofs.Changes.{with_entry-insert}
use Rattle.ob_objects_trials.proofs.sorted.SortedTable.insert.Goals as goal

pub returns-clause-entries : goal.returns-clause-entries
returns-clause-entries c =
    let entered : c.insert.new.self.items ≡ insert c.self.inside.entries.items c.count_up_to-count.result c.args.e = grind (arith, common_steps) in
    let splits : Splits c.self.inside.entries.items c.args.e.base c.count_up_to-count.result = rw (← c.as_slice.ensures.value) c.count_up_to-count.ensures in
    rw (← c.self.view_is) (entered ∙ with_entry-insert c.args.e c.self.inside.entries.items c.count_up_to-count.result splits.within splits.before splits.after)
