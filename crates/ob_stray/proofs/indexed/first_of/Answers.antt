use Rattle.std.specs.BTreeSet.{contains}
use Rattle.std.proofs.lemmas.Bool.{false_from_ne_true}
use Rattle.ob_stray.specs.Kept.{pair_cmp}
use Rattle.ob_stray.proofs.Keys.{from-least}
use Rattle.ob_stray.proofs.Indexing.{first-own}
use Rattle.ob_stray.proofs.indexed.first_of.Goals as goal

pub returns-in_default-clause-none : goal.returns-in_default-clause-none
returns-in_default-clause-none c = λ z fits. (c.range.ensures.in_range tt).5 c.in_default.ensures.steps.0 (c.args.object, z) (from-least c.args.object z fits, tt)

pub returns-else-first-object-clause-none : goal.returns-else-first-object-clause-none
returns-else-first-object-clause-none c = λ z fits.
    false_from_ne_true (contains pair_cmp c.args.index.now (c.args.object, z))
    (λ has. c.if-first-object.false (first-own c.args.index.now c.range.result c.next.new.self c.in-Some.first.now c.args.object z (c.range.ensures.in_range tt) c.in-Some.ensures.steps fits has))
