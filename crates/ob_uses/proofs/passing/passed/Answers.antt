use Rattle.std.proofs.Common.{sym, arith, rules}
use Rattle.std.proofs.lemmas.Grind.{common_steps}
use Rattle.std.proofs.lemmas.Option.{slice_get_within}
use Rattle.ob_tree.specs.TypeView.{plain_type, plain_types}
use Rattle.ob_conversions.specs.CheckedView.{mark}
use Rattle.ob_uses.specs.Passing.{typed_list}
use Rattle.ob_uses.proofs.Passed.{pass_all, pass_err, pass_few, pass_many, pass_on}
use Rattle.ob_uses.proofs.passing.passed.Goals as goal

pub returns-in_err-pass_one-in-Some-parameter_at : goal.returns-in_err-pass_one-in-Some-parameter_at
returns-in_err-pass_one-in-Some-parameter_at c =
    let h = pass_err (λ (u : Unit {0}). typed_list c.pass_one.new.done) typed_list c.in_err-pass_one-in-Some-parameter_at.field-0.0 (mark c.args.m) _ (typed_list c.loop-a.done) c.loop-a.rest.items c.pop.new.self.items
    c.in-Some.a (plain_types c.args.params.now.items) c.loop-a.index (plain_type c.in-Some-parameter_at.t.now) c.loop-a.invariant c.in-Some.ensures.items c.in-Some-parameter_at.ensures c.in_err-pass_one-in-Some-parameter_at.ensures in
    first_of (search rules, grind (arith, common_steps))

pub returns-in-None : goal.returns-in-None
returns-in-None c =
    let h = pass_many (mark c.args.m) _ (typed_list c.loop-a.done) c.loop-a.rest.items c.pop.new.self.items c.in-Some.a (plain_types c.args.params.now.items) c.loop-a.index c.loop-a.invariant c.in-Some.ensures.items c.in-None.ensures in
    first_of (search rules, grind (arith, common_steps))

pub overflow_add-index : goal.overflow_add-index
overflow_add-index c =
    let h = slice_get_within (plain_types c.args.params.now.items) c.loop-a.index (plain_type c.in-Some-parameter_at.t.now) (sym c.in-Some-parameter_at.ensures) in
    grind (arith, common_steps)

pub loop-a-preserved : goal.loop-a-preserved
loop-a-preserved c =
    pass_on (mark c.args.m) _ (typed_list c.loop-a.done) (typed_list c.pass_one.new.done) c.loop-a.rest.items c.pop.new.self.items c.in-Some.a (plain_types c.args.params.now.items) c.loop-a.index (plain_type c.in-Some-parameter_at.t.now)
    c.loop-a.invariant c.in-Some.ensures.items c.in-Some-parameter_at.ensures c.in_ok-pass_one-in-Some-parameter_at.ensures

pub returns-in-Some-parameter_at-2 : goal.returns-in-Some-parameter_at-2
returns-in-Some-parameter_at-2 c =
    let h = pass_few (mark c.args.m) _ (typed_list c.loop-a.done) c.loop-a.rest.items (plain_types c.args.params.now.items) c.loop-a.index _ c.loop-a.invariant (first_of (search rules, grind (arith, common_steps))) c.in-Some-parameter_at-2.ensures in
    first_of (search rules, grind (arith, common_steps))

pub returns : goal.returns
returns c =
    pass_all (mark c.args.m) _ (typed_list c.loop-a.done) c.loop-a.rest.items (plain_types c.args.params.now.items) c.loop-a.index c.loop-a.invariant (first_of (search rules, grind (arith, common_steps))) c.in-None-parameter_at.ensures
