use Rattle.std.proofs.Common.{◌≡◌, ◌≤◌, true, false, length, ap, ◌∙◌, rules, arith}
use Rattle.std.proofs.lemmas.Grind.{common_steps}
use Rattle.ob_tree.specs.TypeView.{plain_type, plain_types}
use Rattle.ob_functions.specs.FunctionView.{is_type}
use Rattle.ob_functions.proofs.SameTypes.{same_all, same_fewer, same_not, same_on}
use Rattle.ob_functions.proofs.same.same_types.Goals as goal

pub returns-then-not-is_type : goal.returns-then-not-is_type
returns-then-not-is_type c =
    let no : c.is_type.result ≡ false = first_of (search rules, grind (arith, common_steps)) in
    same_not _ c.is_type.result c.args.params.now.items c.deref-p-items.result.now (plain_types c.args.types.now.items) c.loop-i.i c.p-item.result c.loop-i.invariant c.deref-p-items.ensures.value c.loop-i-test.true c.p-item.is
    (c.is_type.ensures ∙ ap (is_type (plain_type c.p-item.result.ty)) c.type_at.ensures) no

pub loop-i-preserved : goal.loop-i-preserved
loop-i-preserved c =
    let yes : c.is_type.result ≡ true = first_of (search rules, grind (arith, common_steps)) in
    same_on _ c.is_type.result c.args.params.now.items c.deref-p-items.result.now (plain_types c.args.types.now.items) c.loop-i.i c.p-item.result c.loop-i.invariant c.deref-p-items.ensures.value c.loop-i-test.true c.p-item.is
    (c.is_type.ensures ∙ ap (is_type (plain_type c.p-item.result.ty)) c.type_at.ensures) yes

pub returns-in-Some : goal.returns-in-Some
returns-in-Some c =
    let long : length c.args.params.now.items ≤ c.loop-i.i = first_of (search rules, grind (arith, common_steps)) in
    let last : c.loop-i.i ≡ c.len.result = first_of (search rules, grind (arith, common_steps)) in
    same_fewer _ c.args.params.now.items (plain_types c.args.types.now.items) c.loop-i.i c.len.result (plain_type c.in-Some.field-0.now) c.loop-i.invariant long last c.in-Some.ensures

pub returns-in-None : goal.returns-in-None
returns-in-None c =
    let long : length c.args.params.now.items ≤ c.loop-i.i = first_of (search rules, grind (arith, common_steps)) in
    let last : c.loop-i.i ≡ c.len.result = first_of (search rules, grind (arith, common_steps)) in
    same_all _ c.args.params.now.items (plain_types c.args.types.now.items) c.loop-i.i c.len.result c.loop-i.invariant long last c.in-None.ensures
