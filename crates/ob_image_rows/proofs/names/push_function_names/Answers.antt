use Rattle.std.proofs.Common.{◌≡◌, ◌<◌, ◌+◌, ◌++◌, length, drop, get_or, map, ap, sym, subst, ◌∙◌, arith}
use Rattle.ob_tree.specs.TypeView.{plain_types}
use Rattle.ob_typed.specs.TypedView.{typed_function}
use Rattle.ob_lower.specs.Homes.{homes}
use Rattle.ob_lower.specs.Names.{function_names, variable_names}
use Rattle.ob_homes.proofs.HomeLists.{opened_map}
use Rattle.ob_image_rows.proofs.RowLists.{taken}
use Rattle.ob_image_rows.proofs.names.push_function_names.Goals as goal

pub loop-f-preserved : goal.loop-f-preserved
loop-f-preserved c =
    let xs = c.args.t.now.functions.items in
    let fs = map typed_function xs in
    let i = c.loop-f.f-index in
    let holder = c.loop-f.holder in
    let x = c.f-item.result in
    let within : i < length xs = omega arith in
    let is : x ≡ get_or xs i x = c.f-item.is ∙ ap (λ ys. get_or ys i x) c.deref-f-items.ensures.value in
    let opens = ap (function_names holder) (opened_map typed_function xs i x within is) in
    let whole = c.args.rows.now.items ++ function_names 1 fs in
    let pushed = c.in_ok-push_variable_names.ensures ∙ ap (λ hs. c.loop-f.rows.items ++ variable_names holder 0 x.names.items (plain_types x.locals.items) hs) c.in_ok-h.ensures.list in
    let more = taken whole c.loop-f.rows.items (function_names holder (drop i fs)) (variable_names holder 0 x.names.items (plain_types x.locals.items) (homes (typed_function x))) (function_names (holder + 1) (drop (i + 1) fs)) c.push_variable_names.new.rows.items c.loop-f.invariant.whole opens pushed in
    record {
      holder = c.in_ok-holder.ensures ∙ ap (λ k. k + 1) c.loop-f.invariant.holder;
      whole = subst (λ k. whole ≡ c.push_variable_names.new.rows.items ++ function_names k (drop (i + 1) fs)) (sym c.in_ok-holder.ensures) more;
    }
