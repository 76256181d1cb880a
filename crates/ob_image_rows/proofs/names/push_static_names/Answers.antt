use Rattle.std.proofs.Common.{◌≡◌, ◌<◌, ◌+◌, ◌++◌, length, drop, get_or, map, ap, sym, subst, ◌∙◌, arith}
use Rattle.ob_tree.specs.TypeView.{plain_type}
use Rattle.ob_typed.specs.TypedView.{typed_object}
use Rattle.ob_lower.specs.Names.{row_if_named, static_names}
use Rattle.ob_homes.proofs.HomeLists.{opened_map}
use Rattle.ob_image_rows.proofs.RowLists.{taken}
use Rattle.ob_image_rows.proofs.names.push_static_names.Goals as goal

pub loop-o-preserved : goal.loop-o-preserved
loop-o-preserved c =
    let xs = c.args.t.now.statics.items in
    let os = map typed_object xs in
    let i = c.loop-o.o-index in
    let object = c.loop-o.object in
    let x = c.o-item.result in
    let within : i < length xs = omega arith in
    let is : x ≡ get_or xs i x = c.o-item.is ∙ ap (λ ys. get_or ys i x) c.deref-o-items.ensures.value in
    let opens = ap (static_names object) (opened_map typed_object xs i x within is) in
    let whole = c.args.rows.now.items ++ static_names 1 os in
    let more = taken whole c.loop-o.rows.items (static_names object (drop i os)) (row_if_named 0 object 0 (plain_type x.ty) x.name) (static_names (object + 1) (drop (i + 1) os)) c.push_name.new.rows.items c.loop-o.invariant.whole opens c.in_ok-push_name.ensures in
    record {
      object = c.in_ok-object.ensures ∙ ap (λ k. k + 1) c.loop-o.invariant.object;
      whole = subst (λ k. whole ≡ c.push_name.new.rows.items ++ static_names k (drop (i + 1) os)) (sym c.in_ok-object.ensures) more;
    }
