use Rattle.std.proofs.Common.{◌≡◌, ◌<◌, ◌+◌, ◌++◌, [], ◌∷◌, length, drop, get_or, map, ap, ◌∙◌, arith}
use Rattle.ob_tree.specs.StructsView.{plain_structs}
use Rattle.ob_typed.specs.TypedView.{typed_object}
use Rattle.ob_lower.specs.Programs.{static_row}
use Rattle.ob_homes.proofs.HomeLists.{opened_map}
use Rattle.ob_image_rows.proofs.RowLists.{taken}
use Rattle.ob_image_rows.proofs.statics.static_rows.Goals as goal

pub loop-o-preserved : goal.loop-o-preserved
loop-o-preserved c =
    let xs = c.args.t.now.statics.items in
    let os = map typed_object xs in
    let row = static_row (plain_structs c.args.t.now.structs) in
    let i = c.loop-o.o-index in
    let x = c.o-item.result in
    let within : i < length xs = omega arith in
    let is : x ≡ get_or xs i x = c.o-item.is ∙ ap (λ ys. get_or ys i x) c.deref-o-items.ensures.value in
    let opens = ap (map row) (opened_map typed_object xs i x within is) in
    let pushed = c.in_ok-push_on.ensures.ok ∙ ap (λ r. c.loop-o.rows.items ++ r ∷ []) c.in_ok-row.ensures in
    taken (map row os) c.loop-o.rows.items (map row (drop i os)) (row (typed_object x) ∷ []) (map row (drop (i + 1) os)) c.push_on.new.list.items c.loop-o.invariant opens pushed
