use Rattle.std.proofs.Common.{◌≡◌, ◌<◌, ◌+◌, ◌++◌, length, drop, get_or, map, ap, sym, subst, ◌∙◌, arith}
use Rattle.ob_typed.specs.TypedView.{typed_object}
use Rattle.ob_lower.specs.Programs.{pointer_row, pointer_rows}
use Rattle.ob_homes.proofs.HomeLists.{opened_map}
use Rattle.ob_image_rows.proofs.RowLists.{taken}
use Rattle.ob_image_rows.proofs.statics.pointer_rows.Goals as goal

pub loop-o-preserved : goal.loop-o-preserved
loop-o-preserved c =
    let xs = c.args.t.now.statics.items in
    let os = map typed_object xs in
    let i = c.loop-o.o-index in
    let holder = c.loop-o.holder in
    let x = c.o-item.result in
    let within : i < length xs = omega arith in
    let is : x ≡ get_or xs i x = c.o-item.is ∙ ap (λ ys. get_or ys i x) c.deref-o-items.ensures.value in
    let opens = ap (pointer_rows holder) (opened_map typed_object xs i x within is) in
    let pushed = c.in_ok-push_pointers.ensures ∙ ap (λ ps. c.loop-o.rows.items ++ map (pointer_row holder) ps) c.deref.ensures.value in
    let more = taken (pointer_rows 1 os) c.loop-o.rows.items (pointer_rows holder (drop i os)) (map (pointer_row holder) x.image.pointers.items) (pointer_rows (holder + 1) (drop (i + 1) os)) c.push_pointers.new.rows.items c.loop-o.invariant.whole opens pushed in
    record {
      holder = c.in_ok-holder.ensures ∙ ap (λ k. k + 1) c.loop-o.invariant.holder;
      whole = subst (λ k. pointer_rows 1 os ≡ c.push_pointers.new.rows.items ++ pointer_rows k (drop (i + 1) os)) (sym c.in_ok-holder.ensures) more;
    }
