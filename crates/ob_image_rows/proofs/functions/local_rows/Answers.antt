use Rattle.std.proofs.Common.{◌≡◌, ◌<◌, ◌+◌, List, [], ◌∷◌, ◌++◌, Some, None, length, drop, get_or, ap, sym, subst, ◌∙◌, arith}
use Rattle.std.specs.List.{slice_get}
use Rattle.ob_tree.specs.StructsView.{plain_structs}
use Rattle.ob_tree.specs.TypeView.{plain_type, plain_types}
use Rattle.ob_code.specs.Frames.{words_end}
use Rattle.ob_lower.specs.Functions.{rows_from}
use Rattle.ob_homes.specs.HomesView.{plain_home, plain_homes}
use Rattle.ob_homes.proofs.HomeLists.{opened_map}
use Rattle.ob_image_rows.proofs.RowLists.{more_rows, opened_found, opened_nowhere, rows_end}
use Rattle.ob_image_rows.proofs.functions.local_rows.Goals as goal

pub returns-in-None : goal.returns-in-None
returns-in-None c =
    let s = plain_structs c.args.s.now in
    let ts = plain_types c.args.locals.now in
    let hs = plain_homes c.args.h.now.list.items in
    let i = c.loop-t.t-index in
    let nowhere : slice_get c.args.h.now.list.items c.loop-t.ordinal ≡ None = sym c.in-None.ensures in
    let none = subst (λ k. drop k hs ≡ []) c.loop-t.invariant.ordinal (opened_nowhere plain_home c.args.h.now.list.items c.loop-t.ordinal nowhere) in
    rows_end s i c.loop-t.place (drop i ts) (drop i hs) (rows_from s 0 (words_end c.args.words) ts hs) c.loop-t.rows.items none c.loop-t.invariant.whole

pub loop-t-preserved : goal.loop-t-preserved
loop-t-preserved c =
    let s = plain_structs c.args.s.now in
    let ts = plain_types c.args.locals.now in
    let hs = plain_homes c.args.h.now.list.items in
    let v = c.loop-t.ordinal in
    let p = c.loop-t.place in
    let q = c.push_local.new.place in
    let x = c.t-item.result in
    let same = c.loop-t.invariant.ordinal in
    let all = rows_from s 0 (words_end c.args.words) ts hs in
    let within : v < length c.args.locals.now = omega arith in
    let is : x ≡ get_or c.args.locals.now v x = subst (λ k. x ≡ get_or c.args.locals.now k x) (sym same) c.t-item.is in
    let found : slice_get c.args.h.now.list.items v ≡ Some c.in-Some.home = sym c.in-Some.ensures in
    let whole = subst (λ k. all ≡ c.loop-t.rows.items ++ rows_from s k p (drop k ts) (drop k hs)) (sym same) c.loop-t.invariant.whole in
    let more =
    more_rows s v p q (plain_type x) (plain_home c.in-Some.home) (drop v ts) (drop (v + 1) ts) (drop v hs) (drop (v + 1) hs) all c.loop-t.rows.items c.push_local.new.rows.items
    (opened_map plain_type c.args.locals.now v x within is) (opened_found plain_home c.args.h.now.list.items v c.in-Some.home found) c.in_ok-push_local-in-Some.ensures whole in
    record {
      ordinal = c.in_ok-ordinal.ensures ∙ ap (λ k. k + 1) same;
      whole = subst (λ k. all ≡ c.push_local.new.rows.items ++ rows_from s (k + 1) q (drop (k + 1) ts) (drop (k + 1) hs)) same more;
    }
