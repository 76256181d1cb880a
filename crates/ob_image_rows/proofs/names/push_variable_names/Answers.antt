use Rattle.std.proofs.Common.{◌≡◌, ◌<◌, ◌+◌, List, [], ◌∷◌, ◌++◌, Some, None, inl, inr, length, drop, get_or, ap, sym, subst, ◌∙◌, arith}
use Rattle.std.specs.List.{slice_get}
use Rattle.ob_tree.specs.TypeView.{plain_type, plain_types}
use Rattle.ob_lower.specs.Names.{home_word, row_if_named, variable_names}
use Rattle.ob_homes.specs.HomesView.{plain_home, plain_homes}
use Rattle.ob_homes.proofs.HomeLists.{opened}
use Rattle.ob_image_rows.proofs.RowLists.{names_end, opened_found, opened_nowhere, taken}
use Rattle.ob_image_rows.proofs.names.push_variable_names.Goals as goal

pub loop-name-preserved : goal.loop-name-preserved
loop-name-preserved c =
    let ns = c.args.f.now.names.items in
    let ts = plain_types c.args.f.now.locals.items in
    let hs = plain_homes c.args.h.now.list.items in
    let holder = c.args.holder in
    let v = c.loop-name.ordinal in
    let n = c.name-item.result in
    let t = plain_type c.in-Some.t.now in
    let h = plain_home c.in-Some-home_at.home in
    let same = c.loop-name.invariant.ordinal in
    let all = c.args.rows.now.items ++ variable_names holder 0 ns ts hs in
    let within : v < length ns = omega arith in
    let item : n ≡ get_or ns c.loop-name.name-index n = c.name-item.is ∙ ap (λ ys. get_or ys c.loop-name.name-index n) c.deref-name-items.ensures.value in
    let is : n ≡ get_or ns v n = subst (λ k. n ≡ get_or ns k n) (sym same) item in
    let has_type : slice_get c.args.f.now.locals.items v ≡ Some c.in-Some.t.now = sym c.in-Some.ensures in
    let has_home : slice_get c.args.h.now.list.items v ≡ Some c.in-Some-home_at.home = sym c.in-Some-home_at.ensures in
    let whole = subst (λ k. all ≡ c.loop-name.rows.items ++ variable_names holder k (drop k ns) (drop k ts) (drop k hs)) (sym same) c.loop-name.invariant.whole in
    let opens =
    ap (λ ms. variable_names holder v ms (drop v ts) (drop v hs)) (opened ns v n within is)
    ∙ (ap (λ us. variable_names holder v (n ∷ drop (v + 1) ns) us (drop v hs)) (opened_found plain_type c.args.f.now.locals.items v c.in-Some.t.now has_type)
    ∙ ap (λ gs. variable_names holder v (n ∷ drop (v + 1) ns) (t ∷ drop (v + 1) ts) gs) (opened_found plain_home c.args.h.now.list.items v c.in-Some-home_at.home has_home)) in
    let pushed = c.in_ok-push_name.ensures ∙ ap (λ w. c.loop-name.rows.items ++ row_if_named holder v w t n) c.home_word.ensures in
    let more = taken all c.loop-name.rows.items (variable_names holder v (drop v ns) (drop v ts) (drop v hs)) (row_if_named holder v (home_word h) t n) (variable_names holder (v + 1) (drop (v + 1) ns) (drop (v + 1) ts) (drop (v + 1) hs)) c.push_name.new.rows.items whole opens pushed in
    record {
      ordinal = c.in_ok-ordinal.ensures ∙ ap (λ k. k + 1) same;
      whole = subst (λ k. all ≡ c.push_name.new.rows.items ++ variable_names holder (k + 1) (drop (k + 1) ns) (drop (k + 1) ts) (drop (k + 1) hs)) same more;
    }

pub returns-in-None : goal.returns-in-None
returns-in-None c =
    let ns = c.args.f.now.names.items in
    let ts = plain_types c.args.f.now.locals.items in
    let hs = plain_homes c.args.h.now.list.items in
    let i = c.loop-name.name-index in
    let nowhere : slice_get c.args.f.now.locals.items c.loop-name.ordinal ≡ None = sym c.in-None.ensures in
    let none = subst (λ k. drop k ts ≡ []) c.loop-name.invariant.ordinal (opened_nowhere plain_type c.args.f.now.locals.items c.loop-name.ordinal nowhere) in
    names_end c.args.holder i (drop i ns) (drop i ts) (drop i hs) (c.args.rows.now.items ++ variable_names c.args.holder 0 ns ts hs) c.loop-name.rows.items (inl none) c.loop-name.invariant.whole

pub returns-in_default : goal.returns-in_default
returns-in_default c =
    let ns = c.args.f.now.names.items in
    let ts = plain_types c.args.f.now.locals.items in
    let hs = plain_homes c.args.h.now.list.items in
    let i = c.loop-name.name-index in
    let nowhere : slice_get c.args.h.now.list.items c.loop-name.ordinal ≡ None = cc (c.in_default.is, c.home_at.ensures) in
    let none = subst (λ k. drop k hs ≡ []) c.loop-name.invariant.ordinal (opened_nowhere plain_home c.args.h.now.list.items c.loop-name.ordinal nowhere) in
    names_end c.args.holder i (drop i ns) (drop i ts) (drop i hs) (c.args.rows.now.items ++ variable_names c.args.holder 0 ns ts hs) c.loop-name.rows.items (inr none) c.loop-name.invariant.whole
