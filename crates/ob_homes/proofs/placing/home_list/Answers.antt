use Rattle.std.proofs.Common.{◌≡◌, ◌<◌, ◌+◌, ℕ, List, ◌++◌, length, drop, get_or, refl, ap, sym, subst, ◌∙◌, arith}
use Rattle.ob_tree.specs.TypeView.{plain_type, plain_types}
use Rattle.ob_typed.specs.TypedView.{typed_function}
use Rattle.ob_lower.specs.Homes.{homes, homes_from}
use Rattle.ob_homes.specs.HomesView.{plain_homes}
use Rattle.ob_homes.proofs.HomeLists.{flag_tells, more_homes, opened_map}
use Rattle.ob_homes.proofs.placing.home_list.Goals as goal

pub loop-t-preserved : goal.loop-t-preserved
loop-t-preserved c =
    let f = typed_function c.args.f.now in
    let xs = c.args.f.now.locals.items in
    let ts = plain_types xs in
    let v = c.loop-t.v in
    let x = c.t-item.result in
    let same = c.loop-t.invariant.ordinal in
    let within : v < length xs = omega arith in
    let item : x ≡ get_or xs c.loop-t.t-index x = c.t-item.is ∙ ap (λ ys. get_or ys c.loop-t.t-index x) c.deref-t-items.ensures.value in
    let is : x ≡ get_or xs v x = subst (λ k. x ≡ get_or xs k x) (sym same) item in
    let tells = c.flag.ensures ∙ flag_tells f xs v x c.deref.result.now refl within is (c.deref.ensures.value ∙ c.in_ok-exposed.ensures) in
    let whole = subst (λ k. homes f ≡ plain_homes c.loop-t.list.items ++ homes_from f k c.loop-t.next.word c.loop-t.next.row (drop k ts)) (sym same) c.loop-t.invariant.whole in
    let more =
    more_homes f v c.loop-t.next.word c.loop-t.next.row c.placed.new.next.word c.placed.new.next.row (plain_type x) (drop v ts) (drop (v + 1) ts)
    c.flag.result c.loop-t.list.items c.in_ok-home.home (homes f) (opened_map plain_type xs v x within is) tells c.in_ok-home.ensures whole in
    let pushed = subst (λ hs. homes f ≡ plain_homes hs ++ homes_from f (v + 1) c.placed.new.next.word c.placed.new.next.row (drop (v + 1) ts)) (sym c.in_ok-push_on.ensures.ok) more in
    record {
      ordinal = c.in_ok-v.ensures ∙ ap (λ k. k + 1) same;
      whole = subst (λ k. homes f ≡ plain_homes c.push_on.new.list.items ++ homes_from f (k + 1) c.placed.new.next.word c.placed.new.next.row (drop (k + 1) ts)) same pushed;
    }
