use Rattle.std.proofs.Common.{◌≡◌, ℕ, ◌+◌, ◌<◌, ◌≤◌, List, length, get_or, arith, sym, ap, ◌∙◌, subst}
use Rattle.std.specs.List.{All}
use Rattle.ob_model.specs.Limits.{heap_start}
use Rattle.ob_code.specs.declared.image.FunctionRow.{FunctionRow}
use Rattle.ob_code.specs.declared.image.LocalRow.{LocalRow}
use Rattle.ob_code.specs.Frames.{frame_length, local_end, with_locals}
use Rattle.ob_code.specs.Layout.{no_local}
use Rattle.ob_code.specs.Rules.{local_at}
use Rattle.ob_standing.specs.Laws.{IsGivenOut}
use Rattle.ob_lifetimes.specs.Living.{LiesOutside, Living}
use Rattle.ob_lifetimes.proofs.Entering.{IsEntering-none, IsEntering-more, entered_all, one_more}
use Rattle.ob_lifetimes.proofs.Frames.{rows_within}
use Rattle.ob_lifetimes.proofs.lifetimes.Lifetimes.enter.Goals as goal

pub loop-local-init : goal.loop-local-init
loop-local-init c =
    let base : ℕ = c.args.base in
    let f : FunctionRow = c.args.row.now in
    let after = c.give_numbers-first.ensures.after in
    let outside : All (LiesOutside base (base + frame_length f)) c.give_numbers-first.new.self.entries = subst (λ (l : Living). All (LiesOutside base (base + frame_length f)) l.entries) (sym after) c.requires.free in
    let given : All (IsGivenOut c.give_numbers-first.result) c.give_numbers-first.new.self.entries = subst (λ (l : Living). All (IsGivenOut c.give_numbers-first.result) l.entries) (sym after) c.give_numbers-first.ensures.given_out in
    IsEntering-none base c.give_numbers-first.result f c.give_numbers-first.new.self c.requires.sound outside given

pub insert_local-requires-clause-end : goal.insert_local-requires-clause-end
insert_local-requires-clause-end c =
    let f : FunctionRow = c.args.row.now in
    let at : ℕ = c.loop-local.local-index in
    let below : at < length f.locals = subst (λ (rs : List LocalRow). at < length rs) c.as_slice-local-items.ensures c.loop-local-test.true in
    let within : local_end (local_at f at) ≤ frame_length f = rows_within f c.requires.sound at below in
    let ends : c.args.base + (local_at f at).place + (local_at f at).size < heap_start = omega (arith, within, c.requires.end) in
    subst (λ (rs : List LocalRow). c.args.base + (get_or rs at no_local).place + (get_or rs at no_local).size < heap_start) (sym c.as_slice-local-items.ensures) ends

pub loop-local-preserved : goal.loop-local-preserved
loop-local-preserved c =
    let base : ℕ = c.args.base in
    let first : ℕ = c.give_numbers-first.result in
    let f : FunctionRow = c.args.row.now in
    let at : ℕ = c.loop-local.local-index in
    let below : at < length f.locals = subst (λ (rs : List LocalRow). at < length rs) c.as_slice-local-items.ensures c.loop-local-test.true in
    let made : c.insert_local.new.self ≡ one_more base first (local_at f at) c.loop-local.self =
    c.insert_local.ensures ∙ ap (λ (rs : List LocalRow). one_more base first (get_or rs at no_local) c.loop-local.self) c.as_slice-local-items.ensures in
    IsEntering-more base first f at c.give_numbers-first.new.self c.loop-local.self c.insert_local.new.self c.requires.sound below c.loop-local.invariant made

pub returns : goal.returns
returns c =
    let base : ℕ = c.args.base in
    let f : FunctionRow = c.args.row.now in
    let at : ℕ = c.loop-local.local-index in
    let past : length f.locals ≤ at = subst (λ (rs : List LocalRow). length rs ≤ at) c.as_slice-local-items.ensures c.loop-local-test.false in
    let within : at ≤ length f.locals = subst (λ (rs : List LocalRow). at ≤ length rs) c.as_slice-local-items.ensures c.loop-local.auto.local-index-end in
    let wanted : ℕ → Living → Living = λ n l. record l { entries = with_locals base n f.locals l.entries; locals = l.locals + length f.locals } in
    entered_all base c.give_numbers-first.result f at c.give_numbers-first.new.self c.loop-local.self past within c.loop-local.invariant
    ∙ ap (λ n. wanted n c.give_numbers-first.new.self) c.give_numbers-first.ensures.first
    ∙ ap (wanted c.args.self.now.next) c.give_numbers-first.ensures.after
