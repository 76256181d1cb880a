use Rattle.std.proofs.Common.{ℕ, ◌+◌, ◌<◌, ◌≤◌, ◌==◌, false, not, List, length, get_or, take, sym, ap, ◌∙◌, subst}
use Rattle.std.specs.List.{Contains}
use Rattle.ob_model.specs.Entries.{Known}
use Rattle.ob_code.specs.declared.image.FunctionRow.{FunctionRow}
use Rattle.ob_code.specs.declared.image.LocalRow.{LocalRow}
use Rattle.ob_code.specs.Frames.{local_entry}
use Rattle.ob_code.specs.Layout.{no_local}
use Rattle.ob_code.specs.Rules.{local_at}
use Rattle.ob_lifetimes.specs.Living.{Living}
use Rattle.ob_lifetimes.proofs.Frames.{is_row, is_row_before}
use Rattle.ob_lifetimes.proofs.Leaving.{all_dead, rows-all, rows-more, rows-none, without, without_rows}
use Rattle.ob_lifetimes.proofs.Members.{Contains-filter}
use Rattle.ob_lifetimes.proofs.lifetimes.Lifetimes.leave.Goals as goal

pub loop-local-init : goal.loop-local-init
loop-local-init c = rows-none c.args.first c.args.row.now.locals c.args.self.now

pub end_local-requires-clause-known : goal.end_local-requires-clause-known
end_local-requires-clause-known c =
    let f : FunctionRow = c.args.row.now in
    let at : ℕ = c.loop-local.local-index in
    let first : ℕ = c.args.first in
    let known : LocalRow → Known = λ r. record { entry = local_entry c.args.base first r; freed = false } in
    let below : at < length f.locals = subst (λ (rs : List LocalRow). at < length rs) c.as_slice-local-items.ensures c.loop-local-test.true in
    let old : Contains c.args.self.now.entries (known (local_at f at)) = c.requires.known at no_local below in
    let left : Contains (without_rows first f.locals at c.args.self.now).entries (known (local_at f at)) =
    Contains-filter (λ (k : Known). not (is_row first (take at f.locals) k.entry.object)) (known (local_at f at)) c.args.self.now.entries (ap not (is_row_before f c.requires.sound first at below)) old in
    let now : Contains c.loop-local.self.entries (known (local_at f at)) = subst (λ (l : Living). Contains l.entries (known (local_at f at))) (sym c.loop-local.invariant) left in
    subst (λ (rs : List LocalRow). Contains c.loop-local.self.entries (known (get_or rs at no_local))) (sym c.as_slice-local-items.ensures) now

pub loop-local-preserved : goal.loop-local-preserved
loop-local-preserved c =
    let rows : List LocalRow = c.args.row.now.locals in
    let at : ℕ = c.loop-local.local-index in
    let first : ℕ = c.args.first in
    let below : at < length rows = subst (λ (rs : List LocalRow). at < length rs) c.as_slice-local-items.ensures c.loop-local-test.true in
    let dead : List LocalRow → Living → Living = λ rs l. without (λ other. other == first + (get_or rs at no_local).ordinal) 1 l in
    c.end_local.ensures
    ∙ ap (λ (rs : List LocalRow). dead rs c.loop-local.self) c.as_slice-local-items.ensures
    ∙ ap (dead rows) c.loop-local.invariant
    ∙ rows-more first rows at c.args.self.now below

pub returns : goal.returns
returns c =
    let f : FunctionRow = c.args.row.now in
    let at : ℕ = c.loop-local.local-index in
    let past : length f.locals ≤ at = subst (λ (rs : List LocalRow). length rs ≤ at) c.as_slice-local-items.ensures c.loop-local-test.false in
    let within : at ≤ length f.locals = subst (λ (rs : List LocalRow). at ≤ length rs) c.as_slice-local-items.ensures c.loop-local.auto.local-index-end in
    all_dead f c.requires.sound c.args.base c.args.first c.args.self.now c.requires.own c.law_tables.ensures.slots c.law_tables.ensures.outside c.law_tables.ensures.blocks c.loop-local.self
    (c.loop-local.invariant ∙ rows-all c.args.first f.locals at c.args.self.now past within)
