use Rattle.std.proofs.Common.{◌≡◌, List, get_or, Some, ap, sym, ◌∙◌}
use Rattle.std.specs.Prelude.{remove}
use Rattle.std.proofs.lemmas.List.{get_or_default}
use Rattle.ob_model.specs.Entries.{without_base}
use Rattle.ob_model.specs.declared.objects.Entry.{Entry}
use Rattle.ob_objects.specs.Objects.{IsInOrder}
use Rattle.ob_objects_trials.proofs.Order.{no_entry}
use Rattle.ob_objects_trials.proofs.Changes.{at_base-none, at_base-found, without_base-none, without_base-remove, one_base}
use Rattle.ob_objects_trials.proofs.sorted.SortedTable.remove.Goals as goal

pub returns-in_err-index-clause-entry : goal.returns-in_err-index-clause-entry
returns-in_err-index-clause-entry c =
    rw (← c.self.view_is, ← c.as_slice.ensures.value) (c.from_residual.ensures ∙ sym (at_base-none c.as_slice.result.now c.args.base no_entry c.in_err-index.ensures))

pub returns-in_err-index-clause-others : goal.returns-in_err-index-clause-others
returns-in_err-index-clause-others c =
    rw (← c.self.view_is, ← c.as_slice.ensures.value) (sym (without_base-none c.args.base c.as_slice.result.now c.in_err-index.ensures))

pub returns-clause-entry : goal.returns-clause-entry
returns-clause-entry c =
    let in_order : IsInOrder c.as_slice.result.now = rw c.as_slice.ensures.value c.self.invariant.in_order in
    let taken : c.remove.result ≡ get_or c.as_slice.result.now c.in_ok-index.index no_entry =
    c.remove.ensures.value
    ∙ get_or_default c.self.inside.entries.items c.in_ok-index.index c.remove.result no_entry (rw (← c.as_slice.ensures.value) c.in_ok-index.ensures.0)
    ∙ ap (λ (xs : List Entry). get_or xs c.in_ok-index.index no_entry) (sym c.as_slice.ensures.value) in
    rw (← c.self.view_is, ← c.as_slice.ensures.value)
    (ap Some taken ∙ sym (at_base-found c.as_slice.result.now c.in_ok-index.index c.args.base no_entry in_order c.in_ok-index.ensures.0 c.in_ok-index.ensures.1))

pub returns-clause-others : goal.returns-clause-others
returns-clause-others c =
    let in_order : IsInOrder c.as_slice.result.now = rw c.as_slice.ensures.value c.self.invariant.in_order in
    let removed : c.remove.new.self.items ≡ without_base c.args.base c.as_slice.result.now =
    c.remove.ensures.items
    ∙ ap (λ (xs : List Entry). remove xs c.in_ok-index.index) (sym c.as_slice.ensures.value)
    ∙ sym (without_base-remove c.args.base c.as_slice.result.now c.in_ok-index.index c.in_ok-index.ensures.0 c.in_ok-index.ensures.1
    (one_base c.as_slice.result.now c.in_ok-index.index c.args.base in_order c.in_ok-index.ensures.0 c.in_ok-index.ensures.1)) in
    rw (← c.self.view_is, ← c.as_slice.ensures.value) removed
