use Rattle.std.proofs.Common.{◌∙◌}
use Rattle.ob_tree.specs.ProgramView.{program_tree}
use Rattle.ob_first.proofs.FirstImages.{can_run, has_form, no_form}
use Rattle.ob_first.proofs.first_form.first_image.Goals as goal

pub returns-in_default : goal.returns-in_default
returns-in_default c =
    let spelled = c.deref.ensures.value ∙ c.in_ok-kinds.ensures in
    no_form (program_tree c.args.program.now) c.deref.result.now spelled (rw c.in_default.is at c.in_ok-code.ensures)

pub verified-requires : goal.verified-requires
verified-requires c =
    let spelled = c.deref.ensures.value ∙ c.in_ok-kinds.ensures in
    let read = rw c.in-Some.is at c.in_ok-code.ensures in
    can_run (program_tree c.args.program.now) c.deref.result.now c.in-Some.code.items c.in_ok-image_of.field-0 spelled read c.requires c.in_ok-image_of.ensures

pub returns : goal.returns
returns c =
    let spelled = c.deref.ensures.value ∙ c.in_ok-kinds.ensures in
    let read = rw c.in-Some.is at c.in_ok-code.ensures in
    let image = c.verified.ensures ∙ c.in_ok-image_of.ensures in
    has_form (program_tree c.args.program.now) c.deref.result.now c.in-Some.code.items c.verified.result spelled read c.requires image
