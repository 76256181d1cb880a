use Rattle.std.proofs.Common.{List, ap, ◌∙◌}
use Rattle.ob_model.specs.declared.objects.Entry.{Entry}
use Rattle.ob_code.specs.Pointers.{by_slot}
use Rattle.ob_model.specs.Descriptors.{named_pair}
use Rattle.ob_pointers.specs.Kept.{known_in, slots_in}
use Rattle.ob_pointers.proofs.Known.{is_there, is_not_there}
use Rattle.ob_pointers.proofs.named.named.Goals as goal

pub returns-in-Some-clause-target : goal.returns-in-Some-clause-target
returns-in-Some-clause-target c =
    (is_there c.args.marks.now c.args.w c.args.objects.now.entries c.in-Some.pointee (by_slot (named_pair (slots_in c.args.objects.now.entries c.args.away.now.slots) c.args.w) (known_in c.args.marks.now c.args.objects.now.entries)) c.in-Some.ensures.pointee).target

pub returns-in-Some-clause-known : goal.returns-in-Some-clause-known
returns-in-Some-clause-known c =
    (is_there c.args.marks.now c.args.w c.args.objects.now.entries c.in-Some.pointee (by_slot (named_pair (slots_in c.args.objects.now.entries c.args.away.now.slots) c.args.w) (known_in c.args.marks.now c.args.objects.now.entries)) c.in-Some.ensures.pointee).known_there

pub returns-in-None-clause-target : goal.returns-in-None-clause-target
returns-in-None-clause-target c =
    c.at_slot.ensures.target
    ∙ ap (λ (es : List Entry). by_slot (named_pair (slots_in es c.args.away.now.slots) c.args.w) (known_in c.args.marks.now es)) c.at_address.ensures.entries
    ∙ is_not_there c.args.marks.now c.args.w c.args.objects.now.entries (by_slot (named_pair (slots_in c.args.objects.now.entries c.args.away.now.slots) c.args.w) (known_in c.args.marks.now c.args.objects.now.entries)) c.in-None.ensures.pointee
