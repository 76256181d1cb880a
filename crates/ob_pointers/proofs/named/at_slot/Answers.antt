use Rattle.std.proofs.Common.{Option, ap, sym, ◌∙◌, subst}
use Rattle.std.specs.Prelude.{IfSome}
use Rattle.std.specs.Option.{option_map}
use Rattle.ob_model.specs.declared.objects.Entry.{Entry}
use Rattle.ob_access.specs.declared.pointee.Pointee.{Pointee}
use Rattle.ob_access.specs.Pointees.{target_of}
use Rattle.ob_pointers.specs.Pointing.{IsKnownPointee}
use Rattle.ob_pointers.specs.Kept.{known, known_in, pointee_at, with_offset}
use Rattle.ob_pointers.proofs.Lists.{among_mapped}
use Rattle.ob_pointers.proofs.Renaming.{IsOf, by_its_slot}
use Rattle.ob_pointers.proofs.named.at_slot.Goals as goal

pub returns-clause-target : goal.returns-clause-target
returns-clause-target c =
    let of : IsOf c.args.objects.now.entries c.args.marks.now c.args.away.now.slots c.args.w c.in_ok-pair.pair.0 c.in_ok-pair.pair.1 =
    by_its_slot c.args.objects.now.entries c.args.marks.now c.args.away.now.slots c.requires.0 c.args.w c.in_ok-pair.pair.0 c.in_ok-pair.pair.1 c.requires.1 (sym c.in_ok-pair.ensures.pair) in
    ap target_of (c.at_pair.ensures.pointee ∙ ap (option_map (λ (e : Entry). with_offset c.in_ok-pair.pair.1 (pointee_at c.args.marks.now c.in_ok-pair.pair.0 e))) of.found_there)
    ∙ of.target

pub returns-clause-known : goal.returns-clause-known
returns-clause-known c =
    let of : IsOf c.args.objects.now.entries c.args.marks.now c.args.away.now.slots c.args.w c.in_ok-pair.pair.0 c.in_ok-pair.pair.1 =
    by_its_slot c.args.objects.now.entries c.args.marks.now c.args.away.now.slots c.requires.0 c.args.w c.in_ok-pair.pair.0 c.in_ok-pair.pair.1 c.requires.1 (sym c.in_ok-pair.ensures.pair) in
    subst (λ (o : Option Pointee). IfSome o (IsKnownPointee (known_in c.args.marks.now c.args.objects.now.entries)))
    (sym (c.at_pair.ensures.pointee ∙ ap (option_map (λ (e : Entry). with_offset c.in_ok-pair.pair.1 (pointee_at c.args.marks.now c.in_ok-pair.pair.0 e))) of.found_there))
    (among_mapped (known c.args.marks.now) c.args.objects.now.entries of.entry of.among)
