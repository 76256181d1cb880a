use Rattle.std.proofs.Common.{◌-◌, ℤ, pos, Bool, Some, sym, ◌∙◌, ap, rules, w64}
use Rattle.std.specs.Option.{option_map}
use Rattle.std.proofs.lemmas.Int.{to_z_pos}
use Rattle.ob_pointers.specs.Kept.{pointee_at}
use Rattle.ob_pointers.proofs.Known.{at_address}
use Rattle.ob_pointers.proofs.named.at_address.Goals as goal

pub overflow_sub-result : goal.overflow_sub-result
overflow_sub-result c = (at_address c.args.w c.args.objects.now.entries c.in_ok-entry.entry c.requires (sym c.in_ok-entry.ensures.entry)).0

pub overflow_cast-result : goal.overflow_cast-result
overflow_cast-result c =
    let lies = at_address c.args.w c.args.objects.now.entries c.in_ok-entry.entry c.requires (sym c.in_ok-entry.ensures.entry) in
    search rules

pub returns-clause-pointee : goal.returns-clause-pointee
returns-clause-pointee c =
    let e = c.in_ok-entry.entry in
    let lies = at_address c.args.w c.args.objects.now.entries e c.requires (sym c.in_ok-entry.ensures.entry) in
    ap (λ (z : ℤ). Some (record { entry = e; freed = c.is_marked.result; offset = z })) (to_z_pos w64 (c.args.w - e.base) lies.1)
    ∙ ap (λ (b : Bool). Some (record { entry = e; freed = b; offset = pos (c.args.w - e.base) })) c.is_marked.ensures
    ∙ ap (option_map (pointee_at c.args.marks.now c.args.w)) c.in_ok-entry.ensures.entry
