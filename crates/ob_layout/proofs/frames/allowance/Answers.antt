use Rattle.std.proofs.Common.{rules, ◌≡◌, ◌<◌, length, get_or, arith}
use Rattle.std.proofs.lemmas.Grind.{common_steps}
use Rattle.ob_tree.specs.StructsView.{plain_structs}
use Rattle.ob_layout.proofs.Layouts.{complete_at}
use Rattle.ob_layout.proofs.frames.allowance.Goals as goal

pub size-requires : goal.size-requires
size-requires c =
    let items = c.args.locals.now.items in
    let within : c.loop-local.local-index < length items = first_of (search rules, grind (arith, common_steps)) in
    let is : c.local-item.result ≡ get_or items c.loop-local.local-index c.local-item.result = first_of (search rules, grind (arith, common_steps)) in
    complete_at (plain_structs c.args.s.now) items c.loop-local.local-index c.local-item.result c.requires.complete within is
