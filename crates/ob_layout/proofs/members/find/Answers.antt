use Rattle.std.proofs.Common.{rules, ◌≡◌, ◌<◌, false, length, get_or, arith}
use Rattle.std.proofs.lemmas.Grind.{common_steps}
use Rattle.std.specs.Str.{bytes_eq}
use Rattle.ob_tree.specs.StructsView.{plain_structs}
use Rattle.ob_tree.specs.Sizes.{struct_layout}
use Rattle.ob_layout.specs.Capped.{shown}
use Rattle.ob_layout.proofs.Found.{turn}
use Rattle.ob_layout.proofs.members.find.Goals as goal

pub loop-index-preserved : goal.loop-index-preserved
loop-index-preserved c =
    let items = c.args.row.now.members.items in
    let within : c.loop-index.index < length items = first_of (search rules, grind (arith, common_steps)) in
    let is : c.member-item.result ≡ get_or items c.loop-index.index c.member-item.result = first_of (search rules, grind (arith, common_steps)) in
    let other : bytes_eq c.member-item.result.name c.args.name.now ≡ false = first_of (search rules, grind (arith, common_steps)) in
    turn (struct_layout (length (plain_structs c.args.s.now)) (plain_structs c.args.s.now)) _ (shown c.loop-index.before) (shown c.laid-layout.result) (shown c.append-before.result)
    items c.loop-index.index c.member-item.result c.args.name.now within is c.loop-index.invariant other c.laid-layout.ensures c.append-before.ensures
