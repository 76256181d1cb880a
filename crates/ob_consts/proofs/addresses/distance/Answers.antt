use Rattle.std.proofs.Common.{rules, ◌≡◌, ◌<◌, ◌^◌, ◌∙◌, ap, true, false, arith}
use Rattle.std.proofs.lemmas.Grind.{common_steps}
use Rattle.std.specs.Int.{w128}
use Rattle.std.proofs.lemmas.Int.{to_z-of_z}
use Rattle.ob_words.specs.declared.types.IntType.TheVariants.{Long}
use Rattle.ob_words.specs.Conversion.{convert}
use Rattle.ob_consts.proofs.Distances.{back, forward}
use Rattle.ob_consts.proofs.addresses.distance.Goals as goal

pub returns-then-minus : goal.returns-then-minus
returns-then-minus c =
    let on : c.args.minus ≡ true = first_of (search rules, grind (arith, common_steps)) in
    let fits : c.args.scale < 2 ^ 64 = first_of (search rules, grind (arith, common_steps)) in
    back c.args.minus c.args.scale c.args.n c.convert.result on fits (c.convert.ensures.value ∙ ap (convert Long) (to_z-of_z w128 c.args.n c.ranges.n)) c.convert.ensures.meaning.is_number

pub returns-else-minus : goal.returns-else-minus
returns-else-minus c =
    let off : c.args.minus ≡ false = first_of (search rules, grind (arith, common_steps)) in
    let fits : c.args.scale < 2 ^ 64 = first_of (search rules, grind (arith, common_steps)) in
    forward c.args.minus c.args.scale c.args.n c.convert.result off fits (c.convert.ensures.value ∙ ap (convert Long) (to_z-of_z w128 c.args.n c.ranges.n)) c.convert.ensures.meaning.is_number
