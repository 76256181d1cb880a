use Rattle.std.proofs.Common.{rules, ◌≡◌, false, ◌+ℤ◌}
use Rattle.ob_model.specs.Accesses.{is_far}
use Rattle.ob_access.specs.Reaches.{near}
use Rattle.ob_access.proofs.Landing.{whole}
use Rattle.ob_access.proofs.access.access_to.Goals as goal

pub returns-in-Some : goal.returns-in-Some
returns-in-Some c =
    let close : is_far c.args.displacement ≡ false = search rules in
    let to_is : c.moved.result ≡ near (c.in-Some.p.offset +ℤ c.args.displacement) = search rules in
    whole c.args.mode c.args.pointer c.in-Some.p c.args.displacement c.args.k c.moved.result _ c.in-Some.is close to_is c.access_at.ensures
