use Rattle.std.proofs.Common.{◌≡◌, Some, None, ap, sym, ◌∙◌}
use Rattle.ob_scopes.specs.Newest.{place_in}
use Rattle.ob_scopes.proofs.Chains.{found-at, unfound-at}
use Rattle.ob_scopes.proofs.entries.find.Goals as goal

pub returns-in-Some : goal.returns-in-Some
returns-in-Some g c =
    let e : Some c.in-Some.place ≡ place_in c.args.newest.now c.args.name.now = c.in-Some.ensures ∙ ap (place_in c.args.newest.now) c.bytes.ensures in
    c.value_at.ensures ∙ sym (found-at c.args.newest.now c.args.entries.now.items c.args.name.now c.in-Some.place c.requires e)

pub returns-in-None : goal.returns-in-None
returns-in-None g c =
    let e : None ≡ place_in c.args.newest.now c.args.name.now = c.in-None.ensures ∙ ap (place_in c.args.newest.now) c.bytes.ensures in
    sym (unfound-at c.args.newest.now c.args.entries.now.items c.args.name.now c.requires e)
