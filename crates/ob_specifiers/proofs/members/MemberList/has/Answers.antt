use Rattle.std.proofs.Common.{ap, ◌∙◌}
use Rattle.std.specs.Option.{is_some}
use Rattle.ob_typed.specs.Specifiers.{has_member}
use Rattle.ob_context.proofs.Numbers.{found-some}
use Rattle.ob_specifiers.proofs.Named.{bound-member}
use Rattle.ob_specifiers.proofs.members.MemberList.has.Goals as goal

pub returns : goal.returns
returns c =
    c.is_some.ensures ∙ found-some _ c.find.result ∙ ap is_some c.find.ensures
    ∙ bound-member c.self.inside.rows.items c.self.inside.names.bindings c.args.name.now c.self.invariant ∙ ap (has_member c.args.name.now) c.self.view_is
