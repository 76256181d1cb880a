use Rattle.std.proofs.Common.{ap, sym, ◌∙◌}
use Rattle.std.specs.Prelude.{option_map}
use Rattle.ob_scopes.specs.declared.names.Named.{Named}
use Rattle.ob_scopes.specs.Names.{declared_as}
use Rattle.ob_scopes.proofs.Shown.{find-declared}
use Rattle.ob_scopes.proofs.names.find_name.Goals as goal

pub returns-in-Some : goal.returns-in-Some
returns-in-Some c =
    sym (find-declared c.args.name.now c.args.names.now.bindings ∙ ap (option_map (λ (n : Named). declared_as (c.args.name.now, n))) (sym c.in-Some.ensures))

pub returns-in-None : goal.returns-in-None
returns-in-None c =
    sym (find-declared c.args.name.now c.args.names.now.bindings ∙ ap (option_map (λ (n : Named). declared_as (c.args.name.now, n))) (sym c.in-None.ensures))
