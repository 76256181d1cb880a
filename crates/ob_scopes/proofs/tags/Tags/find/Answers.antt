use Rattle.std.proofs.Common.{ap, sym, ◌∙◌}
use Rattle.std.specs.Prelude.{option_map}
use Rattle.ob_typed.specs.Scopes.{TagDeclared, find_tag}
use Rattle.ob_scopes.specs.declared.tags.Tag.{Tag}
use Rattle.ob_scopes.specs.Bindings.{Scopes}
use Rattle.ob_scopes.specs.Tags.{tag_as}
use Rattle.ob_scopes.proofs.Layers.{shown-within}
use Rattle.ob_scopes.proofs.Shown.{find-tag}
use Rattle.ob_scopes.proofs.tags.Tags.find.Goals as goal

pub returns-in-Some-clause-found : goal.returns-in-Some-clause-found
returns-in-Some-clause-found c =
    sym (ap (λ (s : Scopes TagDeclared). find_tag c.args.name.now s.bindings) (sym c.self.view_is) ∙ find-tag c.args.name.now c.self.inside.table.bindings
    ∙ ap (option_map (λ (t : Tag). tag_as (c.args.name.now, t))) (sym c.in-Some.ensures))

pub returns-in-Some-clause-within : goal.returns-in-Some-clause-within
returns-in-Some-clause-within c = shown-within c.self.inside.table c.args.self.now c.self.view_is c.self.invariant

pub returns-in-None-clause-found : goal.returns-in-None-clause-found
returns-in-None-clause-found c =
    sym (ap (λ (s : Scopes TagDeclared). find_tag c.args.name.now s.bindings) (sym c.self.view_is) ∙ find-tag c.args.name.now c.self.inside.table.bindings
    ∙ ap (option_map (λ (t : Tag). tag_as (c.args.name.now, t))) (sym c.in-None.ensures))

pub returns-in-None-clause-within : goal.returns-in-None-clause-within
returns-in-None-clause-within c = shown-within c.self.inside.table c.args.self.now c.self.view_is c.self.invariant
