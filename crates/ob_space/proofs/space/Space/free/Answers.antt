use Rattle.std.proofs.Common.{sym, subst}
use Rattle.ob_space.proofs.Linking.{links_kept}
use Rattle.ob_standing.specs.Laws.{KeepsStanding}
use Rattle.ob_space.specs.Kept.{loaded_in}
use Rattle.ob_space.specs.Loaded.{Loaded, freeing_of}
use Rattle.ob_space.proofs.Allocating.{freed_space, kept_freed}
use Rattle.ob_space.proofs.space.Space.free.Goals as goal

pub invariant_of-self : goal.invariant_of-self
invariant_of-self g c =
    kept_freed c.self.inside.frames c.self.inside.living c.free-freed.new.self c.self.inside.settings c.args.w c.free-freed.result c.law_framed.ensures c.stands.ensures c.self.invariant c.free-freed.ensures.freed c.free-freed.ensures.after

pub returns-clause-links : goal.returns-clause-links
returns-clause-links g c = rw (← c.self.view_is) (links_kept c.self.inside.frames.memory c.self.inside.frames.calls c.law_framed.ensures.linked)

pub returns-clause-standing : goal.returns-clause-standing
returns-clause-standing g c =
    let old : Loaded = loaded_in c.self.inside.frames c.self.inside.living c.self.inside.settings in
    let is = freed_space c.self.inside.frames c.self.inside.living c.free-freed.new.self c.self.inside.settings c.args.w c.free-freed.result c.self.invariant c.free-freed.ensures.freed c.free-freed.ensures.after in
    rw (← c.self.view_is)
    (subst (λ (x : Loaded). KeepsStanding old.space x.space) (sym is) (c.law_deaths.ensures.frees old.settings.profile (freeing_of old c.args.w) old.space c.stands.ensures.given_out))
