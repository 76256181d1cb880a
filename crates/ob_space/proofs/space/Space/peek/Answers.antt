use Rattle.std.proofs.Common.{sym, subst}
use Rattle.ob_space.specs.Loaded.{IsShowable, Loaded}
use Rattle.ob_space.proofs.Showing.{showable_lies}
use Rattle.ob_space.proofs.space.Space.peek.Goals as goal

pub read-requires : goal.read-requires
read-requires c =
    showable_lies c.law_objects.ensures.locals_lie c.self.inside.frames c.self.inside.living c.self.inside.settings c.args.w c.args.kind c.law_framed.ensures
    (subst (λ (s : Loaded). IsShowable s c.args.w c.args.kind) (sym c.self.view_is) c.requires)
