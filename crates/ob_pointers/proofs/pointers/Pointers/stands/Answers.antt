use Rattle.std.proofs.Common.{subst}
use Rattle.ob_pointers.specs.Pointing.{Pointing, IsSound}
use Rattle.ob_pointers.proofs.Sound.{sound_from}
use Rattle.ob_pointers.proofs.pointers.Pointers.stands.Goals as goal

pub returns : goal.returns
returns c = subst (λ (p : Pointing). IsSound p) c.self.view_is (sound_from c.self.inside.objects c.self.inside.freed.items c.self.inside.away c.self.inside.heap c.self.invariant)
