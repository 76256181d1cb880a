-- A job whose command takes a maker has its maker among those that are at hand.
use Rattle.std.proofs.Common.{◌≡◌, ℕ, ◌<◌, true, arith}
use Rattle.std.proofs.lemmas.Bool.Decides.{nat_tests}
use Rattle.std.specs.Prelude.{nat_lt}
use Rattle.ob_settings.specs.Jobs.{has_maker}
use Rattle.ob_settings.specs.declared.job.Job.{Job}
use Rattle.ob_settings.specs.declared.verb.Verb.{Verb}
use Rattle.ob_settings.specs.declared.verb.Verb.TheVariants as verb
use Rattle.ob_commands.specs.Delivery.{TakesMaker}

below : (m n : ℕ) → nat_lt m n ≡ true → m < n
below m n is = grind (arith, nat_tests)

by_verb : (job : Job) (n : ℕ) (v : Verb) → TakesMaker v → has_maker (record job { verb = v }) n ≡ true → job.maker < n
by_verb job n verb.Run takes is = below job.maker n is
by_verb job n verb.Exec takes is = below job.maker n is
by_verb job n verb.Audit takes is = below job.maker n is
by_verb job n verb.Sample takes is = below job.maker n is
by_verb job n verb.Compile takes is = absurd takes
by_verb job n verb.Check takes is = absurd takes
by_verb job n verb.Migrate takes is = absurd takes

pub maker_there : (job : Job) (n : ℕ) → TakesMaker job.verb → has_maker job n ≡ true → job.maker < n
maker_there job n takes is = by_verb job n job.verb takes is
