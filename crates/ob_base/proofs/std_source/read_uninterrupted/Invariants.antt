use Rattle.std.specs.Io.KnownBytes.{Keeps}
use Rattle.ob_base.proofs.std_source.read_uninterrupted.Given as goal

abbrev pub invariant-loop : goal.invariant-loop
invariant-loop g l = Keeps (g.R.Read.remaining l.fn.inner) (g.R.Read.remaining l.inner)
