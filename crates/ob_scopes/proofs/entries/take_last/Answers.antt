use Rattle.std.proofs.Common.{ℕ, Option, subst, sym}
use Rattle.ob_scopes.specs.Newest.{Places}
use Rattle.ob_scopes.proofs.Chains.{taken}
use Rattle.ob_scopes.proofs.entries.take_last.Goals as goal

pub returns-in-Some-before-clause-indexed : goal.returns-in-Some-before-clause-indexed
returns-in-Some-before-clause-indexed g c =
    let p = subst (λ (o : Option ℕ). Places c.args.newest.now c.point.new.map c.bytes.result.now o) (sym c.in-Some-before.is) c.point.ensures in
    taken c.args.newest.now c.point.new.map c.args.entries.now.items c.pop.new.self.items c.in-Some.last c.bytes.result.now c.in-Some.ensures.items c.requires c.bytes.ensures p

pub returns-in-Some-clause-indexed : goal.returns-in-Some-clause-indexed
returns-in-Some-clause-indexed g c =
    let p = subst (λ (o : Option ℕ). Places c.args.newest.now c.clear.new.map c.bytes-in-None.result.now o) (sym c.in-None.is) c.clear.ensures in
    taken c.args.newest.now c.clear.new.map c.args.entries.now.items c.pop.new.self.items c.in-Some.last c.bytes-in-None.result.now c.in-Some.ensures.items c.requires c.bytes-in-None.ensures p
