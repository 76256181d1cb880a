use Rattle.ob_types.proofs.Places.{place_found, place_on}
use Rattle.ob_types.proofs.missing.place_in_files.Goals as goal

pub returns-in-Some : goal.returns-in-Some
returns-in-Some c =
    place_found c.args.name.now c.args.ds.now.items c.deref-d-items.result.now c.loop-d.d-index c.d-item.result c.in-Some.place c.place_in_file.result
    c.loop-d.invariant c.deref-d-items.ensures.value c.loop-d-test.true c.d-item.is c.place_in_file.ensures c.in-Some.is

pub loop-d-preserved : goal.loop-d-preserved
loop-d-preserved c =
    place_on c.args.name.now c.args.ds.now.items c.deref-d-items.result.now c.loop-d.d-index c.d-item.result c.place_in_file.result
    c.loop-d.invariant c.deref-d-items.ensures.value c.loop-d-test.true c.d-item.is c.place_in_file.ensures c.in-None.is
