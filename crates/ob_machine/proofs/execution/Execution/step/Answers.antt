use Rattle.ob_machine.specs.Exchanges.{begun}
use Rattle.ob_machine.specs.Executions.{does}
use Rattle.ob_machine.proofs.Exchanged.{done_advances}
use Rattle.ob_machine.proofs.Stepped.{free_advances, load_advances, reads_answer, store_answers, writes_answer}
use Rattle.ob_machine.proofs.execution.Execution.step.Goals as goal

pub returns-in-Done-clause-answer : goal.returns-in-Done-clause-answer
returns-in-Done-clause-answer g c =
    let e = begun c.args.self.now in
    let cycle = g.M.Maker.cycle c.args.maker.now in
    done_advances (does c.args.image.now e.space.settings cycle) e c.act.new.self _ c.in-Done.answer c.requires.end (c.in-Done.ensures.effect cycle)

pub returns-in-Reads-clause-answer : goal.returns-in-Reads-clause-answer
returns-in-Reads-clause-answer g c =
    let effect = c.in-Reads.ensures.effect in
    let e = begun c.args.self.now in
    reads_answer c.args.image.now e.space.settings (g.M.Maker.cycle c.args.maker.now) e c.act.new.self c.get_char.new.self _ _ c.in-Reads.a c.get_char.result effect.0 effect.1 (c.get_char.ensures.answer _)

pub returns-in-Writes-clause-answer : goal.returns-in-Writes-clause-answer
returns-in-Writes-clause-answer g c =
    let effect = c.in-Writes.ensures.effect in
    let e = begun c.args.self.now in
    writes_answer c.args.image.now e.space.settings (g.M.Maker.cycle c.args.maker.now) e c.act.new.self c.put_char.new.self _
    c.put_char.new.output c.in-Writes.a c.in-Writes.b c.put_char.result effect.0 effect.1 c.requires.end c.put_char.ensures.state

pub returns-in-Loads-clause-answer : goal.returns-in-Loads-clause-answer
returns-in-Loads-clause-answer g c =
    let effect = c.in-Loads.ensures.effect in
    load_advances c.args.image.now (begun c.args.self.now) c.act.new.self c.load.new.self _ _ effect.0 c.requires.end
    c.in-Loads.kind c.in-Loads.line c.in-Loads.a c.in-Loads.b c.in-Loads.c c.load.result effect.1 c.load.ensures.heard

pub returns-in-Stores-clause-answer : goal.returns-in-Stores-clause-answer
returns-in-Stores-clause-answer g c =
    let effect = c.in-Stores.ensures.effect in
    store_answers c.args.image.now (begun c.args.self.now) c.act.new.self c.store.new.self _ _ effect.0 c.requires.end
    c.in-Stores.kind c.in-Stores.line c.in-Stores.a c.in-Stores.b c.in-Stores.c c.store.result effect.1 (c.store.ensures.heard _ _)

pub returns-in-Frees-clause-answer : goal.returns-in-Frees-clause-answer
returns-in-Frees-clause-answer g c =
    let effect = c.in-Frees.ensures.effect in
    free_advances c.args.image.now (begun c.args.self.now) c.act.new.self c.free.new.self _ _ effect.0 c.requires.end
    c.in-Frees.line c.in-Frees.b c.free.result effect.1 (c.free.ensures.heard _ _)
