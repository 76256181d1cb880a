use Rattle.std.proofs.Common.{◌≡◌, length, sym, subst}
use Rattle.ob_model.specs.Objects.{is_among}
use Rattle.ob_code.specs.declared.image.FunctionRow.{FunctionRow}
use Rattle.ob_frames.specs.Framed.{call_of}
use Rattle.ob_lifetimes.specs.Living.{AreKnown, Dies}
use Rattle.ob_standing.specs.Laws.{KeepsStanding}
use Rattle.ob_space.specs.Kept.{loaded_in}
use Rattle.ob_space.specs.Loaded.{Loaded}
use Rattle.ob_space.proofs.Leaving.{DiesAt, head_objects, kept_left, left_keeps, row_left, row_of, view_left}
use Rattle.ob_space.proofs.space.Space.leave.Goals as goal

pub leave-requires-2-clause-known : goal.leave-requires-2-clause-known
leave-requires-2-clause-known c =
    let has = head_objects c.in_ok-call.call c.self.inside.frames c.leave.new.self c.self.inside.living c.self.inside.settings c.in_ok-call.ensures.answer c.self.invariant in
    subst (λ (row : FunctionRow). AreKnown c.in_ok-call.call.base c.in_ok-call.call.first row.locals c.self.inside.living.entries) (sym (row_left c.in_ok-call.call c.self.inside.frames c.leave.new.self c.row-row.result.now c.in_ok-call.ensures.answer c.row-row.ensures)) has.0.known

dies_here : (c : goal.After-leave-2) → DiesAt c.self.inside.frames (call_of c.in_ok-call.call) c.self.inside.living c.leave-2.new.self
dies_here c =
    let row : c.row-row.result.now ≡ row_of c.self.inside.frames (call_of c.in_ok-call.call) =
    row_left c.in_ok-call.call c.self.inside.frames c.leave.new.self c.row-row.result.now c.in_ok-call.ensures.answer c.row-row.ensures in
    subst (λ (r : FunctionRow). Dies (is_among c.in_ok-call.call.first r.vars) (length r.locals) c.self.inside.living c.leave-2.new.self) row c.leave-2.ensures

pub invariant_of-self-2 : goal.invariant_of-self-2
invariant_of-self-2 c =
    kept_left c.in_ok-call.call c.self.inside.frames c.leave.new.self c.self.inside.living c.leave-2.new.self c.self.inside.settings c.in_ok-call.ensures.answer c.law_framed.ensures c.self.invariant (dies_here c)

pub returns-clause-memory : goal.returns-clause-memory
returns-clause-memory c =
    rw (← c.self.view_is)
    (view_left c.in_ok-call.call c.self.inside.frames c.leave.new.self c.self.inside.living c.leave-2.new.self c.self.inside.settings c.in_ok-call.ensures.answer (dies_here c))

pub returns-clause-standing : goal.returns-clause-standing
returns-clause-standing c =
    let old : Loaded = loaded_in c.self.inside.frames c.self.inside.living c.self.inside.settings in
    let is = view_left c.in_ok-call.call c.self.inside.frames c.leave.new.self c.self.inside.living c.leave-2.new.self c.self.inside.settings c.in_ok-call.ensures.answer (dies_here c) in
    let law = left_keeps KeepsStanding c.in_ok-call.call c.self.inside.frames c.leave.new.self c.self.inside.living c.self.inside.settings c.in_ok-call.ensures.answer
    (λ call cs s next entries. c.law_deaths.ensures.returns c.self.inside.frames.functions call cs s (rw (next, entries) c.stands.ensures.given_out)) in
    rw (← c.self.view_is) (subst (λ (x : Loaded). KeepsStanding old.space x.space) (sym is) law)
