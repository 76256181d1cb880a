use Rattle.std.proofs.Common.{◌≡◌, ◌+◌, ◌<◌, length, arith, sym, subst}
use Rattle.ob_code.specs.Frames.{frame_length, function_at, next_base}
use Rattle.ob_code.specs.State.{Space}
use Rattle.ob_standing.specs.Laws.{KeepsStanding}
use Rattle.ob_space.specs.Kept.{loaded_in}
use Rattle.ob_space.specs.Loaded.{Loaded}
use Rattle.ob_space.proofs.Entering.{all_outside, entered_space, frame_ends, kept_entered, room_for, row_is}
use Rattle.ob_space.proofs.Framing.{frames_begin, more_rows_are_few}
use Rattle.ob_space.proofs.space.Space.enter.Goals as goal

row_here : (c : goal.After-row) → c.row.result.now ≡ function_at c.self.inside.frames.functions c.args.function
row_here c = row_is c.self.inside.frames c.enter.new.self c.args.function c.args.link c.next.result c.in_ok-base.base c.row.result.now c.in_ok-base.ensures.answer c.row.ensures

known : (c : goal.After-row) → c.args.function < length c.self.inside.frames.functions
known c = subst (λ (s : Loaded). c.args.function < length s.functions) (sym c.self.view_is) c.requires.known

pub enter-requires-2-clause-stack : goal.enter-requires-2-clause-stack
enter-requires-2-clause-stack c =
    rw c.in_ok-base.ensures.answer.place (frames_begin c.self.inside.frames.functions c.self.inside.frames.calls c.law_framed.ensures.stacked)

pub enter-requires-2-clause-end : goal.enter-requires-2-clause-end
enter-requires-2-clause-end c =
    rw (row_here c, c.in_ok-base.ensures.answer.place)
    (frame_ends c.self.inside.frames c.args.function c.law_framed.ensures (known c) c.in_ok-base.ensures.answer.room)

pub enter-requires-2-clause-sound : goal.enter-requires-2-clause-sound
enter-requires-2-clause-sound c = rw (row_here c) (c.law_framed.ensures.rows c.args.function (known c))

pub enter-requires-2-clause-few : goal.enter-requires-2-clause-few
enter-requires-2-clause-few c =
    rw (row_here c)
    (omega (arith, c.self.invariant.count, more_rows_are_few c.self.inside.frames.functions c.args.function c.self.inside.frames.calls c.law_framed.ensures.rows (known c) c.law_framed.ensures.stacked (room_for c.self.inside.frames c.args.function c.in_ok-base.ensures.answer.room)))

pub enter-requires-2-clause-free : goal.enter-requires-2-clause-free
enter-requires-2-clause-free c =
    rw (row_here c, c.in_ok-base.ensures.answer.place)
    (all_outside c.self.inside.frames c.self.inside.living (next_base c.self.inside.frames.functions c.self.inside.frames.calls + frame_length (function_at c.self.inside.frames.functions c.args.function)) c.law_framed.ensures c.stands.ensures c.self.invariant.places
    (frame_ends c.self.inside.frames c.args.function c.law_framed.ensures (known c) c.in_ok-base.ensures.answer.room))

pub invariant_of-self-2 : goal.invariant_of-self-2
invariant_of-self-2 c =
    kept_entered c.self.inside.frames c.enter.new.self c.self.inside.living c.enter-2.new.self c.self.inside.settings c.args.function c.args.link c.next.result c.in_ok-base.base c.row.result.now c.law_framed.ensures c.stands.ensures c.self.invariant c.in_ok-base.ensures.answer c.next.ensures c.row.ensures c.enter-2.ensures

pub returns-clause-standing : goal.returns-clause-standing
returns-clause-standing c =
    let before : Space = (loaded_in c.self.inside.frames c.self.inside.living c.self.inside.settings).space in
    let is = entered_space c.self.inside.frames c.enter.new.self c.self.inside.living c.enter-2.new.self c.self.inside.settings c.args.function c.args.link c.next.result c.in_ok-base.base c.row.result.now c.in_ok-base.ensures.answer c.next.ensures c.row.ensures c.enter-2.ensures in
    rw (← c.self.view_is)
    (subst (λ (s : Space). KeepsStanding before s) (sym is) (c.law_new_objects.ensures.calls c.self.inside.frames.functions c.args.function c.args.link before c.stands.ensures.given_out))
