use Rattle.std.proofs.Common.{◌<◌, subst, sym}
use Rattle.ob_code.specs.Frames.{top_function}
use Rattle.ob_frames.specs.Calls.{calls_in}
use Rattle.ob_frames.specs.Framed.{Framed, top_words}
use Rattle.ob_frames.proofs.CallLists.{word_on_stack}
use Rattle.ob_frames.proofs.StackWrites.{on_stack}
use Rattle.ob_frames.proofs.frames.Frames.get_word.Goals as goal

pub get-requires-clause-inside : goal.get-requires-clause-inside
get-requires-clause-inside c =
    let inside : c.args.index < (top_function c.self.inside.functions (calls_in c.self.inside.flat c.self.inside.calls.items)).words =
    subst (λ (s : Framed). c.args.index < top_words s) (sym c.self.view_is) c.requires in
    rw (c.self.invariant.place, c.from.ensures)
    (on_stack c.self.inside.flat _ 8 c.self.invariant.kept.framed.memory
    (word_on_stack c.self.inside.functions (calls_in c.self.inside.flat c.self.inside.calls.items) c.args.index c.self.invariant.kept.framed.rows c.self.invariant.kept.framed.stacked c.self.invariant.kept.framed.room inside))
