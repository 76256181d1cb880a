use Rattle.std.proofs.Common.{◌≡◌, ◌+◌, ◌*◌, ◌<◌, ap, subst, sym, ◌∙◌}
use Rattle.ob_flat.specs.Memory.{Memory, with_field}
use Rattle.ob_code.specs.Frames.{top_base, top_function}
use Rattle.ob_frames.specs.Calls.{calls_in}
use Rattle.ob_frames.specs.Framed.{Framed, top_words}
use Rattle.ob_frames.specs.Links.{AllHaveLinks}
use Rattle.ob_frames.specs.Writes.{WritesWord}
use Rattle.ob_frames.proofs.CallLists.{calls_in-same, keeps_links, word_on_stack}
use Rattle.ob_frames.proofs.Changing.{framed_put, kept_put, links_put}
use Rattle.ob_frames.proofs.frames.Frames.put_word.Goals as goal

pub put_in_frame-requires-clause-inside : goal.put_in_frame-requires-clause-inside
put_in_frame-requires-clause-inside c =
    let inside : c.args.index < (top_function c.self.inside.functions (calls_in c.self.inside.flat c.self.inside.calls.items)).words =
    subst (λ (s : Framed). c.args.index < top_words s) (sym c.self.view_is) c.requires.most in
    rw (c.self.invariant.place, c.from.ensures)
    (word_on_stack c.self.inside.functions (calls_in c.self.inside.flat c.self.inside.calls.items) c.args.index c.self.invariant.kept.framed.rows c.self.invariant.kept.framed.stacked c.self.invariant.kept.framed.room inside)

-- ---- what holds at the end

linked : (c : goal.After-put_in_frame) → AllHaveLinks c.put_in_frame.new.flat (calls_in c.self.inside.flat c.self.inside.calls.items)
linked c =
    links_put c.self.inside.statics c.self.inside.functions c.self.inside.flat c.put_in_frame.new.flat c.self.inside.calls c.self.inside.taken c.self.inside.end c.self.inside.top c.self.invariant.kept c.self.invariant.place c.put_in_frame.ensures.below

pub invariant_of-self : goal.invariant_of-self
invariant_of-self c =
    record {
      kept = kept_put c.self.inside.statics c.self.inside.functions c.self.inside.flat c.put_in_frame.new.flat c.self.inside.calls c.self.inside.taken c.self.inside.end c.self.invariant.kept c.put_in_frame.ensures.stack (ap (λ (m : Memory). m.statics) c.put_in_frame.ensures.memory) (linked c);
      place = c.self.invariant.place ∙ ap top_base (sym (calls_in-same c.self.inside.flat c.put_in_frame.new.flat c.self.inside.calls.items (linked c)));
    }

pub returns-clause-memory : goal.returns-clause-memory
returns-clause-memory c =
    let memory : c.put_in_frame.new.flat ≡ with_field c.self.inside.flat (top_base (calls_in c.self.inside.flat c.self.inside.calls.items) + 8 * c.args.index) 8 c.args.w =
    rw (← c.self.invariant.place, ← c.from.ensures) c.put_in_frame.ensures.memory in
    rw (← c.self.view_is) (framed_put c.self.inside.statics c.self.inside.functions c.self.inside.flat c.put_in_frame.new.flat _ c.self.inside.calls.items memory (linked c))

pub returns-clause-links : goal.returns-clause-links
returns-clause-links c =
    rw (← c.self.view_is)
    (keeps_links (calls_in c.self.inside.flat c.self.inside.calls.items) (calls_in c.put_in_frame.new.flat c.self.inside.calls.items) c.put_in_frame.new.flat (linked c))

pub returns-clause-word : goal.returns-clause-word
returns-clause-word c =
    let word : WritesWord (top_base (calls_in c.self.inside.flat c.self.inside.calls.items) + 8 * c.args.index) c.args.w c.self.inside.flat c.put_in_frame.new.flat =
    rw (← c.self.invariant.place, ← c.from.ensures) c.put_in_frame.ensures.word in
    rw (← c.self.view_is) word
