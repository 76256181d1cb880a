use Rattle.std.proofs.Common.{List, ap, arith, ◌∙◌}
use Rattle.ob_code.specs.declared.image.FunctionRow.{FunctionRow}
use Rattle.ob_code.specs.Frames.{function_at, top_base}
use Rattle.ob_frames.specs.declared.calls.Active.{Active}
use Rattle.ob_frames.specs.Calls.{calls_in}
use Rattle.ob_frames.proofs.CallLists.{keeps_links}
use Rattle.ob_frames.proofs.Changing.{kept_left, left_on_stack}
use Rattle.ob_frames.proofs.StackWrites.{on_stack}
use Rattle.ob_frames.proofs.frames.Frames.leave.Goals as goal

pub get-link-requires-clause-inside : goal.get-link-requires-clause-inside
get-link-requires-clause-inside c =
    on_stack c.self.inside.flat c.in_ok-call.call.base 8 c.self.invariant.kept.framed.memory
    (left_on_stack c.self.inside.statics c.self.inside.functions c.self.inside.flat c.self.inside.calls c.pop.new.self.items c.in_ok-call.call c.self.inside.taken c.self.inside.end c.self.invariant.kept c.in_ok-call.ensures.items)

pub invariant_of-self-2 : goal.invariant_of-self-2
invariant_of-self-2 c =
    let row = c.row_of.ensures ∙ ap (λ (fs : List FunctionRow). function_at fs c.in_ok-call.call.function) c.as_slice.ensures in
    record {
      kept = kept_left c.self.inside.statics c.self.inside.functions c.self.inside.flat c.self.inside.calls c.pop.new.self c.in_ok-call.call c.self.inside.taken c.self.inside.end c.row_of.result.now c.self.invariant.kept c.in_ok-call.ensures.items row (omega (arith, c.in_ok-call.ensures.capacity));
      place = c.top_base-self-inside.ensures c.self.inside.flat ∙ ap (λ (active : List Active). top_base (calls_in c.self.inside.flat active)) c.as_slice-2.ensures.value;
    }

pub returns-clause-links : goal.returns-clause-links
returns-clause-links c =
    rw (← c.self.view_is)
    (keeps_links (calls_in c.self.inside.flat c.self.inside.calls.items) (calls_in c.self.inside.flat c.pop.new.self.items) c.self.inside.flat c.self.invariant.kept.framed.linked)
