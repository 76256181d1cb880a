use Rattle.std.proofs.Common.{◌≡◌, ◌+◌, ◌<◌, ◌≤◌, false, List, ◌∷◌, length, ap, sym, ◌∙◌, arith}
use Rattle.std.proofs.lemmas.Bool.{le-ltb}
use Rattle.ob_flat.specs.Memory.{Memory}
use Rattle.ob_code.specs.declared.image.FunctionRow.{FunctionRow}
use Rattle.ob_code.specs.Frames.{allowances, frame_length, function_at, is_full, top_base}
use Rattle.ob_frames.specs.Calls.{calls_in}
use Rattle.ob_frames.specs.Kept.{framed_in}
use Rattle.ob_frames.specs.Links.{AllHaveLinks}
use Rattle.ob_frames.specs.Framed.{opened}
use Rattle.ob_frames.proofs.CallLists.{keeps_links, links_behind}
use Rattle.ob_frames.proofs.Entering.{HasPlace, IsMeasured, IsOpen, call_of, entered, entered_calls, has_place, kept_entered}
use Rattle.ob_frames.proofs.frames.Frames.enter.Goals as goal

pub returns-then-allowance-self-clause-links : goal.returns-then-allowance-self-clause-links
returns-then-allowance-self-clause-links c =
    rw (← c.self.view_is)
    (keeps_links (calls_in c.self.inside.flat c.self.inside.calls.items) (calls_in c.self.inside.flat c.self.inside.calls.items) c.self.inside.flat c.self.invariant.kept.framed.linked)

place_before : (c : goal.After-open_frame-arg-1) → HasPlace c.row_of-row.result.now c.self.inside.calls.items c.self.inside.end
place_before c =
    let known : c.args.function < length c.self.inside.functions = rw (← c.self.view_is) at c.requires in
    let row = c.row_of-row.ensures ∙ ap (λ (fs : List FunctionRow). function_at fs c.args.function) c.as_slice.ensures in
    has_place c.self.inside.statics c.self.inside.functions c.self.inside.flat c.self.inside.calls c.self.inside.taken c.self.inside.end c.args.function c.row_of-row.result.now row c.self.invariant.kept known (omega (arith, c.if-allowance-self.false, c.self.invariant.kept.framed.room, c.self.invariant.kept.sum))

pub open_frame-requires-clause-inside : goal.open_frame-requires-clause-inside
open_frame-requires-clause-inside c = rw c.frame_length-length.ensures (place_before c).inside

pub open_frame-requires-clause-base : goal.open_frame-requires-clause-base
open_frame-requires-clause-base c = (place_before c).base

pub open_frame-requires-clause-length : goal.open_frame-requires-clause-length
open_frame-requires-clause-length c = rw c.frame_length-length.ensures (place_before c).whole

pub add_call-requires : goal.add_call-requires
add_call-requires c =
    let known : c.args.function < length c.self.inside.functions = rw (← c.self.view_is) at c.requires in
    let row = c.row_of-row.ensures ∙ ap (λ (fs : List FunctionRow). function_at fs c.args.function) c.as_slice.ensures in
    let place = has_place c.self.inside.statics c.self.inside.functions c.self.inside.flat c.self.inside.calls c.self.inside.taken c.self.inside.end c.args.function c.row_of-row.result.now row c.self.invariant.kept known (omega (arith, c.if-allowance-self.false, c.self.invariant.kept.framed.room, c.self.invariant.kept.sum)) in
    omega (arith, place.count, c.self.invariant.kept.capacity)

place_after : (c : goal.After-self-1) → HasPlace c.row_of-row.result.now c.self.inside.calls.items c.self.inside.end
place_after c =
    let known : c.args.function < length c.self.inside.functions = rw (← c.self.view_is) at c.requires in
    let row = c.row_of-row.ensures ∙ ap (λ (fs : List FunctionRow). function_at fs c.args.function) c.as_slice.ensures in
    has_place c.self.inside.statics c.self.inside.functions c.self.inside.flat c.self.inside.calls c.self.inside.taken c.self.inside.end c.args.function c.row_of-row.result.now row c.self.invariant.kept known (omega (arith, c.if-allowance-self.false, c.self.invariant.kept.framed.room, c.self.invariant.kept.sum))

pub overflow_add-self-2 : goal.overflow_add-self-2
overflow_add-self-2 c = omega (arith, (place_after c).inside.ends, c.frame_length-length.ensures)

-- ---- what holds at the end

known : (c : goal.After-self-3-1) → c.args.function < length c.self.inside.functions
known c = rw (← c.self.view_is) at c.requires

row : (c : goal.After-self-3-1) → c.row_of-row.result.now ≡ function_at c.self.inside.functions c.args.function
row c = c.row_of-row.ensures ∙ ap (λ (fs : List FunctionRow). function_at fs c.args.function) c.as_slice.ensures

room : (c : goal.After-self-3-1) → c.self.inside.taken + c.row_of-row.result.now.allowance ≤ 1048576
room c = omega (arith, c.if-allowance-self.false, c.self.invariant.kept.framed.room, c.self.invariant.kept.sum)

others : (c : goal.After-self-3-1) → AllHaveLinks c.open_frame.new.flat (calls_in c.self.inside.flat c.self.inside.calls.items)
others c =
    links_behind c.self.inside.functions c.self.inside.flat c.open_frame.new.flat (calls_in c.self.inside.flat c.self.inside.calls.items) c.self.inside.end c.self.invariant.kept.framed.rows c.self.invariant.kept.framed.stacked c.self.invariant.kept.next c.open_frame.ensures.below c.self.invariant.kept.framed.linked

calls : (c : goal.After-self-3-1) → calls_in c.open_frame.new.flat c.add_call.new.calls.items ≡ call_of c.args.function c.args.link c.self.inside.end c.args.first ∷ calls_in c.self.inside.flat c.self.inside.calls.items
calls c =
    entered_calls c.self.inside.flat c.open_frame.new.flat c.self.inside.calls.items c.add_call.new.calls.items (record { function = c.args.function; base = c.self.inside.end; first = c.args.first }) c.args.link c.add_call.ensures.items c.open_frame.ensures.link (others c)

pub invariant_of-self : goal.invariant_of-self
invariant_of-self c =
    let opened : IsOpen c.self.inside.flat c.open_frame.new.flat c.self.inside.calls.items c.add_call.new.calls.items c.self.inside.end c.args.function c.args.link c.args.first =
    record {
      stack = c.open_frame.ensures.stack;
      statics = ap (λ (m : Memory). m.statics) c.open_frame.ensures.memory;
      link = c.open_frame.ensures.link;
      caller = c.open_frame.ensures.caller ∙ c.self.invariant.place;
      others = others c;
      calls = calls c;
    } in
    record {
      kept = kept_entered c.self.inside.statics c.self.inside.functions c.self.inside.flat c.open_frame.new.flat c.self.inside.calls c.add_call.new.calls c.self.inside.taken c.self.inside.end c.args.function c.args.link c.args.first c.row_of-row.result.now c.frame_length-length.result (row c) c.frame_length-length.ensures c.self.invariant.kept (known c) (room c) opened (omega (arith, c.add_call.ensures.capacity, c.self.invariant.kept.capacity));
      place = sym (ap top_base (calls c));
    }

not_full : (c : goal.After-self-3-1) → is_full c.self.inside.functions c.args.function (calls_in c.self.inside.flat c.self.inside.calls.items) ≡ false
not_full c =
    le-ltb 1048576 ((function_at c.self.inside.functions c.args.function).allowance + allowances c.self.inside.functions (calls_in c.self.inside.flat c.self.inside.calls.items))
    (omega (arith, room c, ap (λ (r : FunctionRow). r.allowance) (row c), c.self.invariant.kept.sum))

measured : (c : goal.After-self-3-1) → IsMeasured c.self.inside.functions (calls_in c.self.inside.flat c.self.inside.calls.items) c.args.function c.self.inside.end c.frame_length-length.result c.self.inside.top
measured c = record {
  place = c.self.invariant.kept.next;
  length = c.frame_length-length.ensures ∙ ap frame_length (row c);
  caller_base = c.self.invariant.place;
}

pub returns-clause-answer : goal.returns-clause-answer
returns-clause-answer c =
    let framed : framed_in c.self.inside.statics c.self.inside.functions c.open_frame.new.flat c.add_call.new.calls.items ≡ opened c.args.function c.args.link c.args.first (framed_in c.self.inside.statics c.self.inside.functions c.self.inside.flat c.self.inside.calls.items) =
    entered c.self.inside.statics c.self.inside.functions c.self.inside.flat c.open_frame.new.flat c.self.inside.calls.items c.add_call.new.calls.items c.args.function c.args.link c.args.first c.self.inside.end c.frame_length-length.result c.self.inside.top (measured c) c.open_frame.ensures.memory (calls c) in
    rw (← c.self.view_is) (record { room = not_full c; place = c.self.invariant.kept.next; framed = framed })

pub returns-clause-links : goal.returns-clause-links
returns-clause-links c =
    rw (← c.self.view_is)
    (keeps_links (calls_in c.self.inside.flat c.self.inside.calls.items) (calls_in c.open_frame.new.flat c.add_call.new.calls.items) c.open_frame.new.flat (others c))
