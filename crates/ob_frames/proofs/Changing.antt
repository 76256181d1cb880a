-- Writing among the bytes of memory, leaving a call, and beginning anew.
use Rattle.std.proofs.Common.{◌≡◌, ℕ, ◌+◌, ◌-◌, ◌≤◌, List, [], ◌∷◌, ◌++◌, ap, ◌∙◌, arith}
use Rattle.std.specs.Global.{Vec}
use Rattle.std.specs.Vec.{vec_capacity}
use Rattle.ob_flat.specs.Memory.{Memory}
use Rattle.ob_code.specs.declared.image.FunctionRow.{FunctionRow}
use Rattle.ob_code.specs.Frames.{allowances, function_at, top_base}
use Rattle.ob_code.specs.State.{Call}
use Rattle.ob_statics.specs.Held.{KeepsRanges, StaticParts}
use Rattle.ob_frames.specs.declared.calls.Active.{Active}
use Rattle.ob_frames.specs.Calls.{AreStacked, call_in, calls_in}
use Rattle.ob_frames.specs.Framed.{Framed}
use Rattle.ob_frames.specs.Kept.{IsKept, framed_in}
use Rattle.ob_frames.specs.Links.{AllHaveLinks, MeetsNoLink}
use Rattle.ob_frames.specs.Writes.{HasStack, IsOnStack, KeepsBelow, KeepsOthers}
use Rattle.ob_frames.proofs.CallLists.{calls_in-push, calls_in-same, links_apart, links_below, links_on_stack}

-- ---- bytes are written

pub links_put : (parts : StaticParts) (functions : List FunctionRow) (m n : Memory) (active : Vec Active) (taken end base : ℕ) → IsKept (framed_in parts functions m active.items) active taken end → base ≡ top_base (calls_in m active.items) → KeepsBelow m n (base + 16) → AllHaveLinks n (calls_in m active.items)
links_put parts functions m n active taken end base kept is below =
    links_below functions m n (calls_in m active.items) (base + 16) kept.framed.rows kept.framed.stacked (omega (arith, is)) below kept.framed.linked

pub links_written : (parts : StaticParts) (functions : List FunctionRow) (m n : Memory) (active : Vec Active) (taken end address k : ℕ) → IsKept (framed_in parts functions m active.items) active taken end → MeetsNoLink (calls_in m active.items) address k → KeepsOthers m n address k → AllHaveLinks n (calls_in m active.items)
links_written parts functions m n active taken end address k kept apart others =
    links_apart functions m n (calls_in m active.items) address k kept.framed.rows kept.framed.stacked kept.framed.room kept.framed.memory apart others kept.framed.linked

pub kept_put : (parts : StaticParts) (functions : List FunctionRow) (m n : Memory) (active : Vec Active) (taken end : ℕ) → IsKept (framed_in parts functions m active.items) active taken end → HasStack n → n.statics ≡ m.statics → AllHaveLinks n (calls_in m active.items) → IsKept (framed_in parts functions n active.items) active taken end
kept_put parts functions m n active taken end kept stack same linked =
    let calls = calls_in-same m n active.items linked in
    record {
      framed = record {
        statics = kept.framed.statics;
        pointers = kept.framed.pointers;
        rows = kept.framed.rows;
        memory = stack;
        static_bytes = same ∙ kept.framed.static_bytes;
        stacked = rw calls kept.framed.stacked;
        linked = rw calls linked;
        room = rw calls kept.framed.room;
      };
      sum = rw calls kept.sum;
      next = rw calls kept.next;
      capacity = kept.capacity;
    }

pub kept_written : (parts : StaticParts) (functions : List FunctionRow) (m n : Memory) (active : Vec Active) (taken end : ℕ) → IsKept (framed_in parts functions m active.items) active taken end → KeepsRanges m n → AllHaveLinks n (calls_in m active.items) → IsKept (framed_in parts functions n active.items) active taken end
kept_written parts functions m n active taken end kept ranges linked =
    kept_put parts functions m n active taken end kept (record { stack = ranges.stack ∙ kept.framed.memory.stack; laid_out = ranges.laid_out }) ranges.statics linked

-- memory with the same links shows the same calls
pub framed_put : (parts : StaticParts) (functions : List FunctionRow) (m n to : Memory) (active : List Active) → n ≡ to → AllHaveLinks n (calls_in m active) → framed_in parts functions n active ≡ record (framed_in parts functions m active) { memory = to }
framed_put parts functions m n to active is linked =
    let seen : Memory → List Call → Framed = λ memory calls. record { statics = parts.statics; pointers = parts.pointers; functions = functions; memory = memory; calls = calls } in
    ap (seen n) (calls_in-same m n active linked) ∙ ap (λ (x : Memory). seen x (calls_in m active)) is

-- ---- a call is left

pub left_calls : (m : Memory) (before after : List Active) (a : Active) → before ≡ after ++ a ∷ [] → calls_in m before ≡ call_in m a ∷ calls_in m after
left_calls m before after a is = ap (calls_in m) is ∙ calls_in-push m after a

pub left_on_stack : (parts : StaticParts) (functions : List FunctionRow) (m : Memory) (before : Vec Active) (after : List Active) (a : Active) (taken end : ℕ) → IsKept (framed_in parts functions m before.items) before taken end → before.items ≡ after ++ a ∷ [] → IsOnStack a.base 8
left_on_stack parts functions m before after a taken end kept is =
    let calls = left_calls m before.items after a is in
    links_on_stack functions (call_in m a) (calls_in m after) kept.framed.rows (rw calls at kept.framed.stacked) (rw calls at kept.framed.room)

kept_left_at : (parts : StaticParts) (functions : List FunctionRow) (m : Memory) (before after : Vec Active) (a : Active) (taken end : ℕ) → IsKept (framed_in parts functions m before.items) before taken end → before.items ≡ after.items ++ a ∷ [] → 65536 ≤ vec_capacity after → IsKept (framed_in parts functions m after.items) after (taken - (function_at functions a.function).allowance) a.base
kept_left_at parts functions m before after a taken end kept is capacity =
    let calls = left_calls m before.items after.items a is in
    let stacked : AreStacked functions (call_in m a ∷ calls_in m after.items) = rw calls at kept.framed.stacked in
    let sum : taken ≡ (function_at functions a.function).allowance + allowances functions (calls_in m after.items) = kept.sum ∙ ap (allowances functions) calls in
    let room : allowances functions (call_in m a ∷ calls_in m after.items) ≤ 1048576 = rw calls at kept.framed.room in
    let linked : AllHaveLinks m (call_in m a ∷ calls_in m after.items) = rw calls at kept.framed.linked in
    record {
      framed = record {
        statics = kept.framed.statics;
        pointers = kept.framed.pointers;
        rows = kept.framed.rows;
        memory = kept.framed.memory;
        static_bytes = kept.framed.static_bytes;
        stacked = stacked.2;
        linked = linked.1;
        room = omega (arith, room);
      };
      sum = omega (arith, sum);
      next = stacked.1;
      capacity = capacity;
    }

pub kept_left : (parts : StaticParts) (functions : List FunctionRow) (m : Memory) (before after : Vec Active) (a : Active) (taken end : ℕ) (row : FunctionRow) → IsKept (framed_in parts functions m before.items) before taken end → before.items ≡ after.items ++ a ∷ [] → row ≡ function_at functions a.function → vec_capacity before ≤ vec_capacity after → IsKept (framed_in parts functions m after.items) after (taken - row.allowance) a.base
kept_left parts functions m before after a taken end row kept is row_is capacity =
    rw row_is (kept_left_at parts functions m before after a taken end kept is (omega (arith, capacity, kept.capacity)))
