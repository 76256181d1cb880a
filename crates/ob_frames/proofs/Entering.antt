-- Entering a function: what the stack has room for, and what holds of the calls in progress after it.
use Rattle.std.proofs.Common.{◌≡◌, ℕ, ◌+◌, ◌%◌, ◌<◌, ◌≤◌, List, [], ◌∷◌, ◌++◌, length, refl, ap, ◌∙◌, arith}
use Rattle.std.specs.Global.{Vec}
use Rattle.std.specs.Vec.{vec_capacity}
use Rattle.ob_flat.specs.Memory.{Memory, field}
use Rattle.ob_code.specs.declared.image.FunctionRow.{FunctionRow}
use Rattle.ob_code.specs.Frames.{frame_length, function_at, next_base, top_base}
use Rattle.ob_code.specs.State.{Call}
use Rattle.ob_statics.specs.Held.{StaticParts}
use Rattle.ob_frames.specs.declared.calls.Active.{Active}
use Rattle.ob_frames.specs.Calls.{call_in, calls_in}
use Rattle.ob_frames.specs.Framed.{opened}
use Rattle.ob_frames.specs.Kept.{IsKept, framed_in}
use Rattle.ob_frames.specs.Links.{AllHaveLinks}
use Rattle.ob_frames.specs.Writes.{HasStack, IsOnStack, frame_opened}
use Rattle.ob_frames.proofs.CallLists.{calls_in-push, calls_in-same, calls_are_few, frame_in_blocks, frame_is_long, frames_begin, frames_end, frames_in_blocks, length-calls_in}

-- a frame of this function has its place on the stack, and the list of calls has one
pub record HasPlace (f : FunctionRow) (active : List Active) (end : ℕ) : Type 0 where
  pub least : 16 ≤ frame_length f
  pub most : frame_length f ≤ f.allowance
  pub inside : IsOnStack end (frame_length f)
  pub base : end % 8 ≡ 0
  pub whole : frame_length f % 8 ≡ 0
  pub count : length active < 65536

has_place_at : (parts : StaticParts) (functions : List FunctionRow) (m : Memory) (active : Vec Active) (taken end f : ℕ) →
    IsKept (framed_in parts functions m active.items) active taken end →
    f < length functions →
    taken + (function_at functions f).allowance ≤ 1048576 →
    HasPlace (function_at functions f) active.items end
has_place_at parts functions m active taken end f kept known room =
    let sound = kept.framed.rows f known in
    let covers : frame_length (function_at functions f) ≤ (function_at functions f).allowance = sound.covers in
    let long : 16 ≤ frame_length (function_at functions f) = frame_is_long (function_at functions f) sound in
    record {
      least = long;
      most = covers;
      inside = record {
        begins = omega (arith, frames_begin functions (calls_in m active.items) kept.framed.stacked, kept.next);
        ends = omega (arith, frames_end functions (calls_in m active.items) kept.framed.rows kept.framed.stacked, kept.next, kept.sum);
      };
      base = omega (arith, frames_in_blocks functions (calls_in m active.items) kept.framed.rows kept.framed.stacked, kept.next);
      whole = omega (arith, frame_in_blocks (function_at functions f) sound);
      count = omega (arith, calls_are_few functions (calls_in m active.items) kept.framed.rows kept.framed.stacked, length-calls_in m active.items, kept.sum);
    }

pub has_place : (parts : StaticParts) (functions : List FunctionRow) (m : Memory) (active : Vec Active) (taken end f : ℕ) (row : FunctionRow) →
    row ≡ function_at functions f →
    IsKept (framed_in parts functions m active.items) active taken end →
    f < length functions →
    taken + row.allowance ≤ 1048576 →
    HasPlace row active.items end
has_place parts functions m active taken end f row is kept known room =
    rw is (has_place_at parts functions m active taken end f kept known (omega (arith, ap (λ (r : FunctionRow). r.allowance) is)))

abbrev pub call_of : ℕ → ℕ → ℕ → ℕ → Call
call_of f link base first = record { function = f; link = link; base = base; first = first }

pub entered_calls : (m n : Memory) (before after : List Active) (a : Active) (link : ℕ) →
    after ≡ before ++ a ∷ [] →
    field n a.base 8 ≡ link →
    AllHaveLinks n (calls_in m before) →
    calls_in n after ≡ call_of a.function link a.base a.first ∷ calls_in m before
entered_calls m n before after a link is linked others =
    let head : call_in n a ≡ call_of a.function link a.base a.first = ap (λ (w : ℕ). call_of a.function w a.base a.first) linked in
    let rest = calls_in-same m n before others in
    let whole = ap (calls_in n) is ∙ calls_in-push n before a in
    cc

-- what entering a function does to memory and to the list of calls: the new frame's links, those of the calls around it, and
-- the calls in progress
pub record IsOpen (m n : Memory) (before after : List Active) (end f to first : ℕ) : Type 0 where
  pub stack : HasStack n
  pub statics : n.statics ≡ m.statics
  pub link : field n end 8 ≡ to
  pub caller : field n (end + 8) 8 ≡ top_base (calls_in m before)
  pub others : AllHaveLinks n (calls_in m before)
  pub calls : calls_in n after ≡ call_of f to end first ∷ calls_in m before

kept_entered_at : (parts : StaticParts) (functions : List FunctionRow) (m n : Memory) (before after : Vec Active) (taken end f link first : ℕ) →
    IsKept (framed_in parts functions m before.items) before taken end →
    f < length functions →
    taken + (function_at functions f).allowance ≤ 1048576 →
    IsOpen m n before.items after.items end f link first →
    65536 ≤ vec_capacity after →
    IsKept (framed_in parts functions n after.items) after (taken + (function_at functions f).allowance) (end + frame_length (function_at functions f))
kept_entered_at parts functions m n before after taken end f link first kept known room opened capacity =
    let calls = opened.calls in
    record {
      framed = record {
        statics = kept.framed.statics;
        pointers = kept.framed.pointers;
        rows = kept.framed.rows;
        memory = opened.stack;
        static_bytes = opened.statics ∙ kept.framed.static_bytes;
        stacked = rw calls (known, kept.next, kept.framed.stacked);
        linked = rw calls (record { link = opened.link; caller = opened.caller }, opened.others);
        room = rw calls (omega (arith, room, kept.sum));
      };
      sum = rw calls (omega (arith, kept.sum));
      next = rw calls refl;
      capacity = capacity;
    }

pub kept_entered : (parts : StaticParts) (functions : List FunctionRow) (m n : Memory) (before after : Vec Active) (taken end f link first : ℕ) (row : FunctionRow) (long : ℕ) →
    row ≡ function_at functions f →
    long ≡ frame_length row →
    IsKept (framed_in parts functions m before.items) before taken end →
    f < length functions →
    taken + row.allowance ≤ 1048576 →
    IsOpen m n before.items after.items end f link first →
    65536 ≤ vec_capacity after →
    IsKept (framed_in parts functions n after.items) after (taken + row.allowance) (end + long)
kept_entered parts functions m n before after taken end f link first row long is measured kept known room opened capacity =
    rw (measured, is)
    (kept_entered_at parts functions m n before after taken end f link first kept known (omega (arith, ap (λ (r : FunctionRow). r.allowance) is)) opened capacity)

entered_at : (parts : StaticParts) (functions : List FunctionRow) (m n : Memory) (before after : List Active) (f link first : ℕ) →
    n ≡ frame_opened (next_base functions (calls_in m before)) (frame_length (function_at functions f)) link (top_base (calls_in m before)) m →
    calls_in n after ≡ call_of f link (next_base functions (calls_in m before)) first ∷ calls_in m before →
    framed_in parts functions n after ≡ opened f link first (framed_in parts functions m before)
entered_at parts functions m n before after f link first memory calls = rw (calls, memory) refl

-- the numbers that a program finds for an entry
pub record IsMeasured (functions : List FunctionRow) (outer : List Call) (f end long caller : ℕ) : Type 0 where
  pub place : end ≡ next_base functions outer
  pub length : long ≡ frame_length (function_at functions f)
  pub caller_base : caller ≡ top_base outer

pub entered : (parts : StaticParts) (functions : List FunctionRow) (m n : Memory) (before after : List Active) (f link first end long caller : ℕ) →
    IsMeasured functions (calls_in m before) f end long caller →
    n ≡ frame_opened end long link caller m →
    calls_in n after ≡ call_of f link end first ∷ calls_in m before →
    framed_in parts functions n after ≡ opened f link first (framed_in parts functions m before)
entered parts functions m n before after f link first end long caller is memory calls =
    let memory_at : n ≡ frame_opened (next_base functions (calls_in m before)) (frame_length (function_at functions f)) link (top_base (calls_in m before)) m = rw (← is.place, ← is.length, ← is.caller_base) memory in
    let calls_at : calls_in n after ≡ call_of f link (next_base functions (calls_in m before)) first ∷ calls_in m before = rw (← is.place) calls in
    entered_at parts functions m n before after f link first memory_at calls_at
