-- Laws above the definitions.
use Rattle.std.specs.Prelude.{◌≡◌, ℕ, ◌+◌, ◌-◌, ◌<◌, ◌≤◌, ◌⊎◌, List, [], ◌∷◌, ◌++◌, length, map, Some}
use Rattle.ob_words.specs.Words.{block}
use Rattle.ob_model.specs.Limits.{heap_start, statics_start}
use Rattle.ob_flat.specs.Memory.{Memory, IsIn, IsWithin}
use Rattle.ob_code.specs.declared.image.FunctionRow.{FunctionRow}
use Rattle.ob_code.specs.Frames.{entered, frame_word, function_at, local_end, with_word}
use Rattle.ob_code.specs.Layout.{static_base}
use Rattle.ob_code.specs.Rules.{HasStatic, local_at, static_at}
use Rattle.ob_code.specs.State.{Call, Space}
use Rattle.ob_frames.specs.Examples as examples
use Rattle.ob_frames.specs.Framed.{Framed}
use Rattle.ob_frames.specs.Kept.{IsFramed}
use Rattle.ob_frames.specs.Leaving.{top_link, left_top}
use Rattle.ob_frames.specs.Links.{LinksAreKept, MeetsNoLink}

-- what may happen to a space between entering a function and leaving it again: words of the frame are written, and other
-- functions are entered and left
pub data Between (functions : List FunctionRow) : Space → Space → Type 0 where
  nothing : (s : Space) → Between functions s s
  write : (s t : Space) (index w : ℕ) (before : Between functions s t) → Between functions s (with_word t index w)
  call : (s t u : Space) (f link : ℕ) (before : Between functions s t) (within : Between functions (entered functions f link t) u) →
      Between functions s (left_top functions u.calls u)

-- whatever happens there, leaving gives the place that entering was given, and the calls around are those of before
abbrev pub LeaveGivesItsLink : Type 0
LeaveGivesItsLink =
    (functions : List FunctionRow) (f link : ℕ) (s t : Space) →
    Between functions (entered functions f link s) t →
    (top_link t.calls ≡ Some link) × ((left_top functions t.calls t).calls ≡ s.calls)

-- ---- two frames, one behind the other

-- the frame of a function with 3 words lies at 2 ^ 24 and has 32 bytes; that of one with 5 words lies behind it
abbrev pub FramesLieInARow : Type 0
FramesLieInARow = map (λ c. c.base) examples.two_calls.calls ≡ 16777248 ∷ 16777216 ∷ []

abbrev pub LinksLieFirst : Type 0
LinksLieFirst =
    (frame_word examples.two_calls 0 ≡ 9) × (frame_word examples.two_calls 1 ≡ 16777216)
    × (frame_word examples.one_call 0 ≡ 3) × (frame_word examples.one_call 1 ≡ 0)

-- bytes that an earlier call left are zero bytes in the next frame at their place
abbrev pub OldBytesAreGone : Type 0
OldBytesAreGone =
    (frame_word (with_word examples.two_calls 4 7) 4 ≡ 7) × (frame_word (examples.again (with_word examples.two_calls 4 7)) 4 ≡ 0)

-- ---- the bytes of objects

-- n bytes from an address on lie in the block of a local row of a call's function
pub record IsInLocal (functions : List FunctionRow) (c : Call) (row address n : ℕ) : Type 0 where
  pub known : row < length (function_at functions c.function).locals
  pub begins : c.base + (local_at (function_at functions c.function) row).place ≤ address
  pub ends : address + n ≤ c.base + local_end (local_at (function_at functions c.function) row)

-- such bytes of a call in progress lie in memory, and meet no link word
abbrev pub LocalsLieInMemory : Type 0
LocalsLieInMemory =
    (f : Framed) (inner : List Call) (c : Call) (outer : List Call) (row address n : ℕ) →
    IsFramed f →
    f.calls ≡ inner ++ c ∷ outer →
    IsInLocal f.functions c row address n →
    IsIn f.memory address n

abbrev pub LocalsMeetNoLink : Type 0
LocalsMeetNoLink =
    (f : Framed) (inner : List Call) (c : Call) (outer : List Call) (row address n : ℕ) →
    IsFramed f →
    f.calls ≡ inner ++ c ∷ outer →
    IsInLocal f.functions c row address n →
    MeetsNoLink f.calls address n

-- the bytes of static objects and of the heap meet no link word
abbrev pub OthersMeetNoLink : Type 0
OthersMeetNoLink =
    (f : Framed) (address n : ℕ) →
    IsFramed f →
    IsWithin statics_start f.memory.statics address n ⊎ IsWithin heap_start f.memory.heap address n →
    MeetsNoLink f.calls address n

-- the bytes of a static object's block lie among those of all static objects
abbrev pub StaticsLieInMemory : Type 0
StaticsLieInMemory =
    (f : Framed) (number address n : ℕ) →
    IsFramed f →
    HasStatic f.statics number →
    static_base f.statics number ≤ address →
    address + n ≤ static_base f.statics number + block (static_at f.statics (number - 1)).size →
    IsWithin statics_start f.memory.statics address n

-- ---- links through several changes

-- a change after calls were entered keeps the links of the calls around those; a change after calls were left, which enters no
-- more than it leaves, keeps the links of all earlier calls that are still in progress
abbrev pub KeptOnceEntered : Type 0
KeptOnceEntered =
    (entered before after : List Call) (m : Memory) →
    LinksAreKept (entered ++ before) after m →
    LinksAreKept before after m

abbrev pub KeptOnceLeft : Type 0
KeptOnceLeft =
    (left before after : List Call) (m : Memory) →
    length after ≤ length before →
    LinksAreKept before after m →
    LinksAreKept (left ++ before) after m
