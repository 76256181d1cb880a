-- Calls in progress, their frames and their links.
use Rattle.std.proofs.Common.{◌≡◌, ℕ, ◌+◌, ◌*◌, ◌-◌, ◌%◌, ◌<◌, ◌≤◌, ◌⊎◌, inl, inr, max, Some, slice_get, List, [], ◌∷◌, ◌++◌, length, map, reverse, refl, ap, subst, ◌∙◌, arith}
use Rattle.std.specs.Prelude.{slice_index_or}
use Rattle.std.proofs.lemmas.List.{reverse-append, length-map, length-reverse}
use Rattle.std.proofs.lemmas.Option.{slice_get-get_or}
use Rattle.ob_flat.specs.Memory.{Memory, IsIn}
use Rattle.ob_code.specs.declared.image.FunctionRow.{FunctionRow}
use Rattle.ob_code.specs.Frames.{allowances, end_of, frame_length, function_at, local_end, locals_end, next_base, top_base, top_function, words_end}
use Rattle.ob_code.specs.declared.image.LocalRow.{LocalRow}
use Rattle.ob_code.specs.Layout.{no_local}
use Rattle.ob_code.specs.Rules.{IsFrameSound}
use Rattle.ob_code.specs.State.{Call}
use Rattle.ob_frames.specs.declared.calls.Active.{Active}
use Rattle.ob_frames.specs.Calls.{AreStacked, call_in, calls_in}
use Rattle.ob_frames.specs.Links.{AllHaveLinks, HasLinks, LinksAreKept, MeetsNoLink}
use Rattle.ob_frames.specs.Writes.{HasStack, IsOnStack, KeepsBelow, KeepsOthers}

-- ---- the list of calls

pub calls_in-push : (m : Memory) (active : List Active) (a : Active) → calls_in m (active ++ a ∷ []) ≡ call_in m a ∷ calls_in m active
calls_in-push m active a = ap (λ (xs : List Active). map (call_in m) xs) (reverse-append active (a ∷ []))

-- memory with the same links gives the same calls
same_calls : (m n : Memory) (active : List Active) → AllHaveLinks n (map (call_in m) active) → map (call_in n) active ≡ map (call_in m) active
same_calls m n [] linked = refl
same_calls m n (a ∷ active) linked =
    let head : call_in n a ≡ call_in m a =
    ap (λ (w : ℕ). let call : Call = record { function = a.function; link = w; base = a.base; first = a.first } in call) linked.0.link in
    let rest = same_calls m n active linked.1 in
    cc

pub calls_in-same : (m n : Memory) (active : List Active) → AllHaveLinks n (calls_in m active) → calls_in n active ≡ calls_in m active
calls_in-same m n active linked = same_calls m n (reverse active) linked

pub length-calls_in : (m : Memory) (active : List Active) → length (calls_in m active) ≡ length active
length-calls_in m active = length-map (reverse active) (call_in m) ∙ length-reverse active

-- ---- frames

pub frame_is_long : (f : FunctionRow) → IsFrameSound f → 16 ≤ frame_length f
frame_is_long f sound = omega (arith, sound.least_words)

-- the functions of a verified image can be called
abbrev pub AllRun : List FunctionRow → Type 0
AllRun functions = (f : ℕ) → f < length functions → IsFrameSound (function_at functions f)

ends_in_blocks : (words : ℕ) (locals : List LocalRow) → ((j : ℕ) → j < length locals → (slice_index_or locals j no_local).place % 16 ≡ 0) → max (words_end words) (locals_end locals) % 16 ≡ 0
ends_in_blocks words [] each = omega arith
ends_in_blocks words (l ∷ ls) each =
    let last : slice_get (l ∷ ls) (length ls) ≡ Some (slice_index_or (l ∷ ls) (length ls) no_local) = slice_get-get_or (l ∷ ls) (length ls) no_local (omega arith) in
    let at : length (l ∷ ls) - 1 ≡ length ls = omega arith in
    let end : locals_end (l ∷ ls) ≡ local_end (slice_index_or (l ∷ ls) (length ls) no_local) =
    ap (λ (k : ℕ). end_of (slice_get (l ∷ ls) k)) at ∙ ap end_of last in
    omega (arith, end, each (length ls) (omega arith))

pub frame_in_blocks : (f : FunctionRow) → IsFrameSound f → frame_length f % 16 ≡ 0
frame_in_blocks f sound = ends_in_blocks f.words f.locals (λ j h. (sound.locals j h).multiple)

-- the frames of the calls in progress begin at the start of the stack, in whole blocks, and end within their allowances
pub frames_begin : (functions : List FunctionRow) (calls : List Call) → AreStacked functions calls → 16777216 ≤ next_base functions calls
frames_begin functions [] stacked = omega arith
frames_begin functions (c ∷ cs) stacked = omega (arith, frames_begin functions cs stacked.2, stacked.1)

pub frames_in_blocks : (functions : List FunctionRow) (calls : List Call) → AllRun functions → AreStacked functions calls → next_base functions calls % 16 ≡ 0
frames_in_blocks functions [] rows stacked = refl
frames_in_blocks functions (c ∷ cs) rows stacked =
    omega (arith, frames_in_blocks functions cs rows stacked.2, frame_in_blocks (function_at functions c.function) (rows c.function stacked.0), stacked.1)

pub frames_end : (functions : List FunctionRow) (calls : List Call) → AllRun functions → AreStacked functions calls → next_base functions calls ≤ 16777216 + allowances functions calls
frames_end functions [] rows stacked = omega arith
frames_end functions (c ∷ cs) rows stacked =
    omega (arith, frames_end functions cs rows stacked.2, (rows c.function stacked.0).covers, stacked.1)

pub calls_are_few : (functions : List FunctionRow) (calls : List Call) → AllRun functions → AreStacked functions calls → 16 * length calls ≤ allowances functions calls
calls_are_few functions [] rows stacked = omega arith
calls_are_few functions (c ∷ cs) rows stacked =
    omega (arith, calls_are_few functions cs rows stacked.2, frame_is_long (function_at functions c.function) (rows c.function stacked.0), (rows c.function stacked.0).covers)

-- a word of the innermost call's frame lies on the stack
pub word_on_stack : (functions : List FunctionRow) (calls : List Call) (index : ℕ) → AllRun functions → AreStacked functions calls → allowances functions calls ≤ 1048576 → index < (top_function functions calls).words → IsOnStack (top_base calls + 8 * index) 8
word_on_stack functions [] index rows stacked room inside = absurd (omega arith)
word_on_stack functions (c ∷ cs) index rows stacked room inside = record {
  begins = omega (arith, frames_begin functions cs stacked.2, stacked.1);
  ends = omega (arith, frames_end functions (c ∷ cs) rows stacked);
}

pub links_on_stack : (functions : List FunctionRow) (c : Call) (cs : List Call) → AllRun functions → AreStacked functions (c ∷ cs) → allowances functions (c ∷ cs) ≤ 1048576 → IsOnStack c.base 8
links_on_stack functions c cs rows stacked room = record {
  begins = omega (arith, frames_begin functions cs stacked.2, stacked.1);
  ends = omega (arith, frames_end functions (c ∷ cs) rows stacked, frame_is_long (function_at functions c.function) (rows c.function stacked.0));
}

-- ---- links

-- a frame has room for its link words
links_in_frames : (functions : List FunctionRow) (calls : List Call) → AllRun functions → AreStacked functions calls → top_base calls + 16 ≤ next_base functions calls
links_in_frames functions [] rows stacked = omega arith
links_in_frames functions (c ∷ cs) rows stacked = omega (arith, frame_is_long (function_at functions c.function) (rows c.function stacked.0))

-- writes behind the innermost call's link words keep the links of all calls in progress
pub links_below : (functions : List FunctionRow) (old new : Memory) (calls : List Call) (end : ℕ) → AllRun functions → AreStacked functions calls → top_base calls + 16 ≤ end → KeepsBelow old new end → AllHaveLinks old calls → AllHaveLinks new calls
links_below functions old new [] end rows stacked order kept linked = tt
links_below functions old new (c ∷ cs) end rows stacked order kept linked =
    let begins : 16777216 ≤ c.base = omega (arith, frames_begin functions cs stacked.2, stacked.1) in
    let here : HasLinks new c cs = record {
      link = kept c.base begins (omega arith) ∙ linked.0.link;
      caller = kept (c.base + 8) (omega arith) (omega arith) ∙ linked.0.caller;
    } in
    (here, links_below functions old new cs end rows stacked.2 (omega (arith, links_in_frames functions cs rows stacked.2, stacked.1)) kept linked.1)

pub links_behind : (functions : List FunctionRow) (old new : Memory) (calls : List Call) (end : ℕ) → AllRun functions → AreStacked functions calls → end ≡ next_base functions calls → KeepsBelow old new end → AllHaveLinks old calls → AllHaveLinks new calls
links_behind functions old new calls end rows stacked is kept linked =
    links_below functions old new calls end rows stacked (omega (arith, links_in_frames functions calls rows stacked, is)) kept linked

-- the calls around one
links_of_outer : (m : Memory) (inner : List Call) (c : Call) (outer : List Call) → AllHaveLinks m (inner ++ c ∷ outer) → HasLinks m c outer
links_of_outer m [] c outer linked = linked.0
links_of_outer m (d ∷ inner) c outer linked = links_of_outer m inner c outer linked.1

pub keeps_links : (before after : List Call) (m : Memory) → AllHaveLinks m before → LinksAreKept before after m
keeps_links before after m linked inner c outer is longer = links_of_outer m inner c outer (let P : List Call → Type 0 = λ calls. AllHaveLinks m calls in subst P is linked)

-- writes that meet no link word keep the links of all calls in progress
apart_first : (address n base : ℕ) → (address + n ≤ base) ⊎ (base + 16 ≤ address) → (address + n ≤ base) ⊎ (base + 8 ≤ address)
apart_first address n base (inl h) = inl h
apart_first address n base (inr h) = inr (omega arith)

apart_second : (address n base : ℕ) → (address + n ≤ base) ⊎ (base + 16 ≤ address) → (address + n ≤ base + 8) ⊎ (base + 8 + 8 ≤ address)
apart_second address n base (inl h) = inl (omega arith)
apart_second address n base (inr h) = inr (omega arith)

pub in_stack : (m : Memory) (address n : ℕ) → HasStack m → 16777216 ≤ address → address + n ≤ 17825792 → IsIn m address n
in_stack m address n stack low high = inr (inl (record { begins = low; ends = omega (arith, stack.stack) }))

pub links_apart : (functions : List FunctionRow) (old new : Memory) (calls : List Call) (address n : ℕ) → AllRun functions → AreStacked functions calls → allowances functions calls ≤ 1048576 → HasStack old → MeetsNoLink calls address n → KeepsOthers old new address n → AllHaveLinks old calls → AllHaveLinks new calls
links_apart functions old new [] address n rows stacked room stack apart kept linked = tt
links_apart functions old new (c ∷ cs) address n rows stacked room stack apart kept linked =
    let begins : 16777216 ≤ c.base = omega (arith, frames_begin functions cs stacked.2, stacked.1) in
    let ends : c.base + 16 ≤ 17825792 = omega (arith, frames_end functions (c ∷ cs) rows stacked, frame_is_long (function_at functions c.function) (rows c.function stacked.0)) in
    let here : HasLinks new c cs = record {
      link = kept c.base 8 (in_stack old c.base 8 stack begins (omega arith)) (apart_first address n c.base apart.0) ∙ linked.0.link;
      caller = kept (c.base + 8) 8 (in_stack old (c.base + 8) 8 stack (omega arith) (omega arith)) (apart_second address n c.base apart.0) ∙ linked.0.caller;
    } in
    (here, links_apart functions old new cs address n rows stacked.2 (omega arith) stack apart.1 kept linked.1)
