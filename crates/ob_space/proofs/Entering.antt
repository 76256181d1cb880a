-- Entering a function.
use Rattle.std.proofs.Common.{◌≡◌, ℕ, ◌+◌, ◌<◌, ◌≤◌, true, false, List, length, map, All, arith, ap, subst, ◌∙◌, refl, ◌⊎◌, inl, inr}
use Rattle.std.specs.List.{Contains}
use Rattle.std.proofs.lemmas.List.Elements.{All-contains, All-weaker}
use Rattle.ob_model.specs.declared.objects.Entry.{Entry}
use Rattle.ob_model.specs.declared.objects.Sort.{Sort}
use Rattle.ob_model.specs.declared.objects.Sort.TheVariants.{Static, Automatic, Heap}
use Rattle.ob_model.specs.declared.settings.RunSettings.{RunSettings}
use Rattle.ob_model.specs.Entries.{Known}
use Rattle.ob_model.specs.Objects.{is_among}
use Rattle.ob_code.specs.declared.image.FunctionRow.{FunctionRow}
use Rattle.ob_code.specs.declared.image.LocalRow.{LocalRow}
use Rattle.ob_code.specs.Frames.{allowances, entered, frame_length, function_at, is_full, local_entry, next_base, with_locals}
use Rattle.ob_frames.specs.Framed.{Framed, Enters, opened}
use Rattle.ob_frames.specs.Kept.{IsFramed}
use Rattle.ob_lifetimes.specs.Living.{AreOfRows, IsSound, LiesBySort, LiesOutside, Living}
use Rattle.ob_standing.specs.Laws.{IsGivenOut}
use Rattle.ob_space.specs.Kept.{IsKept, LiesAsSort, LiesIn, loaded_in}
use Rattle.ob_space.proofs.Framing.{frames_begin, frames_end}
use Rattle.ob_space.proofs.Lists.{all_from_members, all_locals, contains_map, locals_known, locals_old}
use Rattle.ob_space.proofs.Owning.{IsEntryOf, KeepsCalls, among_above, calls_stay, of_calls_end}

-- ---- the stack has room

pub room_for : (f : Framed) (function : ℕ) → is_full f.functions function f.calls ≡ false → (function_at f.functions function).allowance + allowances f.functions f.calls ≤ 1048576
room_for f function room = grind arith

pub frame_ends : (f : Framed) (function : ℕ) → IsFramed f → function < length f.functions → is_full f.functions function f.calls ≡ false → next_base f.functions f.calls + frame_length (function_at f.functions function) ≤ 33554432
frame_ends f function framed known room =
    omega (arith, room_for f function room, frames_end f.functions f.calls framed.rows framed.stacked, (framed.rows function known).covers)

outside_by_sort : (s : Sort) (f : Framed) (heap : ℕ) (l : Living) (k : Known) (end : ℕ) → IsFramed f → LiesAsSort s f k.entry → LiesBySort s heap l.blocks k → end ≤ 33554432 → LiesOutside (next_base f.functions f.calls) end k
outside_by_sort Static f heap l k end framed lies by_sort most =
    inl (omega (arith, frames_begin f.functions f.calls framed.stacked, lies.within.ends, framed.memory.laid_out.statics))
outside_by_sort Automatic f heap l k end framed lies by_sort most =
    inl (omega (arith, of_calls_end f.functions f.calls k.entry framed.rows framed.stacked lies))
outside_by_sort Heap f heap l k end framed lies by_sort most =
    inr (omega (arith, by_sort.2.base))

pub all_outside : (f : Framed) (l : Living) (end : ℕ) → IsFramed f → IsSound l → All (LiesIn f) l.entries → end ≤ 33554432 → All (LiesOutside (next_base f.functions f.calls) end) l.entries
all_outside f l end framed sound places most =
    all_from_members (LiesOutside (next_base f.functions f.calls) end) l.entries
    (λ k among. outside_by_sort k.entry.sort f l.heap l k end framed (All-contains (LiesIn f) l.entries k places among) (All-contains (λ (k : Known). LiesBySort k.entry.sort l.heap l.blocks k) l.entries k sound.places among) most)

-- ---- what holds then

abbrev pub entered_living : FunctionRow → ℕ → Living → Living
entered_living row base l =
    record l { entries = with_locals base l.next row.locals l.entries; locals = l.locals + length row.locals; next = l.next + row.vars }

-- the objects of the new call
own_rows : (base first : ℕ) (row : FunctionRow) (entries : List Known) → All (IsGivenOut first) entries → AreOfRows (is_among first row.vars) base first row.locals (with_locals base first row.locals entries)
own_rows base first row entries given =
    let Q : Known → Type 0 = λ k. is_among first row.vars k.entry.object ≡ true → Contains (map (local_entry base first) row.locals) k.entry in
    all_locals Q base first row.locals entries
    (all_from_members (λ (r : LocalRow). Q (record { entry = local_entry base first r; freed = false })) row.locals (λ r among is. contains_map (local_entry base first) row.locals r among))
    (All-weaker (IsGivenOut first) Q (λ k was is. absurd (omega (arith, was, among_above first row.vars k.entry.object is))) entries given)

-- the objects of before stay, and the others have new numbers
keeps_entered : (base first : ℕ) (rows : List LocalRow) (entries : List Known) → KeepsCalls first entries (with_locals base first rows entries)
keeps_entered base first rows entries =
    let Q : Known → Type 0 = λ k. (first ≤ k.entry.object) ⊎ IsEntryOf entries k.entry in
    record {
      stay = λ k among sort freed below. locals_old base first rows entries k among;
      come = λ k among. All-contains Q (with_locals base first rows entries) k
          (all_locals Q base first rows entries
          (all_from_members (λ (r : LocalRow). Q (record { entry = local_entry base first r; freed = false })) rows (λ r of. inl (omega arith)))
          (all_from_members Q entries (λ k of. inr (record { k = k; known = of; is = refl }))))
          among;
    }

lies_entered : (s : Sort) (function link first : ℕ) (f : Framed) (e : Entry) → LiesAsSort s f e → LiesAsSort s (opened function link first f) e
lies_entered Static function link first f e lies = lies
lies_entered Automatic function link first f e lies = inr lies
lies_entered Heap function link first f e lies = lies

places_entered : (function link first : ℕ) (f : Framed) (entries : List Known) → All (LiesIn f) entries → All (LiesIn (opened function link first f)) (with_locals (next_base f.functions f.calls) first (function_at f.functions function).locals entries)
places_entered function link first f entries places =
    let rows : List LocalRow = (function_at f.functions function).locals in
    let base : ℕ = next_base f.functions f.calls in
    let P : Known → Type 0 = LiesIn (opened function link first f) in
    all_locals P base first rows entries
    (all_from_members (λ (r : LocalRow). P (record { entry = local_entry base first r; freed = false })) rows (λ r of. inl (contains_map (local_entry base first) rows r of)))
    (All-weaker (LiesIn f) P (λ k lies. lies_entered k.entry.sort function link first f k.entry lies) entries places)

kept_at : (f : Framed) (l : Living) (settings : RunSettings) (function link : ℕ) → IsFramed f → IsSound l → IsKept f l settings → IsKept (opened function link l.next f) (entered_living (function_at f.functions function) (next_base f.functions f.calls) l) settings
kept_at f l settings function link framed sound kept = record {
  settled = record { profile = kept.settled.profile; cap = kept.settled.cap; away = kept.settled.away; heap = kept.settled.heap; memory = kept.settled.memory; statics = kept.settled.statics };
  count = omega (arith, kept.count);
  calls = (
    record {
      known = locals_known (next_base f.functions f.calls) l.next (function_at f.functions function).locals l.entries;
      own = own_rows (next_base f.functions f.calls) l.next (function_at f.functions function) l.entries sound.given_out;
      numbers = omega arith;
    },
    calls_stay f.functions l.entries (with_locals (next_base f.functions f.calls) l.next (function_at f.functions function).locals l.entries) l.next f.calls framed.rows framed.stacked (keeps_entered (next_base f.functions f.calls) l.next (function_at f.functions function).locals l.entries) kept.calls l.next (omega arith),
  );
  places = places_entered function link l.next f l.entries kept.places;
}

pub row_is : (f g : Framed) (function link first base : ℕ) (row : FunctionRow) → Enters function link first base f g → row ≡ function_at g.functions function → row ≡ function_at f.functions function
row_is f g function link first base row enters is = is ∙ ap (λ (x : Framed). function_at x.functions function) enters.framed

pub kept_entered : (f g : Framed) (l m : Living) (settings : RunSettings) (function link first base : ℕ) (row : FunctionRow) → IsFramed f → IsSound l → IsKept f l settings → Enters function link first base f g → first ≡ l.next → row ≡ function_at g.functions function → m ≡ entered_living row base l → IsKept g m settings
kept_entered f g l m settings function link first base row framed sound kept enters next is living =
    let same : row ≡ function_at f.functions function = row_is f g function link first base row enters is in
    let frames : g ≡ opened function link l.next f = subst (λ (n : ℕ). g ≡ opened function link n f) next enters.framed in
    let place : base ≡ next_base f.functions f.calls = enters.place in
    rw (frames, living, same, place) (kept_at f l settings function link framed sound kept)

pub entered_space : (f g : Framed) (l m : Living) (settings : RunSettings) (function link first base : ℕ) (row : FunctionRow) → Enters function link first base f g → first ≡ l.next → row ≡ function_at g.functions function → m ≡ entered_living row base l → (loaded_in g m settings).space ≡ entered f.functions function link (loaded_in f l settings).space
entered_space f g l m settings function link first base row enters next is living =
    let same : row ≡ function_at f.functions function = row_is f g function link first base row enters is in
    let frames : g ≡ opened function link l.next f = subst (λ (n : ℕ). g ≡ opened function link n f) next enters.framed in
    let place : base ≡ next_base f.functions f.calls = enters.place in
    rw (frames, living, same, place) refl
