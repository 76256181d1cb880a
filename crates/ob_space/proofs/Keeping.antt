-- Changes of bytes, slots and outside granules, which change no object.
use Rattle.std.proofs.Common.{◌≡◌, ℕ, List, Result, Ok, Err, All, ap, sym, subst, ◌∙◌, ℤ}
use Rattle.std.specs.Prelude.{OnErr}
use Rattle.std.proofs.lemmas.List.Elements.{All-weaker}
use Rattle.ob_model.specs.declared.objects.Entry.{Entry}
use Rattle.ob_model.specs.declared.objects.Sort.{Sort}
use Rattle.ob_model.specs.declared.objects.Sort.TheVariants.{Static, Automatic, Heap}
use Rattle.ob_model.specs.declared.settings.RunSettings.{RunSettings}
use Rattle.ob_model.specs.Bounded.{Listed}
use Rattle.ob_model.specs.Cells.{Content}
use Rattle.ob_model.specs.Descriptors.{Slots}
use Rattle.ob_flat.specs.Memory.{Memory}
use Rattle.ob_code.specs.Pointers.{shift}
use Rattle.ob_code.specs.State.{Space}
use Rattle.ob_frames.specs.Framed.{Framed}
use Rattle.ob_lifetimes.specs.Living.{Living, pointing_of}
use Rattle.ob_pointers.specs.declared.pointers.ShiftAnswer.{ShiftAnswer}
use Rattle.ob_pointers.specs.Pointing.{Shifts, as_shifted}
use Rattle.ob_standing.specs.Laws.{KeepsStanding, KeepsWhenShifted, MovesKeep}
use Rattle.ob_space.specs.Kept.{IsAmongStatics, IsKept, LiesAsSort, LiesIn, loaded_in}

-- ---- bytes

abbrev pub with_memory : Framed → Memory → Framed
with_memory f m = record f { memory = m }

lies_still : (s : Sort) (f : Framed) (m : Memory) (e : Entry) → m.statics ≡ f.memory.statics → LiesAsSort s f e → LiesAsSort s (with_memory f m) e
lies_still Static f m e same lies = subst (λ (n : ℕ). IsAmongStatics n e) (sym same) lies
lies_still Automatic f m e same lies = lies
lies_still Heap f m e same lies = lies

pub kept_memory : (f : Framed) (m : Memory) (l : Living) (settings : RunSettings) → m.statics ≡ f.memory.statics → m.heap ≡ f.memory.heap → IsKept f l settings → IsKept (with_memory f m) l settings
kept_memory f m l settings statics heap kept = record {
  settled = record { profile = kept.settled.profile; cap = kept.settled.cap; away = kept.settled.away; heap = kept.settled.heap; memory = heap ∙ kept.settled.memory; statics = kept.settled.statics };
  count = kept.count;
  calls = kept.calls;
  places = All-weaker (LiesIn f) (LiesIn (with_memory f m)) (λ k lies. lies_still k.entry.sort f m k.entry statics lies) l.entries kept.places;
}

-- ---- slots and outside granules

abbrev pub with_slots : Living → Slots → Living
with_slots l slots = record l { slots = slots }

kept_slots_at : (f : Framed) (l : Living) (settings : RunSettings) (slots : Slots) → IsKept f l settings → IsKept f (with_slots l slots) settings
kept_slots_at f l settings slots kept = record {
  settled = record { profile = kept.settled.profile; cap = kept.settled.cap; away = kept.settled.away; heap = kept.settled.heap; memory = kept.settled.memory; statics = kept.settled.statics };
  count = kept.count;
  calls = kept.calls;
  places = kept.places;
}

pub kept_slots : (f : Framed) (l m : Living) (settings : RunSettings) → m ≡ with_slots l m.slots → IsKept f l settings → IsKept f m settings
kept_slots f l m settings is kept = subst (λ (x : Living). IsKept f x settings) (sym is) (kept_slots_at f l settings m.slots kept)

pub kept_outside : (f : Framed) (l m : Living) (settings : RunSettings) (outside : List (Listed (Content ℕ))) → m ≡ record l { outside = outside } → IsKept f l settings → IsKept f m settings
kept_outside f l m settings outside is kept =
    let after : IsKept f (record l { outside = outside }) settings = record {
      settled = record { profile = kept.settled.profile; cap = kept.settled.cap; away = kept.settled.away; heap = kept.settled.heap; memory = kept.settled.memory; statics = kept.settled.statics };
      count = kept.count;
      calls = kept.calls;
      places = kept.places;
    } in
    subst (λ (x : Living). IsKept f x settings) (sym is) after

-- ---- moves

shifted_at : (f : Framed) (l : Living) (settings : RunSettings) (w : ℕ) (d : ℤ) (answer : Result ℕ ShiftAnswer) (slots : Slots) → l.away ≡ settings.away → Shifts w d (pointing_of l) answer (pointing_of (with_slots l slots)) → shift settings.away (loaded_in f l settings).space w d ≡ as_shifted answer (loaded_in f (with_slots l slots) settings).space
shifted_at f l settings w d answer slots away shifts =
    let old : Space = (loaded_in f l settings).space in
    let new : Space = (loaded_in f (with_slots l slots) settings).space in
    subst (λ (n : ℕ). shift n old w d ≡ as_shifted answer new) away (shifts old)

pub shifted_space : (f : Framed) (l m : Living) (settings : RunSettings) (w : ℕ) (d : ℤ) (answer : Result ℕ ShiftAnswer) → IsKept f l settings → m ≡ with_slots l m.slots → Shifts w d (pointing_of l) answer (pointing_of m) → shift settings.away (loaded_in f l settings).space w d ≡ as_shifted answer (loaded_in f m settings).space
shifted_space f l m settings w d answer kept is shifts =
    subst (λ (x : Living). shift settings.away (loaded_in f l settings).space w d ≡ as_shifted answer (loaded_in f x settings).space) (sym is)
    (shifted_at f l settings w d answer m.slots kept.settled.away (subst (λ (x : Living). Shifts w d (pointing_of l) answer (pointing_of x)) is shifts))

keeps_answer : (answer : Result ℕ ShiftAnswer) (s t : Space) → KeepsWhenShifted s (as_shifted answer t) → OnErr answer (t ≡ s) → KeepsStanding s t
keeps_answer (Ok w) s t keeps same = keeps
keeps_answer (Err e) s t keeps same = subst (KeepsStanding s) (sym same) (λ w v stands. stands)

on_err : (answer : Result ℕ ShiftAnswer) (f : Framed) (l m : Living) (settings : RunSettings) → OnErr answer (m ≡ l) → OnErr answer ((loaded_in f m settings).space ≡ (loaded_in f l settings).space)
on_err (Ok w) f l m settings same = same
on_err (Err e) f l m settings same = ap (λ (x : Living). (loaded_in f x settings).space) same

pub standing_shifted : (law : MovesKeep) (f : Framed) (l m : Living) (settings : RunSettings) (w : ℕ) (d : ℤ) (answer : Result ℕ ShiftAnswer) → IsKept f l settings → m ≡ with_slots l m.slots → Shifts w d (pointing_of l) answer (pointing_of m) → OnErr answer (m ≡ l) → KeepsStanding (loaded_in f l settings).space (loaded_in f m settings).space
standing_shifted law f l m settings w d answer kept is shifts same =
    keeps_answer answer (loaded_in f l settings).space (loaded_in f m settings).space
    (subst (KeepsWhenShifted (loaded_in f l settings).space) (shifted_space f l m settings w d answer kept is shifts) (law settings.away (loaded_in f l settings).space w d))
    (on_err answer f l m settings same)
