-- Leaving the innermost call.
use Rattle.std.proofs.Common.{◌≡◌, ℕ, ◌+◌, ◌-◌, ◌<◌, Bool, true, false, not, List, ◌∷◌, length, All, arith, ap, sym, subst, ◌∙◌, refl, ⊎_elim, ◌⊎◌, inr}
use Rattle.std.proofs.lemmas.List.Elements.{All-contains}
use Rattle.ob_model.specs.declared.objects.Entry.{Entry}
use Rattle.ob_model.specs.declared.objects.Sort.{Sort}
use Rattle.ob_model.specs.declared.objects.Sort.TheVariants.{Static, Automatic, Heap}
use Rattle.ob_model.specs.declared.settings.RunSettings.{RunSettings}
use Rattle.ob_model.specs.Entries.{Known, surviving_known}
use Rattle.ob_model.specs.Objects.{is_among}
use Rattle.ob_code.specs.declared.image.FunctionRow.{FunctionRow}
use Rattle.ob_code.specs.Frames.{function_at, left_call, local_entry}
use Rattle.ob_code.specs.Layout.{no_local}
use Rattle.ob_code.specs.Rules.{IsFrameSound, local_at}
use Rattle.ob_code.specs.State.{Call, Space}
use Rattle.ob_frames.specs.declared.frames.Left.{Left}
use Rattle.ob_frames.specs.Framed.{Framed, Leaves, call_of}
use Rattle.ob_frames.specs.Kept.{IsFramed}
use Rattle.ob_lifetimes.specs.Living.{Dies, Living}
use Rattle.ob_space.specs.Kept.{HaveObjects, IsKept, IsOfCall, IsOfCalls, LiesAsSort, LiesIn, loaded_in, local_count}
use Rattle.ob_space.specs.Loaded.{Loaded, left}
use Rattle.ob_space.proofs.Lists.{all_from_members, contains_filter, contains_filtered, contains_image}
use Rattle.ob_space.proofs.Owning.{KeepsCalls, among_is, among_not_below, calls_stay}

-- ---- the frames before and after

abbrev pub before : Framed → Call → List Call → Framed
before f c cs = record f { calls = c ∷ cs }

abbrev pub after : Framed → List Call → Framed
after f cs = record f { calls = cs }

pub before_is : (left : Left) (f g : Framed) → Leaves left f g → f ≡ before f (call_of left) g.calls
before_is left f g leaves = ap (λ (cs : List Call). after f cs) leaves.calls

abbrev pub row_of : Framed → Call → FunctionRow
row_of f c = function_at f.functions c.function

abbrev pub DiesAt : Framed → Call → Living → Living → Type 0
DiesAt f c l m = Dies (is_among c.first (row_of f c).vars) (length (row_of f c).locals) l m

-- ---- what is left

entries_are : (f : Framed) (c : Call) (l m : Living) (settings : RunSettings) → DiesAt f c l m → m.entries ≡ surviving_known (is_among c.first (row_of f c).vars) l.entries
entries_are f c l m settings dies = ap (λ (s : Space). s.entries) (dies.gone (loaded_in f l settings).space)

keeps_left : (first vars : ℕ) (entries : List Known) → KeepsCalls first entries (surviving_known (is_among first vars) entries)
keeps_left first vars entries = record {
  stay = λ k among sort freed below. contains_filter (λ (k : Known). not (is_among first vars k.entry.object)) entries k among (ap not (among_not_below first vars k.entry.object below));
  come = λ k among. inr (record { k = k; known = (contains_filtered (λ (k : Known). not (is_among first vars k.entry.object)) entries k among).0; is = refl });
}

of_call_is_among : (f : Framed) (c : Call) (e : Entry) → IsFrameSound (row_of f c) → IsOfCall f.functions c e → is_among c.first (row_of f c).vars e.object ≡ true
of_call_is_among f c e sound of =
    let at = contains_image (local_entry c.base c.first) (row_of f c).locals no_local e of in
    let number : e.object ≡ c.first + (local_at (row_of f c) at.place).ordinal = ap (λ (x : Entry). x.object) at.is in
    among_is c.first (row_of f c).vars e.object (omega (arith, number)) (omega (arith, number, (sound.locals at.place at.below).ordinal))

lies_left : (s : Sort) (f : Framed) (c : Call) (cs : List Call) (e : Entry) → IsFrameSound (row_of f c) → not (is_among c.first (row_of f c).vars e.object) ≡ true → LiesAsSort s (before f c cs) e → LiesAsSort s (after f cs) e
lies_left Static f c cs e sound stays lies = lies
lies_left Automatic f c cs e sound stays lies =
    ⊎_elim
    (λ (here : IsOfCall f.functions c e). absurd (let dies = of_call_is_among f c e sound here in let no : not (is_among c.first (row_of f c).vars e.object) ≡ false = ap not dies in cc))
    (λ (there : IsOfCalls f.functions cs e). there)
    lies
lies_left Heap f c cs e sound stays lies = lies

places_left : (f : Framed) (c : Call) (cs : List Call) (entries : List Known) → IsFrameSound (row_of f c) → All (LiesIn (before f c cs)) entries → All (LiesIn (after f cs)) (surviving_known (is_among c.first (row_of f c).vars) entries)
places_left f c cs entries sound places =
    let test : Known → Bool = λ k. not (is_among c.first (row_of f c).vars k.entry.object) in
    all_from_members (LiesIn (after f cs)) (surviving_known (is_among c.first (row_of f c).vars) entries)
    (λ k among.
    let was = contains_filtered test entries k among in
    lies_left k.entry.sort f c cs k.entry sound was.1 (All-contains (LiesIn (before f c cs)) entries k places was.0))

kept_left_at : (f : Framed) (c : Call) (cs : List Call) (l m : Living) (settings : RunSettings) → IsFramed (before f c cs) → IsKept (before f c cs) l settings → DiesAt f c l m → IsKept (after f cs) m settings
kept_left_at f c cs l m settings framed kept dies =
    let sound : IsFrameSound (row_of f c) = framed.rows c.function framed.stacked.0 in
    let entries : m.entries ≡ surviving_known (is_among c.first (row_of f c).vars) l.entries = entries_are f c l m settings dies in
    let next : m.next ≡ l.next = ap (λ (x : Living). x.next) dies.rest in
    let locals : m.locals ≡ l.locals - length (row_of f c).locals = ap (λ (x : Living). x.locals) dies.rest in
    record {
      settled = record {
        profile = ap (λ (x : Living). x.profile) dies.rest ∙ kept.settled.profile;
        cap = ap (λ (x : Living). x.cap) dies.rest ∙ kept.settled.cap;
        away = ap (λ (x : Living). x.away) dies.rest ∙ kept.settled.away;
        heap = ap (λ (x : Living). x.heap) dies.rest ∙ kept.settled.heap;
        memory = kept.settled.memory;
        statics = ap (λ (x : Living). x.most_statics) dies.rest ∙ kept.settled.statics;
      };
      count = omega (arith, kept.count, locals);
      calls = rw (entries, next)
          (calls_stay f.functions l.entries (surviving_known (is_among c.first (row_of f c).vars) l.entries) c.first cs framed.rows framed.stacked.2 (keeps_left c.first (row_of f c).vars l.entries) kept.calls.1 l.next (omega (arith, kept.calls.0.numbers)));
      places = rw entries (places_left f c cs l.entries sound kept.places);
    }

view_left_at : (f : Framed) (c : Call) (cs : List Call) (l m : Living) (settings : RunSettings) → DiesAt f c l m → loaded_in (after f cs) m settings ≡ left (loaded_in (before f c cs) l settings)
view_left_at f c cs l m settings dies =
    let old : Loaded = loaded_in (before f c cs) l settings in
    ap (λ (s : Space). let seen : Loaded = record old { space = record s { calls = cs } } in seen) (dies.gone old.space)

-- ---- the same of the parts as they are

pub kept_left : (left : Left) (f g : Framed) (l m : Living) (settings : RunSettings) → Leaves left f g → IsFramed f → IsKept f l settings → DiesAt f (call_of left) l m → IsKept g m settings
kept_left left f g l m settings leaves framed kept dies =
    let whole = before_is left f g leaves in
    subst (λ (x : Framed). IsKept x m settings) (sym leaves.framed)
    (kept_left_at f (call_of left) g.calls l m settings (subst IsFramed whole framed) (subst (λ (x : Framed). IsKept x l settings) whole kept) dies)

pub view_left : (l' : Left) (f g : Framed) (l m : Living) (settings : RunSettings) → Leaves l' f g → DiesAt f (call_of l') l m → loaded_in g m settings ≡ left (loaded_in f l settings)
view_left l' f g l m settings leaves dies =
    subst (λ (x : Framed). loaded_in x m settings ≡ left (loaded_in f l settings)) (sym leaves.framed)
    (subst (λ (x : Framed). loaded_in (after f g.calls) m settings ≡ left (loaded_in x l settings)) (sym (before_is l' f g leaves)) (view_left_at f (call_of l') g.calls l m settings dies))

-- what is to hold where the objects of the call are let go
pub head_objects : (left : Left) (f g : Framed) (l : Living) (settings : RunSettings) → Leaves left f g → IsKept f l settings → HaveObjects f.functions l.entries l.next (call_of left ∷ g.calls)
head_objects left f g l settings leaves kept = subst (λ (cs : List Call). HaveObjects f.functions l.entries l.next cs) leaves.calls kept.calls

pub head_count : (left : Left) (f g : Framed) (l : Living) (settings : RunSettings) → Leaves left f g → IsKept f l settings → l.locals ≡ local_count f.functions (call_of left ∷ g.calls)
head_count left f g l settings leaves kept = subst (λ (cs : List Call). l.locals ≡ local_count f.functions cs) leaves.calls kept.count

pub head_known : (left : Left) (f g : Framed) → Leaves left f g → IsFramed f → left.function < length f.functions
head_known left f g leaves framed = (subst IsFramed (before_is left f g leaves) framed).stacked.0

pub left_keeps : (Keeps : Space → Space → Type 0) (left' : Left) (f g : Framed) (l : Living) (settings : RunSettings) → Leaves left' f g → ((c : Call) (cs : List Call) (s : Space) → s.next ≡ l.next → s.entries ≡ l.entries → Keeps s (left_call f.functions c cs s)) → Keeps (loaded_in f l settings).space (left (loaded_in f l settings)).space
left_keeps Keeps left' f g l settings leaves law =
    subst (λ (x : Framed). Keeps (loaded_in x l settings).space (left (loaded_in x l settings)).space) (sym (before_is left' f g leaves))
    (law (call_of left') g.calls (loaded_in (before f (call_of left') g.calls) l settings).space refl refl)

pub row_left : (left' : Left) (f g : Framed) (row : FunctionRow) → Leaves left' f g → row ≡ function_at g.functions left'.function → row ≡ row_of f (call_of left')
row_left left' f g row leaves is = is ∙ ap (λ (x : Framed). function_at x.functions left'.function) leaves.framed
