-- The static objects that are made when an image is laid out.
use Rattle.std.proofs.Common.{◌≡◌, ℕ, zero, suc, ◌+◌, ◌-◌, ◌<◌, ◌≤◌, ◌%◌, false, List, [], ◌∷◌, length, take, All, arith, ap, sym, subst, ◌∙◌, refl}
use Rattle.std.proofs.Math.Seq.{take-length}
use Rattle.std.proofs.lemmas.List.Elements.{All-nil, All-weaker}
use Rattle.ob_words.specs.Words.{block}
use Rattle.ob_model.specs.declared.settings.RunSettings.{RunSettings}
use Rattle.ob_model.specs.Entries.{Known, with_live}
use Rattle.ob_flat.specs.Memory.{Memory, zeroed}
use Rattle.ob_code.specs.declared.image.PointerRow.{PointerRow}
use Rattle.ob_code.specs.declared.image.StaticRow.{StaticRow}
use Rattle.ob_code.specs.declared.image.Image.{Image}
use Rattle.ob_code.specs.State.{Call, Space}
use Rattle.ob_code.specs.Layout.{static_base, static_blocks}
use Rattle.ob_code.specs.Rules.{static_at}
use Rattle.ob_code.specs.Start.{with_pointers, with_pointer, with_bytes}
use Rattle.ob_statics.specs.Contents.{entries_from, static_entries, static_memory, with_given}
use Rattle.ob_statics.specs.Laws.{LaidOutIsStatic}
use Rattle.ob_frames.specs.Framed.{Framed, cleared, framed}
use Rattle.ob_frames.specs.Kept.{IsFramed}
use Rattle.ob_lifetimes.specs.Living.{Living, emptied}
use Rattle.ob_space.specs.Kept.{AreSettled, EndsBefore, HaveObjects, IsAmongStatics, IsKept, LiesIn, loaded_in, local_count, static_entry}
use Rattle.ob_space.specs.Loaded as loaded
use Rattle.ob_space.specs.Loaded.{Loaded, with_space}
use Rattle.ob_space.proofs.Lists.{all_more}

-- with one more
pub entries_more : (base object : ℕ) (rows : List StaticRow) (i : ℕ) (entries : List Known) → i < length rows → entries_from base object (take (i + 1) rows) entries ≡ with_live (static_entry (base + static_blocks (take i rows)) (static_at rows i).size (object + i)) (entries_from base object (take i rows) entries)
entries_more base object [] i entries below = absurd (omega arith)
entries_more base object (r ∷ rs) zero entries below =
    let here : base + 0 ≡ base = omega arith in
    let number : object + 0 ≡ object = omega arith in
    rw (here, number) refl
entries_more base object (r ∷ rs) (suc i) entries below =
    let more : suc i + 1 ≡ suc (i + 1) = omega arith in
    let at : base + (block r.size + static_blocks (take i rs)) ≡ base + block r.size + static_blocks (take i rs) = omega arith in
    let number : object + suc i ≡ object + 1 + i = omega arith in
    rw (more, at, number)
    (entries_more (base + block r.size) (object + 1) rs i (with_live (static_entry base r.size object) entries) (omega arith))

-- each ends before the next block
pub entries_end : (base object : ℕ) (rows : List StaticRow) (entries : List Known) → All (EndsBefore base) entries → All (EndsBefore (base + static_blocks rows)) (entries_from base object rows entries)
entries_end base object [] entries all = let same : base + 0 ≡ base = omega arith in rw same all
entries_end base object (r ∷ rs) entries all =
    let at : base + (block r.size + static_blocks rs) ≡ base + block r.size + static_blocks rs = omega arith in
    rw at
    (entries_end (base + block r.size) (object + 1) rs (with_live (static_entry base r.size object) entries)
    (all_more (EndsBefore (base + block r.size)) (record { entry = static_entry base r.size object; freed = false }) entries (omega arith)
    (All-weaker (EndsBefore base) (EndsBefore (base + block r.size)) (λ k before. omega (arith, before)) entries all)))

-- each lies in whole blocks of the static range
pub entries_lie : (f : Framed) (base object : ℕ) (rows : List StaticRow) (entries : List Known) → 4096 ≤ base → base % 16 ≡ 0 → base + static_blocks rows ≤ 4096 + f.memory.statics → All (LiesIn f) entries → All (LiesIn f) (entries_from base object rows entries)
entries_lie f base object [] entries least multiple most all = all
entries_lie f base object (r ∷ rs) entries least multiple most all =
    let here : IsAmongStatics f.memory.statics (static_entry base r.size object) = record { multiple = multiple; within = record { begins = least; ends = omega arith } } in
    entries_lie f (base + block r.size) (object + 1) rs (with_live (static_entry base r.size object) entries) (omega arith) (omega arith) (omega arith)
    (all_more (LiesIn f) (record { entry = static_entry base r.size object; freed = false }) entries here all)

-- laying out changes no range
given_keeps : (base : ℕ) (rows : List StaticRow) (m : Memory) → (with_given base rows m).heap ≡ m.heap
given_keeps base [] m = refl
given_keeps base (r ∷ rs) m = given_keeps (base + block r.size) rs (with_bytes m base r.given)

pointers_keep : (statics : List StaticRow) (rows : List PointerRow) (m : Memory) → (with_pointers statics rows m).heap ≡ m.heap
pointers_keep statics [] m = refl
pointers_keep statics (p ∷ ps) m = pointers_keep statics ps (with_pointer statics p m)

pub heap_stays : (statics : List StaticRow) (pointers : List PointerRow) (m : Memory) → (static_memory statics pointers m).heap ≡ m.heap
heap_stays statics pointers m = pointers_keep statics pointers (with_given 4096 statics m) ∙ given_keeps 4096 statics m

-- ---- the objects of a run, once these are made

abbrev pub with_counts : Living → ℕ → List Known → ℕ → Living
with_counts l statics entries next = record l { statics = statics; entries = entries; next = next }

abbrev pub made_first : Living → List StaticRow → ℕ → Living
made_first l rows i = with_counts l i (entries_from 4096 1 (take i rows) []) (i + 1)

abbrev pub made_all : Living → List StaticRow → Living
made_all l rows = with_counts l (length rows) (static_entries rows) (length rows + 1)

pub none_made : (l : Living) → l.statics ≡ 0 → l.entries ≡ [] → l.next ≡ 1 → l ≡ with_counts l 0 [] 1
none_made l statics entries next =
    ap (λ (s : ℕ). with_counts l s l.entries l.next) statics
    ∙ ap (λ (e : List Known). with_counts l 0 e l.next) entries
    ∙ ap (λ (n : ℕ). with_counts l 0 [] n) next

abbrev pub with_static : Living → List StaticRow → ℕ → Living
with_static m rows number =
    record m { statics = m.statics + 1; entries = with_live (static_entry (static_base rows number) (static_at rows (number - 1)).size number) m.entries; next = number + 1 }

pub one_more : (rows : List StaticRow) (l m x : Living) (i : ℕ) → i < length rows → m ≡ made_first l rows i → x ≡ with_static m rows (i + 1) → x ≡ made_first l rows (i + 1)
one_more rows l m x i below first is =
    let back : i + 1 - 1 ≡ i = omega arith in
    let order : 1 + i ≡ i + 1 = omega arith in
    let entries : entries_from 4096 1 (take (i + 1) rows) [] ≡ with_live (static_entry (4096 + static_blocks (take (i + 1 - 1) rows)) (static_at rows (i + 1 - 1)).size (i + 1)) (entries_from 4096 1 (take i rows) []) =
    subst (λ (j : ℕ). entries_from 4096 1 (take (i + 1) rows) [] ≡ with_live (static_entry (4096 + static_blocks (take j rows)) (static_at rows j).size (i + 1)) (entries_from 4096 1 (take i rows) [])) (sym back)
    (subst (λ (n : ℕ). entries_from 4096 1 (take (i + 1) rows) [] ≡ with_live (static_entry (4096 + static_blocks (take i rows)) (static_at rows i).size n) (entries_from 4096 1 (take i rows) [])) order
    (entries_more 4096 1 rows i [] below)) in
    is
    ∙ ap (λ (y : Living). with_static y rows (i + 1)) first
    ∙ ap (λ (e : List Known). with_counts l (i + 1) e (i + 1 + 1)) (sym entries)

pub behind_all : (rows : List StaticRow) (l m : Living) (i : ℕ) → m ≡ made_first l rows i → All (EndsBefore (static_base rows (i + 1))) m.entries
behind_all rows l m i first =
    let back : i + 1 - 1 ≡ i = omega arith in
    let entries : m.entries ≡ entries_from 4096 1 (take i rows) [] = ap (λ (y : Living). y.entries) first in
    subst (λ (j : ℕ). All (EndsBefore (4096 + static_blocks (take j rows))) m.entries) (sym back)
    (subst (λ (e : List Known). All (EndsBefore (4096 + static_blocks (take i rows))) e) (sym entries)
    (entries_end 4096 1 (take i rows) [] (All-nil (EndsBefore 4096))))

pub all_made : (rows : List StaticRow) (l m : Living) (i : ℕ) → i ≡ length rows → m ≡ made_first l rows i → m ≡ made_all l rows
all_made rows l m i full first =
    first
    ∙ ap (λ (j : ℕ). made_first l rows j) full
    ∙ ap (λ (rs : List StaticRow). with_counts l (length rows) (entries_from 4096 1 rs []) (length rows + 1)) (take-length rows)

-- ---- what holds then

pub kept_laid : (g : Framed) (l m : Living) (settings : RunSettings) → IsFramed g → g.calls ≡ [] → AreSettled g l settings → l.locals ≡ 0 → m ≡ made_all l g.statics → IsKept g m settings
kept_laid g l m settings framed calls settled locals made =
    let after : IsKept g (made_all l g.statics) settings = record {
      settled = record { profile = settled.profile; cap = settled.cap; away = settled.away; heap = settled.heap; memory = settled.memory; statics = settled.statics };
      count = locals ∙ sym (ap (λ (cs : List Call). local_count g.functions cs) calls);
      calls = subst (λ (cs : List Call). HaveObjects g.functions (static_entries g.statics) (length g.statics + 1) cs) (sym calls) tt;
      places = entries_lie g 4096 1 g.statics [] (omega arith) refl (omega (arith, framed.static_bytes)) (All-nil (LiesIn g));
    } in
    subst (λ (x : Living). IsKept g x settings) (sym made) after

settled_cleared : (f : Framed) (l : Living) (settings : RunSettings) → AreSettled f l settings → AreSettled (cleared f) (emptied l) settings
settled_cleared f l settings settled = record {
  profile = settled.profile;
  cap = settled.cap;
  away = settled.away;
  heap = settled.heap;
  memory = heap_stays f.statics f.pointers (zeroed (static_blocks f.statics) 1048576 f.memory.heap) ∙ settled.memory;
  statics = settled.statics;
}

pub kept_cleared : (f g : Framed) (l n m : Living) (settings : RunSettings) → IsFramed g → g ≡ cleared f → n ≡ emptied l → IsKept f l settings → m ≡ made_all n g.statics → IsKept g m settings
kept_cleared f g l n m settings framed frames living kept made =
    kept_laid g n m settings framed (ap (λ (x : Framed). x.calls) frames)
    (subst (λ (x : Framed). AreSettled x n settings) (sym frames) (subst (λ (y : Living). AreSettled (cleared f) y settings) (sym living) (settled_cleared f l settings kept.settled)))
    (ap (λ (y : Living). y.locals) living) made

laid_space : (law : LaidOutIsStatic) (f : Framed) (l : Living) (settings : RunSettings) → f.memory.heap ≡ settings.heap → loaded_in (cleared f) (made_all (emptied l) f.statics) settings ≡ loaded.cleared (loaded_in f l settings)
laid_space law f l settings heap =
    let old : Loaded = loaded_in f l settings in
    let space : ℕ → Space = λ h. record { memory = static_memory f.statics f.pointers (zeroed (static_blocks f.statics) 1048576 h); entries = static_entries f.statics; slots = []; blocks = []; outside = []; calls = []; next = length f.statics + 1 } in
    ap (λ (h : ℕ). with_space old (space h)) heap
    ∙ ap (λ (s : Space). with_space old s) (sym (law 1048576 f.statics f.pointers settings))

pub view_cleared : (law : LaidOutIsStatic) (f g : Framed) (l n m : Living) (settings : RunSettings) → g ≡ cleared f → n ≡ emptied l → IsKept f l settings → m ≡ made_all n g.statics → loaded_in g m settings ≡ loaded.cleared (loaded_in f l settings)
view_cleared law f g l n m settings frames living kept made =
    ap (λ (y : Living). loaded_in g y settings) made
    ∙ ap (λ (x : Framed). loaded_in x (made_all n x.statics) settings) frames
    ∙ ap (λ (y : Living). loaded_in (cleared f) (made_all y f.statics) settings) living
    ∙ laid_space law f l settings kept.settled.memory

-- ---- the first time

abbrev pub no_objects : RunSettings → ℕ → Living
no_objects settings statics =
    record { profile = settings.profile; cap = settings.store; away = settings.away; heap = settings.heap; most_statics = statics; statics = 0; locals = 0; entries = []; slots = []; blocks = []; outside = []; next = 1 }

pub kept_new : (image : Image) (f : Framed) (n m : Living) (settings : RunSettings) → IsFramed f → f ≡ framed image settings.heap → n ≡ no_objects settings (length f.statics) → m ≡ made_all n f.statics → IsKept f m settings
kept_new image f n m settings is_framed frames living made =
    let heap : f.memory.heap ≡ settings.heap =
    ap (λ (x : Framed). x.memory.heap) frames ∙ heap_stays image.statics image.pointers (zeroed (static_blocks image.statics) 1048576 settings.heap) in
    kept_laid f n m settings is_framed (ap (λ (x : Framed). x.calls) frames)
    (record {
      profile = ap (λ (y : Living). y.profile) living;
      cap = ap (λ (y : Living). y.cap) living;
      away = ap (λ (y : Living). y.away) living;
      heap = ap (λ (y : Living). y.heap) living;
      memory = heap;
      statics = ap (λ (y : Living). y.most_statics) living;
    })
    (ap (λ (y : Living). y.locals) living) made

pub view_new : (law : LaidOutIsStatic) (image : Image) (f : Framed) (n m : Living) (settings : RunSettings) → f ≡ framed image settings.heap → n ≡ no_objects settings (length f.statics) → m ≡ made_all n f.statics → loaded_in f m settings ≡ loaded.loaded image settings
view_new law image f n m settings frames living made =
    let seen : Space → Loaded = λ s. record { statics = image.statics; pointers = image.pointers; functions = image.functions; settings = settings; space = s } in
    ap (λ (y : Living). loaded_in f y settings) (made ∙ ap (λ (y : Living). made_all y f.statics) living)
    ∙ ap (λ (x : Framed). loaded_in x (made_all (no_objects settings (length x.statics)) x.statics) settings) frames
    ∙ ap seen (sym (law 1048576 image.statics image.pointers settings))
