-- A new object of the heap, and one that is freed.
use Rattle.std.proofs.Common.{◌≡◌, ℕ, ◌+◌, ◌-◌, ◌≤◌, ◌%◌, ◌&&◌, ◌==◌, Bool, true, false, not, List, length, Option, Some, None, All, ℤ, pos, arith, ap, sym, subst, ◌∙◌, refl, ◌⊎◌, inl, inr}
use Rattle.std.specs.List.{Contains}
use Rattle.std.specs.Ordering.{int_eq}
use Rattle.std.specs.Prelude.{MatchOption, slice_index_or}
use Rattle.std.proofs.lemmas.Bool.{ne_eqb}
use Rattle.std.proofs.lemmas.List.Elements.{All-contains, Contains-get_or}
use Rattle.ob_words.specs.Words.{block}
use Rattle.ob_model.specs.declared.objects.Entry.{Entry}
use Rattle.ob_model.specs.declared.objects.Sort.{Sort}
use Rattle.ob_model.specs.declared.objects.Sort.TheVariants.{Static, Automatic, Heap}
use Rattle.ob_model.specs.declared.settings.Profile.{Profile}
use Rattle.ob_model.specs.declared.settings.Profile.TheVariants.{One, Two}
use Rattle.ob_model.specs.declared.settings.RunSettings.{RunSettings}
use Rattle.ob_model.specs.Descriptors.{Pair, named_pair}
use Rattle.ob_model.specs.Entries.{Known, freed_if, holds_address, known_at, known_of, surviving_known, with_freed, with_live}
use Rattle.ob_model.specs.Heap.{Allocated, Block, Fits, IsFirstFit, blocks_of, place_for, with_object}
use Rattle.ob_model.specs.Laws.{HeapIsFirstFit}
use Rattle.ob_model.specs.Objects.{frees, is_heap}
use Rattle.ob_code.specs.Allocation.{Freeing, freeing, freeing_if, no_effect, own, space_after_free, stray}
use Rattle.ob_code.specs.Pointers.{Target, by_address, by_slot, found, into, nothing}
use Rattle.ob_code.specs.State.{Space}
use Rattle.ob_frames.specs.Framed.{Framed}
use Rattle.ob_frames.specs.Kept.{IsFramed}
use Rattle.ob_lifetimes.specs.declared.lifetimes.Freed.{Freed}
use Rattle.ob_lifetimes.specs.Living.{Frees, IsSound, Living, as_freeing, pointing_of}
use Rattle.ob_pointers.specs.Pointing.{target_in}
use Rattle.ob_space.specs.Kept.{IsKept, LiesAsSort, LiesIn, loaded_in}
use Rattle.ob_space.specs.Loaded.{Loaded, after_free, with_space}
use Rattle.ob_space.proofs.Lists.{all_from_members, all_more, contains_filter, contains_filtered, contains_image, contains_map, contains_old, found_is, same_number}
use Rattle.ob_space.proofs.Owning.{IsEntryOf, KeepsCalls, calls_stay}

-- ---- an object is made

pub record IsPlace (heap n place : ℕ) : Type 0 where
  pub aligned : place % 16 ≡ 0
  pub within : place + block n ≤ heap

first_is : (blocks : List Block) (heap length place : ℕ) (o : Option ℕ) → MatchOption o ((q : ℕ) → Fits blocks heap length q → ⊥) (IsFirstFit blocks heap length) → o ≡ Some place → IsFirstFit blocks heap length place
first_is blocks heap length place None fits is = absurd (cc)
first_is blocks heap length place (Some q) fits is = let same : q ≡ place = cc in subst (IsFirstFit blocks heap length) same fits

pub place_is : (law : HeapIsFirstFit) (all : List Allocated) (heap n place : ℕ) → place_for all heap n ≡ Some place → IsPlace heap n place
place_is law all heap n place is =
    let first = first_is (blocks_of all) heap (block n) place (place_for all heap n) (law (blocks_of all) heap (block n)) is in
    record { aligned = first.fits.aligned; within = first.fits.within }

keeps_made : (e : Entry) (entries : List Known) → KeepsCalls e.object entries (with_live e entries)
keeps_made e entries =
    let Q : Known → Type 0 = λ k. (e.object ≤ k.entry.object) ⊎ IsEntryOf entries k.entry in
    record {
      stay = λ k among sort freed below. contains_old (record { entry = e; freed = false }) entries k among;
      come = λ k among. All-contains Q (with_live e entries) k
          (all_more Q (record { entry = e; freed = false }) entries (inl (omega arith))
          (all_from_members Q entries (λ k of. inr (record { k = k; known = of; is = refl }))))
          among;
    }

abbrev pub heap_entry : ℕ → ℕ → ℕ → Entry
heap_entry place n object = record { base = 33554432 + place; size = n; object = object; sort = Heap }

abbrev pub made_living : ℕ → ℕ → Living → Living
made_living place n l =
    record l { entries = with_live (heap_entry place n l.next) l.entries; blocks = with_object l.next place n l.blocks; next = l.next + 1 }

pub kept_made : (f : Framed) (l : Living) (settings : RunSettings) (place n : ℕ) → IsFramed f → IsKept f l settings → IsKept f (made_living place n l) settings
kept_made f l settings place n framed kept = record {
  settled = record { profile = kept.settled.profile; cap = kept.settled.cap; away = kept.settled.away; heap = kept.settled.heap; memory = kept.settled.memory; statics = kept.settled.statics };
  count = kept.count;
  calls = calls_stay f.functions l.entries (with_live (heap_entry place n l.next) l.entries) l.next f.calls framed.rows framed.stacked (keeps_made (heap_entry place n l.next) l.entries) kept.calls (l.next + 1) (omega arith);
  places = all_more (LiesIn f) (record { entry = heap_entry place n l.next; freed = false }) l.entries tt kept.places;
}

-- ---- what a word names is known

abbrev pub IsKnownTarget : List Known → Target → Type 0
IsKnownTarget entries nothing = Unit {0}
IsKnownTarget entries (into k offset) = Contains entries k

of_number : (entries : List Known) (object : ℕ) (offset : ℤ) (o : Option Known) → known_of object entries ≡ o → IsKnownTarget entries (found o offset)
of_number entries object offset None is = tt
of_number entries object offset (Some k) is = (found_is (λ (k : Known). k.entry.object == object) entries k is).0

of_slot : (entries : List Known) (o : Option Pair) → IsKnownTarget entries (by_slot o entries)
of_slot entries None = tt
of_slot entries (Some pair) = of_number entries pair.0 pair.1 (known_of pair.0 entries) refl

of_address : (entries : List Known) (w : ℕ) (other : Target) (o : Option Known) → known_at w entries ≡ o → IsKnownTarget entries other → IsKnownTarget entries (by_address o w other)
of_address entries w other None is h = h
of_address entries w other (Some k) is h = (found_is (λ (k : Known). holds_address w k.entry) entries k is).0

pub target_is_known : (l : Living) (w : ℕ) → IsKnownTarget l.entries (target_in (pointing_of l) w)
target_is_known l w =
    of_address l.entries w (by_slot (named_pair l.slots w) l.entries) (known_at w l.entries) refl (of_slot l.entries (named_pair l.slots w))

-- ---- an object is freed

pub record IsHeapObject (entries : List Known) (object : ℕ) : Type 0 where
  pub k : Known
  pub known : Contains entries k
  pub heap : k.entry.sort ≡ Heap
  pub number : k.entry.object ≡ object

sort_is_heap : (s : Sort) → is_heap s ≡ true → s ≡ Heap
sort_is_heap Static h = absurd (cc)
sort_is_heap Automatic h = absurd (cc)
sort_is_heap Heap h = refl

both_true : (a b c : Bool) → (a && (b && c)) ≡ true → b ≡ true
both_true true true c h = refl
both_true true false c h = h
both_true false b c h = absurd (cc)

frees_heap : (freed : Bool) (s : Sort) (offset : ℤ) → frees freed s offset ≡ true → is_heap s ≡ true
frees_heap freed s offset h = both_true (not freed) (is_heap s) (int_eq offset (pos 0)) h

own_is : (b : Bool) (number object : ℕ) (offset : ℤ) → freeing_if b number offset ≡ own object → (b ≡ true) × (number ≡ object)
own_is true number object offset is = (refl, cc)
own_is false number object offset is = absurd (cc)

own_is_heap : (entries : List Known) (t : Target) (object : ℕ) → IsKnownTarget entries t → freeing t ≡ own object → IsHeapObject entries object
own_is_heap entries nothing object known is = absurd (cc)
own_is_heap entries (into k offset) object known is =
    let at = own_is (frees k.freed k.entry.sort offset) k.entry.object object offset is in
    record { k = k; known = known; heap = sort_is_heap k.entry.sort (frees_heap k.freed k.entry.sort offset at.0); number = at.1 }

-- automatic objects stay, and no others come
pub record KeepsObjects (old new : List Known) : Type 0 where
  pub stay : (k : Known) → Contains old k → k.entry.sort ≡ Automatic → Contains new k
  pub come : (k : Known) → Contains new k → IsEntryOf old k.entry

keeps_all : (entries : List Known) → KeepsObjects entries entries
keeps_all entries = record { stay = λ k among sort. among; come = λ k among. record { k = k; known = among; is = refl } }

is_other : (l : Living) (object : ℕ) → IsSound l → IsHeapObject l.entries object → (k : Known) → Contains l.entries k → k.entry.sort ≡ Automatic → (k.entry.object == object) ≡ false
is_other l object sound heap k among sort =
    ne_eqb k.entry.object object
    (λ same.
    let one : k ≡ heap.k = same_number l.entries k heap.k sound.numbers among heap.known (same ∙ sym heap.number) in
    let sorts : Automatic ≡ Heap = sym sort ∙ ap (λ (x : Known). x.entry.sort) one ∙ heap.heap in
    cc)

keeps_dead : (l : Living) (object : ℕ) → IsSound l → IsHeapObject l.entries object → KeepsObjects l.entries (surviving_known (λ other. other == object) l.entries)
keeps_dead l object sound heap =
    let test : Known → Bool = λ k. not (k.entry.object == object) in
    record {
      stay = λ k among sort. contains_filter test l.entries k among (ap not (is_other l object sound heap k among sort));
      come = λ k among. record { k = k; known = (contains_filtered test l.entries k among).0; is = refl };
    }

same_entry : (b : Bool) (k : Known) → (freed_if b k).entry ≡ k.entry
same_entry true k = refl
same_entry false k = refl

keeps_freed : (l : Living) (object : ℕ) → IsSound l → IsHeapObject l.entries object → KeepsObjects l.entries (with_freed object l.entries)
keeps_freed l object sound heap =
    let mark : Known → Known = λ k. freed_if (k.entry.object == object) k in
    record {
      stay = λ k among sort.
          let same : mark k ≡ k = ap (λ (b : Bool). freed_if b k) (is_other l object sound heap k among sort) in
          subst (λ (x : Known). Contains (with_freed object l.entries) x) same (contains_map mark l.entries k among);
      come = λ k among.
          let at = contains_image mark l.entries k k among in
          record {
            k = slice_index_or l.entries at.place k;
            known = Contains-get_or l.entries at.place k at.below;
            is = sym (same_entry ((slice_index_or l.entries at.place k).entry.object == object) (slice_index_or l.entries at.place k)) ∙ sym (ap (λ (x : Known). x.entry) at.is);
          };
    }

keeps_by : (profile : Profile) (x : Freeing) (l : Living) (s : Space) → s.entries ≡ l.entries → IsSound l → ((object : ℕ) → x ≡ own object → IsHeapObject l.entries object) → KeepsObjects l.entries (space_after_free profile x s).entries
keeps_by profile no_effect l s is sound heap = subst (λ (xs : List Known). KeepsObjects l.entries xs) (sym is) (keeps_all l.entries)
keeps_by profile (stray object offset) l s is sound heap = subst (λ (xs : List Known). KeepsObjects l.entries xs) (sym is) (keeps_all l.entries)
keeps_by One (own object) l s is sound heap =
    subst (λ (xs : List Known). KeepsObjects l.entries (surviving_known (λ other. other == object) xs)) (sym is) (keeps_dead l object sound (heap object refl))
keeps_by Two (own object) l s is sound heap =
    subst (λ (xs : List Known). KeepsObjects l.entries (with_freed object xs)) (sym is) (keeps_freed l object sound (heap object refl))

keeps_numbers : (bound : ℕ) (old new : List Known) → KeepsObjects old new → KeepsCalls bound old new
keeps_numbers bound old new kept = record {
  stay = λ k among sort freed below. kept.stay k among sort;
  come = λ k among. inr (kept.come k among);
}

places_stay : (f : Framed) (old new : List Known) → KeepsObjects old new → All (LiesIn f) old → All (LiesIn f) new
places_stay f old new kept places =
    all_from_members (LiesIn f) new
    (λ k among.
    let was = kept.come k among in
    subst (λ (e : Entry). LiesAsSort e.sort f e) was.is (All-contains (LiesIn f) old was.k places was.known))

pub kept_freed : (f : Framed) (l m : Living) (settings : RunSettings) (w : ℕ) (answer : Freed) → IsFramed f → IsSound l → IsKept f l settings → as_freeing answer ≡ freeing (target_in (pointing_of l) w) → Frees l answer m → IsKept f m settings
kept_freed f l m settings w answer framed sound kept is frees =
    let space : Space = (loaded_in f l settings).space in
    let entries : m.entries ≡ (space_after_free l.profile (as_freeing answer) space).entries = ap (λ (s : Space). s.entries) (frees.after space) in
    let keeps : KeepsObjects l.entries m.entries =
    subst (λ (xs : List Known). KeepsObjects l.entries xs) (sym entries)
    (keeps_by l.profile (as_freeing answer) l space refl sound
    (λ object own. own_is_heap l.entries (target_in (pointing_of l) w) object (target_is_known l w) (sym is ∙ own))) in
    let next : m.next ≡ l.next = ap (λ (x : Living). x.next) frees.rest in
    record {
      settled = record {
        profile = ap (λ (x : Living). x.profile) frees.rest ∙ kept.settled.profile;
        cap = ap (λ (x : Living). x.cap) frees.rest ∙ kept.settled.cap;
        away = ap (λ (x : Living). x.away) frees.rest ∙ kept.settled.away;
        heap = ap (λ (x : Living). x.heap) frees.rest ∙ kept.settled.heap;
        memory = kept.settled.memory;
        statics = ap (λ (x : Living). x.most_statics) frees.rest ∙ kept.settled.statics;
      };
      count = ap (λ (x : Living). x.locals) frees.rest ∙ kept.count;
      calls = calls_stay f.functions l.entries m.entries l.next f.calls framed.rows framed.stacked (keeps_numbers l.next l.entries m.entries keeps) kept.calls m.next (omega arith);
      places = places_stay f l.entries m.entries keeps kept.places;
    }

-- the space then is the definition's
pub freed_space : (f : Framed) (l m : Living) (settings : RunSettings) (w : ℕ) (answer : Freed) → IsKept f l settings → as_freeing answer ≡ freeing (target_in (pointing_of l) w) → Frees l answer m → loaded_in f m settings ≡ after_free (loaded_in f l settings) w
freed_space f l m settings w answer kept is frees =
    let old : Loaded = loaded_in f l settings in
    ap (λ (s : Space). with_space old s)
    (frees.after old.space ∙ ap (λ (p : Profile). space_after_free p (as_freeing answer) old.space) kept.settled.profile ∙ ap (λ (x : Freeing). space_after_free settings.profile x old.space) is)
