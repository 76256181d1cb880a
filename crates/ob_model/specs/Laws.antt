-- Laws above the definitions, in the subject's own words.
use Rattle.std.specs.Prelude.{◌≡◌, ◌↔◌, ℕ, Bool, true, false, not, ◌+◌, ◌*◌, ◌%◌, ◌≤◌, ◌<◌, ◌==◌, ℤ, ◌+ℤ◌, ◌*ℤ◌, ◌≤ℤ◌, ◌<ℤ◌, unsigned_abs, List, [], ◌∷◌, ◌++◌, length, Some, None, MatchOption, ◌≢◌, pos, negsuc}
use Rattle.std.specs.List.{All}
use Rattle.std.specs.Option.{option_map}
use Rattle.ob_words.specs.Fields.{from_bytes, low_bytes}
use Rattle.ob_words.specs.Words.{block}
use Rattle.ob_model.specs.declared.values.Cell.{Cell}
use Rattle.ob_model.specs.Accesses.{IsInside, is_far, is_inside, is_aligned, is_stray, granule, place_in_granule, own_granules, is_own, inside, vanishing, reach}
use Rattle.ob_model.specs.declared.endings.Ending.{Ending}
use Rattle.ob_model.specs.declared.endings.Ending.TheVariants.{Ended}
use Rattle.ob_model.specs.declared.settings.Mode.TheVariants.{Oblivious}
use Rattle.ob_model.specs.declared.objects.Sort.{Sort}
use Rattle.ob_model.specs.declared.settings.Profile.{Profile}
use Rattle.ob_model.specs.declared.settings.Profile.TheVariants.{One}
use Rattle.ob_model.specs.declared.values.Value.{Value}
use Rattle.ob_model.specs.declared.values.Value.TheVariants as value
use Rattle.ob_model.specs.Entries.{Known, entries_of, with_entry, with_known, surviving_entries, surviving_known, with_freed, entry_at, known_at, of_object, known_of}
use Rattle.ob_model.specs.Objects.{frees, is_heap, is_freed, is_dead_state, keeps_freed, state_once_freed}
use Rattle.ob_model.specs.Pointers.{in_bounds, out_of_bounds, moved_to, is_before}
use Rattle.ob_model.specs.declared.settings.RunSettings.{RunSettings}
use Rattle.ob_model.specs.Endings.{Agrees, Outcome, plain, status_of}
use Rattle.ob_model.specs.Manufactured.{place_after}
use Rattle.ob_model.specs.Settings.{IsFit}
use Rattle.ob_model.specs.Heap.{Block, Fits, IsFirstFit, heap_place, Allocated, block_of, blocks_of, with_block, without_place, with_allocated, surviving_blocks}
use Rattle.ob_model.specs.Descriptors.{Slots, pair_in, word_of, named_pair}
use Rattle.ob_model.specs.Bounded.{Listed, is_of, listed_cell, after_load, after_store, dropped}
use Rattle.ob_model.specs.Cells.{Content, read_number, read_pointer, written, pointer, has_eight, content, unset}

-- ---- accesses

-- eight times its granule and its place there make up an offset
abbrev pub GranulesHaveEightPlaces : Type 0
GranulesHaveEightPlaces =
    (offset : ℤ) →
    (offset ≡ granule offset *ℤ pos 8 +ℤ pos (place_in_granule offset)) × (place_in_granule offset < 8)

-- an object's own granules are those from 0 on that its bytes touch
abbrev pub OwnGranulesAreCounted : Type 0
OwnGranulesAreCounted =
    (size : ℕ) (offset : ℤ) →
    (is_own size offset ≡ true) ↔ ((pos 0 ≤ℤ granule offset) × (granule offset <ℤ pos (own_granules size)))

-- an object's last granule lies in its block as a whole
abbrev pub LastGranuleIsInBlock : Type 0
LastGranuleIsInBlock = (size : ℕ) → 8 * own_granules size ≤ block size

-- an access is astray unless its object isn't freed, its size divides its offset and its bytes lie in the object
abbrev pub StraysAreTheOthers : Type 0
StraysAreTheOthers =
    (freed : Bool) (size : ℕ) (offset : ℤ) (k : ℕ) →
    (is_stray freed size offset k ≡ false) ↔ ((freed ≡ false) × (unsigned_abs offset % k ≡ 0) × IsInside size offset k)

-- an access that isn't astray stays inside; a stray one vanishes where strays aren't kept, where it is ill aligned, and through
-- a freed object's pointer
abbrev pub OthersStayInside : Type 0
OthersStayInside =
    (keeps freed : Bool) (size : ℕ) (offset : ℤ) (k : ℕ) → is_stray freed size offset k ≡ false → reach keeps freed size offset k ≡ inside

abbrev pub StraysVanish : Type 0
StraysVanish =
    (freed : Bool) (size : ℕ) (offset : ℤ) (k : ℕ) → is_stray freed size offset k ≡ true → reach false freed size offset k ≡ vanishing

abbrev pub IllAlignedVanish : Type 0
IllAlignedVanish =
    (keeps freed : Bool) (size : ℕ) (offset : ℤ) (k : ℕ) → is_aligned offset k ≡ false → reach keeps freed size offset k ≡ vanishing

abbrev pub FreedVanish : Type 0
FreedVanish = (keeps : Bool) (size : ℕ) (offset : ℤ) (k : ℕ) → reach keeps true size offset k ≡ vanishing

-- ---- the heap

-- the heap gives the least place that fits, and none only where no place fits
abbrev pub HeapIsFirstFit : Type 0
HeapIsFirstFit =
    (blocks : List Block) (heap length : ℕ) →
    MatchOption (heap_place blocks heap length) ((q : ℕ) → ¬ Fits blocks heap length q) (IsFirstFit blocks heap length)

-- the blocks of the heap's list with one more object are its blocks with that block
abbrev pub BlocksAreInserted : Type 0
BlocksAreInserted =
    (a : Allocated) (all : List Allocated) → blocks_of (with_allocated a all) ≡ with_block (block_of a) (blocks_of all)

-- where an object's block is the one at a place, that block alone leaves with the object
abbrev pub OneBlockLeaves : Type 0
OneBlockLeaves =
    (object place : ℕ) (all : List Allocated) →
    All (λ a. (a.object == object) ≡ (a.place == place)) all →
    blocks_of (surviving_blocks (λ other. other == object) all) ≡ without_place place (blocks_of all)

-- ---- freed objects

-- `free` frees the object of a pointer to the first byte of a live heap object, and of no other
abbrev pub FreesAreOwn : Type 0
FreesAreOwn =
    (freed : Bool) (sort : Sort) (offset : ℤ) →
    (frees freed sort offset ≡ true) ↔ ((freed ≡ false) × (is_heap sort ≡ true) × (offset ≡ pos 0))

-- an object that dies once it is freed is one that doesn't stay known
abbrev pub FreedDieOrStay : Type 0
FreedDieOrStay =
    (profile : Profile) →
    (is_freed (state_once_freed profile) ≡ keeps_freed profile) × (is_dead_state (state_once_freed profile) ≡ not (keeps_freed profile))

-- ---- live and freed objects of the machine

-- their entries change as they do: with one more, without those that die, and not at all where one is freed
abbrev pub KnownAreInserted : Type 0
KnownAreInserted = (k : Known) (all : List Known) → entries_of (with_known k all) ≡ with_entry k.entry (entries_of all)

abbrev pub KnownSurvive : Type 0
KnownSurvive = (dies : ℕ → Bool) (all : List Known) → entries_of (surviving_known dies all) ≡ surviving_entries dies (entries_of all)

abbrev pub FreedKeepTheirEntries : Type 0
FreedKeepTheirEntries = (object : ℕ) (all : List Known) → entries_of (with_freed object all) ≡ entries_of all

-- the object that an address names, and the one of a number, are those of the entries
abbrev pub KnownAreFound : Type 0
KnownAreFound =
    (address object : ℕ) (all : List Known) →
    (option_map (λ k. k.entry) (known_at address all) ≡ entry_at address (entries_of all))
    × (option_map (λ k. k.entry) (known_of object all) ≡ of_object object (entries_of all))

-- ---- pointers

-- a moved pointer is in bounds where its offset is from 0 to the size and not too far out
abbrev pub MovesStayInBounds : Type 0
MovesStayInBounds =
    (size object : ℕ) (offset : ℤ) →
    is_far offset ≡ false →
    (is_inside size offset 0 ≡ true → moved_to size object offset ≡ in_bounds object offset)
    × (is_inside size offset 0 ≡ false → moved_to size object offset ≡ out_of_bounds object offset)

-- no pointer is before itself, and null is before each pointer to an object
abbrev pub NullIsBeforeObjects : Type 0
NullIsBeforeObjects =
    (p : Value) (object : ℕ) (offset : ℤ) →
    (is_before p p ≡ false) × (0 < object → is_before value.Null (value.Ptr object offset) ≡ true)

-- ---- descriptors

-- the word of a slot names what the slot holds, and a word that is no slot's names nothing
abbrev pub WordsNamePairs : Type 0
WordsNamePairs = (slots : Slots) (k : ℕ) → named_pair slots (word_of k) ≡ pair_in slots k

abbrev pub OtherWordsNameNothing : Type 0
OtherWordsNameNothing = (slots : Slots) (w : ℕ) → ((k : ℕ) → w ≢ word_of k) → named_pair slots w ≡ None

-- ---- the bounded list

-- no entry is of this granule
abbrev pub AreOthers : ℕ → ℤ → List (Listed ℕ) → Type 0
AreOthers object granule es = All (λ e. is_of object granule e ≡ false) es

abbrev pub entry_of : ℕ → ℤ → ℕ → Listed ℕ
entry_of object granule cell = record { object = object; granule = granule; cell = cell }

-- a load brings its granule to the front and keeps the order of the others; where it isn't listed, it changes nothing
abbrev pub LoadMovesToFront : Type 0
LoadMovesToFront =
    (object : ℕ) (granule : ℤ) (cell : ℕ) (before behind : List (Listed ℕ)) →
    AreOthers object granule (before ++ behind) →
    after_load object granule (before ++ entry_of object granule cell ∷ behind) ≡ entry_of object granule cell ∷ (before ++ behind)

abbrev pub OtherLoadsChangeNothing : Type 0
OtherLoadsChangeNothing =
    (object : ℕ) (granule : ℤ) (es : List (Listed ℕ)) → AreOthers object granule es → after_load object granule es ≡ es

-- so does a store, with its new cell, and nothing leaves
abbrev pub StoreMovesToFront : Type 0
StoreMovesToFront =
    (cap object : ℕ) (granule : ℤ) (old cell : ℕ) (before behind : List (Listed ℕ)) →
    AreOthers object granule (before ++ behind) →
    length (before ++ behind) < cap →
    (after_store cap object granule cell (before ++ entry_of object granule old ∷ behind) ≡ entry_of object granule cell ∷ (before ++ behind))
    × (dropped cap object granule cell (before ++ entry_of object granule old ∷ behind) ≡ None)

-- a store at a new granule goes first, and from a full list the last entry leaves
abbrev pub FullListDropsItsLast : Type 0
FullListDropsItsLast =
    (cap object : ℕ) (granule : ℤ) (cell : ℕ) (others : List (Listed ℕ)) (last : Listed ℕ) →
    AreOthers object granule (others ++ last ∷ []) →
    cap ≡ length others + 1 →
    (after_store cap object granule cell (others ++ last ∷ []) ≡ entry_of object granule cell ∷ others)
    × (dropped cap object granule cell (others ++ last ∷ []) ≡ Some last)

-- what was stored last is listed, and the list keeps its bound
abbrev pub StoredIsListed : Type 0
StoredIsListed =
    (cap object : ℕ) (granule : ℤ) (cell : ℕ) (es : List (Listed ℕ)) →
    0 < cap →
    (listed_cell object granule (after_store cap object granule cell es) ≡ Some cell)
    × (length (after_store cap object granule cell es) ≤ cap)

-- a store that drops nothing leaves each other granule as it was
abbrev pub OthersStayListed : Type 0
OthersStayListed =
    (cap object other : ℕ) (granule place : ℤ) (cell : ℕ) (es : List (Listed ℕ)) →
    dropped cap object granule cell es ≡ None →
    (object ≡ other → granule ≡ place → ⊥) →
    listed_cell other place (after_store cap object granule cell es) ≡ listed_cell other place es

-- ---- cells

-- bytes that were written are read back, whatever the granule held
abbrev pub WrittenIsRead : Type 0
WrittenIsRead =
    (place : ℕ) (bs : List ℕ) (c : Content ℕ) →
    has_eight c ≡ true →
    place + length bs ≤ 8 →
    read_number (length bs) place (written place bs c) ≡ Some (from_bytes bs)

-- a number written over a pointer leaves no pointer, and a pointer leaves no number
abbrev pub KindsAreKept : Type 0
KindsAreKept =
    (k place p null : ℕ) (bs : List ℕ) →
    (place + length bs ≤ 8 → read_pointer null (written place bs (pointer p)) ≡ Some null)
    × (read_number {P = ℕ} k place (pointer p) ≡ Some 0)

-- a cell of the machine's list holds a pointer's word, or the bytes of a word where each is set, or nothing
abbrev pub cell_of : Bool → ℕ → ℕ → Cell
cell_of is_pointer set word = record { pointer = is_pointer; set = set; word = word }

abbrev pub CellsHoldWords : Type 0
CellsHoldWords =
    (word set : ℕ) →
    (content (cell_of true set word) ≡ pointer word)
    × (content (cell_of false 0 word) ≡ unset)
    × (read_number 8 0 (content (cell_of false 255 word)) ≡ Some (from_bytes (low_bytes 8 word)))

-- ---- endings

-- the program's own status is the remainder of its `int` modulo 128, and every other status is above those
abbrev pub OwnStatusIsBelow : Type 0
OwnStatusIsBelow = (n : ℤ) → status_of (Ended n) < 128

abbrev pub OtherStatusIsAbove : Type 0
OtherStatusIsAbove = (e : Ending) → ((n : ℤ) → e ≢ Ended n) → 128 < status_of e

abbrev pub StatusOfSmallNumbers : Type 0
StatusOfSmallNumbers =
    (status_of (Ended (pos 3)) ≡ 3) × (status_of (Ended (negsuc 0)) ≡ 127) × (status_of (Ended (pos 300)) ≡ 44)

-- each outcome agrees with itself, and with no other where it tells the whole run
abbrev pub OutcomesAgree : Type 0
OutcomesAgree = (x : Outcome) → Agrees x x

abbrev pub PlainOutcomesAreEqual : Type 0
PlainOutcomesAreEqual = (run meaning : Outcome) (e : Ending) → meaning.finish ≡ plain e → Agrees run meaning → run ≡ meaning

-- ---- settings

-- the settings that a program is run with unless others are given
abbrev pub usual : RunSettings
usual = record { mode = Oblivious; store = 65536; away = 65536; heap = 4194304; profile = One }

abbrev pub UsualSettingsAreFit : Type 0
UsualSettingsAreFit = IsFit usual

-- the places of a cycle come round
abbrev pub PlacesStayInTheCycle : Type 0
PlacesStayInTheCycle = (cycle : List ℕ) (place : ℕ) → place < length cycle → place_after cycle place < length cycle
