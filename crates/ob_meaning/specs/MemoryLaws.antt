-- Laws of accesses, of deaths and of freed objects, in the subject's own words.
use Rattle.std.specs.Prelude.{◌≡◌, ◌≢◌, ℕ, ◌==◌, Bool, true, false, not, ◌&&◌, is_some, ℤ, pos, ◌+ℤ◌, List, length, All, Some, None, if◌then◌else◌}
use Rattle.std.specs.List.{count_by}
use Rattle.ob_words.specs.declared.types.IntType.TheVariants.{Long}
use Rattle.ob_words.specs.declared.types.Relation.{Relation}
use Rattle.ob_words.specs.Conversion.{convert}
use Rattle.ob_model.specs.declared.objects.Sort.TheVariants.{Heap}
use Rattle.ob_model.specs.declared.settings.Profile.{Profile}
use Rattle.ob_model.specs.declared.settings.Profile.TheVariants.{One, Two}
use Rattle.ob_model.specs.declared.settings.RunSettings.{RunSettings}
use Rattle.ob_model.specs.declared.strays.Act.{Act}
use Rattle.ob_model.specs.declared.strays.Act.TheVariants as act
use Rattle.ob_model.specs.declared.strays.StrayEvent.{StrayEvent}
use Rattle.ob_model.specs.declared.values.LoadKind.{LoadKind}
use Rattle.ob_model.specs.declared.values.LoadKind.TheVariants.{Num, Ptr}
use Rattle.ob_model.specs.declared.values.Value.{Value}
use Rattle.ob_model.specs.declared.values.Value.TheVariants as value
use Rattle.ob_model.specs.Accesses.{bytes_of_kind, granule, is_far, is_own, is_aligned, is_stray, own_granules, stray_event}
use Rattle.ob_model.specs.Bounded.{listed_cell}
use Rattle.ob_model.specs.Cells.{bytes, has_eight, pointer, set_bytes}
use Rattle.ob_model.specs.Endings.{InputEnd}
use Rattle.ob_model.specs.Manufactured.{place_after}
use Rattle.ob_model.specs.Objects.{live, freed, dead, is_dead_state, is_freed}
use Rattle.ob_model.specs.Pointers.{difference, moved_by, pointers_compare}
use Rattle.ob_typed.specs.TypedTree.{TypedProgram}
use Rattle.ob_meaning.specs.Accesses.{load, store, outside_cell}
use Rattle.ob_meaning.specs.Heap.{free}
use Rattle.ob_meaning.specs.Memory.{Object, is_dead, object_at, own_cell}
use Rattle.ob_meaning.specs.Pointers.{compared, formed, move, moved, size_at, subtracted}
use Rattle.ob_meaning.specs.Runs.{meaning_end}
use Rattle.ob_meaning.specs.Values.{Cell, made_value, nothing, number_of, read_cell, truth}
use Rattle.ob_meaning.specs.World.{Rule, vanish, kept, unlimited, World, Run, go, end_of, told, with_freed, without}

-- the two name one granule of one object
abbrev pub IsSameGranule : ℕ → ℤ → ℕ → ℤ → Type 0
IsSameGranule object g other h = (object ≡ other) × (g ≡ h)

-- the world after a store
abbrev pub stored : Rule → LoadKind → ℕ → Value → ℤ → Value → World → World
stored rule kind line p d v w = end_of (store rule kind line p d v w)

-- ---- what a store leaves as it was

-- each granule that an object has of its own, of the same object and of all others, but the one that is stored in
abbrev pub OtherGranulesStay : Type 0
OtherGranulesStay =
    (rule : Rule) (kind : LoadKind) (line object other g : ℕ) (offset d : ℤ) (v : Value) (w : World) →
    ¬ IsSameGranule object (granule (offset +ℤ d)) other (pos g) →
    own_cell (stored rule kind line (value.Ptr object offset) d v w).objects other (pos g) ≡ own_cell w.objects other (pos g)

-- the size of each object, and whether it is live, freed or dead
abbrev pub SizesAndLivesStay : Type 0
SizesAndLivesStay =
    (rule : Rule) (kind : LoadKind) (line other : ℕ) (p v : Value) (d : ℤ) (w : World) →
    ((object_at (stored rule kind line p d v w).objects other).size ≡ (object_at w.objects other).size)
    × ((object_at (stored rule kind line p d v w).objects other).state ≡ (object_at w.objects other).state)

-- all that is no memory, but the events
abbrev pub AllElseStays : Type 0
AllElseStays =
    (rule : Rule) (kind : LoadKind) (line : ℕ) (p v : Value) (d : ℤ) (w : World) →
    let after = stored rule kind line p d v w in
    after ≡ record w { objects = after.objects; outside = after.outside; first_drop = after.first_drop; events = after.events }

-- where objects are unlimited, each granule outside of an object, but the one that is stored in
abbrev pub OtherOutsidesStay : Type 0
OtherOutsidesStay =
    (cap : ℕ) (kind : LoadKind) (line object other : ℕ) (offset d g : ℤ) (v : Value) (w : World) →
    ¬ IsSameGranule object (granule (offset +ℤ d)) other g →
    outside_cell (stored (unlimited cap) kind line (value.Ptr object offset) d v w) other g ≡ outside_cell w other g

-- the same for a bounded list for as long as nothing was dropped
abbrev pub OthersStayUndropped : Type 0
OthersStayUndropped =
    (cap : ℕ) (kind : LoadKind) (line object other : ℕ) (offset d g : ℤ) (v : Value) (w : World) →
    ¬ IsSameGranule object (granule (offset +ℤ d)) other g →
    (stored (kept cap) kind line (value.Ptr object offset) d v w).first_drop ≡ None →
    outside_cell (stored (kept cap) kind line (value.Ptr object offset) d v w) other g ≡ outside_cell w other g

-- ---- accesses of live and freed objects

-- a pointer to a live or freed object, and a displacement, neither of which lies too far out
pub record Reaches (w : World) (object : ℕ) (offset d : ℤ) : Type 0 where
  pub known : is_dead_state (object_at w.objects object).state ≡ false
  pub near : is_far d ≡ false
  pub near_offset : is_far (offset +ℤ d) ≡ false

-- an access of this kind at an offset goes astray
abbrev pub is_astray : LoadKind → Object → ℤ → Bool
is_astray kind o offset = is_stray (is_freed o.state) o.size offset (bytes_of_kind kind)

abbrev pub GoesAstray : LoadKind → World → ℕ → ℤ → Type 0
GoesAstray kind w object offset = is_astray kind (object_at w.objects object) offset ≡ true

abbrev pub event_of : Act → LoadKind → ℕ → ℕ → ℤ → StrayEvent
event_of what kind line object offset = stray_event line what object offset (bytes_of_kind kind)

-- where stray accesses vanish, a stray store is told and changes nothing
abbrev pub StrayStoresVanish : Type 0
StrayStoresVanish =
    (kind : LoadKind) (line object : ℕ) (offset d : ℤ) (v : Value) (w : World) →
    Reaches w object offset d →
    GoesAstray kind w object (offset +ℤ d) →
    store vanish kind line (value.Ptr object offset) d v w ≡ go nothing (told (event_of act.Store kind line object (offset +ℤ d)) w)

-- the next manufactured value is taken, and nothing else changes
abbrev pub takes_one : List ℕ → LoadKind → World → Run Value
takes_one cycle kind w =
    go (made_value kind cycle w.cycle_place) (record w { cycle_place = place_after cycle w.cycle_place })

-- a stray load is told and takes exactly one
abbrev pub StrayLoadsTakeOne : Type 0
StrayLoadsTakeOne =
    (cycle : List ℕ) (kind : LoadKind) (line object : ℕ) (offset d : ℤ) (w : World) →
    Reaches w object offset d →
    GoesAstray kind w object (offset +ℤ d) →
    load vanish cycle kind line (value.Ptr object offset) d w ≡ takes_one cycle kind (told (event_of act.Load kind line object (offset +ℤ d)) w)

-- through a freed object's pointer they do so under each rule
pub record ReachesFreed (w : World) (object : ℕ) (offset d : ℤ) : Type 0 where
  pub state : (object_at w.objects object).state ≡ freed
  pub near : is_far d ≡ false
  pub near_offset : is_far (offset +ℤ d) ≡ false

abbrev pub FreedStoresVanish : Type 0
FreedStoresVanish =
    (rule : Rule) (kind : LoadKind) (line object : ℕ) (offset d : ℤ) (v : Value) (w : World) →
    ReachesFreed w object offset d →
    store rule kind line (value.Ptr object offset) d v w ≡ go nothing (told (event_of act.Store kind line object (offset +ℤ d)) w)

abbrev pub FreedLoadsTakeOne : Type 0
FreedLoadsTakeOne =
    (rule : Rule) (cycle : List ℕ) (kind : LoadKind) (line object : ℕ) (offset d : ℤ) (w : World) →
    ReachesFreed w object offset d →
    load rule cycle kind line (value.Ptr object offset) d w ≡ takes_one cycle kind (told (event_of act.Load kind line object (offset +ℤ d)) w)

-- where objects are unlimited, an aligned stray access at a granule outside of a live object
pub record GoesOutside (kind : LoadKind) (w : World) (object : ℕ) (offset : ℤ) : Type 0 where
  pub live : is_freed (object_at w.objects object).state ≡ false
  pub astray : GoesAstray kind w object offset
  pub aligned : is_aligned offset (bytes_of_kind kind) ≡ true
  pub outside : is_own (object_at w.objects object).size offset ≡ false

-- a load there takes exactly one manufactured value where a byte that it reads is unset, and none where all are set
abbrev pub UnsetByteTakesOne : Type 0
UnsetByteTakesOne =
    (cap : ℕ) (cycle : List ℕ) (kind : LoadKind) (line object : ℕ) (offset d : ℤ) (w : World) →
    Reaches w object offset d →
    GoesOutside kind w object (offset +ℤ d) →
    read_cell kind (offset +ℤ d) (outside_cell w object (granule (offset +ℤ d))) ≡ None →
    load (unlimited cap) cycle kind line (value.Ptr object offset) d w ≡ takes_one cycle kind (told (event_of act.Load kind line object (offset +ℤ d)) w)

abbrev pub SetBytesTakeNone : Type 0
SetBytesTakeNone =
    (cap : ℕ) (cycle : List ℕ) (kind : LoadKind) (line object : ℕ) (offset d : ℤ) (v : Value) (w : World) →
    Reaches w object offset d →
    GoesOutside kind w object (offset +ℤ d) →
    read_cell kind (offset +ℤ d) (outside_cell w object (granule (offset +ℤ d))) ≡ Some v →
    load (unlimited cap) cycle kind line (value.Ptr object offset) d w ≡ go v (told (event_of act.Load kind line object (offset +ℤ d)) w)

-- ---- what is stored is loaded

-- the number that a store of a type keeps, or the pointer
abbrev pub as_stored : LoadKind → Value → Value
as_stored (Num t) v = value.Num (convert t (number_of v))
as_stored Ptr v = v

-- a granule of eight bytes that are all set, or of a pointer
abbrev pub is_full : Cell → Bool
is_full (pointer p) = true
is_full (bytes es) = (length es == 8) && is_some (set_bytes es)

-- an object with each of its own granules, and no unset byte in them
pub record IsWhole (o : Object) : Type 0 where
  pub granules : length o.own ≡ own_granules o.size
  pub full : All (λ cell. is_full cell ≡ true) o.own

-- inside of its object, under each rule
abbrev pub StoredIsLoaded : Type 0
StoredIsLoaded =
    (rule : Rule) (cycle : List ℕ) (kind : LoadKind) (line object : ℕ) (offset d : ℤ) (v : Value) (w : World) →
    Reaches w object offset d →
    IsWhole (object_at w.objects object) →
    is_astray kind (object_at w.objects object) (offset +ℤ d) ≡ false →
    let after = stored rule kind line (value.Ptr object offset) d v w in
    load rule cycle kind line (value.Ptr object offset) d after ≡ go (as_stored kind v) after

-- what is stored outside of an object is loaded again while objects are unlimited, where the granule has eight bytes
abbrev pub StoredOutsideIsLoaded : Type 0
StoredOutsideIsLoaded =
    (cap : ℕ) (cycle : List ℕ) (kind : LoadKind) (line object : ℕ) (offset d : ℤ) (v : Value) (w after : World) →
    Reaches w object offset d →
    GoesOutside kind w object (offset +ℤ d) →
    has_eight (outside_cell w object (granule (offset +ℤ d))) ≡ true →
    store (unlimited cap) kind line (value.Ptr object offset) d v w ≡ go nothing after →
    load (unlimited cap) cycle kind line (value.Ptr object offset) d after
    ≡ go (as_stored kind v) (told (event_of act.Load kind line object (offset +ℤ d)) after)

-- each granule outside of an object has eight bytes in each run
abbrev pub RunsKeepOutsidesWhole : Type 0
RunsKeepOutsidesWhole =
    (program : TypedProgram) (rule : Rule) (settings : RunSettings) (cycle : List ℕ) (place : ℕ) (input : List ℕ) (input_end : InputEnd) (steps object : ℕ) (g : ℤ) →
    has_eight (outside_cell (meaning_end program rule settings cycle place input input_end steps) object g) ≡ true

-- a load inside of its object takes no manufactured value and changes nothing
abbrev pub LoadsInsideTakeNone : Type 0
LoadsInsideTakeNone =
    (rule : Rule) (cycle : List ℕ) (kind : LoadKind) (line object : ℕ) (offset d : ℤ) (w : World) →
    Reaches w object offset d →
    IsWhole (object_at w.objects object) →
    is_astray kind (object_at w.objects object) (offset +ℤ d) ≡ false →
    (v : Value) × (load rule cycle kind line (value.Ptr object offset) d w ≡ go v w)

-- each object of each run is whole
abbrev pub RunsKeepObjectsWhole : Type 0
RunsKeepObjectsWhole =
    (program : TypedProgram) (rule : Rule) (settings : RunSettings) (cycle : List ℕ) (place : ℕ) (input : List ℕ) (input_end : InputEnd) (steps object : ℕ) →
    IsWhole (object_at (meaning_end program rule settings cycle place input input_end steps).objects object)

-- ---- deaths

abbrev pub NamedAreDead : Type 0
NamedAreDead =
    (dies : ℕ → Bool) (w : World) (object : ℕ) →
    (object_at (without dies w).objects object).state ≡ (if dies object then dead else (object_at w.objects object).state)

-- the granules of the dead are gone and no longer count; those of all others stay
abbrev pub GranulesOfTheDeadLeave : Type 0
GranulesOfTheDeadLeave =
    (dies : ℕ → Bool) (w : World) (object : ℕ) (g : ℤ) →
    (dies object ≡ true → listed_cell object g (without dies w).outside ≡ None)
    × (dies object ≡ false → listed_cell object g (without dies w).outside ≡ listed_cell object g w.outside)

abbrev pub GranulesOfTheDeadDoNotCount : Type 0
GranulesOfTheDeadDoNotCount =
    (dies : ℕ → Bool) (w : World) →
    length (without dies w).outside ≡ count_by (λ e. not (dies e.object)) w.outside

-- ---- freed objects

-- a live object that is freed stays known, with its size
abbrev pub FreedStaysKnown : Type 0
FreedStaysKnown =
    (object : ℕ) (w : World) →
    (object_at w.objects object).state ≡ live →
    object_at (with_freed object w).objects object ≡ record (object_at w.objects object) { state = freed }

-- its granules outside leave; its block and its out-of-bounds pointers stay
abbrev pub GranulesOfTheFreedLeave : Type 0
GranulesOfTheFreedLeave =
    (object : ℕ) (g : ℤ) (w : World) →
    (listed_cell object g (with_freed object w).outside ≡ None)
    × ((with_freed object w).heap ≡ w.heap)
    × ((with_freed object w).out_of_bounds ≡ w.out_of_bounds)

-- all other objects stay as they are, with their granules outside
abbrev pub OthersStayAsTheyAre : Type 0
OthersStayAsTheyAre =
    (object other : ℕ) (g : ℤ) (w : World) →
    object ≢ other →
    (object_at (with_freed object w).objects other ≡ object_at w.objects other)
    × (listed_cell other g (with_freed object w).outside ≡ listed_cell other g w.outside)

-- `free` of the first byte of a live heap object frees it so, or ends its life, by the profile
abbrev pub FirstByteIsFreed : Type 0
FirstByteIsFreed =
    (line object : ℕ) (w : World) →
    (object_at w.objects object).state ≡ live →
    (object_at w.objects object).sort ≡ Heap →
    (free Two line (value.Ptr object (pos 0)) w ≡ go nothing (with_freed object w))
    × (free One line (value.Ptr object (pos 0)) w ≡ go nothing (without (λ other. other == object) w))

-- `free` of a freed object's pointer is told, and nothing else happens
abbrev pub FreedAgainIsTold : Type 0
FreedAgainIsTold =
    (profile : Profile) (line object : ℕ) (offset : ℤ) (w : World) →
    (object_at w.objects object).state ≡ freed →
    free profile line (value.Ptr object offset) w ≡ go nothing (told (stray_event line act.Free object offset 0) w)

-- pointers to live and freed objects alike are moved, ordered, compared and subtracted
abbrev pub KnownAreMoved : Type 0
KnownAreMoved =
    (away line : ℕ) (p : Value) (d : ℤ) (w : World) →
    is_dead w.objects p ≡ false →
    move away line p d w ≡ formed d w (λ e w1. moved away (moved_by (size_at w1.objects p) p e) w1)

abbrev pub KnownAreCompared : Type 0
KnownAreCompared =
    (r : Relation) (line : ℕ) (p q : Value) (w : World) →
    is_dead w.objects p ≡ false →
    is_dead w.objects q ≡ false →
    compared r line p q w ≡ go (truth (pointers_compare r p q)) w

abbrev pub KnownAreSubtracted : Type 0
KnownAreSubtracted =
    (size line : ℕ) (p q : Value) (w : World) →
    is_dead w.objects p ≡ false →
    is_dead w.objects q ≡ false →
    subtracted size line p q w ≡ go (value.Num (convert Long (difference size p q))) w
