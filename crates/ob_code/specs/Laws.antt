-- Laws of the machine. The small images run on a stack of 256 bytes, with the cycle 0, 1, 2 of manufactured values and ten
-- steps, and mostly without input.
use Rattle.std.specs.Prelude.{◌≡◌, ℕ, ◌+◌, ◌*◌, ◌≤◌, ◌⊎◌, pos, negsuc, List, [], ◌∷◌, length, Some, None, codes}
use Rattle.ob_model.specs.declared.endings.Ending.{Ending}
use Rattle.ob_model.specs.declared.endings.Ending.TheVariants.{Ended, Steps, Divide, Stack, Descriptors, Far, Spent, ReadFault, WriteFault, NoMemory}
use Rattle.ob_model.specs.declared.settings.Mode.{Mode}
use Rattle.ob_model.specs.declared.settings.Mode.TheVariants.{Oblivious, Boundless}
use Rattle.ob_model.specs.declared.settings.Profile.{Profile}
use Rattle.ob_model.specs.declared.settings.Profile.TheVariants.{Two}
use Rattle.ob_model.specs.declared.settings.RunSettings.{RunSettings}
use Rattle.ob_model.specs.declared.strays.Act.TheVariants as act
use Rattle.ob_model.specs.declared.strays.StrayEvent.{StrayEvent}
use Rattle.ob_model.specs.declared.values.Shown.TheVariants as shown
use Rattle.ob_model.specs.declared.values.Value.{Value}
use Rattle.ob_model.specs.declared.values.Value.TheVariants as value
use Rattle.ob_model.specs.Accesses.{stray_event}
use Rattle.ob_model.specs.Descriptors.{IsInterned}
use Rattle.ob_model.specs.Endings.{InputEnd, closed, failed, plain}
use Rattle.ob_code.specs.declared.image.Image.{Image}
use Rattle.ob_code.specs.declared.image.NameRow.{NameRow}
use Rattle.ob_code.specs.Examples as examples
use Rattle.ob_code.specs.Examples.{settings_of}
use Rattle.ob_code.specs.Start.{flat_final, flat_instructions, laid_out, run_from, outcome_of}
use Rattle.ob_code.specs.Shown.{flat_shown}
use Rattle.ob_code.specs.Standing.{IsDead, Stands}
use Rattle.ob_code.specs.State.{Final, Space}

abbrev pub run_on : Image → RunSettings → List ℕ → InputEnd → Final
run_on image settings input input_end =
    run_from (record { image = image; settings = settings; cycle = 0 ∷ 1 ∷ 2 ∷ []; input_end = input_end }) (laid_out 256 image.statics image.pointers settings) 0 input 10

-- without input, with room for one out-of-bounds pointer and 32 bytes of heap
abbrev pub small_run : Image → Final
small_run image = run_on image (settings_of Oblivious 1 32) [] closed

-- the same where freed objects stay known
abbrev pub known_run : Mode → Image → Final
known_run mode image = run_on image (record (settings_of mode 1 32) { profile = Two }) [] closed

-- the run ends so, after so many instructions, with this output, these stray accesses and this place in the cycle
abbrev pub Gives : Final → Ending → ℕ → List ℕ → List StrayEvent → ℕ → Type 0
Gives f ending count output events place =
    (outcome_of f ≡ record { finish = plain ending; output = output; events = events; cycle_place = place }) × (f.state.instructions ≡ count)

-- the same where nothing is written and nothing goes astray
abbrev pub Ends : Final → Ending → ℕ → Type 0
Ends f ending count = Gives f ending count [] [] 0

-- ---- steps, jumps and calls

abbrev pub HelloIsWritten : Type 0
HelloIsWritten = Gives (small_run examples.hello) (Ended (pos 3)) 4 (72 ∷ []) [] 0

abbrev pub ReturnPlaceIsCodeLength : Type 0
ReturnPlaceIsCodeLength = Gives (small_run examples.return_place) (Ended (pos 0)) 3 (3 ∷ []) [] 0

abbrev pub EndlessIsSpent : Type 0
EndlessIsSpent = Ends (small_run examples.endless) Spent 22

-- `main` takes the first of ten steps, and the tenth tick finds none
abbrev pub TicksTakeSteps : Type 0
TicksTakeSteps = Ends (small_run examples.ticking) Steps 19

abbrev pub JumpsGoByZero : Type 0
JumpsGoByZero = Ends (small_run examples.jumping) (Ended (pos 7)) 8

abbrev pub ArgumentsAndResultArrive : Type 0
ArgumentsAndResultArrive = Ends (small_run examples.adding) (Ended (pos 42)) 6

abbrev pub CallReturnsAfterItself : Type 0
CallReturnsAfterItself = Ends (small_run examples.linking) (Ended (pos 1)) 3

abbrev pub StackHoldsTwoHalves : Type 0
StackHoldsTwoHalves = Ends (small_run examples.too_deep) Stack 2

-- ---- numbers and input

abbrev pub CharIsSigned : Type 0
CharIsSigned = Ends (small_run examples.converting) (Ended (negsuc 55)) 3 × Ends (small_run examples.comparing) (Ended (pos 1)) 5

abbrev pub DivisionByZeroEnds : Type 0
DivisionByZeroEnds = Ends (small_run examples.dividing) Divide 3

abbrev pub DisplacementsAreExact : Type 0
DisplacementsAreExact = Ends (small_run examples.sliding) (Ended (pos 3)) 5 × Ends (small_run examples.sliding_far) Far 2

abbrev pub InputEnds : Type 0
InputEnds =
    Ends (run_on examples.reading (settings_of Oblivious 1 32) (65 ∷ []) closed) (Ended (negsuc 0)) 3
    × Ends (run_on examples.reading (settings_of Oblivious 1 32) (65 ∷ []) failed) ReadFault 2

abbrev pub InputIsBytes : Type 0
InputIsBytes = Ends (run_on examples.reading (settings_of Oblivious 1 32) (0 ∷ 321 ∷ []) closed) (Ended (pos 65)) 3

-- ---- pointers

abbrev pub FarPointerHasSlot : Type 0
FarPointerHasSlot =
    Gives (small_run examples.far_pointer) (Ended (pos 0)) 8 (1 ∷ []) [] 0
    × Ends (run_on examples.far_pointer (settings_of Oblivious 0 32) [] closed) Descriptors 3

abbrev pub PointerComesBack : Type 0
PointerComesBack = Ends (small_run examples.there_and_back) (Ended (pos 1)) 7

abbrev pub NullIsFirst : Type 0
NullIsFirst = Ends (small_run examples.ordering) (Ended (pos 1)) 4

-- two objects are in order of their numbers, and no elements lie between them
abbrev pub ObjectsAreInOrder : Type 0
ObjectsAreInOrder = Ends (small_run examples.two_objects) (Ended (pos 1)) 8

abbrev pub StaticsHoldPointers : Type 0
StaticsHoldPointers = Ends (small_run examples.holding) (Ended (pos 4)) 8

-- ---- objects

abbrev pub HeapStartsAtItsPlace : Type 0
HeapStartsAtItsPlace =
    Gives (small_run examples.first_block) (Ended (pos 0)) 7 (2 ∷ []) [] 0
    × Gives (run_on examples.first_block (settings_of Oblivious 1 0) [] closed) (Ended (pos 0)) 7 (0 ∷ []) [] 0

abbrev pub FreedPlaceIsReused : Type 0
FreedPlaceIsReused = Gives (small_run examples.reused_block) (Ended (pos 0)) 8 (1 ∷ []) [] 0

abbrev pub ArrayHasItsProduct : Type 0
ArrayHasItsProduct = Gives (small_run examples.array) (Ended (pos 0)) 7 [] (stray_event 7 act.Store 1 (pos 15) 1 ∷ []) 0

abbrev pub OtherFreesAreTold : Type 0
OtherFreesAreTold = Gives (small_run examples.freeing_static) (Ended (pos 0)) 4 [] (stray_event 9 act.Free 1 (pos 0) 0 ∷ []) 0

abbrev pub InnerFreeIsTold : Type 0
InnerFreeIsTold = Gives (small_run examples.freeing_inside) (Ended (pos 0)) 7 [] (stray_event 9 act.Free 1 (pos 1) 0 ∷ []) 0

-- the object's number is that of its ordinal
abbrev pub LocalIsStoredAndWiped : Type 0
LocalIsStoredAndWiped = Gives (small_run examples.with_local) (Ended (pos 77)) 11 [] (stray_event 4 act.Store 2 (pos 8) 1 ∷ []) 0

abbrev pub StoreVanishesOrIsKept : Type 0
StoreVanishesOrIsKept =
    Gives (small_run examples.past_the_end) (Ended (pos 0)) 8 (0 ∷ []) (stray_event 1 act.Store 1 (pos 8) 1 ∷ stray_event 2 act.Load 1 (pos 8) 1 ∷ []) 1
    × Gives (run_on examples.past_the_end (settings_of Boundless 1 32) [] closed) (Ended (pos 0)) 8 (7 ∷ []) (stray_event 1 act.Store 1 (pos 8) 1 ∷ stray_event 2 act.Load 1 (pos 8) 1 ∷ []) 0

-- ---- stray accesses and death

-- of three granules the bounded list, which keeps two here, has dropped the one that was not used last
abbrev pub LeastRecentlyUsedLeaves : Type 0
LeastRecentlyUsedLeaves =
    Gives (run_on examples.recency (settings_of Boundless 1 32) [] closed) (Ended (pos 0)) 18 (7 ∷ 0 ∷ [])
    (stray_event 1 act.Store 1 (pos 8) 1 ∷ stray_event 2 act.Store 1 (pos 16) 1 ∷ stray_event 3 act.Load 1 (pos 8) 1
    ∷ stray_event 4 act.Store 1 (pos 24) 1 ∷ stray_event 5 act.Load 1 (pos 8) 1 ∷ stray_event 6 act.Load 1 (pos 16) 1 ∷ []) 1

-- an ill-aligned access vanishes in both modes, and so does one through null, which is told with object 0
abbrev pub IllAlignedVanishes : Mode → Type 0
IllAlignedVanishes mode =
    Gives (run_on examples.ill_aligned (settings_of mode 1 32) [] closed) (Ended (pos 0)) 12 (3 ∷ [])
    (stray_event 1 act.Store 1 (pos 2) 4 ∷ stray_event 2 act.Load 1 (pos 2) 4 ∷ stray_event 3 act.Load 0 (pos 2) 4
    ∷ stray_event 4 act.Load 0 (pos 2) 1 ∷ []) 0

abbrev pub VanishesInBothModes : Type 0
VanishesInBothModes = IllAlignedVanishes Oblivious × IllAlignedVanishes Boundless

abbrev pub PointerIsStoredWhole : Type 0
PointerIsStoredWhole = Gives (small_run examples.pointer_in_granule) (Ended (pos 0)) 16 (1 ∷ 1 ∷ 7 ∷ []) [] 0

abbrev pub FreedSlotIsReused : Type 0
FreedSlotIsReused = Ends (small_run examples.reused_slot) (Ended (pos 1)) 10

-- a dead object's granules are none of the next object's at its place
abbrev pub DeadGranulesAreForgotten : Type 0
DeadGranulesAreForgotten =
    Gives (run_on examples.forgotten (settings_of Boundless 1 32) [] closed) (Ended (pos 0)) 10 (0 ∷ [])
    (stray_event 1 act.Store 1 (pos 8) 1 ∷ stray_event 2 act.Load 2 (pos 8) 1 ∷ []) 1

-- ---- freed objects, under the first profile and under the second

-- a freed object's pointer names nothing where the object has died; where it stays known, its accesses go astray at the object
abbrev pub FreedAccessIsStray : Type 0
FreedAccessIsStray =
    Gives (small_run examples.using_freed) (Ended (pos 0)) 9 (0 ∷ []) (stray_event 6 act.Store 0 (pos 1) 1 ∷ stray_event 7 act.Load 0 (pos 1) 1 ∷ []) 1
    × Gives (known_run Oblivious examples.using_freed) (Ended (pos 0)) 9 (0 ∷ []) (stray_event 6 act.Store 1 (pos 1) 1 ∷ stray_event 7 act.Load 1 (pos 1) 1 ∷ []) 1

-- its block is given again where it has died, and isn't where it stays known: then a heap of one block is full
abbrev pub FreedBlockStays : Type 0
FreedBlockStays =
    Gives (small_run examples.allocating_again) (Ended (pos 0)) 8 (0 ∷ []) [] 0
    × Gives (known_run Oblivious examples.allocating_again) (Ended (pos 0)) 8 (1 ∷ []) [] 0

-- freeing it again makes an event and does nothing else, and its pointer may leave the object and come back
abbrev pub FreedPointerMoves : Type 0
FreedPointerMoves =
    Gives (known_run Oblivious examples.freeing_again) (Ended (pos 2)) 12 [] (stray_event 8 act.Free 1 (pos 0) 0 ∷ stray_event 9 act.Load 1 (pos 2) 1 ∷ []) 1

-- what was stored outside of it is forgotten, and its accesses there vanish in both modes
abbrev pub FreedGranulesLeave : Type 0
FreedGranulesLeave =
    Gives (known_run Boundless examples.loading_freed_outside) (Ended (pos 0)) 9 (0 ∷ [])
    (stray_event 1 act.Store 1 (pos 100) 1 ∷ stray_event 2 act.Load 1 (pos 100) 1 ∷ []) 1

-- ---- what shows

-- at the end of its steps a run shows its static numbers and pointers, its innermost call's function, and that call's numbers
-- and pointers, whether they have a frame word or bytes; an array doesn't show
abbrev pub VariablesShow : Type 0
VariablesShow =
    flat_shown examples.named (small_run examples.named).state.space
    ≡ record {
      statics = record { name = codes "g"; value = shown.Num (negsuc 6) } ∷ record { name = codes "q"; value = shown.Null } ∷ [];
      function = Some 0;
      variables =
          record { name = codes "x"; value = shown.Num (pos 41) } ∷ record { name = codes "y"; value = shown.Num (pos 0) }
          ∷ record { name = codes "p"; value = shown.Pointer } ∷ [];
    }

-- once `main` has returned, no call is in progress
abbrev pub EndedRunShowsStatics : Type 0
EndedRunShowsStatics = flat_shown examples.hello (small_run examples.hello).state.space ≡ record { statics = []; function = None; variables = [] }

-- ---- words and values

-- a pointer to an object that was made and is neither live nor freed
abbrev pub IsDeadPointer : Space → Value → Type 0
IsDeadPointer s (value.Num n) = ⊥
IsDeadPointer s value.Null = ⊥
IsDeadPointer s (value.Ptr object offset) = IsDead s object

-- where no pair stands in two slots, a value has one word at most, unless it is a dead object's pointer
abbrev pub ValuesHaveOneWord : Type 0
ValuesHaveOneWord =
    (s : Space) (w x : ℕ) (v : Value) → IsInterned s.slots → Stands s w v → Stands s x v → (w ≡ x) ⊎ IsDeadPointer s v

-- ---- every run

-- how a run may end: never by a fault of a write or for want of memory, and by one of a read only where its input ends in one
abbrev pub MayEnd : InputEnd → Ending → Type 0
MayEnd input_end WriteFault = ⊥
MayEnd input_end NoMemory = ⊥
MayEnd input_end ReadFault = input_end ≡ failed
MayEnd input_end _ = Unit {0}

abbrev pub RunsEndSo : Type 0
RunsEndSo =
    (image : Image) (settings : RunSettings) (cycle : List ℕ) (place : ℕ) (input : List ℕ) (input_end : InputEnd) (steps : ℕ) →
    MayEnd input_end (flat_final image settings cycle place input input_end steps).ending

-- a run reads neither the profile nor the names of its image: the profile is that of the settings
abbrev pub NamesAreUnread : Type 0
NamesAreUnread =
    (profile : Profile) (names : List NameRow) (image : Image) (settings : RunSettings) (cycle : List ℕ) (place : ℕ) (input : List ℕ)
    (input_end : InputEnd) (steps : ℕ) →
    flat_final (record image { profile = profile; names = names }) settings cycle place input input_end steps
    ≡ flat_final image settings cycle place input input_end steps

-- every run begins no more instructions than its bound
abbrev pub RunsAreBounded : Type 0
RunsAreBounded =
    (image : Image) (settings : RunSettings) (cycle : List ℕ) (place : ℕ) (input : List ℕ) (input_end : InputEnd) (steps : ℕ) →
    flat_instructions image settings cycle place input input_end steps ≤ (length image.code + 1) * (steps + 1)

-- and exactly its bound where it ends for that
abbrev pub SpentRunsAreExact : Type 0
SpentRunsAreExact =
    (image : Image) (settings : RunSettings) (cycle : List ℕ) (place : ℕ) (input : List ℕ) (input_end : InputEnd) (steps : ℕ) →
    (flat_final image settings cycle place input input_end steps).ending ≡ Spent →
    flat_instructions image settings cycle place input input_end steps ≡ (length image.code + 1) * (steps + 1)
