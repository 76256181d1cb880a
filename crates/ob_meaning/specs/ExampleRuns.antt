-- Laws of the meaning. The example programs run with the cycle 0, 1, 2 of manufactured values from its first place on, for
-- sixty steps, with room for one out-of-bounds pointer and 32 bytes of heap, under the first profile unless another is given,
-- and without input unless it is given.
use Rattle.std.specs.Prelude.{◌≡◌, ℕ, ℤ, pos, negsuc, List, [], ◌∷◌, Some}
use Rattle.ob_model.specs.declared.endings.Ending.TheVariants.{Ended, Steps, Divide, Stack, Descriptors, Far, ReadFault}
use Rattle.ob_model.specs.declared.settings.Mode.TheVariants.{Oblivious}
use Rattle.ob_model.specs.declared.settings.Profile.{Profile}
use Rattle.ob_model.specs.declared.settings.Profile.TheVariants.{One}
use Rattle.ob_model.specs.declared.settings.RunSettings.{RunSettings}
use Rattle.ob_model.specs.declared.strays.Act.{Act}
use Rattle.ob_model.specs.declared.strays.Act.TheVariants as act
use Rattle.ob_model.specs.declared.strays.StrayEvent.{StrayEvent}
use Rattle.ob_model.specs.Accesses.{stray_event}
use Rattle.ob_model.specs.Endings.{Finish, InputEnd, closed, failed, Outcome, plain, dead, dropped}
use Rattle.ob_typed.specs.TypedTree.{TypedProgram}
use Rattle.ob_meaning.specs.Examples as examples
use Rattle.ob_meaning.specs.Runs.{meaning, meaning_end}
use Rattle.ob_meaning.specs.World.{Rule, vanish, kept, unlimited, World}

abbrev pub settings_in : Profile → RunSettings
settings_in profile = record { mode = Oblivious; store = 1; away = 1; heap = 32; profile = profile }

abbrev pub example_settings : RunSettings
example_settings = settings_in One

abbrev pub run_on : Rule → List ℕ → InputEnd → TypedProgram → Outcome
run_on rule input input_end program =
    meaning program rule example_settings (0 ∷ 1 ∷ 2 ∷ []) 0 input input_end 60

-- the same without input, under a profile
abbrev pub run_in : Profile → Rule → TypedProgram → Outcome
run_in profile rule program =
    meaning program rule (settings_in profile) (0 ∷ 1 ∷ 2 ∷ []) 0 [] closed 60

abbrev pub run_under : Rule → TypedProgram → Outcome
run_under rule program = run_on rule [] closed program

-- the run ends so, with this output, these stray accesses and this place in the cycle
abbrev pub Gives : Outcome → Finish → List ℕ → List StrayEvent → ℕ → Type 0
Gives o finish output events place =
    o ≡ record { finish = finish; output = output; events = events; cycle_place = place }

-- the program gives 0
abbrev pub Prints : Outcome → List ℕ → List StrayEvent → ℕ → Type 0
Prints o output events place = Gives o (plain (Ended (pos 0))) output events place

-- on line 1
abbrev pub stray_load : ℕ → ℕ → ℕ → StrayEvent
stray_load object offset size = stray_event 1 act.Load object (pos offset) size

abbrev pub stray_store : ℕ → ℕ → ℕ → StrayEvent
stray_store object offset size = stray_event 1 act.Store object (pos offset) size

-- of four bytes of the first object
abbrev pub stray_at : Act → ℤ → StrayEvent
stray_at what offset = stray_event 1 what 1 offset 4

-- each read past the end takes the next manufactured value
abbrev pub OverrunReads : Type 0
OverrunReads =
    Prints (run_under vanish examples.overrun_read) (48 ∷ 49 ∷ 50 ∷ 48 ∷ 49 ∷ [])
    (stray_load 1 5 1 ∷ stray_load 1 5 1 ∷ stray_load 1 5 1 ∷ stray_load 1 5 1 ∷ stray_load 1 5 1 ∷ []) 2

-- a stray store is not seen again, or it is kept outside of the object
abbrev pub StrayStoreVanishes : Type 0
StrayStoreVanishes = Prints (run_under vanish examples.stray_store) (48 ∷ []) (stray_store 1 100 1 ∷ stray_load 1 100 1 ∷ []) 1

abbrev pub StrayStoreIsKept : Rule → Type 0
StrayStoreIsKept rule = Prints (run_under rule examples.stray_store) (55 ∷ []) (stray_store 1 100 1 ∷ stray_load 1 100 1 ∷ []) 0

-- a store past the end of one object reaches no other
abbrev pub NeighbourIsUntouched : Rule → Type 0
NeighbourIsUntouched rule = Prints (run_under rule examples.neighbours) (65 ∷ 66 ∷ []) (stray_store 1 16 1 ∷ []) 0

abbrev pub NumberAtNull : Rule → Type 0
NumberAtNull rule = Prints (run_under rule examples.through_null) (48 ∷ []) (stray_store 0 0 4 ∷ stray_load 0 0 4 ∷ []) 1

abbrev pub IllAlignedVanishes : Rule → Type 0
IllAlignedVanishes rule = Prints (run_under rule examples.ill_aligned) (48 ∷ []) (stray_store 1 1 4 ∷ []) 0

-- the last granule of an object reaches past its size
abbrev pub LastGranule : Rule → ℕ → ℕ → Type 0
LastGranule rule shown place = Prints (run_under rule examples.last_granule) (shown ∷ []) (stray_store 2 4 4 ∷ stray_load 2 4 4 ∷ []) place

-- a number that is written over a pointer leaves null
abbrev pub PointerIsLost : Type 0
PointerIsLost = Prints (run_under vanish examples.lost_pointer) (110 ∷ []) [] 0

-- ---- boundless objects

abbrev pub DropChangesAnswer : Type 0
DropChangesAnswer =
    Prints (run_under (kept 1) examples.dropping) (48 ∷ []) (stray_store 1 40 4 ∷ stray_store 1 80 4 ∷ stray_load 1 40 4 ∷ []) 1

abbrev pub UnlimitedEndsAtDrop : Type 0
UnlimitedEndsAtDrop =
    Gives (run_under (unlimited 1) examples.dropping) (dropped 1) [] (stray_store 1 40 4 ∷ stray_store 1 80 4 ∷ []) 0

abbrev pub end_under : Rule → TypedProgram → World
end_under rule program = meaning_end program rule example_settings (0 ∷ 1 ∷ 2 ∷ []) 0 [] closed 60

abbrev pub FirstDropIsTold : Type 0
FirstDropIsTold = (end_under (kept 1) examples.dropping).first_drop ≡ Some 2

abbrev pub RecentUseKeeps : Type 0
RecentUseKeeps =
    Prints (run_under (kept 2) examples.recent_use) (53 ∷ 48 ∷ [])
    (stray_store 1 40 4 ∷ stray_store 1 80 4 ∷ stray_load 1 40 4 ∷ stray_store 1 120 4 ∷ stray_load 1 40 4 ∷ stray_load 1 80 4 ∷ []) 1

-- granules before an object are like those behind it
abbrev pub GranulesBefore : Rule → Type 0
GranulesBefore rule =
    Prints (run_under rule examples.negative) (53 ∷ 55 ∷ [])
    (stray_at act.Store (negsuc 3) ∷ stray_at act.Store (negsuc 15) ∷ stray_at act.Load (negsuc 3) ∷ stray_at act.Load (negsuc 15) ∷ []) 0

-- a load that meets an unset byte takes a manufactured value, though others are set; once all are set it gives them
abbrev pub UnsetByteIsMade : Rule → Type 0
UnsetByteIsMade rule =
    Prints (run_under rule examples.partly_set) (48 ∷ 49 ∷ 49 ∷ [])
    (stray_store 1 8 1 ∷ stray_load 1 8 4 ∷ stray_load 1 8 1 ∷ stray_store 1 9 1 ∷ stray_store 1 10 1 ∷ stray_store 1 11 1 ∷ stray_load 1 8 4 ∷ []) 1

-- a pointer is kept outside, until a number is stored over it; the number's other bytes are then 0 and set
abbrev pub PointerIsKeptOutside : Rule → Type 0
PointerIsKeptOutside rule =
    Prints (run_under rule examples.pointer_outside) (49 ∷ 49 ∷ 57 ∷ [])
    (stray_store 1 16 8 ∷ stray_load 1 16 8 ∷ stray_store 1 16 4 ∷ stray_load 1 16 8 ∷ stray_load 1 16 4 ∷ []) 0

-- ---- pointers

-- a pointer that left its object comes back
abbrev pub PointerComesBack : Type 0
PointerComesBack = Prints (run_under vanish examples.there_and_back) (90 ∷ []) [] 0

abbrev pub PointersAreEqualByObject : Type 0
PointersAreEqualByObject = Prints (run_under vanish examples.equality) (49 ∷ 48 ∷ []) [] 0

abbrev pub PointersAreCounted : Type 0
PointersAreCounted = Gives (run_under vanish examples.many_pointers) (plain Descriptors) (65 ∷ []) [] 0

abbrev pub OffsetsAreBounded : Type 0
OffsetsAreBounded = Gives (run_under vanish examples.far_away) (plain Far) [] [] 0

-- ---- the heap

abbrev pub FreedPlaceIsTaken : Type 0
FreedPlaceIsTaken =
    Prints (run_under vanish examples.first_fit) (66 ∷ 67 ∷ []) [] 0
    × ((end_under vanish examples.first_fit).heap
    ≡ record { object = 6; place = 0; length = 16 } ∷ record { object = 5; place = 16; length = 16 } ∷ [])

abbrev pub HeapIsFull : Type 0
HeapIsFull = Prints (run_under vanish examples.full_heap) (49 ∷ 48 ∷ []) [] 0

abbrev pub UseAfterFreeEnds : Rule → Type 0
UseAfterFreeEnds rule = Gives (run_under rule examples.use_after_free) (dead 6) (65 ∷ []) [] 0

abbrev pub OtherFreesAreTold : Type 0
OtherFreesAreTold =
    Prints (run_under vanish examples.stray_free) (65 ∷ []) (stray_event 1 act.Free 1 (pos 0) 0 ∷ []) 0

-- ---- control

abbrev pub DivisionByZeroEnds : Type 0
DivisionByZeroEnds = Gives (run_under vanish examples.division) (plain Divide) (65 ∷ []) [] 0

abbrev pub StepsRunOut : Type 0
StepsRunOut = Gives (run_under vanish examples.endless) (plain Steps) [] [] 0

abbrev pub StackIsBounded : Type 0
StackIsBounded = Gives (run_under vanish examples.big_object) (plain Stack) [] [] 0

abbrev pub InputEnds : Type 0
InputEnds =
    Prints (run_on vanish (97 ∷ 98 ∷ []) closed examples.echo) (97 ∷ 98 ∷ []) [] 0
    × Gives (run_on vanish (97 ∷ 98 ∷ []) failed examples.echo) (plain ReadFault) (97 ∷ 98 ∷ []) [] 0
