-- How runs end, and when two of them agree.
use Rattle.std.specs.Prelude.{◌≡◌, ℕ, pos, List, ◌++◌, unsigned_abs}
use Rattle.std.specs.Int.{int_rem_euclid}
use Rattle.ob_model.specs.declared.endings.Ending.{Ending}
use Rattle.ob_model.specs.declared.endings.Ending.TheVariants.{Ended, Steps, Divide, Stack, Descriptors, Far, Spent, ReadFault, WriteFault, NoMemory}
use Rattle.ob_model.specs.declared.strays.StrayEvent.{StrayEvent}

-- a run may also end where the meaning says no more: at the use of a dead object's pointer (C99 6.2.4), or at the store that
-- would bring more granules outside of objects than a bounded list keeps
pub data Finish : Type 0 where
  plain : (e : Ending) → Finish
  dead : (line : ℕ) → Finish
  dropped : (line : ℕ) → Finish

-- how the input ends: it has no more bytes, or the next read fails
pub data InputEnd : Type 0 where
  closed : InputEnd
  failed : InputEnd

-- what a run gives: its ending, the bytes written, the stray accesses in order, and the place in the cycle of manufactured
-- values
pub record Outcome : Type 0 where
  pub finish : Finish
  pub output : List ℕ
  pub events : List StrayEvent
  pub cycle_place : ℕ

-- the program's exit status for an ending
abbrev pub status_of : Ending → ℕ
status_of (Ended n) = unsigned_abs (int_rem_euclid n (pos 128))
status_of Steps = 136
status_of Divide = 137
status_of Stack = 138
status_of Descriptors = 139
status_of Far = 140
status_of Spent = 141
status_of ReadFault = 142
status_of WriteFault = 143
status_of NoMemory = 144

-- xs begins with ys
abbrev pub Begins : {A : Type 0} → List A → List A → Type 0
Begins {A} ys xs = (more : List A) × (xs ≡ ys ++ more)

-- the machine's run agrees with the meaning's, which tells only how the run begins once it ends as dead or dropped
abbrev pub AgreesTo : Finish → Outcome → Outcome → Type 0
AgreesTo (plain e) run meaning = run ≡ meaning
AgreesTo (dead line) run meaning = Begins meaning.output run.output × Begins meaning.events run.events
AgreesTo (dropped line) run meaning = Begins meaning.output run.output × Begins meaning.events run.events

abbrev pub Agrees : Outcome → Outcome → Type 0
Agrees run meaning = AgreesTo meaning.finish run meaning
