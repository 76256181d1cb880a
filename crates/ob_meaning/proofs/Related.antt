-- Relations between acts of two runs, under one rule or two, that all parts of a run keep. What holds of loads, stores, moves and
-- the other acts on worlds, and is kept by going on, by steps and by calls, holds of expressions, statements and calls.
use Rattle.std.proofs.Common.{ℕ, ◌+◌, ℤ, List, nat_lt}
use Rattle.ob_model.specs.declared.endings.Ending.{Ending}
use Rattle.ob_model.specs.declared.endings.Ending.TheVariants.{Ended, Steps, Divide, Stack, Descriptors, Far, Spent, ReadFault, WriteFault, NoMemory}
use Rattle.ob_model.specs.declared.values.LoadKind.{LoadKind}
use Rattle.ob_model.specs.declared.values.Value.{Value}
use Rattle.ob_model.specs.Endings.{plain}
use Rattle.ob_model.specs.Limits.{stack_bytes}
use Rattle.ob_words.specs.declared.types.Relation.{Relation}
use Rattle.ob_tree.specs.Types.{PlainType}
use Rattle.ob_meaning.specs.Accesses.{load, store}
use Rattle.ob_meaning.specs.Calls.{allowance_of, allowances, entered, left}
use Rattle.ob_meaning.specs.Expressions.{at_object, choose}
use Rattle.ob_meaning.specs.Heap.{allocated, free, read_byte, write_byte}
use Rattle.ob_meaning.specs.Initialisers.{cleared, local_type}
use Rattle.ob_meaning.specs.Pointers.{compared, move, subtracted}
use Rattle.ob_meaning.specs.Setup.{Setup, first_local}
use Rattle.ob_meaning.specs.World.{Rule, World, Run, stop, go, bind, step}

-- a setup under another rule
abbrev pub under : Rule → Setup → Setup
under rule u = record u { rule = rule }

-- the endings that a program's own acts have
abbrev pub IsOwnEnding : Ending → Type 0
IsOwnEnding (Ended n) = Unit {0}
IsOwnEnding Steps = Unit {0}
IsOwnEnding Divide = Unit {0}
IsOwnEnding Stack = Unit {0}
IsOwnEnding Descriptors = Unit {0}
IsOwnEnding Far = Unit {0}
IsOwnEnding Spent = ⊥
IsOwnEnding ReadFault = ⊥
IsOwnEnding WriteFault = ⊥
IsOwnEnding NoMemory = ⊥

-- `Acts` relates acts, and `Fewer` relates those that follow a step
pub record KeptByActs (u : Setup) (r s : Rule) : Type 1 where
  pub Acts : {A : Type 0} → (World → Run A) → (World → Run A) → Type 0
  pub Fewer : {A : Type 0} → (World → Run A) → (World → Run A) → Type 0
  pub fewer : {A : Type 0} (f g : World → Run A) → Acts f g → Fewer f g
  -- how acts follow one another
  pub goes : {A : Type 0} (a : A) → Acts (go a) (go a)
  pub stops : {A : Type 0} (e : Ending) → IsOwnEnding e → Acts {A = A} (stop (plain e)) (stop (plain e))
  pub binds : {A B : Type 0} (f g : World → Run A) (k l : A → World → Run B) → Acts f g → ((a : A) → Acts (k a) (l a)) → Acts (λ w. bind (f w) k) (λ w. bind (g w) l)
  pub fewer_binds : {A B : Type 0} (f g : World → Run A) (k l : A → World → Run B) → Fewer f g → ((a : A) → Fewer (k a) (l a)) → Fewer (λ w. bind (f w) k) (λ w. bind (g w) l)
  pub steps : {A : Type 0} (f g : World → Run A) → Fewer f g → Acts (λ w. step w f) (λ w. step w g)
  -- acts on the world
  pub loads : (kind : LoadKind) (line : ℕ) (p : Value) (d : ℤ) → Acts (load r u.cycle kind line p d) (load s u.cycle kind line p d)
  pub stores : (kind : LoadKind) (line : ℕ) (p : Value) (d : ℤ) (v : Value) → Acts (store r kind line p d v) (store s kind line p d v)
  pub moves : (line : ℕ) (p : Value) (d : ℤ) → Acts (move u.settings.away line p d) (move u.settings.away line p d)
  pub compares : (relation : Relation) (line : ℕ) (p q : Value) → Acts (compared relation line p q) (compared relation line p q)
  pub subtracts : (size line : ℕ) (p q : Value) → Acts (subtracted size line p q) (subtracted size line p q)
  pub allocates : (n : ℕ) → Acts (allocated u.settings.heap n) (allocated u.settings.heap n)
  pub frees : (line : ℕ) (p : Value) → Acts (free u.settings.profile line p) (free u.settings.profile line p)
  pub reads : Acts (λ w. read_byte u.input_end w.input w) (λ w. read_byte u.input_end w.input w)
  pub writes : (v : Value) → Acts (write_byte v) (write_byte v)
  -- what depends on the calls in progress
  pub locals : (i : ℕ) → Acts (λ w. go (at_object (first_local w.calls + i)) w) (λ w. go (at_object (first_local w.calls + i)) w)
  pub clears : {A : Type 0} (i : ℕ) (f g : PlainType → ℕ → World → Run A) → ((t : PlainType) (object : ℕ) → Acts (f t object) (g t object)) → Acts (λ w. f (local_type u w i) (first_local w.calls + i) (cleared (local_type u w i) (first_local w.calls + i) w)) (λ w. g (local_type u w i) (first_local w.calls + i) (cleared (local_type u w i) (first_local w.calls + i) w))
  pub fits : {A : Type 0} (function : ℕ) (f g : World → Run A) → Acts f g → Acts (λ w. choose (nat_lt stack_bytes (allowance_of u function + allowances u w.calls)) (stop (plain Stack)) f w) (λ w. choose (nat_lt stack_bytes (allowance_of u function + allowances u w.calls)) (stop (plain Stack)) g w)
  pub enters : {A : Type 0} (function : ℕ) (arguments : List Value) (f g : World → Run A) → Acts f g → Acts (λ w. f (entered u function arguments w)) (λ w. g (entered u function arguments w))
  pub leaves : (v : Value) → Acts (λ w. go v (left u w)) (λ w. go v (left u w))
