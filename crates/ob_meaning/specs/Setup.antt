-- What stays the same in a run: the typed program, the rule of stray accesses, the settings, the cycle of manufactured values
-- and how the input ends. A run also has, below each step, the meaning of the calls and loop turns that may follow it: each of
-- them takes a step, so that with n steps left they go on to a meaning for fewer than n.
use Rattle.std.specs.Prelude.{ℕ, List, [], ◌∷◌, Option, slice_index_or}
use Rattle.ob_words.specs.declared.types.IntType.{IntType}
use Rattle.ob_words.specs.declared.types.IntType.TheVariants as type
use Rattle.ob_model.specs.declared.settings.Mode.{Mode}
use Rattle.ob_model.specs.declared.settings.Mode.TheVariants.{Oblivious, Boundless}
use Rattle.ob_model.specs.declared.settings.RunSettings.{RunSettings}
use Rattle.ob_model.specs.declared.values.LoadKind.{LoadKind}
use Rattle.ob_model.specs.declared.values.LoadKind.TheVariants.{Num, Ptr}
use Rattle.ob_model.specs.declared.values.Value.{Value}
use Rattle.ob_model.specs.Endings.{InputEnd}
use Rattle.ob_tree.specs.Types.{PlainType}
use Rattle.ob_tree.specs.Types.{PlainType as type_of}
use Rattle.ob_typed.specs.TypedTree.{TypedExpr, TypedFunction, TypedProgram, TypedStmt}
use Rattle.ob_typed.specs.TypedTree.{TypedExpr as expr, TypedStmt as stmt}
use Rattle.ob_meaning.specs.World.{Rule, vanish, kept, unlimited, World, Call, Run}

pub record Setup : Type 0 where
  pub program : TypedProgram
  pub rule : Rule
  pub settings : RunSettings
  pub cycle : List ℕ
  pub input_end : InputEnd

-- the rule of a mode, and the one where objects are unlimited
abbrev pub rule_in : Mode → ℕ → Rule
rule_in Oblivious cap = vanish
rule_in Boundless cap = kept cap

abbrev pub rule_of : RunSettings → Rule
rule_of settings = rule_in settings.mode settings.store

abbrev pub unlimited_rule_in : Mode → ℕ → Rule
unlimited_rule_in Oblivious cap = vanish
unlimited_rule_in Boundless cap = unlimited cap

abbrev pub unlimited_rule_of : RunSettings → Rule
unlimited_rule_of settings = unlimited_rule_in settings.mode settings.store

-- ---- types of accesses

-- what an access of a type moves; only numbers and pointers are moved
abbrev pub kind_of : PlainType → LoadKind
kind_of (type_of.Int t) = Num t
kind_of (type_of.Pointer t) = Ptr
kind_of type_of.Void = Ptr
kind_of (type_of.Array t n) = Ptr
kind_of (type_of.Struct n) = Ptr

-- the type of a number
abbrev pub number_type : PlainType → IntType
number_type (type_of.Int t) = t
number_type (type_of.Pointer t) = type.Int
number_type type_of.Void = type.Int
number_type (type_of.Array t n) = type.Int
number_type (type_of.Struct n) = type.Int

abbrev pub expression_type : TypedExpr → PlainType
expression_type (expr.Typed line ty what) = ty

-- ---- functions

abbrev pub no_function : TypedFunction
no_function =
    record { name = []; result = type_of.Void; params = 0; locals = []; names = []; nodes = 0; weight = 0; body = stmt.Empty }

abbrev pub function_at : Setup → ℕ → TypedFunction
function_at u f = slice_index_or u.program.functions f no_function

-- the number of the innermost call's first object, and its function
abbrev pub first_local : List Call → ℕ
first_local [] = 0
first_local (c ∷ cs) = c.first

abbrev pub running : Setup → List Call → TypedFunction
running u [] = no_function
running u (c ∷ cs) = function_at u c.function

-- ---- statements and loops

-- how a statement ends: it goes on to the next, leaves a loop, ends a loop's turn, or gives the function's value
pub data Flow : Type 0 where
  next : Flow
  broke : Flow
  continued : Flow
  gave : (v : Value) → Flow

-- a loop from its test on: the test and what comes after the body may be left out
pub record Loop : Type 0 where
  pub test : Option TypedExpr
  pub after : Option TypedExpr
  pub body : TypedStmt

pub record Below : Type 0 where
  pub call : ℕ → List Value → World → Run Value
  pub turns : Loop → World → Run Flow
