-- How an instruction stands in an image: one byte for the operation, one for a type, two of 0, three words and a source line
-- of four bytes, and a number of eight. What a form doesn't name is 0. All numbers have their lowest byte first.
use Rattle.std.specs.Prelude.{ℕ, ◌-◌, ◌≤◌, FitsSigned, List, [], ◌∷◌, ◌++◌, get_or}
use Rattle.std.specs.Int.{cast_unsigned, w64}
use Rattle.ob_words.specs.declared.types.IntType.{IntType}
use Rattle.ob_words.specs.declared.types.IntType.TheVariants.{Char, SChar, UChar, Short, UShort, Int, UInt, Long, ULong, LLong, ULLong}
use Rattle.ob_words.specs.declared.types.BinOp.{BinOp}
use Rattle.ob_words.specs.declared.types.BinOp.TheVariants.{Add, Sub, Mul, Div, Rem, And, Or, Xor, Shl, Shr}
use Rattle.ob_words.specs.declared.types.Relation.{Relation}
use Rattle.ob_words.specs.declared.types.Relation.TheVariants.{Lt, Gt, Le, Ge, Eq, Ne}
use Rattle.ob_words.specs.Fields.{low_bytes}
use Rattle.ob_model.specs.declared.values.LoadKind.{LoadKind}
use Rattle.ob_model.specs.declared.values.LoadKind.TheVariants.{Num, Ptr}
use Rattle.ob_code.specs.declared.instructions.Instr.{Instr}
use Rattle.ob_code.specs.declared.instructions.Instr.TheVariants.{Tick, Set, Move, Convert, Binary, Compare, Jump, JumpZero, JumpNonzero, Call, Return, Static, Local, Wipe, Load, Store, Slide, SlideBy, Shift, Same, Order, Difference, GetChar, PutChar, Malloc, Calloc, Free, Exit}
use Rattle.ob_image.specs.declared.layout.Fields.{Fields}
use Rattle.ob_image.specs.declared.layout.Limits.{Limits}

-- ---- the numbers of types, operators and relations: their places in the order of their declarations

abbrev pub type_number : IntType → ℕ
type_number Char = 0
type_number SChar = 1
type_number UChar = 2
type_number Short = 3
type_number UShort = 4
type_number Int = 5
type_number UInt = 6
type_number Long = 7
type_number ULong = 8
type_number LLong = 9
type_number ULLong = 10

-- a pointer comes after the integer types
abbrev pub kind_number : LoadKind → ℕ
kind_number (Num kind) = type_number kind
kind_number Ptr = 11

abbrev pub operator_number : BinOp → ℕ
operator_number Add = 0
operator_number Sub = 1
operator_number Mul = 2
operator_number Div = 3
operator_number Rem = 4
operator_number And = 5
operator_number Or = 6
operator_number Xor = 7
operator_number Shl = 8
operator_number Shr = 9

abbrev pub relation_number : Relation → ℕ
relation_number Lt = 0
relation_number Gt = 1
relation_number Le = 2
relation_number Ge = 3
relation_number Eq = 4
relation_number Ne = 5

-- ---- the fields of each form, by its operation

abbrev pub fields : ℕ → ℕ → ℕ → ℕ → ℕ → ℕ → ℕ → Fields
fields op kind line a b c imm = record { op = op; kind = kind; line = line; a = a; b = b; c = c; imm = imm }

abbrev pub fields_of : Instr → Fields
fields_of Tick = fields 1 0 0 0 0 0 0
fields_of (Set a imm) = fields 2 0 0 a 0 0 (cast_unsigned w64 imm)
fields_of (Move a b) = fields 3 0 0 a b 0 0
fields_of (Convert kind a b) = fields 4 (type_number kind) 0 a b 0 0
fields_of (Binary kind operator a b c) = fields 5 (type_number kind) 0 a b c (operator_number operator)
fields_of (Compare kind relation a b c) = fields 6 (type_number kind) 0 a b c (relation_number relation)
fields_of (Jump imm) = fields 7 0 0 0 0 0 (cast_unsigned w64 imm)
fields_of (JumpZero b imm) = fields 8 0 0 0 b 0 (cast_unsigned w64 imm)
fields_of (JumpNonzero b imm) = fields 9 0 0 0 b 0 (cast_unsigned w64 imm)
fields_of (Call a b imm) = fields 10 0 0 a b 0 (cast_unsigned w64 imm)
fields_of (Return b) = fields 11 0 0 0 b 0 0
fields_of (Static a imm) = fields 12 0 0 a 0 0 (cast_unsigned w64 imm)
fields_of (Local a imm) = fields 13 0 0 a 0 0 (cast_unsigned w64 imm)
fields_of (Wipe imm) = fields 14 0 0 0 0 0 (cast_unsigned w64 imm)
fields_of (Load kind line a b c) = fields 15 (kind_number kind) line a b c 0
fields_of (Store kind line a b c) = fields 16 (kind_number kind) line a b c 0
fields_of (Slide a b c imm) = fields 17 0 0 a b c (cast_unsigned w64 imm)
fields_of (SlideBy a b imm) = fields 18 0 0 a b 0 (cast_unsigned w64 imm)
fields_of (Shift a b c) = fields 19 0 0 a b c 0
fields_of (Same a b c) = fields 20 0 0 a b c 0
fields_of (Order relation a b c) = fields 21 0 0 a b c (relation_number relation)
fields_of (Difference a b c imm) = fields 22 0 0 a b c (cast_unsigned w64 imm)
fields_of (GetChar a) = fields 23 0 0 a 0 0 0
fields_of (PutChar a b) = fields 24 0 0 a b 0 0
fields_of (Malloc a b) = fields 25 0 0 a b 0 0
fields_of (Calloc a b c) = fields 26 0 0 a b c 0
fields_of (Free line b) = fields 27 0 line 0 b 0 0
fields_of (Exit b) = fields 28 0 0 0 b 0 0

-- the greatest number that each field takes: 0 where the form doesn't name it
abbrev pub up_to : ℕ → ℕ → ℕ → ℕ → ℕ → ℕ → Limits
up_to kind line a b c imm = record { kind = kind; line = line; a = a; b = b; c = c; imm = imm }

abbrev pub any_word : ℕ
any_word = 4294967295

abbrev pub any_number : ℕ
any_number = 18446744073709551615

-- from operation 1 on; pointers are ordered by the first four relations alone
unfoldable pub all_limits : List Limits
all_limits =
    up_to 0 0 0 0 0 0 ∷  -- Tick
    up_to 0 0 any_word 0 0 any_number ∷  -- Set
    up_to 0 0 any_word any_word 0 0 ∷  -- Move
    up_to 10 0 any_word any_word 0 0 ∷  -- Convert
    up_to 10 0 any_word any_word any_word 9 ∷  -- Binary
    up_to 10 0 any_word any_word any_word 5 ∷  -- Compare
    up_to 0 0 0 0 0 any_number ∷  -- Jump
    up_to 0 0 0 any_word 0 any_number ∷  -- JumpZero
    up_to 0 0 0 any_word 0 any_number ∷  -- JumpNonzero
    up_to 0 0 any_word any_word 0 any_number ∷  -- Call
    up_to 0 0 0 any_word 0 0 ∷  -- Return
    up_to 0 0 any_word 0 0 any_number ∷  -- Static
    up_to 0 0 any_word 0 0 any_number ∷  -- Local
    up_to 0 0 0 0 0 any_number ∷  -- Wipe
    up_to 11 any_word any_word any_word any_word 0 ∷  -- Load
    up_to 11 any_word any_word any_word any_word 0 ∷  -- Store
    up_to 0 0 any_word any_word any_word any_number ∷  -- Slide
    up_to 0 0 any_word any_word 0 any_number ∷  -- SlideBy
    up_to 0 0 any_word any_word any_word 0 ∷  -- Shift
    up_to 0 0 any_word any_word any_word 0 ∷  -- Same
    up_to 0 0 any_word any_word any_word 3 ∷  -- Order
    up_to 0 0 any_word any_word any_word any_number ∷  -- Difference
    up_to 0 0 any_word 0 0 0 ∷  -- GetChar
    up_to 0 0 any_word any_word 0 0 ∷  -- PutChar
    up_to 0 0 any_word any_word 0 0 ∷  -- Malloc
    up_to 0 0 any_word any_word any_word 0 ∷  -- Calloc
    up_to 0 any_word 0 any_word 0 0 ∷  -- Free
    up_to 0 0 0 any_word 0 0 ∷  -- Exit
    []

abbrev pub operations : ℕ
operations = 28

unfoldable pub limits_of : ℕ → Limits
limits_of op = get_or all_limits (op - 1) (up_to 0 0 0 0 0 0)

-- the fields are those of some instruction
pub record AreFields (f : Fields) : Type 0 where
  pub first : 1 ≤ f.op
  pub last : f.op ≤ operations
  pub kind : f.kind ≤ (limits_of f.op).kind
  pub line : f.line ≤ (limits_of f.op).line
  pub a : f.a ≤ (limits_of f.op).a
  pub b : f.b ≤ (limits_of f.op).b
  pub c : f.c ≤ (limits_of f.op).c
  pub imm : f.imm ≤ (limits_of f.op).imm

-- the 28 bytes
unfoldable pub spell_fields : Fields → List ℕ
spell_fields f =
    low_bytes 1 f.op ++ (low_bytes 1 f.kind ++ (low_bytes 2 0 ++ (low_bytes 4 f.line ++
    (low_bytes 4 f.a ++ (low_bytes 4 f.b ++ (low_bytes 4 f.c ++ low_bytes 8 f.imm))))))

abbrev pub spell_instruction : Instr → List ℕ
spell_instruction i = spell_fields (fields_of i)

-- a number that is told as eight bytes is one of a signed type of eight bytes
abbrev pub HasNumber : Instr → Type 0
HasNumber (Set a imm) = FitsSigned w64 imm
HasNumber (Jump imm) = FitsSigned w64 imm
HasNumber (JumpZero b imm) = FitsSigned w64 imm
HasNumber (JumpNonzero b imm) = FitsSigned w64 imm
HasNumber (Call a b imm) = FitsSigned w64 imm
HasNumber (Static a imm) = FitsSigned w64 imm
HasNumber (Local a imm) = FitsSigned w64 imm
HasNumber (Wipe imm) = FitsSigned w64 imm
HasNumber (Slide a b c imm) = FitsSigned w64 imm
HasNumber (SlideBy a b imm) = FitsSigned w64 imm
HasNumber (Difference a b c imm) = FitsSigned w64 imm
HasNumber _ = Unit {0}

-- what has a spelling
pub record IsInstruction (i : Instr) : Type 0 where
  pub fields : AreFields (fields_of i)
  pub number : HasNumber i
