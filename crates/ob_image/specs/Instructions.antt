-- The instruction that fields stand for.
use Rattle.std.specs.Prelude.{ℕ, ◌-◌, List, [], ◌∷◌, get_or}
use Rattle.std.specs.Int.{cast_signed, w64}
use Rattle.ob_words.specs.declared.types.IntType.{IntType}
use Rattle.ob_words.specs.declared.types.IntType.TheVariants.{Char, SChar, UChar, Short, UShort, Int, UInt, Long, ULong, LLong, ULLong}
use Rattle.ob_words.specs.declared.types.BinOp.{BinOp}
use Rattle.ob_words.specs.declared.types.BinOp.TheVariants.{Add, Sub, Mul, Div, Rem, And, Or, Xor, Shl, Shr}
use Rattle.ob_words.specs.declared.types.Relation.{Relation}
use Rattle.ob_words.specs.declared.types.Relation.TheVariants.{Lt, Gt, Le, Ge, Eq, Ne}
use Rattle.ob_model.specs.declared.values.LoadKind.{LoadKind}
use Rattle.ob_model.specs.declared.values.LoadKind.TheVariants.{Num, Ptr}
use Rattle.ob_code.specs.declared.instructions.Instr.{Instr}
use Rattle.ob_code.specs.declared.instructions.Instr.TheVariants.{Tick, Set, Move, Convert, Binary, Compare, Jump, JumpZero, JumpNonzero, Call, Return, Static, Local, Wipe, Load, Store, Slide, SlideBy, Shift, Same, Order, Difference, GetChar, PutChar, Malloc, Calloc, Free, Exit}
use Rattle.ob_image.specs.declared.layout.Fields.{Fields}

unfoldable pub integer_types : List IntType
integer_types = Char ∷ SChar ∷ UChar ∷ Short ∷ UShort ∷ Int ∷ UInt ∷ Long ∷ ULong ∷ LLong ∷ ULLong ∷ []

unfoldable pub operators : List BinOp
operators = Add ∷ Sub ∷ Mul ∷ Div ∷ Rem ∷ And ∷ Or ∷ Xor ∷ Shl ∷ Shr ∷ []

unfoldable pub relations : List Relation
relations = Lt ∷ Gt ∷ Le ∷ Ge ∷ Eq ∷ Ne ∷ []

unfoldable pub integer_type : ℕ → IntType
integer_type n = get_or integer_types n Char

unfoldable pub load_kind : ℕ → LoadKind
load_kind n = get_or (Num Char ∷ Num SChar ∷ Num UChar ∷ Num Short ∷ Num UShort ∷ Num Int ∷ Num UInt ∷ Num Long ∷ Num ULong ∷ Num LLong ∷ Num ULLong ∷ Ptr ∷ []) n Ptr

unfoldable pub operator : ℕ → BinOp
operator n = get_or operators n Add

unfoldable pub relation : ℕ → Relation
relation n = get_or relations n Lt

-- from operation 1 on
unfoldable pub instructions : Fields → List Instr
instructions f =
    Tick ∷
    Set f.a (cast_signed w64 f.imm) ∷
    Move f.a f.b ∷
    Convert (integer_type f.kind) f.a f.b ∷
    Binary (integer_type f.kind) (operator f.imm) f.a f.b f.c ∷
    Compare (integer_type f.kind) (relation f.imm) f.a f.b f.c ∷
    Jump (cast_signed w64 f.imm) ∷
    JumpZero f.b (cast_signed w64 f.imm) ∷
    JumpNonzero f.b (cast_signed w64 f.imm) ∷
    Call f.a f.b (cast_signed w64 f.imm) ∷
    Return f.b ∷
    Static f.a (cast_signed w64 f.imm) ∷
    Local f.a (cast_signed w64 f.imm) ∷
    Wipe (cast_signed w64 f.imm) ∷
    Load (load_kind f.kind) f.line f.a f.b f.c ∷
    Store (load_kind f.kind) f.line f.a f.b f.c ∷
    Slide f.a f.b f.c (cast_signed w64 f.imm) ∷
    SlideBy f.a f.b (cast_signed w64 f.imm) ∷
    Shift f.a f.b f.c ∷
    Same f.a f.b f.c ∷
    Order (relation f.imm) f.a f.b f.c ∷
    Difference f.a f.b f.c (cast_signed w64 f.imm) ∷
    GetChar f.a ∷
    PutChar f.a f.b ∷
    Malloc f.a f.b ∷
    Calloc f.a f.b f.c ∷
    Free f.line f.b ∷
    Exit f.b ∷
    []

unfoldable pub instruction : Fields → Instr
instruction f = get_or (instructions f) (f.op - 1) Tick
