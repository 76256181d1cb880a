-- The rules of an image, row by row, rows counted from 0. An image that keeps them all can be run: its objects lie apart, its
-- frames have words and bytes for what their functions use, and no run leaves the code.
use Rattle.std.specs.Prelude.{◌≡◌, ◌≢◌, ℕ, ◌+◌, ◌-◌, ◌%◌, ◌≤◌, ◌<◌, ◌⊎◌, ℤ, pos, negsuc, unsigned_abs, List, [], length, take, slice_get, slice_index, slice_index_or, Option, Some, None}
use Rattle.ob_base.specs.Names.{IsName}
use Rattle.ob_words.specs.declared.types.Relation.{Relation}
use Rattle.ob_words.specs.declared.types.Relation.TheVariants.{Lt, Gt, Le, Ge, Eq, Ne}
use Rattle.ob_code.specs.declared.image.FunctionRow.{FunctionRow}
use Rattle.ob_code.specs.declared.image.Image.{Image}
use Rattle.ob_code.specs.declared.image.LocalRow.{LocalRow}
use Rattle.ob_code.specs.declared.image.NameRow.{NameRow}
use Rattle.ob_code.specs.declared.image.PointerRow.{PointerRow}
use Rattle.ob_code.specs.declared.image.StaticRow.{StaticRow}
use Rattle.ob_code.specs.declared.instructions.Instr.{Instr}
use Rattle.ob_code.specs.declared.instructions.Instr.TheVariants.{Tick, Set, Move, Convert, Binary, Compare, Jump, JumpZero, JumpNonzero, Call, Return, Static, Local, Wipe, Load, Store, Slide, SlideBy, Shift, Same, Order, Difference, GetChar, PutChar, Malloc, Calloc, Free, Exit}
use Rattle.ob_code.specs.Frames.{function_at, words_end, local_end, frame_length}
use Rattle.ob_model.specs.declared.values.LoadKind.{LoadKind}
use Rattle.ob_model.specs.Accesses.{bytes_of_kind}
use Rattle.ob_model.specs.Limits.{most_object_bytes, most_static_bytes}
use Rattle.ob_code.specs.Kinds.{load_kind_of, no_load_kind}
use Rattle.ob_code.specs.Layout.{static_blocks, no_local, local_of}
use Rattle.ob_code.specs.Limits.{most_statics, most_pointers, most_functions, most_instructions, most_names, most_words, most_variables, most_allowance, most_scale, most_name_bytes}

-- ---- static objects

abbrev pub no_static : StaticRow
no_static = record { size = 0; given = [] }

abbrev pub static_at : List StaticRow → ℕ → StaticRow
static_at rows i = slice_index_or rows i no_static

-- a static object has a size and first bytes within it, of which the last isn't 0, and the blocks up to it fit
pub record IsStaticSound (rows : List StaticRow) (i : ℕ) : Type 0 where
  pub size : (static_at rows i).size ≤ most_object_bytes
  pub given : length (static_at rows i).given ≤ (static_at rows i).size
  pub last : 0 < length (static_at rows i).given → slice_index (static_at rows i).given (length (static_at rows i).given - 1) ≢ 0
  pub fits : static_blocks (take (i + 1) rows) ≤ most_static_bytes

-- ---- pointers that static objects hold

abbrev pub no_pointer : PointerRow
no_pointer = record { holder = 0; offset = 0; target = 0; target_offset = 0 }

abbrev pub pointer_at : List PointerRow → ℕ → PointerRow
pointer_at rows i = slice_index_or rows i no_pointer

-- a static object of this number, from 1
abbrev pub HasStatic : List StaticRow → ℕ → Type 0
HasStatic statics object = (1 ≤ object) × (object ≤ length statics)

-- one row stands before another: by holder, then by offset
abbrev pub IsBefore : PointerRow → PointerRow → Type 0
IsBefore p q = (p.holder < q.holder) ⊎ ((p.holder ≡ q.holder) × (p.offset < q.offset))

-- the pointer's granule lies in its holder, whose bytes there are 0 or not given
pub record IsHolderSound (statics : List StaticRow) (p : PointerRow) : Type 0 where
  pub exists : HasStatic statics p.holder
  pub multiple : p.offset % 8 ≡ 0
  pub inside : p.offset + 8 ≤ (static_at statics (p.holder - 1)).size
  pub bytes : (k : ℕ) → k < 8 → slice_index (static_at statics (p.holder - 1)).given (p.offset + k) ≡ 0

-- it points into its target, or one past its end
pub record IsTargetSound (statics : List StaticRow) (p : PointerRow) : Type 0 where
  pub exists : HasStatic statics p.target
  pub inside : p.target_offset ≤ (static_at statics (p.target - 1)).size

pub record IsPointerSound (statics : List StaticRow) (rows : List PointerRow) (i : ℕ) : Type 0 where
  pub holder : IsHolderSound statics (pointer_at rows i)
  pub target : IsTargetSound statics (pointer_at rows i)
  pub order : 0 < i → IsBefore (pointer_at rows (i - 1)) (pointer_at rows i)

-- ---- functions

abbrev pub local_at : FunctionRow → ℕ → LocalRow
local_at f j = slice_index_or f.locals j no_local

-- a local object lies in whole blocks after the frame's words and the objects before it
pub record IsLocalSound (f : FunctionRow) (j : ℕ) : Type 0 where
  pub ordinal : (local_at f j).ordinal < f.vars
  pub size : (local_at f j).size ≤ most_object_bytes
  pub multiple : (local_at f j).place % 16 ≡ 0
  pub after_words : words_end f.words ≤ (local_at f j).place
  pub ordinals : 0 < j → (local_at f (j - 1)).ordinal < (local_at f j).ordinal
  pub places : 0 < j → local_end (local_at f (j - 1)) ≤ (local_at f j).place

-- a frame has words for the links and parameters, and its stack allowance covers it
pub record IsFrameSound (f : FunctionRow) : Type 0 where
  pub least_words : 2 + f.params ≤ f.words
  pub most_words : f.words ≤ most_words
  pub vars : f.vars ≤ most_variables
  pub locals : (j : ℕ) → j < length f.locals → IsLocalSound f j
  pub multiple : f.allowance % 16 ≡ 0
  pub most_allowance : f.allowance ≤ most_allowance
  pub covers : frame_length f ≤ f.allowance

-- the first entry is 0, entries increase, and each is a place of the code
pub record IsEntrySound (image : Image) (i : ℕ) : Type 0 where
  pub first : i ≡ 0 → (function_at image.functions i).entry ≡ 0
  pub order : 0 < i → (function_at image.functions (i - 1)).entry < (function_at image.functions i).entry
  pub in_code : (function_at image.functions i).entry < length image.code

pub record IsFunctionSound (image : Image) (i : ℕ) : Type 0 where
  pub entry : IsEntrySound image i
  pub frame : IsFrameSound (function_at image.functions i)

-- ---- main

pub record IsMainSound (image : Image) : Type 0 where
  pub exists : image.main < length image.functions
  pub no_params : (function_at image.functions image.main).params ≡ 0

-- ---- code

-- a function's code runs from its entry to the next function's, and the last one's to the end
abbrev pub entry_or : Option FunctionRow → ℕ → ℕ
entry_or None n = n
entry_or (Some f) n = f.entry

abbrev pub code_end : Image → ℕ → ℕ
code_end image f = entry_or (slice_get image.functions (f + 1)) (length image.code)

pub record IsCodeOf (image : Image) (f i : ℕ) : Type 0 where
  pub is_function : f < length image.functions
  pub after_entry : (function_at image.functions f).entry ≤ i
  pub before_end : i < code_end image f

-- words that are written and read, places that are jumped to, numbers in a range
abbrev pub IsWritten : ℕ → ℕ → Type 0
IsWritten words a = (2 ≤ a) × (a < words)

abbrev pub IsBetween : ℕ → ℕ → ℤ → Type 0
IsBetween low high (pos n) = (low ≤ n) × (n ≤ high)
IsBetween low high (negsuc n) = ⊥

abbrev pub IsBelow : ℕ → ℤ → Type 0
IsBelow count (pos n) = n < count
IsBelow count (negsuc n) = ⊥

abbrev pub IsPlaceOf : Image → ℕ → ℤ → Type 0
IsPlaceOf image f (pos n) = ((function_at image.functions f).entry ≤ n) × (n < code_end image f)
IsPlaceOf image f (negsuc n) = ⊥

-- pointers are ordered by < > <= >=
abbrev pub IsOrdering : Relation → Type 0
IsOrdering Lt = Unit {0}
IsOrdering Gt = Unit {0}
IsOrdering Le = Unit {0}
IsOrdering Ge = Unit {0}
IsOrdering Eq = ⊥
IsOrdering Ne = ⊥

-- the operands of an instruction of function f
abbrev pub words_of : Image → ℕ → ℕ
words_of image f = (function_at image.functions f).words

abbrev pub AreOperandsSound : Image → ℕ → Instr → Type 0
AreOperandsSound image f Tick = Unit {0}
AreOperandsSound image f (Set a imm) = IsWritten (words_of image f) a
AreOperandsSound image f (Move a b) = IsWritten (words_of image f) a × (b < words_of image f)
AreOperandsSound image f (Convert kind a b) = IsWritten (words_of image f) a × (b < words_of image f)
AreOperandsSound image f (Binary kind operator a b c) =
    IsWritten (words_of image f) a × (b < words_of image f) × (c < words_of image f)
AreOperandsSound image f (Compare kind relation a b c) =
    IsWritten (words_of image f) a × (b < words_of image f) × (c < words_of image f)
AreOperandsSound image f (Jump imm) = IsPlaceOf image f imm
AreOperandsSound image f (JumpZero b imm) = (b < words_of image f) × IsPlaceOf image f imm
AreOperandsSound image f (JumpNonzero b imm) = (b < words_of image f) × IsPlaceOf image f imm
AreOperandsSound image f (Call a b imm) =
    IsWritten (words_of image f) a × (b < words_of image f) × IsBelow (length image.functions) imm
    × (b + (function_at image.functions (unsigned_abs imm)).params ≤ words_of image f)
AreOperandsSound image f (Return b) = b < words_of image f
AreOperandsSound image f (Static a imm) = IsWritten (words_of image f) a × IsBetween 1 (length image.statics) imm
AreOperandsSound image f (Local a imm) =
    IsWritten (words_of image f) a × IsBelow (length (function_at image.functions f).locals) imm
AreOperandsSound image f (Wipe imm) = IsBelow (length (function_at image.functions f).locals) imm
AreOperandsSound image f (Load kind line a b c) =
    IsWritten (words_of image f) a × (b < words_of image f) × (c < words_of image f)
AreOperandsSound image f (Store kind line a b c) =
    (a < words_of image f) × (b < words_of image f) × (c < words_of image f)
AreOperandsSound image f (Slide a b c imm) =
    IsWritten (words_of image f) a × (b < words_of image f) × (c < words_of image f) × (unsigned_abs imm ≤ most_scale)
AreOperandsSound image f (SlideBy a b imm) =
    IsWritten (words_of image f) a × (b < words_of image f) × IsBetween 0 most_scale imm
AreOperandsSound image f (Shift a b c) =
    IsWritten (words_of image f) a × (b < words_of image f) × (c < words_of image f)
AreOperandsSound image f (Same a b c) =
    IsWritten (words_of image f) a × (b < words_of image f) × (c < words_of image f)
AreOperandsSound image f (Order relation a b c) =
    IsWritten (words_of image f) a × (b < words_of image f) × (c < words_of image f) × IsOrdering relation
AreOperandsSound image f (Difference a b c imm) =
    IsWritten (words_of image f) a × (b < words_of image f) × (c < words_of image f) × IsBetween 1 most_scale imm
AreOperandsSound image f (GetChar a) = IsWritten (words_of image f) a
AreOperandsSound image f (PutChar a b) = IsWritten (words_of image f) a × (b < words_of image f)
AreOperandsSound image f (Malloc a b) = IsWritten (words_of image f) a × (b < words_of image f)
AreOperandsSound image f (Calloc a b c) =
    IsWritten (words_of image f) a × (b < words_of image f) × (c < words_of image f)
AreOperandsSound image f (Free line b) = b < words_of image f
AreOperandsSound image f (Exit b) = b < words_of image f

-- an instruction after which the next place isn't reached
abbrev pub IsLast : Instr → Type 0
IsLast (Jump imm) = Unit {0}
IsLast (Return b) = Unit {0}
IsLast (Exit b) = Unit {0}
IsLast _ = ⊥

abbrev pub instruction_at : Image → ℕ → Instr
instruction_at image i = slice_index_or image.code i Tick

-- an instruction of function f; the last one of a function goes nowhere on
pub record IsInstructionSound (image : Image) (f i : ℕ) : Type 0 where
  pub operands : AreOperandsSound image f (instruction_at image i)
  pub last : i + 1 ≡ code_end image f → IsLast (instruction_at image i)

abbrev pub IsCodeSound : Image → ℕ → Type 0
IsCodeSound image i = (f : ℕ) → IsCodeOf image f i → IsInstructionSound image f i

-- ---- names of variables

abbrev pub no_name : NameRow
no_name = record { holder = 0; ordinal = 0; line = 0; word = 0; kind = 0; name = [] }

abbrev pub name_at : List NameRow → ℕ → NameRow
name_at rows i = slice_index_or rows i no_name

-- one row stands before another: by holder, then by ordinal
abbrev pub IsNamedBefore : NameRow → NameRow → Type 0
IsNamedBefore p q = (p.holder < q.holder) ⊎ ((p.holder ≡ q.holder) × (p.ordinal < q.ordinal))

-- the bytes of a variable of this kind at least; an array or structure has any size
abbrev pub bytes_of_number : Option LoadKind → ℕ
bytes_of_number None = 0
bytes_of_number (Some kind) = bytes_of_kind kind

abbrev pub least_bytes : ℕ → ℕ
least_bytes kind = bytes_of_number (load_kind_of kind)

-- a static object's name: the object exists and has the size of the kind, and no frame word
pub record IsStaticNameSound (image : Image) (row : NameRow) : Type 0 where
  pub exists : HasStatic image.statics row.ordinal
  pub word : row.word ≡ 0
  pub size : least_bytes row.kind ≤ (static_at image.statics (row.ordinal - 1)).size

-- a variable's local row, where it has bytes of its own, has the size of the kind
abbrev pub IsLocalLong : Option LocalRow → ℕ → Type 0
IsLocalLong None kind = ⊥
IsLocalLong (Some l) kind = least_bytes kind ≤ l.size

-- the name of a variable of a function: the function has the variable, whose word is none of the links; where it has word 0, the
-- function has a local row of its ordinal
pub record IsVariableNameSound (f : FunctionRow) (row : NameRow) : Type 0 where
  pub ordinal : row.ordinal < f.vars
  pub word : (row.word ≡ 0) ⊎ IsWritten f.words row.word
  pub local : row.word ≡ 0 → IsLocalLong (local_of f row.ordinal) row.kind

abbrev pub IsHeldSound : Image → NameRow → Type 0
IsHeldSound image row =
    ((row.holder ≡ 0) × IsStaticNameSound image row)
    ⊎ ((1 ≤ row.holder) × (row.holder ≤ length image.functions) × IsVariableNameSound (function_at image.functions (row.holder - 1)) row)

-- the text of a name, whose length is limited
pub record IsShortName (text : List ℕ) : Type 0 where
  pub name : IsName text
  pub short : length text ≤ most_name_bytes

-- rows increase by holder and ordinal; an array or structure has no frame word, and no kind is greater; the name is one
pub record IsNameRowSound (image : Image) (i : ℕ) : Type 0 where
  pub order : 0 < i → IsNamedBefore (name_at image.names (i - 1)) (name_at image.names i)
  pub held : IsHeldSound image (name_at image.names i)
  pub kind : (name_at image.names i).kind ≤ no_load_kind
  pub whole : (name_at image.names i).kind ≡ no_load_kind → (name_at image.names i).word ≡ 0
  pub text : IsShortName (name_at image.names i).name

-- ---- the whole image

-- so many rows at most, and each of them is sound
pub record AreSound (limit count : ℕ) (Rule : ℕ → Type 0) : Type 0 where
  pub most : count ≤ limit
  pub each : (i : ℕ) → i < count → Rule i

abbrev pub AreStaticsSound : Image → Type 0
AreStaticsSound image = AreSound most_statics (length image.statics) (IsStaticSound image.statics)

abbrev pub ArePointersSound : Image → Type 0
ArePointersSound image = AreSound most_pointers (length image.pointers) (IsPointerSound image.statics image.pointers)

pub record AreFunctionsSound (image : Image) : Type 0 where
  pub some : 0 < length image.functions
  pub rows : AreSound most_functions (length image.functions) (IsFunctionSound image)

abbrev pub IsAllCodeSound : Image → Type 0
IsAllCodeSound image = AreSound most_instructions (length image.code) (IsCodeSound image)

abbrev pub AreNamesSound : Image → Type 0
AreNamesSound image = AreSound most_names (length image.names) (IsNameRowSound image)

pub record IsVerified (image : Image) : Type 0 where
  pub statics : AreStaticsSound image
  pub pointers : ArePointersSound image
  pub functions : AreFunctionsSound image
  pub main : IsMainSound image
  pub code : IsAllCodeSound image
  pub names : AreNamesSound image
