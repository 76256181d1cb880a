-- Small images, whose runs the laws tell.
use Rattle.std.specs.Prelude.{ℕ, pos, negsuc, List, [], ◌∷◌, codes}
use Rattle.ob_words.specs.declared.types.BinOp.TheVariants.{Add, Div, Shr}
use Rattle.ob_words.specs.declared.types.IntType.TheVariants.{Char as char_type, Int as int_type, Long as long_type, ULong as unsigned_long}
use Rattle.ob_words.specs.declared.types.Relation.TheVariants.{Lt}
use Rattle.ob_model.specs.declared.settings.Mode.{Mode}
use Rattle.ob_model.specs.declared.settings.Profile.TheVariants.{One}
use Rattle.ob_model.specs.declared.settings.RunSettings.{RunSettings}
use Rattle.ob_model.specs.declared.values.LoadKind.TheVariants.{Num, Ptr}
use Rattle.ob_code.specs.declared.image.FunctionRow.{FunctionRow}
use Rattle.ob_code.specs.declared.image.Image.{Image}
use Rattle.ob_code.specs.declared.image.NameRow.{NameRow}
use Rattle.ob_code.specs.declared.image.PointerRow.{PointerRow}
use Rattle.ob_code.specs.declared.image.StaticRow.{StaticRow}
use Rattle.ob_code.specs.declared.instructions.Instr.{Instr}
use Rattle.ob_code.specs.declared.instructions.Instr.TheVariants.{Tick, Set, Move, Convert, Binary, Compare, Jump, JumpZero, JumpNonzero, Call, Return, Static, Local, Wipe, Load, Store, Slide, SlideBy, Shift, Same, Order, Difference, GetChar, PutChar, Malloc, Calloc, Free, Exit}

-- an image without names
abbrev pub nameless : List StaticRow → List PointerRow → List FunctionRow → List Instr → Image
nameless statics pointers functions code =
    record { profile = One; statics = statics; pointers = pointers; functions = functions; main = 0; code = code; names = [] }

-- a function without local objects
abbrev pub function_of : ℕ → ℕ → ℕ → ℕ → FunctionRow
function_of entry params words allowance =
    record { entry = entry; params = params; words = words; vars = 0; allowance = allowance; locals = [] }

-- an image of functions, the first of which is `main`, without static objects
abbrev pub program_of : List FunctionRow → List Instr → Image
program_of functions code = nameless [] [] functions code

-- one function of so many words, with static objects
abbrev pub image_of : ℕ → ℕ → List StaticRow → List Instr → Image
image_of words allowance statics code = nameless statics [] (function_of 0 0 words allowance ∷ []) code

abbrev pub settings_of : Mode → ℕ → ℕ → RunSettings
settings_of mode away heap = record { mode = mode; store = 2; away = away; heap = heap; profile = One }

abbrev pub static_of : ℕ → StaticRow
static_of size = record { size = size; given = [] }

-- ---- steps, jumps and calls

-- writes `H`
abbrev pub hello : Image
hello = image_of 4 32 [] (Set 2 (pos 72) ∷ PutChar 3 2 ∷ Set 2 (pos 3) ∷ Return 2 ∷ [])

-- writes the return place of `main`
abbrev pub return_place : Image
return_place = image_of 4 32 [] (PutChar 3 0 ∷ Set 2 (pos 0) ∷ Return 2 ∷ [])

-- never ends by itself, with steps and without
abbrev pub endless : Image
endless = image_of 4 32 [] (Jump (pos 0) ∷ [])

abbrev pub ticking : Image
ticking = image_of 4 32 [] (Tick ∷ Jump (pos 0) ∷ [])

-- goes past each `Return 0`
abbrev pub jumping : Image
jumping =
    image_of 4 32 []
    (Set 2 (pos 0) ∷ JumpZero 2 (pos 3) ∷ Return 0 ∷ JumpNonzero 2 (pos 2) ∷ Move 3 2 ∷ Set 2 (pos 7) ∷ JumpNonzero 2 (pos 8)
    ∷ Return 0 ∷ JumpZero 2 (pos 7) ∷ Return 2 ∷ [])

-- calls a function that adds its two arguments, one that gives its return place, and itself
abbrev pub adding : Image
adding =
    program_of (function_of 0 0 5 48 ∷ function_of 4 2 5 48 ∷ [])
    (Set 3 (pos 20) ∷ Set 4 (pos 22) ∷ Call 2 3 (pos 1) ∷ Return 2 ∷ Binary int_type Add 4 2 3 ∷ Return 4 ∷ [])

abbrev pub linking : Image
linking = program_of (function_of 0 0 4 32 ∷ function_of 2 0 4 32 ∷ []) (Call 3 2 (pos 1) ∷ Return 3 ∷ Return 0 ∷ [])

abbrev pub too_deep : Image
too_deep = image_of 4 524288 [] (Call 2 2 (pos 0) ∷ Return 2 ∷ [])

-- ---- numbers

-- gives 200 as a `char`, and whether that is less than 1
abbrev pub converting : Image
converting = image_of 4 32 [] (Set 2 (pos 200) ∷ Convert char_type 3 2 ∷ Return 3 ∷ [])

abbrev pub comparing : Image
comparing =
    image_of 4 32 [] (Set 2 (pos 200) ∷ Convert char_type 3 2 ∷ Set 2 (pos 1) ∷ Compare int_type Lt 2 3 2 ∷ Exit 2 ∷ [])

abbrev pub dividing : Image
dividing = image_of 4 32 [] (Set 2 (pos 1) ∷ Set 3 (pos 0) ∷ Binary int_type Div 2 2 3 ∷ Return 2 ∷ [])

-- gives 10 - 3 * 4 + 5 as a displacement, and one that is too far
abbrev pub sliding : Image
sliding = image_of 4 32 [] (Set 2 (pos 10) ∷ Set 3 (negsuc 2) ∷ Slide 2 2 3 (pos 4) ∷ SlideBy 2 2 (pos 5) ∷ Return 2 ∷ [])

abbrev pub sliding_far : Image
sliding_far = image_of 4 32 [] (Set 3 (pos 2305843009213693952) ∷ Slide 2 3 3 (pos 4) ∷ Return 2 ∷ [])

-- ---- input

-- reads twice and gives the second byte
abbrev pub reading : Image
reading = image_of 4 32 [] (GetChar 2 ∷ GetChar 3 ∷ Return 3 ∷ [])

-- ---- pointers

-- moves a pointer past its object, and writes its word without the low 40 bits
abbrev pub far_pointer : Image
far_pointer =
    image_of 6 48 (static_of 16 ∷ [])
    (Static 2 (pos 1) ∷ Set 3 (pos 100) ∷ Shift 4 2 3 ∷ Set 5 (pos 40) ∷ Binary unsigned_long Shr 4 4 5 ∷ PutChar 3 4 ∷ Set 2 (pos 0) ∷ Return 2 ∷ [])

-- moves a pointer out of its object and back, and gives how far it then is from the first byte
abbrev pub there_and_back : Image
there_and_back =
    image_of 6 48 (static_of 2 ∷ [])
    (Static 2 (pos 1) ∷ Set 3 (pos 100) ∷ Shift 4 2 3 ∷ Set 3 (negsuc 98) ∷ Shift 4 4 3 ∷ Difference 2 4 2 (pos 1) ∷ Return 2 ∷ [])

-- gives whether null is before a pointer
abbrev pub ordering : Image
ordering = image_of 6 48 (static_of 2 ∷ []) (Set 3 (pos 0) ∷ Static 2 (pos 1) ∷ Order Lt 4 3 2 ∷ Return 4 ∷ [])

-- gives whether the last byte of one object is before the first of the next, plus how many bytes lie between them
abbrev pub two_objects : Image
two_objects =
    image_of 6 48 (static_of 16 ∷ static_of 16 ∷ [])
    (Static 2 (pos 1) ∷ Set 3 (pos 15) ∷ Shift 2 2 3 ∷ Static 3 (pos 2) ∷ Difference 4 3 2 (pos 1) ∷ Order Lt 5 2 3 ∷ Binary int_type Add 5 5 4
    ∷ Return 5 ∷ [])

-- loads the pointer to offset 4 of the second object that the first one holds, and a number from the same place; gives
-- their sum, the pointer as its distance from the second object's first byte
abbrev pub holding : Image
holding =
    nameless (static_of 16 ∷ static_of 4 ∷ []) (record { holder = 1; offset = 8; target = 2; target_offset = 4 } ∷ [])
    (function_of 0 0 7 64 ∷ [])
    (Static 2 (pos 1) ∷ Set 3 (pos 8) ∷ Load Ptr 1 4 2 3 ∷ Static 5 (pos 2) ∷ Difference 5 4 5 (pos 1) ∷ Load (Num long_type) 2 6 2 3
    ∷ Binary long_type Add 5 5 6 ∷ Return 5 ∷ [])

-- ---- objects

-- allocates an object, and writes its address without the low 24 bits
abbrev pub first_block : Image
first_block =
    image_of 6 48 []
    (Set 3 (pos 5) ∷ Malloc 4 3 ∷ Set 5 (pos 24) ∷ Binary unsigned_long Shr 4 4 5 ∷ PutChar 3 4 ∷ Set 2 (pos 0) ∷ Return 2 ∷ [])

-- allocates, frees and allocates again, and writes whether both addresses are equal
abbrev pub reused_block : Image
reused_block =
    image_of 6 48 []
    (Set 3 (pos 5) ∷ Malloc 2 3 ∷ Free 0 2 ∷ Malloc 4 3 ∷ Same 5 2 4 ∷ PutChar 3 5 ∷ Set 2 (pos 0) ∷ Return 2 ∷ [])

-- allocates 3 times 5 bytes and stores past the last
abbrev pub array : Image
array =
    image_of 6 48 []
    (Set 2 (pos 3) ∷ Set 3 (pos 5) ∷ Calloc 4 2 3 ∷ Set 2 (pos 15) ∷ Store (Num char_type) 7 3 4 2 ∷ Set 2 (pos 0) ∷ Return 2 ∷ [])

-- frees a static object
abbrev pub freeing_static : Image
freeing_static = image_of 6 48 (static_of 2 ∷ []) (Static 2 (pos 1) ∷ Free 9 2 ∷ Set 2 (pos 0) ∷ Return 2 ∷ [])

-- frees an allocated object by a pointer to its second byte
abbrev pub freeing_inside : Image
freeing_inside =
    image_of 6 48 []
    (Set 3 (pos 5) ∷ Malloc 2 3 ∷ Set 4 (pos 1) ∷ Shift 4 2 4 ∷ Free 9 4 ∷ Set 2 (pos 0) ∷ Return 2 ∷ [])

-- stores 77 in a local object, loads it, wipes it, loads it again and gives the sum; then stores past its end
abbrev pub with_local : Image
with_local =
    program_of (record { entry = 0; params = 0; words = 6; vars = 2; allowance = 64; locals = record { ordinal = 1; place = 48; size = 8 } ∷ [] } ∷ [])
    (Local 2 (pos 0) ∷ Set 3 (pos 0) ∷ Set 4 (pos 77) ∷ Store (Num long_type) 1 4 2 3 ∷ Load (Num long_type) 2 5 2 3 ∷ Wipe (pos 0)
    ∷ Load (Num long_type) 3 4 2 3 ∷ Binary long_type Add 5 5 4 ∷ Set 3 (pos 8) ∷ Store (Num char_type) 4 5 2 3 ∷ Return 5 ∷ [])

-- stores 7 at offset 8 of an object of two bytes, loads it again and writes what it got
abbrev pub past_the_end : Image
past_the_end =
    image_of 6 48 (static_of 2 ∷ [])
    (Static 2 (pos 1) ∷ Set 3 (pos 8) ∷ Set 4 (pos 7) ∷ Store (Num char_type) 1 4 2 3 ∷ Load (Num char_type) 2 5 2 3 ∷ PutChar 4 5 ∷ Set 2 (pos 0) ∷ Return 2 ∷ [])

-- ---- stray accesses

-- stores 7 in two granules past an object, loads from the first, stores in a third, and writes what the first and the second
-- then give
abbrev pub recency : Image
recency =
    image_of 7 64 (static_of 2 ∷ [])
    (Static 2 (pos 1) ∷ Set 4 (pos 7) ∷ Set 3 (pos 8) ∷ Store (Num char_type) 1 4 2 3 ∷ Set 3 (pos 16) ∷ Store (Num char_type) 2 4 2 3
    ∷ Set 3 (pos 8) ∷ Load (Num char_type) 3 5 2 3 ∷ Set 3 (pos 24) ∷ Store (Num char_type) 4 4 2 3 ∷ Set 3 (pos 8) ∷ Load (Num char_type) 5 5 2 3
    ∷ Set 3 (pos 16) ∷ Load (Num char_type) 6 6 2 3 ∷ PutChar 5 5 ∷ PutChar 6 6 ∷ Set 2 (pos 0) ∷ Return 2 ∷ [])

-- stores 7 as an `int` at offset 2 of an object of eight bytes, loads from there, and then twice through null; writes the sum
-- of what the last two give
abbrev pub ill_aligned : Image
ill_aligned =
    image_of 7 64 (static_of 8 ∷ [])
    (Static 2 (pos 1) ∷ Set 4 (pos 7) ∷ Set 3 (pos 2) ∷ Store (Num int_type) 1 4 2 3 ∷ Load (Num int_type) 2 5 2 3 ∷ Set 2 (pos 0)
    ∷ Load (Num int_type) 3 5 2 3 ∷ Load (Num char_type) 4 6 2 3 ∷ Binary int_type Add 5 5 6 ∷ PutChar 5 5 ∷ Set 2 (pos 0) ∷ Return 2 ∷ [])

-- stores a pointer in an object, and writes whether it is loaded again; then stores 7 over its first byte, and writes
-- whether null is loaded, and the number there
abbrev pub pointer_in_granule : Image
pointer_in_granule =
    image_of 7 64 (static_of 16 ∷ [])
    (Static 2 (pos 1) ∷ Set 3 (pos 8) ∷ Store Ptr 1 2 2 3 ∷ Load Ptr 2 4 2 3 ∷ Same 5 4 2 ∷ PutChar 5 5 ∷ Set 4 (pos 7)
    ∷ Store (Num char_type) 3 4 2 3 ∷ Load Ptr 4 4 2 3 ∷ Set 5 (pos 0) ∷ Same 5 4 5 ∷ PutChar 5 5 ∷ Load (Num long_type) 5 4 2 3 ∷ PutChar 4 4
    ∷ Set 2 (pos 0) ∷ Return 2 ∷ [])

-- moves an allocated pointer out of bounds, frees its object, and does the same with another; gives whether both moved
-- pointers are one word
abbrev pub reused_slot : Image
reused_slot =
    image_of 7 64 []
    (Set 3 (pos 5) ∷ Malloc 2 3 ∷ Set 4 (pos 100) ∷ Shift 5 2 4 ∷ Free 0 2 ∷ Malloc 2 3 ∷ Set 4 (pos 50) ∷ Shift 6 2 4 ∷ Same 3 5 6 ∷ Return 3 ∷ [])

-- stores past an allocated object, frees it and allocates at its place again, and writes what is loaded from there
abbrev pub forgotten : Image
forgotten =
    image_of 7 64 []
    (Set 3 (pos 5) ∷ Malloc 2 3 ∷ Set 4 (pos 8) ∷ Store (Num char_type) 1 3 2 4 ∷ Free 0 2 ∷ Malloc 2 3 ∷ Load (Num char_type) 2 5 2 4
    ∷ PutChar 5 5 ∷ Set 2 (pos 0) ∷ Return 2 ∷ [])

-- ---- freed objects

-- frees an allocated object, stores 5 in its second byte, and writes what is loaded from there
abbrev pub using_freed : Image
using_freed =
    image_of 7 64 []
    (Set 3 (pos 5) ∷ Malloc 2 3 ∷ Free 0 2 ∷ Set 4 (pos 1) ∷ Store (Num char_type) 6 3 2 4 ∷ Load (Num char_type) 7 5 2 4 ∷ PutChar 5 5
    ∷ Set 2 (pos 0) ∷ Return 2 ∷ [])

-- allocates 16 bytes, which take a block of 32, frees them, and writes whether an allocation of no byte then gives null
abbrev pub allocating_again : Image
allocating_again =
    image_of 7 64 []
    (Set 3 (pos 16) ∷ Malloc 2 3 ∷ Free 0 2 ∷ Set 3 (pos 0) ∷ Malloc 4 3 ∷ Same 5 4 3 ∷ PutChar 5 5 ∷ Return 3 ∷ [])

-- frees an allocated object twice, moves its pointer out of bounds and back to its third byte, and loads from there; gives how far
-- the pointer then is from the first byte
abbrev pub freeing_again : Image
freeing_again =
    image_of 7 64 []
    (Set 3 (pos 4) ∷ Malloc 2 3 ∷ Free 0 2 ∷ Free 8 2 ∷ Set 3 (pos 100) ∷ Shift 4 2 3 ∷ Set 3 (negsuc 97) ∷ Shift 4 4 3 ∷ Set 5 (pos 0)
    ∷ Load (Num char_type) 9 5 4 5 ∷ Difference 2 4 2 (pos 1) ∷ Return 2 ∷ [])

-- stores 5 far past an allocated object, frees it, and writes what is loaded from there
abbrev pub loading_freed_outside : Image
loading_freed_outside =
    image_of 7 64 []
    (Set 3 (pos 5) ∷ Malloc 2 3 ∷ Set 4 (pos 100) ∷ Store (Num char_type) 1 3 2 4 ∷ Free 0 2 ∷ Load (Num char_type) 2 5 2 4 ∷ PutChar 5 5
    ∷ Set 2 (pos 0) ∷ Return 2 ∷ [])

-- ---- names

-- stores -7 in the first of two static objects and 41 in a word, makes a pointer, and goes round. Its variables are a number in
-- a word, a number and an array in bytes, and a pointer in a word
abbrev pub name_of : ℕ → ℕ → ℕ → ℕ → List ℕ → NameRow
name_of holder ordinal word kind name = record { holder = holder; ordinal = ordinal; line = 1; word = word; kind = kind; name = name }

abbrev pub named : Image
named =
    record {
      profile = One;
      statics = static_of 4 ∷ static_of 8 ∷ [];
      pointers = [];
      functions =
          record {
            entry = 0;
            params = 0;
            words = 6;
            vars = 4;
            allowance = 96;
            locals = record { ordinal = 1; place = 48; size = 4 } ∷ record { ordinal = 2; place = 64; size = 10 } ∷ [];
          } ∷ [];
      main = 0;
      code =
          Static 2 (pos 1) ∷ Set 3 (pos 0) ∷ Set 4 (negsuc 6) ∷ Store (Num int_type) 1 4 2 3 ∷ Set 5 (pos 41) ∷ Local 4 (pos 1) ∷ Tick ∷ Jump (pos 6) ∷ [];
      names =
          name_of 0 1 0 5 (codes "g") ∷ name_of 0 2 0 11 (codes "q") ∷ name_of 1 0 5 5 (codes "x") ∷ name_of 1 1 0 5 (codes "y")
          ∷ name_of 1 2 0 12 (codes "a") ∷ name_of 1 3 4 11 (codes "p") ∷ [];
    }
