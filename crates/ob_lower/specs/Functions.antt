-- Functions (C99 6.9.1): the code of each, and its row in the image. The code stores each parameter that has bytes, runs the body, and
-- returns 0 at its end. The rows of locals are those of the variables that have bytes, in order, each after the block before.
use Rattle.std.specs.Prelude.{ℕ, zero, suc, ◌+◌, max, List, [], ◌∷◌, ◌++◌, length}
use Rattle.ob_words.specs.Words.{block}
use Rattle.ob_tree.specs.Sizes.{allowance, size}
use Rattle.ob_tree.specs.Types.{PlainType, PlainStructs}
use Rattle.ob_typed.specs.TypedTree.{TypedFunction, TypedProgram}
use Rattle.ob_code.specs.declared.image.FunctionRow.{FunctionRow}
use Rattle.ob_code.specs.declared.image.LocalRow.{LocalRow}
use Rattle.ob_code.specs.declared.instructions.Instr.{Instr}
use Rattle.ob_code.specs.declared.instructions.Instr.TheVariants as instr
use Rattle.ob_code.specs.Frames.{words_end}
use Rattle.ob_meaning.specs.Setup.{kind_of}
use Rattle.ob_lower.specs.Homes.{Context, Home, plain, bytes, unseen, context_of}
use Rattle.ob_lower.specs.Initialisers.{own_store}
use Rattle.ob_lower.specs.Statements.{stmt_code}

-- ---- code

-- the parameters that have bytes, of those from one on
abbrev pub entry_at : Context → ℕ → PlainType → Home → List Instr
entry_at c v t (plain w) = []
entry_at c v t (bytes row) = own_store c (kind_of t) 0 row 0 (2 + v) c.free
entry_at c v t (unseen row) = []

abbrev pub entry_code : Context → (count v : ℕ) → List PlainType → List Home → List Instr
entry_code c zero v ts hs = []
entry_code c (suc n) v [] hs = []
entry_code c (suc n) v (t ∷ ts) [] = []
entry_code c (suc n) v (t ∷ ts) (h ∷ hs) = entry_at c v t h ++ entry_code c n (v + 1) ts hs

abbrev pub code_in : Context → TypedFunction → List Instr
code_in c f = entry_code c f.params 0 f.locals c.homes ++ stmt_code c f.body 0 0 ++ instr.Return c.zero ∷ []

abbrev pub function_code : TypedProgram → TypedFunction → List Instr
function_code t f = code_in (context_of t f) f

-- ---- words: those that variables have, and those that the code names

abbrev pub past_named : Instr → ℕ
past_named instr.Tick = 0
past_named (instr.Set a imm) = a + 1
past_named (instr.Move a b) = max a b + 1
past_named (instr.Convert kind a b) = max a b + 1
past_named (instr.Binary kind operator a b c) = max a (max b c) + 1
past_named (instr.Compare kind relation a b c) = max a (max b c) + 1
past_named (instr.Jump imm) = 0
past_named (instr.JumpZero b imm) = b + 1
past_named (instr.JumpNonzero b imm) = b + 1
past_named (instr.Call a b imm) = max a b + 1
past_named (instr.Return b) = b + 1
past_named (instr.Static a imm) = a + 1
past_named (instr.Local a imm) = a + 1
past_named (instr.Wipe imm) = 0
past_named (instr.Load kind line a b c) = max a (max b c) + 1
past_named (instr.Store kind line a b c) = max a (max b c) + 1
past_named (instr.Slide a b c imm) = max a (max b c) + 1
past_named (instr.SlideBy a b imm) = max a b + 1
past_named (instr.Shift a b c) = max a (max b c) + 1
past_named (instr.Same a b c) = max a (max b c) + 1
past_named (instr.Order relation a b c) = max a (max b c) + 1
past_named (instr.Difference a b c imm) = max a (max b c) + 1
past_named (instr.GetChar a) = a + 1
past_named (instr.PutChar a b) = max a b + 1
past_named (instr.Malloc a b) = max a b + 1
past_named (instr.Calloc a b c) = max a (max b c) + 1
past_named (instr.Free line b) = b + 1
past_named (instr.Exit b) = b + 1

abbrev pub words_of : ℕ → List Instr → ℕ
words_of words [] = words
words_of words (i ∷ is) = words_of (max words (past_named i)) is

-- ---- rows

abbrev pub local_row : PlainStructs → (ordinal place : ℕ) → PlainType → LocalRow
local_row structs ordinal place t = record { ordinal = ordinal; place = place; size = size structs t }

abbrev pub row_first : Home → PlainStructs → (ordinal place : ℕ) → PlainType → (ℕ → List LocalRow) → List LocalRow
row_first (plain w) structs ordinal place t others = others place
row_first (bytes row) structs ordinal place t others = local_row structs ordinal place t ∷ others (place + block (size structs t))
row_first (unseen row) structs ordinal place t others = local_row structs ordinal place t ∷ others (place + block (size structs t))

abbrev pub rows_from : PlainStructs → (ordinal place : ℕ) → List PlainType → List Home → List LocalRow
rows_from structs ordinal place [] hs = []
rows_from structs ordinal place (t ∷ ts) [] = []
rows_from structs ordinal place (t ∷ ts) (h ∷ hs) = row_first h structs ordinal place t (λ p. rows_from structs (ordinal + 1) p ts hs)

abbrev pub row_of_words : Context → TypedFunction → (entry words : ℕ) → FunctionRow
row_of_words c f entry words =
    record {
      entry = entry;
      params = f.params;
      words = words;
      vars = length f.locals;
      allowance = allowance c.structs f.nodes f.params f.locals;
      locals = rows_from c.structs 0 (words_end words) f.locals c.homes;
    }

-- a function whose code, which is this, has this entry
abbrev pub row_in : Context → TypedFunction → ℕ → List Instr → FunctionRow
row_in c f entry code = row_of_words c f entry (words_of c.free code)

abbrev pub function_row : TypedProgram → TypedFunction → ℕ → List Instr → FunctionRow
function_row t f entry code = row_in (context_of t f) f entry code
