-- Reading from left to right. A reader answers what it read and the bytes after it, or how many bytes are left from the first one
-- on that can't stand there: 0 where the bytes end too early.
use Rattle.std.specs.Prelude.{◌≡◌, ◌==◌, ℕ, zero, suc, ◌+◌, ◌-◌, ◌*◌, ◌/◌, Bool, true, ◌&&◌, not, List, [], ◌∷◌, length, Result, Ok, Err, nat_le, if◌then◌else◌}
use Rattle.std.specs.List.{prefix_len}
use Rattle.ob_code.specs.declared.image.FunctionRow.{FunctionRow}
use Rattle.ob_code.specs.declared.image.Image.{Image}
use Rattle.ob_code.specs.declared.image.LocalRow.{LocalRow}
use Rattle.ob_code.specs.declared.image.NameRow.{NameRow}
use Rattle.ob_code.specs.declared.image.PointerRow.{PointerRow}
use Rattle.ob_code.specs.declared.image.StaticRow.{StaticRow}
use Rattle.ob_code.specs.declared.instructions.Instr.{Instr}
use Rattle.ob_model.specs.Limits.{most_object_bytes}
use Rattle.ob_code.specs.Limits.{most_statics, most_pointers, most_functions, most_variables, most_instructions, most_names}
use Rattle.ob_base.specs.Names.{is_letter, is_name_byte, begins_with, is_reserved}
use Rattle.ob_image.specs.declared.faults.Stop.{Stop}
use Rattle.ob_image.specs.declared.faults.Stop.TheVariants as stops
use Rattle.ob_image.specs.declared.layout.Fields.{Fields}
use Rattle.ob_image.specs.declared.layout.Version.{Version}
use Rattle.ob_image.specs.declared.layout.Version.TheVariants as version
use Rattle.ob_image.specs.Instructions.{instruction}
use Rattle.ob_image.specs.Layout.{any_word, any_number, fields, limits_of, operations}
use Rattle.ob_image.specs.Spelling.{letters, most_kind}
use Rattle.ob_model.specs.declared.settings.Profile.{Profile}
use Rattle.ob_model.specs.declared.settings.Profile.TheVariants as profile

abbrev pub Reader : Type 0 → Type 0
Reader A = List ℕ → Result (A × List ℕ) ℕ

-- ---- readers from readers

-- nothing is read
unfoldable pub gives : {A : Type 0} → A → Reader A
gives x bytes = Ok (x, bytes)

abbrev pub chained : {A B : Type 0} → (A → Reader B) → Result (A × List ℕ) ℕ → Result (B × List ℕ) ℕ
chained next (Ok x) = next x.0 x.1
chained next (Err left) = Err left

-- one after the other
infixl 10 ◌>>=◌
abbrev pub ◌>>=◌ : {A B : Type 0} → Reader A → (A → Reader B) → Reader B
read >>= next = λ bytes. chained next (read bytes)

-- one byte that passes a test
abbrev pub one_if : Bool → ℕ → List ℕ → Result (ℕ × List ℕ) ℕ
one_if passes b bytes = if passes then Ok (b, bytes) else Err (suc (length bytes))

unfoldable pub one : (ℕ → Bool) → Reader ℕ
one test [] = Err 0
one test (b ∷ bytes) = one_if (test b) b bytes

-- these bytes
unfoldable pub exactly : List ℕ → Reader (List ℕ)
exactly [] = gives []
exactly (b ∷ bytes) = do
  first ← one (λ c. c == b)
  others ← exactly bytes
  gives (first ∷ others)

-- what was read, if it passes a test; else the last byte that was read can't stand there
abbrev pub passing : {A : Type 0} → (A → Bool) → Result (A × List ℕ) ℕ → Result (A × List ℕ) ℕ
passing test (Ok x) = if test x.0 then Ok x else Err (suc (length x.1))
passing test (Err left) = Err left

unfoldable pub read_if : {A : Type 0} → (A → Bool) → Reader A → Reader A
read_if test read bytes = passing test (read bytes)

-- a number in so many bytes, the lowest first, that is at most the limit: what is left of the limit bounds the higher bytes
unfoldable pub number : ℕ → ℕ → Reader ℕ
number zero limit = gives 0
number (suc size) limit = do
  low ← one (λ b. nat_le b limit)
  high ← number size ((limit - low) / 256)
  gives (low + 256 * high)

-- a number of four bytes that isn't 0
unfoldable pub nonzero : Reader ℕ
nonzero = read_if (λ n. not (n == 0)) (number 4 any_word)

-- one byte from 1 up to a limit
unfoldable pub from_one : ℕ → Reader ℕ
from_one limit = one (λ b. nat_le 1 b && nat_le b limit)

-- such a number in four bytes
unfoldable pub choice : ℕ → Reader ℕ
choice limit = do
  low ← from_one limit
  zeros ← number 3 0
  gives low

-- so many rows
unfoldable pub rows : {A : Type 0} → Reader A → ℕ → Reader (List A)
rows read zero = gives []
rows read (suc count) = do
  first ← read
  others ← rows read count
  gives (first ∷ others)

-- a count within a limit, and that many rows
unfoldable pub counted : {A : Type 0} → ℕ → Reader A → Reader (List A)
counted limit read = do
  count ← number 4 limit
  rows read count

-- ---- the parts of an image

-- so many bytes, of which the last isn't 0
unfoldable pub given : ℕ → Reader (List ℕ)
given zero = gives []
given (suc zero) = do
  last ← one (λ b. not (b == 0))
  gives (last ∷ [])
given (suc (suc count)) = do
  first ← one (λ b. true)
  others ← given (suc count)
  gives (first ∷ others)

unfoldable pub static_row : Reader StaticRow
static_row = do
  size ← number 8 any_number
  count ← number 8 most_object_bytes
  bytes ← given count
  gives (record { size = size; given = bytes })

unfoldable pub pointer_row : Reader PointerRow
pointer_row = do
  holder ← number 4 any_word
  offset ← number 8 any_number
  target ← number 4 any_word
  target_offset ← number 8 any_number
  gives (record { holder = holder; offset = offset; target = target; target_offset = target_offset })

unfoldable pub local_row : Reader LocalRow
local_row = do
  ordinal ← number 4 any_word
  place ← number 8 any_number
  size ← number 8 any_number
  gives (record { ordinal = ordinal; place = place; size = size })

unfoldable pub function_row : Reader FunctionRow
function_row = do
  entry ← number 4 any_word
  params ← number 4 any_word
  words ← number 4 any_word
  vars ← number 4 any_word
  allowance ← number 8 any_number
  locals ← counted most_variables local_row
  gives (record { entry = entry; params = params; words = words; vars = vars; allowance = allowance; locals = locals })

-- the fields behind the two bytes of 0
unfoldable pub operands_row : ℕ → ℕ → Reader Fields
operands_row op kind = do
  line ← number 4 (limits_of op).line
  a ← number 4 (limits_of op).a
  b ← number 4 (limits_of op).b
  c ← number 4 (limits_of op).c
  imm ← number 8 (limits_of op).imm
  gives (fields op kind line a b c imm)

unfoldable pub fields_row : Reader Fields
fields_row = do
  op ← from_one operations
  kind ← number 1 (limits_of op).kind
  zeros ← number 2 0
  operands_row op kind

unfoldable pub instruction_row : Reader Instr
instruction_row = do
  f ← fields_row
  gives (instruction f)

-- the bytes of a name: a letter or `_`, then letters, digits and `_` (C99 6.4.2.1)
unfoldable pub name_bytes : ℕ → Reader (List ℕ)
name_bytes zero = gives []
name_bytes (suc count) = do
  first ← one is_letter
  others ← rows (one is_name_byte) count
  gives (first ∷ others)

-- how many bytes of a text can stand in a name that begins there
abbrev pub leading : List ℕ → ℕ
leading text = if begins_with is_letter text then prefix_len is_name_byte text else 0

-- a name of so many bytes; a reserved word is none, and until its last byte another name can come of it
unfoldable pub name : ℕ → Reader (List ℕ)
name count = read_if (λ text. not (is_reserved text)) (name_bytes count)

unfoldable pub name_row : Reader NameRow
name_row = do
  holder ← number 4 any_word
  ordinal ← number 4 any_word
  line ← number 4 any_word
  word ← number 4 any_word
  kind ← number 4 most_kind
  count ← nonzero
  text ← name count
  gives (record { holder = holder; ordinal = ordinal; line = line; word = word; kind = kind; name = text })

-- ---- an image

abbrev pub version_of : ℕ → Version
version_of n = if n == 1 then version.One else version.Two

unfoldable pub version_word : Reader Version
version_word = do
  n ← choice 2
  gives (version_of n)

abbrev pub profile_of : ℕ → Profile
profile_of n = if n == 1 then profile.One else profile.Two

unfoldable pub profile_word : Reader Profile
profile_word = do
  n ← choice 2
  gives (profile_of n)

-- version 1 tells neither: its images have profile 1 and no names
unfoldable pub profile_in : Version → Reader Profile
profile_in version.One = gives profile.One
profile_in version.Two = profile_word

unfoldable pub names_in : Version → Reader (List NameRow)
names_in version.One = gives []
names_in version.Two = counted most_names name_row

-- the parts behind the head
unfoldable pub image_behind : Version → Profile → Reader Image
image_behind v p = do
  statics ← counted most_statics static_row
  pointers ← counted most_pointers pointer_row
  functions ← counted most_functions function_row
  main ← number 4 any_word
  code ← counted most_instructions instruction_row
  names ← names_in v
  gives (record { profile = p; statics = statics; pointers = pointers; functions = functions; main = main; code = code; names = names })

unfoldable pub image_parts : Reader Image
image_parts = do
  first ← exactly letters
  v ← version_word
  p ← profile_in v
  image_behind v p

-- nothing follows
abbrev pub ended : {A : Type 0} → Result (A × List ℕ) ℕ → Result A ℕ
ended (Ok x) = if length x.1 == 0 then Ok x.0 else Err (length x.1)
ended (Err left) = Err left

unfoldable pub image_of : List ℕ → Result Image ℕ
image_of bytes = ended (image_parts bytes)

-- ---- what the code answers

abbrev pub Fails : {A : Type 0} → Stop → Result A ℕ → Type 0
Fails stops.Memory read = Unit {0}
Fails (stops.Left left) read = read ≡ Err left

-- what was returned, seen by a view, is what is read, unless memory ran out
abbrev pub Gives : {X A : Type 0} → (X → A) → Result X Stop → Result A ℕ → Type 0
Gives view (Ok x) read = read ≡ Ok (view x)
Gives view (Err e) read = Fails e read
