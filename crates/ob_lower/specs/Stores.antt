-- Assignments, compound assignments and steps (C99 6.5.16, 6.5.2.4, 6.5.3.1): of plain variables, which have a word w, and of places
-- in memory.
use Rattle.std.specs.Prelude.{ℕ, ◌+◌, Bool, true, false, ◌&&◌, ◌||◌, ℤ, List, [], ◌∷◌, ◌++◌, Option, Some, None, if◌then◌else◌}
use Rattle.ob_words.specs.declared.types.BinOp.{BinOp}
use Rattle.ob_words.specs.declared.types.IntType.{IntType}
use Rattle.ob_words.specs.Operators.{shifts}
use Rattle.ob_words.specs.Types.{has_all}
use Rattle.ob_model.specs.declared.values.LoadKind.{LoadKind}
use Rattle.ob_model.specs.declared.values.LoadKind.TheVariants.{Num, Ptr}
use Rattle.ob_code.specs.declared.instructions.Instr.{Instr}
use Rattle.ob_code.specs.declared.instructions.Instr.TheVariants as instr
use Rattle.ob_meaning.specs.Pointers.{stride}
use Rattle.ob_meaning.specs.Scalars.{Scalar}
use Rattle.ob_lower.specs.Homes.{Context}
use Rattle.ob_lower.specs.Instructions.{Operand, Want, into, dropped, finish, free_after, is_wanted, stands}
use Rattle.ob_lower.specs.Numbers.{Reading, whole, low}
use Rattle.ob_lower.specs.Places.{Based, near_or_none, number_in, offset_in}

-- ---- accesses

abbrev pub load : LoadKind → ℕ → Based → ℕ → ℕ → Instr
load kind line b offset t = instr.Load kind line t b.base offset

-- what a place holds, and the pointer to a place
abbrev pub load_code : Context → LoadKind → ℕ → Based → Want → ℕ → List Instr
load_code c kind line b want d =
    finish want d (b.code ++ (offset_in c b.offset 0 b.free).code) (load kind line b (offset_in c b.offset 0 b.free).word)

abbrev pub pointer_code : Context → Based → Want → ℕ → List Instr
pointer_code c b want d =
    finish want d (b.code ++ (offset_in c b.offset 0 b.free).code) (λ t. instr.Shift t b.base (offset_in c b.offset 0 b.free).word)

-- a word is stored at a place, where m is free
abbrev pub store_code : Context → LoadKind → ℕ → ℕ → Based → ℕ → List Instr
store_code c kind line word b m =
    (offset_in c b.offset 0 m).code ++ instr.Store kind line word b.base (offset_in c b.offset 0 m).word ∷ []

-- ---- `=`

-- of a number that is stored and otherwise dropped, the low bits are read
abbrev pub kind_reading : LoadKind → Reading
kind_reading (Num t) = low t
kind_reading Ptr = whole

abbrev pub stored_reading : Want → LoadKind → Reading
stored_reading (into t) kind = whole
stored_reading dropped kind = kind_reading kind

abbrev pub assigned_at : Context → LoadKind → ℕ → Based → Operand → Want → List Instr
assigned_at c kind line b o want =
    stands want (b.code ++ o.code ++ store_code c kind line o.word b (free_after o b.free)) o.word

abbrev pub assign_code : Context → LoadKind → ℕ → Based → (ℕ → Operand) → Want → List Instr
assign_code c kind line b operand want = assigned_at c kind line b (operand b.free) want

-- ---- a compound assignment, or a step, of a number

-- the right side of a shift is read whole
abbrev pub right_reading : BinOp → IntType → Reading
right_reading op k = if shifts op then whole else low k

-- the new value of word w, whose type is t, from the older one and an operand, where f is free
abbrev pub updated_word : BinOp → IntType → IntType → (w old f : ℕ) → Operand → List Instr
updated_word op k t w old f o =
    if has_all t k then instr.Binary k op w old o.word ∷ [] else instr.Binary k op f old o.word ∷ instr.Convert t w f ∷ []

-- the older value is kept in the free word where it is wanted, or the right side assigns the variable
abbrev pub older_kept : Bool → (w d : ℕ) → Operand
older_kept true w d = record { code = instr.Move d w ∷ []; word = d }
older_kept false w d = record { code = []; word = w }

abbrev pub updated_by : (old : Operand) → ℕ → Operand → (ℕ → ℕ → Operand → List Instr) → List Instr
updated_by old f o update = old.code ++ o.code ++ update old.word f o

abbrev pub updated_from : (old : Operand) → ℕ → (ℕ → Operand) → (ℕ → ℕ → Operand → List Instr) → List Instr
updated_from old f operand update = updated_by old f (operand f) update

abbrev pub older_or_own : Bool → (older own : ℕ) → ℕ
older_or_own true older own = older
older_or_own false older own = own

-- `update` gives the variable its new value
abbrev pub update_from : (post : Bool) → (w : ℕ) → (old : Operand) → (ℕ → Operand) → (ℕ → ℕ → Operand → List Instr) → Want → ℕ → List Instr
update_from post w old operand update want d =
    stands want (updated_from old (free_after old d) operand update) (older_or_own post d w)

abbrev pub update_variable : (post changed : Bool) → (w : ℕ) → (ℕ → Operand) → (ℕ → ℕ → Operand → List Instr) → Want → ℕ → List Instr
update_variable post changed w operand update want d =
    update_from post w (older_kept ((post && is_wanted want) || changed) w d) operand update want d

-- a value in memory: it is loaded into the free word n, and the new one comes into the word after, m; `update` gives it there
abbrev pub updated_at : Context → LoadKind → ℕ → Based → Operand → (ℕ → ℕ → Operand → List Instr) → List Instr
updated_at c kind line b o update =
    load_code c kind line b (into b.free) b.free ++ o.code ++ update b.free (b.free + 1) o ++ store_code c kind line (b.free + 1) b (b.free + 2)

abbrev pub update_memory : Context → LoadKind → ℕ → (post : Bool) → Based → (ℕ → Operand) → (ℕ → ℕ → Operand → List Instr) → Want → List Instr
update_memory c kind line post b operand update want =
    stands want (updated_at c kind line b (operand (b.free + 1)) update) (older_or_own post b.free (b.free + 1))

-- the new number is converted where it is wanted and may be none of the type
abbrev pub converted_if : Bool → IntType → ℕ → List Instr
converted_if true t m = instr.Convert t m m ∷ []
converted_if false t m = []

abbrev pub is_unfit : (post : Bool) → Want → IntType → IntType → Bool
is_unfit true want t k = false
is_unfit false dropped t k = false
is_unfit false (into word) t k = if has_all t k then false else true

abbrev pub updated_number : BinOp → IntType → IntType → (post : Bool) → Want → (old m : ℕ) → Operand → List Instr
updated_number op k t post want old m o = instr.Binary k op m old o.word ∷ converted_if (is_unfit post want t k) t m

-- ---- one of a pointer

-- how far it moves, in a word, where m is free: a known number of bytes, or elements of a size
abbrev pub known_stride : (minus : Bool) → ℕ → Option ℤ → Option ℤ
known_stride minus scale None = None
known_stride minus scale (Some n) = near_or_none (stride minus scale n)

abbrev pub slide_in : Context → ℤ → ℕ → Operand → Operand
slide_in c step m o = record { code = o.code ++ instr.Slide m c.zero o.word step ∷ []; word = m }

abbrev pub distance : Context → Option ℤ → ℤ → (ℕ → Operand) → ℕ → Operand
distance c (Some bytes) step operand m = number_in c bytes m
distance c None step operand m = slide_in c step m (operand m)

abbrev pub moved_word : (old t : ℕ) → Operand → List Instr
moved_word old t o = instr.Shift t old o.word ∷ []

-- ---- structures: each scalar is loaded and stored, in order; m and the word after it are free

abbrev pub scalar_loaded : Context → ℕ → Based → Scalar → ℕ → List Instr
scalar_loaded c line from s m =
    (offset_in c from.offset s.offset m).code ++ instr.Load s.kind line m from.base (offset_in c from.offset s.offset m).word ∷ []

abbrev pub scalar_stored : Context → ℕ → Based → Scalar → ℕ → List Instr
scalar_stored c line to s m =
    (offset_in c to.offset s.offset (m + 1)).code ++ instr.Store s.kind line m to.base (offset_in c to.offset s.offset (m + 1)).word ∷ []

abbrev pub copy_code : Context → ℕ → Based → Based → List Scalar → ℕ → List Instr
copy_code c line to from [] m = []
copy_code c line to from (s ∷ ss) m =
    scalar_loaded c line from s m ++ scalar_stored c line to s m ++ copy_code c line to from ss m

abbrev pub copied : Context → ℕ → Based → Based → List Scalar → List Instr
copied c line to from ss = to.code ++ from.code ++ copy_code c line to from ss from.free

abbrev pub copies_code : Context → ℕ → Based → (ℕ → Based) → List Scalar → List Instr
copies_code c line to from ss = copied c line to (from to.free) ss
