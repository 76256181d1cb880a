-- The operands of a node. One that is a plain variable is read where it stands, unless what is evaluated after it assigns the variable:
-- then its value waits in a free word.
use Rattle.std.specs.Prelude.{ℕ, Bool, true, false, ℤ, List, [], ◌∷◌, ◌++◌, Option, Some, None}
use Rattle.ob_words.specs.declared.types.IntType.{IntType}
use Rattle.ob_words.specs.declared.types.Relation.{Relation}
use Rattle.ob_words.specs.declared.types.Relation.TheVariants.{Eq, Ne}
use Rattle.ob_code.specs.declared.instructions.Instr.{Instr}
use Rattle.ob_code.specs.declared.instructions.Instr.TheVariants as instr
use Rattle.ob_lower.specs.Instructions.{Operand, Want, into, dropped, finish, free_after, in_free, in_word, number_code}

-- an operand that waits while the rest of its expression is evaluated, which assigns the variables of some words
abbrev pub held : Bool → (Want → ℕ → List Instr) → Operand → ℕ → Operand
held true code o d = in_free code d
held false code o d = o

abbrev pub held_if : (ℕ → Bool) → (Want → ℕ → List Instr) → Operand → ℕ → Operand
held_if rest code o d = held (rest o.word) code o d

abbrev pub hold : (ℕ → Bool) → (Want → ℕ → List Instr) → (ℕ → Operand) → ℕ → Operand
hold rest code operand d = held_if rest code (operand d) d

-- ---- two operands

pub record Pair : Type 0 where
  pub code : List Instr
  pub left : ℕ
  pub right : ℕ

abbrev pub pair_of : Operand → Operand → Pair
pair_of x y = record { code = x.code ++ y.code; left = x.word; right = y.word }

abbrev pub pair : Operand → (ℕ → Operand) → ℕ → Pair
pair x right d = pair_of x (right (free_after x d))

-- the left one waits for the right one
abbrev pub two : (ℕ → Bool) → (Want → ℕ → List Instr) → (left right : ℕ → Operand) → ℕ → Pair
two rest code left right d = pair (hold rest code left d) right d

abbrev pub operator : Want → ℕ → Pair → (ℕ → ℕ → ℕ → Instr) → List Instr
operator want d p last = finish want d p.code (λ t. last t p.left p.right)

-- ---- two pointers: they are the same where their words are, and others are ordered

abbrev pub same : Pair → ℕ → Operand
same p d = record { code = p.code ++ instr.Same d p.left p.right ∷ []; word = d }

abbrev pub compare_pointers : Relation → ℕ → Pair → Want → ℕ → List Instr
compare_pointers Eq null p want d = operator want d p (λ t x y. instr.Same t x y)
compare_pointers Ne null p want d = finish want d (same p d).code (λ t. instr.Same t d null)
compare_pointers r null p want d = operator want d p (λ t x y. instr.Order r t x y)

-- ---- constants

-- the value of a constant, or of another expression
abbrev pub constant_or : Option ℤ → (Want → ℕ → List Instr) → Want → ℕ → List Instr
constant_or (Some n) other want d = number_code want n
constant_or None other want d = other want d

-- 0 and null stand in the zero word
abbrev pub zero_or : Bool → ℕ → (ℕ → Operand) → ℕ → Operand
zero_or true word other d = in_word word
zero_or false word other d = other d

-- a conversion that does nothing, and another one
abbrev pub needless_or : Bool → (needless other : ℕ → Operand) → ℕ → Operand
needless_or true needless other d = needless d
needless_or false needless other d = other d

abbrev pub convert_code : Bool → IntType → (Want → ℕ → List Instr) → Operand → Want → ℕ → List Instr
convert_code needless k code o dropped d = code dropped d
convert_code true k code o (into t) d = code (into t) d
convert_code false k code o (into t) d = o.code ++ instr.Convert k t o.word ∷ []

-- ---- places

-- one that is a plain variable, and another one
abbrev pub variable_or : {A : Type 0} → Option ℕ → (ℕ → A) → (ℕ → A) → ℕ → A
variable_or {A} (Some w) variable other d = variable w
variable_or {A} None variable other d = other d

-- the value of an assignment to a plain variable stands in its word
abbrev pub assigned : (Want → ℕ → List Instr) → ℕ → ℕ → Operand
assigned code d w = record { code = code dropped d; word = w }
