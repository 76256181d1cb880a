-- Types, operators and relations have their numbers back, and numbers within a limit their values.
use Rattle.std.proofs.Common.{◌≡◌, ℕ, zero, suc, ◌+◌, ◌<◌, ◌≤◌, refl, subst, arith, inl, inr}
use Rattle.std.proofs.lemmas.Bool.{cases_lt}
use Rattle.ob_words.specs.declared.types.IntType.{IntType}
use Rattle.ob_words.specs.declared.types.IntType.TheVariants.{Char, SChar, UChar, Short, UShort, Int, UInt, Long, ULong, LLong, ULLong}
use Rattle.ob_words.specs.declared.types.BinOp.{BinOp}
use Rattle.ob_words.specs.declared.types.BinOp.TheVariants.{Add, Sub, Mul, Div, Rem, And, Or, Xor, Shl, Shr}
use Rattle.ob_words.specs.declared.types.Relation.{Relation}
use Rattle.ob_words.specs.declared.types.Relation.TheVariants.{Lt, Gt, Le, Ge, Eq, Ne}
use Rattle.ob_model.specs.declared.values.LoadKind.{LoadKind}
use Rattle.ob_model.specs.declared.values.LoadKind.TheVariants.{Num, Ptr}
use Rattle.ob_code.specs.Rules.{IsOrdering}
use Rattle.ob_image.specs.Instructions.{integer_type, integer_types, load_kind, operator, operators, relation, relations}
use Rattle.ob_image.specs.Layout.{type_number, kind_number, operator_number, relation_number}

-- ---- from the value to the number and back

pub type_back : (t : IntType) → integer_type (type_number t) ≡ t
unfolding integer_type integer_types
type_back Char = refl
type_back SChar = refl
type_back UChar = refl
type_back Short = refl
type_back UShort = refl
type_back Int = refl
type_back UInt = refl
type_back Long = refl
type_back ULong = refl
type_back LLong = refl
type_back ULLong = refl

pub kind_back : (k : LoadKind) → load_kind (kind_number k) ≡ k
unfolding load_kind
kind_back (Num Char) = refl
kind_back (Num SChar) = refl
kind_back (Num UChar) = refl
kind_back (Num Short) = refl
kind_back (Num UShort) = refl
kind_back (Num Int) = refl
kind_back (Num UInt) = refl
kind_back (Num Long) = refl
kind_back (Num ULong) = refl
kind_back (Num LLong) = refl
kind_back (Num ULLong) = refl
kind_back Ptr = refl

pub operator_back : (t : BinOp) → operator (operator_number t) ≡ t
unfolding operator operators
operator_back Add = refl
operator_back Sub = refl
operator_back Mul = refl
operator_back Div = refl
operator_back Rem = refl
operator_back And = refl
operator_back Or = refl
operator_back Xor = refl
operator_back Shl = refl
operator_back Shr = refl

pub relation_back : (t : Relation) → relation (relation_number t) ≡ t
unfolding relation relations
relation_back Lt = refl
relation_back Gt = refl
relation_back Le = refl
relation_back Ge = refl
relation_back Eq = refl
relation_back Ne = refl

-- ---- from the number to the value and back: by cases on each number up to a limit

-- what holds of so many numbers from one on holds of each
abbrev pub AllFrom : (ℕ → Type 0) → ℕ → ℕ → Type 0
AllFrom P k zero = Unit {0}
AllFrom P k (suc count) = P k × AllFrom P (suc k) count

pub each_from : (P : ℕ → Type 0) (k count : ℕ) → AllFrom P k count → (n : ℕ) → k ≤ n → n < k + count → P n
each_from P k zero all n ge lt = absurd (omega arith)
each_from P k (suc count) all n ge lt =
    elim (cases_lt k n) [
      | inl more ↦ each_from P (suc k) count all.1 n (omega arith) (omega arith)
      | inr here ↦ let e : k ≡ n = omega arith in subst P e all.0
    ]

pub type_again : (n : ℕ) → n ≤ 10 → type_number (integer_type n) ≡ n
unfolding integer_type integer_types
type_again n le = each_from (λ n. type_number (integer_type n) ≡ n) 0 11 (refl, (refl, (refl, (refl, (refl, (refl, (refl, (refl, (refl, (refl, (refl, tt))))))))))) n (omega arith) (omega arith)

pub kind_again : (n : ℕ) → n ≤ 11 → kind_number (load_kind n) ≡ n
unfolding load_kind
kind_again n le = each_from (λ n. kind_number (load_kind n) ≡ n) 0 12 (refl, (refl, (refl, (refl, (refl, (refl, (refl, (refl, (refl, (refl, (refl, (refl, tt)))))))))))) n (omega arith) (omega arith)

pub operator_again : (n : ℕ) → n ≤ 9 → operator_number (operator n) ≡ n
unfolding operator operators
operator_again n le = each_from (λ n. operator_number (operator n) ≡ n) 0 10 (refl, (refl, (refl, (refl, (refl, (refl, (refl, (refl, (refl, (refl, tt)))))))))) n (omega arith) (omega arith)

pub relation_again : (n : ℕ) → n ≤ 5 → relation_number (relation n) ≡ n
unfolding relation relations
relation_again n le = each_from (λ n. relation_number (relation n) ≡ n) 0 6 (refl, (refl, (refl, (refl, (refl, (refl, tt)))))) n (omega arith) (omega arith)

-- ---- the greatest numbers

pub type_most : (t : IntType) → type_number t ≤ 10
type_most Char = omega arith
type_most SChar = omega arith
type_most UChar = omega arith
type_most Short = omega arith
type_most UShort = omega arith
type_most Int = omega arith
type_most UInt = omega arith
type_most Long = omega arith
type_most ULong = omega arith
type_most LLong = omega arith
type_most ULLong = omega arith

pub kind_most : (k : LoadKind) → kind_number k ≤ 11
kind_most (Num t) = omega (arith, type_most t)
kind_most Ptr = omega arith

pub operator_most : (t : BinOp) → operator_number t ≤ 9
operator_most Add = omega arith
operator_most Sub = omega arith
operator_most Mul = omega arith
operator_most Div = omega arith
operator_most Rem = omega arith
operator_most And = omega arith
operator_most Or = omega arith
operator_most Xor = omega arith
operator_most Shl = omega arith
operator_most Shr = omega arith

pub relation_most : (t : Relation) → relation_number t ≤ 5
relation_most Lt = omega arith
relation_most Gt = omega arith
relation_most Le = omega arith
relation_most Ge = omega arith
relation_most Eq = omega arith
relation_most Ne = omega arith

-- the relations that order pointers come first
pub ordering_most : (t : Relation) → IsOrdering t → relation_number t ≤ 3
ordering_most Lt h = omega arith
ordering_most Gt h = omega arith
ordering_most Le h = omega arith
ordering_most Ge h = omega arith
ordering_most Eq h = absurd h
ordering_most Ne h = absurd h
