-- Tests on types that hold tell that the types are one.
use Rattle.std.proofs.Common.{◌≡◌, ℕ, zero, suc, Bool, true, false, List, [], ◌∷◌, refl, sym, ap, ◌∙◌}
use Rattle.std.specs.Prelude.{nat_eq, ◌&&◌, ◌||◌, not}
use Rattle.std.specs.Str.{bytes_eq}
use Rattle.std.proofs.lemmas.Bool.{eqb-true}
use Rattle.std.proofs.lemmas.Slice.Eq.{bytes_eq-Decides}
use Rattle.ob_words.specs.declared.types.IntType.{IntType}
use Rattle.ob_words.specs.declared.types.IntType.TheVariants.{Char, SChar, UChar, Short, UShort, Int, UInt, Long, ULong, LLong, ULLong}
use Rattle.ob_tree.specs.Types.{PlainType}
use Rattle.ob_tree.specs.Types.{PlainType as type}
use Rattle.ob_typed.specs.TypeTests.{int_number, same_int, same_type, same_types}

-- ---- tests

pub both : (a b : Bool) → (a && b) ≡ true → (a ≡ true) × (b ≡ true)
both true b h = (refl, h)
both false b h = absurd (cc)

pub neither : (a b : Bool) → (a || b) ≡ false → (a ≡ false) × (b ≡ false)
neither true b h = absurd (cc)
neither false b h = (refl, h)

pub denied : (a : Bool) → not a ≡ false → a ≡ true
denied true h = refl
denied false h = absurd (cc)

pub same_bytes : (a b : List ℕ) → bytes_eq a b ≡ true → a ≡ b
same_bytes a b h = (bytes_eq-Decides a b).0 h

pub equal_bytes : (a : List ℕ) → bytes_eq a a ≡ true
equal_bytes a = (bytes_eq-Decides a a).1 refl

-- ---- integer types

-- the integer type of a number
abbrev int_at : ℕ → IntType
int_at zero = Char
int_at (suc zero) = SChar
int_at (suc (suc zero)) = UChar
int_at (suc (suc (suc zero))) = Short
int_at (suc (suc (suc (suc zero)))) = UShort
int_at (suc (suc (suc (suc (suc zero))))) = Int
int_at (suc (suc (suc (suc (suc (suc zero)))))) = UInt
int_at (suc (suc (suc (suc (suc (suc (suc zero))))))) = Long
int_at (suc (suc (suc (suc (suc (suc (suc (suc zero)))))))) = ULong
int_at (suc (suc (suc (suc (suc (suc (suc (suc (suc zero))))))))) = LLong
int_at (suc (suc (suc (suc (suc (suc (suc (suc (suc (suc n)))))))))) = ULLong

int_again : (k : IntType) → int_at (int_number k) ≡ k
int_again Char = refl
int_again SChar = refl
int_again UChar = refl
int_again Short = refl
int_again UShort = refl
int_again Int = refl
int_again UInt = refl
int_again Long = refl
int_again ULong = refl
int_again LLong = refl
int_again ULLong = refl

pub same_ints : (a b : IntType) → same_int a b ≡ true → a ≡ b
same_ints a b h = sym (int_again a) ∙ ap int_at (eqb-true (int_number a) (int_number b) h) ∙ int_again b

-- ---- types

pub one_type : (t u : PlainType) → same_type t u ≡ true → t ≡ u
one_type type.Void type.Void h = refl
one_type (type.Int a) (type.Int b) h = ap type.Int (same_ints a b h)
one_type (type.Pointer t) (type.Pointer u) h = ap type.Pointer (one_type t u h)
one_type (type.Array t m) (type.Array u n) h =
    let parts = both (nat_eq m n) (same_type t u) h in
    ap (λ x. type.Array x m) (one_type t u parts.1) ∙ ap (type.Array u) (eqb-true m n parts.0)
one_type (type.Struct m) (type.Struct n) h = ap type.Struct (eqb-true m n h)
one_type _ _ h = absurd (cc)

pub one_list : (ts us : List PlainType) → same_types ts us ≡ true → ts ≡ us
one_list [] [] h = refl
one_list (t ∷ ts) (u ∷ us) h =
    let parts = both (same_type t u) (same_types ts us) h in
    ap (λ x. x ∷ ts) (one_type t u parts.0) ∙ ap (λ xs. u ∷ xs) (one_list ts us parts.1)
one_list _ _ h = absurd (cc)
