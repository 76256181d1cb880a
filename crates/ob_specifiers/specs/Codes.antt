-- Types and members as lists of numbers, by which the prover tells lists of members apart.
use Rattle.std.specs.Prelude.{◌≡◌, ℕ, zero, suc, List, [], ◌∷◌, refl, slice_index_or}
use Rattle.std.proofs.Common.{ap}
use Rattle.std.specs.Coded.{Coded, code_by, coded×, coded_list, coded_ℕ}
use Rattle.ob_words.specs.declared.types.IntType.{IntType}
use Rattle.ob_words.specs.declared.types.IntType.TheVariants as int
use Rattle.ob_tree.specs.Types.{PlainType, PlainMember}
use Rattle.ob_tree.specs.Types.{PlainType as type}
use Rattle.ob_typed.specs.TypeTests.{int_number}

abbrev pub int_of : ℕ → IntType
int_of n =
    let kinds = int.Char ∷ (int.SChar ∷ (int.UChar ∷ (int.Short ∷ (int.UShort ∷ (int.Int ∷ (int.UInt ∷ (int.Long ∷ (int.ULong ∷ (int.LLong ∷ []))))))))) in
    slice_index_or kinds n int.ULLong

abbrev pub int_back : (t : IntType) → int_of (int_number t) ≡ t
int_back int.Char = refl
int_back int.SChar = refl
int_back int.UChar = refl
int_back int.Short = refl
int_back int.UShort = refl
int_back int.Int = refl
int_back int.UInt = refl
int_back int.Long = refl
int_back int.ULong = refl
int_back int.LLong = refl
int_back int.ULLong = refl

-- a type as its layers, the outermost first, each by the number of its form and a number of its own
abbrev pub layers : PlainType → List (ℕ × ℕ)
layers type.Void = (0, 0) ∷ []
layers (type.Int t) = (1, int_number t) ∷ []
layers (type.Pointer t) = (2, 0) ∷ layers t
layers (type.Array t n) = (3, n) ∷ layers t
layers (type.Struct n) = (4, n) ∷ []

abbrev pub layered : (form number : ℕ) → PlainType → PlainType
layered zero n t = type.Void
layered (suc zero) n t = type.Int (int_of n)
layered (suc (suc zero)) n t = type.Pointer t
layered (suc (suc (suc zero))) n t = type.Array t n
layered (suc (suc (suc (suc form)))) n t = type.Struct n

abbrev pub type_of : List (ℕ × ℕ) → PlainType
type_of [] = type.Void
type_of (l ∷ ls) = layered l.0 l.1 (type_of ls)

abbrev pub type_back : (t : PlainType) → type_of (layers t) ≡ t
type_back type.Void = refl
type_back (type.Int t) = ap type.Int (int_back t)
type_back (type.Pointer t) = ap type.Pointer (type_back t)
type_back (type.Array t n) = ap (λ u. type.Array u n) (type_back t)
type_back (type.Struct n) = refl

abbrev pub type_code : Coded PlainType
type_code = code_by (List (ℕ × ℕ)) (coded_list (coded× coded_ℕ coded_ℕ)) layers type_of type_back

abbrev pub member_code : Coded PlainMember
member_code = code_by (List ℕ × PlainType) (coded× (coded_list coded_ℕ) type_code) (λ m. (m.name, m.ty)) (λ p. record { name = p.0; ty = p.1 }) (λ _. refl)
