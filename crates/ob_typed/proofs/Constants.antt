-- An integer or character constant (C99 6.4.4) is a number of its type.
use Rattle.std.proofs.Common.{◌≡◌, ℕ, ◌≤◌, ◌<◌, ◌-◌, Bool, true, false, ℤ, pos, negsuc, Option, Some, None, List, [], ◌∷◌, refl, sym, arith, ⊎_elim, subst}
use Rattle.std.specs.Prelude.{cond, if◌then◌else◌, nat_le, nat_lt, find}
use Rattle.std.proofs.lemmas.Int.{ints}
use Rattle.std.proofs.lemmas.Bool.{leb-true}
use borrow.Author.Tests.{ltb-true}
use Rattle.ob_words.specs.declared.types.IntType.{IntType}
use Rattle.ob_words.specs.declared.types.IntType.TheVariants as int
use Rattle.ob_words.specs.Types.{IsNumber}
use Rattle.ob_tree.specs.declared.tokens.TokenKind.TheVariants as kind
use Rattle.ob_tree.specs.Characters.{Character, IsCharacter, char_value, value_of}
use Rattle.ob_tree.specs.Constants as constants
use Rattle.ob_tree.specs.Constants.{greatest, type_of, types}
use Rattle.ob_tree.specs.Valid.{IsSpelled}

-- ---- integer constants

few_fits : (t : IntType) (n : ℕ) → n ≤ greatest t → IsNumber t (pos n)
few_fits int.Char n h = record { from_least = omega (arith, ints); below_past = omega (arith, ints) }
few_fits int.SChar n h = record { from_least = omega (arith, ints); below_past = omega (arith, ints) }
few_fits int.UChar n h = record { from_least = omega (arith, ints); below_past = omega (arith, ints) }
few_fits int.Short n h = record { from_least = omega (arith, ints); below_past = omega (arith, ints) }
few_fits int.UShort n h = record { from_least = omega (arith, ints); below_past = omega (arith, ints) }
few_fits int.Int n h = record { from_least = omega (arith, ints); below_past = omega (arith, ints) }
few_fits int.UInt n h = record { from_least = omega (arith, ints); below_past = omega (arith, ints) }
few_fits int.Long n h = record { from_least = omega (arith, ints); below_past = omega (arith, ints) }
few_fits int.ULong n h = record { from_least = omega (arith, ints); below_past = omega (arith, ints) }
few_fits int.LLong n h = record { from_least = omega (arith, ints); below_past = omega (arith, ints) }
few_fits int.ULLong n h = record { from_least = omega (arith, ints); below_past = omega (arith, ints) }

-- what is found represents the number
abbrev Represents : ℕ → Option IntType → Type 0
Represents n None = Unit {0}
Represents n (Some t) = n ≤ greatest t

first_or : (n : ℕ) (b : Bool) (t : IntType) (after : Option IntType) → (b ≡ true → n ≤ greatest t) → Represents n after → Represents n (cond b (Some t) after)
first_or n true t after h i = h refl
first_or n false t after h i = i

find_represents : (n : ℕ) (ts : List IntType) → Represents n (find (λ t. nat_le n (greatest t)) ts)
find_represents n [] = tt
find_represents n (t ∷ ts) =
    first_or n (nat_le n (greatest t)) t (find (λ u. nat_le n (greatest u)) ts) (leb-true n (greatest t)) (find_represents n ts)

integer_fits : (z : ℤ) (t : IntType) (text after : List ℕ) → constants.IsNumber text after z t → IsNumber t z
integer_fits z t text after h =
    let found : h.amount ≤ greatest t = subst (Represents h.amount) h.type_is (find_represents h.amount (types h.base h.suffix)) in
    subst (IsNumber t) (sym h.value_is) (few_fits t h.amount found)

-- ---- character constants

abbrev IsSmall : Option ℤ → Type 0
IsSmall None = Unit {0}
IsSmall (Some z) = IsNumber int.Int z

small_if : (b : Bool) (z : ℤ) → (b ≡ true → IsNumber int.Int z) → IsSmall (if b then Some z else None)
small_if true z h = h refl
small_if false z h = tt

char_if : (b : Bool) (v : ℕ) → v ≤ 255 → IsNumber int.Int (if b then pos v else negsuc (255 - v))
char_if true v h = record { from_least = omega (arith, ints); below_past = omega (arith, ints) }
char_if false v h = record { from_least = omega (arith, ints); below_past = omega (arith, ints) }

below_byte : (v : ℕ) → v < 128 → IsNumber int.Int (pos v)
below_byte v h = record { from_least = omega (arith, ints); below_past = omega (arith, ints) }

value_small : (x : Character) → IsSmall (value_of x)
value_small (Character.Itself b) = small_if (nat_lt b 128) (pos b) (λ h. below_byte b (ltb-true b 128 h))
value_small (Character.Escape v) = small_if (nat_le v 255) (char_value v) (λ h. char_if (nat_lt v 128) v (leb-true v 255 h))
value_small Character.Unknown = tt

character_fits : (z : ℤ) (t : IntType) (text : List ℕ) → IsCharacter text z t → IsNumber t z
character_fits z t text h =
    let small : IsNumber int.Int z = subst IsSmall h.value_is (value_small h.character) in
    subst (λ u. IsNumber u z) (sym h.type_is) small

pub constant_fits : (z : ℤ) (t : IntType) → IsSpelled (kind.Number z t) → IsNumber t z
constant_fits z t h =
    ⊎_elim
    (λ (number : constants.IsNumber h.text h.after z t). integer_fits z t h.text h.after number)
    (λ (character : IsCharacter h.text z t). character_fits z t h.text character)
    h.spelled
