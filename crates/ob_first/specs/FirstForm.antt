-- The programs that are run so far: a function `main` that prints bytes and returns a number, each written as a sum of constants
-- of type `int` (C99 6.9.1, 6.8.6.4, 6.5.6, 6.4.4.1), and what such a program does. A sum that leaves the range of `int` wraps:
-- it is the one number of the type that is congruent to it (6.3.1.3).
use Rattle.std.specs.Prelude.{◌≡◌, ℕ, ◌≤◌, ℤ, pos, List, [], ◌∷◌, ◌++◌, length, map, sum, codes}
use Rattle.std.specs.List.{AllByRecursion, flat_map}
use Rattle.ob_words.specs.declared.types.IntType.TheVariants.{Int}
use Rattle.ob_words.specs.Conversion.{convert, residue}
use Rattle.ob_tree.specs.declared.tokens.TokenKind.{TokenKind}
use Rattle.ob_tree.specs.declared.tokens.TokenKind.TheVariants as kind
use Rattle.ob_tree.specs.declared.tokens.Keyword.TheVariants as word
use Rattle.ob_tree.specs.declared.tokens.Sign.TheVariants as sign
use Rattle.ob_tree.specs.Programs.{ProgramTree}
use Rattle.ob_tree.specs.ProgramSpelling.{spell_program}

-- the constants of each print's sum, and of the result's
pub record FirstForm : Type 0 where
  pub prints : List (List ℕ)
  pub result : List ℕ

-- ---- its tokens

-- the greatest constant, and number of type `int`
abbrev pub greatest_constant : ℕ
greatest_constant = 2147483647

-- a sum has 1 to 200 constants
abbrev pub most_constants : ℕ
most_constants = 200

pub record IsSum (constants : List ℕ) : Type 0 where
  pub some : 1 ≤ length constants
  pub few : length constants ≤ most_constants
  pub small : AllByRecursion (λ n. n ≤ greatest_constant) constants

abbrev pub constant_kind : ℕ → TokenKind
constant_kind constant = kind.Number (pos constant) Int

-- a constant after the first
abbrev pub addend_kinds : ℕ → List TokenKind
addend_kinds constant = kind.Sign sign.Plus ∷ (constant_kind constant ∷ [])

abbrev pub sum_kinds : List ℕ → List TokenKind
sum_kinds [] = []
sum_kinds (constant ∷ more) = constant_kind constant ∷ flat_map addend_kinds more

-- `putchar(SUM);`
abbrev pub print_kinds : List ℕ → List TokenKind
print_kinds constants =
    kind.Name (codes "putchar") ∷ (kind.Sign sign.OpenParen ∷ (sum_kinds constants ++ kind.Sign sign.CloseParen ∷ (kind.Sign sign.Semi ∷ [])))

-- `return SUM;}`
abbrev pub return_kinds : List ℕ → List TokenKind
return_kinds constants = kind.Word word.Return ∷ (sum_kinds constants ++ kind.Sign sign.Semi ∷ (kind.Sign sign.CloseBrace ∷ []))

abbrev pub body_kinds : List (List ℕ) → List ℕ → List TokenKind
body_kinds prints result = flat_map print_kinds prints ++ return_kinds result

-- `int main(void){`, then the prints and the result
abbrev pub first_kinds : FirstForm → List TokenKind
first_kinds f =
    kind.Word word.Int ∷ (kind.Name (codes "main") ∷ (kind.Sign sign.OpenParen ∷ (kind.Word word.Void ∷ (kind.Sign sign.CloseParen
    ∷ (kind.Sign sign.OpenBrace ∷ body_kinds f.prints f.result)))))

-- its sums are those that a form can have
pub record HasSums (f : FirstForm) : Type 0 where
  pub prints : AllByRecursion IsSum f.prints
  pub result : IsSum f.result

-- the program has the form f
pub record HasFirstForm (p : ProgramTree) (f : FirstForm) : Type 0 where
  pub sums : HasSums f
  pub spelled : spell_program p ≡ first_kinds f

-- ---- what it does

-- the value of a sum of constants: computed in `int`, so it wraps
abbrev pub sum_value : List ℕ → ℤ
sum_value constants = convert Int (pos (sum constants))

-- the byte that `putchar` writes for a number: the number as an unsigned char (C99 7.19.7.3)
abbrev pub byte_of : ℤ → ℕ
byte_of n = residue 256 n

-- the bytes that the prints write
abbrev pub printed : FirstForm → List ℕ
printed f = map (λ constants. byte_of (sum_value constants)) f.prints
