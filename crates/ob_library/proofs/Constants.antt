-- The constants and the string of the library are those of tokens.
use Rattle.std.proofs.Common.{◌≡◌, ℕ, ℤ, pos, inl, inr, List, [], ◌∷◌, ◌++◌, Bool, false, ◌||◌, Some, refl, arith, sym, subst}
use Rattle.std.specs.Prelude.{codes, nat_eq, IsTrue}
use Rattle.std.specs.List.{AllByRecursion, list_all}
use Rattle.std.specs.Str.{bytes_eq}
use Rattle.std.proofs.lemmas.Bool.{eqb-true, or_cases, false≢true}
use Rattle.std.proofs.lemmas.Slice.Eq.{bytes_eq-Decides}
use Rattle.std.proofs.lemmas.List.{append-nil}
use Rattle.ob_words.specs.declared.types.IntType.{IntType}
use Rattle.ob_words.specs.declared.types.IntType.TheVariants as int
use Rattle.ob_tree.specs.declared.constants.Base.{Base}
use Rattle.ob_tree.specs.declared.constants.Suffix.{Suffix}
use Rattle.ob_tree.specs.declared.tokens.TokenKind.TheVariants as kind
use Rattle.ob_tree.specs.Bytes.{begins_with, is_digit, is_nonzero_digit, is_octal_digit}
use Rattle.ob_tree.specs.Constants.{number, type_of}
use Rattle.ob_tree.specs.Valid.{IsSpelled, ValidStrings}

-- a decimal constant of type int
decimal : (text : List ℕ) → IsTrue (begins_with is_nonzero_digit text) → IsTrue (list_all is_digit text) → type_of Base.Decimal Suffix.Plain (number 10 text) ≡ Some int.Int
    → IsSpelled (kind.Number (pos (number 10 text)) int.Int)
decimal text first all ty = record {
  text = text;
  after = [];
  spelled = inl (record {
    base = Base.Decimal;
    suffix = Suffix.Plain;
    amount = number 10 text;
    constant = record {
      prefixed = text;
      digits = text;
      ending = [];
      text_is = sym (append-nil text);
      digits_are = (refl, first, all);
      ending_is = (22, omega arith, refl);
      value_is = refl;
    };
    type_is = ty;
    value_is = refl;
    apart = λ h. false≢true h;
  });
}

-- `0` is octal
zero_spelled : IsSpelled (kind.Number (pos (number 10 (codes "0"))) int.Int)
unfolding is_octal_digit
zero_spelled = record {
  text = codes "0";
  after = [];
  spelled = inl (record {
    base = Base.Octal;
    suffix = Suffix.Plain;
    amount = 0;
    constant = record {
      prefixed = codes "0";
      digits = codes "0";
      ending = [];
      text_is = refl;
      digits_are = (refl, refl, refl);
      ending_is = (22, omega arith, refl);
      value_is = refl;
    };
    type_is = refl;
    value_is = refl;
    apart = λ h. false≢true h;
  });
}

abbrev constants : List (List ℕ)
constants =
    codes "0" ∷ (codes "1" ∷ (codes "9" ∷ (codes "10" ∷ (codes "13" ∷ (codes "24" ∷ (
    codes "32" ∷ (codes "43" ∷ (codes "45" ∷ (codes "48" ∷ (codes "57" ∷ []))))))))))

abbrev AreConstants : List (List ℕ) → Type 0
AreConstants ts = AllByRecursion (λ t. IsSpelled (kind.Number (pos (number 10 t)) int.Int)) ts

constants_spelled : AreConstants constants
unfolding is_nonzero_digit is_digit
constants_spelled = (zero_spelled, (decimal (codes "1") refl refl refl, (decimal (codes "9") refl refl refl, (decimal (codes "10") refl refl refl, (decimal (codes "13") refl refl refl, (decimal (codes "24") refl refl refl, (decimal (codes "32") refl refl refl, (decimal (codes "43") refl refl refl, (decimal (codes "45") refl refl refl, (decimal (codes "48") refl refl refl, (decimal (codes "57") refl refl refl, tt)))))))))))

abbrev has_value : ℕ → List (List ℕ) → Bool
has_value n [] = false
has_value n (t ∷ ts) = nat_eq n (number 10 t) || has_value n ts

among : (n : ℕ) (ts : List (List ℕ)) → AreConstants ts → IsTrue (has_value n ts) → IsSpelled (kind.Number (pos n) int.Int)
among n [] a h = absurd (false≢true h)
among n (t ∷ ts) a h = elim (or_cases (nat_eq n (number 10 t)) (has_value n ts) h) [
  | inl e ↦ subst (λ m. IsSpelled (kind.Number (pos m) int.Int)) (sym (eqb-true n (number 10 t) e)) a.0
  | inr e ↦ among n ts a.1 e
]

-- a number that the library has
abbrev pub number_fits : ℤ → IntType → Bool
number_fits (pos n) int.Int = has_value n constants
number_fits v t = false

pub number_spelled : (v : ℤ) (t : IntType) → IsTrue (number_fits v t) → IsSpelled (kind.Number v t)
number_spelled (pos n) int.Int h = among n constants constants_spelled h
number_spelled v t h = absurd (false≢true h)

abbrev digits : List ℕ
digits = codes "0123456789abcdef"

digits_spelled : IsSpelled (kind.Str digits)
digits_spelled = record {
  text = 34 ∷ (digits ++ 34 ∷ []);
  after = [];
  spelled = record { body = digits; text_is = refl; inside = refl; bytes_are = refl };
}

-- the library's string
abbrev pub strings_fit : List (List ℕ) → Bool
strings_fit (s ∷ []) = bytes_eq s digits
strings_fit ss = false

pub strings_spelled : (ss : List (List ℕ)) → IsTrue (strings_fit ss) → ValidStrings ss
strings_spelled (s ∷ []) h = (subst (λ x. IsSpelled (kind.Str x)) (sym ((bytes_eq-Decides s digits).0 h)) digits_spelled, tt)
strings_spelled ss h = absurd (false≢true h)
