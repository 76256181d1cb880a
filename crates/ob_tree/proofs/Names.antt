-- A name is no keyword and no qualifier, and what is neither, of the right bytes, is a name.
use Rattle.std.proofs.Common.{◌≡◌, ℕ, inl, inr, List, [], ◌∷◌, ◌++◌, map, Bool, true, false, not, ◌&&◌, refl, sym, ◌∙◌, ap}
use Rattle.std.specs.Prelude.{codes}
use Rattle.std.specs.List.{list_all, list_any}
use Rattle.std.specs.Str.{bytes_eq}
use Rattle.std.proofs.lemmas.Bool.{and_parts, and_from, or_cases, false≢true}
use Rattle.std.proofs.lemmas.Slice.Eq.{bytes_eq-Decides}
use Rattle.ob_base.specs.Names.{is_letter, is_name_byte, begins_with, reserved_words, is_reserved, IsName}
use Rattle.ob_tree.specs.Words.{word_text, IsQualifier}
use Rattle.ob_tree.specs.declared.tokens.Keyword.{Keyword}
use Rattle.ob_tree.specs.declared.tokens.Keyword.TheVariants as word

abbrev keywords : List Keyword
keywords =
    word.Break ∷ (word.Char ∷ (word.Continue ∷ (word.Do ∷ (word.Else ∷ (word.For ∷ (
    word.If ∷ (word.Int ∷ (word.Long ∷ (word.Return ∷ (word.Short ∷ (word.Signed ∷ (
    word.Sizeof ∷ (word.Static ∷ (word.Struct ∷ (word.Unsigned ∷ (word.Void ∷ (word.While ∷ (
    word.Null ∷ (word.Eof ∷ (word.SizeT ∷ (word.Auto ∷ (word.Case ∷ (word.Default ∷ (
    word.Double ∷ (word.Enum ∷ (word.Extern ∷ (word.Float ∷ (word.Goto ∷ (word.Inline ∷ (
    word.Switch ∷ (word.Typedef ∷ (word.Union ∷ (word.Volatile ∷ (word.Bool ∷ (word.Complex ∷ (
    word.Imaginary ∷ ([])))))))))))))))))))))))))))))))))))))

abbrev qualifiers : List (List ℕ)
qualifiers = codes "const" ∷ (codes "register" ∷ (codes "restrict" ∷ []))

reserved : reserved_words ≡ map word_text keywords ++ qualifiers
reserved = refl

keyword-reserved : (k : Keyword) → is_reserved (word_text k) ≡ true
keyword-reserved word.Break = refl
keyword-reserved _ = refl

same : (x y : List ℕ) → bytes_eq x y ≡ true → x ≡ y
same x y e = (bytes_eq-Decides x y).0 e

parts : (t : List ℕ) → IsName t → (begins_with is_letter t ≡ true) × (list_all is_name_byte t ≡ true) × (not (is_reserved t) ≡ true)
parts t h =
    let a = and_parts (begins_with is_letter t) (list_all is_name_byte t && not (is_reserved t)) h in
    let b = and_parts (list_all is_name_byte t) (not (is_reserved t)) a.1 in
    (a.0, b.0, b.1)

pub first-letter : (t : List ℕ) → IsName t → begins_with is_letter t ≡ true
first-letter t h = (parts t h).0

pub all-letters : (t : List ℕ) → IsName t → list_all is_name_byte t ≡ true
all-letters t h = (parts t h).1

unreserved : (t : List ℕ) → IsName t → is_reserved t ≡ true → ⊥
unreserved t h e = let n : not (is_reserved t) ≡ true = (parts t h).2 in let z : not true ≡ true = ap not (sym e) ∙ n in cc

pub no-keyword : (t : List ℕ) → IsName t → (k : Keyword) → t ≡ word_text k → ⊥
no-keyword t h k e = unreserved t h (ap is_reserved e ∙ keyword-reserved k)

pub no-qualifier : (t : List ℕ) → IsName t → IsQualifier t → ⊥
no-qualifier t h (inl e) = unreserved t h (ap is_reserved e)
no-qualifier t h (inr (inl e)) = unreserved t h (ap is_reserved e)
no-qualifier t h (inr (inr e)) = unreserved t h (ap is_reserved e)

no-any : (t : List ℕ) (ks : List Keyword) → ((k : Keyword) → t ≡ word_text k → ⊥) → list_any (bytes_eq t) qualifiers ≡ false
    → list_any (bytes_eq t) (map word_text ks ++ qualifiers) ≡ false
no-any t [] other e = e
no-any t (k ∷ ks) other e = by (no-any t ks other e) (bytes_eq t (word_text k)) refl
  where
    by : list_any (bytes_eq t) (map word_text ks ++ qualifiers) ≡ false → (b : Bool) → bytes_eq t (word_text k) ≡ b
        → list_any (bytes_eq t) (map word_text (k ∷ ks) ++ qualifiers) ≡ false
    by rest true f = absurd (other k (same t (word_text k) f))
    by rest false f = rw f rest

no-qualifiers : (t : List ℕ) → (IsQualifier t → ⊥) → list_any (bytes_eq t) qualifiers ≡ false
no-qualifiers t other = by (list_any (bytes_eq t) qualifiers) refl
  where
    by : (b : Bool) → list_any (bytes_eq t) qualifiers ≡ b → b ≡ false
    by false e = refl
    by true e = elim (or_cases (bytes_eq t (codes "const")) _ e) [
      | inl a ↦ absurd (other (inl (same t _ a)))
      | inr f ↦ elim (or_cases (bytes_eq t (codes "register")) _ f) [
        | inl a ↦ absurd (other (inr (inl (same t _ a))))
        | inr g ↦ elim (or_cases (bytes_eq t (codes "restrict")) false g) [ inl a ↦ absurd (other (inr (inr (same t _ a)))) | inr a ↦ absurd (false≢true a) ]
      ]
    ]

pub name-of : (t : List ℕ) → begins_with is_letter t ≡ true → list_all is_name_byte t ≡ true → ((k : Keyword) → t ≡ word_text k → ⊥) → (IsQualifier t → ⊥) → IsName t
name-of t f l k q =
    let r : is_reserved t ≡ false = ap (list_any (bytes_eq t)) reserved ∙ no-any t keywords k (no-qualifiers t q) in
    and_from (begins_with is_letter t) (list_all is_name_byte t && not (is_reserved t)) f
    (and_from (list_all is_name_byte t) (not (is_reserved t)) l (ap not r))
