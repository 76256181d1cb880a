-- Words, names and the words that read as spaces.
use Rattle.std.proofs.Common.{◌≡◌, ℕ, zero, suc, ◌≤◌, inl, inr, List, ◌∷◌, length, take, drop, Bool, true, false, cond, ◌||◌, Option, None, Some, refl, arith, ◌∙◌, ap, sym, subst}
use Rattle.std.proofs.lemmas.Bool.{false≢true, or_cases, or_left}
use Rattle.std.specs.Prelude.{codes}
use Rattle.std.specs.List.{list_all, prefix_len}
use Rattle.std.specs.Str.{bytes_eq}
use Rattle.ob_tree.specs.Bytes.{begins_with, is_letter, is_name_byte, is_digit}
use Rattle.ob_tree.specs.Words.{word_text, IsQualifier, IsName}
use Rattle.ob_tree.proofs.Names.{all-letters, no-keyword, no-qualifier, name-of}
use Rattle.ob_tree.specs.Pieces.{IsPiece}
use Rattle.ob_tree.specs.declared.tokens.TokenKind.{TokenKind}
use Rattle.ob_tree.specs.declared.tokens.TokenKind.TheVariants as kind
use Rattle.ob_tree.specs.declared.tokens.Keyword.{Keyword}
use Rattle.ob_tree.specs.declared.tokens.Keyword.TheVariants as word
use Rattle.ob_lexer.specs.declared.scanner.Sort.{Sort}
use Rattle.ob_lexer.specs.Scan.{sort_of, words, is_word, keyword_of, is_qualifier, word_or_name, name_kind, scan_name}
use Rattle.ob_lexer.proofs.Prefixes.{take-here, bytes_eq-same, find-true, prefix_len-most, prefix_len-within, prefix_len-some, list_all-prefix}
use Rattle.ob_lexer.proofs.Sorts.{IsNamePiece}
use Rattle.ob_lexer.proofs.Taking.{IsRight, sorted, first-as}

keyword_of-text : (k : Keyword) → keyword_of (word_text k) ≡ Some k
unfolding keyword_of
keyword_of-text word.Break = refl
keyword_of-text word.Char = refl
keyword_of-text word.Continue = refl
keyword_of-text word.Do = refl
keyword_of-text word.Else = refl
keyword_of-text word.For = refl
keyword_of-text word.If = refl
keyword_of-text word.Int = refl
keyword_of-text word.Long = refl
keyword_of-text word.Return = refl
keyword_of-text word.Short = refl
keyword_of-text word.Signed = refl
keyword_of-text word.Sizeof = refl
keyword_of-text word.Static = refl
keyword_of-text word.Struct = refl
keyword_of-text word.Unsigned = refl
keyword_of-text word.Void = refl
keyword_of-text word.While = refl
keyword_of-text word.Null = refl
keyword_of-text word.Eof = refl
keyword_of-text word.SizeT = refl
keyword_of-text word.Auto = refl
keyword_of-text word.Case = refl
keyword_of-text word.Default = refl
keyword_of-text word.Double = refl
keyword_of-text word.Enum = refl
keyword_of-text word.Extern = refl
keyword_of-text word.Float = refl
keyword_of-text word.Goto = refl
keyword_of-text word.Inline = refl
keyword_of-text word.Switch = refl
keyword_of-text word.Typedef = refl
keyword_of-text word.Union = refl
keyword_of-text word.Volatile = refl
keyword_of-text word.Bool = refl
keyword_of-text word.Complex = refl
keyword_of-text word.Imaginary = refl

letters-text : (k : Keyword) → list_all is_name_byte (word_text k) ≡ true
unfolding is_name_byte is_letter is_digit
letters-text word.Break = refl
letters-text word.Char = refl
letters-text word.Continue = refl
letters-text word.Do = refl
letters-text word.Else = refl
letters-text word.For = refl
letters-text word.If = refl
letters-text word.Int = refl
letters-text word.Long = refl
letters-text word.Return = refl
letters-text word.Short = refl
letters-text word.Signed = refl
letters-text word.Sizeof = refl
letters-text word.Static = refl
letters-text word.Struct = refl
letters-text word.Unsigned = refl
letters-text word.Void = refl
letters-text word.While = refl
letters-text word.Null = refl
letters-text word.Eof = refl
letters-text word.SizeT = refl
letters-text word.Auto = refl
letters-text word.Case = refl
letters-text word.Default = refl
letters-text word.Double = refl
letters-text word.Enum = refl
letters-text word.Extern = refl
letters-text word.Float = refl
letters-text word.Goto = refl
letters-text word.Inline = refl
letters-text word.Switch = refl
letters-text word.Typedef = refl
letters-text word.Union = refl
letters-text word.Volatile = refl
letters-text word.Bool = refl
letters-text word.Complex = refl
letters-text word.Imaginary = refl

keyword-text : (text : List ℕ) (k : Keyword) → keyword_of text ≡ Some k → text ≡ word_text k
unfolding keyword_of
keyword-text text k e = sym (bytes_eq-same (word_text k) text (find-true (is_word text) words k e))

letters-qualifier : (text : List ℕ) → IsQualifier text → list_all is_name_byte text ≡ true
unfolding is_name_byte is_letter is_digit
letters-qualifier text (inl e) = subst (λ t. list_all is_name_byte t ≡ true) (sym e) refl
letters-qualifier text (inr (inl e)) = subst (λ t. list_all is_name_byte t ≡ true) (sym e) refl
letters-qualifier text (inr (inr e)) = subst (λ t. list_all is_name_byte t ≡ true) (sym e) refl

kind-qualifier : (text : List ℕ) → IsQualifier text → name_kind text ≡ None
unfolding keyword_of is_qualifier
kind-qualifier text (inl e) = subst (λ t. name_kind t ≡ None) (sym e) refl
kind-qualifier text (inr (inl e)) = subst (λ t. name_kind t ≡ None) (sym e) refl
kind-qualifier text (inr (inr e)) = subst (λ t. name_kind t ≡ None) (sym e) refl

qualifier-is : (text : List ℕ) → is_qualifier text ≡ true → IsQualifier text
unfolding is_qualifier
qualifier-is text h =
    elim (or_cases (bytes_eq text (codes "const")) (bytes_eq text (codes "register") || bytes_eq text (codes "restrict")) h) [
      | inl e ↦ inl (bytes_eq-same text _ e)
      | inr g ↦ elim (or_cases (bytes_eq text (codes "register")) (bytes_eq text (codes "restrict")) g) [
        | inl e ↦ inr (inl (bytes_eq-same text _ e))
        | inr e ↦ inr (inr (bytes_eq-same text _ e))
      ]
    ]

kind-name : (text : List ℕ) → IsName text → name_kind text ≡ Some (kind.Name text)
kind-name text h = by (keyword_of text) refl (is_qualifier text) refl
  where
    by : (o : Option Keyword) → keyword_of text ≡ o → (b : Bool) → is_qualifier text ≡ b → word_or_name text o ≡ Some (kind.Name text)
    by (Some k) e b f = absurd (no-keyword text h k (keyword-text text k e))
    by None e true f = absurd (no-qualifier text h (qualifier-is text f))
    by None e false f = rw f refl

letters-piece : (t : List ℕ) (p : Option TokenKind) → IsNamePiece t p → list_all is_name_byte t ≡ true
letters-piece t p (inl h) = ap (list_all is_name_byte) h.1 ∙ letters-text h.0
letters-piece t p (inr (inl h)) = all-letters t h.0
letters-piece t p (inr (inr h)) = letters-qualifier t h.0

kind-piece : (t : List ℕ) (p : Option TokenKind) → IsNamePiece t p → p ≡ name_kind t
kind-piece t p (inl h) = h.2 ∙ sym (ap name_kind h.1 ∙ ap (word_or_name (word_text h.0)) (keyword_of-text h.0))
kind-piece t p (inr (inl h)) = h.1 ∙ sym (kind-name t h.0)
kind-piece t p (inr (inr h)) = h.1 ∙ sym (kind-qualifier t h.0)

qualifier-no-word : (text : List ℕ) (k : Keyword) → keyword_of text ≡ None → text ≡ word_text k → ⊥
qualifier-no-word text k e f = let z : None ≡ Some k = sym e ∙ ap keyword_of f ∙ keyword_of-text k in cc

is-qualifier : (text : List ℕ) → IsQualifier text → is_qualifier text ≡ true
unfolding is_qualifier
is-qualifier text (inl e) = subst (λ t. is_qualifier t ≡ true) (sym e) refl
is-qualifier text (inr (inl e)) = subst (λ t. is_qualifier t ≡ true) (sym e) refl
is-qualifier text (inr (inr e)) = subst (λ t. is_qualifier t ≡ true) (sym e) refl

-- a run of letters, digits and `_` that begins with a letter is a piece
possible-name : (before text after : List ℕ) → begins_with is_letter text ≡ true → list_all is_name_byte text ≡ true → IsPiece before text after (name_kind text)
possible-name before text after f l = by (keyword_of text) refl (is_qualifier text) refl
  where
    pick : (b : Bool) → is_qualifier text ≡ b → keyword_of text ≡ None → IsPiece before text after (cond b None (Some (kind.Name text)))
    pick true g e = inr (inr (inl (qualifier-is text g)))
    pick false g e = (
      refl,
      name-of text f l (λ k h. qualifier-no-word text k e h) (λ q. false≢true (sym g ∙ is-qualifier text q)),
    )

    by : (o : Option Keyword) → keyword_of text ≡ o → (b : Bool) → is_qualifier text ≡ b → IsPiece before text after (word_or_name text o)
    by (Some k) e b g = keyword-text text k e
    by None e b g = subst (λ b. IsPiece before text after (cond b None (Some (kind.Name text)))) (sym g) (pick b g e)

begins-take : (n : ℕ) (c : ℕ) (cs : List ℕ) → 1 ≤ n → is_letter c ≡ true → begins_with is_letter (take n (c ∷ cs)) ≡ true
begins-take zero c cs l e = absurd (omega arith)
begins-take (suc n) c cs l e = e

letter-name : (c : ℕ) → is_letter c ≡ true → is_name_byte c ≡ true
unfolding is_name_byte
letter-name c e = or_left (is_letter c) (is_digit c) e

pub name-right : (before : List ℕ) (c : ℕ) (cs : List ℕ) → sort_of (c ∷ cs) ≡ Sort.Name → IsRight before (c ∷ cs) (scan_name (c ∷ cs))
unfolding scan_name
name-right before c cs e =
    let rest : List ℕ = c ∷ cs in
    let n : ℕ = prefix_len is_name_byte rest in
    let letter : is_letter c ≡ true = first-as Sort.Name c cs e in
    let some : 1 ≤ prefix_len is_name_byte (c ∷ cs) = prefix_len-some is_name_byte c cs (letter-name c letter) in
    record {
      some = some;
      within = prefix_len-within is_name_byte rest;
      possible = possible-name before (take n rest) (drop n rest) (begins-take n c cs some letter) (list_all-prefix is_name_byte rest);
      most = λ t a p g h. let w = letters-piece t p (sorted Sort.Name before rest t a p e g h) in
          subst (λ r. length t ≤ prefix_len is_name_byte r) g (prefix_len-most is_name_byte t a w);
      same = λ t a p g h l.
          kind-piece t p (sorted Sort.Name before rest t a p e g h) ∙ ap name_kind (sym (take-here t a rest g) ∙ ap (λ k. take k rest) l);
    }
