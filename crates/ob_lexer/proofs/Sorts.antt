-- Each piece begins with what its sort says.
use Rattle.std.proofs.Common.{◌≡◌, ℕ, ◌⊎◌, inl, inr, List, [], ◌∷◌, ◌++◌, Bool, true, false, eqb, leb, Option, None, Some, ℤ, refl, arith, ◌∙◌, ap, sym, subst}
use Rattle.std.proofs.lemmas.Bool.{and_from, false_from_ne_true, cond_both, eqb-true, le-leb}
use Rattle.std.proofs.lemmas.List.{append_assoc}
use Rattle.ob_tree.specs.Bytes.{is_white, is_letter, is_digit, is_nonzero_digit, begins_with}
use Rattle.ob_tree.specs.Words.{word_text, IsQualifier, IsName}
use Rattle.ob_tree.proofs.Names.{first-letter}
use Rattle.ob_tree.specs.Signs.{sign_text, begins_comment, IsSign}
use Rattle.ob_tree.specs.Constants.{IsNumber, IsConstant, IsDigits, IsWideConstant}
use Rattle.ob_tree.specs.Characters.{IsCharacter, IsString, IsOpenQuote, IsWideQuote, IsQuote}
use Rattle.ob_tree.specs.Spaces.{IsComment, IsInclude, IsOpenComment}
use Rattle.ob_tree.specs.Pieces.{IsPiece, IsSpace, IsToken, IsWhite, IsUnclosed, IsWide}
use Rattle.ob_tree.specs.declared.tokens.TokenKind.{TokenKind}
use Rattle.ob_tree.specs.declared.tokens.TokenKind.TheVariants as kind
use Rattle.ob_tree.specs.declared.tokens.Keyword.{Keyword}
use Rattle.ob_tree.specs.declared.tokens.Keyword.TheVariants as word
use Rattle.ob_tree.specs.declared.tokens.Sign.{Sign}
use Rattle.ob_tree.specs.declared.tokens.Sign.TheVariants as sign
use Rattle.ob_tree.specs.declared.constants.Base.{Base}
use Rattle.ob_tree.specs.declared.constants.Suffix.{Suffix}
use Rattle.ob_words.specs.declared.types.IntType.{IntType}
use Rattle.ob_lexer.specs.declared.scanner.Sort.{Sort}
use Rattle.ob_lexer.specs.Scan.{sort_of}
use Rattle.ob_lexer.proofs.Classes.{within-bounds, letter-not-white, digit-not-white, digit-not-letter}

abbrev pub IsNamePiece : List ℕ → Option TokenKind → Type 0
IsNamePiece t p =
    ((k : Keyword) × (t ≡ word_text k) × (p ≡ Some (kind.Word k))) ⊎ ((IsName t × (p ≡ Some (kind.Name t))) ⊎ (IsQualifier t × (p ≡ None)))

-- the pieces of a sort
abbrev pub AsSort : Sort → (before t a : List ℕ) → Option TokenKind → Type 0
AsSort Sort.White before t a p = IsWhite t × (p ≡ None)
AsSort Sort.Name before t a p = IsNamePiece t p
AsSort Sort.Number before t a p = (value : ℤ) × (ty : IntType) × IsNumber t a value ty × (p ≡ Some (kind.Number value ty))
AsSort Sort.String before t a p = (bytes : List ℕ) × IsString t bytes × (p ≡ Some (kind.Str bytes))
AsSort Sort.Character before t a p = (value : ℤ) × (ty : IntType) × IsCharacter t value ty × (p ≡ Some (kind.Number value ty))
AsSort Sort.Include before t a p = IsInclude before t a × (p ≡ None)
AsSort Sort.Comment before t a p = IsComment t a × (p ≡ None)
AsSort Sort.Sign before t a p = (s : Sign) × IsSign t a s × (p ≡ Some (kind.Sign s))

letter-sort : (c : ℕ) (cs : List ℕ) → is_letter c ≡ true → sort_of (c ∷ cs) ≡ Sort.Name
unfolding sort_of
letter-sort c cs e = rw (letter-not-white c e, e) refl

digit-sort : (c : ℕ) (cs : List ℕ) → is_digit c ≡ true → sort_of (c ∷ cs) ≡ Sort.Number
unfolding sort_of
digit-sort c cs e = rw (digit-not-white c e, digit-not-letter c e, e) refl

white-sort : (t a : List ℕ) → IsWhite t → sort_of (t ++ a) ≡ Sort.White
unfolding sort_of
white-sort t a w = subst (λ u. sort_of (u ++ a) ≡ Sort.White) (sym w.text_is) (rw w.white refl)

comment-sort : (t a : List ℕ) → IsComment t a → sort_of (t ++ a) ≡ Sort.Comment
unfolding sort_of is_white is_letter is_digit
comment-sort t a (inl h) = subst (λ u. sort_of (u ++ a) ≡ Sort.Comment) (sym h.text_is) refl
comment-sort t a (inr h) = subst (λ u. sort_of (u ++ a) ≡ Sort.Comment) (sym h.text_is) refl

begins-sort : (test : ℕ → Bool) (s : Sort) (t a : List ℕ) → ((c : ℕ) (cs : List ℕ) → test c ≡ true → sort_of (c ∷ cs) ≡ s) → begins_with test t ≡ true → sort_of (t ++ a) ≡ s
begins-sort test s [] a f e = absurd (let x : false ≡ true = e in cc)
begins-sort test s (c ∷ t) a f e = f c (t ++ a) e

qualifier-sort : (t a : List ℕ) → IsQualifier t → sort_of (t ++ a) ≡ Sort.Name
unfolding sort_of is_white is_letter is_digit
qualifier-sort t a (inl h) = subst (λ u. sort_of (u ++ a) ≡ Sort.Name) (sym h) refl
qualifier-sort t a (inr (inl h)) = subst (λ u. sort_of (u ++ a) ≡ Sort.Name) (sym h) refl
qualifier-sort t a (inr (inr h)) = subst (λ u. sort_of (u ++ a) ≡ Sort.Name) (sym h) refl

include-sort : (before t a : List ℕ) → IsInclude before t a → sort_of (t ++ a) ≡ Sort.Include
unfolding sort_of is_white is_letter is_digit
include-sort before t a h = subst (λ u. sort_of (u ++ a) ≡ Sort.Include) (sym h.text_is) refl

string-sort : (cs : List ℕ) → sort_of (34 ∷ cs) ≡ Sort.String
unfolding sort_of is_white is_letter is_digit
string-sort cs = refl

character-sort : (cs : List ℕ) → sort_of (39 ∷ cs) ≡ Sort.Character
unfolding sort_of is_white is_letter is_digit
character-sort cs = refl

word-sort : (k : Keyword) (a : List ℕ) → sort_of (word_text k ++ a) ≡ Sort.Name
unfolding sort_of is_white is_letter is_digit
word-sort word.Break a = refl
word-sort word.Char a = refl
word-sort word.Continue a = refl
word-sort word.Do a = refl
word-sort word.Else a = refl
word-sort word.For a = refl
word-sort word.If a = refl
word-sort word.Int a = refl
word-sort word.Long a = refl
word-sort word.Return a = refl
word-sort word.Short a = refl
word-sort word.Signed a = refl
word-sort word.Sizeof a = refl
word-sort word.Static a = refl
word-sort word.Struct a = refl
word-sort word.Unsigned a = refl
word-sort word.Void a = refl
word-sort word.While a = refl
word-sort word.Null a = refl
word-sort word.Eof a = refl
word-sort word.SizeT a = refl
word-sort word.Auto a = refl
word-sort word.Case a = refl
word-sort word.Default a = refl
word-sort word.Double a = refl
word-sort word.Enum a = refl
word-sort word.Extern a = refl
word-sort word.Float a = refl
word-sort word.Goto a = refl
word-sort word.Inline a = refl
word-sort word.Switch a = refl
word-sort word.Typedef a = refl
word-sort word.Union a = refl
word-sort word.Volatile a = refl
word-sort word.Bool a = refl
word-sort word.Complex a = refl
word-sort word.Imaginary a = refl

slash-sort : (cs : List ℕ) → (begins_comment (47 ∷ cs) ≡ true → ⊥) → sort_of (47 ∷ cs) ≡ Sort.Sign
unfolding sort_of is_white is_letter is_digit
slash-sort cs n = rw (false_from_ne_true (begins_comment (47 ∷ cs)) n) refl

sign-sort : (s : Sign) (a : List ℕ) → (begins_comment (sign_text s ++ a) ≡ true → ⊥) → sort_of (sign_text s ++ a) ≡ Sort.Sign
unfolding sort_of is_white is_letter is_digit
sign-sort sign.OpenBracket a n = refl
sign-sort sign.CloseBracket a n = refl
sign-sort sign.OpenParen a n = refl
sign-sort sign.CloseParen a n = refl
sign-sort sign.OpenBrace a n = refl
sign-sort sign.CloseBrace a n = refl
sign-sort sign.Dot a n = refl
sign-sort sign.Arrow a n = refl
sign-sort sign.PlusPlus a n = refl
sign-sort sign.MinusMinus a n = refl
sign-sort sign.Amp a n = refl
sign-sort sign.Star a n = refl
sign-sort sign.Plus a n = refl
sign-sort sign.Minus a n = refl
sign-sort sign.Tilde a n = refl
sign-sort sign.Not a n = refl
sign-sort sign.Slash a n = slash-sort a n
sign-sort sign.Percent a n = refl
sign-sort sign.Shl a n = refl
sign-sort sign.Shr a n = refl
sign-sort sign.Lt a n = refl
sign-sort sign.Gt a n = refl
sign-sort sign.Le a n = refl
sign-sort sign.Ge a n = refl
sign-sort sign.EqEq a n = refl
sign-sort sign.NotEq a n = refl
sign-sort sign.Caret a n = refl
sign-sort sign.Bar a n = refl
sign-sort sign.AndAnd a n = refl
sign-sort sign.OrOr a n = refl
sign-sort sign.Question a n = refl
sign-sort sign.Colon a n = refl
sign-sort sign.Semi a n = refl
sign-sort sign.Assign a n = refl
sign-sort sign.StarAssign a n = refl
sign-sort sign.SlashAssign a n = refl
sign-sort sign.PercentAssign a n = refl
sign-sort sign.PlusAssign a n = refl
sign-sort sign.MinusAssign a n = refl
sign-sort sign.ShlAssign a n = refl
sign-sort sign.ShrAssign a n = refl
sign-sort sign.AmpAssign a n = refl
sign-sort sign.CaretAssign a n = refl
sign-sort sign.BarAssign a n = refl
sign-sort sign.Comma a n = refl

nonzero-digit : (c : ℕ) → is_nonzero_digit c ≡ true → is_digit c ≡ true
unfolding is_nonzero_digit is_digit
nonzero-digit c e =
    let b = within-bounds 49 57 c e in
    and_from (leb 48 c) (leb c 57) (le-leb 48 c (omega (arith, b))) (le-leb c 57 (omega (arith, b)))

zero-digit : (c : ℕ) → eqb c 48 ≡ true → is_digit c ≡ true
unfolding is_digit
zero-digit c e = rw (eqb-true c 48 e) refl

hex-sort : (cs : List ℕ) → sort_of (48 ∷ cs) ≡ Sort.Number
unfolding sort_of is_white is_letter is_digit
hex-sort cs = refl

digits-sort : (b : Base) (t ds a : List ℕ) → IsDigits b t ds → sort_of (t ++ a) ≡ Sort.Number
digits-sort Base.Decimal t ds a h =
    subst (λ u. sort_of (u ++ a) ≡ Sort.Number) (sym h.0)
    (begins-sort is_nonzero_digit Sort.Number ds a (λ c cs e. digit-sort c cs (nonzero-digit c e)) h.1)
digits-sort Base.Octal t ds a h =
    subst (λ u. sort_of (u ++ a) ≡ Sort.Number) (sym h.0)
    (begins-sort (λ c. eqb c 48) Sort.Number ds a (λ c cs e. digit-sort c cs (zero-digit c e)) h.1)
digits-sort Base.Hexadecimal t ds a h =
    elim h.0 [
      | inl e ↦ subst (λ u. sort_of (u ++ a) ≡ Sort.Number) (sym e) (hex-sort (120 ∷ (ds ++ a)))
      | inr e ↦ subst (λ u. sort_of (u ++ a) ≡ Sort.Number) (sym e) (hex-sort (88 ∷ (ds ++ a)))
    ]

pub constant-sort : (t a : List ℕ) (b : Base) (s : Suffix) (v : ℕ) → IsConstant t b s v → sort_of (t ++ a) ≡ Sort.Number
constant-sort t a b s v h =
    subst (λ u. sort_of (u ++ a) ≡ Sort.Number) (sym h.text_is)
    (ap sort_of (append_assoc h.prefixed h.ending a) ∙ digits-sort b h.prefixed h.digits (h.ending ++ a) h.digits_are)

at-sort : (s : Sort) (before t a : List ℕ) (p : Option TokenKind) → sort_of (t ++ a) ≡ s → AsSort s before t a p → AsSort (sort_of (t ++ a)) before t a p
at-sort s before t a p e h = subst (λ s. AsSort s before t a p) (sym e) h

space-sort : (before t a : List ℕ) → IsSpace before t a → AsSort (sort_of (t ++ a)) before t a None
space-sort before t a (inl h) = at-sort Sort.White before t a None (white-sort t a h) (h, refl)
space-sort before t a (inr (inl h)) = at-sort Sort.Comment before t a None (comment-sort t a h) (h, refl)
space-sort before t a (inr (inr (inl h))) = at-sort Sort.Name before t a None (qualifier-sort t a h) (inr (inr (h, refl)))
space-sort before t a (inr (inr (inr h))) = at-sort Sort.Include before t a None (include-sort before t a h) (h, refl)

string-text-sort : (t a bytes : List ℕ) → IsString t bytes → sort_of (t ++ a) ≡ Sort.String
string-text-sort t a bytes h = subst (λ u. sort_of (u ++ a) ≡ Sort.String) (sym h.text_is) (string-sort ((h.body ++ 34 ∷ []) ++ a))

character-text-sort : (t a : List ℕ) (v : ℤ) (ty : IntType) → IsCharacter t v ty → sort_of (t ++ a) ≡ Sort.Character
character-text-sort t a v ty h = subst (λ u. sort_of (u ++ a) ≡ Sort.Character) (sym h.text_is) (character-sort ((h.body ++ 39 ∷ []) ++ a))

token-sort : (before t a : List ℕ) (k : TokenKind) → IsToken t a k → AsSort (sort_of (t ++ a)) before t a (Some k)
token-sort before t a (kind.Word k) h =
    at-sort Sort.Name before t a (Some (kind.Word k)) (subst (λ u. sort_of (u ++ a) ≡ Sort.Name) (sym h) (word-sort k a)) (inl (k, h, refl))
token-sort before t a (kind.Name n) h =
    at-sort Sort.Name before t a (Some (kind.Name n))
    (subst (λ u. sort_of (u ++ a) ≡ Sort.Name) (sym h.0) (begins-sort is_letter Sort.Name n a letter-sort (first-letter n h.1)))
    (inr (inl (subst IsName (sym h.0) h.1, ap (λ m. Some (kind.Name m)) (sym h.0))))
token-sort before t a (kind.Number v ty) (inl h) =
    at-sort Sort.Number before t a (Some (kind.Number v ty)) (constant-sort t a h.base h.suffix h.amount h.constant) (v, ty, h, refl)
token-sort before t a (kind.Number v ty) (inr h) =
    at-sort Sort.Character before t a (Some (kind.Number v ty)) (character-text-sort t a v ty h) (v, ty, h, refl)
token-sort before t a (kind.Str bytes) h =
    at-sort Sort.String before t a (Some (kind.Str bytes)) (string-text-sort t a bytes h) (bytes, h, refl)
token-sort before t a (kind.Sign s) h =
    at-sort Sort.Sign before t a (Some (kind.Sign s))
    (subst (λ u. sort_of (u ++ a) ≡ Sort.Sign) (sym h.text_is) (sign-sort s a (subst (λ u. begins_comment (u ++ a) ≡ true → ⊥) h.text_is h.no_comment)))
    (s, h, refl)

-- a piece is of the sort that begins there
pub piece-sort : (before t a : List ℕ) (p : Option TokenKind) → IsPiece before t a p → AsSort (sort_of (t ++ a)) before t a p
piece-sort before t a None h = space-sort before t a h
piece-sort before t a (Some k) h = token-sort before t a k h

-- the sorts of faults

quote-sort : (q : ℕ) (cs : List ℕ) → IsQuote q → ((q ≡ 39) × (sort_of (q ∷ cs) ≡ Sort.Character)) ⊎ ((q ≡ 34) × (sort_of (q ∷ cs) ≡ Sort.String))
quote-sort q cs (inl e) = inl (e, ap (λ c. sort_of (c ∷ cs)) e ∙ character-sort cs)
quote-sort q cs (inr e) = inr (e, ap (λ c. sort_of (c ∷ cs)) e ∙ string-sort cs)

open-comment-sort : (cs : List ℕ) → sort_of (47 ∷ 42 ∷ cs) ≡ Sort.Comment
unfolding sort_of is_white is_letter is_digit
open-comment-sort cs = refl

abbrev pub UnclosedAs : Sort → List ℕ → Type 0
UnclosedAs Sort.Comment here = IsOpenComment here
UnclosedAs Sort.String here = (h : IsOpenQuote here) × (h.quote ≡ 34)
UnclosedAs Sort.Character here = (h : IsOpenQuote here) × (h.quote ≡ 39)
UnclosedAs s here = ⊥

abbrev pub WideAs : Sort → List ℕ → Type 0
WideAs Sort.Number here = IsWideConstant here
WideAs Sort.String here = (h : IsWideQuote here) × (h.quote ≡ 34)
WideAs Sort.Character here = (h : IsWideQuote here) × (h.quote ≡ 39)
WideAs s here = ⊥

-- what doesn't end is of the sort that begins there
pub unclosed-sort : (here : List ℕ) → IsUnclosed here → UnclosedAs (sort_of here) here
unclosed-sort here (inl h) =
    subst (λ s. UnclosedAs s here) (sym (ap sort_of h.here_is ∙ open-comment-sort h.rest)) h
unclosed-sort here (inr h) =
    elim (quote-sort h.quote h.rest h.is_quote) [
      | inl e ↦ subst (λ s. UnclosedAs s here) (sym (ap sort_of h.here_is ∙ e.1)) (h, e.0)
      | inr e ↦ subst (λ s. UnclosedAs s here) (sym (ap sort_of h.here_is ∙ e.1)) (h, e.0)
    ]

-- what is too great is of the sort that begins there
pub wide-sort : (here : List ℕ) → IsWide here → WideAs (sort_of here) here
wide-sort here (inl h) =
    subst (λ s. WideAs s here) (sym (ap sort_of h.here_is ∙ constant-sort h.text h.after h.base h.suffix h.amount h.constant)) h
wide-sort here (inr h) =
    elim (quote-sort h.quote (h.body ++ h.quote ∷ h.after) h.is_quote) [
      | inl e ↦ subst (λ s. WideAs s here) (sym (ap sort_of h.here_is ∙ e.1)) (h, e.0)
      | inr e ↦ subst (λ s. WideAs s here) (sym (ap sort_of h.here_is ∙ e.1)) (h, e.0)
    ]

-- what the first byte is, by the sort

abbrev pub FirstAs : Sort → ℕ → List ℕ → Type 0
FirstAs Sort.White c cs = is_white c ≡ true
FirstAs Sort.Name c cs = is_letter c ≡ true
FirstAs Sort.Number c cs = is_digit c ≡ true
FirstAs Sort.String c cs = c ≡ 34
FirstAs Sort.Character c cs = c ≡ 39
FirstAs Sort.Include c cs = c ≡ 35
FirstAs Sort.Comment c cs = begins_comment (c ∷ cs) ≡ true
FirstAs Sort.Sign c cs = begins_comment (c ∷ cs) ≡ false

pub first-sort : (c : ℕ) (cs : List ℕ) → FirstAs (sort_of (c ∷ cs)) c cs
unfolding sort_of
first-sort c cs =
    let P : Sort → Type 0 = λ s. FirstAs s c cs in
    cond_both (is_white c) Sort.White _ P (λ e. e)
    (λ _. cond_both (is_letter c) Sort.Name _ P (λ e. e)
    (λ _. cond_both (is_digit c) Sort.Number _ P (λ e. e)
    (λ _. cond_both (eqb c 34) Sort.String _ P (λ e. eqb-true c 34 e)
    (λ _. cond_both (eqb c 39) Sort.Character _ P (λ e. eqb-true c 39 e)
    (λ _. cond_both (eqb c 35) Sort.Include _ P (λ e. eqb-true c 35 e)
    (λ _. cond_both (begins_comment (c ∷ cs)) Sort.Comment Sort.Sign P (λ e. e) (λ e. e)))))))
