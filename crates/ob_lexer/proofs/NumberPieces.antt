-- Integer constants.
use Rattle.std.proofs.Common.{◌≡◌, ℕ, zero, suc, ◌+◌, ◌<◌, ◌≤◌, ◌⊎◌, inl, inr, List, [], ◌∷◌, ◌++◌, length, take, drop, Bool, true, false, ◌&&◌, ◌||◌, eqb, leb, Option, None, Some, ℤ, pos, refl, arith, ◌∙◌, ap, sym, subst}
use Rattle.std.proofs.lemmas.Bool.{and_parts, and_from, false≢true, true≢false, or_cases, or_left, or_right, eqb-true, eq-eqb, le-leb}
use Rattle.std.proofs.lemmas.List.{take-append-drop, append_assoc, length-append}
use Rattle.std.specs.List.{list_all, prefix_len}
use Rattle.ob_tree.specs.Bytes.{begins_with, is_within, is_digit, is_nonzero_digit, is_octal_digit, is_hex_digit, is_name_byte, is_letter}
use Rattle.ob_tree.specs.Constants.{IsDigits, IsConstant, IsWideConstant, type_of}
use Rattle.ob_tree.specs.Pieces.{IsPiece, IsWide}
use Rattle.ob_tree.specs.declared.tokens.TokenKind.{TokenKind}
use Rattle.ob_tree.specs.declared.tokens.TokenKind.TheVariants as kind
use Rattle.ob_tree.specs.declared.constants.Base.{Base}
use Rattle.ob_tree.specs.declared.constants.Suffix.{Suffix}
use Rattle.ob_words.specs.declared.types.IntType.{IntType}
use Rattle.ob_lexer.specs.declared.scanner.Sort.{Sort}
use Rattle.ob_lexer.specs.Scan.{has, sort_of, is_hex_prefix, base_at, prefix_of, class_of, digits_at, behind_digits, ending_at, value_at, typed, with_ending, scan_number}
use Rattle.ob_lexer.proofs.Prefixes.{prefix_len-some, list_all-prefix, drop-here}
use Rattle.ob_lexer.proofs.Classes.{within-bounds}
use Rattle.ob_lexer.proofs.Taking.{Best, IsRight, sorted, first-as, only, no-unclosed, no-wide}
use Rattle.ob_lexer.proofs.SuffixTable.{all-rows, rows-names, ending-none, ending-row, ending-here}
use Rattle.ob_lexer.proofs.ConstantBounds.{HexParts, hex-parts, base-hex, base-octal, base-decimal, whole_length, Known, digits-as, behind-as, length-text, constant-known}

-- the constant that is read

pub record Read (rest : List ℕ) (row : List ℕ × Suffix) : Type 0 where
  pub text : List ℕ
  pub after : List ℕ
  pub rest_is : text ++ after ≡ rest
  pub after_is : after ≡ drop (length row.0) (behind_digits rest)
  pub constant : IsConstant text (base_at rest) row.1 (value_at rest)
  pub length_is : length text ≡ whole_length rest row

digits-all : (b : Base) (rest : List ℕ) → base_at rest ≡ b → list_all (has (class_of b)) (digits_at rest) ≡ true
digits-all b rest e = ap (list_all (has (class_of b))) (digits-as b rest e) ∙ list_all-prefix (has (class_of b)) (drop (prefix_of b) rest)

begins-digits : (p : ℕ → Bool) (xs : List ℕ) (q : ℕ → Bool) → begins_with p xs ≡ true → begins_with q xs ≡ true → begins_with q (take (prefix_len p xs) xs) ≡ true
begins-digits p [] q h g = g
begins-digits p (c ∷ cs) q h g = by (prefix_len p (c ∷ cs)) (prefix_len-some p c cs h)
  where
    by : (n : ℕ) → 1 ≤ n → begins_with q (take n (c ∷ cs)) ≡ true
    by zero l = absurd (omega arith)
    by (suc n) l = g

begins-as : (b : Base) (q : ℕ → Bool) (rest : List ℕ) → base_at rest ≡ b → begins_with (has (class_of b)) (drop (prefix_of b) rest) ≡ true → begins_with q (drop (prefix_of b) rest) ≡ true → begins_with q (digits_at rest) ≡ true
begins-as b q rest e h g = ap (begins_with q) (digits-as b rest e) ∙ begins-digits (has (class_of b)) (drop (prefix_of b) rest) q h g

read-from : (rest pre : List ℕ) (row : List ℕ × Suffix) → pre ++ behind_digits rest ≡ rest → length pre ≡ prefix_of (base_at rest) + length (digits_at rest) → IsDigits (base_at rest) pre (digits_at rest) → ending_at (behind_digits rest) ≡ Some row → Read rest row
read-from rest pre row e l d f = record {
  text = pre ++ row.0;
  after = drop (length row.0) (behind_digits rest);
  rest_is = append_assoc pre row.0 (drop (length row.0) (behind_digits rest)) ∙ ap (λ t. pre ++ t) (ending-here (behind_digits rest) row f) ∙ e;
  after_is = refl;
  constant = record {
    prefixed = pre;
    digits = digits_at rest;
    ending = row.0;
    text_is = refl;
    digits_are = d;
    ending_is = ending-row (behind_digits rest) row f;
    value_is = refl;
  };
  length_is = omega (arith, length-append pre row.0, l);
}

split-as : (b : Base) (rest : List ℕ) → base_at rest ≡ b → digits_at rest ++ behind_digits rest ≡ drop (prefix_of b) rest
split-as b rest e =
    ap (λ t. t ++ behind_digits rest) (digits-as b rest e)
    ∙ ap (λ t. take (prefix_len (has (class_of b)) (drop (prefix_of b) rest)) (drop (prefix_of b) rest) ++ t) (behind-as b rest e)
    ∙ take-append-drop (prefix_len (has (class_of b)) (drop (prefix_of b) rest)) (drop (prefix_of b) rest)

octal-zero : (c : ℕ) → eqb c 48 ≡ true → is_octal_digit c ≡ true
unfolding is_octal_digit
octal-zero c h = rw (eqb-true c 48 h) refl

nonzero-from : (c : ℕ) → is_digit c ≡ true → eqb c 48 ≡ false → is_nonzero_digit c ≡ true
unfolding is_nonzero_digit is_digit
nonzero-from c h g =
    let b = within-bounds 48 57 c h in
    and_from (leb 49 c) (leb c 57) (le-leb 49 c (by (c) b.0 (λ e. true≢false (sym (eq-eqb c 48 e) ∙ g)))) (le-leb c 57 b.1)
  where
    by : (c : ℕ) → 48 ≤ c → (c ≡ 48 → ⊥) → 49 ≤ c
    by c l n = omega (arith, n)

read-constant : (c : ℕ) (cs : List ℕ) (row : List ℕ × Suffix) → is_digit c ≡ true → ending_at (behind_digits (c ∷ cs)) ≡ Some row → Read (c ∷ cs) row
read-constant c cs row h f = by (is_hex_prefix (c ∷ cs)) refl (eqb c 48) refl
  where
    hex : HexParts (c ∷ cs) → base_at (c ∷ cs) ≡ Base.Hexadecimal → Read (c ∷ cs) row
    hex x e =
        let digits : begins_with is_hex_digit (drop 2 (c ∷ cs)) ≡ true = ap (λ r. begins_with is_hex_digit (drop 2 r)) x.rest_is ∙ x.digit_is in
        let whole : 48 ∷ (x.sign ∷ (digits_at (c ∷ cs) ++ behind_digits (c ∷ cs))) ≡ c ∷ cs =
        ap (λ (t : List ℕ). 48 ∷ (x.sign ∷ t)) (split-as Base.Hexadecimal (c ∷ cs) e ∙ ap (drop 2) x.rest_is) ∙ sym x.rest_is in
        read-from (c ∷ cs) (48 ∷ (x.sign ∷ digits_at (c ∷ cs))) row whole (let p : prefix_of (base_at (c ∷ cs)) ≡ 2 = ap prefix_of e in omega (arith, p))
        (subst (λ b. IsDigits b (48 ∷ (x.sign ∷ digits_at (c ∷ cs))) (digits_at (c ∷ cs))) (sym e) (
          elim x.sign_is [ inl i ↦ inl (ap (λ x. 48 ∷ (x ∷ digits_at (c ∷ cs))) i) | inr i ↦ inr (ap (λ x. 48 ∷ (x ∷ digits_at (c ∷ cs))) i) ],
          begins-as Base.Hexadecimal is_hex_digit (c ∷ cs) e digits digits,
          digits-all Base.Hexadecimal (c ∷ cs) e,
        )) f

    by : (a : Bool) → is_hex_prefix (c ∷ cs) ≡ a → (b : Bool) → eqb c 48 ≡ b → Read (c ∷ cs) row
    by true x b g = hex (hex-parts (c ∷ cs) x) (base-hex (c ∷ cs) x)
    by false x true g =
        let e = base-octal (c ∷ cs) x g in
        read-from (c ∷ cs) (digits_at (c ∷ cs)) row (split-as Base.Octal (c ∷ cs) e) (let p : prefix_of (base_at (c ∷ cs)) ≡ 0 = ap prefix_of e in omega (arith, p))
        (subst (λ b. IsDigits b (digits_at (c ∷ cs)) (digits_at (c ∷ cs))) (sym e)
        (refl, begins-as Base.Octal (λ c. eqb c 48) (c ∷ cs) e (octal-zero c g) g, digits-all Base.Octal (c ∷ cs) e)) f
    by false x false g =
        let e = base-decimal (c ∷ cs) x g in
        read-from (c ∷ cs) (digits_at (c ∷ cs)) row (split-as Base.Decimal (c ∷ cs) e) (let p : prefix_of (base_at (c ∷ cs)) ≡ 0 = ap prefix_of e in omega (arith, p))
        (subst (λ b. IsDigits b (digits_at (c ∷ cs)) (digits_at (c ∷ cs))) (sym e)
        (refl, begins-as Base.Decimal is_nonzero_digit (c ∷ cs) e h (nonzero-from c h g), digits-all Base.Decimal (c ∷ cs) e)) f

-- the bytes of a constant are letters and digits

list_all-weaker : (p q : ℕ → Bool) (xs : List ℕ) → ((c : ℕ) → p c ≡ true → q c ≡ true) → list_all p xs ≡ true → list_all q xs ≡ true
list_all-weaker p q [] f h = refl
list_all-weaker p q (x ∷ xs) f h =
    let r = and_parts (p x) (list_all p xs) h in
    and_from (q x) (list_all q xs) (f x r.0) (list_all-weaker p q xs f r.1)

list_all-append : (p : ℕ → Bool) (xs ys : List ℕ) → list_all p xs ≡ true → list_all p ys ≡ true → list_all p (xs ++ ys) ≡ true
list_all-append p [] ys h g = g
list_all-append p (x ∷ xs) ys h g =
    let r = and_parts (p x) (list_all p xs) h in
    and_from (p x) (list_all p (xs ++ ys)) r.0 (list_all-append p xs ys r.1 g)

digit-within : (c : ℕ) → 48 ≤ c → c ≤ 57 → is_digit c ≡ true
unfolding is_digit
digit-within c l m = and_from (leb 48 c) (leb c 57) (le-leb 48 c l) (le-leb c 57 m)

letter-name : (c : ℕ) → ((65 ≤ c) × (c ≤ 90)) ⊎ ((97 ≤ c) × (c ≤ 122)) → is_name_byte c ≡ true
unfolding is_name_byte is_letter
letter-name c (inl b) =
    or_left (is_within 97 122 c || (is_within 65 90 c || eqb c 95)) (is_digit c)
    (or_right (is_within 97 122 c) (is_within 65 90 c || eqb c 95) (or_left (is_within 65 90 c) (eqb c 95) (and_from (leb 65 c) (leb c 90) (le-leb 65 c b.0) (le-leb c 90 b.1))))
letter-name c (inr b) =
    or_left (is_within 97 122 c || (is_within 65 90 c || eqb c 95)) (is_digit c)
    (or_left (is_within 97 122 c) (is_within 65 90 c || eqb c 95) (and_from (leb 97 c) (leb c 122) (le-leb 97 c b.0) (le-leb c 122 b.1)))

digit-name : (c : ℕ) → is_digit c ≡ true → is_name_byte c ≡ true
unfolding is_name_byte
digit-name c h = or_right (is_letter c) (is_digit c) h

octal-name : (c : ℕ) → is_octal_digit c ≡ true → is_name_byte c ≡ true
unfolding is_octal_digit
octal-name c h = digit-name c (let b = within-bounds 48 55 c h in digit-within c b.0 (omega (arith, b)))

hex-name : (c : ℕ) → is_hex_digit c ≡ true → is_name_byte c ≡ true
unfolding is_hex_digit
hex-name c h =
    elim (or_cases (is_within 48 57 c) (is_within 65 70 c || is_within 97 102 c) h) [
      | inl e ↦ (let b = within-bounds 48 57 c e in digit-name c (digit-within c b.0 b.1))
      | inr g ↦ letter-name c (elim (or_cases (is_within 65 70 c) (is_within 97 102 c) g) [
        | inl e ↦ (let b = within-bounds 65 70 c e in inl (b.0, omega (arith, b)))
        | inr e ↦ (let b = within-bounds 97 102 c e in inr (b.0, omega (arith, b)))
      ])
    ]

base-name : (b : Base) (c : ℕ) → has (class_of b) c ≡ true → is_name_byte c ≡ true
base-name Base.Decimal c h = digit-name c h
base-name Base.Octal c h = octal-name c h
base-name Base.Hexadecimal c h = hex-name c h

x-name : (x : ℕ) → (x ≡ 120) ⊎ (x ≡ 88) → is_name_byte x ≡ true
unfolding is_name_byte is_letter is_digit
x-name x (inl e) = ap is_name_byte e
x-name x (inr e) = ap is_name_byte e

zero-name : is_name_byte 48 ≡ true
unfolding is_name_byte is_letter is_digit
zero-name = refl

prefixed-names : (b : Base) (t ds : List ℕ) → IsDigits b t ds → list_all is_name_byte t ≡ true
prefixed-names Base.Decimal t ds h = ap (list_all is_name_byte) h.0 ∙ list_all-weaker is_digit is_name_byte ds digit-name h.2
prefixed-names Base.Octal t ds h = ap (list_all is_name_byte) h.0 ∙ list_all-weaker is_octal_digit is_name_byte ds octal-name h.2
prefixed-names Base.Hexadecimal t ds h =
    let d = list_all-weaker is_hex_digit is_name_byte ds hex-name h.2 in
    elim h.0 [
      | inl e ↦ ap (list_all is_name_byte) e ∙ and_from (is_name_byte 48) (is_name_byte 120 && list_all is_name_byte ds) zero-name (and_from (is_name_byte 120) (list_all is_name_byte ds) (x-name 120 (inl refl)) d)
      | inr e ↦ ap (list_all is_name_byte) e ∙ and_from (is_name_byte 48) (is_name_byte 88 && list_all is_name_byte ds) zero-name (and_from (is_name_byte 88) (list_all is_name_byte ds) (x-name 88 (inr refl)) d)
    ]

constant-names : (t : List ℕ) (b : Base) (s : Suffix) (v : ℕ) → IsConstant t b s v → list_all is_name_byte t ≡ true
constant-names t b s v h =
    ap (list_all is_name_byte) h.text_is
    ∙ list_all-append is_name_byte h.prefixed h.ending (prefixed-names b h.prefixed h.digits h.digits_are) (all-rows (λ r. list_all is_name_byte r.0 ≡ true) (h.ending, s) rows-names h.ending_is)

-- what stands behind a shorter first part begins with a byte of the longer one
shorter-begins : (p : ℕ → Bool) (t a u b : List ℕ) → t ++ a ≡ u ++ b → list_all p u ≡ true → length t < length u → begins_with p a ≡ true
shorter-begins p t a [] b e h l = absurd (omega (arith, l))
shorter-begins p [] a (x ∷ u) b e h l = ap (begins_with p) e ∙ (and_parts (p x) (list_all p u) h).0
shorter-begins p (y ∷ t) a (x ∷ u) b e h l = shorter-begins p t a u b (let z : t ++ a ≡ u ++ b = cc in z) (and_parts (p x) (list_all p u) h).1 (omega (arith, l))

begins-or : (p q : ℕ → Bool) (a : List ℕ) → begins_with p a ≡ true → begins_with (λ c. p c || q c) a ≡ true
begins-or p q [] h = h
begins-or p q (c ∷ a) h = or_left (p c) (q c) h

abbrev pub runs_on : List ℕ → Bool
runs_on a = begins_with (λ c. is_name_byte c || eqb c 46) a

-- a constant behind which nothing runs on is the whole one
number-whole : (c : ℕ) (cs t a : List ℕ) (b : Base) (s : Suffix) (v : ℕ) (row : List ℕ × Suffix) → Read (c ∷ cs) row → Known t b s v (c ∷ cs) row → t ++ a ≡ c ∷ cs → (runs_on a ≡ true → ⊥) → length t ≡ whole_length (c ∷ cs) row
number-whole c cs t a b s v row r k e n = by k.most
  where
    short : length t < whole_length (c ∷ cs) row → ⊥
    short l = n (begins-or is_name_byte (λ c. eqb c 46) a (shorter-begins is_name_byte t a r.text r.after (e ∙ sym r.rest_is) (constant-names r.text (base_at (c ∷ cs)) row.1 (value_at (c ∷ cs)) r.constant) (omega (arith, l, r.length_is))))

    by : length t ≤ whole_length (c ∷ cs) row → length t ≡ whole_length (c ∷ cs) row
    by l = omega (arith, l, short)

record Whole (c : ℕ) (cs : List ℕ) (row : List ℕ × Suffix) (t a : List ℕ) (p : Option TokenKind) : Type 0 where
  pub length_is : length t ≡ whole_length (c ∷ cs) row
  pub value : ℤ
  pub ty : IntType
  pub piece_is : p ≡ Some (kind.Number value ty)
  pub value_is : value ≡ pos (value_at (c ∷ cs))
  pub type_is : type_of (base_at (c ∷ cs)) row.1 (value_at (c ∷ cs)) ≡ Some ty
  pub apart : runs_on a ≡ true → ⊥

constant-some : (t : List ℕ) (b : Base) (s : Suffix) (v : ℕ) → IsConstant t b s v → 1 ≤ length t
constant-some t b s v h = by b h.digits_are
  where
    begun : (p : ℕ → Bool) (ds : List ℕ) → begins_with p ds ≡ true → 1 ≤ length ds
    begun p [] h = absurd (false≢true h)
    begun p (c ∷ ds) h = omega arith

    l : length t ≡ length h.prefixed + length h.ending
    l = length-text t h.prefixed h.ending h.text_is

    by : (b : Base) → IsDigits b h.prefixed h.digits → 1 ≤ length t
    by Base.Decimal d = omega (arith, l, begun is_nonzero_digit h.digits d.1, ap length d.0)
    by Base.Octal d = omega (arith, l, begun (λ c. eqb c 48) h.digits d.1, ap length d.0)
    by Base.Hexadecimal d = elim d.0 [ inl e ↦ omega (arith, l, ap length e) | inr e ↦ omega (arith, l, ap length e) ]

number-piece : (before : List ℕ) (c : ℕ) (cs : List ℕ) (row : List ℕ × Suffix) → sort_of (c ∷ cs) ≡ Sort.Number → ending_at (behind_digits (c ∷ cs)) ≡ Some row → Read (c ∷ cs) row → (t a : List ℕ) (p : Option TokenKind) → t ++ a ≡ c ∷ cs → IsPiece before t a p → Whole c cs row t a p
number-piece before c cs row e f r t a p g h =
    let w = sorted Sort.Number before (c ∷ cs) t a p e g h in
    let n = w.2 in
    let k = constant-known t a (c ∷ cs) n.base n.suffix n.amount row n.constant g f in
    let l = number-whole c cs t a n.base n.suffix n.amount row r k g n.apart in
    let s = k.same l in
    record {
      length_is = l;
      value = w.0;
      ty = w.1;
      piece_is = w.3;
      value_is = n.value_is ∙ ap pos s.2;
      type_is = ap (λ b. type_of b row.1 (value_at (c ∷ cs))) (sym s.0) ∙ ap (λ s. type_of n.base s (value_at (c ∷ cs))) (sym s.1) ∙ ap (type_of n.base n.suffix) (sym s.2) ∙ n.type_is;
      apart = n.apart;
    }

wide-known : (c : ℕ) (cs : List ℕ) (row : List ℕ × Suffix) (ty : IntType) → ending_at (behind_digits (c ∷ cs)) ≡ Some row → Read (c ∷ cs) row → type_of (base_at (c ∷ cs)) row.1 (value_at (c ∷ cs)) ≡ Some ty → IsWideConstant (c ∷ cs) → ⊥
wide-known c cs row ty f r y w =
    let k = constant-known w.text w.after (c ∷ cs) w.base w.suffix w.amount row w.constant (sym w.here_is) f in
    let l = w.longest r.text r.after (base_at (c ∷ cs)) row.1 (value_at (c ∷ cs)) (sym r.rest_is) r.constant in
    let s = k.same (omega (arith, k.most, l, r.length_is)) in
    let z : Some ty ≡ None = sym y ∙ ap (λ b. type_of b row.1 (value_at (c ∷ cs))) (sym s.0) ∙ ap (λ s. type_of w.base s (value_at (c ∷ cs))) (sym s.1) ∙ ap (type_of w.base w.suffix) (sym s.2) ∙ w.no_type in
    cc

typed-right : (before : List ℕ) (c : ℕ) (cs : List ℕ) (row : List ℕ × Suffix) → sort_of (c ∷ cs) ≡ Sort.Number → ending_at (behind_digits (c ∷ cs)) ≡ Some row → Read (c ∷ cs) row → IsRight before (c ∷ cs) (with_ending (c ∷ cs) (Some row))
typed-right before c cs row e f r =
    by (type_of (base_at (c ∷ cs)) row.1 (value_at (c ∷ cs))) refl (runs_on (drop (length row.0) (behind_digits (c ∷ cs)))) refl
  where
    all : (t a : List ℕ) (p : Option TokenKind) → t ++ a ≡ c ∷ cs → IsPiece before t a p → Whole c cs row t a p
    all = number-piece before c cs row e f r

    after : (t a : List ℕ) → t ++ a ≡ c ∷ cs → length t ≡ whole_length (c ∷ cs) row → a ≡ drop (length row.0) (behind_digits (c ∷ cs))
    after t a g l = sym (drop-here t a (c ∷ cs) g) ∙ ap (λ n. drop n (c ∷ cs)) (l ∙ sym r.length_is) ∙ drop-here r.text r.after (c ∷ cs) r.rest_is ∙ r.after_is

    wide : type_of (base_at (c ∷ cs)) row.1 (value_at (c ∷ cs)) ≡ None → IsWide (c ∷ cs)
    wide y = inl (record {
      text = r.text;
      after = r.after;
      base = base_at (c ∷ cs);
      suffix = row.1;
      amount = value_at (c ∷ cs);
      here_is = sym r.rest_is;
      constant = r.constant;
      longest = λ t a b s n g k. (let m = constant-known t a (c ∷ cs) b s n row k (sym g) f in omega (arith, m.most, r.length_is));
      no_type = y;
    })

    best : (ty : IntType) → type_of (base_at (c ∷ cs)) row.1 (value_at (c ∷ cs)) ≡ Some ty → runs_on (drop (length row.0) (behind_digits (c ∷ cs))) ≡ false → Best before (c ∷ cs) (length r.text) (Some (kind.Number (pos (value_at (c ∷ cs))) ty))
    best ty y n =
        only before (c ∷ cs) r.text r.after (Some (kind.Number (pos (value_at (c ∷ cs))) ty)) r.rest_is (constant-some r.text (base_at (c ∷ cs)) row.1 (value_at (c ∷ cs)) r.constant)
        (inl (record { base = base_at (c ∷ cs); suffix = row.1; amount = value_at (c ∷ cs); constant = r.constant; type_is = y; value_is = refl; apart = λ h. false≢true (sym n ∙ sym (ap runs_on r.after_is) ∙ h) }))
        (λ u b p g q. let w = all u b p g q in (
          w.length_is ∙ sym r.length_is,
          w.piece_is ∙ ap (λ v. Some (kind.Number v w.ty)) w.value_is ∙ ap (λ t. Some (kind.Number (pos (value_at (c ∷ cs))) t)) (let z : Some w.ty ≡ Some ty = sym w.type_is ∙ y in let x : w.ty ≡ ty = cc in x),
        ))

    by : (o : Option IntType) → type_of (base_at (c ∷ cs)) row.1 (value_at (c ∷ cs)) ≡ o → (b : Bool) → runs_on (drop (length row.0) (behind_digits (c ∷ cs))) ≡ b → IsRight before (c ∷ cs) (typed (c ∷ cs) row.0 o)
    by None y b n = ((λ t a p g h. let z : None ≡ Some (all t a p g h).ty = sym y ∙ (all t a p g h).type_is in cc), (no-unclosed Sort.Number (c ∷ cs) e (λ z. z), wide y))
    by (Some ty) y true n = rw n ((λ t a p g h. let w = all t a p g h in w.apart (ap runs_on (after t a g w.length_is) ∙ n)), (no-unclosed Sort.Number (c ∷ cs) e (λ z. z), no-wide Sort.Number (c ∷ cs) e (wide-known c cs row ty f r y)))
    by (Some ty) y false n = rw n (subst (λ k. Best before (c ∷ cs) k (Some (kind.Number (pos (value_at (c ∷ cs))) ty))) r.length_is (best ty y n))

pub number-right : (before : List ℕ) (c : ℕ) (cs : List ℕ) → sort_of (c ∷ cs) ≡ Sort.Number → IsRight before (c ∷ cs) (scan_number (c ∷ cs))
unfolding scan_number
number-right before c cs e = by (ending_at (behind_digits (c ∷ cs))) refl
  where
    by : (o : Option (List ℕ × Suffix)) → ending_at (behind_digits (c ∷ cs)) ≡ o → IsRight before (c ∷ cs) (with_ending (c ∷ cs) o)
    by None f = absurd (ending-none (behind_digits (c ∷ cs)) f)
    by (Some row) f = typed-right before c cs row e f (read-constant c cs row (first-as Sort.Number c cs e) f)
