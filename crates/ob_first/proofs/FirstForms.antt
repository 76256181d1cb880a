-- Tokens that are read to their end are those of a program of the first form.
use Rattle.std.proofs.Common.{◌≡◌, ℕ, zero, suc, ◌+◌, ◌<◌, ◌≤◌, Bool, true, false, leb, ltb, List, [], ◌∷◌, ◌++◌, length, Option, Some, None, ℤ, pos, negsuc, refl, sym, ap, subst, ◌∙◌, arith, append_assoc}
use Rattle.std.specs.Prelude.{codes, if◌then◌else◌}
use Rattle.std.specs.List.{AllByRecursion, flat_map, fold}
use Rattle.std.specs.Str.{bytes_eq}
use Rattle.std.proofs.lemmas.Bool.{leb-true, ltb-true}
use Rattle.std.proofs.lemmas.List.Folds.{fold_stays}
use Rattle.std.proofs.lemmas.Slice.Eq.{bytes_eq-Decides}
use Rattle.ob_words.specs.declared.types.IntType.TheVariants as type
use Rattle.ob_tree.specs.declared.tokens.TokenKind.{TokenKind}
use Rattle.ob_tree.specs.declared.tokens.TokenKind.TheVariants as kind
use Rattle.ob_tree.specs.declared.tokens.Keyword.TheVariants as word
use Rattle.ob_tree.specs.declared.tokens.Sign.{Sign}
use Rattle.ob_tree.specs.declared.tokens.Sign.TheVariants as signs
use Rattle.ob_code.specs.declared.instructions.Instr.{Instr}
use Rattle.ob_first.specs.declared.first_form.Piece.{Piece}
use Rattle.ob_first.specs.declared.first_form.Piece.TheVariants as piece
use Rattle.ob_first.specs.declared.first_form.Place.{Place}
use Rattle.ob_first.specs.declared.first_form.Place.TheVariants as place
use Rattle.ob_first.specs.FirstCode.{first_code}
use Rattle.ob_first.specs.FirstForm.{FirstForm, HasSums, IsSum, addend_kinds, body_kinds, constant_kind, first_kinds, greatest_constant, print_kinds, return_kinds, sum_kinds}
use Rattle.ob_first.specs.FirstReading.{ended, next, number, piece_of, read, read_all, sign, went_on, written}
use Rattle.ob_first.proofs.FirstReadings.{at, at_same, read_first_form}

-- ---- the token of a piece

abbrev Spells : Piece → TokenKind → Type 0
Spells piece.Int k = k ≡ kind.Word word.Int
Spells piece.Void k = k ≡ kind.Word word.Void
Spells piece.Return k = k ≡ kind.Word word.Return
Spells piece.Main k = k ≡ kind.Name (codes "main")
Spells piece.Putchar k = k ≡ kind.Name (codes "putchar")
Spells piece.OpenParen k = k ≡ kind.Sign signs.OpenParen
Spells piece.CloseParen k = k ≡ kind.Sign signs.CloseParen
Spells piece.OpenBrace k = k ≡ kind.Sign signs.OpenBrace
Spells piece.CloseBrace k = k ≡ kind.Sign signs.CloseBrace
Spells piece.Plus k = k ≡ kind.Sign signs.Plus
Spells piece.Semi k = k ≡ kind.Sign signs.Semi
Spells (piece.Constant c) k = (k ≡ constant_kind c) × (c ≤ greatest_constant)
Spells piece.Other k = Unit {0}

by_main : (name : List ℕ) (b c : Bool) → bytes_eq name (codes "main") ≡ b → bytes_eq name (codes "putchar") ≡ c → Spells (if b then piece.Main else if c then piece.Putchar else piece.Other) (kind.Name name)
by_main name true c m p = ap kind.Name ((bytes_eq-Decides name (codes "main")).0 m)
by_main name false true m p = ap kind.Name ((bytes_eq-Decides name (codes "putchar")).0 p)
by_main name false false m p = tt

by_size : (n : ℕ) (b : Bool) → leb n greatest_constant ≡ b → Spells (if b then piece.Constant n else piece.Other) (constant_kind n)
by_size n true e = (refl, leb-true n greatest_constant e)
by_size n false e = tt

by_value : (value : ℤ) → Spells (number value) (kind.Number value type.Int)
by_value (pos n) = by_size n (leb n greatest_constant) refl
by_value (negsuc n) = tt

by_sign : (s : Sign) → Spells (sign s) (kind.Sign s)
by_sign signs.OpenParen = refl
by_sign signs.CloseParen = refl
by_sign signs.OpenBrace = refl
by_sign signs.CloseBrace = refl
by_sign signs.Plus = refl
by_sign signs.Semi = refl
by_sign s = tt

spells : (k : TokenKind) → Spells (piece_of k) k
spells (kind.Word word.Int) = refl
spells (kind.Word word.Void) = refl
spells (kind.Word word.Return) = refl
spells (kind.Name name) = by_main name (bytes_eq name (codes "main")) (bytes_eq name (codes "putchar")) refl refl
spells (kind.Number value type.Int) = by_value value
spells (kind.Sign s) = by_sign s
spells k = tt

-- ---- what is left at a place of a program of the first form

-- behind a sum
abbrev Behind : Bool → List TokenKind → Type 0
Behind true ks = ks ≡ kind.Sign signs.Semi ∷ (kind.Sign signs.CloseBrace ∷ [])
Behind false ks = (f : FirstForm) × HasSums f × (ks ≡ kind.Sign signs.CloseParen ∷ (kind.Sign signs.Semi ∷ body_kinds f.prints f.result))

-- constants after the first, where so many were before
record HasMore (last : Bool) (count : ℕ) (ks : List TokenKind) : Type 0 where
  constants : List ℕ
  few : 0 < length constants → count + length constants ≤ 200
  small : AllByRecursion (λ n. n ≤ greatest_constant) constants
  rest : List TokenKind
  behind : Behind last rest
  spelled : ks ≡ flat_map addend_kinds constants ++ rest

room : (count n : ℕ) → count < 200 → (0 < n → count + 1 + n ≤ 200) → count + suc n ≤ 200
room count zero fewer few = omega arith
room count (suc n) fewer few = omega (arith, few (omega arith))

-- another constant, and then more
record HasAnother (last : Bool) (count : ℕ) (ks : List TokenKind) : Type 0 where
  constant : ℕ
  small : constant ≤ greatest_constant
  fewer : count < 200
  rest : List TokenKind
  more : HasMore last (count + 1) rest
  spelled : ks ≡ constant_kind constant ∷ rest

-- tokens before those of a body
abbrev HasBody : List TokenKind → List TokenKind → Type 0
HasBody before ks = (f : FirstForm) × HasSums f × (ks ≡ before ++ body_kinds f.prints f.result)

-- what is left of `int main(void){`
abbrev from_brace : List TokenKind
from_brace = kind.Sign signs.OpenBrace ∷ []

abbrev from_close : List TokenKind
from_close = kind.Sign signs.CloseParen ∷ from_brace

abbrev from_void : List TokenKind
from_void = kind.Word word.Void ∷ from_close

abbrev from_open : List TokenKind
from_open = kind.Sign signs.OpenParen ∷ from_void

abbrev from_main : List TokenKind
from_main = kind.Name (codes "main") ∷ from_open

abbrev Left : Place → List TokenKind → Type 0
Left place.Type ks = HasBody (kind.Word word.Int ∷ from_main) ks
Left place.Main ks = HasBody from_main ks
Left place.OpenParen ks = HasBody from_open ks
Left place.Void ks = HasBody from_void ks
Left place.CloseParen ks = HasBody from_close ks
Left place.OpenBrace ks = HasBody from_brace ks
Left place.Statement ks = HasBody [] ks
Left place.OpenPrint ks = (rest : List TokenKind) × HasAnother false 0 rest × (ks ≡ kind.Sign signs.OpenParen ∷ rest)
Left (place.First last) ks = HasAnother last 0 ks
Left (place.Another last count) ks = HasAnother last count ks
Left (place.Behind last count) ks = HasMore last count ks
Left place.EndPrint ks = HasBody (kind.Sign signs.Semi ∷ []) ks
Left place.CloseBrace ks = ks ≡ kind.Sign signs.CloseBrace ∷ []
Left place.End ks = ks ≡ []

-- a token before what is left at the place behind it
abbrev Leads : Option Place → Place → TokenKind → List TokenKind → Type 0
Leads None p k ks = Unit {0}
Leads (Some q) p k ks = Left q ks → Left p (k ∷ ks)

-- ---- sums and statements, from what is left within them

another : (last : Bool) (count c : ℕ) (k : TokenKind) (ks : List TokenKind) → k ≡ constant_kind c → c ≤ greatest_constant → (b : Bool) → ltb count 200 ≡ b → Leads (if b then Some (place.Behind last (count + 1)) else None) (place.Another last count) k ks
another last count c k ks is small true fewer = λ left. record { constant = c; small = small; fewer = ltb-true count 200 fewer; rest = ks; more = left; spelled = ap (λ x. x ∷ ks) is }
another last count c k ks is small false fewer = tt

plus : (last : Bool) (count : ℕ) (k : TokenKind) (ks : List TokenKind) → k ≡ kind.Sign signs.Plus → HasAnother last count ks → HasMore last count (k ∷ ks)
plus last count k ks is a =
    record {
      constants = a.constant ∷ a.more.constants;
      few = λ some. room count (length a.more.constants) a.fewer a.more.few;
      small = (a.small, a.more.small);
      rest = a.more.rest;
      behind = a.more.behind;
      spelled = let tail = a.more.spelled in let whole = a.spelled in cc;
    }

none_more : (last : Bool) (count : ℕ) (ks : List TokenKind) → Behind last ks → HasMore last count ks
none_more last count ks behind = record { constants = []; few = λ some. absurd (omega arith); small = tt; rest = ks; behind = behind; spelled = refl }

record HasSum (last : Bool) (ks : List TokenKind) : Type 0 where
  constants : List ℕ
  is_sum : IsSum constants
  rest : List TokenKind
  behind : Behind last rest
  spelled : ks ≡ sum_kinds constants ++ rest

whole_sum : (last : Bool) (ks : List TokenKind) → HasAnother last 0 ks → HasSum last ks
whole_sum last ks a =
    record {
      constants = a.constant ∷ a.more.constants;
      is_sum = record { some = omega arith; few = omega (arith, room 0 (length a.more.constants) a.fewer a.more.few); small = (a.small, a.more.small) };
      rest = a.more.rest;
      behind = a.more.behind;
      spelled = a.spelled ∙ ap (λ xs. constant_kind a.constant ∷ xs) a.more.spelled;
    }

print_left : (k : TokenKind) (ks : List TokenKind) → k ≡ kind.Name (codes "putchar") → Left place.OpenPrint ks → Left place.Statement (k ∷ ks)
print_left k ks is (rest, a, spelled) =
    let s = whole_sum false rest a in
    let f = s.behind.0 in
    let closing = kind.Sign signs.CloseParen ∷ (kind.Sign signs.Semi ∷ []) in
    let body = body_kinds f.prints f.result in
    let sums : HasSums (record { prints = s.constants ∷ f.prints; result = f.result }) = record { prints = (s.is_sum, s.behind.1.prints); result = s.behind.1.result } in
    let sum : rest ≡ sum_kinds s.constants ++ (closing ++ body) = s.spelled ∙ ap (λ xs. sum_kinds s.constants ++ xs) s.behind.2 in
    let print : k ∷ ks ≡ kind.Name (codes "putchar") ∷ (kind.Sign signs.OpenParen ∷ (sum_kinds s.constants ++ (closing ++ body))) = cc in (
      record { prints = s.constants ∷ f.prints; result = f.result },
      sums,
      print
          ∙ ap (λ xs. kind.Name (codes "putchar") ∷ (kind.Sign signs.OpenParen ∷ xs)) (sym (append_assoc (sum_kinds s.constants) closing body))
          ∙ sym (append_assoc (print_kinds s.constants) (flat_map print_kinds f.prints) (return_kinds f.result)),
    )

return_left : (k : TokenKind) (ks : List TokenKind) → k ≡ kind.Word word.Return → HasAnother true 0 ks → Left place.Statement (k ∷ ks)
return_left k ks is a =
    let s = whole_sum true ks a in
    let tail : ks ≡ sum_kinds s.constants ++ (kind.Sign signs.Semi ∷ (kind.Sign signs.CloseBrace ∷ [])) = s.spelled ∙ ap (λ xs. sum_kinds s.constants ++ xs) s.behind in
    (record { prints = []; result = s.constants }, record { prints = tt; result = s.is_sum }, cc)

-- ---- one token back

one_back : (k : TokenKind) (ks before : List TokenKind) (wanted : TokenKind) → k ≡ wanted → HasBody before ks → HasBody (wanted ∷ before) (k ∷ ks)
one_back k ks before wanted is (f, sums, e) = (f, sums, cc)

leads : (p : Place) (x : Piece) (k : TokenKind) (ks : List TokenKind) → Spells x k → Leads (next p x) p k ks
leads place.Type piece.Int k ks is = one_back k ks from_main (kind.Word word.Int) is
leads place.Main piece.Main k ks is = one_back k ks from_open (kind.Name (codes "main")) is
leads place.OpenParen piece.OpenParen k ks is = one_back k ks from_void (kind.Sign signs.OpenParen) is
leads place.Void piece.Void k ks is = one_back k ks from_close (kind.Word word.Void) is
leads place.CloseParen piece.CloseParen k ks is = one_back k ks from_brace (kind.Sign signs.CloseParen) is
leads place.OpenBrace piece.OpenBrace k ks is = one_back k ks [] (kind.Sign signs.OpenBrace) is
leads place.Statement piece.Putchar k ks is = print_left k ks is
leads place.Statement piece.Return k ks is = return_left k ks is
leads place.OpenPrint piece.OpenParen k ks is = λ left. (ks, left, ap (λ x. x ∷ ks) is)
leads (place.First last) (piece.Constant c) k ks is = λ left. record { constant = c; small = is.1; fewer = omega arith; rest = ks; more = left; spelled = ap (λ x. x ∷ ks) is.0 }
leads (place.Another last count) (piece.Constant c) k ks is = another last count c k ks is.0 is.1 (ltb count 200) refl
leads (place.Behind last count) piece.Plus k ks is = plus last count k ks is
leads (place.Behind false count) piece.CloseParen k ks is = λ (f, sums, e). none_more false count (k ∷ ks) (f, sums, cc)
leads (place.Behind true count) piece.Semi k ks is = λ left. none_more true count (k ∷ ks) cc
leads place.EndPrint piece.Semi k ks is = one_back k ks [] (kind.Sign signs.Semi) is
leads place.CloseBrace piece.CloseBrace k ks is = λ left. cc
leads p x k ks is = tt

by_next : (ks : List TokenKind) (k : TokenKind) (p : Place) (code code' : List Instr) → ((q : Place) (c : List Instr) → fold read (at q c) ks ≡ ended code' → Left q ks) → (o : Option Place) → Leads o p k ks → fold read (went_on o code) ks ≡ ended code' → Left p (k ∷ ks)
by_next ks k p code code' others None l e = let never : None ≡ ended code' = sym (fold_stays read None (λ x. refl) ks) ∙ e in absurd (cc)
by_next ks k p code code' others (Some q) l e = l (others q code e)

left_of : (ks : List TokenKind) (p : Place) (code code' : List Instr) → fold read (at p code) ks ≡ ended code' → Left p ks
left_of [] p code code' e = subst (λ q. Left q []) (at_same p place.End code code' e).0 refl
left_of (k ∷ ks) p code code' e =
    by_next ks k p (code ++ written p (piece_of k)) code' (λ q c. left_of ks q c code') (next p (piece_of k)) (leads p (piece_of k) k ks (spells k)) e

-- what was read to its end, and the code
pub record IsRead (kinds : List TokenKind) (code : List Instr) : Type 0 where
  pub form : FirstForm
  pub sums : HasSums form
  pub spelled : kinds ≡ first_kinds form
  pub code_is : code ≡ first_code form

pub is_read : (kinds : List TokenKind) (code : List Instr) → read_all kinds ≡ ended code → IsRead kinds code
is_read kinds code e =
    let left = left_of kinds place.Type [] code e in
    let again : read_all kinds ≡ ended (first_code left.0) = ap read_all left.2 ∙ read_first_form left.0 left.1 in
    let same = at_same place.End place.End code (first_code left.0) (sym e ∙ again) in
    record { form = left.0; sums = left.1; spelled = left.2; code_is = same.1 }
