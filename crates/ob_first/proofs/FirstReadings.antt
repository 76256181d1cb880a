-- The tokens of a program of the first form are read to their end, and give its code.
use Rattle.std.proofs.Common.{◌≡◌, ℕ, ◌+◌, ◌<◌, ◌≤◌, Bool, true, false, List, [], ◌∷◌, ◌++◌, length, get_or, take, Option, Some, None, refl, sym, ap, ◌∙◌, arith, append_assoc, add-zero}
use Rattle.std.specs.Prelude.{pos}
use Rattle.std.specs.List.{AllByRecursion, flat_map, fold}
use Rattle.std.proofs.lemmas.Bool.{le-leb, lt-ltb}
use Rattle.std.proofs.lemmas.List.{append-nil}
use Rattle.std.proofs.lemmas.List.Folds.{fold_stuck}
use Rattle.ob_tree.specs.declared.tokens.TokenKind.{TokenKind}
use Rattle.ob_tree.specs.declared.tokens.TokenKind.TheVariants as kind
use Rattle.ob_tree.specs.declared.tokens.Sign.TheVariants as signs
use Rattle.ob_code.specs.declared.instructions.Instr.{Instr}
use Rattle.ob_code.specs.declared.instructions.Instr.TheVariants.{Set, PutChar, Return}
use Rattle.ob_first.specs.declared.first_form.Piece.TheVariants as piece
use Rattle.ob_first.specs.declared.first_form.Place.{Place}
use Rattle.ob_first.specs.declared.first_form.Place.TheVariants as place
use Rattle.ob_first.specs.FirstCode.{addend_code, body_code, first_code, print_code, return_code, sum_code}
use Rattle.ob_first.specs.FirstForm.{FirstForm, HasSums, IsSum, addend_kinds, body_kinds, constant_kind, first_kinds, greatest_constant, print_kinds, return_kinds}
use Rattle.ob_first.specs.FirstReading.{Reading, begun, ended, next, number, piece_of, read, read_all}

-- a reading that has come to a place
abbrev pub at : Place → List Instr → Option Reading
at place code = Some (record { place = place; code = code })

pub at_same : (p q : Place) (c d : List Instr) → at p c ≡ at q d → (q ≡ p) × (c ≡ d)
at_same p q c d e =
    let left : Reading = record { place = p; code = c } in
    let right : Reading = record { place = q; code = d } in
    let same : left ≡ right = cc in
    (sym (ap (λ r. r.place) same), ap (λ r. r.code) same)

-- nothing is read on behind a token that may not stand where it stands
pub stuck : (kinds : List TokenKind) (i : ℕ) (d : TokenKind) (place : Place) (code : List Instr) → i < length kinds → read_all (take i kinds) ≡ at place code → next place (piece_of (get_or kinds i d)) ≡ None → (c : List Instr) → read_all kinds ≡ ended c → ⊥
stuck kinds i d place code inside so_far none c is =
    let step : read (read_all (take i kinds)) (get_or kinds i d) ≡ None = rw (so_far, none) refl in
    let all : None ≡ read_all kinds = fold_stuck read None (λ k. refl) (Some begun) kinds i d inside step in
    let other : None ≡ ended c = all ∙ is in
    cc

-- ---- sums

constant_piece : (c : ℕ) → c ≤ greatest_constant → number (pos c) ≡ piece.Constant c
constant_piece c small = rw (le-leb c greatest_constant small) refl

read_addend : (last : Bool) (count c : ℕ) (code : List Instr) → count < 200 → c ≤ greatest_constant → read (read (at (place.Behind last count) code) (kind.Sign signs.Plus)) (constant_kind c) ≡ at (place.Behind last (count + 1)) (code ++ addend_code c)
read_addend true count c code few small =
    rw (constant_piece c small, lt-ltb count 200 few)
    (ap (λ xs. at (place.Behind true (count + 1)) (xs ++ addend_code c)) (append-nil code))
read_addend false count c code few small =
    rw (constant_piece c small, lt-ltb count 200 few)
    (ap (λ xs. at (place.Behind false (count + 1)) (xs ++ addend_code c)) (append-nil code))

read_addends : (last : Bool) (cs : List ℕ) (count : ℕ) (code : List Instr) (rest : List TokenKind) → count + length cs ≤ 200 → AllByRecursion (λ n. n ≤ greatest_constant) cs → fold read (at (place.Behind last count) code) (flat_map addend_kinds cs ++ rest) ≡ fold read (at (place.Behind last (count + length cs)) (code ++ flat_map addend_code cs)) rest
read_addends last [] count code rest few small =
    ap (λ n. fold read (at (place.Behind last n) code) rest) (sym (add-zero count))
    ∙ ap (λ xs. fold read (at (place.Behind last (count + 0)) xs) rest) (sym (append-nil code))
read_addends last (c ∷ cs) count code rest few small =
    let more : count + 1 + length cs ≡ count + length (c ∷ cs) = omega arith in
    ap (λ r. fold read r (flat_map addend_kinds cs ++ rest)) (read_addend last count c code (omega arith) small.0)
    ∙ read_addends last cs (count + 1) (code ++ addend_code c) rest (omega arith) small.1
    ∙ ap (λ n. fold read (at (place.Behind last n) ((code ++ addend_code c) ++ flat_map addend_code cs)) rest) more
    ∙ ap (λ xs. fold read (at (place.Behind last (count + length (c ∷ cs))) xs) rest) (append_assoc code (addend_code c) (flat_map addend_code cs))

read_first : (last : Bool) (c : ℕ) (code : List Instr) → c ≤ greatest_constant → read (at (place.First last) code) (constant_kind c) ≡ at (place.Behind last 1) (code ++ Set 2 (pos c) ∷ [])
read_first last c code small = rw (constant_piece c small) refl

-- a sum, from where its first constant comes next
read_sum : (last : Bool) (c : ℕ) (cs : List ℕ) (code : List Instr) (rest : List TokenKind) → IsSum (c ∷ cs) → fold read (at (place.First last) code) (constant_kind c ∷ (flat_map addend_kinds cs ++ rest)) ≡ fold read (at (place.Behind last (1 + length cs)) (code ++ sum_code (c ∷ cs))) rest
read_sum last c cs code rest s =
    ap (λ r. fold read r (flat_map addend_kinds cs ++ rest)) (read_first last c code s.small.0)
    ∙ read_addends last cs 1 (code ++ Set 2 (pos c) ∷ []) rest (omega (arith, s.few)) s.small.1
    ∙ ap (λ xs. fold read (at (place.Behind last (1 + length cs)) xs) rest) (append_assoc code (Set 2 (pos c) ∷ []) (flat_map addend_code cs))

-- ---- statements

read_print : (constants : List ℕ) (code : List Instr) (rest : List TokenKind) → IsSum constants → fold read (at place.Statement code) (print_kinds constants ++ rest) ≡ fold read (at place.Statement (code ++ print_code constants)) rest
read_print [] code rest s = absurd (omega (arith, s.some))
read_print (c ∷ cs) code rest s =
    let closing = kind.Sign signs.CloseParen ∷ (kind.Sign signs.Semi ∷ []) in
    let opened : (code ++ []) ++ [] ≡ code = append-nil (code ++ []) ∙ append-nil code in
    let closed : ((code ++ sum_code (c ∷ cs)) ++ PutChar 3 2 ∷ []) ++ [] ≡ code ++ print_code (c ∷ cs) = append-nil ((code ++ sum_code (c ∷ cs)) ++ PutChar 3 2 ∷ []) ∙ append_assoc code (sum_code (c ∷ cs)) (PutChar 3 2 ∷ []) in
    ap (λ xs. fold read (at (place.First false) xs) (constant_kind c ∷ ((flat_map addend_kinds cs ++ closing) ++ rest))) opened
    ∙ ap (λ ks. fold read (at (place.First false) code) (constant_kind c ∷ ks)) (append_assoc (flat_map addend_kinds cs) closing rest)
    ∙ read_sum false c cs code (closing ++ rest) s
    ∙ ap (λ xs. fold read (at place.Statement xs) rest) closed

read_return : (constants : List ℕ) (code : List Instr) → IsSum constants → fold read (at place.Statement code) (return_kinds constants) ≡ ended (code ++ return_code constants)
read_return [] code s = absurd (omega (arith, s.some))
read_return (c ∷ cs) code s =
    let closing = kind.Sign signs.Semi ∷ (kind.Sign signs.CloseBrace ∷ []) in
    let closed : ((code ++ sum_code (c ∷ cs)) ++ Return 2 ∷ []) ++ [] ≡ code ++ return_code (c ∷ cs) = append-nil ((code ++ sum_code (c ∷ cs)) ++ Return 2 ∷ []) ∙ append_assoc code (sum_code (c ∷ cs)) (Return 2 ∷ []) in
    ap (λ xs. fold read (at (place.First true) xs) (constant_kind c ∷ (flat_map addend_kinds cs ++ closing))) (append-nil code)
    ∙ read_sum true c cs code closing s
    ∙ ap ended closed

read_body : (prints : List (List ℕ)) (result : List ℕ) (code : List Instr) → AllByRecursion IsSum prints → IsSum result → fold read (at place.Statement code) (body_kinds prints result) ≡ ended (code ++ body_code prints result)
read_body [] result code sums s = read_return result code s
read_body (constants ∷ more) result code sums s =
    ap (fold read (at place.Statement code)) (append_assoc (print_kinds constants) (flat_map print_kinds more) (return_kinds result))
    ∙ read_print constants code (body_kinds more result) sums.0
    ∙ read_body more result (code ++ print_code constants) sums.1 s
    ∙ ap ended (append_assoc code (print_code constants) (body_code more result) ∙ ap (λ xs. code ++ xs) (sym (append_assoc (print_code constants) (flat_map print_code more) (return_code result))))

-- the whole
pub read_first_form : (f : FirstForm) → HasSums f → read_all (first_kinds f) ≡ ended (first_code f)
read_first_form f sums = read_body f.prints f.result [] sums.prints sums.result
