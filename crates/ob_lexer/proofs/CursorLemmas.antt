-- Places are those of the bytes before them.
use Rattle.std.proofs.Common.{◌≡◌, ℕ, suc, ◌+◌, ◌<◌, ◌≤◌, List, [], ◌∷◌, ◌++◌, length, take, drop, Bool, true, false, cond, ◌&&◌, eqb, Option, None, Some, Ok, Err, refl, arith, ◌∙◌, ap, sym, subst}
use Rattle.std.proofs.lemmas.List.{append_assoc, length-append, append-nil, length-take-le, length_push}
use Rattle.std.proofs.lemmas.List.Sums.{sum_by-append, count_by-le-length}
use Rattle.std.proofs.lemmas.List.Folds.{list_all-append}
use Rattle.std.specs.List.{list_all, count_by}
use Rattle.ob_tree.specs.Bytes.{is_blank}
use Rattle.ob_tree.specs.Spaces.{last_line, line_from}
use Rattle.ob_tree.specs.declared.tokens.Token.{Token}
use Rattle.ob_tree.specs.declared.tokens.TokenKind.{TokenKind}
use Rattle.ob_tree.specs.declared.faults.LexKind.{LexKind}
use Rattle.ob_tree.specs.declared.faults.LexKind.TheVariants as kind
use Rattle.ob_lexer.specs.declared.cursor.Cursor.{Cursor}
use Rattle.ob_lexer.specs.declared.taken.Taken.{Taken}
use Rattle.ob_lexer.specs.declared.taken.Refusal.{Refusal}
use Rattle.ob_lexer.specs.declared.taken.Refusal.TheVariants as refusal
use Rattle.ob_lexer.specs.Texts.{token_of, HasLexFault, StopsAt, Spells}
use Rattle.ob_lexer.specs.Scan.{scan, Scans}
use Rattle.ob_lexer.specs.Cursors.{place_of, advance, moved, tokens_at, fault_at}
use Rattle.ob_lexer.proofs.Scanning.{Run, run-start, run-more, run-fault, run-end, is_fresh}

abbrev make : ℕ → ℕ → ℕ → Bool → Cursor
make a l c f = record { at = a; line = l; column = c; fresh = f }

same-make : (a b l m c d : ℕ) (f g : Bool) → a ≡ b → l ≡ m → c ≡ d → f ≡ g → make a l c f ≡ make b m d g
same-make a b l m c d f g ea el ec ef = ap (λ a. make a l c f) ea ∙ ap (λ l. make b l c f) el ∙ ap (λ c. make b m c f) ec ∙ ap (λ f. make b m d f) ef

line_from-append : (line xs ys : List ℕ) → line_from line (xs ++ ys) ≡ line_from (line_from line xs) ys
line_from-append line [] ys = refl
line_from-append line (x ∷ xs) ys = line_from-append (cond (eqb x 10) [] (line ++ x ∷ [])) xs ys

last_line-push : (before : List ℕ) (c : ℕ) → last_line (before ++ c ∷ []) ≡ cond (eqb c 10) [] (last_line before ++ c ∷ [])
last_line-push before c = line_from-append [] before (c ∷ [])

lines-push : (before : List ℕ) (c : ℕ) → count_by (λ c. eqb c 10) (before ++ c ∷ []) ≡ count_by (λ c. eqb c 10) before + (0 + cond (eqb c 10) 1 0)
lines-push before c = sum_by-append (λ x. cond (eqb x 10) 1 0) before (c ∷ [])

advance-place : (before : List ℕ) (c : ℕ) → advance (place_of before) c ≡ place_of (before ++ c ∷ [])
unfolding advance place_of
advance-place before c = by (eqb c 10) refl
  where
    n : ℕ
    n = count_by (λ c. eqb c 10) before

    by : (b : Bool) → eqb c 10 ≡ b → cond b (make (length before + 1) (1 + n + 1) 1 true) (make (length before + 1) (1 + n) (1 + length (last_line before) + 1) (list_all is_blank (last_line before) && is_blank c)) ≡ make (length (before ++ c ∷ [])) (1 + count_by (λ c. eqb c 10) (before ++ c ∷ [])) (1 + length (last_line (before ++ c ∷ []))) (list_all is_blank (last_line (before ++ c ∷ [])))
    by true e =
        let line : last_line (before ++ c ∷ []) ≡ [] = last_line-push before c ∙ ap (λ b. cond b [] (last_line before ++ c ∷ [])) e in
        let lines = lines-push before c ∙ ap (λ b. n + (0 + cond b 1 0)) e in
        same-make _ _ _ _ _ _ _ _ (sym (length_push before c)) (omega (arith, lines)) (omega (arith, ap length line)) (sym (ap (list_all is_blank) line))
    by false e =
        let line : last_line (before ++ c ∷ []) ≡ last_line before ++ c ∷ [] = last_line-push before c ∙ ap (λ b. cond b [] (last_line before ++ c ∷ [])) e in
        let lines = lines-push before c ∙ ap (λ b. n + (0 + cond b 1 0)) e in
        same-make _ _ _ _ _ _ _ _ (sym (length_push before c)) (omega (arith, lines)) (omega (arith, ap length line, length_push (last_line before) c))
        (ap (λ b. list_all is_blank (last_line before) && b) (and-true (is_blank c)) ∙ sym (ap (list_all is_blank) line ∙ list_all-append is_blank (last_line before) (c ∷ [])))
      where
        and-true : (b : Bool) → b ≡ (b && true)
        and-true true = refl
        and-true false = refl

pub moved-place : (before cs : List ℕ) → moved (place_of before) cs ≡ place_of (before ++ cs)
moved-place before [] = ap place_of (sym (append-nil before))
moved-place before (c ∷ cs) =
    ap (λ p. moved p cs) (advance-place before c) ∙ moved-place (before ++ c ∷ []) cs ∙ ap place_of (append_assoc before (c ∷ []) cs)

line-within : (line before : List ℕ) → length (line_from line before) ≤ length line + length before
line-within line [] = omega arith
line-within line (c ∷ cs) = by (eqb c 10) (line-within [] cs) (line-within (line ++ c ∷ []) cs)
  where
    by : (b : Bool) → length (line_from [] cs) ≤ length {A = ℕ} [] + length cs → length (line_from (line ++ c ∷ []) cs) ≤ length (line ++ c ∷ []) + length cs → length (line_from (cond b [] (line ++ c ∷ [])) cs) ≤ length line + suc (length cs)
    by true g h = omega (arith, g)
    by false g h = omega (arith, h, length_push line c)

pub record Small (place : Cursor) : Type 0 where
  pub line : place.line ≤ place.at + 1
  pub column : place.column ≤ place.at + 1

pub place-small : (before : List ℕ) → Small (place_of before)
unfolding place_of
place-small before = record {
  line = omega (arith, count_by-le-length (λ c. eqb c 10) before);
  column = omega (arith, line-within [] before);
}

pub fresh-place : (before : List ℕ) → (place_of before).fresh ≡ is_fresh before
unfolding place_of
fresh-place before = refl

pub at-place : (before : List ℕ) → (place_of before).at ≡ length before
unfolding place_of
at-place before = refl

pub tokens-place : (before text : List ℕ) (past : ℕ) (k : Option TokenKind) → past ≡ length before + length text → tokens_at (place_of before) past k ≡ token_of before text k
unfolding place_of
tokens-place before text past None e = refl
tokens-place before text past (Some k) e = ap (λ n. tokens_at (place_of before) n (Some k)) e

pub fault-place : (text : List ℕ) (k : LexKind) (at : ℕ) → StopsAt text k at → HasLexFault text (fault_at (refusal.Fault k) at)
fault-place text kind.Stray at h = h
fault-place text kind.Unclosed at h = h
fault-place text kind.Wide at h = h

-- What the loop keeps: the bytes before the place were read, and the place is theirs.
pub record Reading (bytes : List ℕ) (tokens : List Token) (place : Cursor) : Type 0 where
  pub run : Run bytes tokens place.at
  pub place_is : place ≡ place_of (take place.at bytes)
  pub within : place.at ≤ length bytes

pub reading-small : (bytes : List ℕ) (tokens : List Token) (place : Cursor) → Reading bytes tokens place → Small place
reading-small bytes tokens place r = subst Small (sym r.place_is) (place-small (take place.at bytes))

pub reading-fault : (bytes : List ℕ) (tokens : List Token) (place : Cursor) (k : LexKind) → Reading bytes tokens place → place.at < length bytes → scan place.fresh (drop place.at bytes) ≡ Err k → HasLexFault bytes (fault_at (refusal.Fault k) place.at)
reading-fault bytes tokens place k r l e =
    fault-place bytes k place.at (run-fault bytes tokens place.at place.fresh k l (ap (λ (p : Cursor). p.fresh) r.place_is ∙ fresh-place (take place.at bytes)) e r.run)

-- one more piece
pub record ReadOn (bytes : List ℕ) (tokens : List Token) (place : Cursor) (w : Taken) : Type 0 where
  pub some : 1 ≤ w.length
  pub within : place.at + w.length ≤ length bytes
  pub next : Reading bytes (tokens ++ tokens_at place (place.at + w.length) w.kind) (moved place (take w.length (drop place.at bytes)))
  pub at_is : (moved place (take w.length (drop place.at bytes))).at ≡ place.at + w.length

pub reading-more : (bytes : List ℕ) (tokens : List Token) (place : Cursor) (w : Taken) → Reading bytes tokens place → place.at < length bytes → scan place.fresh (drop place.at bytes) ≡ Ok w → ReadOn bytes tokens place w
reading-more bytes tokens place w r l e =
    let before : List ℕ = take place.at bytes in
    let text : List ℕ = take w.length (drop place.at bytes) in
    let m = run-more bytes tokens place.at place.fresh w l (ap (λ (p : Cursor). p.fresh) r.place_is ∙ fresh-place before) e r.run in
    let at : moved place text ≡ place_of (take (place.at + w.length) bytes) = ap (λ p. moved p text) r.place_is ∙ moved-place before text ∙ ap place_of m.read in
    let lb : length before ≡ place.at = length-take-le place.at bytes r.within in
    let size : place.at + w.length ≡ length before + length text =
    sym (length-take-le (place.at + w.length) bytes m.within) ∙ sym (ap length m.read) ∙ length-append before text in
    let past : (moved place text).at ≡ place.at + w.length = ap (λ (p : Cursor). p.at) at ∙ at-place (take (place.at + w.length) bytes) ∙ length-take-le (place.at + w.length) bytes m.within in
    let tokens_are : tokens_at place (place.at + w.length) w.kind ≡ token_of before text w.kind =
    ap (λ p. tokens_at p (place.at + w.length) w.kind) r.place_is ∙ tokens-place before text (place.at + w.length) w.kind size in
    record {
      some = m.some;
      within = m.within;
      next = record {
        run = subst (λ n. Run bytes (tokens ++ tokens_at place (place.at + w.length) w.kind) n) (sym past) (subst (λ ts. Run bytes (tokens ++ ts) (place.at + w.length)) (sym tokens_are) m.run);
        place_is = at ∙ ap (λ n. place_of (take n bytes)) (sym past);
        within = (let k = m.within in omega (arith, past, k));
      };
      at_is = past;
    }

pub reading-start : (bytes : List ℕ) (tokens : List Token) (place : Cursor) → tokens ≡ [] → place ≡ place_of [] → Reading bytes tokens place
unfolding place_of
reading-start bytes tokens place e f =
    subst (λ ts. Reading bytes ts place) (sym e) (subst (Reading bytes []) (sym f) (record { run = run-start bytes; place_is = refl; within = omega arith }))

-- what the loop knows once a piece was taken
pub record Took (bytes : List ℕ) (tokens : List Token) (place after : Cursor) (n : ℕ) : Type 0 where
  pub at : after.at ≡ place.at + n
  pub some : 1 ≤ n
  pub within : place.at + n ≤ length bytes

pub took : (bytes : List ℕ) (tokens : List Token) (place after : Cursor) (rest front : List ℕ) (w : Taken) → Reading bytes tokens place → place.at < length bytes → rest ≡ drop place.at bytes → scan place.fresh rest ≡ Ok w → front ≡ take w.length rest → after ≡ moved place front → Took bytes tokens place after w.length
took bytes tokens place after rest front w r l d e f a =
    let m = reading-more bytes tokens place w r l (ap (scan place.fresh) (sym d) ∙ e) in
    record { at = ap (λ (p : Cursor). p.at) (a ∙ ap (moved place) (f ∙ ap (take w.length) d)) ∙ m.at_is; some = m.some; within = m.within }

pub reading-next : (bytes : List ℕ) (tokens ts : List Token) (place after : Cursor) (rest front : List ℕ) (w : Taken) → Reading bytes tokens place → place.at < length bytes → rest ≡ drop place.at bytes → scan place.fresh rest ≡ Ok w → front ≡ take w.length rest → after ≡ moved place front → ts ≡ tokens ++ tokens_at place after.at w.kind → Reading bytes ts after
reading-next bytes tokens ts place after rest front w r l d e f a t =
    let m = reading-more bytes tokens place w r l (ap (scan place.fresh) (sym d) ∙ e) in
    let k = took bytes tokens place after rest front w r l d e f a in
    subst (λ ts. Reading bytes ts after) (sym (t ∙ ap (λ n. tokens ++ tokens_at place n w.kind) k.at))
    (subst (Reading bytes (tokens ++ tokens_at place (place.at + w.length) w.kind)) (sym (a ∙ ap (moved place) (f ∙ ap (take w.length) d))) m.next)

pub reading-end : (bytes : List ℕ) (tokens : List Token) (place : Cursor) → length bytes ≤ place.at → Reading bytes tokens place → Spells tokens bytes
reading-end bytes tokens place l r = run-end bytes tokens place.at l r.run

pub reading-refused : (bytes : List ℕ) (tokens : List Token) (place : Cursor) (rest : List ℕ) (refused : Refusal) → Reading bytes tokens place → place.at < length bytes → rest ≡ drop place.at bytes → Scans (scan place.fresh rest) (Err refused) → HasLexFault bytes (fault_at refused place.at)
reading-refused bytes tokens place rest (refusal.Fault k) r l d s = reading-fault bytes tokens place k r l (ap (scan place.fresh) (sym d) ∙ s)
reading-refused bytes tokens place rest refusal.NoMemory r l d s = tt
