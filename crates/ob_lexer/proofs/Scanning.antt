-- The scan takes the longest piece or tells the fault, and so the pieces of a text are determined.
use Rattle.std.proofs.Common.{◌≡◌, ℕ, ◌+◌, ◌<◌, ◌≤◌, ◌⊎◌, inl, inr, List, [], ◌∷◌, ◌++◌, length, get_or, take, drop, Bool, Option, Result, Ok, Err, refl, arith, ◌∙◌, ap, sym, subst}
use Rattle.std.proofs.lemmas.List.{take-append-drop, append_assoc, length-append, append-nil, length-take-le, append_cancel_left, take_all, drop_all, drop_more, take-take, drop-take, drop-drop, length-drop}
use Rattle.std.specs.List.{list_all}
use Rattle.ob_tree.specs.Bytes.{is_blank}
use Rattle.ob_tree.specs.Spaces.{last_line}
use Rattle.ob_tree.specs.Pieces.{IsPiece, IsLongest, IsStuck, HasFault}
use Rattle.ob_tree.specs.declared.tokens.TokenKind.{TokenKind}
use Rattle.ob_tree.specs.declared.tokens.Token.{Token}
use Rattle.ob_tree.specs.declared.faults.LexKind.{LexKind}
use Rattle.ob_tree.specs.declared.faults.LexKind.TheVariants as kind
use Rattle.ob_tree.specs.declared.faults.LexFault.{LexFault}
use Rattle.ob_tree.specs.declared.faults.LexFault.TheVariants as fault
use Rattle.ob_lexer.specs.declared.taken.Taken.{Taken}
use Rattle.ob_lexer.specs.declared.scanner.Sort.{Sort}
use Rattle.ob_lexer.specs.Scan.{sort_of, scan_sort, scan}
use Rattle.ob_lexer.specs.Texts.{Piece, text_of, AreLongest, tokens_of, token_of, Spells, StopsAt, HasLexFault, fault_of}
use Rattle.ob_lexer.proofs.Prefixes.{same-here}
use Rattle.ob_lexer.proofs.Taking.{Best, IsRight, sorted, white-right}
use Rattle.ob_lexer.proofs.SignPieces.{sign-right, sign-some}
use Rattle.ob_lexer.proofs.NamePieces.{name-right}
use Rattle.ob_lexer.proofs.CommentPieces.{comment-right}
use Rattle.ob_lexer.proofs.IncludePieces.{include-right}
use Rattle.ob_lexer.proofs.NumberPieces.{number-right}
use Rattle.ob_lexer.proofs.QuotePieces.{string-right, character-right}

-- whether only spaces and tabs stand before on the line
abbrev pub is_fresh : List ℕ → Bool
is_fresh before = list_all is_blank (last_line before)

sort-right : (s : Sort) (before : List ℕ) (c : ℕ) (cs : List ℕ) (fresh : Bool) → sort_of (c ∷ cs) ≡ s → fresh ≡ is_fresh before → IsRight before (c ∷ cs) (scan_sort s fresh (c ∷ cs))
sort-right Sort.White before c cs fresh e f = white-right before c cs e
sort-right Sort.Name before c cs fresh e f = name-right before c cs e
sort-right Sort.Number before c cs fresh e f = number-right before c cs e
sort-right Sort.String before c cs fresh e f = string-right before c cs e
sort-right Sort.Character before c cs fresh e f = character-right before c cs e
sort-right Sort.Include before c cs fresh e f = include-right before c cs fresh e f
sort-right Sort.Comment before c cs fresh e f = comment-right before c cs e
sort-right Sort.Sign before c cs fresh e f = sign-right before c cs e

pub scan-right : (before : List ℕ) (c : ℕ) (cs : List ℕ) (fresh : Bool) → fresh ≡ is_fresh before → IsRight before (c ∷ cs) (scan fresh (c ∷ cs))
scan-right before c cs fresh f = sort-right (sort_of (c ∷ cs)) before c cs fresh refl f

empty-sort : sort_of [] ≡ Sort.Sign
unfolding sort_of
empty-sort = refl

-- a piece has bytes
pub piece-some : (before t a : List ℕ) (p : Option TokenKind) → t ++ a ≡ [] → IsPiece before t a p → ⊥
piece-some before t a p e h =
    let w = sorted Sort.Sign before [] t a p empty-sort e h in
    let l = sign-some w.0 in
    omega (arith, ap length e, length-append t a, l, ap length w.1.text_is)

-- what is taken is the longest piece
pub best-longest : (before rest : List ℕ) (n : ℕ) (k : Option TokenKind) → Best before rest n k → IsLongest before (take n rest) (drop n rest) k
best-longest before rest n k b = record {
  possible = b.possible;
  longest = λ t a p e h. (let l = b.most t a p (e ∙ take-append-drop n rest) h in let k = b.within in omega (arith, l, length-take-le n rest k));
}

-- the longest piece at a place is one piece
pub longest-same : (before : List ℕ) (t a u b : List ℕ) (p q : Option TokenKind) → t ++ a ≡ u ++ b → IsLongest before t a p → IsLongest before u b q → (t ≡ u) × (p ≡ q)
longest-same before t a u b p q e g h = by (t ++ a) refl
  where
    l : length t ≡ length u
    l = (let m = g.longest u b q (sym e) h.possible in let n = h.longest t a p e g.possible in omega (arith, m, n))

    same : t ≡ u
    same = same-here t a u b (u ++ b) e refl l

    kinds : (rest : List ℕ) → t ++ a ≡ rest → IsRight before rest (scan (is_fresh before) rest) → p ≡ q
    kinds rest f r = at (scan (is_fresh before) rest) r
      where
        at : (s : Result Taken LexKind) → IsRight before rest s → p ≡ q
        at (Err k) r = absurd (r.0 t a p f g.possible)
        at (Ok w) r =
            let n : length t ≤ w.length = r.most t a p f g.possible in
            let v = g.longest (take w.length rest) (drop w.length rest) w.kind (take-append-drop w.length rest ∙ sym f) r.possible in
            let i : length t ≡ w.length = (let k = r.within in omega (arith, n, v, length-take-le w.length rest k)) in
            r.same t a p f g.possible i ∙ sym (r.same u b q (sym e ∙ f) h.possible (sym l ∙ i))

    by : (rest : List ℕ) → t ++ a ≡ rest → (t ≡ u) × (p ≡ q)
    by [] f = absurd (piece-some before t a p f g.possible)
    by (c ∷ cs) f = (same, kinds (c ∷ cs) f (scan-right before c cs (is_fresh before) refl))

-- runs of longest pieces

same-piece : (p q : Piece) → p.text ≡ q.text → p.token ≡ q.token → p ≡ q
same-piece p q e f =
    ap (λ (t : List ℕ). let r : Piece = record { text = t; token = p.token } in r) e ∙ ap (λ (k : Option TokenKind). let r : Piece = record { text = q.text; token = k } in r) f

-- two runs from one place to where nothing more can be taken are the same
run-same : (before : List ℕ) (ps qs : List Piece) (a b : List ℕ) → AreLongest before ps a → AreLongest before qs b → IsStuck (before ++ text_of ps) a → IsStuck (before ++ text_of qs) b → text_of ps ++ a ≡ text_of qs ++ b → ps ≡ qs
run-same before [] [] a b g h s r e = refl
run-same before [] (q ∷ qs) a b g h s r e =
    absurd (subst (λ x. IsStuck x a) (append-nil before) s q.text (text_of qs ++ b) q.token (sym (append_assoc q.text (text_of qs) b) ∙ sym e) h.0.possible)
run-same before (p ∷ ps) [] a b g h s r e =
    absurd (subst (λ x. IsStuck x b) (append-nil before) r p.text (text_of ps ++ a) p.token (sym (append_assoc p.text (text_of ps) a) ∙ e) g.0.possible)
run-same before (p ∷ ps) (q ∷ qs) a b g h s r e =
    let split : p.text ++ (text_of ps ++ a) ≡ q.text ++ (text_of qs ++ b) = sym (append_assoc p.text (text_of ps) a) ∙ e ∙ append_assoc q.text (text_of qs) b in
    let one = longest-same before p.text (text_of ps ++ a) q.text (text_of qs ++ b) p.token q.token split g.0 h.0 in
    let rest : text_of ps ++ a ≡ text_of qs ++ b = append_cancel_left p.text (text_of ps ++ a) (text_of qs ++ b) (split ∙ ap (λ t. t ++ (text_of qs ++ b)) (sym one.0)) in
    let more : ps ≡ qs =
    run-same (before ++ p.text) ps qs a b g.1 (subst (λ t. AreLongest (before ++ t) qs b) (sym one.0) h.1)
    (subst (λ x. IsStuck x a) (sym (append_assoc before p.text (text_of ps))) s)
    (subst (λ x. IsStuck x b) (sym (append_assoc before q.text (text_of qs)) ∙ ap (λ t. (before ++ t) ++ text_of qs) (sym one.0)) r) rest in
    ap (λ (x : Piece). x ∷ ps) (same-piece p q one.0 one.1) ∙ ap (λ (xs : List Piece). q ∷ xs) more

nothing-left : (before : List ℕ) → IsStuck before []
nothing-left before t a p e h = piece-some before t a p e h

spelled-stuck : (ps : List Piece) → IsStuck ([] ++ text_of ps) []
spelled-stuck ps = nothing-left ([] ++ text_of ps)

-- at most one list of tokens spells a text
pub spells-same : (text : List ℕ) (ts us : List Token) → Spells ts text → Spells us text → ts ≡ us
spells-same text ts us g h =
    let e : text_of g.pieces ++ [] ≡ text_of h.pieces ++ [] = append-nil (text_of g.pieces) ∙ sym g.text_is ∙ h.text_is ∙ sym (append-nil (text_of h.pieces)) in
    g.tokens_are ∙ ap (tokens_of []) (run-same [] g.pieces h.pieces [] [] g.longest h.longest (spelled-stuck g.pieces) (spelled-stuck h.pieces) e) ∙ sym h.tokens_are

-- a text that tokens spell has no fault
pub spells-no-fault : (text : List ℕ) (ts : List Token) (k : LexKind) (at : ℕ) → Spells ts text → StopsAt text k at → ⊥
spells-no-fault text ts k at g h =
    let e : text_of g.pieces ++ [] ≡ text_of h.pieces ++ (h.first ∷ h.rest) = append-nil (text_of g.pieces) ∙ sym g.text_is ∙ h.text_is in
    let s = run-same [] g.pieces h.pieces [] (h.first ∷ h.rest) g.longest h.longest (spelled-stuck g.pieces) h.stuck e in
    omega (arith, ap length e, length-append (text_of g.pieces) [], length-append (text_of h.pieces) (h.first ∷ h.rest), ap (λ ps. length (text_of ps)) s)

same-fault : (here : List ℕ) (k l : LexKind) → HasFault here k → HasFault here l → k ≡ l
same-fault here kind.Stray kind.Stray g h = refl
same-fault here kind.Unclosed kind.Unclosed g h = refl
same-fault here kind.Wide kind.Wide g h = refl
same-fault here kind.Stray kind.Unclosed g h = absurd (g.0 h)
same-fault here kind.Stray kind.Wide g h = absurd (g.1 h.1)
same-fault here kind.Unclosed kind.Stray g h = absurd (h.0 g)
same-fault here kind.Unclosed kind.Wide g h = absurd (h.0 g)
same-fault here kind.Wide kind.Stray g h = absurd (h.1 g.1)
same-fault here kind.Wide kind.Unclosed g h = absurd (g.0 h)

-- a text has at most one fault
pub stops-same : (text : List ℕ) (k l : LexKind) (i j : ℕ) → StopsAt text k i → StopsAt text l j → (k ≡ l) × (i ≡ j)
stops-same text k l i j g h =
    let e : text_of g.pieces ++ (g.first ∷ g.rest) ≡ text_of h.pieces ++ (h.first ∷ h.rest) = sym g.text_is ∙ h.text_is in
    let s = run-same [] g.pieces h.pieces (g.first ∷ g.rest) (h.first ∷ h.rest) g.longest h.longest g.stuck h.stuck e in
    let r : g.first ∷ g.rest ≡ h.first ∷ h.rest = append_cancel_left (text_of g.pieces) (g.first ∷ g.rest) (h.first ∷ h.rest) (e ∙ ap (λ ps. text_of ps ++ (h.first ∷ h.rest)) (sym s)) in
    (same-fault (h.first ∷ h.rest) k l (subst (λ x. HasFault x k) r g.fault_is) h.fault_is, g.at_is ∙ ap (λ ps. length (text_of ps)) s ∙ sym h.at_is)

-- reading on

text_of-push : (ps : List Piece) (p : Piece) → text_of (ps ++ p ∷ []) ≡ text_of ps ++ p.text
text_of-push [] p = append-nil p.text
text_of-push (q ∷ ps) p = ap (λ t. q.text ++ t) (text_of-push ps p) ∙ sym (append_assoc q.text (text_of ps) p.text)

longest-push : (before : List ℕ) (ps : List Piece) (p : Piece) (after : List ℕ) → AreLongest before ps (p.text ++ after) → IsLongest (before ++ text_of ps) p.text after p.token → AreLongest before (ps ++ p ∷ []) after
longest-push before [] p after g h = (subst (λ x. IsLongest x p.text after p.token) (append-nil before) h, tt)
longest-push before (q ∷ ps) p after g h = (
  subst (λ x. IsLongest before q.text x q.token) (sym (ap (λ t. t ++ after) (text_of-push ps p) ∙ append_assoc (text_of ps) p.text after)) g.0,
  longest-push (before ++ q.text) ps p after g.1 (subst (λ x. IsLongest x p.text after p.token) (sym (append_assoc before q.text (text_of ps))) h),
)

tokens_of-push : (before : List ℕ) (ps : List Piece) (p : Piece) → tokens_of before (ps ++ p ∷ []) ≡ tokens_of before ps ++ token_of (before ++ text_of ps) p.text p.token
tokens_of-push before [] p = append-nil (token_of before p.text p.token) ∙ ap (λ b. token_of b p.text p.token) (sym (append-nil before))
tokens_of-push before (q ∷ ps) p =
    ap (λ ts. token_of before q.text q.token ++ ts) (tokens_of-push (before ++ q.text) ps p)
    ∙ sym (append_assoc (token_of before q.text q.token) (tokens_of (before ++ q.text) ps) (token_of ((before ++ q.text) ++ text_of ps) p.text p.token))
    ∙ ap (λ b. (token_of before q.text q.token ++ tokens_of (before ++ q.text) ps) ++ token_of b p.text p.token) (append_assoc before q.text (text_of ps))

-- The first bytes were read as a run of longest pieces, and these are the tokens among them.
pub record Run (bytes : List ℕ) (tokens : List Token) (at : ℕ) : Type 0 where
  pub pieces : List Piece
  pub read : text_of pieces ≡ take at bytes
  pub longest : AreLongest [] pieces (drop at bytes)
  pub tokens_are : tokens ≡ tokens_of [] pieces

pub run-start : (bytes : List ℕ) → Run bytes [] 0
run-start bytes = record { pieces = []; read = refl; longest = tt; tokens_are = refl }

pub run-end : (bytes : List ℕ) (tokens : List Token) (at : ℕ) → length bytes ≤ at → Run bytes tokens at → Spells tokens bytes
run-end bytes tokens at l r = record {
  pieces = r.pieces;
  text_is = sym (r.read ∙ take_all at bytes l);
  longest = subst (AreLongest [] r.pieces) (drop_all at bytes l) r.longest;
  tokens_are = r.tokens_are;
}

right-here : (bytes : List ℕ) (at : ℕ) (fresh : Bool) → at < length bytes → fresh ≡ is_fresh (take at bytes) → IsRight (take at bytes) (drop at bytes) (scan fresh (drop at bytes))
right-here bytes at fresh l f =
    subst (λ r. IsRight (take at bytes) r (scan fresh r)) (sym (drop_more bytes at 0 l))
    (scan-right (take at bytes) (get_or bytes at 0) (drop (at + 1) bytes) fresh f)

pub run-fault : (bytes : List ℕ) (tokens : List Token) (at : ℕ) (fresh : Bool) (k : LexKind) → at < length bytes → fresh ≡ is_fresh (take at bytes) → scan fresh (drop at bytes) ≡ Err k → Run bytes tokens at → StopsAt bytes k at
run-fault bytes tokens at fresh k l f e r =
    let w : IsStuck (take at bytes) (drop at bytes) × HasFault (drop at bytes) k = subst (IsRight (take at bytes) (drop at bytes)) e (right-here bytes at fresh l f) in
    let d : drop at bytes ≡ get_or bytes at 0 ∷ drop (at + 1) bytes = drop_more bytes at 0 l in
    record {
      pieces = r.pieces;
      first = get_or bytes at 0;
      rest = drop (at + 1) bytes;
      text_is = sym (take-append-drop at bytes) ∙ ap (λ t. t ++ drop at bytes) (sym r.read) ∙ ap (λ t. text_of r.pieces ++ t) d;
      longest = subst (AreLongest [] r.pieces) d r.longest;
      at_is = sym (ap length r.read ∙ length-take-le at bytes (omega (arith, l)));
      stuck = subst (λ b. IsStuck b (get_or bytes at 0 ∷ drop (at + 1) bytes)) (sym r.read) (subst (IsStuck (take at bytes)) d w.0);
      fault_is = subst (λ h. HasFault h k) d w.1;
    }

pub record RunOn (bytes : List ℕ) (tokens : List Token) (at n : ℕ) : Type 0 where
  pub run : Run bytes tokens (at + n)
  pub some : 1 ≤ n
  pub within : at + n ≤ length bytes
  pub read : take at bytes ++ take n (drop at bytes) ≡ take (at + n) bytes

take-on : (at n : ℕ) (bytes : List ℕ) → take at bytes ++ take n (drop at bytes) ≡ take (at + n) bytes
take-on at n bytes =
    ap (λ t. t ++ take n (drop at bytes)) (sym (take-take at (at + n) bytes (omega arith)))
    ∙ ap (λ t. take at (take (at + n) bytes) ++ t) (sym (drop-take at n bytes))
    ∙ take-append-drop at (take (at + n) bytes)

pub run-more : (bytes : List ℕ) (tokens : List Token) (at : ℕ) (fresh : Bool) (w : Taken) → at < length bytes → fresh ≡ is_fresh (take at bytes) → scan fresh (drop at bytes) ≡ Ok w → Run bytes tokens at → RunOn bytes (tokens ++ token_of (take at bytes) (take w.length (drop at bytes)) w.kind) at w.length
run-more bytes tokens at fresh w l f e r =
    let b : Best (take at bytes) (drop at bytes) w.length w.kind = subst (IsRight (take at bytes) (drop at bytes)) e (right-here bytes at fresh l f) in
    let longest = best-longest (take at bytes) (drop at bytes) w.length w.kind b in
    let piece : Piece = record { text = take w.length (drop at bytes); token = w.kind } in
    let behind : drop w.length (drop at bytes) ≡ drop (at + w.length) bytes = drop-drop w.length at bytes in
    record {
      run = record {
        pieces = r.pieces ++ piece ∷ [];
        read = text_of-push r.pieces piece ∙ ap (λ t. t ++ take w.length (drop at bytes)) r.read ∙ take-on at w.length bytes;
        longest = subst (AreLongest [] (r.pieces ++ piece ∷ [])) behind
            (longest-push [] r.pieces piece (drop w.length (drop at bytes)) (subst (AreLongest [] r.pieces) (sym (take-append-drop w.length (drop at bytes))) r.longest)
            (subst (λ x. IsLongest x (take w.length (drop at bytes)) (drop w.length (drop at bytes)) w.kind) (sym r.read) longest));
        tokens_are = ap (λ ts. ts ++ token_of (take at bytes) (take w.length (drop at bytes)) w.kind) r.tokens_are
            ∙ sym (tokens_of-push [] r.pieces piece ∙ ap (λ x. tokens_of [] r.pieces ++ token_of x (take w.length (drop at bytes)) w.kind) r.read);
      };
      some = b.some;
      within = (let m = b.within in omega (arith, m, length-drop at bytes, l));
      read = take-on at w.length bytes;
    }

-- what an answer that is right says of each outcome that the text has

pub right-spelled : (text : List ℕ) (ts : List Token) (f : LexFault) → Spells ts text → HasLexFault text f → f ≡ fault.NoMemory
right-spelled text ts (fault.Stray at) g h = absurd (spells-no-fault text ts kind.Stray at g h)
right-spelled text ts (fault.Unclosed at) g h = absurd (spells-no-fault text ts kind.Unclosed at g h)
right-spelled text ts (fault.Wide at) g h = absurd (spells-no-fault text ts kind.Wide at g h)
right-spelled text ts fault.NoMemory g h = refl

same-fault_of : (text : List ℕ) (k l : LexKind) (i j : ℕ) → StopsAt text k i → StopsAt text l j → fault_of k i ≡ fault_of l j
same-fault_of text k l i j g h = let s = stops-same text k l i j g h in ap (λ k. fault_of k i) s.0 ∙ ap (fault_of l) s.1

pub right-faulty : (text : List ℕ) (k : LexKind) (i : ℕ) (f : LexFault) → StopsAt text k i → HasLexFault text f → (f ≡ fault_of k i) ⊎ (f ≡ fault.NoMemory)
right-faulty text k i (fault.Stray at) g h = inl (same-fault_of text kind.Stray k at i h g)
right-faulty text k i (fault.Unclosed at) g h = inl (same-fault_of text kind.Unclosed k at i h g)
right-faulty text k i (fault.Wide at) g h = inl (same-fault_of text kind.Wide k at i h g)
right-faulty text k i fault.NoMemory g h = inr refl
