-- What it is for a scan to be right: the piece is the longest that can be taken, or none can.
use Rattle.std.proofs.Common.{◌≡◌, ℕ, ◌≤◌, inl, List, [], ◌∷◌, ◌++◌, length, take, drop, Option, None, Result, Ok, Err, refl, arith, ◌∙◌, ap, sym, subst}
use Rattle.ob_tree.specs.Pieces.{IsPiece, IsWhite, IsStuck, IsUnclosed, IsWide, HasFault}
use Rattle.ob_tree.specs.declared.tokens.TokenKind.{TokenKind}
use Rattle.ob_tree.specs.declared.faults.LexKind.{LexKind}
use Rattle.ob_lexer.specs.declared.taken.Taken.{Taken}
use Rattle.ob_lexer.specs.declared.scanner.Sort.{Sort}
use Rattle.ob_lexer.specs.Scan.{sort_of, taken}
use Rattle.ob_lexer.proofs.Prefixes.{take-here, drop-here, length-here}
use Rattle.ob_lexer.proofs.Sorts.{AsSort, piece-sort, UnclosedAs, unclosed-sort, WideAs, wide-sort, FirstAs, first-sort}

-- the first n bytes are the longest piece that can be taken, and it is of this kind alone
pub record Best (before rest : List ℕ) (n : ℕ) (kind : Option TokenKind) : Type 0 where
  pub some : 1 ≤ n
  pub within : n ≤ length rest
  pub possible : IsPiece before (take n rest) (drop n rest) kind
  pub most : (t a : List ℕ) (p : Option TokenKind) → t ++ a ≡ rest → IsPiece before t a p → length t ≤ n
  pub same : (t a : List ℕ) (p : Option TokenKind) → t ++ a ≡ rest → IsPiece before t a p → length t ≡ n → p ≡ kind

abbrev pub IsRight : (before rest : List ℕ) → Result Taken LexKind → Type 0
IsRight before rest (Ok t) = Best before rest t.length t.kind
IsRight before rest (Err k) = IsStuck before rest × HasFault rest k

-- a piece that can be taken here is of the sort that begins here
pub sorted : (s : Sort) (before rest t a : List ℕ) (p : Option TokenKind) → sort_of rest ≡ s → t ++ a ≡ rest → IsPiece before t a p → AsSort s before t a p
sorted s before rest t a p e h piece = subst (λ s. AsSort s before t a p) (ap sort_of h ∙ e) (piece-sort before t a p piece)

-- where all pieces that can be taken have one length and kind, that is the longest
pub only : (before rest t a : List ℕ) (kind : Option TokenKind) → t ++ a ≡ rest → 1 ≤ length t → IsPiece before t a kind → ((u b : List ℕ) (p : Option TokenKind) → u ++ b ≡ rest → IsPiece before u b p → (length u ≡ length t) × (p ≡ kind)) → Best before rest (length t) kind
only before rest t a kind e l piece all = record {
  some = l;
  within = length-here t a rest e;
  possible = subst (λ x. IsPiece before x (drop (length t) rest) kind) (sym (take-here t a rest e)) (subst (λ x. IsPiece before t x kind) (sym (drop-here t a rest e)) piece);
  most = λ u b p f h. omega (arith, (all u b p f h).0);
  same = λ u b p f h _. (all u b p f h).1;
}

pub no-unclosed : (s : Sort) (rest : List ℕ) → sort_of rest ≡ s → (UnclosedAs s rest → ⊥) → IsUnclosed rest → ⊥
no-unclosed s rest e n h = n (subst (λ s. UnclosedAs s rest) e (unclosed-sort rest h))

pub no-wide : (s : Sort) (rest : List ℕ) → sort_of rest ≡ s → (WideAs s rest → ⊥) → IsWide rest → ⊥
no-wide s rest e n h = n (subst (λ s. WideAs s rest) e (wide-sort rest h))

pub first-as : (s : Sort) (c : ℕ) (cs : List ℕ) → sort_of (c ∷ cs) ≡ s → FirstAs s c cs
first-as s c cs e = subst (λ s. FirstAs s c cs) e (first-sort c cs)

white-length : (u : List ℕ) → IsWhite u → length u ≡ 1
white-length u h = ap length h.text_is

pub white-right : (before : List ℕ) (c : ℕ) (cs : List ℕ) → sort_of (c ∷ cs) ≡ Sort.White → IsRight before (c ∷ cs) (taken None 1)
white-right before c cs e =
    only before (c ∷ cs) (c ∷ []) cs None refl (omega arith) (inl (record { byte = c; text_is = refl; white = first-as Sort.White c cs e }))
    (λ u b p f h. let w = sorted Sort.White before (c ∷ cs) u b p e f h in (white-length u w.0, w.1))
