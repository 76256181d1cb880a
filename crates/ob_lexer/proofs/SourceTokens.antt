-- A text has at most as many tokens as bytes, and each of them is one that a source can have.
use Rattle.std.proofs.Common.{◌≡◌, ℕ, ◌^◌, ◌≤◌, List, [], ◌∷◌, ◌++◌, length, drop, take, Option, None, Some, Result, Ok, Err, refl, arith, ◌∙◌, ap, sym, subst}
use Rattle.std.proofs.lemmas.List.{take-append-drop, length-append, length-take-le}
use Rattle.std.proofs.lemmas.List.Elements.{All-append, All-cons, All-nil}
use Rattle.std.specs.List.{All}
use Rattle.ob_tree.specs.Pieces.{IsLongest}
use Rattle.ob_tree.specs.Valid.{IsOfSource}
use Rattle.ob_tree.specs.declared.tokens.Token.{Token}
use Rattle.ob_tree.specs.declared.tokens.TokenKind.{TokenKind}
use Rattle.ob_tree.specs.declared.faults.LexKind.{LexKind}
use Rattle.ob_lexer.specs.declared.taken.Taken.{Taken}
use Rattle.ob_lexer.specs.Scan.{scan}
use Rattle.ob_lexer.specs.Texts.{Piece, text_of, AreLongest, token_of, tokens_of, Spells}
use Rattle.ob_lexer.proofs.Taking.{IsRight}
use Rattle.ob_lexer.proofs.Scanning.{is_fresh, piece-some, scan-right}

-- the longest piece at a place has a byte
longest-some : (before t a : List ℕ) (p : Option TokenKind) → IsLongest before t a p → 1 ≤ length t
longest-some before t a p g = by (t ++ a) refl
  where
    at : (rest : List ℕ) (s : Result Taken LexKind) → t ++ a ≡ rest → IsRight before rest s → 1 ≤ length t
    at rest (Err k) e r = absurd (r.0 t a p e g.possible)
    at rest (Ok w) e r =
        let m = g.longest (take w.length rest) (drop w.length rest) w.kind (take-append-drop w.length rest ∙ sym e) r.possible in
        let k = r.within in
        let s = r.some in
        omega (arith, m, s, length-take-le w.length rest k)

    by : (rest : List ℕ) → t ++ a ≡ rest → 1 ≤ length t
    by [] e = absurd (piece-some before t a p e g.possible)
    by (c ∷ cs) e = at (c ∷ cs) (scan (is_fresh before) (c ∷ cs)) e (scan-right before c cs (is_fresh before) refl)

token-few : (before text : List ℕ) (p : Option TokenKind) → 1 ≤ length text → length (token_of before text p) ≤ length text
token-few before text None l = omega arith
token-few before text (Some k) l = omega (arith, l)

pieces-few : (before : List ℕ) (ps : List Piece) (after : List ℕ) → AreLongest before ps after → length (tokens_of before ps) ≤ length (text_of ps)
pieces-few before [] after g = omega arith
pieces-few before (p ∷ ps) after g =
    omega (
      arith,
      token-few before p.text p.token (longest-some before p.text (text_of ps ++ after) p.token g.0),
      pieces-few (before ++ p.text) ps after g.1,
      length-append (token_of before p.text p.token) (tokens_of (before ++ p.text) ps),
      length-append p.text (text_of ps),
    )

-- a text has at most as many tokens as bytes
pub spells-few : (text : List ℕ) (ts : List Token) → length text ≤ 2 ^ 20 → Spells ts text → length ts ≤ 2 ^ 20
spells-few text ts l g = omega (arith, l, pieces-few [] g.pieces [] g.longest, ap length g.text_is, ap length g.tokens_are)

abbrev InSource : Token → Type 0
InSource t = IsOfSource t.kind

token-in-source : (before text after : List ℕ) (p : Option TokenKind) → length text ≤ 2 ^ 20 → IsLongest before text after p → All InSource (token_of before text p)
token-in-source before text after None l g = All-nil InSource
token-in-source before text after (Some k) l g =
    All-cons InSource _ [] (record { text = text; after = after; spelled = g.possible; short = l }) (All-nil InSource)

pieces-in-source : (before : List ℕ) (ps : List Piece) (after : List ℕ) → length (text_of ps) ≤ 2 ^ 20 → AreLongest before ps after → All InSource (tokens_of before ps)
pieces-in-source before [] after l g = All-nil InSource
pieces-in-source before (p ∷ ps) after l g =
    let n = length-append p.text (text_of ps) in
    All-append InSource (token_of before p.text p.token) (tokens_of (before ++ p.text) ps)
    (token-in-source before p.text (text_of ps ++ after) p.token (omega (arith, l, n)) g.0)
    (pieces-in-source (before ++ p.text) ps after (omega (arith, l, n)) g.1)

-- each token is one that a source can have
pub spells-of-source : (text : List ℕ) (ts : List Token) → length text ≤ 2 ^ 20 → Spells ts text → All (λ t. IsOfSource t.kind) ts
spells-of-source text ts l g =
    subst (All InSource) (sym g.tokens_are) (pieces-in-source [] g.pieces [] (omega (arith, l, ap length g.text_is)) g.longest)
