-- The place behind a text, byte by byte.
use Rattle.std.proofs.Common.{◌≡◌, ℕ, ◌+◌, ◌<◌, ◌≤◌, List, [], ◌∷◌, ◌++◌, length, take, get_or, Bool, true, false, cond, eqb, refl, sym, ap, ◌∙◌, arith}
use Rattle.std.specs.Prelude.{◌&&◌}
use Rattle.std.proofs.lemmas.Bool.Decides.{nat_tests}
use Rattle.std.proofs.lemmas.List.{take_more}
use Rattle.ob_tree.specs.Bytes.{is_blank}
use Rattle.ob_lexer.specs.declared.cursor.Cursor.{Cursor}
use Rattle.ob_lexer.specs.Cursors.{place_of, advance}
use Rattle.ob_lexer.proofs.CursorLemmas.{moved-place, place-small}
use Rattle.ob_sources.specs.Positions.{position_behind}
use Rattle.ob_sources.specs.declared.position.Position.{Position}

abbrev position_at : Cursor → Position
position_at p = record { line = p.line; column = p.column }

-- the place behind one more byte
abbrev pub next_position : Position → ℕ → Position
next_position s c = cond (eqb c 10) (record { line = s.line + 1; column = 1 }) (record { line = s.line; column = s.column + 1 })

position_is : (before : List ℕ) → position_at (place_of before) ≡ position_behind before
unfolding place_of
position_is before = refl

advance_is : (p : Cursor) (c : ℕ) → position_at (advance p c) ≡ next_position (position_at p) c
unfolding advance
advance_is p c = by (eqb c 10)
  where
    feed : Cursor
    feed = record { at = p.at + 1; line = p.line + 1; column = 1; fresh = true }

    other : Cursor
    other = record { at = p.at + 1; line = p.line; column = p.column + 1; fresh = p.fresh && is_blank c }

    by : (b : Bool) → position_at (cond b feed other) ≡ cond b (position_at feed) (position_at other)
    by true = refl
    by false = refl

pub position_push : (before : List ℕ) (c : ℕ) → position_behind (before ++ c ∷ []) ≡ next_position (position_behind before) c
position_push before c =
    sym (position_is (before ++ c ∷ [])) ∙ ap position_at (sym (moved-place before (c ∷ []))) ∙ advance_is (place_of before) c ∙ ap (λ s. next_position s c) (position_is before)

-- lines and columns are at most one more than the bytes
pub record Small (s : Position) (n : ℕ) : Type 0 where
  pub line : s.line ≤ n + 1
  pub column : s.column ≤ n + 1

pub position_small : (before : List ℕ) → Small (position_behind before) (length before)
unfolding place_of
position_small before = let s = place-small before in record { line = s.line; column = s.column }

-- the place behind one more byte of a text, by what the byte is

behind_next : (text : List ℕ) (i : ℕ) (p : Position) → i < length text → p ≡ position_behind (take i text) → next_position p (get_or text i 0) ≡ position_behind (take (i + 1) text)
behind_next text i p inside is =
    ap (λ x. next_position x (get_or text i 0)) is ∙ sym (position_push (take i text) (get_or text i 0)) ∙ sym (ap position_behind (take_more text i 0 inside))

pub behind_feed : (text : List ℕ) (i : ℕ) (p : Position) → i < length text → p ≡ position_behind (take i text) → get_or text i 0 ≡ 10 → record { line = p.line + 1; column = 1 } ≡ position_behind (take (i + 1) text)
behind_feed text i p inside is feed = ap (next_position p) (sym feed) ∙ behind_next text i p inside is

not_feed : (c : ℕ) → (c ≡ 10 → ⊥) → eqb c 10 ≡ false
not_feed c other = grind (arith, nat_tests)

pub behind_other : (text : List ℕ) (i : ℕ) (p : Position) → i < length text → p ≡ position_behind (take i text) → (get_or text i 0 ≡ 10 → ⊥) → record { line = p.line; column = p.column + 1 } ≡ position_behind (take (i + 1) text)
behind_other text i p inside is other =
    ap (λ b. cond b (next_position p 10) (record { line = p.line; column = p.column + 1 })) (sym (not_feed (get_or text i 0) other)) ∙ behind_next text i p inside is
