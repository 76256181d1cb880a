-- The characters of a body, one after the other.
use Rattle.std.proofs.Common.{◌≡◌, ℕ, zero, suc, ◌+◌, ◌<◌, ◌≤◌, List, [], ◌∷◌, length, drop, Bool, true, false, cond, eqb, refl, get_or, None, arith, ◌∙◌, ap, sym, length-drop}
use Rattle.std.proofs.lemmas.Bool.{eq-eqb}
use Rattle.ob_tree.specs.Characters.{Character, escape_at, characters, characters_from}
use Rattle.ob_lexer.specs.Scan.{first_character, only_value}

-- the bytes of a character that began before are passed over
pub characters_from-drop : (n : ℕ) (cs : List ℕ) → characters_from n cs ≡ characters (drop n cs)
characters_from-drop zero [] = refl
characters_from-drop zero (c ∷ cs) = refl
characters_from-drop (suc n) [] = refl
characters_from-drop (suc n) (c ∷ cs) = characters_from-drop n cs

abbrev first_of : Bool → ℕ → List ℕ → Character × ℕ
first_of b c cs = cond b ((escape_at cs).0, 1 + (escape_at cs).1) (Character.Itself c, 1)

one-more : (n : ℕ) → 1 + n ≡ suc n
one-more n = omega arith

characters-of : (b : Bool) (c : ℕ) (cs : List ℕ) → cond b ((escape_at cs).0 ∷ characters_from (escape_at cs).1 cs) (Character.Itself c ∷ characters_from 0 cs) ≡ (first_of b c cs).0 ∷ characters (drop (first_of b c cs).1 (c ∷ cs))
characters-of true c cs =
    ap (λ (r : List Character). (escape_at cs).0 ∷ r) (characters_from-drop (escape_at cs).1 cs ∙ ap (λ n. characters (drop n (c ∷ cs))) (sym (one-more (escape_at cs).1)))
characters-of false c cs = refl

-- what is read first, and then the rest
pub characters-first : (body : List ℕ) → 0 < length body → characters body ≡ (first_character body).0 ∷ characters (drop (first_character body).1 body)
unfolding first_character
characters-first [] h = absurd (omega arith)
characters-first (c ∷ cs) h = characters-of (eqb c 92) c cs

length-of : (b : Bool) (c : ℕ) (cs : List ℕ) → 1 ≤ (first_of b c cs).1
length-of true c cs = omega arith
length-of false c cs = omega arith

-- a character has bytes
pub first_character-some : (body : List ℕ) → 0 < length body → length (drop (first_character body).1 body) < length body
unfolding first_character
first_character-some [] h = absurd (omega arith)
first_character-some (c ∷ cs) h = let some = length-of (eqb c 92) c cs in omega (arith, some, length-drop (first_character (c ∷ cs)).1 (c ∷ cs))

-- behind a backslash the first character is an escape sequence
pub characters-escaped : (body : List ℕ) → 0 < length body → get_or body 0 0 ≡ 92 → characters body ≡ (first_character body).0 ∷ characters (drop (escape_at (drop 1 body)).1 (drop 1 body))
unfolding first_character
characters-escaped [] h e = absurd (omega arith)
characters-escaped (c ∷ cs) h e =
    rw (eq-eqb c 92 e) (ap (λ (r : List Character). (escape_at cs).0 ∷ r) (characters_from-drop (escape_at cs).1 cs))

only-one : (ch : Character) (rest more : List Character) (next : Character) → rest ≡ next ∷ more → only_value (ch ∷ rest) ≡ None
only-one ch rest more next e = rw e refl

-- two characters are no single one
pub only_value-more : (ch : Character) (rest : List ℕ) → 0 < length rest → only_value (ch ∷ characters rest) ≡ None
only_value-more ch rest h = only-one ch (characters rest) _ _ (characters-first rest h)

pub ruleset character_steps = (characters-first, first_character-some)

pub ruleset only_steps = only_value-more
