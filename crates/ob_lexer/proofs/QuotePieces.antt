-- Character constants and string literals.
use Rattle.std.proofs.Common.{◌≡◌, ℕ, zero, suc, ◌+◌, ◌<◌, ◌⊎◌, inl, inr, List, [], ◌∷◌, ◌++◌, length, take, map, Bool, true, false, not, cond, ◌&&◌, ◌||◌, eqb, Option, None, Some, ℤ, refl, arith, ◌∙◌, ap, sym, subst}
use Rattle.std.proofs.lemmas.Bool.{and_parts, and_from, false≢true, true≢false, or_cases, or_left, or_right, eqb-true, eq-eqb, ltb-true, lt-ltb}
use Rattle.std.proofs.lemmas.List.{append_assoc, length-append, append-nil, take_at}
use Rattle.std.specs.Prelude.{Contains, option_and_then}
use Rattle.std.specs.List.{list_any}
use Rattle.ob_tree.specs.Characters.{Character, characters, byte_of, value_of, is_inside, IsString, IsCharacter, IsQuote, IsOpenQuote, IsWideQuote}
use Rattle.ob_tree.specs.Pieces.{IsPiece, HasFault, IsUnclosed, IsWide}
use Rattle.ob_tree.specs.declared.tokens.TokenKind.{TokenKind}
use Rattle.ob_tree.specs.declared.tokens.TokenKind.TheVariants as kind
use Rattle.ob_tree.specs.declared.faults.LexKind.TheVariants as fault
use Rattle.ob_words.specs.declared.types.IntType.{IntType}
use Rattle.ob_words.specs.declared.types.IntType.TheVariants.{Int}
use Rattle.ob_lexer.specs.declared.scanner.Sort.{Sort}
use Rattle.ob_lexer.specs.Scan.{sort_of, enclosed_from, is_wide, bytes_from, only_value, quote_fault, string_piece, character_piece, string_of, character_of, scan_string, scan_character}
use Rattle.ob_lexer.proofs.Sorts.{unclosed-sort, UnclosedAs, wide-sort, WideAs}
use Rattle.ob_lexer.proofs.Taking.{Best, IsRight, sorted, first-as, only}

-- the end of a literal

here-step : (q : ℕ) (taken : Bool) (c : ℕ) → ((not (eqb c 10)) && (taken || not (eqb c q))) ≡ true → (eqb c 10 ≡ false) × ((not taken && eqb c q) ≡ false)
here-step q taken c h = by (eqb c 10) refl taken (eqb c q) h
  where
    by : (a : Bool) → eqb c 10 ≡ a → (t b : Bool) → (not a && (t || not b)) ≡ true → (eqb c 10 ≡ false) × ((not t && b) ≡ false)
    by true e t b h = absurd (false≢true h)
    by false e true b h = (e, refl)
    by false e false true h = absurd (false≢true h)
    by false e false false h = (e, refl)

-- the body is found
pub enclosed-here : (at q : ℕ) (taken : Bool) (body after : List ℕ) → eqb q 10 ≡ false → is_inside q taken body ≡ true → enclosed_from at q taken (body ++ q ∷ after) ≡ Some (at + length body)
enclosed-here at q true [] after e h = absurd (false≢true h)
enclosed-here at q false [] after e h = rw (e, eq-eqb q q refl) (ap (λ (k : ℕ). Some k) (let z : at ≡ at + 0 = omega arith in z))
enclosed-here at q taken (c ∷ body) after e h =
    let p = and_parts ((not (eqb c 10)) && (taken || not (eqb c q))) (is_inside q (not taken && eqb c 92) body) h in
    let s = here-step q taken c p.0 in
    rw (s.0, s.1) (enclosed-here (at + 1) q (not taken && eqb c 92) body after e p.1 ∙ ap (λ (k : ℕ). Some k) (let z : at + 1 + length body ≡ at + suc (length body) = omega arith in z))

pub record Enclosed (at n q : ℕ) (taken : Bool) (xs : List ℕ) : Type 0 where
  pub body : List ℕ
  pub after : List ℕ
  pub xs_is : xs ≡ body ++ q ∷ after
  pub n_is : n ≡ at + length body
  pub inside : is_inside q taken body ≡ true

some-step : (q : ℕ) (taken : Bool) (c : ℕ) → eqb c 10 ≡ false → (not taken && eqb c q) ≡ false → ((not (eqb c 10)) && (taken || not (eqb c q))) ≡ true
some-step q taken c e h = rw e (by taken (eqb c q) h)
  where
    by : (t b : Bool) → (not t && b) ≡ false → (t || not b) ≡ true
    by true b h = refl
    by false true h = absurd (true≢false h)
    by false false h = refl

-- what is found is a body
pub enclosed-some : (at n q : ℕ) (taken : Bool) (xs : List ℕ) → enclosed_from at q taken xs ≡ Some n → Enclosed at n q taken xs
enclosed-some at n q taken [] h = absurd (let z : None ≡ Some n = h in cc)
enclosed-some at n q taken (c ∷ cs) h =
    by (enclosed-some (at + 1) n q (not taken && eqb c 92) cs) (eqb c 10) refl (not taken && eqb c q) refl h
  where
    last : (not taken && eqb c q) ≡ true → at ≡ n → Enclosed at n q taken (c ∷ cs)
    last e z =
        let p = and_parts (not taken) (eqb c q) e in
        record { body = []; after = cs; xs_is = ap (λ c. c ∷ cs) (eqb-true c q p.1); n_is = omega (arith, z); inside = p.0 }

    more : eqb c 10 ≡ false → (not taken && eqb c q) ≡ false → Enclosed (at + 1) n q (not taken && eqb c 92) cs → Enclosed at n q taken (c ∷ cs)
    more e f r = record {
      body = c ∷ r.body;
      after = r.after;
      xs_is = ap (λ (t : List ℕ). c ∷ t) r.xs_is;
      n_is = omega (arith, r.n_is);
      inside = and_from ((not (eqb c 10)) && (taken || not (eqb c q))) (is_inside q (not taken && eqb c 92) r.body) (some-step q taken c e f) r.inside;
    }

    by : (enclosed_from (at + 1) q (not taken && eqb c 92) cs ≡ Some n → Enclosed (at + 1) n q (not taken && eqb c 92) cs) → (a : Bool) → eqb c 10 ≡ a → (b : Bool) → (not taken && eqb c q) ≡ b → cond a None (cond b (Some at) (enclosed_from (at + 1) q (not taken && eqb c 92) cs)) ≡ Some n → Enclosed at n q taken (c ∷ cs)
    by rec true e b f h = absurd (let z : None ≡ Some n = h in cc)
    by rec false e true f h = last f (let z : at ≡ n = cc in z)
    by rec false e false f h = more e f (rec h)

-- the bytes of a string

pub bytes-here : (before bytes : List ℕ) (chs : List Character) → map byte_of chs ≡ map (λ (b : ℕ). Some b) bytes → bytes_from before chs ≡ Some (before ++ bytes)
bytes-here before [] [] h = ap (λ (t : List ℕ). Some t) (sym (append-nil before))
bytes-here before (b ∷ bytes) [] h = absurd (omega (arith, ap length h))
bytes-here before [] (ch ∷ chs) h = absurd (omega (arith, ap length h))
bytes-here before (b ∷ bytes) (ch ∷ chs) h =
    let first : byte_of ch ≡ Some b = cc in
    let others : map byte_of chs ≡ map (λ (b : ℕ). Some b) bytes = cc in
    rw first (bytes-here (before ++ b ∷ []) bytes chs others ∙ ap (λ (t : List ℕ). Some t) (append_assoc before (b ∷ []) bytes))

pub record Bytes (before result : List ℕ) (chs : List Character) : Type 0 where
  pub bytes : List ℕ
  pub result_is : result ≡ before ++ bytes
  pub bytes_are : map byte_of chs ≡ map (λ (b : ℕ). Some b) bytes

pub bytes-some : (before result : List ℕ) (chs : List Character) → bytes_from before chs ≡ Some result → Bytes before result chs
bytes-some before result [] h = record { bytes = []; result_is = (let z : before ≡ result = cc in sym z ∙ sym (append-nil before)); bytes_are = refl }
bytes-some before result (ch ∷ chs) h = by (λ b. bytes-some (before ++ b ∷ []) result chs) (byte_of ch) refl h
  where
    more : (b : ℕ) → byte_of ch ≡ Some b → Bytes (before ++ b ∷ []) result chs → Bytes before result (ch ∷ chs)
    more b e r = record {
      bytes = b ∷ r.bytes;
      result_is = r.result_is ∙ append_assoc before (b ∷ []) r.bytes;
      bytes_are = (let z = r.bytes_are in let y : byte_of ch ∷ map byte_of chs ≡ Some b ∷ map (λ (b : ℕ). Some b) r.bytes = cc in y);
    }

    by : ((b : ℕ) → bytes_from (before ++ b ∷ []) chs ≡ Some result → Bytes (before ++ b ∷ []) result chs) → (o : Option ℕ) → byte_of ch ≡ o → option_and_then (λ b. bytes_from (before ++ b ∷ []) chs) o ≡ Some result → Bytes before result (ch ∷ chs)
    by rec None e h = absurd (let z : None ≡ Some result = h in cc)
    by rec (Some b) e h = more b e (rec b h)

-- wide escapes

wide-escape : (ch : Character) → is_wide ch ≡ true → (v : ℕ) × (ch ≡ Character.Escape v) × (255 < v)
wide-escape (Character.Itself c) h = absurd (false≢true h)
wide-escape (Character.Escape v) h = (v, refl, ltb-true 255 v h)
wide-escape Character.Unknown h = absurd (false≢true h)

pub wide-some : (chs : List Character) → list_any is_wide chs ≡ true → (v : ℕ) × Contains chs (Character.Escape v) × (255 < v)
wide-some [] h = absurd (false≢true h)
wide-some (ch ∷ chs) h = by (λ g. wide-some chs g) (or_cases (is_wide ch) (list_any is_wide chs) h)
  where
    by : (list_any is_wide chs ≡ true → (v : ℕ) × Contains chs (Character.Escape v) × (255 < v)) → (is_wide ch ≡ true) ⊎ (list_any is_wide chs ≡ true) → (v : ℕ) × Contains (ch ∷ chs) (Character.Escape v) × (255 < v)
    by rec (inl e) = let w = wide-escape ch e in (w.0, (zero, omega arith, w.1), w.2)
    by rec (inr e) = let w = rec e in (w.0, (suc w.1.0, omega (arith, w.1.1), w.1.2), w.2)

pub wide-any : (chs : List Character) (v : ℕ) → Contains chs (Character.Escape v) → 255 < v → list_any is_wide chs ≡ true
wide-any [] v m l = absurd (omega (arith, m.1))
wide-any (ch ∷ chs) v (zero, k, e) l = or_left (is_wide ch) (list_any is_wide chs) (ap is_wide e ∙ lt-ltb 255 v l)
wide-any (ch ∷ chs) v (suc i, k, e) l = or_right (is_wide ch) (list_any is_wide chs) (wide-any chs v (i, omega arith, e) l)

-- literals of either quote

quote-no-line : (q : ℕ) → IsQuote q → eqb q 10 ≡ false
quote-no-line q (inl e) = ap (λ q. eqb q 10) e
quote-no-line q (inr e) = ap (λ q. eqb q 10) e

-- a body that stands here is the one that is read
body-here : (q n : ℕ) (cs body after : List ℕ) → IsQuote q → enclosed_from 0 q false cs ≡ Some n → cs ≡ body ++ q ∷ after → is_inside q false body ≡ true → (n ≡ length body) × (take n cs ≡ body)
body-here q n cs body after i h e g =
    let z : Some n ≡ Some (0 + length body) = sym h ∙ ap (enclosed_from 0 q false) e ∙ enclosed-here 0 q false body after (quote-no-line q i) g in
    let y : n ≡ 0 + length body = cc in
    let l : n ≡ length body = omega (arith, y) in
    (l, ap (λ n. take n cs) l ∙ ap (take (length body)) e ∙ take_at body (q ∷ after) (length body) refl)

open-here : (q : ℕ) (cs : List ℕ) → IsQuote q → enclosed_from 0 q false cs ≡ None → IsOpenQuote (q ∷ cs)
open-here q cs i h = record {
  quote = q;
  rest = cs;
  is_quote = i;
  here_is = refl;
  no_end = λ body after e g. let z : None ≡ Some (0 + length body) = sym h ∙ ap (enclosed_from 0 q false) e ∙ enclosed-here 0 q false body after (quote-no-line q i) g in cc;
}

closed-here : (q n : ℕ) (cs : List ℕ) → enclosed_from 0 q false cs ≡ Some n → (h : IsOpenQuote (q ∷ cs)) × (h.quote ≡ q) → ⊥
closed-here q n cs h o =
    let c = enclosed-some 0 n q false cs h in
    let tail : o.0.rest ≡ cs = (let z = o.0.here_is in cc) in
    o.0.no_end c.body c.after (tail ∙ c.xs_is ∙ ap (λ q. c.body ++ q ∷ c.after) (sym o.1)) (ap (λ q. is_inside q false c.body) o.1 ∙ c.inside)

fault-here : (q n : ℕ) (cs : List ℕ) → IsQuote q → enclosed_from 0 q false cs ≡ Some n → (IsUnclosed (q ∷ cs) → (h : IsOpenQuote (q ∷ cs)) × (h.quote ≡ q)) → (IsWide (q ∷ cs) → (h : IsWideQuote (q ∷ cs)) × (h.quote ≡ q)) → HasFault (q ∷ cs) (quote_fault (characters (take n cs)))
fault-here q n cs i h o w = by (list_any is_wide (characters (take n cs))) refl
  where
    closed : IsUnclosed (q ∷ cs) → ⊥
    closed u = closed-here q n cs h (o u)

    wide : list_any is_wide (characters (take n cs)) ≡ true → IsWide (q ∷ cs)
    wide e =
        let c = enclosed-some 0 n q false cs h in
        let b = body-here q n cs c.body c.after i h c.xs_is c.inside in
        let v = wide-some (characters (take n cs)) e in
        inr (record {
          quote = q;
          body = c.body;
          after = c.after;
          value = v.0;
          is_quote = i;
          here_is = ap (λ (t : List ℕ). q ∷ t) c.xs_is;
          inside = c.inside;
          escape = subst (λ body. Contains (characters body) (Character.Escape v.0)) b.1 v.1;
          wide = v.2;
        })

    narrow : list_any is_wide (characters (take n cs)) ≡ false → (x : IsWideQuote (q ∷ cs)) × (x.quote ≡ q) → ⊥
    narrow e (x, y) =
        let tail : cs ≡ x.body ++ x.quote ∷ x.after = (let z = x.here_is in cc) in
        let b = body-here q n cs x.body x.after i h (tail ∙ ap (λ q. x.body ++ q ∷ x.after) y) (ap (λ q. is_inside q false x.body) (sym y) ∙ x.inside) in
        true≢false (sym (ap (λ t. list_any is_wide (characters t)) b.1 ∙ wide-any (characters x.body) x.value x.escape x.wide) ∙ e)

    by : (b : Bool) → list_any is_wide (characters (take n cs)) ≡ b → HasFault (q ∷ cs) (cond b fault.Wide fault.Stray)
    by true e = (closed, wide e)
    by false e = (closed, λ x. narrow e (w x))

length-literal : (q : ℕ) (body t : List ℕ) → t ≡ q ∷ (body ++ q ∷ []) → length t ≡ length body + 2
length-literal q body t e = omega (arith, ap length e, length-append body (q ∷ []))

tail-literal : (q c : ℕ) (cs body t a : List ℕ) → t ≡ q ∷ (body ++ q ∷ []) → t ++ a ≡ c ∷ cs → cs ≡ body ++ q ∷ a
tail-literal q c cs body t a e g =
    let z : c ∷ cs ≡ q ∷ ((body ++ q ∷ []) ++ a) = sym g ∙ ap (λ u. u ++ a) e in
    let y : cs ≡ (body ++ q ∷ []) ++ a = cc in
    y ∙ append_assoc body (q ∷ []) a

-- strings

unclosed-string : (cs : List ℕ) → sort_of (34 ∷ cs) ≡ Sort.String → IsUnclosed (34 ∷ cs) → (h : IsOpenQuote (34 ∷ cs)) × (h.quote ≡ 34)
unclosed-string cs e u = subst (λ s. UnclosedAs s (34 ∷ cs)) e (unclosed-sort (34 ∷ cs) u)

wide-string : (cs : List ℕ) → sort_of (34 ∷ cs) ≡ Sort.String → IsWide (34 ∷ cs) → (h : IsWideQuote (34 ∷ cs)) × (h.quote ≡ 34)
wide-string cs e u = subst (λ s. WideAs s (34 ∷ cs)) e (wide-sort (34 ∷ cs) u)

right-string : (before cs : List ℕ) → sort_of (34 ∷ cs) ≡ Sort.String → IsRight before (34 ∷ cs) (scan_string cs)
unfolding scan_string
right-string before cs e = by (enclosed_from 0 34 false cs) refl
  where
    all : (t a : List ℕ) (p : Option TokenKind) → t ++ a ≡ 34 ∷ cs → IsPiece before t a p → (bytes : List ℕ) × IsString t bytes × (p ≡ Some (kind.Str bytes))
    all t a p g h = sorted Sort.String before (34 ∷ cs) t a p e g h

    body : (n : ℕ) → enclosed_from 0 34 false cs ≡ Some n → (t a bytes : List ℕ) → t ++ a ≡ 34 ∷ cs → IsString t bytes → (length t ≡ n + 2) × (bytes_from [] (characters (take n cs)) ≡ Some bytes)
    body n f t a bytes g s =
        let b = body-here 34 n cs s.body a (inr refl) f (tail-literal 34 34 cs s.body t a s.text_is g) s.inside in (
          (let l = length-literal 34 s.body t s.text_is in omega (arith, l, b.0)),
          ap (λ t. bytes_from [] (characters t)) b.1 ∙ bytes-here [] bytes (characters s.body) s.bytes_are,
        )

    best : (n : ℕ) → (f : enclosed_from 0 34 false cs ≡ Some n) → (bytes : List ℕ) → bytes_from [] (characters (take n cs)) ≡ Some bytes → Best before (34 ∷ cs) (n + 2) (Some (kind.Str bytes))
    best n f bytes h =
        let c = enclosed-some 0 n 34 false cs f in
        let b = body-here 34 n cs c.body c.after (inr refl) f c.xs_is c.inside in
        let r = bytes-some [] bytes (characters c.body) (ap (λ t. bytes_from [] (characters t)) (sym b.1) ∙ h) in
        let l : length (34 ∷ (c.body ++ 34 ∷ [])) ≡ n + 2 = (let l = length-literal 34 c.body (34 ∷ (c.body ++ 34 ∷ [])) refl in omega (arith, l, b.0)) in
        subst (λ n. Best before (34 ∷ cs) n (Some (kind.Str bytes))) l
        (only before (34 ∷ cs) (34 ∷ (c.body ++ 34 ∷ [])) c.after (Some (kind.Str bytes)) (ap (λ (t : List ℕ). 34 ∷ t) (append_assoc c.body (34 ∷ []) c.after ∙ sym c.xs_is)) (omega arith)
        (record { body = c.body; text_is = refl; inside = c.inside; bytes_are = r.bytes_are ∙ ap (λ t. map (λ (b : ℕ). Some b) t) (sym r.result_is) })
        (λ u b p g q.
        let w = all u b p g q in
        let k = body n f u b w.0 g w.1 in
        (k.0 ∙ sym l, w.2 ∙ ap (λ t. Some (kind.Str t)) (let z : Some w.0 ≡ Some bytes = sym k.1 ∙ h in let y : w.0 ≡ bytes = cc in y))))

    piece : (n : ℕ) → enclosed_from 0 34 false cs ≡ Some n → (o : Option (List ℕ)) → bytes_from [] (characters (take n cs)) ≡ o → IsRight before (34 ∷ cs) (string_piece n (characters (take n cs)) o)
    piece n f None h = (
      (λ t a p g q. let w = all t a p g q in let z : None ≡ Some w.0 = sym h ∙ (body n f t a w.0 g w.1).1 in cc),
      fault-here 34 n cs (inr refl) f (unclosed-string cs e) (wide-string cs e),
    )
    piece n f (Some bytes) h = best n f bytes h

    by : (o : Option ℕ) → enclosed_from 0 34 false cs ≡ o → IsRight before (34 ∷ cs) (string_of cs o)
    by None f = (
      (λ t a p g q.
          let w = all t a p g q in
          let z : None ≡ Some (0 + length w.1.body) = sym f ∙ ap (enclosed_from 0 34 false) (tail-literal 34 34 cs w.1.body t a w.1.text_is g) ∙ enclosed-here 0 34 false w.1.body a refl w.1.inside in cc),
      inr (open-here 34 cs (inr refl) f),
    )
    by (Some n) f = piece n f (bytes_from [] (characters (take n cs))) refl

pub string-right : (before : List ℕ) (c : ℕ) (cs : List ℕ) → sort_of (c ∷ cs) ≡ Sort.String → IsRight before (c ∷ cs) (scan_string cs)
string-right before c cs e =
    let z : 34 ≡ c = sym (first-as Sort.String c cs e) in
    subst (λ c. IsRight before (c ∷ cs) (scan_string cs)) z (right-string before cs (ap (λ c. sort_of (c ∷ cs)) z ∙ e))

-- character constants

unclosed-character : (cs : List ℕ) → sort_of (39 ∷ cs) ≡ Sort.Character → IsUnclosed (39 ∷ cs) → (h : IsOpenQuote (39 ∷ cs)) × (h.quote ≡ 39)
unclosed-character cs e u = subst (λ s. UnclosedAs s (39 ∷ cs)) e (unclosed-sort (39 ∷ cs) u)

wide-character : (cs : List ℕ) → sort_of (39 ∷ cs) ≡ Sort.Character → IsWide (39 ∷ cs) → (h : IsWideQuote (39 ∷ cs)) × (h.quote ≡ 39)
wide-character cs e u = subst (λ s. WideAs s (39 ∷ cs)) e (wide-sort (39 ∷ cs) u)

pub record One (chs : List Character) (value : ℤ) : Type 0 where
  pub character : Character
  pub chs_are : chs ≡ character ∷ []
  pub value_is : value_of character ≡ Some value

only-some : (chs : List Character) (value : ℤ) → only_value chs ≡ Some value → One chs value
only-some [] value h = absurd (let z : None ≡ Some value = h in cc)
only-some (ch ∷ []) value h = record { character = ch; chs_are = refl; value_is = h }
only-some (ch ∷ other ∷ chs) value h = absurd (let z : None ≡ Some value = h in cc)

right-character : (before cs : List ℕ) → sort_of (39 ∷ cs) ≡ Sort.Character → IsRight before (39 ∷ cs) (scan_character cs)
unfolding scan_character
right-character before cs e = by (enclosed_from 0 39 false cs) refl
  where
    all : (t a : List ℕ) (p : Option TokenKind) → t ++ a ≡ 39 ∷ cs → IsPiece before t a p → (value : ℤ) × (ty : IntType) × IsCharacter t value ty × (p ≡ Some (kind.Number value ty))
    all t a p g h = sorted Sort.Character before (39 ∷ cs) t a p e g h

    body : (n : ℕ) → enclosed_from 0 39 false cs ≡ Some n → (t a : List ℕ) (value : ℤ) (ty : IntType) → t ++ a ≡ 39 ∷ cs → IsCharacter t value ty → (length t ≡ n + 2) × (only_value (characters (take n cs)) ≡ Some value)
    body n f t a value ty g s =
        let b = body-here 39 n cs s.body a (inl refl) f (tail-literal 39 39 cs s.body t a s.text_is g) s.inside in (
          (let l = length-literal 39 s.body t s.text_is in omega (arith, l, b.0)),
          ap (λ t. only_value (characters t)) b.1 ∙ ap only_value s.one ∙ s.value_is,
        )

    best : (n : ℕ) → (f : enclosed_from 0 39 false cs ≡ Some n) → (value : ℤ) → only_value (characters (take n cs)) ≡ Some value → Best before (39 ∷ cs) (n + 2) (Some (kind.Number value Int))
    best n f value h =
        let c = enclosed-some 0 n 39 false cs f in
        let b = body-here 39 n cs c.body c.after (inl refl) f c.xs_is c.inside in
        let r = only-some (characters c.body) value (ap (λ t. only_value (characters t)) (sym b.1) ∙ h) in
        let l : length (39 ∷ (c.body ++ 39 ∷ [])) ≡ n + 2 = (let l = length-literal 39 c.body (39 ∷ (c.body ++ 39 ∷ [])) refl in omega (arith, l, b.0)) in
        subst (λ n. Best before (39 ∷ cs) n (Some (kind.Number value Int))) l
        (only before (39 ∷ cs) (39 ∷ (c.body ++ 39 ∷ [])) c.after (Some (kind.Number value Int)) (ap (λ (t : List ℕ). 39 ∷ t) (append_assoc c.body (39 ∷ []) c.after ∙ sym c.xs_is)) (omega arith)
        (inr (record { body = c.body; character = r.character; text_is = refl; inside = c.inside; one = r.chs_are; value_is = r.value_is; type_is = refl }))
        (λ u b p g q.
        let w = all u b p g q in
        let k = body n f u b w.0 w.1 g w.2 in
        (k.0 ∙ sym l, w.3 ∙ ap (λ v. Some (kind.Number v w.1)) (let z : Some w.0 ≡ Some value = sym k.1 ∙ h in let y : w.0 ≡ value = cc in y) ∙ ap (λ t. Some (kind.Number value t)) w.2.type_is)))

    piece : (n : ℕ) → enclosed_from 0 39 false cs ≡ Some n → (o : Option ℤ) → only_value (characters (take n cs)) ≡ o → IsRight before (39 ∷ cs) (character_piece n (characters (take n cs)) o)
    piece n f None h = (
      (λ t a p g q. let w = all t a p g q in let z : None ≡ Some w.0 = sym h ∙ (body n f t a w.0 w.1 g w.2).1 in cc),
      fault-here 39 n cs (inl refl) f (unclosed-character cs e) (wide-character cs e),
    )
    piece n f (Some value) h = best n f value h

    by : (o : Option ℕ) → enclosed_from 0 39 false cs ≡ o → IsRight before (39 ∷ cs) (character_of cs o)
    by None f = (
      (λ t a p g q.
          let w = all t a p g q in
          let z : None ≡ Some (0 + length w.2.body) = sym f ∙ ap (enclosed_from 0 39 false) (tail-literal 39 39 cs w.2.body t a w.2.text_is g) ∙ enclosed-here 0 39 false w.2.body a refl w.2.inside in cc),
      inr (open-here 39 cs (inl refl) f),
    )
    by (Some n) f = piece n f (only_value (characters (take n cs))) refl

pub character-right : (before : List ℕ) (c : ℕ) (cs : List ℕ) → sort_of (c ∷ cs) ≡ Sort.Character → IsRight before (c ∷ cs) (scan_character cs)
character-right before c cs e =
    let z : 39 ≡ c = sym (first-as Sort.Character c cs e) in
    subst (λ c. IsRight before (c ∷ cs) (scan_character cs)) z (right-character before cs (ap (λ c. sort_of (c ∷ cs)) z ∙ e))
