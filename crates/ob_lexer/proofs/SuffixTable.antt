-- The table of suffixes, and digits with a suffix behind them.
use Rattle.std.proofs.Common.{◌≡◌, ℕ, zero, suc, ◌+◌, ◌≤◌, inl, inr, List, [], ◌∷◌, ◌++◌, length, take, drop, Bool, true, false, cond, ◌||◌, eqb, Option, None, Some, refl, arith, ◌∙◌, ap, sym, subst}
use Rattle.std.proofs.lemmas.Bool.{and_parts, false≢true}
use Rattle.std.proofs.lemmas.List.{take-append-drop}
use Rattle.std.specs.Prelude.{Contains}
use Rattle.std.specs.List.{list_all, prefix_len, find}
use Rattle.std.specs.Str.{bytes_eq}
use Rattle.ob_tree.specs.Bytes.{begins_with, is_digit, is_octal_digit, is_hex_digit, is_name_byte, is_letter}
use Rattle.ob_tree.specs.Constants.{suffixes}
use Rattle.ob_tree.specs.declared.constants.Base.{Base}
use Rattle.ob_tree.specs.declared.constants.Suffix.{Suffix}
use Rattle.ob_lexer.specs.Scan.{has, class_of, begins_ending, ending_at}
use Rattle.ob_lexer.proofs.Prefixes.{prefix_len-exact, prefix_len-some, bytes_eq-same, bytes_eq-refl, take-here, drop-here, same-here, find-true}
use Rattle.ob_lexer.proofs.Tables.{Among, falls, find-among, find-greatest}

-- the table of suffixes

abbrev pub AllRows : (List ℕ × Suffix → Type 0) → List (List ℕ × Suffix) → Type 0
AllRows P [] = Unit {0}
AllRows P (r ∷ rs) = P r × AllRows P rs

pub row-among : (r : List ℕ × Suffix) (rs : List (List ℕ × Suffix)) → Contains rs r → Among r rs
row-among r [] m = absurd (omega (arith, m.1))
row-among r (y ∷ rs) (zero, l, e) = inl (sym e)
row-among r (y ∷ rs) (suc k, l, e) = inr (row-among r rs (k, omega arith, e))

pub all-among : (P : List ℕ × Suffix → Type 0) (r : List ℕ × Suffix) (rs : List (List ℕ × Suffix)) → AllRows P rs → Among r rs → P r
all-among P r [] h m = absurd m
all-among P r (y ∷ rs) h (inl e) = subst P (sym e) h.0
all-among P r (y ∷ rs) h (inr m) = all-among P r rs h.1 m

pub all-rows : (P : List ℕ × Suffix → Type 0) (r : List ℕ × Suffix) → AllRows P suffixes → Contains suffixes r → P r
all-rows P r h m = all-among P r suffixes h (row-among r suffixes m)

pub find-contains : (p : List ℕ × Suffix → Bool) (rs : List (List ℕ × Suffix)) (r : List ℕ × Suffix) → find p rs ≡ Some r → Contains rs r
find-contains p [] r e = absurd (let z : None ≡ Some r = e in cc)
find-contains p (y ∷ rs) r e = by (find-contains p rs r) (p y) e
  where
    more : Contains rs r → Contains (y ∷ rs) r
    more m = (suc m.0, omega (arith, m.1), m.2)

    by : (find p rs ≡ Some r → Contains rs r) → (b : Bool) → cond b (Some y) (find p rs) ≡ Some r → Contains (y ∷ rs) r
    by rec true e = (zero, omega arith, (let z : y ≡ r = cc in z))
    by rec false e = more (rec e)

pub rows-fall : falls (λ (r : List ℕ × Suffix). length r.0) suffixes ≡ true
rows-fall = refl

pub row_of : List ℕ → Option (List ℕ × Suffix)
row_of text = find (λ r. bytes_eq r.0 text) suffixes

pub rows-alone : AllRows (λ r. row_of r.0 ≡ Some r) suffixes
unfolding row_of
rows-alone = (refl, (refl, (refl, (refl, (refl, (refl, (refl, (refl, (refl, (refl, (refl, (refl, (refl, (refl, (refl, (refl, (refl, (refl, (refl, (refl, (refl, (refl, (refl, tt)))))))))))))))))))))))

pub same-suffix : (r s : List ℕ × Suffix) → Contains suffixes r → Contains suffixes s → r.0 ≡ s.0 → r.1 ≡ s.1
same-suffix r s m n e =
    let z : Some r ≡ Some s = sym (all-rows (λ r. row_of r.0 ≡ Some r) r rows-alone m) ∙ ap row_of e ∙ all-rows (λ r. row_of r.0 ≡ Some r) s rows-alone n in
    let y : r ≡ s = cc in
    ap (λ (r : List ℕ × Suffix). r.1) y

pub rows-no-digit : AllRows (λ r. begins_with is_digit r.0 ≡ false) suffixes
unfolding is_digit
rows-no-digit = (refl, (refl, (refl, (refl, (refl, (refl, (refl, (refl, (refl, (refl, (refl, (refl, (refl, (refl, (refl, (refl, (refl, (refl, (refl, (refl, (refl, (refl, (refl, tt)))))))))))))))))))))))

pub rows-no-octal : AllRows (λ r. begins_with is_octal_digit r.0 ≡ false) suffixes
unfolding is_octal_digit
rows-no-octal = (refl, (refl, (refl, (refl, (refl, (refl, (refl, (refl, (refl, (refl, (refl, (refl, (refl, (refl, (refl, (refl, (refl, (refl, (refl, (refl, (refl, (refl, (refl, tt)))))))))))))))))))))))

pub rows-no-hex : AllRows (λ r. begins_with is_hex_digit r.0 ≡ false) suffixes
unfolding is_hex_digit
rows-no-hex = (refl, (refl, (refl, (refl, (refl, (refl, (refl, (refl, (refl, (refl, (refl, (refl, (refl, (refl, (refl, (refl, (refl, (refl, (refl, (refl, (refl, (refl, (refl, tt)))))))))))))))))))))))

pub rows-no-x : AllRows (λ r. begins_with (λ c. eqb c 120 || eqb c 88) r.0 ≡ false) suffixes
rows-no-x = (refl, (refl, (refl, (refl, (refl, (refl, (refl, (refl, (refl, (refl, (refl, (refl, (refl, (refl, (refl, (refl, (refl, (refl, (refl, (refl, (refl, (refl, (refl, tt)))))))))))))))))))))))

pub rows-names : AllRows (λ r. list_all is_name_byte r.0 ≡ true) suffixes
unfolding is_name_byte is_letter is_digit
rows-names = (refl, (refl, (refl, (refl, (refl, (refl, (refl, (refl, (refl, (refl, (refl, (refl, (refl, (refl, (refl, (refl, (refl, (refl, (refl, (refl, (refl, (refl, (refl, tt)))))))))))))))))))))))

pub no-digit-row : (b : Base) (r : List ℕ × Suffix) → Contains suffixes r → begins_with (has (class_of b)) r.0 ≡ false
no-digit-row Base.Decimal r m = all-rows (λ r. begins_with is_digit r.0 ≡ false) r rows-no-digit m
no-digit-row Base.Octal r m = all-rows (λ r. begins_with is_octal_digit r.0 ≡ false) r rows-no-octal m
no-digit-row Base.Hexadecimal r m = all-rows (λ r. begins_with is_hex_digit r.0 ≡ false) r rows-no-hex m

pub empty-row : Among ([], Suffix.Plain) suffixes
empty-row = inr (inr (inr (inr (inr (inr (inr (inr (inr (inr (inr (inr (inr (inr (inr (inr (inr (inr (inr (inr (inr (inr (inl refl))))))))))))))))))))))

pub ending-none : (rest : List ℕ) → ending_at rest ≡ None → ⊥
unfolding ending_at
ending-none rest e = find-among (begins_ending rest) ([], Suffix.Plain) suffixes empty-row refl e

pub ending-row : (rest : List ℕ) (r : List ℕ × Suffix) → ending_at rest ≡ Some r → Contains suffixes r
unfolding ending_at
ending-row rest r e = find-contains (begins_ending rest) suffixes r e

pub ending-here : (rest : List ℕ) (r : List ℕ × Suffix) → ending_at rest ≡ Some r → r.0 ++ drop (length r.0) rest ≡ rest
unfolding ending_at
ending-here rest r e =
    ap (λ t. t ++ drop (length r.0) rest) (bytes_eq-same r.0 (take (length r.0) rest) (find-true (begins_ending rest) suffixes r e)) ∙ take-append-drop (length r.0) rest

pub ending-most : (rest a : List ℕ) (r s : List ℕ × Suffix) → ending_at rest ≡ Some r → Contains suffixes s → s.0 ++ a ≡ rest → length s.0 ≤ length r.0
unfolding ending_at
ending-most rest a r s e m h =
    find-greatest (λ (r : List ℕ × Suffix). length r.0) (begins_ending rest) s r suffixes rows-fall (row-among s suffixes m)
    (bytes_eq-refl s.0 (take (length s.0) rest) (sym (take-here s.0 a rest h))) e

-- digits

-- a byte of the class behind a part of the class makes the run longer
pub run-longer : (p : ℕ → Bool) (t a : List ℕ) → list_all p t ≡ true → begins_with p a ≡ true → length t + 1 ≤ prefix_len p (t ++ a)
run-longer p [] [] h g = absurd (false≢true g)
run-longer p [] (c ∷ a) h g = omega (arith, prefix_len-some p c a g)
run-longer p (x ∷ t) a h g =
    let parts = and_parts (p x) (list_all p t) h in
    let more = run-longer p t a parts.1 g in
    rw (parts.0) (let r : suc (length t) + 1 ≤ 1 + prefix_len p (t ++ a) = omega (arith, more) in r)

pub record Most (p : ℕ → Bool) (ds : List ℕ) (end : List ℕ × Suffix) (rest : List ℕ) (row : List ℕ × Suffix) : Type 0 where
  pub most : length ds + length end.0 ≤ prefix_len p rest + length row.0
  pub same : length ds + length end.0 ≡ prefix_len p rest + length row.0 → (ds ≡ take (prefix_len p rest) rest) × (end.1 ≡ row.1)

-- digits with a suffix are no longer than the run of digits with the longest suffix
pub digits-most : (p : ℕ → Bool) (ds a rest : List ℕ) (end row : List ℕ × Suffix) → list_all p ds ≡ true → Contains suffixes end → begins_with p end.0 ≡ false → ds ++ (end.0 ++ a) ≡ rest → ending_at (drop (prefix_len p rest) rest) ≡ Some row → Most p ds end rest row
digits-most p ds a rest end row h m n e f = by (begins_with p (end.0 ++ a)) refl
  where
    empty : (t : List ℕ) → begins_with p t ≡ false → begins_with p (t ++ a) ≡ true → length t ≡ 0
    empty [] n g = refl
    empty (c ∷ t) n g = absurd (false≢true (sym n ∙ g))

    by : (b : Bool) → begins_with p (end.0 ++ a) ≡ b → Most p ds end rest row
    by true g =
        let l = run-longer p ds (end.0 ++ a) h g in
        let z = empty end.0 n g in
        let k = ap (prefix_len p) e in
        record { most = omega (arith, l, z, k); same = λ q. absurd (omega (arith, l, z, k, q)) }
    by false g =
        let k : prefix_len p rest ≡ length ds = sym (ap (prefix_len p) e) ∙ prefix_len-exact p ds (end.0 ++ a) h (λ z. false≢true (sym g ∙ z)) in
        let d : end.0 ++ a ≡ drop (prefix_len p rest) rest = sym (drop-here ds (end.0 ++ a) rest e) ∙ ap (λ n. drop n rest) (sym k) in
        let l = ending-most (drop (prefix_len p rest) rest) a row end f m d in
        record {
          most = omega (arith, k, l);
          same = λ q. (
            sym (take-here ds (end.0 ++ a) rest e) ∙ ap (λ n. take n rest) (sym k),
            same-suffix end row m (ending-row (drop (prefix_len p rest) rest) row f)
                (same-here end.0 a row.0 (drop (length row.0) (drop (prefix_len p rest) rest)) (drop (prefix_len p rest) rest) d (ending-here (drop (prefix_len p rest) rest) row f) (omega (arith, k, q))),
          );
        }
