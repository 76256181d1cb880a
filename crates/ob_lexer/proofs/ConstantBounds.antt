-- An integer constant that begins at a place is no longer than the one that is read there.
use Rattle.std.proofs.Common.{◌≡◌, ℕ, ◌+◌, ◌≤◌, ◌⊎◌, inl, inr, List, [], ◌∷◌, ◌++◌, length, take, drop, Bool, true, false, ◌&&◌, ◌||◌, eqb, Some, refl, arith, ◌∙◌, ap, sym}
use Rattle.std.proofs.lemmas.Bool.{and_parts, false≢true, or_cases, or_left, or_right, eqb-true, eq-eqb, ne_eqb}
use Rattle.std.proofs.lemmas.List.{append_assoc, length-append, drop-drop}
use Rattle.std.specs.Prelude.{Contains}
use Rattle.std.specs.List.{list_all, prefix_len}
use Rattle.ob_tree.specs.Bytes.{begins_with, is_nonzero_digit, is_octal_digit, is_hex_digit}
use Rattle.ob_tree.specs.Constants.{number, base_number, IsDigits, IsConstant, suffixes}
use Rattle.ob_tree.specs.declared.constants.Base.{Base}
use Rattle.ob_tree.specs.declared.constants.Suffix.{Suffix}
use Rattle.ob_lexer.specs.Scan.{has, is_hex_prefix, base_at, prefix_of, class_of, digits_at, behind_digits, ending_at, value_at}
use Rattle.ob_lexer.proofs.Prefixes.{length-prefix}
use Rattle.ob_lexer.proofs.Classes.{within-bounds}
use Rattle.ob_lexer.proofs.SuffixTable.{all-rows, rows-no-x, no-digit-row, digits-most}

-- the base

pub record HexParts (rest : List ℕ) : Type 0 where
  pub sign : ℕ
  pub digit : ℕ
  pub more : List ℕ
  pub rest_is : rest ≡ 48 ∷ (sign ∷ (digit ∷ more))
  pub sign_is : (sign ≡ 120) ⊎ (sign ≡ 88)
  pub digit_is : is_hex_digit digit ≡ true

pub hex-parts : (rest : List ℕ) → is_hex_prefix rest ≡ true → HexParts rest
hex-parts [] h = absurd (false≢true h)
hex-parts (a ∷ []) h = absurd (false≢true h)
hex-parts (a ∷ x ∷ []) h = absurd (false≢true h)
hex-parts (a ∷ x ∷ d ∷ r) h =
    let p = and_parts (eqb a 48) ((eqb x 120 || eqb x 88) && is_hex_digit d) h in
    let q = and_parts (eqb x 120 || eqb x 88) (is_hex_digit d) p.1 in
    record {
      sign = x;
      digit = d;
      more = r;
      rest_is = ap (λ a. a ∷ (x ∷ (d ∷ r))) (eqb-true a 48 p.0);
      sign_is = elim (or_cases (eqb x 120) (eqb x 88) q.0) [ inl e ↦ inl (eqb-true x 120 e) | inr e ↦ inr (eqb-true x 88 e) ];
      digit_is = q.1;
    }

pub hex-prefix : (x d : ℕ) (r : List ℕ) → (x ≡ 120) ⊎ (x ≡ 88) → is_hex_digit d ≡ true → is_hex_prefix (48 ∷ (x ∷ (d ∷ r))) ≡ true
hex-prefix x d r (inl e) h = ap (λ x. is_hex_prefix (48 ∷ (x ∷ (d ∷ r)))) e ∙ h
hex-prefix x d r (inr e) h = ap (λ x. is_hex_prefix (48 ∷ (x ∷ (d ∷ r)))) e ∙ h

pub base-hex : (rest : List ℕ) → is_hex_prefix rest ≡ true → base_at rest ≡ Base.Hexadecimal
unfolding base_at
base-hex rest h = rw h refl

pub base-octal : (rest : List ℕ) → is_hex_prefix rest ≡ false → begins_with (λ c. eqb c 48) rest ≡ true → base_at rest ≡ Base.Octal
unfolding base_at
base-octal rest h g = rw (h, g) refl

pub base-decimal : (rest : List ℕ) → is_hex_prefix rest ≡ false → begins_with (λ c. eqb c 48) rest ≡ false → base_at rest ≡ Base.Decimal
unfolding base_at
base-decimal rest h g = rw (h, g) refl

pub no-hex-prefix : (rest : List ℕ) → begins_with (λ c. eqb c 48) rest ≡ false → is_hex_prefix rest ≡ false
no-hex-prefix [] h = refl
no-hex-prefix (a ∷ []) h = refl
no-hex-prefix (a ∷ x ∷ []) h = refl
no-hex-prefix (a ∷ x ∷ d ∷ r) h = rw h refl

pub nonzero-first : (ds x : List ℕ) → begins_with is_nonzero_digit ds ≡ true → begins_with (λ c. eqb c 48) (ds ++ x) ≡ false
unfolding is_nonzero_digit
nonzero-first [] x h = absurd (false≢true h)
nonzero-first (c ∷ ds) x h = ne_eqb c 48 (λ e. let b = within-bounds 49 57 c h in omega (arith, b, e))

pub begins-append : (p : ℕ → Bool) (ds x : List ℕ) → begins_with p ds ≡ true → begins_with p (ds ++ x) ≡ true
begins-append p [] x h = absurd (false≢true h)
begins-append p (c ∷ ds) x h = h

-- the bound

abbrev pub whole_length : List ℕ → List ℕ × Suffix → ℕ
whole_length rest row = prefix_of (base_at rest) + length (digits_at rest) + length row.0

pub record Known (t : List ℕ) (b : Base) (s : Suffix) (v : ℕ) (rest : List ℕ) (row : List ℕ × Suffix) : Type 0 where
  pub most : length t ≤ whole_length rest row
  pub same : length t ≡ whole_length rest row → (b ≡ base_at rest) × (s ≡ row.1) × (v ≡ value_at rest)

pub digits-as : (b : Base) (rest : List ℕ) → base_at rest ≡ b → digits_at rest ≡ take (prefix_len (has (class_of b)) (drop (prefix_of b) rest)) (drop (prefix_of b) rest)
unfolding digits_at
digits-as b rest e = ap (λ b. take (prefix_len (has (class_of b)) (drop (prefix_of b) rest)) (drop (prefix_of b) rest)) e

pub length-digits : (b : Base) (rest : List ℕ) → base_at rest ≡ b → length (digits_at rest) ≡ prefix_len (has (class_of b)) (drop (prefix_of b) rest)
length-digits b rest e = ap length (digits-as b rest e) ∙ length-prefix (has (class_of b)) (drop (prefix_of b) rest)

pub behind-as : (b : Base) (rest : List ℕ) → base_at rest ≡ b → behind_digits rest ≡ drop (prefix_len (has (class_of b)) (drop (prefix_of b) rest)) (drop (prefix_of b) rest)
behind-as b rest e =
    ap (λ b. drop (prefix_of b + length (digits_at rest)) rest) e
    ∙ ap (λ n. drop (prefix_of b + n) rest) (length-digits b rest e)
    ∙ sym (drop-drop (prefix_len (has (class_of b)) (drop (prefix_of b) rest)) (prefix_of b) rest)

pub same-base : (b : Base) (t a rest ds : List ℕ) (end row : List ℕ × Suffix) (v : ℕ) → base_at rest ≡ b → ds ++ (end.0 ++ a) ≡ drop (prefix_of b) rest → length t ≡ prefix_of b + length ds + length end.0 → list_all (has (class_of b)) ds ≡ true → Contains suffixes end → v ≡ number (base_number b) ds → ending_at (behind_digits rest) ≡ Some row → Known t b end.1 v rest row
same-base b t a rest ds end row v e q l h m w f =
    let d = digits-most (has (class_of b)) ds a (drop (prefix_of b) rest) end row h m (no-digit-row b end m) q (ap ending_at (sym (behind-as b rest e)) ∙ f) in
    let n = length-digits b rest e in
    let p : prefix_of (base_at rest) ≡ prefix_of b = ap prefix_of e in
    record {
      most = omega (arith, d.most, n, p, l);
      same = λ k.
          let z = d.same (omega (arith, k, n, p, l)) in
          (sym e, z.1, w ∙ ap (number (base_number b)) (z.0 ∙ sym (digits-as b rest e)) ∙ ap (λ b. number (base_number b) (digits_at rest)) (sym e));
    }

pub constant-text : (t a rest pre end : List ℕ) → t ++ a ≡ rest → t ≡ pre ++ end → pre ++ (end ++ a) ≡ rest
constant-text t a rest pre end e h = sym (append_assoc pre end a) ∙ ap (λ u. u ++ a) (sym h) ∙ e

pub length-text : (t pre end : List ℕ) → t ≡ pre ++ end → length t ≡ length pre + length end
length-text t pre end h = ap length h ∙ length-append pre end

pub not-octal : (c : ℕ) → (c ≡ 120) ⊎ (c ≡ 88) → is_octal_digit c ≡ true → ⊥
unfolding is_octal_digit
not-octal c (inl i) h = let b = within-bounds 48 55 c h in omega (arith, b, i)
not-octal c (inr i) h = let b = within-bounds 48 55 c h in omega (arith, b, i)

-- in front of a hexadecimal constant an octal one is the `0` alone
pub octal-in-hex : (t a rest ds : List ℕ) (end row : List ℕ × Suffix) (v : ℕ) → HexParts rest → base_at rest ≡ Base.Hexadecimal → ds ++ (end.0 ++ a) ≡ rest → length t ≡ length ds + length end.0 → list_all is_octal_digit ds ≡ true → begins_with (λ c. eqb c 48) ds ≡ true → Contains suffixes end → Known t Base.Octal end.1 v rest row
octal-in-hex t a rest [] end row v x e q l h g m = absurd (false≢true g)
octal-in-hex t a rest (z ∷ ds) end row v x e q l h g m =
    let tail : ds ++ (end.0 ++ a) ≡ x.sign ∷ (x.digit ∷ x.more) = (let y : z ∷ (ds ++ (end.0 ++ a)) ≡ 48 ∷ (x.sign ∷ (x.digit ∷ x.more)) = q ∙ x.rest_is in cc) in
    let one = alone ds end.0 tail (and_parts (is_octal_digit z) (list_all is_octal_digit ds) h).1 (all-rows (λ r. begins_with (λ c. eqb c 120 || eqb c 88) r.0 ≡ false) end rows-no-x m) in
    let n = length-digits Base.Hexadecimal rest e in
    let p : prefix_of (base_at rest) ≡ 2 = ap prefix_of e in
    record {
      most = omega (arith, one, l, p);
      same = λ k. absurd (omega (arith, one, l, p, k));
    }
  where
    is-x : (c : ℕ) → c ≡ x.sign → (eqb c 120 || eqb c 88) ≡ true
    is-x c i = elim x.sign_is [ inl e ↦ or_left (eqb c 120) (eqb c 88) (eq-eqb c 120 (i ∙ e)) | inr e ↦ or_right (eqb c 120) (eqb c 88) (eq-eqb c 88 (i ∙ e)) ]

    alone : (ds t : List ℕ) → ds ++ (t ++ a) ≡ x.sign ∷ (x.digit ∷ x.more) → list_all is_octal_digit ds ≡ true → begins_with (λ c. eqb c 120 || eqb c 88) t ≡ false → length ds + length t ≡ 0
    alone [] [] e h n = refl
    alone [] (c ∷ t) e h n = absurd (false≢true (sym n ∙ is-x c (let y : c ≡ x.sign = cc in y)))
    alone (d ∷ ds) t e h n =
        let y : d ≡ x.sign = cc in
        absurd (not-octal d (elim x.sign_is [ inl i ↦ inl (y ∙ i) | inr i ↦ inr (y ∙ i) ]) (and_parts (is_octal_digit d) (list_all is_octal_digit ds) h).0)

pub octal-known : (t a rest ds : List ℕ) (end row : List ℕ × Suffix) (v : ℕ) → ds ++ (end.0 ++ a) ≡ rest → length t ≡ length ds + length end.0 → list_all is_octal_digit ds ≡ true → begins_with (λ c. eqb c 48) ds ≡ true → Contains suffixes end → v ≡ number 8 ds → ending_at (behind_digits rest) ≡ Some row → Known t Base.Octal end.1 v rest row
octal-known t a rest ds end row v q l h g m w f = by (is_hex_prefix rest) refl
  where
    by : (b : Bool) → is_hex_prefix rest ≡ b → Known t Base.Octal end.1 v rest row
    by true x = octal-in-hex t a rest ds end row v (hex-parts rest x) (base-hex rest x) q l h g m
    by false x =
        same-base Base.Octal t a rest ds end row v
        (base-octal rest x (ap (begins_with (λ c. eqb c 48)) (sym q) ∙ begins-append (λ c. eqb c 48) ds (end.0 ++ a) g)) q (omega (arith, l)) h m w f

pub hex-known : (t a rest ds : List ℕ) (x : ℕ) (end row : List ℕ × Suffix) (v : ℕ) → (x ≡ 120) ⊎ (x ≡ 88) → 48 ∷ (x ∷ (ds ++ (end.0 ++ a))) ≡ rest → length t ≡ 2 + length ds + length end.0 → list_all is_hex_digit ds ≡ true → begins_with is_hex_digit ds ≡ true → Contains suffixes end → v ≡ number 16 ds → ending_at (behind_digits rest) ≡ Some row → Known t Base.Hexadecimal end.1 v rest row
hex-known t a rest [] x end row v i q l h g m w f = absurd (false≢true g)
hex-known t a rest (d ∷ ds) x end row v i q l h g m w f =
    same-base Base.Hexadecimal t a rest (d ∷ ds) end row v
    (base-hex rest (ap is_hex_prefix (sym q) ∙ hex-prefix x d (ds ++ (end.0 ++ a)) i g)) (ap (drop 2) q) l h m w f

pub constant-known : (t a rest : List ℕ) (b : Base) (s : Suffix) (v : ℕ) (row : List ℕ × Suffix) → IsConstant t b s v → t ++ a ≡ rest → ending_at (behind_digits rest) ≡ Some row → Known t b s v rest row
constant-known t a rest Base.Decimal s v row h e f =
    let d = h.digits_are in
    let q : h.digits ++ (h.ending ++ a) ≡ rest = constant-text t a rest h.digits h.ending e (h.text_is ∙ ap (λ u. u ++ h.ending) d.0) in
    let z : begins_with (λ c. eqb c 48) rest ≡ false = ap (begins_with (λ c. eqb c 48)) (sym q) ∙ nonzero-first h.digits (h.ending ++ a) d.1 in
    same-base Base.Decimal t a rest h.digits (h.ending, s) row v (base-decimal rest (no-hex-prefix rest z) z) q
    (let l = length-text t h.digits h.ending (h.text_is ∙ ap (λ u. u ++ h.ending) d.0) in omega (arith, l)) d.2 h.ending_is h.value_is f
constant-known t a rest Base.Octal s v row h e f =
    let d = h.digits_are in
    let g : t ≡ h.digits ++ h.ending = h.text_is ∙ ap (λ u. u ++ h.ending) d.0 in
    octal-known t a rest h.digits (h.ending, s) row v (constant-text t a rest h.digits h.ending e g) (length-text t h.digits h.ending g) d.2 d.1 h.ending_is h.value_is f
constant-known t a rest Base.Hexadecimal s v row h e f = by h.digits_are
  where
    at : (x : ℕ) → (x ≡ 120) ⊎ (x ≡ 88) → h.prefixed ≡ 48 ∷ (x ∷ h.digits) → list_all is_hex_digit h.digits ≡ true → begins_with is_hex_digit h.digits ≡ true → Known t Base.Hexadecimal s v rest row
    at x i p l g =
        let n : t ≡ (48 ∷ (x ∷ h.digits)) ++ h.ending = h.text_is ∙ ap (λ u. u ++ h.ending) p in
        hex-known t a rest h.digits x (h.ending, s) row v i (constant-text t a rest (48 ∷ (x ∷ h.digits)) h.ending e n)
        (let k = length-text t (48 ∷ (x ∷ h.digits)) h.ending n in omega (arith, k)) l g h.ending_is h.value_is f

    by : IsDigits Base.Hexadecimal h.prefixed h.digits → Known t Base.Hexadecimal s v rest row
    by d = elim d.0 [ inl p ↦ at 120 (inl refl) p d.2 d.1 | inr p ↦ at 88 (inr refl) p d.2 d.1 ]
