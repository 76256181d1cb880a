-- Comments.
use Rattle.std.proofs.Common.{◌≡◌, ℕ, suc, ◌+◌, ◌≤◌, ◌⊎◌, inl, inr, List, [], ◌∷◌, ◌++◌, length, get_or, take, drop, Bool, true, false, not, cond, ◌&&◌, ◌||◌, eqb, Option, None, Some, refl, arith, ◌∙◌, ap, sym, subst}
use Rattle.std.proofs.lemmas.Bool.{and_parts, and_from, false≢true, true≢false, or_cases, eqb-true, eq-eqb}
use Rattle.std.proofs.lemmas.List.{take-append-drop, append_assoc, length-append}
use Rattle.std.specs.Prelude.{option_map}
use Rattle.std.specs.List.{prefix_len}
use Rattle.ob_tree.specs.Bytes.{begins_with, ends_line}
use Rattle.ob_tree.specs.Signs.{begins_comment}
use Rattle.ob_tree.specs.Spaces.{IsComment, IsBlockComment, IsLineComment, IsOpenComment}
use Rattle.ob_tree.specs.Pieces.{IsPiece}
use Rattle.ob_tree.specs.declared.tokens.TokenKind.{TokenKind}
use Rattle.ob_lexer.specs.declared.bytes.Class.{Class}
use Rattle.ob_lexer.specs.declared.scanner.Sort.{Sort}
use Rattle.ob_lexer.specs.Scan.{has, sort_of, block_end_from, comment_length, comment_piece, scan_comment}
use Rattle.ob_lexer.proofs.Prefixes.{prefix_len-exact, list_all-prefix, length-prefix}
use Rattle.ob_lexer.proofs.Taking.{Best, IsRight, sorted, first-as, only}

abbrev pub NoEnd : List ℕ → Type 0
NoEnd body = (x y : List ℕ) → body ++ 42 ∷ [] ≡ x ++ 42 ∷ (47 ∷ y) → ⊥

abbrev ends_here : ℕ → List ℕ → Bool
ends_here c cs = eqb c 42 && begins_with (λ d. eqb d 47) cs

too-short : (x y : List ℕ) → [] ≡ x ++ 42 ∷ (47 ∷ y) → ⊥
too-short x y e = omega (arith, ap length e, length-append x (42 ∷ (47 ∷ y)))

no-end-nil : NoEnd []
no-end-nil [] y e = let z : [] ≡ 47 ∷ y = cc in cc
no-end-nil (z ∷ x) y e = too-short x y (let t : [] ≡ x ++ 42 ∷ (47 ∷ y) = cc in t)

begins-slash : (body y after : List ℕ) → body ++ 42 ∷ [] ≡ 47 ∷ y → begins_with (λ d. eqb d 47) (body ++ 42 ∷ (47 ∷ after)) ≡ true
begins-slash [] y after e = absurd (let z = ap (λ (l : List ℕ). get_or l 0 0) e in omega (arith, z))
begins-slash (b ∷ body) y after e = eq-eqb b 47 (let z : b ≡ 47 = cc in z)

no-end-more : (c : ℕ) (body after : List ℕ) → ends_here c (body ++ 42 ∷ (47 ∷ after)) ≡ false → NoEnd body → NoEnd (c ∷ body)
no-end-more c body after h n [] y e =
    let first : c ≡ 42 = cc in
    let rest : body ++ 42 ∷ [] ≡ 47 ∷ y = cc in
    true≢false (sym (and_from (eqb c 42) (begins_with (λ d. eqb d 47) (body ++ 42 ∷ (47 ∷ after))) (eq-eqb c 42 first) (begins-slash body y after rest)) ∙ h)
no-end-more c body after h n (z ∷ x) y e = n x y (let r : body ++ 42 ∷ [] ≡ x ++ 42 ∷ (47 ∷ y) = cc in r)

no-end-less : (c : ℕ) (body : List ℕ) → NoEnd (c ∷ body) → NoEnd body
no-end-less c body n x y e = n (c ∷ x) y (ap (λ (r : List ℕ). c ∷ r) e)

ends-false : (c : ℕ) (body after : List ℕ) → NoEnd (c ∷ body) → ends_here c (body ++ 42 ∷ (47 ∷ after)) ≡ true → ⊥
ends-false c [] after n h = let p = and_parts (eqb c 42) false h in false≢true p.1
ends-false c (d ∷ body) after n h =
    let p = and_parts (eqb c 42) (eqb d 47) h in
    let ec = eqb-true c 42 p.0 in
    let ed = eqb-true d 47 p.1 in
    n [] (body ++ 42 ∷ []) (let r : c ∷ (d ∷ (body ++ 42 ∷ [])) ≡ 42 ∷ (47 ∷ (body ++ 42 ∷ [])) = cc in r)

-- the first end is found
pub block-here : (at : ℕ) (body after : List ℕ) → NoEnd body → block_end_from at (body ++ 42 ∷ (47 ∷ after)) ≡ Some (at + length body)
block-here at [] after n = ap (λ (k : ℕ). Some k) (let z : at ≡ at + 0 = omega arith in z)
block-here at (c ∷ body) after n =
    by (block-here (at + 1) body after (no-end-less c body n)) (ends_here c (body ++ 42 ∷ (47 ∷ after))) refl
  where
    by : block_end_from (at + 1) (body ++ 42 ∷ (47 ∷ after)) ≡ Some (at + 1 + length body) → (b : Bool) → ends_here c (body ++ 42 ∷ (47 ∷ after)) ≡ b → cond b (Some at) (block_end_from (at + 1) (body ++ 42 ∷ (47 ∷ after))) ≡ Some (at + suc (length body))
    by more true h = absurd (ends-false c body after n h)
    by more false h = more ∙ ap (λ (k : ℕ). Some k) (let z : at + 1 + length body ≡ at + suc (length body) = omega arith in z)

-- where none is found there is none
pub block-none : (at : ℕ) (xs x y : List ℕ) → xs ≡ x ++ 42 ∷ (47 ∷ y) → block_end_from at xs ≡ None → ⊥
block-none at xs [] y e h = let z : Some at ≡ None = sym (ap (block_end_from at) e) ∙ h in cc
block-none at xs (c ∷ x) y e h =
    by (block-none (at + 1) (x ++ 42 ∷ (47 ∷ y)) x y refl) (ends_here c (x ++ 42 ∷ (47 ∷ y))) (sym (ap (block_end_from at) e) ∙ h)
  where
    by : (block_end_from (at + 1) (x ++ 42 ∷ (47 ∷ y)) ≡ None → ⊥) → (b : Bool) → cond b (Some at) (block_end_from (at + 1) (x ++ 42 ∷ (47 ∷ y))) ≡ None → ⊥
    by more true h = let z : Some at ≡ None = h in cc
    by more false h = more h

pub record BlockEnd (at n : ℕ) (xs : List ℕ) : Type 0 where
  pub body : List ℕ
  pub after : List ℕ
  pub xs_is : xs ≡ body ++ 42 ∷ (47 ∷ after)
  pub n_is : n ≡ at + length body
  pub first : NoEnd body

-- what is found is the first end
pub block-some : (at n : ℕ) (xs : List ℕ) → block_end_from at xs ≡ Some n → BlockEnd at n xs
block-some at n [] h = absurd (let z : None ≡ Some n = h in cc)
block-some at n (c ∷ []) h = absurd (by (eqb c 42) h)
  where
    by : (b : Bool) → cond (b && false) (Some at) None ≡ Some n → ⊥
    by true h = let z : None ≡ Some n = h in cc
    by false h = let z : None ≡ Some n = h in cc
block-some at n (c ∷ d ∷ cs) h = by (block-some (at + 1) n (d ∷ cs)) (eqb c 42 && eqb d 47) refl h
  where
    goes : BlockEnd (at + 1) n (d ∷ cs) → ends_here c (d ∷ cs) ≡ false → BlockEnd at n (c ∷ d ∷ cs)
    goes r f = record {
      body = c ∷ r.body;
      after = r.after;
      xs_is = ap (λ (t : List ℕ). c ∷ t) r.xs_is;
      n_is = omega (arith, r.n_is);
      first = no-end-more c r.body r.after (sym (ap (ends_here c) r.xs_is) ∙ f) r.first;
    }

    by : (block_end_from (at + 1) (d ∷ cs) ≡ Some n → BlockEnd (at + 1) n (d ∷ cs)) → (b : Bool) → (eqb c 42 && eqb d 47) ≡ b → cond b (Some at) (block_end_from (at + 1) (d ∷ cs)) ≡ Some n → BlockEnd at n (c ∷ d ∷ cs)
    by more true f h =
        let p = and_parts (eqb c 42) (eqb d 47) f in
        let ec = eqb-true c 42 p.0 in
        let ed = eqb-true d 47 p.1 in
        let en : at ≡ n = cc in
        record { body = []; after = cs; xs_is = (let r : c ∷ (d ∷ cs) ≡ 42 ∷ (47 ∷ cs) = cc in r); n_is = omega (arith, en); first = no-end-nil }
    by more false f h = goes (more h) f

-- a comment has as many bytes as are counted

length-block : (body : List ℕ) → length (47 ∷ (42 ∷ (body ++ 42 ∷ (47 ∷ [])))) ≡ length body + 4
length-block body = omega (arith, length-append body (42 ∷ (47 ∷ [])))

pub comment-block : (t a : List ℕ) → IsBlockComment t → comment_length (t ++ a) ≡ Some (length t)
unfolding comment_length
comment-block t a h =
    subst (λ t. comment_length (t ++ a) ≡ Some (length t)) (sym h.text_is)
    (ap (option_map (λ n. n + 4)) (ap (block_end_from 0) (append_assoc h.body (42 ∷ (47 ∷ [])) a) ∙ block-here 0 h.body a h.first_end)
    ∙ ap (λ (k : ℕ). Some k) (let l = length-block h.body in let z : 0 + length h.body + 4 ≡ length (47 ∷ (42 ∷ (h.body ++ 42 ∷ (47 ∷ [])))) = omega (arith, l) in z))

line-ended : (a : List ℕ) → ends_line a ≡ true → begins_with (has Class.OnLine) a ≡ true → ⊥
line-ended [] h g = false≢true g
line-ended (c ∷ a) h g = true≢false (sym g ∙ rw h refl)

-- what stands behind the bytes of a line ends it
pub line-ends : (ds : List ℕ) → ends_line (drop (prefix_len (has Class.OnLine) ds) ds) ≡ true
line-ends [] = refl
line-ends (d ∷ ds) = by (line-ends ds) (eqb d 10) refl
  where
    by : ends_line (drop (prefix_len (has Class.OnLine) ds) ds) ≡ true → (b : Bool) → eqb d 10 ≡ b → ends_line (drop (cond (not b) (1 + prefix_len (has Class.OnLine) ds) 0) (d ∷ ds)) ≡ true
    by more true e = e
    by more false e = subst (λ n. ends_line (drop n (d ∷ ds)) ≡ true) (let z : suc (prefix_len (has Class.OnLine) ds) ≡ 1 + prefix_len (has Class.OnLine) ds = omega arith in z) more

pub comment-line : (t a : List ℕ) → IsLineComment t a → comment_length (t ++ a) ≡ Some (length t)
unfolding comment_length
comment-line t a h =
    subst (λ t. comment_length (t ++ a) ≡ Some (length t)) (sym h.text_is)
    (ap (λ (k : ℕ). Some k) (let l = prefix_len-exact (has Class.OnLine) h.body a h.one_line (line-ended a h.to_end) in omega (arith, l)))

pub comment-exact : (t a rest : List ℕ) → IsComment t a → t ++ a ≡ rest → comment_length rest ≡ Some (length t)
comment-exact t a rest (inl h) e = ap comment_length (sym e) ∙ comment-block t a h
comment-exact t a rest (inr h) e = ap comment_length (sym e) ∙ comment-line t a h

-- a comment that is found

begins-parts : (c : ℕ) (cs : List ℕ) → begins_comment (c ∷ cs) ≡ true → (c ≡ 47) × ((d : ℕ) × (ds : List ℕ) × (cs ≡ d ∷ ds) × ((d ≡ 42) ⊎ (d ≡ 47)))
begins-parts c [] h = absurd (false≢true (and_parts (eqb c 47) false h).1)
begins-parts c (d ∷ ds) h =
    let p = and_parts (eqb c 47) (eqb d 42 || eqb d 47) h in
    (eqb-true c 47 p.0, (d, ds, refl, elim (or_cases (eqb d 42) (eqb d 47) p.1) [ inl e ↦ inl (eqb-true d 42 e) | inr e ↦ inr (eqb-true d 47 e) ]))

pub record Found (rest : List ℕ) (n : ℕ) : Type 0 where
  pub text : List ℕ
  pub after : List ℕ
  pub rest_is : text ++ after ≡ rest
  pub comment : IsComment text after
  pub length_is : length text ≡ n

found-line : (ds : List ℕ) (n : ℕ) → comment_length (47 ∷ (47 ∷ ds)) ≡ Some n → Found (47 ∷ (47 ∷ ds)) n
unfolding comment_length
found-line ds n h =
    let k : ℕ = prefix_len (has Class.OnLine) ds in
    let l : length (take k ds) ≡ k = length-prefix (has Class.OnLine) ds in
    let e : 2 + k ≡ n = cc in
    record {
      text = 47 ∷ (47 ∷ take k ds);
      after = drop k ds;
      rest_is = ap (λ (t : List ℕ). 47 ∷ (47 ∷ t)) (take-append-drop k ds);
      comment = inr (record { body = take k ds; text_is = refl; one_line = list_all-prefix (has Class.OnLine) ds; to_end = line-ends ds });
      length_is = omega (arith, e, l);
    }

found-block : (ds : List ℕ) (n : ℕ) → comment_length (47 ∷ (42 ∷ ds)) ≡ Some n → Found (47 ∷ (42 ∷ ds)) n
unfolding comment_length
found-block ds n h = by (block_end_from 0 ds) refl h
  where
    by : (o : Option ℕ) → block_end_from 0 ds ≡ o → option_map (λ n. n + 4) o ≡ Some n → Found (47 ∷ (42 ∷ ds)) n
    by None e h = absurd (let z : None ≡ Some n = h in cc)
    by (Some k) e h =
        let b = block-some 0 k ds e in
        let en : k + 4 ≡ n = cc in
        record {
          text = 47 ∷ (42 ∷ (b.body ++ 42 ∷ (47 ∷ [])));
          after = b.after;
          rest_is = ap (λ (t : List ℕ). 47 ∷ (42 ∷ t)) (append_assoc b.body (42 ∷ (47 ∷ [])) b.after ∙ sym b.xs_is);
          comment = inl (record { body = b.body; text_is = refl; first_end = b.first });
          length_is = omega (arith, length-block b.body, en, b.n_is);
        }

pub comment-found : (rest : List ℕ) (n : ℕ) → begins_comment rest ≡ true → comment_length rest ≡ Some n → Found rest n
comment-found [] n g h = absurd (false≢true g)
comment-found (c ∷ cs) n g h = by (begins-parts c cs g)
  where
    at : (d : ℕ) (ds : List ℕ) → c ≡ 47 → cs ≡ d ∷ ds → (d ≡ 42) ⊎ (d ≡ 47) → Found (c ∷ cs) n
    at d ds ec es (inl e) =
        let r : 47 ∷ (42 ∷ ds) ≡ c ∷ cs = (let z : c ∷ cs ≡ 47 ∷ (42 ∷ ds) = cc in sym z) in
        subst (λ r. Found r n) r (found-block ds n (ap comment_length r ∙ h))
    at d ds ec es (inr e) =
        let r : 47 ∷ (47 ∷ ds) ≡ c ∷ cs = (let z : c ∷ cs ≡ 47 ∷ (47 ∷ ds) = cc in sym z) in
        subst (λ r. Found r n) r (found-line ds n (ap comment_length r ∙ h))

    by : (c ≡ 47) × ((d : ℕ) × (ds : List ℕ) × (cs ≡ d ∷ ds) × ((d ≡ 42) ⊎ (d ≡ 47))) → Found (c ∷ cs) n
    by p = at p.1.0 p.1.1 p.0 p.1.2 p.1.3

open-block : (ds : List ℕ) → comment_length (47 ∷ (42 ∷ ds)) ≡ None → IsOpenComment (47 ∷ (42 ∷ ds))
unfolding comment_length
open-block ds h = record { rest = ds; here_is = refl; no_end = λ x y e. block-none 0 ds x y e (by (block_end_from 0 ds) h) }
  where
    by : (o : Option ℕ) → option_map (λ n. n + 4) o ≡ None → o ≡ None
    by None h = refl
    by (Some k) h = absurd (let z : Some (k + 4) ≡ None = h in cc)

line-closed : (ds : List ℕ) → comment_length (47 ∷ (47 ∷ ds)) ≡ None → ⊥
unfolding comment_length
line-closed ds h = let z : Some (2 + prefix_len (has Class.OnLine) ds) ≡ None = h in cc

pub comment-open : (rest : List ℕ) → begins_comment rest ≡ true → comment_length rest ≡ None → IsOpenComment rest
comment-open [] g h = absurd (false≢true g)
comment-open (c ∷ cs) g h = by (begins-parts c cs g)
  where
    at : (d : ℕ) (ds : List ℕ) → c ≡ 47 → cs ≡ d ∷ ds → (d ≡ 42) ⊎ (d ≡ 47) → IsOpenComment (c ∷ cs)
    at d ds ec es (inl e) =
        let r : 47 ∷ (42 ∷ ds) ≡ c ∷ cs = (let z : c ∷ cs ≡ 47 ∷ (42 ∷ ds) = cc in sym z) in
        subst IsOpenComment r (open-block ds (ap comment_length r ∙ h))
    at d ds ec es (inr e) =
        let r : 47 ∷ (47 ∷ ds) ≡ c ∷ cs = (let z : c ∷ cs ≡ 47 ∷ (47 ∷ ds) = cc in sym z) in
        absurd (line-closed ds (ap comment_length r ∙ h))

    by : (c ≡ 47) × ((d : ℕ) × (ds : List ℕ) × (cs ≡ d ∷ ds) × ((d ≡ 42) ⊎ (d ≡ 47))) → IsOpenComment (c ∷ cs)
    by p = at p.1.0 p.1.1 p.0 p.1.2 p.1.3

comment-some : (t a : List ℕ) → IsComment t a → 1 ≤ length t
comment-some t a (inl h) = omega (arith, ap length h.text_is)
comment-some t a (inr h) = omega (arith, ap length h.text_is)

pub comment-right : (before : List ℕ) (c : ℕ) (cs : List ℕ) → sort_of (c ∷ cs) ≡ Sort.Comment → IsRight before (c ∷ cs) (scan_comment (c ∷ cs))
comment-right before c cs e = by (comment_length (c ∷ cs)) refl
  where
    all : (u b : List ℕ) (p : Option TokenKind) → u ++ b ≡ c ∷ cs → IsPiece before u b p → (comment_length (c ∷ cs) ≡ Some (length u)) × (p ≡ None)
    all u b p f h = let w = sorted Sort.Comment before (c ∷ cs) u b p e f h in (comment-exact u b (c ∷ cs) w.0 f, w.1)

    by : (o : Option ℕ) → comment_length (c ∷ cs) ≡ o → IsRight before (c ∷ cs) (comment_piece o)
    by None h = ((λ t a p f q. let z : None ≡ Some (length t) = sym h ∙ (all t a p f q).0 in cc), inl (comment-open (c ∷ cs) (first-as Sort.Comment c cs e) h))
    by (Some n) h =
        let f = comment-found (c ∷ cs) n (first-as Sort.Comment c cs e) h in
        subst (λ n. Best before (c ∷ cs) n None) f.length_is
        (only before (c ∷ cs) f.text f.after None f.rest_is (comment-some f.text f.after f.comment) (inr (inl f.comment))
        (λ u b p g q. let w = all u b p g q in ((let z : Some n ≡ Some (length u) = sym h ∙ w.0 in let y : n ≡ length u = cc in omega (arith, y, f.length_is)), w.1)))
