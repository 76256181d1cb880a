-- Include lines.
use Rattle.std.proofs.Common.{◌≡◌, ℕ, zero, suc, ◌-◌, ◌≤◌, ◌⊎◌, inl, inr, List, [], ◌∷◌, ◌++◌, length, take, drop, Bool, true, false, not, cond, eqb, Option, None, Some, Err, refl, arith, ◌∙◌, ap, sym, subst}
use Rattle.std.proofs.lemmas.Bool.{and_parts, and_from, false≢true, or_cases, eqb-true, ne_eqb, cond-false}
use Rattle.std.proofs.lemmas.List.{take-append-drop, append_assoc, length-append, take_at, drop_at}
use Rattle.std.specs.Prelude.{option_and_then, codes}
use Rattle.std.specs.Option.{option_or}
use Rattle.std.specs.List.{list_all, prefix_len, flat_map}
use Rattle.std.specs.Str.{bytes_eq}
use Rattle.ob_tree.specs.Bytes.{begins_with, ends_line, is_blank}
use Rattle.ob_tree.specs.Signs.{begins_comment}
use Rattle.ob_tree.specs.Spaces.{IsComment, IsLineComment, is_one_line, IsFiller, AreFillers, IsHeader, IsInclude, last_line}
use Rattle.ob_tree.specs.Pieces.{IsPiece, IsStuck, HasFault}
use Rattle.ob_tree.specs.declared.tokens.TokenKind.{TokenKind}
use Rattle.ob_tree.specs.declared.faults.LexKind.TheVariants as fault
use Rattle.ob_lexer.specs.declared.scanner.Sort.{Sort}
use Rattle.ob_lexer.specs.Scan.{sort_of, comment_length, strip, skip_blanks, strip_header, one_line_length, filler_length, is_return, line_end_from, include_end, include_piece, scan_include}
use Rattle.ob_lexer.proofs.Prefixes.{prefix_len-exact, list_all-prefix, bytes_eq-same, bytes_eq-refl, take-here}
use Rattle.ob_lexer.proofs.IncludeLemmas.{line_end-fill}
use Rattle.ob_lexer.proofs.CommentPieces.{comment-exact, comment-found}
use Rattle.ob_lexer.proofs.Taking.{Best, IsRight, sorted, first-as, only, no-unclosed, no-wide}

abbrev pub joined : List (List ℕ) → List ℕ
joined texts = flat_map (λ t. t) texts

-- prefixes

strip-here : (p rest : List ℕ) → strip p (p ++ rest) ≡ Some rest
unfolding strip
strip-here p rest =
    rw (bytes_eq-refl p (take (length p) (p ++ rest)) (sym (take_at p rest (length p) refl)))
    (ap (λ (r : List ℕ). Some r) (drop_at p rest (length p) refl))

strip-some : (p rest after : List ℕ) → strip p rest ≡ Some after → rest ≡ p ++ after
unfolding strip
strip-some p rest after h = by (bytes_eq p (take (length p) rest)) refl h
  where
    by : (b : Bool) → bytes_eq p (take (length p) rest) ≡ b → cond b (Some (drop (length p) rest)) None ≡ Some after → rest ≡ p ++ after
    by true e h =
        let d : drop (length p) rest ≡ after = cc in
        sym (take-append-drop (length p) rest) ∙ ap (λ t. t ++ drop (length p) rest) (sym (bytes_eq-same p _ e)) ∙ ap (λ t. p ++ t) d
    by false e h = absurd (let z : None ≡ Some after = h in cc)

skip-here : (b rest : List ℕ) → list_all is_blank b ≡ true → (begins_with is_blank rest ≡ true → ⊥) → skip_blanks (b ++ rest) ≡ rest
skip-here b rest h n = ap (λ k. drop k (b ++ rest)) (prefix_len-exact is_blank b rest h n) ∙ drop_at b rest (length b) refl

header-first : (header rest : List ℕ) → IsHeader header → begins_with is_blank (header ++ rest) ≡ true → ⊥
unfolding is_blank
header-first header rest (inl e) g = false≢true (sym (ap (λ h. begins_with is_blank (h ++ rest)) e) ∙ g)
header-first header rest (inr (inl e)) g = false≢true (sym (ap (λ h. begins_with is_blank (h ++ rest)) e) ∙ g)
header-first header rest (inr (inr (inl e))) g = false≢true (sym (ap (λ h. begins_with is_blank (h ++ rest)) e) ∙ g)
header-first header rest (inr (inr (inr e))) g = false≢true (sym (ap (λ h. begins_with is_blank (h ++ rest)) e) ∙ g)

word-first : (rest : List ℕ) → begins_with is_blank (codes "include" ++ rest) ≡ true → ⊥
unfolding is_blank
word-first rest g = false≢true g

header-here : (header rest : List ℕ) → IsHeader header → strip_header (header ++ rest) ≡ Some rest
unfolding strip_header strip
header-here header rest (inl e) = ap (λ h. strip_header (h ++ rest)) e
header-here header rest (inr (inl e)) = ap (λ h. strip_header (h ++ rest)) e
header-here header rest (inr (inr (inl e))) = ap (λ h. strip_header (h ++ rest)) e
header-here header rest (inr (inr (inr e))) = ap (λ h. strip_header (h ++ rest)) e

header-some : (rest after : List ℕ) → strip_header rest ≡ Some after → (header : List ℕ) × IsHeader header × (rest ≡ header ++ after)
unfolding strip_header
header-some rest after h =
    by (strip (codes "<stdio.h>") rest) refl (strip (codes "<stdlib.h>") rest) refl (strip (codes "<stddef.h>") rest) refl h
  where
    at : (p : List ℕ) (w : List ℕ) → IsHeader p → strip p rest ≡ Some w → Some w ≡ Some after → (header : List ℕ) × IsHeader header × (rest ≡ header ++ after)
    at p w i e h = let z : w ≡ after = cc in (p, i, strip-some p rest after (e ∙ ap (λ (t : List ℕ). Some t) z))

    by : (a : Option (List ℕ)) → strip (codes "<stdio.h>") rest ≡ a → (b : Option (List ℕ)) → strip (codes "<stdlib.h>") rest ≡ b → (d : Option (List ℕ)) → strip (codes "<stddef.h>") rest ≡ d → option_or a (option_or b (option_or d (strip (codes "<string.h>") rest))) ≡ Some after → (header : List ℕ) × IsHeader header × (rest ≡ header ++ after)
    by (Some w) e b f d g h = at (codes "<stdio.h>") w (inl refl) e h
    by None e (Some w) f d g h = at (codes "<stdlib.h>") w (inr (inl refl)) f h
    by None e None f (Some w) g h = at (codes "<stddef.h>") w (inr (inr (inl refl))) g h
    by None e None f None g h = at (codes "<string.h>") after (inr (inr (inr refl))) h refl

-- fillers

one-line-append : (xs ys : List ℕ) → is_one_line xs ≡ true → is_one_line ys ≡ true → is_one_line (xs ++ ys) ≡ true
one-line-append [] ys h g = g
one-line-append (x ∷ xs) ys h g =
    let p = and_parts (not (eqb x 10)) (is_one_line xs) h in
    and_from (not (eqb x 10)) (is_one_line (xs ++ ys)) p.0 (one-line-append xs ys p.1 g)

filler-one-line : (t : List ℕ) → IsFiller t → is_one_line t ≡ true
filler-one-line t (inl e) = ap is_one_line e
filler-one-line t (inr (inl e)) = ap is_one_line e
filler-one-line t (inr (inr h)) = h.1

fillers-one-line : (fs : List (List ℕ)) → AreFillers fs → is_one_line (joined fs) ≡ true
fillers-one-line [] h = refl
fillers-one-line (f ∷ fs) h = one-line-append f (joined fs) (filler-one-line f h.0) (fillers-one-line fs h.1)

return-one-line : (r : List ℕ) → (r ≡ []) ⊎ (r ≡ 13 ∷ []) → is_one_line r ≡ true
return-one-line r (inl e) = ap is_one_line e
return-one-line r (inr e) = ap is_one_line e

end-here : (a : List ℕ) → ends_line a ≡ true → line_end_from 0 a ≡ Some a
end-here [] h = refl
end-here (c ∷ a) h = rw h refl

return-here : (a : List ℕ) → ends_line a ≡ true → line_end_from 0 (13 ∷ a) ≡ Some a
return-here a h = rw h refl

blank-here : (c : ℕ) (rest : List ℕ) → (c ≡ 32) ⊎ (c ≡ 9) → line_end_from 0 (c ∷ rest) ≡ line_end_from 0 rest
unfolding filler_length is_blank
blank-here c rest (inl e) = ap (λ c. line_end_from 0 (c ∷ rest)) e
blank-here c rest (inr e) = ap (λ c. line_end_from 0 (c ∷ rest)) e

comment-begins : (t a rest : List ℕ) → IsComment t a → begins_comment (t ++ rest) ≡ true
comment-begins t a rest (inl h) = ap (λ u. begins_comment (u ++ rest)) h.text_is
comment-begins t a rest (inr h) = ap (λ u. begins_comment (u ++ rest)) h.text_is

comment-not-blank : (t a rest : List ℕ) → IsComment t a → begins_with is_blank (t ++ rest) ≡ false
unfolding is_blank
comment-not-blank t a rest (inl h) = ap (λ u. begins_with is_blank (u ++ rest)) h.text_is
comment-not-blank t a rest (inr h) = ap (λ u. begins_with is_blank (u ++ rest)) h.text_is

comment-not-end : (t a rest : List ℕ) → IsComment t a → ends_line (t ++ rest) ≡ false
comment-not-end t a rest (inl h) = ap (λ u. ends_line (u ++ rest)) h.text_is
comment-not-end t a rest (inr h) = ap (λ u. ends_line (u ++ rest)) h.text_is

comment-not-return : (t a rest : List ℕ) → IsComment t a → is_return (t ++ rest) ≡ false
comment-not-return t a rest (inl h) = ap (λ u. is_return (u ++ rest)) h.text_is
comment-not-return t a rest (inr h) = ap (λ u. is_return (u ++ rest)) h.text_is

filler-comment : (rest : List ℕ) (n : ℕ) → begins_with is_blank rest ≡ false → begins_comment rest ≡ true → comment_length rest ≡ Some n → is_one_line (take n rest) ≡ true → filler_length rest ≡ n
unfolding filler_length
filler-comment [] n b g h o = absurd (false≢true g)
filler-comment (c ∷ cs) n b g h o = rw (b, g, h, o) refl

comment-nonempty : (t a : List ℕ) → IsComment t a → length t ≡ 0 → ⊥
comment-nonempty t a (inl h) e = omega (arith, ap length h.text_is)
comment-nonempty t a (inr h) e = omega (arith, ap length h.text_is)

-- behind a comment on one line the line goes on
comment-here : (t a : List ℕ) → IsComment t a → is_one_line t ≡ true → line_end_from 0 (t ++ a) ≡ line_end_from 0 a
comment-here t a h o =
    let n : length t ≡ filler_length (t ++ a) = sym (filler-comment (t ++ a) (length t) (comment-not-blank t a a h) (comment-begins t a a h) (comment-exact t a (t ++ a) h refl) (ap is_one_line (take_at t a (length t) refl) ∙ o)) in
    sym (line_end-fill (t ++ a) (length t) (comment-not-end t a a h) (comment-not-return t a a h) n (comment-nonempty t a h)) ∙ ap (line_end_from 0) (drop_at t a (length t) refl)

-- a line comment with more of its line
longer-comment : (t more a : List ℕ) → IsLineComment t [] → is_one_line more ≡ true → ends_line a ≡ true → IsLineComment (t ++ more) a
longer-comment t more a h o e = record {
  body = h.body ++ more;
  text_is = ap (λ u. u ++ more) h.text_is;
  one_line = one-line-append h.body more h.one_line o;
  to_end = e;
}

pub fillers-here : (fs : List (List ℕ)) (r a : List ℕ) → AreFillers fs → (r ≡ []) ⊎ (r ≡ 13 ∷ []) → ends_line a ≡ true → line_end_from 0 ((joined fs ++ r) ++ a) ≡ Some a
fillers-here [] r a h (inl e) l = ap (λ r. line_end_from 0 (r ++ a)) e ∙ end-here a l
fillers-here [] r a h (inr e) l = ap (λ r. line_end_from 0 (r ++ a)) e ∙ return-here a l
fillers-here (f ∷ fs) r a h e l = by h.0 (fillers-here fs r a h.1 e l)
  where
    rest : List ℕ
    rest = (joined fs ++ r) ++ a

    split : (f ++ joined fs ++ r) ++ a ≡ f ++ ((joined fs ++ r) ++ a)
    split = ap (λ t. t ++ a) (append_assoc f (joined fs) r) ∙ append_assoc f (joined fs ++ r) a

    by : IsFiller f → line_end_from 0 ((joined fs ++ r) ++ a) ≡ Some a → line_end_from 0 ((f ++ joined fs ++ r) ++ a) ≡ Some a
    by (inl e) more = ap (line_end_from 0) (split ∙ ap (λ t. t ++ ((joined fs ++ r) ++ a)) e) ∙ blank-here 32 ((joined fs ++ r) ++ a) (inl refl) ∙ more
    by (inr (inl e)) more = ap (line_end_from 0) (split ∙ ap (λ t. t ++ ((joined fs ++ r) ++ a)) e) ∙ blank-here 9 ((joined fs ++ r) ++ a) (inr refl) ∙ more
    by (inr (inr (inl c, o))) more = ap (line_end_from 0) split ∙ comment-here f ((joined fs ++ r) ++ a) (inl c) o ∙ more
    by (inr (inr (inr c, o))) more =
        let ones : is_one_line (joined fs ++ r) ≡ true = one-line-append (joined fs) r (fillers-one-line fs h.1) (return-one-line r e) in
        ap (λ t. line_end_from 0 (t ++ a)) (append_assoc f (joined fs) r)
        ∙ comment-here (f ++ (joined fs ++ r)) a (inr (longer-comment f (joined fs ++ r) a c ones l)) (one-line-append f (joined fs ++ r) o ones) ∙ end-here a l

-- what stands behind the header leads to the line's end

pub record Ended (rest after : List ℕ) : Type 0 where
  pub fillers : List (List ℕ)
  pub return : List ℕ
  pub rest_is : rest ≡ (joined fillers ++ return) ++ after
  pub fillers_are : AreFillers fillers
  pub return_is : (return ≡ []) ⊎ (return ≡ 13 ∷ [])
  pub line_ends : ends_line after ≡ true

one-line-filler : (rest : List ℕ) (o : Option ℕ) (k : ℕ) → begins_comment rest ≡ true → comment_length rest ≡ o → one_line_length rest o ≡ suc k → IsFiller (take (suc k) rest)
one-line-filler rest None k b e h = absurd (let z : 0 ≡ suc k = h in omega (arith, z))
one-line-filler rest (Some n) k b e h = by (is_one_line (take n rest)) refl h
  where
    at : n ≡ suc k → is_one_line (take n rest) ≡ true → IsFiller (take n rest)
    at z o =
        let f = comment-found rest n b e in
        let t : take n rest ≡ f.text = ap (λ n. take n rest) (sym f.length_is) ∙ take-here f.text f.after rest f.rest_is in
        inr (inr (subst (λ t. IsComment t []) (sym t) (alone f.text f.after f.comment), o))
      where
        alone : (t a : List ℕ) → IsComment t a → IsComment t []
        alone t a (inl h) = inl h
        alone t a (inr h) = inr (record { body = h.body; text_is = h.text_is; one_line = h.one_line; to_end = refl })

    by : (o : Bool) → is_one_line (take n rest) ≡ o → cond o n 0 ≡ suc k → IsFiller (take (suc k) rest)
    by true o h = subst (λ m. IsFiller (take m rest)) h (at h o)
    by false o h = absurd (let z : 0 ≡ suc k = h in omega (arith, z))

blank-is : (c : ℕ) → is_blank c ≡ true → (c ≡ 32) ⊎ (c ≡ 9)
unfolding is_blank
blank-is c h = elim (or_cases (eqb c 32) (eqb c 9) h) [ inl e ↦ inl (eqb-true c 32 e) | inr e ↦ inr (eqb-true c 9 e) ]

blank-filler : (c k : ℕ) (cs : List ℕ) → is_blank c ≡ true → 1 ≡ suc k → IsFiller (take (suc k) (c ∷ cs))
blank-filler c k cs b e =
    subst (λ k. IsFiller (take k (c ∷ cs))) e
    (elim (blank-is c b) [ inl h ↦ inl (ap (λ c. c ∷ []) h) | inr h ↦ inr (inl (ap (λ c. c ∷ []) h)) ])

filler-is : (c : ℕ) (cs : List ℕ) (k : ℕ) → filler_length (c ∷ cs) ≡ suc k → IsFiller (take (suc k) (c ∷ cs))
unfolding filler_length
filler-is c cs k h = by (is_blank c) refl (begins_comment (c ∷ cs)) refl h
  where
    by : (a : Bool) → is_blank c ≡ a → (b : Bool) → begins_comment (c ∷ cs) ≡ b → cond a 1 (cond b (one_line_length (c ∷ cs) (comment_length (c ∷ cs))) 0) ≡ suc k → IsFiller (take (suc k) (c ∷ cs))
    by true e b f h = blank-filler c k cs e h
    by false e true f h = one-line-filler (c ∷ cs) (comment_length (c ∷ cs)) k f refl h
    by false e false f h = absurd (let z : 0 ≡ suc k = h in omega (arith, z))

more-ended : (c : ℕ) (cs after : List ℕ) (k : ℕ) → IsFiller (take (suc k) (c ∷ cs)) → Ended (drop k cs) after → Ended (c ∷ cs) after
more-ended c cs after k f h = record {
  fillers = (c ∷ take k cs) ∷ h.fillers;
  return = h.return;
  rest_is =
      ap (λ (t : List ℕ). c ∷ t) (sym (take-append-drop k cs) ∙ ap (λ t. take k cs ++ t) h.rest_is)
      ∙ sym (ap (λ t. t ++ after) (append_assoc (c ∷ take k cs) (joined h.fillers) h.return) ∙ append_assoc (c ∷ take k cs) (joined h.fillers ++ h.return) after);
  fillers_are = (f, h.fillers_are);
  return_is = h.return_is;
  line_ends = h.line_ends;
}

pub fillers-some : (own : ℕ) (xs after : List ℕ) → line_end_from own xs ≡ Some after → Ended (drop own xs) after
fillers-some zero [] after h = let z : [] ≡ after = cc in record { fillers = []; return = []; rest_is = z; fillers_are = tt; return_is = inl refl; line_ends = ap ends_line (sym z) }
fillers-some (suc own) [] after h = let z : [] ≡ after = cc in record { fillers = []; return = []; rest_is = z; fillers_are = tt; return_is = inl refl; line_ends = ap ends_line (sym z) }
fillers-some (suc own) (c ∷ cs) after h = fillers-some own cs after h
fillers-some zero (c ∷ cs) after h =
    by (λ k. fillers-some k cs after) (ends_line (c ∷ cs)) refl (is_return (c ∷ cs)) refl (filler_length (c ∷ cs)) refl h
  where
    fill : ((k : ℕ) → line_end_from k cs ≡ Some after → Ended (drop k cs) after) → (n : ℕ) → filler_length (c ∷ cs) ≡ n → cond (eqb n 0) None (line_end_from (n - 1) cs) ≡ Some after → Ended (c ∷ cs) after
    fill more zero e h = absurd (let z : None ≡ Some after = h in cc)
    fill more (suc k) e h = more-ended c cs after k (filler-is c cs k e) (more k (ap (λ j. line_end_from j cs) (let z : k ≡ suc k - 1 = omega arith in z) ∙ sym (cond-false (eqb (suc k) 0) None (line_end_from (suc k - 1) cs) (ne_eqb (suc k) 0 (λ z. omega (arith, z)))) ∙ h))

    by : ((k : ℕ) → line_end_from k cs ≡ Some after → Ended (drop k cs) after) → (a : Bool) → ends_line (c ∷ cs) ≡ a → (b : Bool) → is_return (c ∷ cs) ≡ b → (n : ℕ) → filler_length (c ∷ cs) ≡ n → cond a (Some (c ∷ cs)) (cond b (Some cs) (cond (eqb n 0) None (line_end_from (n - 1) cs))) ≡ Some after → Ended (c ∷ cs) after
    by more true e b f n g h = let z : c ∷ cs ≡ after = cc in record { fillers = []; return = []; rest_is = z; fillers_are = tt; return_is = inl refl; line_ends = ap ends_line (sym z) ∙ e }
    by more false e true f n g h =
        let z : cs ≡ after = cc in
        let p = and_parts (eqb c 13) (ends_line cs) f in
        record { fillers = []; return = 13 ∷ []; rest_is = (let y : c ≡ 13 = eqb-true c 13 p.0 in let x : c ∷ cs ≡ 13 ∷ after = cc in x); fillers_are = tt; return_is = inr refl; line_ends = ap ends_line (sym z) ∙ p.1 }
    by more false e false f n g h = fill more n g h

-- the include line as a whole

include-text : (first second header fillers return after : List ℕ) → ((codes "include" ++ (second ++ (header ++ (fillers ++ return)))) ++ after) ≡ codes "include" ++ (second ++ (header ++ ((fillers ++ return) ++ after)))
include-text first second header fillers return after =
    append_assoc (codes "include") (second ++ (header ++ (fillers ++ return))) after
    ∙ ap (λ t. codes "include" ++ t) (append_assoc second (header ++ (fillers ++ return)) after ∙ ap (λ t. second ++ t) (append_assoc header (fillers ++ return) after))

pub include-exact : (before t a rest : List ℕ) → IsInclude before t a → t ++ a ≡ rest → include_end rest ≡ Some a
unfolding include_end
include-exact before t a rest h e =
    let behind : List ℕ = h.second ++ (h.header ++ ((joined h.fillers ++ h.return) ++ a)) in
    let text : drop 1 rest ≡ h.first ++ (codes "include" ++ (h.second ++ (h.header ++ ((joined h.fillers ++ h.return) ++ a)))) =
    ap (drop 1) (sym e ∙ ap (λ t. t ++ a) h.text_is)
    ∙ append_assoc h.first (codes "include" ++ (h.second ++ (h.header ++ (joined h.fillers ++ h.return)))) a
    ∙ ap (λ t. h.first ++ t) (include-text h.first h.second h.header (joined h.fillers) h.return a) in
    let one : strip (codes "include") (skip_blanks (drop 1 rest)) ≡ Some (h.second ++ (h.header ++ ((joined h.fillers ++ h.return) ++ a))) =
    ap (λ t. strip (codes "include") (skip_blanks t)) text
    ∙ ap (strip (codes "include")) (skip-here h.first (codes "include" ++ behind) h.blank_first (word-first behind))
    ∙ strip-here (codes "include") behind in
    let two : strip_header (skip_blanks (h.second ++ (h.header ++ ((joined h.fillers ++ h.return) ++ a)))) ≡ Some ((joined h.fillers ++ h.return) ++ a) =
    ap strip_header (skip-here h.second (h.header ++ ((joined h.fillers ++ h.return) ++ a)) h.blank_second (header-first h.header ((joined h.fillers ++ h.return) ++ a) h.header_is)) ∙ header-here h.header ((joined h.fillers ++ h.return) ++ a) h.header_is in
    ap (option_and_then (λ r. option_and_then (line_end_from 0) (strip_header (skip_blanks r)))) one
    ∙ ap (option_and_then (line_end_from 0)) two
    ∙ fillers-here h.fillers h.return a h.fillers_are h.return_is h.line_ends

pub record Included (before rest after : List ℕ) : Type 0 where
  pub text : List ℕ
  pub rest_is : text ++ after ≡ rest
  pub line : IsInclude before text after

blanks-split : (rest : List ℕ) → rest ≡ take (prefix_len is_blank rest) rest ++ skip_blanks rest
blanks-split rest = sym (take-append-drop (prefix_len is_blank rest) rest)

pub include-found : (before cs after : List ℕ) → list_all is_blank (last_line before) ≡ true → include_end (35 ∷ cs) ≡ Some after → Included before (35 ∷ cs) after
unfolding include_end
include-found before cs after b h = by (strip (codes "include") (skip_blanks cs)) refl h
  where
    whole : (r : List ℕ) → strip (codes "include") (skip_blanks cs) ≡ Some r → (header w : List ℕ) → IsHeader header → skip_blanks r ≡ header ++ w → Ended w after → Included before (35 ∷ cs) after
    whole r e header w i f g =
        let first : List ℕ = take (prefix_len is_blank cs) cs in
        let second : List ℕ = take (prefix_len is_blank r) r in
        let tail : List ℕ = joined g.fillers ++ g.return in
        let rest : cs ≡ first ++ (codes "include" ++ (second ++ (header ++ (tail ++ after)))) =
        blanks-split cs ∙ ap (λ t. first ++ t) (strip-some (codes "include") (skip_blanks cs) r e
        ∙ ap (λ t. codes "include" ++ t) (blanks-split r ∙ ap (λ t. second ++ t) (f ∙ ap (λ t. header ++ t) g.rest_is))) in
        record {
          text = 35 ∷ (first ++ (codes "include" ++ (second ++ (header ++ tail))));
          rest_is = ap (λ (t : List ℕ). 35 ∷ t) (append_assoc first (codes "include" ++ (second ++ (header ++ tail))) after ∙ ap (λ t. first ++ t) (include-text first second header (joined g.fillers) g.return after) ∙ sym rest);
          line = record {
            first = first;
            second = second;
            header = header;
            fillers = g.fillers;
            return = g.return;
            blank_before = b;
            text_is = refl;
            blank_first = list_all-prefix is_blank cs;
            blank_second = list_all-prefix is_blank r;
            header_is = i;
            fillers_are = g.fillers_are;
            return_is = g.return_is;
            line_ends = g.line_ends;
          };
        }

    next : (r : List ℕ) → strip (codes "include") (skip_blanks cs) ≡ Some r → (o : Option (List ℕ)) → strip_header (skip_blanks r) ≡ o → option_and_then (line_end_from 0) o ≡ Some after → Included before (35 ∷ cs) after
    next r e None f h = absurd (let z : None ≡ Some after = h in cc)
    next r e (Some w) f h = let p = header-some (skip_blanks r) w f in whole r e p.0 w p.1 p.2 (fillers-some 0 w after h)

    by : (o : Option (List ℕ)) → strip (codes "include") (skip_blanks cs) ≡ o → option_and_then (λ r. option_and_then (line_end_from 0) (strip_header (skip_blanks r))) o ≡ Some after → Included before (35 ∷ cs) after
    by None e h = absurd (let z : None ≡ Some after = h in cc)
    by (Some r) e h = next r e (strip_header (skip_blanks r)) refl h

include-some : (before t a : List ℕ) → IsInclude before t a → 1 ≤ length t
include-some before t a h = omega (arith, ap length h.text_is)

right-hash : (before cs : List ℕ) (fresh : Bool) → sort_of (35 ∷ cs) ≡ Sort.Include → fresh ≡ list_all is_blank (last_line before) → IsRight before (35 ∷ cs) (scan_include fresh (35 ∷ cs))
right-hash before cs fresh e f = by fresh f (include_end (35 ∷ cs)) refl
  where
    stray : IsStuck before (35 ∷ cs) → IsStuck before (35 ∷ cs) × HasFault (35 ∷ cs) fault.Stray
    stray s = (s, (no-unclosed Sort.Include (35 ∷ cs) e (λ z. z), no-wide Sort.Include (35 ∷ cs) e (λ z. z)))

    all : (u b : List ℕ) (p : Option TokenKind) → u ++ b ≡ 35 ∷ cs → IsPiece before u b p → IsInclude before u b × (p ≡ None)
    all u b p g h = sorted Sort.Include before (35 ∷ cs) u b p e g h

    by : (fresh : Bool) → fresh ≡ list_all is_blank (last_line before) → (o : Option (List ℕ)) → include_end (35 ∷ cs) ≡ o → IsRight before (35 ∷ cs) (cond fresh (include_piece (35 ∷ cs) o) (Err fault.Stray))
    by false f o h = stray (λ t a p g q. false≢true (f ∙ (all t a p g q).0.blank_before))
    by true f None h = stray (λ t a p g q. let z : None ≡ Some a = sym h ∙ include-exact before t a (35 ∷ cs) (all t a p g q).0 g in cc)
    by true f (Some after) h =
        let i = include-found before cs after (sym f) h in
        let n : length i.text ≡ length (35 ∷ cs) - length after = (let l = length-append i.text after in omega (arith, l, ap length i.rest_is)) in
        subst (λ n. Best before (35 ∷ cs) n None) n
        (only before (35 ∷ cs) i.text after None i.rest_is (include-some before i.text after i.line) (inr (inr (inr i.line)))
        (λ u b p g q.
        let w = all u b p g q in
        let z : Some after ≡ Some b = sym h ∙ include-exact before u b (35 ∷ cs) w.0 g in
        let y : after ≡ b = cc in
        ((let l = length-append i.text after in let m = length-append u b in omega (arith, l, m, ap length i.rest_is, ap length g, ap length y)), w.1)))

pub include-right : (before : List ℕ) (c : ℕ) (cs : List ℕ) (fresh : Bool) → sort_of (c ∷ cs) ≡ Sort.Include → fresh ≡ list_all is_blank (last_line before) → IsRight before (c ∷ cs) (scan_include fresh (c ∷ cs))
include-right before c cs fresh e f =
    let z : c ≡ 35 = first-as Sort.Include c cs e in
    let r : 35 ∷ cs ≡ c ∷ cs = ap (λ c. c ∷ cs) (sym z) in
    subst (λ r. IsRight before r (scan_include fresh r)) r (right-hash before cs fresh (ap sort_of r ∙ e) f)
