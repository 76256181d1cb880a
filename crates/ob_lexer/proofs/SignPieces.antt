-- Punctuators.
use Rattle.std.proofs.Common.{◌≡◌, ℕ, ◌≤◌, inl, inr, List, [], ◌∷◌, ◌++◌, length, take, drop, Bool, true, false, not, cond, eqb, leb, ◌&&◌, ◌||◌, Option, None, Some, Err, refl, arith, ◌∙◌, ap, sym}
use Rattle.std.proofs.lemmas.Bool.{and_parts, leb-true, false≢true}
use Rattle.std.proofs.lemmas.List.{take-append-drop}
use Rattle.std.specs.List.{list_all}
use Rattle.std.specs.Str.{bytes_eq}
use Rattle.ob_tree.specs.Bytes.{begins_with, is_digit}
use Rattle.ob_tree.specs.Signs.{sign_text, begins_comment, IsSign}
use Rattle.ob_tree.specs.Pieces.{IsPiece, IsStuck, HasFault}
use Rattle.ob_tree.specs.declared.tokens.TokenKind.{TokenKind}
use Rattle.ob_tree.specs.declared.tokens.TokenKind.TheVariants as kind
use Rattle.ob_tree.specs.declared.tokens.Sign.{Sign}
use Rattle.ob_tree.specs.declared.tokens.Sign.TheVariants as sign
use Rattle.ob_tree.specs.declared.faults.LexKind.TheVariants as fault
use Rattle.ob_lexer.specs.declared.scanner.Sort.{Sort}
use Rattle.ob_lexer.specs.Scan.{sort_of, signs, begins_sign, sign_at, is_fraction, sign_piece, scan_sign}
use Rattle.ob_lexer.proofs.Prefixes.{take-here, same-here, length-here, bytes_eq-same, bytes_eq-refl, find-true}
use Rattle.ob_lexer.proofs.Tables.{Among, falls, list_all-among, find-among, find-greatest}
use Rattle.ob_lexer.proofs.Taking.{Best, IsRight, sorted, first-as, no-unclosed, no-wide}

signs-fall : falls (λ s. length (sign_text s)) signs ≡ true
signs-fall = refl

all-signs : (s : Sign) → Among s signs
all-signs sign.OpenBracket = inr (inr (inr (inr (inr (inr (inr (inr (inr (inr (inr (inr (inr (inr (inr (inr (inr (inr (inr (inr (inr (inl refl)))))))))))))))))))))
all-signs sign.CloseBracket = inr (inr (inr (inr (inr (inr (inr (inr (inr (inr (inr (inr (inr (inr (inr (inr (inr (inr (inr (inr (inr (inr (inl refl))))))))))))))))))))))
all-signs sign.OpenParen = inr (inr (inr (inr (inr (inr (inr (inr (inr (inr (inr (inr (inr (inr (inr (inr (inr (inr (inr (inr (inr (inr (inr (inl refl)))))))))))))))))))))))
all-signs sign.CloseParen = inr (inr (inr (inr (inr (inr (inr (inr (inr (inr (inr (inr (inr (inr (inr (inr (inr (inr (inr (inr (inr (inr (inr (inr (inl refl))))))))))))))))))))))))
all-signs sign.OpenBrace = inr (inr (inr (inr (inr (inr (inr (inr (inr (inr (inr (inr (inr (inr (inr (inr (inr (inr (inr (inr (inr (inr (inr (inr (inr (inl refl)))))))))))))))))))))))))
all-signs sign.CloseBrace = inr (inr (inr (inr (inr (inr (inr (inr (inr (inr (inr (inr (inr (inr (inr (inr (inr (inr (inr (inr (inr (inr (inr (inr (inr (inr (inl refl))))))))))))))))))))))))))
all-signs sign.Dot = inr (inr (inr (inr (inr (inr (inr (inr (inr (inr (inr (inr (inr (inr (inr (inr (inr (inr (inr (inr (inr (inr (inr (inr (inr (inr (inr (inl refl)))))))))))))))))))))))))))
all-signs sign.Arrow = inr (inr (inl refl))
all-signs sign.PlusPlus = inr (inr (inr (inl refl)))
all-signs sign.MinusMinus = inr (inr (inr (inr (inl refl))))
all-signs sign.Amp = inr (inr (inr (inr (inr (inr (inr (inr (inr (inr (inr (inr (inr (inr (inr (inr (inr (inr (inr (inr (inr (inr (inr (inr (inr (inr (inr (inr (inl refl))))))))))))))))))))))))))))
all-signs sign.Star = inr (inr (inr (inr (inr (inr (inr (inr (inr (inr (inr (inr (inr (inr (inr (inr (inr (inr (inr (inr (inr (inr (inr (inr (inr (inr (inr (inr (inr (inl refl)))))))))))))))))))))))))))))
all-signs sign.Plus = inr (inr (inr (inr (inr (inr (inr (inr (inr (inr (inr (inr (inr (inr (inr (inr (inr (inr (inr (inr (inr (inr (inr (inr (inr (inr (inr (inr (inr (inr (inl refl))))))))))))))))))))))))))))))
all-signs sign.Minus = inr (inr (inr (inr (inr (inr (inr (inr (inr (inr (inr (inr (inr (inr (inr (inr (inr (inr (inr (inr (inr (inr (inr (inr (inr (inr (inr (inr (inr (inr (inr (inl refl)))))))))))))))))))))))))))))))
all-signs sign.Tilde = inr (inr (inr (inr (inr (inr (inr (inr (inr (inr (inr (inr (inr (inr (inr (inr (inr (inr (inr (inr (inr (inr (inr (inr (inr (inr (inr (inr (inr (inr (inr (inr (inl refl))))))))))))))))))))))))))))))))
all-signs sign.Not = inr (inr (inr (inr (inr (inr (inr (inr (inr (inr (inr (inr (inr (inr (inr (inr (inr (inr (inr (inr (inr (inr (inr (inr (inr (inr (inr (inr (inr (inr (inr (inr (inr (inl refl)))))))))))))))))))))))))))))))))
all-signs sign.Slash = inr (inr (inr (inr (inr (inr (inr (inr (inr (inr (inr (inr (inr (inr (inr (inr (inr (inr (inr (inr (inr (inr (inr (inr (inr (inr (inr (inr (inr (inr (inr (inr (inr (inr (inl refl))))))))))))))))))))))))))))))))))
all-signs sign.Percent = inr (inr (inr (inr (inr (inr (inr (inr (inr (inr (inr (inr (inr (inr (inr (inr (inr (inr (inr (inr (inr (inr (inr (inr (inr (inr (inr (inr (inr (inr (inr (inr (inr (inr (inr (inl refl)))))))))))))))))))))))))))))))))))
all-signs sign.Shl = inr (inr (inr (inr (inr (inl refl)))))
all-signs sign.Shr = inr (inr (inr (inr (inr (inr (inl refl))))))
all-signs sign.Lt = inr (inr (inr (inr (inr (inr (inr (inr (inr (inr (inr (inr (inr (inr (inr (inr (inr (inr (inr (inr (inr (inr (inr (inr (inr (inr (inr (inr (inr (inr (inr (inr (inr (inr (inr (inr (inl refl))))))))))))))))))))))))))))))))))))
all-signs sign.Gt = inr (inr (inr (inr (inr (inr (inr (inr (inr (inr (inr (inr (inr (inr (inr (inr (inr (inr (inr (inr (inr (inr (inr (inr (inr (inr (inr (inr (inr (inr (inr (inr (inr (inr (inr (inr (inr (inl refl)))))))))))))))))))))))))))))))))))))
all-signs sign.Le = inr (inr (inr (inr (inr (inr (inr (inl refl)))))))
all-signs sign.Ge = inr (inr (inr (inr (inr (inr (inr (inr (inl refl))))))))
all-signs sign.EqEq = inr (inr (inr (inr (inr (inr (inr (inr (inr (inl refl)))))))))
all-signs sign.NotEq = inr (inr (inr (inr (inr (inr (inr (inr (inr (inr (inl refl))))))))))
all-signs sign.Caret = inr (inr (inr (inr (inr (inr (inr (inr (inr (inr (inr (inr (inr (inr (inr (inr (inr (inr (inr (inr (inr (inr (inr (inr (inr (inr (inr (inr (inr (inr (inr (inr (inr (inr (inr (inr (inr (inr (inl refl))))))))))))))))))))))))))))))))))))))
all-signs sign.Bar = inr (inr (inr (inr (inr (inr (inr (inr (inr (inr (inr (inr (inr (inr (inr (inr (inr (inr (inr (inr (inr (inr (inr (inr (inr (inr (inr (inr (inr (inr (inr (inr (inr (inr (inr (inr (inr (inr (inr (inl refl)))))))))))))))))))))))))))))))))))))))
all-signs sign.AndAnd = inr (inr (inr (inr (inr (inr (inr (inr (inr (inr (inr (inl refl)))))))))))
all-signs sign.OrOr = inr (inr (inr (inr (inr (inr (inr (inr (inr (inr (inr (inr (inl refl))))))))))))
all-signs sign.Question = inr (inr (inr (inr (inr (inr (inr (inr (inr (inr (inr (inr (inr (inr (inr (inr (inr (inr (inr (inr (inr (inr (inr (inr (inr (inr (inr (inr (inr (inr (inr (inr (inr (inr (inr (inr (inr (inr (inr (inr (inl refl))))))))))))))))))))))))))))))))))))))))
all-signs sign.Colon = inr (inr (inr (inr (inr (inr (inr (inr (inr (inr (inr (inr (inr (inr (inr (inr (inr (inr (inr (inr (inr (inr (inr (inr (inr (inr (inr (inr (inr (inr (inr (inr (inr (inr (inr (inr (inr (inr (inr (inr (inr (inl refl)))))))))))))))))))))))))))))))))))))))))
all-signs sign.Semi = inr (inr (inr (inr (inr (inr (inr (inr (inr (inr (inr (inr (inr (inr (inr (inr (inr (inr (inr (inr (inr (inr (inr (inr (inr (inr (inr (inr (inr (inr (inr (inr (inr (inr (inr (inr (inr (inr (inr (inr (inr (inr (inl refl))))))))))))))))))))))))))))))))))))))))))
all-signs sign.Assign = inr (inr (inr (inr (inr (inr (inr (inr (inr (inr (inr (inr (inr (inr (inr (inr (inr (inr (inr (inr (inr (inr (inr (inr (inr (inr (inr (inr (inr (inr (inr (inr (inr (inr (inr (inr (inr (inr (inr (inr (inr (inr (inr (inl refl)))))))))))))))))))))))))))))))))))))))))))
all-signs sign.StarAssign = inr (inr (inr (inr (inr (inr (inr (inr (inr (inr (inr (inr (inr (inl refl)))))))))))))
all-signs sign.SlashAssign = inr (inr (inr (inr (inr (inr (inr (inr (inr (inr (inr (inr (inr (inr (inl refl))))))))))))))
all-signs sign.PercentAssign = inr (inr (inr (inr (inr (inr (inr (inr (inr (inr (inr (inr (inr (inr (inr (inl refl)))))))))))))))
all-signs sign.PlusAssign = inr (inr (inr (inr (inr (inr (inr (inr (inr (inr (inr (inr (inr (inr (inr (inr (inl refl))))))))))))))))
all-signs sign.MinusAssign = inr (inr (inr (inr (inr (inr (inr (inr (inr (inr (inr (inr (inr (inr (inr (inr (inr (inl refl)))))))))))))))))
all-signs sign.ShlAssign = inl refl
all-signs sign.ShrAssign = inr (inl refl)
all-signs sign.AmpAssign = inr (inr (inr (inr (inr (inr (inr (inr (inr (inr (inr (inr (inr (inr (inr (inr (inr (inr (inl refl))))))))))))))))))
all-signs sign.CaretAssign = inr (inr (inr (inr (inr (inr (inr (inr (inr (inr (inr (inr (inr (inr (inr (inr (inr (inr (inr (inl refl)))))))))))))))))))
all-signs sign.BarAssign = inr (inr (inr (inr (inr (inr (inr (inr (inr (inr (inr (inr (inr (inr (inr (inr (inr (inr (inr (inr (inl refl))))))))))))))))))))
all-signs sign.Comma = inr (inr (inr (inr (inr (inr (inr (inr (inr (inr (inr (inr (inr (inr (inr (inr (inr (inr (inr (inr (inr (inr (inr (inr (inr (inr (inr (inr (inr (inr (inr (inr (inr (inr (inr (inr (inr (inr (inr (inr (inr (inr (inr (inr (inl refl))))))))))))))))))))))))))))))))))))))))))))

-- what the table of all punctuators shows of each by computation
each : (p : Sign → Bool) → list_all p signs ≡ true → (s : Sign) → p s ≡ true
each p h s = list_all-among p s signs h (all-signs s)

-- no two of these texts are the same
abbrev distinct : List Sign → Bool
distinct [] = true
distinct (s ∷ ss) = list_all (λ r. not (bytes_eq (sign_text s) (sign_text r))) ss && distinct ss

signs-distinct : distinct signs ≡ true
signs-distinct = refl

apart : (s r : Sign) (ss : List Sign) → list_all (λ r. not (bytes_eq (sign_text s) (sign_text r))) ss ≡ true → Among r ss → sign_text s ≡ sign_text r → ⊥
apart s r ss h m e =
    let n : not (bytes_eq (sign_text s) (sign_text r)) ≡ true = list_all-among (λ r. not (bytes_eq (sign_text s) (sign_text r))) r ss h m in
    let z : not true ≡ true = ap not (sym (bytes_eq-refl (sign_text s) (sign_text r) e)) ∙ n in cc

same-among : (s r : Sign) (ss : List Sign) → distinct ss ≡ true → Among s ss → Among r ss → sign_text s ≡ sign_text r → s ≡ r
same-among s r [] d m n e = absurd m
same-among s r (x ∷ ss) d (inl i) (inl j) e = i ∙ sym j
same-among s r (x ∷ ss) d (inl i) (inr n) e =
    absurd (apart x r ss (and_parts (list_all (λ r. not (bytes_eq (sign_text x) (sign_text r))) ss) (distinct ss) d).0 n (ap sign_text (sym i) ∙ e))
same-among s r (x ∷ ss) d (inr m) (inl j) e =
    absurd (apart x s ss (and_parts (list_all (λ r. not (bytes_eq (sign_text x) (sign_text r))) ss) (distinct ss) d).0 m (ap sign_text (sym j) ∙ sym e))
same-among s r (x ∷ ss) d (inr m) (inr n) e =
    same-among s r ss (and_parts (list_all (λ r. not (bytes_eq (sign_text x) (sign_text r))) ss) (distinct ss) d).1 m n e

-- two punctuators of one text are the same
same-sign : (s r : Sign) → sign_text s ≡ sign_text r → s ≡ r
same-sign s r e = same-among s r signs signs-distinct (all-signs s) (all-signs r) e

pub sign-some : (s : Sign) → 1 ≤ length (sign_text s)
sign-some s = leb-true 1 (length (sign_text s)) (each (λ s. leb 1 (length (sign_text s))) refl s)

-- only `.` begins with `.`
dot-alone : (s : Sign) → (not (begins_with (λ c. eqb c 46) (sign_text s)) || bytes_eq (sign_text s) (sign_text sign.Dot)) ≡ true
dot-alone s = each (λ s. not (begins_with (λ c. eqb c 46) (sign_text s)) || bytes_eq (sign_text s) (sign_text sign.Dot)) refl s

begins-front : (t a : List ℕ) → 1 ≤ length t → begins_with (λ c. eqb c 46) (t ++ a) ≡ true → begins_with (λ c. eqb c 46) t ≡ true
begins-front [] a l h = absurd (omega arith)
begins-front (c ∷ t) a l h = h

dot-first : (s : Sign) (a : List ℕ) → begins_with (λ c. eqb c 46) (sign_text s ++ a) ≡ true → s ≡ sign.Dot
dot-first s a h =
    let b : begins_with (λ c. eqb c 46) (sign_text s) ≡ true = begins-front (sign_text s) a (sign-some s) h in
    let d : (not true || bytes_eq (sign_text s) (sign_text sign.Dot)) ≡ true =
    ap (λ x. not x || bytes_eq (sign_text s) (sign_text sign.Dot)) (sym b) ∙ dot-alone s in
    same-sign s sign.Dot (bytes_eq-same (sign_text s) (sign_text sign.Dot) d)

begins-here : (s : Sign) (a rest : List ℕ) → sign_text s ++ a ≡ rest → begins_sign rest s ≡ true
begins-here s a rest e = bytes_eq-refl (sign_text s) (take (length (sign_text s)) rest) (sym (take-here (sign_text s) a rest e))

-- the bytes begin with a punctuator that is found
here-found : (s : Sign) (rest : List ℕ) → begins_sign rest s ≡ true → sign_text s ++ drop (length (sign_text s)) rest ≡ rest
here-found s rest h =
    ap (λ t. t ++ drop (length (sign_text s)) rest) (bytes_eq-same (sign_text s) (take (length (sign_text s)) rest) h) ∙ take-append-drop (length (sign_text s)) rest

fraction-dot : (rest : List ℕ) → is_fraction rest ≡ true → begins_with (λ c. eqb c 46) rest ≡ true
fraction-dot [] h = h
fraction-dot (c ∷ cs) h = (and_parts (eqb c 46) (begins_with is_digit cs) h).0

fraction-digit : (a : List ℕ) → is_fraction (46 ∷ a) ≡ true → begins_with is_digit a ≡ true
fraction-digit a h = h

digit-fraction : (a : List ℕ) → begins_with is_digit a ≡ true → is_fraction (46 ∷ a) ≡ true
digit-fraction a h = h

-- no punctuator is taken where `.` and a digit stand
fraction-stuck : (t a : List ℕ) (s : Sign) → IsSign t a s → is_fraction (t ++ a) ≡ true → ⊥
fraction-stuck t a s h f =
    let e : t ++ a ≡ sign_text s ++ a = ap (λ u. u ++ a) h.text_is in
    let dot : s ≡ sign.Dot = dot-first s a (fraction-dot (sign_text s ++ a) (sym (ap is_fraction e) ∙ f)) in
    h.no_fraction dot (fraction-digit a (sym (ap is_fraction (e ∙ ap (λ s. sign_text s ++ a) dot)) ∙ f))

found-right : (before : List ℕ) (c : ℕ) (cs : List ℕ) (s : Sign) → sort_of (c ∷ cs) ≡ Sort.Sign → is_fraction (c ∷ cs) ≡ false → sign_at (c ∷ cs) ≡ Some s → Best before (c ∷ cs) (length (sign_text s)) (Some (kind.Sign s))
unfolding sign_at
found-right before c cs s e n f =
    let rest : List ℕ = c ∷ cs in
    let here : sign_text s ++ drop (length (sign_text s)) rest ≡ rest = here-found s rest (find-true (begins_sign rest) signs s f) in
    record {
      some = sign-some s;
      within = length-here (sign_text s) _ rest here;
      possible = record {
        text_is = take-here (sign_text s) _ rest here;
        no_comment = λ h. false≢true (sym (first-as Sort.Sign c cs e) ∙ sym (ap begins_comment (take-append-drop (length (sign_text s)) rest)) ∙ h);
        no_fraction = λ dot h. false≢true (sym n ∙ sym (ap is_fraction here) ∙ ap (λ r. is_fraction (sign_text r ++ drop (length (sign_text s)) rest)) dot ∙ digit-fraction (drop (length (sign_text s)) rest) h);
      };
      most = λ t a p g h. let w = sorted Sort.Sign before rest t a p e g h in
          let g' : sign_text w.0 ++ a ≡ rest = ap (λ u. u ++ a) (sym w.1.text_is) ∙ g in
          omega (arith, ap length w.1.text_is, find-greatest (λ s. length (sign_text s)) (begins_sign rest) w.0 s signs signs-fall (all-signs w.0) (begins-here w.0 a rest g') f);
      same = λ t a p g h l. let w = sorted Sort.Sign before rest t a p e g h in
          let g' : sign_text w.0 ++ a ≡ rest = ap (λ u. u ++ a) (sym w.1.text_is) ∙ g in
          w.2 ∙ ap (λ r. Some (kind.Sign r)) (same-sign w.0 s (same-here (sign_text w.0) a (sign_text s) _ rest g' here (sym (ap length w.1.text_is) ∙ l)));
    }

none-stuck : (before : List ℕ) (c : ℕ) (cs : List ℕ) → sort_of (c ∷ cs) ≡ Sort.Sign → sign_at (c ∷ cs) ≡ None → (t a : List ℕ) (p : Option TokenKind) → t ++ a ≡ c ∷ cs → IsPiece before t a p → ⊥
unfolding sign_at
none-stuck before c cs e f t a p g h =
    let w = sorted Sort.Sign before (c ∷ cs) t a p e g h in
    let g' : sign_text w.0 ++ a ≡ c ∷ cs = ap (λ u. u ++ a) (sym w.1.text_is) ∙ g in
    find-among (begins_sign (c ∷ cs)) w.0 signs (all-signs w.0) (begins-here w.0 a (c ∷ cs) g') f

pub sign-right : (before : List ℕ) (c : ℕ) (cs : List ℕ) → sort_of (c ∷ cs) ≡ Sort.Sign → IsRight before (c ∷ cs) (scan_sign (c ∷ cs))
unfolding scan_sign
sign-right before c cs e = by (is_fraction (c ∷ cs)) refl (sign_at (c ∷ cs)) refl
  where
    stray : (IsStuck before (c ∷ cs)) → IsStuck before (c ∷ cs) × HasFault (c ∷ cs) fault.Stray
    stray s = (s, (no-unclosed Sort.Sign (c ∷ cs) e (λ z. z), no-wide Sort.Sign (c ∷ cs) e (λ z. z)))

    by : (b : Bool) → is_fraction (c ∷ cs) ≡ b → (o : Option Sign) → sign_at (c ∷ cs) ≡ o → IsRight before (c ∷ cs) (cond b (Err fault.Stray) (sign_piece o))
    by true h o f = stray (λ t a p g q. let w = sorted Sort.Sign before (c ∷ cs) t a p e g q in fraction-stuck t a w.0 w.1 (ap is_fraction g ∙ h))
    by false h None f = stray (none-stuck before c cs e f)
    by false h (Some s) f = found-right before c cs s e h f
