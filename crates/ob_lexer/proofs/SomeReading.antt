-- Each text has a reading: tokens spell it, or it has a fault.
use Rattle.std.proofs.Common.{◌≡◌, ℕ, zero, suc, ◌+◌, ◌<◌, ◌≤◌, ◌⊎◌, inl, inr, List, [], ◌++◌, length, take, drop, Result, Ok, Err, refl, arith}
use Rattle.std.proofs.lemmas.Bool.{cases_lt}
use Rattle.ob_tree.specs.declared.tokens.Token.{Token}
use Rattle.ob_tree.specs.declared.faults.LexKind.{LexKind}
use Rattle.ob_lexer.specs.declared.taken.Taken.{Taken}
use Rattle.ob_lexer.specs.Scan.{scan}
use Rattle.ob_lexer.specs.Texts.{token_of, Spells, StopsAt}
use Rattle.ob_lexer.proofs.Scanning.{is_fresh, Run, run-start, run-end, run-fault, run-more}

abbrev HasReading : List ℕ → Type 0
HasReading text = ((ts : List Token) × Spells ts text) ⊎ ((kind : LexKind) × (at : ℕ) × StopsAt text kind at)

-- at most n bytes are left behind those that were read
reads-on : (text : List ℕ) (n : ℕ) (ts : List Token) (at : ℕ) → length text ≤ at + n → Run text ts at → HasReading text
reads-on text zero ts at h r = inl (ts, run-end text ts at (omega (arith, h)) r)
reads-on text (suc n) ts at h r = by (λ us i g m. reads-on text n us i g m) (cases_lt at (length text))
  where
    Again : Type 0
    Again = (us : List Token) (i : ℕ) → length text ≤ i + n → Run text us i → HasReading text

    more : Again → at < length text → (s : Result Taken LexKind) → scan (is_fresh (take at text)) (drop at text) ≡ s → HasReading text
    more again l (Err k) e = inr (k, at, run-fault text ts at (is_fresh (take at text)) k l refl e r)
    more again l (Ok w) e =
        let m = run-more text ts at (is_fresh (take at text)) w l refl e r in
        let s = m.some in
        again (ts ++ token_of (take at text) (take w.length (drop at text)) w.kind) (at + w.length) (omega (arith, h, s)) m.run

    by : Again → (at < length text) ⊎ (length text ≤ at) → HasReading text
    by again (inl l) = more again l (scan (is_fresh (take at text)) (drop at text)) refl
    by again (inr l) = inl (ts, run-end text ts at l r)

pub some-reading : (text : List ℕ) → HasReading text
some-reading text = reads-on text (length text) [] 0 (omega arith) (run-start text)
