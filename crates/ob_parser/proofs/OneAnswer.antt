-- A list of tokens has a right answer, and only one.
use Rattle.std.proofs.Common.{◌≡◌, ℕ, zero, suc, ◌+◌, ◌-◌, ◌<◌, ◌≤◌, ◌⊎◌, inl, inr, List, [], ◌∷◌, ◌++◌, length, take, drop, take-append-drop, Some, refl, sym, ◌∙◌, ap, subst, arith}
use Rattle.std.specs.List.{All}
use Rattle.std.specs.Prelude.{map}
use Rattle.std.proofs.lemmas.Bool.{cases_lt}
use Rattle.std.proofs.lemmas.List.{map-append}
use Rattle.ob_tree.specs.declared.tokens.Token.{Token}
use Rattle.ob_tree.specs.Programs.{ProgramTree}
use Rattle.ob_tree.specs.Valid.{IsOfSource}
use Rattle.ob_tree.specs.Places.{here}
use Rattle.ob_tree.specs.ProgramPlaces.{PlacedProgram, place_program}
use Rattle.ob_tree.specs.ProgramPaths.{height_program}
use Rattle.ob_tree.specs.Fronts.{kinds, lines, within, any}
use Rattle.ob_tree.specs.ProgramFronts.{BeginsProgram, IsProgram, FrontProgram, DeepFrontProgram, IsTreeOf}
use Rattle.ob_tree.specs.Verdicts.{Verdict, Whole}
use Rattle.ob_tree.proofs.OneProgram.{one-program}
use Rattle.ob_tree.specs.ProgramStates.{State, Items}
use Rattle.ob_tree.specs.ProgramMachine.{shift, finish}
use Rattle.ob_tree.specs.Readings.{read, verdict}
use Rattle.ob_tree.proofs.RightReadings.{right, all-kinds}
use Rattle.ob_parser.specs.DeepestPaths.{deepest_path}
use Rattle.ob_parser.specs.Answer.{Answer, IsFirst, IsAnswer, IsProgramVerdict}
use Rattle.ob_parser.proofs.Most.{program-most}
use Rattle.ob_parser.proofs.Exact.{machine, exact-program, goes-on, some-tree, finish-whole}

-- the right answer in the parser's terms, by the right verdict on how far programs go on
module _ (ts : List Token) (all : All (λ t. IsOfSource t.kind) ts) where
  -- the machine's verdict is right
  pub first-right : IsProgramVerdict ts (verdict finish (read (λ q k s. shift (here (lines ts) q) k s) deepest_path 0 0 (map (λ t. t.kind) ts) (Items [])))
  first-right =
      right (λ q k s. shift (here (lines ts) q) k s) deepest_path finish BeginsProgram IsProgram (PlacedProgram (lines ts)) 0 0 (machine (lines ts)) (exact-program (lines ts)) ts all ts 0 (Items []) refl (omega arith) (omega arith) refl (omega arith)
      (λ j a b. absurd (omega arith))

  -- where programs begin with all tokens, the machine holds what keeps the limit behind them
  at-end : (n : ℕ) → n ≡ length ts → ((j : ℕ) → 0 ≤ j → j < length ts → FrontProgram ts j) → (s : State) × (machine (lines ts) (kinds ts 0 n) ≡ Some s) × (0 + deepest_path s ≤ 256)
  at-end zero e f = (Items [], refl, omega arith)
  at-end (suc n) e f = go (f n (omega arith) (omega arith))
    where
      go : FrontProgram ts n → (s : State) × (machine (lines ts) (kinds ts 0 (suc n)) ≡ Some s) × (0 + deepest_path s ≤ 256)
      go (inl b) =
          let w : n + 1 ≡ suc n = omega arith in
          subst (λ i. (s : State) × (machine (lines ts) (kinds ts 0 i) ≡ Some s) × (0 + deepest_path s ≤ 256)) w (goes-on (lines ts) (kinds ts 0 (n + 1)) b.1)
      go (inr b) = absurd (omega (arith, b.0, e))

  -- then no program that they are is too deep
  not-deep : ((j : ℕ) → 0 ≤ j → j < length ts → FrontProgram ts j) → ((t : ProgramTree) → IsProgram (within 0) (kinds ts 0 (length ts)) t → ⊥) → (p : ProgramTree)
      → IsProgram any (kinds ts 0 (length ts)) p → ⊥
  not-deep f none p i =
      let ks = kinds ts 0 (length ts) in
      let s = at-end (length ts) refl f in
      let w = finish-whole (lines ts) ks p s.0 i.valid i.spelled s.1 in
      none (place_program (lines ts) 0 p) (some-tree (lines ts) ks s.0 (place_program (lines ts) 0 p) (all-kinds ts 0 (length ts) all) s.1 s.2 w).0

  no-front-at-end : (i : ℕ) → i ≡ length ts → ((t : ProgramTree) → IsProgram (within 0) (kinds ts 0 i) t → ⊥) → FrontProgram ts i → ⊥
  no-front-at-end i e none (inl b) = omega (arith, b.0, e)
  no-front-at-end i e none (inr b) = none b.1.0 b.1.1

  no-deep-at-end : (i : ℕ) → i ≡ length ts → ((t : ProgramTree) → IsProgram (within 0) (kinds ts 0 i) t → ⊥) → ((j : ℕ) → 0 ≤ j → j < length ts → FrontProgram ts j) → DeepFrontProgram ts i → ⊥
  no-deep-at-end i e none f (inl b) = omega (arith, b.0, e)
  no-deep-at-end i e none f (inr b) =
      not-deep f (subst (λ n. (t : ProgramTree) → IsProgram (within 0) (kinds ts 0 n) t → ⊥) e none) b.1.0 (subst (λ n. IsProgram any (kinds ts 0 n) b.1.0) e b.1.1)

  -- the answers that verdicts stand for
  pub parsed : (i : ℕ) (t : ProgramTree) → length ts ≤ i → IsProgramVerdict ts (Whole t i) → IsAnswer ts (Answer.Parsed t)
  parsed i t n (inl l, is, placed) = absurd (omega (arith, n, l.0.below))
  parsed i t n (inr e, is, placed) = (record { valid = is.valid; placed = placed; spelled = is.spelled ∙ ap (kinds ts 0) e.0 }, omega (arith, is.limit))

  pub stopped : (i : ℕ) (t : ProgramTree) → i < length ts → IsProgramVerdict ts (Whole t i) → IsAnswer ts (Answer.NoTree i)
  stopped i t n (inl l, is, placed) = (record { within = omega (arith, l.0.below); before = λ j h. l.0.before j (omega arith) h; without = l.0.without }, l.1)
  stopped i t n (inr e, is, placed) = absurd (omega (arith, n, e.0))

  pub no-tree : (i : ℕ) → IsProgramVerdict ts (Verdict.NoTree i) → IsAnswer ts (Answer.NoTree i)
  no-tree i (inl l, none) = (record { within = omega (arith, l.0.below); before = λ j h. l.0.before j (omega arith) h; without = l.0.without }, l.1)
  no-tree i (inr e, none) = (
    record { within = omega (arith, e.0); before = λ j h. e.1 j (omega arith) (omega (arith, h, e.0)); without = no-front-at-end i e.0 none },
    no-deep-at-end i e.0 none e.1,
  )

  pub too-deep : (i : ℕ) → IsProgramVerdict ts (Verdict.TooDeep i) → IsAnswer ts (Answer.TooDeep i)
  too-deep i h = (record { within = omega (arith, h.0.below); before = λ j g. h.0.before j (omega arith) g; without = h.0.without }, h.1)

  answer-of : (v : Verdict ProgramTree) → IsProgramVerdict ts v → (answer : Answer) × IsAnswer ts answer
  answer-of (Whole t i) v = go (cases_lt i (length ts))
    where
      go : (i < length ts) ⊎ (length ts ≤ i) → (answer : Answer) × IsAnswer ts answer
      go (inl h) = (Answer.NoTree i, stopped i t h v)
      go (inr h) = (Answer.Parsed t, parsed i t h v)
  answer-of (Verdict.NoTree i) v = (Answer.NoTree i, no-tree i v)
  answer-of (Verdict.TooDeep i) v = (Answer.TooDeep i, too-deep i v)

  pub some-answer : (answer : Answer) × IsAnswer ts answer
  some-answer = answer-of (verdict finish (read (λ q k s. shift (here (lines ts) q) k s) deepest_path 0 0 (map (λ t. t.kind) ts) (Items []))) first-right

-- only one answer is right
module _ (ts : List Token) where
  same-first : (i j : ℕ) → IsFirst ts i → IsFirst ts j → i ≡ j
  same-first i j a b = go (cases_lt i j) (cases_lt j i)
    where
      go : (i < j) ⊎ (j ≤ i) → (j < i) ⊎ (i ≤ j) → i ≡ j
      go (inl h) k = absurd (a.without (b.before i h))
      go (inr h) (inl k) = absurd (b.without (a.before j k))
      go (inr h) (inr k) = omega arith

  first-kinds : (n : ℕ) → kinds ts 0 n ≡ map (λ t. t.kind) (take n ts)
  first-kinds n = let e : n - 0 ≡ n = omega arith in ap (λ i. map (λ (t : Token). t.kind) (take i ts)) e

  all-first : kinds ts 0 (length ts) ≡ map (λ t. t.kind) ts
  all-first = first-kinds (length ts) ∙ ap (map (λ (t : Token). t.kind)) (take-all ts)
    where
      take-all : (xs : List Token) → take (length xs) xs ≡ xs
      take-all [] = refl
      take-all (x ∷ xs) = ap (λ ys. x ∷ ys) (take-all xs)

  parted : (n : ℕ) → kinds ts 0 (length ts) ≡ kinds ts 0 n ++ map (λ t. t.kind) (drop n ts)
  parted n =
      all-first
      ∙ ap (map (λ (t : Token). t.kind)) (sym (take-append-drop n ts))
      ∙ map-append (λ (t : Token). t.kind) (take n ts) (drop n ts)
      ∙ ap (λ ks. ks ++ map (λ (t : Token). t.kind) (drop n ts)) (sym (first-kinds n))

  fronts : (p : ProgramTree) → IsTreeOf ts p → height_program p ≤ 256 → (j : ℕ) → j ≤ length ts → FrontProgram ts j
  fronts p t h j l = go (cases_lt j (length ts))
    where
      go : (j < length ts) ⊎ (length ts ≤ j) → FrontProgram ts j
      go (inl b) = inl (
        b,
        record {
          whole = p;
          rest = map (λ t. t.kind) (drop (j + 1) ts);
          valid = t.valid;
          spelled = t.spelled ∙ parted (j + 1);
          limit = omega (arith, h, program-most p (length (kinds ts 0 (j + 1))));
        },
      )
      go (inr b) =
          let e : length ts ≡ j = omega arith in
          inr (sym e, (p, record { valid = t.valid; spelled = t.spelled ∙ ap (kinds ts 0) e; limit = omega (arith, h) }))

  not-first : (p : ProgramTree) (i : ℕ) → IsTreeOf ts p → height_program p ≤ 256 → IsFirst ts i → ⊥
  not-first p i t h f = f.without (fronts p t h i f.within)

  pub one-answer : (a b : Answer) → IsAnswer ts a → IsAnswer ts b → a ≡ b
  one-answer (Answer.Parsed p) (Answer.Parsed q) v w =
      ap Answer.Parsed (one-program (lines ts) p q v.0.valid w.0.valid v.0.placed w.0.placed (v.0.spelled ∙ sym w.0.spelled))
  one-answer (Answer.NoTree i) (Answer.NoTree j) v w = ap Answer.NoTree (same-first i j v.0 w.0)
  one-answer (Answer.TooDeep i) (Answer.TooDeep j) v w = ap Answer.TooDeep (same-first i j v.0 w.0)
  one-answer (Answer.NoTree i) (Answer.TooDeep j) v w = absurd (v.1 (subst (DeepFrontProgram ts) (same-first j i w.0 v.0) w.1))
  one-answer (Answer.TooDeep i) (Answer.NoTree j) v w = absurd (w.1 (subst (DeepFrontProgram ts) (same-first i j v.0 w.0) v.1))
  one-answer (Answer.Parsed p) (Answer.NoTree i) v w = absurd (not-first p i v.0 v.1 w.0)
  one-answer (Answer.Parsed p) (Answer.TooDeep i) v w = absurd (not-first p i v.0 v.1 w.0)
  one-answer (Answer.NoTree i) (Answer.Parsed p) v w = absurd (not-first p i w.0 w.1 v.0)
  one-answer (Answer.TooDeep i) (Answer.Parsed p) v w = absurd (not-first p i w.0 w.1 v.0)
