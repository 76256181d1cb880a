-- Which answer a parser owes that reads as far as it can: a tree with the place behind its tokens, or the place
-- where it stops.
use Rattle.std.specs.Prelude.{◌≡◌, ℕ, ◌≤◌, ◌<◌, ◌⊎◌}

-- i is the least place without a front, from one place on and below the number of tokens
pub record IsLeastWithout (front : ℕ → Type 0) (from end i : ℕ) : Type 0 where
  pub at_least : from ≤ i
  pub below : i < end
  pub before : (j : ℕ) → from ≤ j → j < i → front j
  pub without : front i → ⊥

-- The parser stops at i: it is the least place without a front, and no tree of any depth begins so either; or
-- there is no such place, and i is the number of tokens.
abbrev pub Stops : (front deep : ℕ → Type 0) (from end i : ℕ) → Type 0
Stops front deep from end i =
    (IsLeastWithout front from end i × (deep i → ⊥)) ⊎ ((i ≡ end) × ((j : ℕ) → from ≤ j → j < end → front j))

-- an answer: a tree with the place behind its tokens, the place where no tree ends and none goes on, or the
-- place where only trees that are too deep go on
pub data Verdict (T : Type 0) : Type 0 where
  Whole : (tree : T) → (behind : ℕ) → Verdict T
  NoTree : (at : ℕ) → Verdict T
  TooDeep : (at : ℕ) → Verdict T

-- The answer is right: `is i` says that the tokens up to i are those of a tree that keeps the limit, and
-- `placed` that it stands where they stand.
abbrev pub IsVerdict : {T : Type 0} (front deep : ℕ → Type 0) (from end : ℕ) (is : ℕ → T → Type 0) (placed : T → Type 0) → Verdict T → Type 0
IsVerdict front deep from end is placed (Whole t i) = Stops front deep from end i × is i t × placed t
IsVerdict {T} front deep from end is placed (NoTree i) = Stops front deep from end i × ((t : T) → is i t → ⊥)
IsVerdict front deep from end is placed (TooDeep i) = IsLeastWithout front from end i × deep i
