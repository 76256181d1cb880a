-- Reading tokens as far as a machine goes, and what makes its answer right: it stops at the first token with which no tree
-- begins. Parsers with this correct-prefix property report the first place of a syntax error (Aho, Sethi and Ullman,
-- Compilers, 4.1).
use Rattle.std.specs.Prelude.{◌≡◌, ℕ, ◌+◌, ◌≤◌, List, [], ◌∷◌, ◌++◌, length, Option, Some, None, cond, nat_le}
use Rattle.std.specs.List.{All}
use Rattle.ob_tree.specs.declared.tokens.TokenKind.{TokenKind}
use Rattle.ob_tree.specs.Valid.{IsOfSource}
use Rattle.ob_tree.specs.Fronts.{greatest_path, within, any}
use Rattle.ob_tree.specs.Verdicts.{Verdict, Whole, NoTree, TooDeep}

-- what reading as far as possible leaves: what is held at the place where it stops, or the place where it gets
-- too deep
pub data Reading (S : Type 0) : Type 0 where
  Reached : (at : ℕ) → (state : S) → Reading S
  Deep : (at : ℕ) → Reading S

-- what one more token leads to
abbrev pub turn : {S : Type 0} → (deepest_path : S → ℕ) (depth p : ℕ) → S → (S → Reading S) → Option S → Reading S
turn deepest_path depth p s go None = Reached p s
turn deepest_path depth p s go (Some t) = cond (nat_le (depth + deepest_path t) greatest_path) (go t) (Deep p)

-- reading tokens of these kinds as far as possible, the first at place p, where `depth` nodes stand above them
abbrev pub read : {S : Type 0} → (shift : ℕ → TokenKind → S → Option S) (deepest_path : S → ℕ) (depth p : ℕ) → List TokenKind → S → Reading S
read shift deepest_path depth p [] s = Reached p s
read shift deepest_path depth p (k ∷ ks) s = turn deepest_path depth p s (λ t. read shift deepest_path depth (p + 1) ks t) (shift p k s)

-- the verdict after that
abbrev pub found : {T : Type 0} → ℕ → Option T → Verdict T
found i None = NoTree i
found i (Some t) = Whole t i

abbrev pub verdict : {S T : Type 0} → (finish : S → Option T) → Reading S → Verdict T
verdict finish (Reached i s) = found i (finish s)
verdict finish (Deep i) = TooDeep i

-- The machine goes on exactly as long as some tree begins so, and finishes with the tree of what it has read. Here
-- `deepest_path` counts the nodes on the paths that have begun.
pub record CorrectPrefix {S T : Type 0} (shift : ℕ → TokenKind → S → Option S) (deepest_path : S → ℕ) (finish : S → Option T)
    (begin : (ℕ → Type 0) → List TokenKind → Type 0) (is : (ℕ → Type 0) → List TokenKind → T → Type 0) (placed : T → Type 0)
    (from depth : ℕ) (machine : List TokenKind → Option S) : Type 0 where
  pub more : (ks : List TokenKind) (k : TokenKind) (s : S) → machine ks ≡ Some s → machine (ks ++ k ∷ []) ≡ shift (from + length ks) k s
  pub goes_on : (ks : List TokenKind) → begin (within depth) ks → (s : S) × (machine ks ≡ Some s) × (depth + deepest_path s ≤ greatest_path)
  pub goes_on_deep : (ks : List TokenKind) → begin any ks → (s : S) × (machine ks ≡ Some s)
  pub begins : (ks : List TokenKind) (s : S) → All IsOfSource ks → machine ks ≡ Some s → depth + deepest_path s ≤ greatest_path → begin (within depth) ks
  pub begins_deep : (ks : List TokenKind) (s : S) → All IsOfSource ks → machine ks ≡ Some s → begin any ks
  pub some_tree : (ks : List TokenKind) (s : S) (t : T) → All IsOfSource ks → machine ks ≡ Some s → depth + deepest_path s ≤ greatest_path → finish s ≡ Some t → is (within depth) ks t × placed t
  pub no_tree : (ks : List TokenKind) (s : S) → machine ks ≡ Some s → finish s ≡ None → (t : T) → is (within depth) ks t → ⊥
