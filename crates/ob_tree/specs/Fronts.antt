-- What it means that tokens begin a tree, and that they are the whole of one. For the parser's faults: the first
-- place where they begin none, or none whose paths keep the limit.
use Rattle.std.specs.Prelude.{◌≡◌, ℕ, zero, suc, ◌+◌, ◌<◌, ◌≤◌, ◌⊎◌, List, [], ◌∷◌, ◌++◌, length, map, slice_range}
use Rattle.ob_tree.specs.declared.tokens.Token.{Token}
use Rattle.ob_tree.specs.declared.tokens.TokenKind.{TokenKind}
use Rattle.ob_tree.specs.Trees.{ExprTree, SpecTree}
use Rattle.ob_tree.specs.Spelling.{spell, spell_spec}
use Rattle.ob_tree.specs.Valid.{ValidSpec, IsOf}
use Rattle.ob_tree.specs.Paths.{begun, height, begun_spec, height_spec}

-- the kinds of the tokens from one place up to another
abbrev pub kinds : List Token → (from to : ℕ) → List TokenKind
kinds ts from to = map (λ t. t.kind) (slice_range ts from to)

-- the line of the token at each place
abbrev pub lines : List Token → ℕ → ℕ
lines [] i = 0
lines (t ∷ ts) zero = t.span.line
lines (t ∷ ts) (suc i) = lines ts i

-- the most nodes that a path may have
abbrev pub greatest_path : ℕ
greatest_path = 256

-- so many nodes keep the limit where `depth` nodes stand above them
abbrev pub within : (depth : ℕ) → ℕ → Type 0
within depth nodes = depth + nodes ≤ greatest_path

-- no limit
abbrev pub any : ℕ → Type 0
any nodes = Unit {0}

-- Some tree of this sort has a spelling that begins with what was read, and the nodes on its paths that have
-- begun then are so many as fit. A sort of trees has its validity, its spelling and its nodes that have begun.
pub record Begins {T : Type 0} (is_valid : T → Type 0) (spelling : T → List TokenKind) (nodes : T → ℕ → ℕ) (fits : ℕ → Type 0) (read : List TokenKind) : Type 0 where
  pub whole : T
  pub rest : List TokenKind
  pub valid : is_valid whole
  pub spelled : spelling whole ≡ read ++ rest
  pub limit : fits (nodes whole (length read))

-- The tree is of this sort, what was read is its spelling, and the nodes on its paths are so many as fit.
pub record IsWhole {T : Type 0} (is_valid : T → Type 0) (spelling : T → List TokenKind) (nodes : T → ℕ) (fits : ℕ → Type 0) (read : List TokenKind) (whole : T) : Type 0 where
  pub valid : is_valid whole
  pub spelled : spelling whole ≡ read
  pub limit : fits (nodes whole)

-- an expression of the level begins so, and is so
abbrev pub BeginsExpr : (level : ℕ) (fits : ℕ → Type 0) (read : List TokenKind) → Type 0
BeginsExpr level fits read = Begins (IsOf level) spell begun fits read

abbrev pub IsExpr : (level : ℕ) (fits : ℕ → Type 0) (read : List TokenKind) → ExprTree → Type 0
IsExpr level fits read e = IsWhole (IsOf level) spell height fits read e

-- a specifier begins so, and is so
abbrev pub BeginsSpec : (fits : ℕ → Type 0) (read : List TokenKind) → Type 0
BeginsSpec fits read = Begins ValidSpec spell_spec begun_spec fits read

abbrev pub IsSpec : (fits : ℕ → Type 0) (read : List TokenKind) → SpecTree → Type 0
IsSpec fits read s = IsWhole ValidSpec spell_spec height_spec fits read s

-- For i below the length, the tokens from `from` up to and including i begin a tree; for i the length, all
-- tokens from `from` on are one.
abbrev pub FrontOf : (begin : List TokenKind → Type 0) (is : List TokenKind → Type 0) → List Token → (from i : ℕ) → Type 0
FrontOf begin is ts from i =
    ((i < length ts) × begin (kinds ts from (i + 1))) ⊎ ((i ≡ length ts) × is (kinds ts from i))

-- expressions of a level, from a place under so many nodes
abbrev pub FrontExpr : List Token → (from depth level i : ℕ) → Type 0
FrontExpr ts from depth level i =
    FrontOf (BeginsExpr level (within depth)) (λ read. (e : ExprTree) × IsExpr level (within depth) read e) ts from i

-- the same with no limit on the paths
abbrev pub DeepFrontExpr : List Token → (from level i : ℕ) → Type 0
DeepFrontExpr ts from level i =
    FrontOf (BeginsExpr level any) (λ read. (e : ExprTree) × IsExpr level any read e) ts from i

-- specifiers, from a place under so many nodes
abbrev pub FrontSpec : List Token → (from depth i : ℕ) → Type 0
FrontSpec ts from depth i =
    FrontOf (BeginsSpec (within depth)) (λ read. (s : SpecTree) × IsSpec (within depth) read s) ts from i

-- the same with no limit on the paths
abbrev pub DeepFrontSpec : List Token → (from i : ℕ) → Type 0
DeepFrontSpec ts from i = FrontOf (BeginsSpec any) (λ read. (s : SpecTree) × IsSpec any read s) ts from i
