-- What holds while a program is read token by token.
use Rattle.std.specs.Prelude.{◌≡◌, ℕ, ◌+◌, ◌<◌, ◌≤◌, min, List, length, map, drop, slice_get, cond, Option, Some, None, Result, Ok, Err}
use Rattle.ob_tree.specs.declared.faults.SyntaxFault.{SyntaxFault}
use Rattle.ob_tree.specs.declared.faults.SyntaxFault.TheVariants as fault
use Rattle.ob_tree.specs.declared.tokens.Token.{Token}
use Rattle.ob_tree.specs.declared.tokens.TokenKind.{TokenKind}
use Rattle.ob_tree.specs.Trees.{ExprTree, SpecTree}
use Rattle.ob_tree.specs.Places.{here}
use Rattle.ob_tree.specs.Fronts.{lines}
use Rattle.ob_tree.specs.Verdicts.{Verdict, Whole, NoTree, TooDeep}
use Rattle.ob_tree.specs.ProgramStates as plain
use Rattle.ob_tree.specs.ProgramStates.{SpecContext, ExprContext}
use Rattle.ob_tree.specs.ProgramMachine.{shift, finish, context_level, used, specified}
use Rattle.ob_tree.specs.Readings as machine
use Rattle.ob_exprs.specs.Parsed.{IsExprVerdict, IsSpecVerdict}
use Rattle.ob_declarations.specs.declared.state.State.{State}
use Rattle.ob_parser.specs.Answer.{Answer, IsAnswer, IsProgramVerdict}
use Rattle.ob_parser.specs.DeepestPaths.{spec_depth, context_depth, deepest_path, newest_path}
use Rattle.ob_declarations.specs.Shifts.{state_of}
use Rattle.ob_declarations.specs.Statements.{begins_type}

-- what the machine reads that holds this at place i
abbrev pub reading : List Token → (i : ℕ) → plain.State → machine.Reading plain.State
reading ts i s = machine.read (λ q k t. shift (here (lines ts) q) k t) deepest_path 0 i (map (λ t. t.kind) (drop i ts)) s

-- Reading on from place i gives the right verdict, and what was read keeps the limit.
pub record Kept (ts : List Token) (i : ℕ) (s : plain.State) : Type 0 where
  pub right : IsProgramVerdict ts (machine.verdict finish (reading ts i s))
  pub limit : deepest_path s ≤ 256

-- The token at i leads to this: reading goes on, unless it is too deep.
pub record Reached (ts : List Token) (i : ℕ) (s : plain.State) : Type 0 where
  pub goes_on : newest_path s ≤ 256 → Kept ts (i + 1) s
  pub too_deep : 256 < newest_path s → IsAnswer ts (Answer.TooDeep i)

-- The token at i leads to a state, or can't stand there.
abbrev pub Behind : List Token → (i : ℕ) → Option plain.State → Type 0
Behind ts i (Some s) = Reached ts i s
Behind ts i None = IsAnswer ts (Answer.NoTree i)

-- A tree that begins at a place ends before i: the token there leads on, or there is none.
pub record Ends (ts : List Token) (from i : ℕ) (next : TokenKind → Option plain.State) : Type 0 where
  pub from_on : from ≤ i
  pub token : (t : Token) → slice_get ts i ≡ Some t → Behind ts i (next t.kind)
  pub nothing : slice_get ts i ≡ None → IsAnswer ts (Answer.NoTree i)

-- what the verdict on a tree leads to
abbrev pub After : {T : Type 0} → List Token → (from : ℕ) → (next : ℕ → T → TokenKind → Option plain.State) → Verdict T → Type 0
After ts from next (Whole x i) = Ends ts from i (next i x)
After ts from next (NoTree i) = IsAnswer ts (Answer.NoTree i)
After ts from next (TooDeep i) = IsAnswer ts (Answer.TooDeep i)

-- An expression for this begins at place i, if any does.
abbrev pub AwaitsExpr : List Token → (i : ℕ) → ExprContext → Type 0
AwaitsExpr ts i u = (v : Verdict ExprTree) → IsExprVerdict ts i (min (context_depth u) 256) (context_level u) v → After ts i (λ j e k. used k u (Some e)) v

-- A specifier for this begins at place i, if any does. Where no node may stand below, one that begins is too deep.
pub record AwaitsSpec (ts : List Token) (i : ℕ) (u : SpecContext) : Type 0 where
  pub shallow : spec_depth u ≤ 256 → (v : Verdict SpecTree) → IsSpecVerdict ts i (spec_depth u) v → After ts i (λ j s k. specified (here (lines ts) j) k u (Some s)) v
  pub deep : 256 < spec_depth u → (t : Token) → slice_get ts i ≡ Some t → IsAnswer ts (cond (begins_type t.kind) (Answer.TooDeep i) (Answer.NoTree i))

-- the fault is the right answer, or want of memory
abbrev pub IsRightFault : List Token → SyntaxFault → Type 0
IsRightFault ts (fault.NoTree i) = IsAnswer ts (Answer.NoTree i)
IsRightFault ts (fault.TooDeep i) = IsAnswer ts (Answer.TooDeep i)
IsRightFault ts fault.NoMemory = Unit {0}

-- what reading from place i up to a token leads to
abbrev pub Turned : List Token → (i : ℕ) → Result (State × ℕ) SyntaxFault → Type 0
Turned ts i (Ok r) = (i ≤ r.1) × (r.1 < length ts) × Reached ts r.1 (state_of r.0)
Turned ts i (Err fault) = IsRightFault ts fault

-- what reading all tokens leads to
abbrev pub IsRead : List Token → Result State SyntaxFault → Type 0
IsRead ts (Ok s) = Kept ts (length ts) (state_of s)
IsRead ts (Err fault) = IsRightFault ts fault
