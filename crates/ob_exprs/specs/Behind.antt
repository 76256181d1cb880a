-- What a sign behind a whole operand leads to, where it is none of a postfix expression: first the pending nodes that it
-- closes are closed.
use Rattle.std.specs.Prelude.{ℕ, List, ◌∷◌, Bool, false, true, Option, Some, None, cond, nat_lt}
use Rattle.ob_tree.specs.declared.tokens.Sign.{Sign}
use Rattle.ob_tree.specs.declared.tokens.Sign.TheVariants as sign
use Rattle.ob_tree.specs.Trees.{Infix, ExprTree}
use Rattle.ob_tree.specs.Levels.{assign_level, cond_level, binary_level, is_assign}
use Rattle.ob_tree.specs.ExprStates.{PendingNode, InParen, InIndex, InCall, InThen, InLength, State}
use Rattle.ob_tree.specs.ExprMachine.{join_to, then_to, comma_to, close_paren, close_bracket, colon_to}
use Rattle.ob_exprs.specs.declared.reader.Reader.{Reader}
use Rattle.ob_exprs.specs.declared.reader.Shift.{Shift}
use Rattle.ob_exprs.specs.declared.reader.Shift.TheVariants as outcome

-- a sign of a postfix expression
abbrev pub is_postfix : Sign → Bool
is_postfix sign.OpenBracket = true
is_postfix sign.OpenParen = true
is_postfix sign.Dot = true
is_postfix sign.Arrow = true
is_postfix sign.PlusPlus = true
is_postfix sign.MinusMinus = true
is_postfix s = false

-- the nonterminal above which the sign closes pending nodes
abbrev pub closing_level : Sign → ℕ
closing_level sign.Question = cond_level
closing_level s = cond (is_assign s) assign_level (binary_level s)

abbrev pub operator_behind : (least p : ℕ) → Sign → ExprTree × List PendingNode → Option State
operator_behind least p s r = cond (is_assign s) (join_to least (Infix.Assign s) p r)
    (cond (nat_lt 0 (binary_level s)) (join_to least (Infix.Binary s) p r) None)

abbrev pub behind : (least p : ℕ) → Sign → ExprTree × List PendingNode → Option State
behind least p sign.Question r = then_to least p r
behind least p sign.Comma r = comma_to least p r.0 r.1
behind least p sign.CloseParen r = close_paren r.0 r.1
behind least p sign.CloseBracket r = close_bracket r.0 r.1
behind least p sign.Colon r = colon_to r.0 r.1
behind least p s r = operator_behind least p s r

-- an operand that can be called, and one that a string literal goes on with
abbrev pub is_name : ExprTree → Bool
is_name (ExprTree.Name m name) = true
is_name e = false

abbrev pub is_string : ExprTree → Bool
is_string (ExprTree.Str m ss) = true
is_string e = false

-- what the newest node is that a comma, a closing parenthesis, a closing bracket or a colon ends a part of
abbrev pub in_call : List PendingNode → Bool
in_call (InCall m name es ∷ fs) = true
in_call fs = false

abbrev pub in_paren : List PendingNode → Bool
in_paren (InParen m ∷ fs) = true
in_paren (InCall m name es ∷ fs) = true
in_paren fs = false

abbrev pub in_bracket : List PendingNode → Bool
in_bracket (InIndex m b ∷ fs) = true
in_bracket (InLength h ds ∷ fs) = true
in_bracket fs = false

abbrev pub in_then : List PendingNode → Bool
in_then (InThen m c ∷ fs) = true
in_then fs = false

-- the answer where nothing whole was read before
abbrev pub shifted : Option Reader → Shift
shifted (Some r) = outcome.Shifted r
shifted None = outcome.Rejected
