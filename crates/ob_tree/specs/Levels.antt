-- The nonterminals of expressions by number (C99 6.5), from the comma operator to primary expressions:
-- each stands where one of a lower number may stand.
use Rattle.std.specs.Prelude.{ℕ, ◌+◌, ◌<◌, Bool, false, true, IsTrue}
use Rattle.ob_tree.specs.declared.tokens.Sign.{Sign}
use Rattle.ob_tree.specs.declared.tokens.Sign.TheVariants as sign
use Rattle.ob_tree.specs.Trees.{Mark, Infix, ExprTree}

-- `expr`, the comma operator and what stands above it (C99 6.5.17)
abbrev pub expr_level : ℕ
expr_level = 0

-- assignment expressions (C99 6.5.16)
abbrev pub assign_level : ℕ
assign_level = 1

-- conditional expressions (C99 6.5.15)
abbrev pub cond_level : ℕ
cond_level = 2

-- logical OR expressions (C99 6.5.14), the least level of a binary operator
abbrev pub or_level : ℕ
or_level = 3

-- cast expressions (C99 6.5.4)
abbrev pub cast_level : ℕ
cast_level = 13

-- unary expressions (C99 6.5.3)
abbrev pub unary_level : ℕ
unary_level = 14

-- postfix expressions (C99 6.5.2)
abbrev pub postfix_level : ℕ
postfix_level = 15

-- primary expressions (C99 6.5.1), and a call, whose function is a name
abbrev pub primary_level : ℕ
primary_level = 16

-- the nonterminal of a binary operator (C99 6.5.5 to 6.5.14); 0 for a sign that is none
abbrev pub binary_level : Sign → ℕ
binary_level sign.OrOr = 3
binary_level sign.AndAnd = 4
binary_level sign.Bar = 5
binary_level sign.Caret = 6
binary_level sign.Amp = 7
binary_level sign.EqEq = 8
binary_level sign.NotEq = 8
binary_level sign.Lt = 9
binary_level sign.Gt = 9
binary_level sign.Le = 9
binary_level sign.Ge = 9
binary_level sign.Shl = 10
binary_level sign.Shr = 10
binary_level sign.Plus = 11
binary_level sign.Minus = 11
binary_level sign.Star = 12
binary_level sign.Slash = 12
binary_level sign.Percent = 12
binary_level s = 0

-- an assignment operator (C99 6.5.16)
abbrev pub is_assign : Sign → Bool
is_assign sign.Assign = true
is_assign sign.StarAssign = true
is_assign sign.SlashAssign = true
is_assign sign.PercentAssign = true
is_assign sign.PlusAssign = true
is_assign sign.MinusAssign = true
is_assign sign.ShlAssign = true
is_assign sign.ShrAssign = true
is_assign sign.AmpAssign = true
is_assign sign.CaretAssign = true
is_assign sign.BarAssign = true
is_assign s = false

-- an operator that stands before a cast expression (C99 6.5.3)
abbrev pub is_unary : Sign → Bool
is_unary sign.Amp = true
is_unary sign.Star = true
is_unary sign.Plus = true
is_unary sign.Minus = true
is_unary sign.Tilde = true
is_unary sign.Not = true
is_unary s = false

-- what joins two operands has the sign of such an operator
abbrev pub IsInfix : Infix → Type 0
IsInfix Infix.Comma = Unit {0}
IsInfix (Infix.Assign s) = IsTrue (is_assign s)
IsInfix (Infix.Binary s) = 0 < binary_level s

-- the nonterminal that an operator makes, and those of its operands: a binary operator has one of its own
-- nonterminal on its left, and one of the next on its right; an assignment has a unary expression on its left
abbrev pub infix_level : Infix → ℕ
infix_level Infix.Comma = expr_level
infix_level (Infix.Assign s) = assign_level
infix_level (Infix.Binary s) = binary_level s

abbrev pub left_level : Infix → ℕ
left_level Infix.Comma = expr_level
left_level (Infix.Assign s) = unary_level
left_level (Infix.Binary s) = binary_level s

abbrev pub right_level : Infix → ℕ
right_level Infix.Comma = assign_level
right_level (Infix.Assign s) = assign_level
right_level (Infix.Binary s) = binary_level s + 1

-- the nonterminal of a step, which is also that of its operand: `++` and `--` make a postfix expression
-- behind one, and a unary expression before one
abbrev pub step_level : (post : Bool) → ℕ
step_level false = unary_level
step_level true = postfix_level

-- the nonterminal of an expression
abbrev pub level_of : ExprTree → ℕ
level_of (ExprTree.Name m name) = primary_level
level_of (ExprTree.Number m value ty) = primary_level
level_of (ExprTree.Null m) = primary_level
level_of (ExprTree.Eof m) = primary_level
level_of (ExprTree.Str m strings) = primary_level
level_of (ExprTree.Paren m e) = primary_level
level_of (ExprTree.Index m b i) = postfix_level
level_of (ExprTree.Call m name es) = primary_level
level_of (ExprTree.Member m b name) = postfix_level
level_of (ExprTree.Arrow m b name) = postfix_level
level_of (ExprTree.Step m post down e) = step_level post
level_of (ExprTree.Unary m s e) = unary_level
level_of (ExprTree.SizeExpr m e) = unary_level
level_of (ExprTree.SizeType m t) = unary_level
level_of (ExprTree.Cast m t e) = cast_level
level_of (ExprTree.Cond m c x y) = cond_level
level_of (ExprTree.Join m op l r) = infix_level op

-- where an expression stands
abbrev pub mark_of : ExprTree → Mark
mark_of (ExprTree.Name m name) = m
mark_of (ExprTree.Number m value ty) = m
mark_of (ExprTree.Null m) = m
mark_of (ExprTree.Eof m) = m
mark_of (ExprTree.Str m strings) = m
mark_of (ExprTree.Paren m e) = m
mark_of (ExprTree.Index m b i) = m
mark_of (ExprTree.Call m name es) = m
mark_of (ExprTree.Member m b name) = m
mark_of (ExprTree.Arrow m b name) = m
mark_of (ExprTree.Step m post down e) = m
mark_of (ExprTree.Unary m s e) = m
mark_of (ExprTree.SizeExpr m e) = m
mark_of (ExprTree.SizeType m t) = m
mark_of (ExprTree.Cast m t e) = m
mark_of (ExprTree.Cond m c x y) = m
mark_of (ExprTree.Join m op l r) = m
