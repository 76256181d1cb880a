-- Punctuators (C99 6.4.6).
use Rattle.std.specs.Prelude.{◌≡◌, ℕ, List, [], ◌∷◌, ◌++◌, Bool, false, ◌==◌, ◌||◌, ◌&&◌, IsTrue, codes}
use Rattle.ob_tree.specs.Bytes.{is_digit, begins_with}
use Rattle.ob_tree.specs.declared.tokens.Sign.{Sign}
use Rattle.ob_tree.specs.declared.tokens.Sign.TheVariants as sign

-- the bytes of a punctuator
abbrev pub sign_text : Sign → List ℕ
sign_text sign.OpenBracket = codes "["
sign_text sign.CloseBracket = codes "]"
sign_text sign.OpenParen = codes "("
sign_text sign.CloseParen = codes ")"
sign_text sign.OpenBrace = codes "{"
sign_text sign.CloseBrace = codes "}"
sign_text sign.Dot = codes "."
sign_text sign.Arrow = codes "->"
sign_text sign.PlusPlus = codes "++"
sign_text sign.MinusMinus = codes "--"
sign_text sign.Amp = codes "&"
sign_text sign.Star = codes "*"
sign_text sign.Plus = codes "+"
sign_text sign.Minus = codes "-"
sign_text sign.Tilde = codes "~"
sign_text sign.Not = codes "!"
sign_text sign.Slash = codes "/"
sign_text sign.Percent = codes "%"
sign_text sign.Shl = codes "<<"
sign_text sign.Shr = codes ">>"
sign_text sign.Lt = codes "<"
sign_text sign.Gt = codes ">"
sign_text sign.Le = codes "<="
sign_text sign.Ge = codes ">="
sign_text sign.EqEq = codes "=="
sign_text sign.NotEq = codes "!="
sign_text sign.Caret = codes "^"
sign_text sign.Bar = codes "|"
sign_text sign.AndAnd = codes "&&"
sign_text sign.OrOr = codes "||"
sign_text sign.Question = codes "?"
sign_text sign.Colon = codes ":"
sign_text sign.Semi = codes ";"
sign_text sign.Assign = codes "="
sign_text sign.StarAssign = codes "*="
sign_text sign.SlashAssign = codes "/="
sign_text sign.PercentAssign = codes "%="
sign_text sign.PlusAssign = codes "+="
sign_text sign.MinusAssign = codes "-="
sign_text sign.ShlAssign = codes "<<="
sign_text sign.ShrAssign = codes ">>="
sign_text sign.AmpAssign = codes "&="
sign_text sign.CaretAssign = codes "^="
sign_text sign.BarAssign = codes "|="
sign_text sign.Comma = codes ","

-- a comment begins here (C99 6.4.9): `/` with `*` or `/` behind it
abbrev pub begins_comment : List ℕ → Bool
begins_comment [] = false
begins_comment (c ∷ cs) = (c == 47) && begins_with (λ d. (d == 42) || (d == 47)) cs

-- The text is the punctuator. No punctuator is taken where a comment begins, and `.` is none where
-- a digit follows.
pub record IsSign (text after : List ℕ) (punctuator : Sign) : Type 0 where
  pub text_is : text ≡ sign_text punctuator
  pub no_comment : IsTrue (begins_comment (text ++ after)) → ⊥
  pub no_fraction : punctuator ≡ sign.Dot → IsTrue (begins_with is_digit after) → ⊥
