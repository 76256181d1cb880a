-- The words of an integer type (C99 6.7.2): `signed` or `unsigned` or neither, before `char`, `short`, `int`,
-- `long` or `long long`; `int` may stand behind `short` and `long`, and what stands before it may stand alone.
use Rattle.std.specs.Prelude.{Bool, false, true, List, [], ◌∷◌}
use Rattle.ob_tree.specs.declared.tokens.Keyword.{Keyword}
use Rattle.ob_tree.specs.declared.tokens.Keyword.TheVariants as word

-- nothing, or `int`
abbrev pub is_int_tail : List Keyword → Bool
is_int_tail [] = true
is_int_tail (word.Int ∷ []) = true
is_int_tail words = false

-- what may stand behind the first `long`: nothing, `int`, `long` or `long int`
abbrev pub is_long_tail : List Keyword → Bool
is_long_tail (word.Long ∷ words) = is_int_tail words
is_long_tail words = is_int_tail words

-- `char`, `short`, `int` and `long` types without their sign
abbrev pub is_plain_integer : List Keyword → Bool
is_plain_integer (word.Char ∷ []) = true
is_plain_integer (word.Short ∷ words) = is_int_tail words
is_plain_integer (word.Int ∷ []) = true
is_plain_integer (word.Long ∷ words) = is_long_tail words
is_plain_integer words = false

-- what may stand behind `signed` and `unsigned`
abbrev pub is_sign_tail : List Keyword → Bool
is_sign_tail [] = true
is_sign_tail words = is_plain_integer words

-- the words name an integer type
abbrev pub is_integer : List Keyword → Bool
is_integer (word.Signed ∷ words) = is_sign_tail words
is_integer (word.Unsigned ∷ words) = is_sign_tail words
is_integer words = is_plain_integer words
