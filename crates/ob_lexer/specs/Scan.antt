-- The piece or the fault at a place as a function of the bytes from there on, by what the first of them is.
use Rattle.std.specs.Prelude.{◌≡◌, ℕ, suc, ◌+◌, ◌-◌, pos, ℤ, List, [], ◌∷◌, ◌++◌, length, take, drop, Bool, false, not, nat_lt, nat_le, ◌==◌, ◌||◌, ◌&&◌, Option, Some, None, Result, Ok, Err, codes, find, zero, option_and_then, option_map, if◌then◌else◌}
use Rattle.std.specs.Option.{option_or}
use Rattle.std.specs.List.{prefix_len, list_any}
use Rattle.std.specs.Str.{bytes_eq}
use Rattle.ob_tree.specs.Bytes.{is_white, is_letter, is_digit, is_octal_digit, is_hex_digit, is_name_byte, is_blank, begins_with, ends_line}
use Rattle.ob_tree.specs.Spaces.{is_one_line}
use Rattle.ob_tree.specs.Words.{word_text}
use Rattle.ob_tree.specs.Signs.{sign_text, begins_comment}
use Rattle.ob_tree.specs.Constants.{number, base_number, suffixes, type_of}
use Rattle.ob_tree.specs.Characters.{Character, escape_at, characters, byte_of, value_of}
use Rattle.ob_tree.specs.declared.tokens.TokenKind.{TokenKind}
use Rattle.ob_tree.specs.declared.tokens.TokenKind.TheVariants as kind
use Rattle.ob_tree.specs.declared.tokens.Keyword.{Keyword}
use Rattle.ob_tree.specs.declared.tokens.Keyword.TheVariants as word
use Rattle.ob_tree.specs.declared.tokens.Sign.{Sign}
use Rattle.ob_tree.specs.declared.tokens.Sign.TheVariants as sign
use Rattle.ob_tree.specs.declared.constants.Base.{Base}
use Rattle.ob_tree.specs.declared.constants.Suffix.{Suffix}
use Rattle.ob_tree.specs.declared.faults.LexKind.{LexKind}
use Rattle.ob_tree.specs.declared.faults.LexKind.TheVariants as fault
use Rattle.ob_words.specs.declared.types.IntType.{IntType}
use Rattle.ob_words.specs.declared.types.IntType.TheVariants.{Int}
use Rattle.ob_lexer.specs.declared.taken.Taken.{Taken}
use Rattle.ob_lexer.specs.declared.taken.Refusal.{Refusal}
use Rattle.ob_lexer.specs.declared.taken.Refusal.TheVariants as refusal
use Rattle.ob_lexer.specs.declared.bytes.Class.{Class}
use Rattle.ob_lexer.specs.declared.scanner.Sort.{Sort}
use Rattle.ob_lexer.specs.declared.quotes.Spelled.{Spelled}
use Rattle.ob_lexer.specs.declared.quotes.Spelled.TheVariants as spelled

-- what a scan of the code answers, where memory may run out
abbrev pub Scans : Result Taken LexKind → Result Taken Refusal → Type 0
Scans scanned (Ok taken) = scanned ≡ Ok taken
Scans scanned (Err (refusal.Fault kind)) = scanned ≡ Err kind
Scans scanned (Err refusal.NoMemory) = Unit {0}

abbrev pub taken : Option TokenKind → ℕ → Result Taken LexKind
taken piece n = Ok (record { kind = piece; length = n })

-- classes of bytes

abbrev pub has : Class → ℕ → Bool
has Class.Letter c = is_letter c
has Class.NameByte c = is_name_byte c
has Class.Digit c = is_digit c
has Class.OctalDigit c = is_octal_digit c
has Class.HexDigit c = is_hex_digit c
has Class.White c = is_white c
has Class.Blank c = is_blank c
has Class.OnLine c = not (c == 10)

-- words and names

abbrev pub words : List Keyword
words =
    word.Break ∷ (word.Char ∷ (word.Continue ∷ (word.Do ∷ (word.Else ∷ (word.For ∷ (
    word.If ∷ (word.Int ∷ (word.Long ∷ (word.Return ∷ (word.Short ∷ (word.Signed ∷ (
    word.Sizeof ∷ (word.Static ∷ (word.Struct ∷ (word.Unsigned ∷ (word.Void ∷ (word.While ∷ (
    word.Null ∷ (word.Eof ∷ (word.SizeT ∷ (word.Auto ∷ (word.Case ∷ (word.Default ∷ (
    word.Double ∷ (word.Enum ∷ (word.Extern ∷ (word.Float ∷ (word.Goto ∷ (word.Inline ∷ (
    word.Switch ∷ (word.Typedef ∷ (word.Union ∷ (word.Volatile ∷ (word.Bool ∷ (word.Complex ∷ (
    word.Imaginary ∷ ([])))))))))))))))))))))))))))))))))))))

abbrev pub is_word : List ℕ → Keyword → Bool
is_word text keyword = bytes_eq (word_text keyword) text

-- the reserved word of this text
unfoldable pub keyword_of : List ℕ → Option Keyword
keyword_of text = find (is_word text) words

unfoldable pub is_qualifier : List ℕ → Bool
is_qualifier text = bytes_eq text (codes "const") || (bytes_eq text (codes "register") || bytes_eq text (codes "restrict"))

abbrev pub word_or_name : List ℕ → Option Keyword → Option TokenKind
word_or_name text (Some keyword) = Some (kind.Word keyword)
word_or_name text None = if is_qualifier text then None else Some (kind.Name text)

abbrev pub name_kind : List ℕ → Option TokenKind
name_kind text = word_or_name text (keyword_of text)

unfoldable pub scan_name : List ℕ → Result Taken LexKind
scan_name rest = let n = prefix_len is_name_byte rest in taken (name_kind (take n rest)) n

-- punctuators, the longer ones first

abbrev pub signs : List Sign
signs =
    sign.ShlAssign ∷ (sign.ShrAssign ∷ (sign.Arrow ∷ (sign.PlusPlus ∷ (sign.MinusMinus ∷ (sign.Shl ∷ (
    sign.Shr ∷ (sign.Le ∷ (sign.Ge ∷ (sign.EqEq ∷ (sign.NotEq ∷ (sign.AndAnd ∷ (
    sign.OrOr ∷ (sign.StarAssign ∷ (sign.SlashAssign ∷ (sign.PercentAssign ∷ (sign.PlusAssign ∷ (sign.MinusAssign ∷ (
    sign.AmpAssign ∷ (sign.CaretAssign ∷ (sign.BarAssign ∷ (sign.OpenBracket ∷ (sign.CloseBracket ∷ (sign.OpenParen ∷ (
    sign.CloseParen ∷ (sign.OpenBrace ∷ (sign.CloseBrace ∷ (sign.Dot ∷ (sign.Amp ∷ (sign.Star ∷ (
    sign.Plus ∷ (sign.Minus ∷ (sign.Tilde ∷ (sign.Not ∷ (sign.Slash ∷ (sign.Percent ∷ (
    sign.Lt ∷ (sign.Gt ∷ (sign.Caret ∷ (sign.Bar ∷ (sign.Question ∷ (sign.Colon ∷ (
    sign.Semi ∷ (sign.Assign ∷ (sign.Comma ∷ ([])))))))))))))))))))))))))))))))))))))))))))))

abbrev pub begins_sign : List ℕ → Sign → Bool
begins_sign rest s = bytes_eq (sign_text s) (take (length (sign_text s)) rest)

-- the longest punctuator that the bytes begin with
unfoldable pub sign_at : List ℕ → Option Sign
sign_at rest = find (begins_sign rest) signs

-- a `.` that a digit follows
abbrev pub is_fraction : List ℕ → Bool
is_fraction [] = false
is_fraction (c ∷ cs) = (c == 46) && begins_with is_digit cs

abbrev pub sign_piece : Option Sign → Result Taken LexKind
sign_piece None = Err fault.Stray
sign_piece (Some s) = taken (Some (kind.Sign s)) (length (sign_text s))

unfoldable pub scan_sign : List ℕ → Result Taken LexKind
scan_sign rest = if is_fraction rest then Err fault.Stray else sign_piece (sign_at rest)

-- integer constants

-- `0x` or `0X` and a hexadecimal digit
abbrev pub is_hex_prefix : List ℕ → Bool
is_hex_prefix (a ∷ x ∷ d ∷ rest) = (a == 48) && (((x == 120) || (x == 88)) && is_hex_digit d)
is_hex_prefix rest = false

unfoldable pub base_at : List ℕ → Base
base_at rest = if is_hex_prefix rest then Base.Hexadecimal else (if begins_with (λ c. c == 48) rest then Base.Octal else Base.Decimal)

abbrev pub prefix_of : Base → ℕ
prefix_of Base.Decimal = 0
prefix_of Base.Octal = 0
prefix_of Base.Hexadecimal = 2

abbrev pub class_of : Base → Class
class_of Base.Decimal = Class.Digit
class_of Base.Octal = Class.OctalDigit
class_of Base.Hexadecimal = Class.HexDigit

-- the digits of the constant that begins here, without their prefix
unfoldable pub digits_at : List ℕ → List ℕ
digits_at rest = let tail = drop (prefix_of (base_at rest)) rest in take (prefix_len (has (class_of (base_at rest))) tail) tail

-- what stands behind the digits
abbrev pub behind_digits : List ℕ → List ℕ
behind_digits rest = drop (prefix_of (base_at rest) + length (digits_at rest)) rest

abbrev pub begins_ending : List ℕ → List ℕ × Suffix → Bool
begins_ending rest row = bytes_eq row.0 (take (length row.0) rest)

-- the longest suffix that the bytes begin with
unfoldable pub ending_at : List ℕ → Option (List ℕ × Suffix)
ending_at rest = find (begins_ending rest) suffixes

-- the value of the constant that begins here
abbrev pub value_at : List ℕ → ℕ
value_at rest = number (base_number (base_at rest)) (digits_at rest)

-- a constant with this suffix, whose value has this type or none
abbrev pub typed : List ℕ → List ℕ → Option IntType → Result Taken LexKind
typed rest ending None = Err fault.Wide
typed rest ending (Some ty) =
    if begins_with (λ c. is_name_byte c || (c == 46)) (drop (length ending) (behind_digits rest)) then Err fault.Stray
    else taken (Some (kind.Number (pos (value_at rest)) ty)) (prefix_of (base_at rest) + length (digits_at rest) + length ending)

abbrev pub with_ending : List ℕ → Option (List ℕ × Suffix) → Result Taken LexKind
with_ending rest None = Err fault.Stray
with_ending rest (Some row) = typed rest row.0 (type_of (base_at rest) row.1 (value_at rest))

unfoldable pub scan_number : List ℕ → Result Taken LexKind
scan_number rest = with_ending rest (ending_at (behind_digits rest))

-- character constants and string literals

-- how many bytes stand before the quote that ends a literal; none where its line ends first
abbrev pub enclosed_from : (at quote : ℕ) → (taken : Bool) → List ℕ → Option ℕ
enclosed_from at quote escaped [] = None
enclosed_from at quote escaped (c ∷ cs) =
    if c == 10 then None
    else (if not escaped && (c == quote) then Some at
    else enclosed_from (at + 1) quote (not escaped && (c == 92)) cs)

-- a character as the code keeps it
abbrev pub spelled_of : Character → Spelled
spelled_of (Character.Itself c) = spelled.Itself c
spelled_of (Character.Escape v) = if nat_le v 255 then spelled.Escape v else spelled.Wide
spelled_of Character.Unknown = spelled.Unknown

-- the first character of a body, and how many bytes it has
unfoldable pub first_character : List ℕ → Character × ℕ
first_character [] = (Character.Unknown, 1)
first_character (c ∷ cs) = if c == 92 then ((escape_at cs).0, 1 + (escape_at cs).1) else (Character.Itself c, 1)

abbrev pub is_wide : Character → Bool
is_wide (Character.Itself c) = false
is_wide (Character.Escape v) = nat_lt 255 v
is_wide Character.Unknown = false

-- the bytes that characters stand for, behind those that were read before
abbrev pub bytes_from : List ℕ → List Character → Option (List ℕ)
bytes_from before [] = Some before
bytes_from before (ch ∷ chs) = option_and_then (λ b. bytes_from (before ++ b ∷ []) chs) (byte_of ch)

-- the value of the one character that there is
abbrev pub only_value : List Character → Option ℤ
only_value [] = None
only_value (ch ∷ []) = value_of ch
only_value (ch ∷ other ∷ chs) = None

abbrev pub quote_fault : List Character → LexKind
quote_fault chs = if list_any is_wide chs then fault.Wide else fault.Stray

abbrev pub string_piece : ℕ → List Character → Option (List ℕ) → Result Taken LexKind
string_piece n chs (Some bytes) = taken (Some (kind.Str bytes)) (n + 2)
string_piece n chs None = Err (quote_fault chs)

abbrev pub character_piece : ℕ → List Character → Option ℤ → Result Taken LexKind
character_piece n chs (Some value) = taken (Some (kind.Number value Int)) (n + 2)
character_piece n chs None = Err (quote_fault chs)

abbrev pub string_of : List ℕ → Option ℕ → Result Taken LexKind
string_of rest None = Err fault.Unclosed
string_of rest (Some n) = let chs = characters (take n rest) in string_piece n chs (bytes_from [] chs)

abbrev pub character_of : List ℕ → Option ℕ → Result Taken LexKind
character_of rest None = Err fault.Unclosed
character_of rest (Some n) = let chs = characters (take n rest) in character_piece n chs (only_value chs)

-- the string literal whose first quote stands before these bytes
unfoldable pub scan_string : List ℕ → Result Taken LexKind
scan_string rest = string_of rest (enclosed_from 0 34 false rest)

-- the character constant whose first quote stands before these bytes
unfoldable pub scan_character : List ℕ → Result Taken LexKind
scan_character rest = character_of rest (enclosed_from 0 39 false rest)

-- comments and include lines

-- how many bytes stand before the first `*/`
abbrev pub block_end_from : (at : ℕ) → List ℕ → Option ℕ
block_end_from at [] = None
block_end_from at (c ∷ cs) = if (c == 42) && begins_with (λ d. d == 47) cs then Some at else block_end_from (at + 1) cs

-- how many bytes the comment has that begins here; none where it doesn't end
unfoldable pub comment_length : List ℕ → Option ℕ
comment_length (a ∷ b ∷ rest) =
    if b == 47 then Some (2 + prefix_len (has Class.OnLine) rest) else option_map (λ n. n + 4) (block_end_from 0 rest)
comment_length rest = None

abbrev pub comment_piece : Option ℕ → Result Taken LexKind
comment_piece None = Err fault.Unclosed
comment_piece (Some n) = taken None n

abbrev pub scan_comment : List ℕ → Result Taken LexKind
scan_comment rest = comment_piece (comment_length rest)

-- what stands behind a text with which the bytes begin
unfoldable pub strip : List ℕ → List ℕ → Option (List ℕ)
strip text rest = if bytes_eq text (take (length text) rest) then Some (drop (length text) rest) else None

abbrev pub skip_blanks : List ℕ → List ℕ
skip_blanks rest = drop (prefix_len is_blank rest) rest

-- what stands behind a header
unfoldable pub strip_header : List ℕ → Option (List ℕ)
strip_header rest =
    option_or (strip (codes "<stdio.h>") rest)
    (option_or (strip (codes "<stdlib.h>") rest)
    (option_or (strip (codes "<stddef.h>") rest) (strip (codes "<string.h>") rest)))

abbrev pub one_line_length : List ℕ → Option ℕ → ℕ
one_line_length rest None = 0
one_line_length rest (Some n) = if is_one_line (take n rest) then n else 0

-- how many bytes the space, the tab or the comment on one line has that begins here; 0 where none does
unfoldable pub filler_length : List ℕ → ℕ
filler_length [] = 0
filler_length (c ∷ cs) =
    if is_blank c then 1 else (if begins_comment (c ∷ cs) then one_line_length (c ∷ cs) (comment_length (c ∷ cs)) else 0)

-- a carriage return at a line's end
abbrev pub is_return : List ℕ → Bool
is_return [] = false
is_return (c ∷ cs) = (c == 13) && ends_line cs

-- What stands at the end of the line to which fillers and an optional carriage return lead. The first
-- `own` bytes belong to a filler that began before them.
abbrev pub line_end_from : (own : ℕ) → List ℕ → Option (List ℕ)
line_end_from own [] = Some []
line_end_from (suc own) (c ∷ cs) = line_end_from own cs
line_end_from zero (c ∷ cs) =
    if ends_line (c ∷ cs) then Some (c ∷ cs)
    else (if is_return (c ∷ cs) then Some cs
    else (if filler_length (c ∷ cs) == 0 then None else line_end_from (filler_length (c ∷ cs) - 1) cs))

-- what stands behind the include line that begins here
unfoldable pub include_end : List ℕ → Option (List ℕ)
include_end rest =
    option_and_then (λ r. option_and_then (line_end_from 0) (strip_header (skip_blanks r)))
    (strip (codes "include") (skip_blanks (drop 1 rest)))

abbrev pub include_piece : List ℕ → Option (List ℕ) → Result Taken LexKind
include_piece rest None = Err fault.Stray
include_piece rest (Some after) = taken None (length rest - length after)

abbrev pub scan_include : Bool → List ℕ → Result Taken LexKind
scan_include fresh rest = if fresh then include_piece rest (include_end rest) else Err fault.Stray

-- all kinds of piece

-- what can begin here, by the first byte, or two for a comment
unfoldable pub sort_of : List ℕ → Sort
sort_of [] = Sort.Sign
sort_of (c ∷ cs) =
    if is_white c then Sort.White
    else (if is_letter c then Sort.Name
    else (if is_digit c then Sort.Number
    else (if c == 34 then Sort.String
    else (if c == 39 then Sort.Character
    else (if c == 35 then Sort.Include
    else (if begins_comment (c ∷ cs) then Sort.Comment
    else Sort.Sign))))))

abbrev pub scan_sort : Sort → (fresh : Bool) → List ℕ → Result Taken LexKind
scan_sort Sort.White fresh rest = taken None 1
scan_sort Sort.Name fresh rest = scan_name rest
scan_sort Sort.Number fresh rest = scan_number rest
scan_sort Sort.String fresh rest = scan_string (drop 1 rest)
scan_sort Sort.Character fresh rest = scan_character (drop 1 rest)
scan_sort Sort.Include fresh rest = scan_include fresh rest
scan_sort Sort.Comment fresh rest = scan_comment rest
scan_sort Sort.Sign fresh rest = scan_sign rest

-- The piece or the fault here; `fresh` says that only spaces and tabs stand before on the line.
abbrev pub scan : (fresh : Bool) → List ℕ → Result Taken LexKind
scan fresh rest = scan_sort (sort_of rest) fresh rest
