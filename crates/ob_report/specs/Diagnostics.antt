-- The line for a source that isn't compiled, by the name of its file. It ends with a line feed.
use Rattle.std.specs.Prelude.{ℕ, List, [], ◌++◌, codes, decimal}
use Rattle.ob_tree.specs.declared.faults.LexKind.{LexKind}
use Rattle.ob_tree.specs.declared.faults.LexKind.TheVariants as lex
use Rattle.ob_tree.specs.declared.faults.SyntaxKind.{SyntaxKind}
use Rattle.ob_tree.specs.declared.faults.SyntaxKind.TheVariants as syntax
use Rattle.ob_tree.specs.declared.faults.TypeKind.{TypeKind}
use Rattle.ob_tree.specs.declared.faults.TypeKind.TheVariants as typing
use Rattle.ob_tree.specs.declared.faults.SourceFault.{SourceFault}
use Rattle.ob_tree.specs.declared.faults.SourceFault.TheVariants as source

-- the sort of a fault and its kind
abbrev pub lex_words : LexKind → List ℕ
lex_words lex.Stray = codes "lex Stray"
lex_words lex.Unclosed = codes "lex Unclosed"
lex_words lex.Wide = codes "lex Wide"

abbrev pub syntax_words : SyntaxKind → List ℕ
syntax_words syntax.NoTree = codes "syntax NoTree"
syntax_words syntax.TooDeep = codes "syntax TooDeep"

abbrev pub type_words : TypeKind → List ℕ
type_words typing.Unknown = codes "type Unknown"
type_words typing.Twice = codes "type Twice"
type_words typing.Incomplete = codes "type Incomplete"
type_words typing.NotPlace = codes "type NotPlace"
type_words typing.Operand = codes "type Operand"
type_words typing.Assign = codes "type Assign"
type_words typing.Count = codes "type Count"
type_words typing.NotFunction = codes "type NotFunction"
type_words typing.Member = codes "type Member"
type_words typing.Constant = codes "type Constant"
type_words typing.Jump = codes "type Jump"
type_words typing.NoBody = codes "type NoBody"

-- `NAME:LINE:COLUMN: WORDS`, for a fault at a place
abbrev pub placed_line : (name : List ℕ) → (line column : ℕ) → (words : List ℕ) → List ℕ
placed_line name line column words =
    name ++ codes ":" ++ decimal line ++ codes ":" ++ decimal column ++ codes ": " ++ words ++ codes "\n"

-- the line of a fault; want of memory has none
abbrev pub diagnostic_line : (name : List ℕ) → SourceFault → List ℕ
diagnostic_line name (source.Lex kind line column) = placed_line name line column (lex_words kind)
diagnostic_line name (source.Syntax kind line column) = placed_line name line column (syntax_words kind)
diagnostic_line name (source.Typing kind line column) = placed_line name line column (type_words kind)
diagnostic_line name source.Statics = name ++ codes ": limit Statics\n"
diagnostic_line name source.Code = name ++ codes ": limit Code\n"
diagnostic_line name source.NoMemory = []
