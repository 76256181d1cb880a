-- What the format asks of a row beyond the types of its fields. These keep each number within its field, and each byte below 256.
use Rattle.std.specs.Prelude.{◌≤◌, length}
use Rattle.ob_code.specs.declared.image.FunctionRow.{FunctionRow}
use Rattle.ob_code.specs.declared.image.NameRow.{NameRow}
use Rattle.ob_code.specs.declared.image.StaticRow.{StaticRow}
use Rattle.ob_code.specs.declared.instructions.Instr.{Instr}
use Rattle.ob_code.specs.declared.instructions.Instr.TheVariants.{Order}
use Rattle.ob_model.specs.Limits.{most_object_bytes}
use Rattle.ob_code.specs.Limits.{most_variables}
use Rattle.ob_base.specs.Names.{IsName}
use Rattle.ob_code.specs.Rules.{IsOrdering}
use Rattle.ob_image.specs.Layout.{any_word}
use Rattle.ob_image.specs.Spelling.{EndsNonzero, most_kind}

abbrev pub StaticRule : StaticRow → Type 0
StaticRule row = (length row.given ≤ most_object_bytes) × EndsNonzero row.given

abbrev pub FunctionRule : FunctionRow → Type 0
FunctionRule row = length row.locals ≤ most_variables

abbrev pub NameRule : NameRow → Type 0
NameRule row = (row.kind ≤ most_kind) × (length row.name ≤ any_word) × IsName row.name

-- pointers are ordered by < > <= >=
abbrev pub InstructionRule : Instr → Type 0
InstructionRule (Order relation a b c) = IsOrdering relation
InstructionRule _ = Unit {0}

-- nothing more is asked
abbrev pub NoRule : {A : Type 0} → A → Type 0
NoRule row = Unit {0}

-- a row whose rule holds has a spelling
abbrev pub IsTyped : {A : Type 0} → (A → Type 0) → (A → Type 0) → A → Type 0
IsTyped Rule Row row = Rule row → Row row
