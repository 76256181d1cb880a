-- What a job comes to, as data: its answer with the status and the line that belong to it, what is due to the two sinks, and how
-- many instructions were run.
use Rattle.std.specs.Prelude.{ℕ, Bool, false, IsTrue, List, [], map, ⊤, if◌then◌else◌}
use Rattle.ob_tree.specs.declared.faults.SourceFault.{SourceFault}
use Rattle.ob_tree.specs.declared.faults.SourceFault.TheVariants as source
use Rattle.ob_tree.specs.declared.faults.SyntaxKind.TheVariants as syntax
use Rattle.ob_model.specs.Endings as endings
use Rattle.ob_watch.specs.Watching.{Watch}
use Rattle.ob_report.specs.Diagnostics.{diagnostic_line}
use Rattle.ob_report.specs.Lines.{bad_image_line, ending_line, file_fault_line, file_long_line, not_yet_line, usage_line}
use Rattle.ob_report.specs.Reports.{Account, report_text}
use Rattle.ob_commands.specs.declared.answer.Answer.{Answer}
use Rattle.ob_commands.specs.declared.answer.Answer.TheVariants.{Done, Usage, FileFault, FileLong, Refused, Bad, Ran, NotYet}

-- ---- answers. What `top` itself answers for its devices and for memory (143, 144) is none of a job's answers.

-- the status of a source's fault; want of memory is none
abbrev pub fault_status : SourceFault → ℕ
fault_status (source.Lex kind line column) = 131
fault_status (source.Syntax syntax.NoTree line column) = 132
fault_status (source.Syntax syntax.TooDeep line column) = 134
fault_status (source.Typing kind line column) = 133
fault_status source.Statics = 134
fault_status source.Code = 134
fault_status source.NoMemory = 144

abbrev pub status_of : Answer → ℕ
status_of Done = 0
status_of Usage = 128
status_of FileFault = 129
status_of FileLong = 130
status_of (Refused fault) = fault_status fault
status_of (Bad bad) = 135
status_of (Ran ending) = endings.status_of ending
status_of NotYet = 145

-- the line for the error sink, by the name of the file
abbrev pub line_of : (name : List ℕ) → Answer → List ℕ
line_of name Done = []
line_of name Usage = usage_line
line_of name FileFault = file_fault_line
line_of name FileLong = file_long_line
line_of name (Refused fault) = diagnostic_line name fault
line_of name (Bad bad) = bad_image_line bad
line_of name (Ran ending) = ending_line ending
line_of name NotYet = not_yet_line

-- ---- watchers

abbrev pub account_of : Watch → Account
account_of w = record { total = w.total; kept = w.kept }

-- the report, where one was asked for
abbrev pub report_of : Bool → List Watch → List ℕ
report_of asked ws = if asked then report_text (map account_of ws) else []

-- ---- outcomes

-- `keeps` tells of a run that keeps stores outside of objects, for which memory may be wanting
pub record Outcome : Type 0 where
  pub answer : Answer
  pub out : List ℕ
  pub err : List ℕ
  pub instructions : ℕ
  pub keeps : Bool

-- nothing but the line that says why
abbrev pub told_why : (name : List ℕ) → Answer → Outcome
told_why name answer = record { answer = answer; out = []; err = line_of name answer; instructions = 0; keeps = false }

-- nothing but bytes for the output
abbrev pub wrote : List ℕ → Outcome
wrote bytes = record { answer = Done; out = bytes; err = []; instructions = 0; keeps = false }

-- what is due to the error sink takes memory to make: a line that names a place, or a report
abbrev pub TakesMemory : (report : Bool) → Answer → Type 0
TakesMemory report (Refused fault) = ⊤
TakesMemory report (Bad bad) = ⊤
TakesMemory report (Ran ending) = IsTrue report
TakesMemory report Done = ⊥
TakesMemory report Usage = ⊥
TakesMemory report FileFault = ⊥
TakesMemory report FileLong = ⊥
TakesMemory report NotYet = ⊥
