-- The report of the stray accesses that watchers were told: for each watcher how many they were, then a line for each that it kept.
use Rattle.std.specs.Prelude.{ℕ, ◌+◌, List, [], ◌∷◌, ◌++◌, codes, decimal}
use Rattle.std.specs.Fmt.{signed_decimal}
use Rattle.ob_model.specs.declared.strays.Act.{Act}
use Rattle.ob_model.specs.declared.strays.Act.TheVariants as act
use Rattle.ob_model.specs.declared.strays.StrayEvent.{StrayEvent}

-- what a watcher tells: how many events it was told, and those that it kept
pub record Account : Type 0 where
  pub total : ℕ
  pub kept : List StrayEvent

abbrev pub act_word : Act → List ℕ
act_word act.Load = codes "Load"
act_word act.Store = codes "Store"
act_word act.Free = codes "Free"

-- `LINE: ACT object OBJECT offset OFFSET size SIZE`
abbrev pub event_line : StrayEvent → List ℕ
event_line e =
    decimal e.line ++ codes ": " ++ act_word e.act ++ codes " object " ++ decimal e.object ++ codes " offset " ++ signed_decimal e.offset ++
    codes " size " ++ decimal e.size ++ codes "\n"

abbrev pub event_lines : List StrayEvent → List ℕ
event_lines [] = []
event_lines (e ∷ events) = event_line e ++ event_lines events

-- `watcher NUMBER: TOTAL events`
abbrev pub watcher_line : (number total : ℕ) → List ℕ
watcher_line number total = codes "watcher " ++ decimal number ++ codes ": " ++ decimal total ++ codes " events\n"

-- what is said of one watcher, and of all, of which the first has this number
abbrev pub section : ℕ → Account → List ℕ
section number a = watcher_line number a.total ++ event_lines a.kept

abbrev pub sections : ℕ → List Account → List ℕ
sections number [] = []
sections number (a ∷ accounts) = section number a ++ sections (number + 1) accounts

-- the whole report; watchers are counted from 0
abbrev pub report_text : List Account → List ℕ
report_text accounts = sections 0 accounts
