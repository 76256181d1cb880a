-- The devices in memory, as tests use them: what each holds, and which of its calls fail.
use Rattle.std.specs.Prelude.{◌≡◌, ℕ, ◌+◌, ◌-◌, ◌^◌, ◌≤◌, ◌<◌, ◌⊎◌, min, List, ◌++◌, length, take, drop, Contains, None, refl}
use Rattle.std.specs.Coded.{Coded, code_by, coded×, coded_ℕ, coded_list}
use Rattle.std.specs.FinMap.{code, get}
use Rattle.ob_base.specs.Faults.{raised}
use Rattle.ob_base.specs.Folder.{Files}

-- the calls of a device: the numbers of those that fail, counted from 0; how many were made, up to 2^64, past each number that the list can have; and the count of faults
pub record Calls : Type 0 where
  pub fail : List ℕ
  pub made : ℕ
  pub faults : ℕ

-- no call was made yet
abbrev pub no_calls : List ℕ → Calls
no_calls fail = record { fail = fail; made = 0; faults = 0 }

-- the number of the next call is one of those that fail
abbrev pub NextFails : Calls → Type 0
NextFails c = Contains c.fail c.made

-- after one more call
abbrev pub after_call : Calls → Calls
after_call c = record c { made = min (c.made + 1) (2 ^ 64) }

-- after one more call, which failed
abbrev pub after_fault : Calls → Calls
after_fault c = record c { made = min (c.made + 1) (2 ^ 64); faults = raised c.faults }

-- a source: the bytes that are left, and the most that one call gives
pub record SourceState : Type 0 where
  pub left : List ℕ
  pub most : ℕ
  pub calls : Calls

-- how many bytes a call gives into a buffer of so many bytes
abbrev pub given_count : SourceState → ℕ → ℕ
given_count s room = min (length s.left) (min s.most room)

-- the source after a call that gave n bytes
abbrev pub after_read : SourceState → ℕ → SourceState
after_read s n = record { left = drop n s.left; most = s.most; calls = after_call s.calls }

-- a sink: the bytes that it took, how many it takes in all, and the most that one call takes
pub record SinkState : Type 0 where
  pub taken : List ℕ
  pub room : ℕ
  pub most : ℕ
  pub calls : Calls

-- how many bytes of a piece of so many a call takes
abbrev pub taken_count : SinkState → ℕ → ℕ
taken_count s size = min size (min s.most (s.room - length s.taken))

-- the sink after a call that took the first n bytes of a piece
abbrev pub after_write : SinkState → List ℕ → ℕ → SinkState
after_write s piece n = record s { taken = s.taken ++ take n piece; calls = after_call s.calls }

-- the next write of a piece fails: its number is one of those that fail, or there is a byte to take and no room
abbrev pub WriteFails : SinkState → List ℕ → Type 0
WriteFails s piece = NextFails s.calls ⊎ ((s.room ≤ length s.taken) × (0 < length piece))

-- a folder: its files, and its calls
pub record FolderState : Type 0 where
  pub files : Files
  pub calls : Calls

-- calls, and a folder's state, are stored as the pairs of their fields
abbrev pub calls_code : Coded Calls
calls_code = code_by (List ℕ × (ℕ × ℕ)) (coded× (coded_list coded_ℕ) (coded× coded_ℕ coded_ℕ)) (λ c. (c.fail, (c.made, c.faults))) (λ p. record { fail = p.0; made = p.1.0; faults = p.1.1 }) (λ _. refl)

abbrev pub folder_code : Coded FolderState
folder_code = code_by (Files × Calls) (coded× (code (coded_list coded_ℕ) (coded_list coded_ℕ)) calls_code) (λ s. (s.files, s.calls)) (λ p. record { files = p.0; calls = p.1 }) (λ _. refl)

-- the next load of a name fails: its number is one of those that fail, or no file has the name
abbrev pub LoadFails : FolderState → List ℕ → Type 0
LoadFails s name = NextFails s.calls ⊎ (get s.files name ≡ None)
