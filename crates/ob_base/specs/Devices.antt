-- What a device tells before and after some calls of it, as one record each, and what came of the calls. What a relation here says of contents, it says where the device tells them: of one that tells nothing it says less, and nothing false.
use Rattle.std.specs.Prelude.{◌≡◌, ℕ, ◌<◌, ◌⊎◌, List, ◌++◌, length, ⊤, Option, Some, None, IsSomeAnd}
use Rattle.std.specs.FinMap.{get}
use Rattle.std.specs.Io.KnownBytes.{append_known, prepend_known}
use Rattle.ob_base.specs.Faults.{Rose}
use Rattle.ob_base.specs.Folder.{Files, IsMissing}
use Rattle.ob_base.specs.Sink.{Tally, TakesPrefix, tally_known}

-- a source: the bytes that are still to come, and its count of faults
pub record Reading : Type 0 where
  pub left_before : Option (List ℕ)
  pub left_now : Option (List ℕ)
  pub faults_before : ℕ
  pub faults_now : ℕ

-- a sink: the bytes that it took, their tally, and its count of faults
pub record Writing : Type 0 where
  pub taken_before : Option (List ℕ)
  pub taken_now : Option (List ℕ)
  pub tally_before : Option Tally
  pub tally_now : Option Tally
  pub faults_before : ℕ
  pub faults_now : ℕ

-- a folder: its files, which no load changes, and its count of faults
pub record Loading : Type 0 where
  pub files : Option Files
  pub faults_before : ℕ
  pub faults_now : ℕ

-- ---- a source

-- what a source or a sink tells of its bytes that tells nothing
abbrev pub untold : Option (List ℕ)
untold = None

-- where the source tells its bytes, they are these
abbrev pub AreTold : Option (List ℕ) → List ℕ → Type 0
AreTold None bytes = ⊤
AreTold (Some told) bytes = told ≡ bytes

-- nothing was read
pub record IsUnread (r : Reading) : Type 0 where
  pub left : r.left_now ≡ r.left_before
  pub quiet : r.faults_now ≡ r.faults_before

-- no read failed: the input is all that the source had, of which some was read. It may have been read past what was wanted, since reads go through a buffer.
pub record IsWhole (r : Reading) (input : List ℕ) : Type 0 where
  pub read : List ℕ
  pub unread : List ℕ
  pub input_is : input ≡ read ++ unread
  pub was : r.left_before ≡ prepend_known read r.left_now
  pub told : AreTold r.left_now unread
  pub quiet : r.faults_now ≡ r.faults_before

-- a read failed: the input is what was read until then
pub record IsCutShort (r : Reading) (input : List ℕ) : Type 0 where
  pub was : r.left_before ≡ prepend_known input r.left_now
  pub cause : Rose r.faults_before r.faults_now

-- ---- a sink

-- nothing was written
pub record IsUnwritten (w : Writing) : Type 0 where
  pub taken : w.taken_now ≡ w.taken_before
  pub tally : w.tally_now ≡ w.tally_before
  pub quiet : w.faults_now ≡ w.faults_before

-- all of the output was taken
pub record IsWritten (w : Writing) (output : List ℕ) : Type 0 where
  pub took : w.taken_now ≡ append_known w.taken_before output
  pub tallied : w.tally_now ≡ tally_known w.tally_before output
  pub quiet : w.faults_now ≡ w.faults_before

-- a write failed, and a prefix of the output was taken
pub record IsCutOff (w : Writing) (output : List ℕ) : Type 0 where
  pub took : TakesPrefix w.taken_before w.taken_now w.tally_before w.tally_now output
  pub cause : Rose w.faults_before w.faults_now

-- ---- a folder

-- no load failed
abbrev pub IsSound : Loading → Type 0
IsSound l = l.faults_now ≡ l.faults_before

-- the file can't be had: a load failed, or the folder tells its files and has none of this name
abbrev pub IsUnavailable : Loading → List ℕ → Type 0
IsUnavailable l name = Rose l.faults_before l.faults_now ⊎ (IsMissing l.files name × IsSound l)

-- where the folder tells its files, the file of this name has these bytes
abbrev pub IsToldAs : Option Files → List ℕ → List ℕ → Type 0
IsToldAs None name bytes = ⊤
IsToldAs (Some files) name bytes = get files name ≡ Some bytes

-- where the folder tells its files, there is one of this name, with more than so many bytes
abbrev pub IsToldLong : Option Files → List ℕ → ℕ → Type 0
IsToldLong None name most = ⊤
IsToldLong (Some files) name most = IsSomeAnd (get files name) (λ bytes. most < length bytes)
