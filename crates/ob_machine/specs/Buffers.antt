-- The buffers between a run and its devices.
use Rattle.std.specs.Prelude.{◌≡◌, ◌≢◌, ℕ, Bool, false, List, [], ◌++◌, Option, MatchBool}
use Rattle.std.specs.Io.KnownBytes.{IsAtEnd, append_known}
use Rattle.ob_base.specs.Sink.{Tally, tally_known}

-- bytes that were read and that the program didn't take yet, and whether the source's end was met
pub record Unread : Type 0 where
  pub bytes : List ℕ
  pub at_end : Bool

abbrev pub nothing_read : Unread
nothing_read = record { bytes = []; at_end = false }

-- the next byte can only be had by a read
pub record IsUsedUp (u : Unread) : Type 0 where
  pub none : u.bytes ≡ []
  pub more : u.at_end ≡ false

-- after a read: the end is met where it gave nothing, and then the source has no more
abbrev pub IsFilled : Unread → Option (List ℕ) → Type 0
IsFilled u left = MatchBool u.at_end ((u.bytes ≡ []) × IsAtEnd left) (u.bytes ≢ [])

-- the sink took and tallied some bytes, and these and the pending ones are the bytes that were put
pub record SentOrPending (taken_before taken_now : Option (List ℕ)) (tally_before tally_now : Option Tally) (pending bytes : List ℕ) : Type 0 where
  pub sent : List ℕ
  pub took : taken_now ≡ append_known taken_before sent
  pub tallied : tally_now ≡ tally_known tally_before sent
  pub rest : sent ++ pending ≡ bytes
