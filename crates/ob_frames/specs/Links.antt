-- The link words of frames. They lie among the bytes that a program's objects have, and a program goes on past memory errors,
-- so it matters that nothing changes them while their call is in progress.
use Rattle.std.specs.Prelude.{◌≡◌, ℕ, ◌+◌, ◌<◌, ◌≤◌, ◌⊎◌, List, [], ◌∷◌, ◌++◌, length}
use Rattle.ob_flat.specs.Memory.{Memory, field}
use Rattle.ob_code.specs.Frames.{top_base}
use Rattle.ob_code.specs.State.{Call, Space}

-- words 0 and 1 of a call's frame are what entering it wrote there: the place that it returns to, and the base of the frame
-- of the call around it
pub record HasLinks (m : Memory) (c : Call) (outer : List Call) : Type 0 where
  pub link : field m c.base 8 ≡ c.link
  pub caller : field m (c.base + 8) 8 ≡ top_base outer

-- so have all calls in progress
abbrev pub AllHaveLinks : Memory → List Call → Type 0
AllHaveLinks m [] = Unit {0}
AllHaveLinks m (c ∷ outer) = HasLinks m c outer × AllHaveLinks m outer

-- each call that was in progress, and still is, has its link words. Calls are left innermost first: one is still in progress
-- where more calls are than those around it
abbrev pub LinksAreKept : List Call → List Call → Memory → Type 0
LinksAreKept before after m =
    (inner : List Call) (c : Call) (outer : List Call) →
    before ≡ inner ++ c ∷ outer →
    length outer < length after →
    HasLinks m c outer

-- from one space of the machine's definition to another
abbrev pub KeepsLinks : Space → Space → Type 0
KeepsLinks old new = LinksAreKept old.calls new.calls new.memory

-- n bytes from an address on meet neither link word of a call in progress
abbrev pub MeetsNoLink : List Call → ℕ → ℕ → Type 0
MeetsNoLink [] address n = Unit {0}
MeetsNoLink (c ∷ cs) address n = ((address + n ≤ c.base) ⊎ (c.base + 16 ≤ address)) × MeetsNoLink cs address n
