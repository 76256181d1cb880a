-- Layouts whose counts stop at one more than an object may have, so that they never overflow.
use Rattle.std.specs.Prelude.{ℕ, min, if◌then◌else◌, Option, None}
use Rattle.ob_tree.specs.Sizes.{Layout, MemberPlace, fits_object}
use Rattle.ob_layout.specs.declared.counted.Counted.{Counted}

abbrev pub cap : ℕ
cap = 4194305

-- a number up to the cap
abbrev pub cut : ℕ → ℕ
cut n = min n cap

abbrev pub capped : Layout → Layout
capped l = record { size = min l.size cap; align = l.align; scalars = min l.scalars cap }

-- a counted layout as what it stands for
abbrev pub shown : Counted → Layout
shown l = record { size = l.size; align = l.align; scalars = l.scalars }

-- a layout that is small enough for an object
abbrev pub object_layout : Option Layout → Option Layout
object_layout o = if fits_object o then o else None

-- a member's offset and index
abbrev pub placed : MemberPlace → ℕ × ℕ
placed m = (m.offset, m.index)

abbrev pub capped_place : MemberPlace → ℕ × ℕ
capped_place m = (min m.offset cap, m.index)

abbrev pub capped_pair : ℕ × ℕ → ℕ × ℕ
capped_pair p = (min p.0 cap, p.1)
