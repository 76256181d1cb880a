-- Pointers as words (Ruwase and Lam, NDSS 2004; Jones and Kelly). Null is 0. A pointer into a live or freed object, or one past
-- its end, is the object's base plus the offset. Any other pointer has a slot, and its word is 2 ^ 40 + 16 * slot. A word that
-- is none of these names nothing, and is treated as null.
use Rattle.std.specs.Prelude.{ℕ, ◌+◌, ◌-◌, nat_lt, ℤ, pos, unsigned_abs, List, Option, Some, None, if◌then◌else◌}
use Rattle.ob_model.specs.declared.values.Value.{Value}
use Rattle.ob_model.specs.declared.values.Value.TheVariants as value
use Rattle.ob_model.specs.Accesses.{is_far}
use Rattle.ob_model.specs.Descriptors.{Pair, slot_of, pair_count, word_of, named_pair, free_slot, with_pair}
use Rattle.ob_model.specs.Entries.{Known, known_at, known_of}
use Rattle.ob_model.specs.Pointers as moves
use Rattle.ob_model.specs.Pointers.{Moved, moved_by}
use Rattle.ob_code.specs.State.{Space}

-- what a word names: nothing, or an object that is live or freed, with an offset
pub data Target : Type 0 where
  nothing : Target
  into : (k : Known) (offset : ℤ) → Target

-- the object of a slot, and then of an address
abbrev pub found : Option Known → ℤ → Target
found None offset = nothing
found (Some k) offset = into k offset

abbrev pub by_slot : Option Pair → List Known → Target
by_slot None entries = nothing
by_slot (Some pair) entries = found (known_of pair.0 entries) pair.1

abbrev pub by_address : Option Known → ℕ → Target → Target
by_address None w other = other
by_address (Some k) w other = into k (pos (w - k.entry.base))

abbrev pub resolve : Space → ℕ → Target
resolve s w = by_address (known_at w s.entries) w (by_slot (named_pair s.slots w) s.entries)

-- the pointer that a word stands for there, which is null where it names nothing
abbrev pub pointer_of : Target → Value
pointer_of nothing = value.Null
pointer_of (into k offset) = value.Ptr k.entry.object offset

-- ---- moves

abbrev pub size_of : Target → ℕ
size_of nothing = 0
size_of (into k offset) = k.entry.size

abbrev pub base_of : Target → ℕ
base_of nothing = 0
base_of (into k offset) = k.entry.base

-- what moving a pointer gives: a word, and the space with its slot; or that an offset lies too far out, or that no slot may
-- be taken
pub data Shifted : Type 0 where
  shifted : (w : ℕ) (s : Space) → Shifted
  too_far : Shifted
  no_slot : Shifted

abbrev pub new_slot : ℕ → Pair → Space → Shifted
new_slot away pair s =
    if nat_lt (pair_count s.slots) away then shifted (word_of (free_slot s.slots)) (record s { slots = with_pair pair s.slots }) else no_slot

abbrev pub slot_for : Option ℕ → ℕ → Pair → Space → Shifted
slot_for (Some k) away pair s = shifted (word_of k) s
slot_for None away pair s = new_slot away pair s

-- the word of a moved pointer, into an object at this base: null stays null, and one out of bounds gets a slot unless it has one
abbrev pub placed : ℕ → ℕ → Moved → Space → Shifted
placed away base moves.stays_null s = shifted 0 s
placed away base moves.too_far s = too_far
placed away base (moves.in_bounds object offset) s = shifted (base + unsigned_abs offset) s
placed away base (moves.out_of_bounds object offset) s = slot_for (slot_of s.slots (object, offset)) away (object, offset) s

abbrev pub moved : ℕ → Target → ℤ → Space → Shifted
moved away t d s = placed away (base_of t) (moved_by (size_of t) (pointer_of t) d) s

abbrev pub shift : ℕ → Space → ℕ → ℤ → Shifted
shift away s w d = if is_far d then too_far else moved away (resolve s w) d s
