-- Out-of-bounds descriptors (Ruwase and Lam, NDSS 2004): a pointer that has left its object is kept as a pair of the object
-- and its offset in bytes, and the machine holds the word of the slot that the pair stands in.
use Rattle.std.specs.Prelude.{◌≡◌, ℕ, ◌+◌, ◌-◌, ◌*◌, ◌/◌, ◌%◌, ℤ, Bool, false, ◌&&◌, ◌==◌, nat_le, List, [], ◌∷◌, ◌++◌, length, Option, Some, None, if◌then◌else◌, map, position, is_none, is_some, count_by, unwrap_or, slice_index_or, slice_set}
use Rattle.std.specs.Ordering.{int_eq}
use Rattle.ob_model.specs.Limits.{slots_start, slot_distance}

-- an object and an offset in bytes, which may be negative
abbrev pub Pair : Type 0
Pair = ℕ × ℤ

-- the slots that were ever used, each free or with a pair; the slots past the last are free
abbrev pub Slots : Type 0
Slots = List (Option Pair)

-- ---- which slot holds a pair

abbrev pub same_pair : Pair → Pair → Bool
same_pair p q = (p.0 == q.0) && int_eq p.1 q.1

-- whether a slot holds this pair
abbrev pub holds : Pair → Option Pair → Bool
holds pair None = false
holds pair (Some other) = same_pair pair other

-- the slot that holds the pair, where the pair is listed
abbrev pub slot_of : Slots → Pair → Option ℕ
slot_of slots pair = position (holds pair) slots

-- how many pairs stand
abbrev pub pair_count : Slots → ℕ
pair_count slots = count_by is_some slots

-- what slot k holds; nothing past the last slot
abbrev pub pair_in : Slots → ℕ → Option Pair
pair_in slots k = slice_index_or slots k None

-- no pair stands in two slots
abbrev pub IsInterned : Slots → Type 0
IsInterned slots = (i j : ℕ) (pair : Pair) → pair_in slots i ≡ Some pair → pair_in slots j ≡ Some pair → i ≡ j

-- ---- words

-- the word of slot k
abbrev pub word_of : ℕ → ℕ
word_of k = slots_start + slot_distance * k

-- whether a word is that of a slot, and the pair that such a word names
abbrev pub is_slot_word : ℕ → Bool
is_slot_word w = nat_le slots_start w && (w - slots_start) % slot_distance == 0

abbrev pub named_pair : Slots → ℕ → Option Pair
named_pair slots w = if is_slot_word w then pair_in slots ((w - slots_start) / slot_distance) else None

-- ---- a new pair

-- the least free one of the slots that were ever used
abbrev pub vacant : Slots → Option ℕ
vacant slots = position is_none slots

-- the least free slot, which may be the one past the last
abbrev pub free_slot : Slots → ℕ
free_slot slots = unwrap_or (vacant slots) (length slots)

-- the slots with a pair in the least free one
abbrev pub put_slot : Option ℕ → Pair → Slots → Slots
put_slot None pair slots = slots ++ Some pair ∷ []
put_slot (Some k) pair slots = slice_set slots k (Some pair)

abbrev pub with_pair : Pair → Slots → Slots
with_pair pair slots = put_slot (vacant slots) pair slots

-- ---- death; a freed object that stays known keeps its pairs

-- whether a slot holds a pair of an object that dies
abbrev pub is_dying : (ℕ → Bool) → Option Pair → Bool
is_dying dies None = false
is_dying dies (Some pair) = dies pair.0

-- the slots once those of the objects that die are freed
abbrev pub surviving_pairs : (ℕ → Bool) → Slots → Slots
surviving_pairs dies slots = map (λ slot. if is_dying dies slot then None else slot) slots
