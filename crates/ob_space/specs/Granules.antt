-- What a store to flat memory changes: one granule of eight bytes, and its mark.
use Rattle.std.specs.Prelude.{◌≡◌, ◌≢◌, ℕ, ◌+◌, ◌-◌, ◌/◌, ◌%◌, ◌^◌, ◌≤◌, ◌⊎◌, Bool, true, false}
use Rattle.ob_model.specs.declared.values.LoadKind.{LoadKind}
use Rattle.ob_model.specs.declared.values.LoadKind.TheVariants.{Num, Ptr}
use Rattle.ob_model.specs.Accesses.{bytes_of_kind}
use Rattle.ob_flat.specs.Memory.{Memory, IsIn, field, has_mark}

abbrev pub is_pointer_kind : LoadKind → Bool
is_pointer_kind (Num t) = false
is_pointer_kind Ptr = true

-- where the granule of an address begins
abbrev pub granule_start : ℕ → ℕ
granule_start address = address - address % 8

-- n bytes from a place on lie beside those from an address on
abbrev pub Beside : ℕ → ℕ → ℕ → ℕ → Type 0
Beside address size other n = (address + size ≤ other) ⊎ (other + n ≤ address)

-- the named bytes have the word's low bytes; the granule's mark says whether it holds a pointer; its other bytes become 0 where it
-- held a pointer, and else stay; no byte and no mark of another granule changes
pub record WritesGranule (kind : LoadKind) (address w : ℕ) (old new : Memory) : Type 0 where
  pub written : field new address (bytes_of_kind kind) ≡ w % 256 ^ bytes_of_kind kind
  pub mark : has_mark new address ≡ is_pointer_kind kind
  pub cleared : (i : ℕ) → granule_start address ≤ i → i + 1 ≤ granule_start address + 8 → Beside address (bytes_of_kind kind) i 1 →
      has_mark old address ≡ true → field new i 1 ≡ 0
  pub kept : (i : ℕ) → granule_start address ≤ i → i + 1 ≤ granule_start address + 8 → Beside address (bytes_of_kind kind) i 1 →
      has_mark old address ≡ false → field new i 1 ≡ field old i 1
  pub others : (other n : ℕ) → IsIn old other n → Beside (granule_start address) 8 other n → field new other n ≡ field old other n
  pub marks : (other : ℕ) → IsIn old other 1 → address / 8 ≢ other / 8 → has_mark new other ≡ has_mark old other
