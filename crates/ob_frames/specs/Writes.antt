-- Writes to the stack, and what they leave as it was.
use Rattle.std.specs.Prelude.{◌≡◌, ℕ, ◌+◌, ◌≤◌, ◌⊎◌}
use Rattle.ob_model.specs.Limits.{stack_bytes, stack_start}
use Rattle.ob_flat.specs.Memory.{Memory, IsIn, IsLaidOut, field, with_field, with_zeros}

-- n bytes from an address on lie on the stack
pub record IsOnStack (address n : ℕ) : Type 0 where
  pub begins : stack_start ≤ address
  pub ends : address + n ≤ stack_start + stack_bytes

-- words of the stack that end at or before an address stay as they were
abbrev pub KeepsBelow : Memory → Memory → ℕ → Type 0
KeepsBelow old new end =
    (address : ℕ) → stack_start ≤ address → address + 8 ≤ end → field new address 8 ≡ field old address 8

-- a frame of zero bytes with its link words
abbrev pub frame_opened : ℕ → ℕ → ℕ → ℕ → Memory → Memory
frame_opened base length link caller m =
    with_field (with_field (with_zeros m base length) base 8 link) (base + 8) 8 caller

-- the word at an address was written, and no other byte changed
pub record WritesWord (address w : ℕ) (old new : Memory) : Type 0 where
  pub written : field new address 8 ≡ w
  pub others : (other n : ℕ) →
      IsIn old other n →
      (address + 8 ≤ other) ⊎ (other + n ≤ address) →
      field new other n ≡ field old other n

-- no byte but n from an address on changed
abbrev pub KeepsOthers : Memory → Memory → ℕ → ℕ → Type 0
KeepsOthers old new address n =
    (other k : ℕ) →
    IsIn old other k →
    (address + n ≤ other) ⊎ (other + k ≤ address) →
    field new other k ≡ field old other k

-- the memory has a whole stack
pub record HasStack (m : Memory) : Type 0 where
  pub stack : m.stack ≡ stack_bytes
  pub laid_out : IsLaidOut m
