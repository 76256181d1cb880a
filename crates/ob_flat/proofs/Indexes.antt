-- Where addresses stand in the lists: in order, and granule by granule.
use Rattle.std.proofs.Common.{◌≡◌, ℕ, ◌+◌, ◌-◌, ◌%◌, ◌≤◌, length, arith, inl, inr}
use Rattle.std.proofs.lemmas.Bool.Decides.{nat_tests}
use Rattle.ob_flat.specs.Memory.{Memory, IsIn, IsLaidOut, index}

-- bytes that stand together as addresses stand together in the list
pub index_from : (m : Memory) (address n other : ℕ) → IsLaidOut m → IsIn m address n → address ≤ other → other ≤ address + n → index m other ≡ index m address + (other - address)
index_from m address n other l (inl h) low high = grind (arith, nat_tests, h.begins, h.ends, l.statics)
index_from m address n other l (inr (inl h)) low high = grind (arith, nat_tests, h.begins, h.ends, l.stack)
index_from m address n other l (inr (inr h)) low high = grind (arith, nat_tests, h.begins, h.ends)

pub index_end : (m : Memory) (address n : ℕ) → IsLaidOut m → IsIn m address n → index m address + n ≤ length m.bytes
index_end m address n l (inl h) = grind (arith, nat_tests, h.begins, h.ends, l.statics, l.bytes)
index_end m address n l (inr (inl h)) = grind (arith, nat_tests, h.begins, h.ends, l.stack, l.bytes)
index_end m address n l (inr (inr h)) = grind (arith, nat_tests, h.begins, h.ends, l.bytes)

pub index_multiple : (m : Memory) (address n : ℕ) → IsLaidOut m → IsIn m address n → address % 8 ≡ 0 → index m address % 8 ≡ 0
index_multiple m address n l (inl h) e = grind (arith, nat_tests, h.begins, h.ends, l.statics)
index_multiple m address n l (inr (inl h)) e = grind (arith, nat_tests, h.begins, h.ends, l.stack)
index_multiple m address n l (inr (inr h)) e = grind (arith, nat_tests, h.begins, h.ends)

pub index_order : (m : Memory) (address n other k : ℕ) → IsLaidOut m → IsIn m address n → IsIn m other k → address + n ≤ other → index m address + n ≤ index m other
index_order m address n other k l (inl h) (inl g) e = grind (arith, nat_tests, h.begins, h.ends, g.begins, g.ends, l.statics)
index_order m address n other k l (inl h) (inr (inl g)) e = grind (arith, nat_tests, h.begins, h.ends, g.begins, g.ends, l.statics, l.stack)
index_order m address n other k l (inl h) (inr (inr g)) e = grind (arith, nat_tests, h.begins, h.ends, g.begins, g.ends, l.statics)
index_order m address n other k l (inr (inl h)) (inl g) e = grind (arith, nat_tests, h.begins, h.ends, g.begins, g.ends, l.statics, l.stack)
index_order m address n other k l (inr (inl h)) (inr (inl g)) e = grind (arith, nat_tests, h.begins, h.ends, g.begins, g.ends, l.stack)
index_order m address n other k l (inr (inl h)) (inr (inr g)) e = grind (arith, nat_tests, h.begins, h.ends, g.begins, g.ends, l.stack)
index_order m address n other k l (inr (inr h)) (inl g) e = grind (arith, nat_tests, h.begins, h.ends, g.begins, g.ends, l.statics)
index_order m address n other k l (inr (inr h)) (inr (inl g)) e = grind (arith, nat_tests, h.begins, h.ends, g.begins, g.ends, l.stack)
index_order m address n other k l (inr (inr h)) (inr (inr g)) e = grind (arith, nat_tests, h.begins, h.ends, g.begins, g.ends)
