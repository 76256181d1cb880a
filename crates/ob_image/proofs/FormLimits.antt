-- Limits of forms: fields of a form are narrow enough for their bytes, an instruction that they stand for has a spelling, and the
-- fields of an instruction are those of its form.
use Rattle.std.proofs.Common.{◌≡◌, Bool, true, refl, ℕ, zero, suc, ◌-◌, ◌^◌, ◌<◌, ◌≤◌, List, [], ◌∷◌, get_or, sym, subst, arith, Fits, rules}
use Rattle.std.specs.Prelude.{◌&&◌, nat_le}
use Rattle.std.specs.List.{AllByRecursion}
use Rattle.std.proofs.lemmas.Bool.{leb-true}
use Rattle.std.specs.Int.{w64}
use Rattle.std.proofs.Math.Facts.{sfits_to_z}
use Rattle.ob_code.specs.declared.instructions.Instr.{Instr}
use Rattle.ob_code.specs.declared.instructions.Instr.TheVariants.{Tick, Set, Move, Convert, Binary, Compare, Jump, JumpZero, JumpNonzero, Call, Return, Static, Local, Wipe, Load, Store, Slide, SlideBy, Shift, Same, Order, Difference, GetChar, PutChar, Malloc, Calloc, Free, Exit}
use Rattle.ob_image.specs.declared.layout.Fields.{Fields}
use Rattle.ob_image.specs.declared.layout.Limits.{Limits}
use Rattle.ob_image.specs.Instructions.{instruction, instructions}
use Rattle.ob_image.specs.Layout.{any_word, any_number, up_to, fields_of, limits_of, all_limits, AreFields, HasNumber, IsInstruction}
use Rattle.ob_image.specs.Rules.{InstructionRule}
use Rattle.ob_image.proofs.Tests.{both}
use Rattle.ob_image.proofs.Forms.{fields_back}
use Rattle.ob_image.proofs.KindNumbers.{type_most, kind_most, operator_most, relation_most, ordering_most}

-- what holds of each element, and of the default
all_at : {A : Type 0} (P : A → Type 0) (xs : List A) (d : A) → AllByRecursion P xs → P d → (i : ℕ) → P (get_or xs i d)
all_at P [] d all h i = h
all_at P (x ∷ xs) d all h zero = all.0
all_at P (x ∷ xs) d all h (suc i) = all_at P xs d all.1 h i

-- an instruction that fields stand for has a number of eight bytes
wide : (n : ℕ) → n < 2 ^ 64 → Fits w64 n
wide n h = search (rules, h)

has_number : (f : Fields) → f.imm < 2 ^ 64 → HasNumber (instruction f)
unfolding instruction instructions
has_number f h =
    let n = sfits_to_z {w = w64} {n = f.imm} (wide f.imm h) in
    all_at HasNumber (instructions f) Tick (tt, (n, (tt, (tt, (tt, (tt, (n, (n, (n, (n, (tt, (n, (n, (n, (tt, (tt, (n, (n, (tt, (tt, (tt, (n, (tt, (tt, (tt, (tt, (tt, (tt, tt)))))))))))))))))))))))))))) tt (f.op - 1)

-- the limits of a form are those of its fields' bytes
abbrev pub IsNarrow : Limits → Type 0
IsNarrow l = (l.kind < 256) × (l.line < 4294967296) × (l.a < 4294967296) × (l.b < 4294967296) × (l.c < 4294967296) × (l.imm < 18446744073709551616)

abbrev is_narrow : Limits → Bool
is_narrow l = nat_le l.kind 255 && (nat_le l.line any_word && (nat_le l.a any_word && (nat_le l.b any_word && (nat_le l.c any_word && nat_le l.imm any_number))))

narrow_as_tested : (l : Limits) → is_narrow l ≡ true → IsNarrow l
narrow_as_tested l e =
    let kind = both (nat_le l.kind 255) _ e in
    let line = both (nat_le l.line any_word) _ kind.1 in
    let a = both (nat_le l.a any_word) _ line.1 in
    let b = both (nat_le l.b any_word) _ a.1 in
    let c = both (nat_le l.c any_word) _ b.1 in (
      omega (arith, leb-true l.kind 255 kind.0),
      omega (arith, leb-true l.line any_word line.0),
      omega (arith, leb-true l.a any_word a.0),
      omega (arith, leb-true l.b any_word b.0),
      omega (arith, leb-true l.c any_word c.0),
      omega (arith, leb-true l.imm any_number c.1),
    )

abbrev are_narrow : List Limits → Bool
are_narrow [] = true
are_narrow (l ∷ ls) = is_narrow l && are_narrow ls

all_as_tested : (ls : List Limits) → are_narrow ls ≡ true → AllByRecursion IsNarrow ls
all_as_tested [] e = tt
all_as_tested (l ∷ ls) e = let t = both (is_narrow l) (are_narrow ls) e in (narrow_as_tested l t.0, all_as_tested ls t.1)

pub narrow : (op : ℕ) → IsNarrow (limits_of op)
unfolding limits_of all_limits
narrow op = all_at IsNarrow all_limits (up_to 0 0 0 0 0 0) (all_as_tested all_limits refl) (narrow_as_tested (up_to 0 0 0 0 0 0) refl) (op - 1)

pub fields_are : (f : Fields) → AreFields f → IsInstruction (instruction f)
fields_are f are =
    record {
      fields = subst AreFields (sym (fields_back f are)) are;
      number = has_number f (omega (arith, are.imm, (narrow f.op).5));
    }

-- what a field is at most, for an operation as a number
pub kind_at : (op n kind : ℕ) → op ≡ n → kind ≤ (limits_of op).kind → kind ≤ (limits_of n).kind
kind_at op n kind e h = subst (λ (m : ℕ). kind ≤ (limits_of m).kind) e h

pub imm_at : (op n imm : ℕ) → op ≡ n → imm ≤ (limits_of op).imm → imm ≤ (limits_of n).imm
imm_at op n imm e h = subst (λ (m : ℕ). imm ≤ (limits_of m).imm) e h

-- ---- fields of an instruction

-- the numbers of fields as the program has them
pub record AreNumbers (f : Fields) : Type 0 where
  pub line : f.line ≤ any_word
  pub a : f.a ≤ any_word
  pub b : f.b ≤ any_word
  pub c : f.c ≤ any_word
  pub imm : f.imm ≤ any_number

zero_most : 0 ≤ 0
zero_most = omega arith

pub within : (i : Instr) → AreNumbers (fields_of i) → InstructionRule i → AreFields (fields_of i)
unfolding limits_of all_limits
within Tick n rule = record { first = omega arith; last = omega arith; kind = zero_most; line = zero_most; a = zero_most; b = zero_most; c = zero_most; imm = zero_most }
within (Set a imm) n rule = record { first = omega arith; last = omega arith; kind = zero_most; line = zero_most; a = n.a; b = zero_most; c = zero_most; imm = n.imm }
within (Move a b) n rule = record { first = omega arith; last = omega arith; kind = zero_most; line = zero_most; a = n.a; b = n.b; c = zero_most; imm = zero_most }
within (Convert kind a b) n rule = record { first = omega arith; last = omega arith; kind = type_most kind; line = zero_most; a = n.a; b = n.b; c = zero_most; imm = zero_most }
within (Binary kind operator a b c) n rule = record { first = omega arith; last = omega arith; kind = type_most kind; line = zero_most; a = n.a; b = n.b; c = n.c; imm = operator_most operator }
within (Compare kind relation a b c) n rule = record { first = omega arith; last = omega arith; kind = type_most kind; line = zero_most; a = n.a; b = n.b; c = n.c; imm = relation_most relation }
within (Jump imm) n rule = record { first = omega arith; last = omega arith; kind = zero_most; line = zero_most; a = zero_most; b = zero_most; c = zero_most; imm = n.imm }
within (JumpZero b imm) n rule = record { first = omega arith; last = omega arith; kind = zero_most; line = zero_most; a = zero_most; b = n.b; c = zero_most; imm = n.imm }
within (JumpNonzero b imm) n rule = record { first = omega arith; last = omega arith; kind = zero_most; line = zero_most; a = zero_most; b = n.b; c = zero_most; imm = n.imm }
within (Call a b imm) n rule = record { first = omega arith; last = omega arith; kind = zero_most; line = zero_most; a = n.a; b = n.b; c = zero_most; imm = n.imm }
within (Return b) n rule = record { first = omega arith; last = omega arith; kind = zero_most; line = zero_most; a = zero_most; b = n.b; c = zero_most; imm = zero_most }
within (Static a imm) n rule = record { first = omega arith; last = omega arith; kind = zero_most; line = zero_most; a = n.a; b = zero_most; c = zero_most; imm = n.imm }
within (Local a imm) n rule = record { first = omega arith; last = omega arith; kind = zero_most; line = zero_most; a = n.a; b = zero_most; c = zero_most; imm = n.imm }
within (Wipe imm) n rule = record { first = omega arith; last = omega arith; kind = zero_most; line = zero_most; a = zero_most; b = zero_most; c = zero_most; imm = n.imm }
within (Load kind line a b c) n rule = record { first = omega arith; last = omega arith; kind = kind_most kind; line = n.line; a = n.a; b = n.b; c = n.c; imm = zero_most }
within (Store kind line a b c) n rule = record { first = omega arith; last = omega arith; kind = kind_most kind; line = n.line; a = n.a; b = n.b; c = n.c; imm = zero_most }
within (Slide a b c imm) n rule = record { first = omega arith; last = omega arith; kind = zero_most; line = zero_most; a = n.a; b = n.b; c = n.c; imm = n.imm }
within (SlideBy a b imm) n rule = record { first = omega arith; last = omega arith; kind = zero_most; line = zero_most; a = n.a; b = n.b; c = zero_most; imm = n.imm }
within (Shift a b c) n rule = record { first = omega arith; last = omega arith; kind = zero_most; line = zero_most; a = n.a; b = n.b; c = n.c; imm = zero_most }
within (Same a b c) n rule = record { first = omega arith; last = omega arith; kind = zero_most; line = zero_most; a = n.a; b = n.b; c = n.c; imm = zero_most }
within (Order relation a b c) n rule = record { first = omega arith; last = omega arith; kind = zero_most; line = zero_most; a = n.a; b = n.b; c = n.c; imm = ordering_most relation rule }
within (Difference a b c imm) n rule = record { first = omega arith; last = omega arith; kind = zero_most; line = zero_most; a = n.a; b = n.b; c = n.c; imm = n.imm }
within (GetChar a) n rule = record { first = omega arith; last = omega arith; kind = zero_most; line = zero_most; a = n.a; b = zero_most; c = zero_most; imm = zero_most }
within (PutChar a b) n rule = record { first = omega arith; last = omega arith; kind = zero_most; line = zero_most; a = n.a; b = n.b; c = zero_most; imm = zero_most }
within (Malloc a b) n rule = record { first = omega arith; last = omega arith; kind = zero_most; line = zero_most; a = n.a; b = n.b; c = zero_most; imm = zero_most }
within (Calloc a b c) n rule = record { first = omega arith; last = omega arith; kind = zero_most; line = zero_most; a = n.a; b = n.b; c = n.c; imm = zero_most }
within (Free line b) n rule = record { first = omega arith; last = omega arith; kind = zero_most; line = n.line; a = zero_most; b = n.b; c = zero_most; imm = zero_most }
within (Exit b) n rule = record { first = omega arith; last = omega arith; kind = zero_most; line = zero_most; a = zero_most; b = n.b; c = zero_most; imm = zero_most }
