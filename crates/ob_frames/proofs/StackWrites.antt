-- What writes to the stack leave as it was, and what they write. The laws of memory come in as premises.
use Rattle.std.proofs.Common.{◌≡◌, ℕ, ◌+◌, ◌%◌, ◌^◌, ◌<◌, ◌≤◌, ◌∙◌, true, arith, inl, inr}
use Rattle.ob_flat.specs.Laws.{FieldIsRead, OtherFieldsAreKept, OthersAreKeptByZeros, LayoutIsKept}
use Rattle.ob_flat.specs.Memory.{Memory, IsIn, field, with_field, with_zeros}
use Rattle.ob_frames.specs.Writes.{HasStack, IsOnStack, KeepsBelow, WritesWord, frame_opened}

pub on_stack : (m : Memory) (address n : ℕ) → HasStack m → IsOnStack address n → IsIn m address n
on_stack m address n stack inside =
    inr (inl (record { begins = inside.begins; ends = omega (arith, stack.stack, inside.ends) }))

pub stack_put : (m : Memory) (address w : ℕ) → LayoutIsKept → HasStack m → IsOnStack address 8 → HasStack (with_field m address 8 w)
stack_put m address w law stack inside = record {
  stack = stack.stack;
  laid_out = (law m address 8 w true stack.laid_out (on_stack m address 8 stack inside)).0;
}

stack_zeroed : (m : Memory) (address n : ℕ) → LayoutIsKept → HasStack m → IsOnStack address n → HasStack (with_zeros m address n)
stack_zeroed m address n law stack inside = record {
  stack = stack.stack;
  laid_out = (law m address n 0 true stack.laid_out (on_stack m address n stack inside)).2;
}

pub below_put : (m : Memory) (address w : ℕ) → OtherFieldsAreKept → HasStack m → IsOnStack address 8 → KeepsBelow m (with_field m address 8 w) address
below_put m address w law stack inside other low high =
    let before : IsOnStack other 8 = record { begins = low; ends = omega (arith, inside.ends) } in
    law m address 8 w other 8 stack.laid_out (on_stack m address 8 stack inside) (on_stack m other 8 stack before) (inr high)

below_zeros : (m : Memory) (address n : ℕ) → OthersAreKeptByZeros → HasStack m → IsOnStack address n → KeepsBelow m (with_zeros m address n) address
below_zeros m address n law stack inside other low high =
    let before : IsOnStack other 8 = record { begins = low; ends = omega (arith, inside.ends) } in
    law m address n other 8 stack.laid_out (on_stack m address n stack inside) (on_stack m other 8 stack before) (inr high)

pub below_less : (old new : Memory) (less end : ℕ) → less ≤ end → KeepsBelow old new end → KeepsBelow old new less
below_less old new less end order kept address low high = kept address low (omega arith)

below_after : (old between new : Memory) (end : ℕ) → KeepsBelow old between end → KeepsBelow between new end → KeepsBelow old new end
below_after old between new end first second address low high = second address low high ∙ first address low high

-- what opening a frame gives
pub record IsOpened (base to caller : ℕ) (old new : Memory) : Type 0 where
  pub link : field new base 8 ≡ to
  pub outer : field new (base + 8) 8 ≡ caller
  pub below : KeepsBelow old new base
  pub stack : HasStack new

small : (w : ℕ) → w < 2 ^ 64 → w % 256 ^ 8 ≡ w
small w h = omega arith

pub opened : (base length link caller : ℕ) (m : Memory) → FieldIsRead → OtherFieldsAreKept → OthersAreKeptByZeros → LayoutIsKept → HasStack m → IsOnStack base length → 16 ≤ length → link < 2 ^ 64 → caller < 2 ^ 64 → IsOpened base link caller m (frame_opened base length link caller m)
opened base length link caller m read others zeros layout stack inside long small_link small_caller =
    let zeroed : Memory = with_zeros m base length in
    let linked : Memory = with_field zeroed base 8 link in
    let first : IsOnStack base 8 = record { begins = inside.begins; ends = omega (arith, inside.ends) } in
    let second : IsOnStack (base + 8) 8 = record { begins = omega (arith, inside.begins); ends = omega (arith, inside.ends) } in
    let has_zeros : HasStack zeroed = stack_zeroed m base length layout stack inside in
    let has_link : HasStack linked = stack_put zeroed base link layout has_zeros first in
    record {
      link =
          below_put linked (base + 8) caller others has_link second base inside.begins (omega arith)
          ∙ read zeroed base 8 link has_zeros.laid_out (on_stack zeroed base 8 has_zeros first)
          ∙ small link small_link;
      outer = read linked (base + 8) 8 caller has_link.laid_out (on_stack linked (base + 8) 8 has_link second) ∙ small caller small_caller;
      below =
          below_after m linked (with_field linked (base + 8) 8 caller) base
          (below_after m zeroed linked base (below_zeros m base length zeros stack inside) (below_put zeroed base link others has_zeros first))
          (below_less linked (with_field linked (base + 8) 8 caller) base (base + 8) (omega arith) (below_put linked (base + 8) caller others has_link second));
      stack = stack_put linked (base + 8) caller layout has_link second;
    }

pub writes_word : (m : Memory) (address w : ℕ) → FieldIsRead → OtherFieldsAreKept → HasStack m → IsOnStack address 8 → w < 2 ^ 64 → WritesWord address w m (with_field m address 8 w)
writes_word m address w read others stack inside fits = record {
  written = read m address 8 w stack.laid_out (on_stack m address 8 stack inside) ∙ small w fits;
  others = λ other n within apart. others m address 8 w other n stack.laid_out (on_stack m address 8 stack inside) within apart;
}
