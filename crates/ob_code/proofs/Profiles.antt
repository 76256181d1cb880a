-- No rule of images speaks of the profile.
use Rattle.std.proofs.Common.{ℕ, inl, inr}
use Rattle.ob_model.specs.declared.settings.Profile.{Profile}
use Rattle.ob_code.specs.declared.image.Image.{Image}
use Rattle.ob_code.specs.declared.instructions.Instr.{Instr}
use Rattle.ob_code.specs.declared.instructions.Instr.TheVariants as instr
use Rattle.ob_code.specs.Rules.{AreOperandsSound, IsCodeSound, IsInstructionSound, IsEntrySound, AreFunctionsSound, IsNameRowSound, IsVerified, instruction_at}

abbrev for_profile : Profile → Image → Image
for_profile p image = record image { profile = p }

operands_for : (p : Profile) (image : Image) (f : ℕ) (i : Instr) → AreOperandsSound image f i → AreOperandsSound (for_profile p image) f i
operands_for p image f instr.Tick h = h
operands_for p image f (instr.Set a imm) h = h
operands_for p image f (instr.Move a b) h = h
operands_for p image f (instr.Convert kind a b) h = h
operands_for p image f (instr.Binary kind operator a b c) h = h
operands_for p image f (instr.Compare kind relation a b c) h = h
operands_for p image f (instr.Jump imm) h = h
operands_for p image f (instr.JumpZero b imm) h = h
operands_for p image f (instr.JumpNonzero b imm) h = h
operands_for p image f (instr.Call a b imm) h = h
operands_for p image f (instr.Return b) h = h
operands_for p image f (instr.Static a imm) h = h
operands_for p image f (instr.Local a imm) h = h
operands_for p image f (instr.Wipe imm) h = h
operands_for p image f (instr.Load kind line a b c) h = h
operands_for p image f (instr.Store kind line a b c) h = h
operands_for p image f (instr.Slide a b c imm) h = h
operands_for p image f (instr.SlideBy a b imm) h = h
operands_for p image f (instr.Shift a b c) h = h
operands_for p image f (instr.Same a b c) h = h
operands_for p image f (instr.Order relation a b c) h = h
operands_for p image f (instr.Difference a b c imm) h = h
operands_for p image f (instr.GetChar a) h = h
operands_for p image f (instr.PutChar a b) h = h
operands_for p image f (instr.Malloc a b) h = h
operands_for p image f (instr.Calloc a b c) h = h
operands_for p image f (instr.Free line b) h = h
operands_for p image f (instr.Exit b) h = h

code_for : (p : Profile) (image : Image) (i : ℕ) → IsCodeSound image i → IsCodeSound (for_profile p image) i
code_for p image i sound f of_it =
    let it : IsInstructionSound image f i = sound f (record { is_function = of_it.is_function; after_entry = of_it.after_entry; before_end = of_it.before_end }) in
    record { operands = operands_for p image f (instruction_at image i) it.operands; last = it.last }

entry_for : (p : Profile) (image : Image) (i : ℕ) → IsEntrySound image i → IsEntrySound (for_profile p image) i
entry_for p image i h = record { first = h.first; order = h.order; in_code = h.in_code }

functions_for : (p : Profile) (image : Image) → AreFunctionsSound image → AreFunctionsSound (for_profile p image)
functions_for p image h =
    record {
      some = h.some;
      rows = record { most = h.rows.most; each = λ i below. record { entry = entry_for p image i (h.rows.each i below).entry; frame = (h.rows.each i below).frame } };
    }

held_for : (p : Profile) (image : Image) (i : ℕ) → IsNameRowSound image i → IsNameRowSound (for_profile p image) i
held_for p image i h =
    record {
      order = h.order;
      held = elim h.held [
        | inl w ↦ inl (w.0, record { exists = w.1.exists; word = w.1.word; size = w.1.size })
        | inr w ↦ inr w
      ];
      kind = h.kind;
      whole = h.whole;
      text = h.text;
    }

pub verified_for : (p : Profile) (image : Image) → IsVerified image → IsVerified (for_profile p image)
verified_for p image h =
    record {
      statics = h.statics;
      pointers = h.pointers;
      functions = functions_for p image h.functions;
      main = record { exists = h.main.exists; no_params = h.main.no_params };
      code = record { most = h.code.most; each = λ i below. code_for p image i (h.code.each i below) };
      names = record { most = h.names.most; each = λ i below. held_for p image i (h.names.each i below) };
    }
