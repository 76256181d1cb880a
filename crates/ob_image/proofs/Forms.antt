-- An instruction has its fields back, and fields of a form have their instruction.
use Rattle.std.proofs.Common.{◌≡◌, ℕ, ◌≤◌, refl, arith}
use Rattle.std.specs.Int.{w64, cast_signed, cast_unsigned}
use Rattle.std.proofs.lemmas.Int.{to_z-of_z, of_z-to_z}
use Rattle.ob_code.specs.declared.instructions.Instr.{Instr}
use Rattle.ob_code.specs.declared.instructions.Instr.TheVariants.{Tick, Set, Move, Convert, Binary, Compare, Jump, JumpZero, JumpNonzero, Call, Return, Static, Local, Wipe, Load, Store, Slide, SlideBy, Shift, Same, Order, Difference, GetChar, PutChar, Malloc, Calloc, Free, Exit}
use Rattle.ob_image.specs.declared.layout.Fields.{Fields}
use Rattle.ob_image.specs.Instructions.{instruction, instructions}
use Rattle.ob_image.specs.Layout.{fields, fields_of, limits_of, all_limits, AreFields, HasNumber}
use Rattle.ob_image.proofs.KindNumbers.{type_back, kind_back, operator_back, relation_back, each_from, type_again, kind_again, operator_again, relation_again}

pub instruction_back : (i : Instr) → HasNumber i → instruction (fields_of i) ≡ i
unfolding instruction instructions
instruction_back Tick h = refl
instruction_back (Set a imm) h = let n = to_z-of_z w64 imm h in λ i. Set a (n i)
instruction_back (Move a b) h = refl
instruction_back (Convert kind a b) h = let k = type_back kind in λ i. Convert (k i) a b
instruction_back (Binary kind operator a b c) h = let k = type_back kind in let o = operator_back operator in λ i. Binary (k i) (o i) a b c
instruction_back (Compare kind relation a b c) h = let k = type_back kind in let o = relation_back relation in λ i. Compare (k i) (o i) a b c
instruction_back (Jump imm) h = let n = to_z-of_z w64 imm h in λ i. Jump (n i)
instruction_back (JumpZero b imm) h = let n = to_z-of_z w64 imm h in λ i. JumpZero b (n i)
instruction_back (JumpNonzero b imm) h = let n = to_z-of_z w64 imm h in λ i. JumpNonzero b (n i)
instruction_back (Call a b imm) h = let n = to_z-of_z w64 imm h in λ i. Call a b (n i)
instruction_back (Return b) h = refl
instruction_back (Static a imm) h = let n = to_z-of_z w64 imm h in λ i. Static a (n i)
instruction_back (Local a imm) h = let n = to_z-of_z w64 imm h in λ i. Local a (n i)
instruction_back (Wipe imm) h = let n = to_z-of_z w64 imm h in λ i. Wipe (n i)
instruction_back (Load kind line a b c) h = let k = kind_back kind in λ i. Load (k i) line a b c
instruction_back (Store kind line a b c) h = let k = kind_back kind in λ i. Store (k i) line a b c
instruction_back (Slide a b c imm) h = let n = to_z-of_z w64 imm h in λ i. Slide a b c (n i)
instruction_back (SlideBy a b imm) h = let n = to_z-of_z w64 imm h in λ i. SlideBy a b (n i)
instruction_back (Shift a b c) h = refl
instruction_back (Same a b c) h = refl
instruction_back (Order relation a b c) h = let o = relation_back relation in λ i. Order (o i) a b c
instruction_back (Difference a b c imm) h = let n = to_z-of_z w64 imm h in λ i. Difference a b c (n i)
instruction_back (GetChar a) h = refl
instruction_back (PutChar a b) h = refl
instruction_back (Malloc a b) h = refl
instruction_back (Calloc a b c) h = refl
instruction_back (Free line b) h = refl
instruction_back (Exit b) h = refl

imm_again : (n : ℕ) → n ≤ 18446744073709551615 → cast_unsigned w64 (cast_signed w64 n) ≡ n
imm_again n le = of_z-to_z w64 n (omega arith)

-- what an operation's fields are, for the operation as a number
abbrev IsBack : ℕ → Type 0
IsBack op =
    (kind line a b c imm : ℕ) → kind ≤ (limits_of op).kind → line ≤ (limits_of op).line → a ≤ (limits_of op).a → b ≤ (limits_of op).b → c ≤ (limits_of op).c
    → imm ≤ (limits_of op).imm → fields_of (instruction (fields op kind line a b c imm)) ≡ fields op kind line a b c imm

pub none : (n : ℕ) → n ≤ 0 → 0 ≡ n
none n le = omega arith

back_1 : IsBack 1
unfolding instruction instructions limits_of all_limits
back_1 kind line a b c imm hk hline ha hb hc hi = let k = none kind hk in let nline = none line hline in let na = none a ha in let nb = none b hb in let nc = none c hc in let m = none imm hi in λ i. fields 1 (k i) (nline i) (na i) (nb i) (nc i) (m i)

back_2 : IsBack 2
unfolding instruction instructions limits_of all_limits
back_2 kind line a b c imm hk hline ha hb hc hi = let k = none kind hk in let nline = none line hline in let nb = none b hb in let nc = none c hc in let m = imm_again imm hi in λ i. fields 2 (k i) (nline i) a (nb i) (nc i) (m i)

back_3 : IsBack 3
unfolding instruction instructions limits_of all_limits
back_3 kind line a b c imm hk hline ha hb hc hi = let k = none kind hk in let nline = none line hline in let nc = none c hc in let m = none imm hi in λ i. fields 3 (k i) (nline i) a b (nc i) (m i)

back_4 : IsBack 4
unfolding instruction instructions limits_of all_limits
back_4 kind line a b c imm hk hline ha hb hc hi = let k = type_again kind hk in let nline = none line hline in let nc = none c hc in let m = none imm hi in λ i. fields 4 (k i) (nline i) a b (nc i) (m i)

back_5 : IsBack 5
unfolding instruction instructions limits_of all_limits
back_5 kind line a b c imm hk hline ha hb hc hi = let k = type_again kind hk in let nline = none line hline in let m = operator_again imm hi in λ i. fields 5 (k i) (nline i) a b c (m i)

back_6 : IsBack 6
unfolding instruction instructions limits_of all_limits
back_6 kind line a b c imm hk hline ha hb hc hi = let k = type_again kind hk in let nline = none line hline in let m = relation_again imm (omega (arith, hi)) in λ i. fields 6 (k i) (nline i) a b c (m i)

back_7 : IsBack 7
unfolding instruction instructions limits_of all_limits
back_7 kind line a b c imm hk hline ha hb hc hi = let k = none kind hk in let nline = none line hline in let na = none a ha in let nb = none b hb in let nc = none c hc in let m = imm_again imm hi in λ i. fields 7 (k i) (nline i) (na i) (nb i) (nc i) (m i)

back_8 : IsBack 8
unfolding instruction instructions limits_of all_limits
back_8 kind line a b c imm hk hline ha hb hc hi = let k = none kind hk in let nline = none line hline in let na = none a ha in let nc = none c hc in let m = imm_again imm hi in λ i. fields 8 (k i) (nline i) (na i) b (nc i) (m i)

back_9 : IsBack 9
unfolding instruction instructions limits_of all_limits
back_9 kind line a b c imm hk hline ha hb hc hi = let k = none kind hk in let nline = none line hline in let na = none a ha in let nc = none c hc in let m = imm_again imm hi in λ i. fields 9 (k i) (nline i) (na i) b (nc i) (m i)

back_10 : IsBack 10
unfolding instruction instructions limits_of all_limits
back_10 kind line a b c imm hk hline ha hb hc hi = let k = none kind hk in let nline = none line hline in let nc = none c hc in let m = imm_again imm hi in λ i. fields 10 (k i) (nline i) a b (nc i) (m i)

back_11 : IsBack 11
unfolding instruction instructions limits_of all_limits
back_11 kind line a b c imm hk hline ha hb hc hi = let k = none kind hk in let nline = none line hline in let na = none a ha in let nc = none c hc in let m = none imm hi in λ i. fields 11 (k i) (nline i) (na i) b (nc i) (m i)

back_12 : IsBack 12
unfolding instruction instructions limits_of all_limits
back_12 kind line a b c imm hk hline ha hb hc hi = let k = none kind hk in let nline = none line hline in let nb = none b hb in let nc = none c hc in let m = imm_again imm hi in λ i. fields 12 (k i) (nline i) a (nb i) (nc i) (m i)

back_13 : IsBack 13
unfolding instruction instructions limits_of all_limits
back_13 kind line a b c imm hk hline ha hb hc hi = let k = none kind hk in let nline = none line hline in let nb = none b hb in let nc = none c hc in let m = imm_again imm hi in λ i. fields 13 (k i) (nline i) a (nb i) (nc i) (m i)

back_14 : IsBack 14
unfolding instruction instructions limits_of all_limits
back_14 kind line a b c imm hk hline ha hb hc hi = let k = none kind hk in let nline = none line hline in let na = none a ha in let nb = none b hb in let nc = none c hc in let m = imm_again imm hi in λ i. fields 14 (k i) (nline i) (na i) (nb i) (nc i) (m i)

back_15 : IsBack 15
unfolding instruction instructions limits_of all_limits
back_15 kind line a b c imm hk hline ha hb hc hi = let k = kind_again kind hk in let m = none imm hi in λ i. fields 15 (k i) line a b c (m i)

back_16 : IsBack 16
unfolding instruction instructions limits_of all_limits
back_16 kind line a b c imm hk hline ha hb hc hi = let k = kind_again kind hk in let m = none imm hi in λ i. fields 16 (k i) line a b c (m i)

back_17 : IsBack 17
unfolding instruction instructions limits_of all_limits
back_17 kind line a b c imm hk hline ha hb hc hi = let k = none kind hk in let nline = none line hline in let m = imm_again imm hi in λ i. fields 17 (k i) (nline i) a b c (m i)

back_18 : IsBack 18
unfolding instruction instructions limits_of all_limits
back_18 kind line a b c imm hk hline ha hb hc hi = let k = none kind hk in let nline = none line hline in let nc = none c hc in let m = imm_again imm hi in λ i. fields 18 (k i) (nline i) a b (nc i) (m i)

back_19 : IsBack 19
unfolding instruction instructions limits_of all_limits
back_19 kind line a b c imm hk hline ha hb hc hi = let k = none kind hk in let nline = none line hline in let m = none imm hi in λ i. fields 19 (k i) (nline i) a b c (m i)

back_20 : IsBack 20
unfolding instruction instructions limits_of all_limits
back_20 kind line a b c imm hk hline ha hb hc hi = let k = none kind hk in let nline = none line hline in let m = none imm hi in λ i. fields 20 (k i) (nline i) a b c (m i)

back_21 : IsBack 21
unfolding instruction instructions limits_of all_limits
back_21 kind line a b c imm hk hline ha hb hc hi = let k = none kind hk in let nline = none line hline in let m = relation_again imm (omega (arith, hi)) in λ i. fields 21 (k i) (nline i) a b c (m i)

back_22 : IsBack 22
unfolding instruction instructions limits_of all_limits
back_22 kind line a b c imm hk hline ha hb hc hi = let k = none kind hk in let nline = none line hline in let m = imm_again imm hi in λ i. fields 22 (k i) (nline i) a b c (m i)

back_23 : IsBack 23
unfolding instruction instructions limits_of all_limits
back_23 kind line a b c imm hk hline ha hb hc hi = let k = none kind hk in let nline = none line hline in let nb = none b hb in let nc = none c hc in let m = none imm hi in λ i. fields 23 (k i) (nline i) a (nb i) (nc i) (m i)

back_24 : IsBack 24
unfolding instruction instructions limits_of all_limits
back_24 kind line a b c imm hk hline ha hb hc hi = let k = none kind hk in let nline = none line hline in let nc = none c hc in let m = none imm hi in λ i. fields 24 (k i) (nline i) a b (nc i) (m i)

back_25 : IsBack 25
unfolding instruction instructions limits_of all_limits
back_25 kind line a b c imm hk hline ha hb hc hi = let k = none kind hk in let nline = none line hline in let nc = none c hc in let m = none imm hi in λ i. fields 25 (k i) (nline i) a b (nc i) (m i)

back_26 : IsBack 26
unfolding instruction instructions limits_of all_limits
back_26 kind line a b c imm hk hline ha hb hc hi = let k = none kind hk in let nline = none line hline in let m = none imm hi in λ i. fields 26 (k i) (nline i) a b c (m i)

back_27 : IsBack 27
unfolding instruction instructions limits_of all_limits
back_27 kind line a b c imm hk hline ha hb hc hi = let k = none kind hk in let na = none a ha in let nc = none c hc in let m = none imm hi in λ i. fields 27 (k i) line (na i) b (nc i) (m i)

back_28 : IsBack 28
unfolding instruction instructions limits_of all_limits
back_28 kind line a b c imm hk hline ha hb hc hi = let k = none kind hk in let nline = none line hline in let na = none a ha in let nc = none c hc in let m = none imm hi in λ i. fields 28 (k i) (nline i) (na i) b (nc i) (m i)

back : (op : ℕ) → 1 ≤ op → op ≤ 28 → IsBack op
back op ge le =
    each_from IsBack 1 28 (back_1, (back_2, (back_3, (back_4, (back_5, (back_6, (back_7, (back_8, (back_9, (back_10, (back_11, (back_12, (back_13, (back_14, (back_15, (back_16, (back_17, (back_18, (back_19, (back_20, (back_21, (back_22, (back_23, (back_24, (back_25, (back_26, (back_27, (back_28, tt)))))))))))))))))))))))))))) op ge (omega arith)

pub fields_back : (f : Fields) → AreFields f → fields_of (instruction f) ≡ f
fields_back f are = back f.op are.first are.last f.kind f.line f.a f.b f.c f.imm are.kind are.line are.a are.b are.c are.imm
