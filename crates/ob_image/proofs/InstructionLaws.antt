-- The reader of instructions, and their spelling.
use Rattle.std.proofs.Common.{◌≡◌, ℕ, ◌≤◌, List, ◌++◌, Ok, refl, sym, ap, subst, ◌∙◌, append_assoc, arith}
use Rattle.ob_words.specs.Fields.{low_bytes}
use Rattle.ob_code.specs.declared.instructions.Instr.{Instr}
use Rattle.ob_image.specs.declared.layout.Fields.{Fields}
use Rattle.ob_image.specs.Instructions.{instruction}
use Rattle.ob_image.specs.Layout.{fields, fields_of, limits_of, operations, spell_fields, spell_instruction, AreFields, IsInstruction}
use Rattle.ob_image.specs.Reading.{gives, number, from_one, operands_row, fields_row, instruction_row}
use Rattle.ob_image.proofs.FieldLaws.{byte_field, word_field, long_field}
use Rattle.ob_image.proofs.Heads.{IsFromOne, from_one_reader, from_one_spelled}
use Rattle.ob_image.proofs.FormLimits.{fields_are, narrow}
use Rattle.ob_image.proofs.Forms.{none, instruction_back, fields_back}
use Rattle.ob_image.proofs.Readers.{IsBytes, IsReader, then_reader, gives_reader, number_reader, done, ok_is}
use Rattle.ob_image.proofs.Spellings.{IsSpelled, then_sound, then_again, along, number_spelled}

operands_reader : (op kind : ℕ) → IsReader (operands_row op kind)
unfolding operands_row
operands_reader op kind =
    then_reader (number_reader 4 (limits_of op).line) (λ line. then_reader (number_reader 4 (limits_of op).a) (λ a. then_reader (number_reader 4 (limits_of op).b) (λ b.
    then_reader (number_reader 4 (limits_of op).c) (λ c. then_reader (number_reader 8 (limits_of op).imm) (λ imm. gives_reader (fields op kind line a b c imm))))))

fields_reader : IsReader fields_row
unfolding fields_row
fields_reader =
    then_reader (from_one_reader operations (omega arith)) (λ op. then_reader (number_reader 1 (limits_of op).kind) (λ kind. then_reader (number_reader 2 0) (λ zeros. operands_reader op kind)))

operation_spelled : IsSpelled (from_one operations) (IsFromOne operations) (low_bytes 1)
operation_spelled = from_one_spelled operations (omega arith)

zeros_spelled : IsSpelled (number 2 0) (λ n. n ≤ 0) (low_bytes 2)
zeros_spelled = number_spelled 2 0 (omega arith)

regroup_fields : (x : Fields) (rest : List ℕ) → spell_fields x ++ rest
    ≡ low_bytes 1 x.op ++ (low_bytes 1 x.kind ++ (low_bytes 2 0 ++ (low_bytes 4 x.line ++ (low_bytes 4 x.a ++ (low_bytes 4 x.b ++ (low_bytes 4 x.c ++ (low_bytes 8 x.imm ++ rest)))))))
unfolding spell_fields
regroup_fields x rest = simp append_assoc

-- the operands behind them
abbrev spell_operands : Fields → List ℕ
spell_operands x = low_bytes 4 x.line ++ (low_bytes 4 x.a ++ (low_bytes 4 x.b ++ (low_bytes 4 x.c ++ low_bytes 8 x.imm)))

record AreOperands (op kind : ℕ) (x : Fields) : Type 0 where
  is_op : x.op ≡ op
  is_kind : x.kind ≡ kind
  line : x.line ≤ (limits_of op).line
  a : x.a ≤ (limits_of op).a
  b : x.b ≤ (limits_of op).b
  c : x.c ≤ (limits_of op).c
  imm : x.imm ≤ (limits_of op).imm

regroup_operands : (x : Fields) (rest : List ℕ) → spell_operands x ++ rest ≡ low_bytes 4 x.line ++ (low_bytes 4 x.a ++ (low_bytes 4 x.b ++ (low_bytes 4 x.c ++ (low_bytes 8 x.imm ++ rest))))
regroup_operands x rest = simp append_assoc

operands_text : (x : Fields) (bytes p q r s rest : List ℕ) → bytes ≡ low_bytes 4 x.line ++ p → p ≡ low_bytes 4 x.a ++ q → q ≡ low_bytes 4 x.b ++ r → r ≡ low_bytes 4 x.c ++ s
    → s ≡ low_bytes 8 x.imm ++ rest → bytes ≡ spell_operands x ++ rest
operands_text x bytes p q r s rest l a b c m =
    l ∙ along (low_bytes 4 x.line) p _ (a ∙ along (low_bytes 4 x.a) q _ (b ∙ along (low_bytes 4 x.b) r _ (c ∙ along (low_bytes 4 x.c) s _ m))) ∙ sym (regroup_operands x rest)

operands_sound : (op kind : ℕ) → 1 ≤ op → op ≤ 28 → (bytes : List ℕ) (x : Fields) (rest : List ℕ) → IsBytes bytes → operands_row op kind bytes ≡ Ok (x, rest)
    → AreOperands op kind x × (bytes ≡ spell_operands x ++ rest)
unfolding operands_row gives
operands_sound op kind ge le bytes x rest fits e =
    let n = narrow op in
    let l = then_sound (word_field (limits_of op).line n.1) bytes x rest fits e in
    let a = then_sound (word_field (limits_of op).a n.2) l.middle x rest l.are_bytes l.goes in
    let b = then_sound (word_field (limits_of op).b n.3) a.middle x rest a.are_bytes a.goes in
    let c = then_sound (word_field (limits_of op).c n.4) b.middle x rest b.are_bytes b.goes in
    let m = then_sound (long_field (limits_of op).imm n.5) c.middle x rest c.are_bytes c.goes in
    subst (λ (p : Fields × List ℕ). AreOperands op kind p.0 × (bytes ≡ spell_operands p.0 ++ p.1)) (ok_is (fields op kind l.value a.value b.value c.value m.value, m.middle) (x, rest) m.goes) (
      record { is_op = refl; is_kind = refl; line = l.is; a = a.is; b = b.is; c = c.is; imm = m.is },
      operands_text (fields op kind l.value a.value b.value c.value m.value) bytes l.middle a.middle b.middle c.middle m.middle l.parts a.parts b.parts c.parts m.parts,
    )

operands_again : (op kind : ℕ) → 1 ≤ op → op ≤ 28 → (x : Fields) (rest : List ℕ) → AreOperands op kind x → operands_row op kind (spell_operands x ++ rest) ≡ Ok (fields op kind x.line x.a x.b x.c x.imm, rest)
unfolding operands_row gives
operands_again op kind ge le x rest is =
    let n = narrow op in
    ap (operands_row op kind) (regroup_operands x rest)
    ∙ then_again _ (word_field (limits_of op).line n.1) x.line _ is.line
    ∙ then_again _ (word_field (limits_of op).a n.2) x.a _ is.a
    ∙ then_again _ (word_field (limits_of op).b n.3) x.b _ is.b
    ∙ then_again _ (word_field (limits_of op).c n.4) x.c _ is.c
    ∙ then_again _ (long_field (limits_of op).imm n.5) x.imm rest is.imm

fields_text : (x : Fields) (bytes p q r rest : List ℕ) → bytes ≡ low_bytes 1 x.op ++ p → p ≡ low_bytes 1 x.kind ++ q → q ≡ low_bytes 2 0 ++ r → r ≡ spell_operands x ++ rest
    → bytes ≡ spell_fields x ++ rest
fields_text x bytes p q r rest o k z t =
    o ∙ along (low_bytes 1 x.op) p _ (k ∙ along (low_bytes 1 x.kind) q _ (z ∙ along (low_bytes 2 0) r _ (t ∙ regroup_operands x rest))) ∙ sym (regroup_fields x rest)

fields_form : (op kind : ℕ) (x : Fields) → 1 ≤ op → op ≤ 28 → kind ≤ (limits_of op).kind → AreOperands op kind x → AreFields x
fields_form op kind x ge le k is =
    let back = sym is.is_op in
    record {
      first = subst (λ (o : ℕ). 1 ≤ o) back ge;
      last = subst (λ (o : ℕ). o ≤ 28) back le;
      kind = subst (λ (o : ℕ). x.kind ≤ (limits_of o).kind) back (subst (λ (j : ℕ). j ≤ (limits_of op).kind) (sym is.is_kind) k);
      line = subst (λ (o : ℕ). x.line ≤ (limits_of o).line) back is.line;
      a = subst (λ (o : ℕ). x.a ≤ (limits_of o).a) back is.a;
      b = subst (λ (o : ℕ). x.b ≤ (limits_of o).b) back is.b;
      c = subst (λ (o : ℕ). x.c ≤ (limits_of o).c) back is.c;
      imm = subst (λ (o : ℕ). x.imm ≤ (limits_of o).imm) back is.imm;
    }

fields_sound : (bytes : List ℕ) (x : Fields) (rest : List ℕ) → IsBytes bytes → fields_row bytes ≡ Ok (x, rest) → AreFields x × (bytes ≡ spell_fields x ++ rest)
unfolding fields_row
fields_sound bytes x rest fits e =
    let o = then_sound operation_spelled bytes x rest fits e in
    let k = then_sound (byte_field (limits_of o.value).kind (narrow o.value).0) o.middle x rest o.are_bytes o.goes in
    let z = then_sound zeros_spelled k.middle x rest k.are_bytes k.goes in
    let t = operands_sound o.value k.value o.is.0 o.is.1 z.middle x rest z.are_bytes z.goes in (
      fields_form o.value k.value x o.is.0 o.is.1 k.is t.0,
      fields_text x bytes o.middle k.middle z.middle rest (o.parts ∙ ap (λ (v : ℕ). low_bytes 1 v ++ o.middle) (sym t.0.is_op)) (k.parts ∙ ap (λ (v : ℕ). low_bytes 1 v ++ k.middle) (sym t.0.is_kind))
          (z.parts ∙ ap (λ (v : ℕ). low_bytes 2 v ++ z.middle) (sym (none z.value z.is))) t.1,
    )

fields_again : (x : Fields) (rest : List ℕ) → AreFields x → fields_row (spell_fields x ++ rest) ≡ Ok (x, rest)
unfolding fields_row
fields_again x rest is =
    ap fields_row (regroup_fields x rest ∙ along (low_bytes 1 x.op) _ _ (along (low_bytes 1 x.kind) _ _ (along (low_bytes 2 0) _ _ (sym (regroup_operands x rest)))))
    ∙ then_again _ operation_spelled x.op _ (is.first, is.last)
    ∙ then_again _ (byte_field (limits_of x.op).kind (narrow x.op).0) x.kind _ is.kind
    ∙ then_again _ zeros_spelled 0 _ (omega arith)
    ∙ operands_again x.op x.kind is.first is.last x rest (record { is_op = refl; is_kind = refl; line = is.line; a = is.a; b = is.b; c = is.c; imm = is.imm })

fields_spelled : IsSpelled fields_row AreFields spell_fields
fields_spelled = record { sound = fields_sound; again = fields_again }

pub instruction_reader : IsReader instruction_row
unfolding instruction_row
instruction_reader = then_reader fields_reader (λ f. gives_reader (instruction f))

pub instruction_spelled : IsSpelled instruction_row IsInstruction spell_instruction
unfolding instruction_row gives
instruction_spelled = record {
  sound = λ bytes x rest fits e.
      let a = then_sound fields_spelled bytes x rest fits e in
      subst (λ (p : Instr × List ℕ). IsInstruction p.0 × (bytes ≡ spell_instruction p.0 ++ p.1)) (ok_is (instruction a.value, a.middle) (x, rest) a.goes)
      (fields_are a.value a.is, a.parts ∙ ap (λ (f : Fields). spell_fields f ++ a.middle) (sym (fields_back a.value a.is)));
  again = λ x rest is.
      then_again _ fields_spelled (fields_of x) rest is.fields ∙ ap (λ (i : Instr). done (i, rest)) (instruction_back x is.number);
}
