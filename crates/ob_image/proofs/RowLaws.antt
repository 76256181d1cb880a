-- The readers of static objects, pointers, local objects, functions and names, and their spellings.
use Rattle.std.proofs.Common.{◌≡◌, ℕ, ◌≤◌, ◌<◌, true, List, [], ◌∷◌, ◌++◌, length, Ok, refl, sym, ap, subst, ◌∙◌, append_assoc, arith}
use Rattle.ob_words.specs.Fields.{low_bytes}
use Rattle.ob_code.specs.declared.image.FunctionRow.{FunctionRow}
use Rattle.ob_code.specs.declared.image.LocalRow.{LocalRow}
use Rattle.ob_code.specs.declared.image.NameRow.{NameRow}
use Rattle.ob_code.specs.declared.image.PointerRow.{PointerRow}
use Rattle.ob_code.specs.declared.image.StaticRow.{StaticRow}
use Rattle.ob_model.specs.Limits.{most_object_bytes}
use Rattle.ob_code.specs.Limits.{most_variables}
use Rattle.ob_base.specs.Names.{IsName}
use Rattle.ob_image.specs.Layout.{any_word, any_number}
use Rattle.ob_image.specs.Reading.{gives, number, counted, static_row, pointer_row, local_row, function_row, name_row}
use Rattle.ob_image.specs.Spelling.{spell_static, spell_pointer, spell_local, spell_function, spell_name, spell_rows, most_kind, AreRows, IsStatic, IsPointer, IsLocal, IsFunction, IsNameRow}
use Rattle.ob_image.proofs.FieldLaws.{word_spelled, long_spelled, given_reader, given_spelled}
use Rattle.ob_image.proofs.NameLaws.{name_reader, name_spelled}
use Rattle.ob_image.proofs.Tests.{nonzero_reader, nonzero_spelled, is_some, some_passes, some_is}
use Rattle.ob_image.proofs.Readers.{IsBytes, IsReader, then_reader, gives_reader, number_reader, counted_reader, ok_is}
use Rattle.ob_image.proofs.Spellings.{IsSpelled, then_sound, then_again, along, number_spelled, counted_spelled}

pub static_reader : IsReader static_row
unfolding static_row
static_reader =
    then_reader (number_reader 8 any_number) (λ size. then_reader (number_reader 8 most_object_bytes) (λ count. then_reader (given_reader count) (λ bytes.
    gives_reader (record { size = size; given = bytes }))))

count_spelled : IsSpelled (number 8 most_object_bytes) (λ n. n ≤ most_object_bytes) (low_bytes 8)
count_spelled = number_spelled 8 most_object_bytes (omega arith)

pub static_spelled : IsSpelled static_row IsStatic spell_static
unfolding static_row spell_static gives
static_spelled = record {
  sound = λ bytes x rest fits e.
      let a = then_sound long_spelled bytes x rest fits e in
      let b = then_sound count_spelled a.middle x rest a.are_bytes a.goes in
      let c = then_sound (given_spelled b.value) b.middle x rest b.are_bytes b.goes in
      let row : StaticRow = record { size = a.value; given = c.value } in
      let text : bytes ≡ spell_static row ++ c.middle =
      a.parts ∙ along (low_bytes 8 a.value) _ _ (b.parts ∙ along (low_bytes 8 b.value) _ _ c.parts)
      ∙ ap (λ (n : ℕ). low_bytes 8 a.value ++ (low_bytes 8 n ++ (c.value ++ c.middle))) (sym c.is.count) ∙ sym (simp append_assoc) in
      subst (λ (p : StaticRow × List ℕ). IsStatic p.0 × (bytes ≡ spell_static p.0 ++ p.1)) (ok_is (row, c.middle) (x, rest) c.goes)
      (record { size = a.is; most = omega (arith, b.is, c.is.count); bytes = c.is.are_bytes; last = c.is.last }, text);
  again = λ x rest is.
      let regroup : spell_static x ++ rest ≡ low_bytes 8 x.size ++ (low_bytes 8 (length x.given) ++ (x.given ++ rest)) = simp append_assoc in
      ap static_row regroup
      ∙ then_again _ long_spelled x.size _ is.size
      ∙ then_again _ count_spelled (length x.given) _ is.most
      ∙ then_again _ (given_spelled (length x.given)) x.given rest (record { count = refl; are_bytes = is.bytes; last = is.last });
}

pub pointer_reader : IsReader pointer_row
unfolding pointer_row
pointer_reader =
    then_reader (number_reader 4 any_word) (λ holder. then_reader (number_reader 8 any_number) (λ offset.
    then_reader (number_reader 4 any_word) (λ target. then_reader (number_reader 8 any_number) (λ target_offset.
    gives_reader (record { holder = holder; offset = offset; target = target; target_offset = target_offset })))))

pub pointer_spelled : IsSpelled pointer_row IsPointer spell_pointer
unfolding pointer_row spell_pointer gives
pointer_spelled = record {
  sound = λ bytes x rest fits e.
      let a = then_sound word_spelled bytes x rest fits e in
      let b = then_sound long_spelled a.middle x rest a.are_bytes a.goes in
      let c = then_sound word_spelled b.middle x rest b.are_bytes b.goes in
      let d = then_sound long_spelled c.middle x rest c.are_bytes c.goes in
      let row : PointerRow = record { holder = a.value; offset = b.value; target = c.value; target_offset = d.value } in
      let text : bytes ≡ spell_pointer row ++ d.middle =
      a.parts ∙ along (low_bytes 4 a.value) _ _ (b.parts ∙ along (low_bytes 8 b.value) _ _ (c.parts ∙ along (low_bytes 4 c.value) _ _ d.parts)) ∙ sym (simp append_assoc) in
      subst (λ (p : PointerRow × List ℕ). IsPointer p.0 × (bytes ≡ spell_pointer p.0 ++ p.1)) (ok_is (row, d.middle) (x, rest) d.goes)
      (record { holder = a.is; offset = b.is; target = c.is; target_offset = d.is }, text);
  again = λ x rest is.
      let regroup : spell_pointer x ++ rest ≡ low_bytes 4 x.holder ++ (low_bytes 8 x.offset ++ (low_bytes 4 x.target ++ (low_bytes 8 x.target_offset ++ rest))) = simp append_assoc in
      ap pointer_row regroup
      ∙ then_again _ word_spelled x.holder _ is.holder
      ∙ then_again _ long_spelled x.offset _ is.offset
      ∙ then_again _ word_spelled x.target _ is.target
      ∙ then_again _ long_spelled x.target_offset rest is.target_offset;
}

local_reader : IsReader local_row
unfolding local_row
local_reader =
    then_reader (number_reader 4 any_word) (λ ordinal. then_reader (number_reader 8 any_number) (λ place. then_reader (number_reader 8 any_number) (λ size.
    gives_reader (record { ordinal = ordinal; place = place; size = size }))))

local_spelled : IsSpelled local_row IsLocal spell_local
unfolding local_row spell_local gives
local_spelled = record {
  sound = λ bytes x rest fits e.
      let a = then_sound word_spelled bytes x rest fits e in
      let b = then_sound long_spelled a.middle x rest a.are_bytes a.goes in
      let c = then_sound long_spelled b.middle x rest b.are_bytes b.goes in
      let row : LocalRow = record { ordinal = a.value; place = b.value; size = c.value } in
      let text : bytes ≡ spell_local row ++ c.middle =
      a.parts ∙ along (low_bytes 4 a.value) _ _ (b.parts ∙ along (low_bytes 8 b.value) _ _ c.parts) ∙ sym (simp append_assoc) in
      subst (λ (p : LocalRow × List ℕ). IsLocal p.0 × (bytes ≡ spell_local p.0 ++ p.1)) (ok_is (row, c.middle) (x, rest) c.goes)
      (record { ordinal = a.is; place = b.is; size = c.is }, text);
  again = λ x rest is.
      let regroup : spell_local x ++ rest ≡ low_bytes 4 x.ordinal ++ (low_bytes 8 x.place ++ (low_bytes 8 x.size ++ rest)) = simp append_assoc in
      ap local_row regroup
      ∙ then_again _ word_spelled x.ordinal _ is.ordinal
      ∙ then_again _ long_spelled x.place _ is.place
      ∙ then_again _ long_spelled x.size rest is.size;
}

locals_spelled : IsSpelled (counted most_variables local_row) (AreRows most_variables IsLocal) (spell_rows spell_local)
locals_spelled = counted_spelled most_variables local_row IsLocal spell_local (omega arith) local_spelled

pub function_reader : IsReader function_row
unfolding function_row
function_reader =
    then_reader (number_reader 4 any_word) (λ entry. then_reader (number_reader 4 any_word) (λ params. then_reader (number_reader 4 any_word) (λ words.
    then_reader (number_reader 4 any_word) (λ vars. then_reader (number_reader 8 any_number) (λ allowance. then_reader (counted_reader most_variables local_row local_reader) (λ locals.
    gives_reader (record { entry = entry; params = params; words = words; vars = vars; allowance = allowance; locals = locals })))))))

regroup_function : (x : FunctionRow) (rest : List ℕ) → spell_function x ++ rest
    ≡ low_bytes 4 x.entry ++ (low_bytes 4 x.params ++ (low_bytes 4 x.words ++ (low_bytes 4 x.vars ++ (low_bytes 8 x.allowance ++ (spell_rows spell_local x.locals ++ rest)))))
unfolding spell_function
regroup_function x rest = simp append_assoc

pub function_spelled : IsSpelled function_row IsFunction spell_function
unfolding function_row gives
function_spelled = record {
  sound = λ bytes x rest fits e.
      let a = then_sound word_spelled bytes x rest fits e in
      let b = then_sound word_spelled a.middle x rest a.are_bytes a.goes in
      let c = then_sound word_spelled b.middle x rest b.are_bytes b.goes in
      let d = then_sound word_spelled c.middle x rest c.are_bytes c.goes in
      let f = then_sound long_spelled d.middle x rest d.are_bytes d.goes in
      let g = then_sound locals_spelled f.middle x rest f.are_bytes f.goes in
      let row : FunctionRow = record { entry = a.value; params = b.value; words = c.value; vars = d.value; allowance = f.value; locals = g.value } in
      let text : bytes ≡ spell_function row ++ g.middle =
      a.parts ∙ along (low_bytes 4 a.value) _ _ (b.parts ∙ along (low_bytes 4 b.value) _ _ (c.parts ∙ along (low_bytes 4 c.value) _ _ (d.parts ∙ along (low_bytes 4 d.value) _ _
      (f.parts ∙ along (low_bytes 8 f.value) _ _ g.parts)))) ∙ sym (regroup_function row g.middle) in
      subst (λ (p : FunctionRow × List ℕ). IsFunction p.0 × (bytes ≡ spell_function p.0 ++ p.1)) (ok_is (row, g.middle) (x, rest) g.goes)
      (record { entry = a.is; params = b.is; words = c.is; vars = d.is; allowance = f.is; locals = g.is }, text);
  again = λ x rest is.
      ap function_row (regroup_function x rest)
      ∙ then_again _ word_spelled x.entry _ is.entry
      ∙ then_again _ word_spelled x.params _ is.params
      ∙ then_again _ word_spelled x.words _ is.words
      ∙ then_again _ word_spelled x.vars _ is.vars
      ∙ then_again _ long_spelled x.allowance _ is.allowance
      ∙ then_again _ locals_spelled x.locals rest is.locals;
}

-- ---- names

pub name_row_reader : IsReader name_row
unfolding name_row
name_row_reader =
    then_reader (number_reader 4 any_word) (λ holder. then_reader (number_reader 4 any_word) (λ ordinal. then_reader (number_reader 4 any_word) (λ line.
    then_reader (number_reader 4 any_word) (λ word. then_reader (number_reader 4 most_kind) (λ kind. then_reader nonzero_reader (λ count. then_reader (name_reader count) (λ text.
    gives_reader (record { holder = holder; ordinal = ordinal; line = line; word = word; kind = kind; name = text }))))))))

kind_spelled : IsSpelled (number 4 most_kind) (λ n. n ≤ most_kind) (low_bytes 4)
kind_spelled = number_spelled 4 most_kind (omega arith)

-- a number but 0, and a name of so many bytes
count_some : (n : ℕ) → is_some n ≡ true → 0 < n
count_some n e = let h = some_is n e in omega (arith, h)

name_some : (text : List ℕ) → IsName text → length text ≡ 0 → ⊥
name_some [] is e = absurd cc
name_some (c ∷ text) is e = absurd (omega (arith, e))

regroup_name : (x : NameRow) (rest : List ℕ) → spell_name x ++ rest
    ≡ low_bytes 4 x.holder ++ (low_bytes 4 x.ordinal ++ (low_bytes 4 x.line ++ (low_bytes 4 x.word ++ (low_bytes 4 x.kind ++ (low_bytes 4 (length x.name) ++ (x.name ++ rest))))))
unfolding spell_name
regroup_name x rest = simp append_assoc

name_text : (x : NameRow) (bytes p q r s t u rest : List ℕ) → bytes ≡ low_bytes 4 x.holder ++ p → p ≡ low_bytes 4 x.ordinal ++ q → q ≡ low_bytes 4 x.line ++ r
    → r ≡ low_bytes 4 x.word ++ s → s ≡ low_bytes 4 x.kind ++ t → t ≡ low_bytes 4 (length x.name) ++ u → u ≡ x.name ++ rest → bytes ≡ spell_name x ++ rest
name_text x bytes p q r s t u rest a b c d k n text =
    a ∙ along (low_bytes 4 x.holder) p _ (b ∙ along (low_bytes 4 x.ordinal) q _ (c ∙ along (low_bytes 4 x.line) r _ (d ∙ along (low_bytes 4 x.word) s _
    (k ∙ along (low_bytes 4 x.kind) t _ (n ∙ along (low_bytes 4 (length x.name)) u _ text))))) ∙ sym (regroup_name x rest)

as_long : (n : ℕ) (text : List ℕ) → n ≤ any_word → length text ≡ n → length text ≤ any_word
as_long n text most long = omega (arith, most, long)

name_sound : (bytes : List ℕ) (x : NameRow) (rest : List ℕ) → IsBytes bytes → name_row bytes ≡ Ok (x, rest) → IsNameRow x × (bytes ≡ spell_name x ++ rest)
unfolding name_row gives
name_sound bytes x rest fits e =
    let a = then_sound word_spelled bytes x rest fits e in
    let b = then_sound word_spelled a.middle x rest a.are_bytes a.goes in
    let c = then_sound word_spelled b.middle x rest b.are_bytes b.goes in
    let d = then_sound word_spelled c.middle x rest c.are_bytes c.goes in
    let k = then_sound kind_spelled d.middle x rest d.are_bytes d.goes in
    let n = then_sound nonzero_spelled k.middle x rest k.are_bytes k.goes in
    let t = then_sound (name_spelled n.value (count_some n.value n.is.1)) n.middle x rest n.are_bytes n.goes in
    let row : NameRow = record { holder = a.value; ordinal = b.value; line = c.value; word = d.value; kind = k.value; name = t.value } in
    subst (λ (p : NameRow × List ℕ). IsNameRow p.0 × (bytes ≡ spell_name p.0 ++ p.1)) (ok_is (row, t.middle) (x, rest) t.goes) (
      record { holder = a.is; ordinal = b.is; line = c.is; word = d.is; kind = k.is; most = as_long n.value t.value n.is.0 t.is.long; name = t.is.name },
      name_text row bytes a.middle b.middle c.middle d.middle k.middle n.middle t.middle a.parts b.parts c.parts d.parts k.parts
          (n.parts ∙ ap (λ (m : ℕ). low_bytes 4 m ++ n.middle) (sym t.is.long)) t.parts,
    )

name_again : (x : NameRow) (rest : List ℕ) → IsNameRow x → name_row (spell_name x ++ rest) ≡ Ok (x, rest)
unfolding name_row gives
name_again x rest is =
    let some : length x.name ≡ 0 → ⊥ = name_some x.name is.name in
    ap name_row (regroup_name x rest)
    ∙ then_again _ word_spelled x.holder _ is.holder
    ∙ then_again _ word_spelled x.ordinal _ is.ordinal
    ∙ then_again _ word_spelled x.line _ is.line
    ∙ then_again _ word_spelled x.word _ is.word
    ∙ then_again _ kind_spelled x.kind _ is.kind
    ∙ then_again _ nonzero_spelled (length x.name) _ (is.most, some_passes (length x.name) some)
    ∙ then_again _ (name_spelled (length x.name) (omega (arith, some))) x.name rest (record { long = refl; name = is.name })

pub name_row_spelled : IsSpelled name_row IsNameRow spell_name
name_row_spelled = record { sound = name_sound; again = name_again }
