-- Which image the bytes spell, and where the first wrong byte stands.
use Rattle.std.proofs.Common.{◌≡◌, ℕ, suc, ◌+◌, ◌-◌, ◌<◌, ◌≤◌, List, [], ◌∷◌, ◌++◌, length, take, drop, Result, Ok, Err, refl, sym, ap, subst, ◌∙◌, append_assoc, arith}
use Rattle.std.proofs.lemmas.List.{append-nil, take_at, length-append, take-append-drop}
use Rattle.std.proofs.lemmas.Bool.{cases_lt, ne_eqb}
use Rattle.std.proofs.Common.{inl, inr}
use Rattle.ob_words.specs.Fields.{low_bytes}
use Rattle.ob_code.specs.declared.image.Image.{Image}
use Rattle.ob_image.specs.Faults.{Spells, IsBegun, IsFirstWrong, Reads}
use Rattle.ob_image.specs.Layout.{any_word, spell_instruction, IsInstruction}
use Rattle.ob_code.specs.Limits.{most_statics, most_pointers, most_functions, most_instructions}
use Rattle.ob_model.specs.declared.settings.Profile.{Profile}
use Rattle.ob_image.specs.declared.layout.Version.{Version}
use Rattle.ob_image.specs.Reading.{gives, exactly, counted, static_row, pointer_row, function_row, instruction_row, image_behind, image_parts, image_of, ended}
use Rattle.ob_image.specs.Spelling.{letters, version_number, spell_profile, spell_names, spell_static, spell_pointer, spell_function, spell_rows, spell_image, AreRows, IsStatic, IsPointer, IsFunction, HasProfile, AreNames, IsImage}
use Rattle.ob_image.proofs.Readers.{IsBytes, IsBytes-append, IsBytes-front, IsReader, then_reader, gives_reader, exactly_reader, number_reader, counted_reader, done, ok_is, found, stuck, answered}
use Rattle.ob_image.proofs.FieldLaws.{word_spelled, exactly_spelled}
use Rattle.ob_image.proofs.InstructionLaws.{instruction_reader, instruction_spelled}
use Rattle.ob_image.proofs.RowLaws.{static_reader, static_spelled, pointer_reader, pointer_spelled, function_reader, function_spelled}
use Rattle.ob_image.proofs.Spellings.{IsSpelled, then_sound, then_again, along, counted_spelled}
use Rattle.ob_image.proofs.Versions.{version_reader, version_spelled, profile_reader, profile_spelled, names_reader, names_spelled}

abbrev told : Image → Result Image ℕ
told x = Ok x

abbrev failed : ℕ → Result Image ℕ
failed left = Err left

letters_bytes : IsBytes letters
letters_bytes = (omega arith, (omega arith, (omega arith, (omega arith, tt))))

letters_spelled : IsSpelled (exactly letters) (λ xs. xs ≡ letters) (λ xs. xs)
letters_spelled = exactly_spelled letters letters_bytes

statics_spelled : IsSpelled (counted most_statics static_row) (AreRows most_statics IsStatic) (spell_rows spell_static)
statics_spelled = counted_spelled most_statics static_row IsStatic spell_static (omega arith) static_spelled

pointers_spelled : IsSpelled (counted most_pointers pointer_row) (AreRows most_pointers IsPointer) (spell_rows spell_pointer)
pointers_spelled = counted_spelled most_pointers pointer_row IsPointer spell_pointer (omega arith) pointer_spelled

functions_spelled : IsSpelled (counted most_functions function_row) (AreRows most_functions IsFunction) (spell_rows spell_function)
functions_spelled = counted_spelled most_functions function_row IsFunction spell_function (omega arith) function_spelled

code_spelled : IsSpelled (counted most_instructions instruction_row) (AreRows most_instructions IsInstruction) (spell_rows spell_instruction)
code_spelled = counted_spelled most_instructions instruction_row IsInstruction spell_instruction (omega arith) instruction_spelled

behind_reader : (v : Version) (p : Profile) → IsReader (image_behind v p)
unfolding image_behind
behind_reader v p =
    then_reader (counted_reader most_statics static_row static_reader) (λ statics. then_reader (counted_reader most_pointers pointer_row pointer_reader) (λ pointers.
    then_reader (counted_reader most_functions function_row function_reader) (λ functions. then_reader (number_reader 4 any_word) (λ main.
    then_reader (counted_reader most_instructions instruction_row instruction_reader) (λ code. then_reader (names_reader v) (λ names.
    gives_reader (record { profile = p; statics = statics; pointers = pointers; functions = functions; main = main; code = code; names = names })))))))

image_reader : IsReader image_parts
unfolding image_parts
image_reader =
    then_reader (exactly_reader letters letters_bytes) (λ first. then_reader version_reader (λ v. then_reader (profile_reader v) (λ p. behind_reader v p)))

-- ---- behind the head

abbrev spell_behind : Version → Image → List ℕ
spell_behind v x =
    spell_rows spell_static x.statics ++ (spell_rows spell_pointer x.pointers ++ (spell_rows spell_function x.functions ++ (low_bytes 4 x.main ++
    (spell_rows spell_instruction x.code ++ spell_names v x.names))))

record AreParts (v : Version) (p : Profile) (x : Image) : Type 0 where
  profile : x.profile ≡ p
  statics : AreRows most_statics IsStatic x.statics
  pointers : AreRows most_pointers IsPointer x.pointers
  functions : AreRows most_functions IsFunction x.functions
  main : x.main ≤ any_word
  code : AreRows most_instructions IsInstruction x.code
  names : AreNames v x.names

six : (a b c d e f rest : List ℕ) → (a ++ (b ++ (c ++ (d ++ (e ++ f))))) ++ rest ≡ a ++ (b ++ (c ++ (d ++ (e ++ (f ++ rest)))))
six a b c d e f rest = simp append_assoc

regroup_behind : (v : Version) (x : Image) (rest : List ℕ) → spell_behind v x ++ rest
    ≡ spell_rows spell_static x.statics ++ (spell_rows spell_pointer x.pointers ++ (spell_rows spell_function x.functions ++ (low_bytes 4 x.main ++ (spell_rows spell_instruction x.code ++ (spell_names v x.names ++ rest)))))
regroup_behind v x rest =
    six (spell_rows spell_static x.statics) (spell_rows spell_pointer x.pointers) (spell_rows spell_function x.functions) (low_bytes 4 x.main) (spell_rows spell_instruction x.code) (spell_names v x.names) rest

behind_text : (v : Version) (x : Image) (bytes q r s t u rest : List ℕ) → bytes ≡ spell_rows spell_static x.statics ++ q → q ≡ spell_rows spell_pointer x.pointers ++ r
    → r ≡ spell_rows spell_function x.functions ++ s → s ≡ low_bytes 4 x.main ++ t → t ≡ spell_rows spell_instruction x.code ++ u → u ≡ spell_names v x.names ++ rest → bytes ≡ spell_behind v x ++ rest
behind_text v x bytes q r s t u rest a b c d e f =
    a ∙ along (spell_rows spell_static x.statics) q _ (b ∙ along (spell_rows spell_pointer x.pointers) r _ (c ∙ along (spell_rows spell_function x.functions) s _
    (d ∙ along (low_bytes 4 x.main) t _ (e ∙ along (spell_rows spell_instruction x.code) u _ f)))) ∙ sym (regroup_behind v x rest)

behind_sound : (v : Version) (p : Profile) (bytes : List ℕ) (x : Image) (rest : List ℕ) → IsBytes bytes → image_behind v p bytes ≡ Ok (x, rest) → AreParts v p x × (bytes ≡ spell_behind v x ++ rest)
unfolding image_behind gives
behind_sound v p bytes x rest fits e =
    let a = then_sound statics_spelled bytes x rest fits e in
    let b = then_sound pointers_spelled a.middle x rest a.are_bytes a.goes in
    let c = then_sound functions_spelled b.middle x rest b.are_bytes b.goes in
    let d = then_sound word_spelled c.middle x rest c.are_bytes c.goes in
    let f = then_sound code_spelled d.middle x rest d.are_bytes d.goes in
    let n = then_sound (names_spelled v) f.middle x rest f.are_bytes f.goes in
    let image : Image = record { profile = p; statics = a.value; pointers = b.value; functions = c.value; main = d.value; code = f.value; names = n.value } in
    subst (λ (q : Image × List ℕ). AreParts v p q.0 × (bytes ≡ spell_behind v q.0 ++ q.1)) (ok_is (image, n.middle) (x, rest) n.goes) (
      record { profile = refl; statics = a.is; pointers = b.is; functions = c.is; main = d.is; code = f.is; names = n.is },
      behind_text v image bytes a.middle b.middle c.middle d.middle f.middle n.middle a.parts b.parts c.parts d.parts f.parts n.parts,
    )

behind_again : (v : Version) (x : Image) (rest : List ℕ) → IsImage v x → image_behind v x.profile (spell_behind v x ++ rest) ≡ Ok (x, rest)
unfolding image_behind gives
behind_again v x rest is =
    ap (image_behind v x.profile) (regroup_behind v x rest)
    ∙ then_again _ statics_spelled x.statics _ is.statics
    ∙ then_again _ pointers_spelled x.pointers _ is.pointers
    ∙ then_again _ functions_spelled x.functions _ is.functions
    ∙ then_again _ word_spelled x.main _ is.main
    ∙ then_again _ code_spelled x.code _ is.code
    ∙ then_again _ (names_spelled v) x.names rest is.names

-- ---- the head before it

four : (a b c d rest : List ℕ) → (a ++ (b ++ (c ++ d))) ++ rest ≡ a ++ (b ++ (c ++ (d ++ rest)))
four a b c d rest = simp append_assoc

regroup_image : (v : Version) (x : Image) (rest : List ℕ) → spell_image v x ++ rest ≡ letters ++ (low_bytes 4 (version_number v) ++ (spell_profile v x.profile ++ (spell_behind v x ++ rest)))
unfolding spell_image
regroup_image v x rest = four letters (low_bytes 4 (version_number v)) (spell_profile v x.profile) (spell_behind v x) rest

image_text : (v : Version) (x : Image) (bytes q r s rest : List ℕ) → bytes ≡ letters ++ q → q ≡ low_bytes 4 (version_number v) ++ r → r ≡ spell_profile v x.profile ++ s → s ≡ spell_behind v x ++ rest
    → bytes ≡ spell_image v x ++ rest
image_text v x bytes q r s rest a b c d =
    a ∙ along letters q _ (b ∙ along (low_bytes 4 (version_number v)) r _ (c ∙ along (spell_profile v x.profile) s _ d)) ∙ sym (regroup_image v x rest)

-- what was read, and in which version
record Found (bytes : List ℕ) (x : Image) (rest : List ℕ) : Type 0 where
  version : Version
  is : IsImage version x
  text : bytes ≡ spell_image version x ++ rest

image_sound : (bytes : List ℕ) (x : Image) (rest : List ℕ) → IsBytes bytes → image_parts bytes ≡ Ok (x, rest) → Found bytes x rest
unfolding image_parts
image_sound bytes x rest fits e =
    let h = then_sound letters_spelled bytes x rest fits e in
    let v = then_sound version_spelled h.middle x rest h.are_bytes h.goes in
    let p = then_sound (profile_spelled v.value) v.middle x rest v.are_bytes v.goes in
    let s = behind_sound v.value p.value p.middle x rest p.are_bytes p.goes in
    let same = sym s.0.profile in
    record {
      version = v.value;
      is = record {
        profile = subst (HasProfile v.value) same p.is;
        statics = s.0.statics;
        pointers = s.0.pointers;
        functions = s.0.functions;
        main = s.0.main;
        code = s.0.code;
        names = s.0.names;
      };
      text = image_text v.value x bytes h.middle v.middle p.middle rest (h.parts ∙ ap (λ (l : List ℕ). l ++ h.middle) h.is) v.parts
          (p.parts ∙ ap (λ (q : Profile). spell_profile v.value q ++ p.middle) same) s.1;
    }

image_again : (v : Version) (x : Image) (rest : List ℕ) → IsImage v x → image_parts (spell_image v x ++ rest) ≡ Ok (x, rest)
unfolding image_parts
image_again v x rest is =
    ap image_parts (regroup_image v x rest)
    ∙ then_again _ letters_spelled letters _ refl
    ∙ then_again _ version_spelled v _ tt
    ∙ then_again _ (profile_spelled v) x.profile _ is.profile
    ∙ behind_again v x rest is

-- ---- whole images

spelled_whole : (bytes : List ℕ) (x : Image) → Spells bytes x → image_parts bytes ≡ Ok (x, [])
spelled_whole bytes x s = ap image_parts (s.1.1 ∙ sym (append-nil (spell_image s.0 x))) ∙ image_again s.0 x [] s.1.0

-- what is read to its end is spelled so
whole_spelled : (bytes : List ℕ) (x : Image) → IsBytes bytes → image_parts bytes ≡ Ok (x, []) → Spells bytes x
whole_spelled bytes x fits e = let s = image_sound bytes x [] fits e in (s.version, (s.is, s.text ∙ append-nil (spell_image s.version x)))

pub one_image : (bytes : List ℕ) (x y : Image) → Spells bytes x → Spells bytes y → x ≡ y
one_image bytes x y s t = ap (λ (p : Image × List ℕ). p.0) (ok_is (x, []) (y, []) (sym (spelled_whole bytes x s) ∙ spelled_whole bytes y t))

pub no_prefix : (bytes rest : List ℕ) (x y : Image) → Spells bytes x → Spells (bytes ++ rest) y → (x ≡ y) × (rest ≡ [])
no_prefix bytes rest x y s t =
    let read : image_parts (bytes ++ rest) ≡ Ok (x, rest) = ap (λ (l : List ℕ). image_parts (l ++ rest)) s.1.1 ∙ image_again s.0 x rest s.1.0 in
    let same = ok_is (x, rest) (y, []) (sym read ∙ spelled_whole (bytes ++ rest) y t) in
    (ap (λ (p : Image × List ℕ). p.0) same, ap (λ (p : Image × List ℕ). p.1) same)

-- ---- the first wrong place

-- the bytes before are a beginning, and with the next byte they are none
wrong_at : (seen rest : List ℕ) → IsBegun seen → ((wrong : ℕ) (after other : List ℕ) → rest ≡ wrong ∷ after → (x : Image) → image_parts (seen ++ wrong ∷ other) ≡ Ok (x, []) → ⊥)
    → (rest ≡ [] → (x : Image) → Spells seen x → ⊥) → IsFirstWrong (seen ++ rest) (length seen)
wrong_at seen rest begun shut proper = record {
  within = omega (arith, length-append seen rest);
  before = subst IsBegun (sym (take_at seen rest (length seen) refl)) begun;
  wrong = λ lt b. refuse rest shut lt b;
  proper = λ e x s. finish rest proper e x s;
} where
  refuse : (rest : List ℕ) → ((wrong : ℕ) (after other : List ℕ) → rest ≡ wrong ∷ after → (x : Image) → image_parts (seen ++ wrong ∷ other) ≡ Ok (x, []) → ⊥)
      → length seen < length (seen ++ rest) → IsBegun (take (length seen + 1) (seen ++ rest)) → ⊥
  refuse [] shut lt b = absurd (omega (arith, length-append seen []))
  refuse (wrong ∷ after) shut lt b =
      let front : take (length seen + 1) (seen ++ wrong ∷ after) ≡ seen ++ wrong ∷ [] =
      ap (λ (l : List ℕ). take (length seen + 1) l) (sym (append_assoc seen (wrong ∷ []) after)) ∙ take_at (seen ++ wrong ∷ []) after (length seen + 1) (length-append seen (wrong ∷ [])) in
      let whole : Spells ((seen ++ wrong ∷ []) ++ b.1) b.0 = subst (λ (l : List ℕ). Spells (l ++ b.1) b.0) front b.2 in
      shut wrong after b.1 refl b.0 (ap image_parts (sym (append_assoc seen (wrong ∷ []) b.1)) ∙ spelled_whole ((seen ++ wrong ∷ []) ++ b.1) b.0 whole)

  finish : (rest : List ℕ) → (rest ≡ [] → (x : Image) → Spells seen x → ⊥) → length seen ≡ length (seen ++ rest) → (x : Image) → Spells (seen ++ rest) x → ⊥
  finish [] proper e x s = proper refl x (subst (λ (l : List ℕ). Spells l x) (append-nil seen) s)
  finish (b ∷ rest) proper e x s = absurd (omega (arith, length-append seen (b ∷ rest)))

-- bytes follow the image
trailing : (bytes : List ℕ) (x : Image) (b : ℕ) (after : List ℕ) → IsBytes bytes → image_parts bytes ≡ Ok (x, b ∷ after) → IsFirstWrong bytes (length bytes - suc (length after))
trailing bytes x b after fits e =
    let s = image_sound bytes x (b ∷ after) fits e in
    let text = spell_image s.version x in
    let place : length text ≡ length bytes - suc (length after) = omega (arith, ap length s.text, length-append text (b ∷ after)) in
    let begun : IsBegun text = (x, [], (s.version, (s.is, append-nil text))) in
    let first = wrong_at text (b ∷ after) begun
    (λ wrong behind other same y read.
    let g = ok_is (x, wrong ∷ other) (y, []) (sym (image_again s.version x (wrong ∷ other) s.is) ∙ read) in
    let q : wrong ∷ other ≡ [] = ap (λ (p : Image × List ℕ). p.1) g in absurd cc)
    (λ none y t. absurd cc) in
    subst (λ (n : ℕ). IsFirstWrong bytes n) place (subst (λ (l : List ℕ). IsFirstWrong l (length text)) (sym s.text) first)

-- a part is at fault
broken : (bytes : List ℕ) (left : ℕ) → IsBytes bytes → image_parts bytes ≡ Err left → IsFirstWrong bytes (length bytes - left) × (left ≤ length bytes)
broken bytes left fits e =
    let s = image_reader.stops bytes left fits e in
    let o = s.open_ in
    let small : IsBytes (s.seen ++ o.next ∷ o.more) = IsBytes-append s.seen (o.next ∷ o.more) (IsBytes-front s.seen s.rest (subst IsBytes s.parts fits)) o.are_bytes in
    let begun : IsBegun s.seen = (o.value, o.next ∷ o.more, whole_spelled (s.seen ++ o.next ∷ o.more) o.value small o.whole) in
    let long : length bytes ≡ length s.seen + left = ap length s.parts ∙ length-append s.seen s.rest ∙ ap (λ (n : ℕ). length s.seen + n) s.count in
    let place : length s.seen ≡ length bytes - left = omega arith in
    let first = wrong_at s.seen s.rest begun
    (λ wrong after other same y read. let g = sym (s.shut wrong after same other) ∙ read in absurd cc)
    (λ none y t.
    let same : bytes ≡ s.seen = s.parts ∙ ap (λ (l : List ℕ). s.seen ++ l) none ∙ append-nil s.seen in
    let g = sym e ∙ ap image_parts same ∙ spelled_whole s.seen y t in absurd cc) in
    (subst (λ (n : ℕ). IsFirstWrong bytes n) place (subst (λ (l : List ℕ). IsFirstWrong l (length s.seen)) (sym s.parts) first), omega arith)

-- ---- what reading answers

-- what reading answers, as an image or as how many bytes are left
pub data Judged (bytes : List ℕ) (read : Result Image ℕ) : Type 0 where
  whole : (x : Image) (is : read ≡ Ok x) (spells : Spells bytes x) → Judged bytes read
  wrong : (left : ℕ) (is : read ≡ Err left) (first : IsFirstWrong bytes (length bytes - left)) (most : left ≤ length bytes) → Judged bytes read

not_ended : (x : Image) (b : ℕ) (after : List ℕ) → ended (done (x, b ∷ after)) ≡ Err (suc (length after))
not_ended x b after = rw (ne_eqb (suc (length after)) 0 (omega arith)) refl

pub judged : (bytes : List ℕ) → IsBytes bytes → Judged bytes (image_of bytes)
unfolding image_of
judged bytes fits =
    elim (answered (image_parts bytes)) [
      | found x rest e ↦ at_rest rest e
      | stuck left e ↦ let b = broken bytes left fits e in wrong left (ap ended e) b.0 b.1
    ] where
      at_rest : {x : Image} (rest : List ℕ) → image_parts bytes ≡ Ok (x, rest) → Judged bytes (ended (image_parts bytes))
      at_rest {x = x} [] e = whole x (ap ended e) (whole_spelled bytes x fits e)
      at_rest {x = x} (b ∷ after) e =
          let s = image_sound bytes x (b ∷ after) fits e in
          wrong (suc (length after)) (ap ended e ∙ not_ended x b after) (trailing bytes x b after fits e) (omega (arith, ap length s.text, length-append (spell_image s.version x) (b ∷ after)))

ok_same : (x y : Image) → told x ≡ told y → x ≡ y
ok_same x y e = cc

left_same : (m n : ℕ) → failed m ≡ failed n → m ≡ n
left_same m n e = cc

pub read_whole : (bytes : List ℕ) (x : Image) → IsBytes bytes → image_of bytes ≡ Ok x → Spells bytes x
read_whole bytes x fits e =
    elim (judged bytes fits) [
      | whole y is spells ↦ subst (λ (z : Image). Spells bytes z) (ok_same y x (sym is ∙ e)) spells
      | wrong left is first most ↦ let g = sym is ∙ e in absurd cc
    ]

pub read_wrong : (bytes : List ℕ) (left : ℕ) → IsBytes bytes → image_of bytes ≡ Err left → IsFirstWrong bytes (length bytes - left) × (left ≤ length bytes)
read_wrong bytes left fits e =
    elim (judged bytes fits) [
      | whole y is spells ↦ let g = sym is ∙ e in absurd cc
      | wrong here is first most ↦ subst (λ (n : ℕ). IsFirstWrong bytes (length bytes - n) × (n ≤ length bytes)) (left_same here left (sym is ∙ e)) (first, most)
    ]

-- reading what spells an image
pub reads_back : (bytes : List ℕ) (x : Image) (r : Result Image ℕ) → Spells bytes x → Reads bytes r → r ≡ Ok x
reads_back bytes x (Ok y) is reads = ap told (one_image bytes y x reads is)
reads_back bytes x (Err at) is reads =
    elim (cases_lt at (length bytes)) [
      | inl lt ↦ absurd (reads.wrong lt (x, drop (at + 1) bytes, subst (λ (l : List ℕ). Spells l x) (sym (take-append-drop (at + 1) bytes)) is))
      | inr ge ↦ absurd (reads.proper (omega (arith, reads.within)) x is)
    ]
