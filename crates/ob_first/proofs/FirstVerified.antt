-- The image of a program of the first form keeps the rules of images, and its tokens bound its code.
use Rattle.std.proofs.Common.{◌≡◌, ℕ, zero, suc, ◌+◌, ◌*◌, ◌^◌, ◌<◌, ◌≤◌, List, [], ◌∷◌, ◌++◌, length, refl, sym, ap, subst, ◌∙◌, arith, lit<, lit≤, inl, inr, append_assoc, length-append}
use Rattle.std.specs.Prelude.{slice_index_or}
use Rattle.std.specs.List.{AllByRecursion, flat_map}
use Rattle.ob_code.specs.declared.faults.BadImage.{BadImage}
use Rattle.ob_code.specs.declared.faults.Part.{Part}
use Rattle.ob_code.specs.declared.faults.Part.TheVariants as part
use Rattle.ob_code.specs.declared.image.Image.{Image}
use Rattle.ob_code.specs.declared.instructions.Instr.{Instr}
use Rattle.ob_code.specs.declared.instructions.Instr.TheVariants.{Tick, PutChar, Return}
use Rattle.ob_code.specs.FirstFault.{IsFaultAt, IsFaultIn, IsFirstFault, too_many, broken}
use Rattle.ob_code.specs.Rules.{AreOperandsSound, IsCodeSound, IsFrameSound, IsFunctionSound, IsInstructionSound, IsLast, IsVerified}
use Rattle.ob_tree.specs.declared.tokens.TokenKind.TheVariants as kind
use Rattle.ob_tree.specs.declared.tokens.Sign.TheVariants as signs
use Rattle.ob_first.specs.FirstCode.{addend_code, body_code, first_code, main_row, only_main, print_code, return_code, sum_code}
use Rattle.ob_first.specs.FirstForm.{FirstForm, addend_kinds, body_kinds, first_kinds, print_kinds, return_kinds, sum_kinds}

-- ---- a verified image has no fault

no_fault_at : (limit count : ℕ) (Rule : ℕ → Type 0) (at : ℕ) → count ≤ limit → ((i : ℕ) → i < count → Rule i) → IsFaultAt limit count Rule at → ⊥
no_fault_at limit count Rule at most each (too_many more is) = omega arith
no_fault_at limit count Rule at most each (broken fits row unsound before) = unsound (each at row)

no_fault_in : (p : Part) (image : Image) (at : ℕ) → IsVerified image → IsFaultIn p image at → ⊥
no_fault_in part.Bytes image at r f = f
no_fault_in part.Static image at r f = no_fault_at _ _ _ at r.statics.most r.statics.each f
no_fault_in part.Pointer image at r f = no_fault_at _ _ _ at r.pointers.most r.pointers.each f.1
no_fault_in part.Function image at r (_, _, inl none) = omega (arith, none.0, r.functions.some)
no_fault_in part.Function image at r (_, _, inr f) = no_fault_at _ _ _ at r.functions.rows.most r.functions.rows.each f
no_fault_in part.Main image at r f = f.3.1 r.main
no_fault_in part.Code image at r f = no_fault_at _ _ _ at r.code.most r.code.each f.4
no_fault_in part.Names image at r f = no_fault_at _ _ _ at r.names.most r.names.each f.5

pub no_fault : (image : Image) (bad : BadImage) → IsVerified image → IsFirstFault image bad → ⊥
no_fault image bad r f = no_fault_in bad.part image bad.at r f

-- ---- each instruction is sound, and the last one goes nowhere on

-- an instruction whose words are in the frame
abbrev Fits : List Instr → Instr → Type 0
Fits code i = AreOperandsSound (only_main code) 0 i

all_append : (P : Instr → Type 0) (xs ys : List Instr) → AllByRecursion P xs → AllByRecursion P ys → AllByRecursion P (xs ++ ys)
all_append P [] ys p q = q
all_append P (x ∷ xs) ys p q = (p.0, all_append P xs ys p.1 q)

all_at : (P : Instr → Type 0) (xs : List Instr) (i : ℕ) → AllByRecursion P xs → i < length xs → P (slice_index_or xs i Tick)
all_at P [] i p h = absurd (omega arith)
all_at P (x ∷ xs) zero p h = p.0
all_at P (x ∷ xs) (suc i) p h = all_at P xs i p.1 (omega arith)

in_two : (2 ≤ 2) × (2 < 4)
in_two = (omega arith, omega arith)

in_three : (2 ≤ 3) × (3 < 4)
in_three = (omega arith, omega arith)

addends_fit : (code : List Instr) (cs : List ℕ) → AllByRecursion (Fits code) (flat_map addend_code cs)
addends_fit code [] = tt
addends_fit code (c ∷ cs) = (in_three, ((in_two, omega arith, omega arith), addends_fit code cs))

sum_fits : (code : List Instr) (cs : List ℕ) → AllByRecursion (Fits code) (sum_code cs)
sum_fits code [] = tt
sum_fits code (c ∷ cs) = (in_two, addends_fit code cs)

print_fits : (code : List Instr) (cs : List ℕ) → AllByRecursion (Fits code) (print_code cs)
print_fits code cs = all_append (Fits code) (sum_code cs) _ (sum_fits code cs) ((in_three, omega arith), tt)

body_fits : (code : List Instr) (prints : List (List ℕ)) (result : List ℕ) → AllByRecursion (Fits code) (body_code prints result)
body_fits code [] result = all_append (Fits code) (sum_code result) _ (sum_fits code result) (omega arith, tt)
body_fits code (cs ∷ more) result =
    subst (AllByRecursion (Fits code)) (sym (append_assoc (print_code cs) (flat_map print_code more) (return_code result)))
    (all_append (Fits code) (print_code cs) (body_code more result) (print_fits code cs) (body_fits code more result))

-- the last instruction
last_at : (before : List Instr) (i : ℕ) → i + 1 ≡ length (before ++ Return 2 ∷ []) → slice_index_or (before ++ Return 2 ∷ []) i Tick ≡ Return 2
last_at [] i e = let zero_is : 0 ≡ i = omega arith in subst (λ k. slice_index_or (Return 2 ∷ []) k Tick ≡ Return 2) zero_is refl
last_at (x ∷ xs) zero e = absurd (omega (arith, length-append xs (Return 2 ∷ [])))
last_at (x ∷ xs) (suc i) e = last_at xs i (omega arith)

ends_in_return : (prints : List (List ℕ)) (result : List ℕ) → body_code prints result ≡ (flat_map print_code prints ++ sum_code result) ++ Return 2 ∷ []
ends_in_return prints result = sym (append_assoc (flat_map print_code prints) (sum_code result) (Return 2 ∷ []))

-- ---- so many instructions at most as there are tokens

addends_length : (cs : List ℕ) → length (flat_map addend_code cs) ≡ length (flat_map addend_kinds cs)
addends_length [] = refl
addends_length (c ∷ cs) = ap (λ n. suc (suc n)) (addends_length cs)

sum_length : (cs : List ℕ) → length (sum_code cs) ≡ length (sum_kinds cs)
sum_length [] = refl
sum_length (c ∷ cs) = ap suc (addends_length cs)

-- a print has three tokens more than instructions, and the rest two
body_length : (prints : List (List ℕ)) (result : List ℕ) → length (body_code prints result) + 3 * length prints + 2 ≡ length (body_kinds prints result)
body_length [] result =
    let code : length (body_code [] result) ≡ length (sum_code result) + 1 = length-append (sum_code result) (Return 2 ∷ []) in
    let kinds : length (body_kinds [] result) ≡ suc (length (sum_kinds result) + 2) = ap suc (length-append (sum_kinds result) (kind.Sign signs.Semi ∷ (kind.Sign signs.CloseBrace ∷ []))) in
    omega (arith, sum_length result, code, kinds)
body_length (cs ∷ more) result =
    let code : length (body_code (cs ∷ more) result) ≡ length (sum_code cs) + 1 + length (body_code more result) =
    ap length (append_assoc (print_code cs) (flat_map print_code more) (return_code result)) ∙ length-append (print_code cs) (body_code more result) ∙ ap (λ n. n + length (body_code more result)) (length-append (sum_code cs) (PutChar 3 2 ∷ [])) in
    let kinds : length (body_kinds (cs ∷ more) result) ≡ length (print_kinds cs) + length (body_kinds more result) =
    ap length (append_assoc (print_kinds cs) (flat_map print_kinds more) (return_kinds result)) ∙ length-append (print_kinds cs) (body_kinds more result) in
    let print : length (print_kinds cs) ≡ suc (suc (length (sum_kinds cs) + 2)) = ap (λ n. suc (suc n)) (length-append (sum_kinds cs) (kind.Sign signs.CloseParen ∷ (kind.Sign signs.Semi ∷ []))) in
    omega (arith, code, kinds, print, body_length more result, sum_length cs)

pub first_length : (f : FirstForm) → length (first_code f) + 3 * length f.prints + 8 ≡ length (first_kinds f)
first_length f = omega (arith, body_length f.prints f.result)

-- fewer prints than tokens
pub prints_length : (f : FirstForm) → length f.prints < length (first_kinds f)
prints_length f = omega (arith, first_length f)

-- ---- the whole image

code_is : (f : FirstForm) → first_code f ≡ (flat_map print_code f.prints ++ sum_code f.result) ++ Return 2 ∷ []
code_is f = ends_in_return f.prints f.result

has_code : (f : FirstForm) → 0 < length (first_code f)
has_code f = omega (arith, ap length (code_is f), length-append (flat_map print_code f.prints ++ sum_code f.result) (Return 2 ∷ []))

frame_sound : IsFrameSound main_row
frame_sound = record {
  least_words = lit≤ tt;
  most_words = lit≤ tt;
  vars = lit≤ tt;
  locals = λ j h. absurd (omega arith);
  multiple = refl;
  most_allowance = lit≤ tt;
  covers = lit≤ tt;
}

function_sound : (f : FirstForm) (i : ℕ) → i < 1 → IsFunctionSound (only_main (first_code f)) i
function_sound f i h =
    let zero_is : 0 ≡ i = omega arith in
    subst (λ k. IsFunctionSound (only_main (first_code f)) k) zero_is (record {
      entry = record { first = λ e. refl; order = λ g. absurd (omega arith); in_code = has_code f };
      frame = frame_sound;
    })

fits_at : (f : FirstForm) (i : ℕ) → i < length (first_code f) → Fits (first_code f) (slice_index_or (first_code f) i Tick)
fits_at f i h = all_at (Fits (first_code f)) (first_code f) i (body_fits (first_code f) f.prints f.result) h

is_last : (f : FirstForm) (i : ℕ) → i + 1 ≡ length (first_code f) → IsLast (slice_index_or (first_code f) i Tick)
is_last f i e =
    let before = flat_map print_code f.prints ++ sum_code f.result in
    let P : List Instr → Type 0 = λ code. IsLast (slice_index_or code i Tick) in
    subst P (sym (code_is f)) (subst IsLast (sym (last_at before i (e ∙ ap length (code_is f)))) tt)

instruction_sound : (f : FirstForm) (i : ℕ) → i < length (first_code f) → IsInstructionSound (only_main (first_code f)) 0 i
instruction_sound f i h = record { operands = fits_at f i h; last = is_last f i }

code_sound : (f : FirstForm) (i : ℕ) → i < length (first_code f) → IsCodeSound (only_main (first_code f)) i
code_sound f i h g of = let zero_is : 0 ≡ g = omega (arith, of.is_function) in subst (λ k. IsInstructionSound (only_main (first_code f)) k i) zero_is (instruction_sound f i h)

pub verified : (f : FirstForm) → length (first_kinds f) ≤ 2 ^ 20 → IsVerified (only_main (first_code f))
verified f few = record {
  statics = record { most = lit≤ tt; each = λ i h. absurd (omega arith) };
  pointers = record { most = lit≤ tt; each = λ i h. absurd (omega arith) };
  functions = record { some = lit< tt; rows = record { most = lit≤ tt; each = function_sound f } };
  main = record { exists = lit< tt; no_params = refl };
  code = record { most = omega (arith, first_length f); each = code_sound f };
  names = record { most = lit≤ tt; each = λ i h. absurd (omega arith) };
}
