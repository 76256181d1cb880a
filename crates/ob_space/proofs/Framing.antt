-- Frames and the local rows in them: where they begin and end, and how many rows the calls in progress have.
use Rattle.std.proofs.Common.{◌≡◌, ℕ, zero, suc, ◌+◌, ◌*◌, ◌-◌, ◌%◌, ◌<◌, ◌≤◌, max, Some, slice_get, List, [], ◌∷◌, length, refl, ap, subst, ◌∙◌, arith}
use Rattle.std.specs.Prelude.{slice_index_or}
use Rattle.std.proofs.lemmas.Option.{slice_get-get_or}
use Rattle.ob_code.specs.declared.image.FunctionRow.{FunctionRow}
use Rattle.ob_code.specs.declared.image.LocalRow.{LocalRow}
use Rattle.ob_code.specs.Frames.{allowances, end_of, frame_length, function_at, local_end, locals_end, next_base, words_end}
use Rattle.ob_code.specs.Layout.{no_local}
use Rattle.ob_code.specs.Rules.{IsFrameSound, local_at}
use Rattle.ob_code.specs.State.{Call}
use Rattle.ob_frames.specs.Calls.{AreStacked}
use Rattle.ob_space.specs.Kept.{local_count}

-- the functions of a verified image
abbrev pub AllSound : List FunctionRow → Type 0
AllSound functions = (f : ℕ) → f < length functions → IsFrameSound (function_at functions f)

-- ---- one frame

locals_end_is : (l : LocalRow) (ls : List LocalRow) → locals_end (l ∷ ls) ≡ local_end (slice_index_or (l ∷ ls) (length ls) no_local)
locals_end_is l ls =
    let last : slice_get (l ∷ ls) (length ls) ≡ Some (slice_index_or (l ∷ ls) (length ls) no_local) = slice_get-get_or (l ∷ ls) (length ls) no_local (omega arith) in
    let at : length (l ∷ ls) - 1 ≡ length ls = omega arith in
    ap (λ (k : ℕ). end_of (slice_get (l ∷ ls) k)) at ∙ ap end_of last

ends_in_blocks : (words : ℕ) (locals : List LocalRow) → ((j : ℕ) → j < length locals → (slice_index_or locals j no_local).place % 16 ≡ 0) → max (words_end words) (locals_end locals) % 16 ≡ 0
ends_in_blocks words [] each = omega arith
ends_in_blocks words (l ∷ ls) each = omega (arith, locals_end_is l ls, each (length ls) (omega arith))

pub frame_in_blocks : (f : FunctionRow) → IsFrameSound f → frame_length f % 16 ≡ 0
frame_in_blocks f sound = ends_in_blocks f.words f.locals (λ j h. (sound.locals j h).multiple)

-- a row's block lies behind 16 bytes for each row before it, and 16 bytes of words
pub place_is_far : (f : FunctionRow) → IsFrameSound f → (j : ℕ) → j < length f.locals → 16 * j + 16 ≤ (local_at f j).place
place_is_far f sound zero below = omega (arith, (sound.locals zero below).after_words, sound.least_words)
place_is_far f sound (suc j) below =
    let before : suc j - 1 ≡ j = omega arith in
    let ends : local_end (local_at f j) ≤ (local_at f (suc j)).place =
    subst (λ (i : ℕ). local_end (local_at f i) ≤ (local_at f (suc j)).place) before ((sound.locals (suc j) below).places (omega arith)) in
    omega (arith, ends, place_is_far f sound j (omega arith))

-- a row's block ends where the last one's does, or before
ends_before : (f : FunctionRow) → IsFrameSound f → (j n : ℕ) → j + n < length f.locals → local_end (local_at f j) ≤ local_end (local_at f (j + n))
ends_before f sound j zero below = let same : j + zero ≡ j = omega arith in rw same (omega arith)
ends_before f sound j (suc n) below =
    let next : j + suc n ≡ suc (j + n) = omega arith in
    let before : suc (j + n) - 1 ≡ j + n = omega arith in
    let ends : local_end (local_at f (j + n)) ≤ (local_at f (suc (j + n))).place =
    subst (λ (i : ℕ). local_end (local_at f i) ≤ (local_at f (suc (j + n))).place) before ((sound.locals (suc (j + n)) (omega arith)).places (omega arith)) in
    rw next (omega (arith, ends, ends_before f sound j n (omega arith)))

last_end : (rows : List LocalRow) (i : ℕ) → i + 1 ≡ length rows → locals_end rows ≡ local_end (slice_index_or rows i no_local)
last_end [] i is = absurd (omega arith)
last_end (l ∷ ls) i is = let at : length ls ≡ i = omega arith in subst (λ (k : ℕ). locals_end (l ∷ ls) ≡ local_end (slice_index_or (l ∷ ls) k no_local)) at (locals_end_is l ls)

pub row_in_frame : (f : FunctionRow) → IsFrameSound f → (j : ℕ) → j < length f.locals → local_end (local_at f j) ≤ frame_length f
row_in_frame f sound j below =
    let rest : j + (length f.locals - 1 - j) + 1 ≡ length f.locals = omega arith in
    omega (arith, ends_before f sound j (length f.locals - 1 - j) (omega arith), last_end f.locals (j + (length f.locals - 1 - j)) rest)

rows_fit : (f : FunctionRow) → IsFrameSound f → (n : ℕ) → n ≡ length f.locals → 16 * n ≤ frame_length f
rows_fit f sound zero is = omega arith
rows_fit f sound (suc n) is = omega (arith, place_is_far f sound n (omega arith), row_in_frame f sound n (omega arith))

-- ---- the frames of the calls in progress

pub frames_begin : (functions : List FunctionRow) (calls : List Call) → AreStacked functions calls → 16777216 ≤ next_base functions calls
frames_begin functions [] stacked = omega arith
frames_begin functions (c ∷ cs) stacked = omega (arith, frames_begin functions cs stacked.2, stacked.1)

pub frames_in_blocks : (functions : List FunctionRow) (calls : List Call) → AllSound functions → AreStacked functions calls → next_base functions calls % 16 ≡ 0
frames_in_blocks functions [] rows stacked = refl
frames_in_blocks functions (c ∷ cs) rows stacked =
    omega (arith, frames_in_blocks functions cs rows stacked.2, frame_in_blocks (function_at functions c.function) (rows c.function stacked.0), stacked.1)

pub frames_end : (functions : List FunctionRow) (calls : List Call) → AllSound functions → AreStacked functions calls → next_base functions calls ≤ 16777216 + allowances functions calls
frames_end functions [] rows stacked = omega arith
frames_end functions (c ∷ cs) rows stacked =
    omega (arith, frames_end functions cs rows stacked.2, (rows c.function stacked.0).covers, stacked.1)

pub rows_are_few : (functions : List FunctionRow) (calls : List Call) → AllSound functions → AreStacked functions calls → 16 * local_count functions calls ≤ allowances functions calls
rows_are_few functions [] rows stacked = omega arith
rows_are_few functions (c ∷ cs) rows stacked =
    omega (arith, rows_are_few functions cs rows stacked.2, rows_fit (function_at functions c.function) (rows c.function stacked.0) (length (function_at functions c.function).locals) refl, (rows c.function stacked.0).covers)

-- with one more function
pub more_rows_are_few : (functions : List FunctionRow) (f : ℕ) (calls : List Call) → AllSound functions → f < length functions → AreStacked functions calls → (function_at functions f).allowance + allowances functions calls ≤ 1048576 → length (function_at functions f).locals + local_count functions calls ≤ 65536
more_rows_are_few functions f calls rows known stacked room =
    omega (arith, rows_are_few functions calls rows stacked, rows_fit (function_at functions f) (rows f known) (length (function_at functions f).locals) refl, (rows f known).covers)
