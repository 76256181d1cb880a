-- What a row of names shows, by the rows of its function.
use Rattle.std.proofs.Common.{◌≡◌, ℕ, zero, suc, ◌+◌, ◌-◌, ◌<◌, ◌≤◌, ◌==◌, Bool, true, false, cond, nat_lt, List, [], ◌∷◌, length, Option, Some, None, slice_get, slice_index_or, refl, sym, ap, ◌∙◌, subst, arith, inl, inr}
use Rattle.std.specs.List.{find, position_or_len}
use Rattle.std.specs.Option.{option_map}
use Rattle.std.proofs.lemmas.Bool.{eq-eqb, eqb-true, ltb-false, ltb-true}
use Rattle.std.proofs.lemmas.List.{get_or_default}
use Rattle.std.proofs.lemmas.List.Folds.{find_at}
use Rattle.std.proofs.lemmas.Option.{slice_get-get_or, slice_get_past}
use Rattle.ob_model.specs.declared.values.LoadKind.{LoadKind}
use Rattle.ob_model.specs.Accesses.{bytes_of_kind}
use Rattle.ob_code.specs.declared.image.FunctionRow.{FunctionRow}
use Rattle.ob_code.specs.declared.image.Image.{Image}
use Rattle.ob_code.specs.declared.image.LocalRow.{LocalRow}
use Rattle.ob_code.specs.declared.image.NameRow.{NameRow}
use Rattle.ob_code.specs.Accesses.{read_memory}
use Rattle.ob_code.specs.Frames.{frame_word, function_at, top_base, top_function}
use Rattle.ob_code.specs.Kinds.{load_kind_of}
use Rattle.ob_code.specs.Layout.{local_base, local_of, no_local}
use Rattle.ob_code.specs.Rules.{IsFrameSound, IsHeldSound, IsLocalLong, IsVariableNameSound, IsVerified, bytes_of_number, local_at as row_at}
use Rattle.ob_code.specs.Shown.{local_word, shown_word, static_word, top_number, variable_word}
use Rattle.ob_code.specs.State.{Call, Space}
use Rattle.ob_space.specs.Loaded.{IsLocalOf, Loaded}
use Rattle.ob_machine.specs.Executions.{top_number as number_of_top}
use Rattle.ob_machine.specs.Machines.{shown_by, shown_of_call, shown_row}
use Rattle.ob_machine.specs.Progress.{IsInnermost}

-- ---- a function has few local rows

ordinal_grows : (f : FunctionRow) → IsFrameSound f → (j : ℕ) → j < length f.locals → j ≤ (row_at f j).ordinal
ordinal_grows f s zero within = omega arith
ordinal_grows f s (suc j) within =
    let before : j < length f.locals = omega arith in
    let same : suc j - 1 ≡ j = omega arith in
    let more = subst (λ k. (row_at f k).ordinal < (row_at f (suc j)).ordinal) same ((s.locals (suc j) within).ordinals (omega arith)) in
    omega (arith, ordinal_grows f s j before, more)

pub few_locals : (f : FunctionRow) → IsFrameSound f → length f.locals ≤ 524288
few_locals f s = by_length (length f.locals) refl
  where
    by_length : (n : ℕ) → length f.locals ≡ n → n ≤ 524288
    by_length zero is = omega arith
    by_length (suc n) is =
        let within : n < length f.locals = omega (arith, is) in
        let ordinal = (s.locals n within).ordinal in
        omega (arith, ordinal_grows f s n within, ordinal, s.vars)

-- the innermost call's function is one of the image
pub top_exists : (image : Image) (calls : List Call) (at : ℕ) → IsInnermost image calls at → number_of_top calls < length image.functions
top_exists image [] at here = absurd here
top_exists image (c ∷ cs) at here = here.is_function

pub few_top_locals : (image : Image) (calls : List Call) (at : ℕ) → IsVerified image → IsInnermost image calls at → length (function_at image.functions (number_of_top calls)).locals ≤ 524288
few_top_locals image calls at v here =
    few_locals (function_at image.functions (number_of_top calls)) (v.functions.rows.each (number_of_top calls) (top_exists image calls at here)).frame

-- ---- the place of a local row

abbrev pub place_in : ℕ → List LocalRow → ℕ
place_in ordinal locals = position_or_len (λ l. l.ordinal == ordinal) locals

pub record IsPlaceIn (ordinal : ℕ) (locals : List LocalRow) (place : ℕ) : Type 0 where
  pub within : place < length locals
  pub found : find (λ l. l.ordinal == ordinal) locals ≡ slice_get locals place

pub placed_in : (ordinal : ℕ) (locals : List LocalRow) (place : ℕ) → cond (nat_lt (place_in ordinal locals) (length locals)) (Some (place_in ordinal locals)) None ≡ Some place → IsPlaceIn ordinal locals place
placed_in ordinal locals place is = by_test (nat_lt (place_in ordinal locals) (length locals)) refl is
  where
    by_test : (b : Bool) → nat_lt (place_in ordinal locals) (length locals) ≡ b → cond b (Some (place_in ordinal locals)) None ≡ Some place → IsPlaceIn ordinal locals place
    by_test true test e =
        let same : place_in ordinal locals ≡ place = cc in
        record {
          within = subst (λ k. k < length locals) same (ltb-true (place_in ordinal locals) (length locals) test);
          found = find_at (λ l. l.ordinal == ordinal) locals ∙ ap (slice_get locals) same;
        }
    by_test false test e = cc

pub not_placed : (ordinal : ℕ) (locals : List LocalRow) → cond (nat_lt (place_in ordinal locals) (length locals)) (Some (place_in ordinal locals)) None ≡ None → find (λ l. l.ordinal == ordinal) locals ≡ None
not_placed ordinal locals is = by_test (nat_lt (place_in ordinal locals) (length locals)) refl is
  where
    by_test : (b : Bool) → nat_lt (place_in ordinal locals) (length locals) ≡ b → cond b (Some (place_in ordinal locals)) None ≡ None → find (λ l. l.ordinal == ordinal) locals ≡ None
    by_test true test e = cc
    by_test false test e =
        find_at (λ l. l.ordinal == ordinal) locals ∙ slice_get_past locals (place_in ordinal locals) (ltb-false (place_in ordinal locals) (length locals) test)

-- ---- the word of a variable

long_enough : (o : Option LocalRow) (l : LocalRow) (k : ℕ) (kind : LoadKind) → IsLocalLong o k → o ≡ Some l → load_kind_of k ≡ Some kind → bytes_of_kind kind ≤ l.size
long_enough None l k kind long is kind_is = cc
long_enough (Some m) l k kind long is kind_is =
    let same : m ≡ l = cc in
    subst (λ x. bytes_of_kind kind ≤ x.size) same (subst (λ o. bytes_of_number o ≤ m.size) kind_is long)

module _ (s : Loaded) (f : FunctionRow) (row : NameRow) (kind : LoadKind) (place : ℕ) (top : top_function s.functions s.space.calls ≡ f) (zero_is : row.word ≡ 0) (is : IsPlaceIn row.ordinal f.locals place) where
  abbrev there : LocalRow
  there = slice_index_or f.locals place no_local

  row_there : local_of f row.ordinal ≡ Some there
  row_there = is.found ∙ slice_get-get_or f.locals place no_local is.within

  pub local_shown : (w : ℕ) → w ≡ local_base s.functions s.space place → IsVariableNameSound f row → load_kind_of row.kind ≡ Some kind → IsLocalOf s w (bytes_of_kind kind)
  local_shown w base sound kind_is =
      record {
        row = place;
        exists = subst (λ g. place < length g.locals) (sym top) is.within;
        base = base;
        long = subst (λ g. bytes_of_kind kind ≤ (slice_index_or g.locals place no_local).size) (sym top) (long_enough (local_of f row.ordinal) there row.kind kind (sound.local zero_is) row_there kind_is);
      }

  pub local_is : read_memory kind s.space.memory (local_base s.functions s.space place) ≡ variable_word f s.space row kind
  local_is =
      ap (λ g. read_memory kind s.space.memory (top_base s.space.calls + (slice_index_or g.locals place no_local).place)) top
      ∙ ap (λ o. local_word o s.space kind) (sym row_there)
      ∙ ap (λ w. cond (w == 0) (local_word (local_of f row.ordinal) s.space kind) (frame_word s.space row.word)) (sym zero_is)

pub local_missing : (f : FunctionRow) (row : NameRow) → IsVariableNameSound f row → row.word ≡ 0 → local_of f row.ordinal ≡ None → ⊥
local_missing f row sound zero_is none = subst (λ o. IsLocalLong o row.kind) none (sound.local zero_is)

-- ---- the row of another function

not_same : (a b : ℕ) → ¬ (a ≡ b) → (a == b) ≡ false
not_same a b other = by_test (a == b) refl
  where
    by_test : (t : Bool) → (a == b) ≡ t → t ≡ false
    by_test true e = absurd (other (eqb-true a b e))
    by_test false e = refl

of_other : (image : Image) (s : Space) (calls : List Call) (row : NameRow) (number : ℕ) → ¬ (row.holder ≡ 0) → top_number calls ≡ Some number → ¬ (row.holder - 1 ≡ number) → shown_of_call image.functions s calls row ≡ None
of_other image s [] row number held top other = cc
of_other image s (c ∷ cs) row number held top other =
    let same : c.function ≡ number = cc in
    let apart : ¬ (row.holder ≡ c.function + 1) = λ e. other (omega (arith, e, same)) in
    ap (λ b. cond b (option_map (λ kind. shown_word kind (variable_word (function_at image.functions c.function) s row kind)) (load_kind_of row.kind)) None) (not_same row.holder (c.function + 1) apart)

-- a function's row
held_by : (image : Image) (s : Space) (row : NameRow) → ¬ (row.holder ≡ 0) → shown_row image s row ≡ shown_of_call image.functions s s.calls row
held_by image s row held = ap (λ b. cond b (shown_by (static_word image.statics s) row) (shown_of_call image.functions s s.calls row)) (not_same row.holder 0 held)

pub shown_other : (image : Image) (s : Space) (row : NameRow) (number : ℕ) → ¬ (row.holder ≡ 0) → top_number s.calls ≡ Some number → ¬ (row.holder - 1 ≡ number) → None ≡ shown_row image s row
shown_other image s row number held top other =
    sym (held_by image s row held ∙ of_other image s s.calls row number held top other)

of_own : (image : Image) (s : Space) (calls : List Call) (row : NameRow) (number : ℕ) (kind : LoadKind) → ¬ (row.holder ≡ 0) → top_number calls ≡ Some number → row.holder - 1 ≡ number → load_kind_of row.kind ≡ Some kind → shown_of_call image.functions s calls row ≡ Some (shown_word kind (variable_word (function_at image.functions number) s row kind))
of_own image s [] row number kind held top own kind_is = cc
of_own image s (c ∷ cs) row number kind held top own kind_is =
    let same : c.function ≡ number = cc in
    let here : row.holder ≡ c.function + 1 = by_holder row.holder held own same in
    ap (λ b. cond b (option_map (λ k. shown_word k (variable_word (function_at image.functions c.function) s row k)) (load_kind_of row.kind)) None) (eq-eqb row.holder (c.function + 1) here)
    ∙ ap (option_map (λ k. shown_word k (variable_word (function_at image.functions c.function) s row k))) kind_is
    ∙ ap (λ n. Some (shown_word kind (variable_word (function_at image.functions n) s row kind))) same
  where
    by_holder : (h : ℕ) → ¬ (h ≡ 0) → h - 1 ≡ number → c.function ≡ number → h ≡ c.function + 1
    by_holder zero some is e = absurd (some refl)
    by_holder (suc h) some is e = omega (arith, is, e)

pub shown_own : (image : Image) (s : Space) (row : NameRow) (number : ℕ) (kind : LoadKind) → ¬ (row.holder ≡ 0) → top_number s.calls ≡ Some number → row.holder - 1 ≡ number → load_kind_of row.kind ≡ Some kind → shown_row image s row ≡ Some (shown_word kind (variable_word (function_at image.functions number) s row kind))
shown_own image s row number kind held top own kind_is =
    held_by image s row held ∙ of_own image s s.calls row number kind held top own kind_is

-- the function of the row
pub record IsOwn (image : Image) (calls : List Call) (row : NameRow) (number : ℕ) : Type 0 where
  pub exists : number < length image.functions
  pub sound : IsVariableNameSound (function_at image.functions number) row
  pub frame : IsFrameSound (function_at image.functions number)

pub is_own : (image : Image) (calls : List Call) (row : NameRow) (number : ℕ) → IsVerified image → IsHeldSound image row → ¬ (row.holder ≡ 0) → row.holder - 1 ≡ number → IsOwn image calls row number
is_own image calls row number v (inl h) held own = absurd (held h.0)
is_own image calls row number v (inr h) held own =
    let exists : number < length image.functions = omega (arith, h.0, h.1, own) in
    record {
      exists = exists;
      sound = subst (λ n. IsVariableNameSound (function_at image.functions n) row) own h.2;
      frame = (v.functions.rows.each number exists).frame;
    }

pub top_row : (functions : List FunctionRow) (calls : List Call) (number : ℕ) → top_number calls ≡ Some number → top_function functions calls ≡ function_at functions number
top_row functions [] number top = cc
top_row functions (c ∷ cs) number top = let same : c.function ≡ number = cc in ap (function_at functions) same

-- ---- a row of a list

pub index_is : {A : Type 0} → (xs ys : List A) (x other : A) (i : ℕ) → xs ≡ ys → i < length ys → x ≡ slice_index_or xs i x → x ≡ slice_index_or ys i other
index_is xs ys x other i same within is =
    is ∙ ap (λ l. slice_index_or l i x) same ∙ get_or_default ys i x other within
