-- The image of a program of the first form runs as the program does. The laws of memory come in as premises.
use Rattle.std.proofs.Common.{◌≡◌, ℕ, zero, suc, ◌+◌, ◌-◌, ◌*◌, ◌/◌, ◌%◌, ◌^◌, ◌<◌, ◌≤◌, false, slice_get, List, [], ◌∷◌, ◌++◌, length, map, drop, Some, ℤ, pos, refl, sym, ap, subst, ◌∙◌, arith, lit<, lit≤, inr, append_assoc, add-zero, drop-drop}
use Rattle.std.specs.Prelude.{◌+ℤ◌, sum}
use Rattle.std.specs.List.{AllByRecursion, flat_map}
use Rattle.std.proofs.lemmas.List.{append-nil, length-replicate}
use Rattle.std.proofs.lemmas.List.Sums.{sum_by-cons}
use Rattle.ob_words.specs.declared.types.IntType.TheVariants.{Int}
use Rattle.ob_words.specs.declared.types.BinOp.TheVariants.{Add}
use Rattle.ob_words.specs.Conversion.{convert, residue}
use Rattle.ob_words.specs.Words.{number, word}
use Rattle.ob_words.proofs.Congruence.{congruent_coarser, residue_same}
use Rattle.ob_words.proofs.Conversions.{convert_congruent, convert_sum, convert_twice, number-word, word_below}
use Rattle.ob_model.specs.declared.endings.Ending.{Ending}
use Rattle.ob_model.specs.declared.endings.Ending.TheVariants.{Ended}
use Rattle.ob_model.specs.declared.settings.RunSettings.{RunSettings}
use Rattle.ob_model.specs.Endings.{InputEnd}
use Rattle.ob_model.specs.Settings.{IsFit}
use Rattle.ob_flat.specs.Laws.{FieldIsRead, LayoutIsKept, OtherFieldsAreKept, OthersAreKeptByZeros}
use Rattle.ob_flat.specs.Memory.{capacity, with_field, zeroed}
use Rattle.ob_code.specs.declared.image.Image.{Image}
use Rattle.ob_code.specs.declared.instructions.Instr.{Instr}
use Rattle.ob_code.specs.declared.instructions.Instr.TheVariants.{Set, Binary, PutChar, Return}
use Rattle.ob_code.specs.Frames.{entered, top_base, with_word}
use Rattle.ob_code.specs.Machine.{act_on, after, counted, get, get_number, on, returned, runs, step}
use Rattle.ob_code.specs.Start.{fresh, laid_out, most_instructions, run_from, started}
use Rattle.ob_model.specs.Limits.{stack_bytes}
use Rattle.ob_code.specs.State.{Call, Final, Setup, Space, State, goes}
use Rattle.ob_frames.specs.Writes.{HasStack, IsOnStack, WritesWord}
use Rattle.ob_frames.proofs.StackWrites.{on_stack, opened, stack_put, writes_word}
use Rattle.ob_first.specs.FirstCode.{addend_code, body_code, first_code, main_row, only_main, print_code, return_code, sum_code}
use Rattle.ob_first.specs.FirstForm.{FirstForm, HasSums, IsSum, byte_of, printed, sum_value}
use Rattle.ob_first.specs.FirstRun.{Prints, RunsAs}

-- ---- lists and numbers

slice_get-drop : (xs : List Instr) (n : ℕ) (x : Instr) (ys : List Instr) → drop n xs ≡ x ∷ ys → slice_get xs n ≡ Some x
slice_get-drop [] zero x ys e = absurd (cc)
slice_get-drop [] (suc n) x ys e = absurd (cc)
slice_get-drop (z ∷ zs) zero x ys e = let same : z ≡ x = cc in ap Some same
slice_get-drop (z ∷ zs) (suc n) x ys e = slice_get-drop zs n x ys e

drop_behind : (xs : List Instr) (n : ℕ) (x : Instr) (ys : List Instr) → drop n xs ≡ x ∷ ys → drop (n + 1) xs ≡ ys
drop_behind xs n x ys e = sym (drop-drop 1 n xs) ∙ ap (drop 1) e

-- the byte that is written for a word
low_byte : (w : ℕ) → w % 256 ≡ byte_of (number Int w)
unfolding residue
low_byte w =
    sym (residue_same 256 (convert Int (pos w)) (pos w) (lit< tt) (congruent_coarser 256 (2 ^ 32) (2 ^ 24) (convert Int (pos w)) (pos w) refl (convert_congruent Int (pos w))))

-- the number of a sum's word
sum_number : (a b : ℤ) (x y : ℤ) → a ≡ convert Int x → b ≡ convert Int y → number Int (word (convert Int (a +ℤ b))) ≡ convert Int (x +ℤ y)
sum_number a b x y e f =
    number-word Int (convert Int (a +ℤ b)) ∙ convert_twice Int (a +ℤ b) ∙ (λ i. convert Int (e i +ℤ f i)) ∙ convert_sum Int x y

-- ---- states within `main`

abbrev main_call : ℕ → Call
main_call link = record { function = 0; link = link; base = 16777216; first = 1 }

-- this code comes next, in the only frame, and nothing strayed
record IsReady (u : Setup) (here : List Instr) (s : State) : Type 0 where
  code : drop s.counter u.image.code ≡ here
  stack : HasStack s.space.memory
  link : ℕ
  calls : s.space.calls ≡ main_call link ∷ []
  quiet : s.events ≡ []

-- how a run came out
record ComesTo (e : Ending) (out : List ℕ) (f : Final) : Type 0 where
  ending : f.ending ≡ e
  output : f.state.output ≡ out
  quiet : f.state.events ≡ []

-- a run from a state comes out so, whatever more instructions it may do than the code has
abbrev Ends : Setup → List Instr → Ending → List ℕ → State → Type 0
Ends u here e out s = (fuel : ℕ) → length here ≤ fuel → ComesTo e out (runs u fuel s)

-- the state behind an instruction that writes a word
abbrev wrote : State → ℕ → ℕ → State
wrote s a w = on (record (counted s) { space = with_word s.space a w })

by_step : (u : Setup) (i : Instr) (here : List Instr) (e : Ending) (out : List ℕ) (s t : State) → step u s ≡ goes t → Ends u here e out t → Ends u (i ∷ here) e out s
by_step u i here e out s t is next zero few = absurd (omega arith)
by_step u i here e out s t is next (suc fuel) few = subst (λ x. ComesTo e out (after x (runs u fuel))) (sym is) (next fuel (omega arith))

step_is : (u : Setup) (i : Instr) (here : List Instr) (s : State) → IsReady u (i ∷ here) s → step u s ≡ act_on u (Some i) (counted s)
step_is u i here s r = ap (λ o. act_on u o (counted s)) (slice_get-drop u.image.code s.counter i here r.code)

word_inside : (u : Setup) (here : List Instr) (s : State) (a : ℕ) → IsReady u here s → a < 4 → IsOnStack (top_base s.space.calls + 8 * a) 8
word_inside u here s a r small =
    let base : top_base s.space.calls ≡ 16777216 = ap top_base r.calls in
    record { begins = omega arith; ends = omega arith }

-- ---- sums, prints and the result

module _ (u : Setup) (read : FieldIsRead) (others : OtherFieldsAreKept) (layout : LayoutIsKept) where
  ready_behind : (i : Instr) (here : List Instr) (s : State) (a w : ℕ) → IsReady u (i ∷ here) s → a < 4 → IsReady u here (wrote s a w)
  ready_behind i here s a w r small =
      record {
        code = drop_behind u.image.code s.counter i here r.code;
        stack = stack_put s.space.memory (top_base s.space.calls + 8 * a) w layout r.stack (word_inside u (i ∷ here) s a r small);
        link = r.link;
        calls = r.calls;
        quiet = r.quiet;
      }

  writes : (here : List Instr) (s : State) (a w : ℕ) → IsReady u here s → a < 4 → w < 2 ^ 64 → WritesWord (top_base s.space.calls + 8 * a) w s.space.memory (with_field s.space.memory (top_base s.space.calls + 8 * a) 8 w)
  writes here s a w r small fits = writes_word s.space.memory (top_base s.space.calls + 8 * a) w read others r.stack (word_inside u here s a r small) fits

  -- word 2 is kept where word 3 is written
  second_kept : (here : List Instr) (s : State) (w : ℕ) → IsReady u here s → w < 2 ^ 64 → get (wrote s 3 w) 2 ≡ get s 2
  second_kept here s w r fits =
      (writes here s 3 w r (lit< tt) fits).others (top_base s.space.calls + 8 * 2) 8 (on_stack s.space.memory (top_base s.space.calls + 8 * 2) 8 r.stack (word_inside u here s 2 r (lit< tt))) (inr (omega arith))

  adds : (cs : List ℕ) (m : ℕ) (here : List Instr) (e : Ending) (out : List ℕ) (s : State) →
      IsReady u (flat_map addend_code cs ++ here) s →
      get_number Int s 2 ≡ convert Int (pos m) →
      ((t : State) → IsReady u here t → get_number Int t 2 ≡ convert Int (pos (m + sum cs)) → t.steps ≡ s.steps → t.output ≡ s.output → Ends u here e out t) →
      Ends u (flat_map addend_code cs ++ here) e out s
  adds [] m here e out s r v next = next s r (v ∙ ap (λ n. convert Int (pos n)) (sym (add-zero m))) refl refl
  adds (c ∷ cs) m here e out s r v next =
      let more = flat_map addend_code cs ++ here in
      let added = Binary Int Add 2 2 3 ∷ more in
      let w = word (pos c) in
      let t = wrote s 3 w in
      let ready : IsReady u added t = ready_behind (Set 3 (pos c)) added s 3 w r (lit< tt) in
      let left : get_number Int t 2 ≡ convert Int (pos m) = ap (number Int) (second_kept _ s w r (word_below (pos c))) ∙ v in
      let right : get_number Int t 3 ≡ convert Int (pos c) = ap (number Int) (writes _ s 3 w r (lit< tt) (word_below (pos c))).written ∙ number-word Int (pos c) in
      let z = word (convert Int (get_number Int t 2 +ℤ get_number Int t 3)) in
      let ready' : IsReady u more (wrote t 2 z) = ready_behind (Binary Int Add 2 2 3) more t 2 z ready (lit< tt) in
      let written : get (wrote t 2 z) 2 ≡ z = (writes added t 2 z ready (lit< tt) (word_below (convert Int (get_number Int t 2 +ℤ get_number Int t 3)))).written in
      let value : get_number Int (wrote t 2 z) 2 ≡ convert Int (pos (m + c)) = ap (number Int) written ∙ sum_number (get_number Int t 2) (get_number Int t 3) (pos m) (pos c) left right in
      let total : m + c + sum cs ≡ m + sum (c ∷ cs) = omega (arith, sum_by-cons (λ x. x) c cs) in
      by_step u (Set 3 (pos c)) added e out s t (step_is u (Set 3 (pos c)) added s r)
      (by_step u (Binary Int Add 2 2 3) more e out t (wrote t 2 z) (step_is u (Binary Int Add 2 2 3) more t ready)
      (adds cs (m + c) here e out (wrote t 2 z) ready' value (λ x there x_value steps output. next x there (x_value ∙ ap (λ n. convert Int (pos n)) total) steps output)))

  sum_runs : (constants : List ℕ) (here : List Instr) (e : Ending) (out : List ℕ) (s : State) →
      IsSum constants →
      IsReady u (sum_code constants ++ here) s →
      ((t : State) → IsReady u here t → get_number Int t 2 ≡ sum_value constants → t.steps ≡ s.steps → t.output ≡ s.output → Ends u here e out t) →
      Ends u (sum_code constants ++ here) e out s
  sum_runs [] here e out s is r next = absurd (omega (arith, is.some))
  sum_runs (c ∷ cs) here e out s is r next =
      let more = flat_map addend_code cs ++ here in
      let w = word (pos c) in
      let t = wrote s 2 w in
      let ready : IsReady u more t = ready_behind (Set 2 (pos c)) more s 2 w r (lit< tt) in
      let value : get_number Int t 2 ≡ convert Int (pos c) = ap (number Int) (writes _ s 2 w r (lit< tt) (word_below (pos c))).written ∙ number-word Int (pos c) in
      let total : c + sum cs ≡ sum (c ∷ cs) = sym (sum_by-cons (λ x. x) c cs) in
      by_step u (Set 2 (pos c)) more e out s t (step_is u (Set 2 (pos c)) more s r)
      (adds cs c here e out t ready value (λ x there x_value steps output. next x there (x_value ∙ ap (λ n. convert Int (pos n)) total) steps output))

  -- a byte is written, where a step is left
  put_runs : (here : List Instr) (e : Ending) (out : List ℕ) (s : State) (v : ℤ) (n : ℕ) →
      IsReady u (PutChar 3 2 ∷ here) s →
      get_number Int s 2 ≡ v →
      s.steps ≡ suc n →
      ((t : State) → IsReady u here t → t.steps ≡ n → t.output ≡ s.output ++ byte_of v ∷ [] → Ends u here e out t) →
      Ends u (PutChar 3 2 ∷ here) e out s
  put_runs here e out s v n r value left next =
      let byte = get s 2 % 256 in
      let told : State = record s { steps = n; output = s.output ++ byte ∷ [] } in
      let ready : IsReady u (PutChar 3 2 ∷ here) told = record { code = r.code; stack = r.stack; link = r.link; calls = r.calls; quiet = r.quiet } in
      let takes : step u s ≡ goes (wrote told 3 byte) = step_is u (PutChar 3 2) here s r ∙ ap (λ k. act_on u (Some (PutChar 3 2)) (record (counted s) { steps = k })) left in
      let wrote_byte : s.output ++ byte ∷ [] ≡ s.output ++ byte_of v ∷ [] = ap (λ b. s.output ++ b ∷ []) (low_byte (get s 2) ∙ ap byte_of value) in
      by_step u (PutChar 3 2) here e out s (wrote told 3 byte) takes (next (wrote told 3 byte) (ready_behind (PutChar 3 2) here told 3 byte ready (lit< tt)) refl wrote_byte)

  print_runs : (constants : List ℕ) (here : List Instr) (e : Ending) (out : List ℕ) (s : State) (n : ℕ) →
      IsSum constants →
      IsReady u (print_code constants ++ here) s →
      s.steps ≡ suc n →
      ((t : State) → IsReady u here t → t.steps ≡ n → t.output ≡ s.output ++ byte_of (sum_value constants) ∷ [] → Ends u here e out t) →
      Ends u (print_code constants ++ here) e out s
  print_runs constants here e out s n is r left next =
      let same : print_code constants ++ here ≡ sum_code constants ++ (PutChar 3 2 ∷ here) = append_assoc (sum_code constants) (PutChar 3 2 ∷ []) here in
      subst (λ code. Ends u code e out s) (sym same)
      (sum_runs constants (PutChar 3 2 ∷ here) e out s is (subst (λ code. IsReady u code s) same r)
      (λ t there value steps output. put_runs here e out t (sum_value constants) n there value (steps ∙ left)
      (λ x x_there x_steps x_output. next x x_there x_steps (x_output ∙ ap (λ bs. bs ++ byte_of (sum_value constants) ∷ []) output))))

  -- `main` returns
  return_runs : (s : State) (v : ℤ) → IsReady u (Return 2 ∷ []) s → get_number Int s 2 ≡ v → Ends u (Return 2 ∷ []) (Ended v) s.output s
  return_runs s v r value zero few = absurd (omega arith)
  return_runs s v r value (suc fuel) few =
      let returns : (calls : List Call) → calls ≡ main_call r.link ∷ [] → ComesTo (Ended v) s.output (after (returned u.image calls (get s 2) (counted s)) (runs u fuel)) =
      λ calls is. subst (λ cs. ComesTo (Ended v) s.output (after (returned u.image cs (get s 2) (counted s)) (runs u fuel))) (sym is) (record { ending = ap Ended value; output = refl; quiet = r.quiet }) in
      subst (λ x. ComesTo (Ended v) s.output (after x (runs u fuel))) (sym (step_is u (Return 2) [] s r)) (returns s.space.calls r.calls)

  result_runs : (constants : List ℕ) (s : State) → IsSum constants → IsReady u (return_code constants) s → Ends u (return_code constants) (Ended (sum_value constants)) s.output s
  result_runs constants s is r =
      sum_runs constants (Return 2 ∷ []) (Ended (sum_value constants)) s.output s is r
      (λ t there value steps output. subst (λ out. Ends u (Return 2 ∷ []) (Ended (sum_value constants)) out t) output (return_runs t (sum_value constants) there value))

  abbrev bytes_of : List (List ℕ) → List ℕ
  bytes_of prints = map (λ constants. byte_of (sum_value constants)) prints

  body_runs : (prints : List (List ℕ)) (result : List ℕ) (s : State) →
      AllByRecursion IsSum prints →
      IsSum result →
      IsReady u (body_code prints result) s →
      length prints ≤ s.steps →
      Ends u (body_code prints result) (Ended (sum_value result)) (s.output ++ bytes_of prints) s
  body_runs [] result s sums is r few =
      subst (λ out. Ends u (return_code result) (Ended (sum_value result)) out s) (sym (append-nil s.output)) (result_runs result s is r)
  body_runs (constants ∷ more) result s sums is r few =
      let here = body_code more result in
      let e = Ended (sum_value result) in
      let b = byte_of (sum_value constants) in
      let same : body_code (constants ∷ more) result ≡ print_code constants ++ here = append_assoc (print_code constants) (flat_map print_code more) (return_code result) in
      let left : s.steps ≡ suc (s.steps - 1) = omega arith in
      subst (λ code. Ends u code e (s.output ++ (b ∷ bytes_of more)) s) (sym same)
      (print_runs constants here e (s.output ++ (b ∷ bytes_of more)) s (s.steps - 1) sums.0 (subst (λ code. IsReady u code s) same r) left
      (λ t there steps output.
      let written : t.output ++ bytes_of more ≡ s.output ++ (b ∷ bytes_of more) = ap (λ bs. bs ++ bytes_of more) output ∙ append_assoc s.output (b ∷ []) (bytes_of more) in
      subst (λ out. Ends u here e out t) written (body_runs more result t sums.1 is there (omega arith))))

-- ---- the start

zeroed_stack : (heap : ℕ) → heap ≤ 67108864 → HasStack (zeroed 0 1048576 heap)
zeroed_stack heap few =
    record {
      stack = refl;
      laid_out = record {
        statics = lit≤ tt;
        stack = lit≤ tt;
        heap = few;
        bytes = length-replicate (capacity 0 1048576 heap) 0;
        marks = length-replicate (capacity 0 1048576 heap / 8) false;
      };
    }

module _ (f : FirstForm) (settings : RunSettings) (cycle : List ℕ) (place : ℕ) (input : List ℕ) (input_end : InputEnd) where
  abbrev image : Image
  image = only_main (first_code f)

  abbrev setup : Setup
  setup = record { image = image; settings = settings; cycle = cycle; input_end = input_end }

  abbrev space : Space
  space = laid_out stack_bytes [] [] settings

  -- `main` is entered
  abbrev first : ℕ → State
  first steps = record (fresh space place input steps) { space = entered (main_row ∷ []) 0 (length (first_code f)) space }

  starts : (steps : ℕ) → started image (fresh space place input (suc steps)) ≡ goes (first steps)
  starts steps = refl

  first_ready : (steps : ℕ) → FieldIsRead → OtherFieldsAreKept → OthersAreKeptByZeros → LayoutIsKept → settings.heap ≤ 67108864 → length (first_code f) < 2 ^ 64 → IsReady setup (first_code f) (first steps)
  first_ready steps read others zeros layout heap short =
      let inside : IsOnStack 16777216 32 = record { begins = lit≤ tt; ends = lit≤ tt } in
      record {
        code = refl;
        stack = (opened 16777216 32 (length (first_code f)) 0 space.memory read others zeros layout (zeroed_stack settings.heap heap) inside (lit≤ tt) short (lit< tt)).stack;
        link = length (first_code f);
        calls = refl;
        quiet = refl;
      }

  whole_run : (steps : ℕ) → FieldIsRead → OtherFieldsAreKept → OthersAreKeptByZeros → LayoutIsKept → HasSums f → IsFit settings → length (first_code f) < 2 ^ 64 → length f.prints ≤ steps → RunsAs f (run_from setup space place input (suc steps))
  whole_run steps read others zeros layout sums fit short few =
      let ready = first_ready steps read others zeros layout fit.heap short in
      let enough : length (first_code f) ≤ most_instructions image (suc steps) = omega arith in
      let run : ComesTo (Ended (sum_value f.result)) (printed f) (runs setup (most_instructions image (suc steps)) (first steps)) =
      body_runs setup read others layout f.prints f.result (first steps) sums.prints sums.result ready few (most_instructions image (suc steps)) enough in
      subst (λ x. RunsAs f (after x (runs setup (most_instructions image (suc steps))))) (sym (starts steps)) (record { ending = run.ending; output = run.output; quiet = run.quiet })

pub prints : (f : FirstForm) → FieldIsRead → OtherFieldsAreKept → OthersAreKeptByZeros → LayoutIsKept → HasSums f → length (first_code f) < 2 ^ 64 → Prints (only_main (first_code f)) f
prints f read others zeros layout sums short settings cycle place input input_end zero fit few = absurd (omega arith)
prints f read others zeros layout sums short settings cycle place input input_end (suc steps) fit few =
    whole_run f settings cycle place input input_end steps read others zeros layout sums fit short (omega arith)
