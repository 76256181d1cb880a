-- One turn of the reader.
use Rattle.std.proofs.Common.{◌≡◌, ℕ, zero, suc, ◌+◌, ◌-◌, ◌<◌, ◌≤◌, Bool, true, false, cond, map, length-drop, List, [], ◌∷◌, length, get_or, drop, take, Option, Some, None, unwrap_or, refl, sym, ap, ◌∙◌, arith, add-one, drop-cons}
use Rattle.std.specs.Option.{option_and_then, option_map}
use Rattle.ob_settings.specs.Options.{where_had, with_value, without_value}
use Rattle.std.proofs.lemmas.List.{drop-map, length-map, take_all}
use Rattle.std.proofs.Math.Seq.{drop-nil}
use Rattle.ob_settings.specs.Reading.{choosing, flag_or_waits, goes_on, option_kind, reader_of, reads, setting_named, split_word, step, step_by, taking_one, with_argument, word_kind, Kind, ends, argument, waits, flag, valued, unknown}
use Rattle.ob_settings.specs.declared.reader.Reader.{Reader}
use Rattle.ob_settings.specs.declared.reader.Step.{Step}
use Rattle.ob_settings.specs.declared.option.Setting.{Setting}
use Rattle.ob_settings.specs.declared.verb.Verb.{Verb}

abbrev pub rest_of : List (List ℕ) → List (List ℕ)
rest_of [] = []
rest_of (word ∷ words) = words

-- what is read behind a word, by what the word took
abbrev pub goes : Verb → ℕ → List (List ℕ) → Option Step → Option Reader
goes verb at behind s = option_and_then (goes_on (λ one. reads verb (at + 1) one behind) (λ two. reads verb (at + 2) two (rest_of behind))) s

same_in : (b : Bool) (r : Option Reader) → r ≡ cond b r r
same_in true r = refl
same_in false r = refl

last_word : (verb : Verb) (at : ℕ) (s : Option Step) → option_map reader_of s ≡ goes verb at [] s
last_word verb at None = refl
last_word verb at (Some s) = same_in s.took_two (Some s.reader)

pub reads_cons : (verb : Verb) (at : ℕ) (r : Reader) (word : List ℕ) (behind : List (List ℕ)) → reads verb at r (word ∷ behind) ≡ goes verb at behind (step verb at r word behind)
reads_cons verb at r word [] = last_word verb at (step verb at r word [])
reads_cons verb at r word (next ∷ words) = refl

-- from the word at a place on
pub reads_next : (verb : Verb) (at : ℕ) (r : Reader) (words : List (List ℕ)) (i : ℕ) → i < length words → reads verb at r (drop i words) ≡ goes verb at (drop (i + 1) words) (step verb at r (get_or words i []) (drop (i + 1) words))
reads_next verb at r words i inside =
    ap (reads verb at r) (drop-cons words i [] inside ∙ ap (λ k. get_or words i [] ∷ drop k words) (sym (add-one i))) ∙ reads_cons verb at r (get_or words i []) (drop (i + 1) words)

-- ---- a word that takes the next one has one behind it

same_some : {A : Type 0} (a b : A) → Some a ≡ Some b → a ≡ b
same_some a b same = ap (λ o. unwrap_or o a) same

none_some : {A P : Type 0} (a : A) → None ≡ Some a → P
none_some a is = absurd (let e : ◌≡◌ {A = Option _} None (Some a) = is in cc)

takes_one : (o : Option Reader) (s : Step) → option_map taking_one o ≡ Some s → s.took_two ≡ false
takes_one None s is = none_some s is
takes_one (Some r) s is = sym (ap (λ t. t.took_two) (same_some (taking_one r) s is))

never_both : (b : Bool) → b ≡ false → b ≡ true → ⊥
never_both b isnt is = let e : ◌≡◌ {A = Bool} false true = sym isnt ∙ is in cc

none_behind : (verb : Verb) (at : ℕ) (r : Reader) (k : Kind) (s : Step) → step_by verb at r [] k ≡ Some s → s.took_two ≡ false
none_behind verb at r ends s is = sym (ap (λ t. t.took_two) (same_some (taking_one r) s is))
none_behind verb at r argument s is = takes_one (with_argument at r) s is
none_behind verb at r (waits setting) s is = none_some s is
none_behind verb at r (flag setting) s is = takes_one (choosing r (where_had verb setting (without_value setting r.choices))) s is
none_behind verb at r (valued setting value) s is = takes_one (choosing r (where_had verb setting (with_value setting value r.choices))) s is
none_behind verb at r unknown s is = none_some s is

pub two_behind : (verb : Verb) (at : ℕ) (r : Reader) (word : List ℕ) (behind : List (List ℕ)) (s : Step) → step verb at r word behind ≡ Some s → s.took_two ≡ true → 0 < length behind
two_behind verb at r word [] s is two = absurd (never_both s.took_two (none_behind verb at r (word_kind word) s is) two)
two_behind verb at r word (next ∷ words) s is two = omega arith

-- ---- the loop, over words of any type

word_at : {S : Type 0} (f : S → List ℕ) (words : List S) (i : ℕ) (w : S) → i < length words → w ≡ get_or words i w → drop i (map f words) ≡ f w ∷ map f (drop (i + 1) words)
word_at f words i w inside is =
    drop-map f i words ∙ ap (map f) (drop-cons words i w inside ∙ ap (λ x. x ∷ drop (suc i) words) (sym is) ∙ ap (λ k. w ∷ drop k words) (sym (add-one i)))

turned : {S : Type 0} (f : S → List ℕ) (verb : Verb) (at : ℕ) (r : Reader) (words : List S) (i : ℕ) (w : S) (word : List ℕ) (behind : List S) (o : Option Step) → i < length words → w ≡ get_or words i w → word ≡ f w → behind ≡ drop (i + 1) words → o ≡ step verb at r word (map f behind) →
    reads verb at r (drop i (map f words)) ≡ goes verb at (map f (drop (i + 1) words)) o
turned f verb at r words i w word behind o inside is word_is behind_is steps =
    ap (reads verb at r) (word_at f words i w inside is) ∙ reads_cons verb at r (f w) (map f (drop (i + 1) words)) ∙
    ap (goes verb at (map f (drop (i + 1) words))) (ap (λ x. step verb at r x (map f (drop (i + 1) words))) (sym word_is) ∙ ap (λ x. step verb at r word (map f x)) (sym behind_is) ∙ sym steps)

pub turn_fails : {S : Type 0} (f : S → List ℕ) (verb : Verb) (at : ℕ) (r : Reader) (words : List S) (i : ℕ) (w : S) (word : List ℕ) (behind : List S) (o : Option Step) → i < length words → w ≡ get_or words i w → word ≡ f w → behind ≡ drop (i + 1) words → o ≡ step verb at r word (map f behind) → o ≡ None →
    None ≡ reads verb at r (drop i (map f words))
turn_fails f verb at r words i w word behind o inside is word_is behind_is steps fails =
    sym (turned f verb at r words i w word behind o inside is word_is behind_is steps ∙ ap (goes verb at (map f (drop (i + 1) words))) fails)

one_more : (verb : Verb) (at : ℕ) (behind : List (List ℕ)) (s : Step) → s.took_two ≡ false → goes verb at behind (Some s) ≡ reads verb (at + 1) s.reader behind
one_more verb at behind s is = rw is refl

two_more : (verb : Verb) (at : ℕ) (behind : List (List ℕ)) (s : Step) → s.took_two ≡ true → goes verb at behind (Some s) ≡ reads verb (at + 2) s.reader (rest_of behind)
two_more verb at behind s is = rw is refl

rest_dropped : {S : Type 0} (f : S → List ℕ) (words : List S) (i : ℕ) → rest_of (map f (drop i words)) ≡ drop (i + 1) (map f words)
rest_dropped f [] zero = sym (drop-nil 1)
rest_dropped f [] (suc i) = sym (drop-nil (suc i + 1))
rest_dropped f (word ∷ words) zero = refl
rest_dropped f (word ∷ words) (suc i) = rest_dropped f words i ∙ ap (λ k. drop k (map f (word ∷ words))) {x = suc (i + 1)} {y = suc i + 1} (omega arith)

-- after a word that took no other
pub turn_one : {S : Type 0} (f : S → List ℕ) (verb : Verb) (at : ℕ) (r : Reader) (words : List S) (i : ℕ) (w : S) (word : List ℕ) (behind : List S) (o : Option Step) (s : Step) → i < length words → w ≡ get_or words i w → word ≡ f w → behind ≡ drop (i + 1) words → o ≡ step verb at r word (map f behind) → o ≡ Some s → s.took_two ≡ false →
    reads verb (at + 1) s.reader (drop (i + 1) (map f words)) ≡ reads verb at r (drop i (map f words))
turn_one f verb at r words i w word behind o s inside is word_is behind_is steps some one =
    sym (turned f verb at r words i w word behind o inside is word_is behind_is steps ∙ ap (goes verb at (map f (drop (i + 1) words))) some ∙ one_more verb at (map f (drop (i + 1) words)) s one ∙ ap (reads verb (at + 1) s.reader) (sym (drop-map f (i + 1) words)))

-- after one that took the next
pub turn_two : {S : Type 0} (f : S → List ℕ) (verb : Verb) (at : ℕ) (r : Reader) (words : List S) (i : ℕ) (w : S) (word : List ℕ) (behind : List S) (o : Option Step) (s : Step) → i < length words → w ≡ get_or words i w → word ≡ f w → behind ≡ drop (i + 1) words → o ≡ step verb at r word (map f behind) → o ≡ Some s → s.took_two ≡ true →
    reads verb (at + 2) s.reader (drop (i + 2) (map f words)) ≡ reads verb at r (drop i (map f words))
turn_two f verb at r words i w word behind o s inside is word_is behind_is steps some two =
    let k : i + 1 + 1 ≡ i + 2 = omega arith in
    sym (turned f verb at r words i w word behind o inside is word_is behind_is steps ∙ ap (goes verb at (map f (drop (i + 1) words))) some ∙ two_more verb at (map f (drop (i + 1) words)) s two ∙ ap (reads verb (at + 2) s.reader) (rest_dropped f words (i + 1) ∙ ap (λ n. drop n (map f words)) k))

pub two_within : {S : Type 0} (f : S → List ℕ) (verb : Verb) (at : ℕ) (r : Reader) (words : List S) (i : ℕ) (word : List ℕ) (behind : List S) (o : Option Step) (s : Step) → behind ≡ drop (i + 1) words → o ≡ step verb at r word (map f behind) → o ≡ Some s → s.took_two ≡ true → i + 2 ≤ length words
two_within f verb at r words i word behind o s behind_is steps some two =
    let more : 0 < length (map f behind) = two_behind verb at r word (map f behind) s (sym steps ∙ some) two in
    let same : length (map f behind) ≡ length words - (i + 1) = length-map behind f ∙ ap length behind_is ∙ length-drop (i + 1) words in
    omega (arith, more, same)

-- the words behind one
pub all_behind : {S : Type 0} (words : List S) (k : ℕ) → take (length words - k) (drop k words) ≡ drop k words
all_behind words k = take_all (length words - k) (drop k words) (omega (arith, length-drop k words))

pub joined_step : (verb : Verb) (at : ℕ) (r : Reader) (behind : List (List ℕ)) (word name value : List ℕ) (setting : Setting) → split_word word ≡ Some (record { name = name; value = value }) → setting_named name ≡ Some setting →
    step_by verb at r behind (option_kind word (split_word word)) ≡ option_map taking_one (choosing r (where_had verb setting (with_value setting value r.choices)))
joined_step verb at r behind word name value setting split named = rw (split, named) refl

pub joined_unknown : (verb : Verb) (at : ℕ) (r : Reader) (behind : List (List ℕ)) (word name value : List ℕ) → split_word word ≡ Some (record { name = name; value = value }) → setting_named name ≡ None →
    None ≡ step_by verb at r behind (option_kind word (split_word word))
joined_unknown verb at r behind word name value split named = rw (split, named) refl

pub named_step : (verb : Verb) (at : ℕ) (r : Reader) (behind : List (List ℕ)) (word : List ℕ) (setting : Setting) → split_word word ≡ None → setting_named word ≡ Some setting →
    step_by verb at r behind (option_kind word (split_word word)) ≡ step_by verb at r behind (flag_or_waits setting)
named_step verb at r behind word setting split named = rw (split, named) refl

pub unknown_step : (verb : Verb) (at : ℕ) (r : Reader) (behind : List (List ℕ)) (word : List ℕ) → split_word word ≡ None → setting_named word ≡ None →
    None ≡ step_by verb at r behind (option_kind word (split_word word))
unknown_step verb at r behind word split named = rw (split, named) refl
