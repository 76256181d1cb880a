-- The words of a line are read, and give what the line says.
use Rattle.std.proofs.Common.{◌≡◌, ℕ, ◌+◌, Bool, true, false, cond, List, [], ◌∷◌, ◌++◌, length, Option, Some, None, unwrap_or, refl, ap, ◌∙◌, arith, append_assoc}
use Rattle.std.proofs.lemmas.List.{length-append}
use Rattle.std.proofs.lemmas.List.Concat.{flat_map-cons}
use Rattle.std.proofs.lemmas.Option.{option_and_then_some}
use Rattle.std.specs.List.{flat_map}
use Rattle.std.specs.Option.{option_map}
use Rattle.ob_settings.specs.Lines.{Given, apart, joined, alone, Line, around, behind, choices_from, chosen, closing_words, has_plain_argument, is_plain, line_choices, line_place, line_verb, line_words, two_dashes, words_of}
use Rattle.ob_settings.specs.Options.{has, no_choices, setting_name, where_had, with_value, without_value, verb_name}
use Rattle.ob_settings.specs.Reading.{Kind, argument as an_argument, valued, flag_or_waits, choosing, nothing_read, reads, step_by, taking_one, taking_two, with_choices, word_kind}
use Rattle.ob_settings.specs.declared.choices.Choices.{Choices}
use Rattle.ob_settings.specs.declared.option.Setting.{Setting}
use Rattle.ob_settings.specs.declared.option.Setting.TheVariants as setting
use Rattle.ob_settings.specs.declared.reader.Reader.{Reader}
use Rattle.ob_settings.specs.declared.verb.Verb.{Verb}
use Rattle.ob_settings.proofs.Steps.{goes, reads_cons}
use Rattle.ob_settings.proofs.Words.{argument_kind, valued_kind_is, waits_kind}

pub none_some : {A P : Type 0} (a : A) → None ≡ Some a → P
none_some {A = A} a is = absurd (let e : ◌≡◌ {A = Option A} None (Some a) = is in cc)

nothing_had : {P : Type 0} (b : Bool) (c : Choices) → cond b None None ≡ Some c → P
nothing_had true c is = none_some c is
nothing_had false c is = none_some c is

-- ---- one option

after_one : (verb : Verb) (at : ℕ) (r : Reader) (tail : List (List ℕ)) (o : Option Choices) (next : Choices) → o ≡ Some next → goes verb at tail (option_map taking_one (choosing r o)) ≡ reads verb (at + 1) (with_choices r next) tail
after_one verb at r tail o next is = rw is refl

after_two : (verb : Verb) (at : ℕ) (r : Reader) (value : List ℕ) (tail : List (List ℕ)) (o : Option Choices) (next : Choices) → o ≡ Some next → goes verb at (value ∷ tail) (option_map taking_two (choosing r o)) ≡ reads verb (at + 2) (with_choices r next) tail
after_two verb at r value tail o next is = rw is refl

kind_read : (verb : Verb) (at : ℕ) (r : Reader) (word : List ℕ) (tail : List (List ℕ)) (k : Kind) → word_kind word ≡ k → reads verb at r (word ∷ tail) ≡ goes verb at tail (step_by verb at r tail k)
kind_read verb at r word tail k is = reads_cons verb at r word tail ∙ ap (λ k. goes verb at tail (step_by verb at r tail k)) is

apart_read : (verb : Verb) (at : ℕ) (r : Reader) (s : Setting) (value : List ℕ) (next : Choices) (tail : List (List ℕ)) → where_had verb s (with_value s value r.choices) ≡ Some next →
    goes verb at (value ∷ tail) (step_by verb at r (value ∷ tail) (flag_or_waits s)) ≡ reads verb (at + 2) (with_choices r next) tail
apart_read verb at r setting.Mode value next tail is = after_two verb at r value tail _ next is
apart_read verb at r setting.Steps value next tail is = after_two verb at r value tail _ next is
apart_read verb at r setting.Store value next tail is = after_two verb at r value tail _ next is
apart_read verb at r setting.Away value next tail is = after_two verb at r value tail _ next is
apart_read verb at r setting.Heap value next tail is = after_two verb at r value tail _ next is
apart_read verb at r setting.Maker value next tail is = after_two verb at r value tail _ next is
apart_read verb at r setting.Profile value next tail is = after_two verb at r value tail _ next is
apart_read verb at r setting.Report value next tail is = nothing_had (has verb setting.Report) next is

alone_read : (verb : Verb) (at : ℕ) (r : Reader) (s : Setting) (next : Choices) (tail : List (List ℕ)) → where_had verb s (without_value s r.choices) ≡ Some next →
    goes verb at tail (step_by verb at r tail (flag_or_waits s)) ≡ reads verb (at + 1) (with_choices r next) tail
alone_read verb at r setting.Mode next tail is = nothing_had (has verb setting.Mode) next is
alone_read verb at r setting.Steps next tail is = nothing_had (has verb setting.Steps) next is
alone_read verb at r setting.Store next tail is = nothing_had (has verb setting.Store) next is
alone_read verb at r setting.Away next tail is = nothing_had (has verb setting.Away) next is
alone_read verb at r setting.Heap next tail is = nothing_had (has verb setting.Heap) next is
alone_read verb at r setting.Maker next tail is = nothing_had (has verb setting.Maker) next is
alone_read verb at r setting.Profile next tail is = nothing_had (has verb setting.Profile) next is
alone_read verb at r setting.Report next tail is = after_one verb at r tail _ next is

given_read : (verb : Verb) (at : ℕ) (r : Reader) (given : Given) (next : Choices) (tail : List (List ℕ)) → chosen verb given r.choices ≡ Some next →
    reads verb at r (words_of given ++ tail) ≡ reads verb (at + length (words_of given)) (with_choices r next) tail
given_read verb at r (apart s value) next tail is = kind_read verb at r (setting_name s) (value ∷ tail) (flag_or_waits s) (waits_kind s) ∙ apart_read verb at r s value next tail is
given_read verb at r (joined s value) next tail is = kind_read verb at r (setting_name s ++ (61 ∷ value)) tail (valued s value) (valued_kind_is s value) ∙ after_one verb at r tail _ next is
given_read verb at r (alone s) next tail is = kind_read verb at r (setting_name s) tail (flag_or_waits s) (waits_kind s) ∙ alone_read verb at r s next tail is

-- ---- some options

options_read : (verb : Verb) (at : ℕ) (r : Reader) (options : List Given) (c : Choices) (tail : List (List ℕ)) → choices_from verb r.choices options ≡ Some c →
    reads verb at r (flat_map words_of options ++ tail) ≡ reads verb (at + length (flat_map words_of options)) (with_choices r c) tail
options_read verb at r [] c tail is =
    ap (λ n. reads verb n r tail) {x = at} {y = at + 0} (omega arith) ∙ ap (λ d. reads verb (at + 0) (with_choices r d) tail) (ap (λ o. unwrap_or o c) is)
options_read verb at r (given ∷ options) c tail is =
    option_and_then_some (λ next. choices_from verb next options) (chosen verb given r.choices) c is (λ next chosen_is rest_is.
    let words = flat_map words_of options in
    ap (λ w. reads verb at r (w ++ tail)) (flat_map-cons words_of given options) ∙
    ap (reads verb at r) (append_assoc (words_of given) words tail) ∙
    given_read verb at r given next (words ++ tail) chosen_is ∙
    options_read verb (at + length (words_of given)) (with_choices r next) options c tail rest_is ∙
    ap (λ n. reads verb n (with_choices r c) tail)
    (let e : length (flat_map words_of (given ∷ options)) ≡ length (words_of given) + length words = ap length (flat_map-cons words_of given options) ∙ length-append (words_of given) words in omega (arith, e)))

-- what options choose in two parts
abbrev pub InParts : Verb → Choices → List Given → List Given → Choices → Type 0
InParts verb c before after last = (mid : Choices) × (choices_from verb c before ≡ Some mid) × (choices_from verb mid after ≡ Some last)

pub in_parts : (verb : Verb) (c : Choices) (before after : List Given) (last : Choices) → choices_from verb c (before ++ after) ≡ Some last → InParts verb c before after last
in_parts verb c [] after last is = (c, refl, is)
in_parts verb c (given ∷ before) after last is =
    option_and_then_some (λ next. choices_from verb next (before ++ after)) (chosen verb given c) last is (λ next chosen_is rest_is.
    let parts = in_parts verb next before after last rest_is in
    (parts.0, rw chosen_is parts.1, parts.2))

pub in_one : (verb : Verb) (c : Choices) (before after : List Given) (mid last : Choices) → choices_from verb c before ≡ Some mid → choices_from verb mid after ≡ Some last → choices_from verb c (before ++ after) ≡ Some last
in_one verb c [] after mid last first second = ap (λ d. choices_from verb d after) (ap (λ o. unwrap_or o mid) first) ∙ second
in_one verb c (given ∷ before) after mid last first second =
    option_and_then_some (λ next. choices_from verb next before) (chosen verb given c) mid first (λ next chosen_is rest_is.
    rw chosen_is (in_one verb next before after mid last rest_is second))

-- ---- lines

with_place : ℕ → Choices → Reader
with_place at c = record { choices = c; place = Some at }

closing_read : (verb : Verb) (at : ℕ) (r : Reader) (closing : Bool) → reads verb at r (closing_words closing) ≡ Some r
closing_read verb at r true = refl
closing_read verb at r false = refl

around_read : (verb : Verb) (before : List Given) (argument : List ℕ) (after : List Given) (closing : Bool) (mid c : Choices) → is_plain argument ≡ true → choices_from verb no_choices before ≡ Some mid → choices_from verb mid after ≡ Some c →
    reads verb 1 nothing_read (flat_map words_of before ++ argument ∷ (flat_map words_of after ++ closing_words closing)) ≡ Some (record { choices = c; place = Some (1 + length (flat_map words_of before)) })
around_read verb before argument after closing mid c plain first second =
    let at = 1 + length (flat_map words_of before) in
    let tail = flat_map words_of after ++ closing_words closing in
    let placed : Reader = record { choices = mid; place = Some at } in
    options_read verb 1 nothing_read before mid (argument ∷ tail) first ∙
    kind_read verb at (with_choices nothing_read mid) argument tail an_argument (argument_kind argument plain) ∙
    options_read verb (at + 1) placed after c (closing_words closing) second ∙
    closing_read verb (at + 1 + length (flat_map words_of after)) (with_choices placed c) closing

behind_read : (verb : Verb) (before : List Given) (argument : List ℕ) (c : Choices) → choices_from verb no_choices before ≡ Some c →
    reads verb 1 nothing_read (flat_map words_of before ++ two_dashes ∷ argument ∷ []) ≡ Some (record { choices = c; place = Some (1 + (length (flat_map words_of before) + 1)) })
behind_read verb before argument c first =
    options_read verb 1 nothing_read before c (two_dashes ∷ argument ∷ []) first ∙
    ap (λ n. Some (record { choices = c; place = Some n })) {x = 1 + length (flat_map words_of before) + 1} {y = 1 + (length (flat_map words_of before) + 1)} (omega arith)

-- the words behind the command of a line
abbrev pub others_of : Line → List (List ℕ)
others_of (around verb before argument after closing) = flat_map words_of before ++ argument ∷ (flat_map words_of after ++ closing_words closing)
others_of (behind verb before argument) = flat_map words_of before ++ two_dashes ∷ argument ∷ []

pub line_is : (line : Line) → line_words line ≡ verb_name (line_verb line) ∷ others_of line
line_is (around verb before argument after closing) = refl
line_is (behind verb before argument) = refl

pub line_read : (line : Line) (c : Choices) → has_plain_argument line ≡ true → line_choices line ≡ Some c → reads (line_verb line) 1 nothing_read (others_of line) ≡ Some (record { choices = c; place = Some (line_place line) })
line_read (around verb before argument after closing) c plain is =
    let parts = in_parts verb no_choices before after c is in
    around_read verb before argument after closing parts.0 c plain parts.1 parts.2
line_read (behind verb before argument) c plain is = behind_read verb before argument c is
