-- A job's numbers lie in the ranges of the table, and its argument is one of the words.
use Rattle.std.proofs.Common.{◌≡◌, ℕ, ◌<◌, ◌≤◌, Bool, true, false, cond, List, [], ◌∷◌, length, get_or, Option, Some, None, unwrap_or, refl, sym, ap, ◌∙◌, subst, arith}
use Rattle.std.proofs.lemmas.Bool.Decides.{nat_tests}
use Rattle.std.proofs.lemmas.Option.{option_and_then_some}
use Rattle.std.specs.Prelude.{IsSome}
use Rattle.std.specs.Option.{option_map}
use Rattle.ob_model.specs.Settings.{IsFit}
use Rattle.ob_settings.specs.Jobs.{ArgumentsStandThere, AsksForJob, IsJobOf, JobsAreFit, job_of, number_of, settings_of}
use Rattle.ob_settings.specs.Lines.{Given, apart, joined, alone, choices_from, chosen, line_argument, line_options, line_place, line_verb, line_words}
use Rattle.ob_settings.specs.Numbers.{is_number, number_between, value_from, within}
use Rattle.ob_settings.specs.Options.{first_choice, has, maker_named, mode_named, no_choices, profile_named, with_value, without_value}
use Rattle.ob_settings.specs.declared.choices.Choices.{Choices}
use Rattle.ob_settings.specs.declared.job.Job.{Job}
use Rattle.ob_settings.specs.declared.option.Setting.{Setting}
use Rattle.ob_settings.specs.declared.option.Setting.TheVariants as setting
use Rattle.ob_settings.specs.declared.reader.Reader.{Reader}
use Rattle.ob_settings.specs.declared.verb.Verb.{Verb}
use Rattle.ob_settings.proofs.Complete.{none_some}
use Rattle.ob_settings.proofs.Read.{IsRead, argument_at, place_within, read_job}

-- ---- numbers

some_of : (b : Bool) (o : Option ℕ) (n : ℕ) → cond b o None ≡ Some n → o ≡ Some n
some_of true o n is = is
some_of false o n is = none_some n is

at_least : (least most v n : ℕ) → within least most v ≡ Some n → least ≤ n
at_least least most v n is = grind (arith, nat_tests)

at_most : (least most v n : ℕ) → within least most v ≡ Some n → n ≤ most
at_most least most v n is = grind (arith, nat_tests)

number_least : (least most : ℕ) (word : List ℕ) (n : ℕ) → number_between least most word ≡ Some n → least ≤ n
number_least least most word n is = at_least least most (value_from 0 word) n (some_of (is_number word) (within least most (value_from 0 word)) n is)

number_most : (least most : ℕ) (word : List ℕ) (n : ℕ) → number_between least most word ≡ Some n → n ≤ most
number_most least most word n is = at_most least most (value_from 0 word) n (some_of (is_number word) (within least most (value_from 0 word)) n is)

-- ---- choices

-- each number that was chosen, or else its default, lies in its range
record IsRanged (c : Choices) : Type 0 where
  steps : unwrap_or c.steps 10000000 ≤ 1000000000
  least_store : 1 ≤ unwrap_or c.store 65536
  most_store : unwrap_or c.store 65536 ≤ 1048576
  away : unwrap_or c.away 65536 ≤ 1048576
  heap : unwrap_or c.heap 4194304 ≤ 67108864

set_by : {A : Type 0} (f : A → Choices) (before o : Option A) (next : Choices) → option_map f (first_choice before o) ≡ Some next → (n : A) × (o ≡ Some n) × (f n ≡ next)
set_by f None (Some n) next is = (n, refl, ap (λ o. unwrap_or o next) is)
set_by f None None next is = none_some next is
set_by f (Some m) o next is = none_some next is

value_ranged : (s : Setting) (word : List ℕ) (c next : Choices) → IsRanged c → with_value s word c ≡ Some next → IsRanged next
value_ranged setting.Mode word c next r is =
    let s = set_by (λ value. record c { mode = Some value }) c.mode (mode_named word) next is in
    subst IsRanged s.2 (record { steps = r.steps; least_store = r.least_store; most_store = r.most_store; away = r.away; heap = r.heap })
value_ranged setting.Steps word c next r is =
    let s = set_by (λ value. record c { steps = Some value }) c.steps (number_between 0 1000000000 word) next is in
    subst IsRanged s.2 (record { steps = number_most 0 1000000000 word s.0 s.1; least_store = r.least_store; most_store = r.most_store; away = r.away; heap = r.heap })
value_ranged setting.Store word c next r is =
    let s = set_by (λ value. record c { store = Some value }) c.store (number_between 1 1048576 word) next is in
    subst IsRanged s.2 (record { steps = r.steps; least_store = number_least 1 1048576 word s.0 s.1; most_store = number_most 1 1048576 word s.0 s.1; away = r.away; heap = r.heap })
value_ranged setting.Away word c next r is =
    let s = set_by (λ value. record c { away = Some value }) c.away (number_between 0 1048576 word) next is in
    subst IsRanged s.2 (record { steps = r.steps; least_store = r.least_store; most_store = r.most_store; away = number_most 0 1048576 word s.0 s.1; heap = r.heap })
value_ranged setting.Heap word c next r is =
    let s = set_by (λ value. record c { heap = Some value }) c.heap (number_between 0 67108864 word) next is in
    subst IsRanged s.2 (record { steps = r.steps; least_store = r.least_store; most_store = r.most_store; away = r.away; heap = number_most 0 67108864 word s.0 s.1 })
value_ranged setting.Maker word c next r is =
    let s = set_by (λ value. record c { maker = Some value }) c.maker (maker_named word) next is in
    subst IsRanged s.2 (record { steps = r.steps; least_store = r.least_store; most_store = r.most_store; away = r.away; heap = r.heap })
value_ranged setting.Profile word c next r is =
    let s = set_by (λ value. record c { profile = Some value }) c.profile (profile_named word) next is in
    subst IsRanged s.2 (record { steps = r.steps; least_store = r.least_store; most_store = r.most_store; away = r.away; heap = r.heap })
value_ranged setting.Report word c next r is = none_some next is

report_ranged : (b : Bool) (c next : Choices) → IsRanged c → cond b None (Some (record c { report = true })) ≡ Some next → IsRanged next
report_ranged true c next r is = none_some next is
report_ranged false c next r is =
    subst IsRanged (ap (λ o. unwrap_or o next) is) (record { steps = r.steps; least_store = r.least_store; most_store = r.most_store; away = r.away; heap = r.heap })

alone_ranged : (s : Setting) (c next : Choices) → IsRanged c → without_value s c ≡ Some next → IsRanged next
alone_ranged setting.Report c next r is = report_ranged c.report c next r is
alone_ranged setting.Mode c next r is = none_some next is
alone_ranged setting.Steps c next r is = none_some next is
alone_ranged setting.Store c next r is = none_some next is
alone_ranged setting.Away c next r is = none_some next is
alone_ranged setting.Heap c next r is = none_some next is
alone_ranged setting.Maker c next r is = none_some next is
alone_ranged setting.Profile c next r is = none_some next is

had_ranged : (b : Bool) (o : Option Choices) (next : Choices) → ((n : Choices) → o ≡ Some n → IsRanged n) → cond b o None ≡ Some next → IsRanged next
had_ranged true o next each is = each next is
had_ranged false o next each is = none_some next is

chosen_ranged : (verb : Verb) (given : Given) (c next : Choices) → IsRanged c → chosen verb given c ≡ Some next → IsRanged next
chosen_ranged verb (apart s value) c next r is = had_ranged (has verb s) (with_value s value c) next (λ n e. value_ranged s value c n r e) is
chosen_ranged verb (joined s value) c next r is = had_ranged (has verb s) (with_value s value c) next (λ n e. value_ranged s value c n r e) is
chosen_ranged verb (alone s) c next r is = had_ranged (has verb s) (without_value s c) next (λ n e. alone_ranged s c n r e) is

all_ranged : (verb : Verb) (options : List Given) (c last : Choices) → IsRanged c → choices_from verb c options ≡ Some last → IsRanged last
all_ranged verb [] c last r is = subst IsRanged (ap (λ o. unwrap_or o last) is) r
all_ranged verb (given ∷ options) c last r is =
    option_and_then_some (λ next. choices_from verb next options) (chosen verb given c) last is (λ next chosen_is rest_is. all_ranged verb options next last (chosen_ranged verb given c next r chosen_is) rest_is)

none_ranged : IsRanged no_choices
none_ranged = record { steps = omega arith; least_store = omega arith; most_store = omega arith; away = omega arith; heap = omega arith }

-- ---- jobs

pub jobs_are_fit : JobsAreFit
jobs_are_fit words job it =
    let r = all_ranged (line_verb it.line) (line_options it.line) no_choices it.choices none_ranged it.chosen in
    let fit : IsFit (settings_of it.choices) = record { least_store = r.least_store; most_store = r.most_store; away = r.away; heap = r.heap } in
    (subst IsFit (sym (ap (λ (j : Job). j.settings) it.job_is)) fit, subst (λ n. n ≤ 1000000000) (sym (ap (λ (j : Job). j.steps) it.job_is)) r.steps)

pub arguments_stand_there : ArgumentsStandThere
arguments_stand_there words job it =
    let at_is : job.at ≡ line_place it.line = ap (λ (j : Job). j.at) it.job_is in
    let argument_is : job.argument ≡ line_argument it.line = ap (λ (j : Job). j.argument) it.job_is in
    let inside : line_place it.line < length words = subst (λ w. line_place it.line < length w) (sym it.spelled) (place_within it.line) in (
      subst (λ n. n < length words) (sym at_is) inside,
      ap (λ n. get_or words n []) at_is ∙ ap (λ w. get_or w (line_place it.line) []) it.spelled ∙ argument_at it.line ∙ sym argument_is,
    )

pub read_some : (words : List (List ℕ)) (verb : Verb) (r : Reader) (place : ℕ) (argument : List ℕ) → IsRead words verb r place → argument ≡ get_or words place [] → IsSome (number_of verb argument) → AsksForJob words
read_some words verb r place argument it argument_is some = by (number_of verb argument) refl some
  where
    by : (o : Option ℕ) → number_of verb argument ≡ o → IsSome o → AsksForJob words
    by None e s = absurd (let f : ◌≡◌ {A = Bool} false true = s in cc)
    by (Some number) e s = let job : Job = job_of verb argument place number r.choices in (job, read_job words verb r place number argument job it argument_is e refl)
