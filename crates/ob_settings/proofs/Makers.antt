-- A job's maker is one of three.
use Rattle.std.proofs.Common.{◌≡◌, ℕ, ◌<◌, Bool, true, false, cond, List, [], ◌∷◌, Option, Some, None, unwrap_or, refl, sym, ap, subst, arith}
use Rattle.std.proofs.lemmas.Bool.Decides.{nat_tests}
use Rattle.std.proofs.lemmas.Option.{option_and_then_some}
use Rattle.std.specs.Prelude.{not, ◌||◌, nat_lt, codes}
use Rattle.std.specs.Str.{bytes_eq}
use Rattle.std.specs.Option.{option_map}
use Rattle.ob_settings.specs.Jobs.{IsJobOf, has_maker}
use Rattle.ob_settings.specs.Lines.{Given, apart, joined, alone, choices_from, chosen, line_options, line_verb}
use Rattle.ob_settings.specs.Options.{first_choice, has, maker_named, no_choices, with_value, without_value}
use Rattle.ob_settings.specs.declared.choices.Choices.{Choices}
use Rattle.ob_settings.specs.declared.job.Job.{Job}
use Rattle.ob_settings.specs.declared.option.Setting.{Setting}
use Rattle.ob_settings.specs.declared.option.Setting.TheVariants as setting
use Rattle.ob_settings.specs.declared.verb.Verb.{Verb}
use Rattle.ob_settings.proofs.Complete.{none_some}

-- the maker, where one was chosen, is one of three
abbrev IsFew : Choices → Type 0
IsFew c = unwrap_or c.maker 0 < 3

few_by : (a b d : Bool) → unwrap_or (cond a (Some 0) (cond b (Some 1) (cond d (Some 2) None))) 0 < 3
few_by true b d = omega arith
few_by false true d = omega arith
few_by false false true = omega arith
few_by false false false = omega arith

few_named : (word : List ℕ) → unwrap_or (maker_named word) 0 < 3
few_named word = few_by (bytes_eq word (codes "small")) (bytes_eq word (codes "zero")) (bytes_eq word (codes "count"))

first_few : (before value : Option ℕ) → unwrap_or value 0 < 3 → unwrap_or (first_choice before value) 0 < 3
first_few None value few = few
first_few (Some n) value few = omega arith

maker_few : (c next : Choices) (o : Option ℕ) → unwrap_or o 0 < 3 → option_map (λ value. record c { maker = Some value }) o ≡ Some next → IsFew next
maker_few c next None few is = none_some next is
maker_few c next (Some n) few is = subst IsFew (ap (λ o. unwrap_or o next) is) few

kept_few : {A : Type 0} (c next : Choices) (f : A → Choices) (o : Option A) → ((x : A) → (f x).maker ≡ c.maker) → IsFew c → option_map f o ≡ Some next → IsFew next
kept_few c next f None keeps few is = none_some next is
kept_few c next f (Some x) keeps few is = subst IsFew (ap (λ o. unwrap_or o next) is) (subst (λ m. unwrap_or m 0 < 3) (sym (keeps x)) few)

value_few : (s : Setting) (word : List ℕ) (c next : Choices) → IsFew c → with_value s word c ≡ Some next → IsFew next
value_few setting.Mode word c next few is = kept_few c next _ _ (λ x. refl) few is
value_few setting.Steps word c next few is = kept_few c next _ _ (λ x. refl) few is
value_few setting.Store word c next few is = kept_few c next _ _ (λ x. refl) few is
value_few setting.Away word c next few is = kept_few c next _ _ (λ x. refl) few is
value_few setting.Heap word c next few is = kept_few c next _ _ (λ x. refl) few is
value_few setting.Maker word c next few is = maker_few c next (first_choice c.maker (maker_named word)) (first_few c.maker (maker_named word) (few_named word)) is
value_few setting.Profile word c next few is = kept_few c next _ _ (λ x. refl) few is
value_few setting.Report word c next few is = none_some next is

report_few : (b : Bool) (c next : Choices) → IsFew c → cond b None (Some (record c { report = true })) ≡ Some next → IsFew next
report_few true c next few is = none_some next is
report_few false c next few is = subst IsFew (ap (λ o. unwrap_or o next) is) few

alone_few : (s : Setting) (c next : Choices) → IsFew c → without_value s c ≡ Some next → IsFew next
alone_few setting.Report c next few is = report_few c.report c next few is
alone_few setting.Mode c next few is = none_some next is
alone_few setting.Steps c next few is = none_some next is
alone_few setting.Store c next few is = none_some next is
alone_few setting.Away c next few is = none_some next is
alone_few setting.Heap c next few is = none_some next is
alone_few setting.Maker c next few is = none_some next is
alone_few setting.Profile c next few is = none_some next is

had_few : (b : Bool) (o : Option Choices) (next : Choices) → ((n : Choices) → o ≡ Some n → IsFew n) → cond b o None ≡ Some next → IsFew next
had_few true o next each is = each next is
had_few false o next each is = none_some next is

chosen_few : (verb : Verb) (given : Given) (c next : Choices) → IsFew c → chosen verb given c ≡ Some next → IsFew next
chosen_few verb (apart s value) c next few is = had_few (has verb s) (with_value s value c) next (λ n e. value_few s value c n few e) is
chosen_few verb (joined s value) c next few is = had_few (has verb s) (with_value s value c) next (λ n e. value_few s value c n few e) is
chosen_few verb (alone s) c next few is = had_few (has verb s) (without_value s c) next (λ n e. alone_few s c n few e) is

all_few : (verb : Verb) (options : List Given) (c last : Choices) → IsFew c → choices_from verb c options ≡ Some last → IsFew last
all_few verb [] c last few is = subst IsFew (ap (λ o. unwrap_or o last) is) few
all_few verb (given ∷ options) c last few is =
    option_and_then_some (λ next. choices_from verb next options) (chosen verb given c) last is (λ next chosen_is rest_is. all_few verb options next last (chosen_few verb given c next few chosen_is) rest_is)

either_way : (a b : Bool) → b ≡ true → (not a || b) ≡ true
either_way true b is = is
either_way false b is = refl

pub three_are_enough : (words : List (List ℕ)) (job : Job) → IsJobOf words job → has_maker job 3 ≡ true
three_are_enough words job it =
    let few : job.maker < 3 = subst (λ m. m < 3) (sym (ap (λ j. j.maker) it.job_is)) (all_few (line_verb it.line) (line_options it.line) no_choices it.choices (omega arith) it.chosen) in
    either_way (has job.verb setting.Maker) (nat_lt job.maker 3) (grind (arith, nat_tests))
