-- The job of a line.
use Rattle.std.specs.Prelude.{◌≡◌, ◌==◌, ◌||◌, ◌<◌, ◌≤◌, not, nat_lt, if◌then◌else◌, ℕ, Bool, true, List, [], length, Option, Some, slice_index_or, unwrap_or}
use Rattle.ob_model.specs.declared.settings.Mode.TheVariants.{Oblivious}
use Rattle.ob_model.specs.declared.settings.Profile.{Profile}
use Rattle.ob_model.specs.declared.settings.Profile.TheVariants as profile
use Rattle.ob_model.specs.declared.settings.RunSettings.{RunSettings}
use Rattle.ob_model.specs.Settings.{IsFit}
use Rattle.ob_settings.specs.Lines.{Line, has_plain_argument, line_argument, line_choices, line_place, line_verb, line_words}
use Rattle.ob_settings.specs.Numbers.{number_between}
use Rattle.ob_settings.specs.Options.{has, most_steps}
use Rattle.ob_settings.specs.declared.option.Setting.TheVariants as setting
use Rattle.ob_settings.specs.declared.choices.Choices.{Choices}
use Rattle.ob_settings.specs.declared.job.Job.{Job}
use Rattle.ob_settings.specs.declared.verb.Verb.{Verb}
use Rattle.ob_settings.specs.declared.verb.Verb.TheVariants as verb

-- a job without the option has the number 0 for its profile, which counts as profile 1
abbrev pub profile_of : ℕ → Profile
profile_of number = if number == 2 then profile.Two else profile.One

abbrev pub settings_of : Choices → RunSettings
settings_of c =
    record {
      mode = unwrap_or c.mode Oblivious;
      store = unwrap_or c.store 65536;
      away = unwrap_or c.away 65536;
      heap = unwrap_or c.heap 4194304;
      profile = profile_of (unwrap_or c.profile 0);
    }

-- the argument of `sample` is a number from 1 to 1000; every other is a name
abbrev pub number_of : Verb → List ℕ → Option ℕ
number_of verb.Sample argument = number_between 1 1000 argument
number_of _ argument = Some 0

abbrev pub job_of : Verb → (argument : List ℕ) → (place : ℕ) → (number : ℕ) → Choices → Job
job_of verb argument place number c =
    record {
      verb = verb;
      argument = argument;
      at = place;
      settings = settings_of c;
      steps = unwrap_or c.steps 10000000;
      maker = unwrap_or c.maker 0;
      report = c.report;
      number = number;
      profile = unwrap_or c.profile 0;
    }

-- the words are this line, its options may stand there, and this is its job
pub record IsJobOf (words : List (List ℕ)) (job : Job) : Type 0 where
  pub line : Line
  pub spelled : words ≡ line_words line
  pub plain : has_plain_argument line ≡ true
  pub choices : Choices
  pub chosen : line_choices line ≡ Some choices
  pub number : ℕ
  pub numbered : number_of (line_verb line) (line_argument line) ≡ Some number
  pub job_is : job ≡ job_of (line_verb line) (line_argument line) (line_place line) number choices

-- whether so many makers have the one that a job takes; a command without the option needs none
abbrev pub has_maker : Job → (makers : ℕ) → Bool
has_maker job makers = not (has job.verb setting.Maker) || nat_lt job.maker makers

-- the words ask for this job, where so many makers are at hand
pub record IsJobFor (makers : ℕ) (words : List (List ℕ)) (job : Job) : Type 0 where
  pub asked : IsJobOf words job
  pub maker : has_maker job makers ≡ true

abbrev pub IsUsageFor : ℕ → List (List ℕ) → Type 0
IsUsageFor makers words = (job : Job) → IsJobFor makers words job → ⊥

-- words ask for one job at most
abbrev pub OneJob : Type 0
OneJob = (words : List (List ℕ)) (job other : Job) → IsJobOf words job → IsJobOf words other → job ≡ other

-- each job that words ask for has a maker among three
abbrev pub ThreeAreEnough : Type 0
ThreeAreEnough = (words : List (List ℕ)) (job : Job) → IsJobOf words job → has_maker job 3 ≡ true

-- no line with a job is spelled so
abbrev pub IsUsage : List (List ℕ) → Type 0
IsUsage words = (job : Job) → IsJobOf words job → ⊥

-- some line with a job is spelled so
abbrev pub AsksForJob : List (List ℕ) → Type 0
AsksForJob words = (job : Job) × IsJobOf words job

-- each job's numbers lie in the ranges of the table
abbrev pub JobsAreFit : Type 0
JobsAreFit = (words : List (List ℕ)) (job : Job) → IsJobOf words job → IsFit job.settings × (job.steps ≤ most_steps)

-- each job's argument is the word at its place
abbrev pub ArgumentsStandThere : Type 0
ArgumentsStandThere = (words : List (List ℕ)) (job : Job) → IsJobOf words job → (job.at < length words) × (slice_index_or words job.at [] ≡ job.argument)
