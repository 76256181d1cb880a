-- The lines of the command line:
--     COMMAND [OPTION].. ARGUMENT [OPTION].. [--]
--     COMMAND [OPTION].. -- ARGUMENT
-- where an option is `--NAME VALUE`, `--NAME=VALUE` or `--report`.
use Rattle.std.specs.Prelude.{ℕ, ◌+◌, Bool, true, false, not, ◌==◌, List, [], ◌∷◌, ◌++◌, length, Option, Some}
use Rattle.std.specs.List.{flat_map}
use Rattle.std.specs.Option.{option_and_then}
use Rattle.ob_settings.specs.Options.{setting_name, verb_name, with_value, without_value, where_had, no_choices}
use Rattle.ob_settings.specs.declared.choices.Choices.{Choices}
use Rattle.ob_settings.specs.declared.option.Setting.{Setting}
use Rattle.ob_settings.specs.declared.verb.Verb.{Verb}

-- ---- options

-- with its value in the next word, with it in the same word, or without one
pub data Given : Type 0 where
  apart : (setting : Setting) (value : List ℕ) → Given
  joined : (setting : Setting) (value : List ℕ) → Given
  alone : (setting : Setting) → Given

abbrev pub words_of : Given → List (List ℕ)
words_of (apart setting value) = setting_name setting ∷ value ∷ []
words_of (joined setting value) = (setting_name setting ++ 61 ∷ value) ∷ []
words_of (alone setting) = setting_name setting ∷ []

abbrev pub chosen : Verb → Given → Choices → Option Choices
chosen verb (apart setting value) c = where_had verb setting (with_value setting value c)
chosen verb (joined setting value) c = where_had verb setting (with_value setting value c)
chosen verb (alone setting) c = where_had verb setting (without_value setting c)

-- what some options choose, one after the other; none where one of them may not stand there
abbrev pub choices_from : Verb → Choices → List Given → Option Choices
choices_from verb c [] = Some c
choices_from verb c (given ∷ options) = option_and_then (λ next. choices_from verb next options) (chosen verb given c)

-- ---- lines

abbrev pub two_dashes : List ℕ
two_dashes = 45 ∷ 45 ∷ []

pub data Line : Type 0 where
  around : (verb : Verb) (before : List Given) (argument : List ℕ) (after : List Given) (closing : Bool) → Line
  behind : (verb : Verb) (before : List Given) (argument : List ℕ) → Line

abbrev pub closing_words : Bool → List (List ℕ)
closing_words true = two_dashes ∷ []
closing_words false = []

abbrev pub line_words : Line → List (List ℕ)
line_words (around verb before argument after closing) =
    verb_name verb ∷ (flat_map words_of before ++ argument ∷ (flat_map words_of after ++ closing_words closing))
line_words (behind verb before argument) = verb_name verb ∷ (flat_map words_of before ++ two_dashes ∷ argument ∷ [])

abbrev pub line_verb : Line → Verb
line_verb (around verb before argument after closing) = verb
line_verb (behind verb before argument) = verb

abbrev pub line_options : Line → List Given
line_options (around verb before argument after closing) = before ++ after
line_options (behind verb before argument) = before

abbrev pub line_argument : Line → List ℕ
line_argument (around verb before argument after closing) = argument
line_argument (behind verb before argument) = argument

-- the place of the argument among the words, counted from 0
abbrev pub line_place : Line → ℕ
line_place (around verb before argument after closing) = 1 + length (flat_map words_of before)
line_place (behind verb before argument) = 1 + (length (flat_map words_of before) + 1)

-- before a `--` an argument doesn't begin with `-`, but may be `-`
abbrev pub is_plain : List ℕ → Bool
is_plain [] = true
is_plain (byte ∷ []) = true
is_plain (byte ∷ next ∷ word) = not (byte == 45)

abbrev pub has_plain_argument : Line → Bool
has_plain_argument (around verb before argument after closing) = is_plain argument
has_plain_argument (behind verb before argument) = true

abbrev pub line_choices : Line → Option Choices
line_choices line = choices_from (line_verb line) no_choices (line_options line)
