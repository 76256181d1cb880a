use Rattle.ob_words.proofs.Conversions.{number-word, number-word_own, word-number}
use Rattle.ob_words.proofs.laws.law_number_word.Goals as goal

pub returns-clause-number : goal.returns-clause-number
returns-clause-number c = number-word_own

pub returns-clause-word : goal.returns-clause-word
returns-clause-word c = word-number

pub returns-clause-conversion : goal.returns-clause-conversion
returns-clause-conversion c = number-word
