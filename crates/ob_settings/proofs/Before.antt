-- What is read before the argument and around it.
use Rattle.std.proofs.Common.{◌≡◌, ℕ, ◌+◌, Bool, true, List, [], ◌∷◌, ◌++◌, length, Option, Some, None, refl, sym, ap, ◌∙◌, subst, arith}
use Rattle.std.proofs.lemmas.List.{length-append}
use Rattle.std.proofs.lemmas.List.Concat.{flat_map-cons}
use Rattle.std.specs.List.{flat_map}
use Rattle.std.specs.Option.{option_map}
use Rattle.ob_settings.specs.Lines.{Given, apart, joined, alone, choices_from, chosen, closing_words, is_plain, two_dashes, words_of}
use Rattle.ob_settings.specs.Options.{where_had, with_value, without_value}
use Rattle.ob_settings.specs.Reading.{Kind, ends, argument, waits, flag, valued, unknown, placed, reads, step_by, taking_one, taking_two, with_argument, with_choices, word_kind}
use Rattle.ob_settings.specs.declared.choices.Choices.{Choices}
use Rattle.ob_settings.specs.declared.reader.Reader.{Reader}
use Rattle.ob_settings.specs.declared.verb.Verb.{Verb}
use Rattle.ob_settings.proofs.Complete.{none_some}
use Rattle.ob_settings.proofs.Steps.{goes, reads_cons, rest_of}
use Rattle.ob_settings.proofs.Sound.{after, chosen_more, more_words, one_fails, one_goes, same_some, two_fails, two_goes}
use Rattle.ob_settings.proofs.Words.{Looks, looks}

-- the words from a place on, where no argument stood before: they have none, or they have it before a `--` or behind one
pub data Before (verb : Verb) (at : ℕ) (r : Reader) (words : List (List ℕ)) (last : Reader) : Type 0 where
  nowhere : (place : last.place ≡ None) → Before verb at r words last
  around : (before : List Given) (word : List ℕ) (behind : List Given) (closing : Bool) (mid : Choices)
      (spelled : words ≡ flat_map words_of before ++ word ∷ (flat_map words_of behind ++ closing_words closing)) (plain : is_plain word ≡ true)
      (first : choices_from verb r.choices before ≡ Some mid) (second : choices_from verb mid behind ≡ Some last.choices) (place : last.place ≡ Some (at + length (flat_map words_of before))) → Before verb at r words last
  past : (before : List Given) (word : List ℕ) (spelled : words ≡ flat_map words_of before ++ two_dashes ∷ word ∷ [])
      (first : choices_from verb r.choices before ≡ Some last.choices) (place : last.place ≡ Some (at + (length (flat_map words_of before) + 1))) → Before verb at r words last

abbrev Next : Verb → ℕ → List (List ℕ) → Reader → Type 0
Next verb at words last = (one : Reader) → one.place ≡ None → reads verb at one words ≡ Some last → Before verb at one words last

placed_more : (at n : ℕ) (given : Given) (before : List Given) (more : ℕ) (w : List (List ℕ)) → w ≡ words_of given → n ≡ length w → at + n + (length (flat_map words_of before) + more) ≡ at + (length (flat_map words_of (given ∷ before)) + more)
placed_more at n given before more w is n_is =
    let e : length (flat_map words_of (given ∷ before)) ≡ length (words_of given) + length (flat_map words_of before) = ap length (flat_map-cons words_of given before) ∙ length-append (words_of given) (flat_map words_of before) in
    let f : n ≡ length (words_of given) = n_is ∙ ap length is in
    omega (arith, e, f)

before_more : (verb : Verb) (at n : ℕ) (r : Reader) (c : Choices) (given : Given) (w words : List (List ℕ)) (last : Reader) → chosen verb given r.choices ≡ Some c → w ≡ words_of given → n ≡ length w → Before verb (at + n) (with_choices r c) words last → Before verb at r (w ++ words) last
before_more verb at n r c given w words last is w_is n_is (nowhere place) = nowhere place
before_more verb at n r c given w words last is w_is n_is (around before word behind closing mid spelled plain first second place) =
    around (given ∷ before) word behind closing mid (more_words given before w words (word ∷ (flat_map words_of behind ++ closing_words closing)) w_is spelled) plain
    (chosen_more verb r.choices c given before (Some mid) is first) second
    (place ∙ ap Some (let e = placed_more at n given before 0 w w_is n_is in omega (arith, e)))
before_more verb at n r c given w words last is w_is n_is (past before word spelled first place) =
    past (given ∷ before) word (more_words given before w words (two_dashes ∷ word ∷ []) w_is spelled)
    (chosen_more verb r.choices c given before (Some last.choices) is first) (place ∙ ap Some (placed_more at n given before 1 w w_is n_is))

before_given : (verb : Verb) (at n : ℕ) (r : Reader) (given : Given) (w words : List (List ℕ)) (o : Option Choices) (last : Reader) → o ≡ chosen verb given r.choices → w ≡ words_of given → n ≡ length w → r.place ≡ None →
    ((c : Choices) → o ≡ Some c → reads verb (at + n) (with_choices r c) words ≡ Some last) → ((P : Type 0) → o ≡ None → P) → Next verb (at + n) words last → Before verb at r (w ++ words) last
before_given verb at n r given w words None last is w_is n_is place goes_on fails next = fails _ refl
before_given verb at n r given w words (Some c) last is w_is n_is place goes_on fails next =
    before_more verb at n r c given w words last (sym is) w_is n_is (next (with_choices r c) place (goes_on c refl))

with_place : Reader → ℕ → Reader
with_place r at = record r { place = Some at }

past_end : (verb : Verb) (at : ℕ) (r : Reader) (word a : List ℕ) (last : Reader) → word ≡ two_dashes → r.place ≡ None → goes verb at (a ∷ []) (option_map taking_two (with_argument (at + 1) r)) ≡ Some last → Before verb at r (word ∷ a ∷ []) last
past_end verb at r word a last looks place is =
    let same : Some (record r { place = Some (at + 1) }) ≡ Some last = subst (λ o. goes verb at (a ∷ []) (option_map taking_two (placed (at + 1) r o)) ≡ Some last) place is in
    let it = same_some (record r { place = Some (at + 1) }) last same in
    past [] a (ap (λ w. w ∷ a ∷ []) looks) (ap (λ x. Some x.choices) it) (ap (λ x. x.place) (sym it) ∙ ap Some (omega arith))

an_argument : (verb : Verb) (at : ℕ) (r : Reader) (word : List ℕ) (behind : List (List ℕ)) (last : Reader) → is_plain word ≡ true → r.place ≡ None → goes verb at behind (option_map taking_one (with_argument at r)) ≡ Some last → Before verb at r (word ∷ behind) last
an_argument verb at r word behind last plain place is =
    let a = after verb (at + 1) behind last (record r { place = Some at }) at refl (subst (λ o. goes verb at behind (option_map taking_one (placed at r o)) ≡ Some last) place is) in
    around [] word a.options a.closing r.choices (ap (λ w. word ∷ w) a.spelled) plain refl a.chose (a.place ∙ ap Some (omega arith))

before_by : (verb : Verb) (at : ℕ) (r : Reader) (word : List ℕ) (behind : List (List ℕ)) (k : Kind) (last : Reader) → Looks word k → r.place ≡ None → goes verb at behind (step_by verb at r behind k) ≡ Some last →
    Next verb (at + 1) behind last → Next verb (at + 2) (rest_of behind) last → Before verb at r (word ∷ behind) last
before_by verb at r word [] ends last looks place is one two = nowhere (ap (λ x. x.place) (sym (same_some r last is)) ∙ place)
before_by verb at r word (a ∷ []) ends last looks place is one two = past_end verb at r word a last looks place is
before_by verb at r word (a ∷ b ∷ words) ends last looks place is one two = none_some last is
before_by verb at r word behind argument last looks place is one two = an_argument verb at r word behind last looks place is
before_by verb at r word [] (waits s) last looks place is one two = none_some last is
before_by verb at r word (value ∷ behind) (waits s) last looks place is one two =
    let o = where_had verb s (with_value s value r.choices) in
    before_given verb at 2 r (apart s value) (word ∷ value ∷ []) behind o last refl (ap (λ w. w ∷ value ∷ []) looks) refl place (two_goes verb at r value behind o last is) (two_fails verb at r value behind o last is) two
before_by verb at r word behind (flag s) last looks place is one two =
    let o = where_had verb s (without_value s r.choices) in
    before_given verb at 1 r (alone s) (word ∷ []) behind o last refl (ap (λ w. w ∷ []) looks) refl place (one_goes verb at r behind o last is) (one_fails verb at r behind o last is) one
before_by verb at r word behind (valued s value) last looks place is one two =
    let o = where_had verb s (with_value s value r.choices) in
    before_given verb at 1 r (joined s value) (word ∷ []) behind o last refl (ap (λ w. w ∷ []) looks) refl place (one_goes verb at r behind o last is) (one_fails verb at r behind o last is) one
before_by verb at r word behind unknown last looks place is one two = none_some last is

pub before : (verb : Verb) (at : ℕ) (words : List (List ℕ)) (last : Reader) → Next verb at words last
before verb at [] last r place is = nowhere (ap (λ x. x.place) (sym (same_some r last is)) ∙ place)
before verb at (word ∷ []) last r place is =
    before_by verb at r word [] (word_kind word) last (looks word) place (sym (reads_cons verb at r word []) ∙ is) (before verb (at + 1) [] last) (before verb (at + 2) [] last)
before verb at (word ∷ next ∷ words) last r place is =
    before_by verb at r word (next ∷ words) (word_kind word) last (looks word) place (sym (reads_cons verb at r word (next ∷ words)) ∙ is) (before verb (at + 1) (next ∷ words) last) (before verb (at + 2) words last)
