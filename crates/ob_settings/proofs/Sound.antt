-- What is read is a line.
use Rattle.std.proofs.Common.{◌≡◌, ℕ, ◌+◌, Bool, true, false, List, [], ◌∷◌, ◌++◌, Option, Some, None, unwrap_or, refl, sym, ap, ◌∙◌, subst, append_assoc}
use Rattle.std.proofs.lemmas.List.Concat.{flat_map-cons}
use Rattle.std.specs.List.{flat_map}
use Rattle.std.specs.Option.{option_map}
use Rattle.ob_settings.specs.Lines.{Given, apart, joined, alone, choices_from, chosen, closing_words, words_of}
use Rattle.ob_settings.specs.Options.{where_had, with_value, without_value}
use Rattle.ob_settings.specs.Reading.{Kind, ends, argument, waits, flag, valued, unknown, choosing, placed, reads, step_by, taking_one, taking_two, with_argument, with_choices, word_kind}
use Rattle.ob_settings.specs.declared.choices.Choices.{Choices}
use Rattle.ob_settings.specs.declared.reader.Reader.{Reader}
use Rattle.ob_settings.specs.declared.reader.Step.{Step}
use Rattle.ob_settings.specs.declared.verb.Verb.{Verb}
use Rattle.ob_settings.proofs.Complete.{none_some}
use Rattle.ob_settings.proofs.Steps.{goes, reads_cons, rest_of}
use Rattle.ob_settings.proofs.Words.{Looks, looks}

pub same_some : {A : Type 0} (a b : A) → Some a ≡ Some b → a ≡ b
same_some a b same = ap (λ o. unwrap_or o a) same

-- an option's words, with more behind them
pub more_words : (given : Given) (options : List Given) (w rest tail : List (List ℕ)) → w ≡ words_of given → rest ≡ flat_map words_of options ++ tail → w ++ rest ≡ flat_map words_of (given ∷ options) ++ tail
more_words given options w rest tail is rest_is =
    ap (λ x. x ++ rest) is ∙ ap (λ x. words_of given ++ x) rest_is ∙ sym (append_assoc (words_of given) (flat_map words_of options) tail) ∙ ap (λ x. x ++ tail) (sym (flat_map-cons words_of given options))

pub chosen_more : (verb : Verb) (c next : Choices) (given : Given) (options : List Given) (o : Option Choices) → chosen verb given c ≡ Some next → choices_from verb next options ≡ o → choices_from verb c (given ∷ options) ≡ o
chosen_more verb c next given options o is rest = rw is rest

-- ---- behind the argument

pub record After (verb : Verb) (r : Reader) (words : List (List ℕ)) (last : Reader) : Type 0 where
  pub options : List Given
  pub closing : Bool
  pub spelled : words ≡ flat_map words_of options ++ closing_words closing
  pub chose : choices_from verb r.choices options ≡ Some last.choices
  pub place : last.place ≡ r.place

-- the next reader, with what it reads
abbrev Next : Verb → ℕ → List (List ℕ) → Reader → Type 0
Next verb at words last = (one : Reader) (p : ℕ) → one.place ≡ Some p → reads verb at one words ≡ Some last → After verb one words last

after_given : (verb : Verb) (at : ℕ) (r : Reader) (p : ℕ) (given : Given) (w words : List (List ℕ)) (o : Option Choices) (last : Reader) → o ≡ chosen verb given r.choices → w ≡ words_of given → r.place ≡ Some p →
    ((c : Choices) → o ≡ Some c → reads verb at (with_choices r c) words ≡ Some last) → ((P : Type 0) → o ≡ None → P) → Next verb at words last → After verb r (w ++ words) last
after_given verb at r p given w words None last is w_is place goes_on fails next = fails _ refl
after_given verb at r p given w words (Some c) last is w_is place goes_on fails next =
    let a = next (with_choices r c) p place (goes_on c refl) in
    record {
      options = given ∷ a.options;
      closing = a.closing;
      spelled = more_words given a.options w words (closing_words a.closing) w_is a.spelled;
      chose = chosen_more verb r.choices c given a.options (Some last.choices) (sym is) a.chose;
      place = a.place;
    }

pub one_goes : (verb : Verb) (at : ℕ) (r : Reader) (behind : List (List ℕ)) (o : Option Choices) (last : Reader) → goes verb at behind (option_map taking_one (choosing r o)) ≡ Some last → (c : Choices) → o ≡ Some c → reads verb (at + 1) (with_choices r c) behind ≡ Some last
one_goes verb at r behind o last is c some = subst (λ o. goes verb at behind (option_map taking_one (choosing r o)) ≡ Some last) some is

pub two_goes : (verb : Verb) (at : ℕ) (r : Reader) (value : List ℕ) (behind : List (List ℕ)) (o : Option Choices) (last : Reader) → goes verb at (value ∷ behind) (option_map taking_two (choosing r o)) ≡ Some last → (c : Choices) → o ≡ Some c → reads verb (at + 2) (with_choices r c) behind ≡ Some last
two_goes verb at r value behind o last is c some = subst (λ o. goes verb at (value ∷ behind) (option_map taking_two (choosing r o)) ≡ Some last) some is

pub one_fails : (verb : Verb) (at : ℕ) (r : Reader) (behind : List (List ℕ)) (o : Option Choices) (last : Reader) → goes verb at behind (option_map taking_one (choosing r o)) ≡ Some last → (P : Type 0) → o ≡ None → P
one_fails verb at r behind o last is P none = none_some last (subst (λ o. goes verb at behind (option_map taking_one (choosing r o)) ≡ Some last) none is)

pub two_fails : (verb : Verb) (at : ℕ) (r : Reader) (value : List ℕ) (behind : List (List ℕ)) (o : Option Choices) (last : Reader) → goes verb at (value ∷ behind) (option_map taking_two (choosing r o)) ≡ Some last → (P : Type 0) → o ≡ None → P
two_fails verb at r value behind o last is P none = none_some last (subst (λ o. goes verb at (value ∷ behind) (option_map taking_two (choosing r o)) ≡ Some last) none is)

no_second : (verb : Verb) (at : ℕ) (r : Reader) (p : ℕ) (f : Reader → Step) (behind : List (List ℕ)) (place : ℕ) (last : Reader) (P : Type 0) → r.place ≡ Some p → goes verb at behind (option_map f (with_argument place r)) ≡ Some last → P
no_second verb at r p f behind place last P was is = none_some last (subst (λ o. goes verb at behind (option_map f (placed place r o)) ≡ Some last) was is)

after_by : (verb : Verb) (at : ℕ) (r : Reader) (p : ℕ) (word : List ℕ) (behind : List (List ℕ)) (k : Kind) (last : Reader) → Looks word k → r.place ≡ Some p → goes verb at behind (step_by verb at r behind k) ≡ Some last →
    Next verb (at + 1) behind last → Next verb (at + 2) (rest_of behind) last → After verb r (word ∷ behind) last
after_by verb at r p word [] ends last looks place is one two =
    let same : r ≡ last = same_some r last is in
    record { options = []; closing = true; spelled = ap (λ w. w ∷ []) looks; chose = ap (λ x. Some x.choices) same; place = ap (λ x. x.place) (sym same) }
after_by verb at r p word (a ∷ []) ends last looks place is one two = no_second verb at r p taking_two (a ∷ []) (at + 1) last _ place is
after_by verb at r p word (a ∷ b ∷ words) ends last looks place is one two = none_some last is
after_by verb at r p word behind argument last looks place is one two = no_second verb at r p taking_one behind at last _ place is
after_by verb at r p word [] (waits s) last looks place is one two = none_some last is
after_by verb at r p word (value ∷ behind) (waits s) last looks place is one two =
    let o = where_had verb s (with_value s value r.choices) in
    after_given verb (at + 2) r p (apart s value) (word ∷ value ∷ []) behind o last refl (ap (λ w. w ∷ value ∷ []) looks) place (two_goes verb at r value behind o last is) (two_fails verb at r value behind o last is) two
after_by verb at r p word behind (flag s) last looks place is one two =
    let o = where_had verb s (without_value s r.choices) in
    after_given verb (at + 1) r p (alone s) (word ∷ []) behind o last refl (ap (λ w. w ∷ []) looks) place (one_goes verb at r behind o last is) (one_fails verb at r behind o last is) one
after_by verb at r p word behind (valued s value) last looks place is one two =
    let o = where_had verb s (with_value s value r.choices) in
    after_given verb (at + 1) r p (joined s value) (word ∷ []) behind o last refl (ap (λ w. w ∷ []) looks) place (one_goes verb at r behind o last is) (one_fails verb at r behind o last is) one
after_by verb at r p word behind unknown last looks place is one two = none_some last is

pub after : (verb : Verb) (at : ℕ) (words : List (List ℕ)) (last : Reader) → Next verb at words last
after verb at [] last r p place is =
    let same : r ≡ last = same_some r last is in
    record { options = []; closing = false; spelled = refl; chose = ap (λ x. Some x.choices) same; place = ap (λ x. x.place) (sym same) }
after verb at (word ∷ []) last r p place is =
    after_by verb at r p word [] (word_kind word) last (looks word) place (sym (reads_cons verb at r word []) ∙ is) (after verb (at + 1) [] last) (after verb (at + 2) [] last)
after verb at (word ∷ next ∷ words) last r p place is =
    after_by verb at r p word (next ∷ words) (word_kind word) last (looks word) place (sym (reads_cons verb at r word (next ∷ words)) ∙ is) (after verb (at + 1) (next ∷ words) last) (after verb (at + 2) words last)
