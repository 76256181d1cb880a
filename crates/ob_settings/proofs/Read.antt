-- The reader's answer and the lines of `Lines`.
use Rattle.std.proofs.Common.{◌≡◌, ℕ, zero, suc, ◌+◌, ◌<◌, true, List, [], ◌∷◌, ◌++◌, length, get_or, map, drop, Option, Some, None, refl, sym, ap, ◌∙◌, subst, arith, drop-cons}
use Rattle.std.proofs.lemmas.List.{length-append, length-map}
use Rattle.std.specs.List.{flat_map}
use Rattle.std.specs.Prelude.{IfOk, IsSomeAnd, Result, Ok, Err}
use Rattle.ob_settings.specs.declared.job.WordsFault.{WordsFault}
use Rattle.ob_settings.specs.Jobs.{IsJobOf, IsUsage, number_of, job_of}
use Rattle.ob_settings.specs.Lines.{Line, around, behind, closing_words, has_plain_argument, line_argument, line_choices, line_place, line_verb, line_words, two_dashes, words_of}
use Rattle.ob_settings.specs.Options.{no_choices, verb_name}
use Rattle.ob_settings.specs.Reading.{nothing_read, reads, verb_named}
use Rattle.ob_settings.specs.declared.job.Job.{Job}
use Rattle.ob_settings.specs.declared.reader.Reader.{Reader}
use Rattle.ob_settings.specs.declared.verb.Verb.{Verb}
use Rattle.ob_settings.proofs.Before.{Before, nowhere, around as found_around, past, before}
use Rattle.ob_settings.proofs.Complete.{in_one, line_is, line_read, none_some, others_of}
use Rattle.ob_settings.proofs.Sound.{same_some}
use Rattle.ob_settings.proofs.Words.{verb_found, verb_is}

-- ---- the argument at its place

get_past : (xs : List (List ℕ)) (x : List ℕ) (ys : List (List ℕ)) → get_or (xs ++ x ∷ ys) (length xs) [] ≡ x
get_past [] x ys = refl
get_past (w ∷ xs) x ys = get_past xs x ys

one_past : (c : List ℕ) (words : List (List ℕ)) (n : ℕ) → get_or (c ∷ words) (1 + n) [] ≡ get_or words n []
one_past c words n = ap (λ k. get_or (c ∷ words) k []) {x = 1 + n} {y = suc n} (omega arith)

dashes_past : (xs : List (List ℕ)) (d x : List ℕ) → get_or (xs ++ d ∷ x ∷ []) (length xs + 1) [] ≡ x
dashes_past [] d x = refl
dashes_past (w ∷ xs) d x = ap (λ k. get_or (w ∷ (xs ++ d ∷ x ∷ [])) k []) {x = suc (length xs) + 1} {y = suc (length xs + 1)} (omega arith) ∙ dashes_past xs d x

pub argument_at : (line : Line) → get_or (line_words line) (line_place line) [] ≡ line_argument line
argument_at (around verb before argument after closing) =
    one_past (verb_name verb) (flat_map words_of before ++ argument ∷ (flat_map words_of after ++ closing_words closing)) (length (flat_map words_of before)) ∙ get_past (flat_map words_of before) argument (flat_map words_of after ++ closing_words closing)
argument_at (behind verb before argument) =
    one_past (verb_name verb) (flat_map words_of before ++ two_dashes ∷ argument ∷ []) (length (flat_map words_of before) + 1) ∙ dashes_past (flat_map words_of before) two_dashes argument

pub place_within : (line : Line) → line_place line < length (line_words line)
place_within (around verb before argument after closing) =
    let e = length-append (flat_map words_of before) (argument ∷ (flat_map words_of after ++ closing_words closing)) in omega (arith, e)
place_within (behind verb before argument) =
    let e = length-append (flat_map words_of before) (two_dashes ∷ argument ∷ []) in omega (arith, e)

-- ---- what was read is a line

pub record IsRead (words : List (List ℕ)) (verb : Verb) (r : Reader) (place : ℕ) : Type 0 where
  pub line : Line
  pub spelled : words ≡ line_words line
  pub plain : has_plain_argument line ≡ true
  pub chosen : line_choices line ≡ Some r.choices
  pub verb_is : line_verb line ≡ verb
  pub place_is : line_place line ≡ place

read_by : (command : List ℕ) (others : List (List ℕ)) (verb : Verb) (r : Reader) (place : ℕ) → command ≡ verb_name verb → r.place ≡ Some place → Before verb 1 nothing_read others r → IsRead (command ∷ others) verb r place
read_by command others verb r place name is (nowhere none) = none_some place (sym none ∙ is)
read_by command others verb r place name is (found_around before word after closing mid spelled plain first second placed) =
    record {
      line = around verb before word after closing;
      spelled = ap (λ c. c ∷ others) name ∙ ap (λ w. verb_name verb ∷ w) spelled;
      plain = plain;
      chosen = in_one verb no_choices before after mid r.choices first second;
      verb_is = refl;
      place_is = same_some (1 + length (flat_map words_of before)) place (sym placed ∙ is);
    }
read_by command others verb r place name is (past before word spelled first placed) =
    record {
      line = behind verb before word;
      spelled = ap (λ c. c ∷ others) name ∙ ap (λ w. verb_name verb ∷ w) spelled;
      plain = refl;
      chosen = first;
      verb_is = refl;
      place_is = same_some (1 + (length (flat_map words_of before) + 1)) place (sym placed ∙ is);
    }

pub was_read : (command : List ℕ) (others : List (List ℕ)) (verb : Verb) (r : Reader) (place : ℕ) → verb_named command ≡ Some verb → reads verb 1 nothing_read others ≡ Some r → r.place ≡ Some place → IsRead (command ∷ others) verb r place
was_read command others verb r place named read is = read_by command others verb r place (verb_is command verb named) is (before verb 1 others r nothing_read refl read)

pub read_within : (words : List (List ℕ)) (verb : Verb) (r : Reader) (place : ℕ) → IsRead words verb r place → place < length words
read_within words verb r place it =
    let inside = place_within it.line in
    subst (λ w. place < length w) (sym it.spelled) (subst (λ p. p < length (line_words it.line)) it.place_is inside)

read_argument : (words : List (List ℕ)) (verb : Verb) (r : Reader) (place : ℕ) (it : IsRead words verb r place) → line_argument it.line ≡ get_or words place []
read_argument words verb r place it = sym (argument_at it.line) ∙ ap (λ w. get_or w (line_place it.line) []) (sym it.spelled) ∙ ap (λ p. get_or words p []) it.place_is

pub read_job : (words : List (List ℕ)) (verb : Verb) (r : Reader) (place number : ℕ) (argument : List ℕ) (job : Job) → IsRead words verb r place → argument ≡ get_or words place [] → number_of verb argument ≡ Some number → job ≡ job_of verb argument place number r.choices → IsJobOf words job
read_job words verb r place number argument job it argument_is numbered is =
    let same : argument ≡ line_argument it.line = argument_is ∙ sym (read_argument words verb r place it) in
    record {
      line = it.line;
      spelled = it.spelled;
      plain = it.plain;
      choices = r.choices;
      chosen = it.chosen;
      number = number;
      numbered = ap (λ v. number_of v (line_argument it.line)) it.verb_is ∙ ap (number_of verb) (sym same) ∙ numbered;
      job_is = is ∙ ap (λ a. job_of verb a place number r.choices) same ∙ ap (λ v. job_of v (line_argument it.line) place number r.choices) (sym it.verb_is) ∙ ap (λ p. job_of (line_verb it.line) (line_argument it.line) p number r.choices) (sym it.place_is);
    }

-- ---- a line with a job is read

first_same : (a b : List ℕ) (others more : List (List ℕ)) → a ∷ others ≡ b ∷ more → a ≡ b
first_same a b others more same = ap (λ l. get_or l 0 []) same

rest_same : (a b : List ℕ) (others more : List (List ℕ)) → a ∷ others ≡ b ∷ more → others ≡ more
rest_same a b others more same = ap (λ l. drop 1 l) same

verb_of_line : (command : List ℕ) (others : List (List ℕ)) (job : Job) (it : IsJobOf (command ∷ others) job) → verb_named command ≡ Some (line_verb it.line)
verb_of_line command others job it =
    ap verb_named (first_same command (verb_name (line_verb it.line)) others (others_of it.line) (it.spelled ∙ line_is it.line)) ∙ verb_found (line_verb it.line)

read_of_line : (command : List ℕ) (others : List (List ℕ)) (job : Job) (it : IsJobOf (command ∷ others) job) → reads (line_verb it.line) 1 nothing_read others ≡ Some (record { choices = it.choices; place = Some (line_place it.line) })
read_of_line command others job it =
    ap (reads (line_verb it.line) 1 nothing_read) (rest_same command (verb_name (line_verb it.line)) others (others_of it.line) (it.spelled ∙ line_is it.line)) ∙ line_read it.line it.choices it.plain it.chosen

pub no_words : (job : Job) → IsJobOf [] job → ⊥
no_words job it = let e : ◌≡◌ {A = ℕ} 0 (length (line_words it.line)) = ap length it.spelled in let f = place_within it.line in absurd (omega (arith, e, f))

pub unknown_verb : (command : List ℕ) (others : List (List ℕ)) → verb_named command ≡ None → IsUsage (command ∷ others)
unknown_verb command others named job it = none_some (line_verb it.line) (sym named ∙ verb_of_line command others job it)

same_verb : (command : List ℕ) (others : List (List ℕ)) (verb : Verb) (job : Job) (it : IsJobOf (command ∷ others) job) → verb_named command ≡ Some verb → line_verb it.line ≡ verb
same_verb command others verb job it named = same_some (line_verb it.line) verb (sym (verb_of_line command others job it) ∙ named)

read_as : (command : List ℕ) (others : List (List ℕ)) (verb : Verb) (job : Job) (it : IsJobOf (command ∷ others) job) → verb_named command ≡ Some verb → reads verb 1 nothing_read others ≡ Some (record { choices = it.choices; place = Some (line_place it.line) })
read_as command others verb job it named = ap (λ v. reads v 1 nothing_read others) (sym (same_verb command others verb job it named)) ∙ read_of_line command others job it

pub unread : (command : List ℕ) (others : List (List ℕ)) (verb : Verb) → verb_named command ≡ Some verb → reads verb 1 nothing_read others ≡ None → IsUsage (command ∷ others)
unread command others verb named read job it = none_some (record { choices = it.choices; place = Some (line_place it.line) }) (sym read ∙ read_as command others verb job it named)

same_reader : (command : List ℕ) (others : List (List ℕ)) (verb : Verb) (r : Reader) (job : Job) (it : IsJobOf (command ∷ others) job) → verb_named command ≡ Some verb → reads verb 1 nothing_read others ≡ Some r → r.place ≡ Some (line_place it.line)
same_reader command others verb r job it named read = ap (λ x. x.place) (same_some r (record { choices = it.choices; place = Some (line_place it.line) }) (sym read ∙ read_as command others verb job it named))

pub unplaced : (command : List ℕ) (others : List (List ℕ)) (verb : Verb) (r : Reader) → verb_named command ≡ Some verb → reads verb 1 nothing_read others ≡ Some r → r.place ≡ None → IsUsage (command ∷ others)
unplaced command others verb r named read none job it = none_some (line_place it.line) (sym none ∙ same_reader command others verb r job it named read)

pub unnumbered : (command : List ℕ) (others : List (List ℕ)) (verb : Verb) (r : Reader) (place : ℕ) (argument : List ℕ) → verb_named command ≡ Some verb → reads verb 1 nothing_read others ≡ Some r → r.place ≡ Some place → argument ≡ get_or (command ∷ others) place [] → number_of verb argument ≡ None → IsUsage (command ∷ others)
unnumbered command others verb r place argument named read is argument_is none job it =
    let place_is : place ≡ line_place it.line = same_some place (line_place it.line) (sym is ∙ same_reader command others verb r job it named read) in
    let same : argument ≡ line_argument it.line = argument_is ∙ ap (λ p. get_or (command ∷ others) p []) place_is ∙ ap (λ w. get_or w (line_place it.line) []) it.spelled ∙ argument_at it.line in
    none_some it.number (sym none ∙ ap (number_of verb) same ∙ ap (λ v. number_of v (line_argument it.line)) (sym (same_verb command others verb job it named)) ∙ it.numbered)

-- ---- words of any type

pub words_in : {S : Type 0} (f : S → List ℕ) (items others : List S) (w : S) (command : List ℕ) → 0 < length items → w ≡ get_or items 0 w → command ≡ f w → others ≡ drop 1 items → map f items ≡ command ∷ map f others
words_in f items others w command some is command_is others_is =
    ap (map f) (drop-cons items 0 w some) ∙ ap (λ x. f x ∷ map f (drop 1 items)) (sym is) ∙ ap (λ c. c ∷ map f (drop 1 items)) (sym command_is) ∙ ap (λ x. command ∷ map f x) (sym others_is)

pub word_in : {S : Type 0} (f : S → List ℕ) (items : List S) (k : ℕ) (w : S) → k < length items → w ≡ get_or items k w → f w ≡ get_or (map f items) k []
word_in f [] k w inside is = absurd (omega arith)
word_in f (x ∷ items) zero w inside is = ap f is
word_in f (x ∷ items) (suc k) w inside is = word_in f items k w (omega arith) is

pub all_within : {S : Type 0} (f : S → List ℕ) (items : List S) (words : List (List ℕ)) (k : ℕ) → map f items ≡ words → k < length words → k < length items
all_within f items words k same inside = let e : length words ≡ length items = ap length (sym same) ∙ length-map items f in omega (arith, e)

-- ---- the answer

some_number : {A : Type 0} (P : ℕ → Type 0) (o : Option ℕ) (f : (n : ℕ) → o ≡ Some n → P n → A) → IsSomeAnd o P → A
some_number P None f it = absurd it
some_number P (Some n) f it = f n refl it

pub job_read : (words : List (List ℕ)) (verb : Verb) (r : Reader) (place : ℕ) (argument : List ℕ) (result : Result Job WordsFault) → IsRead words verb r place → argument ≡ get_or words place [] →
    IfOk result (λ job. IsSomeAnd (number_of verb argument) (λ number. job ≡ job_of verb argument place number r.choices)) → IfOk result (λ job. IsJobOf words job)
job_read words verb r place argument (Ok job) it argument_is is = some_number (λ number. job ≡ job_of verb argument place number r.choices) (number_of verb argument) (λ number numbered job_is. read_job words verb r place number argument job it argument_is numbered job_is) is
job_read words verb r place argument (Err fault) it argument_is is = tt

-- ---- one job

same_jobs : (command : List ℕ) (others : List (List ℕ)) (job other : Job) → IsJobOf (command ∷ others) job → IsJobOf (command ∷ others) other → job ≡ other
same_jobs command others job other it that =
    let words = command ∷ others in
    let verb : line_verb it.line ≡ line_verb that.line = same_verb command others (line_verb that.line) job it (verb_of_line command others other that) in
    let readers = same_some (record { choices = it.choices; place = Some (line_place it.line) }) (record { choices = that.choices; place = Some (line_place that.line) })
    (sym (read_as command others (line_verb that.line) job it (verb_of_line command others other that)) ∙ read_of_line command others other that) in
    let choices : it.choices ≡ that.choices = ap (λ r. r.choices) readers in
    let place : line_place it.line ≡ line_place that.line = same_some (line_place it.line) (line_place that.line) (ap (λ r. r.place) readers) in
    let argument : line_argument it.line ≡ line_argument that.line =
    sym (argument_at it.line) ∙ ap (λ w. get_or w (line_place it.line) []) (sym it.spelled) ∙ ap (λ p. get_or words p []) place ∙ ap (λ w. get_or w (line_place that.line) []) that.spelled ∙ argument_at that.line in
    let number : it.number ≡ that.number =
    same_some it.number that.number (sym it.numbered ∙ ap (λ v. number_of v (line_argument it.line)) verb ∙ ap (number_of (line_verb that.line)) argument ∙ that.numbered) in
    it.job_is ∙ (λ i. job_of (verb i) (argument i) (place i) (number i) (choices i)) ∙ sym that.job_is

pub one_job : (words : List (List ℕ)) (job other : Job) → IsJobOf words job → IsJobOf words other → job ≡ other
one_job [] job other it that = absurd (no_words job it)
one_job (command ∷ others) job other it that = same_jobs command others job other it that
