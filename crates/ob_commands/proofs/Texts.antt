-- What is due to the error sink, by the answer; and words whose job has no maker.
use Rattle.std.proofs.Common.{◌≡◌, ℕ, Bool, true, false, List, [], ◌∷◌, ◌++◌, map, refl, sym, ap, ◌∙◌, subst}
use Rattle.std.proofs.lemmas.List.{append-nil}
use Rattle.ob_model.specs.declared.endings.Ending.{Ending}
use Rattle.ob_report.specs.Lines.{ending_line}
use Rattle.ob_report.specs.Reports.{Account, report_text}
use Rattle.ob_settings.specs.Jobs.{IsJobOf, IsUsageFor, OneJob, has_maker}
use Rattle.ob_settings.specs.declared.job.Job.{Job}
use Rattle.ob_watch.specs.Watching.{Watch}
use Rattle.ob_commands.specs.declared.answer.Answer.{Answer}
use Rattle.ob_commands.specs.declared.line.Line.{Line}
use Rattle.ob_commands.specs.Answers.{account_of, report_of}
use Rattle.ob_commands.specs.Delivery.{bytes_of, err_of}

pub line_case : (r l : Line) (name : List ℕ) (asked : Bool) (ws : List Watch) (answer x : Answer) → r ≡ l → answer ≡ x → bytes_of l ≡ err_of name asked ws x → bytes_of r ≡ err_of name asked ws answer
line_case r l name asked ws answer x is answer_is same = ap bytes_of is ∙ same ∙ ap (err_of name asked ws) (sym answer_is)

accounts : {D : Type 0} (f : D → Watch) (h : D → Account) (items : List D) → ((w : D) → account_of (f w) ≡ h w) → map account_of (map f items) ≡ map h items
accounts f h [] same = refl
accounts f h (w ∷ items) same = ap (λ a. a ∷ map account_of (map f items)) (same w) ∙ ap (λ rest. h w ∷ rest) (accounts f h items same)

-- a report that was asked for
pub reported : {D : Type 0} (f : D → Watch) (h : D → Account) (items : List D) (e : Ending) (asked : Bool) (text : List ℕ) → ((w : D) → account_of (f w) ≡ h w) → asked ≡ true → text ≡ ending_line e ++ report_text (map h items) →
    text ≡ ending_line e ++ report_of asked (map f items)
reported f h items e asked text same is text_is =
    text_is ∙ ap (λ l. ending_line e ++ report_text l) (sym (accounts f h items same)) ∙ ap (λ b. ending_line e ++ report_of b (map f items)) (sym is)

-- and none
pub unreported : (ws : List Watch) (e : Ending) (asked : Bool) (text : List ℕ) → asked ≡ false → text ≡ ending_line e → text ≡ ending_line e ++ report_of asked ws
unreported ws e asked text is text_is = text_is ∙ sym (append-nil (ending_line e)) ∙ ap (λ b. ending_line e ++ report_of b ws) (sym is)

pub no_maker : OneJob → (words : List (List ℕ)) (makers : ℕ) (job : Job) → IsJobOf words job → has_maker job makers ≡ false → IsUsageFor makers words
no_maker one words makers job is none other asks =
    let same : other ≡ job = one words other job asks.asked is in
    let has : has_maker job makers ≡ true = subst (λ j. has_maker j makers ≡ true) same asks.maker in
    absurd (let e : true ≡ false = sym has ∙ none in cc)
