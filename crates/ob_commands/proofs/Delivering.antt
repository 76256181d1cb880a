-- What a job came to is delivered.
use Rattle.std.proofs.Common.{◌≡◌, ℕ, ◌≤◌, ◌⊎◌, inl, inr, List, [], length, false, refl, sym, ap, ◌∙◌, subst}
use Rattle.std.specs.Prelude.{Some, None}
use Rattle.ob_base.specs.Devices.{Writing, IsUnwritten, IsWritten, IsCutOff}
use Rattle.ob_watch.specs.Watching.{Watch}
use Rattle.ob_settings.specs.declared.job.Job.{Job}
use Rattle.ob_settings.specs.Jobs.{AsksForJob, IsJobFor, IsUsageFor}
use Rattle.ob_commands.specs.declared.answer.Answer.TheVariants.{Usage}
use Rattle.ob_commands.specs.declared.came.Came.{Came}
use Rattle.ob_commands.specs.declared.came.Came.TheVariants.{Due, Cut, Lost, Starved}
use Rattle.ob_commands.specs.Answers.{Outcome, TakesMemory, status_of, told_why}
use Rattle.ob_commands.specs.Parts.{Asked, Language, asked}
use Rattle.ob_commands.specs.Top.{Answers, does, helpless, ComesOf, Delivers, whole, out_failed, err_failed, lost, starved, Devices, Handed, IsIdle}
use Rattle.ob_commands.specs.Delivery.{CameTo, Delivered, all, cut}
use Rattle.ob_commands.proofs.Coming.{nothing_due}

-- an outcome was delivered, or there was no memory to begin with
abbrev Ends : Asked → (Outcome → Type 0) → Type 0 → (out err : Writing) → (s k : ℕ) → Type 0
Ends a P I out err s k =
    ((o : Outcome) × P o × Delivers a.job.report o out err s k) ⊎ (I × IsUnwritten out × IsUnwritten err × (s ≡ 144) × (k ≡ 0))

pub came_delivered : (a : Asked) (seen : List Watch) (P : Outcome → Type 0) (I : Type 0) (c : Came) (out err : Writing) (s k : ℕ) → CameTo a seen P I c out → Delivered a.job.argument a.job.report seen c err s k → Ends a P I out err s k
came_delivered a seen P I (Due answer n) out err s k it (count, inl (all told is)) =
    inl (it.outcome, it.comes, whole it.all_out (subst (IsWritten err) (sym it.err_is) told) (is ∙ ap status_of (sym it.answer_is)) (count ∙ it.count))
came_delivered a seen P I (Due answer n) out err s k it (count, inl (cut c is)) =
    inl (it.outcome, it.comes, err_failed it.all_out (subst (IsCutOff err) (sym it.err_is) c) is (count ∙ it.count))
came_delivered a seen P I (Due answer n) out err s k it (count, inr (takes, is, quiet)) =
    inl (it.outcome, it.comes, starved (subst (TakesMemory a.job.report) (sym it.answer_is) takes) it.all_out quiet is (count ∙ it.count))
came_delivered a seen P I (Cut n) out err s k it (count, is, quiet) =
    inl (it.outcome, it.comes, out_failed it.cut quiet is (subst (λ m. m ≤ it.outcome.instructions) (sym count) it.count))
came_delivered a seen P I (Lost n) out err s k it (count, is, quiet) =
    inl (it.outcome, it.comes, lost it.keeps it.sent quiet is (subst (λ m. m ≤ it.outcome.instructions) (sym count) it.count))
came_delivered a seen P I Starved out err s k it (count, is, quiet) = inr (it.0, it.1, quiet, is, count)

-- a job
pub job_answers : (lang : Language) (h : Handed) (d : Devices) (job : Job) (seen : List Watch) (c : Came) (s k : ℕ) → IsJobFor (length h.makers) h.words job →
    CameTo (asked job h.makers h.watchers) seen (λ o. ComesOf lang job.verb (asked job h.makers h.watchers) d.folder d.input o) (IsIdle d.folder d.input) c d.out →
    Delivered job.argument job.report seen c d.err s k → Answers lang h d s k
job_answers lang h d job seen c s k asks came told = by (came_delivered (asked job h.makers h.watchers) seen _ _ c d.out d.err s k came told)
  where
    by : Ends (asked job h.makers h.watchers) (λ o. ComesOf lang job.verb (asked job h.makers h.watchers) d.folder d.input o) (IsIdle d.folder d.input) d.out d.err s k → Answers lang h d s k
    by (inl it) = does (record { job = Some job; asks = asks; outcome = it.0; comes = it.1; delivers = it.2 })
    by (inr it) = helpless (record { asks = (job, asks.asked); status_is = it.3; idle = it.0; out = it.1; err = it.2; count = it.4 })

-- words that ask for nothing
pub usage_answers : (lang : Language) (h : Handed) (d : Devices) (ws : List Watch) (s k : ℕ) → IsUsageFor (length h.makers) h.words → IsIdle d.folder d.input → IsUnwritten d.out →
    Delivered [] false ws (Due Usage 0) d.err s k → Answers lang h d s k
usage_answers lang h d ws s k asks idle quiet (count, inl (all told is)) =
    does (record { job = None; asks = asks; outcome = told_why [] Usage; comes = record { idle = idle; is = refl }; delivers = whole (nothing_due d.out quiet) told is count })
usage_answers lang h d ws s k asks idle quiet (count, inl (cut c is)) =
    does (record { job = None; asks = asks; outcome = told_why [] Usage; comes = record { idle = idle; is = refl }; delivers = err_failed (nothing_due d.out quiet) c is count })
usage_answers lang h d ws s k asks idle quiet (count, inr it) = absurd it.0

-- no memory for the words' job
pub helpless_answers : (lang : Language) (h : Handed) (d : Devices) (ws : List Watch) (s k : ℕ) → AsksForJob h.words → IsIdle d.folder d.input → IsUnwritten d.out →
    Delivered [] false ws Starved d.err s k → Answers lang h d s k
helpless_answers lang h d ws s k asks idle quiet (count, is, untold) =
    helpless (record { asks = asks; status_is = is; idle = idle; out = quiet; err = untold; count = count })
