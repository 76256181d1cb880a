-- The text of a report while it grows, by an event and by a watcher.
use Rattle.std.proofs.Common.{◌≡◌, ℕ, ◌+◌, List, ◌++◌, drop, get_or, length, refl, ◌<◌, Some, None, slice_get, map, option_map, ap, sym, ◌∙◌, append-nil, append_assoc}
use Rattle.std.proofs.lemmas.Option.{slice_get-map, slice_get_read}
use Rattle.ob_model.specs.declared.strays.StrayEvent.{StrayEvent}
use Rattle.ob_report.specs.Reports.{Account, event_line, event_lines, section, sections, watcher_line}
use Rattle.ob_report.proofs.Pieces.{next, ended, moved}

-- behind the last event that is kept, nothing is due
pub last_event : (begin text : List ℕ) (all : List StrayEvent) (i : ℕ) → text ++ event_lines (drop i all) ≡ begin ++ event_lines all → slice_get all i ≡ None → text ≡ begin ++ event_lines all
last_event begin text all i before none = sym (append-nil text) ∙ ap (λ x. text ++ event_lines x) (sym (ended all i none)) ∙ before

pub next_event : (begin text longer : List ℕ) (all : List StrayEvent) (i : ℕ) (e : StrayEvent) → text ++ event_lines (drop i all) ≡ begin ++ event_lines all → slice_get all i ≡ Some e → longer ≡ text ++ event_line e → longer ++ event_lines (drop (i + 1) all) ≡ begin ++ event_lines all
next_event begin text longer all i e before here grown =
    moved text longer (event_line e) (event_lines (drop i all)) (event_lines (drop (i + 1) all)) (begin ++ event_lines all) before (ap event_lines (next all i e here)) grown

-- a watcher's section is its line, and those of its events
pub one_section : (begin text longer : List ℕ) (number count total : ℕ) (kept : List StrayEvent) → text ≡ begin ++ watcher_line number count → count ≡ total → longer ≡ text ++ event_lines kept → longer ≡ begin ++ section number (record { total = total; kept = kept })
one_section begin text longer number count total kept first same then =
    then ∙ ap (λ x. x ++ event_lines kept) (first ∙ ap (λ n. begin ++ watcher_line number n) same) ∙ append_assoc begin (watcher_line number total) (event_lines kept)

-- one more watcher's section
pub next_section : (text longer whole : List ℕ) (all : List Account) (i : ℕ) (a : Account) → text ++ sections i (drop i all) ≡ whole → slice_get all i ≡ Some a → longer ≡ text ++ section i a → longer ++ sections (i + 1) (drop (i + 1) all) ≡ whole
next_section text longer whole all i a before here grown =
    moved text longer (section i a) (sections i (drop i all)) (sections (i + 1) (drop (i + 1) all)) whole before (ap (λ x. sections i x) (next all i a here)) grown

pub next_watcher : {W : Type 0} (account : W → Account) (text longer whole : List ℕ) (all shown : List W) (i : ℕ) (w : W) → text ++ sections i (drop i (map account all)) ≡ whole → shown ≡ all → i < length shown → w ≡ get_or shown i w → longer ≡ text ++ section i (account w) → longer ++ sections (i + 1) (drop (i + 1) (map account all)) ≡ whole
next_watcher account text longer whole all shown i w before same within here grown =
    next_section text longer whole (map account all) i (account w) before
    (slice_get-map account all i ∙ ap (λ o. option_map account o) (ap (λ xs. slice_get xs i) (sym same) ∙ slice_get_read shown (length shown) i w refl within here))
    grown
