-- What a source came to.
use Rattle.std.proofs.Common.{◌≡◌, ℕ, ◌≤◌, List, [], ◌++◌, Some, refl, sym, ap, ◌∙◌, subst, arith}
use Rattle.std.specs.Prelude.{Option}
use Rattle.std.proofs.lemmas.List.{append-nil}
use Rattle.ob_base.specs.Devices.{Reading, Writing, IsUnread, IsUnwritten, IsWhole, IsCutShort}
use Rattle.ob_model.specs.Endings.{InputEnd, closed, failed}
use Rattle.ob_code.specs.declared.image.Image.{Image}
use Rattle.ob_machine.specs.Devices.{IsInput}
use Rattle.ob_tree.specs.declared.faults.SourceFault.{SourceFault}
use Rattle.ob_tree.specs.declared.faults.SourceFault.TheVariants as source
use Rattle.ob_first.specs.Sources.{IsCompiled, Refuses}
use Rattle.ob_first.specs.declared.refusal.Refusal.{Refusal}
use Rattle.ob_first.specs.declared.refusal.Refusal.TheVariants.{Fault, NotYet}
use Rattle.ob_watch.specs.Watching.{Watch}
use Rattle.ob_commands.specs.declared.answer.Answer.TheVariants as answer
use Rattle.ob_commands.specs.declared.came.Came.{Came}
use Rattle.ob_commands.specs.Answers.{Outcome}
use Rattle.ob_commands.specs.Parts.{Asked, RunsOn, RunsWith, faulty as has_fault, later, accepted}
use Rattle.ob_commands.specs.Run.{Run}
use Rattle.ob_commands.specs.Delivery.{CameTo}
use Rattle.ob_commands.proofs.Coming.{came_as, why}
use Rattle.ob_program.specs.Language.{language}
use Rattle.ob_program.specs.Refusals.{refused}

-- a source without bytes
abbrev pub nothing : Reading
nothing = record { left_before = Some []; left_now = Some []; faults_before = 0; faults_now = 0 }

no_bytes : (read : List ℕ) → ◌≡◌ {A = Option (List ℕ)} (Some []) (Some (read ++ [])) → read ≡ []
no_bytes read is = sym (append-nil read) ∙ (let e : [] ≡ read ++ [] = cc in sym e)

of_nothing : (a : Asked) (image : Image) (o : Outcome) (input : List ℕ) (input_end : InputEnd) → IsInput nothing input input_end → RunsWith a image input input_end o → RunsWith a image [] closed o
of_nothing a image o input closed it is =
    let read_is : it.read ≡ [] = no_bytes it.read it.was in
    let unread_is : it.unread ≡ [] = sym it.told in
    let input_is : input ≡ [] = it.input_is ∙ ap (λ r. r ++ it.unread) read_is ∙ unread_is in
    subst (λ i. RunsWith a image i closed o) input_is is
of_nothing a image o input failed it is = let rose = it.cause.1 in absurd (omega (arith, rose))

pub compiled_came : (a : Asked) (seen : List Watch) (text : List ℕ) (image : Image) (input : Reading) (c : Came) (w : Writing) → IsUnread input → IsCompiled text image → CameTo a seen (λ o. RunsOn a image nothing o) (IsUnread nothing) c w →
    CameTo a seen (λ o. Run language a text input o) (IsUnread input) c w
compiled_came a seen text image input c w quiet compiled it =
    came_as a seen (λ o. RunsOn a image nothing o) (λ o. Run language a text input o) (IsUnread nothing) (IsUnread input) c w
    (λ o run. accepted compiled.form compiled.is_form (quiet, subst (λ i. RunsWith a i [] closed o) compiled.image_is (of_nothing a image o run.input run.input_end run.is_input run.is)))
    (λ idle. quiet) it

refused_came : (a : Asked) (seen : List Watch) (text : List ℕ) (input : Reading) (r : Refusal) (w : Writing) → IsUnread input → IsUnwritten w → Refuses text r → CameTo a seen (λ o. Run language a text input o) (IsUnread input) (refused r) w
refused_came a seen text input NotYet w quiet unwritten it = why a seen _ answer.NotYet 0 w refl unwritten refl (later it quiet refl)
refused_came a seen text input (Fault (source.Lex kind line column)) w quiet unwritten it = why a seen _ _ 0 w refl unwritten refl (has_fault (source.Lex kind line column) it quiet refl)
refused_came a seen text input (Fault (source.Syntax kind line column)) w quiet unwritten it = why a seen _ _ 0 w refl unwritten refl (has_fault (source.Syntax kind line column) it quiet refl)
refused_came a seen text input (Fault (source.Typing kind line column)) w quiet unwritten it = absurd it
refused_came a seen text input (Fault source.Statics) w quiet unwritten it = absurd it
refused_came a seen text input (Fault source.Code) w quiet unwritten it = absurd it
refused_came a seen text input (Fault source.NoMemory) w quiet unwritten it = (quiet, unwritten)

pub refused_as : (a : Asked) (seen : List Watch) (text : List ℕ) (input : Reading) (r : Refusal) (c : Came) (w : Writing) → c ≡ refused r → IsUnread input → IsUnwritten w → Refuses text r → CameTo a seen (λ o. Run language a text input o) (IsUnread input) c w
refused_as a seen text input r c w is quiet unwritten it =
    subst (λ x. CameTo a seen (λ o. Run language a text input o) (IsUnread input) x w) (sym is) (refused_came a seen text input r w quiet unwritten it)
