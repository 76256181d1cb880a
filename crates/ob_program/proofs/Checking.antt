-- What a source that is checked came to.
use Rattle.std.proofs.Common.{◌≡◌, ℕ, List, refl, sym, subst}
use Rattle.ob_base.specs.Devices.{Reading, Writing, IsUnread, IsUnwritten}
use Rattle.ob_typed.specs.TypedTree.{TypedProgram}
use Rattle.ob_tree.specs.declared.faults.SourceFault.{SourceFault}
use Rattle.ob_tree.specs.declared.faults.SourceFault.TheVariants as source
use Rattle.ob_sources.specs.Stages.{MayStop}
use Rattle.ob_compile.specs.Accepted.{Accepted, ComesTo}
use Rattle.ob_watch.specs.Watching.{Watch}
use Rattle.ob_commands.specs.declared.came.Came.{Came}
use Rattle.ob_commands.specs.Parts.{Asked, faulty as has_fault, accepted}
use Rattle.ob_commands.specs.Check.{Check, ok_line}
use Rattle.ob_commands.specs.Delivery.{CameTo, IsPut}
use Rattle.ob_commands.proofs.Coming.{put_came, why}
use Rattle.ob_program.specs.Language.{whole_sources}
use Rattle.ob_program.specs.Refusals.{faulty}

pub ok_came : (a : Asked) (seen : List Watch) (text bytes : List ℕ) (input : Reading) (c : Came) (w : Writing) → IsUnread input → (t : TypedProgram) × Accepted text t → bytes ≡ ok_line → IsPut bytes c w →
    CameTo a seen (λ o. Check whole_sources a text input o) (IsUnread input) c w
ok_came a seen text bytes input c w quiet (t, typed) is put =
    put_came a seen (λ o. Check whole_sources a text input o) (IsUnread input) ok_line c w (accepted t typed (quiet, refl)) (subst (λ b. IsPut b c w) is put)

fault_came : (a : Asked) (seen : List Watch) (text : List ℕ) (input : Reading) (f : SourceFault) (w : Writing) → IsUnread input → IsUnwritten w → MayStop (ComesTo text) f →
    CameTo a seen (λ o. Check whole_sources a text input o) (IsUnread input) (faulty f) w
fault_came a seen text input (source.Lex kind line column) w quiet unwritten it = why a seen _ _ 0 w refl unwritten refl (has_fault (source.Lex kind line column) it quiet refl)
fault_came a seen text input (source.Syntax kind line column) w quiet unwritten it = why a seen _ _ 0 w refl unwritten refl (has_fault (source.Syntax kind line column) it quiet refl)
fault_came a seen text input (source.Typing kind line column) w quiet unwritten it = why a seen _ _ 0 w refl unwritten refl (has_fault (source.Typing kind line column) it quiet refl)
fault_came a seen text input source.Statics w quiet unwritten it = why a seen _ _ 0 w refl unwritten refl (has_fault source.Statics it quiet refl)
fault_came a seen text input source.Code w quiet unwritten it = why a seen _ _ 0 w refl unwritten refl (has_fault source.Code it quiet refl)
fault_came a seen text input source.NoMemory w quiet unwritten it = (quiet, unwritten)

pub fault_came_as : (a : Asked) (seen : List Watch) (text : List ℕ) (input : Reading) (f : SourceFault) (c : Came) (w : Writing) → c ≡ faulty f → IsUnread input → IsUnwritten w → MayStop (ComesTo text) f →
    CameTo a seen (λ o. Check whole_sources a text input o) (IsUnread input) c w
fault_came_as a seen text input f c w is quiet unwritten it =
    subst (λ x. CameTo a seen (λ o. Check whole_sources a text input o) (IsUnread input) x w) (sym is) (fault_came a seen text input f w quiet unwritten it)
