use Rattle.std.proofs.Common.{rules, ◌≡◌, Bool, arith, ap, sym, subst, ◌∙◌}
use Rattle.std.specs.Prelude.{not}
use Rattle.std.proofs.lemmas.Grind.{common_steps}
use Rattle.ob_tree.specs.ProgramView.{program_tree}
use Rattle.ob_prelude.specs.Completion.{wanted}
use Rattle.ob_prelude.proofs.Wanted.{print_u_wanted, other_wanted}
use Rattle.ob_prelude.proofs.completion.is_wanted.Goals as goal

pub returns-then-program_calls : goal.returns-then-program_calls
returns-then-program_calls c =
    let e = ap (wanted (program_tree c.args.p.now)) c.in-PrintU.is ∙ print_u_wanted (program_tree c.args.p.now) in
    subst (λ (b : Bool). c.program_calls.result ≡ b) (sym e) (first_of (search rules, grind (arith, common_steps)))

pub returns-else-program_calls : goal.returns-else-program_calls
returns-else-program_calls c =
    let e = ap (wanted (program_tree c.args.p.now)) c.in-PrintU.is ∙ print_u_wanted (program_tree c.args.p.now) in
    subst (λ (b : Bool). c.is_called.result ≡ b) (sym e) (first_of (search rules, grind (arith, common_steps)))

pub returns-else-not-program_defines : goal.returns-else-not-program_defines
returns-else-not-program_defines c =
    let e = ap (wanted (program_tree c.args.p.now)) c.in-PrintU.is ∙ print_u_wanted (program_tree c.args.p.now) in
    subst (λ (b : Bool). not c.program_defines.result ≡ b) (sym e) (first_of (search rules, grind (arith, common_steps)))

pub returns-in_default : goal.returns-in_default
returns-in_default c = c.is_called-in_default.ensures ∙ sym (other_wanted (program_tree c.args.p.now) c.args.function c.in_default.not-PrintU)
