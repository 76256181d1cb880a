use Rattle.std.proofs.Common.{rules, ◌≡◌, ◌∙◌, ap, arith, subst, sym}
use Rattle.std.proofs.lemmas.Grind.{common_steps}
use Rattle.ob_tree.specs.TypeView.{plain_type}
use Rattle.ob_typed.specs.Expressions.{check, check_spec}
use Rattle.ob_conversions.specs.CheckedView.{checked, mark}
use Rattle.ob_context.specs.KnownView.{env_of, known_of, stand_of}
use Rattle.ob_context.specs.Walks.{Walks}
use Rattle.ob_expressions.proofs.Rows.{call_tree_at, struct_tree}
use Rattle.ob_expressions.proofs.Steps.{dims_turn, gives_walks, line_walk, member_fault, member_on, type_walk}
use Rattle.ob_expressions.proofs.+check.Goals as goal

pub expressions::check-returns-in-Call-clause-walks :
    goal.expressions::check-returns-in-Call-clause-walks
expressions::check-returns-in-Call-clause-walks t c =
    let e = call_tree_at (mark c.mark_of-m.result) c.args.e.now c.in-Call.name c.in-Call.given c.mark_of-m.ensures c.in-Call.is in
    subst (λ x. Walks checked c.check_call.result (known_of c.check_call.new.known) (check (env_of c.args.env.now (stand_of c.args.known.now)) x (known_of c.args.known.now))) (sym e) c.check_call.ensures.walks

pub specifiers::check_line-returns-clause-walks : goal.specifiers::check_line-returns-clause-walks
specifiers::check_line-returns-clause-walks t c =
    let e = line_walk (env_of c.args.env.now (stand_of c.args.known.now)) c.args.list.now c.args.line.now (known_of c.args.known.now) (known_of c.check_spec.new.known) (plain_type c.in_ok-t.t) (first_of (search rules, grind (arith, common_steps))) in
    first_of (search rules, grind (arith, common_steps))

pub specifiers::check_member-returns-in_err-lengths-clause-walks :
    goal.specifiers::check_member-returns-in_err-lengths-clause-walks
specifiers::check_member-returns-in_err-lengths-clause-walks t c =
    let e = member_fault (env_of c.args.env.now (stand_of c.args.known.now)) (plain_type c.args.t.now) c.args.list.now c.args.o.now (known_of c.args.known.now) in
    first_of (search rules, grind (arith, common_steps))

pub specifiers::check_member-returns-clause-walks :
    goal.specifiers::check_member-returns-clause-walks
specifiers::check_member-returns-clause-walks t c =
    gives_walks _ c.add_member.result _ _ _ c.add_member.ensures
    (member_on (env_of c.args.env.now (stand_of c.args.known.now)) (plain_type c.args.t.now) (plain_type c.in_ok-t-2.t) c.args.list.now c.args.o.now (known_of c.args.known.now) (known_of c.check_lengths.new.known) c.in_ok-lengths.lengths.items
    (first_of (search rules, grind (arith, common_steps))) (first_of (search rules, grind (arith, common_steps))))

pub specifiers::check_spec-returns-in-Struct-clause-walks :
    goal.specifiers::check_spec-returns-in-Struct-clause-walks
specifiers::check_spec-returns-in-Struct-clause-walks t c =
    let e = struct_tree c.args.s.now c.in-Struct.tag c.in-Struct.members c.in-Struct.is in
    subst (λ x. Walks plain_type c.check_struct.result (known_of c.check_struct.new.known) (check_spec (env_of c.args.env.now (stand_of c.args.known.now)) x (known_of c.args.known.now))) (sym e) (first_of (search rules, grind (arith, common_steps)))

pub specifiers::check_type-returns-in_err-lengths-clause-walks :
    goal.specifiers::check_type-returns-in_err-lengths-clause-walks
specifiers::check_type-returns-in_err-lengths-clause-walks t c =
    let e = type_walk (env_of c.args.env.now (stand_of c.args.known.now)) c.args.t.now (known_of c.args.known.now) in
    first_of (search rules, grind (arith, common_steps))

pub specifiers::check_type-returns-clause-walks : goal.specifiers::check_type-returns-clause-walks
specifiers::check_type-returns-clause-walks t c =
    let e = type_walk (env_of c.args.env.now (stand_of c.args.known.now)) c.args.t.now (known_of c.args.known.now) in
    first_of (search rules, grind (arith, common_steps))
