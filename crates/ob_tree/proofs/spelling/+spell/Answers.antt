use Rattle.std.proofs.Common.{rules, ◌≡◌, ◌++◌, OnOk, ◌<◌, length, List, get_or, arith, subst, sym}
use Rattle.std.proofs.lemmas.Grind.{common_steps}
use Rattle.std.proofs.lemmas.List.{append_assoc}
use Rattle.std.proofs.lemmas.Result.{IfOk-equal}
use Rattle.ob_tree.specs.declared.tokens.TokenKind.{TokenKind}
use Rattle.ob_tree.specs.Spelling.{spell, spell_obj, spell_init, comma_before}
use Rattle.ob_tree.specs.ExpressionView.{expr_tree, obj_tree, init_tree}
use Rattle.ob_tree.proofs.Lists.{listed-turn}
use Rattle.ob_tree.proofs.Rows.{call-spelled, list-spelled, struct-spelled, type-spelled, member-spelled, bare-spelled, initial-spelled}
use Rattle.ob_tree.proofs.spelling.+spell.Goals as goal

pub put_arguments-loop-i-preserved : goal.put_arguments-loop-i-preserved
put_arguments-loop-i-preserved t c =
    let h : c.loop-i.i < length c.args.arguments.now = first_of (search rules, grind (arith, common_steps)) in
    let x : c.index-arguments-i.result ≡ get_or c.args.arguments.now c.loop-i.i c.index-arguments-i.result = first_of (search rules, grind (arith, common_steps)) in
    let a : c.put_expr.new.out.items ≡ (c.loop-i.out.items ++ comma_before c.loop-i.i) ++ spell (expr_tree c.index-arguments-i.result) = first_of (search rules, grind (arith, common_steps)) in
    listed-turn (λ e. spell (expr_tree e)) c.args.out.now.items c.loop-i.out.items c.put_expr.new.out.items c.args.arguments.now c.loop-i.i c.index-arguments-i.result c.loop-i.invariant h x a

pub put_expr-returns-in_ok-put_arguments-in-Call :
    goal.put_expr-returns-in_ok-put_arguments-in-Call
put_expr-returns-in_ok-put_arguments-in-Call t c =
    let e = call-spelled c.args.e.now c.in-Call.name c.in-Call.arguments c.in-Call.is in
    let P = λ (u : List TokenKind). OnOk c.put_sign-in-Call.result (c.put_sign-in-Call.new.out.items ≡ c.args.out.now.items ++ u) in
    subst P (sym e) (first_of (search rules, grind (arith, common_steps), search (rules, IfOk-equal, append_assoc)))

pub put_init-returns-in_ok-put_last_comma-in-List :
    goal.put_init-returns-in_ok-put_last_comma-in-List
put_init-returns-in_ok-put_last_comma-in-List t c =
    let e = list-spelled c.args.init.now c.in-List.first c.in-List.items c.in-List.comma c.in-List.is in
    let P = λ (u : List TokenKind). OnOk c.put_sign-in-List.result (c.put_sign-in-List.new.out.items ≡ c.args.out.now.items ++ u) in
    subst P (sym e) (first_of (search rules, grind (arith, common_steps), search (rules, IfOk-equal, append_assoc)))

pub put_inits-loop-i-preserved : goal.put_inits-loop-i-preserved
put_inits-loop-i-preserved t c =
    let h : c.loop-i.i < length c.args.items.now = first_of (search rules, grind (arith, common_steps)) in
    let x : c.index-items-i.result ≡ get_or c.args.items.now c.loop-i.i c.index-items-i.result = first_of (search rules, grind (arith, common_steps)) in
    let a : c.put_init.new.out.items ≡ (c.loop-i.out.items ++ comma_before c.loop-i.i) ++ spell_init (init_tree c.index-items-i.result) = first_of (search rules, grind (arith, common_steps)) in
    listed-turn (λ e. spell_init (init_tree e)) c.args.out.now.items c.loop-i.out.items c.put_init.new.out.items c.args.items.now c.loop-i.i c.index-items-i.result c.loop-i.invariant h x a

pub put_member-returns : goal.put_member-returns
put_member-returns t c =
    let e = member-spelled c.args.member.now in
    let P = λ (u : List TokenKind). OnOk c.put_sign.result (c.put_sign.new.out.items ≡ c.args.out.now.items ++ u) in
    subst P (sym e) (first_of (search rules, grind (arith, common_steps), search (rules, IfOk-equal, append_assoc)))

pub put_obj-returns-in-None : goal.put_obj-returns-in-None
put_obj-returns-in-None t c =
    let e = bare-spelled c.args.name.now c.in-None.is in
    let P = λ (u : List TokenKind). c.put_dims.new.out.items ≡ c.args.out.now.items ++ u in
    subst P (sym e) (first_of (search rules, grind (arith, common_steps), search (rules, IfOk-equal, append_assoc)))

pub put_obj-returns-in_ok-put_sign-in-Some : goal.put_obj-returns-in_ok-put_sign-in-Some
put_obj-returns-in_ok-put_sign-in-Some t c =
    let e = initial-spelled c.args.name.now c.in-Some.init c.in-Some.is in
    let P = λ (u : List TokenKind). OnOk c.put_init.result (c.put_init.new.out.items ≡ c.args.out.now.items ++ u) in
    subst P (sym e) (first_of (search rules, grind (arith, common_steps), search (rules, IfOk-equal, append_assoc)))

pub put_objs-loop-i-preserved : goal.put_objs-loop-i-preserved
put_objs-loop-i-preserved t c =
    let h : c.loop-i.i < length c.args.names.now = first_of (search rules, grind (arith, common_steps)) in
    let x : c.index-names-i.result ≡ get_or c.args.names.now c.loop-i.i c.index-names-i.result = first_of (search rules, grind (arith, common_steps)) in
    let a : c.put_obj.new.out.items ≡ (c.loop-i.out.items ++ comma_before c.loop-i.i) ++ spell_obj (obj_tree c.index-names-i.result) = first_of (search rules, grind (arith, common_steps)) in
    listed-turn (λ e. spell_obj (obj_tree e)) c.args.out.now.items c.loop-i.out.items c.put_obj.new.out.items c.args.names.now c.loop-i.i c.index-names-i.result c.loop-i.invariant h x a

pub put_spec-returns-in_ok-put_members-in-Struct :
    goal.put_spec-returns-in_ok-put_members-in-Struct
put_spec-returns-in_ok-put_members-in-Struct t c =
    let e = struct-spelled c.args.spec.now c.in-Struct.tag c.in-Struct.members c.in-Struct.is in
    let P = λ (u : List TokenKind). OnOk c.put_sign-in-Struct.result (c.put_sign-in-Struct.new.out.items ≡ c.args.out.now.items ++ u) in
    subst P (sym e) (first_of (search rules, grind (arith, common_steps), search (rules, IfOk-equal, append_assoc)))

pub put_type-returns : goal.put_type-returns
put_type-returns t c =
    let e = type-spelled c.args.name.now in
    let P = λ (u : List TokenKind). OnOk c.put_dims.result (c.put_dims.new.out.items ≡ c.args.out.now.items ++ u) in
    subst P (sym e) (first_of (search rules, grind (arith, common_steps), search (rules, IfOk-equal, append_assoc)))
