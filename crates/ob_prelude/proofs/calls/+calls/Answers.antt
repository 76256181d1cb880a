use Rattle.std.proofs.Common.{rules, ◌≡◌, Bool, arith, subst, sym}
use Rattle.std.proofs.lemmas.Grind.{common_steps}
use Rattle.ob_prelude.proofs.CallRows.{call-called, list-called, member-called, bare-called, initial-called, struct-called, type-called}
use Rattle.ob_prelude.proofs.calls.+calls.Goals as goal

pub calls-returns-else-eq : goal.calls-returns-else-eq
calls-returns-else-eq t c =
    let e = call-called c.args.name.now c.args.e.now c.in-Call.called c.in-Call.arguments c.in-Call.is in
    subst (λ (b : Bool). c.arguments_call.result ≡ b) (sym e) (first_of (search rules, grind (arith, common_steps)))

pub init_calls-returns-in-List : goal.init_calls-returns-in-List
init_calls-returns-in-List t c =
    let e = list-called c.args.name.now c.args.init.now c.in-List.first c.in-List.items c.in-List.comma c.in-List.is in
    subst (λ (b : Bool). c.inits_call.result ≡ b) (sym e) (first_of (search rules, grind (arith, common_steps)))

pub member_calls-returns-else-spec_calls : goal.member_calls-returns-else-spec_calls
member_calls-returns-else-spec_calls t c =
    let e = member-called c.args.name.now c.args.member.now in
    subst (λ (b : Bool). c.objs_call.result ≡ b) (sym e) (first_of (search rules, grind (arith, common_steps)))

pub obj_calls-returns-in-None : goal.obj_calls-returns-in-None
obj_calls-returns-in-None t c =
    let e = bare-called c.args.name.now c.args.object.now c.in-None.is in
    subst (λ (b : Bool). c.dims_call-in_dims.result ≡ b) (sym e) (first_of (search rules, grind (arith, common_steps)))

pub obj_calls-returns-then-in_dims : goal.obj_calls-returns-then-in_dims
obj_calls-returns-then-in_dims t c =
    let e = initial-called c.args.name.now c.args.object.now c.in-Some.init c.in-Some.is in
    subst (λ (b : Bool). c.dims_call-in_dims.result ≡ b) (sym e) (first_of (search rules, grind (arith, common_steps)))

pub obj_calls-returns-else-in_dims : goal.obj_calls-returns-else-in_dims
obj_calls-returns-else-in_dims t c =
    let e = initial-called c.args.name.now c.args.object.now c.in-Some.init c.in-Some.is in
    subst (λ (b : Bool). c.init_calls.result ≡ b) (sym e) (first_of (search rules, grind (arith, common_steps)))

pub spec_calls-returns-in-Struct : goal.spec_calls-returns-in-Struct
spec_calls-returns-in-Struct t c =
    let e = struct-called c.args.name.now c.args.spec.now c.in-Struct.tag c.in-Struct.members c.in-Struct.is in
    subst (λ (b : Bool). c.members_call.result ≡ b) (sym e) (first_of (search rules, grind (arith, common_steps)))

pub type_calls-returns-else-spec_calls : goal.type_calls-returns-else-spec_calls
type_calls-returns-else-spec_calls t c =
    let e = type-called c.args.name.now c.args.ty.now in
    subst (λ (b : Bool). c.dims_call.result ≡ b) (sym e) (first_of (search rules, grind (arith, common_steps)))
