use Rattle.std.proofs.Common.{◌≡◌, ◌<◌, ◌≤◌, ℕ, length, vec_capacity, ap, ◌∙◌, subst, arith}
use Rattle.ob_code.specs.Frames.{function_at}
use Rattle.ob_machine.proofs.machine.Machine.load.Goals as goal

pub joined-requires-clause-room : goal.joined-requires-clause-room
joined-requires-clause-room c =
    let most = c.most_params-room.result in
    let same : c.as_slice.result.now ≡ c.args.v.functions = c.as_slice.ensures ∙ ap (λ image. image.functions) c.image.ensures.value in
    let few : (f : ℕ) → f < length c.args.v.functions → (function_at c.args.v.functions f).params ≤ most = subst (λ fs. (f : ℕ) → f < length fs → (function_at fs f).params ≤ most) same c.most_params-room.ensures in
    let room : most ≤ vec_capacity c.in_ok-ports.ports.arguments = c.in_ok-ports.ensures.room in
    λ f is. let h = few f is in omega (arith, h, room)
