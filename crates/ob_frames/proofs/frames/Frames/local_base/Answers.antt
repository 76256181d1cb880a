use Rattle.std.proofs.Common.{◌≡◌, ◌<◌, ap, arith, length, subst, sym}
use Rattle.ob_code.specs.declared.image.LocalRow.{LocalRow}
use Rattle.ob_code.specs.Frames.{top_function}
use Rattle.ob_code.specs.Rules.{local_at}
use Rattle.ob_frames.specs.Calls.{calls_in}
use Rattle.ob_frames.specs.Framed.{Framed, top_local, top_locals}
use Rattle.ob_frames.proofs.Locals.{local_small}
use Rattle.ob_frames.proofs.frames.Frames.local_base.Goals as goal

pub overflow_add-result : goal.overflow_add-result
overflow_add-result c =
    let known : c.args.row < length (top_function c.self.inside.functions (calls_in c.self.inside.flat c.self.inside.calls.items)).locals =
    subst (λ (f : Framed). c.args.row < length (top_locals f)) (sym c.self.view_is) c.requires in
    let local : c.local_row.result ≡ local_at (top_function c.self.inside.functions (calls_in c.self.inside.flat c.self.inside.calls.items)) c.args.row =
    subst (λ (f : Framed). c.local_row.result ≡ top_local f c.args.row) (sym c.self.view_is) c.local_row.ensures in
    let small = local_small c.self.inside.functions (calls_in c.self.inside.flat c.self.inside.calls.items) c.args.row c.self.invariant.kept.framed.rows c.self.invariant.kept.framed.stacked c.self.invariant.kept.framed.room known in
    omega (arith, c.self.invariant.place, ap (λ (l : LocalRow). l.place) local, small)
