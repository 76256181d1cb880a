use Rattle.std.proofs.Common.{◌≡◌, ◌*◌, ◌<◌, ◌≤◌, length, arith, refl, sym, subst}
use Rattle.ob_words.specs.Words.{block}
use Rattle.ob_code.specs.Frames.{top_function}
use Rattle.ob_code.specs.Rules.{local_at}
use Rattle.ob_space.specs.Loaded.{Loaded}
use Rattle.ob_space.proofs.Keeping.{kept_memory}
use Rattle.ob_space.proofs.Showing.{local_multiple, locals_lie, locals_meet}
use Rattle.ob_space.proofs.space.Space.wipe.Goals as goal

pub zero-requires-clause-address : goal.zero-requires-clause-address
zero-requires-clause-address c =
    let known : c.args.row < length (top_function c.self.inside.frames.functions c.self.inside.frames.calls).locals = subst (λ (s : Loaded). c.args.row < length (top_function s.functions s.space.calls).locals) (sym c.self.view_is) c.requires in
    omega (arith, c.local_base-base.ensures, local_multiple c.self.inside.frames c.self.inside.frames.calls c.args.row c.law_framed.ensures known)

pub zero-requires-clause-inside : goal.zero-requires-clause-inside
zero-requires-clause-inside c =
    let known : c.args.row < length (top_function c.self.inside.frames.functions c.self.inside.frames.calls).locals = subst (λ (s : Loaded). c.args.row < length (top_function s.functions s.space.calls).locals) (sym c.self.view_is) c.requires in
    let size : 8 * c.div_ceil.result ≤ block c.local_row-size.result.size = omega (arith, c.div_ceil.ensures) in
    let same : block c.local_row-size.result.size ≡ block (local_at (top_function c.self.inside.frames.functions c.self.inside.frames.calls) c.args.row).size = rw c.local_row-size.ensures refl in
    locals_lie c.law_objects.ensures.locals_lie c.self.inside.frames c.self.inside.frames.calls c.args.row c.local_base-base.result (8 * c.div_ceil.result) c.law_framed.ensures known
    (omega (arith, c.local_base-base.ensures)) (omega (arith, c.local_base-base.ensures, size, same))

pub zero-requires-clause-apart : goal.zero-requires-clause-apart
zero-requires-clause-apart c =
    let known : c.args.row < length (top_function c.self.inside.frames.functions c.self.inside.frames.calls).locals = subst (λ (s : Loaded). c.args.row < length (top_function s.functions s.space.calls).locals) (sym c.self.view_is) c.requires in
    let size : 8 * c.div_ceil.result ≤ block c.local_row-size.result.size = omega (arith, c.div_ceil.ensures) in
    let same : block c.local_row-size.result.size ≡ block (local_at (top_function c.self.inside.frames.functions c.self.inside.frames.calls) c.args.row).size = rw c.local_row-size.ensures refl in
    locals_meet c.law_objects.ensures.locals_meet c.self.inside.frames c.self.inside.frames.calls c.args.row c.local_base-base.result (8 * c.div_ceil.result) c.law_framed.ensures known
    (omega (arith, c.local_base-base.ensures)) (omega (arith, c.local_base-base.ensures, size, same))

pub invariant_of-self : goal.invariant_of-self
invariant_of-self c =
    rw c.zero.ensures.memory (kept_memory c.self.inside.frames _ c.self.inside.living c.self.inside.settings refl refl c.self.invariant)
