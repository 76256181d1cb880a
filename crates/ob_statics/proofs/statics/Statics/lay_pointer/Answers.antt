use Rattle.std.proofs.Common.{◌≡◌, ◌<◌, arith, length, refl}
use Rattle.ob_code.specs.Layout.{static_base, static_blocks}
use Rattle.ob_code.specs.Rules.{pointer_at}
use Rattle.ob_statics.proofs.Rows.{has_places}
use Rattle.ob_statics.proofs.statics.Statics.lay_pointer.Goals as goal

pub overflow_add-place : goal.overflow_add-place
overflow_add-place c =
    let known : c.args.i < length c.self.inside.pointers = rw (← c.self.view_is) at c.requires.pointer in
    let from : c.base.result ≡ static_base c.self.inside.rows (pointer_at c.self.inside.pointers c.args.i).holder = rw (← c.self.view_is, c.as_slice.ensures) at c.base.ensures in
    let places = has_places c.self.inside.rows c.self.inside.pointers c.args.i c.base.result _ c.self.invariant.sound c.self.invariant.sound_pointers known from refl in
    rw c.as_slice.ensures (omega (arith, places.ends, places.few))

pub overflow_add-target : goal.overflow_add-target
overflow_add-target c =
    let known : c.args.i < length c.self.inside.pointers = rw (← c.self.view_is) at c.requires.pointer in
    let from : c.base.result ≡ static_base c.self.inside.rows (pointer_at c.self.inside.pointers c.args.i).holder = rw (← c.self.view_is, c.as_slice.ensures) at c.base.ensures in
    let to : c.base-2.result ≡ static_base c.self.inside.rows (pointer_at c.self.inside.pointers c.args.i).target = rw (← c.self.view_is, c.as_slice.ensures) at c.base-2.ensures in
    let places = has_places c.self.inside.rows c.self.inside.pointers c.args.i c.base.result c.base-2.result c.self.invariant.sound c.self.invariant.sound_pointers known from to in
    rw c.as_slice.ensures (omega (arith, places.lands, places.few))

pub put_pointer-requires-clause-inside : goal.put_pointer-requires-clause-inside
put_pointer-requires-clause-inside c =
    let known : c.args.i < length c.self.inside.pointers = rw (← c.self.view_is) at c.requires.pointer in
    let from : c.base.result ≡ static_base c.self.inside.rows (pointer_at c.self.inside.pointers c.args.i).holder = rw (← c.self.view_is, c.as_slice.ensures) at c.base.ensures in
    let to : c.base-2.result ≡ static_base c.self.inside.rows (pointer_at c.self.inside.pointers c.args.i).target = rw (← c.self.view_is, c.as_slice.ensures) at c.base-2.ensures in
    let places = has_places c.self.inside.rows c.self.inside.pointers c.args.i c.base.result c.base-2.result c.self.invariant.sound c.self.invariant.sound_pointers known from to in
    let all : c.args.flat.now.statics ≡ static_blocks c.self.inside.rows = rw (← c.self.view_is) at c.requires.statics in
    rw c.as_slice.ensures (record { begins = places.begins; ends = omega (arith, places.ends, all) })
