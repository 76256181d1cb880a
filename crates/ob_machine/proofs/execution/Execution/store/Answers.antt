use Rattle.std.proofs.Common.{Err, of_z, to_z, w64, refl, ap, ◌∙◌}
use Rattle.std.proofs.lemmas.Int.{to_z-of_z}
use Rattle.ob_words.specs.Words.{number}
use Rattle.ob_words.specs.declared.types.IntType.TheVariants.{Long}
use Rattle.ob_machine.proofs.Heard.{store_far, store_heard, store_lacks}
use Rattle.ob_machine.proofs.execution.Execution.store.Goals as goal

pub returns-in-Ok-clause-heard : goal.returns-in-Ok-clause-heard
returns-in-Ok-clause-heard g c =
    let e = c.args.self.now in
    let kept = to_z-of_z w64 c.signed-displacement.result (record { sfits = c.signed-displacement.type_inv }) in
    λ cycle place. store_heard e _ _ c.args.kind c.args.line c.args.b c.args.c c.word-w.result (to_z w64 (of_z w64 c.signed-displacement.result)) c.word-w.ensures
    (kept ∙ c.signed-displacement.ensures ∙ ap (number Long) c.word.ensures)
    c.store.new.self c.args.a c.word-value.result c.word-value.ensures (λ far. let no = c.in-Ok.ensures.far.1 far in cc) refl refl c.store.ensures.told c.in-Ok.ensures.space

pub returns-in-Err-Far-clause-heard : goal.returns-in-Err-Far-clause-heard
returns-in-Err-Far-clause-heard g c =
    let e = c.args.self.now in
    let kept = to_z-of_z w64 c.signed-displacement.result (record { sfits = c.signed-displacement.type_inv }) in
    λ cycle place. store_far e _ _ c.args.kind c.args.line c.args.b c.args.c c.word-w.result (to_z w64 (of_z w64 c.signed-displacement.result)) c.word-w.ensures
    (kept ∙ c.signed-displacement.ensures ∙ ap (number Long) c.word.ensures)
    c.store.new.self c.args.a (c.in-Err-Far.ensures.far.0 (ap Err c.in-Err-Far.field-0-is)) refl refl c.store.ensures.told c.in-Err-Far.ensures.unchanged

pub returns-in-Err-NoMemory-clause-heard : goal.returns-in-Err-NoMemory-clause-heard
returns-in-Err-NoMemory-clause-heard g c =
    let e = c.args.self.now in
    let kept = to_z-of_z w64 c.signed-displacement.result (record { sfits = c.signed-displacement.type_inv }) in
    λ cycle place. store_lacks e _ _ c.args.kind c.args.line c.args.b c.args.c c.word-w.result (to_z w64 (of_z w64 c.signed-displacement.result)) c.word-w.ensures
    (kept ∙ c.signed-displacement.ensures ∙ ap (number Long) c.word.ensures)
    _ c.args.a c.word-value.result c.word-value.ensures (c.in-Err-NoMemory.ensures.no_memory (ap Err c.in-Err-NoMemory.field-0-is)) refl c.store.ensures.told refl
