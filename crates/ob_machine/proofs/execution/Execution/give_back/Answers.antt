use Rattle.std.proofs.Common.{◌≡◌, ◌-◌, length, slice_get, w64, sym, ap, ◌∙◌, subst, arith}
use Rattle.std.proofs.lemmas.Int.{to_z-of_z}
use Rattle.ob_model.specs.declared.endings.Ending.TheVariants.{Ended}
use Rattle.ob_code.specs.Machine.{jump, result_word, set_word}
use Rattle.ob_code.specs.Rules.{IsWritten}
use Rattle.ob_code.specs.State.{stops}
use Rattle.ob_code.specs.Frames.{top_function}
use Rattle.ob_space.specs.Loaded.{left_top}
use Rattle.ob_machine.specs.Executions.{state_of}
use Rattle.ob_machine.proofs.Returns.{caller_words, left_is, returned_last, returned_on, returns_to}
use Rattle.ob_machine.proofs.execution.Execution.give_back.Goals as goal

pub returns-then-link-code-clause-state : goal.returns-then-link-code-clause-state
returns-then-link-code-clause-state c =
    let e = c.args.self.now in
    let image = c.args.image.now in
    let ended = sym (to_z-of_z w64 c.int_of-then-link-code.result (record { sfits = c.int_of-then-link-code.type_inv }) ∙ c.int_of-then-link-code.ensures) in
    λ r. returned_last image e.space.space.calls c.in-Some.link c.args.w (state_of e r) (sym c.leave.ensures.link ∙ c.in-Some.is) c.requires.linked (c.if-link-code.true ∙ ap length c.as_slice-code.ensures)
    ∙ (λ i. stops (Ended (ended i)) (left_is image e c.leave.new.self r c.requires.rows c.leave.ensures.memory i))

pub named_word-a-requires : goal.named_word-a-requires
named_word-a-requires c =
    let e = c.args.self.now in
    let r = returns_to c.args.image.now e.space.space.calls c.in-Some.link e.space.space (sym c.leave.ensures.link ∙ c.in-Some.is) c.requires.linked (λ last. c.if-link-code.false (last ∙ ap length (sym c.as_slice-code.ensures))) in
    omega (arith, r.within, ap length c.as_slice-code.ensures, c.requires.code)

pub set_word-requires-clause-written : goal.set_word-requires-clause-written
set_word-requires-clause-written c =
    let e = c.args.self.now in
    let image = c.args.image.now in
    let link = c.in-Some.link in
    let r = returns_to image e.space.space.calls link e.space.space (sym c.leave.ensures.link ∙ c.in-Some.is) c.requires.linked (λ last. c.if-link-code.false (last ∙ ap length (sym c.as_slice-code.ensures))) in
    let named : c.named_word-a.result ≡ result_word (slice_get image.code (link - 1)) = c.named_word-a.ensures ∙ ap (λ code. result_word (slice_get code (link - 1))) c.as_slice-code.ensures in
    caller_words image e c.leave.new.self c.named_word-a.result c.requires.rows c.leave.ensures.memory
    (subst (IsWritten (top_function image.functions (left_top image.functions e.space.space.calls e.space.space).calls).words) (sym named) r.written)

pub set_word-requires-clause-counter : goal.set_word-requires-clause-counter
set_word-requires-clause-counter c =
    let e = c.args.self.now in
    let r = returns_to c.args.image.now e.space.space.calls c.in-Some.link e.space.space (sym c.leave.ensures.link ∙ c.in-Some.is) c.requires.linked (λ last. c.if-link-code.false (last ∙ ap length (sym c.as_slice-code.ensures))) in
    omega (arith, r.within, c.requires.code)

pub returns-clause-state : goal.returns-clause-state
returns-clause-state c =
    let e = c.args.self.now in
    let image = c.args.image.now in
    let link = c.in-Some.link in
    let on = λ (last : link ≡ length image.code). c.if-link-code.false (last ∙ ap length (sym c.as_slice-code.ensures)) in
    let named : c.named_word-a.result ≡ result_word (slice_get image.code (link - 1)) = c.named_word-a.ensures ∙ ap (λ code. result_word (slice_get code (link - 1))) c.as_slice-code.ensures in
    λ r. returned_on image e.space.space.calls link c.args.w (state_of e r) (sym c.leave.ensures.link ∙ c.in-Some.is) c.requires.linked on
    ∙ (λ i. set_word (jump (link - 1) (left_is image e c.leave.new.self r c.requires.rows c.leave.ensures.memory i)) (sym named i) c.args.w)
    ∙ c.set_word.ensures.state r
