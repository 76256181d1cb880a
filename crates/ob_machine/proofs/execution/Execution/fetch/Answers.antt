use Rattle.std.proofs.Common.{Some, length, slice_index_or, sym, ap, ◌∙◌, arith}
use Rattle.ob_code.specs.declared.instructions.Instr.TheVariants.{Tick}
use Rattle.ob_machine.proofs.Reached.{innermost_in_code, instruction_there, sound_there}
use Rattle.ob_machine.proofs.execution.Execution.fetch.Goals as goal

pub offset_bounds-as_slice-self : goal.offset_bounds-as_slice-self
offset_bounds-as_slice-self c =
    let within = innermost_in_code c.args.image.now c.args.self.now.space.space.calls c.args.self.now.counter c.requires.verified c.requires.ready.placed.innermost in
    omega (arith, within, ap length c.as_slice.ensures, c.requires.verified.code.most)

pub bounds-as_slice-self : goal.bounds-as_slice-self
bounds-as_slice-self c =
    let within = innermost_in_code c.args.image.now c.args.self.now.space.space.calls c.args.self.now.counter c.requires.verified c.requires.ready.placed.innermost in
    omega (arith, within, ap length c.as_slice.ensures)

pub returns-clause-is : goal.returns-clause-is
returns-clause-is c =
    let image = c.args.image.now in
    let at = c.args.self.now.counter in
    instruction_there image c.args.self.now.space.space.calls at c.requires.verified c.requires.ready.placed.innermost
    ∙ ap (λ code. Some (slice_index_or code at Tick)) (sym c.as_slice.ensures)

pub returns-clause-operands : goal.returns-clause-operands
returns-clause-operands c =
    sound_there c.args.image.now c.args.self.now.space.space.calls c.args.self.now.counter _ c.requires.verified c.requires.ready.placed.innermost (returns-clause-is c)

pub returns-clause-counter : goal.returns-clause-counter
returns-clause-counter c =
    let within = innermost_in_code c.args.image.now c.args.self.now.space.space.calls c.args.self.now.counter c.requires.verified c.requires.ready.placed.innermost in
    omega (arith, within, c.requires.verified.code.most)
