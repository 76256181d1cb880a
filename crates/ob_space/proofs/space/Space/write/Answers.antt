use Rattle.std.proofs.Common.{◌≡◌, ap, sym, subst}
use Rattle.ob_flat.specs.Memory.{IsIn}
use Rattle.ob_code.specs.Accesses.{write_memory}
use Rattle.ob_frames.specs.Framed.{Framed}
use Rattle.ob_space.specs.Granules.{granule_start}
use Rattle.ob_space.specs.Loaded.{Loaded}
use Rattle.ob_space.proofs.Writing.{MemoryLaws, written_granule}
use Rattle.ob_space.proofs.space.Space.write.Goals as goal

pub returns-clause-granule : goal.returns-clause-granule
returns-clause-granule c =
    let laws : MemoryLaws = record { field_read = c.law_fields.ensures.read; field_others = c.law_fields.ensures.others; mark_read = c.law_marks.ensures.read; mark_others = c.law_marks.ensures.others; zeros_read = c.law_zeros.ensures.read; zeros_unmarked = c.law_zeros.ensures.unmarked; zeros_others = c.law_zeros.ensures.others; zeros_marks = c.law_zeros.ensures.other_marks; layout = c.law_layout.ensures } in
    let memory : c.write.new.self.memory ≡ write_memory c.args.kind c.self.inside.frames.memory c.args.address c.args.value = ap (λ (x : Framed). x.memory) c.write.ensures.memory in
    let granule : IsIn c.self.inside.frames.memory (granule_start c.args.address) 8 =
    subst (λ (s : Loaded). IsIn s.space.memory (granule_start c.args.address) 8) (sym c.self.view_is) c.requires.granule in
    rw (← c.self.view_is, memory)
    (written_granule laws c.args.kind c.self.inside.frames.memory c.args.address c.args.value c.law_framed.ensures.memory.laid_out granule c.requires.aligned)
