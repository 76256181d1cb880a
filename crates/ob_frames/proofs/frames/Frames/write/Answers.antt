use Rattle.std.proofs.Common.{◌-◌, ◌%◌, ap, sym, ◌∙◌}
use Rattle.ob_code.specs.Frames.{top_base}
use Rattle.ob_frames.specs.Calls.{calls_in}
use Rattle.ob_frames.specs.Links.{AllHaveLinks, MeetsNoLink}
use Rattle.ob_frames.proofs.CallLists.{calls_in-same, keeps_links}
use Rattle.ob_frames.proofs.Changing.{framed_put, kept_written, links_written}
use Rattle.ob_frames.proofs.frames.Frames.write.Goals as goal

linked : (c : goal.After-write_granule) → AllHaveLinks c.write_granule.new.flat (calls_in c.self.inside.flat c.self.inside.calls.items)
linked c =
    let apart : MeetsNoLink (calls_in c.self.inside.flat c.self.inside.calls.items) (c.args.address - c.args.address % 8) 8 = rw (← c.self.view_is) at c.requires.apart in
    links_written c.self.inside.statics c.self.inside.functions c.self.inside.flat c.write_granule.new.flat c.self.inside.calls c.self.inside.taken c.self.inside.end (c.args.address - c.args.address % 8) 8 c.self.invariant.kept apart c.write_granule.ensures.others

pub invariant_of-self : goal.invariant_of-self
invariant_of-self c =
    record {
      kept = kept_written c.self.inside.statics c.self.inside.functions c.self.inside.flat c.write_granule.new.flat c.self.inside.calls c.self.inside.taken c.self.inside.end c.self.invariant.kept c.write_granule.ensures.ranges (linked c);
      place = c.self.invariant.place ∙ ap top_base (sym (calls_in-same c.self.inside.flat c.write_granule.new.flat c.self.inside.calls.items (linked c)));
    }

pub returns-clause-memory : goal.returns-clause-memory
returns-clause-memory c =
    rw (← c.self.view_is) (framed_put c.self.inside.statics c.self.inside.functions c.self.inside.flat c.write_granule.new.flat _ c.self.inside.calls.items c.write_granule.ensures.memory (linked c))

pub returns-clause-links : goal.returns-clause-links
returns-clause-links c =
    rw (← c.self.view_is)
    (keeps_links (calls_in c.self.inside.flat c.self.inside.calls.items) (calls_in c.write_granule.new.flat c.self.inside.calls.items) c.write_granule.new.flat (linked c))

pub returns-clause-ranges : goal.returns-clause-ranges
returns-clause-ranges c = rw (← c.self.view_is) c.write_granule.ensures.ranges
