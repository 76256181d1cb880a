use Rattle.std.proofs.Common.{subst}
use Rattle.ob_base.specs.Devices.{Writing}
use Rattle.ob_commands.specs.Delivery.{IsPut, ask_for}
use Rattle.ob_commands.proofs.Coming.{no_image, of_image, of_put, unwritten}
use Rattle.ob_commands.proofs.images.migrate_bytes.Goals as goal

pub returns-in-Err : goal.returns-in-Err
returns-in-Err g c = λ job input quiet supply watchers seen. no_image (ask_for job supply watchers) seen c.args.bytes.now input _ c.in-Err.came _ quiet (unwritten _ _ _) c.in-Err.ensures

pub returns-in-Ok-write_image : goal.returns-in-Ok-write_image
returns-in-Ok-write_image g c =
    λ job input quiet supply watchers seen.
    let writing : Writing =
    record { taken_before = g.K.Sink.taken c.args.out.now; taken_now = g.K.Sink.taken c.written.new.out; tally_before = g.K.Sink.tally c.args.out.now; tally_now = g.K.Sink.tally c.written.new.out; faults_before = g.K.Sink.faults c.args.out.now; faults_now = g.K.Sink.faults c.written.new.out } in
    of_image (ask_for job supply watchers) seen c.args.bytes.now input _ c.in-Ok.image c.written.result writing c.in-Ok.ensures.0 c.in-Ok.ensures.1
    (of_put (ask_for job supply watchers) seen c.in-Ok.image c.in-Ok-write_image.spelling.items input c.written.result writing quiet c.in-Ok-write_image.ensures (subst (λ b. IsPut b c.written.result writing) c.deref.ensures.value c.written.ensures))
