use Rattle.std.proofs.Common.{◌<◌, length, arith, rules}
use Rattle.ob_base.proofs.Pieces.{front_whole_known}
use Rattle.ob_base.proofs.std_folder.read_limited.Goals as goal

pub returns-in-Ok-2-clause-whole : goal.returns-in-Ok-2-clause-whole
returns-in-Ok-2-clause-whole g c =
    let bytes = c.read_to_end-read.new.buf in
    let shorter : length bytes.items < c.take.result.limit = omega (arith, bytes.small, bytes.ok) in
    front_whole_known c.take.result.limit (g.R.Read.remaining c.args.reader.now) bytes.items (search rules) shorter
