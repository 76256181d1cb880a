use Rattle.std.proofs.Common.{◌∙◌}
use Rattle.ob_sample.proofs.Pieces.{three}
use Rattle.ob_sample.proofs.source.add_call.Goals as goal

pub returns : goal.returns
returns c =
    three _ _ _ _ _ _ _ _ c.in_ok-extend_from_slice.ensures.items c.in_ok-extend_from_slice-2.ensures.items (c.as_bytes.ensures.value ∙ c.format.ensures.text) c.in_ok-extend_from_slice-3.ensures.items
