use Rattle.std.proofs.Common.{◌∙◌}
use Rattle.ob_sample.proofs.Pieces.{five}
use Rattle.ob_sample.proofs.source.add_function.Goals as goal

pub returns : goal.returns
returns c =
    five _ _ _ _ _ _ _ _ _ _ _ c.in_ok-extend_from_slice.ensures.items c.in_ok-extend_from_slice-2.ensures.items (c.as_bytes-number.ensures.value ∙ c.format.ensures.text) c.in_ok-extend_from_slice-3.ensures.items c.in_ok-extend_from_slice-4.ensures.items c.in_ok-extend_from_slice-5.ensures.items
