use Rattle.std.proofs.Common.{◌≡◌, drop}
use Rattle.ob_lower.specs.Homes.{past_words}
use Rattle.ob_homes.specs.HomesView.{plain_homes}
use Rattle.ob_homes.proofs.placing.past_words.Given as goal

abbrev pub invariant-loop-home : goal.invariant-loop-home
invariant-loop-home l = past_words (plain_homes l.list) l.first ≡ past_words (plain_homes (drop l.home-index l.list)) l.past
