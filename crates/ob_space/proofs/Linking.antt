-- Calls whose link words are kept.
use Rattle.std.proofs.Common.{List, [], ◌∷◌, ◌++◌, subst}
use Rattle.ob_flat.specs.Memory.{Memory}
use Rattle.ob_code.specs.State.{Call}
use Rattle.ob_frames.specs.Links.{AllHaveLinks, HasLinks, LinksAreKept}

links_of_outer : (m : Memory) (inner : List Call) (c : Call) (outer : List Call) → AllHaveLinks m (inner ++ c ∷ outer) → HasLinks m c outer
links_of_outer m [] c outer linked = linked.0
links_of_outer m (d ∷ inner) c outer linked = links_of_outer m inner c outer linked.1

pub links_kept : (m : Memory) (calls : List Call) → AllHaveLinks m calls → LinksAreKept calls calls m
links_kept m calls linked inner c outer is longer = links_of_outer m inner c outer (subst (AllHaveLinks m) is linked)
