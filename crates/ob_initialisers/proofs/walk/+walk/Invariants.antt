use Rattle.std.proofs.Common.{◌≡◌, [], drop, map, option_map}
use Rattle.ob_tree.specs.TypeView.{plain_type}
use Rattle.ob_typed.specs.Initialisers.{check_items}
use Rattle.ob_typed.specs.TypedView.{typed_init}
use Rattle.ob_context.specs.KnownView.{env_of, known_of, stand_of}
use Rattle.ob_initialisers.specs.Lists.{init_trees}
use Rattle.ob_initialisers.proofs.walk.+walk.Given as goal

abbrev pub invariant-check_items-loop-source : goal.invariant-check_items-loop-source
invariant-check_items-loop-source l = record {
  walks :
      check_items (env_of l.env (stand_of l.fn.known)) l.fixed (option_map (λ u. plain_type u.now) l.t) [] (init_trees l.sources.items) (known_of l.fn.known)
      ≡ check_items (env_of l.env (stand_of l.fn.known)) l.fixed (option_map (λ u. plain_type u.now) l.t) (map typed_init l.items.items) (init_trees (drop l.source-index l.sources.items)) (known_of l.known);
  stays : stand_of l.known ≡ stand_of l.fn.known;
}
