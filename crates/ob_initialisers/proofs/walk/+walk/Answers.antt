use Rattle.std.proofs.Common.{option_map, subst, sym}
use Rattle.ob_tree.specs.Trees.{InitTree}
use Rattle.ob_tree.specs.TypeView.{plain_type}
use Rattle.ob_typed.specs.Initialisers.{check_init}
use Rattle.ob_typed.specs.TypedView.{typed_init}
use Rattle.ob_context.specs.KnownView.{env_of, known_of, stand_of}
use Rattle.ob_context.specs.Walks.{Walks}
use Rattle.ob_initialisers.proofs.SourceRows.{list_tree}
use Rattle.ob_initialisers.proofs.walk.+walk.Goals as goal

pub check_init-returns-in-List-clause-walks : goal.check_init-returns-in-List-clause-walks
check_init-returns-in-List-clause-walks t c =
    let e = list_tree c.args.i.now c.in-List.first c.in-List.items c.in-List.comma c.in-List.is in
    let P = λ (i : InitTree). Walks typed_init c.check_list.result (known_of c.check_list.new.known) (check_init (env_of c.args.env.now (stand_of c.args.known.now)) c.args.fixed (option_map (λ u. plain_type u.now) c.args.t) i (known_of c.args.known.now)) in
    subst P (sym e) (c.check_list.ensures.walks c.in-List.comma)
