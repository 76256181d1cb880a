use Rattle.std.proofs.Common.{List, ◌==◌, ℕ, ap, sym}
use Rattle.ob_model.specs.Bounded.{Listed}
use Rattle.ob_model.specs.Cells.{Content}
use Rattle.ob_outside.specs.Granules.{Granules}
use Rattle.ob_outside.proofs.Lists.{surviving_mapped}
use Rattle.ob_outside.proofs.outside.Outside.forget.Goals as goal

pub returns : goal.returns
returns c =
    let with_list : List (Listed (Content ℕ)) → Granules = λ es. record { cap = c.self.inside.store.cap; listed = es } in
    rw (c.forget.ensures, ← c.self.view_is) (ap with_list (sym (surviving_mapped (λ other. other == c.args.object) c.self.inside.store.listed)))
