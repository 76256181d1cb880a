use Rattle.std.proofs.Common.{rules, ◌≡◌, Bool, List, false, length, take, drop, ◌++◌, ap, sym, ◌∙◌, arith}
use Rattle.std.specs.Prelude.{replicate}
use Rattle.std.proofs.lemmas.List.{length-map}
use Rattle.std.proofs.Math.Seq.{take-append_seam}
use Rattle.ob_tree.specs.TypeView.{plain_type, plain_types}
use Rattle.ob_typed.specs.TypedView.{typed_stmt}
use Rattle.ob_homes.specs.Flags.{with_stmt}
use Rattle.ob_homes.proofs.Walks.{stmt_raises}
use Rattle.ob_homes.proofs.exposed.exposed_flags.Goals as goal

pub returns : goal.returns
returns c =
    let new = c.expose_in_stmt.new.flags in
    let body = typed_stmt c.args.f.now.body in
    let types = plain_types c.args.f.now.locals.items in
    let behind = drop (length new) c.in_ok-flags.flags.items in
    let size : length new ≡ c.in_ok-flags.flags.len = omega arith in
    let many : c.len.result ≡ length types = omega (arith, length-map c.args.f.now.locals.items plain_type) in
    let none = c.deref_mut.ensures.value ∙ (c.in_ok-flags.ensures ∙ ap (λ n. replicate n false) many) in
    let walked =
    c.expose_in_stmt.ensures
    ∙ (ap (λ ts. with_stmt body (plain_types ts) c.deref_mut.result.now) c.deref.ensures.value
    ∙ ap (λ fs. with_stmt body types fs) none) in
    let raised = walked ∙ stmt_raises body types (replicate (length types) false) in
    ap (λ n. take n (new ++ behind)) (sym size) ∙ (take-append_seam new behind ∙ raised)
