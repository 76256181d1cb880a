use Rattle.std.proofs.Common.{◌≡◌, length, sym, subst, arith, rules}
use Rattle.std.proofs.lemmas.Result.{err_from_is_err_and}
use Rattle.ob_parser.specs.ReadTokens.{Kept, IsRightFault}
use Rattle.ob_declarations.specs.Shifts.{state_of}
use Rattle.ob_parser.proofs.Loop.{at-start}
use Rattle.ob_parser.proofs.read.read.Goals as goal

pub loop-place-init : goal.loop-place-init
loop-place-init c = record { kept = at-start c.args.tokens.now.items c.requires.of_source c.new.result.items (search rules); within = omega arith }

pub returns-in_err-next : goal.returns-in_err-next
returns-in_err-next c =
    let p = err_from_is_err_and c.from_residual.result c.from_residual.ensures.1 in
    rw (p.1, p.2) c.in_err-next.ensures

pub returns-then-newest_path-gt-LIMIT : goal.returns-then-newest_path-gt-LIMIT
returns-then-newest_path-gt-LIMIT c =
    subst (IsRightFault c.args.tokens.now.items) (sym c.too_deep.ensures) (c.in_ok-next.ensures.2.too_deep (omega (arith, c.newest_path.ensures)))

pub loop-place-preserved : goal.loop-place-preserved
loop-place-preserved c =
    record { kept = c.in_ok-next.ensures.2.goes_on (omega (arith, c.newest_path.ensures)); within = omega (arith, c.in_ok-next.ensures.1) }

pub loop-place-smaller : goal.loop-place-smaller
loop-place-smaller c = omega (arith, c.in_ok-next.ensures.0, c.in_ok-next.ensures.1)

pub returns : goal.returns
returns c =
    let e : c.loop-place.place ≡ length c.args.tokens.now.items = omega arith in
    subst (λ n. Kept c.args.tokens.now.items n (state_of c.loop-place.state)) e c.loop-place.invariant.kept
