use Rattle.std.proofs.Common.{◌≡◌, rules, false, true, ap, sym, ◌∙◌}
use Rattle.ob_tree.specs.TypeView.{plain_type}
use Rattle.ob_conversions.specs.CheckedView.{mark}
use Rattle.ob_context.specs.KnownView.{known_of}
use Rattle.ob_specifiers.proofs.Pieces.{string_refused, string_taken}
use Rattle.ob_specifiers.proofs.strings.string.Goals as goal

pub returns-then-not-fits-clause-walks : goal.returns-then-not-fits-clause-walks
returns-then-not-fits-clause-walks c =
    let k = known_of c.args.known.now in
    let f : c.fits.result ≡ false = search rules in
    string_refused (mark c.args.m) c.args.bytes k (sym (c.fits.ensures k.structs) ∙ f)

pub returns-clause-walks : goal.returns-clause-walks
returns-clause-walks c =
    let k = known_of c.args.known.now in
    let f : c.fits.result ≡ true = search rules in
    string_taken (mark c.args.m) c.args.bytes k c.add_string.result c.in_ok-number.number _ _ (plain_type c.in_ok-number.ty)
    (sym (c.fits.ensures k.structs) ∙ f) c.in_ok-number.ensures.made c.add_string.ensures.number c.add_string.ensures.known
    (ap plain_type c.in_ok-number.ensures.kept ∙ c.in_ok-ty.ensures) c.placed.ensures
