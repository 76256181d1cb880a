-- A program has at most one first form.
use Rattle.std.proofs.Common.{◌≡◌, ◌≢◌, ℕ, List, [], ◌∷◌, ◌++◌, refl, sym, ap, ◌∙◌, arith, append_assoc}
use Rattle.std.specs.Prelude.{codes}
use Rattle.std.specs.List.{AllByRecursion, flat_map}
use Rattle.ob_tree.specs.declared.tokens.TokenKind.{TokenKind}
use Rattle.ob_tree.specs.declared.tokens.TokenKind.TheVariants as kind
use Rattle.ob_tree.specs.declared.tokens.Sign.TheVariants as signs
use Rattle.ob_tree.specs.Programs.{ProgramTree}
use Rattle.ob_first.specs.FirstForm.{FirstForm, HasFirstForm, IsSum, addend_kinds, body_kinds, print_kinds, return_kinds, sum_kinds}

-- no further constant follows
abbrev IsBehind : List TokenKind → Type 0
IsBehind ks = (rest : List TokenKind) → ks ≢ kind.Sign signs.Plus ∷ rest

addends_cancel : (cs ds : List ℕ) (x y : List TokenKind) → IsBehind x → IsBehind y → flat_map addend_kinds cs ++ x ≡ flat_map addend_kinds ds ++ y → (cs ≡ ds) × (x ≡ y)
addends_cancel [] [] x y p q e = (refl, e)
addends_cancel [] (d ∷ ds) x y p q e = absurd (p _ e)
addends_cancel (c ∷ cs) [] x y p q e = absurd (q _ (sym e))
addends_cancel (c ∷ cs) (d ∷ ds) x y p q e =
    let tail : flat_map addend_kinds cs ++ x ≡ flat_map addend_kinds ds ++ y = cc in
    let others = addends_cancel cs ds x y p q tail in
    let first : c ≡ d = cc in
    let same : cs ≡ ds = others.0 in
    (cc, others.1)

sums_cancel : (cs ds : List ℕ) (x y : List TokenKind) → IsSum cs → IsSum ds → IsBehind x → IsBehind y → sum_kinds cs ++ x ≡ sum_kinds ds ++ y → (cs ≡ ds) × (x ≡ y)
sums_cancel [] ds x y s t p q e = absurd (omega (arith, s.some))
sums_cancel (c ∷ cs) [] x y s t p q e = absurd (omega (arith, t.some))
sums_cancel (c ∷ cs) (d ∷ ds) x y s t p q e =
    let tail : flat_map addend_kinds cs ++ x ≡ flat_map addend_kinds ds ++ y = cc in
    let others = addends_cancel cs ds x y p q tail in
    let first : c ≡ d = cc in
    let same : cs ≡ ds = others.0 in
    (cc, others.1)

print_is : (constants : List ℕ) (x : List TokenKind) → print_kinds constants ++ x ≡ kind.Name (codes "putchar") ∷ (kind.Sign signs.OpenParen ∷ (sum_kinds constants ++ (kind.Sign signs.CloseParen ∷ (kind.Sign signs.Semi ∷ x))))
print_is constants x = ap (λ ks. kind.Name (codes "putchar") ∷ (kind.Sign signs.OpenParen ∷ ks)) (append_assoc (sum_kinds constants) (kind.Sign signs.CloseParen ∷ (kind.Sign signs.Semi ∷ [])) x)

closes : (x : List TokenKind) → IsBehind (kind.Sign signs.CloseParen ∷ x)
closes x rest e = cc

prints_cancel : (cs ds : List ℕ) (x y : List TokenKind) → IsSum cs → IsSum ds → print_kinds cs ++ x ≡ print_kinds ds ++ y → (cs ≡ ds) × (x ≡ y)
prints_cancel cs ds x y s t e =
    let whole = sym (print_is cs x) ∙ e ∙ print_is ds y in
    let sums : sum_kinds cs ++ (kind.Sign signs.CloseParen ∷ (kind.Sign signs.Semi ∷ x)) ≡ sum_kinds ds ++ (kind.Sign signs.CloseParen ∷ (kind.Sign signs.Semi ∷ y)) = cc in
    let same = sums_cancel cs ds _ _ s t (closes _) (closes _) sums in
    let rest : kind.Sign signs.CloseParen ∷ (kind.Sign signs.Semi ∷ x) ≡ kind.Sign signs.CloseParen ∷ (kind.Sign signs.Semi ∷ y) = same.1 in
    (same.0, cc)

returns_cancel : (r s : List ℕ) → IsSum r → IsSum s → return_kinds r ≡ return_kinds s → r ≡ s
returns_cancel r s p q e =
    let sums : sum_kinds r ++ (kind.Sign signs.Semi ∷ (kind.Sign signs.CloseBrace ∷ [])) ≡ sum_kinds s ++ (kind.Sign signs.Semi ∷ (kind.Sign signs.CloseBrace ∷ [])) = cc in
    (sums_cancel r s _ _ p q (λ rest f. cc) (λ rest f. cc) sums).0

bodies_cancel : (ps qs : List (List ℕ)) (r s : List ℕ) → AllByRecursion IsSum ps → AllByRecursion IsSum qs → IsSum r → IsSum s → body_kinds ps r ≡ body_kinds qs s → (ps ≡ qs) × (r ≡ s)
bodies_cancel [] [] r s ps_are qs_are p q e = (refl, returns_cancel r s p q e)
bodies_cancel [] (d ∷ ds) r s ps_are qs_are p q e = absurd (cc)
bodies_cancel (c ∷ cs) [] r s ps_are qs_are p q e = absurd (cc)
bodies_cancel (c ∷ cs) (d ∷ ds) r s ps_are qs_are p q e =
    let whole = sym (append_assoc (print_kinds c) (flat_map print_kinds cs) (return_kinds r)) ∙ e ∙ append_assoc (print_kinds d) (flat_map print_kinds ds) (return_kinds s) in
    let first = prints_cancel c d (body_kinds cs r) (body_kinds ds s) ps_are.0 qs_are.0 whole in
    let others = bodies_cancel cs ds r s ps_are.1 qs_are.1 p q first.1 in
    let head : c ≡ d = first.0 in
    let tail : cs ≡ ds = others.0 in
    (cc, others.1)

pub one_form : (p : ProgramTree) (f g : FirstForm) → HasFirstForm p f → HasFirstForm p g → f ≡ g
one_form p f g h i =
    let spelled = sym h.spelled ∙ i.spelled in
    let bodies : body_kinds f.prints f.result ≡ body_kinds g.prints g.result = cc in
    let same = bodies_cancel f.prints g.prints f.result g.result h.sums.prints i.sums.prints h.sums.result i.sums.result bodies in
    λ j. record { prints = same.0 j; result = same.1 j }
