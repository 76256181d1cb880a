use Rattle.std.proofs.Common.{ℕ, List, ◌≡◌, ◌∙◌, ap, ◌∷◌, drop}
use Rattle.ob_tree.specs.Characters.{characters, escape_at}
use Rattle.ob_lexer.specs.Scan.{first_character}
use Rattle.ob_lexer.proofs.QuoteLemmas.{characters-escaped}
use Rattle.ob_lexer.proofs.quotes.first_character.Goals as goal

pub returns-then-first-eq92-clause-others : goal.returns-then-first-eq92-clause-others
returns-then-first-eq92-clause-others c =
    let body : List ℕ = c.args.body.now in
    let behind : drop (escape_at (drop 1 body)).1 (drop 1 body) ≡ c.skip.result.now = cc in
    characters-escaped body c.requires c.if-first-eq92.true ∙ ap (λ r. (first_character body).0 ∷ characters r) behind
