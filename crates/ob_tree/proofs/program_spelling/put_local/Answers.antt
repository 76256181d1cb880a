use Rattle.std.proofs.Common.{rules, ◌≡◌, [], ◌∷◌, ◌++◌, OnOk, List, arith, subst, sym}
use Rattle.std.proofs.lemmas.Grind.{common_steps}
use Rattle.std.proofs.lemmas.List.{append_assoc}
use Rattle.std.proofs.lemmas.Result.{IfOk-equal}
use Rattle.ob_tree.specs.declared.tokens.TokenKind.{TokenKind}
use Rattle.ob_tree.specs.declared.tokens.TokenKind.TheVariants as kind
use Rattle.ob_tree.specs.declared.tokens.Sign.TheVariants as sign
use Rattle.ob_tree.specs.Spelling.{spell_spec}
use Rattle.ob_tree.specs.ProgramSpelling.{spell_static}
use Rattle.ob_tree.specs.ExpressionView.{spec_tree}
use Rattle.ob_tree.proofs.ProgramRows.{obj_trees_spelled}
use Rattle.ob_tree.proofs.program_spelling.put_local.Goals as goal

pub returns : goal.returns
returns c =
    let P = λ (u : List TokenKind). OnOk c.put_sign.result (c.put_sign.new.out.items ≡ c.args.out.now.items ++ (spell_static c.args.local.now.fixed ++ (spell_spec (spec_tree c.args.local.now.spec) ++ (u ++ kind.Sign sign.Semi ∷ [])))) in
    subst P (sym (obj_trees_spelled c.args.local.now.names.items)) (first_of (search rules, grind (arith, common_steps), search (rules, IfOk-equal, append_assoc)))
