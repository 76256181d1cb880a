use Rattle.std.proofs.Common.{rules, ◌≡◌, ◌<◌, ◌≤◌, ◌-◌, ◌∙◌, ap, length, take, get_or, arith}
use Rattle.std.proofs.lemmas.Grind.{common_steps}
use Rattle.ob_typed.specs.Strings.{trimmed}
use Rattle.ob_consts.proofs.Ends.{all_gone, none_gone, without_zero}
use Rattle.ob_consts.proofs.images.trimmed.Goals as goal
use Rattle.ob_consts.proofs.images.trimmed.Goals.{then-loop-len-test+else-index-eq0, else-loop-len-test}

pub loop-len-preserved : goal.loop-len-preserved
loop-len-preserved c =
    let bs = c.into_vec-bytes.result.items in
    let n = c.loop-len.len in
    let some : 0 < c.loop-len.len = first_of (search rules, grind (arith, common_steps)) in
    let is : c.index.result.now ≡ get_or c.into_vec-bytes.result.items (c.loop-len.len - 1) c.index.result.now = first_of (search rules, grind (arith, common_steps)) in
    let none : c.index.result.now ≡ 0 = first_of (search rules, grind (arith, common_steps)) in
    record {
      within = omega (arith, c.loop-len.invariant.within);
      kept = without_zero bs n c.index.result.now some c.loop-len.invariant.within is none c.loop-len.invariant.kept;
    }

pub returns : goal.returns
returns c =
    let bs = c.into_vec-bytes.result.items in
    let n = c.loop-len.len in
    let kept : c.from_vec.result ≡ take c.loop-len.len c.into_vec-bytes.result.items = first_of (search rules, grind (arith, common_steps)) in
    let same : c.into_vec-bytes.result.items ≡ c.args.bytes = first_of (search rules, grind (arith, common_steps)) in
    kept ∙ (elim c.loop-len-test.branch [
      | then-loop-len-test+else-index-eq0 w ↦ none_gone bs n w.index.result.now (first_of (search rules, grind (arith, common_steps))) c.loop-len.invariant.within (first_of (search rules, grind (arith, common_steps))) (first_of (search rules, grind (arith, common_steps))) c.loop-len.invariant.kept
      | else-loop-len-test w ↦ all_gone bs n (first_of (search rules, grind (arith, common_steps))) c.loop-len.invariant.kept
    ]) ∙ ap trimmed same
