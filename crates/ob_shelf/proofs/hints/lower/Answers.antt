use Rattle.std.proofs.Common.{◌≡◌, ℕ, get_or, set, arith, sym, ap, subst, ◌∙◌, ⊎_elim, get_or-set_same, get_or-set_other}
use Rattle.std.proofs.lemmas.Bool.{cases_eq}
use Rattle.ob_shelf.specs.Blocks.{IsLowered}
use Rattle.ob_shelf.proofs.hints.lower.Goals as goal

pub loop-class-preserved : goal.loop-class-preserved
loop-class-preserved c =
    let at : ℕ = c.loop-class.class in
    record {
      so_far = λ d k early below.
          ⊎_elim
          (λ here.
          let value : get_or (set c.loop-class.hints at c.lowered.result) d 0 ≡ c.lowered.result = ap (λ n. get_or (set c.loop-class.hints at c.lowered.result) n 0) here ∙ get_or-set_same c.loop-class.hints at c.lowered.result 0 (omega arith) in
          let hint : get_or c.loop-class.hints at 0 ≡ get_or c.args.hints.now at 0 = c.loop-class.invariant.rest at (omega arith) in
          let low : IsLowered (get_or c.loop-class.hints at 0) at c.args.merged c.args.index k = c.lowered.ensures k (omega (arith, value, below)) in
          subst (λ n. IsLowered (get_or c.args.hints.now n 0) n c.args.merged c.args.index k) (sym here)
          (subst (λ h. IsLowered h at c.args.merged c.args.index k) hint low))
          (λ apart.
          let value = get_or-set_other c.loop-class.hints at d c.lowered.result 0 apart in
          c.loop-class.invariant.so_far d k (omega arith) (omega (arith, value, below)))
          (cases_eq d at);
      rest = λ d late.
          get_or-set_other c.loop-class.hints at d c.lowered.result 0 (λ is. omega arith) ∙ c.loop-class.invariant.rest d (omega arith);
    }

pub returns : goal.returns
returns c = record {
  classes = omega arith;
  each = λ d k class below. c.loop-class.invariant.so_far d k (omega arith) below;
}
