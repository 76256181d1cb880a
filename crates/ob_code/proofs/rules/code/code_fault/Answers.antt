use Rattle.std.proofs.Common.{◌≡◌, true, false, ap, arith, below_more, length, refl}
use Rattle.ob_code.specs.FirstFault.{broken}
use Rattle.ob_code.proofs.CodeRanges.{sound_at}
use Rattle.ob_code.proofs.rules.code.code_fault.Goals as goal

false_is_true : false ≡ true → ⊥
false_is_true h = cc

pub returns-then-not-instruction_is_sound : goal.returns-then-not-instruction_is_sound
returns-then-not-instruction_is_sound c =
    let same = ap length c.as_slice-count.ensures in
    broken (omega (arith, same)) (omega (arith, same))
    (λ good. absurd (false_is_true (c.if-not-instruction_is_sound.ensures.1 (good c.holder-f.result c.holder-f.ensures))))
    c.loop-i.invariant.sound

pub loop-i-preserved : goal.loop-i-preserved
loop-i-preserved c =
    record {
      is_function = c.holder-f.ensures.is_function;
      after_entry = omega (arith, c.holder-f.ensures.after_entry);
      before_end = omega (arith, c.holder-f.ensures.before_end);
      sound =
          below_more _ _ c.loop-i.invariant.sound
          (sound_at c.args.image.now c.holder-f.result c.loop-i.i c.requires c.holder-f.ensures (c.if-not-instruction_is_sound.ensures.0 refl));
    }
