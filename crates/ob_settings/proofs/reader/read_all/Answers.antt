use Rattle.std.proofs.Common.{◌≡◌, ◌+◌, ◌-◌, ◌∙◌, ap, sym, arith, drop, length, map, string_bytes, take}
use Rattle.ob_settings.specs.Reading.{reads}
use Rattle.ob_settings.proofs.Steps.{all_behind, turn_fails, turn_one, turn_two, two_within}
use Rattle.ob_settings.proofs.reader.read_all.Goals as goal
use Rattle.ob_settings.proofs.reader.read_all.Goals.{then-step, else-step}

pub returns-in_default : goal.returns-in_default
returns-in_default c =
    turn_fails string_bytes c.args.verb (c.loop-i.i + 1) c.loop-i.reader c.args.words.now c.loop-i.i c.index-words-i.result c.as_str.result.now (take (length c.args.words.now - (c.loop-i.i + 1)) (drop (c.loop-i.i + 1) c.args.words.now)) c.step.result c.loop-i-test.true c.index-words-i.is c.as_str.ensures.value
    (all_behind c.args.words.now (c.loop-i.i + 1)) c.step.ensures c.in_default.is ∙
    c.loop-i.invariant.reading

pub loop-i-preserved : goal.loop-i-preserved
loop-i-preserved c =
    elim c.if-step.branch [
      | then-step w ↦
          let same : c.loop-i.i + 1 + 2 ≡ c.loop-i.i + 2 + 1 = omega arith in
          record {
            within = rw w.i-is (two_within string_bytes c.args.verb (c.loop-i.i + 1) c.loop-i.reader c.args.words.now c.loop-i.i c.as_str.result.now (take (length c.args.words.now - (c.loop-i.i + 1)) (drop (c.loop-i.i + 1) c.args.words.now)) c.step.result c.in-Some.step (all_behind c.args.words.now (c.loop-i.i + 1)) c.step.ensures c.in-Some.is w.if-step.true);
            reading = rw w.i-is (ap (λ k. reads c.args.verb k c.in-Some.step.reader (drop (c.loop-i.i + 2) (map string_bytes c.args.words.now))) (sym same) ∙
                turn_two string_bytes c.args.verb (c.loop-i.i + 1) c.loop-i.reader c.args.words.now c.loop-i.i c.index-words-i.result c.as_str.result.now (take (length c.args.words.now - (c.loop-i.i + 1)) (drop (c.loop-i.i + 1) c.args.words.now)) c.step.result c.in-Some.step c.loop-i-test.true c.index-words-i.is c.as_str.ensures.value
                (all_behind c.args.words.now (c.loop-i.i + 1)) c.step.ensures c.in-Some.is w.if-step.true ∙
                c.loop-i.invariant.reading);
          }
      | else-step w ↦ record {
        within = rw w.i-is (omega arith);
        reading = rw w.i-is (turn_one string_bytes c.args.verb (c.loop-i.i + 1) c.loop-i.reader c.args.words.now c.loop-i.i c.index-words-i.result c.as_str.result.now (take (length c.args.words.now - (c.loop-i.i + 1)) (drop (c.loop-i.i + 1) c.args.words.now)) c.step.result c.in-Some.step c.loop-i-test.true c.index-words-i.is c.as_str.ensures.value
            (all_behind c.args.words.now (c.loop-i.i + 1)) c.step.ensures c.in-Some.is w.if-step.false ∙
            c.loop-i.invariant.reading);
      }
    ]
