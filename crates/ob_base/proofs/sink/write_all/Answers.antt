use Rattle.std.proofs.Common.{◌≡◌, ℕ, ◌+◌, ◌-◌, ◌≤◌, List, Option, length, take, drop, sym, ap, ◌∙◌, subst, arith, length-drop}
use Rattle.std.proofs.lemmas.List.{take_all, drop-drop}
use Rattle.std.specs.Io.KnownBytes.{append_known}
use Rattle.ob_base.specs.Sink.{Tally, tally_known}
use Rattle.ob_base.proofs.Appending.{append_known-more, tally_known-more}
use Rattle.ob_base.proofs.sink.write_all.Invariants.{Taken}
use Rattle.ob_base.proofs.sink.write_all.Goals as goal

-- what is left of the rest after n bytes, as a slice is cut
cut_is : (n : ℕ) (rest : List ℕ) → take (length rest - n) (drop n rest) ≡ drop n rest
cut_is n rest = take_all (length rest - n) (drop n rest) (omega (arith, length-drop n rest))

-- the next n bytes of the rest were taken
taken_more : (t0 t1 t2 : Option (List ℕ)) (c0 c1 c2 : Option Tally) (f0 f1 f2 : ℕ) (piece rest : List ℕ) (n : ℕ) → Taken t0 t1 c0 c1 f0 f1 piece rest → n ≤ length rest → t2 ≡ append_known t1 (take n rest) → c2 ≡ tally_known c1 (take n rest) → f2 ≡ f1 → Taken t0 t2 c0 c2 f0 f2 piece (drop n rest)
taken_more t0 t1 t2 c0 c1 c2 f0 f1 f2 piece rest n t within took tallied quiet =
    let done = length piece - length rest in
    let left : length (drop n rest) ≡ length rest - n = length-drop n rest in
    let shorter : length rest ≤ length piece = t.within in
    let count : length piece - length (drop n rest) ≡ done + n = omega (arith, left, shorter, within) in
    let next : take n rest ≡ take n (drop done piece) = ap (take n) t.rest_is in
    record {
      within = omega (arith, left, shorter);
      rest_is = ap (drop n) t.rest_is ∙ drop-drop n done piece ∙ ap (λ k. drop k piece) (sym count);
      took = took ∙ ap (λ x. append_known x (take n rest)) t.took ∙ ap (append_known _) next ∙ append_known-more t0 piece done n ∙ ap (λ k. append_known t0 (take k piece)) (sym count);
      tallied = tallied ∙ ap (λ x. tally_known x (take n rest)) t.tallied ∙ ap (tally_known _) next ∙ tally_known-more c0 piece done n ∙ ap (λ k. tally_known c0 (take k piece)) (sym count);
      quiet = quiet ∙ t.quiet;
    }

pub loop-rest-preserved : goal.loop-rest-preserved
loop-rest-preserved g c =
    let n = c.in_ok-count.count in
    let rest = c.loop-rest.rest.now in
    let taken = g.K.Sink.taken in
    let tally = g.K.Sink.tally in
    let faults = g.K.Sink.faults in
    subst (λ r. Taken (taken c.args.out.now) (taken c.write.new.self) (tally c.args.out.now) (tally c.write.new.self) (faults c.args.out.now) (faults c.write.new.self) c.args.piece.now r) (sym (cut_is n rest))
    (taken_more (taken c.args.out.now) (taken c.loop-rest.out) (taken c.write.new.self) (tally c.args.out.now) (tally c.loop-rest.out) (tally c.write.new.self) (faults c.args.out.now) (faults c.loop-rest.out) (faults c.write.new.self) c.args.piece.now rest n
    c.loop-rest.invariant c.in_ok-count.ensures.within c.in_ok-count.ensures.bytes c.in_ok-count.ensures.tallied c.in_ok-count.ensures.quiet)
