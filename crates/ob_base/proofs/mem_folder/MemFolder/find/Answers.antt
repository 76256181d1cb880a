use Rattle.std.proofs.Common.{◌≡◌, Bool, true, false, cond, Some, List, ℕ, ◌∷◌, ap, sym, ◌∙◌}
use Rattle.std.specs.Ordering.{nat_cmp}
use Rattle.std.specs.Cmp.Lexicographic.{slice_cmp, nat_list_cmp_total}
use Rattle.std.specs.FinMap.{get, find, get-from_entries}
use Rattle.std.specs.VecDeque.Iter.{deque_iter_rest}
use Rattle.std.specs.Str.{bytes_eq}
use Rattle.std.proofs.lemmas.Map.Text.{is_eq-slice_cmp}
use Rattle.ob_base.proofs.mem_folder.MemFolder.find.Goals as goal

-- whether the first entry has the name decides where it is looked for
find-first : (name : List ℕ) (entry : List ℕ × List ℕ) (others : List (List ℕ × List ℕ)) (b : Bool) → bytes_eq name entry.0 ≡ b → find (slice_cmp nat_cmp) name (entry ∷ others) ≡ cond b (Some entry.1) (find (slice_cmp nat_cmp) name others)
find-first name entry others b same = ap (λ t. cond t (Some entry.1) (find (slice_cmp nat_cmp) name others)) (is_eq-slice_cmp name entry.0 ∙ same)

pub loop-known-init : goal.loop-known-init
loop-known-init c =
    ap (λ s. get s.files c.args.name.now) (sym c.self.view_is)
    ∙ get-from_entries nat_list_cmp_total _ _
    ∙ ap (find (slice_cmp nat_cmp) c.args.name.now) (sym c.into_iter-known-iterator.ensures.into_iter_gives.0)

pub returns-then-eq : goal.returns-then-eq
returns-then-eq c =
    let same : bytes_eq c.args.name.now c.in-Some.field-0.now.0 ≡ true = ap (λ k. bytes_eq c.args.name.now k) (sym c.bytes.ensures) ∙ ap (λ k. bytes_eq k c.bytes.result.now) (sym c.as_bytes.ensures.value) ∙ sym c.eq.ensures ∙ c.if-eq.true in
    sym (c.loop-known.invariant ∙ ap (find (slice_cmp nat_cmp) c.args.name.now) c.in-Some.ensures.steps ∙ find-first c.args.name.now c.in-Some.field-0.now (deque_iter_rest c.next.new.self) true same)

pub loop-known-preserved : goal.loop-known-preserved
loop-known-preserved c =
    let other : bytes_eq c.args.name.now c.in-Some.field-0.now.0 ≡ false = ap (λ k. bytes_eq c.args.name.now k) (sym c.bytes.ensures) ∙ ap (λ k. bytes_eq k c.bytes.result.now) (sym c.as_bytes.ensures.value) ∙ sym c.eq.ensures ∙ c.if-eq.false in
    c.loop-known.invariant ∙ ap (find (slice_cmp nat_cmp) c.args.name.now) c.in-Some.ensures.steps ∙ find-first c.args.name.now c.in-Some.field-0.now (deque_iter_rest c.next.new.self) false other
