-- What the order of the blocks says.
use Rattle.std.proofs.Common.{◌≡◌, ℕ, ◌-◌, None, ◌<◌, ◌≤◌, List, length, get_or, arith, ap, ⊎_elim, ◌∙◌}
use Rattle.std.specs.List.{All}
use Rattle.std.proofs.lemmas.Bool.{cases_eq, cases_lt}
use Rattle.std.proofs.lemmas.List.{get_or_default}
use Rattle.ob_shelf.specs.declared.blocks.LiveBlock.{LiveBlock}
use Rattle.ob_shelf.specs.Blocks.{IsInOrder, IsGranular, Splits, IsIndexOf, no_block}

-- places don't fall, at any two defaults
pub places_up_to : (blocks : List LiveBlock) (d e : LiveBlock) (i j : ℕ) → IsInOrder blocks → i ≤ j → j < length blocks → (get_or blocks i d).place ≤ (get_or blocks j e).place
places_up_to blocks d e i j in_order up within =
    let same : (get_or blocks j d).place ≡ (get_or blocks j e).place = ap (λ (x : LiveBlock). x.place) (get_or_default blocks j d e within) in
    ⊎_elim
    (λ is. let here : (get_or blocks i d).place ≡ (get_or blocks j d).place = ap (λ n. (get_or blocks n d).place) is in omega arith)
    (λ apart. let rise = in_order i j d (omega arith) within in omega arith)
    (cases_eq i j)

-- places rise
pub places_rise : (blocks : List LiveBlock) (d : LiveBlock) (i j : ℕ) → IsInOrder blocks → All IsGranular blocks → i < j → j < length blocks → (get_or blocks i d).place < (get_or blocks j d).place
places_rise blocks d i j in_order granular less within =
    let apart = in_order i j d less within in
    let long = (granular i d (omega arith)).2 in
    omega arith

-- where the last block up to a place doesn't begin there, none does
pub no_index : (blocks : List LiveBlock) (place count : ℕ) → IsInOrder blocks → All IsGranular blocks → Splits blocks place count → (0 < count → (get_or blocks (count - 1) no_block).place ≡ place → ⊥) → IsIndexOf blocks place None
no_index blocks place count in_order granular splits last k d below same =
    let here : (get_or blocks k no_block).place ≡ place = ap (λ (x : LiveBlock). x.place) (get_or_default blocks k no_block d below) ∙ same in
    ⊎_elim
    (λ before. ⊎_elim
    (λ is. last (omega arith) (ap (λ i. (get_or blocks i no_block).place) is ∙ here))
    (λ apart.
    let rise = places_rise blocks no_block k (count - 1) in_order granular (omega arith) (omega (arith, splits.within)) in
    let most = splits.before (count - 1) no_block (omega arith) in
    omega arith)
    (cases_eq (count - 1) k))
    (λ after. let more = splits.after k d after below in omega arith)
    (cases_lt k count)
