-- The blocks of the heap's list.
use Rattle.std.proofs.Common.{◌≡◌, ℕ, ◌==◌, Bool, true, false, not, cond, List, [], ◌∷◌, nat_lt, All, refl, ◌∙◌, ap}
use Rattle.std.proofs.lemmas.List.Elements.{All-head, All-tail}
use Rattle.ob_model.specs.Ordered.{before_or_after}
use Rattle.ob_model.specs.Heap.{Block, Allocated, block_of, blocks_of, with_block, without_place, with_allocated, surviving_blocks}

blocks_either : (b : Bool) (a c : Allocated) (cs with_later : List Allocated) → blocks_of (before_or_after b a c cs with_later) ≡ before_or_after b (block_of a) (block_of c) (blocks_of cs) (blocks_of with_later)
blocks_either true a c cs with_later = refl
blocks_either false a c cs with_later = refl

pub blocks_inserted : (a : Allocated) (all : List Allocated) → blocks_of (with_allocated a all) ≡ with_block (block_of a) (blocks_of all)
blocks_inserted a [] = refl
blocks_inserted a (b ∷ bs) =
    blocks_either (nat_lt a.place b.place) a b bs (with_allocated a bs)
    ∙ ap (before_or_after (nat_lt a.place b.place) (block_of a) (block_of b) (blocks_of bs)) (blocks_inserted a bs)

kept_if : (stays : Bool) (a : Allocated) (rest : List Allocated) (others : List Block) → blocks_of rest ≡ others → blocks_of (cond stays (a ∷ rest) rest) ≡ cond stays (block_of a ∷ others) others
kept_if true a rest others e = ap (λ (bs : List Block). block_of a ∷ bs) e
kept_if false a rest others e = e

abbrev AgreesAt : ℕ → ℕ → Allocated → Type 0
AgreesAt object place a = (a.object == object) ≡ (a.place == place)

pub one_leaves : (object place : ℕ) (all : List Allocated) → All (AgreesAt object place) all → blocks_of (surviving_blocks (λ other. other == object) all) ≡ without_place place (blocks_of all)
one_leaves object place [] each = refl
one_leaves object place (a ∷ all) each =
    kept_if (not (a.object == object)) a (surviving_blocks (λ other. other == object) all) (without_place place (blocks_of all)) (one_leaves object place all (All-tail (AgreesAt object place) a all each))
    ∙ ap (λ (same : Bool). cond (not same) (block_of a ∷ without_place place (blocks_of all)) (without_place place (blocks_of all))) (All-head (AgreesAt object place) a all each)
