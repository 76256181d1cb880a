-- Where static objects lie, row by row.
use Rattle.std.proofs.Common.{◌≡◌, ℕ, zero, suc, ◌+◌, ◌-◌, ◌<◌, ◌≤◌, ◌⊎◌, inl, inr, List, [], ◌∷◌, ◌++◌, length, take, arith, ap, subst, sym, ◌∙◌}
use Rattle.std.specs.Prelude.{slice_index_or}
use Rattle.std.proofs.lemmas.List.{get_or_append_left, get_or_push, length-append, take_all}
use Rattle.std.proofs.Math.Nat.{eq-or-lt_of_le}
use Rattle.ob_words.specs.Words.{block}
use Rattle.ob_code.specs.declared.image.PointerRow.{PointerRow}
use Rattle.ob_code.specs.declared.image.StaticRow.{StaticRow}
use Rattle.ob_code.specs.Layout.{static_base, static_blocks}
use Rattle.ob_code.specs.Limits.{most_pointers, most_statics}
use Rattle.ob_code.specs.Rules.{AreSound, HasStatic, IsPointerSound, IsStaticSound, pointer_at, static_at}

by_steps : (rows : List StaticRow) (i : ℕ) → i < length rows → static_blocks (take (suc i) rows) ≡ static_blocks (take i rows) + block (static_at rows i).size
by_steps [] i h = absurd (omega arith)
by_steps (r ∷ rs) zero h = omega arith
by_steps (r ∷ rs) (suc i) h = omega (arith, by_steps rs i (omega arith))

pub blocks_step : (rows : List StaticRow) (i : ℕ) → i < length rows → static_blocks (take (i + 1) rows) ≡ static_blocks (take i rows) + block (static_at rows i).size
blocks_step rows i h =
    let e : suc i ≡ i + 1 = omega arith in
    subst (λ n. static_blocks (take n rows) ≡ static_blocks (take i rows) + block (static_at rows i).size) e (by_steps rows i h)

-- the blocks of some rows take no more than those of all
pub blocks_most : (rows : List StaticRow) (i : ℕ) → static_blocks (take i rows) ≤ static_blocks rows
blocks_most [] zero = omega arith
blocks_most [] (suc i) = omega arith
blocks_most (r ∷ rs) zero = omega arith
blocks_most (r ∷ rs) (suc i) = omega (arith, blocks_most rs i)

pub blocks_small : (rows : List StaticRow) (i : ℕ) → AreSound most_statics (length rows) (IsStaticSound rows) → i ≤ length rows → static_blocks (take i rows) ≤ 4194304
blocks_small rows zero sound h = omega arith
blocks_small rows (suc i) sound h =
    let e : i + 1 ≡ suc i = omega arith in
    subst (λ n. static_blocks (take n rows) ≤ 4194304) e (sound.each i (omega arith)).fits

-- a place in an object, and behind its end, lies among all blocks
pub static_inside : (rows : List StaticRow) (number offset : ℕ) → HasStatic rows number → offset ≤ (static_at rows (number - 1)).size → static_base rows number + offset < 4096 + static_blocks rows
static_inside rows number offset exists inside =
    omega (arith, blocks_step rows (number - 1) (omega (arith, exists.0, exists.1)), blocks_most rows (number - 1 + 1))

-- ---- bases one after another

base_at : (rows : List StaticRow) (xs : List ℕ) (n b i : ℕ) → length xs ≡ n + 1 → ((k : ℕ) → k ≤ n → slice_index_or xs k 0 ≡ 4096 + static_blocks (take k rows)) → b ≡ 4096 + static_blocks (take (n + 1) rows) → (i ≡ n + 1) ⊎ (i < n + 1) →
    slice_index_or (xs ++ b ∷ []) i 0 ≡ 4096 + static_blocks (take i rows)
base_at rows xs n b i long each is (inl e) = get_or_push xs b 0 i (omega arith) ∙ is ∙ ap (λ (k : ℕ). 4096 + static_blocks (take k rows)) (sym e)
base_at rows xs n b i long each is (inr h) = get_or_append_left xs (b ∷ []) 0 i (omega arith) ∙ each i (omega arith)

pub bases_push : (rows : List StaticRow) (xs ys : List ℕ) (n b : ℕ) → length xs ≡ n + 1 → ((k : ℕ) → k ≤ n → slice_index_or xs k 0 ≡ 4096 + static_blocks (take k rows)) → b ≡ 4096 + static_blocks (take (n + 1) rows) → ys ≡ xs ++ b ∷ [] →
    (i : ℕ) → i ≤ n + 1 → slice_index_or ys i 0 ≡ 4096 + static_blocks (take i rows)
bases_push rows xs ys n b long each is more i h =
    ap (λ (zs : List ℕ). slice_index_or zs i 0) more ∙ base_at rows xs n b i long each is (eq-or-lt_of_le h)

pub length_push : (xs ys : List ℕ) (n b : ℕ) → length xs ≡ n → ys ≡ xs ++ b ∷ [] → length ys ≡ n + 1
length_push xs ys n b long more = omega (arith, ap (λ (zs : List ℕ). length zs) more, length-append xs (b ∷ []))

-- ---- pointers

-- where a pointer's granule lies, and where it points
pub record HasPlaces (statics : List StaticRow) (p : PointerRow) (holder target : ℕ) : Type 0 where
  pub begins : 4096 ≤ holder + p.offset
  pub ends : holder + p.offset + 8 ≤ 4096 + static_blocks statics
  pub lands : target + p.target_offset ≤ 4096 + static_blocks statics
  pub few : static_blocks statics ≤ 4194304

holder_end : (rows : List StaticRow) (number offset : ℕ) → HasStatic rows number → offset + 8 ≤ (static_at rows (number - 1)).size → static_base rows number + offset + 8 ≤ 4096 + static_blocks rows
holder_end rows number offset exists inside =
    omega (arith, static_inside rows number (offset + 8) exists inside)

blocks_few : (rows : List StaticRow) → AreSound most_statics (length rows) (IsStaticSound rows) → static_blocks rows ≤ 4194304
blocks_few rows sound =
    let e : take (length rows) rows ≡ rows = take_all (length rows) rows (omega arith) in
    subst (λ (xs : List StaticRow). static_blocks xs ≤ 4194304) e (blocks_small rows (length rows) sound (omega arith))

pub has_places : (statics : List StaticRow) (pointers : List PointerRow) (i holder target : ℕ) → AreSound most_statics (length statics) (IsStaticSound statics) → AreSound most_pointers (length pointers) (IsPointerSound statics pointers) → i < length pointers → holder ≡ static_base statics (pointer_at pointers i).holder → target ≡ static_base statics (pointer_at pointers i).target →
    HasPlaces statics (pointer_at pointers i) holder target
has_places statics pointers i holder target sound pointers_sound h from to =
    let p = pointers_sound.each i h in
    record {
      begins = omega (arith, from);
      ends = omega (arith, from, holder_end statics (pointer_at pointers i).holder (pointer_at pointers i).offset p.holder.exists p.holder.inside);
      lands = omega (arith, to, static_inside statics (pointer_at pointers i).target (pointer_at pointers i).target_offset p.target.exists p.target.inside);
      few = blocks_few statics sound;
    }
