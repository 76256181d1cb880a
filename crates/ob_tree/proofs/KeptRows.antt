-- A row that is pushed, and one that is replaced, keep the layouts right.
use Rattle.std.proofs.Common.{◌≡◌, ℕ, zero, suc, Bool, true, false, Some, None, List, [], ◌∷◌, ◌++◌, map, length, slice_get, slice_set, refl, sym, ap, ◌∙◌, subst}
use Rattle.std.specs.Prelude.{if◌then◌else◌, option_and_then}
use Rattle.std.proofs.lemmas.Option.{none-some}
use Rattle.std.proofs.lemmas.List.{map-set}
use Rattle.ob_tree.specs.declared.types.KeptRow.{KeptRow}
use Rattle.ob_tree.specs.Types.{PlainMember, PlainStruct, unknown_struct, with_members}
use Rattle.ob_tree.specs.Sizes.{Layout, members_layout, no_layout, struct_layout}
use Rattle.ob_tree.specs.StructLayouts.{AreKept, kept_layout, layout_of_row, plain_row}
use Rattle.ob_tree.proofs.KeptLayouts.{get_set_other, kept_declared, kept_members}

-- the structures of some rows, with their layouts
abbrev pub KeepRight : List KeptRow → Type 0
KeepRight ks = AreKept (map plain_row ks) (kept_layout ks)

kept_past : (k : KeptRow) (n : ℕ) → layout_of_row k ≡ None → kept_layout (k ∷ []) n ≡ None
kept_past k zero none = none
kept_past k (suc n) none = refl

kept_pushed : (ks : List KeptRow) (k : KeptRow) → layout_of_row k ≡ None → (n : ℕ) → kept_layout (ks ++ k ∷ []) n ≡ kept_layout ks n
kept_pushed [] k none n = kept_past k n none
kept_pushed (x ∷ xs) k none zero = refl
kept_pushed (x ∷ xs) k none (suc n) = kept_pushed xs k none n

pushed_rows : (ks : List KeptRow) (k : KeptRow) → plain_row k ≡ unknown_struct → map plain_row (ks ++ k ∷ []) ≡ map plain_row ks ++ unknown_struct ∷ []
pushed_rows [] k is = ap (λ r. r ∷ []) is
pushed_rows (x ∷ xs) k is = ap (λ rs. plain_row x ∷ rs) (pushed_rows xs k is)

either : (b : Bool) (xs ys : List KeptRow) → KeepRight xs → KeepRight ys → KeepRight (if b then xs else ys)
either true xs ys h k = h
either false xs ys h k = k

pub pushed : (b : Bool) (ks after : List KeptRow) (k : KeptRow) → after ≡ (if b then ks ++ k ∷ [] else ks) → plain_row k ≡ unknown_struct → layout_of_row k ≡ None → KeepRight ks → KeepRight after
pushed b ks after k is row none h =
    subst KeepRight (sym is)
    (either b (ks ++ k ∷ []) ks
    (subst (λ rs. AreKept rs (kept_layout (ks ++ k ∷ []))) (sym (pushed_rows ks k row))
    (kept_declared (map plain_row ks) (kept_layout ks) (kept_layout (ks ++ k ∷ [])) h (kept_pushed ks k none))) h)

kept_replaced : (ks : List KeptRow) (k : KeptRow) (n : ℕ) (r : PlainStruct) → slice_get (map plain_row ks) n ≡ Some r → kept_layout (slice_set ks n k) n ≡ layout_of_row k
kept_replaced [] k n r is = absurd (none-some r is)
kept_replaced (x ∷ xs) k zero r is = refl
kept_replaced (x ∷ xs) k (suc n) r is = kept_replaced xs k n r is

pub replaced_rows : (ks : List KeptRow) (k : KeptRow) (n : ℕ) (ms : List PlainMember) → plain_row k ≡ record { complete = true; members = ms } → map plain_row (slice_set ks n k) ≡ with_members (map plain_row ks) n ms
replaced_rows ks k n ms is = map-set plain_row ks n k ∙ ap (slice_set (map plain_row ks) n) is

pub replaced : (ks : List KeptRow) (k : KeptRow) (n : ℕ) (ms : List PlainMember) (l : Layout) → KeepRight ks → slice_get (map plain_row ks) n ≡ Some unknown_struct →
    members_layout (struct_layout (length (map plain_row ks)) (map plain_row ks)) no_layout ms ≡ Some l → plain_row k ≡ record { complete = true; members = ms } → layout_of_row k ≡ Some l → KeepRight (slice_set ks n k)
replaced ks k n ms l h bare is row laid =
    subst (λ rs. AreKept rs (kept_layout (slice_set ks n k))) (sym (replaced_rows ks k n ms row))
    (kept_members (map plain_row ks) (kept_layout ks) (kept_layout (slice_set ks n k)) n ms l h bare is
    (kept_replaced ks k n unknown_struct bare ∙ laid)
    (λ m other. ap (option_and_then layout_of_row) (get_set_other ks k n m other)))
