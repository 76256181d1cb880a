-- The layouts that are kept beside the rows of structure types, one for each complete row. They serve the proof:
-- what a layout is says `Sizes`.
use Rattle.std.specs.Prelude.{◌≡◌, ℕ, suc, if◌then◌else◌, Option, option_map, option_and_then, List, [], ◌∷◌, slice_get}
use Rattle.std.specs.Option.{is_some}
use Rattle.ob_tree.specs.declared.types.KeptRow.{KeptRow}
use Rattle.ob_tree.specs.declared.types.StructLayout.{StructLayout}
use Rattle.ob_tree.specs.Types.{PlainStruct, PlainStructs, is_complete_row}
use Rattle.ob_tree.specs.TypeView.{plain_struct}
use Rattle.ob_tree.specs.Sizes.{Layout, struct_layout}

abbrev pub shown_layout : StructLayout → Layout
shown_layout l = record { size = l.size; align = l.align; scalars = l.scalars }

abbrev pub plain_row : KeptRow → PlainStruct
plain_row k = plain_struct k.row

abbrev pub layout_of_row : KeptRow → Option Layout
layout_of_row k = option_map shown_layout k.layout

-- what is kept for the structure of a number
abbrev pub kept_layout : List KeptRow → (number : ℕ) → Option Layout
kept_layout ks n = option_and_then layout_of_row (slice_get ks n)

-- how many structures have their members
abbrev pub completed : PlainStructs → ℕ
completed [] = 0
completed (r ∷ rs) = if r.complete then suc (completed rs) else completed rs

-- What is kept is right: the layout of each complete structure, and none of any other. A structure holds only
-- those that were complete before it, so structures hold each other no deeper than there are complete ones.
abbrev pub AreRight : PlainStructs → (kept : ℕ → Option Layout) → Type 0
AreRight structs kept = (n : ℕ) → kept n ≡ struct_layout (completed structs) structs n

abbrev pub AreKnown : PlainStructs → (kept : ℕ → Option Layout) → Type 0
AreKnown structs kept = (n : ℕ) → is_complete_row (slice_get structs n) ≡ is_some (kept n)

pub record AreKept (structs : PlainStructs) (kept : ℕ → Option Layout) : Type 0 where
  pub right : AreRight structs kept
  pub known : AreKnown structs kept
