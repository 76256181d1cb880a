-- The types of a structure's parts are those of its members.
use Rattle.std.proofs.Common.{◌≡◌, ℕ, zero, suc, Option, Some, List, [], ◌∷◌, slice_get, option_map, refl, ap, ◌∙◌}
use Rattle.ob_tree.specs.Types.{PlainMember, PlainStruct, PlainStructs}
use Rattle.ob_tree.specs.Sizes.{Layout, appended, laid, layout, no_layout}
use Rattle.ob_tree.specs.Parts.{member_part, row_part}
use Rattle.ob_typed.specs.Initialisers.{type_of}

member_type : (s : PlainStructs) (l : Layout) (ms : List PlainMember) (i : ℕ) → option_map (λ m. m.ty) (slice_get ms i) ≡ type_of (member_part s l ms i)
member_type s l [] zero = refl
member_type s l [] (suc i) = refl
member_type s l (m ∷ ms) zero = refl
member_type s l (m ∷ ms) (suc i) = member_type s (appended l (laid (layout s m.ty))) ms i

-- of a structure that there is
pub row_type : (s : PlainStructs) (o : Option PlainStruct) (r : PlainStruct) (i : ℕ) → Some r ≡ o → option_map (λ m. m.ty) (slice_get r.members i) ≡ type_of (row_part s o i)
row_type s o r i h = member_type s no_layout r.members i ∙ ap (λ q. type_of (row_part s q i)) h
