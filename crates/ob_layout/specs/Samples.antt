-- Types to try the definitions on.
use Rattle.std.specs.Prelude.{ℕ, true, false, [], ◌∷◌}
use Rattle.ob_words.specs.declared.types.IntType.TheVariants.{Char, Short, Int}
use Rattle.ob_tree.specs.Types.{PlainType, PlainMember, PlainStruct, PlainStructs}

abbrev pub chars : ℕ → PlainType
chars n = PlainType.Array (PlainType.Int Char) n

abbrev pub named : ℕ → PlainType → PlainMember
named letter t = record { name = letter ∷ []; ty = t }

-- struct { char c; int i; short s; };
abbrev pub mixed : PlainStruct
mixed = record { complete = true; members = named 99 (PlainType.Int Char) ∷ (named 105 (PlainType.Int Int) ∷ (named 115 (PlainType.Int Short) ∷ [])) }

-- struct { char c; struct mixed m[3]; struct node *p; };
abbrev pub outer : PlainStruct
outer = record {
  complete = true;
  members = named 99 (PlainType.Int Char) ∷ (named 109 (PlainType.Array (PlainType.Struct 0) 3) ∷ (named 112 (PlainType.Pointer (PlainType.Struct 2)) ∷ []));
}

-- struct node { struct node n; }, which C99 refuses, and a structure without its members
abbrev pub endless : PlainStruct
endless = record { complete = true; members = named 110 (PlainType.Struct 2) ∷ [] }

abbrev pub unknown : PlainStruct
unknown = record { complete = false; members = [] }

abbrev pub samples : PlainStructs
samples = mixed ∷ (outer ∷ (endless ∷ (unknown ∷ [])))
