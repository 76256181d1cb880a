-- Lists in order of a number, such as an address.
use Rattle.std.specs.Prelude.{Bool, true, false, List, ◌∷◌}

-- a before the list b ∷ bs, or else b before what a and bs make
abbrev pub before_or_after : {A : Type 0} → Bool → A → A → List A → List A → List A
before_or_after true a b bs with_later = a ∷ b ∷ bs
before_or_after false a b bs with_later = b ∷ with_later
