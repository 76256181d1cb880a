-- Where an expression's place is: a word with the pointer to its base, and the displacement from there, which is a known number or
-- stands in a word of its own.
use Rattle.std.specs.Prelude.{ℕ, zero, ◌+◌, ◌==◌, Bool, true, false, nat_lt, ℤ, pos, ◌+ℤ◌, neg_ℤ, List, [], ◌∷◌, ◌++◌, Option, Some, None, if◌then◌else◌}
use Rattle.std.specs.Ordering.{int_eq}
use Rattle.ob_code.specs.declared.instructions.Instr.{Instr}
use Rattle.ob_code.specs.declared.instructions.Instr.TheVariants as instr
use Rattle.ob_meaning.specs.Pointers.{stride}
use Rattle.ob_lower.specs.Homes.{Context}
use Rattle.ob_lower.specs.Instructions.{Operand, free_after, in_word, set}
use Rattle.ob_lower.specs.Numbers.{is_near}

pub data Offset : Type 0 where
  known : (bytes : ℤ) → Offset
  in_own : (word : ℕ) → Offset

-- code, the base's word, the displacement, and the next free word
pub record Based : Type 0 where
  pub code : List Instr
  pub base : ℕ
  pub offset : Offset
  pub free : ℕ

-- the base of a known object, and a pointer's value
abbrev pub at_object : (ℕ → Instr) → ℕ → Based
at_object base d = record { code = base d ∷ []; base = d; offset = known (pos 0); free = d + 1 }

abbrev pub at_pointer : Operand → ℕ → Based
at_pointer o d = record { code = o.code; base = o.word; offset = known (pos 0); free = free_after o d }

-- ---- a displacement, and so many bytes more, in a word, where m is free

abbrev pub number_in : Context → ℤ → ℕ → Operand
number_in c n m = if int_eq n (pos 0) then in_word c.zero else record { code = set m n ∷ []; word = m }

abbrev pub further_in : ℕ → ℕ → ℕ → Operand
further_in w zero m = in_word w
further_in w more m = record { code = instr.SlideBy m w (pos more) ∷ []; word = m }

abbrev pub offset_in : Context → Offset → ℕ → ℕ → Operand
offset_in c (known k) more m = number_in c (k +ℤ pos more) m
offset_in c (in_own w) more m = further_in w more m

-- ---- members

abbrev pub member_known : Based → ℤ → ℕ → Based
member_known b k offset =
    if is_near (k +ℤ pos offset) then record b { offset = known (k +ℤ pos offset) }
    else record b {
      code = b.code ++ set b.free k ∷ instr.SlideBy b.free b.free (pos offset) ∷ [];
      offset = in_own b.free;
      free = b.free + 1;
    }

abbrev pub member_by : Based → Offset → ℕ → Based
member_by b (known k) offset = member_known b k offset
member_by b (in_own w) offset = record b { code = b.code ++ instr.SlideBy w w (pos offset) ∷ [] }

abbrev pub member : Based → ℕ → Based
member b offset = member_by b b.offset offset

-- ---- a number of elements further, or back

-- elements of a size, forward or back
abbrev pub signed : Bool → ℕ → ℤ
signed false scale = pos scale
signed true scale = neg_ℤ (pos scale)

-- the displacement gets into word t, and m is free
abbrev pub slide_code : Context → Offset → ℤ → (number t m : ℕ) → List Instr
slide_code c (known k) step number t m =
    (number_in c k m).code ++ instr.Slide t (number_in c k m).word number step ∷ []
slide_code c (in_own w) step number t m = instr.Slide t w number step ∷ []

abbrev pub slid : Based → List Instr → ℕ → ℕ → Based
slid b code t free = record b { code = b.code ++ code; offset = in_own t; free = free }

-- by a number that is evaluated after the base, with the base's own code before it
abbrev pub slid_after : Context → Based → Offset → Operand → ℤ → Based
slid_after c b (known k) o step =
    slid b (o.code ++ slide_code c (known k) step o.word b.free (free_after o b.free)) b.free (b.free + 1)
slid_after c b (in_own w) o step = slid b (o.code ++ slide_code c (in_own w) step o.word w b.free) w b.free

-- the displacement in word d and the base in the word after it, or in a variable's, and no word more: however deep places stand in
-- each other, they leave two words
abbrev pub base_in : ℕ → Based → Based
base_in w b =
    if b.base == w then record b { free = w + 1 }
    else record b { code = b.code ++ instr.Move w b.base ∷ []; base = w; free = w + 1 }

abbrev pub settled : ℕ → Based → Based
settled d b = if nat_lt b.base d then record b { free = d + 1 } else base_in (d + 1) b

-- by a number that was evaluated before the base, into the free word d or a variable's
abbrev pub number_before : Operand → Based → Based
number_before o b = record b { code = o.code ++ b.code }

abbrev pub slid_before : Context → Operand → Based → ℤ → ℕ → Based
slid_before c o b step d =
    if o.word == d then settled d (slid (number_before o b) (slide_code c b.offset step o.word d b.free) d b.free)
    else slid_after c (number_before o b) b.offset (in_word o.word) step

abbrev pub number_first : Context → Operand → (ℕ → Based) → ℤ → ℕ → Based
number_first c o base step d = slid_before c o (base (free_after o d)) step d

-- by a constant number the displacement stays known, where it is near; other numbers get a word
abbrev pub near_or_none : ℤ → Option ℤ
near_or_none k = if is_near k then Some k else None

abbrev pub known_step : Offset → (minus : Bool) → (scale : ℕ) → Option ℤ → Option ℤ
known_step (known k) minus scale (Some n) = near_or_none (k +ℤ stride minus scale n)
known_step _ minus scale _ = None

abbrev pub slid_to : Option ℤ → Based → (ℕ → Based) → Based
slid_to None b other = other b.free
slid_to (Some k) b other = record b { offset = known k }

-- a constant needs no word before the base
abbrev pub comes_first : (number_first : Bool) → Option ℤ → Bool
comes_first true None = true
comes_first _ n = false

abbrev pub first_or : Bool → (number base : ℕ → Based) → ℕ → Based
first_or true number base d = number d
first_or false number base d = base d

abbrev pub base_first : Context → Based → Option ℤ → (minus : Bool) → (scale : ℕ) → (ℕ → Operand) → Based
base_first c b n minus scale operand =
    slid_to (known_step b.offset minus scale n) b (λ f. slid_after c b b.offset (operand f) (signed minus scale))
