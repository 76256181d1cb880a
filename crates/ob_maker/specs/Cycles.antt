-- The cycles of the makers: the numbers that they give, in order.
use Rattle.std.specs.Prelude.{◌≡◌, ℕ, zero, suc, List, [], ◌∷◌, length, refl}

-- so many times 0, 1 and a third number, which grows by one each time
unfoldable pub threes : ℕ → ℕ → List ℕ
threes zero third = []
threes (suc n) third = 0 ∷ 1 ∷ third ∷ threes n (suc third)

-- so many numbers, each one more than the one before
unfoldable pub rising : ℕ → ℕ → List ℕ
rising zero from = []
rising (suc n) from = from ∷ rising n (suc from)

-- 0, 1, 2, 0, 1, 3 and so on up to 0, 1, 255: 762 numbers
unfoldable pub small_cycle : List ℕ
small_cycle = threes 254 2

-- 0 alone
abbrev pub zero_cycle : List ℕ
zero_cycle = 0 ∷ []

-- 0 to 255
unfoldable pub count_cycle : List ℕ
count_cycle = rising 256 0

-- how many numbers these are
pub small_length : length small_cycle ≡ 762
unfolding small_cycle threes
small_length = refl

pub count_length : length count_cycle ≡ 256
unfolding count_cycle rising
count_length = refl
