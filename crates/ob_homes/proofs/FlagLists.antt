-- Flags that are raised by nothing, by one thing after another, and by a single variable.
use Rattle.std.proofs.Common.{◌≡◌, ◌<◌, ℕ, zero, suc, ◌+◌, Bool, true, false, not, ◌||◌, ◌&&◌, List, [], ◌∷◌, Option, Some, None, length, ◌⊎◌, inl, inr, refl, ap, sym, ◌∙◌, arith}
use Rattle.std.specs.Prelude.{◌==◌, replicate, slice_get, slice_set}
use Rattle.std.proofs.lemmas.Bool.{eq-eqb}
use Rattle.std.proofs.lemmas.Bool.Decides.{nat_tests}
use Rattle.ob_tree.specs.Types.{PlainType}
use Rattle.ob_homes.specs.Flags.{flags_with, raise_at, raise_if}

or_none : (a : Bool) → (a || false) ≡ a
or_none true = refl
or_none false = refl

or_assoc : (a b c : Bool) → ((a || b) || c) ≡ (a || (b || c))
or_assoc true b c = refl
or_assoc false b c = refl

pub none_raised : (v : ℕ) (ts : List PlainType) (fs : List Bool) → flags_with (λ w t. false) v ts fs ≡ fs
none_raised v [] fs = refl
none_raised v (t ∷ ts) [] = refl
none_raised v (t ∷ ts) (f ∷ fs) = cc (or_none f, none_raised (v + 1) ts fs)

pub both_raised : (p q : ℕ → PlainType → Bool) (v : ℕ) (ts : List PlainType) (fs : List Bool) →
    flags_with q v ts (flags_with p v ts fs) ≡ flags_with (λ w t. p w t || q w t) v ts fs
both_raised p q v [] fs = refl
both_raised p q v (t ∷ ts) [] = refl
both_raised p q v (t ∷ ts) (f ∷ fs) = cc (or_assoc f (p v t) (q v t), both_raised p q (v + 1) ts fs)

-- one thing after another
pub two_raised : (p q : ℕ → PlainType → Bool) (ts : List PlainType) (fs mid last : List Bool) → mid ≡ flags_with p 0 ts fs → last ≡ flags_with q 0 ts mid →
    last ≡ flags_with (λ w t. p w t || q w t) 0 ts fs
two_raised p q ts fs mid last a b = b ∙ (ap (flags_with q 0 ts) a ∙ both_raised p q 0 ts fs)

pub alike_raised : (p q : ℕ → PlainType → Bool) → ((w : ℕ) (t : PlainType) → p w t ≡ q w t) → (v : ℕ) (ts : List PlainType) (fs : List Bool) →
    flags_with p v ts fs ≡ flags_with q v ts fs
alike_raised p q h v [] fs = refl
alike_raised p q h v (t ∷ ts) [] = refl
alike_raised p q h v (t ∷ ts) (f ∷ fs) = cc (h v t, alike_raised p q h (v + 1) ts fs)

-- ---- variable n

abbrev is_at : ℕ → (PlainType → Bool) → ℕ → PlainType → Bool
is_at n q w t = n == w && q t

other : (n v : ℕ) (b : Bool) → (n < v) ⊎ (v < n) → (n == v && b) ≡ false
other n v b h = grind (arith, nat_tests)

passed : (q : PlainType → Bool) (n v : ℕ) (ts : List PlainType) (fs : List Bool) → n < v → flags_with (is_at n q) v ts fs ≡ fs
passed q n v [] fs h = refl
passed q n v (t ∷ ts) [] h = refl
passed q n v (t ∷ ts) (f ∷ fs) h =
    let below : n < v + 1 = omega arith in
    cc (other n v (q t) (inl h), or_none f, passed q n (v + 1) ts fs below)

here_if : (b f : Bool) (fs : List Bool) → ((f || b) ∷ fs) ≡ raise_if b 0 (f ∷ fs)
here_if true true fs = refl
here_if true false fs = refl
here_if false f fs = ap (λ a. a ∷ fs) (or_none f)

here : (q : PlainType → Bool) (n v : ℕ) (t : PlainType) (f : Bool) (fs : List Bool) → n ≡ v → ((f || is_at n q v t) ∷ fs) ≡ raise_if (q t) 0 (f ∷ fs)
here q n v t f fs h = ap (λ a. (f || (a && q t)) ∷ fs) (eq-eqb n v h) ∙ here_if (q t) f fs

raised_none : (b : Bool) (k : ℕ) → raise_if b k [] ≡ []
raised_none true zero = refl
raised_none true (suc k) = refl
raised_none false k = refl

at_none : (q : PlainType → Bool) (o : Option PlainType) (k : ℕ) → [] ≡ raise_at q o k []
at_none q None k = refl
at_none q (Some t) k = sym (raised_none (q t) k)

raised_on : (b : Bool) (k : ℕ) (f : Bool) (fs : List Bool) → raise_if b (suc k) (f ∷ fs) ≡ f ∷ raise_if b k fs
raised_on true k f fs = refl
raised_on false k f fs = refl

at_on : (q : PlainType → Bool) (o : Option PlainType) (k : ℕ) (f : Bool) (fs : List Bool) → raise_at q o (suc k) (f ∷ fs) ≡ f ∷ raise_at q o k fs
at_on q None k f fs = refl
at_on q (Some t) k f fs = raised_on (q t) k f fs

pub one_raised : (q : PlainType → Bool) (n k v : ℕ) (ts : List PlainType) (fs : List Bool) → n ≡ v + k →
    flags_with (λ w t. n == w && q t) v ts fs ≡ raise_at q (slice_get ts k) k fs
one_raised q n k v [] fs h = refl
one_raised q n k v (t ∷ ts) [] h = at_none q (slice_get (t ∷ ts) k) k
one_raised q n zero v (t ∷ ts) (f ∷ fs) h =
    let same : n ≡ v = omega arith in
    let below : n < v + 1 = omega arith in
    ap (λ gs. (f || is_at n q v t) ∷ gs) (passed q n (v + 1) ts fs below) ∙ here q n v t f fs same
one_raised q n (suc k) v (t ∷ ts) (f ∷ fs) h =
    let above : v < n = omega arith in
    let next : n ≡ (v + 1) + k = omega arith in
    cc (other n v (q t) (inr above), or_none f, one_raised q n k (v + 1) ts fs next, at_on q (slice_get ts k) k f fs)

-- ---- one flag

pub flag_at : (p : ℕ → PlainType → Bool) (n k v : ℕ) (ts : List PlainType) (t : PlainType) → n ≡ v + k → slice_get ts k ≡ Some t →
    slice_get (flags_with p v ts (replicate (length ts) false)) k ≡ Some (p n t)
flag_at p n k v [] t e h = absurd (cc)
flag_at p n zero v (u ∷ ts) t e h =
    let same : n ≡ v = omega arith in
    cc
flag_at p n (suc k) v (u ∷ ts) t e h =
    let next : n ≡ (v + 1) + k = omega arith in
    flag_at p n k (v + 1) ts t next h
