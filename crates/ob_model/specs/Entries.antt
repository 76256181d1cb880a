-- The objects of a machine with one flat range of addresses, as a list in order of their bases. An address names the object
-- that it lies in, or one past whose end it lies (C99 6.5.6).
use Rattle.std.specs.Prelude.{ℕ, ◌+◌, Bool, true, false, ◌==◌, ◌&&◌, not, nat_le, nat_lt, List, [], ◌∷◌, map, Option}
use Rattle.std.specs.List.{filter, find}
use Rattle.ob_model.specs.declared.objects.Entry.{Entry}
use Rattle.ob_model.specs.Ordered.{before_or_after}

-- with one more
abbrev pub with_entry : Entry → List Entry → List Entry
with_entry e [] = e ∷ []
with_entry e (f ∷ fs) = before_or_after (nat_lt e.base f.base) e f fs (with_entry e fs)

-- without the one at a base
abbrev pub without_base : ℕ → List Entry → List Entry
without_base base entries = filter (λ e. not (e.base == base)) entries

-- the entries without those of the objects that die
abbrev pub surviving_entries : (ℕ → Bool) → List Entry → List Entry
surviving_entries dies entries = filter (λ e. not (dies e.object)) entries

-- the one at a base, of a number, and the one that an address names
abbrev pub at_base : ℕ → List Entry → Option Entry
at_base base entries = find (λ e. e.base == base) entries

abbrev pub of_object : ℕ → List Entry → Option Entry
of_object object entries = find (λ e. e.object == object) entries

abbrev pub holds_address : ℕ → Entry → Bool
holds_address address e = nat_le e.base address && nat_le address (e.base + e.size)

abbrev pub entry_at : ℕ → List Entry → Option Entry
entry_at address entries = find (holds_address address) entries

-- ---- live and freed objects

-- an object that the machine knows: it is live, or it was freed and stays known
pub record Known : Type 0 where
  pub entry : Entry
  pub freed : Bool

abbrev pub entries_of : List Known → List Entry
entries_of all = map (λ k. k.entry) all

-- with one more, which lives
abbrev pub with_known : Known → List Known → List Known
with_known k [] = k ∷ []
with_known k (l ∷ ls) = before_or_after (nat_lt k.entry.base l.entry.base) k l ls (with_known k ls)

abbrev pub with_live : Entry → List Known → List Known
with_live e all = with_known (record { entry = e; freed = false }) all

-- without those that die, and with one marked as freed
abbrev pub surviving_known : (ℕ → Bool) → List Known → List Known
surviving_known dies all = filter (λ k. not (dies k.entry.object)) all

abbrev pub freed_if : Bool → Known → Known
freed_if true k = record k { freed = true }
freed_if false k = k

abbrev pub with_freed : ℕ → List Known → List Known
with_freed object all = map (λ k. freed_if (k.entry.object == object) k) all

-- the one of a number, and the one that an address names
abbrev pub known_of : ℕ → List Known → Option Known
known_of object all = find (λ k. k.entry.object == object) all

abbrev pub known_at : ℕ → List Known → Option Known
known_at address all = find (λ k. holds_address address k.entry) all
