-- Checked loads and stores of a space, over the definition of the machine.
use Rattle.std.specs.Prelude.{◌≡◌, ℕ, ◌+◌, ◌*◌, ◌≤◌, false, ℤ, List, Option, Some, None}
use Rattle.std.specs.List.{AllPairs, Contains}
use Rattle.ob_model.specs.declared.settings.Mode.TheVariants.{Boundless}
use Rattle.ob_model.specs.declared.strays.Act.TheVariants as act
use Rattle.ob_model.specs.declared.strays.StrayEvent.{StrayEvent}
use Rattle.ob_model.specs.declared.values.LoadKind.{LoadKind}
use Rattle.ob_model.specs.Accesses.{bytes_of_kind, granule, own_granules}
use Rattle.ob_model.specs.Bounded.{listed_cell}
use Rattle.ob_model.specs.Entries.{Known}
use Rattle.ob_model.specs.Manufactured.{place_after}
use Rattle.ob_code.specs.Accesses as accesses
use Rattle.ob_code.specs.Accesses.{Access, access, event_of, found_word, made_word, space_after_load, space_after_store}
use Rattle.ob_space.specs.Loaded.{Loaded, with_space}
use Rattle.ob_space.specs.Granules.{WritesGranule}

-- what becomes of an access through a word, displaced by so many bytes, and the event of one that goes astray
abbrev pub access_of : Loaded → ℕ → ℤ → LoadKind → Access
access_of s w d kind = access s.settings.mode s.space w d (bytes_of_kind kind)

abbrev pub load_event : Loaded → ℕ → ℤ → LoadKind → ℕ → Option StrayEvent
load_event s w d kind line = event_of (access_of s w d kind) line act.Load (bytes_of_kind kind)

abbrev pub store_event : Loaded → ℕ → ℤ → LoadKind → ℕ → Option StrayEvent
store_event s w d kind line = event_of (access_of s w d kind) line act.Store (bytes_of_kind kind)

-- ---- loads

-- what a load finds, or nothing where it takes the next manufactured value; the word that it gives then, and the place in the
-- cycle afterwards
abbrev pub found : Loaded → ℕ → ℤ → LoadKind → Option ℕ
found s w d kind = found_word (access_of s w d kind) kind s.space

abbrev pub given_word : Option ℕ → LoadKind → List ℕ → ℕ → ℕ
given_word None kind cycle place = made_word kind cycle place
given_word (Some w) kind cycle place = w

abbrev pub given_place : Option ℕ → List ℕ → ℕ → ℕ
given_place None cycle place = place_after cycle place
given_place (Some w) cycle place = place

-- a load brings a listed granule to the front, and changes nothing else
abbrev pub after_load : Loaded → ℕ → ℤ → LoadKind → Loaded
after_load s w d kind = with_space s (space_after_load (access_of s w d kind) s.space)

-- ---- stores

abbrev pub after_store : Loaded → ℕ → ℤ → LoadKind → ℕ → Loaded
after_store s w d kind value = with_space s (space_after_store (access_of s w d kind) s.settings.store kind value s.space)

-- memory is needed where strays are kept, at a granule outside of its object that isn't listed
abbrev pub IsUnlisted : Access → Loaded → Type 0
IsUnlisted (accesses.outside object offset) s = listed_cell object (granule offset) s.space.outside ≡ None
IsUnlisted _ s = ⊥

pub record NeedsMemory (s : Loaded) (w : ℕ) (d : ℤ) (kind : LoadKind) : Type 0 where
  pub boundless : s.settings.mode ≡ Boundless
  pub unlisted : IsUnlisted (access_of s w d kind) s

-- the bytes that a store names belong to a granule of a live object's own
pub record IsInLiveObject (s : Loaded) (address n : ℕ) : Type 0 where
  pub k : Known
  pub known : Contains s.space.entries k
  pub live : k.freed ≡ false
  pub begins : k.entry.base ≤ address
  pub ends : address + n ≤ k.entry.base + 8 * own_granules k.entry.size

-- a store that reaches a granule of its live object writes it, and no other byte or mark; any other store changes none
abbrev pub StoresAt : Access → LoadKind → ℕ → Loaded → Loaded → Type 0
StoresAt (accesses.direct address) kind value old new =
    IsInLiveObject old address (bytes_of_kind kind) × WritesGranule kind address value old.space.memory new.space.memory
StoresAt (accesses.own object offset address) kind value old new =
    IsInLiveObject old address (bytes_of_kind kind) × WritesGranule kind address value old.space.memory new.space.memory
StoresAt _ kind value old new = new.space.memory ≡ old.space.memory

-- ---- granules of two objects

-- the granules of one object end before the next object begins
abbrev pub GranulesEndBefore : Known → Known → Type 0
GranulesEndBefore k l = k.entry.base + 8 * own_granules k.entry.size ≤ l.entry.base

abbrev pub GranulesLieApart : List Known → Type 0
GranulesLieApart entries = AllPairs GranulesEndBefore entries
