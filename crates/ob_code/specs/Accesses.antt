-- Checked loads and stores. What becomes of an access depends on what its pointer names, its displacement and its size: it is
-- too far, at an address of the object, or astray. A stray access is told first. Then it vanishes in oblivious mode, through
-- null or a freed object's pointer, and where it is ill aligned; in boundless mode it goes on at a granule of the object's own,
-- or at one outside of the object.
use Rattle.std.specs.Prelude.{ℕ, List, ◌+◌, ◌-◌, ◌/◌, ◌%◌, true, ℤ, ◌+ℤ◌, unsigned_abs, Option, Some, None, unwrap_or, if◌then◌else◌}
use Rattle.std.specs.Option.{option_map}
use Rattle.ob_words.specs.declared.types.IntType.{IntType}
use Rattle.ob_words.specs.Fields.{low_bytes}
use Rattle.ob_words.specs.Types.{width}
use Rattle.ob_words.specs.Words.{word, number}
use Rattle.ob_model.specs.declared.objects.Entry.{Entry}
use Rattle.ob_model.specs.declared.settings.Mode.{Mode}
use Rattle.ob_model.specs.declared.strays.Act.{Act}
use Rattle.ob_model.specs.declared.strays.StrayEvent.{StrayEvent}
use Rattle.ob_model.specs.declared.values.LoadKind.{LoadKind}
use Rattle.ob_model.specs.declared.values.LoadKind.TheVariants.{Num, Ptr}
use Rattle.ob_model.specs.Accesses as reaches
use Rattle.ob_model.specs.Accesses.{is_far, granule, place_in_granule, Reach, reach, stray_event}
use Rattle.ob_model.specs.Bounded.{listed_cell, after_load, after_store}
use Rattle.ob_model.specs.Cells.{Content, pointer, unset, read_number, read_pointer, written}
use Rattle.ob_model.specs.Entries.{Known}
use Rattle.ob_model.specs.Manufactured.{manufactured_number}
use Rattle.ob_model.specs.Settings.{keeps_strays}
use Rattle.ob_flat.specs.Memory.{Memory, field, with_field, has_mark, with_mark, with_zeros}
use Rattle.ob_code.specs.Pointers.{Target, nothing, into, resolve}
use Rattle.ob_code.specs.State.{Space}

pub data Access : Type 0 where
  too_far : Access
  direct : (address : ℕ) → Access
  own : (object : ℕ) (offset : ℤ) (address : ℕ) → Access
  outside : (object : ℕ) (offset : ℤ) → Access
  vanishing : (object : ℕ) (offset : ℤ) → Access

-- an access of an object, by how far it reaches
abbrev pub access_by : Reach → Entry → ℤ → Access
access_by reaches.inside e offset = direct (e.base + unsigned_abs offset)
access_by reaches.own e offset = own e.object offset (e.base + unsigned_abs offset)
access_by reaches.outside e offset = outside e.object offset
access_by reaches.vanishing e offset = vanishing e.object offset

abbrev pub access_in : Mode → Known → ℤ → ℕ → Access
access_in mode known offset k =
    if is_far offset then too_far
    else access_by (reach (keeps_strays mode) known.freed known.entry.size offset k) known.entry offset

-- through null the object is 0 and the offset is the displacement
abbrev pub access_to : Mode → Target → ℤ → ℕ → Access
access_to mode nothing d k = vanishing 0 d
access_to mode (into known offset) d k = access_in mode known (offset +ℤ d) k

abbrev pub access : Mode → Space → ℕ → ℤ → ℕ → Access
access mode s w d k = if is_far d then too_far else access_to mode (resolve s w) d k

-- the word of a number's type that a number stands for
abbrev pub number_word : IntType → ℕ → ℕ
number_word t n = word (number t n)

-- what a load reads at an address: a number in a pointer's granule is 0, and a pointer among bytes is null
abbrev pub read_memory : LoadKind → Memory → ℕ → ℕ
read_memory (Num t) m address = if has_mark m address then 0 else number_word t (field m address (width t / 8))
read_memory Ptr m address = if has_mark m address then field m address 8 else 0

-- what a store writes at an address: a number's bytes, with the others of its granule 0 where a pointer stood there, or a
-- whole pointer
abbrev pub without_pointer : Memory → ℕ → Memory
without_pointer m address = if has_mark m address then with_zeros m (address - address % 8) 8 else m

abbrev pub write_memory : LoadKind → Memory → ℕ → ℕ → Memory
write_memory (Num t) m address w = with_field (without_pointer m address) address (width t / 8) w
write_memory Ptr m address w = with_mark (with_field m address 8 w) address true

-- the same in a granule outside of objects, where a load may find an unset byte
abbrev pub read_cell : LoadKind → ℤ → Content ℕ → Option ℕ
read_cell (Num t) offset c = option_map (number_word t) (read_number (width t / 8) (place_in_granule offset) c)
read_cell Ptr offset c = read_pointer 0 c

abbrev pub write_cell : LoadKind → ℤ → ℕ → Content ℕ → Content ℕ
write_cell (Num t) offset w c = written (place_in_granule offset) (low_bytes (width t / 8) w) c
write_cell Ptr offset w c = pointer w

-- what a load finds there: nothing where the granule isn't listed
abbrev pub read_listed : LoadKind → ℤ → Option (Content ℕ) → Option ℕ
read_listed kind offset None = None
read_listed kind offset (Some c) = read_cell kind offset c

abbrev pub read_outside : LoadKind → ℕ → ℤ → Space → Option ℕ
read_outside kind object offset s = read_listed kind offset (listed_cell object (granule offset) s.outside)

abbrev pub after_outside_load : ℕ → ℤ → Space → Space
after_outside_load object offset s = record s { outside = after_load object (granule offset) s.outside }

abbrev pub after_outside_store : ℕ → LoadKind → ℕ → ℤ → ℕ → Space → Space
after_outside_store cap kind object offset w s =
    record s { outside = after_store cap object (granule offset) (write_cell kind offset w (unwrap_or (listed_cell object (granule offset) s.outside) unset)) s.outside }

-- a manufactured value as a load of this kind gives it
abbrev pub made_word : LoadKind → List ℕ → ℕ → ℕ
made_word (Num t) cycle place = word (manufactured_number t cycle place)
made_word Ptr cycle place = 0

abbrev pub after_direct_store : LoadKind → ℕ → ℕ → Space → Space
after_direct_store kind address w s = record s { memory = write_memory kind s.memory address w }

-- ---- what an access does

-- the event of an access that goes astray
abbrev pub event_of : Access → ℕ → Act → ℕ → Option StrayEvent
event_of too_far line act size = None
event_of (direct address) line act size = None
event_of (own object offset address) line act size = Some (stray_event line act object offset size)
event_of (outside object offset) line act size = Some (stray_event line act object offset size)
event_of (vanishing object offset) line act size = Some (stray_event line act object offset size)

-- the word that a load finds, or none where it takes the next manufactured value
abbrev pub found_word : Access → LoadKind → Space → Option ℕ
found_word too_far kind s = None
found_word (direct address) kind s = Some (read_memory kind s.memory address)
found_word (own object offset address) kind s = Some (read_memory kind s.memory address)
found_word (outside object offset) kind s = read_outside kind object offset s
found_word (vanishing object offset) kind s = None

-- the space after a load, and after a store of a word
abbrev pub space_after_load : Access → Space → Space
space_after_load too_far s = s
space_after_load (direct address) s = s
space_after_load (own object offset address) s = s
space_after_load (outside object offset) s = after_outside_load object offset s
space_after_load (vanishing object offset) s = s

abbrev pub space_after_store : Access → ℕ → LoadKind → ℕ → Space → Space
space_after_store too_far cap kind w s = s
space_after_store (direct address) cap kind w s = after_direct_store kind address w s
space_after_store (own object offset address) cap kind w s = after_direct_store kind address w s
space_after_store (outside object offset) cap kind w s = after_outside_store cap kind object offset w s
space_after_store (vanishing object offset) cap kind w s = s
