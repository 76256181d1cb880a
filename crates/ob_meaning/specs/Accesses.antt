-- Loads and stores (C99 6.5.3.2 and 6.5.16, and 6.5.6 for the bounds). An access through a pointer with a displacement goes
-- through these tests in order: the object is dead, the displacement or the offset lies too far out, the access goes astray. A
-- stray access is told first. Then it vanishes: a store changes nothing, and a load takes the next manufactured value. Under
-- the other rules it does so through null, through a freed object's pointer and where it is ill aligned; else it reaches a
-- granule of the object's own, which is read and written as an access inside does, or one outside of the object.
use Rattle.std.specs.Prelude.{ℕ, Bool, true, false, ◌||◌, nat_lt, ℤ, ◌+ℤ◌, List, length, Option, Some, None, is_some, unwrap_or, if◌then◌else◌}
use Rattle.ob_model.specs.declared.endings.Ending.TheVariants.{Far}
use Rattle.ob_model.specs.declared.strays.Act.{Act}
use Rattle.ob_model.specs.declared.strays.Act.TheVariants as act
use Rattle.ob_model.specs.declared.values.LoadKind.{LoadKind}
use Rattle.ob_model.specs.declared.values.Value.{Value}
use Rattle.ob_model.specs.declared.values.Value.TheVariants as value
use Rattle.ob_model.specs.Accesses.{Reach, bytes_of_kind, granule, is_far, reach, stray_event}
use Rattle.ob_model.specs.Accesses as reaches
use Rattle.ob_model.specs.Bounded.{after_load, after_store, dropped, listed_cell, put_first}
use Rattle.ob_model.specs.Cells.{unset}
use Rattle.ob_model.specs.Endings.{plain, dead, dropped as too_many}
use Rattle.ob_model.specs.Manufactured.{place_after}
use Rattle.ob_model.specs.Objects.{is_freed}
use Rattle.ob_meaning.specs.Memory.{Object, is_dead, object_at, own_cell, with_own_cell}
use Rattle.ob_meaning.specs.Values.{Cell, made_value, nothing, read_cell, write_cell}
use Rattle.ob_meaning.specs.World.{Rule, vanish, kept, unlimited, World, Run, stop, go, told}

-- ---- where an access goes

pub data Target : Type 0 where
  dead_object : Target
  too_far : Target
  at : (object : ℕ) (offset : ℤ) (reach : Reach) → Target

-- whether a rule keeps stray accesses
abbrev pub keeps : Rule → Bool
keeps vanish = false
keeps (kept cap) = true
keeps (unlimited cap) = true

-- how far an access of k bytes at an offset of an object reaches
abbrev pub reach_in : Rule → Object → ℤ → ℕ → Reach
reach_in rule o offset k = reach (keeps rule) (is_freed o.state) o.size offset k

-- through null the object is 0, the offset is the displacement, and the access goes astray
abbrev pub target_at : Rule → List Object → Value → ℤ → ℕ → Target
target_at rule objects (value.Ptr object offset) d k =
    if is_far (offset +ℤ d) then too_far
    else at object (offset +ℤ d) (reach_in rule (object_at objects object) (offset +ℤ d) k)
target_at rule objects value.Null d k = at 0 d reaches.vanishing
target_at rule objects (value.Num n) d k = at 0 d reaches.vanishing

abbrev pub target : Rule → List Object → Value → ℤ → ℕ → Target
target rule objects v d k =
    if is_dead objects v then dead_object else (if is_far d then too_far else target_at rule objects v d k)

-- ---- granules outside of objects

-- a granule that no store has reached has eight unset bytes
abbrev pub outside_cell : World → ℕ → ℤ → Cell
outside_cell w object g = unwrap_or (listed_cell object g w.outside) unset

-- a load brings a granule to the front of a bounded list
abbrev pub after_outside_load : Rule → ℕ → ℤ → World → World
after_outside_load vanish object g w = w
after_outside_load (kept cap) object g w = record w { outside = after_load object g w.outside }
after_outside_load (unlimited cap) object g w = w

-- the number of events at the first drop
abbrev pub first_drop : Option ℕ → Bool → ℕ → Option ℕ
first_drop (Some n) drops events = Some n
first_drop None true events = Some events
first_drop None false events = None

-- A store under a bounded rule may drop the least recently used granule. Under an unlimited rule the run ends instead of
-- keeping one granule more than the cap; the list has granules of live objects alone.
abbrev pub put_outside : Rule → ℕ → ℕ → ℤ → Cell → World → Run Value
put_outside vanish line object g cell w = go nothing w
put_outside (kept cap) line object g cell w =
    go nothing
    (record w {
      outside = after_store cap object g cell w.outside;
      first_drop = first_drop w.first_drop (is_some (dropped cap object g cell w.outside)) (length w.events);
    })
put_outside (unlimited cap) line object g cell w =
    if is_some (listed_cell object g w.outside) || nat_lt (length w.outside) cap
    then go nothing (record w { outside = put_first object g cell w.outside })
    else stop (too_many line) w

-- ---- loads

-- the next manufactured value is taken
abbrev pub take_made : List ℕ → LoadKind → World → Run Value
take_made cycle kind w =
    go (made_value kind cycle w.cycle_place) (record w { cycle_place = place_after cycle w.cycle_place })

-- where a byte that was read is unset, it is taken instead
abbrev pub or_made : Option Value → List ℕ → LoadKind → World → Run Value
or_made (Some v) cycle kind w = go v w
or_made None cycle kind w = take_made cycle kind w

abbrev pub load_own : List ℕ → LoadKind → ℕ → ℤ → World → Run Value
load_own cycle kind object offset w =
    or_made (read_cell kind offset (own_cell w.objects object (granule offset))) cycle kind w

abbrev pub load_outside : Rule → List ℕ → LoadKind → ℕ → ℤ → World → Run Value
load_outside rule cycle kind object offset w =
    or_made (read_cell kind offset (outside_cell w object (granule offset))) cycle kind
    (after_outside_load rule object (granule offset) w)

abbrev pub load_stray : Rule → List ℕ → LoadKind → ℕ → ℤ → Reach → World → Run Value
load_stray rule cycle kind object offset reaches.inside w = load_own cycle kind object offset w
load_stray rule cycle kind object offset reaches.own w = load_own cycle kind object offset w
load_stray rule cycle kind object offset reaches.outside w = load_outside rule cycle kind object offset w
load_stray rule cycle kind object offset reaches.vanishing w = take_made cycle kind w

-- ---- stores

abbrev pub store_own : LoadKind → ℕ → ℤ → Value → World → Run Value
store_own kind object offset v w =
    go nothing
    (record w {
      objects = with_own_cell w.objects object (granule offset) (write_cell kind offset v (own_cell w.objects object (granule offset)));
    })

abbrev pub store_outside : Rule → LoadKind → ℕ → ℕ → ℤ → Value → World → Run Value
store_outside rule kind line object offset v w =
    put_outside rule line object (granule offset) (write_cell kind offset v (outside_cell w object (granule offset))) w

abbrev pub store_stray : Rule → LoadKind → ℕ → ℕ → ℤ → Reach → Value → World → Run Value
store_stray rule kind line object offset reaches.inside v w = store_own kind object offset v w
store_stray rule kind line object offset reaches.own v w = store_own kind object offset v w
store_stray rule kind line object offset reaches.outside v w = store_outside rule kind line object offset v w
store_stray rule kind line object offset reaches.vanishing v w = go nothing w

-- ---- accesses

-- a stray access is told
abbrev pub told_if_stray : Reach → ℕ → Act → ℕ → ℤ → ℕ → World → World
told_if_stray reaches.inside line act object offset k w = w
told_if_stray reaches.own line act object offset k w = told (stray_event line act object offset k) w
told_if_stray reaches.outside line act object offset k w = told (stray_event line act object offset k) w
told_if_stray reaches.vanishing line act object offset k w = told (stray_event line act object offset k) w

abbrev pub load_at : Target → Rule → List ℕ → LoadKind → ℕ → World → Run Value
load_at dead_object rule cycle kind line w = stop (dead line) w
load_at too_far rule cycle kind line w = stop (plain Far) w
load_at (at object offset r) rule cycle kind line w =
    load_stray rule cycle kind object offset r (told_if_stray r line act.Load object offset (bytes_of_kind kind) w)

abbrev pub store_at : Target → Rule → LoadKind → ℕ → Value → World → Run Value
store_at dead_object rule kind line v w = stop (dead line) w
store_at too_far rule kind line v w = stop (plain Far) w
store_at (at object offset r) rule kind line v w =
    store_stray rule kind line object offset r v (told_if_stray r line act.Store object offset (bytes_of_kind kind) w)

-- a load through pointer p with displacement d, and a store of v there; a store gives nothing
abbrev pub load : Rule → List ℕ → LoadKind → ℕ → Value → ℤ → World → Run Value
load rule cycle kind line p d w = load_at (target rule w.objects p d (bytes_of_kind kind)) rule cycle kind line w

abbrev pub store : Rule → LoadKind → ℕ → Value → ℤ → Value → World → Run Value
store rule kind line p d v w = store_at (target rule w.objects p d (bytes_of_kind kind)) rule kind line v w
