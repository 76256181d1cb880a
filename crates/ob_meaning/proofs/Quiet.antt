-- Acts that take no step and drop nothing.
use Rattle.std.proofs.Common.{◌≡◌, ℕ, ◌||◌, Bool, true, false, nat_lt, ℤ, List, [], ◌∷◌, length, is_some, Option, Some, None, if◌then◌else◌, refl}
use Rattle.ob_words.specs.declared.types.IntType.TheVariants.{Long}
use Rattle.ob_words.specs.declared.types.Relation.{Relation}
use Rattle.ob_words.specs.Conversion.{convert}
use Rattle.ob_model.specs.declared.endings.Ending.TheVariants.{Far, Descriptors}
use Rattle.ob_model.specs.declared.strays.Act.TheVariants as act
use Rattle.ob_model.specs.declared.values.LoadKind.{LoadKind}
use Rattle.ob_model.specs.declared.values.Value.{Value}
use Rattle.ob_model.specs.declared.values.Value.TheVariants as value
use Rattle.ob_model.specs.Accesses.{Reach, bytes_of_kind, granule, is_far, stray_event}
use Rattle.ob_model.specs.Accesses as reaches
use Rattle.ob_model.specs.Bounded.{listed_cell, put_first}
use Rattle.ob_model.specs.Descriptors.{Pair}
use Rattle.ob_model.specs.Endings.{Finish, InputEnd, closed, failed, plain, dead, dropped}
use Rattle.ob_model.specs.Heap.{place_for}
use Rattle.ob_model.specs.Pointers.{Moved, stays_null, too_far as far, in_bounds, out_of_bounds, difference, moved_by, pointers_compare}
use Rattle.ob_model.specs.declared.settings.Profile.{Profile}
use Rattle.ob_model.specs.declared.settings.Profile.TheVariants.{One, Two}
use Rattle.ob_meaning.specs.Accesses.{Target, dead_object, too_far, at, after_outside_load, load, load_at, or_made, outside_cell, put_outside, store, store_at, target}
use Rattle.ob_meaning.specs.Heap.{allocated, allocated_at, free, free_known, freed_under, frees_it, read_byte}
use Rattle.ob_meaning.specs.Memory.{is_dead, object_at, own_cell}
use Rattle.ob_meaning.specs.Pointers.{compared, is_listed, listed, move, moved, one_is_dead, size_at, subtracted, uses_dead}
use Rattle.ob_meaning.specs.Values.{Cell, nothing, read_cell, truth, write_cell}
use Rattle.ob_meaning.specs.World.{Rule, vanish, kept, unlimited, World, Run, stop, go, end_of, told}

-- no step was taken, and nothing was dropped
abbrev pub IsStill : World → World → Type 0
IsStill w v = (v.left ≡ w.left) × (v.first_drop ≡ w.first_drop)

abbrev pub IsNoDrop : Finish → Type 0
IsNoDrop (plain e) = Unit {0}
IsNoDrop (dead line) = Unit {0}
IsNoDrop (dropped line) = ⊥

abbrev pub Quiet : {A : Type 0} → World → Run A → Type 0
Quiet {A} w (go a v) = IsStill w v
Quiet {A} w (stop finish v) = IsNoDrop finish × IsStill w v

pub quiet_if : {A : Type 0} (w : World) (b : Bool) (r s : Run A) → Quiet w r → Quiet w s → Quiet w (if b then r else s)
quiet_if w true r s x y = x
quiet_if w false r s x y = y

-- ---- loads and stores

quiet_made : (c : Option Value) (cycle : List ℕ) (kind : LoadKind) (w v : World) → IsStill w v → Quiet w (or_made c cycle kind v)
quiet_made (Some x) cycle kind w v s = s
quiet_made None cycle kind w v s = s

quiet_used : (rule : Rule) (object : ℕ) (g : ℤ) (w v : World) → IsStill w v → IsStill w (after_outside_load rule object g v)
quiet_used vanish object g w v s = s
quiet_used (kept cap) object g w v s = s
quiet_used (unlimited cap) object g w v s = s

quiet_load_at : (t : Target) (rule : Rule) (cycle : List ℕ) (kind : LoadKind) (line : ℕ) (w : World) → Quiet w (load_at t rule cycle kind line w)
quiet_load_at dead_object rule cycle kind line w = (tt, (refl, refl))
quiet_load_at too_far rule cycle kind line w = (tt, (refl, refl))
quiet_load_at (at o a reaches.inside) rule cycle kind line w =
    quiet_made (read_cell kind a (own_cell w.objects o (granule a))) cycle kind w w (refl, refl)
quiet_load_at (at o a reaches.own) rule cycle kind line w =
    let v : World = told (stray_event line act.Load o a (bytes_of_kind kind)) w in
    quiet_made (read_cell kind a (own_cell w.objects o (granule a))) cycle kind w v (refl, refl)
quiet_load_at (at o a reaches.outside) rule cycle kind line w =
    let v : World = told (stray_event line act.Load o a (bytes_of_kind kind)) w in
    quiet_made (read_cell kind a (outside_cell v o (granule a))) cycle kind w (after_outside_load rule o (granule a) v) (quiet_used rule o (granule a) w v (refl, refl))
quiet_load_at (at o a reaches.vanishing) rule cycle kind line w = (refl, refl)

pub quiet_load : (rule : Rule) (cycle : List ℕ) (kind : LoadKind) (line : ℕ) (p : Value) (d : ℤ) (w : World) → Quiet w (load rule cycle kind line p d w)
quiet_load rule cycle kind line p d w = quiet_load_at (target rule w.objects p d (bytes_of_kind kind)) rule cycle kind line w

quiet_store_at : (t : Target) (kind : LoadKind) (line : ℕ) (v : Value) (w : World) → Quiet w (store_at t vanish kind line v w)
quiet_store_at dead_object kind line v w = (tt, (refl, refl))
quiet_store_at too_far kind line v w = (tt, (refl, refl))
quiet_store_at (at o a reaches.inside) kind line v w = (refl, refl)
quiet_store_at (at o a reaches.own) kind line v w = (refl, refl)
quiet_store_at (at o a reaches.outside) kind line v w = (refl, refl)
quiet_store_at (at o a reaches.vanishing) kind line v w = (refl, refl)

pub quiet_store : (kind : LoadKind) (line : ℕ) (p : Value) (d : ℤ) (v : Value) (w : World) → Quiet w (store vanish kind line p d v w)
quiet_store kind line p d v w = quiet_store_at (target vanish w.objects p d (bytes_of_kind kind)) kind line v w

-- a store takes no step under any rule
left_put : (rule : Rule) (line o : ℕ) (g : ℤ) (cell : Cell) (w : World) → (end_of (put_outside rule line o g cell w)).left ≡ w.left
left_put vanish line o g cell w = refl
left_put (kept cap) line o g cell w = refl
left_put (unlimited cap) line o g cell w = by_test (is_some (listed_cell o g w.outside) || nat_lt (length w.outside) cap)
  where
    by_test : (b : Bool) → (end_of (if b then go nothing (record w { outside = put_first o g cell w.outside }) else stop (dropped line) w)).left ≡ w.left
    by_test true = refl
    by_test false = refl

left_store_at : (t : Target) (rule : Rule) (kind : LoadKind) (line : ℕ) (v : Value) (w : World) → (end_of (store_at t rule kind line v w)).left ≡ w.left
left_store_at dead_object rule kind line v w = refl
left_store_at too_far rule kind line v w = refl
left_store_at (at o a reaches.inside) rule kind line v w = refl
left_store_at (at o a reaches.own) rule kind line v w = refl
left_store_at (at o a reaches.outside) rule kind line v w =
    let x : World = told (stray_event line act.Store o a (bytes_of_kind kind)) w in
    left_put rule line o (granule a) (write_cell kind a v (outside_cell x o (granule a))) x
left_store_at (at o a reaches.vanishing) rule kind line v w = refl

pub left_store : (rule : Rule) (kind : LoadKind) (line : ℕ) (p : Value) (d : ℤ) (v : Value) (w : World) → (end_of (store rule kind line p d v w)).left ≡ w.left
left_store rule kind line p d v w = left_store_at (target rule w.objects p d (bytes_of_kind kind)) rule kind line v w

-- ---- pointers

quiet_listed : (away : ℕ) (pair : Pair) (w : World) → Quiet w (listed away pair w)
quiet_listed away pair w =
    let at : Value = value.Ptr pair.0 pair.1 in
    let more : World = record w { out_of_bounds = pair ∷ w.out_of_bounds } in
    quiet_if w (is_listed pair w.out_of_bounds) (go at w) (if nat_lt (length w.out_of_bounds) away then go at more else stop (plain Descriptors) w) (refl, refl) (quiet_if w (nat_lt (length w.out_of_bounds) away) (go at more) (stop (plain Descriptors) w) (refl, refl) (tt, (refl, refl)))

quiet_moved : (away : ℕ) (m : Moved) (w : World) → Quiet w (moved away m w)
quiet_moved away stays_null w = (refl, refl)
quiet_moved away far w = (tt, (refl, refl))
quiet_moved away (in_bounds object offset) w = (refl, refl)
quiet_moved away (out_of_bounds object offset) w = quiet_listed away (object, offset) w

pub quiet_move : (away line : ℕ) (p : Value) (d : ℤ) (w : World) → Quiet w (move away line p d w)
quiet_move away line p d w =
    let m : Moved = moved_by (size_at w.objects p) p d in
    quiet_if w (is_dead w.objects p) (stop (dead line) w) (if is_far d then stop (plain Far) w else moved away m w) (tt, (refl, refl)) (quiet_if w (is_far d) (stop (plain Far) w) (moved away m w) (tt, (refl, refl)) (quiet_moved away m w))

pub quiet_compared : (r : Relation) (line : ℕ) (p q : Value) (w : World) → Quiet w (compared r line p q w)
quiet_compared r line p q w =
    quiet_if w (uses_dead r w p q) (stop (dead line) w) (go (truth (pointers_compare r p q)) w) (tt, (refl, refl)) (refl, refl)

pub quiet_subtracted : (size line : ℕ) (p q : Value) (w : World) → Quiet w (subtracted size line p q w)
quiet_subtracted size line p q w =
    quiet_if w (one_is_dead w p q) (stop (dead line) w) (go (value.Num (convert Long (difference size p q))) w) (tt, (refl, refl)) (refl, refl)

-- ---- the heap and the input

quiet_allocated_at : (place : Option ℕ) (n : ℕ) (w : World) → Quiet w (allocated_at place n w)
quiet_allocated_at None n w = (refl, refl)
quiet_allocated_at (Some place) n w = (refl, refl)

pub quiet_allocated : (heap n : ℕ) (w : World) → Quiet w (allocated heap n w)
quiet_allocated heap n w = quiet_allocated_at (place_for w.heap heap n) n w

quiet_freed : (profile : Profile) (object : ℕ) (w : World) → Quiet w (go nothing (freed_under profile object w))
quiet_freed One object w = (refl, refl)
quiet_freed Two object w = (refl, refl)

quiet_known : (profile : Profile) (line : ℕ) (p : Value) (w : World) → Quiet w (free_known profile line p w)
quiet_known profile line (value.Num n) w = (refl, refl)
quiet_known profile line value.Null w = (refl, refl)
quiet_known profile line (value.Ptr object offset) w =
    quiet_if w (frees_it (object_at w.objects object) offset) (go nothing (freed_under profile object w)) (go nothing (told (stray_event line act.Free object offset 0) w)) (quiet_freed profile object w) (refl, refl)

pub quiet_free : (profile : Profile) (line : ℕ) (p : Value) (w : World) → Quiet w (free profile line p w)
quiet_free profile line p w =
    quiet_if w (is_dead w.objects p) (stop (dead line) w) (free_known profile line p w) (tt, (refl, refl)) (quiet_known profile line p w)

pub quiet_read : (input_end : InputEnd) (input : List ℕ) (w : World) → Quiet w (read_byte input_end input w)
quiet_read closed (byte ∷ rest) w = (refl, refl)
quiet_read failed (byte ∷ rest) w = (refl, refl)
quiet_read closed [] w = (refl, refl)
quiet_read failed [] w = (tt, (refl, refl))
