-- Moves, comparisons, the heap, input and output go alike with unlimited objects and with a bounded list: none of them sees
-- the granules outside of objects, but that a death takes those of an object away.
use Rattle.std.proofs.Common.{◌≡◌, ℕ, ◌≤◌, ◌==◌, Bool, not, nat_lt, ℤ, List, [], ◌∷◌, length, Option, Some, None, if◌then◌else◌, arith, refl, sym, subst, unsigned_abs}
use Rattle.std.proofs.lemmas.List.Sums.{count_by-le-length, length-filter}
use Rattle.ob_words.specs.declared.types.IntType.TheVariants.{UChar, Int, Long}
use Rattle.ob_words.specs.declared.types.Relation.{Relation}
use Rattle.ob_words.specs.declared.types.Relation.TheVariants as relation
use Rattle.ob_words.specs.Conversion.{convert}
use Rattle.ob_model.specs.declared.endings.Ending.TheVariants.{Ended, Far, Descriptors}
use Rattle.ob_model.specs.declared.strays.Act.TheVariants as act
use Rattle.ob_model.specs.declared.values.Value.{Value}
use Rattle.ob_model.specs.declared.values.Value.TheVariants as value
use Rattle.ob_model.specs.Accesses.{is_far, stray_event}
use Rattle.ob_model.specs.Bounded.{Listed, surviving_cells}
use Rattle.ob_model.specs.Descriptors.{Pair}
use Rattle.ob_model.specs.Endings.{InputEnd, closed, failed, plain, dead}
use Rattle.ob_model.specs.Heap.{place_for}
use Rattle.ob_model.specs.Pointers.{Moved, stays_null, too_far, in_bounds, out_of_bounds, difference, moved_by, pointers_compare}
use Rattle.ob_model.specs.declared.settings.Profile.{Profile}
use Rattle.ob_model.specs.declared.settings.Profile.TheVariants.{One, Two}
use Rattle.ob_meaning.specs.Heap.{allocated, allocated_at, exited, free, free_known, freed_under, frees_it, read_byte, write_byte}
use Rattle.ob_meaning.specs.Memory.{is_dead, object_at}
use Rattle.ob_meaning.specs.Pointers.{compared, formed, is_listed, listed, move, moved, one_is_dead, size_at, subtracted, uses_dead}
use Rattle.ob_meaning.specs.Values.{Cell, nothing, number_of, truth}
use Rattle.ob_meaning.specs.World.{World, Run, stop, go, end_of, told, without}
use Rattle.ob_meaning.proofs.Alike.{Acts, Alike, Beside, IsLater, alike_if, begins_more, begins_self, go_acts, if_acts, later_if, later_self, stop_acts, with_outside}
use Rattle.ob_meaning.proofs.AlikeAccesses.{later_told}
use Rattle.ob_meaning.proofs.SameMaps.{same-surviving}

module _ (cap : ℕ) where
  -- ---- displacements and moves

  pub formed_acts : {A : Type 0} (d : ℤ) (f g : ℤ → World → Run A) → ((e : ℤ) → Acts cap (f e) (g e)) → Acts cap (λ w. formed d w f) (λ w. formed d w g)
  formed_acts d f g each =
      if_acts cap (is_far d) (stop (plain Far)) (stop (plain Far)) (f d) (g d) (stop_acts cap Far) (each d)

  listed_acts : (away : ℕ) (pair : Pair) → Acts cap (listed away pair) (listed away pair)
  listed_acts away pair =
      let at : Value = value.Ptr pair.0 pair.1 in
      let more = λ (w : World). record w { out_of_bounds = pair ∷ w.out_of_bounds } in
      let new = λ (w : World). if nat_lt (length w.out_of_bounds) away then go at (more w) else stop (plain Descriptors) w in
      record {
        alike = λ w ks b.
            alike_if cap (is_listed pair w.out_of_bounds) (go at w) (go at (with_outside ks w)) (new w) (new (with_outside ks w)) (ks, refl, b)
            (alike_if cap (nat_lt (length w.out_of_bounds) away) (go at (more w)) (go at (more (with_outside ks w))) (stop (plain Descriptors) w) (stop (plain Descriptors) (with_outside ks w)) (ks, refl, b) (ks, refl, b));
        later = λ w.
            later_if cap w (is_listed pair w.out_of_bounds) (go at w) (new w) (later_self w)
            (later_if cap w (nat_lt (length w.out_of_bounds) away) (go at (more w)) (stop (plain Descriptors) w) (later_self w) (later_self w));
      }

  moved_acts : (away : ℕ) (m : Moved) → Acts cap (moved away m) (moved away m)
  moved_acts away stays_null = go_acts cap value.Null
  moved_acts away too_far = stop_acts cap Far
  moved_acts away (in_bounds object offset) = go_acts cap (value.Ptr object offset)
  moved_acts away (out_of_bounds object offset) = listed_acts away (object, offset)

  -- where a move leads depends on the objects alone
  moved_by_acts : (away : ℕ) (p : Value) (d : ℤ) → Acts cap (λ w. moved away (moved_by (size_at w.objects p) p d) w) (λ w. moved away (moved_by (size_at w.objects p) p d) w)
  moved_by_acts away p d =
      record {
        alike = λ w ks b. (moved_acts away (moved_by (size_at w.objects p) p d)).alike w ks b;
        later = λ w. (moved_acts away (moved_by (size_at w.objects p) p d)).later w;
      }

  -- an act that is not done where a test of the objects finds a dead pointer
  unless_dead : {A : Type 0} (test : World → Bool) (line : ℕ) (f g : World → Run A) → ((w : World) (ks : List (Listed Cell)) → test (with_outside ks w) ≡ test w) → Acts cap f g → Acts cap (λ w. if test w then stop (dead line) w else f w) (λ w. if test w then stop (dead line) w else g w)
  unless_dead test line f g same s =
      record {
        alike = λ w ks b.
            subst (λ (t : Bool). Alike cap (if test w then stop (dead line) w else f w) (if t then stop (dead line) (with_outside ks w) else g (with_outside ks w))) (sym (same w ks)) (alike_if cap (test w) (stop (dead line) w) (stop (dead line) (with_outside ks w)) (f w) (g (with_outside ks w)) (ks, refl, b) (s.alike w ks b));
        later = λ w. later_if cap w (test w) (stop (dead line) w) (g w) (later_self w) (s.later w);
      }

  pub move_acts : (away line : ℕ) (p : Value) (d : ℤ) → Acts cap (move away line p d) (move away line p d)
  move_acts away line p d =
      let on = λ (e : ℤ) (w : World). moved away (moved_by (size_at w.objects p) p e) w in
      unless_dead (λ w. is_dead w.objects p) line (λ w. formed d w on) (λ w. formed d w on) (λ w ks. refl) (formed_acts d on on (moved_by_acts away p))

  -- ---- comparisons

  pub compared_acts : (r : Relation) (line : ℕ) (p q : Value) → Acts cap (compared r line p q) (compared r line p q)
  compared_acts r line p q =
      unless_dead (λ w. uses_dead r w p q) line (go (truth (pointers_compare r p q))) (go (truth (pointers_compare r p q))) (λ w ks. uses_same r w ks) (go_acts cap (truth (pointers_compare r p q)))
    where
      uses_same : (r : Relation) (w : World) (ks : List (Listed Cell)) → uses_dead r (with_outside ks w) p q ≡ uses_dead r w p q
      uses_same relation.Lt w ks = refl
      uses_same relation.Gt w ks = refl
      uses_same relation.Le w ks = refl
      uses_same relation.Ge w ks = refl
      uses_same relation.Eq w ks = refl
      uses_same relation.Ne w ks = refl

  pub subtracted_acts : (size line : ℕ) (p q : Value) → Acts cap (subtracted size line p q) (subtracted size line p q)
  subtracted_acts size line p q =
      let v : Value = value.Num (convert Long (difference size p q)) in
      unless_dead (λ w. one_is_dead w p q) line (go v) (go v) (λ w ks. refl) (go_acts cap v)

  -- ---- the heap

  allocated_at_alike : (place : Option ℕ) (n : ℕ) (w : World) (ks : List (Listed Cell)) → Beside cap w ks → Alike cap (allocated_at place n w) (allocated_at place n (with_outside ks w))
  allocated_at_alike None n w ks b = (ks, refl, b)
  allocated_at_alike (Some place) n w ks b = (ks, refl, b)

  allocated_at_later : (place : Option ℕ) (n : ℕ) (w : World) → IsLater w (end_of (allocated_at place n w))
  allocated_at_later None n w = later_self w
  allocated_at_later (Some place) n w = later_self w

  pub allocated_acts : (heap n : ℕ) → Acts cap (allocated heap n) (allocated heap n)
  allocated_acts heap n =
      record {
        alike = λ w ks b. allocated_at_alike (place_for w.heap heap n) n w ks b;
        later = λ w. allocated_at_later (place_for w.heap heap n) n w;
      }

  -- deaths take the same granules away
  pub beside_without : (dies : ℕ → Bool) (w : World) (ks : List (Listed Cell)) → Beside cap w ks → Beside cap (without dies w) (surviving_cells dies ks)
  beside_without dies w ks b =
      let fewer : length (surviving_cells dies w.outside) ≤ length w.outside = rw (length-filter (λ e. not (dies e.object)) w.outside) (count_by-le-length (λ e. not (dies e.object)) w.outside) in
      (same-surviving dies w.outside ks b.0, omega (arith, fewer, b.1), b.2)

  -- an object that is freed, too
  freed_alike : (profile : Profile) (object : ℕ) (w : World) (ks : List (Listed Cell)) → Beside cap w ks → Alike cap (go nothing (freed_under profile object w)) (go nothing (freed_under profile object (with_outside ks w)))
  freed_alike One object w ks b =
      let dies = λ (other : ℕ). other == object in
      (surviving_cells dies ks, refl, beside_without dies w ks b)
  freed_alike Two object w ks b =
      let dies = λ (other : ℕ). other == object in
      (surviving_cells dies ks, refl, beside_without dies w ks b)

  freed_later : (profile : Profile) (object : ℕ) (w : World) → IsLater w (freed_under profile object w)
  freed_later One object w = later_self w
  freed_later Two object w = later_self w

  known_acts : (profile : Profile) (line : ℕ) (p : Value) → Acts cap (free_known profile line p) (free_known profile line p)
  known_acts profile line (value.Num n) = go_acts cap nothing
  known_acts profile line value.Null = go_acts cap nothing
  known_acts profile line (value.Ptr object offset) =
      let stray = stray_event line act.Free object offset 0 in
      record {
        alike = λ w ks b.
            alike_if cap (frees_it (object_at w.objects object) offset) (go nothing (freed_under profile object w)) (go nothing (freed_under profile object (with_outside ks w))) (go nothing (told stray w)) (go nothing (told stray (with_outside ks w))) (freed_alike profile object w ks b) (ks, refl, b);
        later = λ w.
            later_if cap w (frees_it (object_at w.objects object) offset) (go nothing (freed_under profile object w)) (go nothing (told stray w)) (freed_later profile object w) (later_told stray w);
      }

  pub free_acts : (profile : Profile) (line : ℕ) (p : Value) → Acts cap (free profile line p) (free profile line p)
  free_acts profile line p =
      unless_dead (λ w. is_dead w.objects p) line (free_known profile line p) (free_known profile line p) (λ w ks. refl) (known_acts profile line p)

  -- ---- input and output

  read_alike : (input_end : InputEnd) (input : List ℕ) (w : World) (ks : List (Listed Cell)) → Beside cap w ks → Alike cap (read_byte input_end input w) (read_byte input_end input (with_outside ks w))
  read_alike closed (byte ∷ rest) w ks b = (ks, refl, b)
  read_alike failed (byte ∷ rest) w ks b = (ks, refl, b)
  read_alike closed [] w ks b = (ks, refl, b)
  read_alike failed [] w ks b = (ks, refl, b)

  read_later : (input_end : InputEnd) (input : List ℕ) (w : World) → IsLater w (end_of (read_byte input_end input w))
  read_later closed (byte ∷ rest) w = later_self w
  read_later failed (byte ∷ rest) w = later_self w
  read_later closed [] w = later_self w
  read_later failed [] w = later_self w

  pub read_acts : (input_end : InputEnd) → Acts cap (λ w. read_byte input_end w.input w) (λ w. read_byte input_end w.input w)
  read_acts input_end =
      record { alike = λ w ks b. read_alike input_end w.input w ks b; later = λ w. read_later input_end w.input w }

  pub write_acts : (v : Value) → Acts cap (write_byte v) (write_byte v)
  write_acts v =
      record {
        alike = λ w ks b. (ks, refl, b);
        later = λ w. (begins_more w.output (unsigned_abs (convert UChar (number_of v)) ∷ []), begins_self w.events, λ n h. h);
      }

  pub exited_acts : (v : Value) → Acts cap (exited v) (exited v)
  exited_acts v = stop_acts cap (Ended (convert Int (number_of v)))
