-- Loads, stores, moves, comparisons, the heap and the built-in functions go alike with unlimited objects and with a bounded list.
use Rattle.std.proofs.Common.{◌≡◌, ℕ, zero, suc, ◌<◌, ◌≤◌, Bool, true, false, ◌||◌, nat_lt, ℤ, List, [], ◌∷◌, length, slice_get, is_some, unwrap_or, Option, Some, None, if◌then◌else◌, arith, refl, sym, subst, ◌∙◌, ap}
use Rattle.std.proofs.lemmas.Bool.Decides.{nat_tests}
use Rattle.std.proofs.lemmas.List.{take_all}
use Rattle.std.proofs.lemmas.Option.{slice_get_past}
use Rattle.ob_model.specs.declared.strays.Act.{Act}
use Rattle.ob_model.specs.declared.strays.Act.TheVariants as act
use Rattle.ob_model.specs.declared.strays.StrayEvent.{StrayEvent}
use Rattle.ob_model.specs.declared.values.LoadKind.{LoadKind}
use Rattle.ob_model.specs.declared.values.Value.{Value}
use Rattle.ob_model.specs.Accesses.{Reach, bytes_of_kind, granule, stray_event}
use Rattle.ob_model.specs.Accesses as reaches
use Rattle.ob_model.specs.Bounded.{Listed, after_load, after_store, dropped, listed_cell, put_first, without_granule}
use Rattle.ob_model.specs.Cells.{unset}
use Rattle.ob_model.specs.Endings.{dropped as too_many}
use Rattle.ob_meaning.specs.Accesses.{Target, dead_object, too_far, at, target, outside_cell, first_drop, put_outside, or_made, load_outside, load_stray, store_outside, store_stray, told_if_stray, load_at, store_at, load, store}
use Rattle.ob_meaning.specs.Memory.{own_cell}
use Rattle.ob_meaning.specs.Values.{Cell, nothing, read_cell, write_cell}
use Rattle.ob_meaning.specs.World.{kept, unlimited, World, stop, go, end_of, told}
use Rattle.ob_meaning.proofs.Alike.{Acts, Alike, Beside, IsLater, begins_more, begins_self, later_self, later_then, with_outside}
use Rattle.ob_meaning.proofs.OutsideLists.{cell_in, length-without, listed_is, without-none}
use Rattle.ob_meaning.proofs.SameMaps.{SameMap, same-length, same-put, same-used}

-- ---- what is told and taken

pub later_told : (e : StrayEvent) (w : World) → IsLater w (told e w)
later_told e w = (begins_self w.output, begins_more w.events (e ∷ []), λ n h. h)

told_later : (r : Reach) (line : ℕ) (what : Act) (object : ℕ) (offset : ℤ) (k : ℕ) (w : World) → IsLater w (told_if_stray r line what object offset k w)
told_later reaches.inside line what object offset k w = later_self w
told_later reaches.own line what object offset k w = later_told (stray_event line what object offset k) w
told_later reaches.outside line what object offset k w = later_told (stray_event line what object offset k) w
told_later reaches.vanishing line what object offset k w = later_told (stray_event line what object offset k) w

module _ (cap : ℕ) where
  alike_or_made : (c : Option Value) (cycle : List ℕ) (kind : LoadKind) (w : World) (ks : List (Listed Cell)) → Beside cap w ks → Alike cap (or_made c cycle kind w) (or_made c cycle kind (with_outside ks w))
  alike_or_made (Some v) cycle kind w ks b = (ks, refl, b)
  alike_or_made None cycle kind w ks b = (ks, refl, b)

  same_cell : (o : ℕ) (g : ℤ) (w : World) (ks : List (Listed Cell)) → Beside cap w ks → outside_cell (with_outside ks w) o g ≡ outside_cell w o g
  same_cell o g w ks b =
      ap (λ (c : Option Cell). unwrap_or c unset) (listed_is o g ks ∙ sym (b.0.same o g) ∙ sym (listed_is o g w.outside))

  -- ---- a store outside of an object

  -- the bounded list has room for one more granule, or it lists this one already
  fits_put : (o : ℕ) (g : ℤ) (cell : Cell) (es ks : List (Listed Cell)) → SameMap es ks → length es ≤ cap → (is_some (listed_cell o g es) || nat_lt (length es) cap) ≡ true → length (put_first o g cell ks) ≤ cap
  fits_put o g cell es ks s room test = by_cell (listed_cell o g es) (sym (listed_is o g es)) test
    where
      by_cell : (c : Option Cell) → cell_in o g es ≡ c → (is_some c || nat_lt (length es) cap) ≡ true → suc (length (without_granule o g ks)) ≤ cap
      by_cell (Some c) found t =
          let fewer : suc (length (without_granule o g ks)) ≡ length ks = length-without o g c ks s.right (sym (s.same o g) ∙ found) in
          let same : length es ≡ length ks = same-length es ks s in
          omega arith
      by_cell None found t =
          let rest : length (without_granule o g ks) ≡ length ks = ap length (without-none o g ks (sym (s.same o g) ∙ found)) in
          let same : length es ≡ length ks = same-length es ks s in
          let below : length es < cap = grind (arith, nat_tests) in
          omega arith

  full_put : (o : ℕ) (g : ℤ) (cell : Cell) (es ks : List (Listed Cell)) → SameMap es ks → (is_some (listed_cell o g es) || nat_lt (length es) cap) ≡ false → cap < length (put_first o g cell ks)
  full_put o g cell es ks s test = by_cell (listed_cell o g es) (sym (listed_is o g es)) test
    where
      by_cell : (c : Option Cell) → cell_in o g es ≡ c → (is_some c || nat_lt (length es) cap) ≡ false → cap < suc (length (without_granule o g ks))
      by_cell (Some c) found t = absurd (cc)
      by_cell None found t =
          let rest : length (without_granule o g ks) ≡ length ks = ap length (without-none o g ks (sym (s.same o g) ∙ found)) in
          let same : length es ≡ length ks = same-length es ks s in
          let above : cap ≤ length es = grind (arith, nat_tests) in
          omega arith

  no_drop : (d : Option ℕ) (x : Option (Listed Cell)) (n : ℕ) → d ≡ None → x ≡ None → first_drop d (is_some x) n ≡ d
  no_drop None None n h k = refl
  no_drop None (Some e) n h k = absurd (cc)
  no_drop (Some m) x n h k = absurd (cc)

  one_drop : (d : Option ℕ) (x : Bool) (n : ℕ) → d ≡ None → x ≡ true → first_drop d x n ≡ Some n
  one_drop None true n h k = refl
  one_drop None false n h k = absurd (cc)
  one_drop (Some m) x n h k = absurd (cc)

  drop_stays : (d : Option ℕ) (x : Bool) (m n : ℕ) → d ≡ Some n → first_drop d x m ≡ Some n
  drop_stays (Some k) x m n h = h
  drop_stays None x m n h = absurd (cc)

  some_within : (xs : List (Listed Cell)) (n : ℕ) → n < length xs → is_some (slice_get xs n) ≡ true
  some_within [] n h = absurd (omega arith)
  some_within (x ∷ xs) zero h = refl
  some_within (x ∷ xs) (suc n) h = some_within xs n (omega arith)

  put_alike : (line o : ℕ) (g : ℤ) (cell : Cell) (w : World) (ks : List (Listed Cell)) → Beside cap w ks → Alike cap (put_outside (unlimited cap) line o g cell w) (put_outside (kept cap) line o g cell (with_outside ks w))
  put_alike line o g cell w ks b = by_test (is_some (listed_cell o g w.outside) || nat_lt (length w.outside) cap) refl
    where
      by_test : (t : Bool) → (is_some (listed_cell o g w.outside) || nat_lt (length w.outside) cap) ≡ t → Alike cap (if t then go nothing (record w { outside = put_first o g cell w.outside }) else stop (too_many line) w) (put_outside (kept cap) line o g cell (with_outside ks w))
      by_test true t =
          let fit = fits_put o g cell w.outside ks b.0 b.1 t in
          let all : after_store cap o g cell ks ≡ put_first o g cell ks = take_all cap (put_first o g cell ks) fit in
          let none : dropped cap o g cell ks ≡ None = slice_get_past (put_first o g cell ks) cap fit in
          let still = no_drop w.first_drop (dropped cap o g cell ks) (length w.events) b.2 none in
          let maps = same-put o g cell w.outside ks b.0 in (
            put_first o g cell ks,
            ap (λ (l : List (Listed Cell)). go nothing (record w { outside = l; first_drop = first_drop w.first_drop (is_some (dropped cap o g cell ks)) (length w.events) })) all
                ∙ ap (λ (d : Option ℕ). go nothing (record w { outside = put_first o g cell ks; first_drop = d })) still,
            (maps, omega (arith, same-length (put_first o g cell w.outside) (put_first o g cell ks) maps, fit), b.2),
          )
      by_test false t =
          let more = full_put o g cell w.outside ks b.0 t in (
            begins_self w.output,
            begins_self w.events,
            one_drop w.first_drop (is_some (dropped cap o g cell ks)) (length w.events) b.2 (some_within (put_first o g cell ks) cap more),
          )

  put_later : (line o : ℕ) (g : ℤ) (cell : Cell) (w : World) → IsLater w (end_of (put_outside (kept cap) line o g cell w))
  put_later line o g cell w =
      (begins_self w.output, begins_self w.events, λ n h. drop_stays w.first_drop (is_some (dropped cap o g cell w.outside)) (length w.events) n h)

  -- ---- loads

  or_made_later : (c : Option Value) (cycle : List ℕ) (kind : LoadKind) (w : World) → IsLater w (end_of (or_made c cycle kind w))
  or_made_later (Some v) cycle kind w = later_self w
  or_made_later None cycle kind w = later_self w

  load_outside_alike : (cycle : List ℕ) (kind : LoadKind) (o : ℕ) (a : ℤ) (w : World) (ks : List (Listed Cell)) → Beside cap w ks → Alike cap (load_outside (unlimited cap) cycle kind o a w) (load_outside (kept cap) cycle kind o a (with_outside ks w))
  load_outside_alike cycle kind o a w ks b =
      let after : List (Listed Cell) = after_load o (granule a) ks in
      subst (λ (c : Cell). Alike cap (load_outside (unlimited cap) cycle kind o a w) (or_made (read_cell kind a c) cycle kind (with_outside after w))) (sym (same_cell o (granule a) w ks b)) (alike_or_made (read_cell kind a (outside_cell w o (granule a))) cycle kind w after (same-used o (granule a) w.outside ks b.0, b.1, b.2))

  load_stray_alike : (cycle : List ℕ) (kind : LoadKind) (o : ℕ) (a : ℤ) (r : Reach) (w : World) (ks : List (Listed Cell)) → Beside cap w ks → Alike cap (load_stray (unlimited cap) cycle kind o a r w) (load_stray (kept cap) cycle kind o a r (with_outside ks w))
  load_stray_alike cycle kind o a reaches.inside w ks b =
      alike_or_made (read_cell kind a (own_cell w.objects o (granule a))) cycle kind w ks b
  load_stray_alike cycle kind o a reaches.own w ks b =
      alike_or_made (read_cell kind a (own_cell w.objects o (granule a))) cycle kind w ks b
  load_stray_alike cycle kind o a reaches.outside w ks b = load_outside_alike cycle kind o a w ks b
  load_stray_alike cycle kind o a reaches.vanishing w ks b = (ks, refl, b)

  load_stray_later : (cycle : List ℕ) (kind : LoadKind) (o : ℕ) (a : ℤ) (r : Reach) (w : World) → IsLater w (end_of (load_stray (kept cap) cycle kind o a r w))
  load_stray_later cycle kind o a reaches.inside w = or_made_later (read_cell kind a (own_cell w.objects o (granule a))) cycle kind w
  load_stray_later cycle kind o a reaches.own w = or_made_later (read_cell kind a (own_cell w.objects o (granule a))) cycle kind w
  load_stray_later cycle kind o a reaches.outside w =
      or_made_later (read_cell kind a (outside_cell w o (granule a))) cycle kind (with_outside (after_load o (granule a) w.outside) w)
  load_stray_later cycle kind o a reaches.vanishing w = later_self w

  -- what was told before an act
  beside_told : (r : Reach) (line : ℕ) (what : Act) (o : ℕ) (a : ℤ) (k : ℕ) (w : World) (ks : List (Listed Cell)) → Beside cap w ks → Beside cap (told_if_stray r line what o a k w) ks
  beside_told reaches.inside line what o a k w ks b = b
  beside_told reaches.own line what o a k w ks b = b
  beside_told reaches.outside line what o a k w ks b = b
  beside_told reaches.vanishing line what o a k w ks b = b

  told_beside : (r : Reach) (line : ℕ) (what : Act) (o : ℕ) (a : ℤ) (k : ℕ) (w : World) (ks : List (Listed Cell)) → told_if_stray r line what o a k (with_outside ks w) ≡ with_outside ks (told_if_stray r line what o a k w)
  told_beside reaches.inside line what o a k w ks = refl
  told_beside reaches.own line what o a k w ks = refl
  told_beside reaches.outside line what o a k w ks = refl
  told_beside reaches.vanishing line what o a k w ks = refl

  load_at_alike : (t : Target) (cycle : List ℕ) (kind : LoadKind) (line : ℕ) (w : World) (ks : List (Listed Cell)) → Beside cap w ks → Alike cap (load_at t (unlimited cap) cycle kind line w) (load_at t (kept cap) cycle kind line (with_outside ks w))
  load_at_alike dead_object cycle kind line w ks b = (ks, refl, b)
  load_at_alike too_far cycle kind line w ks b = (ks, refl, b)
  load_at_alike (at o a r) cycle kind line w ks b =
      let v : World = told_if_stray r line act.Load o a (bytes_of_kind kind) w in
      subst (λ (x : World). Alike cap (load_stray (unlimited cap) cycle kind o a r v) (load_stray (kept cap) cycle kind o a r x)) (sym (told_beside r line act.Load o a (bytes_of_kind kind) w ks)) (load_stray_alike cycle kind o a r v ks (beside_told r line act.Load o a (bytes_of_kind kind) w ks b))

  load_at_later : (t : Target) (cycle : List ℕ) (kind : LoadKind) (line : ℕ) (w : World) → IsLater w (end_of (load_at t (kept cap) cycle kind line w))
  load_at_later dead_object cycle kind line w = later_self w
  load_at_later too_far cycle kind line w = later_self w
  load_at_later (at o a r) cycle kind line w =
      let v : World = told_if_stray r line act.Load o a (bytes_of_kind kind) w in
      later_then w v (end_of (load_stray (kept cap) cycle kind o a r v)) (told_later r line act.Load o a (bytes_of_kind kind) w) (load_stray_later cycle kind o a r v)

  pub load_acts : (cycle : List ℕ) (kind : LoadKind) (line : ℕ) (p : Value) (d : ℤ) → Acts cap (load (unlimited cap) cycle kind line p d) (load (kept cap) cycle kind line p d)
  load_acts cycle kind line p d =
      record {
        alike = λ w ks b. load_at_alike (target (kept cap) w.objects p d (bytes_of_kind kind)) cycle kind line w ks b;
        later = λ w. load_at_later (target (kept cap) w.objects p d (bytes_of_kind kind)) cycle kind line w;
      }

  -- ---- stores

  store_outside_alike : (kind : LoadKind) (line o : ℕ) (a : ℤ) (v : Value) (w : World) (ks : List (Listed Cell)) → Beside cap w ks → Alike cap (store_outside (unlimited cap) kind line o a v w) (store_outside (kept cap) kind line o a v (with_outside ks w))
  store_outside_alike kind line o a v w ks b =
      subst (λ (c : Cell). Alike cap (store_outside (unlimited cap) kind line o a v w) (put_outside (kept cap) line o (granule a) (write_cell kind a v c) (with_outside ks w))) (sym (same_cell o (granule a) w ks b)) (put_alike line o (granule a) (write_cell kind a v (outside_cell w o (granule a))) w ks b)

  store_stray_alike : (kind : LoadKind) (line o : ℕ) (a : ℤ) (r : Reach) (v : Value) (w : World) (ks : List (Listed Cell)) → Beside cap w ks → Alike cap (store_stray (unlimited cap) kind line o a r v w) (store_stray (kept cap) kind line o a r v (with_outside ks w))
  store_stray_alike kind line o a reaches.inside v w ks b = (ks, refl, b)
  store_stray_alike kind line o a reaches.own v w ks b = (ks, refl, b)
  store_stray_alike kind line o a reaches.outside v w ks b = store_outside_alike kind line o a v w ks b
  store_stray_alike kind line o a reaches.vanishing v w ks b = (ks, refl, b)

  store_stray_later : (kind : LoadKind) (line o : ℕ) (a : ℤ) (r : Reach) (v : Value) (w : World) → IsLater w (end_of (store_stray (kept cap) kind line o a r v w))
  store_stray_later kind line o a reaches.inside v w = later_self w
  store_stray_later kind line o a reaches.own v w = later_self w
  store_stray_later kind line o a reaches.outside v w = put_later line o (granule a) (write_cell kind a v (outside_cell w o (granule a))) w
  store_stray_later kind line o a reaches.vanishing v w = later_self w

  store_at_alike : (t : Target) (kind : LoadKind) (line : ℕ) (v : Value) (w : World) (ks : List (Listed Cell)) → Beside cap w ks → Alike cap (store_at t (unlimited cap) kind line v w) (store_at t (kept cap) kind line v (with_outside ks w))
  store_at_alike dead_object kind line v w ks b = (ks, refl, b)
  store_at_alike too_far kind line v w ks b = (ks, refl, b)
  store_at_alike (at o a r) kind line v w ks b =
      let x : World = told_if_stray r line act.Store o a (bytes_of_kind kind) w in
      subst (λ (y : World). Alike cap (store_stray (unlimited cap) kind line o a r v x) (store_stray (kept cap) kind line o a r v y)) (sym (told_beside r line act.Store o a (bytes_of_kind kind) w ks)) (store_stray_alike kind line o a r v x ks (beside_told r line act.Store o a (bytes_of_kind kind) w ks b))

  store_at_later : (t : Target) (kind : LoadKind) (line : ℕ) (v : Value) (w : World) → IsLater w (end_of (store_at t (kept cap) kind line v w))
  store_at_later dead_object kind line v w = later_self w
  store_at_later too_far kind line v w = later_self w
  store_at_later (at o a r) kind line v w =
      let x : World = told_if_stray r line act.Store o a (bytes_of_kind kind) w in
      later_then w x (end_of (store_stray (kept cap) kind line o a r v x)) (told_later r line act.Store o a (bytes_of_kind kind) w) (store_stray_later kind line o a r v x)

  pub store_acts : (kind : LoadKind) (line : ℕ) (p : Value) (d : ℤ) (v : Value) → Acts cap (store (unlimited cap) kind line p d v) (store (kept cap) kind line p d v)
  store_acts kind line p d v =
      record {
        alike = λ w ks b. store_at_alike (target (kept cap) w.objects p d (bytes_of_kind kind)) kind line v w ks b;
        later = λ w. store_at_later (target (kept cap) w.objects p d (bytes_of_kind kind)) kind line v w;
      }
