-- Granules outside of objects have eight bytes, and what is stored in one is loaded from it while objects are unlimited.
use Rattle.std.proofs.Common.{◌≡◌, ℕ, suc, ◌+◌, ◌/◌, ◌%◌, ◌≤◌, ◌==◌, ◌&&◌, ◌||◌, cond, Bool, true, false, not, nat_lt, ℤ, pos, negsuc, ◌+ℤ◌, List, [], ◌∷◌, length, map, take, replicate, Option, Some, None, is_some, unwrap_or, if◌then◌else◌, All, arith, refl, sym, subst, ◌∙◌, ap, length-append}
use Rattle.std.proofs.lemmas.Bool.Decides.{nat_tests}
use Rattle.std.proofs.lemmas.List.{length-drop, length-take-le}
use Rattle.std.proofs.lemmas.List.Elements.{All-cons, All-filter, All-head, All-tail, All-take}
use Rattle.ob_words.specs.declared.types.IntType.TheVariants.{Char, SChar, UChar, Short, UShort, Int, UInt, Long, ULong, LLong, ULLong}
use Rattle.ob_words.specs.Fields.{low_bytes}
use Rattle.ob_words.specs.Types.{width}
use Rattle.ob_words.specs.Words.{word}
use Rattle.ob_words.proofs.Writes.{length-low_bytes}
use Rattle.ob_model.specs.declared.strays.Act.TheVariants as act
use Rattle.ob_model.specs.declared.values.LoadKind.{LoadKind}
use Rattle.ob_model.specs.declared.values.LoadKind.TheVariants.{Num, Ptr}
use Rattle.ob_model.specs.declared.values.Value.{Value}
use Rattle.ob_model.specs.declared.values.Value.TheVariants as value
use Rattle.ob_model.specs.Accesses.{Reach, bytes_of_kind, granule, is_aligned, is_far, is_inside, is_own, place_in_granule, reach_if, stray_event, stray_reach}
use Rattle.ob_model.specs.Accesses as reaches
use Rattle.ob_model.specs.Bounded.{Listed, after_load, is_of, listed_cell, moved_to_front, put_first, without_granule}
use Rattle.ob_model.specs.Cells.{bytes, has_eight, pointer, put_bytes, unset, written}
use Rattle.ob_model.specs.Endings.{dropped as too_many}
use Rattle.ob_model.specs.Objects.{is_freed}
use Rattle.ob_meaning.specs.Accesses.{Target, at, keeps, load, load_at, or_made, outside_cell, put_outside, reach_in, store, store_at, too_far}
use Rattle.ob_meaning.specs.Memory.{Object, object_at}
use Rattle.ob_meaning.specs.MemoryLaws.{GoesOutside, Reaches, StoredOutsideIsLoaded, as_stored, event_of}
use Rattle.ob_meaning.specs.Values.{Cell, nothing, number_of, read_cell, write_cell}
use Rattle.ob_meaning.specs.World.{Rule, vanish, kept, unlimited, World, stop, go, end_of, told}
use Rattle.ob_meaning.proofs.OutsideLists.{cell_in, listed_is}
use Rattle.ob_meaning.proofs.ReadBack.{cell_back, fits_granule}
use Rattle.ob_meaning.proofs.SameMaps.{cell-put}
use Rattle.ob_meaning.proofs.Stores.{by_target}
use Rattle.ob_meaning.proofs.Strays.{goes_outside}

-- ---- eight bytes

length_some : (zs : List ℕ) → length (map Some zs) ≡ length zs
length_some [] = refl
length_some (z ∷ zs) = ap suc (length_some zs)

put_eight : (place : ℕ) (bs : List ℕ) (es : List (Option ℕ)) → length es ≡ 8 → place + length bs ≤ 8 → length (put_bytes place bs es) ≡ 8
put_eight place bs es h fits =
    let front : length (take place es) ≡ place = length-take-le place es (omega arith) in
    simp (length-append, length-drop, front, length_some) (omega arith)

eight_test : (es : List (Option ℕ)) → length es ≡ 8 → (length es == 8) ≡ true
eight_test es h = grind (arith, nat_tests)

written_eight : (place : ℕ) (bs : List ℕ) (c : Cell) → has_eight c ≡ true → place + length bs ≤ 8 → has_eight (written place bs c) ≡ true
written_eight place bs (pointer p) h fits =
    eight_test (put_bytes place bs (replicate 8 (Some 0))) (put_eight place bs (replicate 8 (Some 0)) refl fits)
written_eight place bs (bytes es) h fits =
    eight_test (put_bytes place bs es) (put_eight place bs es (grind (arith, nat_tests)) fits)

write_eight : (kind : LoadKind) (o : ℤ) (v : Value) (c : Cell) → has_eight c ≡ true → place_in_granule o + bytes_of_kind kind ≤ 8 → has_eight (write_cell kind o v c) ≡ true
write_eight (Num t) o v c h fits =
    written_eight (place_in_granule o) (low_bytes (width t / 8) (word (number_of v))) c h (omega (arith, length-low_bytes (width t / 8) (word (number_of v))))
write_eight Ptr o v c h fits = refl

-- an aligned access lies in one granule, also before its object
negative_fits : (kind : LoadKind) (n : ℕ) → suc n % bytes_of_kind kind ≡ 0 → place_in_granule (negsuc n) + bytes_of_kind kind ≤ 8
negative_fits (Num Char) n h = omega arith
negative_fits (Num SChar) n h = omega arith
negative_fits (Num UChar) n h = omega arith
negative_fits (Num Short) n h = omega arith
negative_fits (Num UShort) n h = omega arith
negative_fits (Num Int) n h = omega arith
negative_fits (Num UInt) n h = omega arith
negative_fits (Num Long) n h = omega arith
negative_fits (Num ULong) n h = omega arith
negative_fits (Num LLong) n h = omega arith
negative_fits (Num ULLong) n h = omega arith
negative_fits Ptr n h = omega arith

pub place_fits : (kind : LoadKind) (o : ℤ) → is_aligned o (bytes_of_kind kind) ≡ true → place_in_granule o + bytes_of_kind kind ≤ 8
place_fits kind (pos n) h = fits_granule kind n (grind (arith, nat_tests))
place_fits kind (negsuc n) h = negative_fits kind n (grind (arith, nat_tests))

-- ---- lists of granules

abbrev pub Eight : Listed Cell → Type 0
Eight e = has_eight e.cell ≡ true

in_list : (o : ℕ) (g : ℤ) (es : List (Listed Cell)) (c : Cell) → All Eight es → cell_in o g es ≡ Some c → has_eight c ≡ true
in_list o g [] c all h = absurd (cc)
in_list o g (e ∷ es) c all h = by_test (is_of o g e) h (in_list o g es c (All-tail Eight e es all))
  where
    by_test : (b : Bool) → cond b (Some e.cell) (cell_in o g es) ≡ Some c → (cell_in o g es ≡ Some c → has_eight c ≡ true) → has_eight c ≡ true
    by_test true h ih = let same : e.cell ≡ c = cc in subst (λ (x : Cell). has_eight x ≡ true) same (All-head Eight e es all)
    by_test false h ih = ih h

pub eight_cell : (o : ℕ) (g : ℤ) (w : World) → All Eight w.outside → has_eight (outside_cell w o g) ≡ true
eight_cell o g w all = by_cell (listed_cell o g w.outside) (sym (listed_is o g w.outside))
  where
    by_cell : (c : Option Cell) → cell_in o g w.outside ≡ c → has_eight (unwrap_or c unset) ≡ true
    by_cell None h = refl
    by_cell (Some c) h = in_list o g w.outside c all h

pub eight_used : (o : ℕ) (g : ℤ) (es : List (Listed Cell)) → All Eight es → All Eight (after_load o g es)
eight_used o g es all = by_cell (listed_cell o g es) (sym (listed_is o g es))
  where
    by_cell : (c : Option Cell) → cell_in o g es ≡ c → All Eight (moved_to_front c o g es)
    by_cell None h = all
    by_cell (Some c) h =
        All-cons Eight (record { object = o; granule = g; cell = c }) (without_granule o g es) (in_list o g es c all h) (All-filter (λ e. not (is_of o g e)) Eight es all)

-- ---- stores

put_first_eight : (o : ℕ) (g : ℤ) (cell : Cell) (es : List (Listed Cell)) → All Eight es → has_eight cell ≡ true → All Eight (put_first o g cell es)
put_first_eight o g cell es all h =
    All-cons Eight (record { object = o; granule = g; cell = cell }) (without_granule o g es) h (All-filter (λ e. not (is_of o g e)) Eight es all)

put_outside_eight : (rule : Rule) (line o : ℕ) (g : ℤ) (cell : Cell) (w : World) → All Eight w.outside → has_eight cell ≡ true → All Eight (end_of (put_outside rule line o g cell w)).outside
put_outside_eight vanish line o g cell w all h = all
put_outside_eight (kept cap) line o g cell w all h =
    All-take Eight cap (put_first o g cell w.outside) (put_first_eight o g cell w.outside all h)
put_outside_eight (unlimited cap) line o g cell w all h = by_test (is_some (listed_cell o g w.outside) || nat_lt (length w.outside) cap)
  where
    by_test : (b : Bool) → All Eight (end_of (if b then go nothing (record w { outside = put_first o g cell w.outside }) else stop (too_many line) w)).outside
    by_test true = put_first_eight o g cell w.outside all h
    by_test false = all

-- an access that reaches a granule outside is aligned
aligned_outside : (freed keeps aligned inside own : Bool) → reach_if (freed || not (aligned && inside)) (stray_reach (keeps && (not freed && aligned)) own) ≡ reaches.outside → aligned ≡ true
aligned_outside freed keeps true inside own h = refl
aligned_outside true true false inside own h = absurd (cc)
aligned_outside true false false inside own h = absurd (cc)
aligned_outside false true false inside own h = absurd (cc)
aligned_outside false false false inside own h = absurd (cc)

reach_eight : (rule : Rule) (kind : LoadKind) (line object : ℕ) (o : ℤ) (r : Reach) (v : Value) (w : World) → r ≡ reach_in rule (object_at w.objects object) o (bytes_of_kind kind) → All Eight w.outside → All Eight (end_of (store_at (at object o r) rule kind line v w)).outside
reach_eight rule kind line object o reaches.inside v w is all = all
reach_eight rule kind line object o reaches.own v w is all = all
reach_eight rule kind line object o reaches.outside v w is all =
    let x : Object = object_at w.objects object in
    let aligned : is_aligned o (bytes_of_kind kind) ≡ true = aligned_outside (is_freed x.state) (keeps rule) (is_aligned o (bytes_of_kind kind)) (is_inside x.size o (bytes_of_kind kind)) (is_own x.size o) (sym is) in
    put_outside_eight rule line object (granule o) (write_cell kind o v (outside_cell w object (granule o))) (told (stray_event line act.Store object o (bytes_of_kind kind)) w) all (write_eight kind o v (outside_cell w object (granule o)) (eight_cell object (granule o) w all) (place_fits kind o aligned))
reach_eight rule kind line object o reaches.vanishing v w is all = all

null_eight : (far : Bool) (rule : Rule) (kind : LoadKind) (line : ℕ) (d : ℤ) (v : Value) (w : World) → All Eight w.outside → All Eight (end_of (store_at (if far then too_far else at 0 d reaches.vanishing) rule kind line v w)).outside
null_eight true rule kind line d v w all = all
null_eight false rule kind line d v w all = all

pub eight_store : (rule : Rule) (kind : LoadKind) (line : ℕ) (p : Value) (d : ℤ) (v : Value) (w : World) → All Eight w.outside → All Eight (end_of (store rule kind line p d v w)).outside
eight_store rule kind line (value.Ptr object offset) d v w all =
    by_target (λ t. All Eight (end_of (store_at t rule kind line v w)).outside) rule w object offset d (bytes_of_kind kind) all all (λ known. reach_eight rule kind line object (offset +ℤ d) (reach_in rule (object_at w.objects object) (offset +ℤ d) (bytes_of_kind kind)) v w refl all)
eight_store rule kind line value.Null d v w all = null_eight (is_far d) rule kind line d v w all
eight_store rule kind line (value.Num n) d v w all = null_eight (is_far d) rule kind line d v w all

-- ---- what is stored is loaded

-- a world in which the granule holds what was written
loaded_in : (cap : ℕ) (cycle : List ℕ) (kind : LoadKind) (line object : ℕ) (offset d : ℤ) (v : Value) (w : World) → Reaches w object offset d → GoesOutside kind w object (offset +ℤ d) → (c : Cell) → has_eight c ≡ true → outside_cell w object (granule (offset +ℤ d)) ≡ write_cell kind (offset +ℤ d) v c → load (unlimited cap) cycle kind line (value.Ptr object offset) d w ≡ go (as_stored kind v) (told (event_of act.Load kind line object (offset +ℤ d)) w)
loaded_in cap cycle kind line object offset d v w h out c eight is =
    let o : ℤ = offset +ℤ d in
    let after : World = told (event_of act.Load kind line object o) w in
    ap (λ (t : Target). load_at t (unlimited cap) cycle kind line w) (goes_outside cap w object offset d kind h out)
    ∙ ap (λ (x : Cell). or_made (read_cell kind o x) cycle kind after) is
    ∙ ap (λ (x : Option Value). or_made x cycle kind after) (cell_back kind o v c eight (place_fits kind o out.aligned))

pub stored_outside_is_loaded : StoredOutsideIsLoaded
stored_outside_is_loaded cap cycle kind line object offset d v w after h out eight is =
    by_test (is_some (listed_cell object (granule (offset +ℤ d)) w.outside) || nat_lt (length w.outside) cap) (ap (λ (t : Target). store_at t (unlimited cap) kind line v w) (sym (goes_outside cap w object offset d kind h out)) ∙ is)
  where
    by_test : (b : Bool) → (if b then go nothing (record (told (event_of act.Store kind line object (offset +ℤ d)) w) { outside = put_first object (granule (offset +ℤ d)) (write_cell kind (offset +ℤ d) v (outside_cell w object (granule (offset +ℤ d)))) w.outside }) else stop (too_many line) (told (event_of act.Store kind line object (offset +ℤ d)) w)) ≡ go nothing after → load (unlimited cap) cycle kind line (value.Ptr object offset) d after ≡ go (as_stored kind v) (told (event_of act.Load kind line object (offset +ℤ d)) after)
    by_test true e =
        let cell : Cell = write_cell kind (offset +ℤ d) v (outside_cell w object (granule (offset +ℤ d))) in
        let x : World = record (told (event_of act.Store kind line object (offset +ℤ d)) w) { outside = put_first object (granule (offset +ℤ d)) cell w.outside } in
        let holds : outside_cell x object (granule (offset +ℤ d)) ≡ cell = ap (λ (y : Option Cell). unwrap_or y unset) (listed_is object (granule (offset +ℤ d)) x.outside ∙ cell-put object (granule (offset +ℤ d)) cell w.outside) in
        let reached : Reaches x object offset d = record { known = h.known; near = h.near; near_offset = h.near_offset } in
        let goes : GoesOutside kind x object (offset +ℤ d) = record { live = out.live; astray = out.astray; aligned = out.aligned; outside = out.outside } in
        subst (λ (y : World). load (unlimited cap) cycle kind line (value.Ptr object offset) d y ≡ go (as_stored kind v) (told (event_of act.Load kind line object (offset +ℤ d)) y)) (ap end_of e) (loaded_in cap cycle kind line object offset d v x reached goes (outside_cell w object (granule (offset +ℤ d))) eight holds)
    by_test false e = absurd (cc)
