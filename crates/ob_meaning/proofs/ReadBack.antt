-- What is stored inside of an object is loaded again.
use Rattle.std.proofs.Common.{◌≡◌, ℕ, zero, suc, ◌+◌, ◌/◌, ◌%◌, ◌^◌, ◌<◌, ◌≤◌, true, false, ℤ, pos, negsuc, ◌+ℤ◌, unsigned_abs, List, [], ◌∷◌, length, map, take, drop, Option, Some, is_some, slice_index_or, arith, refl, sym, subst, ◌∙◌, ap, All}
use Rattle.std.specs.Option.{option_map}
use Rattle.std.proofs.lemmas.Int.{ints}
use Rattle.std.proofs.lemmas.List.{get_or-set_same, take-map, drop-map}
use Rattle.std.proofs.lemmas.List.Elements.{All-head, All-tail}
use Rattle.std.proofs.lemmas.Nat.{div-add-mod'}
use Rattle.ob_words.specs.declared.types.IntType.{IntType}
use Rattle.ob_words.specs.declared.types.IntType.TheVariants.{Char, SChar, UChar, Short, UShort, Int, UInt, Long, ULong, LLong, ULLong}
use Rattle.ob_words.specs.Conversion.{IsCongruent, convert}
use Rattle.ob_words.specs.Fields.{from_bytes, low_bytes}
use Rattle.ob_words.specs.Types.{width}
use Rattle.ob_words.specs.Words.{number, word}
use Rattle.ob_words.proofs.Congruence.{congruent, congruent_trans}
use Rattle.ob_words.proofs.Conversions.{congruent_in, convert_same, word_congruent}
use Rattle.ob_words.proofs.Writes.{from_bytes-low_bytes, length-low_bytes}
use Rattle.ob_model.specs.declared.values.LoadKind.{LoadKind}
use Rattle.ob_model.specs.declared.values.LoadKind.TheVariants.{Num, Ptr}
use Rattle.ob_model.specs.declared.values.Value.{Value}
use Rattle.ob_model.specs.declared.values.Value.TheVariants as value
use Rattle.ob_model.specs.Accesses.{IsInside, bytes_of_kind, granule, is_stray, place_in_granule}
use Rattle.ob_model.specs.Accesses as reaches
use Rattle.ob_model.specs.Objects.{ObjectState, is_dead_state, is_freed}
use Rattle.ob_model.specs.Cells.{bytes, has_eight, pointer, read_number, set_bytes, written, zeros}
use Rattle.ob_model.proofs.Astray.{others_inside, strays_are_others}
use Rattle.ob_model.proofs.ReadBack.{written_is_read}
use Rattle.ob_meaning.specs.Accesses.{Target, at, keeps, load, load_at, load_own, or_made, store_at, target}
use Rattle.ob_meaning.specs.Memory.{Object, no_object, object_at, own_cell, with_own, with_own_cell}
use Rattle.ob_meaning.specs.MemoryLaws.{IsWhole, LoadsInsideTakeNone, Reaches, StoredIsLoaded, as_stored, is_astray, is_full, stored}
use Rattle.ob_meaning.specs.World.{Rule, World, go, end_of}
use Rattle.ob_meaning.proofs.FullCells.{all_set, full_eight, full_set, set_are}
use Rattle.ob_meaning.proofs.Stores.{sizes_and_lives_stay}
use Rattle.ob_meaning.proofs.Strays.{is_made, target_is}
use Rattle.ob_meaning.specs.Values.{Cell, number_of, read_cell, write_cell}

-- ---- numbers as bytes

-- the low bytes of a word stand for the number that the word stands for
low_congruent : (t : IntType) (w : ℕ) → IsCongruent (2 ^ width t) (pos (w % 2 ^ width t)) (pos w)
low_congruent t w =
    let m : ℕ = 2 ^ width t in
    congruent m (pos (w % m)) (pos w) (w / m) 0 (omega (arith, div-add-mod' w m))

widths : (t : IntType) → 256 ^ (width t / 8) ≡ 2 ^ width t
widths Char = refl
widths SChar = refl
widths UChar = refl
widths Short = refl
widths UShort = refl
widths Int = refl
widths UInt = refl
widths Long = refl
widths ULong = refl
widths LLong = refl
widths ULLong = refl

number_back : (t : IntType) (n : ℤ) → number t (from_bytes (low_bytes (width t / 8) (word n))) ≡ convert t n
number_back t n =
    ap (λ (w : ℕ). number t w) (from_bytes-low_bytes (width t / 8) (word n) ∙ ap (λ (m : ℕ). word n % m) (widths t))
    ∙ convert_same t (pos (word n % 2 ^ width t)) n (congruent_trans (2 ^ width t) (pos (word n % 2 ^ width t)) (pos (word n)) n (low_congruent t (word n)) (congruent_in t (pos (word n)) n (word_congruent n)))

-- ---- cells

written_back : (k place : ℕ) (bs : List ℕ) (c : Cell) → length bs ≡ k → has_eight c ≡ true → place + k ≤ 8 → read_number k place (written place bs c) ≡ Some (from_bytes bs)
written_back k place bs (pointer p) is eight fits =
    subst (λ (n : ℕ). read_number {P = Value} n place (written place bs (pointer p)) ≡ Some (from_bytes bs)) is (written_is_read place bs (pointer 0) refl (omega arith))
written_back k place bs (bytes es) is eight fits =
    subst (λ (n : ℕ). read_number {P = Value} n place (written place bs (bytes es)) ≡ Some (from_bytes bs)) is (written_is_read place bs (bytes es) eight (omega arith))

-- an aligned number lies in one granule
pub in_granule : (t : IntType) (n : ℕ) → n % (width t / 8) ≡ 0 → n % 8 + width t / 8 ≤ 8
in_granule Char n h = omega arith
in_granule SChar n h = omega arith
in_granule UChar n h = omega arith
in_granule Short n h = omega arith
in_granule UShort n h = omega arith
in_granule Int n h = omega arith
in_granule UInt n h = omega arith
in_granule Long n h = omega arith
in_granule ULong n h = omega arith
in_granule LLong n h = omega arith
in_granule ULLong n h = omega arith

-- what is written at an offset is read there, where it lies in one granule
pub cell_back : (kind : LoadKind) (o : ℤ) (v : Value) (c : Cell) → has_eight c ≡ true → place_in_granule o + bytes_of_kind kind ≤ 8 → read_cell kind o (write_cell kind o v c) ≡ Some (as_stored kind v)
cell_back (Num t) o v c eight fits =
    let k : ℕ = width t / 8 in
    let w : ℕ = word (number_of v) in
    ap (option_map (λ m. value.Num (number t m))) (written_back k (place_in_granule o) (low_bytes k w) c (length-low_bytes k w) eight fits)
    ∙ ap (λ z. Some (value.Num z)) (number_back t (number_of v))
cell_back Ptr o v c eight fits = refl

-- an aligned access lies in one granule
pub fits_granule : (kind : LoadKind) (n : ℕ) → n % bytes_of_kind kind ≡ 0 → n % 8 + bytes_of_kind kind ≤ 8
fits_granule (Num t) n h = in_granule t n h
fits_granule Ptr n h = let z : n % 8 ≡ 0 = h in omega arith

some_bytes : (kind : LoadKind) → 0 < bytes_of_kind kind
some_bytes (Num Char) = omega arith
some_bytes (Num SChar) = omega arith
some_bytes (Num UChar) = omega arith
some_bytes (Num Short) = omega arith
some_bytes (Num UShort) = omega arith
some_bytes (Num Int) = omega arith
some_bytes (Num UInt) = omega arith
some_bytes (Num Long) = omega arith
some_bytes (Num ULong) = omega arith
some_bytes (Num LLong) = omega arith
some_bytes (Num ULLong) = omega arith
some_bytes Ptr = omega arith

-- ---- objects

pub full_at : (cells : List Cell) (i : ℕ) → All (λ cell. is_full cell ≡ true) cells → is_full (slice_index_or cells i zeros) ≡ true
full_at [] i all = refl
full_at (c ∷ cs) zero all = All-head (λ cell. is_full cell ≡ true) c cs all
full_at (c ∷ cs) (suc i) all = full_at cs i (All-tail (λ cell. is_full cell ≡ true) c cs all)

-- a granule that was set is read
own_back : (objects : List Object) (object q : ℕ) (cell : Cell) → object < length objects → q < length (object_at objects object).own → own_cell (with_own_cell objects object (pos q) cell) object (pos q) ≡ cell
own_back objects object q cell made within =
    ap (λ (o : Object). slice_index_or o.own q zeros) (get_or-set_same objects object (with_own (object_at objects object) (pos q) cell) no_object made)
    ∙ get_or-set_same (object_at objects object).own q cell zeros within

-- ---- stores and loads

abbrev IsBack : Rule → List ℕ → LoadKind → ℕ → ℕ → ℤ → ℤ → Value → World → Type 0
IsBack rule cycle kind line object offset d v after =
    load rule cycle kind line (value.Ptr object offset) d after ≡ go (as_stored kind v) after

-- the world after a store inside of an object
abbrev inside_world : LoadKind → ℕ → ℤ → Value → World → World
inside_world kind object o v w =
    record w { objects = with_own_cell w.objects object (granule o) (write_cell kind o v (own_cell w.objects object (granule o))) }

pub inside_target : (rule : Rule) (w : World) (object : ℕ) (offset d : ℤ) (kind : LoadKind) → Reaches w object offset d → is_astray kind (object_at w.objects object) (offset +ℤ d) ≡ false → target rule w.objects (value.Ptr object offset) d (bytes_of_kind kind) ≡ at object (offset +ℤ d) reaches.inside
inside_target rule w object offset d kind h near =
    let o : Object = object_at w.objects object in
    target_is rule w object offset d (bytes_of_kind kind) h
    ∙ ap (at object (offset +ℤ d)) (others_inside (keeps rule) (is_freed o.state) o.size (offset +ℤ d) (bytes_of_kind kind) near)

-- the offset of an access inside of its object
load_back : (cycle : List ℕ) (kind : LoadKind) (object : ℕ) (o : ℤ) (v : Value) (w : World) → is_dead_state (object_at w.objects object).state ≡ false → IsWhole (object_at w.objects object) → (unsigned_abs o % bytes_of_kind kind ≡ 0) × IsInside (object_at w.objects object).size o (bytes_of_kind kind) → load_own cycle kind object o (inside_world kind object o v w) ≡ go (as_stored kind v) (inside_world kind object o v w)
load_back cycle kind object (negsuc n) v w known whole near = absurd (omega (arith, ints, near.1.0))
load_back cycle kind object (pos n) v w known whole near =
    let c : Cell = own_cell w.objects object (pos (n / 8)) in
    let some : 0 < bytes_of_kind kind = some_bytes kind in
    let end : n + bytes_of_kind kind ≤ (object_at w.objects object).size = omega (arith, ints, near.1.1) in
    let within : n / 8 < length (object_at w.objects object).own = rw whole.granules (omega (arith, end, some)) in
    let back = own_back w.objects object (n / 8) (write_cell kind (pos n) v c) (is_made w.objects object known) within in
    ap (λ (x : Cell). or_made (read_cell kind (pos n) x) cycle kind (inside_world kind object (pos n) v w)) back
    ∙ ap (λ (x : Option Value). or_made x cycle kind (inside_world kind object (pos n) v w)) (cell_back kind (pos n) v c (full_eight c (full_at (object_at w.objects object).own (n / 8) whole.full)) (fits_granule kind n near.0))

astray_parts : (kind : LoadKind) (x : Object) (o : ℤ) → is_astray kind x o ≡ false → (unsigned_abs o % bytes_of_kind kind ≡ 0) × IsInside x.size o (bytes_of_kind kind)
astray_parts kind x o near =
    let parts = (strays_are_others (is_freed x.state) x.size o (bytes_of_kind kind)).0 near in
    (parts.1, parts.2)

pub stored_is_loaded : StoredIsLoaded
stored_is_loaded rule cycle kind line object offset d v w h whole near =
    let o : ℤ = offset +ℤ d in
    let after : World = inside_world kind object o v w in
    let is : stored rule kind line (value.Ptr object offset) d v w ≡ after = ap (λ (t : Target). end_of (store_at t rule kind line v w)) (inside_target rule w object offset d kind h near) in
    let lives = sizes_and_lives_stay rule kind line object (value.Ptr object offset) v d w in
    let lives_after = subst (λ (x : World). ((object_at x.objects object).size ≡ (object_at w.objects object).size) × ((object_at x.objects object).state ≡ (object_at w.objects object).state)) is lives in
    let reaches_after : Reaches after object offset d = record { known = ap is_dead_state lives_after.1 ∙ h.known; near = h.near; near_offset = h.near_offset } in
    let near_after : is_astray kind (object_at after.objects object) o ≡ false = ap (λ (n : ℕ). is_stray (is_freed (object_at after.objects object).state) n o (bytes_of_kind kind)) lives_after.0 ∙ ap (λ (s : ObjectState). is_stray (is_freed s) (object_at w.objects object).size o (bytes_of_kind kind)) lives_after.1 ∙ near in
    subst (IsBack rule cycle kind line object offset d v) (sym is) (ap (λ (t : Target). load_at t rule cycle kind line after) (inside_target rule after object offset d kind reaches_after near_after) ∙ load_back cycle kind object o v w h.known whole (astray_parts kind (object_at w.objects object) o near))

-- ---- what a full granule gives

some_number : (k place : ℕ) (es : List (Option ℕ)) → is_some (set_bytes es) ≡ true → (n : ℕ) × (read_number {P = Value} k place (bytes es) ≡ Some n)
some_number k place es h =
    let is = set_are es h in
    let part : List ℕ = take k (drop place is.0) in
    (from_bytes part, ap (λ (l : List (Option ℕ)). option_map from_bytes (set_bytes (take k (drop place l)))) is.1 ∙ ap (option_map from_bytes) (ap set_bytes (taken k place is.0) ∙ all_set part))
  where
    taken : (k place : ℕ) (zs : List ℕ) → take k (drop place (map Some zs)) ≡ map Some (take k (drop place zs))
    taken k place zs = simp (take-map, drop-map)

pub full_read : (kind : LoadKind) (o : ℤ) (c : Cell) → is_full c ≡ true → (v : Value) × (read_cell kind o c ≡ Some v)
full_read (Num t) o (pointer p) h = (value.Num (number t 0), refl)
full_read (Num t) o (bytes es) h =
    let n = some_number (width t / 8) (place_in_granule o) es (full_set es h) in
    (value.Num (number t n.0), ap (option_map (λ m. value.Num (number t m))) n.1)
full_read Ptr o (pointer p) h = (p, refl)
full_read Ptr o (bytes es) h =
    let is = set_are es (full_set es h) in
    (value.Null, ap (λ (l : List (Option ℕ)). option_map (λ (_ : List ℕ). value.Null) (set_bytes l)) is.1 ∙ ap (option_map (λ (_ : List ℕ). value.Null)) (all_set is.0))

pub loads_inside_take_none : LoadsInsideTakeNone
loads_inside_take_none rule cycle kind line object offset d w h whole near =
    let o : ℤ = offset +ℤ d in
    let c : Cell = own_cell w.objects object (granule o) in
    let v = full_read kind o c (full_at (object_at w.objects object).own (unsigned_abs (granule o)) whole.full) in
    (v.0, ap (λ (t : Target). load_at t rule cycle kind line w) (inside_target rule w object offset d kind h near) ∙ ap (λ (x : Option Value). or_made x cycle kind w) v.1)
