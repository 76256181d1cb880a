-- Objects are made whole, and stores leave them whole.
use Rattle.std.proofs.Common.{◌≡◌, ℕ, zero, suc, ◌+◌, ◌/◌, ◌%◌, ◌≤◌, inl, inr, ◌&&◌, ◌||◌, Bool, true, false, not, ℤ, pos, negsuc, ◌+ℤ◌, unsigned_abs, List, [], ◌∷◌, ◌++◌, length, take, drop, replicate, slice_set, if◌then◌else◌, arith, refl, sym, subst, ◌∙◌, ap, All}
use Rattle.std.proofs.lemmas.Bool.Decides.{nat_tests}
use Rattle.std.proofs.lemmas.List.{length-replicate, length-set, length-take-le}
use Rattle.std.proofs.Common.{length-append}
use Rattle.std.proofs.lemmas.List.Elements.{All-cons, All-nil, All-head, All-replicate, All-set, All-tail}
use Rattle.ob_words.specs.declared.types.IntType.TheVariants.{Char, SChar, UChar, Short, UShort, Int, UInt, Long, ULong, LLong, ULLong}
use Rattle.ob_model.specs.declared.objects.Sort.{Sort}
use Rattle.ob_model.specs.declared.objects.Sort.TheVariants.{Automatic}
use Rattle.ob_model.specs.declared.values.LoadKind.{LoadKind}
use Rattle.ob_model.specs.declared.values.LoadKind.TheVariants.{Num, Ptr}
use Rattle.ob_model.specs.declared.values.Value.{Value}
use Rattle.ob_model.specs.declared.values.Value.TheVariants as value
use Rattle.ob_model.specs.Accesses.{Reach, bytes_of_kind, granule, is_aligned, is_far, is_inside, is_own, own_granules, reach_if, stray_reach}
use Rattle.ob_model.specs.Accesses as reaches
use Rattle.ob_model.specs.Cells.{pointer, zeros}
use Rattle.ob_model.specs.Objects.{ObjectState, is_freed}
use Rattle.ob_tree.specs.Sizes.{size}
use Rattle.ob_tree.specs.Types.{PlainType, PlainStructs}
use Rattle.ob_typed.specs.declared.statics.StaticPointer.{StaticPointer}
use Rattle.ob_typed.specs.TypedTree.{TypedObject}
use Rattle.ob_meaning.specs.Accesses.{at, keeps, reach_in, store, store_at, too_far}
use Rattle.ob_meaning.specs.Calls.{automatic, automatics}
use Rattle.ob_meaning.specs.Memory.{Object, changed_if, new_object, no_object, object_at, own_cell, with_own, with_own_cell, with_state, wiped}
use Rattle.ob_meaning.specs.MemoryLaws.{IsWhole, is_full}
use Rattle.ob_meaning.specs.Runs.{first_granule, granules_of, static_object, with_pointers}
use Rattle.ob_meaning.specs.Setup.{kind_of}
use Rattle.ob_meaning.specs.Values.{Cell, write_cell}
use Rattle.ob_meaning.specs.World.{Rule, World, end_of}
use Rattle.ob_meaning.proofs.FullCells.{all_full, write_full}
use Rattle.ob_meaning.proofs.ReadBack.{fits_granule, full_at}
use Rattle.ob_meaning.proofs.Stores.{by_target, negative_outside, put_objects}

abbrev pub AreWhole : List Object → Type 0
AreWhole objects = All IsWhole objects

abbrev Full : Cell → Type 0
Full cell = is_full cell ≡ true

-- ---- objects that are made

pub whole_new : (sort : Sort) (n : ℕ) → IsWhole (new_object sort n)
whole_new sort n = record { granules = length-replicate _ zeros; full = All-replicate Full _ zeros refl }

pub whole_none : IsWhole no_object
whole_none = record { granules = refl; full = All-nil Full }

pub whole_at : (objects : List Object) (i : ℕ) → AreWhole objects → IsWhole (object_at objects i)
whole_at [] i all = whole_none
whole_at (o ∷ os) zero all = All-head IsWhole o os all
whole_at (o ∷ os) (suc i) all = whole_at os i (All-tail IsWhole o os all)

pub whole_with : (o : Object) (g : ℤ) (cell : Cell) → IsWhole o → is_full cell ≡ true → IsWhole (with_own o g cell)
whole_with o g cell h f =
    record {
      granules = length-set o.own (unsigned_abs g) cell ∙ h.granules;
      full = All-set Full o.own (unsigned_abs g) cell f h.full;
    }

pub whole_wiped : (o : Object) → IsWhole (wiped o)
whole_wiped o = record { granules = length-replicate _ zeros; full = All-replicate Full _ zeros refl }

pub whole_set : (objects : List Object) (i : ℕ) (o : Object) → AreWhole objects → IsWhole o → AreWhole (slice_set objects i o)
whole_set objects i o all h = All-set IsWhole objects i o h all

whole_changed : (named : Bool) (state : ObjectState) (o : Object) → IsWhole o → IsWhole (changed_if named state o)
whole_changed true state o h = record { granules = h.granules; full = h.full }
whole_changed false state o h = h

pub whole_states : (state : ObjectState) (named : ℕ → Bool) (n : ℕ) (os : List Object) → AreWhole os → AreWhole (with_state state named n os)
whole_states state named n [] all = All-nil IsWhole
whole_states state named n (o ∷ os) all =
    All-cons IsWhole (changed_if (named n) state o) (with_state state named (n + 1) os) (whole_changed (named n) state o (All-head IsWhole o os all)) (whole_states state named (n + 1) os (All-tail IsWhole o os all))

-- ---- automatic and static objects

at_most_eight : (kind : LoadKind) → bytes_of_kind kind ≤ 8
at_most_eight (Num Char) = omega arith
at_most_eight (Num SChar) = omega arith
at_most_eight (Num UChar) = omega arith
at_most_eight (Num Short) = omega arith
at_most_eight (Num UShort) = omega arith
at_most_eight (Num Int) = omega arith
at_most_eight (Num UInt) = omega arith
at_most_eight (Num Long) = omega arith
at_most_eight (Num ULong) = omega arith
at_most_eight (Num LLong) = omega arith
at_most_eight (Num ULLong) = omega arith
at_most_eight Ptr = omega arith

pub whole_automatics : (structs : PlainStructs) (ts : List PlainType) (vs : List Value) → AreWhole (automatics structs ts vs)
whole_automatics structs [] vs = All-nil IsWhole
whole_automatics structs (t ∷ ts) [] =
    All-cons IsWhole (automatic structs t) (automatics structs ts []) (whole_new Automatic (size structs t)) (whole_automatics structs ts [])
whole_automatics structs (t ∷ ts) (v ∷ vs) =
    let cell : Cell = write_cell (kind_of t) (pos 0) v zeros in
    let full : is_full cell ≡ true = write_full (kind_of t) (pos 0) v zeros refl (omega (arith, at_most_eight (kind_of t))) in
    All-cons IsWhole (with_own (automatic structs t) (pos 0) cell) (automatics structs ts vs) (whole_with (automatic structs t) (pos 0) cell (whole_new Automatic (size structs t)) full) (whole_automatics structs ts vs)

first_full : (bs : List ℕ) → is_full (first_granule bs) ≡ true
first_full bs = all_full (take 8 (bs ++ replicate 8 0)) (length-take-le 8 (bs ++ replicate 8 0) (omega (arith, length-append bs (replicate 8 0))))

granules_full : (n : ℕ) (bs : List ℕ) → All Full (granules_of n bs)
granules_full zero bs = All-nil Full
granules_full (suc n) bs = All-cons Full (first_granule bs) (granules_of n (drop 8 bs)) (first_full bs) (granules_full n (drop 8 bs))

granules_length : (n : ℕ) (bs : List ℕ) → length (granules_of n bs) ≡ n
granules_length zero bs = refl
granules_length (suc n) bs = ap suc (granules_length n (drop 8 bs))

pointers_full : (ps : List StaticPointer) (cells : List Cell) → All Full cells → All Full (with_pointers ps cells)
pointers_full [] cells all = all
pointers_full (p ∷ ps) cells all =
    let cell : Cell = pointer (value.Ptr (p.target + 1) (pos p.offset)) in
    pointers_full ps (slice_set cells (p.at / 8) cell) (All-set Full cells (p.at / 8) cell refl all)

pointers_length : (ps : List StaticPointer) (cells : List Cell) → length (with_pointers ps cells) ≡ length cells
pointers_length [] cells = refl
pointers_length (p ∷ ps) cells =
    let cell : Cell = pointer (value.Ptr (p.target + 1) (pos p.offset)) in
    pointers_length ps (slice_set cells (p.at / 8) cell) ∙ length-set cells (p.at / 8) cell

pub whole_static : (structs : PlainStructs) (o : TypedObject) → IsWhole (static_object structs o)
whole_static structs o =
    let n : ℕ = own_granules (size structs o.ty) in
    record {
      granules = pointers_length o.image.pointers (granules_of n o.image.bytes) ∙ granules_length n o.image.bytes;
      full = pointers_full o.image.pointers (granules_of n o.image.bytes) (granules_full n o.image.bytes);
    }

-- ---- stores

-- an access that reaches a granule of the object's own is aligned
aligned_inside : (freed keeps aligned inside own : Bool) → reach_if (freed || not (aligned && inside)) (stray_reach (keeps && (not freed && aligned)) own) ≡ reaches.inside → aligned ≡ true
aligned_inside freed keeps true inside own h = refl
aligned_inside true true false inside own h = absurd (cc)
aligned_inside true false false inside own h = absurd (cc)
aligned_inside false true false inside own h = absurd (cc)
aligned_inside false false false inside own h = absurd (cc)

aligned_own : (freed keeps aligned inside own : Bool) → reach_if (freed || not (aligned && inside)) (stray_reach (keeps && (not freed && aligned)) own) ≡ reaches.own → aligned ≡ true
aligned_own freed keeps true inside own h = refl
aligned_own true true false inside own h = absurd (cc)
aligned_own true false false inside own h = absurd (cc)
aligned_own false true false inside own h = absurd (cc)
aligned_own false false false inside own h = absurd (cc)

fits_own : (kind : LoadKind) (n : ℕ) → is_aligned (pos n) (bytes_of_kind kind) ≡ true → n % 8 + bytes_of_kind kind ≤ 8
fits_own kind n h = fits_granule kind n (grind (arith, nat_tests))

store_cell : (kind : LoadKind) (n : ℕ) (v : Value) (w : World) (object : ℕ) → AreWhole w.objects → is_aligned (pos n) (bytes_of_kind kind) ≡ true → AreWhole (with_own_cell w.objects object (granule (pos n)) (write_cell kind (pos n) v (own_cell w.objects object (granule (pos n)))))
store_cell kind n v w object all aligned =
    let o : Object = object_at w.objects object in
    let whole : IsWhole o = whole_at w.objects object all in
    let c : Cell = own_cell w.objects object (granule (pos n)) in
    let full : is_full c ≡ true = full_at o.own (n / 8) whole.full in
    whole_set w.objects object (with_own o (granule (pos n)) (write_cell kind (pos n) v c)) all (whole_with o (granule (pos n)) (write_cell kind (pos n) v c) whole (write_full kind (pos n) v c full (fits_own kind n aligned)))

store_reach : (rule : Rule) (kind : LoadKind) (line object : ℕ) (o : ℤ) (r : Reach) (v : Value) (w : World) → r ≡ reach_in rule (object_at w.objects object) o (bytes_of_kind kind) → AreWhole w.objects → AreWhole (end_of (store_at (at object o r) rule kind line v w)).objects
store_reach rule kind line object (pos n) reaches.inside v w is all =
    store_cell kind n v w object all (aligned_inside (is_freed (object_at w.objects object).state) (keeps rule) (is_aligned (pos n) (bytes_of_kind kind)) (is_inside (object_at w.objects object).size (pos n) (bytes_of_kind kind)) (is_own (object_at w.objects object).size (pos n)) (sym is))
store_reach rule kind line object (pos n) reaches.own v w is all =
    store_cell kind n v w object all (aligned_own (is_freed (object_at w.objects object).state) (keeps rule) (is_aligned (pos n) (bytes_of_kind kind)) (is_inside (object_at w.objects object).size (pos n) (bytes_of_kind kind)) (is_own (object_at w.objects object).size (pos n)) (sym is))
store_reach rule kind line object (negsuc n) reaches.inside v w is all =
    absurd (elim (negative_outside (is_freed (object_at w.objects object).state) (is_aligned (negsuc n) (bytes_of_kind kind)) (keeps rule)) [ inl h ↦ cc (is, h) | inr h ↦ cc (is, h) ])
store_reach rule kind line object (negsuc n) reaches.own v w is all =
    absurd (elim (negative_outside (is_freed (object_at w.objects object).state) (is_aligned (negsuc n) (bytes_of_kind kind)) (keeps rule)) [ inl h ↦ cc (is, h) | inr h ↦ cc (is, h) ])
store_reach rule kind line object o reaches.outside v w is all = subst AreWhole (sym (put_objects rule line object (granule o) _ _)) all
store_reach rule kind line object o reaches.vanishing v w is all = all

-- through null a store reaches nothing
null_whole : (far : Bool) (rule : Rule) (kind : LoadKind) (line : ℕ) (d : ℤ) (v : Value) (w : World) → AreWhole w.objects → AreWhole (end_of (store_at (if far then too_far else at 0 d reaches.vanishing) rule kind line v w)).objects
null_whole true rule kind line d v w all = all
null_whole false rule kind line d v w all = all

pub whole_store : (rule : Rule) (kind : LoadKind) (line : ℕ) (p : Value) (d : ℤ) (v : Value) (w : World) → AreWhole w.objects → AreWhole (end_of (store rule kind line p d v w)).objects
whole_store rule kind line (value.Ptr object offset) d v w all =
    by_target (λ t. AreWhole (end_of (store_at t rule kind line v w)).objects) rule w object offset d (bytes_of_kind kind) all all (λ known. store_reach rule kind line object (offset +ℤ d) (reach_in rule (object_at w.objects object) (offset +ℤ d) (bytes_of_kind kind)) v w refl all)
whole_store rule kind line value.Null d v w all = null_whole (is_far d) rule kind line d v w all
whole_store rule kind line (value.Num n) d v w all = null_whole (is_far d) rule kind line d v w all
