-- Loads give values of their types where pointer granules hold pointers, and stores of such values keep them so.
use Rattle.std.proofs.Common.{◌≡◌, ℕ, zero, suc, ◌/◌, cond, unsigned_abs, ◌||◌, Bool, true, false, not, nat_lt, ℤ, pos, List, [], ◌∷◌, length, slice_index_or, is_some, unwrap_or, Option, Some, None, All, refl, sym, subst}
use Rattle.std.specs.Option.{option_map}
use Rattle.std.proofs.lemmas.List.Elements.{All-cons, All-filter, All-head, All-nil, All-set, All-tail, All-take}
use Rattle.ob_words.specs.Fields.{low_bytes}
use Rattle.ob_words.specs.Types.{width}
use Rattle.ob_words.specs.Words.{number, word}
use Rattle.ob_words.proofs.Conversions.{convert_number}
use Rattle.ob_model.specs.declared.strays.Act.TheVariants as act
use Rattle.ob_model.specs.declared.values.LoadKind.{LoadKind}
use Rattle.ob_model.specs.declared.values.LoadKind.TheVariants.{Num, Ptr}
use Rattle.ob_model.specs.declared.values.Value.{Value}
use Rattle.ob_model.specs.declared.values.Value.TheVariants as value
use Rattle.ob_model.specs.Accesses.{Reach, bytes_of_kind, granule, is_far, is_inside, place_in_granule, stray_event}
use Rattle.ob_model.specs.Accesses as reaches
use Rattle.ob_model.specs.Bounded.{Listed, after_load, is_of, listed_cell, moved_to_front, put_first, without_granule}
use Rattle.ob_model.specs.Cells.{bytes, pointer, read_number, set_bytes, unset, written, zeros}
use Rattle.ob_model.specs.Endings.{dropped as too_many}
use Rattle.ob_model.specs.Manufactured.{manufactured}
use Rattle.ob_tree.specs.Types.{PlainType}
use Rattle.ob_tree.specs.Types.PlainType.{Void, Int, Pointer, Array, Struct}
use Rattle.ob_meaning.specs.Accesses.{Target, dead_object, too_far, at, after_outside_load, load, load_at, or_made, outside_cell, put_outside, store, store_at, take_made, target}
use Rattle.ob_meaning.specs.Memory.{Object, object_at, own_cell, with_own, with_own_cell}
use Rattle.ob_meaning.specs.Setup.{kind_of}
use Rattle.ob_meaning.specs.Values.{Cell, made_value, nothing, number_of, read_cell, write_cell}
use Rattle.ob_meaning.specs.ValueTypes.{Class, GivesIn, HasClass, HoldsPointers, IsScalar, IsTypedWorld, class_of, none}
use Rattle.ob_meaning.specs.ValueTypes as class
use Rattle.ob_meaning.specs.World.{Rule, vanish, kept, unlimited, World, Call, stop, go, told}
use Rattle.ob_meaning.proofs.OutsideLists.{cell_in, listed_is}
use Rattle.ob_meaning.proofs.TypedActs.{OfKind, Typed, gives_if}

-- ---- granules

pub unset_holds : HoldsPointers unset
unset_holds = tt

at_cells : (cells : List Cell) (i : ℕ) → All HoldsPointers cells → HoldsPointers (slice_index_or cells i zeros)
at_cells [] i all = tt
at_cells (c ∷ cs) zero all = All-head HoldsPointers c cs all
at_cells (c ∷ cs) (suc i) all = at_cells cs i (All-tail HoldsPointers c cs all)

abbrev pub HoldsOwn : Object → Type 0
HoldsOwn o = All HoldsPointers o.own

pub at_objects : (objects : List Object) (i : ℕ) → All HoldsOwn objects → HoldsOwn (object_at objects i)
at_objects [] i all = All-nil HoldsPointers
at_objects (o ∷ os) zero all = All-head HoldsOwn o os all
at_objects (o ∷ os) (suc i) all = at_objects os i (All-tail HoldsOwn o os all)

own_holds : (calls : List Call) (w : World) (object : ℕ) (g : ℤ) → IsTypedWorld calls w → HoldsPointers (own_cell w.objects object g)
own_holds calls w object g ok =
    at_cells (object_at w.objects object).own (unsigned_abs g) (at_objects w.objects object ok.0)

abbrev HoldsListed : Listed Cell → Type 0
HoldsListed e = HoldsPointers e.cell

in_list : (o : ℕ) (g : ℤ) (es : List (Listed Cell)) (c : Cell) → All HoldsListed es → cell_in o g es ≡ Some c → HoldsPointers c
in_list o g [] c all h = absurd (cc)
in_list o g (e ∷ es) c all h = by_test (is_of o g e) h (in_list o g es c (All-tail HoldsListed e es all))
  where
    by_test : (b : Bool) → cond b (Some e.cell) (cell_in o g es) ≡ Some c → (cell_in o g es ≡ Some c → HoldsPointers c) → HoldsPointers c
    by_test true h ih = let same : e.cell ≡ c = cc in subst HoldsPointers same (All-head HoldsListed e es all)
    by_test false h ih = ih h

outside_holds : (calls : List Call) (w : World) (o : ℕ) (g : ℤ) → IsTypedWorld calls w → HoldsPointers (outside_cell w o g)
outside_holds calls w o g ok = by_cell (listed_cell o g w.outside) (sym (listed_is o g w.outside))
  where
    by_cell : (c : Option Cell) → cell_in o g w.outside ≡ c → HoldsPointers (unwrap_or c unset)
    by_cell None h = tt
    by_cell (Some c) h = in_list o g w.outside c ok.1 h

-- ---- what is read and written

read_kind : (kind : LoadKind) (o : ℤ) (c : Cell) (v : Value) → HoldsPointers c → read_cell kind o c ≡ Some v → OfKind kind v
read_kind (Num t) o c v h e = by_number (read_number (width t / 8) (place_in_granule o) c) e
  where
    by_number : (n : Option ℕ) → option_map (λ m. value.Num (number t m)) n ≡ Some v → HasClass (class.number t) v
    by_number None e = absurd (cc)
    by_number (Some m) e =
        let same : value.Num (number t m) ≡ v = cc in
        subst (HasClass (class.number t)) same (convert_number t (pos m))
read_kind Ptr o (pointer p) v h e = let same : p ≡ v = cc in subst (HasClass class.pointer) same h
read_kind Ptr o (bytes es) v h e = by_bytes (set_bytes es) e
  where
    by_bytes : (bs : Option (List ℕ)) → option_map (λ _. value.Null) bs ≡ Some v → HasClass class.pointer v
    by_bytes None e = absurd (cc)
    by_bytes (Some zs) e = let same : value.Null ≡ v = cc in subst (HasClass class.pointer) same tt

made_kind : (kind : LoadKind) (cycle : List ℕ) (place : ℕ) → OfKind kind (made_value kind cycle place)
made_kind (Num t) cycle place = convert_number t (pos (manufactured cycle place))
made_kind Ptr cycle place = tt

written_holds : (place : ℕ) (bs : List ℕ) (c : Cell) → HoldsPointers (written place bs c)
written_holds place bs (pointer p) = tt
written_holds place bs (bytes es) = tt

pub write_holds : (kind : LoadKind) (o : ℤ) (v : Value) (c : Cell) → OfKind kind v → HoldsPointers (write_cell kind o v c)
write_holds (Num t) o v c h = written_holds (place_in_granule o) (low_bytes (width t / 8) (word (number_of v))) c
write_holds Ptr o v c h = h

-- ---- loads

made_gives : (calls : List Call) (cycle : List ℕ) (kind : LoadKind) (w : World) → IsTypedWorld calls w → GivesIn calls (OfKind kind) (take_made cycle kind w)
made_gives calls cycle kind w ok = (made_kind kind cycle w.cycle_place, ok)

or_made_gives : (calls : List Call) (c : Option Value) (cycle : List ℕ) (kind : LoadKind) (w : World) → ((v : Value) → c ≡ Some v → OfKind kind v) → IsTypedWorld calls w → GivesIn calls (OfKind kind) (or_made c cycle kind w)
or_made_gives calls (Some v) cycle kind w h ok = (h v refl, ok)
or_made_gives calls None cycle kind w h ok = made_gives calls cycle kind w ok

front_holds : (o : ℕ) (g : ℤ) (es : List (Listed Cell)) → All HoldsListed es → All HoldsListed (after_load o g es)
front_holds o g es all = by_cell (listed_cell o g es) (sym (listed_is o g es))
  where
    by_cell : (c : Option Cell) → cell_in o g es ≡ c → All HoldsListed (moved_to_front c o g es)
    by_cell None h = all
    by_cell (Some c) h =
        All-cons HoldsListed (record { object = o; granule = g; cell = c }) (without_granule o g es) (in_list o g es c all h) (All-filter (λ e. not (is_of o g e)) HoldsListed es all)

used_ok : (calls : List Call) (rule : Rule) (o : ℕ) (g : ℤ) (w : World) → IsTypedWorld calls w → IsTypedWorld calls (after_outside_load rule o g w)
used_ok calls vanish o g w ok = ok
used_ok calls (kept cap) o g w ok = (ok.0, front_holds o g w.outside ok.1, ok.2)
used_ok calls (unlimited cap) o g w ok = ok

load_gives : (calls : List Call) (t : Target) (rule : Rule) (cycle : List ℕ) (kind : LoadKind) (line : ℕ) (w : World) → IsTypedWorld calls w → GivesIn calls (OfKind kind) (load_at t rule cycle kind line w)
load_gives calls dead_object rule cycle kind line w ok = tt
load_gives calls too_far rule cycle kind line w ok = tt
load_gives calls (at o a reaches.inside) rule cycle kind line w ok =
    or_made_gives calls (read_cell kind a (own_cell w.objects o (granule a))) cycle kind w (λ v e. read_kind kind a (own_cell w.objects o (granule a)) v (own_holds calls w o (granule a) ok) e) ok
load_gives calls (at o a reaches.own) rule cycle kind line w ok =
    or_made_gives calls (read_cell kind a (own_cell w.objects o (granule a))) cycle kind (told (stray_event line act.Load o a (bytes_of_kind kind)) w) (λ v e. read_kind kind a (own_cell w.objects o (granule a)) v (own_holds calls w o (granule a) ok) e) ok
load_gives calls (at o a reaches.outside) rule cycle kind line w ok =
    let x : World = told (stray_event line act.Load o a (bytes_of_kind kind)) w in
    let c : Cell = outside_cell x o (granule a) in
    or_made_gives calls (read_cell kind a c) cycle kind (after_outside_load rule o (granule a) x) (λ v e. read_kind kind a c v (outside_holds calls x o (granule a) ok) e) (used_ok calls rule o (granule a) x ok)
load_gives calls (at o a reaches.vanishing) rule cycle kind line w ok =
    made_gives calls cycle kind (told (stray_event line act.Load o a (bytes_of_kind kind)) w) ok

pub typed_load : (calls : List Call) (rule : Rule) (cycle : List ℕ) (kind : LoadKind) (line : ℕ) (p : Value) (d : ℤ) → Typed calls (OfKind kind) (load rule cycle kind line p d)
typed_load calls rule cycle kind line p d =
    record { each = λ w ok. load_gives calls (target rule w.objects p d (bytes_of_kind kind)) rule cycle kind line w ok }

-- ---- stores

abbrev pub Any : Value → Type 0
Any v = Unit {0}

with_holds : (o : Object) (g : ℤ) (cell : Cell) → HoldsOwn o → HoldsPointers cell → HoldsOwn (with_own o g cell)
with_holds o g cell all h = All-set HoldsPointers o.own (unsigned_abs g) cell h all

own_ok : (calls : List Call) (w : World) (object : ℕ) (g : ℤ) (cell : Cell) → IsTypedWorld calls w → HoldsPointers cell → IsTypedWorld calls (record w { objects = with_own_cell w.objects object g cell })
own_ok calls w object g cell ok h =
    let o : Object = object_at w.objects object in
    (All-set HoldsOwn w.objects object (with_own o g cell) (with_holds o g cell (at_objects w.objects object ok.0) h) ok.0, ok.1, ok.2)

put_holds : (o : ℕ) (g : ℤ) (cell : Cell) (es : List (Listed Cell)) → All HoldsListed es → HoldsPointers cell → All HoldsListed (put_first o g cell es)
put_holds o g cell es all h =
    All-cons HoldsListed (record { object = o; granule = g; cell = cell }) (without_granule o g es) h (All-filter (λ e. not (is_of o g e)) HoldsListed es all)

put_gives : (calls : List Call) (rule : Rule) (line o : ℕ) (g : ℤ) (cell : Cell) (w : World) → IsTypedWorld calls w → HoldsPointers cell → GivesIn calls Any (put_outside rule line o g cell w)
put_gives calls vanish line o g cell w ok h = (tt, ok)
put_gives calls (kept cap) line o g cell w ok h =
    (tt, (ok.0, All-take HoldsListed cap (put_first o g cell w.outside) (put_holds o g cell w.outside ok.1 h), ok.2))
put_gives calls (unlimited cap) line o g cell w ok h =
    gives_if calls Any (is_some (listed_cell o g w.outside) || nat_lt (length w.outside) cap) (go nothing (record w { outside = put_first o g cell w.outside })) (stop (too_many line) w) (tt, (ok.0, put_holds o g cell w.outside ok.1 h, ok.2)) tt

store_gives : (calls : List Call) (t : Target) (rule : Rule) (kind : LoadKind) (line : ℕ) (v : Value) (w : World) → OfKind kind v → IsTypedWorld calls w → GivesIn calls Any (store_at t rule kind line v w)
store_gives calls dead_object rule kind line v w h ok = tt
store_gives calls too_far rule kind line v w h ok = tt
store_gives calls (at o a reaches.inside) rule kind line v w h ok =
    let c : Cell = own_cell w.objects o (granule a) in
    (tt, own_ok calls w o (granule a) (write_cell kind a v c) ok (write_holds kind a v c h))
store_gives calls (at o a reaches.own) rule kind line v w h ok =
    let c : Cell = own_cell w.objects o (granule a) in
    (tt, own_ok calls (told (stray_event line act.Store o a (bytes_of_kind kind)) w) o (granule a) (write_cell kind a v c) ok (write_holds kind a v c h))
store_gives calls (at o a reaches.outside) rule kind line v w h ok =
    let x : World = told (stray_event line act.Store o a (bytes_of_kind kind)) w in
    let c : Cell = outside_cell x o (granule a) in
    put_gives calls rule line o (granule a) (write_cell kind a v c) x ok (write_holds kind a v c h)
store_gives calls (at o a reaches.vanishing) rule kind line v w h ok = (tt, ok)

pub typed_store : (calls : List Call) (rule : Rule) (kind : LoadKind) (line : ℕ) (p : Value) (d : ℤ) (v : Value) → OfKind kind v → Typed calls Any (store rule kind line p d v)
typed_store calls rule kind line p d v h =
    record { each = λ w ok. store_gives calls (target rule w.objects p d (bytes_of_kind kind)) rule kind line v w h ok }

-- the kind of an access of a type, and the class of the type
pub kind_class : (ty : PlainType) (v : Value) → OfKind (kind_of ty) v → HasClass (class_of ty) v
kind_class (Int t) v h = h
kind_class (Pointer t) v h = h
kind_class Void v h = tt
kind_class (Array t n) v h = tt
kind_class (Struct n) v h = tt

pub class_kind : (ty : PlainType) (v : Value) → IsScalar (class_of ty) → HasClass (class_of ty) v → OfKind (kind_of ty) v
class_kind (Int t) v s h = h
class_kind (Pointer t) v s h = h
class_kind Void v s h = absurd s
class_kind (Array t n) v s h = absurd s
class_kind (Struct n) v s h = absurd s
