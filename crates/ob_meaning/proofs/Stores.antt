-- What stores leave as it was.
use Rattle.std.proofs.Common.{◌≡◌, ℕ, zero, suc, ◌/◌, ◌≤◌, ◌⊎◌, inl, inr, Bool, true, false, not, ◌&&◌, ◌||◌, nat_lt, ℤ, pos, negsuc, ◌+ℤ◌, List, [], ◌∷◌, length, is_some, unwrap_or, Option, Some, None, if◌then◌else◌, slice_get, slice_index_or, slice_set, arith, refl, sym, subst, ◌∙◌, ap}
use Rattle.std.proofs.lemmas.List.{take_all}
use Rattle.ob_model.specs.declared.strays.Act.TheVariants as act
use Rattle.ob_model.specs.declared.strays.StrayEvent.{StrayEvent}
use Rattle.ob_model.specs.declared.values.LoadKind.{LoadKind}
use Rattle.ob_model.specs.declared.values.Value.{Value}
use Rattle.ob_model.specs.declared.values.Value.TheVariants as value
use Rattle.ob_model.specs.Accesses.{Reach, bytes_of_kind, granule, is_aligned, is_far, reach_if, stray_event, stray_reach}
use Rattle.ob_model.specs.Accesses as reaches
use Rattle.ob_model.specs.Bounded.{Listed, dropped, listed_cell, put_first}
use Rattle.ob_model.specs.Cells.{unset, zeros}
use Rattle.ob_model.specs.Endings.{dropped as too_many}
use Rattle.ob_model.specs.Objects.{is_dead_state, is_freed}
use Rattle.ob_meaning.specs.Accesses.{Target, dead_object, too_far, at, first_drop, keeps, outside_cell, put_outside, reach_in, store_at, target}
use Rattle.ob_meaning.specs.Memory.{Object, no_object, object_at, own_cell, with_own, with_own_cell}
use Rattle.ob_meaning.specs.MemoryLaws.{AllElseStays, IsSameGranule, OtherGranulesStay, OtherOutsidesStay, OthersStayUndropped, SizesAndLivesStay}
use Rattle.ob_meaning.specs.Values.{Cell, nothing, write_cell}
use Rattle.ob_meaning.specs.World.{Rule, vanish, kept, unlimited, World, stop, go, end_of, told}
use Rattle.ob_meaning.proofs.OutsideLists.{listed_is}
use Rattle.ob_meaning.proofs.SameMaps.{other-put}

-- ---- lists with one element set

pub set_cases : {A : Type 0} (l : List A) (i j : ℕ) (a d : A) → (slice_index_or (slice_set l i a) j d ≡ slice_index_or l j d) ⊎ ((i ≡ j) × (slice_index_or (slice_set l i a) j d ≡ a))
set_cases [] i j a d = inl refl
set_cases (x ∷ l) zero zero a d = inr (refl, refl)
set_cases (x ∷ l) zero (suc j) a d = inl refl
set_cases (x ∷ l) (suc i) zero a d = inl refl
set_cases (x ∷ l) (suc i) (suc j) a d =
    elim (set_cases l i j a d) [ inl same ↦ inl same | inr h ↦ inr (ap suc h.0, h.1) ]

pub set_other : {A : Type 0} (l : List A) (i j : ℕ) (a d : A) → (i ≡ j → ⊥) → slice_index_or (slice_set l i a) j d ≡ slice_index_or l j d
set_other l i j a d ne = elim (set_cases l i j a d) [ inl same ↦ same | inr h ↦ absurd (ne h.0) ]

-- ---- one granule of one object

-- an object whose granule is set, at each granule but that one
own_other : (objects : List Object) (object other q g : ℕ) (cell : Cell) → ((object ≡ other) × (q ≡ g) → ⊥) → own_cell (with_own_cell objects object (pos q) cell) other (pos g) ≡ own_cell objects other (pos g)
own_other objects object other q g cell ne =
    elim (set_cases objects object other (with_own (object_at objects object) (pos q) cell) no_object) [
      | inl same ↦ ap (λ (o : Object). slice_index_or o.own g zeros) same
      | inr h ↦ ap (λ (o : Object). slice_index_or o.own g zeros) h.1
          ∙ set_other (object_at objects object).own q g cell zeros (λ e. ne (h.0, e))
          ∙ ap (λ (i : ℕ). slice_index_or (object_at objects i).own g zeros) h.0
    ]

-- what an object that is set has in common with the one before, each object has
pub field_same : {B : Type 0} (f : Object → B) (objects : List Object) (object other : ℕ) (new : Object) → f new ≡ f (object_at objects object) → f (object_at (slice_set objects object new) other) ≡ f (object_at objects other)
field_same f objects object other new h =
    elim (set_cases objects object other new no_object) [
      | inl same ↦ ap f same
      | inr e ↦ ap f e.1 ∙ h ∙ ap (λ (i : ℕ). f (object_at objects i)) e.0
    ]

size_same : (objects : List Object) (object other : ℕ) (q : ℤ) (cell : Cell) → ((object_at (with_own_cell objects object q cell) other).size ≡ (object_at objects other).size) × ((object_at (with_own_cell objects object q cell) other).state ≡ (object_at objects other).state)
size_same objects object other q cell =
    let new : Object = with_own (object_at objects object) q cell in
    (field_same (λ (o : Object). o.size) objects object other new refl, field_same (λ (o : Object). o.state) objects object other new refl)

-- ---- where a store goes

-- an access at a negative offset reaches no granule of the object's own
pub negative_outside : (freed aligned kept : Bool) → (reach_if (freed || not (aligned && false)) (stray_reach (kept && (not freed && aligned)) false) ≡ reaches.vanishing) ⊎ (reach_if (freed || not (aligned && false)) (stray_reach (kept && (not freed && aligned)) false) ≡ reaches.outside)
negative_outside true aligned true = inl refl
negative_outside true aligned false = inl refl
negative_outside false true true = inr refl
negative_outside false true false = inl refl
negative_outside false false true = inl refl
negative_outside false false false = inl refl

-- what holds of a store whatever its target holds of it; an object that is reached isn't dead
pub by_target : (P : Target → Type 0) (rule : Rule) (w : World) (object : ℕ) (offset d : ℤ) (k : ℕ) → P dead_object → P too_far → (is_dead_state (object_at w.objects object).state ≡ false → P (at object (offset +ℤ d) (reach_in rule (object_at w.objects object) (offset +ℤ d) k))) → P (target rule w.objects (value.Ptr object offset) d k)
by_target P rule w object offset d k dead far near =
    by_tests (is_dead_state (object_at w.objects object).state) (is_far d) (is_far (offset +ℤ d)) near
  where
    by_tests : (a b c : Bool) → (a ≡ false → P (at object (offset +ℤ d) (reach_in rule (object_at w.objects object) (offset +ℤ d) k))) → P (if a then dead_object else (if b then too_far else (if c then too_far else at object (offset +ℤ d) (reach_in rule (object_at w.objects object) (offset +ℤ d) k))))
    by_tests true b c near = dead
    by_tests false true c near = far
    by_tests false false true near = far
    by_tests false false false near = near refl

-- the objects after a store outside of them
pub put_objects : (rule : Rule) (line object : ℕ) (g : ℤ) (cell : Cell) (w : World) → (end_of (put_outside rule line object g cell w)).objects ≡ w.objects
put_objects vanish line object g cell w = refl
put_objects (kept cap) line object g cell w = refl
put_objects (unlimited cap) line object g cell w = by_test (is_some (listed_cell object g w.outside) || nat_lt (length w.outside) cap)
  where
    by_test : (b : Bool) → (end_of (if b then go nothing (record w { outside = put_first object g cell w.outside }) else stop (too_many line) w)).objects ≡ w.objects
    by_test true = refl
    by_test false = refl

store_near : (rule : Rule) (kind : LoadKind) (line object other g : ℕ) (o : ℤ) (r : Reach) (v : Value) (w : World) → r ≡ reach_in rule (object_at w.objects object) o (bytes_of_kind kind) → ¬ IsSameGranule object (granule o) other (pos g) → own_cell (end_of (store_at (at object o r) rule kind line v w)).objects other (pos g) ≡ own_cell w.objects other (pos g)
store_near rule kind line object other g (pos n) reaches.inside v w is ne =
    own_other w.objects object other (n / 8) g (write_cell kind (pos n) v (own_cell w.objects object (pos (n / 8)))) (λ h. ne (h.0, ap pos h.1))
store_near rule kind line object other g (pos n) reaches.own v w is ne =
    own_other w.objects object other (n / 8) g (write_cell kind (pos n) v (own_cell w.objects object (pos (n / 8)))) (λ h. ne (h.0, ap pos h.1))
store_near rule kind line object other g (negsuc n) reaches.inside v w is ne =
    absurd (elim (negative_outside (is_freed (object_at w.objects object).state) (is_aligned (negsuc n) (bytes_of_kind kind)) (keeps rule)) [ inl h ↦ cc (is, h) | inr h ↦ cc (is, h) ])
store_near rule kind line object other g (negsuc n) reaches.own v w is ne =
    absurd (elim (negative_outside (is_freed (object_at w.objects object).state) (is_aligned (negsuc n) (bytes_of_kind kind)) (keeps rule)) [ inl h ↦ cc (is, h) | inr h ↦ cc (is, h) ])
store_near rule kind line object other g o reaches.outside v w is ne = ap (λ (os : List Object). own_cell os other (pos g)) (put_objects rule line object (granule o) _ _)
store_near rule kind line object other g o reaches.vanishing v w is ne = refl

pub other_granules_stay : OtherGranulesStay
other_granules_stay rule kind line object other g offset d v w ne =
    by_target (λ t. own_cell (end_of (store_at t rule kind line v w)).objects other (pos g) ≡ own_cell w.objects other (pos g)) rule w object offset d (bytes_of_kind kind) refl refl (λ known. store_near rule kind line object other g (offset +ℤ d) (reach_in rule (object_at w.objects object) (offset +ℤ d) (bytes_of_kind kind)) v w refl ne)

-- ---- what a store leaves of each object, and of all else

abbrev SameLife : List Object → List Object → ℕ → Type 0
SameLife after before other =
    ((object_at after other).size ≡ (object_at before other).size) × ((object_at after other).state ≡ (object_at before other).state)

target_sizes : (t : Target) (rule : Rule) (kind : LoadKind) (line other : ℕ) (v : Value) (w : World) → SameLife (end_of (store_at t rule kind line v w)).objects w.objects other
target_sizes dead_object rule kind line other v w = (refl, refl)
target_sizes too_far rule kind line other v w = (refl, refl)
target_sizes (at object o reaches.inside) rule kind line other v w =
    size_same w.objects object other (granule o) (write_cell kind o v (own_cell w.objects object (granule o)))
target_sizes (at object o reaches.own) rule kind line other v w =
    size_same w.objects object other (granule o) (write_cell kind o v (own_cell w.objects object (granule o)))
target_sizes (at object o reaches.outside) rule kind line other v w =
    let x : World = told (stray_event line act.Store object o (bytes_of_kind kind)) w in
    subst (λ (os : List Object). SameLife os w.objects other) (sym (put_objects rule line object (granule o) (write_cell kind o v (outside_cell x object (granule o))) x)) (refl, refl)
target_sizes (at object o reaches.vanishing) rule kind line other v w = (refl, refl)

pub sizes_and_lives_stay : SizesAndLivesStay
sizes_and_lives_stay rule kind line other p v d w =
    target_sizes (target rule w.objects p d (bytes_of_kind kind)) rule kind line other v w

abbrev MemoryAlone : World → World → Type 0
MemoryAlone after w =
    after ≡ record w { objects = after.objects; outside = after.outside; first_drop = after.first_drop; events = after.events }

put_alone : (rule : Rule) (line object : ℕ) (g : ℤ) (cell : Cell) (w : World) (e : StrayEvent) → MemoryAlone (end_of (put_outside rule line object g cell (told e w))) w
put_alone vanish line object g cell w e = refl
put_alone (kept cap) line object g cell w e = refl
put_alone (unlimited cap) line object g cell w e = by_test (is_some (listed_cell object g w.outside) || nat_lt (length w.outside) cap)
  where
    by_test : (b : Bool) → MemoryAlone (end_of (if b then go nothing (record (told e w) { outside = put_first object g cell w.outside }) else stop (too_many line) (told e w))) w
    by_test true = refl
    by_test false = refl

target_alone : (t : Target) (rule : Rule) (kind : LoadKind) (line : ℕ) (v : Value) (w : World) → MemoryAlone (end_of (store_at t rule kind line v w)) w
target_alone dead_object rule kind line v w = refl
target_alone too_far rule kind line v w = refl
target_alone (at object o reaches.inside) rule kind line v w = refl
target_alone (at object o reaches.own) rule kind line v w = refl
target_alone (at object o reaches.outside) rule kind line v w =
    put_alone rule line object (granule o) (write_cell kind o v (outside_cell w object (granule o))) w (stray_event line act.Store object o (bytes_of_kind kind))
target_alone (at object o reaches.vanishing) rule kind line v w = refl

pub all_else_stays : AllElseStays
all_else_stays rule kind line p v d w =
    target_alone (target rule w.objects p d (bytes_of_kind kind)) rule kind line v w

-- ---- granules outside of objects

put_others : (cap line object other : ℕ) (g h : ℤ) (cell : Cell) (w : World) → ¬ IsSameGranule object g other h → outside_cell (end_of (put_outside (unlimited cap) line object g cell w)) other h ≡ outside_cell w other h
put_others cap line object other g h cell w ne = by_test (is_some (listed_cell object g w.outside) || nat_lt (length w.outside) cap)
  where
    by_test : (b : Bool) → outside_cell (end_of (if b then go nothing (record w { outside = put_first object g cell w.outside }) else stop (too_many line) w)) other h ≡ outside_cell w other h
    by_test true =
        ap (λ (c : Option Cell). unwrap_or c unset) (listed_is other h (put_first object g cell w.outside) ∙ other-put object g cell other h w.outside ne ∙ sym (listed_is other h w.outside))
    by_test false = refl

near_others : (cap : ℕ) (kind : LoadKind) (line object other : ℕ) (o h : ℤ) (r : Reach) (v : Value) (w : World) → ¬ IsSameGranule object (granule o) other h → outside_cell (end_of (store_at (at object o r) (unlimited cap) kind line v w)) other h ≡ outside_cell w other h
near_others cap kind line object other o h reaches.inside v w ne = refl
near_others cap kind line object other o h reaches.own v w ne = refl
near_others cap kind line object other o h reaches.outside v w ne =
    put_others cap line object other (granule o) h (write_cell kind o v (outside_cell w object (granule o))) (told (stray_event line act.Store object o (bytes_of_kind kind)) w) ne
near_others cap kind line object other o h reaches.vanishing v w ne = refl

pub other_outsides_stay : OtherOutsidesStay
other_outsides_stay cap kind line object other offset d g v w ne =
    by_target (λ t. outside_cell (end_of (store_at t (unlimited cap) kind line v w)) other g ≡ outside_cell w other g) (unlimited cap) w object offset d (bytes_of_kind kind) refl refl (λ known. near_others cap kind line object other (offset +ℤ d) g (reach_in (unlimited cap) (object_at w.objects object) (offset +ℤ d) (bytes_of_kind kind)) v w ne)

-- a bounded list that drops nothing
no_drop_fits : (cap : ℕ) (es : List (Listed Cell)) → is_some (slice_get es cap) ≡ false → length es ≤ cap
no_drop_fits cap [] h = omega arith
no_drop_fits zero (e ∷ es) h = absurd (cc)
no_drop_fits (suc cap) (e ∷ es) h = let fits : length es ≤ cap = no_drop_fits cap es h in omega arith

not_dropped : (d : Option ℕ) (b : Bool) (n : ℕ) → first_drop d b n ≡ None → b ≡ false
not_dropped (Some k) b n h = absurd (cc)
not_dropped None true n h = absurd (cc)
not_dropped None false n h = refl

kept_others : (cap line object other : ℕ) (g h : ℤ) (cell : Cell) (w : World) → ¬ IsSameGranule object g other h → (end_of (put_outside (kept cap) line object g cell w)).first_drop ≡ None → outside_cell (end_of (put_outside (kept cap) line object g cell w)) other h ≡ outside_cell w other h
kept_others cap line object other g h cell w ne none =
    let put : List (Listed Cell) = put_first object g cell w.outside in
    let fits : length put ≤ cap = no_drop_fits cap put (not_dropped w.first_drop (is_some (dropped cap object g cell w.outside)) (length w.events) none) in
    ap (λ (es : List (Listed Cell)). unwrap_or (listed_cell other h es) unset) (take_all cap put fits)
    ∙ ap (λ (c : Option Cell). unwrap_or c unset) (listed_is other h put ∙ other-put object g cell other h w.outside ne ∙ sym (listed_is other h w.outside))

near_undropped : (cap : ℕ) (kind : LoadKind) (line object other : ℕ) (o h : ℤ) (r : Reach) (v : Value) (w : World) → ¬ IsSameGranule object (granule o) other h → (end_of (store_at (at object o r) (kept cap) kind line v w)).first_drop ≡ None → outside_cell (end_of (store_at (at object o r) (kept cap) kind line v w)) other h ≡ outside_cell w other h
near_undropped cap kind line object other o h reaches.inside v w ne none = refl
near_undropped cap kind line object other o h reaches.own v w ne none = refl
near_undropped cap kind line object other o h reaches.outside v w ne none =
    kept_others cap line object other (granule o) h (write_cell kind o v (outside_cell w object (granule o))) (told (stray_event line act.Store object o (bytes_of_kind kind)) w) ne none
near_undropped cap kind line object other o h reaches.vanishing v w ne none = refl

pub others_stay_undropped : OthersStayUndropped
others_stay_undropped cap kind line object other offset d g v w ne =
    by_target (λ t. (end_of (store_at t (kept cap) kind line v w)).first_drop ≡ None → outside_cell (end_of (store_at t (kept cap) kind line v w)) other g ≡ outside_cell w other g) (kept cap) w object offset d (bytes_of_kind kind) (λ none. refl) (λ none. refl) (λ known. near_undropped cap kind line object other (offset +ℤ d) g (reach_in (kept cap) (object_at w.objects object) (offset +ℤ d) (bytes_of_kind kind)) v w ne)
