-- What an access that reaches a granule rests on.
use Rattle.std.proofs.Common.{◌≡◌, ℕ, ◌+◌, ◌-◌, ◌*◌, ◌/◌, ◌%◌, ◌<◌, ◌≤◌, ◌&&◌, ◌||◌, Bool, true, false, not, ℤ, pos, negsuc, ◌+ℤ◌, unsigned_abs, List, [], ◌∷◌, ◌++◌, length, Option, Some, None, All, arith, ap, refl, ⊎_elim, ◌⊎◌, inl, inr}
use Rattle.std.specs.List.{Contains}
use Rattle.std.specs.Prelude.{if◌then◌else◌, slice_index_or, IfSome}
use Rattle.std.proofs.lemmas.Bool.{eqb-true, leb-true, ltb-true}
use Rattle.std.proofs.lemmas.List.Elements.{All-contains, Contains-get_or}
use Rattle.ob_words.specs.Words.{block}
use Rattle.ob_model.specs.declared.objects.Entry.{Entry}
use Rattle.ob_model.specs.declared.objects.Sort.{Sort}
use Rattle.ob_model.specs.declared.objects.Sort.TheVariants.{Static, Automatic, Heap}
use Rattle.ob_model.specs.declared.settings.Mode.{Mode}
use Rattle.ob_model.specs.declared.settings.Mode.TheVariants.{Oblivious, Boundless}
use Rattle.ob_model.specs.declared.settings.RunSettings.{RunSettings}
use Rattle.ob_model.specs.declared.values.LoadKind.{LoadKind}
use Rattle.ob_model.specs.Accesses as reaches
use Rattle.ob_model.specs.Accesses.{Reach, bytes_of_kind, is_aligned, is_far, is_inside, is_own, own_granules, reach, reach_if, stray_reach}
use Rattle.ob_model.specs.Entries.{Known}
use Rattle.ob_model.specs.Settings.{keeps_strays}
use Rattle.ob_flat.specs.Memory.{IsIn, IsWithin}
use Rattle.ob_code.specs.declared.image.FunctionRow.{FunctionRow}
use Rattle.ob_code.specs.Accesses as accesses
use Rattle.ob_code.specs.Accesses.{Access, access_by, access_in, access_to}
use Rattle.ob_code.specs.Frames.{function_at, local_entry}
use Rattle.ob_code.specs.Layout.{no_local}
use Rattle.ob_code.specs.Rules.{local_at}
use Rattle.ob_code.specs.State.{Call}
use Rattle.ob_access.specs.declared.pointee.Pointee.{Pointee}
use Rattle.ob_access.specs.Pointees.{target_of}
use Rattle.ob_frames.specs.Calls.{AreStacked}
use Rattle.ob_frames.specs.Framed.{Framed}
use Rattle.ob_frames.specs.Kept.{IsFramed}
use Rattle.ob_frames.specs.Laws.{IsInLocal, LocalsLieInMemory, LocalsMeetNoLink, OthersMeetNoLink}
use Rattle.ob_frames.specs.Links.{MeetsNoLink}
use Rattle.ob_lifetimes.specs.Living.{HasBlock, IsSound, LiesBySort, Living}
use Rattle.ob_space.specs.Accesses.{GranulesLieApart}
use Rattle.ob_space.specs.Granules.{granule_start}
use Rattle.ob_space.specs.Kept.{IsKept, IsOfCall, IsOfCalls, LiesAsSort, LiesIn, loaded_in}
use Rattle.ob_space.specs.Loaded.{Loaded}
use Rattle.ob_space.specs.Reached.{IsReached, Reaches}
use Rattle.ob_space.proofs.Framing.{AllSound, frames_in_blocks}
use Rattle.ob_space.proofs.Lists.{contains_image}
use Rattle.ob_space.proofs.Writing.{IsShort, part_is_in, short_kind}

-- ---- the call of an object

pub record IsSomeCall (functions : List FunctionRow) (calls : List Call) (e : Entry) : Type 0 where
  pub inner : List Call
  pub c : Call
  pub outer : List Call
  pub whole : calls ≡ inner ++ c ∷ outer
  pub of : IsOfCall functions c e
  pub known : c.function < length functions
  pub multiple : c.base % 16 ≡ 0

pub some_call : (functions : List FunctionRow) (calls : List Call) (e : Entry) → AllSound functions → AreStacked functions calls → IsOfCalls functions calls e → IsSomeCall functions calls e
some_call functions [] e rows stacked of = absurd of
some_call functions (c ∷ cs) e rows stacked of =
    ⊎_elim
    (λ (here : IsOfCall functions c e).
    let is : IsSomeCall functions (c ∷ cs) e = record {
      inner = [];
      c = c;
      outer = cs;
      whole = refl;
      of = here;
      known = stacked.0;
      multiple = omega (arith, frames_in_blocks functions cs rows stacked.2, stacked.1);
    } in
    is)
    (λ (there : IsOfCalls functions cs e).
    let at = some_call functions cs e rows stacked.2 there in
    let is : IsSomeCall functions (c ∷ cs) e = record {
      inner = c ∷ at.inner;
      c = at.c;
      outer = at.outer;
      whole = ap (λ (xs : List Call). c ∷ xs) at.whole;
      of = at.of;
      known = at.known;
      multiple = at.multiple;
    } in
    is)
    of

-- ---- what an object's block is

pub record Grounds (f : Framed) (l : Living) (settings : RunSettings) : Type 0 where
  pub framed : IsFramed f
  pub sound : IsSound l
  pub kept : IsKept f l settings
  pub locals_lie : LocalsLieInMemory
  pub locals_meet : LocalsMeetNoLink
  pub others_meet : OthersMeetNoLink

-- bytes in the block of an object lie in memory, and meet no link word
pub record IsHeld (f : Framed) (base size : ℕ) : Type 0 where
  pub multiple : base % 16 ≡ 0
  pub lies : (address n : ℕ) → base ≤ address → address + n ≤ base + block size → IsIn f.memory address n
  pub apart : (address n : ℕ) → base ≤ address → address + n ≤ base + block size → MeetsNoLink f.calls address n

static_within : (f : Framed) (e : Entry) → LiesAsSort Static f e → (address n : ℕ) → e.base ≤ address → address + n ≤ e.base + block e.size → IsWithin 4096 f.memory.statics address n
static_within f e lies address n least most = record { begins = omega (arith, lies.within.begins); ends = omega (arith, lies.within.ends) }

heap_within : (f : Framed) (l : Living) (settings : RunSettings) (e : Entry) → IsKept f l settings → HasBlock l.heap l.blocks e → (address n : ℕ) → e.base ≤ address → address + n ≤ e.base + block e.size → IsWithin 33554432 f.memory.heap address n
heap_within f l settings e kept has address n least most =
    let block_ends : block e.size ≤ has.0.length = omega (arith, has.2.longer, has.2.whole) in
    record { begins = omega (arith, has.2.base); ends = omega (arith, has.2.base, has.2.within, kept.settled.heap, kept.settled.memory, block_ends) }

in_local : (functions : List FunctionRow) (calls : List Call) (e : Entry) (at : IsSomeCall functions calls e) (address n : ℕ) → e.base ≤ address → address + n ≤ e.base + block e.size → (row : ℕ) × IsInLocal functions at.c row address n
in_local functions calls e at address n least most =
    let image = contains_image (local_entry at.c.base at.c.first) (function_at functions at.c.function).locals no_local e at.of in
    let base : e.base ≡ at.c.base + (local_at (function_at functions at.c.function) image.place).place = ap (λ (x : Entry). x.base) image.is in
    let size : e.size ≡ (local_at (function_at functions at.c.function) image.place).size = ap (λ (x : Entry). x.size) image.is in
    (image.place, record { known = image.below; begins = omega arith; ends = omega arith })

local_multiple : (functions : List FunctionRow) (calls : List Call) (e : Entry) (rows : AllSound functions) (at : IsSomeCall functions calls e) → e.base % 16 ≡ 0
local_multiple functions calls e rows at =
    let image = contains_image (local_entry at.c.base at.c.first) (function_at functions at.c.function).locals no_local e at.of in
    let base : e.base ≡ at.c.base + (local_at (function_at functions at.c.function) image.place).place = ap (λ (x : Entry). x.base) image.is in
    omega (arith, at.multiple, ((rows at.c.function at.known).locals image.place image.below).multiple)

held_by_sort : (s : Sort) (f : Framed) (l : Living) (settings : RunSettings) (k : Known) → Grounds f l settings → LiesAsSort s f k.entry → LiesBySort s l.heap l.blocks k → IsHeld f k.entry.base k.entry.size
held_by_sort Static f l settings k grounds lies by_sort = record {
  multiple = lies.multiple;
  lies = λ address n least most. inl (static_within f k.entry lies address n least most);
  apart = λ address n least most. grounds.others_meet f address n grounds.framed (inl (static_within f k.entry lies address n least most));
}
held_by_sort Automatic f l settings k grounds lies by_sort =
    let at = some_call f.functions f.calls k.entry grounds.framed.rows grounds.framed.stacked lies in
    record {
      multiple = local_multiple f.functions f.calls k.entry grounds.framed.rows at;
      lies = λ address n least most.
          let local = in_local f.functions f.calls k.entry at address n least most in
          grounds.locals_lie f at.inner at.c at.outer local.0 address n grounds.framed at.whole local.1;
      apart = λ address n least most.
          let local = in_local f.functions f.calls k.entry at address n least most in
          grounds.locals_meet f at.inner at.c at.outer local.0 address n grounds.framed at.whole local.1;
    }
held_by_sort Heap f l settings k grounds lies by_sort = record {
  multiple = omega (arith, by_sort.2.base, by_sort.2.multiple);
  lies = λ address n least most. inr (inr (heap_within f l settings k.entry grounds.kept by_sort address n least most));
  apart = λ address n least most. grounds.others_meet f address n grounds.framed (inr (heap_within f l settings k.entry grounds.kept by_sort address n least most));
}

pub object_is_held : (f : Framed) (l : Living) (settings : RunSettings) (k : Known) → Grounds f l settings → Contains l.entries k → IsHeld f k.entry.base k.entry.size
object_is_held f l settings k grounds among =
    held_by_sort k.entry.sort f l settings k grounds (All-contains (LiesIn f) l.entries k grounds.kept.places among) (All-contains (λ (k : Known). LiesBySort k.entry.sort l.heap l.blocks k) l.entries k grounds.sound.places among)

-- ---- a granule of an object's own

pub reached_at : (f : Framed) (l : Living) (settings : RunSettings) (k : Known) (kind : LoadKind) (n : ℕ) → IsHeld f k.entry.base k.entry.size → Contains l.entries k → k.freed ≡ false → n / 8 < own_granules k.entry.size → n % bytes_of_kind kind ≡ 0 → IsReached (loaded_in f l settings) kind (k.entry.base + n)
reached_at f l settings k kind n held among live within aligned =
    let short : IsShort (bytes_of_kind kind) = short_kind kind in
    let fits : n % 8 + bytes_of_kind kind ≤ 8 = short.fits n aligned in
    let begins : granule_start (k.entry.base + n) ≡ k.entry.base + 8 * (n / 8) = omega (arith, held.multiple) in
    let least : k.entry.base ≤ granule_start (k.entry.base + n) = omega arith in
    let most : granule_start (k.entry.base + n) + 8 ≤ k.entry.base + block k.entry.size = omega arith in
    let lies : IsIn f.memory (granule_start (k.entry.base + n)) 8 = held.lies (granule_start (k.entry.base + n)) 8 least most in
    record {
      own = record { k = k; known = among; live = live; begins = omega arith; ends = omega arith };
      granule = lies;
      bytes = part_is_in f.memory (granule_start (k.entry.base + n)) 8 (k.entry.base + n) (bytes_of_kind kind) (omega arith) (omega arith) lies;
      aligned = short.sums k.entry.base n held.multiple aligned;
      apart = held.apart (granule_start (k.entry.base + n)) 8 least most;
    }

-- ---- by the tests of the definition

abbrev FactOf : Reach → Bool → Bool → Bool → Bool → Bool → Type 0
FactOf reaches.inside keeps freed aligned inside own = (freed ≡ false) × (aligned ≡ true) × (inside ≡ true)
FactOf reaches.own keeps freed aligned inside own = (freed ≡ false) × (aligned ≡ true) × (own ≡ true)
FactOf reaches.outside keeps freed aligned inside own = (freed ≡ false) × (aligned ≡ true) × (keeps ≡ true)
FactOf reaches.vanishing keeps freed aligned inside own = Unit {0}

by_tests : (keeps freed aligned inside own : Bool) → FactOf (reach_if (freed || not (aligned && inside)) (stray_reach (keeps && (not freed && aligned)) own)) keeps freed aligned inside own
by_tests true true true true true = tt
by_tests true true true true false = tt
by_tests true true true false true = tt
by_tests true true true false false = tt
by_tests true true false true true = tt
by_tests true true false true false = tt
by_tests true true false false true = tt
by_tests true true false false false = tt
by_tests true false true true true = (refl, refl, refl)
by_tests true false true true false = (refl, refl, refl)
by_tests true false true false true = (refl, refl, refl)
by_tests true false true false false = (refl, refl, refl)
by_tests true false false true true = tt
by_tests true false false true false = tt
by_tests true false false false true = tt
by_tests true false false false false = tt
by_tests false true true true true = tt
by_tests false true true true false = tt
by_tests false true true false true = tt
by_tests false true true false false = tt
by_tests false true false true true = tt
by_tests false true false true false = tt
by_tests false true false false true = tt
by_tests false true false false false = tt
by_tests false false true true true = (refl, refl, refl)
by_tests false false true true false = (refl, refl, refl)
by_tests false false true false true = tt
by_tests false false true false false = tt
by_tests false false false true true = tt
by_tests false false false true false = tt
by_tests false false false false true = tt
by_tests false false false false false = tt

is_boundless : (mode : Mode) → keeps_strays mode ≡ true → mode ≡ Boundless
is_boundless Oblivious h = absurd (cc)
is_boundless Boundless h = refl

reached_inside : (f : Framed) (l : Living) (settings : RunSettings) (k : Known) (kind : LoadKind) (offset : ℤ) → IsHeld f k.entry.base k.entry.size → Contains l.entries k → k.freed ≡ false → is_aligned offset (bytes_of_kind kind) ≡ true → is_inside k.entry.size offset (bytes_of_kind kind) ≡ true → IsReached (loaded_in f l settings) kind (k.entry.base + unsigned_abs offset)
reached_inside f l settings k kind (pos n) held among live aligned inside =
    let short : IsShort (bytes_of_kind kind) = short_kind kind in
    let within : n + bytes_of_kind kind ≤ k.entry.size = leb-true (n + bytes_of_kind kind) k.entry.size inside in
    reached_at f l settings k kind n held among live (omega (arith, short.some)) (eqb-true (n % bytes_of_kind kind) 0 aligned)
reached_inside f l settings k kind (negsuc n) held among live aligned inside = absurd (cc)

reached_own : (f : Framed) (l : Living) (settings : RunSettings) (k : Known) (kind : LoadKind) (offset : ℤ) → IsHeld f k.entry.base k.entry.size → Contains l.entries k → k.freed ≡ false → is_aligned offset (bytes_of_kind kind) ≡ true → is_own k.entry.size offset ≡ true → IsReached (loaded_in f l settings) kind (k.entry.base + unsigned_abs offset)
reached_own f l settings k kind (pos n) held among live aligned own =
    reached_at f l settings k kind n held among live (ltb-true (n / 8) (own_granules k.entry.size) own) (eqb-true (n % bytes_of_kind kind) 0 aligned)
reached_own f l settings k kind (negsuc n) held among live aligned own = absurd (cc)

reached_by : (r : Reach) (f : Framed) (l : Living) (settings : RunSettings) (k : Known) (kind : LoadKind) (offset : ℤ) → IsHeld f k.entry.base k.entry.size → Contains l.entries k → FactOf r (keeps_strays settings.mode) k.freed (is_aligned offset (bytes_of_kind kind)) (is_inside k.entry.size offset (bytes_of_kind kind)) (is_own k.entry.size offset) → Reaches (access_by r k.entry offset) kind (loaded_in f l settings)
reached_by reaches.inside f l settings k kind offset held among fact = reached_inside f l settings k kind offset held among fact.0 fact.1 fact.2
reached_by reaches.own f l settings k kind offset held among fact = reached_own f l settings k kind offset held among fact.0 fact.1 fact.2
reached_by reaches.outside f l settings k kind offset held among fact =
    (fact.1, (k, among, refl, fact.0), is_boundless settings.mode fact.2)
reached_by reaches.vanishing f l settings k kind offset held among fact = tt

unless_far : (far : Bool) (a : Access) (kind : LoadKind) (s : Loaded) → Reaches a kind s → Reaches (if far then accesses.too_far else a) kind s
unless_far true a kind s h = tt
unless_far false a kind s h = h

reached_in : (f : Framed) (l : Living) (settings : RunSettings) (k : Known) (kind : LoadKind) (offset : ℤ) → Grounds f l settings → Contains l.entries k → Reaches (access_in settings.mode k offset (bytes_of_kind kind)) kind (loaded_in f l settings)
reached_in f l settings k kind offset grounds among =
    unless_far (is_far offset) (access_by (reach (keeps_strays settings.mode) k.freed k.entry.size offset (bytes_of_kind kind)) k.entry offset) kind (loaded_in f l settings)
    (reached_by (reach (keeps_strays settings.mode) k.freed k.entry.size offset (bytes_of_kind kind)) f l settings k kind offset (object_is_held f l settings k grounds among) among
    (by_tests (keeps_strays settings.mode) k.freed (is_aligned offset (bytes_of_kind kind)) (is_inside k.entry.size offset (bytes_of_kind kind)) (is_own k.entry.size offset)))

abbrev pub IsAmong : List Known → Option Pointee → Type 0
IsAmong entries None = Unit {0}
IsAmong entries (Some p) = Contains entries (record { entry = p.entry; freed = p.freed })

reached_to : (f : Framed) (l : Living) (settings : RunSettings) (pointer : Option Pointee) (d : ℤ) (kind : LoadKind) → Grounds f l settings → IsAmong l.entries pointer → Reaches (access_to settings.mode (target_of pointer) d (bytes_of_kind kind)) kind (loaded_in f l settings)
reached_to f l settings None d kind grounds among = tt
reached_to f l settings (Some p) d kind grounds among =
    reached_in f l settings (record { entry = p.entry; freed = p.freed }) kind (p.offset +ℤ d) grounds among

pub reached : (f : Framed) (l : Living) (settings : RunSettings) (pointer : Option Pointee) (d : ℤ) (kind : LoadKind) → Grounds f l settings → IsAmong l.entries pointer → Reaches (if is_far d then accesses.too_far else access_to settings.mode (target_of pointer) d (bytes_of_kind kind)) kind (loaded_in f l settings)
reached f l settings pointer d kind grounds among =
    unless_far (is_far d) (access_to settings.mode (target_of pointer) d (bytes_of_kind kind)) kind (loaded_in f l settings) (reached_to f l settings pointer d kind grounds among)

-- ---- granules of two objects

pub granules_apart : (f : Framed) (l : Living) (settings : RunSettings) → Grounds f l settings → GranulesLieApart l.entries
granules_apart f l settings grounds i j d less below =
    let first = object_is_held f l settings (slice_index_or l.entries i d) grounds (Contains-get_or l.entries i d (omega arith)) in
    let second = object_is_held f l settings (slice_index_or l.entries j d) grounds (Contains-get_or l.entries j d below) in
    omega (arith, grounds.sound.in_order i j d less below, first.multiple, second.multiple)

pub among_of : (entries : List Known) (pointer : Option Pointee) → IfSome pointer (λ p. Contains entries (record { entry = p.entry; freed = p.freed })) → IsAmong entries pointer
among_of entries None h = tt
among_of entries (Some p) h = h
