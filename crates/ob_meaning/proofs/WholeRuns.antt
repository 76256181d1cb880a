-- The objects of each run are whole, and so are the granules outside of them.
use Rattle.std.proofs.Common.{ℕ, ◌==◌, not, List, [], ◌∷◌, All, length, map, slice_index_or}
use Rattle.std.proofs.lemmas.List.Elements.{All-append, All-cons, All-filter, All-map, All-nil}
use Rattle.ob_model.specs.declared.objects.Sort.TheVariants.{Heap}
use Rattle.ob_model.specs.declared.settings.Profile.{Profile}
use Rattle.ob_model.specs.declared.settings.Profile.TheVariants.{One, Two}
use Rattle.ob_model.specs.Bounded.{Listed}
use Rattle.ob_model.specs.Objects.{freed, dead, is_among}
use Rattle.ob_meaning.specs.Calls.{automatics, left_to}
use Rattle.ob_meaning.specs.Heap.{freed_under}
use Rattle.ob_meaning.specs.Memory.{Object, new_object, no_object, object_at, wiped}
use Rattle.ob_meaning.specs.MemoryLaws.{IsWhole, RunsKeepObjectsWhole, RunsKeepOutsidesWhole}
use Rattle.ob_meaning.specs.Runs.{first_world, run, setup_of, static_object}
use Rattle.ob_meaning.specs.Setup.{Setup, function_at}
use Rattle.ob_meaning.specs.Values.{Cell}
use Rattle.ob_meaning.specs.World.{World, Call, end_of}
use Rattle.ob_meaning.proofs.Invariants.{Kept, holds_at_end}
use Rattle.ob_meaning.proofs.OutsideCells.{Eight, eight_cell, eight_store, eight_used}
use Rattle.ob_meaning.proofs.WholeObjects.{AreWhole, whole_at, whole_automatics, whole_new, whole_none, whole_set, whole_states, whole_static, whole_store, whole_wiped}

abbrev Whole : List Object → List (Listed Cell) → List Call → Type 0
Whole objects outside calls = AreWhole objects × All Eight outside

module _ (u : Setup) where
  whole_freed : (profile : Profile) (object : ℕ) (w : World) → Whole w.objects w.outside w.calls → Whole (freed_under profile object w).objects (freed_under profile object w).outside w.calls
  whole_freed One object w h =
      (whole_states dead (λ other. other == object) 0 w.objects h.0, All-filter (λ e. not (e.object == object)) Eight w.outside h.1)
  whole_freed Two object w h =
      (whole_states freed (λ other. other == object) 0 w.objects h.0, All-filter (λ e. not (e.object == object)) Eight w.outside h.1)

  whole_left : (calls : List Call) (w : World) → AreWhole w.objects × All Eight w.outside → AreWhole (left_to u calls w).objects × All Eight (left_to u calls w).outside
  whole_left [] w h = h
  whole_left (c ∷ cs) w h =
      let dies = is_among c.first (length (function_at u c.function).locals) in
      (whole_states dead dies 0 w.objects h.0, All-filter (λ e. not (dies e.object)) Eight w.outside h.1)

  abbrev whole_kept : Kept u Whole
  whole_kept =
      record {
        uses = λ object g w h. (h.0, eight_used object g w.outside h.1);
        stores = λ kind line p d v w h. (whole_store u.rule kind line p d v w h.0, eight_store u.rule kind line p d v w h.1);
        frees = λ object offset w known test h. whole_freed u.settings.profile object w h;
        allocates = λ n w h.
            (All-append IsWhole w.objects (new_object Heap n ∷ []) h.0 (All-cons IsWhole (new_object Heap n) [] (whole_new Heap n) (All-nil IsWhole)), h.1);
        clears = λ object w h.
            (whole_set w.objects object (wiped (object_at w.objects object)) h.0 (whole_wiped (object_at w.objects object)), h.1);
        enters = λ f arguments w h.
            let made : List Object = automatics u.program.structs (function_at u f).locals arguments in
            (All-append IsWhole w.objects made h.0 (whole_automatics u.program.structs (function_at u f).locals arguments), h.1);
        leaves = λ w h. whole_left w.calls w h;
      }

  first_whole : (place : ℕ) (input : List ℕ) (steps : ℕ) → Whole (first_world u place input steps).objects [] []
  first_whole place input steps =
      let statics : List Object = map (static_object u.program.structs) u.program.statics in
      (All-cons IsWhole no_object statics whole_none (All-map IsWhole (static_object u.program.structs) u.program.statics (λ k d h. whole_static u.program.structs (slice_index_or u.program.statics k d))), All-nil Eight)

  whole_end : (place : ℕ) (input : List ℕ) (steps : ℕ) → AreWhole (end_of (run u place input steps)).objects × All Eight (end_of (run u place input steps)).outside
  whole_end place input steps = holds_at_end u Whole whole_kept place input steps (first_whole place input steps)

pub runs_keep_whole : RunsKeepObjectsWhole
runs_keep_whole program rule settings cycle place input input_end steps object =
    let u : Setup = setup_of program rule settings cycle input_end in
    whole_at (end_of (run u place input steps)).objects object (whole_end u place input steps).0

pub runs_keep_outsides : RunsKeepOutsidesWhole
runs_keep_outsides program rule settings cycle place input input_end steps object g =
    let u : Setup = setup_of program rule settings cycle input_end in
    eight_cell object g (end_of (run u place input steps)) (whole_end u place input steps).1
