-- The objects of the calls in progress, through changes of the list of objects.
use Rattle.std.proofs.Common.{◌≡◌, ℕ, ◌+◌, ◌<◌, ◌≤◌, true, false, List, [], ◌∷◌, map, All, arith, sym, subst, refl, ⊎_elim, ◌⊎◌, inl, inr}
use Rattle.std.specs.List.{Contains}
use Rattle.std.proofs.lemmas.List.Elements.{All-contains, All-from_get_or}
use Rattle.ob_model.specs.declared.objects.Entry.{Entry}
use Rattle.ob_model.specs.declared.objects.Sort.TheVariants.{Automatic}
use Rattle.ob_model.specs.Entries.{Known}
use Rattle.ob_model.specs.Objects.{is_among}
use Rattle.ob_code.specs.declared.image.FunctionRow.{FunctionRow}
use Rattle.ob_code.specs.declared.image.LocalRow.{LocalRow}
use Rattle.ob_code.specs.Frames.{function_at, local_entry, next_base, frame_length}
use Rattle.ob_code.specs.Layout.{no_local}
use Rattle.ob_code.specs.Rules.{IsFrameSound}
use Rattle.ob_code.specs.State.{Call}
use Rattle.ob_frames.specs.Calls.{AreStacked}
use Rattle.ob_lifetimes.specs.Living.{AreKnown, AreOfRows}
use Rattle.ob_space.specs.Kept.{HasObjects, HaveObjects, IsOfCall, IsOfCalls}
use Rattle.ob_space.proofs.Framing.{AllSound, row_in_frame}
use Rattle.ob_space.proofs.Lists.{all_from_members, contains_image}

-- ---- numbers of a call

pub among_above : (first count object : ℕ) → is_among first count object ≡ true → (first ≤ object) × (object < first + count)
among_above first count object is = (grind arith, grind arith)

pub among_is : (first count object : ℕ) → first ≤ object → object < first + count → is_among first count object ≡ true
among_is first count object least most = grind arith

pub among_not_below : (first count object : ℕ) → object < first → is_among first count object ≡ false
among_not_below first count object below = grind arith

-- ---- what becomes of the list

-- some object is or was this one
pub record IsEntryOf (ks : List Known) (e : Entry) : Type 0 where
  pub k : Known
  pub known : Contains ks k
  pub is : k.entry ≡ e

-- automatic objects below a number stay, and no others come
pub record KeepsCalls (bound : ℕ) (old new : List Known) : Type 0 where
  pub stay : (k : Known) → Contains old k → k.entry.sort ≡ Automatic → k.freed ≡ false → k.entry.object < bound → Contains new k
  pub come : (k : Known) → Contains new k → (bound ≤ k.entry.object) ⊎ IsEntryOf old k.entry

keeps_fewer : (bound less : ℕ) (old new : List Known) → less ≤ bound → KeepsCalls bound old new → KeepsCalls less old new
keeps_fewer bound less old new below kept = record {
  stay = λ k h sort freed under. kept.stay k h sort freed (omega arith);
  come = λ k h. ⊎_elim (λ (above : bound ≤ k.entry.object). inl (omega arith)) (λ (was : IsEntryOf old k.entry). inr was) (kept.come k h);
}

row_stays : (bound base first vars : ℕ) (rows : List LocalRow) (old new : List Known) → KeepsCalls bound old new → first + vars ≤ bound → AreKnown base first rows old → (r : LocalRow) → Contains rows r → r.ordinal < vars → Contains new (record { entry = local_entry base first r; freed = false })
row_stays bound base first vars rows old new kept numbers known r among ordinal =
    let Q : LocalRow → Type 0 = λ r. Contains old (record { entry = local_entry base first r; freed = false }) in
    kept.stay (record { entry = local_entry base first r; freed = false }) (All-contains Q rows r known among) refl refl (omega arith)

ordinals : (f : FunctionRow) → IsFrameSound f → (r : LocalRow) → Contains f.locals r → r.ordinal < f.vars
ordinals f sound r among =
    let Q : LocalRow → Type 0 = λ r. r.ordinal < f.vars in
    let each : All Q f.locals = All-from_get_or Q f.locals no_local (λ j below. (sound.locals j below).ordinal) in
    All-contains Q f.locals r each among

own_stays : (bound base first vars : ℕ) (rows : List LocalRow) (old new : List Known) → KeepsCalls bound old new → first + vars ≤ bound → AreOfRows (is_among first vars) base first rows old → (k : Known) → Contains new k → is_among first vars k.entry.object ≡ true → Contains (map (local_entry base first) rows) k.entry
own_stays bound base first vars rows old new kept numbers own k among dies =
    ⊎_elim
    (λ (above : bound ≤ k.entry.object). absurd (omega (arith, among_above first vars k.entry.object dies)))
    (λ (was : IsEntryOf old k.entry).
    let Q : Known → Type 0 = λ k. is_among first vars k.entry.object ≡ true → Contains (map (local_entry base first) rows) k.entry in
    let before : Contains (map (local_entry base first) rows) was.k.entry =
    All-contains Q old was.k own was.known (subst (λ (e : Entry). is_among first vars e.object ≡ true) (sym was.is) dies) in
    subst (λ (e : Entry). Contains (map (local_entry base first) rows) e) was.is before)
    (kept.come k among)

pub call_stays : (functions : List FunctionRow) (old new : List Known) (bound : ℕ) (c : Call) → IsFrameSound (function_at functions c.function) → KeepsCalls bound old new → HasObjects functions old bound c → (next : ℕ) → bound ≤ next → HasObjects functions new next c
call_stays functions old new bound c sound kept has next more = record {
  known = all_from_members (λ (r : LocalRow). Contains new (record { entry = local_entry c.base c.first r; freed = false })) (function_at functions c.function).locals
      (λ r among. row_stays bound c.base c.first (function_at functions c.function).vars (function_at functions c.function).locals old new kept has.numbers has.known r among (ordinals (function_at functions c.function) sound r among));
  own = all_from_members (λ (k : Known). is_among c.first (function_at functions c.function).vars k.entry.object ≡ true → Contains (map (local_entry c.base c.first) (function_at functions c.function).locals) k.entry) new
      (own_stays bound c.base c.first (function_at functions c.function).vars (function_at functions c.function).locals old new kept has.numbers has.own);
  numbers = omega (arith, has.numbers);
}

pub calls_stay : (functions : List FunctionRow) (old new : List Known) (bound : ℕ) (calls : List Call) → AllSound functions → AreStacked functions calls → KeepsCalls bound old new → HaveObjects functions old bound calls → (next : ℕ) → bound ≤ next → HaveObjects functions new next calls
calls_stay functions old new bound [] rows stacked kept have next more = tt
calls_stay functions old new bound (c ∷ cs) rows stacked kept have next more = (
  call_stays functions old new bound c (rows c.function stacked.0) kept have.0 next more,
  calls_stay functions old new c.first cs rows stacked.2 (keeps_fewer bound c.first old new (omega (arith, have.0.numbers)) kept) have.1 c.first (omega arith),
)

-- ---- where the objects of calls lie

pub of_call_ends : (functions : List FunctionRow) (c : Call) (e : Entry) → IsFrameSound (function_at functions c.function) → IsOfCall functions c e → e.base + e.size < c.base + frame_length (function_at functions c.function)
of_call_ends functions c e sound of =
    let at = contains_image (local_entry c.base c.first) (function_at functions c.function).locals no_local e of in
    let inside = row_in_frame (function_at functions c.function) sound at.place at.below in
    subst (λ (x : Entry). x.base + x.size < c.base + frame_length (function_at functions c.function)) (sym at.is) (omega (arith, inside))

pub of_calls_end : (functions : List FunctionRow) (calls : List Call) (e : Entry) → AllSound functions → AreStacked functions calls → IsOfCalls functions calls e → e.base + e.size < next_base functions calls
of_calls_end functions [] e rows stacked of = absurd of
of_calls_end functions (c ∷ cs) e rows stacked of =
    ⊎_elim
    (λ (here : IsOfCall functions c e). of_call_ends functions c e (rows c.function stacked.0) here)
    (λ (there : IsOfCalls functions cs e). omega (arith, of_calls_end functions cs e rows stacked.2 there, stacked.1))
    of
