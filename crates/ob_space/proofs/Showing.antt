-- The bytes of static objects, and of local objects of the innermost call.
use Rattle.std.proofs.Common.{◌≡◌, ℕ, zero, suc, ◌+◌, ◌-◌, ◌<◌, ◌≤◌, ◌%◌, List, [], ◌∷◌, length, take, arith, sym, subst, refl, ⊎_elim, ◌⊎◌, inl}
use Rattle.ob_words.specs.Words.{block}
use Rattle.ob_model.specs.declared.settings.RunSettings.{RunSettings}
use Rattle.ob_model.specs.declared.values.LoadKind.{LoadKind}
use Rattle.ob_model.specs.Accesses.{bytes_of_kind}
use Rattle.ob_flat.specs.Memory.{IsIn, IsWithin}
use Rattle.ob_code.specs.declared.image.StaticRow.{StaticRow}
use Rattle.ob_code.specs.Frames.{local_end, top_base, top_function}
use Rattle.ob_code.specs.Layout.{static_base, static_blocks}
use Rattle.ob_code.specs.Rules.{HasStatic, local_at, static_at}
use Rattle.ob_code.specs.State.{Call}
use Rattle.ob_frames.specs.Framed.{Framed, local_base, top_locals}
use Rattle.ob_frames.specs.Kept.{IsFramed}
use Rattle.ob_frames.specs.Laws.{LocalsLieInMemory, LocalsMeetNoLink}
use Rattle.ob_frames.specs.Links.{MeetsNoLink}
use Rattle.ob_lifetimes.specs.Living.{Living}
use Rattle.ob_space.specs.Kept.{loaded_in}
use Rattle.ob_space.specs.Loaded.{IsLocalOf, IsShowable, IsStaticOf}
use Rattle.ob_space.proofs.Framing.{frames_in_blocks}

-- ---- local objects

abbrev pub with_calls : Framed → List Call → Framed
with_calls f calls = record f { calls = calls }

pub locals_lie : (law : LocalsLieInMemory) (f : Framed) (calls : List Call) (row address n : ℕ) → IsFramed (with_calls f calls) → row < length (top_locals (with_calls f calls)) → local_base (with_calls f calls) row ≤ address → address + n ≤ top_base calls + local_end (local_at (top_function f.functions calls) row) → IsIn f.memory address n
locals_lie law f [] row address n framed known least most = absurd (omega arith)
locals_lie law f (c ∷ cs) row address n framed known least most =
    law (with_calls f (c ∷ cs)) [] c cs row address n framed refl (record { known = known; begins = least; ends = most })

pub locals_meet : (law : LocalsMeetNoLink) (f : Framed) (calls : List Call) (row address n : ℕ) → IsFramed (with_calls f calls) → row < length (top_locals (with_calls f calls)) → local_base (with_calls f calls) row ≤ address → address + n ≤ top_base calls + local_end (local_at (top_function f.functions calls) row) → MeetsNoLink calls address n
locals_meet law f [] row address n framed known least most = tt
locals_meet law f (c ∷ cs) row address n framed known least most =
    law (with_calls f (c ∷ cs)) [] c cs row address n framed refl (record { known = known; begins = least; ends = most })

pub local_multiple : (f : Framed) (calls : List Call) (row : ℕ) → IsFramed (with_calls f calls) → row < length (top_locals (with_calls f calls)) → local_base (with_calls f calls) row % 16 ≡ 0
local_multiple f [] row framed known = absurd (omega arith)
local_multiple f (c ∷ cs) row framed known =
    omega (arith, frames_in_blocks f.functions cs framed.rows framed.stacked.2, framed.stacked.1, ((framed.rows c.function framed.stacked.0).locals row known).multiple)

-- ---- static objects

pub blocks_to : (rows : List StaticRow) (i : ℕ) → i < length rows → static_blocks (take i rows) + block (static_at rows i).size ≤ static_blocks rows
blocks_to [] i below = absurd (omega arith)
blocks_to (r ∷ rs) zero below = omega arith
blocks_to (r ∷ rs) (suc i) below = omega (arith, blocks_to rs i (omega arith))

pub static_lies : (f : Framed) (number n : ℕ) → IsFramed f → HasStatic f.statics number → n ≤ (static_at f.statics (number - 1)).size → IsWithin 4096 f.memory.statics (static_base f.statics number) n
static_lies f number n framed has long =
    let ends = blocks_to f.statics (number - 1) (omega (arith, has.0, has.1)) in
    record { begins = omega arith; ends = omega (arith, framed.static_bytes, ends) }

pub showable_lies : (law : LocalsLieInMemory) (f : Framed) (l : Living) (settings : RunSettings) (w : ℕ) (kind : LoadKind) → IsFramed f → IsShowable (loaded_in f l settings) w kind → IsIn f.memory w (bytes_of_kind kind)
showable_lies law f l settings w kind framed shows =
    ⊎_elim
    (λ (here : IsStaticOf (loaded_in f l settings) w (bytes_of_kind kind)).
    subst (λ (a : ℕ). IsIn f.memory a (bytes_of_kind kind)) (sym here.base) (inl (static_lies f here.number (bytes_of_kind kind) framed here.exists here.long)))
    (λ (here : IsLocalOf (loaded_in f l settings) w (bytes_of_kind kind)).
    locals_lie law f f.calls here.row w (bytes_of_kind kind) framed here.exists (omega (arith, here.base)) (omega (arith, here.base, here.long)))
    shows
