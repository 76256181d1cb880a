-- The states of a run on a verified image are placed.
use Rattle.std.proofs.Common.{◌≡◌, ℕ, zero, suc, ◌+◌, ◌<◌, slice_get, List, [], ◌∷◌, length, Some, arith, refl, sym, ◌∙◌, ap, subst}
use Rattle.std.proofs.lemmas.Option.{slice_get-get_or}
use Rattle.ob_model.specs.declared.settings.RunSettings.{RunSettings}
use Rattle.ob_words.specs.Words.{block}
use Rattle.ob_code.specs.declared.image.Image.{Image}
use Rattle.ob_code.specs.declared.image.PointerRow.{PointerRow}
use Rattle.ob_code.specs.declared.image.StaticRow.{StaticRow}
use Rattle.ob_code.specs.declared.instructions.Instr.TheVariants.{Tick}
use Rattle.ob_code.specs.Machine as machine
use Rattle.ob_code.specs.Machine.{counted, entering, step}
use Rattle.ob_code.specs.declared.instructions.Instr.{Instr}
use Rattle.ob_code.specs.Rules.{AreOperandsSound, IsVerified, instruction_at}
use Rattle.ob_code.specs.Start.{fresh, laid_out, started, with_statics}
use Rattle.ob_model.specs.Limits.{stack_bytes}
use Rattle.ob_code.specs.State.{Call, Setup, Space, State, goes}
use Rattle.ob_machine.specs.Executions.{top_number}
use Rattle.ob_machine.specs.Progress.{AreLinked, IsInnermost, IsLink, IsPlaced, Leads, Reaches}
use Rattle.ob_machine.proofs.Placed as placed
use Rattle.ob_machine.proofs.Placed.{Goes, Stays, act_on, in_code}

pub innermost_in_code : (image : Image) (calls : List Call) (at : ℕ) → IsVerified image → IsInnermost image calls at → at < length image.code
innermost_in_code image [] at v here = absurd here
innermost_in_code image (c ∷ cs) at v here = in_code image c.function at v here

pub instruction_there : (image : Image) (calls : List Call) (at : ℕ) → IsVerified image → IsInnermost image calls at → slice_get image.code at ≡ Some (instruction_at image at)
instruction_there image calls at v here = slice_get-get_or image.code at Tick (innermost_in_code image calls at v here)

-- one instruction
pub step_placed : (u : Setup) (s r : State) → IsVerified u.image → IsPlaced u.image s.space.calls s.counter → step u s ≡ goes r → Stays u.image s r
step_placed u s r v p e =
    let is = instruction_there u.image s.space.calls s.counter v p.innermost in
    let stays = subst (Goes u.image (counted s)) (ap (λ o. machine.act_on u o (counted s)) (sym is) ∙ e) (act_on u v (counted s) p (instruction_at u.image s.counter) is) in
    record { placed = stays.placed; numbered = stays.numbered }

-- starting a run
pub start_placed : (image : Image) (s r : State) → IsVerified image → s.space.calls ≡ [] → started image s ≡ goes r → Stays image s r
start_placed image s r v none e = subst (Goes image s) e (placed.ticked image s.steps s (λ t. entering image image.main (length image.code) [] t) refl enters)
  where
    enters : (n : ℕ) → s.steps ≡ suc n → Goes image s (entering image image.main (length image.code) [] (record s { steps = n }))
    enters n left =
        placed.entering image s image.main (length image.code) [] (record s { steps = n }) v v.main.exists
        (subst (λ cs. AreLinked image cs) (sym none) tt)
        (subst (λ cs. IsLink image cs (length image.code)) (sym none) refl) (omega arith)

-- a space that was laid out has no calls
statics_calls : (base object : ℕ) (rows : List StaticRow) (s : Space) → (with_statics base object rows s).calls ≡ s.calls
statics_calls base object [] s = refl
statics_calls base object (r ∷ rows) s = statics_calls (base + block r.size) (object + 1) rows _

pub no_calls : (statics : List StaticRow) (pointers : List PointerRow) (settings : RunSettings) → (laid_out stack_bytes statics pointers settings).calls ≡ []
no_calls statics pointers settings = statics_calls 4096 1 statics _

statics_next : (base object : ℕ) (rows : List StaticRow) (s : Space) → (with_statics base object rows s).next ≡ s.next
statics_next base object [] s = refl
statics_next base object (r ∷ rows) s = statics_next (base + block r.size) (object + 1) rows _

-- its objects are numbered from 1
pub first_next : (statics : List StaticRow) (pointers : List PointerRow) (settings : RunSettings) → (laid_out stack_bytes statics pointers settings).next ≡ length statics + 1
first_next statics pointers settings = statics_next 4096 1 statics _

leads_placed : (u : Setup) (n : ℕ) (s t : State) → IsVerified u.image → IsPlaced u.image s.space.calls s.counter → Leads u n s t → IsPlaced u.image t.space.calls t.counter
leads_placed u zero s t v p l = subst (λ r. IsPlaced u.image r.space.calls r.counter) (sym l) p
leads_placed u (suc n) s t v p l = leads_placed u n l.0 t v (step_placed u s l.0 v p l.1).placed l.2

pub reaches_placed : (u : Setup) (place : ℕ) (input : List ℕ) (steps n : ℕ) (t : State) → IsVerified u.image → Reaches u (laid_out stack_bytes u.image.statics u.image.pointers u.settings) place input steps n t → IsPlaced u.image t.space.calls t.counter
reaches_placed u place input steps n t v r =
    let space = laid_out stack_bytes u.image.statics u.image.pointers u.settings in
    leads_placed u n r.first t v (start_placed u.image (fresh space place input steps) r.first v (no_calls u.image.statics u.image.pointers u.settings) r.starts).placed r.leads

-- what the innermost call's function asks of the next instruction
pub sound_there : (image : Image) (calls : List Call) (at : ℕ) (i : Instr) → IsVerified image → IsInnermost image calls at → slice_get image.code at ≡ Some i → AreOperandsSound image (top_number calls) i
sound_there image [] at i v here is = absurd here
sound_there image (c ∷ cs) at i v here is = placed.sound image (c ∷ cs) at i v here is
