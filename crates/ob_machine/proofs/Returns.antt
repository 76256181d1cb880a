-- Where a call returns to.
use Rattle.std.proofs.Common.{◌≡◌, ℕ, ◌-◌, ◌<◌, slice_get, List, [], ◌∷◌, length, Some, None, refl, sym, ap, ◌∙◌, subst, arith}
use Rattle.ob_words.specs.declared.types.IntType.TheVariants.{Int}
use Rattle.ob_words.specs.Words.{number}
use Rattle.ob_model.specs.declared.endings.Ending.TheVariants.{Ended}
use Rattle.ob_code.specs.declared.image.Image.{Image}
use Rattle.ob_code.specs.Frames.{left_call, top_function}
use Rattle.ob_code.specs.Machine.{jump, landed, result_word, returned, set_word}
use Rattle.ob_code.specs.Rules.{IsWritten}
use Rattle.ob_code.specs.State.{Call, Space, State, stops}
use Rattle.ob_space.specs.Loaded.{Loaded, left, left_top, top_link, top_words}
use Rattle.ob_machine.specs.declared.execution.Execution.{Execution}
use Rattle.ob_machine.specs.Executions.{Beside, state_of}
use Rattle.ob_machine.specs.Progress.{AreLinked}

-- the state once the innermost call is left
abbrev pub once_left : Image → List Call → State → State
once_left image calls s = record s { space = left_top image.functions calls s.space }

-- the first function ends the run
pub returned_last : (image : Image) (calls : List Call) (link w : ℕ) (s : State) → top_link calls ≡ Some link → AreLinked image calls → link ≡ length image.code → returned image calls w s ≡ stops (Ended (number Int w)) (once_left image calls s)
returned_last image [] link w s top linked last = cc
returned_last image (c ∷ []) link w s top linked last = refl
returned_last image (c ∷ d ∷ ds) link w s top linked last = let same : c.link ≡ link = cc in absurd (omega (arith, linked.0.within))

-- another call returns into its caller, which names a word of its own for the result
pub record ReturnsTo (image : Image) (calls : List Call) (link : ℕ) (space : Space) : Type 0 where
  pub within : link < length image.code
  pub written : IsWritten (top_function image.functions (left_top image.functions calls space).calls).words (result_word (slice_get image.code (link - 1)))

pub returns_to : (image : Image) (calls : List Call) (link : ℕ) (space : Space) → top_link calls ≡ Some link → AreLinked image calls → ¬ (link ≡ length image.code) → ReturnsTo image calls link space
returns_to image [] link space top linked on = cc
returns_to image (c ∷ []) link space top linked on = let same : c.link ≡ link = cc in absurd (on (sym same ∙ linked.0))
returns_to image (c ∷ d ∷ ds) link space top linked on =
    let same : c.link ≡ link = cc in
    record {
      within = subst (λ k. k < length image.code) same linked.0.within;
      written = subst (λ k. IsWritten (top_function image.functions (d ∷ ds)).words (result_word (slice_get image.code (k - 1)))) same linked.0.result;
    }

pub returned_on : (image : Image) (calls : List Call) (link w : ℕ) (s : State) → top_link calls ≡ Some link → AreLinked image calls → ¬ (link ≡ length image.code) → returned image calls w s ≡ set_word (jump (link - 1) (once_left image calls s)) (result_word (slice_get image.code (link - 1))) w
returned_on image [] link w s top linked on = cc
returned_on image (c ∷ []) link w s top linked on = let same : c.link ≡ link = cc in absurd (on (sym same ∙ linked.0))
returned_on image (c ∷ d ∷ ds) link w s top linked on =
    let same : c.link ≡ link = cc in
    ap (λ k. landed image.code k w (d ∷ ds) (record s { space = left_call image.functions c (d ∷ ds) s.space })) same

pub returned_none : (image : Image) (calls : List Call) (w : ℕ) (s : State) → top_link calls ≡ None → returned image calls w s ≡ stops (Ended (number Int w)) (once_left image calls s)
returned_none image [] w s top = refl
returned_none image (c ∷ cs) w s top = cc

-- the state of the run once the call is left
pub left_is : (image : Image) (e : Execution) (space : Loaded) (r : Beside) → e.space.functions ≡ image.functions → space ≡ left e.space → once_left image e.space.space.calls (state_of e r) ≡ state_of (record e { space = space }) r
left_is image e space r rows memory =
    ap (λ fs. record (state_of e r) { space = left_top fs e.space.space.calls e.space.space }) (sym rows)
    ∙ ap (λ m. state_of (record e { space = m }) r) (sym memory)

-- the caller's words
pub caller_words : (image : Image) (e : Execution) (space : Loaded) (a : ℕ) → e.space.functions ≡ image.functions → space ≡ left e.space → IsWritten (top_function image.functions (left_top image.functions e.space.space.calls e.space.space).calls).words a → IsWritten (top_words space) a
caller_words image e space a rows memory h =
    subst (λ m. IsWritten (top_words m) a) (sym memory)
    (subst (λ fs. IsWritten (top_function fs (left_top fs e.space.space.calls e.space.space).calls).words a) (sym rows) h)
