-- How far a run has come: the states that it goes through, and where their next instructions stand.
use Rattle.std.specs.Prelude.{◌≡◌, ℕ, zero, suc, ◌-◌, ◌<◌, List, [], ◌∷◌, length, slice_get}
use Rattle.ob_code.specs.declared.image.Image.{Image}
use Rattle.ob_code.specs.Machine.{result_word, step}
use Rattle.ob_code.specs.Rules.{IsCodeOf, IsWritten, words_of}
use Rattle.ob_code.specs.Start.{fresh, started}
use Rattle.ob_code.specs.State.{Call, Setup, Space, State, goes}

-- n instructions lead from one state to another, and none of them ends the run
abbrev pub Leads : Setup → ℕ → State → State → Type 0
Leads u zero s t = t ≡ s
Leads u (suc n) s t = (r : State) × (step u s ≡ goes r) × Leads u n r t

-- the run from a space reaches a state after n instructions
pub record Reaches (u : Setup) (space : Space) (place : ℕ) (input : List ℕ) (steps n : ℕ) (t : State) : Type 0 where
  pub first : State
  pub starts : started u.image (fresh space place input steps) ≡ goes first
  pub leads : Leads u n first t

-- a place of the innermost call's function
abbrev pub IsInnermost : Image → List Call → ℕ → Type 0
IsInnermost image [] at = ⊥
IsInnermost image (c ∷ cs) at = IsCodeOf image c.function at

-- where a call returns to: to the end of the code from the first function; else to just after an instruction that names a word
-- of the caller's for the result
pub record IsReturnPlace (image : Image) (caller link : ℕ) : Type 0 where
  pub positive : 0 < link
  pub within : link < length image.code
  pub in_code : IsCodeOf image caller link
  pub result : IsWritten (words_of image caller) (result_word (slice_get image.code (link - 1)))

abbrev pub IsLink : Image → List Call → ℕ → Type 0
IsLink image [] link = link ≡ length image.code
IsLink image (c ∷ cs) link = IsReturnPlace image c.function link

abbrev pub AreLinked : Image → List Call → Type 0
AreLinked image [] = Unit {0}
AreLinked image (c ∷ cs) = IsLink image cs c.link × AreLinked image cs

-- a state from which a run can go on
pub record IsPlaced (image : Image) (calls : List Call) (at : ℕ) : Type 0 where
  pub innermost : IsInnermost image calls at
  pub linked : AreLinked image calls
