-- What a space is seen as: the rows of the image that memory is laid out by, the settings, and what memory holds.
use Rattle.std.specs.Prelude.{◌≡◌, ℕ, ◌+◌, ◌-◌, ◌⊎◌, ◌≤◌, ◌<◌, true, false, ℤ, List, [], ◌∷◌, length, Option, Some, None, Result}
use Rattle.ob_model.specs.declared.settings.RunSettings.{RunSettings}
use Rattle.ob_model.specs.declared.values.LoadKind.{LoadKind}
use Rattle.ob_model.specs.declared.values.Value.{Value}
use Rattle.ob_model.specs.Accesses.{bytes_of_kind}
use Rattle.ob_model.specs.Heap.{place_for}
use Rattle.ob_model.specs.Limits.{stack_bytes, heap_start}
use Rattle.ob_code.specs.declared.image.FunctionRow.{FunctionRow}
use Rattle.ob_code.specs.declared.image.Image.{Image}
use Rattle.ob_code.specs.declared.image.PointerRow.{PointerRow}
use Rattle.ob_code.specs.declared.image.StaticRow.{StaticRow}
use Rattle.ob_code.specs.Allocation.{Freeing, freeing, space_after_free}
use Rattle.ob_code.specs.Layout.{static_base, local_at, local_base}
use Rattle.ob_code.specs.Rules.{HasStatic, static_at}
use Rattle.ob_code.specs.Frames.{entered, is_full, left_call, top_function}
use Rattle.ob_code.specs.Pointers as pointers
use Rattle.ob_code.specs.Pointers.{pointer_of, resolve, shift}
use Rattle.ob_code.specs.Start.{laid_out}
use Rattle.ob_code.specs.State.{Call, Space}
use Rattle.ob_pointers.specs.declared.pointers.ShiftAnswer.{ShiftAnswer}
use Rattle.ob_pointers.specs.Pointing.{as_shifted}

pub record Loaded : Type 0 where
  pub statics : List StaticRow
  pub pointers : List PointerRow
  pub functions : List FunctionRow
  pub settings : RunSettings
  pub space : Space

-- an image that is laid out, with no call in progress
abbrev pub loaded : Image → RunSettings → Loaded
loaded image settings =
    record {
      statics = image.statics;
      pointers = image.pointers;
      functions = image.functions;
      settings = settings;
      space = laid_out stack_bytes image.statics image.pointers settings;
    }

abbrev pub cleared : Loaded → Loaded
cleared s = record s { space = laid_out stack_bytes s.statics s.pointers s.settings }

abbrev pub with_space : Loaded → Space → Loaded
with_space s space = record s { space = space }

-- how many words the innermost call's frame has; none where no call is in progress
abbrev pub top_words : Loaded → ℕ
top_words s = (top_function s.functions s.space.calls).words

-- ---- calls

-- a call is entered where the stack has room for it
pub record Enters (function link : ℕ) (old new : Loaded) : Type 0 where
  pub room : is_full old.functions function old.space.calls ≡ false
  pub space : new ≡ with_space old (entered old.functions function link old.space)

-- and refused where it has none; nothing changes then
pub record IsRefused (function : ℕ) (old new : Loaded) : Type 0 where
  pub full : is_full old.functions function old.space.calls ≡ true
  pub same : new ≡ old

-- the place that the innermost call returns to
abbrev pub top_link : List Call → Option ℕ
top_link [] = None
top_link (c ∷ cs) = Some c.link

-- the space once that call is left
abbrev pub left_top : List FunctionRow → List Call → Space → Space
left_top functions [] s = s
left_top functions (c ∷ cs) s = left_call functions c cs s

abbrev pub left : Loaded → Loaded
left s = with_space s (left_top s.functions s.space.calls s.space)

-- ---- pointers

-- a pointer is moved, or isn't, as the definition has it; where it isn't, nothing changes
pub record Moves (w : ℕ) (d : ℤ) (old : Loaded) (answer : Result ℕ ShiftAnswer) (new : Loaded) : Type 0 where
  pub moved : shift old.settings.away old.space w d ≡ as_shifted answer new.space
  pub rest : new ≡ with_space old new.space

-- the pointer that a word stands for
abbrev pub pointer_at : Loaded → ℕ → Value
pointer_at s w = pointer_of (resolve s.space w)

-- ---- the heap

-- the place for n bytes, and the address that an allocation gives
abbrev pub heap_place : Loaded → ℕ → Option ℕ
heap_place s n = place_for s.space.blocks s.settings.heap n

abbrev pub address_in_heap : ℕ → ℕ
address_in_heap place = heap_start + place

-- what `free` of a word does, its event, and the space afterwards
abbrev pub freeing_of : Loaded → ℕ → Freeing
freeing_of s w = freeing (resolve s.space w)

abbrev pub after_free : Loaded → ℕ → Loaded
after_free s w = with_space s (space_after_free s.settings.profile (freeing_of s w) s.space)

-- ---- objects

-- a word is the base of a static object, or of a local object of the innermost call, that has so many bytes at least
pub record IsStaticOf (s : Loaded) (w n : ℕ) : Type 0 where
  pub number : ℕ
  pub exists : HasStatic s.statics number
  pub base : w ≡ static_base s.statics number
  pub long : n ≤ (static_at s.statics (number - 1)).size

pub record IsLocalOf (s : Loaded) (w n : ℕ) : Type 0 where
  pub row : ℕ
  pub exists : row < length (top_function s.functions s.space.calls).locals
  pub base : w ≡ local_base s.functions s.space row
  pub long : n ≤ (local_at s.functions s.space row).size

abbrev pub IsShowable : Loaded → ℕ → LoadKind → Type 0
IsShowable s w kind = IsStaticOf s w (bytes_of_kind kind) ⊎ IsLocalOf s w (bytes_of_kind kind)
