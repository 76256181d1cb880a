-- Which image a list of bytes spells, and else the first byte from which no image's spelling is left.
use Rattle.std.specs.Prelude.{◌≡◌, ℕ, ◌+◌, ◌<◌, ◌≤◌, List, ◌++◌, length, take, Result, Ok, Err}
use Rattle.ob_code.specs.declared.image.Image.{Image}
use Rattle.ob_image.specs.Spelling.{spell_image, IsImage}
use Rattle.ob_image.specs.declared.layout.Version.{Version}
use Rattle.ob_image.specs.declared.faults.ImageFault.{ImageFault}
use Rattle.ob_image.specs.declared.faults.ImageFault.TheVariants as faults

-- the bytes are the image's spelling in a version
abbrev pub SpellsIn : Version → List ℕ → Image → Type 0
SpellsIn v bytes image = IsImage v image × (bytes ≡ spell_image v image)

-- they are its spelling in one of both versions
abbrev pub Spells : List ℕ → Image → Type 0
Spells bytes image = (v : Version) × SpellsIn v bytes image

-- some image's spelling in one of both versions begins with the bytes
abbrev pub IsBegun : List ℕ → Type 0
IsBegun bytes = (image : Image) × (rest : List ℕ) × Spells (bytes ++ rest) image

-- the least place such that no image's spelling in either version begins with the bytes up to and including it, or the length
-- where the bytes are a proper prefix of one
pub record IsFirstWrong (bytes : List ℕ) (at : ℕ) : Type 0 where
  pub within : at ≤ length bytes
  pub before : IsBegun (take at bytes)
  pub wrong : at < length bytes → ¬ IsBegun (take (at + 1) bytes)
  pub proper : at ≡ length bytes → (image : Image) → ¬ Spells bytes image

-- the image that the bytes spell, or the first wrong place
abbrev pub Reads : List ℕ → Result Image ℕ → Type 0
Reads bytes (Ok image) = Spells bytes image
Reads bytes (Err at) = IsFirstWrong bytes at

-- what a reader may answer: want of memory says nothing of the bytes
abbrev pub IsAnswer : List ℕ → Result Image ImageFault → Type 0
IsAnswer bytes (Ok image) = Reads bytes (Ok image)
IsAnswer bytes (Err (faults.At at)) = Reads bytes (Err at)
IsAnswer bytes (Err faults.NoMemory) = Unit {0}
