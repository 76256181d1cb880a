-- Where an image is at fault: the first part, and there the first row, that breaks a rule of images.
use Rattle.std.specs.Prelude.{◌≡◌, ℕ, ◌≤◌, ◌<◌, ◌⊎◌, length, Option, Some, None}
use Rattle.ob_code.specs.declared.faults.BadImage.{BadImage}
use Rattle.ob_code.specs.declared.faults.Part.{Part}
use Rattle.ob_code.specs.declared.faults.Part.TheVariants as part
use Rattle.ob_code.specs.declared.image.Image.{Image}
use Rattle.ob_code.specs.Limits.{most_statics, most_pointers, most_functions, most_instructions, most_names}
use Rattle.ob_code.specs.Rules.{AreSound, IsStaticSound, AreStaticsSound, IsPointerSound, ArePointersSound, IsFunctionSound, AreFunctionsSound, IsMainSound, IsCodeSound, IsAllCodeSound, IsNameRowSound}

-- a part is at fault at the limit's number where it has more rows, and else at the first row that isn't sound
pub data IsFaultAt (limit count : ℕ) (Rule : ℕ → Type 0) (at : ℕ) : Type 0 where
  too_many : (more : limit < count) (is_limit : at ≡ limit) → IsFaultAt limit count Rule at
  broken : (most : count ≤ limit) (row : at < count) (unsound : ¬ Rule at) (before : (i : ℕ) → i < at → Rule i) → IsFaultAt limit count Rule at

-- what the test of a part answers
abbrev pub IsPartAnswer : ℕ → ℕ → (ℕ → Type 0) → Option ℕ → Type 0
IsPartAnswer limit count Rule None = AreSound limit count Rule
IsPartAnswer limit count Rule (Some at) = IsFaultAt limit count Rule at

abbrev pub IsStaticFault : Image → ℕ → Type 0
IsStaticFault image at = IsFaultAt most_statics (length image.statics) (IsStaticSound image.statics) at

abbrev pub IsPointerFault : Image → ℕ → Type 0
IsPointerFault image at = IsFaultAt most_pointers (length image.pointers) (IsPointerSound image.statics image.pointers) at

-- an image without a function is at fault at row 0
abbrev pub IsFunctionFault : Image → ℕ → Type 0
IsFunctionFault image at =
    ((length image.functions ≡ 0) × (at ≡ 0)) ⊎ IsFaultAt most_functions (length image.functions) (IsFunctionSound image) at

abbrev pub IsMainFault : Image → ℕ → Type 0
IsMainFault image at = (at ≡ 0) × ¬ IsMainSound image

abbrev pub IsCodeFault : Image → ℕ → Type 0
IsCodeFault image at = IsFaultAt most_instructions (length image.code) (IsCodeSound image) at

abbrev pub IsNamesFault : Image → ℕ → Type 0
IsNamesFault image at = IsFaultAt most_names (length image.names) (IsNameRowSound image) at

-- the parts before are sound, and this one is at fault at this row
abbrev pub IsFaultIn : Part → Image → ℕ → Type 0
IsFaultIn part.Bytes image at = ⊥
IsFaultIn part.Static image at = IsStaticFault image at
IsFaultIn part.Pointer image at = AreStaticsSound image × IsPointerFault image at
IsFaultIn part.Function image at = AreStaticsSound image × ArePointersSound image × IsFunctionFault image at
IsFaultIn part.Main image at =
    AreStaticsSound image × ArePointersSound image × AreFunctionsSound image × IsMainFault image at
IsFaultIn part.Code image at =
    AreStaticsSound image × ArePointersSound image × AreFunctionsSound image × IsMainSound image × IsCodeFault image at
IsFaultIn part.Names image at =
    AreStaticsSound image × ArePointersSound image × AreFunctionsSound image × IsMainSound image × IsAllCodeSound image × IsNamesFault image at

abbrev pub IsFirstFault : Image → BadImage → Type 0
IsFirstFault image bad = IsFaultIn bad.part image bad.at
