-- The two spellings of an image, one in each version of the format: head, static objects, pointers, functions, the first function,
-- code, and in version 2 the profile in the head and the names of variables at the end. All numbers have their lowest byte first,
-- and each list begins with its count.
use Rattle.std.specs.Prelude.{◌≡◌, ◌≢◌, ℕ, ◌-◌, ◌<◌, ◌≤◌, List, [], ◌++◌, length, slice_index, codes}
use Rattle.std.specs.List.{flat_map, AllByRecursion}
use Rattle.ob_words.specs.Fields.{low_bytes}
use Rattle.ob_code.specs.declared.image.FunctionRow.{FunctionRow}
use Rattle.ob_code.specs.declared.image.Image.{Image}
use Rattle.ob_code.specs.declared.image.LocalRow.{LocalRow}
use Rattle.ob_code.specs.declared.image.NameRow.{NameRow}
use Rattle.ob_code.specs.declared.image.PointerRow.{PointerRow}
use Rattle.ob_code.specs.declared.image.StaticRow.{StaticRow}
use Rattle.ob_model.specs.Limits.{most_object_bytes}
use Rattle.ob_code.specs.Kinds.{no_load_kind}
use Rattle.ob_code.specs.Limits.{most_statics, most_pointers, most_functions, most_variables, most_instructions, most_names}
use Rattle.ob_base.specs.Names.{IsName}
use Rattle.ob_image.specs.declared.layout.Version.{Version}
use Rattle.ob_image.specs.declared.layout.Version.TheVariants as version
use Rattle.ob_model.specs.declared.settings.Profile.{Profile}
use Rattle.ob_model.specs.declared.settings.Profile.TheVariants as profile
use Rattle.ob_image.specs.Layout.{any_word, any_number, spell_instruction, IsInstruction}

-- ---- rows

unfoldable pub spell_static : StaticRow → List ℕ
spell_static row = low_bytes 8 row.size ++ (low_bytes 8 (length row.given) ++ row.given)

unfoldable pub spell_pointer : PointerRow → List ℕ
spell_pointer row =
    low_bytes 4 row.holder ++ (low_bytes 8 row.offset ++ (low_bytes 4 row.target ++ low_bytes 8 row.target_offset))

unfoldable pub spell_local : LocalRow → List ℕ
spell_local row = low_bytes 4 row.ordinal ++ (low_bytes 8 row.place ++ low_bytes 8 row.size)

-- a count and the rows
unfoldable pub spell_rows : {A : Type 0} → (A → List ℕ) → List A → List ℕ
spell_rows spell rows = low_bytes 4 (length rows) ++ flat_map spell rows

unfoldable pub spell_function : FunctionRow → List ℕ
spell_function row =
    low_bytes 4 row.entry ++ (low_bytes 4 row.params ++ (low_bytes 4 row.words ++ (low_bytes 4 row.vars ++
    (low_bytes 8 row.allowance ++ spell_rows spell_local row.locals))))

-- kinds are numbered as in instructions, and arrays and structures come after them
unfoldable pub spell_name : NameRow → List ℕ
spell_name row =
    low_bytes 4 row.holder ++ (low_bytes 4 row.ordinal ++ (low_bytes 4 row.line ++ (low_bytes 4 row.word ++ (low_bytes 4 row.kind ++
    (low_bytes 4 (length row.name) ++ row.name)))))

-- ---- the image

abbrev pub letters : List ℕ
letters = codes "OBLV"

abbrev pub version_number : Version → ℕ
version_number version.One = 1
version_number version.Two = 2

abbrev pub profile_number : Profile → ℕ
profile_number profile.One = 1
profile_number profile.Two = 2

-- version 1 tells neither the profile nor names
abbrev pub spell_profile : Version → Profile → List ℕ
spell_profile version.One p = []
spell_profile version.Two p = low_bytes 4 (profile_number p)

abbrev pub spell_names : Version → List NameRow → List ℕ
spell_names version.One names = []
spell_names version.Two names = spell_rows spell_name names

unfoldable pub spell_image : Version → Image → List ℕ
spell_image v image =
    letters ++ (low_bytes 4 (version_number v) ++ (spell_profile v image.profile ++ (spell_rows spell_static image.statics ++
    (spell_rows spell_pointer image.pointers ++ (spell_rows spell_function image.functions ++ (low_bytes 4 image.main ++
    (spell_rows spell_instruction image.code ++ spell_names v image.names)))))))

-- ---- what has a spelling

-- so many rows at most, each of which has a spelling
pub record AreRows {A : Type 0} (limit : ℕ) (Row : A → Type 0) (rows : List A) : Type 0 where
  pub most : length rows ≤ limit
  pub each : AllByRecursion Row rows

-- the last given byte isn't 0
abbrev pub EndsNonzero : List ℕ → Type 0
EndsNonzero given = 0 < length given → slice_index given (length given - 1) ≢ 0

pub record IsStatic (row : StaticRow) : Type 0 where
  pub size : row.size ≤ any_number
  pub most : length row.given ≤ most_object_bytes
  pub bytes : AllByRecursion (λ b. b < 256) row.given
  pub last : EndsNonzero row.given

pub record IsPointer (row : PointerRow) : Type 0 where
  pub holder : row.holder ≤ any_word
  pub offset : row.offset ≤ any_number
  pub target : row.target ≤ any_word
  pub target_offset : row.target_offset ≤ any_number

pub record IsLocal (row : LocalRow) : Type 0 where
  pub ordinal : row.ordinal ≤ any_word
  pub place : row.place ≤ any_number
  pub size : row.size ≤ any_number

pub record IsFunction (row : FunctionRow) : Type 0 where
  pub entry : row.entry ≤ any_word
  pub params : row.params ≤ any_word
  pub words : row.words ≤ any_word
  pub vars : row.vars ≤ any_word
  pub allowance : row.allowance ≤ any_number
  pub locals : AreRows most_variables IsLocal row.locals

-- the greatest number of a kind: that of arrays and structures
abbrev pub most_kind : ℕ
most_kind = no_load_kind

pub record IsNameRow (row : NameRow) : Type 0 where
  pub holder : row.holder ≤ any_word
  pub ordinal : row.ordinal ≤ any_word
  pub line : row.line ≤ any_word
  pub word : row.word ≤ any_word
  pub kind : row.kind ≤ most_kind
  pub most : length row.name ≤ any_word
  pub name : IsName row.name

-- version 1 has the images of profile 1 without names
abbrev pub HasProfile : Version → Profile → Type 0
HasProfile version.One p = p ≡ profile.One
HasProfile version.Two p = Unit {0}

abbrev pub AreNames : Version → List NameRow → Type 0
AreNames version.One names = names ≡ []
AreNames version.Two names = AreRows most_names IsNameRow names

-- the numbers of an image are within their fields, its counts within their limits, and the version can tell its profile and names
pub record IsImage (v : Version) (image : Image) : Type 0 where
  pub profile : HasProfile v image.profile
  pub statics : AreRows most_statics IsStatic image.statics
  pub pointers : AreRows most_pointers IsPointer image.pointers
  pub functions : AreRows most_functions IsFunction image.functions
  pub main : image.main ≤ any_word
  pub code : AreRows most_instructions IsInstruction image.code
  pub names : AreNames v image.names
