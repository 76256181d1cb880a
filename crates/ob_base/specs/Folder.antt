-- What a load of a file by its name answers, by what the folder tells of its files.
use Rattle.std.specs.Prelude.{◌≡◌, ℕ, ◌<◌, List, length, ⊤, ◌⊎◌, None, Some, Option, Ok, Err, Result}
use Rattle.std.specs.Ordering.{nat_cmp}
use Rattle.std.specs.Cmp.Lexicographic.{slice_cmp}
use Rattle.std.specs.FinMap.{FinMap, get}
use Rattle.std.specs.Global.{Vec}
use Rattle.ob_base.specs.Faults.{Rose}
use Rattle.ob_base.specs.declared.folder.FileAnswer.{FileAnswer}
use Rattle.ob_base.specs.declared.folder.FileAnswer.TheVariants.{Failed, Long, NoMemory}

-- files: from the bytes of a name to the bytes of its file
abbrev pub Files : Type 0
Files = FinMap (slice_cmp nat_cmp) (List ℕ)

-- what a folder tells that tells nothing
abbrev pub untold_files : Option Files
untold_files = None

-- the folder tells its files, and has none of this name
abbrev pub IsMissing : Option Files → List ℕ → Type 0
IsMissing None name = ⊥
IsMissing (Some files) name = get files name ≡ None

-- the answer to a load of at most limit bytes, where the file of that name is told: its bytes, or Long where it has more than limit
abbrev pub GivesFile : List ℕ → ℕ → Result (Vec ℕ) FileAnswer → Type 0
GivesFile bytes limit (Ok given) = given.items ≡ bytes
GivesFile bytes limit (Err Long) = limit < length bytes
GivesFile bytes limit (Err Failed) = ⊤
GivesFile bytes limit (Err NoMemory) = ⊤

-- the answer where the folder has no such file
abbrev pub GivesNoFile : Result (Vec ℕ) FileAnswer → Type 0
GivesNoFile (Ok given) = ⊥
GivesNoFile (Err Long) = ⊥
GivesNoFile (Err Failed) = ⊤
GivesNoFile (Err NoMemory) = ⊤

-- the answer by what the folder has under a name
abbrev pub GivesEntry : Option (List ℕ) → ℕ → Result (Vec ℕ) FileAnswer → Type 0
GivesEntry None limit r = GivesNoFile r
GivesEntry (Some bytes) limit r = GivesFile bytes limit r

-- the answer by what the folder tells
abbrev pub Loads : Option Files → List ℕ → ℕ → Result (Vec ℕ) FileAnswer → Type 0
Loads None name limit r = ⊤
Loads (Some files) name limit r = GivesEntry (get files name) limit r

-- the count of faults over a load: it rises where the load failed, unless the one fault is that a told folder has no such file
abbrev pub CountsLoad : {A : Type 0} → Option Files → List ℕ → Result A FileAnswer → ℕ → ℕ → Type 0
CountsLoad files name (Ok given) before now = now ≡ before
CountsLoad files name (Err Long) before now = now ≡ before
CountsLoad files name (Err NoMemory) before now = now ≡ before
CountsLoad files name (Err Failed) before now = Rose before now ⊎ (IsMissing files name × (now ≡ before))
