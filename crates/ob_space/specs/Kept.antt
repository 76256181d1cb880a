-- What a space is seen as over its parts, and what holds of them together.
use Rattle.std.specs.Prelude.{◌≡◌, ℕ, ◌+◌, ◌%◌, ◌<◌, ◌≤◌, ◌⊎◌, List, [], ◌∷◌, length, map}
use Rattle.std.specs.List.{All, Contains}
use Rattle.ob_words.specs.Words.{block}
use Rattle.ob_model.specs.declared.objects.Entry.{Entry}
use Rattle.ob_model.specs.declared.objects.Sort.{Sort}
use Rattle.ob_model.specs.declared.objects.Sort.TheVariants.{Static, Automatic, Heap}
use Rattle.ob_model.specs.declared.settings.RunSettings.{RunSettings}
use Rattle.ob_model.specs.Entries.{Known}
use Rattle.ob_model.specs.Limits.{statics_start}
use Rattle.ob_model.specs.Objects.{is_among}
use Rattle.ob_flat.specs.Memory.{IsWithin}
use Rattle.ob_code.specs.declared.image.FunctionRow.{FunctionRow}
use Rattle.ob_code.specs.Frames.{function_at, local_entry}
use Rattle.ob_code.specs.State.{Call}
use Rattle.ob_frames.specs.Framed.{Framed}
use Rattle.ob_lifetimes.specs.Living.{Living, AreKnown, AreOfRows}
use Rattle.ob_space.specs.Loaded.{Loaded}

abbrev pub loaded_in : Framed → Living → RunSettings → Loaded
loaded_in f l settings =
    record {
      statics = f.statics;
      pointers = f.pointers;
      functions = f.functions;
      settings = settings;
      space = record {
        memory = f.memory;
        entries = l.entries;
        slots = l.slots;
        blocks = l.blocks;
        outside = l.outside;
        calls = f.calls;
        next = l.next;
      };
    }

-- ---- the objects of calls

-- an object is of a row of this call
abbrev pub IsOfCall : List FunctionRow → Call → Entry → Type 0
IsOfCall functions c e = Contains (map (local_entry c.base c.first) (function_at functions c.function).locals) e

-- of some call in progress
abbrev pub IsOfCalls : List FunctionRow → List Call → Entry → Type 0
IsOfCalls functions [] e = ⊥
IsOfCalls functions (c ∷ cs) e = IsOfCall functions c e ⊎ IsOfCalls functions cs e

-- how many objects the calls have
abbrev pub local_count : List FunctionRow → List Call → ℕ
local_count functions [] = 0
local_count functions (c ∷ cs) = length (function_at functions c.function).locals + local_count functions cs

-- a call's rows are known and live objects, which have the call's numbers alone, all of them below `next`
pub record HasObjects (functions : List FunctionRow) (entries : List Known) (next : ℕ) (c : Call) : Type 0 where
  pub known : AreKnown c.base c.first (function_at functions c.function).locals entries
  pub own : AreOfRows (is_among c.first (function_at functions c.function).vars) c.base c.first (function_at functions c.function).locals entries
  pub numbers : c.first + (function_at functions c.function).vars ≤ next

-- so is each call in progress; the numbers of a call come before those of the calls that it makes
abbrev pub HaveObjects : List FunctionRow → List Known → ℕ → List Call → Type 0
HaveObjects functions entries next [] = Unit {0}
HaveObjects functions entries next (c ∷ cs) =
    HasObjects functions entries next c × HaveObjects functions entries c.first cs

-- ---- where objects lie

-- a static object lies in whole blocks of the static range, which has so many bytes
pub record IsAmongStatics (bytes : ℕ) (e : Entry) : Type 0 where
  pub multiple : e.base % 16 ≡ 0
  pub within : IsWithin statics_start bytes e.base (block e.size)

-- an automatic object is of some call; where the heap's objects lie, the heap's list says
abbrev pub LiesAsSort : Sort → Framed → Entry → Type 0
LiesAsSort Static f e = IsAmongStatics f.memory.statics e
LiesAsSort Automatic f e = IsOfCalls f.functions f.calls e
LiesAsSort Heap f e = Unit {0}

abbrev pub LiesIn : Framed → Known → Type 0
LiesIn f k = LiesAsSort k.entry.sort f k.entry

-- a static object, and one that ends before an address
abbrev pub static_entry : ℕ → ℕ → ℕ → Entry
static_entry base size object = record { base = base; size = size; object = object; sort = Static }

abbrev pub EndsBefore : ℕ → Known → Type 0
EndsBefore end k = k.entry.base + k.entry.size < end

-- ---- both together

-- the parts are for these settings, and for this image
pub record AreSettled (f : Framed) (l : Living) (settings : RunSettings) : Type 0 where
  pub profile : l.profile ≡ settings.profile
  pub cap : l.cap ≡ settings.store
  pub away : l.away ≡ settings.away
  pub heap : l.heap ≡ settings.heap
  pub memory : f.memory.heap ≡ settings.heap
  pub statics : l.most_statics ≡ length f.statics

pub record IsKept (f : Framed) (l : Living) (settings : RunSettings) : Type 0 where
  pub settled : AreSettled f l settings
  pub count : l.locals ≡ local_count f.functions f.calls
  pub calls : HaveObjects f.functions l.entries l.next f.calls
  pub places : All (LiesIn f) l.entries
