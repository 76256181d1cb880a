-- The code of the initialiser of an automatic object (C99 6.7.8). A plain variable gets the value in its word. An array or a structure
-- becomes zero bytes first, and then each value is stored at its offset. What nothing names is only evaluated.
use Rattle.std.specs.Prelude.{ℕ, ◌+◌, Bool, false, pos, List, [], ◌∷◌, ◌++◌, slice_index_or, if◌then◌else◌}
use Rattle.ob_model.specs.declared.values.LoadKind.{LoadKind}
use Rattle.ob_tree.specs.Types.{PlainType}
use Rattle.ob_tree.specs.Types.PlainType.{Void, Int, Pointer, Array, Struct}
use Rattle.ob_typed.specs.TypedTree.{TypedInit, TypedInits, TypedLean}
use Rattle.ob_typed.specs.TypedTree.TypedExpr.{Typed}
use Rattle.ob_typed.specs.TypeTests.{same_type}
use Rattle.ob_typed.specs.TypedTree.TypedPlace.{Place}
use Rattle.ob_typed.specs.TypedTree.{TypedInit as init, TypedInits as inits, TypedLean as at}
use Rattle.ob_code.specs.declared.instructions.Instr.{Instr}
use Rattle.ob_code.specs.declared.instructions.Instr.TheVariants as instr
use Rattle.ob_meaning.specs.Initialisers.{string_in}
use Rattle.ob_meaning.specs.Scalars.{Scalar, part_of, scalars_of}
use Rattle.ob_meaning.specs.Setup.{kind_of}
use Rattle.ob_lower.specs.Assigned.{assigns_none}
use Rattle.ob_lower.specs.Expressions.{based, code, operand}
use Rattle.ob_lower.specs.Homes.{Context, Home, plain, bytes, unseen, home_of}
use Rattle.ob_lower.specs.Instructions.{Operand, dropped, free_after, into}
use Rattle.ob_lower.specs.Places.{Based, further_in, number_in}
use Rattle.ob_lower.specs.Stores.{kind_reading, scalar_loaded}

-- ---- stores in the object of a row: the pointer to an offset of it comes into a word m, and a word is stored through it

abbrev pub pointer_in : ℕ → ℕ → ℕ → List Instr
pointer_in row offset m = instr.Local m (pos row) ∷ (further_in m offset m).code

abbrev pub own_store : Context → LoadKind → ℕ → (row offset word m : ℕ) → List Instr
own_store c kind line row offset word m = pointer_in row offset m ++ instr.Store kind line word m c.zero ∷ []

abbrev pub value_stored : Context → LoadKind → ℕ → (row offset : ℕ) → Operand → List Instr
value_stored c kind line row offset o = o.code ++ own_store c kind line row offset o.word (free_after o c.free)

-- the characters of a string
abbrev pub characters : Context → LoadKind → (row offset : ℕ) → List ℕ → List Instr
characters c kind row offset [] = []
characters c kind row offset (byte ∷ others) =
    value_stored c kind 0 row offset (number_in c (pos byte) c.free) ++ characters c kind row (offset + 1) others

-- the scalars of a structure
abbrev pub scalar_put : Context → ℕ → (row offset : ℕ) → Based → Scalar → ℕ → List Instr
scalar_put c line row offset from s m =
    scalar_loaded c line from s m ++ own_store c s.kind line row (offset + s.offset) m (m + 1)

abbrev pub scalars_put : Context → ℕ → (row offset : ℕ) → Based → List Scalar → List Instr
scalars_put c line row offset from [] = []
scalars_put c line row offset from (s ∷ ss) = scalar_put c line row offset from s from.free ++ scalars_put c line row offset from ss

abbrev pub structure_put : Context → ℕ → (row offset : ℕ) → Based → List Scalar → List Instr
structure_put c line row offset from ss = from.code ++ scalars_put c line row offset from ss

abbrev mutual
  -- the initialiser of a part of the object, which lies at an offset and has this type
  pub put : Context → ℕ → PlainType → ℕ → TypedInit → List Instr
  put c row t offset (init.Value (Typed line ty what)) =
      value_stored c (kind_of t) line row offset (operand c (Typed line ty what) (kind_reading (kind_of t)) c.free)
  put c row t offset (init.Chars cs) = characters c (kind_of (part_of c.structs t 0).ty) row offset (string_in t cs)
  put c row t offset (init.Items items) = put_items c row t offset items 0
  put c row t offset (init.Copy (Place line ty lean)) =
      structure_put c line row offset (based c lean assigns_none c.free) (scalars_of c.structs t)

  -- the items of a list, from element or member i on
  pub put_items : Context → ℕ → PlainType → ℕ → TypedInits → ℕ → List Instr
  put_items c row t offset inits.NoItems i = []
  put_items c row t offset (inits.Item head tail) i =
      put c row (part_of c.structs t i).ty (offset + (part_of c.structs t i).offset) head ++ put_items c row t offset tail (i + 1)

-- ---- what nothing names: the items are evaluated, and the scalars of a structure are loaded, unless it is a whole object of its
-- type, where each load stays inside

abbrev pub scalars_loaded : Context → ℕ → Based → List Scalar → List Instr
scalars_loaded c line from [] = []
scalars_loaded c line from (s ∷ ss) = scalar_loaded c line from s from.free ++ scalars_loaded c line from ss

abbrev pub structure_loaded : Context → ℕ → Based → List Scalar → List Instr
structure_loaded c line from ss = from.code ++ scalars_loaded c line from ss

abbrev pub is_whole : Context → PlainType → TypedLean → Bool
is_whole c t (at.Static n) = same_type (slice_index_or c.statics n Void) t
is_whole c t (at.Local v) = same_type (slice_index_or c.locals v Void) t
is_whole c t (at.Value e) = false
is_whole c t (at.Slide lean scale minus number_first e) = false
is_whole c t (at.Member lean offset) = false

abbrev pub copy_evaluated : Context → PlainType → ℕ → TypedLean → List Instr
copy_evaluated c t line lean =
    if is_whole c t lean then [] else structure_loaded c line (based c lean assigns_none c.free) (scalars_of c.structs t)

abbrev mutual
  pub evaluated : Context → PlainType → TypedInit → List Instr
  evaluated c t (init.Value e) = code c e dropped c.free
  evaluated c t (init.Chars cs) = []
  evaluated c t (init.Items items) = items_evaluated c t items 0
  evaluated c t (init.Copy (Place line ty lean)) = copy_evaluated c t line lean

  pub items_evaluated : Context → PlainType → TypedInits → ℕ → List Instr
  items_evaluated c t inits.NoItems i = []
  items_evaluated c t (inits.Item head tail) i = evaluated c (part_of c.structs t i).ty head ++ items_evaluated c t tail (i + 1)

-- ---- the initialiser of a variable

abbrev pub word_code : Context → ℕ → TypedInit → List Instr
word_code c w (init.Value e) = code c e (into w) c.free
word_code c w (init.Chars cs) = []
word_code c w (init.Items items) = []
word_code c w (init.Copy p) = []

-- arrays and structures become zero bytes
abbrev pub wipe : PlainType → ℕ → List Instr
wipe (Array t n) row = instr.Wipe (pos row) ∷ []
wipe (Struct n) row = instr.Wipe (pos row) ∷ []
wipe Void row = []
wipe (Int t) row = []
wipe (Pointer t) row = []

abbrev pub init_at : Context → Home → PlainType → TypedInit → List Instr
init_at c (plain w) t item = word_code c w item
init_at c (bytes row) t item = wipe t row ++ put c row t 0 item
init_at c (unseen row) t item = evaluated c t item

abbrev pub init_code : Context → ℕ → TypedInit → List Instr
init_code c v item = init_at c (home_of c v) (slice_index_or c.locals v Void) item
