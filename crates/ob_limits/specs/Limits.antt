-- How much of a program there may be: of its static objects, and of its code. Both are sums over its typed tree.
use Rattle.std.specs.Prelude.{ℕ, ◌<◌, ◌≤◌, sum_by}
use Rattle.ob_words.specs.Words.{block}
use Rattle.ob_tree.specs.Sizes.{size}
use Rattle.ob_tree.specs.Types.{PlainStructs}
use Rattle.ob_typed.specs.TypedTree.{TypedFunction, TypedObject, TypedProgram}
use Rattle.ob_limits.specs.declared.limit.Limit.{Limit}
use Rattle.ob_limits.specs.declared.limit.Limit.TheVariants as over

-- the bytes that static objects take in all
abbrev pub most_static_bytes : ℕ
most_static_bytes = 4194304

-- the weight of all functions
abbrev pub most_weight : ℕ
most_weight = 1048576

-- a static object takes a block, which has a byte more than the object
abbrev pub static_block : PlainStructs → TypedObject → ℕ
static_block structs o = block (size structs o.ty)

abbrev pub static_bytes : TypedProgram → ℕ
static_bytes t = sum_by (static_block t.structs) t.statics

abbrev pub weight_of : TypedFunction → ℕ
weight_of f = f.weight

abbrev pub weight : TypedProgram → ℕ
weight t = sum_by weight_of t.functions

pub record IsWithinLimits (t : TypedProgram) : Type 0 where
  pub statics : static_bytes t ≤ most_static_bytes
  pub code : weight t ≤ most_weight

-- this is the first limit that the program is over
abbrev pub IsOver : TypedProgram → Limit → Type 0
IsOver t over.Statics = most_static_bytes < static_bytes t
IsOver t over.Code = (static_bytes t ≤ most_static_bytes) × (most_weight < weight t)
