-- Scopes and name spaces (C99 6.2.1, 6.2.3). The declarations in force are a list, the newest first, each
-- with the depth of the block that it stands in: 0 at file scope. A block is walked with the list as it
-- grows, and what follows the block with the list before it.
use Rattle.std.specs.Prelude.{ℕ, suc, Bool, false, nat_eq, if◌then◌else◌, Option, Some, None, List, [], ◌∷◌}
use Rattle.std.specs.Str.{bytes_eq}
use Rattle.ob_tree.specs.Types.{PlainType, PlainStructs}
use Rattle.ob_tree.specs.Types.{PlainType as type}
use Rattle.ob_typed.specs.declared.names.Builtin.{Builtin}
use Rattle.ob_typed.specs.TypedTree.{TypedLean, TypedObject}

-- what an ordinary identifier stands for
pub data Meaning : Type 0 where
  -- an object of a type; an array that has no length yet has the length 0
  Variable : (ty : PlainType) → (lean : TypedLean) → Meaning
  Function : (result : PlainType) → (params : List PlainType) → Meaning
  BuiltIn : (builtin : Builtin) → Meaning

pub record Declared : Type 0 where
  pub name : List ℕ
  pub depth : ℕ
  pub meaning : Meaning

-- the declaration of a name that is in force
abbrev pub find : (name : List ℕ) → List Declared → Option Declared
find name [] = None
find name (d ∷ ds) = if bytes_eq d.name name then Some d else find name ds

-- the declaration stands in the block of this depth
abbrev pub is_at : (depth : ℕ) → Option Declared → Bool
is_at depth None = false
is_at depth (Some d) = nat_eq d.depth depth

-- a tag, which names the structure of a number; tags are a name space of their own
pub record TagDeclared : Type 0 where
  pub name : List ℕ
  pub depth : ℕ
  pub number : ℕ

abbrev pub find_tag : (name : List ℕ) → List TagDeclared → Option TagDeclared
find_tag name [] = None
find_tag name (d ∷ ds) = if bytes_eq d.name name then Some d else find_tag name ds

-- a tag of this name in the block of this depth
abbrev pub tag_at : (name : List ℕ) → (depth : ℕ) → List TagDeclared → Option TagDeclared
tag_at name depth [] = None
tag_at name depth (d ∷ ds) =
    if nat_eq d.depth depth then (if bytes_eq d.name name then Some d else tag_at name depth ds) else None

-- a call of a function by its name, and where that stands
pub record Called : Type 0 where
  pub name : List ℕ
  pub place : ℕ

-- What expressions and specifiers add to: the structures, the tags in force, the static objects, and the
-- calls.
pub record Known : Type 0 where
  pub structs : PlainStructs
  pub tags : List TagDeclared
  pub statics : List TypedObject
  pub calls : List Called

-- What stays the same in an expression: the declarations in force, the depth of the block, the names of the
-- functions with a body, by which functions are numbered, and the structures whose member lists this stands in.
pub record Env : Type 0 where
  pub declared : List Declared
  pub depth : ℕ
  pub bodies : List (List ℕ)
  pub around : List ℕ

-- one block further in
abbrev pub deeper : Env → Env
deeper env = record { declared = env.declared; depth = suc env.depth; bodies = env.bodies; around = env.around }

abbrev pub with_declared : Env → List Declared → Env
with_declared env ds = record { declared = ds; depth = env.depth; bodies = env.bodies; around = env.around }

abbrev pub declaring : Env → Declared → Env
declaring env d = with_declared env (d ∷ env.declared)

-- within the member list of a structure
abbrev pub among_members : Env → PlainType → Env
among_members env (type.Struct n) = record { declared = env.declared; depth = env.depth; bodies = env.bodies; around = n ∷ env.around }
among_members env t = env

-- after a block the tags before it are in force again
abbrev pub leaving : (before after : Known) → Known
leaving before after = record { structs = after.structs; tags = before.tags; statics = after.statics; calls = after.calls }
