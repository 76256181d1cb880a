-- Ordinary identifiers in a symbol table, as the declarations in force (C99 6.2.3).
use Rattle.std.specs.Prelude.{ℕ, List, map}
use Rattle.ob_tree.specs.TypeView.{plain_type, plain_types}
use Rattle.ob_typed.specs.TypedTree.{TypedLean}
use Rattle.ob_typed.specs.Scopes.{Declared, Meaning as PlainMeaning}
use Rattle.ob_typed.specs.Scopes.{Meaning as plain}
use Rattle.ob_scopes.specs.declared.names.Storage.{Storage}
use Rattle.ob_scopes.specs.declared.names.Storage.TheVariants as storage
use Rattle.ob_scopes.specs.declared.names.Meaning.{Meaning}
use Rattle.ob_scopes.specs.declared.names.Meaning.TheVariants as code
use Rattle.ob_scopes.specs.declared.names.Named.{Named}
use Rattle.ob_scopes.specs.Bindings.{Scopes}

-- where an object lies
abbrev pub lean_of : Storage → TypedLean
lean_of (storage.Static n) = TypedLean.Static n
lean_of (storage.Local n) = TypedLean.Local n

abbrev pub plain_meaning : Meaning → PlainMeaning
plain_meaning (code.Variable t s) = plain.Variable (plain_type t) (lean_of s)
plain_meaning (code.Function result params) = plain.Function (plain_type result) (plain_types params.items)
plain_meaning (code.BuiltIn b) = plain.BuiltIn b

abbrev pub declared_as : List ℕ × Named → Declared
declared_as b = record { name = b.0; depth = b.1.depth; meaning = plain_meaning b.1.meaning }

-- the declarations in force, the newest first
abbrev pub declared_in : Scopes (List ℕ × Named) → List Declared
declared_in s = map declared_as s.bindings
