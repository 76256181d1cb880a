-- What the program knows, as the definition's (C99 6.2.1). Where a walk stands, which is the open blocks with the tags
-- before each and the structures whose member lists are open, is apart from what it adds to.
use Rattle.std.specs.Prelude.{ℕ, List, [], ◌∷◌, ◌++◌, length, map}
use Rattle.ob_typed.specs.TypedView.{typed_object}
use Rattle.ob_typed.specs.Scopes.{TagDeclared, Known as PlainKnown, Env as PlainEnv, Called as PlainCalled}
use Rattle.ob_scopes.specs.Names.{declared_in}
use Rattle.ob_members.specs.StructuresView.{plain_structures}
use Rattle.ob_context.specs.declared.env.Env.{Env}
use Rattle.ob_context.specs.declared.known.Called.{Called}
use Rattle.ob_context.specs.declared.known.Known.{Known}

abbrev pub called_as : Called → PlainCalled
called_as c = record { name = c.name; place = c.place }

abbrev pub known_of : Known → PlainKnown
known_of k = record {
  structs = plain_structures k.structs;
  tags = k.tags.bindings;
  statics = map typed_object k.statics.items;
  calls = map called_as k.calls.items;
}

-- the tags before each open block, the innermost block first, and the structures whose member lists are open
pub record Stand : Type 0 where
  pub outer : List (List TagDeclared)
  pub around : List ℕ

abbrev pub stand_of : Known → Stand
stand_of k = record { outer = k.tags.outer; around = k.around }

abbrev pub env_of : Env → Stand → PlainEnv
env_of e s = record { declared = declared_in e.names; depth = length s.outer; bodies = e.bodies; around = s.around }

-- one more open block, which these tags are before
abbrev pub within : List TagDeclared → Stand → Stand
within ts s = record { outer = ts ∷ s.outer; around = s.around }

-- one more open member list
abbrev pub inside_struct : (number : ℕ) → Stand → Stand
inside_struct n s = record { outer = s.outer; around = n ∷ s.around }

-- the innermost block is left; where none is open, nothing changes
abbrev pub left_outer : List (List TagDeclared) → List (List TagDeclared)
left_outer [] = []
left_outer (ts ∷ outer) = outer

abbrev pub left_tags : List TagDeclared → List (List TagDeclared) → List TagDeclared
left_tags now [] = now
left_tags now (ts ∷ outer) = ts

abbrev pub left_stand : Stand → Stand
left_stand s = record { outer = left_outer s.outer; around = s.around }

abbrev pub with_tags : List TagDeclared → PlainKnown → PlainKnown
with_tags ts k = record { structs = k.structs; tags = ts; statics = k.statics; calls = k.calls }

-- one more call
abbrev pub with_call : (name : List ℕ) → (place : ℕ) → PlainKnown → PlainKnown
with_call name place k =
    record { structs = k.structs; tags = k.tags; statics = k.statics; calls = k.calls ++ record { name = name; place = place } ∷ [] }
