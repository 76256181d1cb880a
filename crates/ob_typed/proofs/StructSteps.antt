-- How specifiers (C99 6.7.2) change what is known: structures are declared and get their members.
use Rattle.std.proofs.Common.{◌≡◌, ℕ, Bool, true, false, Option, Some, None, Ok, Err, List, [], ◌∷◌, slice_get, refl}
use Rattle.std.specs.Prelude.{◌||◌, if◌then◌else◌}
use Rattle.ob_tree.specs.Sizes.{is_complete}
use Rattle.ob_tree.specs.Trees.{Mark}
use Rattle.ob_tree.specs.Types.{PlainMember, PlainStructs, PlainType, is_complete_row, with_members}
use Rattle.ob_tree.specs.Types.{PlainType as type}
use Rattle.ob_typed.specs.Expressions.{noted, with_structs}
use Rattle.ob_typed.specs.Faults.{Answer}
use Rattle.ob_typed.specs.Scopes.{Known, Meaning, TagDeclared, find_tag, tag_at}
use Rattle.ob_typed.specs.Scopes.{Meaning as meaning}
use Rattle.ob_typed.specs.Specifiers.{closed, is_around, mentioned, opened, tag_number}
use Rattle.ob_typed.specs.Strings.{with_static}
use Rattle.ob_typed.specs.TypedTree.{TypedObject}
use Rattle.ob_typed.specs.WellTyped.{Around}
use Rattle.ob_typed.proofs.GrowingStructs.{grows_members, grows_new, grows_same, sound_members, sound_new}
use Rattle.ob_typed.proofs.PostfixNodes.{HasBody}
use Rattle.ob_typed.proofs.SameTypes.{neither}
use Rattle.ob_typed.proofs.Walks.{Any, Gives, GivesIn, HaveBodies, Moves, bodies_before, body_of_last, moves_same}

-- ---- tags

tag_moves : (o : Option TagDeclared) (name : List ℕ) (depth : ℕ) (k : Known) → Moves k (tag_number o name depth k).1
tag_moves None name depth k =
    record { grows = grows_new k.structs; sound = sound_new k.structs; called = λ bodies h. h }
tag_moves (Some d) name depth k = moves_same k

pub mentioned_moves : (name : List ℕ) (depth : ℕ) (k : Known) → Moves k (mentioned name depth k).1
mentioned_moves name depth k = tag_moves (find_tag name k.tags) name depth k

pub opened_moves : (tag : Option (List ℕ)) (depth : ℕ) (k : Known) → Moves k (opened tag depth k).1
opened_moves None depth k =
    record { grows = grows_new k.structs; sound = sound_new k.structs; called = λ bodies h. h }
opened_moves (Some name) depth k = tag_moves (tag_at name depth k.tags) name depth k

pub static_moves : (k : Known) (o : TypedObject) → Moves k (with_static k o)
static_moves k o = record { grows = grows_same k.structs; sound = λ h. h; called = λ bodies h. h }

-- ---- calls

pub noted_moves : (m : Mark) (name : List ℕ) (o : Option Meaning) (k : Known) → Moves k (noted m name o k)
noted_moves m name None k = moves_same k
noted_moves m name (Some (meaning.Variable t l)) k = moves_same k
noted_moves m name (Some (meaning.Function result params)) k =
    record {
      grows = grows_same k.structs;
      sound = λ h. h;
      called = λ bodies h. bodies_before bodies k.calls (record { name = name; place = m.first } ∷ []) h;
    }
noted_moves m name (Some (meaning.BuiltIn b)) k = moves_same k

-- where each called function has a body in the end, this one has
pub noted_body : (bodies : List (List ℕ)) (m : Mark) (name : List ℕ) (o : Option Meaning) (k : Known) → HaveBodies bodies (noted m name o k).calls → HasBody bodies name o
noted_body bodies m name None k h = tt
noted_body bodies m name (Some (meaning.Variable t l)) k h = tt
noted_body bodies m name (Some (meaning.Function result params)) k h =
    body_of_last bodies k.calls (record { name = name; place = m.first }) h
noted_body bodies m name (Some (meaning.BuiltIn b)) k h = tt

-- ---- members

module _ (c : Around) (bodies : List (List ℕ)) where
  abbrev knowing_structs : Known → PlainStructs → Known
  knowing_structs k s = record { structs = s; tags = k.tags; statics = k.statics; calls = k.calls }

  members_moves : (k : Known) (n : ℕ) (ms : List PlainMember) → is_complete_row (slice_get k.structs n) ≡ false → is_complete (with_members k.structs n ms) (type.Struct n) ≡ true → Moves k (knowing_structs k (with_members k.structs n ms))
  members_moves k n ms bare whole =
      record {
        grows = grows_members k.structs n ms bare;
        sound = sound_members k.structs n ms bare whole;
        called = λ bodies h. h;
      }

  -- what closing a structure answers
  abbrev IsClosed : Known → Answer PlainStructs → Type 0
  IsClosed k (Ok s) = Moves k (knowing_structs k s)
  IsClosed k (Err f) = Unit {0}

  closed_if : (k : Known) (b : Bool) (x y : Answer PlainStructs) → (b ≡ true → IsClosed k x) → (b ≡ false → IsClosed k y) → IsClosed k (if b then x else y)
  closed_if k true x y h i = h refl
  closed_if k false x y h i = i refl

  closed_is : (k : Known) (around : List ℕ) (t : PlainType) (at : ℕ) (ms : List PlainMember) → IsClosed k (closed around k.structs t at ms)
  closed_is k around (type.Struct n) at ms =
      closed_if k (is_complete_row (slice_get k.structs n) || is_around n around) _ _
      (λ twice. tt)
      (λ first. closed_if k (is_complete (with_members k.structs n ms) (type.Struct n)) _ _
      (λ whole. members_moves k n ms (neither (is_complete_row (slice_get k.structs n)) (is_around n around) first).0 whole)
      (λ great. tt))
  closed_is k around type.Void at ms = moves_same k
  closed_is k around (type.Int i) at ms = moves_same k
  closed_is k around (type.Pointer t) at ms = moves_same k
  closed_is k around (type.Array t n) at ms = moves_same k

  structs_give : (k : Known) (t : PlainType) (a : Answer PlainStructs) → IsClosed k a → GivesIn c bodies {A = PlainType} Any k (with_structs t a k)
  structs_give k t (Ok s) h = (h, λ sound leads. tt)
  structs_give k t (Err f) h = tt

  pub closing_gives : (k : Known) (around : List ℕ) (o t : PlainType) (at : ℕ) (ms : List PlainMember) → Gives c bodies {A = PlainType} Any k (with_structs o (closed around k.structs t at ms) k)
  closing_gives k around o t at ms =
      record { each = structs_give k o (closed around k.structs t at ms) (closed_is k around t at ms) }
