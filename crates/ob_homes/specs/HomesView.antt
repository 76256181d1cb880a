-- What the homes of variables are without their vectors, and what the code of a function depends on, by the values of the program.
use Rattle.std.specs.Prelude.{◌≡◌, ℕ, List, map}
use Rattle.ob_typed.specs.TypedTree.{TypedFunction, TypedProgram}
use Rattle.ob_lower.specs.Homes.{Context, first_word, homes, past_words, zero_word, type_of_object}
use Rattle.ob_lower.specs.Homes.{Home as plain}
use Rattle.ob_homes.specs.declared.home.Home.{Home}
use Rattle.ob_homes.specs.declared.home.Home.TheVariants as home
use Rattle.ob_homes.specs.declared.home.Homes.{Homes}

abbrev pub plain_home : Home → plain
plain_home (home.Plain word) = plain.plain word
plain_home (home.Bytes row) = plain.bytes row
plain_home (home.Unseen row) = plain.unseen row

abbrev pub plain_homes : List Home → List plain
plain_homes hs = map plain_home hs

-- what the code of a function of a program depends on, where its variables have these homes
abbrev pub context_in : TypedProgram → TypedFunction → Homes → Context
context_in t f h =
    record {
      structs = t.structs;
      functions = t.functions;
      statics = map type_of_object t.statics;
      locals = f.locals;
      homes = plain_homes h.list.items;
      zero = h.zero;
      free = h.free;
    }

-- these are the homes of the function's variables, its zero word and its first free word
pub record AreHomesOf (f : TypedFunction) (h : Homes) : Type 0 where
  pub list : plain_homes h.list.items ≡ homes f
  pub zero : h.zero ≡ zero_word f
  pub free : h.free ≡ past_words (homes f) (first_word f)
