-- Live objects in order of their addresses. An object has the addresses of its bytes and the one past
-- its end (C99 6.5.6), which no other object has (Jones and Kelly, AADEBUG 1997).
use Rattle.std.specs.Prelude.{ℕ, ◌+◌, ◌<◌, ◌⊎◌, List, Option}
use Rattle.std.specs.List.{AllPairs}
use Rattle.ob_model.specs.declared.objects.Entry.{Entry}

-- the entries, how many may stand at a time, and which of them stands at the root
pub record Objects : Type 0 where
  pub most : ℕ
  pub entries : List Entry
  pub root : Option Entry

-- each address of e is below each of f
abbrev pub Precedes : Entry → Entry → Type 0
Precedes e f = e.base + e.size < f.base

-- no address is one of e and one of f
abbrev pub AreApart : Entry → Entry → Type 0
AreApart e f = Precedes e f ⊎ Precedes f e

-- in order of their bases, and no two meet
abbrev pub IsInOrder : List Entry → Type 0
IsInOrder entries = AllPairs Precedes entries
