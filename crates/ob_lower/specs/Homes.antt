-- The frame of a function. Words 0 and 1 are the links, and the arguments arrive from word 2 on; the word of a plain parameter is
-- the one in which its argument arrives. Then comes a word that is 0 for the whole call, then one word for each other plain
-- variable, in order, and from there on words are free for the values of expressions. A function without expressions has no zero
-- word: word 1 serves there, whose value nobody uses, and which is 0 in the first frame.
use Rattle.std.specs.Prelude.{ℕ, zero, suc, ◌+◌, max, Bool, true, false, nat_lt, List, [], ◌∷◌, Option, Some, None, slice_index_or, map, if◌then◌else◌}
use Rattle.ob_tree.specs.Types.{PlainType, PlainStructs}
use Rattle.ob_typed.specs.TypedTree.{TypedFunction, TypedLean, TypedObject, TypedProgram}
use Rattle.ob_typed.specs.TypedTree.{TypedLean as at}
use Rattle.ob_typed.specs.TypeTests.{is_scalar}
use Rattle.ob_lower.specs.Variables.{exposes_in_stmt}

-- ---- what a variable needs: a word, or bytes; an array or a structure that nothing names has bytes that nobody sees

pub data Home : Type 0 where
  plain : (word : ℕ) → Home
  bytes : (row : ℕ) → Home
  unseen : (row : ℕ) → Home

pub data Need : Type 0 where
  a_word : Need
  a_row : Need
  an_unseen_row : Need

abbrev pub need_of : (scalar exposed : Bool) → Need
need_of true false = a_word
need_of true true = a_row
need_of false true = a_row
need_of false false = an_unseen_row

abbrev pub need : TypedFunction → ℕ → PlainType → Need
need f v t = need_of (is_scalar t) (exposes_in_stmt v t f.body)

-- ---- homes, where `word` is the next word for a variable that is no parameter, and so many rows are taken

abbrev pub own_word : TypedFunction → (v word : ℕ) → ℕ
own_word f v word = if nat_lt v f.params then 2 + v else word

abbrev pub next_word : TypedFunction → (v word : ℕ) → ℕ
next_word f v word = if nat_lt v f.params then word else word + 1

abbrev pub home_first : Need → (own next word row : ℕ) → (ℕ → ℕ → List Home) → List Home
home_first a_word own next word row others = plain own ∷ others next row
home_first a_row own next word row others = bytes row ∷ others word (row + 1)
home_first an_unseen_row own next word row others = unseen row ∷ others word (row + 1)

abbrev pub homes_from : TypedFunction → (v word row : ℕ) → List PlainType → List Home
homes_from f v word row [] = []
homes_from f v word row (t ∷ ts) =
    home_first (need f v t) (own_word f v word) (next_word f v word) word row (λ w r. homes_from f (v + 1) w r ts)

-- ---- the zero word, the first word for a variable, and the first free word

abbrev pub zero_for : (nodes params : ℕ) → ℕ
zero_for zero params = 1
zero_for (suc n) params = 2 + params

abbrev pub first_for : (nodes params : ℕ) → ℕ
first_for zero params = 2 + params
first_for (suc n) params = 3 + params

abbrev pub zero_word : TypedFunction → ℕ
zero_word f = zero_for f.nodes f.params

abbrev pub first_word : TypedFunction → ℕ
first_word f = first_for f.nodes f.params

abbrev pub homes : TypedFunction → List Home
homes f = homes_from f 0 (first_word f) 0 f.locals

abbrev pub past_word : Home → ℕ → ℕ
past_word (plain w) n = max n (w + 1)
past_word (bytes row) n = n
past_word (unseen row) n = n

abbrev pub past_words : List Home → ℕ → ℕ
past_words [] n = n
past_words (h ∷ hs) n = past_words hs (past_word h n)

-- ---- what the code of a function depends on: the program's structures and functions, the types of its static objects, the
-- function's variables, and its words

pub record Context : Type 0 where
  pub structs : PlainStructs
  pub functions : List TypedFunction
  pub statics : List PlainType
  pub locals : List PlainType
  pub homes : List Home
  pub zero : ℕ
  pub free : ℕ

abbrev pub type_of_object : TypedObject → PlainType
type_of_object o = o.ty

abbrev pub context_of : TypedProgram → TypedFunction → Context
context_of t f =
    record {
      structs = t.structs;
      functions = t.functions;
      statics = map type_of_object t.statics;
      locals = f.locals;
      homes = homes f;
      zero = zero_word f;
      free = past_words (homes f) (first_word f);
    }

abbrev pub home_of : Context → ℕ → Home
home_of c v = slice_index_or c.homes v (bytes 0)

abbrev pub word_of : Home → Option ℕ
word_of (plain w) = Some w
word_of (bytes row) = None
word_of (unseen row) = None

abbrev pub row_of : Home → ℕ
row_of (plain w) = 0
row_of (bytes row) = row
row_of (unseen row) = row

-- the word of what a lean designates, where that is a plain variable
abbrev pub variable_word : Context → TypedLean → Option ℕ
variable_word c (at.Local v) = word_of (home_of c v)
variable_word c (at.Static n) = None
variable_word c (at.Value e) = None
variable_word c (at.Slide lean scale minus number_first e) = None
variable_word c (at.Member lean offset) = None

abbrev pub local_row : Context → ℕ → ℕ
local_row c v = row_of (home_of c v)
