-- What a granule of eight bytes holds, and what reading and writing it gives. Its cell is one pointer, or eight bytes that may
-- each be unset; the pointers are values or machine words. Numbers are little-endian. A number read from a pointer is 0, and a
-- pointer read from bytes is null; reading an unset byte gives the next manufactured value instead.
use Rattle.std.specs.Prelude.{ℕ, zero, suc, ◌+◌, ◌/◌, ◌%◌, Bool, true, false, ◌==◌, List, [], ◌∷◌, ◌++◌, map, take, drop, replicate, length, Option, Some, None, if◌then◌else◌}
use Rattle.std.specs.Option.{option_map}
use Rattle.ob_words.specs.Fields.{from_bytes}
use Rattle.ob_model.specs.declared.values.Cell.{Cell}

pub data Content (P : Type 0) : Type 0 where
  pointer : (p : P) → Content P
  bytes : (entries : List (Option ℕ)) → Content P

-- a granule that nothing was stored in, and one of zero bytes
abbrev pub unset : {P : Type 0} → Content P
unset = bytes (replicate 8 None)

abbrev pub zeros : {P : Type 0} → Content P
zeros = bytes (replicate 8 (Some 0))

-- a granule has eight bytes
abbrev pub has_eight : {P : Type 0} → Content P → Bool
has_eight (pointer p) = true
has_eight (bytes es) = length es == 8

-- the bytes, where each of them is set
abbrev pub with_byte : Option ℕ → Option (List ℕ) → Option (List ℕ)
with_byte (Some b) (Some bs) = Some (b ∷ bs)
with_byte (Some b) None = None
with_byte None bs = None

abbrev pub set_bytes : List (Option ℕ) → Option (List ℕ)
set_bytes [] = Some []
set_bytes (b ∷ bs) = with_byte b (set_bytes bs)

-- the number of k bytes from a place on, or none where one of them is unset
abbrev pub read_number : {P : Type 0} → ℕ → ℕ → Content P → Option ℕ
read_number k place (pointer p) = Some 0
read_number k place (bytes es) = option_map from_bytes (set_bytes (take k (drop place es)))

-- the pointer, which is null in bytes, or none where one of them is unset
abbrev pub read_pointer : {P : Type 0} → P → Content P → Option P
read_pointer null (pointer p) = Some p
read_pointer null (bytes es) = option_map (λ _. null) (set_bytes es)

-- some bytes written from a place on; a pointer that stood there leaves zero bytes
abbrev pub put_bytes : ℕ → List ℕ → List (Option ℕ) → List (Option ℕ)
put_bytes place bs es = take place es ++ (map Some bs ++ drop (place + length bs) es)

abbrev pub written : {P : Type 0} → ℕ → List ℕ → Content P → Content P
written place bs (pointer p) = bytes (put_bytes place bs (replicate 8 (Some 0)))
written place bs (bytes es) = bytes (put_bytes place bs es)

-- what a cell of the machine's list holds
abbrev pub entries_of : ℕ → ℕ → ℕ → List (Option ℕ)
entries_of zero set word = []
entries_of (suc n) set word = (if set % 2 == 1 then Some (word % 256) else None) ∷ entries_of n (set / 2) (word / 256)

abbrev pub held : Bool → ℕ → ℕ → Content ℕ
held true set word = pointer word
held false set word = bytes (entries_of 8 set word)

abbrev pub content : Cell → Content ℕ
content c = held c.pointer c.set c.word
