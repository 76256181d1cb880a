-- What memory and the list of objects hold once the static objects of an image are laid out. Each lies at the end of the block
-- before it, the first at address 4096.
use Rattle.std.specs.Prelude.{ℕ, ◌+◌, List, [], ◌∷◌}
use Rattle.ob_words.specs.Words.{block}
use Rattle.ob_model.specs.declared.objects.Sort.TheVariants.{Static}
use Rattle.ob_model.specs.Entries.{Known, with_live}
use Rattle.ob_model.specs.Limits.{statics_start}
use Rattle.ob_flat.specs.Memory.{Memory}
use Rattle.ob_code.specs.declared.image.PointerRow.{PointerRow}
use Rattle.ob_code.specs.declared.image.StaticRow.{StaticRow}
use Rattle.ob_code.specs.Start.{with_bytes, with_pointers}

-- the given bytes of static objects, the first of which lies at this base
abbrev pub with_given : ℕ → List StaticRow → Memory → Memory
with_given base [] m = m
with_given base (r ∷ rs) m = with_given (base + block r.size) rs (with_bytes m base r.given)

-- memory with the given bytes of all static objects, and then with their pointers
abbrev pub static_memory : List StaticRow → List PointerRow → Memory → Memory
static_memory statics pointers m = with_pointers statics pointers (with_given statics_start statics m)

-- the objects themselves, all live, from a base and a number on
abbrev pub entries_from : ℕ → ℕ → List StaticRow → List Known → List Known
entries_from base object [] entries = entries
entries_from base object (r ∷ rs) entries =
    entries_from (base + block r.size) (object + 1) rs
    (with_live (record { base = base; size = r.size; object = object; sort = Static }) entries)

-- those of an image, numbered from 1
abbrev pub static_entries : List StaticRow → List Known
static_entries statics = entries_from statics_start 1 statics []
