-- How an image is laid out, how it starts, and its whole run. Static objects lie from address 4096 on, each at the end of the
-- block before; the stack has 1,048,576 bytes from 2 ^ 24 on; the heap has those of the settings from 2 ^ 25 on.
use Rattle.std.specs.Prelude.{ℕ, ◌+◌, ◌*◌, true, List, [], ◌∷◌, ◌++◌, length, take, drop}
use Rattle.ob_words.specs.Words.{block}
use Rattle.ob_model.specs.declared.objects.Sort.TheVariants.{Static}
use Rattle.ob_model.specs.declared.settings.RunSettings.{RunSettings}
use Rattle.ob_model.specs.Endings.{InputEnd, Outcome, plain}
use Rattle.ob_model.specs.Entries.{with_live}
use Rattle.ob_model.specs.Limits.{stack_bytes, statics_start}
use Rattle.ob_flat.specs.Memory.{Memory, index, with_field, with_mark, zeroed}
use Rattle.ob_code.specs.declared.image.Image.{Image}
use Rattle.ob_code.specs.declared.image.PointerRow.{PointerRow}
use Rattle.ob_code.specs.declared.image.StaticRow.{StaticRow}
use Rattle.ob_code.specs.Layout.{static_base, static_blocks}
use Rattle.ob_code.specs.Machine.{after, entering, runs, ticked}
use Rattle.ob_code.specs.State.{Setup, Space, State, Next, Final}

-- bytes put at an address
abbrev pub with_bytes : Memory → ℕ → List ℕ → Memory
with_bytes m address bs =
    record m { bytes = take (index m address) m.bytes ++ (bs ++ drop (index m address + length bs) m.bytes) }

-- the static objects from a base and a number on
abbrev pub with_statics : ℕ → ℕ → List StaticRow → Space → Space
with_statics base object [] s = s
with_statics base object (r ∷ rs) s =
    with_statics (base + block r.size) (object + 1) rs
    (record s {
      memory = with_bytes s.memory base r.given;
      entries = with_live (record { base = base; size = r.size; object = object; sort = Static }) s.entries;
    })

-- the pointers that they hold
abbrev pub with_pointer : List StaticRow → PointerRow → Memory → Memory
with_pointer statics p m =
    with_mark (with_field m (static_base statics p.holder + p.offset) 8 (static_base statics p.target + p.target_offset))
    (static_base statics p.holder + p.offset) true

abbrev pub with_pointers : List StaticRow → List PointerRow → Memory → Memory
with_pointers statics [] m = m
with_pointers statics (p ∷ ps) m = with_pointers statics ps (with_pointer statics p m)

-- the space before the run, with so many bytes of stack
abbrev pub empty_space : Memory → ℕ → Space
empty_space m next =
    record { memory = m; entries = []; slots = []; blocks = []; outside = []; calls = []; next = next }

abbrev pub with_static_pointers : List StaticRow → List PointerRow → Space → Space
with_static_pointers statics pointers s = record s { memory = with_pointers statics pointers s.memory }

abbrev pub laid_out : ℕ → List StaticRow → List PointerRow → RunSettings → Space
laid_out stack statics pointers settings =
    with_static_pointers statics pointers
    (with_statics statics_start 1 statics (empty_space (zeroed (static_blocks statics) stack settings.heap) (length statics + 1)))

-- the state before anything is done
abbrev pub fresh : Space → ℕ → List ℕ → ℕ → State
fresh space place input steps =
    record { space = space; counter = 0; steps = steps; input = input; output = []; events = []; cycle_place = place; instructions = 0 }

-- the run starts by calling `main`, which takes its step and its room on the stack; its return place is the code's length
abbrev pub started : Image → State → Next
started image s = ticked s.steps s (λ t. entering image image.main (length image.code) [] t)

-- a run does so many instructions at most
abbrev pub most_instructions : Image → ℕ → ℕ
most_instructions image steps = (length image.code + 1) * (steps + 1)

-- a whole run from a space
abbrev pub run_from : Setup → Space → ℕ → List ℕ → ℕ → Final
run_from u space place input steps =
    after (started u.image (fresh space place input steps)) (runs u (most_instructions u.image steps))

-- the whole run of an image: under settings, from a place of a cycle of manufactured values, on an input, for so many steps
abbrev pub flat_final : Image → RunSettings → List ℕ → ℕ → List ℕ → InputEnd → ℕ → Final
flat_final image settings cycle place input input_end steps =
    run_from (record { image = image; settings = settings; cycle = cycle; input_end = input_end })
    (laid_out stack_bytes image.statics image.pointers settings) place input steps

-- what the run gives, the state at which it ended, and how many instructions it did
abbrev pub outcome_of : Final → Outcome
outcome_of f =
    record { finish = plain f.ending; output = f.state.output; events = f.state.events; cycle_place = f.state.cycle_place }

abbrev pub flat_end : Image → RunSettings → List ℕ → ℕ → List ℕ → InputEnd → ℕ → State
flat_end image settings cycle place input input_end steps =
    (flat_final image settings cycle place input input_end steps).state

abbrev pub flat_instructions : Image → RunSettings → List ℕ → ℕ → List ℕ → InputEnd → ℕ → ℕ
flat_instructions image settings cycle place input input_end steps =
    (flat_end image settings cycle place input input_end steps).instructions
