-- Calls (C99 6.5.2.2, 6.9.1). A call makes its parameters and then its other automatic objects, all at its entry; they die at
-- its return (6.2.4). Each starts as zero bytes, and a parameter takes its argument. A call ends the run where the allowances
-- of the calls in progress and its own are more than the stack has.
use Rattle.std.specs.Prelude.{ℕ, zero, suc, ◌+◌, nat_lt, pos, List, [], ◌∷◌, ◌++◌, length}
use Rattle.ob_model.specs.declared.endings.Ending.TheVariants.{Stack, Steps}
use Rattle.ob_model.specs.declared.objects.Sort.TheVariants.{Automatic}
use Rattle.ob_model.specs.declared.values.LoadKind.{LoadKind}
use Rattle.ob_model.specs.declared.values.LoadKind.TheVariants.{Num, Ptr}
use Rattle.ob_model.specs.declared.values.Value.{Value}
use Rattle.ob_model.specs.declared.values.Value.TheVariants as value_of
use Rattle.ob_model.specs.Cells.{zeros}
use Rattle.ob_model.specs.Endings.{plain}
use Rattle.ob_model.specs.Limits.{stack_bytes}
use Rattle.ob_model.specs.Objects.{is_among}
use Rattle.ob_tree.specs.Types.{PlainType, PlainStructs}
use Rattle.ob_meaning.specs.Expressions.{choose}
use Rattle.ob_meaning.specs.Memory.{Object, new_object, next_number, with_own}
use Rattle.ob_meaning.specs.Setup.{Below, Flow, next, broke, continued, gave, Setup, function_at, kind_of}
use Rattle.ob_tree.specs.Sizes.{allowance, size}
use Rattle.ob_meaning.specs.Statements.{exec, turns}
use Rattle.ob_meaning.specs.Values.{write_cell}
use Rattle.ob_meaning.specs.World.{World, Call, Run, stop, go, bind, without}

-- ---- the stack

abbrev pub allowance_of : Setup → ℕ → ℕ
allowance_of u f =
    allowance u.program.structs (function_at u f).nodes (function_at u f).params (function_at u f).locals

abbrev pub allowances : Setup → List Call → ℕ
allowances u [] = 0
allowances u (c ∷ cs) = allowance_of u c.function + allowances u cs

-- ---- entry

abbrev pub automatic : PlainStructs → PlainType → Object
automatic structs t = new_object Automatic (size structs t)

-- the automatic objects of a call; those that come first have values
abbrev pub automatics : PlainStructs → List PlainType → List Value → List Object
automatics structs [] vs = []
automatics structs (t ∷ ts) [] = automatic structs t ∷ automatics structs ts []
automatics structs (t ∷ ts) (v ∷ vs) =
    with_own (automatic structs t) (pos 0) (write_cell (kind_of t) (pos 0) v zeros) ∷ automatics structs ts vs

abbrev pub entered : Setup → ℕ → List Value → World → World
entered u f arguments w =
    record w {
      objects = w.objects ++ automatics u.program.structs (function_at u f).locals arguments;
      calls = record { function = f; first = next_number w.objects } ∷ w.calls;
    }

-- ---- return

-- the objects of the innermost call die
abbrev pub left_to : Setup → List Call → World → World
left_to u [] w = w
left_to u (c ∷ cs) w =
    record (without (is_among c.first (length (function_at u c.function).locals)) w) { calls = cs }

abbrev pub left : Setup → World → World
left u w = left_to u w.calls w

-- what the end of a function gives that ends without a `return` with a value: 0 or null
abbrev pub null_of : LoadKind → Value
null_of (Num t) = value_of.Num (pos 0)
null_of Ptr = value_of.Null

-- what a function gives where its body ends so
abbrev pub result_of : PlainType → Flow → Value
result_of ty next = null_of (kind_of ty)
result_of ty broke = null_of (kind_of ty)
result_of ty continued = null_of (kind_of ty)
result_of ty (gave v) = v

abbrev pub returned : Setup → PlainType → Run Flow → Run Value
returned u ty r = bind r (λ flow w. go (result_of ty flow) (left u w))

-- a call, after its step
abbrev pub called : Setup → Below → ℕ → List Value → World → Run Value
called u m f arguments w =
    choose (nat_lt stack_bytes (allowance_of u f + allowances u w.calls)) (stop (plain Stack))
    (λ w1. returned u (function_at u f).result (exec u m (function_at u f).body (entered u f arguments w1))) w

-- ---- the meaning of calls and loop turns, with at most n steps left

abbrev pub below : Setup → ℕ → Below
below u zero = record { call = λ f arguments w. stop (plain Steps) w; turns = λ loop w. stop (plain Steps) w }
below u (suc n) =
    record {
      call = λ f arguments w. called u (below u n) f arguments w;
      turns = λ loop w. turns u (below u n) loop w;
    }
