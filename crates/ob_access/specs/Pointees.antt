-- What a pointer points into, as the program keeps it: nothing through null, or an object that is live or freed, with an offset.
use Rattle.std.specs.Prelude.{Option, Some, None}
use Rattle.ob_model.specs.declared.values.Value.{Value}
use Rattle.ob_code.specs.Pointers.{Target, nothing, into, pointer_of}
use Rattle.ob_access.specs.declared.pointee.Pointee.{Pointee}

abbrev pub target_of : Option Pointee → Target
target_of None = nothing
target_of (Some p) = into (record { entry = p.entry; freed = p.freed }) p.offset

-- the pointer that it is in the language
abbrev pub value_of : Option Pointee → Value
value_of pointer = pointer_of (target_of pointer)
