-- The arguments of a call as those of the definition.
use Rattle.std.specs.Prelude.{List, map}
use Rattle.ob_typed.specs.PostfixRules.{Argument as PlainArgument}
use Rattle.ob_conversions.specs.CheckedView.{checked}
use Rattle.ob_uses.specs.declared.arguments.Argument.{Argument}

abbrev pub argument : Argument → PlainArgument
argument a = record { first = a.first; is = checked a.is }

abbrev pub arguments : List Argument → List PlainArgument
arguments given = map argument given
