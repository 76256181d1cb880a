-- What a sign of the program is between two operands.
use Rattle.ob_typed.specs.BinaryRules.{Operation as PlainOperation}
use Rattle.ob_rules.specs.declared.binary.Operation.{Operation}
use Rattle.ob_rules.specs.declared.binary.Operation.TheVariants as code

abbrev pub plain_operation : Operation → PlainOperation
plain_operation (code.Arithmetic op) = PlainOperation.Arithmetic op
plain_operation (code.Order r) = PlainOperation.Order r
plain_operation (code.Equality r) = PlainOperation.Equality r
plain_operation code.Both = PlainOperation.Both
plain_operation code.Either = PlainOperation.Either
plain_operation code.Unknown = PlainOperation.Unknown
