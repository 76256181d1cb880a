use Rattle.std.proofs.Common.{subst, arith}
use Rattle.ob_exprs.specs.Parsed.{ParsedSpec}
use Rattle.ob_declarations.specs.Statements.{begins_type}
use Rattle.ob_declarations.specs.View.{spec_context_of}
use Rattle.ob_parser.proofs.Loop.{deep-fault, token_read, spec-fault, spec-ends}
use Rattle.ob_parser.proofs.read.after_spec.Goals as goal

pub behind_spec-requires-clause-ends : goal.behind_spec-requires-clause-ends
behind_spec-requires-clause-ends c =
    let ts = c.args.tokens.now.items in
    let read = subst (ParsedSpec ts c.args.from c.spec_depth-depth.result) c.in-Ok.is c.parse_spec.ensures in
    spec-ends ts c.args.from (spec_context_of c.args.context) c.requires.awaits c.spec_depth-depth.result (omega arith) (omega arith) c.in-Ok.spec c.in-Ok.at read

pub returns-in-Err : goal.returns-in-Err
returns-in-Err c =
    let ts = c.args.tokens.now.items in
    let read = subst (ParsedSpec ts c.args.from c.spec_depth-depth.result) c.in-Err.is c.parse_spec.ensures in
    spec-fault ts c.args.from (spec_context_of c.args.context) c.requires.awaits c.spec_depth-depth.result (omega arith) (omega arith) c.in-Err.fault read

pub returns-then-depth-gt-LIMIT : goal.returns-then-depth-gt-LIMIT
returns-then-depth-gt-LIMIT c =
    let ts = c.args.tokens.now.items in
    let t = c.index.result.now in
    deep-fault ts c.args.from (begins_type t.kind) c.deep_spec.result c.deep_spec.ensures (c.requires.awaits.deep (omega arith) t (token_read ts c.args.from t c.requires.from_in c.index.ensures))
