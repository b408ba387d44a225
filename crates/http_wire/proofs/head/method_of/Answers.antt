use Rattle.std.proofs.Common.{ap, Err}
use Rattle.http_wire.proofs.Tokens.{token_name}
use Rattle.http_wire.proofs.head.method_of.Goals as goal

pub unreachable-requires : goal.unreachable-requires
unreachable-requires c = c.in-Err-Invalid.ensures.invalid.0 (ap Err c.in-Err-Invalid.field-0-is) (token_name c.args.name.now c.requires)
