-- What is left tells the same.
use Rattle.std.proofs.Common.{◌≡◌, [], drop}
use Rattle.std.specs.Option.{unwrap_or}
use Rattle.audit_lives.specs.Keeps.{first_kept, namespace_in}
use Rattle.audit_lives.proofs.lives.namespace_of.Given as goal

abbrev pub invariant-loop-one : goal.invariant-loop-one
invariant-loop-one l = unwrap_or (first_kept namespace_in (drop l.one-index l.kept)) [] ≡ unwrap_or (first_kept namespace_in l.kept) []
