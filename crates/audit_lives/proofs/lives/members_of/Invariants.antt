-- What is left tells the same number.
use Rattle.std.proofs.Common.{◌≡◌, drop}
use Rattle.std.specs.Option.{unwrap_or}
use Rattle.audit_lives.specs.Keeps.{first_kept, members_in}
use Rattle.audit_lives.proofs.lives.members_of.Given as goal

abbrev pub invariant-loop-one : goal.invariant-loop-one
invariant-loop-one l = unwrap_or (first_kept members_in (drop l.one-index l.kept)) 0 ≡ unwrap_or (first_kept members_in l.kept) 0
