-- None may be begun, and none of those that were is left to be begun.
use Rattle.std.proofs.Common.{◌≡◌, [], true}
use Rattle.state_file.proofs.state.Known.close.Given as goal

abbrev pub invariant-loop-number : goal.invariant-loop-number
invariant-loop-number l = (l.self.is_closed ≡ true) × (l.self.begun.items ≡ [])
