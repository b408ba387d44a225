-- The rows so far are done, and the others as they were.
use Rattle.std.proofs.Common.{◌≡◌, ◌++◌, map, take, drop}
use Rattle.proxy_model.specs.LeaseTable.{Table, given_up}
use Rattle.lease_table.proofs.LeaseTable.give_up_all.Given as goal

abbrev pub invariant-loop-place : goal.invariant-loop-place
invariant-loop-place l =
    ◌≡◌ {A = Table} l.self (record l.initial.self { entries = map (λ e. (e.0, given_up e.1)) (take l.place l.initial.self.entries) ++ drop l.place l.initial.self.entries })
