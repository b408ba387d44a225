use Rattle.std.proofs.Common.{◌≡◌, nat_lt, false, arith}
use Rattle.std.proofs.lemmas.Bool.Decides.{nat_tests}
use Rattle.audit_store.proofs.RunProofs.{applied_read}
use Rattle.audit_store.proofs.store.Store.read_applied.Goals as goal

pub returns-in-Ok : goal.returns-in-Ok
returns-in-Ok c = λ h holds.
    let late : nat_lt c.applied_by-applied.result c.args.self.now.compacted ≡ false = let e = c.if-applied-self.false in grind (arith, nat_tests) in
    applied_read c.args.self.now h c.args.member c.applied_by-applied.result c.args.ask.now c.in_ok-body.field-0 c.in-Ok.body c.header.result holds
    c.applied_by-applied.ensures late (c.in_ok-body.ensures h holds) c.in-Ok.is c.header.ensures
