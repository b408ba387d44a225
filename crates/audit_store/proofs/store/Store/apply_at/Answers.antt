use Rattle.std.proofs.Common.{◌≡◌, false, nat_lt, refl, rules}
use Rattle.store_model.specs.State.{applied_by}
use Rattle.store_model.specs.Members.{lacks_member}
use Rattle.audit_store.specs.Store.{state_of}
use Rattle.audit_store.proofs.MemberLemmas.{applies}
use Rattle.audit_store.proofs.store.Store.apply_at.Goals as goal

pub returns-clause-step : goal.returns-clause-step
returns-clause-step c = λ h holds.
    let lacks : lacks_member (state_of c.args.self.now h) c.args.member ≡ false = search rules in
    let early : nat_lt c.args.revision (applied_by (state_of c.args.self.now h) c.args.member) ≡ false = search rules in
    let late : nat_lt c.args.self.now.index.newest c.args.revision ≡ false = search rules in
    applies c.args.self.now _ h c.args.member c.args.revision holds lacks early late refl refl refl c.set.ensures refl
