-- No items give nothing.
use Rattle.std.proofs.Common.{ap, ℕ}
use Rattle.world_model.specs.Places.{kept_at}
use Rattle.world_model.specs.State.{Numbered}
use Rattle.audit_clients.specs.Given.{newest_at}
use Rattle.audit_clients.specs.declared.floors.LeaseCall.{LeaseCall}
use Rattle.audit_clients.proofs.Following.{follows_none}
use Rattle.audit_clients.proofs.given.Given.new.Goals as goal

pub returns : goal.returns
returns c = record {
  floors = c.new.ensures;
  leases = λ call. ap (λ (kept : Numbered LeaseCall). kept_at kept call) c.new-2.ensures;
  newest = λ p. ap (λ (kept : Numbered ℕ). newest_at kept p) c.new-3.ensures;
  index = c.new-4.ensures;
  takings = follows_none c.new-5.result c.new-5.ensures;
}
