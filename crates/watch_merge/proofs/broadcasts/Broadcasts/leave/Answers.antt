use Rattle.std.proofs.Common.{◌≡◌, true, List, sym, subst}
use Rattle.watch_model.specs.State.{Stream}
use Rattle.watch_model.specs.Lookups.{numbered, stream_at}
use Rattle.watch_model.specs.Splitting.{emptied_as}
use Rattle.watch_model.proofs.Numbers.{emptied-numbered}
use Rattle.watch_streams.specs.Rows.{Backed}
use Rattle.watch_merge.proofs.broadcasts.Broadcasts.leave.Goals as goal

pub invariant_of-self : goal.invariant_of-self
invariant_of-self c =
    let ss = c.self.inside.streams.items in
    let n = c.in-In.stream in
    let emptied =
    subst (λ (t : List Stream). Backed c.self.inside.index t → Backed c.emptied.new.self (emptied_as n c.self.inside.step t (stream_at n t))) c.deref-then-not-has_member.ensures.value (c.emptied.ensures c.self.inside.step) in
    record {
      idle = tt;
      index = subst (Backed c.emptied.new.self) (sym c.empty.ensures) (emptied c.self.invariant.index);
      numbers =
          subst (λ (t : List Stream). numbered 0 c.self.inside.given t ≡ true) (sym c.empty.ensures)
          (emptied-numbered n c.self.inside.step 0 c.self.inside.given ss (stream_at n ss) c.self.invariant.numbers);
      tickets = c.self.invariant.tickets;
    }
