use Rattle.std.proofs.Common.{◌≡◌, true, List, map, sym, subst, ◌∙◌, refl}
use Rattle.watch_model.specs.State.{Stream, Watch}
use Rattle.watch_model.specs.Lookups.{numbered, stream_at, member_changed, tickets_from}
use Rattle.watch_model.specs.Delivery.{advanced, given_batch}
use Rattle.watch_model.specs.Splitting.{emptied_as}
use Rattle.watch_model.proofs.Numbers.{emptied-numbered, advanced-numbered}
use Rattle.watch_model.proofs.Tickets.{tickets-map, member-keeps}
use Rattle.watch_model.proofs.StepTickets.{given-keeps}
use Rattle.watch_queue.specs.Watching.{shown}
use Rattle.watch_streams.specs.Rows.{Backed}
use Rattle.watch_streams.proofs.Indexing.{backed_changed}
use Rattle.watch_streams.specs.Idle.{IsIdle}
use Rattle.watch_streams.proofs.Idle.{idle-changed}
use Rattle.watch_merge.proofs.broadcasts.Broadcasts.deliver_events.Goals as goal

pub invariant_of-self-else-not-has_member : goal.invariant_of-self-else-not-has_member
invariant_of-self-else-not-has_member c =
    let ss = c.self.inside.streams.items in
    let g = given_batch c.args.next c.args.header c.in_ok-batch.batch in
    record {
      idle = subst (IsIdle c.self.inside.idle) (sym c.advance.ensures) (idle-changed c.self.inside.idle c.args.stream (advanced c.last_revision.result) (λ s. refl) ss c.self.invariant.idle);
      index = subst (Backed c.self.inside.index) (sym c.advance.ensures) (backed_changed c.self.inside.index c.args.stream (advanced c.last_revision.result) (λ s. refl) ss c.self.invariant.index);
      numbers = subst (λ (t : List Stream). numbered 0 c.self.inside.given t ≡ true) (sym c.advance.ensures) (advanced-numbered c.args.stream c.last_revision.result c.self.inside.given ss c.self.invariant.numbers);
      tickets =
          subst (λ (t : List Watch). tickets_from 0 t ≡ true) (sym c.in_ok-give.ensures.ok)
          (tickets-map (member_changed c.args.stream g) (member-keeps c.args.stream g (given-keeps c.args.next c.args.header c.in_ok-batch.batch)) 0 (map shown c.self.inside.watches.items) c.self.invariant.tickets);
    }

pub invariant_of-self-then-not-has_member : goal.invariant_of-self-then-not-has_member
invariant_of-self-then-not-has_member c =
    let ss = c.self.inside.streams.items in
    let g = given_batch c.args.next c.args.header c.in_ok-batch.batch in
    let us = c.advance.new.streams.items in
    let emptied =
    subst (λ (t : List Stream). Backed c.self.inside.index t → Backed c.emptied.new.self (emptied_as c.args.stream c.self.inside.step t (stream_at c.args.stream t))) c.deref-then-not-has_member.ensures.value
    (c.emptied.ensures c.self.inside.step) in
    let h = subst (λ (t : List Stream). numbered 0 c.self.inside.given t ≡ true) (sym c.advance.ensures) (advanced-numbered c.args.stream c.last_revision.result c.self.inside.given ss c.self.invariant.numbers) in
    let backed = subst (Backed c.self.inside.index) (sym c.advance.ensures) (backed_changed c.self.inside.index c.args.stream (advanced c.last_revision.result) (λ s. refl) ss c.self.invariant.index) in
    record {
      idle = tt;
      index = subst (Backed c.emptied.new.self) (sym c.empty.ensures) (emptied backed);
      numbers = subst (λ (t : List Stream). numbered 0 c.self.inside.given t ≡ true) (sym c.empty.ensures) (emptied-numbered c.args.stream c.self.inside.step 0 c.self.inside.given us (stream_at c.args.stream us) h);
      tickets =
          subst (λ (t : List Watch). tickets_from 0 t ≡ true) (sym c.in_ok-give.ensures.ok)
          (tickets-map (member_changed c.args.stream g) (member-keeps c.args.stream g (given-keeps c.args.next c.args.header c.in_ok-batch.batch)) 0 (map shown c.self.inside.watches.items) c.self.invariant.tickets);
    }

pub emptied-requires : goal.emptied-requires
emptied-requires c =
    record {
      high = c.self.inside.given;
      numbers =
          subst (λ (t : List Stream). numbered 0 c.self.inside.given t ≡ true) (sym (c.deref-then-not-has_member.ensures.value ∙ c.advance.ensures))
          (advanced-numbered c.args.stream c.last_revision.result c.self.inside.given c.self.inside.streams.items c.self.invariant.numbers);
    }

pub empty-requires : goal.empty-requires
empty-requires c =
    record {
      high = c.self.inside.given;
      numbers =
          subst (λ (t : List Stream). numbered 0 c.self.inside.given t ≡ true) (sym c.advance.ensures)
          (advanced-numbered c.args.stream c.last_revision.result c.self.inside.given c.self.inside.streams.items c.self.invariant.numbers);
    }
