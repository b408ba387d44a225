use Rattle.std.proofs.Common.{◌≡◌, ◌+◌, List, ap, ◌∙◌, sym, subst, true, get_or, refl}
use Rattle.watch_model.specs.State.{Stream, Watch, Broadcasts}
use Rattle.watch_model.specs.Lookups.{stream_at, without_stream, numbered, tickets_from}
use Rattle.watch_streams.specs.Places.{IsAt, again}
use Rattle.watch_model.specs.Cuts.{cut_at, renumbered}
use Rattle.watch_model.proofs.Tickets.{tickets-map}
use Rattle.watch_model.proofs.StepTickets.{renumbered-keeps}
use Rattle.watch_merge.specs.contracts.broadcasts.Broadcasts.{the_view}
use Rattle.watch_streams.proofs.Places.{gone_is, gone_again, cut_away, cut_again, cut_numbered, again_numbered}
use Rattle.watch_streams.specs.Rows.{Backed}
use Rattle.watch_merge.proofs.broadcasts.Broadcasts.cut.Goals as goal

pub invariant_of-self : goal.invariant_of-self
invariant_of-self c =
    let b : Broadcasts = the_view c.self.inside in
    let p = subst (λ (ss : List Stream). IsAt c.args.stream ss c.in_ok-at.at) c.deref.ensures.value c.in_ok-at.ensures.found in
    record {
      idle = tt;
      index =
          subst (Backed c.dropped.new.self) (sym (c.remove.ensures.items ∙ gone_is c.args.stream c.in_ok-at.at b.given b.streams c.index.result.now c.self.invariant.numbers p))
          (c.dropped.ensures b.streams c.self.invariant.index);
      numbers = subst (λ (ss : List Stream). numbered 0 b.given ss ≡ true) (sym c.remove.ensures.items) (cut_numbered b c.args.stream c.in_ok-at.at c.index.result.now c.self.invariant.numbers p);
      tickets = c.self.invariant.tickets;
    }

pub returns-then-is_closing-clause-state : goal.returns-then-is_closing-clause-state
returns-then-is_closing-clause-state c =
    let b : Broadcasts = the_view c.self.inside in
    let p = subst (λ (ss : List Stream). IsAt c.args.stream ss c.in_ok-at.at) c.deref.ensures.value c.in_ok-at.ensures.found in
    (λ i. record b { streams = c.remove.ensures.items i })
    ∙ cut_away b c.args.stream c.in_ok-at.at c.index.result.now c.self.invariant.numbers p c.index.ensures (sym c.is_closing.ensures ∙ c.if-is_closing.true)
    ∙ ap (λ (b : Broadcasts). cut_at b (stream_at c.args.stream b.streams)) c.self.view_is

pub invariant_of-self-2 : goal.invariant_of-self-2
invariant_of-self-2 c =
    let b : Broadcasts = the_view c.self.inside in
    let p = subst (λ (ss : List Stream). IsAt c.args.stream ss c.in_ok-at.at) c.deref.ensures.value c.in_ok-at.ensures.found in
    let m = b.given + 1 in
    let s = c.index-2.result.now in
    record {
      idle = tt;
      index =
          subst (Backed c.opened.new.self) (sym (c.reopen.ensures ∙ gone_again c.args.stream c.in_ok-at.at m b.step b.given b.streams s c.self.invariant.numbers p))
          (c.opened.ensures (without_stream c.args.stream b.streams) (again m b.step (get_or b.streams c.in_ok-at.at s)) refl (ap (λ (t : Stream). t.stream.range) (sym c.index-2.ensures) ∙ sym c.range_of.ensures) (c.dropped.ensures b.streams c.self.invariant.index));
      numbers = subst (λ (ss : List Stream). numbered 0 (b.given + 1) ss ≡ true) (sym c.reopen.ensures) (again_numbered b c.args.stream c.in_ok-at.at c.index.result.now c.self.invariant.numbers p);
      tickets =
          subst (λ (ws : List Watch). tickets_from 0 ws ≡ true) (sym c.renumber.ensures)
          (tickets-map (renumbered c.args.stream (b.given + 1)) (renumbered-keeps c.args.stream (b.given + 1)) 0 b.watches c.self.invariant.tickets);
    }

pub returns-clause-state : goal.returns-clause-state
returns-clause-state c =
    let b : Broadcasts = the_view c.self.inside in
    let p = subst (λ (ss : List Stream). IsAt c.args.stream ss c.in_ok-at.at) c.deref.ensures.value c.in_ok-at.ensures.found in
    (λ i. record b { streams = c.reopen.ensures i; watches = c.renumber.ensures i; given = b.given + 1 })
    ∙ cut_again b c.args.stream c.in_ok-at.at c.index.result.now c.self.invariant.numbers p c.index.ensures (sym c.is_closing.ensures ∙ c.if-is_closing.false)
    ∙ ap (λ (b : Broadcasts). cut_at b (stream_at c.args.stream b.streams)) c.self.view_is
