use Rattle.std.proofs.Common.{◌≡◌, true, false, map, refl, List, ap, sym, subst, ◌∙◌}
use Rattle.watch_model.specs.State.{Stream, Watch, Broadcasts}
use Rattle.watch_model.specs.Lookups.{numbered, tickets_from}
use Rattle.watch_model.specs.Merging.{merged_stream, merged_watch, merged}
use Rattle.watch_model.proofs.Streams.{numbered-map}
use Rattle.watch_model.proofs.Numbers.{merged-keeps}
use Rattle.watch_model.proofs.Tickets.{tickets-map}
use Rattle.watch_queue.specs.Watching.{shown}
use Rattle.watch_merge.specs.contracts.broadcasts.Broadcasts.{the_view}
use Rattle.watch_merge.specs.Twins.{has_twins}
use Rattle.watch_merge.proofs.Twins.{nothing_merges, merged_row}
use Rattle.watch_streams.specs.Rows.{Backed}
use Rattle.watch_streams.proofs.Indexing.{rows_map, backed_same}
use Rattle.watch_merge.proofs.broadcasts.Broadcasts.merge_equal.Goals as goal

pub returns-then-not-any_twins : goal.returns-then-not-any_twins
returns-then-not-any_twins c =
    let b : Broadcasts = the_view c.self.inside in
    let none : has_twins c.args.range.now b.streams ≡ false = sym (ap (has_twins c.args.range.now) c.deref.ensures.value) ∙ sym c.any_twins.ensures ∙ c.if-not-any_twins.true in
    subst (λ (x : Broadcasts). x ≡ merged c.args.range.now x) c.self.view_is (sym (nothing_merges c.args.range.now b none))

pub invariant_of-self : goal.invariant_of-self
invariant_of-self c =
    let ss = c.self.inside.streams.items in
    let ws = map shown c.self.inside.watches.items in
    let f = merged_stream c.args.range.now ss c.self.inside.step in
    record {
      idle = tt;
      index = subst (Backed c.self.inside.index) (sym c.close_others.ensures) (backed_same c.self.inside.index ss (map f ss) (rows_map f (merged_row c.args.range.now ss c.self.inside.step) ss) c.self.invariant.index);
      numbers =
          subst (λ (t : List Stream). numbered 0 c.self.inside.given t ≡ true) (sym c.close_others.ensures)
          (numbered-map (merged_stream c.args.range.now ss c.self.inside.step) (merged-keeps c.args.range.now ss c.self.inside.step) 0 c.self.inside.given ss c.self.invariant.numbers);
      tickets =
          subst (λ (t : List Watch). tickets_from 0 t ≡ true) (sym (c.move_members.ensures ∙ ap (λ (us : List Stream). map (merged_watch c.args.range.now us) ws) c.deref-2.ensures.value))
          (tickets-map (merged_watch c.args.range.now ss) (λ w. refl) 0 ws c.self.invariant.tickets);
    }
