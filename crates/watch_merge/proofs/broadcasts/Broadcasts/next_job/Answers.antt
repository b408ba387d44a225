use Rattle.std.proofs.Common.{◌≡◌, true, List, refl, sym, subst, ap, ◌∙◌}
use Rattle.watch_model.specs.State.{Stream}
use Rattle.watch_model.specs.Lookups.{numbered, changed_stream}
use Rattle.watch_model.specs.Due.{begun}
use Rattle.watch_model.proofs.Streams.{numbered-map, numbered-without, changed-keeps}
use Rattle.watch_streams.specs.Rows.{Backed}
use Rattle.watch_streams.proofs.Indexing.{backed_changed}
use Rattle.watch_streams.specs.Idle.{none_due}
use Rattle.watch_streams.proofs.Idle.{idle_is}
use Rattle.watch_merge.proofs.broadcasts.Broadcasts.next_job.Goals as goal

pub invariant_of-self : goal.invariant_of-self
invariant_of-self c =
    let ss = c.self.inside.streams.items in
    record {
      idle = idle_is c.none_due-self-inside.result _ (c.none_due-self-inside.ensures ∙ ap none_due c.deref-in-Closing.ensures.value);
      index = subst (Backed c.dropped.new.self) (sym c.drop_stream.ensures.gone) (c.dropped.ensures ss c.self.invariant.index);
      numbers = subst (λ (t : List Stream). numbered 0 c.self.inside.given t ≡ true) (sym c.drop_stream.ensures.gone) (numbered-without c.in-Some.found.now.number 0 c.self.inside.given ss c.self.invariant.numbers);
      tickets = c.self.invariant.tickets;
    }

pub invariant_of-self-in-Due : goal.invariant_of-self-in-Due
invariant_of-self-in-Due c =
    let ss = c.self.inside.streams.items in
    let n = c.in-Some.found.now.number in
    record {
      idle = idle_is c.none_due-self-inside-in-Due.result _ (c.none_due-self-inside-in-Due.ensures ∙ ap none_due c.deref-in-Due.ensures.value);
      index = subst (Backed c.self.inside.index) (sym c.begin.ensures) (backed_changed c.self.inside.index n begun (λ s. refl) ss c.self.invariant.index);
      numbers = subst (λ (t : List Stream). numbered 0 c.self.inside.given t ≡ true) (sym c.begin.ensures) (numbered-map (changed_stream n begun) (changed-keeps n begun (λ s. refl)) 0 c.self.inside.given ss c.self.invariant.numbers);
      tickets = c.self.invariant.tickets;
    }
