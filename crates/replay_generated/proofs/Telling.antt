-- What is told of a script that was made.
use Rattle.std.proofs.Common.{◌≡◌, length, filter, Some, sym, ◌∙◌, ap, subst, zero-add}
use Rattle.replay_counts.proofs.Counting.{asked_all, replied_all, unsent_all}
use Rattle.replay_generated.specs.declared.summary.Summary.{Summary}
use Rattle.replay_counts.specs.declared.tally.Tally.{Tally}
use Rattle.replay_generated.specs.Made.{Made, IsOf, Tells}
use Rattle.replay_counts.specs.Tallies.{no_tally, unsent_of}
use Rattle.replay_world.specs.World.{Stands}
use Rattle.store_model.specs.History.{newest}
use Rattle.world_model.specs.Generated.{Making, is_asked}
use Rattle.world_model.specs.State.{World}

same_world : (v w : World) → Some v ≡ Some w → v ≡ w
same_world v w e = cc

pub tells_so : {x : Made} {m : Making} (s : Summary) → IsOf x m → s.asked ≡ x.tally.asked → s.replied ≡ length x.tally.replies → s.unsent ≡ unsent_of x.tally → ((w : World) → Stands x.world w → s.revision ≡ newest w.store.history) → Tells s m
tells_so {x} {m} s h asked replied unsent revision = record {
  asked = asked ∙ ap (λ (t : Tally). t.asked) h.tally ∙ asked_all no_tally m.items ∙ zero-add (length (filter is_asked m.items));
  replied = replied ∙ ap (λ (t : Tally). length t.replies) h.tally ∙ replied_all m.items;
  unsent = unsent ∙ ap unsent_of h.tally ∙ unsent_all m.items;
  revision = λ w e. revision w (subst (λ (v : World). Stands x.world v) (same_world h.world w (sym h.made ∙ e)) h.stands);
}
