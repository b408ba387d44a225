-- What a line makes of the world, from what its step does.
use Rattle.std.proofs.Common.{◌≡◌, ℕ, ◌+◌, Bool, true, List, Ok, Err, refl, ◌∙◌, ap}
use Rattle.replay_world.specs.Step.{IsStep, line_step, StepsTo, is_wanting}
use Rattle.replay_world.specs.World.{Parts, Leaves, Gives}
use Rattle.script_text.specs.declared.item.Item.{Item}
use Rattle.script_text.specs.declared.line.Line.{Line}
use Rattle.script_text.specs.declared.line.Line.TheVariants as line
use Rattle.world_model.specs.declared.fault.WorldFault.{WorldFault}
use Rattle.world_model.specs.declared.fault.WorldFault.TheVariants as fault
use Rattle.world_model.specs.State.{World}
use Rattle.world_model.specs.Transcript.{done, step}

pub done_is : (w : World) (l : Line) → IsStep l → done w l ≡ step (line_step w l)
done_is w (line.World members namespace leasing) b = absurd b
done_is w (line.Start p) b = refl
done_is w (line.Clock p millis) b = refl
done_is w (line.Ask p ticket q) b = refl
done_is w (line.Post p ticket path body) b = refl
done_is w (line.Tick p) b = refl
done_is w (line.Send p) b = refl
done_is w (line.Exec number) b = refl
done_is w (line.Answer number) b = refl
done_is w (line.Lose number) b = refl
done_is w (line.Push number) b = refl
done_is w (line.Progress number) b = refl
done_is w (line.Deliver number) b = refl
done_is w (line.Cut number) b = refl
done_is w (line.Take p ticket) b = refl
done_is w (line.Leave p ticket) b = refl
done_is w (line.Expire lease) b = refl
done_is w (line.Apply member revision) b = refl

pub counted_so : (x : Parts) (w : World) (l : Line) (items : List Item) → IsStep l → Leaves x (line_step w l) (Ok items) → StepsTo (record x { lines = x.lines + 1 }) (Ok items) (done w l)
counted_so x w l items b g = record {
  after = g.after;
  so = done_is w l b ∙ ap step g.so;
  stands = record {
    members = g.stands.members;
    namespace = g.stands.namespace;
    leasing = g.stands.leasing;
    places = g.stands.places;
    calls = g.stands.calls;
    streams = g.stands.streams;
    floors = g.stands.floors;
    store = g.stands.store;
    lines = ap (λ (n : ℕ). n + 1) g.stands.lines;
  };
}

pub refused_so : (x : Parts) (w : World) (l : Line) (why : WorldFault) (spent : Bool) → IsStep l → Gives x (Err why) (line_step w l) → StepsTo (record x { spent = spent }) (Err why) (done w l)
refused_so x w l why spent b g = λ n.
    let left = g n in
    record {
      after = left.after;
      so = done_is w l b ∙ ap step left.so;
      stands = record {
        members = left.stands.members;
        namespace = left.stands.namespace;
        leasing = left.stands.leasing;
        places = left.stands.places;
        calls = left.stands.calls;
        streams = left.stands.streams;
        floors = left.stands.floors;
        store = left.stands.store;
        lines = left.stands.lines;
      };
    }

pub wanting_so : (why : WorldFault) → why ≡ fault.NoMemory → is_wanting why ≡ true
wanting_so why e = ap is_wanting e
