-- What a line promises follows from the world that it leaves.
use Rattle.std.proofs.Common.{◌≡◌, ◌<◌, ◌≤◌, ℕ, ◌+◌, ◌^◌, List, [], ◌∷◌, ◌++◌, length, length-append, Option, Some, Result, Ok, Err, refl, sym, ◌∙◌, ap, subst, arith}
use Rattle.core_model.specs.State.{Core}
use Rattle.held_laws.proofs.Nothing.{holds_nothing_back}
use Rattle.core_laws.specs.Watches.Streams.{QueuesAreBounded}
use Rattle.prefix_laws.specs.Lines.{OfProxies}
use Rattle.prefix_laws.proofs.Lines.{lines_stay_sound, lines_stay_bounded}
use Rattle.prefix_laws.proofs.Prefixes.{more_behind}
use Rattle.replay_world.specs.Promises.{OfEach, AreMerged, HadMemory, StaysSound, LeavesNoneIdle, LeavesStreamsMerged, LeavesQueuesBounded, HoldsBehind, LeavesAllHeld}
use Rattle.replay_world.specs.Step.{StepsTo}
use Rattle.replay_world.specs.World.{Parts}
use Rattle.script_text.specs.declared.item.Item.{Item}
use Rattle.script_text.specs.declared.line.Line.{Line}
use Rattle.waiting_laws.specs.Sound.{IsSound}
use Rattle.waiting_laws.specs.Waiting.{NothingIsIdle}
use Rattle.waiting_laws.proofs.Sound.{sound_not_idle}
use Rattle.world_model.specs.declared.fault.LineRefusal.{LineRefusal}
use Rattle.world_model.specs.declared.fault.WorldFault.{WorldFault}
use Rattle.world_model.specs.Places.{kept_at}
use Rattle.world_model.specs.State.{Place, Numbered, World}
use Rattle.world_model.specs.Transcript.{Taken, Done, counted, taken, and_then, done, transcript, world_behind}

places_left : (new : Parts) (result : Result (List Item) WorldFault) (d : Done) → HadMemory result → StepsTo new result d → d.world.places ≡ new.places
places_left new (Ok items) d m g = ap (λ (x : Done). x.world.places) g.so ∙ g.stands.places
places_left new (Err why) d m g = (let r = g (λ e. m (ap Err e)) in ap (λ (x : Done). x.world.places) r.so ∙ r.stands.places)

of_each : (P : Core → Type 0) (new : Parts) (w : World) → w.places ≡ new.places → OfProxies P w → OfEach P new
of_each P new w e h p y at = h p y (ap (λ (ps : Numbered Place). kept_at ps p) e ∙ at)

module _ (w : World) (l : Line) (new : Parts) (result : Result (List Item) WorldFault) (h : StepsTo new result (done w l)) where
  pub stays_sound : StaysSound w l result new
  stays_sound m b k = of_each IsSound new (done w l).world (places_left new result (done w l) m h) (lines_stay_sound w l b k)

  pub leaves_none_idle : LeavesNoneIdle w l result new
  leaves_none_idle m b k p y at = sound_not_idle y.core (stays_sound m b k p y at)

  pub leaves_streams_merged : LeavesStreamsMerged w l result new
  leaves_streams_merged m b k p y at = (stays_sound m b k p y at).streams_stand_alone.alone

  pub leaves_queues_bounded : LeavesQueuesBounded w l result new
  leaves_queues_bounded most m b k = of_each (QueuesAreBounded most) new (done w l).world (places_left new result (done w l) m h) (lines_stay_bounded most w l b k)

-- ---- nothing is held back

pub leaves_all_held : (w : World) (l : Line) (new : Parts) (items : List Item) → StepsTo new (Ok items) (done w l) → LeavesAllHeld w l new
leaves_all_held w l new items h lines short behind =
    let after : World = record h.after { lines = h.after.lines + 1 } in
    let is : taken w l ≡ Ok (after, items) = ap counted h.so in
    let there : world_behind (lines ++ l ∷ []) ≡ Ok (Some after) = more_behind w lines l behind ∙ ap (λ (t : Taken). and_then t (λ v. Ok (Some v))) is in
    let n = length-append lines (l ∷ []) in
    record { world = after; stands = h.stands; behind = there; held = λ p ticket x v at is'. holds_nothing_back (lines ++ l ∷ []) after p x ticket v (omega (arith, n, short)) there at is' }
