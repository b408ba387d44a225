-- What happens at a proxy, apart from the rest of the world: `before` is the world that a refused turn leaves, `after` the one that a
-- turn leaves which is taken, but for the proxy itself.
use Rattle.std.specs.Prelude.{ℕ, List, [], ◌∷◌, ◌++◌, Result, Ok, Err}
use Rattle.core_model.specs.declared.event.CoreEvent.{CoreEvent}
use Rattle.core_model.specs.declared.event.CoreEvent.TheVariants as event
use Rattle.core_model.specs.declared.event.Outcome.{Outcome}
use Rattle.etcd_types.specs.declared.answer.Answer.TheVariants.{Refused}
use Rattle.etcd_types.specs.declared.request.Request.{Request}
use Rattle.json_model.specs.declared.extra.Reading.TheVariants.{Client}
use Rattle.json_model.specs.declared.fault.ApiFault.{ApiFault}
use Rattle.json_model.specs.Mapping.{request_of}
use Rattle.replay_places.specs.declared.turn.Turn.{Turn}
use Rattle.replay_places.specs.declared.turn.Turn.TheVariants as turn
use Rattle.replay_places.specs.Places.{with_own_call, with_own_stream}
use Rattle.script_text.specs.declared.item.Item.{Item}
use Rattle.script_text.specs.declared.item.Item.TheVariants as item
use Rattle.world_model.specs.Asks.{was_asked, post_refused}
use Rattle.world_model.specs.declared.fault.WorldFault.{WorldFault}
use Rattle.world_model.specs.declared.fault.WorldFault.TheVariants as fault
use Rattle.world_model.specs.Gains.{gained}
use Rattle.world_model.specs.Places.{with_place, with_ticket, with_posted}
use Rattle.world_model.specs.PostRefusals.{post_refusal}
use Rattle.world_model.specs.State.{Place, World}
use Rattle.world_model.specs.Steps.{Step, gains, steps}
use Rattle.world_model.specs.Takes.{took}

-- a line gains its own item, and the replies that stand ready
abbrev pub told_by : World → ℕ → Item → Place → Step
told_by after p own x = gained after p x (own ∷ []) []

abbrev pub stepped_by : World → World → ℕ → CoreEvent → WorldFault → Item → Place → Step
stepped_by before after p e otherwise own x = steps before p x e otherwise (λ y o. told_by after p own y)

abbrev pub asked_by : World → World → ℕ → ℕ → Request → ℕ → List Item → (Place → Place) → Place → Step
asked_by before after p ticket q word items mark x =
    steps before p x (event.Ask ticket q word) (fault.TicketUsed ticket) (was_asked after p ticket q items mark)

abbrev pub posted_as : World → World → ℕ → ℕ → ℕ → List Item → Place → Result Request ApiFault → Step
posted_as before after p ticket word items x (Ok q) = asked_by before after p ticket q word items (with_posted ticket) x
posted_as before after p ticket word items x (Err why) = post_refused after p ticket items (Refused (post_refusal why)) (with_posted ticket x)

abbrev pub posted_by : World → World → ℕ → ℕ → List ℕ → List ℕ → ℕ → Place → Step
posted_by before after p ticket path body word x =
    posted_as before after p ticket word (item.Posted p ticket path body ∷ []) x (request_of Client path body)

abbrev pub clock_is : World → ℕ → ℕ → Place → Step
clock_is after p millis x = gains (with_place after p (record x { clock = millis })) (item.Clock p millis ∷ [])

abbrev pub turned : World → World → ℕ → Turn → Place → Step
turned before after p (turn.Step e otherwise own) x = stepped_by before after p e otherwise own x
turned before after p (turn.Ask ticket q word) x = asked_by before after p ticket q word [] (with_ticket ticket) x
turned before after p (turn.Post ticket path body word) x = posted_by before after p ticket path body word x
turned before after p (turn.Take ticket) x = steps before p x (event.Take ticket) (fault.NoSuchTicket ticket) (took after p ticket)
turned before after p (turn.Sent call own) x = told_by after p own (with_own_call call x)
turned before after p (turn.Opened number stream own) x = told_by after p own (with_own_stream number stream x)
turned before after p (turn.Clock millis) x = clock_is after p millis x
turned before after p (turn.Told own) x = told_by after p own x
