-- A client asks a proxy, or posts JSON to it. A ticket is asked or posted once in a proxy's life.
use Rattle.std.specs.Prelude.{ℕ, if◌then◌else◌, List, [], ◌∷◌, ◌++◌, Result, Ok, Err}
use Rattle.etcd_types.specs.declared.answer.Answer.{Answer}
use Rattle.etcd_types.specs.declared.answer.Answer.TheVariants.{Refused}
use Rattle.etcd_types.specs.declared.request.Request.{Request}
use Rattle.json_model.specs.declared.extra.Reading.TheVariants.{Client}
use Rattle.json_model.specs.declared.fault.ApiFault.{ApiFault}
use Rattle.json_model.specs.Mapping.{request_of}
use Rattle.core_model.specs.declared.event.CoreEvent.TheVariants as event
use Rattle.core_model.specs.declared.event.Outcome.{Outcome}
use Rattle.core_model.specs.declared.event.Outcome.TheVariants as outcome
use Rattle.script_text.specs.declared.item.Item.{Item}
use Rattle.script_text.specs.declared.item.Item.TheVariants as item
use Rattle.world_model.specs.declared.fault.WorldFault.TheVariants as fault
use Rattle.world_model.specs.Gains.{Replies, reply_items, gained}
use Rattle.world_model.specs.Places.{is_among, with_place, with_ticket, with_posted}
use Rattle.world_model.specs.PostRefusals.{post_refusal}
use Rattle.world_model.specs.State.{Place, World, word}
use Rattle.world_model.specs.Steps.{Step, gains, refuses, at_place, steps}

-- a request that is replied at its own step
abbrev pub told_at_once : ℕ → Outcome → Replies
told_at_once ticket (outcome.Replied a) = (ticket, a) ∷ []
told_at_once ticket _ = []

-- `mark` notes the ticket, and the line's own items stand before this one
abbrev pub was_asked : World → ℕ → ℕ → Request → List Item → (Place → Place) → Place → Outcome → Step
was_asked w p ticket q before mark x o =
    gained w p (mark x) (before ++ item.Asked p ticket q ∷ []) (told_at_once ticket o)

abbrev pub asks : World → ℕ → ℕ → Request → List Item → (Place → Place) → Place → Step
asks w p ticket q before mark x =
    steps w p x (event.Ask ticket q (word w)) (fault.TicketUsed ticket) (was_asked w p ticket q before mark)

abbrev pub asked_at : World → ℕ → ℕ → Request → Place → Step
asked_at w p ticket q x =
    if is_among x.tickets ticket then refuses w (fault.TicketUsed ticket)
    else asks w p ticket q [] (with_ticket ticket) x

abbrev pub asked : World → ℕ → ℕ → Request → Step
asked w p ticket q = at_place w p (asked_at w p ticket q)

-- A body that isn't a request is refused with no step of the proxy, and uses up its ticket.

abbrev pub post_refused : World → ℕ → ℕ → List Item → Answer → Place → Step
post_refused w p ticket before a x = gains (with_place w p x) (before ++ reply_items p x.posted (ticket, a))

abbrev pub posted_as : World → ℕ → ℕ → List Item → Place → Result Request ApiFault → Step
posted_as w p ticket before x (Ok q) = asks w p ticket q before (with_posted ticket) x
posted_as w p ticket before x (Err why) = post_refused w p ticket before (Refused (post_refusal why)) (with_posted ticket x)

abbrev pub posted_at : World → ℕ → ℕ → List ℕ → List ℕ → Place → Step
posted_at w p ticket path body x =
    if is_among x.tickets ticket then refuses w (fault.TicketUsed ticket)
    else posted_as w p ticket (item.Posted p ticket path body ∷ []) x (request_of Client path body)

abbrev pub posted : World → ℕ → ℕ → List ℕ → List ℕ → Step
posted w p ticket path body = at_place w p (posted_at w p ticket path body)
