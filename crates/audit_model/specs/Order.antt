-- The order of a transcript's items: what must have stood before an item, whoever wrote it. Calls, streams and tickets are used as they
-- were sent, opened and asked.
use Rattle.std.specs.Prelude.{ℕ, ◌+◌, Bool, true, false, not, ◌==◌, ◌&&◌, nat_le, List, [], ◌∷◌, Option, None, Some, is_some, if◌then◌else◌, Result, Ok, Err}
use Rattle.std.specs.List.{list_any}
use Rattle.etcd_types.specs.declared.request.Request.{Request}
use Rattle.etcd_types.specs.declared.request.Request.TheVariants as request
use Rattle.script_text.specs.declared.item.Item.{Item}
use Rattle.script_text.specs.declared.item.Item.TheVariants as item
use Rattle.store_model.specs.Leases.{expired}
use Rattle.store_model.specs.Members.{applied}
use Rattle.store_model.specs.State.{State}
use Rattle.watch_model.specs.Queues.{is_nil}
use Rattle.world_model.specs.Answers.{seen}
use Rattle.world_model.specs.Lives.{begins, life, clock_of, asked_as, executed_to, opened_it, next_message}
use Rattle.audit_model.specs.Calls.{calls_sent, sender_of, is_own_call, is_settled}
use Rattle.audit_model.specs.Streams.{streams_opened, opener_of, is_own_stream, has_ended, has_cancelled}

-- whom a fault of order names: what the item is about
abbrev pub about : Item → ℕ
about (item.World members namespace leasing) = 0
about (item.Started p) = p
about (item.Restarted p) = p
about (item.Clock p millis) = p
about (item.Asked p ticket q) = ticket
about (item.Posted p ticket path text) = ticket
about (item.Ticked p) = p
about (item.Sent p call member ticket q) = call
about (item.Opened p stream member q) = stream
about (item.Closed p stream) = stream
about (item.Executed call answer) = call
about (item.Answered call) = call
about (item.Lost call) = call
about (item.Pushed stream message) = stream
about (item.Delivered stream) = stream
about (item.Cut stream) = stream
about (item.Taken p ticket message) = ticket
about (item.Pending p ticket) = ticket
about (item.Left p ticket) = ticket
about (item.Expired lease) = lease
about (item.Applied member revision) = member
about (item.Reply p ticket answer) = ticket
about (item.Body p ticket status text) = ticket

-- ---- proxies and tickets

abbrev pub has_started : ℕ → List Item → Bool
has_started p before = list_any (begins p) before

abbrev pub gives_ticket : ℕ → ℕ → Item → Bool
gives_ticket p ticket (item.Asked q t r) = q == p && t == ticket
gives_ticket p ticket (item.Posted q t path text) = q == p && t == ticket
gives_ticket p ticket _ = false

-- the ticket was asked or posted, in these items of a life
abbrev pub is_given_ticket : ℕ → ℕ → List Item → Bool
is_given_ticket p ticket items = list_any (gives_ticket p ticket) items

abbrev pub replies_to : ℕ → ℕ → Item → Bool
replies_to p ticket (item.Reply q t answer) = q == p && t == ticket
replies_to p ticket _ = false

abbrev pub is_replied : ℕ → ℕ → List Item → Bool
is_replied p ticket items = list_any (replies_to p ticket) items

abbrev pub is_watch : Request → Bool
is_watch (request.Watch ask) = true
is_watch _ = false

abbrev pub is_watch_of : Option Request → Bool
is_watch_of None = false
is_watch_of (Some q) = is_watch q

-- the proxy runs, and this ticket of its life was asked or posted
abbrev pub knows_ticket : ℕ → ℕ → List Item → Bool
knows_ticket p ticket before = has_started p before && is_given_ticket p ticket (life p before)

abbrev pub knows_watch : ℕ → ℕ → List Item → Bool
knows_watch p ticket before = has_started p before && is_watch_of (asked_as p ticket (life p before))

-- ---- members

abbrev pub members_of : List Item → ℕ
members_of [] = 0
members_of (item.World members namespace leasing ∷ items) = members
members_of (i ∷ items) = members_of items

abbrev pub is_member : List Item → ℕ → Bool
is_member before member = nat_le 1 member && nat_le member (members_of before)

-- ---- calls and streams

abbrev pub can_settle : ℕ → List Item → Bool
can_settle call before = is_own_call call (sender_of call before) before && not (is_settled call before)

abbrev pub is_open_stream : ℕ → List Item → Bool
is_open_stream stream before = is_own_stream stream (opener_of stream before) before && not (has_ended stream before)

-- what an item behind the first wants of the items before it
abbrev pub fits_behind : List Item → Item → Bool
fits_behind before (item.World members namespace leasing) = false
fits_behind before (item.Started p) = not (has_started p before)
fits_behind before (item.Restarted p) = has_started p before
fits_behind before (item.Clock p millis) = has_started p before && nat_le (clock_of p before) millis
fits_behind before (item.Asked p ticket q) = has_started p before && not (is_some (asked_as p ticket (life p before)))
fits_behind before (item.Posted p ticket path text) = has_started p before && not (is_given_ticket p ticket (life p before))
fits_behind before (item.Ticked p) = has_started p before
fits_behind before (item.Sent p call member ticket q) =
    has_started p before && call == calls_sent before + 1 && is_member before member && not (is_watch q)
fits_behind before (item.Opened p stream member q) =
    has_started p before && stream == streams_opened before + 1 && is_member before member && is_watch q
fits_behind before (item.Closed p stream) =
    has_started p before && opened_it p stream (life p before) && not (has_ended stream before)
fits_behind before (item.Executed call answer) = is_some (sender_of call before) && not (is_some (executed_to call before))
fits_behind before (item.Answered call) = can_settle call before && is_some (executed_to call before)
fits_behind before (item.Lost call) = can_settle call before
fits_behind before (item.Pushed stream message) = is_open_stream stream before && not (has_cancelled stream before)
fits_behind before (item.Delivered stream) = is_open_stream stream before && is_some (next_message stream before)
fits_behind before (item.Cut stream) = is_open_stream stream before && not (has_cancelled stream before)
fits_behind before (item.Taken p ticket message) = knows_watch p ticket before
fits_behind before (item.Pending p ticket) = knows_watch p ticket before
fits_behind before (item.Left p ticket) = knows_ticket p ticket before
fits_behind before (item.Expired lease) = true
fits_behind before (item.Applied member revision) = true
fits_behind before (item.Reply p ticket answer) = knows_ticket p ticket before && not (is_replied p ticket (life p before))
fits_behind before (item.Body p ticket status text) = knows_ticket p ticket before

abbrev pub is_ok : {A B : Type 0} → Result A B → Bool
is_ok (Ok x) = true
is_ok (Err why) = false

-- and of the store that they made: there is such a lease, and such a member that may apply this revision
abbrev pub store_takes : State → Item → Bool
store_takes s (item.Expired lease) = is_ok (expired s lease)
store_takes s (item.Applied member revision) = is_ok (applied s member revision)
store_takes s _ = true

-- the first item makes the world, with 1 to 9 members
abbrev pub is_first : Item → Bool
is_first (item.World members namespace leasing) = nat_le 1 members && nat_le members 9
is_first _ = false

abbrev pub in_order : List Item → Item → Bool
in_order before i = if is_nil before then is_first i else fits_behind before i && store_takes (seen before).store i
