-- What a transcript tells of a key that a proxy owns: it was asked for, the acquire that named the request was answered as won under the
-- live session, and nothing since took the key away; writes of the proxy's own that are done, one after the other, leave it (the leasing
-- cache of etcd's clientv3).
use Rattle.std.specs.Prelude.{◌≡◌, ℕ, ◌==◌, ◌&&◌, nat_lt, Bool, true, false, not, if◌then◌else◌, List, [], ◌∷◌, ◌++◌, Option, None, Some, Ok, Err}
use Rattle.std.specs.List.{list_any}
use Rattle.etcd_types.specs.declared.answer.Answer.{Answer}
use Rattle.etcd_types.specs.declared.answer.Answer.TheVariants.{Done, Refused}
use Rattle.etcd_types.specs.declared.operation.Compare.{Compare}
use Rattle.etcd_types.specs.declared.operation.Op.{Op}
use Rattle.etcd_types.specs.declared.operation.Op.TheVariants as op
use Rattle.etcd_types.specs.declared.request.Request.{Request}
use Rattle.etcd_types.specs.declared.request.Request.TheVariants as request
use Rattle.etcd_types.specs.declared.watch.Change.{Change}
use Rattle.etcd_types.specs.declared.watch.Change.TheVariants as change
use Rattle.etcd_types.specs.declared.watch.WatchItem.{WatchItem}
use Rattle.etcd_types.specs.declared.watch.WatchItem.TheVariants as watch
use Rattle.etcd_types.specs.Keys.{same}
use Rattle.proxy_model.specs.declared.ownership.Claim.{Claim}
use Rattle.proxy_model.specs.declared.ownership.Claim.TheVariants.{Acquired, OwnedBy}
use Rattle.proxy_model.specs.Acquire.{claimed}
use Rattle.proxy_model.specs.Foreign.{revoke_word}
use Rattle.proxy_model.specs.SeveralKeys.{written_ranges}
use Rattle.proxy_model.specs.Unwrapped.{Unwrapped, item_without}
use Rattle.wait_model.specs.Covers.{covered}
use Rattle.wait_model.specs.Notices.{owned_key}
use Rattle.core_model.specs.Heard.{heard}
use Rattle.core_model.specs.Refusals.{refusal_of}
use Rattle.script_text.specs.declared.item.Item.{Item}
use Rattle.script_text.specs.declared.item.Item.TheVariants as item
use Rattle.world_model.specs.Lives.{clock_of, executed_to, next_message}
use Rattle.world_model.specs.LiveSessions.{Session, session_of, is_live}
use Rattle.cached_laws.specs.Folds.{told_of}
use Rattle.cached_laws.specs.Reads.{is_served}
use Rattle.cached_laws.specs.Streams.{ToldStream, leasing_of}
use Rattle.owned_laws.specs.OwnWrites.{OwnWrite, keeps_over, settles_as, is_in_time}

-- How far a ticket's acquire of the key came, and the writes of the key since the ticket was asked, in the order in which they were asked.
pub data Owning : Type 0 where
  -- the ticket was asked; these writes came since, and none of them was sent
  asks : List OwnWrite → Owning
  -- the acquire that names it was sent as this call, under this session; these writes wait for it
  sends : ℕ → ℕ → List OwnWrite → Owning
  -- it was won: the key is owned under this session, since this create revision
  owns : ℕ → ℕ → Owning
  -- a write of it was asked, and isn't sent yet; these wait behind it
  write_asked : ℕ → ℕ → OwnWrite → List OwnWrite → Owning
  -- it was sent as this call
  write_sent : ℕ → ℕ → OwnWrite → List OwnWrite → ℕ → Owning

-- the key is owned, or the first of the writes that waited begins
abbrev pub owned_behind : ℕ → ℕ → List OwnWrite → Owning
owned_behind n create [] = owns n create
owned_behind n create (w ∷ ws) = write_asked n create w ws

-- ---- what is sent

-- the ownership key of a key, as it is sent
abbrev pub owner_key : List ℕ → List ℕ → List ℕ → List ℕ
owner_key namespace leasing k = namespace ++ (leasing ++ k)

-- only an acquire puts a key under a session
abbrev pub puts_under : List ℕ → ℕ → Op → Bool
puts_under owner lease (op.Put ask) = same ask.key owner && ask.lease == lease
puts_under owner lease _ = false

abbrev pub takes_under : List ℕ → ℕ → Request → Bool
takes_under owner lease (request.Txn t) = list_any (puts_under owner lease) t.success
takes_under owner lease _ = false

-- a rescind deletes the ownership key where it has this create revision
abbrev pub compares_create : List ℕ → ℕ → Compare → Bool
compares_create owner create c = same c.range.key owner && c.number == create

abbrev pub rescinds : List ℕ → ℕ → Request → Bool
rescinds owner create (request.Txn t) = list_any (compares_create owner create) t.compare
rescinds owner create _ = false

abbrev pub gives_up : List ℕ → ℕ → ℕ → Item → Bool
gives_up owner create p (item.Sent q call member ticket r) = q == p && rescinds owner create r
gives_up owner create p _ = false

-- the proxy sent a call that gives this very ownership up
abbrev pub gave_up : List ℕ → ℕ → ℕ → List Item → Bool
gave_up owner create p items = list_any (gives_up owner create p) items

-- ---- what is answered

abbrev pub claim_told : Option Claim → Option ℕ
claim_told None = None
claim_told (Some (Acquired create kv)) = Some create
claim_told (Some (OwnedBy kv owner)) = None

abbrev pub claim_heard : List ℕ → List ℕ → Option Answer → Option ℕ
claim_heard leasing k None = None
claim_heard leasing k (Some (Done reply)) = claim_told (claimed leasing k reply)
claim_heard leasing k (Some (Refused r)) = None

-- the create revision under which an acquire that was executed to this won the key
abbrev pub claim_in : List ℕ → List ℕ → List ℕ → Option Answer → Option ℕ
claim_in namespace leasing k None = None
claim_in namespace leasing k (Some a) = claim_heard leasing k (heard namespace a)

abbrev pub is_numbered : ℕ → Option Session → Bool
is_numbered n None = false
is_numbered n (Some s) = s.number == n

abbrev pub owned_if : Bool → Owning → Option Owning
owned_if true o = Some o
owned_if false o = None

-- under the session that is live at that step
abbrev pub won_under : List ℕ → ℕ → List Item → ℕ → List OwnWrite → Option ℕ → Option Owning
won_under owner p before n ws None = None
won_under owner p before n ws (Some create) = owned_if (is_numbered n (session_of p before) && is_live p before && not (gave_up owner create p before)) (owned_behind n create ws)

-- ---- what is told by the leasing stream

-- the revoking word comes for the key; or, where it is owned, its ownership key is deleted at a later revision than its own
abbrev pub revokes : List ℕ → List ℕ → Option ℕ → Change → Bool
revokes leasing k create (change.Put kv) = same kv.value revoke_word && same (owned_key leasing kv.key) k
revokes leasing k None (change.Delete j revision) = false
revokes leasing k (Some create) (change.Delete j revision) = same (owned_key leasing j) k && nat_lt create revision

-- a cancellation that names a compaction gives all up
abbrev pub message_revokes : List ℕ → List ℕ → Option ℕ → WatchItem → Bool
message_revokes leasing k create (watch.Created h) = false
message_revokes leasing k create (watch.Events h events) = list_any (λ e. revokes leasing k create e.change) events
message_revokes leasing k create (watch.Canceled h compaction) = not (compaction == 0)

abbrev pub read_revokes : List ℕ → List ℕ → Option ℕ → Unwrapped WatchItem → Bool
read_revokes leasing k create (Ok x) = message_revokes leasing k create x
read_revokes leasing k create (Err foreign) = false

abbrev pub told_revokes : List ℕ → List ℕ → List ℕ → Option ℕ → Option WatchItem → Bool
told_revokes namespace leasing k create None = false
told_revokes namespace leasing k create (Some x) = read_revokes leasing k create (item_without namespace x)

abbrev pub is_stream : ℕ → Option ToldStream → Bool
is_stream number None = false
is_stream number (Some s) = s.number == number

-- ---- item by item

-- it isn't refused, and writes the key
abbrev pub writes_over : List ℕ → List ℕ → Request → Bool
writes_over leasing k q = is_served (refusal_of leasing q) && covered (written_ranges q) k

-- the writes of the key that aren't done
abbrev pub writes_of : Owning → List OwnWrite
writes_of (asks ws) = ws
writes_of (sends c n ws) = ws
writes_of (owns n create) = []
writes_of (write_asked n create w ws) = w ∷ ws
writes_of (write_sent n create w ws call) = w ∷ ws

-- one of them goes under this ticket
abbrev pub has_write : ℕ → Owning → Bool
has_write t o = list_any (λ w. t == w.ticket) (writes_of o)

-- what was sent as this call isn't answered
abbrev pub awaits_call : ℕ → Owning → Bool
awaits_call call (sends c n ws) = c == call
awaits_call call (write_sent n create w ws c) = c == call
awaits_call call _ = false

abbrev pub create_of : Owning → Option ℕ
create_of (asks ws) = None
create_of (sends call n ws) = None
create_of (owns n create) = Some create
create_of (write_asked n create w ws) = Some create
create_of (write_sent n create w ws call) = Some create

-- but where that holds
abbrev pub unless_so : (Owning → Bool) → Option Owning → Option Owning
unless_so p None = None
unless_so p (Some o) = if p o then None else Some o

-- A write of an owned key begins; one that comes while the acquire, or another write, is due or on its way waits behind that.
abbrev pub joined : OwnWrite → Owning → Option Owning
joined v (asks ws) = Some (asks (ws ++ v ∷ []))
joined v (sends c n ws) = Some (sends c n (ws ++ v ∷ []))
joined v (owns n create) = Some (write_asked n create v [])
joined v (write_asked n create w ws) = Some (write_asked n create w (ws ++ v ∷ []))
joined v (write_sent n create w ws call) = Some (write_sent n create w (ws ++ v ∷ []) call)

-- by a request of a client, under a new ticket: under ticket 0 calls of the proxy's own go
abbrev pub may_join : List ℕ → List ℕ → ℕ → Request → Owning → Bool
may_join leasing k t r o = keeps_over leasing k r && not (t == 0) && not (has_write t o)

abbrev pub written_by : List ℕ → List ℕ → ℕ → Request → ℕ → Option Owning → Option Owning
written_by leasing k t r now None = None
written_by leasing k t r now (Some o) = if may_join leasing k t r o then joined (record { ticket = t; request = r; since = now }) o else None

abbrev pub asked_by : List ℕ → List ℕ → ℕ → ℕ → Request → ℕ → Option Owning → Option Owning
asked_by leasing k ticket t r now o =
    if writes_over leasing k r then written_by leasing k t r now o else if t == ticket then Some (asks []) else unless_so (has_write t) o

-- an acquire goes out under the session that is live, and no write before it
abbrev pub sent_under : List ℕ → ℕ → ℕ → Bool → Request → List OwnWrite → Option Session → Option Owning
sent_under owner t call live q ws None = unless_so (has_write t) (Some (asks ws))
sent_under owner t call live q ws (Some s) = if live && takes_under owner s.number q then Some (sends call s.number ws) else unless_so (has_write t) (Some (asks ws))

-- or the first of the writes, which is sent once
abbrev pub sent_by : List ℕ → ℕ → ℕ → ℕ → ℕ → List Item → Request → Option Owning → Option Owning
sent_by owner p ticket call t before q None = None
sent_by owner p ticket call t before q (Some (asks ws)) = if t == ticket then sent_under owner t call (is_live p before) q ws (session_of p before) else unless_so (has_write t) (Some (asks ws))
sent_by owner p ticket call t before q (Some (write_asked n create w ws)) =
    if t == w.ticket then Some (write_sent n create w ws call) else unless_so (has_write t) (Some (write_asked n create w ws))
sent_by owner p ticket call t before q (Some o) = unless_so (has_write t) (Some o)

abbrev pub answered_by : List ℕ → List ℕ → List ℕ → ℕ → ℕ → List Item → Option Owning → Option Owning
answered_by namespace leasing k p call before (Some (sends c n ws)) =
    if c == call then won_under (owner_key namespace leasing k) p before n ws (claim_in namespace leasing k (executed_to call before)) else Some (sends c n ws)
answered_by namespace leasing k p call before (Some (write_sent n create w ws c)) =
    if c == call then (if is_in_time (clock_of p before) w && settles_as namespace leasing w.request (executed_to call before) then Some (owned_behind n create ws) else None)
    else Some (write_sent n create w ws c)
answered_by namespace leasing k p call before o = o

abbrev pub delivered_by : List ℕ → List ℕ → List ℕ → ℕ → ℕ → List Item → Option Owning → Option Owning
delivered_by namespace leasing k p number before None = None
delivered_by namespace leasing k p number before (Some o) =
    if is_stream number (leasing_of namespace leasing p before) && told_revokes namespace leasing k (create_of o) (next_message number before) then None else Some o

-- of a ticket, behind the items before it
abbrev pub owned_by : List ℕ → List ℕ → List ℕ → ℕ → ℕ → List Item → Item → Option Owning → Option Owning
owned_by namespace leasing k p ticket before (item.Asked q t r) o = if q == p then asked_by leasing k ticket t r (clock_of p before) o else o
owned_by namespace leasing k p ticket before (item.Sent q call member t r) o = if q == p then sent_by (owner_key namespace leasing k) p ticket call t before r o else o
owned_by namespace leasing k p ticket before (item.Answered call) o = answered_by namespace leasing k p call before o
owned_by namespace leasing k p ticket before (item.Lost call) o = unless_so (awaits_call call) o
owned_by namespace leasing k p ticket before (item.Delivered number) o = delivered_by namespace leasing k p number before o
owned_by namespace leasing k p ticket before (item.Left q t) o = if q == p then unless_so (has_write t) o else o
owned_by namespace leasing k p ticket before _ o = o

abbrev pub owned : List ℕ → List ℕ → List ℕ → ℕ → ℕ → List Item → Option Owning
owned namespace leasing k p ticket items = told_of p None (owned_by namespace leasing k p ticket) items

-- In this life the proxy won the key under this session, by the acquire that names some ticket. Since that ticket was asked its leasing stream
-- brought neither the revoking word for the key, nor a deletion of this ownership, nor a cancellation that names a compaction; and each
-- request that it served since then and that writes the key writes single keys, puts this one without a lease, and was sent as one call,
-- which was answered in time as done or as refused. None of them is still to be answered.
pub record Owns (namespace leasing k : List ℕ) (p session : ℕ) (items : List Item) : Type 0 where
  pub ticket : ℕ
  pub create : ℕ
  pub told : owned namespace leasing k p ticket items ≡ Some (owns session create)
