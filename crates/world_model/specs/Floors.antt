-- Session floors: before which reading of its owner's clock a session can't have expired at the store. A session lives for its
-- time to live from its grant, and from each keepalive, and all of these came to the store after they were sent.
use Rattle.std.specs.Prelude.{ℕ, ◌+◌, ◌*◌, Bool, ◌&&◌, nat_lt, max, if◌then◌else◌, Option, None, Some}
use Rattle.etcd_types.specs.declared.answer.Answer.{Answer}
use Rattle.etcd_types.specs.declared.answer.Answer.TheVariants.{Done, Refused}
use Rattle.etcd_types.specs.declared.answer.Body.{Body}
use Rattle.etcd_types.specs.declared.answer.Body.TheVariants as body
use Rattle.etcd_types.specs.declared.request.Request.{Request}
use Rattle.etcd_types.specs.declared.request.Request.TheVariants as request
use Rattle.proxy_model.specs.RequestRefusals.{is_session}
use Rattle.world_model.specs.declared.floor.Floor.{Floor}
use Rattle.world_model.specs.declared.sent_call.SentCall.{SentCall}
use Rattle.world_model.specs.Places.{kept_at, with_kept}
use Rattle.world_model.specs.State.{Numbered}

-- in milliseconds of the clock of the proxy that sent the call; times to live are in seconds
abbrev pub lives_until : SentCall → ℕ → ℕ
lives_until call ttl = call.clock + 1000 * ttl

-- times to live above 0 of session leases count
abbrev pub counts : ℕ → ℕ → Bool
counts lease ttl = is_session lease && nat_lt 0 ttl

-- the later one of this time and of the floor that is kept
abbrev pub later : ℕ → Option Floor → ℕ
later until None = until
later until (Some f) = max f.floor until

-- the greatest counts, of a grant too
abbrev pub granted_floor : SentCall → ℕ → ℕ → Numbered Floor → Numbered Floor
granted_floor call lease ttl floors =
    if counts lease ttl
    then with_kept floors lease (record { proxy = call.proxy; floor = later (lives_until call ttl) (kept_at floors lease) })
    else floors

abbrev pub raised : ℕ → ℕ → Numbered Floor → Option Floor → Numbered Floor
raised lease until floors None = floors
raised lease until floors (Some f) = with_kept floors lease (record f { floor = max f.floor until })

abbrev pub kept_floor : SentCall → ℕ → ℕ → Numbered Floor → Numbered Floor
kept_floor call lease ttl floors =
    if counts lease ttl then raised lease (lives_until call ttl) floors (kept_at floors lease) else floors

abbrev pub floors_by : SentCall → Request → Body → Numbered Floor → Numbered Floor
floors_by call (request.Grant asked number) (body.Grant lease ttl) floors = granted_floor call lease ttl floors
floors_by call (request.KeepAlive number) (body.KeepAlive lease ttl) floors = kept_floor call lease ttl floors
floors_by call q b floors = floors

-- after this answer of the store to a call
abbrev pub floors_after : SentCall → Answer → Numbered Floor → Numbered Floor
floors_after call (Done reply) floors = floors_by call call.request reply.body floors
floors_after call (Refused why) floors = floors
