-- What a transcript tells of a proxy's session, without a look into the proxy: from its grant it is live below its deadline, which each
-- keepalive puts off, until a step comes too late or an answer says that the lease is gone.
use Rattle.std.specs.Prelude.{ℕ, ◌+◌, ◌*◌, Bool, false, not, ◌==◌, ◌&&◌, ◌||◌, nat_lt, nat_le, max, if◌then◌else◌, List, [], ◌∷◌, ◌++◌, Option, None, Some}
use Rattle.std.specs.List.{list_any}
use Rattle.etcd_types.specs.declared.answer.Answer.{Answer}
use Rattle.etcd_types.specs.declared.answer.Answer.TheVariants.{Done, Refused}
use Rattle.etcd_types.specs.declared.answer.Body.{Body}
use Rattle.etcd_types.specs.declared.answer.Body.TheVariants as body
use Rattle.etcd_types.specs.declared.code.TheConstants.{NOT_FOUND}
use Rattle.etcd_types.specs.declared.operation.Op.{Op}
use Rattle.etcd_types.specs.declared.operation.Op.TheVariants as op
use Rattle.etcd_types.specs.declared.request.Request.{Request}
use Rattle.etcd_types.specs.declared.request.Request.TheVariants as request
use Rattle.proxy_model.specs.RequestRefusals.{is_session}
use Rattle.script_text.specs.declared.item.Item.{Item}
use Rattle.script_text.specs.declared.item.Item.TheVariants as item
use Rattle.world_model.specs.Lives.{begins, clock_of, clock_by, sent_it, executed_to, opened_it}

-- ---- calls, as they were sent

abbrev pub request_of_call : ℕ → List Item → Option Request
request_of_call number [] = None
request_of_call number (item.Sent q call member ticket r ∷ items) = if call == number then Some r else request_of_call number items
request_of_call number (i ∷ items) = request_of_call number items

abbrev pub sent_clock_from : ℕ → ℕ → ℕ → List Item → ℕ
sent_clock_from p now number [] = now
sent_clock_from p now number (i ∷ items) = if sent_it p number (i ∷ []) then now else sent_clock_from p (clock_by p now i) number items

-- the proxy's clock when it sent the call
abbrev pub sent_clock : ℕ → ℕ → List Item → ℕ
sent_clock p number items = sent_clock_from p 0 number items

-- ---- sessions

pub record Session : Type 0 where
  pub number : ℕ
  -- in milliseconds of its proxy's clock
  pub deadline : ℕ
  pub ended : Bool

-- an item with which the proxy makes a step
abbrev pub is_step_of : ℕ → List Item → Item → Bool
is_step_of p before (item.Asked q ticket r) = q == p
is_step_of p before (item.Ticked q) = q == p
is_step_of p before (item.Sent q call member ticket r) = q == p
is_step_of p before (item.Opened q stream member r) = q == p
is_step_of p before (item.Closed q stream) = q == p
is_step_of p before (item.Answered call) = sent_it p call before
is_step_of p before (item.Lost call) = sent_it p call before
is_step_of p before (item.Delivered stream) = opened_it p stream before
is_step_of p before (item.Cut stream) = opened_it p stream before
is_step_of p before (item.Taken q ticket message) = q == p
is_step_of p before (item.Pending q ticket) = q == p
is_step_of p before (item.Left q ticket) = q == p
is_step_of p before _ = false

abbrev pub put_under : ℕ → Op → Bool
put_under lease (op.Put ask) = ask.lease == lease
put_under lease _ = false

-- only an acquire puts a key under a session
abbrev pub acquires_under : ℕ → Request → Bool
acquires_under lease (request.Txn t) = list_any (put_under lease) t.success
acquires_under lease _ = false

abbrev pub ended_if : Bool → Session → Session
ended_if ends s = record s { ended = s.ended || ends }

abbrev pub granted_until : ℕ → ℕ → ℕ → ℕ → Option Session → Option Session
granted_until sent lease number ttl s =
    if is_session lease then Some (record { number = number; deadline = sent + 1000 * ttl; ended = false }) else s

abbrev pub kept_until : ℕ → ℕ → ℕ → Option Session → Option Session
kept_until sent lease ttl None = None
kept_until sent lease ttl (Some s) =
    if s.number == lease then Some (ended_if (ttl == 0) (record s { deadline = max s.deadline (sent + 1000 * ttl) })) else Some s

abbrev pub done_with : ℕ → Request → Body → Option Session → Option Session
done_with sent (request.Grant asked lease) (body.Grant number ttl) s = granted_until sent lease number ttl s
done_with sent (request.KeepAlive lease) (body.KeepAlive number ttl) s = kept_until sent lease ttl s
done_with sent q b s = s

abbrev pub refused_with : ℕ → Request → Option Session → Option Session
refused_with code q None = None
refused_with code q (Some s) = Some (ended_if (code == NOT_FOUND && acquires_under s.number q) s)

abbrev pub heard_answer : ℕ → Request → Option Answer → Option Session → Option Session
heard_answer sent q None s = s
heard_answer sent q (Some (Done reply)) s = done_with sent q reply.body s
heard_answer sent q (Some (Refused why)) s = refused_with why.code q s

abbrev pub heard_of : ℕ → Option Request → Option Answer → Option Session → Option Session
heard_of sent None a s = s
heard_of sent (Some q) a s = heard_answer sent q a s

abbrev pub session_heard : ℕ → List Item → Item → Option Session → Option Session
session_heard p before (item.Answered call) s =
    if sent_it p call before then heard_of (sent_clock p call before) (request_of_call call before) (executed_to call before) s else s
session_heard p before _ s = s

-- at a step of its proxy at or above its deadline a session ends
abbrev pub session_at : ℕ → Option Session → Option Session
session_at now None = None
session_at now (Some s) = Some (ended_if (nat_le s.deadline now) s)

abbrev pub session_by : ℕ → List Item → Item → Option Session → Option Session
session_by p before i s =
    if begins p i then None
    else session_heard p before i (if is_step_of p before i then session_at (clock_of p before) s else s)

abbrev pub session_from : ℕ → List Item → Option Session → List Item → Option Session
session_from p before s [] = s
session_from p before s (i ∷ items) = session_from p (before ++ i ∷ []) (session_by p before i s) items

-- the proxy's session behind these items
abbrev pub session_of : ℕ → List Item → Option Session
session_of p items = session_from p [] None items

abbrev pub is_live_at : ℕ → Option Session → Bool
is_live_at now None = false
is_live_at now (Some s) = not s.ended && nat_lt now s.deadline

-- the proxy is live at its next step
abbrev pub is_live : ℕ → List Item → Bool
is_live p items = is_live_at (clock_of p items) (session_of p items)
