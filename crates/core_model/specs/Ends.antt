-- Calls end: each is answered or lost once. What an answer does goes by what its call is for; one that can't be an answer to
-- the call counts as a loss. What was replied, or whose client left, is at no stage any more, so a late end of its call finds nothing.
use Rattle.std.specs.Prelude.{ℕ, ◌+◌, ◌*◌, Bool, true, ◌&&◌, nat_le, if◌then◌else◌, map, Option, None, Some}
use Rattle.etcd_types.specs.declared.answer.Answer.{Answer}
use Rattle.etcd_types.specs.declared.answer.Answer.TheVariants.{Done, Refused}
use Rattle.etcd_types.specs.declared.answer.Reply.{Reply}
use Rattle.proxy_model.specs.Limits.{capped}
use Rattle.proxy_model.specs.Members.{failed, is_stale}
use Rattle.read_model.specs.declared.asked.Asked.{Asked}
use Rattle.read_model.specs.declared.asked.Stage.TheVariants as stage
use Rattle.read_model.specs.declared.asked.Verdict.TheVariants as verdict
use Rattle.read_model.specs.Acquires.{AfterAcquire, acquire_answered, acquire_lost, lost_once}
use Rattle.read_model.specs.PlainRead.{called, in_stage}
use Rattle.read_model.specs.State.{Reads}
use Rattle.read_model.specs.WriteAnswers.{wait_answered, wait_lost}
use Rattle.core_model.specs.declared.event.StepFault.TheVariants as fault
use Rattle.core_model.specs.declared.out_call.CallKind.{CallKind}
use Rattle.core_model.specs.declared.out_call.CallKind.TheVariants as kind
use Rattle.core_model.specs.declared.out_call.OutCall.{OutCall}
use Rattle.core_model.specs.declared.out_call.OutJob.{OutJob}
use Rattle.core_model.specs.declared.out_call.OutJob.TheVariants as job
use Rattle.core_model.specs.ClockWork.{writes_go_on}
use Rattle.core_model.specs.Groups.{groups_ended}
use Rattle.core_model.specs.Heard.{heard, answer_taken}
use Rattle.core_model.specs.Kinds.{is_read, is_ordered, is_body_of}
use Rattle.core_model.specs.Lookups.{moment, reads_of, with_reads, calls_as, out_at, without_out}
use Rattle.core_model.specs.Sessions.{grant_answered, grant_failed, keep_answered, keep_failed}
use Rattle.core_model.specs.State.{Core}
use Rattle.core_model.specs.Stepped.{Stepped, faults, noted}

-- the request whose own call this is, changed
abbrev pub with_caller : ℕ → (Asked → Asked) → Core → Core
with_caller call f c = record c { asks = map (λ a. if calls_as call a then f a else a) c.asks }

-- the current member gave no good answer, and hands on to the next
abbrev pub member_failed : OutCall → Core → Core
member_failed o c = record c { members = failed c.members o.member }

-- Losses.

abbrev pub lost_ask : CallKind → OutCall → Core → Asked → Asked
lost_ask k o c a = if is_read k then lost_once c.members.count c.own.waits.step a else in_stage (stage.Replied verdict.Lost) a

abbrev pub lost_job : ℕ → OutCall → OutJob → Core → Core
lost_job now o (job.Grant lease) c = grant_failed o c
lost_job now o (job.Keep lease) c = keep_failed o c
lost_job now o (job.Acquire k) c = with_reads c (acquire_lost c.members.count (moment c now) k (reads_of c))
lost_job now o job.Wait c = with_reads c (wait_lost (moment c now) o.call (reads_of c))
lost_job now o (job.Ask k) c = with_caller o.call (lost_ask k o c) c
lost_job now o (job.Group lease) c = record c { asks = groups_ended c.own.waits.step o.call lease verdict.Lost c.asks }

abbrev pub lost_call : ℕ → OutCall → Core → Core
lost_call now o c = lost_job now o o.job (member_failed o c)

-- Answers to a client's call.

abbrev pub stales_limit : ℕ → ℕ
stales_limit members = 5 * members

-- one reply of it is stale: it is due again, until there were five for each member
abbrev pub stale_once : ℕ → ℕ → Asked → Asked
stale_once members step a =
    record a { stales = capped (a.stales + 1); stage = (if nat_le (stales_limit members) (capped (a.stales + 1)) then stage.Replied verdict.Stale else called step) }

abbrev pub said : Answer → Asked → Asked
said a x = in_stage (stage.Replied (verdict.Said a)) x

abbrev pub is_stale_reply : CallKind → OutCall → Reply → Bool
is_stale_reply k o reply = is_ordered k && is_stale o.seen reply.header.revision

abbrev pub ask_done : CallKind → OutCall → Reply → Core → Core
ask_done k o reply c =
    if is_stale_reply k o reply then with_caller o.call (stale_once c.members.count c.own.waits.step) (member_failed o c)
    else with_caller o.call (said (Done reply)) c

abbrev pub ask_answered : CallKind → OutCall → Answer → Core → Option Core
ask_answered k o (Done reply) c = if is_body_of k reply.body then Some (ask_done k o reply c) else None
ask_answered k o (Refused r) c = Some (with_caller o.call (said (Refused r)) c)

-- Answers to all that a call can be for; nothing, where the answer can't be one to it.

abbrev pub acquire_ended : Core → AfterAcquire → Core
acquire_ended c x = with_reads (if x.ends then record c { seat = None } else c) x.reads

abbrev pub acquire_if : Core → Option AfterAcquire → Option Core
acquire_if c None = None
acquire_if c (Some x) = Some (acquire_ended c x)

abbrev pub reads_if : Core → Option Reads → Option Core
reads_if c None = None
reads_if c (Some r) = Some (with_reads c r)

abbrev pub is_keepalive : Answer → Bool
is_keepalive (Done reply) = is_body_of kind.KeepAlive reply.body
is_keepalive (Refused r) = true

abbrev pub group_answered : OutCall → ℕ → Answer → Core → Option Core
group_answered o lease a c =
    if is_keepalive a then Some (record c { asks = groups_ended c.own.waits.step o.call lease (verdict.Said a) c.asks }) else None

abbrev pub answered_job : ℕ → OutCall → OutJob → Answer → Core → Option Core
answered_job now o (job.Grant lease) a c = grant_answered o a c
answered_job now o (job.Keep lease) a c = keep_answered now o a c
answered_job now o (job.Acquire k) a c = acquire_if c (acquire_answered (moment c now) k a (reads_of c))
answered_job now o job.Wait a c = reads_if c (wait_answered (moment c now) o.call a (reads_of c))
answered_job now o (job.Ask k) a c = ask_answered k o a c
answered_job now o (job.Group lease) a c = group_answered o lease a c

abbrev pub or_lost : ℕ → OutCall → Core → Option Core → Core
or_lost now o c None = lost_call now o c
or_lost now o c (Some d) = d

abbrev pub heard_call : ℕ → OutCall → Option Answer → Core → Core
heard_call now o None c = lost_call now o c
heard_call now o (Some a) c = or_lost now o c (answered_job now o o.job a c)

abbrev pub answered_call : ℕ → OutCall → Answer → Core → Core
answered_call now o a c = heard_call now o (heard c.settings.namespace a) (answer_taken a c)

-- The two events. Each ends a call that is out.

abbrev pub call_gone : ℕ → Core → Core
call_gone call c = record c { out = without_out call c.out }

abbrev pub answer_of : ℕ → ℕ → Answer → Option OutCall → Core → Stepped
answer_of now call a None c = faults c (fault.NoSuchCall call)
answer_of now call a (Some o) c = noted (writes_go_on (answered_call now o a (call_gone call c)))

unfoldable pub on_answer : ℕ → ℕ → Answer → Core → Stepped
on_answer now call a c = answer_of now call a (out_at call c.out) c

abbrev pub loss_of : ℕ → ℕ → Option OutCall → Core → Stepped
loss_of now call None c = faults c (fault.NoSuchCall call)
loss_of now call (Some o) c = noted (writes_go_on (lost_call now o (call_gone call c)))

unfoldable pub on_lost : ℕ → ℕ → Core → Stepped
on_lost now call c = loss_of now call (out_at call c.out) c
