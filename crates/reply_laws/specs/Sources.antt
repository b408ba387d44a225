-- Where an ok reply of a proxy comes from: an answer that is heard at this step, or what the proxy holds in the ground on which reads
-- are decided at this step. The store has no part in this; that what is held is what the store has is a law of its own.
use Rattle.std.specs.Prelude.{◌≡◌, ℕ, true, false, is_some, List, Option, None, Some}
use Rattle.std.specs.Option.{option_to_list}
use Rattle.etcd_types.specs.declared.answer.Answer.{Answer}
use Rattle.etcd_types.specs.declared.answer.Answer.TheVariants.{Done}
use Rattle.etcd_types.specs.declared.answer.Body.{Body}
use Rattle.etcd_types.specs.declared.answer.Reply.{Reply}
use Rattle.etcd_types.specs.declared.record.Header.{Header}
use Rattle.etcd_types.specs.declared.record.Kv.{Kv}
use Rattle.etcd_types.specs.declared.request.Request.{Request}
use Rattle.proxy_model.specs.declared.lease.Entry.{Entry}
use Rattle.proxy_model.specs.declared.lease.Phase.TheVariants.{Held}
use Rattle.proxy_model.specs.declared.ownership.Claim.{Claim}
use Rattle.proxy_model.specs.declared.ownership.Claim.TheVariants.{Acquired, OwnedBy}
use Rattle.proxy_model.specs.declared.ownership.Written.TheVariants.{Wrote}
use Rattle.proxy_model.specs.Acquire.{claimed}
use Rattle.proxy_model.specs.Guarded.{written}
use Rattle.proxy_model.specs.Keyed.{at}
use Rattle.proxy_model.specs.Snapshot.{plain_body}
use Rattle.wait_model.specs.declared.sending.Sending.TheVariants as sending
use Rattle.wait_model.specs.declared.write.Write.{Write}
use Rattle.wait_model.specs.Endings.{answered}
use Rattle.wait_model.specs.GuardedAnswers.{Ending}
use Rattle.wait_model.specs.Writes.{first_by, sends}
use Rattle.read_model.specs.declared.acquire.Acquire.{Acquire}
use Rattle.read_model.specs.declared.asked.Asked.{Asked}
use Rattle.read_model.specs.declared.asked.Stage.{Stage}
use Rattle.read_model.specs.declared.asked.Stage.TheVariants as stage
use Rattle.read_model.specs.declared.asked.Verdict.TheVariants as verdict
use Rattle.read_model.specs.Acquires.{won, acquire_gone, with_entry, is_to_be_held}
use Rattle.read_model.specs.PlainRead.{key_of, ask_key}
use Rattle.read_model.specs.State.{Ground, ground_of}
use Rattle.core_model.specs.declared.event.CoreEvent.{CoreEvent}
use Rattle.core_model.specs.declared.event.CoreEvent.TheVariants as event
use Rattle.core_model.specs.declared.out_call.CallKind.{CallKind}
use Rattle.core_model.specs.declared.out_call.OutCall.{OutCall}
use Rattle.core_model.specs.declared.out_call.OutJob.TheVariants as job
use Rattle.core_model.specs.Asking.{is_leased_read, held_body}
use Rattle.core_model.specs.ClockWork.{clock_work}
use Rattle.core_model.specs.Ends.{call_gone}
use Rattle.core_model.specs.Heard.{heard, answer_taken}
use Rattle.core_model.specs.Kinds.{writes_keys}
use Rattle.core_model.specs.Lookups.{leases, moment, reads_of, ask_at, live_number, out_at}
use Rattle.core_model.specs.Refusals.{refusal_of}
use Rattle.core_model.specs.State.{Core}
use Rattle.core_model.specs.Step.{stepped}
use Rattle.core_fits.specs.Fits.{is_reading}

-- Before the step.

-- the request was asked, and stood at this stage
pub record Stood (c : Core) (a : Asked) (s : Stage) : Type 0 where
  pub before : Asked
  pub there : ask_at a.ticket c.asks ≡ Some before
  pub request : before.request ≡ a.request
  pub stage : before.stage ≡ s

-- An answer is heard.

-- this call was out, it is answered at this step, and that is what is heard of it
pub record Hears (c : Core) (e : CoreEvent) (o : OutCall) (a : Answer) : Type 0 where
  pub answer : Answer
  pub event : e ≡ event.Answer o.call answer
  pub out : out_at o.call c.out ≡ Some o
  pub heard : heard c.settings.namespace answer ≡ Some a

-- what the answer meets: the clock's work is done, the call is out no more, and the answer's header is taken in
abbrev pub hearing : ℕ → ℕ → Answer → Core → Core
hearing now call answer c = answer_taken answer (call_gone call (clock_work now c))

abbrev pub claimed_record : Claim → Option Kv
claimed_record (Acquired create kv) = kv
claimed_record (OwnedBy kv owner) = kv

-- The ground on which waiting reads are decided again.

-- an acquire succeeded under the live session and wasn't spoiled: its key is held, with the record that came with the answer
pub record Wins (c : Core) (e : CoreEvent) (now : ℕ) (o : OutCall) (g : Ground) : Type 0 where
  pub reply : Reply
  pub hears : Hears c e o (Done reply)
  pub key : List ℕ
  pub job : o.job ≡ job.Acquire key
  pub acquire : Acquire
  pub stands : at (hearing now o.call hears.answer c).acquires key ≡ Some acquire
  pub held : is_to_be_held (moment (hearing now o.call hears.answer c) now) key acquire (reads_of (hearing now o.call hears.answer c)) ≡ true
  pub create : ℕ
  pub kv : Option Kv
  pub claimed : claimed (hearing now o.call hears.answer c).own.waits.prefix key reply ≡ Some (Acquired create kv)
  pub ground : g ≡ with_entry key (Some (won true create kv)) (acquire_gone key (ground_of (reads_of (hearing now o.call hears.answer c))))

-- a call of a write or of an entry was answered, and this is what stands then
pub record Settles (c : Core) (e : CoreEvent) (now : ℕ) (o : OutCall) (g : Ground) : Type 0 where
  pub heard : Answer
  pub hears : Hears c e o heard
  pub job : o.job ≡ job.Wait
  pub ending : Ending
  pub answered :
      answered o.call heard (live_number (hearing now o.call hears.answer c).seat now) now (hearing now o.call hears.answer c).own
      ≡ Some ending
  pub ground : g ≡ record { own = ending.own; acquires = (hearing now o.call hears.answer c).acquires }

pub data Decides (c : Core) (e : CoreEvent) (now : ℕ) (g : Ground) : Type 0 where
  wins : (o : OutCall) → Wins c e now o g → Decides c e now g
  settles : (o : OutCall) → Settles c e now o g → Decides c e now g

-- Sources.

-- what a plain read is answered
abbrev pub shows : Header → Option Kv → Reply
shows h kv = record { header = h; body = plain_body (option_to_list kv) }

-- the key is held, and the reply is its record under the cached header of the proxy after the step
pub record IsHeld (c : Core) (e : CoreEvent) (now : ℕ) (g : Ground) (key : List ℕ) (reply : Reply) : Type 0 where
  pub entry : Entry
  pub owned : at g.own.entries key ≡ Some entry
  pub held : entry.phase ≡ Held
  pub told : reply ≡ shows (stepped c e now).core.header entry.kv

-- of a request that stands ready after the step, with this ok reply
pub data Source (c : Core) (e : CoreEvent) (now : ℕ) (a : Asked) (reply : Reply) : Type 0 where
  -- it stood so before
  stood : Stood c a (stage.Replied (verdict.Said (Done reply))) → Source c e now a reply
  -- its own call is answered
  called : (o : OutCall) (kind : CallKind) → o.job ≡ job.Ask kind → Stood c a (stage.Calling (sending.Out o.call)) → Hears c e o (Done reply) → Source c e now a reply
  -- the acquire of its key, which is for it, is answered: the reply is the record that came with it
  acquired : (o : OutCall) (answer : Reply) (claim : Claim) → o.job ≡ job.Acquire (ask_key a) → Stood c a stage.Acquiring → Hears c e o (Done answer)
      → claimed (clock_work now c).own.waits.prefix (ask_key a) answer ≡ Some claim → reply ≡ shows answer.header (claimed_record claim) → Source c e now a reply
  -- it is a write, and its guarded call was answered as done
  wrote : (o : OutCall) (answer : Reply) (w : Write) → o.job ≡ job.Wait → Stood c a stage.Writes → Hears c e o (Done answer)
      → first_by (sends o.call) (clock_work now c).own.waits.writes ≡ Some w → w.ticket ≡ a.ticket
      → written (clock_work now c).own.waits.prefix w.request answer ≡ Some (Wrote reply) → Source c e now a reply
  -- it is a keepalive, and the call that it shares is answered
  shared : (o : OutCall) (lease : ℕ) → o.job ≡ job.Group lease → Stood c a (stage.Grouped (Some (sending.Out o.call))) → Hears c e o (Done reply) → Source c e now a reply
  -- it waited for its key, which is held on the ground on which it is decided again
  cached : (s : Stage) (g : Ground) → is_reading s ≡ true → Stood c a s → Decides c e now g → IsHeld c e now g (ask_key a) reply → Source c e now a reply

-- with leasing on, a request that isn't refused is asked at this step
pub record IsServed (c : Core) (e : CoreEvent) (now ticket : ℕ) (q : Request) : Type 0 where
  pub word : ℕ
  pub event : e ≡ event.Ask ticket q word
  pub leasing : leases (clock_work now c) ≡ true
  pub served : refusal_of (clock_work now c).own.waits.prefix q ≡ None

-- of an ok reply that the step itself gives
pub data Given (c : Core) (e : CoreEvent) (now : ℕ) (reply : Reply) : Type 0 where
  -- one that stood ready is taken
  taken : (a : Asked) → e ≡ event.Take a.ticket → ask_at a.ticket c.asks ≡ Some a → a.stage ≡ stage.Replied (verdict.Said (Done reply)) → Given c e now reply
  -- a plain read of a held key is asked
  held : (ticket : ℕ) (q : Request) → IsServed c e now ticket q → is_leased_read (clock_work now c).own.waits.prefix q ≡ true
      → IsHeld c e now (ground_of (reads_of (clock_work now c))) (key_of q) reply → Given c e now reply
  -- a transaction without writes is asked, and under the live session all of its keys are held
  snapshot : (ticket : ℕ) (q : Request) (body : Body) → IsServed c e now ticket q → writes_keys q ≡ false → is_some (live_number (clock_work now c).seat now) ≡ true
      → held_body (clock_work now c).own.entries q ≡ Some body → reply ≡ record { header = (stepped c e now).core.header; body = body } → Given c e now reply
