-- An answer to a call of a waiting write, or to a rescind, in two halves: what it says, by what the call is about; and what is done
-- by that.
use Rattle.std.specs.Prelude.{◌≡◌, ℕ, List, Option, None, Some, Result, Ok, Err, Bool}
use Rattle.std.specs.Option.{option_map}
use Rattle.etcd_types.specs.declared.answer.Answer.{Answer}
use Rattle.etcd_types.specs.declared.answer.Answer.TheVariants as answer
use Rattle.lease_txn.specs.declared.not_shape.NotShape.{NotShape}
use Rattle.lease_txn.specs.declared.not_shape.NotShape.TheVariants.{Shape, NoMemory}
use Rattle.proxy_model.specs.declared.lease.Entry.{Entry}
use Rattle.proxy_model.specs.declared.ownership.Owner.{Owner}
use Rattle.proxy_model.specs.declared.ownership.Written.{Written}
use Rattle.proxy_model.specs.declared.ownership.Written.TheVariants.{Wrote, Blocked}
use Rattle.proxy_model.specs.Guarded.{written}
use Rattle.proxy_model.specs.Keyed.{Keyed}
use Rattle.proxy_model.specs.Leaving.{guard_held}
use Rattle.wait_model.specs.declared.wait.Settled.{Settled}
use Rattle.wait_model.specs.declared.wait.Settled.TheVariants as settled
use Rattle.wait_model.specs.declared.wait.WaitJob.{WaitJob}
use Rattle.wait_model.specs.declared.wait.WaitJob.TheVariants as job
use Rattle.wait_model.specs.declared.write.Write.{Write}
use Rattle.wait_model.specs.ForeignOwnership.{stage_asked}
use Rattle.wait_model.specs.GuardedAnswers.{Ending}
use Rattle.wait_model.specs.State.{Ownership}
use Rattle.wait_model.specs.Writes.{first_by, without_first, with_first, sends, asks, without_call}
use Rattle.revoke_calls.specs.declared.entries.Fate.TheVariants.{Back}
use Rattle.revoke_calls.specs.Ends.{lefts_of, all_wrote}
use Rattle.revoke_calls.specs.Failed.{failed_stage, failed_entries}
use Rattle.revoke_core.specs.declared.answers.ReadAnswer.{ReadAnswer}
use Rattle.revoke_core.specs.declared.answers.ReadAnswer.TheVariants as read
use Rattle.revoke_core.specs.Answers.{guard_told, rescinded_entries, rescinded_quiet}
use Rattle.revoke_core.specs.Steps.{settled_if}

-- What it says; nothing, where it can't be an answer to the call.

abbrev pub rescind_read : List ℕ → ℕ → Answer → Option ReadAnswer
rescind_read k create a = option_map (λ held. read.Rescinded k create) (guard_told a)

abbrev pub asked_read : Answer → Option ReadAnswer
asked_read (answer.Done reply) = option_map (λ held. read.Asked held) (guard_held reply.body)
asked_read (answer.Refused r) = Some (read.AskRefused r)

abbrev pub revoke_read : Answer → Option Write → Option ReadAnswer
revoke_read a None = Some read.Nothing
revoke_read a (Some w) = asked_read a

abbrev pub done_read : Write → Keyed Entry → Written → ReadAnswer
done_read w es (Wrote reply) = read.Wrote reply (lefts_of w reply es)
done_read w es (Blocked os) = read.Blocked os

abbrev pub own_read : List ℕ → Keyed Entry → Write → Answer → Option ReadAnswer
own_read prefix es w (answer.Done reply) = option_map (done_read w es) (written prefix w.request reply)
own_read prefix es w (answer.Refused r) = Some (read.Refused r)

abbrev pub write_read : List ℕ → Answer → Keyed Entry → Option Write → Option ReadAnswer
write_read prefix a es None = Some read.Nothing
write_read prefix a es (Some w) = own_read prefix es w a

abbrev pub job_read : List ℕ → ℕ → Answer → Option WaitJob → List Write → Keyed Entry → Option ReadAnswer
job_read prefix call a None ws es = Some read.Nothing
job_read prefix call a (Some (job.Rescind k create)) ws es = rescind_read k create a
job_read prefix call a (Some (job.Revoke k)) ws es = revoke_read a (first_by (asks call) ws)
job_read prefix call a (Some job.Write) ws es = write_read prefix a es (first_by (sends call) ws)

-- What is done by it, part by part.

-- the client of the write that is over has this answer
abbrev pub replied : Answer → Option Write → Settled
replied a None = settled.Nothing
replied a (Some w) = settled.Reply w.ticket a

abbrev pub asked_writes : ℕ → Bool → Option Write → List Write → List Write
asked_writes call held None ws = ws
asked_writes call held (Some w) ws = with_first (asks call) (stage_asked call held w.stage) ws

abbrev pub failed_writes : Option ℕ → ℕ → ℕ → List Owner → Keyed Entry → Option Write → List Write → List Write
failed_writes session step call os es None ws = ws
failed_writes session step call os es (Some w) ws = with_first (sends call) (failed_stage session step w os es) ws

abbrev pub failed_if : Option ℕ → List Owner → Option Write → Keyed Entry → Keyed Entry
failed_if session os None es = es
failed_if session os (Some w) es = failed_entries session w os es

abbrev pub read_writes : Option ℕ → ℕ → ℕ → ReadAnswer → Keyed Entry → List Write → List Write
read_writes session step call read.Nothing es ws = ws
read_writes session step call (read.Rescinded k create) es ws = ws
read_writes session step call (read.Asked held) es ws = asked_writes call held (first_by (asks call) ws) ws
read_writes session step call (read.AskRefused r) es ws = without_first (asks call) ws
read_writes session step call (read.Refused r) es ws = without_first (sends call) ws
read_writes session step call (read.Wrote reply lefts) es ws = without_first (sends call) ws
read_writes session step call (read.Blocked os) es ws = failed_writes session step call os es (first_by (sends call) ws) ws

-- the entries then, by the write whose own call it was
abbrev pub read_entries : Option ℕ → ReadAnswer → Option Write → Keyed Entry → Keyed Entry
read_entries session read.Nothing o es = es
read_entries session (read.Rescinded k create) o es = rescinded_entries k create es
read_entries session (read.Asked held) o es = es
read_entries session (read.AskRefused r) o es = es
read_entries session (read.Refused r) o es = settled_if Back o es
read_entries session (read.Wrote reply lefts) o es = all_wrote lefts es
read_entries session (read.Blocked os) o es = failed_if session os o es

abbrev pub read_quiet : ℕ → ReadAnswer → Keyed Entry → Keyed ℕ → Keyed ℕ
read_quiet now read.Nothing es qs = qs
read_quiet now (read.Rescinded k create) es qs = rescinded_quiet k create now es qs
read_quiet now (read.Asked held) es qs = qs
read_quiet now (read.AskRefused r) es qs = qs
read_quiet now (read.Refused r) es qs = qs
read_quiet now (read.Wrote reply lefts) es qs = qs
read_quiet now (read.Blocked os) es qs = qs

abbrev pub read_settled : ℕ → ReadAnswer → List Write → Settled
read_settled call read.Nothing ws = settled.Nothing
read_settled call (read.Rescinded k create) ws = settled.Nothing
read_settled call (read.Asked held) ws = settled.Nothing
read_settled call (read.AskRefused r) ws = replied (answer.Refused r) (first_by (asks call) ws)
read_settled call (read.Refused r) ws = replied (answer.Refused r) (first_by (sends call) ws)
read_settled call (read.Wrote reply lefts) ws = replied (answer.Done reply) (first_by (sends call) ws)
read_settled call (read.Blocked os) ws = settled.Nothing

-- `session` is the number of the live session, and `now` the clock's reading
abbrev pub taken : ℕ → ReadAnswer → Option ℕ → ℕ → Ownership → Ending
taken call r session now own =
    record {
      own = record {
        entries = read_entries session r (first_by (sends call) own.waits.writes) own.entries;
        waits = record own.waits {
          writes = read_writes session own.waits.step call r own.entries own.waits.writes;
          quiet = read_quiet now r own.entries own.waits.quiet;
          out = without_call call own.waits.out;
        };
      };
      settled = read_settled call r own.waits.writes;
    }

-- what was read does what the answer does; `Shape` exactly where the answer can't be one to the call; or memory was wanting
abbrev pub IsRead : Result ReadAnswer NotShape → (ReadAnswer → Ending) → Option Ending → Type 0
IsRead (Ok r) does ending = ending ≡ Some (does r)
IsRead (Err Shape) does ending = ending ≡ None
IsRead (Err NoMemory) does ending = Unit {0}
