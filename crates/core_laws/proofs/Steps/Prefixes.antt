-- No step on ownership and reads changes the leasing prefix.
use Rattle.std.proofs.Common.{◌≡◌, ℕ, Bool, true, false, not, cond, ◌&&◌, ◌||◌, ◌==◌, List, [], ◌∷◌, map, Option, None, Some, is_some, refl, ◌∙◌}
use Rattle.etcd_types.specs.Keys.{same}
use Rattle.etcd_types.specs.declared.answer.Answer.{Answer}
use Rattle.etcd_types.specs.declared.answer.Answer.TheVariants as answer
use Rattle.etcd_types.specs.declared.code.TheConstants.{NOT_FOUND}
use Rattle.etcd_types.specs.declared.record.Header.{Header}
use Rattle.etcd_types.specs.declared.watch.Change.{Change}
use Rattle.etcd_types.specs.declared.watch.Change.TheVariants as change
use Rattle.etcd_types.specs.declared.watch.Event.{Event}
use Rattle.proxy_model.specs.declared.lease.Entry.{Entry}
use Rattle.proxy_model.specs.declared.ownership.Claim.{Claim}
use Rattle.proxy_model.specs.declared.ownership.Claim.TheVariants.{Acquired, OwnedBy}
use Rattle.proxy_model.specs.declared.ownership.Owner.{Owner}
use Rattle.proxy_model.specs.declared.ownership.Written.{Written}
use Rattle.proxy_model.specs.declared.ownership.Written.TheVariants.{Wrote, Blocked}
use Rattle.proxy_model.specs.Acquire.{claimed}
use Rattle.proxy_model.specs.Foreign.{revoke_word}
use Rattle.proxy_model.specs.Guarded.{written}
use Rattle.proxy_model.specs.Keyed.{at, with_at}
use Rattle.proxy_model.specs.Leaving.{guard_held}
use Rattle.wait_model.specs.declared.due.DueCall.{DueCall}
use Rattle.wait_model.specs.declared.wait.WaitJob.{WaitJob}
use Rattle.wait_model.specs.declared.wait.WaitJob.TheVariants as job
use Rattle.wait_model.specs.declared.write.Write.{Write}
use Rattle.wait_model.specs.Asked.{acquire_spoiled}
use Rattle.wait_model.specs.Covers.{is_single}
use Rattle.wait_model.specs.DueOrder.{first_call, first_rescind}
use Rattle.wait_model.specs.Endings.{revoke_back, revoke_answered, answered_job, without_out, answered, lost_job, lost, forgotten_by, forgotten}
use Rattle.wait_model.specs.GuardedAnswers.{Ending, failed, done_if, write_answered, write_lost}
use Rattle.wait_model.specs.Leaving.{rescinded, if_read, rescind_answered}
use Rattle.wait_model.specs.Notices.{owned_key, noticed, all_noticed, revoked_turn, put_noticed}
use Rattle.wait_model.specs.Phases.{is_of, is_session}
use Rattle.wait_model.specs.Sent.{JobSent, is_revoke, revoke_job, write_job, call_of, call_sent, job_sent_after, job_sent}
use Rattle.wait_model.specs.Stages.{is_owner}
use Rattle.wait_model.specs.State.{Ownership}
use Rattle.wait_model.specs.Writes.{first_by, sends, asks, job_of, has_ticket}
use Rattle.read_model.specs.declared.acquire.Acquire.{Acquire}
use Rattle.read_model.specs.declared.asked.Asked.{Asked}
use Rattle.read_model.specs.Acquires.{read_asked, acquire_gone, acquired, owned_by, AfterAcquire, done_by, acquire_refused, is_to_be_held, answered_acquire, acquire_answered, told_lost, acquire_lost}
use Rattle.read_model.specs.PlainRead.{ask_key, decision, begun_under, decided_ground}
use Rattle.read_model.specs.Release.{ask_stands, released_ground, released_from, released}
use Rattle.read_model.specs.SessionEnd.{over, dropped, session_over}
use Rattle.read_model.specs.State.{Reads, Moment, Ground, ground_of, on}
use Rattle.read_model.specs.TakingOff.{is_writes, forgotten_all, falls, taken_off}
use Rattle.read_model.specs.WriteAnswers.{ending, answered_by, wait_answered, wait_lost}

-- The same prefix.
abbrev pub Same : Ownership → Ownership → Type 0
Same own next = next.waits.prefix ≡ own.waits.prefix

abbrev SameIf : Ownership → Option Ending → Type 0
SameIf own None = Unit {0}
SameIf own (Some x) = Same own x.own

either : {A : Type 0} (P : A → Type 0) (b : Bool) (x y : A) → P x → P y → P (cond b x y)
either P true x y f g = f
either P false x y f g = g

-- Answers and losses of writes' calls.

failed_same : (session : Option ℕ) (p : Write → Bool) (w : Write) (os : List Owner) (own : Ownership) → Same own (failed session p w os own)
failed_same session p w os own = either (Same own) (is_owner w.stage && is_single w.request) _ _ refl refl

done_same : (session : Option ℕ) (p : Write → Bool) (w : Write) (o : Option Written) (own : Ownership) → SameIf own (done_if session p w o own)
done_same session p w None own = tt
done_same session p w (Some (Wrote reply)) own = refl
done_same session p w (Some (Blocked os)) own = failed_same session p w os own

write_same : (session : Option ℕ) (p : Write → Bool) (o : Option Write) (a : Answer) (own : Ownership) → SameIf own (write_answered session p o a own)
write_same session p None a own = refl
write_same session p (Some w) (answer.Done reply) own = done_same session p w (written own.waits.prefix w.request reply) own
write_same session p (Some w) (answer.Refused r) own = refl

back_same : (p : Write → Bool) (call : ℕ) (w : Write) (o : Option Bool) (own : Ownership) → SameIf own (revoke_back p call w o own)
back_same p call w None own = tt
back_same p call w (Some held) own = refl

revoke_same : (p : Write → Bool) (call : ℕ) (o : Option Write) (a : Answer) (own : Ownership) → SameIf own (revoke_answered p call o a own)
revoke_same p call None a own = refl
revoke_same p call (Some w) (answer.Done reply) own = back_same p call w (guard_held reply.body) own
revoke_same p call (Some w) (answer.Refused r) own = refl

rescinded_same : (k : List ℕ) (create now : ℕ) (own : Ownership) → Same own (rescinded k create now own)
rescinded_same k create now own = either (Same own) (is_of create (at own.entries k)) _ own refl refl

read_same : (o : Option Bool) (own next : Ownership) → Same own next → SameIf own (if_read o next)
read_same None own next h = tt
read_same (Some held) own next h = h

rescind_same : (a : Answer) (own next : Ownership) → Same own next → SameIf own (rescind_answered a next)
rescind_same (answer.Done reply) own next h = read_same (guard_held reply.body) own next h
rescind_same (answer.Refused r) own next h = h

job_same : (call : ℕ) (a : Answer) (session : Option ℕ) (now : ℕ) (o : Option WaitJob) (own : Ownership) → SameIf own (answered_job call a session now o own)
job_same call a session now None own = refl
job_same call a session now (Some (job.Rescind k create)) own = rescind_same a own (rescinded k create now own) (rescinded_same k create now own)
job_same call a session now (Some (job.Revoke k)) own = revoke_same (asks call) call (first_by (asks call) own.waits.writes) a own
job_same call a session now (Some job.Write) own = write_same session (sends call) (first_by (sends call) own.waits.writes) a own

outed : (call : ℕ) (own : Ownership) (o : Option Ending) → SameIf (without_out call own) o → SameIf own o
outed call own None h = h
outed call own (Some x) h = h

answered_same : (call : ℕ) (a : Answer) (session : Option ℕ) (now : ℕ) (own : Ownership) → SameIf own (answered call a session now own)
unfolding answered
answered_same call a session now own = outed call own (answered_job call a session now (job_of call own.waits.out) (without_out call own)) (job_same call a session now (job_of call own.waits.out) (without_out call own))

write_lost_same : (p : Write → Bool) (o : Option Write) (own : Ownership) → Same own (write_lost p o own).own
write_lost_same p None own = refl
write_lost_same p (Some w) own = refl

lost_job_same : (call : ℕ) (o : Option WaitJob) (own : Ownership) → Same own (lost_job call o own).own
lost_job_same call None own = refl
lost_job_same call (Some (job.Rescind k create)) own = refl
lost_job_same call (Some (job.Revoke k)) own = write_lost_same (asks call) (first_by (asks call) own.waits.writes) own
lost_job_same call (Some job.Write) own = write_lost_same (sends call) (first_by (sends call) own.waits.writes) own

lost_same : (call : ℕ) (own : Ownership) → Same own (lost call own).own
unfolding lost
lost_same call own = lost_job_same call (job_of call own.waits.out) (without_out call own)

-- Forgetting.

forgotten_by_same : (p : Write → Bool) (o : Option Write) (own : Ownership) → Same own (forgotten_by p o own)
forgotten_by_same p None own = refl
forgotten_by_same p (Some w) own = refl

forgotten_same : (ticket : ℕ) (own : Ownership) → Same own (forgotten ticket own)
unfolding forgotten
forgotten_same ticket own = forgotten_by_same (has_ticket ticket) (first_by (has_ticket ticket) own.waits.writes) own

forgotten_all_same : (p : Asked → Bool) (xs : List Asked) (own : Ownership) → Same own (forgotten_all p xs own)
forgotten_all_same p [] own = refl
forgotten_all_same p (a ∷ rest) own =
    forgotten_all_same p rest (cond (p a && is_writes a.stage) (forgotten a.ticket own) own)
    ∙ either (Same own) (p a && is_writes a.stage) (forgotten a.ticket own) own (forgotten_same a.ticket own) refl

-- Notices.

noticed_same : (session : Option ℕ) (c : Change) (own : Ownership) → Same own (noticed session c own)
noticed_same session (change.Put kv) own =
    either (Same own) (same kv.value revoke_word) (put_noticed session (owned_key own.waits.prefix kv.key) kv.create kv.lease own) own
    (put_same (owned_key own.waits.prefix kv.key)) refl
  where
    put_same : (k : List ℕ) → Same own (put_noticed session k kv.create kv.lease own)
    put_same k = either (Same own) (is_some (at own.waits.spoiled k)) (acquire_spoiled k own) (record own { entries = with_at own.entries k (revoked_turn session kv.create kv.lease (at own.entries k)) }) refl refl
noticed_same session (change.Delete k revision) own = refl

pub all_noticed_same : (session : Option ℕ) (es : List Event) (own : Ownership) → Same own (all_noticed session es own)
all_noticed_same session [] own = refl
all_noticed_same session (e ∷ es) own = all_noticed_same session es (noticed session e.change own) ∙ noticed_same session e.change own

-- Sendings.

abbrev pub SentSame : Ownership → Option JobSent → Type 0
SentSame own None = Unit {0}
SentSame own (Some x) = Same own x.own

call_of_same : (call : ℕ) (d : DueCall) (o : Option Write) (own : Ownership) → SentSame own (call_of call d o own)
call_of_same call d None own = tt
call_of_same call d (Some w) own = either (λ (x : JobSent). Same own x.own) (is_revoke d.place.kind) (revoke_job call d w own) (write_job call d w own) refl refl

call_sent_same : (call : ℕ) (o : Option DueCall) (own : Ownership) → SentSame own (call_sent call o own)
call_sent_same call None own = tt
call_sent_same call (Some d) own = call_of_same call d (first_by (has_ticket d.place.number) own.waits.writes) own

after_same : (call : ℕ) (o : Option (List ℕ × Entry)) (own : Ownership) → SentSame own (job_sent_after call o own)
after_same call None own = call_sent_same call (first_call own.waits.writes) own
after_same call (Some e) own = refl

pub sent_same : (call : ℕ) (own : Ownership) → SentSame own (job_sent call own)
unfolding job_sent
sent_same call own = after_same call (first_rescind own.entries) own

-- Reads.

begun_under_same : (ticket : ℕ) (k : List ℕ) (o : Option ℕ) (g : Ground) → Same g.own (begun_under ticket k o g).own
begun_under_same ticket k None g = refl
begun_under_same ticket k (Some n) g = refl

decided_same : (m : Moment) (g : Ground) (a : Asked) → Same g.own (decided_ground m g a).own
decided_same m g a = begun_under_same a.ticket (ask_key a) (decision m g (ask_key a)).under g

released_from_same : (again : Bool) (m : Moment) (g : Ground) (xs : List Asked) → Same g.own (released_from again m g xs).ground.own
unfolding released_from
released_from_same again m g [] = refl
released_from_same again m g (a ∷ rest) =
    released_from_same again m (released_ground again m g a) rest
    ∙ either (λ (h : Ground). Same g.own h.own) (ask_stands g a || not again) g (decided_ground m g a) refl (decided_same m g a)

released_same : (again : Bool) (m : Moment) (r : Reads) → Same r.own (released again m r).own
released_same again m r = released_from_same again m (ground_of r) r.asks

pub read_asked_same : (m : Moment) (a : Asked) (r : Reads) → Same r.own (read_asked m a r).own
read_asked_same m a r = decided_same m (ground_of r) a

pub session_over_same : (m : Moment) (r : Reads) → Same r.own (session_over m r).own
session_over_same m r = released_same false m (on (over (ground_of r)) r.asks)

pub taken_off_same : (m : Moment) (p : Asked → Bool) (xs : List Asked) (r : Reads) → Same r.own (taken_off m p xs r).own
taken_off_same m p xs r =
    released_same false m (on (dropped (falls p r) (record (ground_of r) { own = forgotten_all p r.asks r.own })) xs) ∙ forgotten_all_same p r.asks r.own

abbrev pub AfterSame : Ownership → Option AfterAcquire → Type 0
AfterSame own None = Unit {0}
AfterSame own (Some x) = Same own x.reads.own

acquire_done_same : (m : Moment) (k : List ℕ) (held : Bool) (h : Header) (c : Option Claim) (r : Reads) → AfterSame r.own (done_by m k held h c r)
acquire_done_same m k held h None r = tt
acquire_done_same m k held h (Some (Acquired create kv)) r = released_same held m (acquired m k held h create kv r)
acquire_done_same m k held h (Some (OwnedBy kv owner)) r = released_same false m (owned_by m k h kv owner r)

refused_same : (m : Moment) (k : List ℕ) (ends : Bool) (r : Reads) → Same r.own (acquire_refused m k ends r).reads.own
refused_same m k true r = session_over_same m (on (acquire_gone k (ground_of r)) r.asks)
refused_same m k false r = released_same false m (on (acquire_gone k (ground_of r)) r.asks)

answered_acquire_same : (m : Moment) (k : List ℕ) (o : Option Acquire) (a : Answer) (r : Reads) → AfterSame r.own (answered_acquire m k o a r)
answered_acquire_same m k None a r = refl
answered_acquire_same m k (Some c) (answer.Done reply) r = acquire_done_same m k (is_to_be_held m k c r) reply.header (claimed r.own.waits.prefix k reply) r
answered_acquire_same m k (Some c) (answer.Refused x) r = refused_same m k (is_session m.session c.session && (x.code == NOT_FOUND)) r

pub acquire_answered_same : (m : Moment) (k : List ℕ) (a : Answer) (r : Reads) → AfterSame r.own (acquire_answered m k a r)
acquire_answered_same m k a r = answered_acquire_same m k (at r.acquires k) a r

pub acquire_lost_same : (members : ℕ) (m : Moment) (k : List ℕ) (r : Reads) → Same r.own (acquire_lost members m k r).own
acquire_lost_same members m k r = released_same false m (on (acquire_gone k (ground_of r)) (map (told_lost members r.own.waits.step k) r.asks))

abbrev pub ReadsSame : Ownership → Option Reads → Type 0
ReadsSame own None = Unit {0}
ReadsSame own (Some r) = Same own r.own

answered_by_same : (m : Moment) (o : Option Ending) (r : Reads) → SameIf r.own o → ReadsSame r.own (answered_by m o r)
answered_by_same m None r h = tt
answered_by_same m (Some x) r h = released_same true m (ending x r) ∙ h

pub wait_answered_same : (m : Moment) (call : ℕ) (a : Answer) (r : Reads) → ReadsSame r.own (wait_answered m call a r)
wait_answered_same m call a r = answered_by_same m (answered call a m.session m.now r.own) r (answered_same call a m.session m.now r.own)

pub wait_lost_same : (m : Moment) (call : ℕ) (r : Reads) → Same r.own (wait_lost m call r).own
wait_lost_same m call r = released_same false m (ending (lost call r.own) r) ∙ lost_same call r.own
