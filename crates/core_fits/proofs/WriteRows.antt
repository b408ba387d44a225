-- What a step makes of the writes: it changes the stage of each, or takes one out. So what holds of each whatever its stage lasts.
use Rattle.std.proofs.Common.{ℕ, ◌+◌, Bool, false, not, ◌||◌, ◌&&◌, cond, List, [], ◌∷◌, map, Option, None, Some, is_some}
use Rattle.std.specs.List.{list_any}
use Rattle.etcd_types.specs.Keys.{same}
use Rattle.etcd_types.specs.declared.answer.Answer.{Answer}
use Rattle.etcd_types.specs.declared.answer.Answer.TheVariants as answer
use Rattle.etcd_types.specs.declared.watch.Change.{Change}
use Rattle.etcd_types.specs.declared.watch.Change.TheVariants as change
use Rattle.etcd_types.specs.declared.watch.Event.{Event}
use Rattle.proxy_model.specs.declared.lease.Entry.{Entry}
use Rattle.proxy_model.specs.declared.ownership.Written.{Written}
use Rattle.proxy_model.specs.declared.ownership.Written.TheVariants.{Wrote, Blocked}
use Rattle.proxy_model.specs.Foreign.{revoke_word}
use Rattle.proxy_model.specs.Guarded.{written}
use Rattle.proxy_model.specs.Keyed.{Keyed, at, with_at}
use Rattle.proxy_model.specs.Leaving.{guard_held}
use Rattle.proxy_model.specs.Limits.{capped}
use Rattle.wait_model.specs.declared.due.DueCall.{DueCall}
use Rattle.wait_model.specs.declared.sending.Sending.TheVariants as sending
use Rattle.wait_model.specs.declared.wait.WaitJob.{WaitJob}
use Rattle.wait_model.specs.declared.wait.WaitJob.TheVariants as job
use Rattle.wait_model.specs.declared.write.Write.{Write}
use Rattle.wait_model.specs.declared.write.WriteStage.{WriteStage}
use Rattle.wait_model.specs.declared.write.WriteStage.TheVariants.{Sends}
use Rattle.wait_model.specs.Asked.{acquire_spoiled}
use Rattle.wait_model.specs.Covers.{shares, is_by_keys, is_single}
use Rattle.wait_model.specs.DueOrder.{first_call, first_rescind}
use Rattle.wait_model.specs.Edits.{each, without}
use Rattle.wait_model.specs.Endings.{answered, answered_job, lost, lost_job, forgotten, forgotten_by, revoke_answered, revoke_back, without_out}
use Rattle.wait_model.specs.ForeignOwnership.{by_key, finding, stage_gone}
use Rattle.wait_model.specs.GuardedAnswers.{Ending, owns_at, other_owners, kept_entries, done_if, write_answered, write_lost, staged_by}
use Rattle.wait_model.specs.Leaving.{rest, rescinded, if_read, rescind_answered}
use Rattle.wait_model.specs.Notices.{owned_key, put_noticed, noticed, all_noticed, revoked_turn}
use Rattle.wait_model.specs.Passes.{goes, turn, passed}
use Rattle.wait_model.specs.Phases.{is_of, is_leaving}
use Rattle.wait_model.specs.Sent.{JobSent, is_revoke, revoke_job, write_job, call_of, call_sent, job_sent_after, job_sent}
use Rattle.wait_model.specs.SeveralKeys.{any_covered, by_ranges, given_up_over, spoiled_over}
use Rattle.wait_model.specs.SingleKeys.{Turn, any_key, keys_begun, by_keys, let_go_leased, begun_over}
use Rattle.wait_model.specs.Stages.{staged, gone_on, is_owner, is_waiting, stage_on}
use Rattle.wait_model.specs.State.{Ownership}
use Rattle.wait_model.specs.Writes.{first_by, without_first, with_first, has_ticket, sends, asks, job_of}
use Rattle.core_laws.proofs.Steps.Comes.{by_test}
use Rattle.core_fits.specs.Fits.{EachOf}

-- whatever its stage
abbrev pub Stays : (Write → Type 0) → Type 0
Stays W = (w : Write) (s : WriteStage) → W w → W (staged w s)

abbrev pub OwnHas : (Write → Type 0) → Ownership → Type 0
OwnHas W own = EachOf W own.waits.writes

abbrev pub EndHas : (Write → Type 0) → Option Ending → Type 0
EndHas W None = Unit {0}
EndHas W (Some x) = OwnHas W x.own

abbrev pub SentHas : (Write → Type 0) → Option JobSent → Type 0
SentHas W None = Unit {0}
SentHas W (Some x) = OwnHas W x.own

either : {A : Type 0} (P : A → Type 0) (b : Bool) (x y : A) → P x → P y → P (cond b x y)
either P b x y h i = by_test P b x y (λ t. h) (λ t. i)

-- Lists.

with_first_has : (W : Write → Type 0) → Stays W → (p : Write → Bool) (s : WriteStage) (ws : List Write) → EachOf W ws → EachOf W (with_first p s ws)
with_first_has W l p s [] h = h
with_first_has W l p s (w ∷ ws) h = either (EachOf W) (p w) (staged w s ∷ ws) (w ∷ with_first p s ws) (l w s h.0, h.1) (h.0, with_first_has W l p s ws h.1)

without_first_has : (W : Write → Type 0) (p : Write → Bool) (ws : List Write) → EachOf W ws → EachOf W (without_first p ws)
without_first_has W p [] h = h
without_first_has W p (w ∷ ws) h = either (EachOf W) (p w) ws (w ∷ without_first p ws) h.1 (h.0, without_first_has W p ws h.1)

pub staged_has : (W : Write → Type 0) → Stays W → (g : Write → WriteStage) (ws : List Write) → EachOf W ws → EachOf W (map (λ w. staged w (g w)) ws)
staged_has W l g [] h = h
staged_has W l g (w ∷ ws) h = (l w (g w) h.0, staged_has W l g ws h.1)

-- A pass.

keys_has : (W : Write → Type 0) → Stays W → (step : ℕ) (es : Keyed Entry) (ss : Keyed Bool) (w : Write) → W w → W (keys_begun step es ss w).write
keys_has W l step es ss w h =
    let owner = any_key w (λ k. is_some (at es k)) in
    either (λ (t : Turn). W t.write) (any_key w (λ k. is_leaving (at es k))) (record { entries = es; spoiled = ss; write = w }) (record { entries = each (begun_over w) es; spoiled = ss; write = gone_on step owner w }) h (l w (Sends owner (sending.Due step)) h)

by_keys_has : (W : Write → Type 0) → Stays W → (step : ℕ) (es : Keyed Entry) (ss : Keyed Bool) (w : Write) → W w → W (by_keys step es ss w).write
by_keys_has W l step es ss w h =
    either (λ (t : Turn). W t.write) (any_key w (λ k. is_some (at ss k))) (record { entries = es; spoiled = ss; write = w }) (keys_begun step (each (let_go_leased w) es) ss w) h (keys_has W l step (each (let_go_leased w) es) ss w h)

by_ranges_has : (W : Write → Type 0) → Stays W → (step : ℕ) (es : Keyed Entry) (ss : Keyed Bool) (w : Write) → W w → W (by_ranges step es ss w).write
by_ranges_has W l step es ss w h =
    either W (any_covered w (each (given_up_over w) es) || any_covered w (each (spoiled_over w) ss)) w (gone_on step false w) h (l w (Sends false (sending.Due step)) h)

turn_has : (W : Write → Type 0) → Stays W → (step : ℕ) (earlier : List Write) (es : Keyed Entry) (ss : Keyed Bool) (w : Write) → W w → W (turn step earlier es ss w).write
turn_has W l step earlier es ss w h =
    let v = staged w (stage_on w.stage) in
    let k = l w (stage_on w.stage) h in
    either (λ (t : Turn). W t.write) (is_waiting v.stage && not (list_any (shares w) earlier)) (goes step es ss v) (record { entries = es; spoiled = ss; write = v })
    (either (λ (t : Turn). W t.write) (is_by_keys v) (by_keys step es ss v) (by_ranges step es ss v) (by_keys_has W l step es ss v k) (by_ranges_has W l step es ss v k)) k

pub passed_has : (W : Write → Type 0) → Stays W → (step : ℕ) (earlier : List Write) (es : Keyed Entry) (ss : Keyed Bool) (ws : List Write) → EachOf W ws → EachOf W (passed step earlier es ss ws).writes
unfolding passed
passed_has W l step earlier es ss [] h = h
passed_has W l step earlier es ss (w ∷ ws) h =
    let t = turn step earlier es ss w in
    (turn_has W l step earlier es ss w h.0, passed_has W l step (t.write ∷ earlier) t.entries t.spoiled ws h.1)

-- Answers.

read_has : (W : Write → Type 0) (o : Option Bool) (own : Ownership) → OwnHas W own → EndHas W (if_read o own)
read_has W None own h = tt
read_has W (Some held) own h = h

rescind_has : (W : Write → Type 0) (a : Answer) (own : Ownership) → OwnHas W own → EndHas W (rescind_answered a own)
rescind_has W (answer.Done reply) own h = read_has W (guard_held reply.body) own h
rescind_has W (answer.Refused r) own h = h

rescinded_has : (W : Write → Type 0) (k : List ℕ) (create now : ℕ) (own : Ownership) → OwnHas W own → OwnHas W (rescinded k create now own)
rescinded_has W k create now own h =
    either (OwnHas W) (is_of create (at own.entries k)) (record { entries = with_at own.entries k None; waits = record own.waits { quiet = with_at own.waits.quiet k (Some (capped (now + rest))) } }) own h h

back_has : (W : Write → Type 0) → Stays W → (p : Write → Bool) (call : ℕ) (w : Write) (o : Option Bool) (own : Ownership) → OwnHas W own → EndHas W (revoke_back p call w o own)
back_has W l p call w None own h = tt
back_has W l p call w (Some held) own h = with_first_has W l p _ own.waits.writes h

revoke_has : (W : Write → Type 0) → Stays W → (p : Write → Bool) (call : ℕ) (o : Option Write) (a : Answer) (own : Ownership) → OwnHas W own → EndHas W (revoke_answered p call o a own)
revoke_has W l p call None a own h = h
revoke_has W l p call (Some w) (answer.Done reply) own h = back_has W l p call w (guard_held reply.body) own h
revoke_has W l p call (Some w) (answer.Refused r) own h = without_first_has W p own.waits.writes h

done_has : (W : Write → Type 0) → Stays W → (session : Option ℕ) (p : Write → Bool) (w : Write) (o : Option Written) (own : Ownership) → OwnHas W own → EndHas W (done_if session p w o own)
done_has W l session p w None own h = tt
done_has W l session p w (Some (Wrote reply)) own h = without_first_has W p own.waits.writes h
done_has W l session p w (Some (Blocked os)) own h =
    either (OwnHas W) (is_owner w.stage && is_single w.request)
    (staged_by own (without (owns_at w own.entries) own.entries) p (Sends false (sending.Due own.waits.step)))
    (finding session p (by_key [] (other_owners w own.entries os)) own (kept_entries w os own.entries))
    (with_first_has W l p _ own.waits.writes h) (with_first_has W l p _ own.waits.writes h)

write_has : (W : Write → Type 0) → Stays W → (session : Option ℕ) (p : Write → Bool) (o : Option Write) (a : Answer) (own : Ownership) → OwnHas W own → EndHas W (write_answered session p o a own)
write_has W l session p None a own h = h
write_has W l session p (Some w) (answer.Done reply) own h = done_has W l session p w (written own.waits.prefix w.request reply) own h
write_has W l session p (Some w) (answer.Refused r) own h = without_first_has W p own.waits.writes h

job_has : (W : Write → Type 0) → Stays W → (call : ℕ) (a : Answer) (session : Option ℕ) (now : ℕ) (o : Option WaitJob) (own : Ownership) → OwnHas W own → EndHas W (answered_job call a session now o own)
job_has W l call a session now None own h = h
job_has W l call a session now (Some (job.Rescind k create)) own h = rescind_has W a (rescinded k create now own) (rescinded_has W k create now own h)
job_has W l call a session now (Some (job.Revoke k)) own h = revoke_has W l (asks call) call (first_by (asks call) own.waits.writes) a own h
job_has W l call a session now (Some job.Write) own h = write_has W l session (sends call) (first_by (sends call) own.waits.writes) a own h

pub answered_has : (W : Write → Type 0) → Stays W → (call : ℕ) (a : Answer) (session : Option ℕ) (now : ℕ) (own : Ownership) → OwnHas W own → EndHas W (answered call a session now own)
unfolding answered
answered_has W l call a session now own h = job_has W l call a session now (job_of call own.waits.out) (without_out call own) h

-- Losses, and what is forgotten.

loss_has : (W : Write → Type 0) (p : Write → Bool) (o : Option Write) (own : Ownership) → OwnHas W own → OwnHas W (write_lost p o own).own
loss_has W p None own h = h
loss_has W p (Some w) own h = without_first_has W p own.waits.writes h

lost_job_has : (W : Write → Type 0) (call : ℕ) (o : Option WaitJob) (own : Ownership) → OwnHas W own → OwnHas W (lost_job call o own).own
lost_job_has W call None own h = h
lost_job_has W call (Some (job.Rescind k create)) own h = h
lost_job_has W call (Some (job.Revoke k)) own h = loss_has W (asks call) (first_by (asks call) own.waits.writes) own h
lost_job_has W call (Some job.Write) own h = loss_has W (sends call) (first_by (sends call) own.waits.writes) own h

pub lost_has : (W : Write → Type 0) (call : ℕ) (own : Ownership) → OwnHas W own → OwnHas W (lost call own).own
unfolding lost
lost_has W call own h = lost_job_has W call (job_of call own.waits.out) (without_out call own) h

forget_has : (W : Write → Type 0) (p : Write → Bool) (o : Option Write) (own : Ownership) → OwnHas W own → OwnHas W (forgotten_by p o own)
forget_has W p None own h = h
forget_has W p (Some w) own h = without_first_has W p own.waits.writes h

pub forgotten_has : (W : Write → Type 0) (ticket : ℕ) (own : Ownership) → OwnHas W own → OwnHas W (forgotten ticket own)
unfolding forgotten
forgotten_has W ticket own h = forget_has W (has_ticket ticket) (first_by (has_ticket ticket) own.waits.writes) own h

-- Notices.

put_has : (W : Write → Type 0) (session : Option ℕ) (k : List ℕ) (create lease : ℕ) (own : Ownership) → OwnHas W own → OwnHas W (put_noticed session k create lease own)
put_has W session k create lease own h =
    either (OwnHas W) (is_some (at own.waits.spoiled k)) (acquire_spoiled k own) (record own { entries = with_at own.entries k (revoked_turn session create lease (at own.entries k)) }) h h

notice_has : (W : Write → Type 0) → Stays W → (session : Option ℕ) (c : Change) (own : Ownership) → OwnHas W own → OwnHas W (noticed session c own)
notice_has W l session (change.Put kv) own h =
    either (OwnHas W) (same kv.value revoke_word) (put_noticed session (owned_key own.waits.prefix kv.key) kv.create kv.lease own) own (put_has W session (owned_key own.waits.prefix kv.key) kv.create kv.lease own h) h
notice_has W l session (change.Delete k revision) own h = staged_has W l (λ w. stage_gone (same (owned_key own.waits.prefix k)) w.stage) own.waits.writes h

pub message_has : (W : Write → Type 0) → Stays W → (session : Option ℕ) (events : List Event) (own : Ownership) → OwnHas W own → OwnHas W (all_noticed session events own)
message_has W l session [] own h = h
message_has W l session (e ∷ es) own h = message_has W l session es (noticed session e.change own) (notice_has W l session e.change own h)

-- Sendings.

call_has : (W : Write → Type 0) → Stays W → (call : ℕ) (d : DueCall) (o : Option Write) (own : Ownership) → OwnHas W own → SentHas W (call_of call d o own)
call_has W l call d None own h = tt
call_has W l call d (Some w) own h =
    either (λ (s : JobSent). OwnHas W s.own) (is_revoke d.place.kind) (revoke_job call d w own) (write_job call d w own) (with_first_has W l (has_ticket d.place.number) _ own.waits.writes h) (with_first_has W l (has_ticket d.place.number) _ own.waits.writes h)

calls_has : (W : Write → Type 0) → Stays W → (call : ℕ) (o : Option DueCall) (own : Ownership) → OwnHas W own → SentHas W (call_sent call o own)
calls_has W l call None own h = tt
calls_has W l call (Some d) own h = call_has W l call d (first_by (has_ticket d.place.number) own.waits.writes) own h

after_has : (W : Write → Type 0) → Stays W → (call : ℕ) (o : Option (List ℕ × Entry)) (own : Ownership) → OwnHas W own → SentHas W (job_sent_after call o own)
after_has W l call None own h = calls_has W l call (first_call own.waits.writes) own h
after_has W l call (Some e) own h = h

pub job_sent_has : (W : Write → Type 0) → Stays W → (call : ℕ) (own : Ownership) → OwnHas W own → SentHas W (job_sent call own)
unfolding job_sent
job_sent_has W l call own h = after_has W l call (first_rescind own.entries) own h
