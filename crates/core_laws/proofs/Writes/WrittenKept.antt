-- Every step keeps the ranges of each write those that its request writes: it changes the stage of a write, or takes one out.
use Rattle.std.proofs.Common.{◌≡◌, ℕ, ◌+◌, Bool, true, false, not, ◌||◌, ◌&&◌, cond, List, [], ◌∷◌, ◌++◌, map, Option, None, Some, is_some, refl}
use Rattle.std.specs.List.{list_any}
use Rattle.etcd_types.specs.Keys.{same}
use Rattle.etcd_types.specs.declared.answer.Answer.{Answer}
use Rattle.etcd_types.specs.declared.answer.Answer.TheVariants as answer
use Rattle.etcd_types.specs.declared.request.Request.{Request}
use Rattle.etcd_types.specs.declared.watch.Change.{Change}
use Rattle.etcd_types.specs.declared.watch.Change.TheVariants as change
use Rattle.etcd_types.specs.declared.watch.Event.{Event}
use Rattle.proxy_model.specs.declared.lease.Entry.{Entry}
use Rattle.proxy_model.specs.declared.ownership.Written.{Written}
use Rattle.proxy_model.specs.declared.ownership.Written.TheVariants.{Wrote, Blocked}
use Rattle.proxy_model.specs.Foreign.{revoke_word}
use Rattle.proxy_model.specs.Guarded.{written}
use Rattle.proxy_model.specs.Keyed.{Keyed, at, with_at}
use Rattle.proxy_model.specs.Leaving.{guard_held}
use Rattle.proxy_model.specs.Limits.{capped}
use Rattle.proxy_model.specs.SeveralKeys.{written_ranges}
use Rattle.wait_model.specs.declared.due.DueCall.{DueCall}
use Rattle.wait_model.specs.declared.sending.Sending.TheVariants as sending
use Rattle.wait_model.specs.declared.wait.WaitJob.{WaitJob}
use Rattle.wait_model.specs.declared.wait.WaitJob.TheVariants as job
use Rattle.wait_model.specs.declared.write.Write.{Write}
use Rattle.wait_model.specs.declared.write.WriteStage.{WriteStage}
use Rattle.wait_model.specs.declared.write.WriteStage.TheVariants.{Sends}
use Rattle.wait_model.specs.Asked.{new_write, acquire_spoiled}
use Rattle.wait_model.specs.Covers.{shares, is_by_keys, is_single}
use Rattle.wait_model.specs.DueOrder.{first_call, first_rescind}
use Rattle.wait_model.specs.Edits.{each, without}
use Rattle.wait_model.specs.Endings.{answered, answered_job, lost, lost_job, forgotten, forgotten_by, revoke_answered, revoke_back, without_out}
use Rattle.wait_model.specs.Fits.{Fits}
use Rattle.wait_model.specs.ForeignOwnership.{by_key, finding, write_gone, stage_gone}
use Rattle.wait_model.specs.GuardedAnswers.{Ending, owns_at, other_owners, kept_entries, failed, done_if, write_answered, write_lost, staged_by}
use Rattle.wait_model.specs.Leaving.{rest, rescinded, if_read, rescind_answered}
use Rattle.wait_model.specs.Notices.{owned_key, put_noticed, noticed, all_noticed, revoked_turn}
use Rattle.wait_model.specs.Passes.{goes, turn, passed}
use Rattle.wait_model.specs.Phases.{is_of, is_leaving}
use Rattle.wait_model.specs.Sent.{is_revoke, revoke_job, write_job, call_of, call_sent, job_sent_after, job_sent}
use Rattle.wait_model.specs.SessionEnd.{stage_ended}
use Rattle.wait_model.specs.SeveralKeys.{any_covered, by_ranges, given_up_over, spoiled_over}
use Rattle.wait_model.specs.SingleKeys.{Turn, any_key, keys_begun, by_keys, let_go_leased, begun_over}
use Rattle.wait_model.specs.Stages.{staged, gone_on, is_owner, is_waiting, stage_on}
use Rattle.wait_model.specs.State.{Ownership}
use Rattle.wait_model.specs.Writes.{first_by, without_first, with_first, has_ticket, sends, asks, job_of}
use Rattle.core_laws.specs.Writes.Laws.{AreWritten, OwnersCovered, KeptIf}
use Rattle.core_laws.specs.Writes.Written.{IsWritten, EndsWritten, SentWritten, WrittenOk, RangesStay, ShowsBytes, AnswersKeepWritten}
use Rattle.core_laws.proofs.Writes.Kept.{answers_keep}
use Rattle.core_laws.proofs.Writes.OwnersShown.{owners_are_covered}

either : {A : Type 0} (P : A → Type 0) (b : Bool) (x y : A) → P x → P y → P (cond b x y)
either P true x y h i = h
either P false x y h i = i

-- Lists.

in_append : (ws vs : List Write) → AreWritten ws → AreWritten vs → AreWritten (ws ++ vs)
in_append [] vs h i = i
in_append (w ∷ ws) vs h i = (h.0, in_append ws vs h.1 i)

in_first : (p : Write → Bool) (stage : WriteStage) (ws : List Write) → AreWritten ws → AreWritten (with_first p stage ws)
in_first p stage [] h = h
in_first p stage (w ∷ ws) h = either AreWritten (p w) (staged w stage ∷ ws) (w ∷ with_first p stage ws) h (h.0, in_first p stage ws h.1)

in_rest : (p : Write → Bool) (ws : List Write) → AreWritten ws → AreWritten (without_first p ws)
in_rest p [] h = h
in_rest p (w ∷ ws) h = either AreWritten (p w) ws (w ∷ without_first p ws) h.1 (h.0, in_rest p ws h.1)

in_each : (g : Write → WriteStage) (ws : List Write) → AreWritten ws → AreWritten (map (λ w. staged w (g w)) ws)
in_each g [] h = h
in_each g (w ∷ ws) h = (h.0, in_each g ws h.1)

-- A pass.

abbrev One : Write → Type 0
One w = w.ranges ≡ written_ranges w.request

abbrev OneTurn : Turn → Type 0
OneTurn t = One t.write

keys_kept : (step : ℕ) (es : Keyed Entry) (ss : Keyed Bool) (w : Write) → One w → OneTurn (keys_begun step es ss w)
keys_kept step es ss w h =
    either OneTurn (any_key w (λ k. is_leaving (at es k))) (record { entries = es; spoiled = ss; write = w }) (record { entries = each (begun_over w) es; spoiled = ss; write = gone_on step (any_key w (λ k. is_some (at es k))) w }) h h

by_keys_kept : (step : ℕ) (es : Keyed Entry) (ss : Keyed Bool) (w : Write) → One w → OneTurn (by_keys step es ss w)
by_keys_kept step es ss w h =
    either OneTurn (any_key w (λ k. is_some (at ss k))) (record { entries = es; spoiled = ss; write = w }) (keys_begun step (each (let_go_leased w) es) ss w) h (keys_kept step (each (let_go_leased w) es) ss w h)

by_ranges_kept : (step : ℕ) (es : Keyed Entry) (ss : Keyed Bool) (w : Write) → One w → OneTurn (by_ranges step es ss w)
by_ranges_kept step es ss w h =
    either One (any_covered w (each (given_up_over w) es) || any_covered w (each (spoiled_over w) ss)) w (gone_on step false w) h h

turn_kept : (step : ℕ) (earlier : List Write) (es : Keyed Entry) (ss : Keyed Bool) (w : Write) → One w → OneTurn (turn step earlier es ss w)
turn_kept step earlier es ss w h =
    let v = staged w (stage_on w.stage) in
    either OneTurn (is_waiting v.stage && not (list_any (shares w) earlier)) (goes step es ss v) (record { entries = es; spoiled = ss; write = v }) (either OneTurn (is_by_keys v) (by_keys step es ss v) (by_ranges step es ss v) (by_keys_kept step es ss v h) (by_ranges_kept step es ss v h)) h

passed_kept : (step : ℕ) (earlier : List Write) (es : Keyed Entry) (ss : Keyed Bool) (ws : List Write) → AreWritten ws → AreWritten (passed step earlier es ss ws).writes
unfolding passed
passed_kept step earlier es ss [] h = h
passed_kept step earlier es ss (w ∷ ws) h =
    let t = turn step earlier es ss w in
    (turn_kept step earlier es ss w h.0, passed_kept step (t.write ∷ earlier) t.entries t.spoiled ws h.1)

-- Answers.

read_kept : (o : Option Bool) (own : Ownership) → IsWritten own → EndsWritten (if_read o own)
read_kept None own h = tt
read_kept (Some held) own h = h

rescind_kept : (a : Answer) (own : Ownership) → IsWritten own → EndsWritten (rescind_answered a own)
rescind_kept (answer.Done reply) own h = read_kept (guard_held reply.body) own h
rescind_kept (answer.Refused r) own h = h

rescinded_kept : (k : List ℕ) (create now : ℕ) (own : Ownership) → IsWritten own → IsWritten (rescinded k create now own)
rescinded_kept k create now own h =
    either IsWritten (is_of create (at own.entries k)) (record { entries = with_at own.entries k None; waits = record own.waits { quiet = with_at own.waits.quiet k (Some (capped (now + rest))) } }) own h h

back_kept : (p : Write → Bool) (call : ℕ) (w : Write) (o : Option Bool) (own : Ownership) → IsWritten own → EndsWritten (revoke_back p call w o own)
back_kept p call w None own h = tt
back_kept p call w (Some held) own h = in_first p _ own.waits.writes h

revoke_kept : (p : Write → Bool) (call : ℕ) (o : Option Write) (a : Answer) (own : Ownership) → IsWritten own → EndsWritten (revoke_answered p call o a own)
revoke_kept p call None a own h = h
revoke_kept p call (Some w) (answer.Done reply) own h = back_kept p call w (guard_held reply.body) own h
revoke_kept p call (Some w) (answer.Refused r) own h = in_rest p own.waits.writes h

done_kept : (session : Option ℕ) (p : Write → Bool) (w : Write) (o : Option Written) (own : Ownership) → IsWritten own → EndsWritten (done_if session p w o own)
done_kept session p w None own h = tt
done_kept session p w (Some (Wrote reply)) own h = in_rest p own.waits.writes h
done_kept session p w (Some (Blocked os)) own h =
    either IsWritten (is_owner w.stage && is_single w.request)
    (staged_by own (without (owns_at w own.entries) own.entries) p (Sends false (sending.Due own.waits.step)))
    (finding session p (by_key [] (other_owners w own.entries os)) own (kept_entries w os own.entries))
    (in_first p _ own.waits.writes h) (in_first p _ own.waits.writes h)

write_kept : (session : Option ℕ) (p : Write → Bool) (o : Option Write) (a : Answer) (own : Ownership) → IsWritten own → EndsWritten (write_answered session p o a own)
write_kept session p None a own h = h
write_kept session p (Some w) (answer.Done reply) own h = done_kept session p w (written own.waits.prefix w.request reply) own h
write_kept session p (Some w) (answer.Refused r) own h = in_rest p own.waits.writes h

job_kept : (call : ℕ) (a : Answer) (session : Option ℕ) (now : ℕ) (o : Option WaitJob) (own : Ownership) → IsWritten own → EndsWritten (answered_job call a session now o own)
job_kept call a session now None own h = h
job_kept call a session now (Some (job.Rescind k create)) own h = rescind_kept a (rescinded k create now own) (rescinded_kept k create now own h)
job_kept call a session now (Some (job.Revoke k)) own h = revoke_kept (asks call) call (first_by (asks call) own.waits.writes) a own h
job_kept call a session now (Some job.Write) own h = write_kept session (sends call) (first_by (sends call) own.waits.writes) a own h

answered_kept : (call : ℕ) (a : Answer) (session : Option ℕ) (now : ℕ) (own : Ownership) → IsWritten own → EndsWritten (answered call a session now own)
unfolding answered
answered_kept call a session now own h = job_kept call a session now (job_of call own.waits.out) (without_out call own) h

-- Losses, and what is forgotten.

loss_kept : (p : Write → Bool) (o : Option Write) (own : Ownership) → IsWritten own → IsWritten (write_lost p o own).own
loss_kept p None own h = h
loss_kept p (Some w) own h = in_rest p own.waits.writes h

lost_job_kept : (call : ℕ) (o : Option WaitJob) (own : Ownership) → IsWritten own → IsWritten (lost_job call o own).own
lost_job_kept call None own h = h
lost_job_kept call (Some (job.Rescind k create)) own h = h
lost_job_kept call (Some (job.Revoke k)) own h = loss_kept (asks call) (first_by (asks call) own.waits.writes) own h
lost_job_kept call (Some job.Write) own h = loss_kept (sends call) (first_by (sends call) own.waits.writes) own h

lost_kept : (call : ℕ) (own : Ownership) → IsWritten own → IsWritten (lost call own).own
unfolding lost
lost_kept call own h = lost_job_kept call (job_of call own.waits.out) (without_out call own) h

forget_kept : (p : Write → Bool) (o : Option Write) (own : Ownership) → IsWritten own → IsWritten (forgotten_by p o own)
forget_kept p None own h = h
forget_kept p (Some w) own h = in_rest p own.waits.writes h

forgotten_kept : (ticket : ℕ) (own : Ownership) → IsWritten own → IsWritten (forgotten ticket own)
unfolding forgotten
forgotten_kept ticket own h = forget_kept (has_ticket ticket) (first_by (has_ticket ticket) own.waits.writes) own h

-- Notices.

put_kept : (session : Option ℕ) (k : List ℕ) (create lease : ℕ) (own : Ownership) → IsWritten own → IsWritten (put_noticed session k create lease own)
put_kept session k create lease own h =
    either IsWritten (is_some (at own.waits.spoiled k)) (acquire_spoiled k own) (record own { entries = with_at own.entries k (revoked_turn session create lease (at own.entries k)) }) h h

notice_kept : (session : Option ℕ) (c : Change) (own : Ownership) → IsWritten own → IsWritten (noticed session c own)
notice_kept session (change.Put kv) own h =
    either IsWritten (same kv.value revoke_word) (put_noticed session (owned_key own.waits.prefix kv.key) kv.create kv.lease own) own (put_kept session (owned_key own.waits.prefix kv.key) kv.create kv.lease own h) h
notice_kept session (change.Delete k revision) own h = in_each (λ w. stage_gone (same (owned_key own.waits.prefix k)) w.stage) own.waits.writes h

message_kept : (session : Option ℕ) (events : List Event) (own : Ownership) → IsWritten own → IsWritten (all_noticed session events own)
message_kept session [] own h = h
message_kept session (e ∷ es) own h = message_kept session es (noticed session e.change own) (notice_kept session e.change own h)

-- Sendings.

call_kept : (call : ℕ) (d : DueCall) (o : Option Write) (own : Ownership) → IsWritten own → SentWritten (call_of call d o own)
call_kept call d None own h = tt
call_kept call d (Some w) own h =
    either (λ s. IsWritten s.own) (is_revoke d.place.kind) (revoke_job call d w own) (write_job call d w own) (in_first (has_ticket d.place.number) _ own.waits.writes h) (in_first (has_ticket d.place.number) _ own.waits.writes h)

calls_kept : (call : ℕ) (o : Option DueCall) (own : Ownership) → IsWritten own → SentWritten (call_sent call o own)
calls_kept call None own h = tt
calls_kept call (Some d) own h = call_kept call d (first_by (has_ticket d.place.number) own.waits.writes) own h

sent_kept : (call : ℕ) (o : Option (List ℕ × Entry)) (own : Ownership) → IsWritten own → SentWritten (job_sent_after call o own)
sent_kept call None own h = calls_kept call (first_call own.waits.writes) own h
sent_kept call (Some e) own h = h

job_sent_kept : (call : ℕ) (own : Ownership) → IsWritten own → SentWritten (job_sent call own)
unfolding job_sent
job_sent_kept call own h = sent_kept call (first_rescind own.entries) own h

-- All of them.

pub ranges_stay : RangesStay
ranges_stay own h = record {
  asks = λ ticket ask. in_append own.waits.writes (new_write ticket ask ∷ []) h (refl, tt);
  pass = passed_kept own.waits.step [] own.entries own.waits.spoiled own.waits.writes h;
  sending = λ call. job_sent_kept call own h;
  answers = λ call a session now. answered_kept call a session now own h;
  losses = λ call. lost_kept call own h;
  forgetting = λ ticket. forgotten_kept ticket own h;
  message = λ session events. message_kept session events own h;
  resync = in_each (λ w. stage_gone (λ k. true) w.stage) own.waits.writes h;
  compaction = h;
  session_end = in_each (λ w. stage_ended (is_single w.request) w.stage) own.waits.writes h;
  spoils = λ k. h;
  begins = λ k. h;
  ends = λ k. h;
}

covered_by : (own : Ownership) (call : ℕ) (a : Answer) → IsWritten own → ShowsBytes a → OwnersCovered (sends call) a own
covered_by own call (answer.Done reply) h b = owners_are_covered own (sends call) reply h b
covered_by own call (answer.Refused r) h b = tt

pub answers_keep_written : AnswersKeepWritten
answers_keep_written own call a session now h b f = answers_keep own call a session now (covered_by own call a h b) f
