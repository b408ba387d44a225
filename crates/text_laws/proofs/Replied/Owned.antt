-- Whatever is done to the lease table keeps its records fit; only a write that was done gives them greater versions.
use Rattle.std.proofs.Common.{ℕ, ◌+◌, ◌≤◌, Bool, true, false, not, cond, ◌&&◌, ◌==◌, List, [], ◌∷◌, length, Option, None, Some, is_some, arith}
use Rattle.std.specs.Prelude.{nat_lt}
use Rattle.std.specs.List.{list_any}
use Rattle.text_model.specs.Words.{max_number}
use Rattle.etcd_types.specs.Keys.{same}
use Rattle.etcd_types.specs.declared.answer.Answer.{Answer}
use Rattle.etcd_types.specs.declared.answer.Answer.TheVariants as answer
use Rattle.etcd_types.specs.declared.answer.Reply.{Reply}
use Rattle.etcd_types.specs.declared.watch.Change.{Change}
use Rattle.etcd_types.specs.declared.watch.Change.TheVariants as change
use Rattle.etcd_types.specs.declared.watch.Event.{Event}
use Rattle.store_model.specs.LeftRecords.{left_by}
use Rattle.proxy_model.specs.declared.lease.Entry.{Entry}
use Rattle.proxy_model.specs.declared.lease.Phase.{Phase}
use Rattle.proxy_model.specs.declared.lease.Phase.TheVariants.{Held, Writing, Leaving}
use Rattle.proxy_model.specs.declared.ownership.Owner.{Owner}
use Rattle.proxy_model.specs.declared.ownership.Written.{Written}
use Rattle.proxy_model.specs.declared.ownership.Written.TheVariants.{Wrote, Blocked}
use Rattle.proxy_model.specs.Foreign.{revoke_word}
use Rattle.proxy_model.specs.Guarded.{written}
use Rattle.proxy_model.specs.Keyed.{Keyed, at, with_at}
use Rattle.proxy_model.specs.LeaseTable.{is_writing_phase, given_up, unwritten, leaving}
use Rattle.proxy_model.specs.LeaseTable as table
use Rattle.proxy_model.specs.Leaving.{guard_held}
use Rattle.wait_model.specs.declared.due.DueCall.{DueCall}
use Rattle.wait_model.specs.declared.wait.Settled.{Settled}
use Rattle.wait_model.specs.declared.wait.Settled.TheVariants as settled
use Rattle.wait_model.specs.declared.wait.WaitJob.{WaitJob}
use Rattle.wait_model.specs.declared.wait.WaitJob.TheVariants as job
use Rattle.wait_model.specs.declared.write.Write.{Write}
use Rattle.wait_model.specs.declared.write.WriteStage.TheVariants.{Sends}
use Rattle.wait_model.specs.declared.sending.Sending.TheVariants as sending
use Rattle.wait_model.specs.Covers.{is_single, is_by_keys, shares, covers, leased}
use Rattle.wait_model.specs.Edits.{each, without}
use Rattle.wait_model.specs.Endings.{revoke_back, revoke_answered, answered_job, without_out, answered, lost_job, lost, forgotten_by, forgotten}
use Rattle.wait_model.specs.ForeignOwnership.{by_key, is_own, owned_left, finding}
use Rattle.wait_model.specs.GuardedAnswers.{Ending, staged_by, owns, owns_at, change_owned, wrote_entries, unwrote_entries, left_entries, is_gone, kept_entries, other_owners, failed, done_if, write_answered, write_lost}
use Rattle.wait_model.specs.Leaving.{rescinded, if_read, rescind_answered}
use Rattle.wait_model.specs.LeasingStream.{all_given_up}
use Rattle.wait_model.specs.Notices.{revoked_turn, put_noticed, deleted_phase, deleted_turn, owned_key, noticed, all_noticed}
use Rattle.wait_model.specs.Operations.{operations}
use Rattle.wait_model.specs.Passes.{goes, turn, passed, proceeded}
use Rattle.wait_model.specs.Phases.{is_of, is_leaving, is_session, own_entry, rescind_sent, let_go, begun}
use Rattle.wait_model.specs.Asked.{acquire_spoiled}
use Rattle.wait_model.specs.Sent.{JobSent, call_of, call_sent, job_sent_after, job_sent, is_revoke, revoke_job, write_job}
use Rattle.wait_model.specs.SeveralKeys.{given_up_over, by_ranges}
use Rattle.wait_model.specs.SingleKeys.{Turn, let_go_leased, begun_over, any_key, keys_begun, by_keys}
use Rattle.wait_model.specs.Stages.{staged, stage_on, gone_on, is_owner, is_waiting, is_due}
use Rattle.wait_model.specs.State.{Ownership}
use Rattle.wait_model.specs.Writes.{first_by, sends, asks, job_of, has_ticket}
use Rattle.wait_model.specs.DueOrder.{first_call, first_rescind}
use Rattle.text_laws.specs.Values.Fits.{AllOf, If, AnswerFits, OpFits}
use Rattle.text_laws.proofs.Values.Alls.{either, all_weaker}
use Rattle.text_laws.proofs.Values.Weaker.{header_weaker, prev_weaker}
use Rattle.text_laws.specs.Sent.Sends.{KeyedFits, EntryFits, WriteFits, OwnFits}
use Rattle.text_laws.proofs.Sent.Owned.{WriteIf, first_fits}
use Rattle.text_laws.specs.Replied.Holds.{EntryHolds, EntriesHold, Bounds}
use Rattle.text_laws.proofs.Replied.Kept.{at_holds, with_at_holds, changed_holds, each_holds, without_holds}
use Rattle.text_laws.proofs.Replied.Bodies.{write_leaves, operations_fit, WroughtIf, written_holds}

pub entries_weaker : (m n : ℕ) → m ≤ n → (es : Keyed Entry) → EntriesHold m es → EntriesHold n es
entries_weaker m n l es h = all_weaker (λ (e : List ℕ × Entry). EntryHolds m e.1) (λ (e : List ℕ × Entry). EntryHolds n e.1) (λ e f. prev_weaker m n l e.1.kv f) es h

-- ---- waiting writes go on: what is held changes its phase alone

abbrev TurnHolds : ℕ → Turn → Type 0
TurnHolds most t = EntriesHold most t.entries

by_ranges_holds : (most step : ℕ) (es : Keyed Entry) (ss : Keyed Bool) (w : Write) → EntriesHold most es → TurnHolds most (by_ranges step es ss w)
by_ranges_holds most step es ss w h = each_holds (EntryHolds most) (given_up_over w) (λ k e n. either (EntryHolds most) (covers w k) (given_up e) e n n) es h

keys_begun_holds : (most step : ℕ) (es : Keyed Entry) (ss : Keyed Bool) (w : Write) → EntriesHold most es → TurnHolds most (keys_begun step es ss w)
keys_begun_holds most step es ss w h =
    either (TurnHolds most) (any_key w (λ k. is_leaving (at es k))) (record { entries = es; spoiled = ss; write = w })
    (record { entries = each (begun_over w) es; spoiled = ss; write = gone_on step (any_key w (λ k. is_some (at es k))) w }) h
    (each_holds (EntryHolds most) (begun_over w) (λ k e n. either (EntryHolds most) (covers w k) (begun e) e n n) es h)

by_keys_holds : (most step : ℕ) (es : Keyed Entry) (ss : Keyed Bool) (w : Write) → EntriesHold most es → TurnHolds most (by_keys step es ss w)
by_keys_holds most step es ss w h =
    either (TurnHolds most) (any_key w (λ k. is_some (at ss k))) (record { entries = es; spoiled = ss; write = w }) (keys_begun step (each (let_go_leased w) es) ss w) h
    (keys_begun_holds most step (each (let_go_leased w) es) ss w (each_holds (EntryHolds most) (let_go_leased w) (λ k e n. either (EntryHolds most) (covers w k && leased w.request k) (let_go e) e n n) es h))

turn_holds : (most step : ℕ) (earlier : List Write) (es : Keyed Entry) (ss : Keyed Bool) (w : Write) → EntriesHold most es → TurnHolds most (turn step earlier es ss w)
turn_holds most step earlier es ss w h =
    let v = staged w (stage_on w.stage) in
    either (TurnHolds most) (is_waiting v.stage && not (list_any (shares w) earlier)) (goes step es ss v) (record { entries = es; spoiled = ss; write = v })
    (either (TurnHolds most) (is_by_keys v) (by_keys step es ss v) (by_ranges step es ss v) (by_keys_holds most step es ss v h) (by_ranges_holds most step es ss v h)) h

passed_holds : (most step : ℕ) (earlier : List Write) (es : Keyed Entry) (ss : Keyed Bool) (ws : List Write) → EntriesHold most es → EntriesHold most (passed step earlier es ss ws).entries
unfolding passed
passed_holds most step earlier es ss [] h = h
passed_holds most step earlier es ss (w ∷ ws) h =
    let t = turn step earlier es ss w in
    passed_holds most step (t.write ∷ earlier) t.entries t.spoiled ws (turn_holds most step earlier es ss w h)

pub proceeded_holds : (most : ℕ) (own : Ownership) → EntriesHold most own.entries → EntriesHold most (proceeded own).entries
proceeded_holds most own h = passed_holds most own.waits.step [] own.entries own.waits.spoiled own.waits.writes h

-- ---- what is found is given up

owned_left_holds : (most : ℕ) (session : Option ℕ) (os : Keyed Owner) (es : Keyed Entry) → EntriesHold most es → EntriesHold most (owned_left session os es)
owned_left_holds most session [] es h = h
owned_left_holds most session (o ∷ os) es h =
    owned_left_holds most session os (cond (is_own session es o) (with_at es o.0 (Some (own_entry o.1.create))) es)
    (either (EntriesHold most) (is_own session es o) (with_at es o.0 (Some (own_entry o.1.create))) es (with_at_holds (EntryHolds most) es o.0 (Some (own_entry o.1.create)) tt h) h)

changed_owned_holds : (most : ℕ) (w : Write) (f : List ℕ → Entry → Entry) → ((k : List ℕ) (e : Entry) → EntryHolds most e → EntryHolds most (f k e)) → (es : Keyed Entry) → EntriesHold most es → EntriesHold most (change_owned w f es)
changed_owned_holds most w f g es h = each_holds (EntryHolds most) _ (λ k e n. either (EntryHolds most) (owns w k && is_writing_phase e.phase) (f k e) e (g k e n) n) es h

unwrote_holds : (most : ℕ) (w : Write) (es : Keyed Entry) → EntriesHold most es → EntriesHold most (unwrote_entries w es)
unwrote_holds most w es h = changed_owned_holds most w (λ k e. unwritten e) (λ k e n. n) es h

left_holds : (most : ℕ) (w : Write) (es : Keyed Entry) → EntriesHold most es → EntriesHold most (left_entries w es)
left_holds most w es h = changed_owned_holds most w (λ k e. leaving e) (λ k e n. n) es h

failed_holds : (most : ℕ) (session : Option ℕ) (q : Write → Bool) (w : Write) (os : List Owner) (own : Ownership) → EntriesHold most own.entries → EntriesHold most (failed session q w os own).entries
failed_holds most session q w os own h =
    either (λ (x : Ownership). EntriesHold most x.entries) (is_owner w.stage && is_single w.request) (staged_by own (without (owns_at w own.entries) own.entries) q (Sends false (sending.Due own.waits.step)))
    (finding session q (by_key [] (other_owners w own.entries os)) own (kept_entries w os own.entries))
    (without_holds (EntryHolds most) (owns_at w own.entries) own.entries h)
    (owned_left_holds most session (by_key [] (other_owners w own.entries os)) (kept_entries w os own.entries)
    (unwrote_holds most w (without (is_gone w own.entries os) own.entries) (without_holds (EntryHolds most) (is_gone w own.entries os) own.entries h)))

-- ---- a write that was done: its keys are bytes, and its operations fit

wrote_holds : (most : ℕ) (w : Write) (reply : Reply) (es : Keyed Entry) → reply.header.revision ≤ most → AllOf (OpFits 126) (operations w.request reply.body) → length (operations w.request reply.body) ≤ 128
    → KeyedFits EntryFits es → EntriesHold most es → EntriesHold (most + 128) (wrote_entries w reply es)
wrote_holds most w reply [] r f l b h = tt
wrote_holds most w reply (e ∷ es) r f l b h = (
  either (EntryHolds (most + 128)) (owns w e.0 && is_writing_phase e.1.phase) (table.written (left_by reply.header.revision e.0 (operations w.request reply.body) e.1.kv) e.1) e.1
      (write_leaves most reply.header.revision e.0 (operations w.request reply.body) e.1.kv r b.0.0 f l h.0) (prev_weaker most (most + 128) (omega arith) e.1.kv h.0),
  wrote_holds most w reply es r f l b.1 h.1,
)

-- ---- answers and losses of writes' calls

abbrev pub SettledHolds : Settled → Type 0
SettledHolds (settled.Reply ticket a) = AnswerFits max_number a
SettledHolds (settled.Failed ticket) = Unit {0}
SettledHolds settled.Nothing = Unit {0}

pub record EndingHolds (most : ℕ) (x : Ending) : Type 0 where
  pub entries : EntriesHold most x.own.entries
  pub settled : SettledHolds x.settled

abbrev pub EndingIf : ℕ → Option Ending → Type 0
EndingIf most o = If (EndingHolds most) o

more : (most : ℕ) → most ≤ most + 128
more most = omega arith

wider : (most : ℕ) (own : Ownership) → EntriesHold most own.entries → EntriesHold (most + 128) own.entries
wider most own h = entries_weaker most (most + 128) (more most) own.entries h

done_holds : (heard most : ℕ) (session : Option ℕ) (q : Write → Bool) (w : Write) (o : Option Written) (own : Ownership) → Bounds heard most → WriteFits w → WroughtIf heard w.request o → OwnFits own → EntriesHold most own.entries
    → EndingIf (most + 128) (done_if session q w o own)
done_holds heard most session q w None own l f k b h = tt
done_holds heard most session q w (Some (Wrote reply)) own l f k b h =
    let r = k.header.revision in
    let kept = l.kept in
    record {
      entries = wrote_holds most w reply own.entries (omega (arith, r, kept)) (operations_fit w.request reply.body f.request) k.few b.entries h;
      settled = (header_weaker heard max_number (let t = l.twice in omega (arith, t)) reply.header k.header, k.body);
    }
done_holds heard most session q w (Some (Blocked os)) own l f k b h =
    record { entries = entries_weaker most (most + 128) (more most) (failed session q w os own).entries (failed_holds most session q w os own h); settled = tt }

write_holds : (heard most : ℕ) (session : Option ℕ) (q : Write → Bool) (o : Option Write) (a : Answer) (own : Ownership) → Bounds heard most → AnswerFits heard a → WriteIf o → OwnFits own → EntriesHold most own.entries
    → EndingIf (most + 128) (write_answered session q o a own)
write_holds heard most session q None a own l f k b h = record { entries = wider most own h; settled = tt }
write_holds heard most session q (Some w) (answer.Done reply) own l f k b h =
    done_holds heard most session q w (written own.waits.prefix w.request reply) own l k (written_holds heard own.waits.prefix w.request reply l.twice b.prefix k.request f) b h
write_holds heard most session q (Some w) (answer.Refused r) own l f k b h =
    record { entries = entries_weaker most (most + 128) (more most) (unwrote_entries w own.entries) (unwrote_holds most w own.entries h); settled = f }

back_holds : (most : ℕ) (q : Write → Bool) (call : ℕ) (w : Write) (o : Option Bool) (own : Ownership) → EntriesHold most own.entries → EndingIf most (revoke_back q call w o own)
back_holds most q call w None own h = tt
back_holds most q call w (Some held) own h = record { entries = h; settled = tt }

revoke_holds : (heard most : ℕ) (q : Write → Bool) (call : ℕ) (o : Option Write) (a : Answer) (own : Ownership) → AnswerFits heard a → EntriesHold most own.entries → EndingIf most (revoke_answered q call o a own)
revoke_holds heard most q call None a own f h = record { entries = h; settled = tt }
revoke_holds heard most q call (Some w) (answer.Done reply) own f h = back_holds most q call w (guard_held reply.body) own h
revoke_holds heard most q call (Some w) (answer.Refused r) own f h = record { entries = h; settled = f }

rescinded_holds : (most : ℕ) (k : List ℕ) (create now : ℕ) (own : Ownership) → EntriesHold most own.entries → EntriesHold most (rescinded k create now own).entries
rescinded_holds most k create now own h =
    either (λ (x : Ownership). EntriesHold most x.entries) (is_of create (at own.entries k)) _ own (with_at_holds (EntryHolds most) own.entries k None tt h) h

read_holds : (most : ℕ) (o : Option Bool) (own : Ownership) → EntriesHold most own.entries → EndingIf most (if_read o own)
read_holds most None own h = tt
read_holds most (Some held) own h = record { entries = h; settled = tt }

rescind_holds : (most : ℕ) (a : Answer) (own : Ownership) → EntriesHold most own.entries → EndingIf most (rescind_answered a own)
rescind_holds most (answer.Done reply) own h = read_holds most (guard_held reply.body) own h
rescind_holds most (answer.Refused r) own h = record { entries = h; settled = tt }

job_holds : (heard most call : ℕ) (a : Answer) (session : Option ℕ) (now : ℕ) (o : Option WaitJob) (own : Ownership) → Bounds heard most → AnswerFits heard a → OwnFits own → EntriesHold most own.entries → EndingIf (most + 128) (answered_job call a session now o own)
job_holds heard most call a session now None own l f b h = record { entries = wider most own h; settled = tt }
job_holds heard most call a session now (Some (job.Rescind k create)) own l f b h = rescind_holds (most + 128) a (rescinded k create now own) (rescinded_holds (most + 128) k create now own (wider most own h))
job_holds heard most call a session now (Some (job.Revoke k)) own l f b h = revoke_holds heard (most + 128) (asks call) call (first_by (asks call) own.waits.writes) a own f (wider most own h)
job_holds heard most call a session now (Some job.Write) own l f b h = write_holds heard most session (sends call) (first_by (sends call) own.waits.writes) a own l f (first_fits (sends call) own.waits.writes b.writes) b h

pub answered_holds : (heard most call : ℕ) (a : Answer) (session : Option ℕ) (now : ℕ) (own : Ownership) → Bounds heard most → AnswerFits heard a → OwnFits own → EntriesHold most own.entries → EndingIf (most + 128) (answered call a session now own)
unfolding answered
answered_holds heard most call a session now own l f b h =
    job_holds heard most call a session now (job_of call own.waits.out) (without_out call own) l f (record { prefix = b.prefix; entries = b.entries; writes = b.writes }) h

write_lost_holds : (most : ℕ) (q : Write → Bool) (o : Option Write) (own : Ownership) → EntriesHold most own.entries → EndingHolds most (write_lost q o own)
write_lost_holds most q None own h = record { entries = h; settled = tt }
write_lost_holds most q (Some w) own h = record { entries = left_holds most w own.entries h; settled = tt }

lost_job_holds : (most call : ℕ) (o : Option WaitJob) (own : Ownership) → EntriesHold most own.entries → EndingHolds most (lost_job call o own)
lost_job_holds most call None own h = record { entries = h; settled = tt }
lost_job_holds most call (Some (job.Rescind k create)) own h = record {
  entries = changed_holds (EntryHolds most) own.entries k (λ e. cond (e.create == create) (rescind_sent false e) e) (λ e n. either (EntryHolds most) (e.create == create) (rescind_sent false e) e n n) h;
  settled = tt;
}
lost_job_holds most call (Some (job.Revoke k)) own h = write_lost_holds most (asks call) (first_by (asks call) own.waits.writes) own h
lost_job_holds most call (Some job.Write) own h = write_lost_holds most (sends call) (first_by (sends call) own.waits.writes) own h

pub lost_holds : (most call : ℕ) (own : Ownership) → EntriesHold most own.entries → EndingHolds most (lost call own)
unfolding lost
lost_holds most call own h = lost_job_holds most call (job_of call own.waits.out) (without_out call own) h

-- ---- a request timed out or left

forgotten_by_holds : (most : ℕ) (q : Write → Bool) (o : Option Write) (own : Ownership) → EntriesHold most own.entries → EntriesHold most (forgotten_by q o own).entries
forgotten_by_holds most q None own h = h
forgotten_by_holds most q (Some w) own h =
    either (EntriesHold most) (is_due w.stage) (unwrote_entries w own.entries) (left_entries w own.entries) (unwrote_holds most w own.entries h) (left_holds most w own.entries h)

pub forgotten_holds : (most ticket : ℕ) (own : Ownership) → EntriesHold most own.entries → EntriesHold most (forgotten ticket own).entries
unfolding forgotten
forgotten_holds most ticket own h = forgotten_by_holds most (has_ticket ticket) (first_by (has_ticket ticket) own.waits.writes) own h

-- ---- the leasing stream

pub given_up_holds : (most : ℕ) (own : Ownership) → EntriesHold most own.entries → EntriesHold most (all_given_up own).entries
given_up_holds most own h = each_holds (EntryHolds most) (λ k e. given_up e) (λ k e n. n) own.entries h

turned_holds : (most : ℕ) (session : Option ℕ) (create lease : ℕ) (o : Option Entry) → If (EntryHolds most) o → If (EntryHolds most) (revoked_turn session create lease o)
turned_holds most session create lease None h = either (If (EntryHolds most)) (is_session session lease) (Some (own_entry create)) None tt tt
turned_holds most session create lease (Some e) h = either (If (EntryHolds most)) (e.create == create) (Some (given_up e)) (Some e) h h

put_noticed_holds : (most : ℕ) (session : Option ℕ) (k : List ℕ) (create lease : ℕ) (own : Ownership) → EntriesHold most own.entries → EntriesHold most (put_noticed session k create lease own).entries
put_noticed_holds most session k create lease own h =
    either (λ (x : Ownership). EntriesHold most x.entries) (is_some (at own.waits.spoiled k)) (acquire_spoiled k own) _ h
    (with_at_holds (EntryHolds most) own.entries k (revoked_turn session create lease (at own.entries k)) (turned_holds most session create lease (at own.entries k) (at_holds (EntryHolds most) own.entries k h)) h)

deleted_phase_holds : (most : ℕ) (e : Entry) (x : Phase) → EntryHolds most e → If (EntryHolds most) (deleted_phase e x)
deleted_phase_holds most e Held h = tt
deleted_phase_holds most e (Writing revoked) h = h
deleted_phase_holds most e (Leaving sent) h = h

deleted_holds : (most revision : ℕ) (o : Option Entry) → If (EntryHolds most) o → If (EntryHolds most) (deleted_turn revision o)
deleted_holds most revision None h = tt
deleted_holds most revision (Some e) h = either (If (EntryHolds most)) (nat_lt e.create revision) (deleted_phase e e.phase) (Some e) (deleted_phase_holds most e e.phase h) h

noticed_holds : (most : ℕ) (session : Option ℕ) (c : Change) (own : Ownership) → EntriesHold most own.entries → EntriesHold most (noticed session c own).entries
noticed_holds most session (change.Put kv) own h =
    let k = owned_key own.waits.prefix kv.key in
    either (λ (x : Ownership). EntriesHold most x.entries) (same kv.value revoke_word) (put_noticed session k kv.create kv.lease own) own (put_noticed_holds most session k kv.create kv.lease own h) h
noticed_holds most session (change.Delete key revision) own h =
    let k = owned_key own.waits.prefix key in
    with_at_holds (EntryHolds most) own.entries k (deleted_turn revision (at own.entries k)) (deleted_holds most revision (at own.entries k) (at_holds (EntryHolds most) own.entries k h)) h

pub all_noticed_holds : (most : ℕ) (session : Option ℕ) (es : List Event) (own : Ownership) → EntriesHold most own.entries → EntriesHold most (all_noticed session es own).entries
all_noticed_holds most session [] own h = h
all_noticed_holds most session (e ∷ es) own h = all_noticed_holds most session es (noticed session e.change own) (noticed_holds most session e.change own h)

-- ---- a job is sent

abbrev pub JobHolds : ℕ → Option JobSent → Type 0
JobHolds most o = If (λ (x : JobSent). EntriesHold most x.own.entries) o

call_of_holds : (most call : ℕ) (d : DueCall) (o : Option Write) (own : Ownership) → EntriesHold most own.entries → JobHolds most (call_of call d o own)
call_of_holds most call d None own h = tt
call_of_holds most call d (Some w) own h = either (λ (x : JobSent). EntriesHold most x.own.entries) (is_revoke d.place.kind) (revoke_job call d w own) (write_job call d w own) h h

call_sent_holds : (most call : ℕ) (o : Option DueCall) (own : Ownership) → EntriesHold most own.entries → JobHolds most (call_sent call o own)
call_sent_holds most call None own h = tt
call_sent_holds most call (Some d) own h = call_of_holds most call d (first_by (has_ticket d.place.number) own.waits.writes) own h

after_holds : (most call : ℕ) (o : Option (List ℕ × Entry)) (own : Ownership) → EntriesHold most own.entries → JobHolds most (job_sent_after call o own)
after_holds most call None own h = call_sent_holds most call (first_call own.waits.writes) own h
after_holds most call (Some e) own h = changed_holds (EntryHolds most) own.entries e.0 (rescind_sent true) (λ x n. n) h

pub job_sent_holds : (most call : ℕ) (own : Ownership) → EntriesHold most own.entries → JobHolds most (job_sent call own)
unfolding job_sent
job_sent_holds most call own h = after_holds most call (first_rescind own.entries) own h
