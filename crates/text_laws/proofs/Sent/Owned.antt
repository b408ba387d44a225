-- Whatever is done to the lease table and the waiting writes keeps them fit.
use Rattle.std.proofs.Common.{◌≡◌, ℕ, ◌≤◌, Bool, true, false, not, cond, ◌&&◌, ◌||◌, ◌==◌, List, [], ◌∷◌, map, length, Option, None, Some, is_some, subst, arith}
use Rattle.std.specs.Prelude.{nat_lt, flat_map}
use Rattle.std.specs.List.{list_any}
use Rattle.text_model.specs.Words.{max_number}
use Rattle.etcd_types.specs.Keys.{same}
use Rattle.etcd_types.specs.declared.answer.Answer.{Answer}
use Rattle.etcd_types.specs.declared.answer.Answer.TheVariants as answer
use Rattle.etcd_types.specs.declared.answer.Body.{Body, Row_of-Body, end_of-Body, more_of-Body}
use Rattle.etcd_types.specs.declared.answer.Body.TheVariants as body
use Rattle.etcd_types.specs.declared.answer.Reply.{Reply}
use Rattle.etcd_types.specs.declared.record.Kv.{Kv}
use Rattle.etcd_types.specs.declared.request.Request.{Request}
use Rattle.etcd_types.specs.declared.watch.Change.{Change}
use Rattle.etcd_types.specs.declared.watch.Change.TheVariants as change
use Rattle.etcd_types.specs.declared.watch.Event.{Event}
use Rattle.proxy_model.specs.declared.lease.Entry.{Entry}
use Rattle.proxy_model.specs.declared.lease.Phase.{Phase}
use Rattle.proxy_model.specs.declared.lease.Phase.TheVariants.{Held, Writing, Leaving}
use Rattle.proxy_model.specs.declared.ownership.Owner.{Owner}
use Rattle.proxy_model.specs.declared.ownership.Written.{Written}
use Rattle.proxy_model.specs.declared.ownership.Written.TheVariants.{Wrote, Blocked}
use Rattle.proxy_model.specs.Fits.{row_bodies, branch_of, fits_txn}
use Rattle.proxy_model.specs.Foreign.{revoke_word, owner_of}
use Rattle.proxy_model.specs.Guarded.{guarded, owners_in, written_of, written}
use Rattle.proxy_model.specs.Keyed.{Keyed, at, with_at, changed_at}
use Rattle.proxy_model.specs.LeaseTable.{is_writing_phase, given_up, unwritten, leaving}
use Rattle.proxy_model.specs.Leaving.{guard_held}
use Rattle.proxy_model.specs.Readings.{records_of, reading}
use Rattle.proxy_model.specs.SeveralKeys.{written_ranges}
use Rattle.wait_model.specs.declared.wait.WaitJob.{WaitJob}
use Rattle.wait_model.specs.declared.wait.WaitJob.TheVariants as job
use Rattle.wait_model.specs.declared.write.Write.{Write}
use Rattle.wait_model.specs.declared.write.WriteStage.{WriteStage}
use Rattle.wait_model.specs.declared.write.WriteStage.TheVariants.{Waiting, Sends, Finds}
use Rattle.wait_model.specs.declared.sending.Sending.{Sending}
use Rattle.wait_model.specs.declared.sending.Sending.TheVariants as sending
use Rattle.wait_model.specs.Asked.{new_write, submitted, acquire_spoiled}
use Rattle.wait_model.specs.Covers.{is_single, is_by_keys, shares, covers, leased}
use Rattle.wait_model.specs.Edits.{each, without}
use Rattle.wait_model.specs.Endings.{revoke_back, revoke_answered, answered_job, without_out, answered, lost_job, lost, given_back, forgotten_by, forgotten}
use Rattle.wait_model.specs.ForeignOwnership.{by_key, is_own, owned_left, found_of, others, finding, asked_back, stage_asked, gone_if, stage_gone, write_gone, found_gone}
use Rattle.wait_model.specs.GuardedAnswers.{Ending, ended_by, staged_by, owns, owns_at, change_owned, wrote_entries, unwrote_entries, left_entries, is_kept, is_gone, kept_entries, other_owners, failed, done_if, write_answered, write_lost}
use Rattle.wait_model.specs.Leaving.{rescinded, if_read, rescind_answered}
use Rattle.wait_model.specs.LeasingStream.{all_given_up}
use Rattle.wait_model.specs.Notices.{revoked_turn, put_noticed, deleted_phase, deleted_turn, owned_key, noticed, all_noticed}
use Rattle.wait_model.specs.Passes.{goes, turn, Pass, passed, proceeded}
use Rattle.wait_model.specs.Phases.{is_of, is_leaving, is_session, own_entry, rescind_sent, let_go, begun}
use Rattle.wait_model.specs.SessionEnd.{due_again, stage_ended, write_ended, session_ended}
use Rattle.wait_model.specs.SeveralKeys.{given_up_over, spoiled_over, any_covered, by_ranges}
use Rattle.wait_model.specs.SingleKeys.{Turn, let_go_leased, begun_over, any_key, keys_begun, by_keys}
use Rattle.wait_model.specs.Stages.{staged, stage_on, gone_on, is_owner, is_waiting, is_due, is_found_over}
use Rattle.wait_model.specs.State.{Ownership}
use Rattle.wait_model.specs.Writes.{first_by, with_first, without_first, sends, asks, job_of, has_ticket, is_asked_as}
use Rattle.text_laws.specs.Values.Fits.{AllOf, If, IsByte, Bytes, Number, Few, KvFits, BodyFits, RowFits, ReplyFits, AnswerFits, ChangeFits, EventFits, RequestFits}
use Rattle.text_laws.proofs.Values.Alls.{either, all_push, all_map, all_filter, all_drop, all_flat}
use Rattle.text_laws.specs.Sent.Sends.{KeyedFits, EntryFits, FoundFits, StageFits, FlatAsk, WriteFits, OwnFits}
use Rattle.text_laws.proofs.Sent.Keys.{at_fits, with_at_fits, changed_there, each_fits, without_fits}

abbrev pub WriteIf : Option Write → Type 0
WriteIf o = If WriteFits o

-- ---- writes

with_stage : (w : Write) (s : WriteStage) → WriteFits w → StageFits s → WriteFits (staged w s)
with_stage w s h f = record { ticket = h.ticket; request = h.request; flat = h.flat; stage = f; few = h.few }

pub first_fits : (q : Write → Bool) (ws : List Write) → AllOf WriteFits ws → WriteIf (first_by q ws)
first_fits q [] h = tt
first_fits q (w ∷ ws) h = either WriteIf (q w) (Some w) (first_by q ws) h.0 (first_fits q ws h.1)

pub with_first_fits : (q : Write → Bool) (s : WriteStage) (ws : List Write) → StageFits s → AllOf WriteFits ws → AllOf WriteFits (with_first q s ws)
with_first_fits q s [] f h = tt
with_first_fits q s (w ∷ ws) f h = either (AllOf WriteFits) (q w) (staged w s ∷ ws) (w ∷ with_first q s ws) (with_stage w s h.0 f, h.1) (h.0, with_first_fits q s ws f h.1)

without_first_fits : (q : Write → Bool) (ws : List Write) → AllOf WriteFits ws → AllOf WriteFits (without_first q ws)
without_first_fits q [] h = tt
without_first_fits q (w ∷ ws) h = either (AllOf WriteFits) (q w) ws (w ∷ without_first q ws) h.1 (h.0, without_first_fits q ws h.1)

-- with other entries and writes
pub remade : (own next : Ownership) → next.waits.prefix ≡ own.waits.prefix → KeyedFits EntryFits next.entries → AllOf WriteFits next.waits.writes → OwnFits own → OwnFits next
remade own next e es ws h = record { prefix = subst Bytes (sym_of e) h.prefix; entries = es; writes = ws }
  where
    sym_of : {a b : List ℕ} → a ≡ b → b ≡ a
    sym_of {a} {b} e = cc

-- ---- waiting writes go on

record TurnFits (t : Turn) : Type 0 where
  entries : KeyedFits EntryFits t.entries
  write : WriteFits t.write

stage_on_fits : (s : WriteStage) → StageFits s → StageFits (stage_on s)
stage_on_fits s h = either StageFits (is_found_over s) Waiting s tt h

gone_on_fits : (step : ℕ) (owner : Bool) (w : Write) → WriteFits w → WriteFits (gone_on step owner w)
gone_on_fits step owner w h = with_stage w (Sends owner (sending.Due step)) h tt

over_fits : (w : Write) (es : Keyed Entry) → KeyedFits EntryFits es → KeyedFits EntryFits (each (given_up_over w) es)
over_fits w es h = each_fits EntryFits (given_up_over w) (λ k e n. either EntryFits (covers w k) (given_up e) e n n) es h

by_ranges_fits : (step : ℕ) (es : Keyed Entry) (ss : Keyed Bool) (w : Write) → KeyedFits EntryFits es → WriteFits w → TurnFits (by_ranges step es ss w)
by_ranges_fits step es ss w h f = record {
  entries = over_fits w es h;
  write = either WriteFits (any_covered w (each (given_up_over w) es) || any_covered w (each (spoiled_over w) ss)) w (gone_on step false w) f (gone_on_fits step false w f);
}

keys_begun_fits : (step : ℕ) (es : Keyed Entry) (ss : Keyed Bool) (w : Write) → KeyedFits EntryFits es → WriteFits w → TurnFits (keys_begun step es ss w)
keys_begun_fits step es ss w h f =
    let owner = any_key w (λ k. is_some (at es k)) in
    either TurnFits (any_key w (λ k. is_leaving (at es k))) (record { entries = es; spoiled = ss; write = w }) (record { entries = each (begun_over w) es; spoiled = ss; write = gone_on step owner w })
    (record { entries = h; write = f })
    (record { entries = each_fits EntryFits (begun_over w) (λ k e n. either EntryFits (covers w k) (begun e) e n n) es h; write = gone_on_fits step owner w f })

by_keys_fits : (step : ℕ) (es : Keyed Entry) (ss : Keyed Bool) (w : Write) → KeyedFits EntryFits es → WriteFits w → TurnFits (by_keys step es ss w)
by_keys_fits step es ss w h f =
    either TurnFits (any_key w (λ k. is_some (at ss k))) (record { entries = es; spoiled = ss; write = w }) (keys_begun step (each (let_go_leased w) es) ss w)
    (record { entries = h; write = f })
    (keys_begun_fits step (each (let_go_leased w) es) ss w (each_fits EntryFits (let_go_leased w) (λ k e n. either EntryFits (covers w k && leased w.request k) (let_go e) e n n) es h) f)

turn_fits : (step : ℕ) (earlier : List Write) (es : Keyed Entry) (ss : Keyed Bool) (w : Write) → KeyedFits EntryFits es → WriteFits w → TurnFits (turn step earlier es ss w)
turn_fits step earlier es ss w h f =
    let v = staged w (stage_on w.stage) in
    let g = with_stage w (stage_on w.stage) f (stage_on_fits w.stage f.stage) in
    either TurnFits (is_waiting v.stage && not (list_any (shares w) earlier)) (goes step es ss v) (record { entries = es; spoiled = ss; write = v })
    (either TurnFits (is_by_keys v) (by_keys step es ss v) (by_ranges step es ss v) (by_keys_fits step es ss v h g) (by_ranges_fits step es ss v h g))
    (record { entries = h; write = g })

record PassFits (x : Pass) : Type 0 where
  entries : KeyedFits EntryFits x.entries
  writes : AllOf WriteFits x.writes

passed_fits : (step : ℕ) (earlier : List Write) (es : Keyed Entry) (ss : Keyed Bool) (ws : List Write) → KeyedFits EntryFits es → AllOf WriteFits ws → PassFits (passed step earlier es ss ws)
unfolding passed
passed_fits step earlier es ss [] h f = record { entries = h; writes = tt }
passed_fits step earlier es ss (w ∷ ws) h f =
    let t = turn step earlier es ss w in
    let n = turn_fits step earlier es ss w h f.0 in
    let r = passed_fits step (t.write ∷ earlier) t.entries t.spoiled ws n.entries f.1 in
    record { entries = r.entries; writes = (n.write, r.writes) }

pub proceeded_fits : (own : Ownership) → OwnFits own → OwnFits (proceeded own)
proceeded_fits own h =
    let r = passed_fits own.waits.step [] own.entries own.waits.spoiled own.waits.writes h.entries h.writes in
    record { prefix = h.prefix; entries = r.entries; writes = r.writes }

-- ---- a write is handed in, and a session ends

pub submitted_fits : (ticket : ℕ) (q : Request) (own : Ownership) → Number ticket → RequestFits 126 q → FlatAsk q → Few (written_ranges q) → OwnFits own → OwnFits (submitted ticket q own)
submitted_fits ticket q own t f g few h =
    record { prefix = h.prefix; entries = h.entries; writes = all_push WriteFits own.waits.writes (new_write ticket q) h.writes (record { ticket = t; request = f; flat = g; stage = tt; few = few }) }

due_again_fits : (single : Bool) (s : Sending) → StageFits (due_again single s)
due_again_fits single (sending.Due since) = either StageFits single (Sends false (sending.Due since)) Waiting tt tt
due_again_fits single (sending.Out call) = tt

ended_stage_fits : (single : Bool) (s : WriteStage) → StageFits s → StageFits (stage_ended single s)
ended_stage_fits single Waiting h = tt
ended_stage_fits single (Sends owner s) h = either StageFits owner (due_again single s) (Sends owner s) (due_again_fits single s) tt
ended_stage_fits single (Finds found) h = h

pub session_ended_fits : (own : Ownership) → OwnFits own → OwnFits (session_ended own)
session_ended_fits own h = record {
  prefix = h.prefix;
  entries = tt;
  writes = all_map WriteFits WriteFits write_ended (λ w f. with_stage w (stage_ended (is_single w.request) w.stage) f (ended_stage_fits (is_single w.request) w.stage f.stage)) own.waits.writes h.writes;
}

-- ---- what an answer shows

pub record OwnerFits (o : Owner) : Type 0 where
  pub key : Bytes o.key
  pub create : Number o.create

pub shown_owner : (most : ℕ) (p : List ℕ) (kv : Kv) → most ≤ max_number → KvFits most kv → OwnerFits (owner_of p kv)
shown_owner most p kv l h = let c = h.create in record { key = all_drop IsByte (length p) kv.key h.key; create = omega (arith, c, l) }

row_all : {m : _} (most deep : ℕ) (bodies : Row_of-Body m) → RowFits most deep bodies → AllOf (BodyFits most deep) (row_bodies bodies)
row_all most deep end_of-Body h = tt
row_all most deep (more_of-Body one rest) h = (h.0, row_all most deep rest h.1)

abbrev pub BranchFits : ℕ → Option (Bool × List Body) → Type 0
BranchFits most None = Unit {0}
BranchFits most (Some ran) = AllOf (BodyFits most 127) ran.1

pub branch_fits : (most : ℕ) (b : Body) → BodyFits most 128 b → BranchFits most (branch_of b)
branch_fits most (body.Txn' succeeded m bodies) h = row_all most 127 bodies h.0
branch_fits most (body.Range count more kvs) h = tt
branch_fits most (body.Put prev) h = tt
branch_fits most (body.Delete deleted prevs) h = tt
branch_fits most body.Compact h = tt
branch_fits most (body.Grant lease ttl) h = tt
branch_fits most body.Revoke h = tt
branch_fits most (body.KeepAlive lease ttl) h = tt
branch_fits most (body.TimeToLive lease ttl granted keys) h = tt
branch_fits most (body.Leases leases) h = tt

pub records_fit : (most deep : ℕ) (b : Body) → BodyFits most deep b → AllOf (KvFits most) (records_of b)
records_fit most deep (body.Range count more kvs) h = h.1.all
records_fit most deep (body.Put prev) h = tt
records_fit most deep (body.Delete deleted prevs) h = tt
records_fit most deep (body.Txn' succeeded m bodies) h = tt
records_fit most deep body.Compact h = tt
records_fit most deep (body.Grant lease ttl) h = tt
records_fit most deep body.Revoke h = tt
records_fit most deep (body.KeepAlive lease ttl) h = tt
records_fit most deep (body.TimeToLive lease ttl granted keys) h = tt
records_fit most deep (body.Leases leases) h = tt

abbrev WrittenFits : Option Written → Type 0
WrittenFits None = Unit {0}
WrittenFits (Some (Wrote reply)) = Unit {0}
WrittenFits (Some (Blocked os)) = AllOf OwnerFits os

owners_fit : (most : ℕ) (p : List ℕ) (bs : List Body) → most ≤ max_number → AllOf (BodyFits most 127) bs → AllOf OwnerFits (owners_in p bs)
owners_fit most p bs l h =
    all_map (KvFits most) OwnerFits (owner_of p) (λ kv k. shown_owner most p kv l k) (flat_map records_of bs) (all_flat (BodyFits most 127) (KvFits most) records_of (λ b k. records_fit most 127 b k) bs h)

written_fits : (most : ℕ) (p : List ℕ) (q : Request) (reply : Reply) → most ≤ max_number → ReplyFits most reply → WrittenFits (written p q reply)
written_fits most p q reply l h = by_branch (fits_txn (guarded p q (λ k. 0)) reply.body) (branch_of reply.body) (branch_fits most reply.body h.1)
  where
    by_ran : (succeeded : Bool) (bs : List Body) → AllOf (BodyFits most 127) bs → WrittenFits (Some (written_of p q reply.header succeeded bs))
    by_ran true bs f = tt
    by_ran false bs f = owners_fit most p bs l f

    by_branch : (fits : Bool) (o : Option (Bool × List Body)) → BranchFits most o → WrittenFits (reading fits o (written_of p q reply.header))
    by_branch fits None f = tt
    by_branch true (Some ran) f = by_ran ran.0 ran.1 f
    by_branch false (Some ran) f = tt

-- ---- foreign ownership

by_key_fits : (found : Keyed Owner) (os : List Owner) → KeyedFits OwnerFits found → AllOf OwnerFits os → KeyedFits OwnerFits (by_key found os)
by_key_fits found [] h f = h
by_key_fits found (o ∷ os) h f = by_key_fits (with_at found o.key (Some o)) os (with_at_fits OwnerFits found o.key (Some o) f.0.key f.0 h) f.1

owned_left_fits : (session : Option ℕ) (os : Keyed Owner) (es : Keyed Entry) → KeyedFits OwnerFits os → KeyedFits EntryFits es → KeyedFits EntryFits (owned_left session os es)
owned_left_fits session [] es f h = h
owned_left_fits session (o ∷ os) es f h =
    owned_left_fits session os (cond (is_own session es o) (with_at es o.0 (Some (own_entry o.1.create))) es) f.1
    (either (KeyedFits EntryFits) (is_own session es o) (with_at es o.0 (Some (own_entry o.1.create))) es (with_at_fits EntryFits es o.0 (Some (own_entry o.1.create)) f.0.0 f.0.1.create h) h)

finding_fits : (session : Option ℕ) (q : Write → Bool) (os : Keyed Owner) (own : Ownership) (es : Keyed Entry) → KeyedFits OwnerFits os → KeyedFits EntryFits es → OwnFits own → OwnFits (finding session q os own es)
finding_fits session q os own es f e h =
    let found = map (found_of own.waits.step) (others session es os) in
    record {
      prefix = h.prefix;
      entries = owned_left_fits session os es f e;
      writes = with_first_fits q (Finds found) own.waits.writes
          (all_map _ FoundFits (found_of own.waits.step) (λ o n. (n.0, n.1.create)) (others session es os) (all_filter _ (λ o. not (is_own session es o)) os f)) h.writes;
    }

-- ---- answers and losses of writes' calls

abbrev pub EndingIf : Option Ending → Type 0
EndingIf o = If (λ (x : Ending). OwnFits x.own) o

ended_fits : (own : Ownership) (es : Keyed Entry) (q : Write → Bool) → KeyedFits EntryFits es → OwnFits own → OwnFits (ended_by own es q)
ended_fits own es q e h = record { prefix = h.prefix; entries = e; writes = without_first_fits q own.waits.writes h.writes }

staged_fits : (own : Ownership) (es : Keyed Entry) (q : Write → Bool) (s : WriteStage) → KeyedFits EntryFits es → StageFits s → OwnFits own → OwnFits (staged_by own es q s)
staged_fits own es q s e f h = record { prefix = h.prefix; entries = e; writes = with_first_fits q s own.waits.writes f h.writes }

-- a change of what an owner writes keeps create revisions
owned_change : (w : Write) (f : List ℕ → Entry → Entry) → ((k : List ℕ) (e : Entry) → EntryFits e → EntryFits (f k e)) → (es : Keyed Entry) → KeyedFits EntryFits es → KeyedFits EntryFits (change_owned w f es)
owned_change w f g es h = each_fits EntryFits _ (λ k e n. either EntryFits (owns w k && is_writing_phase e.phase) (f k e) e (g k e n) n) es h

unwrote_fits : (w : Write) (es : Keyed Entry) → KeyedFits EntryFits es → KeyedFits EntryFits (unwrote_entries w es)
unwrote_fits w es h = owned_change w (λ k e. unwritten e) (λ k e n. n) es h

left_fits : (w : Write) (es : Keyed Entry) → KeyedFits EntryFits es → KeyedFits EntryFits (left_entries w es)
left_fits w es h = owned_change w (λ k e. leaving e) (λ k e n. n) es h

kept_fits : (w : Write) (os : List Owner) (es : Keyed Entry) → KeyedFits EntryFits es → KeyedFits EntryFits (kept_entries w os es)
kept_fits w os es h = unwrote_fits w (without (is_gone w es os) es) (without_fits EntryFits (is_gone w es os) es h)

failed_fits : (session : Option ℕ) (q : Write → Bool) (w : Write) (os : List Owner) (own : Ownership) → AllOf OwnerFits os → OwnFits own → OwnFits (failed session q w os own)
failed_fits session q w os own f h =
    let others = other_owners w own.entries os in
    either OwnFits (is_owner w.stage && is_single w.request) (staged_by own (without (owns_at w own.entries) own.entries) q (Sends false (sending.Due own.waits.step))) (finding session q (by_key [] others) own (kept_entries w os own.entries))
    (staged_fits own (without (owns_at w own.entries) own.entries) q (Sends false (sending.Due own.waits.step)) (without_fits EntryFits (owns_at w own.entries) own.entries h.entries) tt h)
    (finding_fits session q (by_key [] others) own (kept_entries w os own.entries) (by_key_fits [] others tt (all_filter OwnerFits (λ o. not (is_kept w own.entries os o.key)) os f)) (kept_fits w os own.entries h.entries) h)

done_fits : (session : Option ℕ) (q : Write → Bool) (w : Write) (o : Option Written) (own : Ownership) → WrittenFits o → OwnFits own → EndingIf (done_if session q w o own)
done_fits session q w None own f h = tt
done_fits session q w (Some (Wrote reply)) own f h = ended_fits own (wrote_entries w reply own.entries) q (owned_change w _ (λ k e n. n) own.entries h.entries) h
done_fits session q w (Some (Blocked os)) own f h = failed_fits session q w os own f h

write_fits_by : (most : ℕ) (session : Option ℕ) (q : Write → Bool) (o : Option Write) (a : Answer) (own : Ownership) → most ≤ max_number → AnswerFits most a → WriteIf o → OwnFits own → EndingIf (write_answered session q o a own)
write_fits_by most session q None a own l f k h = h
write_fits_by most session q (Some w) (answer.Done reply) own l f k h = done_fits session q w (written own.waits.prefix w.request reply) own (written_fits most own.waits.prefix w.request reply l f) h
write_fits_by most session q (Some w) (answer.Refused r) own l f k h = ended_fits own (unwrote_entries w own.entries) q (unwrote_fits w own.entries h.entries) h

asked_stage : (call : ℕ) (held : Bool) (s : WriteStage) → StageFits s → StageFits (stage_asked call held s)
asked_stage call held Waiting h = tt
asked_stage call held (Sends owner s) h = tt
asked_stage call held (Finds found) h = all_map FoundFits FoundFits (asked_back call held) (λ f n. either FoundFits (is_asked_as call f) _ f n n) found h

back_fits : (q : Write → Bool) (call : ℕ) (w : Write) (o : Option Bool) (own : Ownership) → WriteFits w → OwnFits own → EndingIf (revoke_back q call w o own)
back_fits q call w None own f h = tt
back_fits q call w (Some held) own f h = staged_fits own own.entries q (stage_asked call held w.stage) h.entries (asked_stage call held w.stage f.stage) h

revoke_fits_by : (q : Write → Bool) (call : ℕ) (o : Option Write) (a : Answer) (own : Ownership) → WriteIf o → OwnFits own → EndingIf (revoke_answered q call o a own)
revoke_fits_by q call None a own k h = h
revoke_fits_by q call (Some w) (answer.Done reply) own k h = back_fits q call w (guard_held reply.body) own k h
revoke_fits_by q call (Some w) (answer.Refused r) own k h = ended_fits own own.entries q h.entries h

rescinded_fits : (k : List ℕ) (create now : ℕ) (own : Ownership) → OwnFits own → OwnFits (rescinded k create now own)
rescinded_fits k create now own h =
    either OwnFits (is_of create (at own.entries k)) _ own (record { prefix = h.prefix; entries = all_filter _ (λ e. not (same k e.0)) own.entries h.entries; writes = h.writes }) h

read_fits : (o : Option Bool) (own : Ownership) → OwnFits own → EndingIf (if_read o own)
read_fits None own h = tt
read_fits (Some held) own h = h

rescind_fits_by : (a : Answer) (own : Ownership) → OwnFits own → EndingIf (rescind_answered a own)
rescind_fits_by (answer.Done reply) own h = read_fits (guard_held reply.body) own h
rescind_fits_by (answer.Refused r) own h = h

job_fits : (most call : ℕ) (a : Answer) (session : Option ℕ) (now : ℕ) (o : Option WaitJob) (own : Ownership) → most ≤ max_number → AnswerFits most a → OwnFits own → EndingIf (answered_job call a session now o own)
job_fits most call a session now None own l f h = h
job_fits most call a session now (Some (job.Rescind k create)) own l f h = rescind_fits_by a (rescinded k create now own) (rescinded_fits k create now own h)
job_fits most call a session now (Some (job.Revoke k)) own l f h = revoke_fits_by (asks call) call (first_by (asks call) own.waits.writes) a own (first_fits (asks call) own.waits.writes h.writes) h
job_fits most call a session now (Some job.Write) own l f h = write_fits_by most session (sends call) (first_by (sends call) own.waits.writes) a own l f (first_fits (sends call) own.waits.writes h.writes) h

out_fits : (call : ℕ) (own : Ownership) → OwnFits own → OwnFits (without_out call own)
out_fits call own h = record { prefix = h.prefix; entries = h.entries; writes = h.writes }

pub answered_fits : (most call : ℕ) (a : Answer) (session : Option ℕ) (now : ℕ) (own : Ownership) → most ≤ max_number → AnswerFits most a → OwnFits own → EndingIf (answered call a session now own)
unfolding answered
answered_fits most call a session now own l f h = job_fits most call a session now (job_of call own.waits.out) (without_out call own) l f (out_fits call own h)

write_lost_fits : (q : Write → Bool) (o : Option Write) (own : Ownership) → OwnFits own → OwnFits (write_lost q o own).own
write_lost_fits q None own h = h
write_lost_fits q (Some w) own h = ended_fits own (left_entries w own.entries) q (left_fits w own.entries h.entries) h

-- a change at one key that keeps the create revision, where something stands there
changed_entry : (k : List ℕ) (f : Entry → Entry) (es : Keyed Entry) → ((e : Entry) → EntryFits e → EntryFits (f e)) → KeyedFits EntryFits es → KeyedFits EntryFits (changed_at es k f)
changed_entry k f es g h = changed_there EntryFits es k f g h

lost_job_fits : (call : ℕ) (o : Option WaitJob) (own : Ownership) → OwnFits own → OwnFits (lost_job call o own).own
lost_job_fits call None own h = h
lost_job_fits call (Some (job.Rescind k create)) own h =
    record { prefix = h.prefix; entries = changed_entry k (λ e. cond (e.create == create) (rescind_sent false e) e) own.entries (λ e n. either EntryFits (e.create == create) (rescind_sent false e) e n n) h.entries; writes = h.writes }
lost_job_fits call (Some (job.Revoke k)) own h = write_lost_fits (asks call) (first_by (asks call) own.waits.writes) own h
lost_job_fits call (Some job.Write) own h = write_lost_fits (sends call) (first_by (sends call) own.waits.writes) own h

pub lost_fits : (call : ℕ) (own : Ownership) → OwnFits own → OwnFits (lost call own).own
unfolding lost
lost_fits call own h = lost_job_fits call (job_of call own.waits.out) (without_out call own) (out_fits call own h)

-- ---- a request timed out or left

given_back_fits : (w : Write) (es : Keyed Entry) → KeyedFits EntryFits es → KeyedFits EntryFits (given_back w es)
given_back_fits w es h = either (KeyedFits EntryFits) (is_due w.stage) (unwrote_entries w es) (left_entries w es) (unwrote_fits w es h) (left_fits w es h)

forgotten_by_fits : (q : Write → Bool) (o : Option Write) (own : Ownership) → OwnFits own → OwnFits (forgotten_by q o own)
forgotten_by_fits q None own h = h
forgotten_by_fits q (Some w) own h = ended_fits own (given_back w own.entries) q (given_back_fits w own.entries h.entries) h

pub forgotten_fits : (ticket : ℕ) (own : Ownership) → OwnFits own → OwnFits (forgotten ticket own)
unfolding forgotten
forgotten_fits ticket own h = forgotten_by_fits (has_ticket ticket) (first_by (has_ticket ticket) own.waits.writes) own h

-- ---- the leasing stream

gone_stage : (p : List ℕ → Bool) (s : WriteStage) → StageFits s → StageFits (stage_gone p s)
gone_stage p Waiting h = tt
gone_stage p (Sends owner s) h = tt
gone_stage p (Finds found) h = all_map FoundFits FoundFits (λ f. gone_if (p f.key) f) (λ f n. either FoundFits (p f.key) _ f n n) found h

pub gone_fits : (p : List ℕ → Bool) (own : Ownership) → OwnFits own → OwnFits (found_gone p own)
gone_fits p own h =
    record { prefix = h.prefix; entries = h.entries; writes = all_map WriteFits WriteFits (write_gone p) (λ w f. with_stage w (stage_gone p w.stage) f (gone_stage p w.stage f.stage)) own.waits.writes h.writes }

pub given_up_fits : (own : Ownership) → OwnFits own → OwnFits (all_given_up own)
given_up_fits own h = record { prefix = h.prefix; entries = each_fits EntryFits (λ k e. given_up e) (λ k e n. n) own.entries h.entries; writes = h.writes }

turned_fits : (session : Option ℕ) (create lease : ℕ) (o : Option Entry) → Number create → If EntryFits o → If EntryFits (revoked_turn session create lease o)
turned_fits session create lease None n h = either (If EntryFits) (is_session session lease) (Some (own_entry create)) None n tt
turned_fits session create lease (Some e) n h = either (If EntryFits) (e.create == create) (Some (given_up e)) (Some e) h h

put_noticed_fits : (session : Option ℕ) (k : List ℕ) (create lease : ℕ) (own : Ownership) → Bytes k → Number create → OwnFits own → OwnFits (put_noticed session k create lease own)
put_noticed_fits session k create lease own b n h =
    either OwnFits (is_some (at own.waits.spoiled k)) (acquire_spoiled k own) _
    (record { prefix = h.prefix; entries = h.entries; writes = h.writes })
    (record { prefix = h.prefix; entries = with_at_fits EntryFits own.entries k (revoked_turn session create lease (at own.entries k)) b (turned_fits session create lease (at own.entries k) n (at_fits EntryFits own.entries k h.entries)) h.entries; writes = h.writes })

deleted_phase_fits : (e : Entry) (x : Phase) → EntryFits e → If EntryFits (deleted_phase e x)
deleted_phase_fits e Held h = tt
deleted_phase_fits e (Writing revoked) h = h
deleted_phase_fits e (Leaving sent) h = h

deleted_fits : (revision : ℕ) (o : Option Entry) → If EntryFits o → If EntryFits (deleted_turn revision o)
deleted_fits revision None h = tt
deleted_fits revision (Some e) h = either (If EntryFits) (nat_lt e.create revision) (deleted_phase e e.phase) (Some e) (deleted_phase_fits e e.phase h) h

noticed_fits : (most : ℕ) (session : Option ℕ) (c : Change) (own : Ownership) → most ≤ max_number → ChangeFits most c → OwnFits own → OwnFits (noticed session c own)
noticed_fits most session (change.Put kv) own l f h =
    let k = owned_key own.waits.prefix kv.key in
    let b : Bytes k = all_drop IsByte (length own.waits.prefix) kv.key f.key in
    let c = f.create in
    either OwnFits (same kv.value revoke_word) (put_noticed session k kv.create kv.lease own) own (put_noticed_fits session k kv.create kv.lease own b (omega (arith, c, l)) h) h
noticed_fits most session (change.Delete key revision) own l f h =
    let k = owned_key own.waits.prefix key in
    let b : Bytes k = all_drop IsByte (length own.waits.prefix) key f.0 in
    let d = record own { entries = with_at own.entries k (deleted_turn revision (at own.entries k)) } in
    gone_fits (same k) d
    (record { prefix = h.prefix; entries = with_at_fits EntryFits own.entries k (deleted_turn revision (at own.entries k)) b (deleted_fits revision (at own.entries k) (at_fits EntryFits own.entries k h.entries)) h.entries; writes = h.writes })

pub all_noticed_fits : (most : ℕ) (session : Option ℕ) (es : List Event) (own : Ownership) → most ≤ max_number → AllOf (EventFits most) es → OwnFits own → OwnFits (all_noticed session es own)
all_noticed_fits most session [] own l f h = h
all_noticed_fits most session (e ∷ es) own l f h = all_noticed_fits most session es (noticed session e.change own) l f.1 (noticed_fits most session e.change own l f.0.0 h)
