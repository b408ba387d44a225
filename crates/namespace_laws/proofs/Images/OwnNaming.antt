-- Whatever is done to the lease table and the waiting writes keeps them named.
use Rattle.std.proofs.Common.{◌≡◌, ℕ, Bool, true, false, not, cond, ◌&&◌, ◌||◌, ◌==◌, List, [], ◌∷◌, Option, None, Some, is_some, refl, ap, ◌∙◌}
use Rattle.std.specs.List.{list_any, list_all}
use Rattle.etcd_types.specs.Keys.{same}
use Rattle.etcd_types.specs.declared.answer.Answer.{Answer}
use Rattle.etcd_types.specs.declared.answer.Answer.TheVariants as answer
use Rattle.etcd_types.specs.declared.request.Request.{Request}
use Rattle.etcd_types.specs.declared.watch.Change.{Change}
use Rattle.etcd_types.specs.declared.watch.Change.TheVariants as change
use Rattle.etcd_types.specs.declared.watch.Event.{Event}
use Rattle.etcd_types.proofs.Bools.{and_first, and_second, and_both}
use Rattle.proxy_model.specs.declared.lease.Entry.{Entry}
use Rattle.proxy_model.specs.declared.ownership.Owner.{Owner}
use Rattle.proxy_model.specs.declared.ownership.Written.{Written}
use Rattle.proxy_model.specs.declared.ownership.Written.TheVariants.{Wrote, Blocked}
use Rattle.proxy_model.specs.Foreign.{revoke_word}
use Rattle.proxy_model.specs.Guarded.{written}
use Rattle.proxy_model.specs.Keyed.{Keyed, at, with_at, changed_at}
use Rattle.proxy_model.specs.Leaving.{guard_held}
use Rattle.wait_model.specs.declared.wait.WaitJob.{WaitJob}
use Rattle.wait_model.specs.declared.wait.WaitJob.TheVariants as job
use Rattle.wait_model.specs.declared.write.Write.{Write}
use Rattle.wait_model.specs.declared.write.WriteStage.{WriteStage}
use Rattle.wait_model.specs.Asked.{new_write, submitted, acquire_spoiled}
use Rattle.wait_model.specs.Covers.{is_single, is_by_keys, shares}
use Rattle.wait_model.specs.Edits.{each}
use Rattle.wait_model.specs.Endings.{revoke_back, revoke_answered, answered_job, without_out, answered, lost_job, lost, forgotten_by, forgotten}
use Rattle.wait_model.specs.ForeignOwnership.{stage_asked, write_gone, found_gone}
use Rattle.wait_model.specs.GuardedAnswers.{Ending, failed, done_if, write_answered, write_lost}
use Rattle.wait_model.specs.Leaving.{rescinded, if_read, rescind_answered}
use Rattle.wait_model.specs.LeasingStream.{all_given_up}
use Rattle.wait_model.specs.Notices.{owned_key, noticed, all_noticed, put_noticed, delete_noticed}
use Rattle.wait_model.specs.Passes.{goes, turn, Pass, passed, proceeded}
use Rattle.wait_model.specs.Phases.{is_of, is_leaving, rescind_sent}
use Rattle.wait_model.specs.SessionEnd.{write_ended, session_ended}
use Rattle.wait_model.specs.SeveralKeys.{by_ranges, any_covered, given_up_over, spoiled_over}
use Rattle.wait_model.specs.SingleKeys.{Turn, by_keys, keys_begun, let_go_leased, begun_over, any_key}
use Rattle.wait_model.specs.Stages.{staged, stage_on, gone_on, is_owner, is_waiting}
use Rattle.wait_model.specs.State.{Ownership}
use Rattle.wait_model.specs.Writes.{first_by, with_first, without_first, sends, asks, job_of, has_ticket}
use Rattle.core_laws.proofs.Steps.Lists.{all_mapped, all_pushed}
use Rattle.namespace_laws.specs.Images.Named.{is_leasing, has_keys, entry_named, write_named, OwnNamed}

pub either : {A : Type 0} (P : A → Type 0) (b : Bool) (x y : A) → P x → P y → P (cond b x y)
either P true x y f g = f
either P false x y f g = g

-- Entries. With leasing all are; and a change that makes nothing of nothing keeps them so.

pub all_leased : (p : List ℕ) → is_leasing p ≡ true → (es : Keyed Entry) → list_all (entry_named p) es ≡ true
all_leased p h [] = refl
all_leased p h (e ∷ es) = and_both (is_leasing p) (list_all (entry_named p) es) h (all_leased p h es)

pub still_named : (p : List ℕ) (f : Keyed Entry → Keyed Entry) → f [] ≡ [] → (es : Keyed Entry) → list_all (entry_named p) es ≡ true → list_all (entry_named p) (f es) ≡ true
still_named p f e [] h = ap (list_all (entry_named p)) e
still_named p f e (x ∷ es) h = all_leased p (and_first (is_leasing p) (list_all (entry_named p) es) h) (f (x ∷ es))

-- Writes.

abbrev pub AreNamed : List ℕ → List Write → Type 0
AreNamed p ws = list_all (write_named p) ws ≡ true

abbrev pub WriteIf : List ℕ → Option Write → Type 0
WriteIf p None = Unit {0}
WriteIf p (Some w) = write_named p w ≡ true

pub first_named : (p : List ℕ) (q : Write → Bool) (ws : List Write) → AreNamed p ws → WriteIf p (first_by q ws)
first_named p q [] h = tt
first_named p q (w ∷ ws) h =
    either (WriteIf p) (q w) (Some w) (first_by q ws) (and_first (write_named p w) (list_all (write_named p) ws) h) (first_named p q ws (and_second (write_named p w) (list_all (write_named p) ws) h))

pub with_first_named : (p : List ℕ) (q : Write → Bool) (s : WriteStage) (ws : List Write) → AreNamed p ws → AreNamed p (with_first q s ws)
with_first_named p q s [] h = refl
with_first_named p q s (w ∷ ws) h =
    let f = and_first (write_named p w) (list_all (write_named p) ws) h in
    either (AreNamed p) (q w) (staged w s ∷ ws) (w ∷ with_first q s ws) h
    (and_both (write_named p w) (list_all (write_named p) (with_first q s ws)) f (with_first_named p q s ws (and_second (write_named p w) (list_all (write_named p) ws) h)))

without_first_named : (p : List ℕ) (q : Write → Bool) (ws : List Write) → AreNamed p ws → AreNamed p (without_first q ws)
without_first_named p q [] h = refl
without_first_named p q (w ∷ ws) h =
    let f = and_first (write_named p w) (list_all (write_named p) ws) h in
    let r = and_second (write_named p w) (list_all (write_named p) ws) h in
    either (AreNamed p) (q w) ws (w ∷ without_first q ws) r (and_both (write_named p w) (list_all (write_named p) (without_first q ws)) f (without_first_named p q ws r))

pub leased_by : (p : List ℕ) (w : Write) → write_named p w ≡ true → is_leasing p ≡ true
leased_by p w h = and_first (is_leasing p) (has_keys w.request) h

-- with leasing, whatever entries there are
pub leased_own : (p : List ℕ) (own next : Ownership) → is_leasing p ≡ true → next.waits.prefix ≡ own.waits.prefix → AreNamed p next.waits.writes → OwnNamed p own → OwnNamed p next
leased_own p own next l e ws h = record { prefix = e ∙ h.prefix; entries = all_leased p l next.entries; writes = ws }

-- Waiting writes go on.

record TurnNamed (p : List ℕ) (t : Turn) : Type 0 where
  entries : list_all (entry_named p) t.entries ≡ true
  write : write_named p t.write ≡ true

by_ranges_named : (p : List ℕ) (step : ℕ) (es : Keyed Entry) (ss : Keyed Bool) (w : Write) → write_named p w ≡ true → TurnNamed p (by_ranges step es ss w)
by_ranges_named p step es ss w h = record {
  entries = all_leased p (leased_by p w h) (each (given_up_over w) es);
  write = either (λ (v : Write). write_named p v ≡ true) (any_covered w (each (given_up_over w) es) || any_covered w (each (spoiled_over w) ss)) w (gone_on step false w) h h;
}

keys_begun_named : (p : List ℕ) (step : ℕ) (es : Keyed Entry) (ss : Keyed Bool) (w : Write) → write_named p w ≡ true → TurnNamed p (keys_begun step es ss w)
keys_begun_named p step es ss w h =
    let l = leased_by p w h in
    either (TurnNamed p) (any_key w (λ k. is_leaving (at es k))) (record { entries = es; spoiled = ss; write = w }) (record { entries = each (begun_over w) es; spoiled = ss; write = gone_on step (any_key w (λ k. is_some (at es k))) w })
    (record { entries = all_leased p l es; write = h }) (record { entries = all_leased p l (each (begun_over w) es); write = h })

by_keys_named : (p : List ℕ) (step : ℕ) (es : Keyed Entry) (ss : Keyed Bool) (w : Write) → write_named p w ≡ true → TurnNamed p (by_keys step es ss w)
by_keys_named p step es ss w h =
    either (TurnNamed p) (any_key w (λ k. is_some (at ss k))) _ (keys_begun step (each (let_go_leased w) es) ss w)
    (record { entries = all_leased p (leased_by p w h) es; write = h }) (keys_begun_named p step (each (let_go_leased w) es) ss w h)

turn_named : (p : List ℕ) (step : ℕ) (earlier : List Write) (es : Keyed Entry) (ss : Keyed Bool) (w : Write) → write_named p w ≡ true → TurnNamed p (turn step earlier es ss w)
turn_named p step earlier es ss w h =
    let v = staged w (stage_on w.stage) in
    either (TurnNamed p) (is_waiting v.stage && not (list_any (shares w) earlier)) (goes step es ss v) _
    (either (TurnNamed p) (is_by_keys v) (by_keys step es ss v) (by_ranges step es ss v) (by_keys_named p step es ss v h) (by_ranges_named p step es ss v h))
    (record { entries = all_leased p (leased_by p w h) es; write = h })

record PassNamed (p : List ℕ) (x : Pass) : Type 0 where
  entries : list_all (entry_named p) x.entries ≡ true
  writes : AreNamed p x.writes

passed_named : (p : List ℕ) (step : ℕ) (earlier : List Write) (es : Keyed Entry) (ss : Keyed Bool) (ws : List Write) → list_all (entry_named p) es ≡ true → AreNamed p ws → PassNamed p (passed step earlier es ss ws)
unfolding passed
passed_named p step earlier es ss [] e h = record { entries = e; writes = refl }
passed_named p step earlier es ss (w ∷ ws) e h =
    let t = turn step earlier es ss w in
    let n = turn_named p step earlier es ss w (and_first (write_named p w) (list_all (write_named p) ws) h) in
    let r = passed_named p step (t.write ∷ earlier) t.entries t.spoiled ws n.entries (and_second (write_named p w) (list_all (write_named p) ws) h) in
    record { entries = r.entries; writes = and_both (write_named p t.write) (list_all (write_named p) (passed step (t.write ∷ earlier) t.entries t.spoiled ws).writes) n.write r.writes }

pub proceeded_named : (p : List ℕ) (own : Ownership) → OwnNamed p own → OwnNamed p (proceeded own)
proceeded_named p own h =
    let r = passed_named p own.waits.step [] own.entries own.waits.spoiled own.waits.writes h.entries h.writes in
    record { prefix = h.prefix; entries = r.entries; writes = r.writes }

-- A write is handed in, and a session ends.

pub submitted_named : (p : List ℕ) (ticket : ℕ) (q : Request) (own : Ownership) → is_leasing p ≡ true → has_keys q ≡ true → OwnNamed p own → OwnNamed p (submitted ticket q own)
submitted_named p ticket q own l k h =
    record { prefix = h.prefix; entries = h.entries; writes = all_pushed (write_named p) (new_write ticket q) own.waits.writes h.writes (and_both (is_leasing p) (has_keys q) l k) }

pub session_ended_named : (p : List ℕ) (own : Ownership) → OwnNamed p own → OwnNamed p (session_ended own)
session_ended_named p own h =
    record { prefix = h.prefix; entries = refl; writes = all_mapped (write_named p) (write_named p) write_ended (λ w k. k) own.waits.writes h.writes }

-- Answers and losses of writes' calls.

abbrev pub NamedIf : List ℕ → Option Ending → Type 0
NamedIf p None = Unit {0}
NamedIf p (Some x) = OwnNamed p x.own

failed_named : (p : List ℕ) (session : Option ℕ) (q : Write → Bool) (w : Write) (os : List Owner) (own : Ownership) → is_leasing p ≡ true → OwnNamed p own → OwnNamed p (failed session q w os own)
failed_named p session q w os own l h =
    either (OwnNamed p) (is_owner w.stage && is_single w.request) _ _
    (leased_own p own _ l refl (with_first_named p q _ own.waits.writes h.writes) h)
    (leased_own p own _ l refl (with_first_named p q _ own.waits.writes h.writes) h)

done_named : (p : List ℕ) (session : Option ℕ) (q : Write → Bool) (w : Write) (o : Option Written) (own : Ownership) → is_leasing p ≡ true → OwnNamed p own → NamedIf p (done_if session q w o own)
done_named p session q w None own l h = tt
done_named p session q w (Some (Wrote reply)) own l h = leased_own p own _ l refl (without_first_named p q own.waits.writes h.writes) h
done_named p session q w (Some (Blocked os)) own l h = failed_named p session q w os own l h

write_named_by : (p : List ℕ) (session : Option ℕ) (q : Write → Bool) (o : Option Write) (a : Answer) (own : Ownership) → WriteIf p o → OwnNamed p own → NamedIf p (write_answered session q o a own)
write_named_by p session q None a own k h = h
write_named_by p session q (Some w) (answer.Done reply) own k h = done_named p session q w (written own.waits.prefix w.request reply) own (leased_by p w k) h
write_named_by p session q (Some w) (answer.Refused r) own k h = leased_own p own _ (leased_by p w k) refl (without_first_named p q own.waits.writes h.writes) h

back_named : (p : List ℕ) (q : Write → Bool) (call : ℕ) (w : Write) (o : Option Bool) (own : Ownership) → is_leasing p ≡ true → OwnNamed p own → NamedIf p (revoke_back q call w o own)
back_named p q call w None own l h = tt
back_named p q call w (Some held) own l h = leased_own p own _ l refl (with_first_named p q (stage_asked call held w.stage) own.waits.writes h.writes) h

revoke_named : (p : List ℕ) (q : Write → Bool) (call : ℕ) (o : Option Write) (a : Answer) (own : Ownership) → WriteIf p o → OwnNamed p own → NamedIf p (revoke_answered q call o a own)
revoke_named p q call None a own k h = h
revoke_named p q call (Some w) (answer.Done reply) own k h = back_named p q call w (guard_held reply.body) own (leased_by p w k) h
revoke_named p q call (Some w) (answer.Refused r) own k h = leased_own p own _ (leased_by p w k) refl (without_first_named p q own.waits.writes h.writes) h

rescinded_named : (p : List ℕ) (k : List ℕ) (create now : ℕ) (own : Ownership) → OwnNamed p own → OwnNamed p (rescinded k create now own)
rescinded_named p k create now own h =
    either (OwnNamed p) (is_of create (at own.entries k)) _ own
    (record { prefix = h.prefix; entries = still_named p (λ (es : Keyed Entry). with_at es k None) refl own.entries h.entries; writes = h.writes }) h

read_named : (p : List ℕ) (o : Option Bool) (own : Ownership) → OwnNamed p own → NamedIf p (if_read o own)
read_named p None own h = tt
read_named p (Some held) own h = h

rescind_named : (p : List ℕ) (a : Answer) (own : Ownership) → OwnNamed p own → NamedIf p (rescind_answered a own)
rescind_named p (answer.Done reply) own h = read_named p (guard_held reply.body) own h
rescind_named p (answer.Refused r) own h = h

job_named : (p : List ℕ) (call : ℕ) (a : Answer) (session : Option ℕ) (now : ℕ) (o : Option WaitJob) (own : Ownership) → OwnNamed p own → NamedIf p (answered_job call a session now o own)
job_named p call a session now None own h = h
job_named p call a session now (Some (job.Rescind k create)) own h = rescind_named p a (rescinded k create now own) (rescinded_named p k create now own h)
job_named p call a session now (Some (job.Revoke k)) own h =
    revoke_named p (asks call) call (first_by (asks call) own.waits.writes) a own (first_named p (asks call) own.waits.writes h.writes) h
job_named p call a session now (Some job.Write) own h =
    write_named_by p session (sends call) (first_by (sends call) own.waits.writes) a own (first_named p (sends call) own.waits.writes h.writes) h

out_named : (p : List ℕ) (call : ℕ) (own : Ownership) → OwnNamed p own → OwnNamed p (without_out call own)
out_named p call own h = record { prefix = h.prefix; entries = h.entries; writes = h.writes }

pub answered_named : (p : List ℕ) (call : ℕ) (a : Answer) (session : Option ℕ) (now : ℕ) (own : Ownership) → OwnNamed p own → NamedIf p (answered call a session now own)
unfolding answered
answered_named p call a session now own h = job_named p call a session now (job_of call own.waits.out) (without_out call own) (out_named p call own h)

write_lost_named : (p : List ℕ) (q : Write → Bool) (o : Option Write) (own : Ownership) → WriteIf p o → OwnNamed p own → OwnNamed p (write_lost q o own).own
write_lost_named p q None own k h = h
write_lost_named p q (Some w) own k h = leased_own p own _ (leased_by p w k) refl (without_first_named p q own.waits.writes h.writes) h

lost_job_named : (p : List ℕ) (call : ℕ) (o : Option WaitJob) (own : Ownership) → OwnNamed p own → OwnNamed p (lost_job call o own).own
lost_job_named p call None own h = h
lost_job_named p call (Some (job.Rescind k create)) own h =
    record { prefix = h.prefix; entries = still_named p (λ (es : Keyed Entry). changed_at es k (λ e. cond (e.create == create) (rescind_sent false e) e)) refl own.entries h.entries; writes = h.writes }
lost_job_named p call (Some (job.Revoke k)) own h = write_lost_named p (asks call) (first_by (asks call) own.waits.writes) own (first_named p (asks call) own.waits.writes h.writes) h
lost_job_named p call (Some job.Write) own h = write_lost_named p (sends call) (first_by (sends call) own.waits.writes) own (first_named p (sends call) own.waits.writes h.writes) h

pub lost_named : (p : List ℕ) (call : ℕ) (own : Ownership) → OwnNamed p own → OwnNamed p (lost call own).own
unfolding lost
lost_named p call own h = lost_job_named p call (job_of call own.waits.out) (without_out call own) (out_named p call own h)

-- A request timed out or left.

forgotten_by_named : (p : List ℕ) (q : Write → Bool) (o : Option Write) (own : Ownership) → WriteIf p o → OwnNamed p own → OwnNamed p (forgotten_by q o own)
forgotten_by_named p q None own k h = h
forgotten_by_named p q (Some w) own k h = leased_own p own _ (leased_by p w k) refl (without_first_named p q own.waits.writes h.writes) h

pub forgotten_named : (p : List ℕ) (ticket : ℕ) (own : Ownership) → OwnNamed p own → OwnNamed p (forgotten ticket own)
unfolding forgotten
forgotten_named p ticket own h = forgotten_by_named p (has_ticket ticket) (first_by (has_ticket ticket) own.waits.writes) own (first_named p (has_ticket ticket) own.waits.writes h.writes) h

-- The leasing stream. It stands only with leasing.

pub gone_named : (p : List ℕ) (q : List ℕ → Bool) (own : Ownership) → OwnNamed p own → OwnNamed p (found_gone q own)
gone_named p q own h =
    record { prefix = h.prefix; entries = h.entries; writes = all_mapped (write_named p) (write_named p) (write_gone q) (λ w k. k) own.waits.writes h.writes }

pub given_up_named : (p : List ℕ) (own : Ownership) → is_leasing p ≡ true → OwnNamed p own → OwnNamed p (all_given_up own)
given_up_named p own l h = leased_own p own (all_given_up own) l refl h.writes h

put_noticed_named : (p : List ℕ) (session : Option ℕ) (k : List ℕ) (create lease : ℕ) (own : Ownership) → is_leasing p ≡ true → OwnNamed p own → OwnNamed p (put_noticed session k create lease own)
put_noticed_named p session k create lease own l h =
    either (OwnNamed p) (is_some (at own.waits.spoiled k)) (acquire_spoiled k own) _
    (record { prefix = h.prefix; entries = h.entries; writes = h.writes }) (leased_own p own _ l refl h.writes h)

noticed_named : (p : List ℕ) (session : Option ℕ) (c : Change) (own : Ownership) → is_leasing p ≡ true → OwnNamed p own → OwnNamed p (noticed session c own)
noticed_named p session (change.Put kv) own l h =
    let k = owned_key own.waits.prefix kv.key in
    either (OwnNamed p) (same kv.value revoke_word) (put_noticed session k kv.create kv.lease own) own (put_noticed_named p session k kv.create kv.lease own l h) h
noticed_named p session (change.Delete k revision) own l h =
    leased_own p own (delete_noticed (owned_key own.waits.prefix k) revision own) l refl
    (all_mapped (write_named p) (write_named p) (write_gone (same (owned_key own.waits.prefix k))) (λ w k. k) own.waits.writes h.writes) h

pub all_noticed_named : (p : List ℕ) (session : Option ℕ) (es : List Event) (own : Ownership) → is_leasing p ≡ true → OwnNamed p own → OwnNamed p (all_noticed session es own)
all_noticed_named p session [] own l h = h
all_noticed_named p session (e ∷ es) own l h = all_noticed_named p session es (noticed session e.change own) l (noticed_named p session e.change own l h)
