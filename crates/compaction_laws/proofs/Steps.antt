-- Every step of two states of which the same is kept: the same answer, and states of which the same is kept.
use Rattle.std.proofs.Common.{◌≡◌, ℕ, ◌+◌, ◌-◌, ◌≤◌, ◌==◌, ◌&&◌, ◌||◌, not, nat_lt, nat_le, max, pos, negsuc, Bool, true, false, cond, List, [], ◌∷◌, Option, None, Some, Result, Ok, Err, map, set, refl, ap, subst, arith, ltb-false}
use Rattle.std.proofs.lemmas.Bool.Decides.{nat_tests}
use Rattle.etcd_types.specs.declared.record.Kv.{Kv}
use Rattle.etcd_types.specs.declared.operation.RangeAsk.{RangeAsk}
use Rattle.etcd_types.specs.declared.operation.Op.{Op}
use Rattle.etcd_types.specs.declared.operation.Op.TheVariants.{Range, Put, Delete, Txn}
use Rattle.etcd_types.specs.declared.request.Request.{Request}
use Rattle.etcd_types.specs.declared.request.Request.TheVariants as request
use Rattle.etcd_types.specs.declared.answer.Answer.TheVariants as answer
use Rattle.etcd_types.specs.declared.answer.Body.{Body}
use Rattle.etcd_types.specs.declared.answer.Body.TheVariants as body
use Rattle.etcd_types.specs.declared.answer.Refusal.{Refusal}
use Rattle.etcd_types.specs.declared.watch.Event.{Event}
use Rattle.etcd_types.specs.declared.watch.WatchItem.TheVariants as item
use Rattle.store_model.specs.declared.history.KeyChange.{KeyChange}
use Rattle.store_model.specs.declared.watch.OpenWatch.{OpenWatch}
use Rattle.store_model.specs.declared.store_fault.StoreFault.{StoreFault}
use Rattle.store_model.specs.declared.store_fault.StoreFault.TheVariants as fault
use Rattle.store_model.specs.History.{History, newest, up_to_revision, with_revision}
use Rattle.store_model.specs.Refusals.{compacted_revision, future_revision, lease_not_found, lease_exists, unsupported}
use Rattle.store_model.specs.State.{State, applied_by, header}
use Rattle.store_model.specs.Reads.{read}
use Rattle.store_model.specs.Transactions.{Ran, run, deletion, has_lease}
use Rattle.store_model.specs.FirstRefusals.{first_refusal}
use Rattle.store_model.specs.Leases.{attached, asked_number, granted_lease, granted_ttl, granted, with_lease, without_lease, ended, lease_number, time_to_live, record_key, expired}
use Rattle.store_model.specs.Members.{lacks_member, applied}
use Rattle.store_model.specs.Watches.{Pushed, opened, watch_of, with_next, first_next, next_after, events_for, push_events, push_to, is_nil, is_synced, progress_to, for_watch, pushed, progressed}
use Rattle.store_model.specs.Step.{Step, exec, exec_op, exec_range, done, refused, unless, settled, told_at, read_applied}
use Rattle.compaction_laws.specs.Alike.{KeepSame, Alike}
use Rattle.compaction_laws.specs.Laws.{SameStep, RequestsByKept, SameOutcome, ExpiriesByKept, AppliesByKept, OpeningsByKept, SamePush, MessagesByKept, ProgressByKept}
use Rattle.compaction_laws.proofs.Reading.{kept_agree, earlier_agrees, reads_agree, attached_by_kept}
use Rattle.compaction_laws.proofs.Running.{on, runs_agree}
use Rattle.compaction_laws.proofs.Growing.{keep_grown, keep_compacted, alike_on}
use Rattle.compaction_laws.proofs.TellingHistories.{events_by_kept}

-- answers

same_refused : (s : State) (g : History) → KeepSame s.compacted s.history g → (refusal : Refusal) → SameStep (refused s refusal) (refused (on s g) refusal)
same_refused s g a refusal = record { state = alike_on s g a; answer = refl }

same_done : (s : State) (g : History) → KeepSame s.compacted s.history g → (member : ℕ) (b d : Body) → b ≡ d → SameStep (done s member b) (done (on s g) member d)
same_done s g a member b d e = record {
  state = alike_on s g a;
  answer = λ i. answer.Done (record { header = header member (a.newest i); body = e i });
}

same_either : (b : Bool) (x y v w : Step) → (b ≡ true → SameStep x v) → (b ≡ false → SameStep y w) → SameStep (cond b x y) (cond b v w)
same_either true x y v w f g = f refl
same_either false x y v w f g = g refl

same_unless : (s : State) (g : History) → KeepSame s.compacted s.history g → (o : Option Refusal) (x y : Step) → SameStep x y → SameStep (unless s o x) (unless (on s g) o y)
same_unless s g a None x y h = h
same_unless s g a (Some refusal) x y h = same_refused s g a refusal

same_told : (s : State) (g : History) → KeepSame s.compacted s.history g → (member revision : ℕ) (r : Result Body Refusal)
    → SameStep (told_at s member revision r) (told_at (on s g) member revision r)
same_told s g a member revision (Ok b) = record { state = alike_on s g a; answer = refl }
same_told s g a member revision (Err refusal) = same_refused s g a refusal

-- operations

same_settled : (s : State) (g : History) → KeepSame s.compacted s.history g → (member : ℕ) (ran : Ran) → SameStep (settled s member ran) (settled (on s g) member ran)
same_settled s g a member (Ok ran) =
    same_done (record s { history = with_revision s.history ran.0 }) (with_revision g ran.0) (keep_grown s.compacted s.history g a ran.0) member ran.1 ran.1 refl
same_settled s g a member (Err refusal) = same_refused s g a refusal

same_op : (s : State) (g : History) → KeepSame s.compacted s.history g → (member : ℕ) (op : Op) → SameStep (exec_op s member op) (exec_op (on s g) member op)
same_op s g a member op =
    same_unless s g a (first_refusal op) (settled s member (run s op [])) (settled (on s g) member (run (on s g) op []))
    (subst (λ (ran : Ran). SameStep (settled s member (run s op [])) (settled (on s g) member ran))
    (runs_agree s g (kept_agree s.compacted s.history g a) op []) (same_settled s g a member (run s op [])))

same_applied : (s : State) (g : History) → KeepSame s.compacted s.history g → (member applied : ℕ) (ask : RangeAsk)
    → SameStep (read_applied s member applied ask) (read_applied (on s g) member applied ask)
same_applied s g a member applied ask =
    same_either (nat_lt applied s.compacted) _ _ _ _ (λ e. same_refused s g a compacted_revision)
    (λ e.
    let le : s.compacted ≤ applied = ltb-false applied s.compacted e in
    subst (λ (r : Result Body Refusal). SameStep (told_at s member applied (read (up_to_revision s.history applied) applied s.compacted ask)) (told_at (on s g) member applied r))
    (reads_agree s.compacted (up_to_revision s.history applied) (up_to_revision g applied)
    (earlier_agrees s.compacted s.history g (kept_agree s.compacted s.history g a) applied le) applied ask)
    (same_told s g a member applied (read (up_to_revision s.history applied) applied s.compacted ask)))

same_range : (s : State) (g : History) → KeepSame s.compacted s.history g → (member : ℕ) (ask : RangeAsk) → SameStep (exec_range s member ask) (exec_range (on s g) member ask)
same_range s g a member ask =
    same_either ask.serializable _ _ _ _
    (λ e. same_unless s g a (first_refusal (Range ask)) _ _ (same_applied s g a member (applied_by s member) ask))
    (λ e. same_op s g a member (Range ask))

-- compactions and leases

not_past : (a b : ℕ) → nat_lt a b ≡ false → b ≤ a
not_past a b e = grind (arith, nat_tests)

not_up_to : (a b : ℕ) → nat_le a b ≡ false → b ≤ a
not_up_to a b e = grind (arith, nat_tests)

same_compact : (s : State) (g : History) → KeepSame s.compacted s.history g → (member revision : ℕ) (physical : Bool)
    → SameStep (exec s member (request.Compact revision physical)) (exec (on s g) member (request.Compact revision physical))
unfolding exec
same_compact s g a member revision physical =
    same_either (nat_le revision s.compacted) _ _ _ _ (λ e. same_refused s g a compacted_revision)
    (λ e.
    subst (λ n. SameStep (cond (nat_lt (newest s.history) revision) (refused s future_revision) (done (record s { compacted = revision }) member body.Compact))
    (cond (nat_lt n revision) (refused (on s g) future_revision) (done (record s { history = g; compacted = revision }) member body.Compact))) a.newest
    (same_either (nat_lt (newest s.history) revision) _ _ _ _ (λ f. same_refused s g a future_revision)
    (λ f. same_done (record s { compacted = revision }) g
    (keep_compacted s.compacted revision s.history g a (not_up_to revision s.compacted e) (not_past (newest s.history) revision f)) member body.Compact body.Compact refl)))

ended_on : State → History → ℕ → List Kv → State
ended_on s g number kvs = record s { history = with_revision g (map deletion kvs); leases = without_lease number s.leases }

alike_ended : (s : State) (g : History) → KeepSame s.compacted s.history g → (number : ℕ) → Alike (ended s number) (ended (on s g) number)
unfolding ended_on
alike_ended s g a number =
    let gone : List KeyChange = map deletion (attached s.history number) in
    subst (λ (kvs : List Kv). Alike (ended s number) (ended_on s g number kvs)) (attached_by_kept s.compacted s.history g a number)
    (alike_on (ended s number) (with_revision g gone) (keep_grown s.compacted s.history g a gone))

same_ended : (s : State) (g : History) → KeepSame s.compacted s.history g → (member number : ℕ) → SameStep (done (ended s number) member body.Revoke) (done (ended (on s g) number) member body.Revoke)
same_ended s g a member number =
    let alike = alike_ended s g a number in
    record { state = alike; answer = ap (λ n. answer.Done (record { header = header member n; body = body.Revoke })) alike.history.newest }

same_time : (s : State) (g : History) → KeepSame s.compacted s.history g → (number : ℕ) (known keys : Bool) → time_to_live s number known keys ≡ time_to_live (on s g) number known keys
same_time s g a number known keys =
    ap (λ (kvs : List Kv). cond known (body.TimeToLive number (pos (granted s.leases number)) (granted s.leases number) (cond keys (map record_key kvs) [])) (body.TimeToLive number (negsuc 0) 0 []))
    (attached_by_kept s.compacted s.history g a number)

-- every request

same_exec : (s : State) (g : History) → KeepSame s.compacted s.history g → (member : ℕ) (q : Request) → SameStep (exec s member q) (exec (on s g) member q)
unfolding exec
same_exec s g a member (request.Range ask) = same_range s g a member ask
same_exec s g a member (request.Put ask) = same_op s g a member (Put ask)
same_exec s g a member (request.Delete ask) = same_op s g a member (Delete ask)
same_exec s g a member (request.Txn txn) = same_op s g a member (Txn txn)
same_exec s g a member (request.Compact revision physical) = same_compact s g a member revision physical
same_exec s g a member (request.Grant ttl number) =
    same_either (has_lease s.leases number) _ _ _ _ (λ e. same_refused s g a lease_exists)
    (λ e. same_done (record s { leases = with_lease (granted_lease (asked_number s.leases number) ttl) s.leases }) g a member
    (body.Grant (asked_number s.leases number) (granted_ttl ttl)) (body.Grant (asked_number s.leases number) (granted_ttl ttl)) refl)
same_exec s g a member (request.Revoke number) =
    same_either (has_lease s.leases number) _ _ _ _ (λ e. same_ended s g a member number) (λ e. same_refused s g a lease_not_found)
same_exec s g a member (request.KeepAlive number) =
    same_done s g a member (body.KeepAlive number (granted s.leases number)) (body.KeepAlive number (granted s.leases number)) refl
same_exec s g a member (request.TimeToLive number keys) =
    same_done s g a member (time_to_live s number (has_lease s.leases number) keys) (time_to_live (on s g) number (has_lease s.leases number) keys)
    (same_time s g a number (has_lease s.leases number) keys)
same_exec s g a member request.Leases = same_done s g a member (body.Leases (map lease_number s.leases)) (body.Leases (map lease_number s.leases)) refl
same_exec s g a member (request.Watch ask) = same_refused s g a unsupported

pub requests_by_kept : RequestsByKept
requests_by_kept s t a member q =
    subst (λ (u : State). SameStep (exec s member q) (exec u member q)) a.rest (same_exec s t.history a.history member q)

-- leases that expire, and what members apply

outcome_either : (b : Bool) (x y v w : Result State StoreFault) → SameOutcome x v → SameOutcome y w → SameOutcome (cond b x y) (cond b v w)
outcome_either true x y v w f g = f
outcome_either false x y v w f g = g

pub expiries_by_kept : ExpiriesByKept
unfolding expired
expiries_by_kept s t a lease =
    subst (λ (u : State). SameOutcome (expired s lease) (expired u lease)) a.rest
    (outcome_either (has_lease s.leases lease) _ _ _ _ (alike_ended s t.history a.history lease) refl)

applied_on : State → ℕ → ℕ → ℕ → Result State StoreFault
applied_on s n member revision =
    cond (lacks_member s member) (Err (fault.NoSuchMember member))
    (cond (nat_lt revision (applied_by s member) || nat_lt n revision) (Err (fault.BadApply (applied_by s member) n))
    (Ok (record s { applied = set s.applied (member - 1) revision })))

same_apply : (s : State) (g : History) → KeepSame s.compacted s.history g → (member revision : ℕ) → SameOutcome (applied s member revision) (applied (on s g) member revision)
unfolding applied applied_on
same_apply s g a member revision =
    subst (λ n. SameOutcome (applied_on s (newest s.history) member revision) (applied_on (on s g) n member revision)) a.newest
    (outcome_either (lacks_member s member) _ _ _ _ refl
    (outcome_either (nat_lt revision (applied_by s member) || nat_lt (newest s.history) revision) _ _ _ _ refl
    (alike_on (record s { applied = set s.applied (member - 1) revision }) g a)))

pub applies_by_kept : AppliesByKept
applies_by_kept s t a member revision =
    subst (λ (u : State). SameOutcome (applied s member revision) (applied u member revision)) a.rest (same_apply s t.history a.history member revision)

-- watches

pub openings_by_kept : OpeningsByKept
openings_by_kept s t a member ask =
    subst (λ (u : State). Alike (opened s member ask).0 (opened u member ask).0 × ((opened s member ask).1 ≡ (opened u member ask).1)) a.rest
    (alike_on (opened s member ask).0 t.history a.history, refl)

push_either : (b : Bool) (x y v w : Pushed) → (b ≡ true → SamePush x v) → (b ≡ false → SamePush y w) → SamePush (cond b x y) (cond b v w)
push_either true x y v w f g = f refl
push_either false x y v w f g = g refl

alike_next : (s : State) (g : History) → KeepSame s.compacted s.history g → (number : ℕ) (w : OpenWatch) (m n : ℕ) → m ≡ n → Alike (with_next s number w m) (with_next (on s g) number w n)
alike_next s g a number w m n e =
    subst (λ j. Alike (with_next s number w m) (with_next (on s g) number w j)) e (alike_on (with_next s number w m) g a)

same_events : (s : State) (g : History) → KeepSame s.compacted s.history g → (number : ℕ) (w : OpenWatch) (es : List Event) → SamePush (push_events s number w es) (push_events (on s g) number w es)
same_events s g a number w [] = refl
same_events s g a number w (e ∷ es) = (
  alike_next s g a number w (next_after w.next (e ∷ es)) (next_after w.next (e ∷ es)) refl,
  ap (λ n. item.Events (header w.member n) (e ∷ es)) a.newest,
)

same_push : (s : State) (g : History) → KeepSame s.compacted s.history g → (number : ℕ) (w : OpenWatch) → SamePush (push_to s number w) (push_to (on s g) number w)
same_push s g a number w =
    push_either (w.next == 0) _ _ _ _
    (λ e. (alike_next s g a number w _ _ (ap (λ n. first_next n w.ask.start) a.newest), ap (λ n. item.Created (header w.member n)) a.newest))
    (λ e. push_either (nat_lt w.next s.compacted) _ _ _ _ (λ f. (alike_on s g a, ap (λ n. item.Canceled (header w.member n) s.compacted) a.newest))
    (λ f.
    let le : s.compacted ≤ w.next = ltb-false w.next s.compacted f in
    subst (λ (es : List Event). SamePush (push_events s number w (events_for s w)) (push_events (on s g) number w es))
    (events_by_kept s.compacted s.history g a w.ask w.next le) (same_events s g a number w (events_for s w))))

same_for : (number : ℕ) (o : Option OpenWatch) (f g : OpenWatch → Pushed) → ((w : OpenWatch) → SamePush (f w) (g w)) → SamePush (for_watch number o f) (for_watch number o g)
same_for number None f g h = refl
same_for number (Some w) f g h = h w

same_pushed : (s : State) (g : History) → KeepSame s.compacted s.history g → (number : ℕ) → SamePush (pushed s number) (pushed (on s g) number)
unfolding pushed
same_pushed s g a number = same_for number (watch_of s number) (push_to s number) (push_to (on s g) number) (same_push s g a number)

pub messages_by_kept : MessagesByKept
messages_by_kept s t a number = subst (λ (u : State). SamePush (pushed s number) (pushed u number)) a.rest (same_pushed s t.history a.history number)

synced_gate : (created behind m n : Bool) → (behind ≡ false → m ≡ n) → created && not behind && m ≡ created && not behind && n
synced_gate false behind m n f = refl
synced_gate true true m n f = refl
synced_gate true false m n f = f refl

synced_same : (s : State) (g : History) → KeepSame s.compacted s.history g → (w : OpenWatch) → is_synced s w ≡ is_synced (on s g) w
synced_same s g a w =
    synced_gate (not (w.next == 0)) (nat_lt w.next s.compacted) (is_nil (events_for s w)) (is_nil (events_for (on s g) w))
    (λ e. ap is_nil (events_by_kept s.compacted s.history g a w.ask w.next (ltb-false w.next s.compacted e)))

same_progress : (s : State) (g : History) → KeepSame s.compacted s.history g → (number : ℕ) (w : OpenWatch) → SamePush (progress_to s number w) (progress_to (on s g) number w)
same_progress s g a number w =
    push_either (not w.ask.progress) _ _ _ _ (λ e. refl)
    (λ e.
    subst (λ (b : Bool). SamePush (progress_to' (is_synced s w) s (newest s.history)) (progress_to' b (on s g) (newest g))) (synced_same s g a w)
    (push_either (is_synced s w) _ _ _ _
    (λ f. (alike_next s g a number w _ _ (ap (λ n. max w.next (n + 1)) a.newest), ap (λ n. item.Events (header w.member n) []) a.newest))
    (λ f. ap (fault.NotSynced w.next) a.newest)))
  where
    progress_to' : Bool → State → ℕ → Pushed
    progress_to' b u n = cond b (Ok (with_next u number w (max w.next (n + 1)), item.Events (header w.member n) [])) (Err (fault.NotSynced w.next n))

same_progressed : (s : State) (g : History) → KeepSame s.compacted s.history g → (number : ℕ) → SamePush (progressed s number) (progressed (on s g) number)
unfolding progressed
same_progressed s g a number = same_for number (watch_of s number) (progress_to s number) (progress_to (on s g) number) (same_progress s g a number)

pub progress_by_kept : ProgressByKept
progress_by_kept s t a number = subst (λ (u : State). SamePush (progressed s number) (progressed u number)) a.rest (same_progressed s t.history a.history number)
