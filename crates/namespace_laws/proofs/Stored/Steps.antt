-- Each step of a store under a namespace is that of the store of the bare keys.
use Rattle.std.proofs.Common.{◌≡◌, ℕ, ◌-◌, Bool, true, false, cond, nat_lt, nat_le, List, [], ◌∷◌, ◌++◌, map, filter, Option, None, Some, Result, Ok, Err, pos, refl, sym, ◌∙◌, ap}
use Rattle.std.specs.List.{list_all}
use Rattle.std.proofs.lemmas.List.{take-map}
use Rattle.etcd_types.specs.declared.record.Kv.{Kv}
use Rattle.etcd_types.specs.declared.operation.RangeAsk.{RangeAsk}
use Rattle.etcd_types.specs.declared.operation.Op.{Op}
use Rattle.etcd_types.specs.declared.operation.Op.TheVariants.{Range, Put, Delete, Txn}
use Rattle.etcd_types.specs.declared.request.Request.TheVariants as request
use Rattle.etcd_types.specs.declared.answer.Answer.TheVariants as answer
use Rattle.etcd_types.specs.declared.answer.Body.{Body}
use Rattle.etcd_types.specs.declared.answer.Body.TheVariants as body
use Rattle.etcd_types.specs.declared.answer.Refusal.{Refusal}
use Rattle.store_model.specs.declared.store_fault.StoreFault.{StoreFault}
use Rattle.store_model.specs.declared.store_fault.StoreFault.TheVariants as fault
use Rattle.store_model.specs.History.{History, newest, with_revision, up_to_revision}
use Rattle.store_model.specs.Refusals.{compacted_revision, future_revision, lease_not_found, lease_exists}
use Rattle.store_model.specs.Ranges.{records_now}
use Rattle.store_model.specs.Reads.{read}
use Rattle.store_model.specs.State.{State, applied_by, header}
use Rattle.store_model.specs.Transactions.{Ran, run, has_lease, deletion}
use Rattle.store_model.specs.FirstRefusals.{first_refusal, lacks_key}
use Rattle.store_model.specs.Leases.{all_keys, is_attached, attached, record_key, ended, expired, time_to_live, granted, lease_number, with_lease, granted_lease, granted_ttl, asked_number}
use Rattle.store_model.specs.Step.{Step, exec, exec_op, exec_range, exec_compact, exec_grant, exec_revoke, read_applied, told_at, done, refused, unless, settled}
use Rattle.proxy_model.specs.Wrapped.{range_under, operation_under}
use Rattle.namespace_keys.proofs.Nested.{operation_under-Txn}
use Rattle.store_laws.specs.Lives.TestedKeys.{have_keys}
use Rattle.namespace_laws.specs.Stored.Stored.{stored_after, stored, stored_key, stored_changes, stored_history, stored_record, stored_records, stored_body, stored_told, stored_step}
use Rattle.namespace_laws.specs.Stored.Laws.{StoredStoresAnswer, ExpiriesAreStored}
use Rattle.namespace_laws.proofs.Stored.Keys.{pushed, pushed2}
use Rattle.namespace_laws.proofs.Stored.Records.{records_now-under, read-under, with_revision-under, newest-under, all_taken}
use Rattle.namespace_laws.proofs.Stored.Runs.{stored_ran, run-under, deletions-under}
use Rattle.namespace_laws.proofs.Stored.Refusals.{first_refusal-under}

done_under : (ns : List ℕ) (s : State) (member : ℕ) (b : Body) → done (stored ns s) member (stored_body ns b) ≡ stored_step ns (done s member b)
done_under ns s member b =
    λ i. (stored ns s, answer.Done (record { header = header member (newest-under ns s.history i); body = stored_body ns b }))

unless_under : (ns : List ℕ) (s : State) (found : Option Refusal) (step : Step) → unless (stored ns s) found (stored_step ns step) ≡ stored_step ns (unless s found step)
unless_under ns s None step = refl
unless_under ns s (Some refusal) step = refl

settled_under : (ns : List ℕ) (s : State) (member : ℕ) (r : Ran) → settled (stored ns s) member (stored_ran ns r) ≡ stored_step ns (settled s member r)
settled_under ns s member (Ok ran) =
    ap (λ (h : History). done (record (stored ns s) { history = h }) member (stored_body ns ran.1)) (with_revision-under ns s.history ran.0)
    ∙ done_under ns (record s { history = with_revision s.history ran.0 }) member ran.1
settled_under ns s member (Err refusal) = refl

op_under : (ns : List ℕ) (s : State) (member : ℕ) (op : Op) → list_all have_keys s.history ≡ true → lacks_key op ≡ false → exec_op (stored ns s) member (operation_under ns op) ≡ stored_step ns (exec_op s member op)
op_under ns s member op k n =
    (λ i. unless (stored ns s) (first_refusal-under ns op n i) (settled (stored ns s) member (run-under ns s op [] k refl n i)))
    ∙ ap (unless (stored ns s) (first_refusal op)) (settled_under ns s member (run s op []))
    ∙ unless_under ns s (first_refusal op) (settled s member (run s op []))

told_under : (ns : List ℕ) (s : State) (member revision : ℕ) (r : Result Body Refusal) → told_at (stored ns s) member revision (stored_told ns r) ≡ stored_step ns (told_at s member revision r)
told_under ns s member revision (Ok b) = refl
told_under ns s member revision (Err refusal) = refl

applied_under : (ns : List ℕ) (s : State) (member applied : ℕ) (ask : RangeAsk) → list_all have_keys s.history ≡ true
    → read_applied (stored ns s) member applied (range_under ns ask) ≡ stored_step ns (read_applied s member applied ask)
applied_under ns s member applied ask k =
    let early = nat_lt applied s.compacted in
    ap (λ (h : History). cond early (refused (stored ns s) compacted_revision) (told_at (stored ns s) member applied (read h applied s.compacted (range_under ns ask)))) (take-map (stored_changes ns) (applied - 1) s.history)
    ∙ ap (λ (r : Result Body Refusal). cond early (refused (stored ns s) compacted_revision) (told_at (stored ns s) member applied r)) (read-under ns (up_to_revision s.history applied) applied s.compacted ask (all_taken (applied - 1) s.history k))
    ∙ ap (cond early (refused (stored ns s) compacted_revision)) (told_under ns s member applied (read (up_to_revision s.history applied) applied s.compacted ask))
    ∙ pushed (stored_step ns) early (refused s compacted_revision) (told_at s member applied (read (up_to_revision s.history applied) applied s.compacted ask))

range_under_is : (ns : List ℕ) (s : State) (member : ℕ) (ask : RangeAsk) → list_all have_keys s.history ≡ true → lacks_key (Range ask) ≡ false
    → exec_range (stored ns s) member (range_under ns ask) ≡ stored_step ns (exec_range s member ask)
range_under_is ns s member ask k n =
    (λ i. cond ask.serializable (unless (stored ns s) (first_refusal-under ns (Range ask) n i) (applied_under ns s member (applied_by s member) ask k i)) (op_under ns s member (Range ask) k n i))
    ∙ ap (λ (step : Step). cond ask.serializable step (stored_step ns (exec_op s member (Range ask)))) (unless_under ns s (first_refusal (Range ask)) (read_applied s member (applied_by s member) ask))
    ∙ pushed (stored_step ns) ask.serializable (unless s (first_refusal (Range ask)) (read_applied s member (applied_by s member) ask)) (exec_op s member (Range ask))

compact_under : (ns : List ℕ) (s : State) (member revision : ℕ) → exec_compact (stored ns s) member revision ≡ stored_step ns (exec_compact s member revision)
compact_under ns s member revision =
    ap (λ (n : ℕ). cond (nat_le revision s.compacted) (refused (stored ns s) compacted_revision) (cond (nat_lt n revision) (refused (stored ns s) future_revision) (done (record (stored ns s) { compacted = revision }) member body.Compact))) (newest-under ns s.history)
    ∙ ap (λ (step : Step). cond (nat_le revision s.compacted) (refused (stored ns s) compacted_revision) (cond (nat_lt (newest s.history) revision) (refused (stored ns s) future_revision) step)) (done_under ns (record s { compacted = revision }) member body.Compact)
    ∙ pushed2 (stored_step ns) (nat_le revision s.compacted) (nat_lt (newest s.history) revision) (refused s compacted_revision) (refused s future_revision) (done (record s { compacted = revision }) member body.Compact)

grant_under : (ns : List ℕ) (s : State) (member ttl number : ℕ) → exec_grant (stored ns s) member ttl number ≡ stored_step ns (exec_grant s member ttl number)
grant_under ns s member ttl number =
    let free = asked_number s.leases number in
    let t = record s { leases = with_lease (granted_lease free ttl) s.leases } in
    ap (cond (has_lease s.leases number) (refused (stored ns s) lease_exists)) (done_under ns t member (body.Grant free (granted_ttl ttl)))
    ∙ pushed (stored_step ns) (has_lease s.leases number) (refused s lease_exists) (done t member (body.Grant free (granted_ttl ttl)))

-- a lease that ends

filter_one : (ns : List ℕ) (number : ℕ) (kv : Kv) (rest : List Kv) → cond (is_attached number kv) (stored_record ns kv ∷ stored_records ns rest) (stored_records ns rest) ≡ stored_records ns (cond (is_attached number kv) (kv ∷ rest) rest)
filter_one ns number kv rest = pushed (stored_records ns) (is_attached number kv) (kv ∷ rest) rest

filtered : (ns : List ℕ) (number : ℕ) (kvs : List Kv) → filter (is_attached number) (stored_records ns kvs) ≡ stored_records ns (filter (is_attached number) kvs)
filtered ns number [] = refl
filtered ns number (kv ∷ kvs) =
    (λ i. cond (is_attached number kv) (stored_record ns kv ∷ filtered ns number kvs i) (filtered ns number kvs i)) ∙ filter_one ns number kv (filter (is_attached number) kvs)

attached_under : (ns : List ℕ) (h : History) (number : ℕ) → list_all have_keys h ≡ true → attached (stored_history ns h) number ≡ stored_records ns (attached h number)
attached_under ns h number k =
    ap (filter (is_attached number)) (records_now-under ns all_keys all_keys h (λ j e. refl) k) ∙ filtered ns number (records_now h all_keys)

ended_under : (ns : List ℕ) (s : State) (number : ℕ) → list_all have_keys s.history ≡ true → ended (stored ns s) number ≡ stored ns (ended s number)
ended_under ns s number k =
    let changes : map deletion (attached (stored_history ns s.history) number) ≡ stored_changes ns (map deletion (attached s.history number)) =
    ap (map deletion) (attached_under ns s.history number k) ∙ deletions-under ns (attached s.history number) in
    let history : with_revision (stored_history ns s.history) (map deletion (attached (stored_history ns s.history) number)) ≡ stored_history ns (with_revision s.history (map deletion (attached s.history number))) =
    ap (with_revision (stored_history ns s.history)) changes ∙ with_revision-under ns s.history (map deletion (attached s.history number)) in
    λ i. record (stored ns (ended s number)) { history = history i }

revoke_under : (ns : List ℕ) (s : State) (member number : ℕ) → list_all have_keys s.history ≡ true → exec_revoke (stored ns s) member number ≡ stored_step ns (exec_revoke s member number)
revoke_under ns s member number k =
    ap (λ (t : State). cond (has_lease s.leases number) (done t member body.Revoke) (refused (stored ns s) lease_not_found)) (ended_under ns s number k)
    ∙ ap (λ (step : Step). cond (has_lease s.leases number) step (refused (stored ns s) lease_not_found)) (done_under ns (ended s number) member body.Revoke)
    ∙ pushed (stored_step ns) (has_lease s.leases number) (done (ended s number) member body.Revoke) (refused s lease_not_found)

expired_either : (ns : List ℕ) (known : Bool) (u : State) (f : StoreFault) → ◌≡◌ {A = Result State StoreFault} (cond known (Ok (stored ns u)) (Err f)) (stored_after ns (cond known (Ok u) (Err f)))
expired_either ns true u f = refl
expired_either ns false u f = refl

pub expiries_are_stored : ExpiriesAreStored
unfolding expired
expiries_are_stored ns s lease k =
    ap (λ (u : State). cond (has_lease s.leases lease) (Ok u) (Err (fault.NoSuchLease lease))) (ended_under ns s lease k)
    ∙ expired_either ns (has_lease s.leases lease) (ended s lease) (fault.NoSuchLease lease)

-- the time to live of a lease, with its keys

keys_under : (ns : List ℕ) (kvs : List Kv) → map record_key (stored_records ns kvs) ≡ map (stored_key ns) (map record_key kvs)
keys_under ns [] = refl
keys_under ns (kv ∷ kvs) = λ i. (ns ++ kv.key) ∷ keys_under ns kvs i

time_to_live_under : (ns : List ℕ) (s : State) (number : ℕ) (known keys : Bool) → list_all have_keys s.history ≡ true → time_to_live (stored ns s) number known keys ≡ stored_body ns (time_to_live s number known keys)
time_to_live_under ns s number true true k =
    ap (λ (ks : List (List ℕ)). body.TimeToLive number (pos (granted s.leases number)) (granted s.leases number) ks) (ap (map record_key) (attached_under ns s.history number k) ∙ keys_under ns (attached s.history number))
time_to_live_under ns s number true false k = refl
time_to_live_under ns s number false keys k = refl

pub stored_stores_answer : StoredStoresAnswer
unfolding exec
stored_stores_answer ns s member (request.Range ask) k n = range_under_is ns s member ask k n
stored_stores_answer ns s member (request.Put ask) k n = op_under ns s member (Put ask) k n
stored_stores_answer ns s member (request.Delete ask) k n = op_under ns s member (Delete ask) k n
stored_stores_answer ns s member (request.Txn t) k n =
    ap (exec_op (stored ns s) member) (sym (operation_under-Txn ns t)) ∙ op_under ns s member (Txn t) k n
stored_stores_answer ns s member (request.Compact revision physical) k n = compact_under ns s member revision
stored_stores_answer ns s member (request.Grant ttl lease) k n = grant_under ns s member ttl lease
stored_stores_answer ns s member (request.Revoke lease) k n = revoke_under ns s member lease k
stored_stores_answer ns s member (request.KeepAlive lease) k n = done_under ns s member (body.KeepAlive lease (granted s.leases lease))
stored_stores_answer ns s member (request.TimeToLive lease keys) k n =
    ap (done (stored ns s) member) (time_to_live_under ns s lease (has_lease s.leases lease) keys k) ∙ done_under ns s member (time_to_live s lease (has_lease s.leases lease) keys)
stored_stores_answer ns s member request.Leases k n = done_under ns s member (body.Leases (map lease_number s.leases))
stored_stores_answer ns s member (request.Watch ask) k n = refl
