-- A step of a store answers with a text and leaves a store that fits.
use Rattle.std.proofs.Common.{◌≡◌, ℕ, zero, suc, ◌+◌, ◌-◌, ◌≤◌, ◌==◌, Bool, true, false, cond, List, [], ◌∷◌, length, map, Result, Ok, Err, refl, sym, subst, arith}
use Rattle.std.specs.Prelude.{nat_lt, nat_le, get_or}
use Rattle.text_model.specs.Words.{max_number}
use Rattle.std.proofs.lemmas.Bool.{le-leb, ltb-false}
use Rattle.etcd_types.specs.declared.answer.Body.{Body}
use Rattle.etcd_types.specs.declared.answer.Body.TheVariants as body
use Rattle.etcd_types.specs.declared.answer.Refusal.{Refusal}
use Rattle.etcd_types.specs.declared.operation.RangeAsk.{RangeAsk}
use Rattle.etcd_types.specs.declared.operation.TxnAsk.{TxnAsk}
use Rattle.etcd_types.specs.declared.operation.Op.{Op, items-the_row-Op}
use Rattle.etcd_types.specs.declared.operation.Op.TheBlock.{hidden-the_row-Op-0, items_hidden-the_row-Op-0}
use Rattle.etcd_types.specs.declared.operation.Op.TheVariants.{Range, Put, Delete, Txn}
use Rattle.etcd_types.specs.declared.operation.Op.{Row_of-Op, end_of-Op, more_of-Op}
use Rattle.etcd_types.specs.declared.request.Request.{Request}
use Rattle.etcd_types.specs.declared.request.Request.TheVariants as request
use Rattle.store_model.specs.declared.history.KeyChange.{KeyChange}
use Rattle.store_model.specs.declared.lease.Lease.{Lease}
use Rattle.store_model.specs.History.{newest, with_revision, up_to_revision}
use Rattle.store_model.specs.Ranges.{records_now}
use Rattle.store_model.specs.Refusals.{key_not_provided, duplicate_key, too_many_operations, compacted_revision, future_revision, lease_not_found, lease_exists, unsupported}
use Rattle.store_model.specs.Reads.{read}
use Rattle.store_model.specs.State.{State, applied_by, header}
use Rattle.store_model.specs.FirstRefusals.{first_refusal, first_of_three, exceeds, lacks_key, repeats_key, operations_limit}
use Rattle.store_model.specs.Leases.{all_keys, is_attached, attached, record_key, lease_number, granted, least_free_from, with_lease, without_lease, granted_ttl, granted_lease, asked_number, ended, time_to_live}
use Rattle.store_model.specs.Transactions.{Ran, run, has_lease, deletion}
use Rattle.store_model.specs.Step.{Step, done, refused, unless, settled, exec_op, told_at, read_applied, exec_range, exec_compact, exec_grant, exec_revoke, exec}
use Rattle.text_laws.specs.Values.Fits.{AllOf, Bytes, Number, Few, HeaderFits, KvFits, KvsFit, BodyFits, RefusalFits, AnswerFits, RangeAskFits, OpFits, OpRowFits, op_row_length, OpsFit, TxnFits, RequestFits}
use Rattle.text_laws.proofs.Values.Alls.{either, all_map, all_filter, few_map, most_filter, bytes_are}
use Rattle.text_laws.proofs.Values.RequestTexts.{op_counts}
use Rattle.text_laws.specs.Stores.Laws.{AnswersFit}
use Rattle.text_laws.specs.Stores.Stores.{LeaseFits, StoreFits, HasRoom}
use Rattle.text_laws.proofs.Stores.Histories.{HistoryFits, changes-with, all-with, records_fit, history_was}
use Rattle.text_laws.proofs.Stores.Runs.{refusal, compacted_fits, future_fits, unsupported_fits, no_lease_fits, ReadFits, read_fits, Room, RanFits, run_fits}

-- what a step leaves and answers, where what it leaves has room
abbrev StepFits : ℕ → Step → Type 0
StepFits most x = HasRoom most x.0 → StoreFits most x.0 × AnswerFits most x.1

refused_fits : (most : ℕ) (s : State) (r : Refusal) → StoreFits most s → RefusalFits r → StepFits most (refused s r)
refused_fits most s r h f room = (h, f)

head_fits : (most member revision : ℕ) → Number member → revision ≤ most → HeaderFits most (header member revision)
head_fits most member revision m r = record { cluster = omega arith; member = m; revision = r; term = omega arith }

newest_fits : (most : ℕ) (s : State) → HasRoom most s → newest s.history ≤ most
newest_fits most s room = let r = room.revisions in omega (arith, r)

-- ---- operations

room_made : (most : ℕ) (s : State) (made : List KeyChange) → HasRoom most s → HasRoom most (record s { history = with_revision s.history made }) → Room most s made
room_made most s made before after =
    let e = changes-with s.history made in
    let c = after.changes in
    record { revisions = before.revisions; changes = omega (arith, e, c) }

settled_fits : (most member : ℕ) (s : State) (r : Ran) → Number member → StoreFits most s → HasRoom most s → RanFits most 128 s [] r → StepFits most (settled s member r)
settled_fits most member s (Ok ran) m h before f after =
    let k = f.fits (room_made most s ran.0 before after) tt in (
      record { changes = all-with s.history ran.0 h.changes k.0; leases = h.leases; applied = h.applied; compacted = h.compacted; watches = h.watches },
      (head_fits most member (newest (with_revision s.history ran.0)) m (newest_fits most _ after), k.1),
    )
settled_fits most member s (Err r) m h before f after = (h, f)

many_fits : RefusalFits too_many_operations
many_fits = refusal too_many_operations refl (bytes_are too_many_operations.text refl)

lacks_fits : RefusalFits key_not_provided
lacks_fits = refusal key_not_provided refl (bytes_are key_not_provided.text refl)

twice_fits : RefusalFits duplicate_key
twice_fits = refusal duplicate_key refl (bytes_are duplicate_key.text refl)

unless_fits : (most : ℕ) (s : State) (many empty twice : Bool) (x : Step) → StoreFits most s → (many ≡ false → StepFits most x) → StepFits most (unless s (first_of_three many empty twice) x)
unless_fits most s true empty twice x h f = refused_fits most s too_many_operations h many_fits
unless_fits most s false true twice x h f = refused_fits most s key_not_provided h lacks_fits
unless_fits most s false false true x h f = refused_fits most s duplicate_key h twice_fits
unless_fits most s false false false x h f = f refl

op_fits : (most member : ℕ) (s : State) (o : Op) → most ≤ max_number → Number member → OpFits 128 o → StoreFits most s → HasRoom most s → StepFits most (exec_op s member o)
op_fits most member s o small m f h room =
    unless_fits most s (exceeds operations_limit o) (lacks_key o) (repeats_key o) (settled s member (run s o [])) h
    (λ e. settled_fits most member s (run s o []) m h room (run_fits most 128 128 s o [] (omega arith) e f (record { small = small; changes = h.changes })))

-- a transaction's operations lie in it as rows
row_from : {m : _} (deep : ℕ) (ops : Row_of-Op m) → AllOf (OpFits deep) (items-the_row-Op m ops) → OpRowFits deep ops
row_from deep end_of-Op h = tt
row_from deep (more_of-Op one rest) h = (h.0, row_from deep rest h.1)

hidden_fits : (deep : ℕ) (ops : List Op) → OpsFit deep ops → OpRowFits deep (hidden-the_row-Op-0 ops) × Number (op_row_length (hidden-the_row-Op-0 ops))
hidden_fits deep ops f =
    let row = hidden-the_row-Op-0 ops in
    let same : items-the_row-Op _ row ≡ ops = items_hidden-the_row-Op-0 ops in
    (row_from deep row (subst (AllOf (OpFits deep)) (sym same) f.0), subst Number (sym (op_counts row)) (subst (λ (xs : List Op). Number (length xs)) (sym same) f.1))

pub txn_is_op : (deep : ℕ) (t : TxnAsk) → TxnFits deep t → OpFits (suc deep) (Txn t)
txn_is_op deep t f =
    let a = hidden_fits deep t.success f.success in
    let b = hidden_fits deep t.failure f.failure in
    (f.compare, (a.0, b.0), a.1, b.1)

-- ---- reads

told_fits : (most member revision : ℕ) (s : State) (r : Result Body Refusal) → Number member → revision ≤ most → StoreFits most s → ReadFits most 128 r → StepFits most (told_at s member revision r)
told_fits most member revision s (Ok b) m l h f room = (h, (head_fits most member revision m l, f))
told_fits most member revision s (Err r) m l h f room = (h, f)

applied_fits : (most member : ℕ) (s : State) → StoreFits most s → applied_by s member ≤ most
applied_fits most member s h = got most s.applied (member - 1) h.applied
  where
    got : (most : ℕ) (rs : List ℕ) (i : ℕ) → AllOf (λ r. r ≤ most) rs → get_or rs i 0 ≤ most
    got most [] i f = omega arith
    got most (r ∷ rs) zero f = f.0
    got most (r ∷ rs) (suc i) f = got most rs i f.1

history_fits : (most : ℕ) (s : State) → StoreFits most s → HasRoom most s → HistoryFits most s.history
history_fits most s h room = let r = room.revisions in record { fit = h.changes; revisions = omega (arith, r); few = room.changes }

range_fits : (most member : ℕ) (s : State) (ask : RangeAsk) → most ≤ max_number → Number member → RangeAskFits ask → StoreFits most s → HasRoom most s → StepFits most (exec_range s member ask)
range_fits most member s ask small m f h room =
    let applied = applied_by s member in
    let l = applied_fits most member s h in
    either (StepFits most) ask.serializable (unless s (first_refusal (Range ask)) (read_applied s member applied ask)) (exec_op s member (Range ask))
    (unless_fits most s (exceeds operations_limit (Range ask)) (lacks_key (Range ask)) (repeats_key (Range ask)) (read_applied s member applied ask) h
    (λ e. either (StepFits most) (nat_lt applied s.compacted) (refused s compacted_revision) (told_at s member applied (read (up_to_revision s.history applied) applied s.compacted ask))
    (refused_fits most s compacted_revision h compacted_fits)
    (told_fits most member applied s (read (up_to_revision s.history applied) applied s.compacted ask) m l h
    (read_fits most 128 (up_to_revision s.history applied) applied s.compacted ask small (history_was most (applied - 1) s.history (history_fits most s h room))))))
    (op_fits most member s (Range ask) small m f h room)

-- ---- leases

done_fits : (most member : ℕ) (s : State) (b : Body) → Number member → StoreFits most s → BodyFits most 128 b → StepFits most (done s member b)
done_fits most member s b m h f room = (h, (head_fits most member (newest s.history) m (newest_fits most s room), f))

free_fits : (number : ℕ) (leases : List Lease) → least_free_from number leases ≤ number + length leases
free_fits number [] = omega arith
free_fits number (lease ∷ leases) =
    let r = free_fits (number + 1) leases in
    either (λ (n : ℕ). n ≤ number + length (lease ∷ leases)) (lease.number == number) (least_free_from (number + 1) leases) number (omega (arith, r)) (omega arith)

put_lease : (lease : Lease) (leases : List Lease) → LeaseFits lease → AllOf LeaseFits leases → AllOf LeaseFits (with_lease lease leases)
put_lease lease [] f h = (f, tt)
put_lease lease (other ∷ others) f h =
    either (AllOf LeaseFits) (nat_lt other.number lease.number) (other ∷ with_lease lease others) (lease ∷ other ∷ others) (h.0, put_lease lease others f h.1) (f, h)

drop_lease : (number : ℕ) (leases : List Lease) → AllOf LeaseFits leases → AllOf LeaseFits (without_lease number leases)
drop_lease number [] h = tt
drop_lease number (lease ∷ leases) h =
    either (AllOf LeaseFits) (lease.number == number) leases (lease ∷ without_lease number leases) h.1 (h.0, drop_lease number leases h.1)

granted_fits : (leases : List Lease) (number : ℕ) → AllOf LeaseFits leases → Number (granted leases number)
granted_fits [] number h = omega arith
granted_fits (lease ∷ leases) number h = either Number (lease.number == number) lease.ttl (granted leases number) h.0.ttl (granted_fits leases number h.1)

ttl_number : (ttl : ℕ) → Number (granted_ttl ttl)
ttl_number ttl = omega arith

grant_fits : (most member : ℕ) (s : State) (ttl number : ℕ) → most ≤ max_number → Number member → Number number → StoreFits most s → HasRoom most s → StepFits most (exec_grant s member ttl number)
grant_fits most member s ttl number small m n h room =
    let free = asked_number s.leases number in
    let l = free_fits 1 s.leases in
    let few = room.leases in
    let f : Number free = either Number (number == 0) (least_free_from 1 s.leases) number (omega (arith, l, few, small)) n in
    either (StepFits most) (has_lease s.leases number) (refused s lease_exists) (done (record s { leases = with_lease (granted_lease free ttl) s.leases }) member (body.Grant free (granted_ttl ttl)))
    (refused_fits most s lease_exists h (refusal lease_exists refl (bytes_are lease_exists.text refl)))
    (done_fits most member _ (body.Grant free (granted_ttl ttl)) m
    (record { changes = h.changes; leases = put_lease (granted_lease free ttl) s.leases (record { number = f; ttl = ttl_number ttl }) h.leases; applied = h.applied; compacted = h.compacted; watches = h.watches })
    (f, ttl_number ttl))

pub attached_fit : (most number : ℕ) (s : State) → most ≤ max_number → StoreFits most s → HasRoom most s → KvsFit most (attached s.history number)
attached_fit most number s small h room =
    let r = records_fit most s.history all_keys small (history_fits most s h room) in
    record { all = all_filter (KvFits most) (is_attached number) (records_now s.history all_keys) r.all; few = most_filter most (is_attached number) (records_now s.history all_keys) r.few }

pub ended_fits : (most number : ℕ) (s : State) → most ≤ max_number → StoreFits most s → HasRoom most s → StoreFits most (ended s number)
ended_fits most number s small h room =
    let a = attached_fit most number s small h room in
    record {
      changes = all-with s.history (map deletion (attached s.history number)) h.changes (all_map (KvFits most) _ deletion (λ kv k. k.key) (attached s.history number) a.all);
      leases = drop_lease number s.leases h.leases;
      applied = h.applied;
      compacted = h.compacted;
      watches = h.watches;
    }

revoke_fits : (most member : ℕ) (s : State) (number : ℕ) → most ≤ max_number → Number member → StoreFits most s → HasRoom most s → StepFits most (exec_revoke s member number)
revoke_fits most member s number small m h room =
    either (StepFits most) (has_lease s.leases number) (done (ended s number) member body.Revoke) (refused s lease_not_found)
    (done_fits most member (ended s number) body.Revoke m (ended_fits most number s small h room) tt) (refused_fits most s lease_not_found h no_lease_fits)

tells_fits : (most member : ℕ) (s : State) (number : ℕ) (known keys : Bool) → most ≤ max_number → Number number → StoreFits most s → HasRoom most s → BodyFits most 128 (time_to_live s number known keys)
tells_fits most member s number false keys small n h room = (n, refl, omega arith, tt, omega arith)
tells_fits most member s number true keys small n h room =
    let g = granted_fits s.leases number h.leases in
    let a = attached_fit most number s small h room in
    let few = a.few in
    let ks = map record_key (attached s.history number) in (
      n,
      le-leb (granted s.leases number) max_number g,
      g,
      either (AllOf Bytes) keys ks [] (all_map (KvFits most) Bytes record_key (λ kv k. k.key) (attached s.history number) a.all) tt,
      either Few keys ks [] (few_map record_key (attached s.history number) (omega (arith, few, small))) (omega arith),
    )

lists_fit : (most : ℕ) (s : State) → most ≤ max_number → StoreFits most s → HasRoom most s → AllOf Number (map lease_number s.leases) × Few (map lease_number s.leases)
lists_fit most s small h room =
    let l = room.leases in
    (all_map LeaseFits Number lease_number (λ x f. f.number) s.leases h.leases, few_map lease_number s.leases (omega (arith, l, small)))

compact_fits : (most member : ℕ) (s : State) (revision : ℕ) → Number member → StoreFits most s → HasRoom most s → StepFits most (exec_compact s member revision)
compact_fits most member s revision m h room =
    either (StepFits most) (nat_le revision s.compacted) _ _ (refused_fits most s compacted_revision h compacted_fits)
    (by_future (nat_lt (newest s.history) revision) refl)
  where
    compacted : StoreFits most s → revision ≤ most → StoreFits most (record s { compacted = revision })
    compacted h l = record { changes = h.changes; leases = h.leases; applied = h.applied; compacted = l; watches = h.watches }

    by_future : (b : Bool) → nat_lt (newest s.history) revision ≡ b → StepFits most (cond b (refused s future_revision) (done (record s { compacted = revision }) member body.Compact))
    by_future true e = refused_fits most s future_revision h future_fits
    by_future false e =
        let n = newest_fits most s room in
        let l = ltb-false (newest s.history) revision e in
        done_fits most member (record s { compacted = revision }) body.Compact m (compacted h (omega (arith, n, l))) tt

-- ---- all requests

step_fits : (most : ℕ) (s : State) (member : ℕ) (q : Request) → most ≤ max_number → Number member → RequestFits 127 q → StoreFits most s → HasRoom most s → StepFits most (exec s member q)
unfolding exec
step_fits most s member (request.Range ask) small m f h room = range_fits most member s ask small m f h room
step_fits most s member (request.Put ask) small m f h room = op_fits most member s (Put ask) small m f h room
step_fits most s member (request.Delete ask) small m f h room = op_fits most member s (Delete ask) small m f h room
step_fits most s member (request.Txn t) small m f h room = op_fits most member s (Txn t) small m (txn_is_op 127 t f) h room
step_fits most s member (request.Compact revision physical) small m f h room = compact_fits most member s revision m h room
step_fits most s member (request.Grant ttl lease) small m f h room = grant_fits most member s ttl lease small m f.1 h room
step_fits most s member (request.Revoke lease) small m f h room = revoke_fits most member s lease small m h room
step_fits most s member (request.KeepAlive lease) small m f h room = done_fits most member s (body.KeepAlive lease (granted s.leases lease)) m h (f, granted_fits s.leases lease h.leases)
step_fits most s member (request.TimeToLive lease keys) small m f h room =
    done_fits most member s (time_to_live s lease (has_lease s.leases lease) keys) m h (tells_fits most member s lease (has_lease s.leases lease) keys small f h room)
step_fits most s member request.Leases small m f h room = done_fits most member s (body.Leases (map lease_number s.leases)) m h (lists_fit most s small h room)
step_fits most s member (request.Watch ask) small m f h room = refused_fits most s unsupported h unsupported_fits

pub answers_fit : AnswersFit
answers_fit most s member q small m f h before after = step_fits most s member q small m f h before after
