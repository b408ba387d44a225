-- The bodies and records that a proxy makes of those that it heard or keeps: what a write is answered with and what it leaves at a key,
-- what an acquire found, and what is read of held records.
use Rattle.std.proofs.Common.{◌≡◌, ℕ, suc, ◌+◌, ◌≤◌, Bool, true, false, not, cond, ◌&&◌, List, [], ◌∷◌, ◌++◌, length, map, min, Option, None, Some, unwrap_or, refl, sym, ap, ◌∙◌, subst, arith, length-append}
use Rattle.std.specs.Prelude.{flat_map, sum_by, option_to_list}
use Rattle.std.specs.List.{list_all}
use Rattle.std.proofs.lemmas.Bool.{leb-true}
use Rattle.text_model.specs.Words.{max_number}
use Rattle.etcd_types.proofs.Bools.{and_first, and_second}
use Rattle.etcd_types.specs.Keys.{same}
use Rattle.etcd_types.specs.Ranges.{contains, is_one}
use Rattle.etcd_types.specs.Records.{after_put}
use Rattle.etcd_types.specs.declared.answer.Body.{Body, Row_of-Body}
use Rattle.etcd_types.specs.declared.answer.Body.TheVariants as body
use Rattle.etcd_types.specs.declared.answer.Reply.{Reply}
use Rattle.etcd_types.specs.declared.operation.Op.{Op, Row_of-Op, end_of-Op, more_of-Op}
use Rattle.etcd_types.specs.declared.operation.Op.TheBlock.{hidden-the_row-Op-0, items_hidden-the_row-Op-0}
use Rattle.etcd_types.specs.declared.operation.Op.TheVariants as op
use Rattle.etcd_types.specs.declared.operation.TxnAsk.{TxnAsk}
use Rattle.etcd_types.specs.declared.record.Kv.{Kv}
use Rattle.etcd_types.specs.declared.request.Request.{Request}
use Rattle.etcd_types.specs.declared.request.Request.TheVariants as request
use Rattle.store_model.specs.LeftRecords.{lease_of, put_under_lease, left_op, left_by}
use Rattle.proxy_model.specs.declared.lease.Entry.{Entry}
use Rattle.proxy_model.specs.declared.ownership.Claim.{Claim}
use Rattle.proxy_model.specs.declared.ownership.Claim.TheVariants.{Acquired, OwnedBy}
use Rattle.proxy_model.specs.declared.ownership.Written.{Written}
use Rattle.proxy_model.specs.declared.ownership.Written.TheVariants.{Wrote, Blocked}
use Rattle.proxy_model.specs.Acquire.{acquire, claim_of, claimed}
use Rattle.proxy_model.specs.Fits.{row_bodies, branch_of, fits_branch, is_nothing, fits, fits_row, fits_all, fits_txn}
use Rattle.proxy_model.specs.Guarded.{delete_part, write_ops, guarded, answer_of, written_of, written}
use Rattle.proxy_model.specs.Keyed.{Keyed, at}
use Rattle.proxy_model.specs.LeaseTable.{is_held}
use Rattle.proxy_model.specs.Limits.{capped}
use Rattle.proxy_model.specs.Readings.{deleted_of, prevs_of, first_body, reading}
use Rattle.proxy_model.specs.SeveralKeys.{parts, joined}
use Rattle.proxy_model.specs.Snapshot.{Held, has_room, record_held, is_snapshot, names_nothing, all_held, snapshot_holds, plain_body, snapshot_body, snapshot_by, snapshot}
use Rattle.wait_model.specs.Operations.{branch, operations}
use Rattle.core_model.specs.Asking.{held_record, held_body, if_live}
use Rattle.text_laws.specs.Values.Fits.{AllOf, If, Bytes, Number, HeaderFits, KvFits, PrevFits, KvsFit, BodyFits, ReplyFits, row_length, op_row_length, PutFits, OpFits, TxnFits, RequestFits}
use Rattle.text_laws.proofs.Values.Alls.{either, all_flat, length_map}
use Rattle.text_laws.proofs.Values.AnswerTexts.{row_counts}
use Rattle.text_laws.proofs.Values.RequestTexts.{op_counts}
use Rattle.text_laws.proofs.Values.Weaker.{kv_weaker, prev_weaker, kvs_weaker, body_weaker}
use Rattle.text_laws.proofs.Stores.Runs.{txn_fits}
use Rattle.text_laws.proofs.Sent.Owned.{BranchFits, branch_fits}
use Rattle.text_laws.proofs.Sent.Reading.{record_shown}
use Rattle.text_laws.proofs.Sent.Requests.{parts_fit}
use Rattle.text_laws.specs.Replied.Holds.{EntryHolds, EntriesHold}
use Rattle.text_laws.proofs.Replied.Kept.{at_holds}

-- ---- what a put leaves

leased : (most : ℕ) (ask : _) (old : Option Kv) → PutFits ask → PrevFits most old → Number (put_under_lease ask old)
leased most ask old f h = either Number ask.ignore_lease (lease_of old) ask.lease (by_old old h) f.lease
  where
    by_old : (o : Option Kv) → PrevFits most o → Number (lease_of o)
    by_old None k = omega arith
    by_old (Some kv) k = k.lease

put_leaves : (most revision lease : ℕ) (k v : List ℕ) (old : Option Kv) → revision ≤ most → Bytes k → Bytes v → Number lease → PrevFits most old → KvFits (most + 1) (after_put old k v lease revision)
put_leaves most revision lease k v None r b c n h = record { key = b; value = c; create = omega (arith, r); modified = omega (arith, r); version = omega arith; lease = n }
put_leaves most revision lease k v (Some old) r b c n h =
    let a = h.create in
    let d = h.version in
    record { key = b; value = c; create = omega (arith, a); modified = omega (arith, r); version = least (old.version + 1) (omega (arith, d)); lease = n }
  where
    least : (n : ℕ) → n ≤ most + 1 → min n 0xffff_ffff_ffff_ffff ≤ most + 1
    least n l = omega (arith, l)

op_leaves : (most revision : ℕ) (k : List ℕ) (o : Op) (old : Option Kv) → revision ≤ most → Bytes k → OpFits 126 o → PrevFits most old → PrevFits (most + 1) (left_op revision k o old)
op_leaves most revision k (op.Range ask) old r b f h = prev_weaker most (most + 1) (omega arith) old h
op_leaves most revision k (op.Put ask) old r b f h =
    either (PrevFits (most + 1)) (same ask.key k) (Some (after_put old k ask.value (put_under_lease ask old) revision)) old
    (put_leaves most revision (put_under_lease ask old) k ask.value old r b f.value (leased most ask old f h) h) (prev_weaker most (most + 1) (omega arith) old h)
op_leaves most revision k (op.Delete ask) old r b f h = either (PrevFits (most + 1)) (contains ask.range k) None old tt (prev_weaker most (most + 1) (omega arith) old h)
op_leaves most revision k (op.Txn' compare m success n failure) old r b f h = prev_weaker most (most + 1) (omega arith) old h

ops_leave : (most revision : ℕ) (k : List ℕ) (ops : List Op) (old : Option Kv) → revision ≤ most → Bytes k → AllOf (OpFits 126) ops → PrevFits most old → PrevFits (most + length ops) (left_by revision k ops old)
ops_leave most revision k [] old r b f h = prev_weaker most (most + 0) (omega arith) old h
ops_leave most revision k (o ∷ ops) old r b f h =
    prev_weaker (most + 1 + length ops) (most + length (o ∷ ops)) (omega arith) (left_by revision k ops (left_op revision k o old))
    (ops_leave (most + 1) revision k ops (left_op revision k o old) (omega (arith, r)) b f.1 (op_leaves most revision k o old r b f.0 h))

-- with 128 operations at most
pub write_leaves : (most revision : ℕ) (k : List ℕ) (ops : List Op) (old : Option Kv) → revision ≤ most → Bytes k → AllOf (OpFits 126) ops → length ops ≤ 128 → PrevFits most old → PrevFits (most + 128) (left_by revision k ops old)
write_leaves most revision k ops old r b f l h = prev_weaker (most + length ops) (most + 128) (omega (arith, l)) (left_by revision k ops old) (ops_leave most revision k ops old r b f h)

branch_operations : (t : TxnAsk) (o : Option (Bool × List Body)) → TxnFits 126 t → AllOf (OpFits 126) (branch t.success t.failure o)
branch_operations t None f = tt
branch_operations t (Some ran) f = either (AllOf (OpFits 126)) ran.0 t.success t.failure f.success.0 f.failure.0

pub operations_fit : (q : Request) (b : Body) → RequestFits 126 q → AllOf (OpFits 126) (operations q b)
operations_fit (request.Put ask) b f = (f, tt)
operations_fit (request.Delete ask) b f = (f, tt)
operations_fit (request.Txn t) b f = branch_operations t (branch_of b) f
operations_fit (request.Range ask) b f = tt
operations_fit (request.Compact revision physical) b f = tt
operations_fit (request.Grant ttl lease) b f = tt
operations_fit (request.Revoke lease) b f = tt
operations_fit (request.KeepAlive lease) b f = tt
operations_fit (request.TimeToLive lease keys) b f = tt
operations_fit request.Leases b f = tt
operations_fit (request.Watch ask) b f = tt

-- ---- as many bodies as operations

nothing : (bs : List Body) → is_nothing bs ≡ true → bs ≡ []
nothing [] e = refl
nothing (b ∷ bs) e = absurd (cc)

row_length_fits : {m : _} (ops : Row_of-Op m) (bs : List Body) → fits_row ops bs ≡ true → op_row_length ops ≡ length bs
row_length_fits end_of-Op bs e = ap length (sym (nothing bs e))
row_length_fits (more_of-Op o rest) [] e = absurd (cc)
row_length_fits (more_of-Op o rest) (b ∷ bs) e = ap suc (row_length_fits rest bs (and_second (fits o b) (fits_row rest bs) e))

all_length_fits : (ops : List Op) (bs : List Body) → fits_all ops bs ≡ true → length ops ≡ length bs
all_length_fits [] bs e = ap length (sym (nothing bs e))
all_length_fits (o ∷ ops) [] e = absurd (cc)
all_length_fits (o ∷ ops) (b ∷ bs) e = ap suc (all_length_fits ops bs (and_second (fits o b) (fits_all ops bs) e))

hidden_length : (ops : List Op) → op_row_length (hidden-the_row-Op-0 ops) ≡ length ops
hidden_length ops = op_counts (hidden-the_row-Op-0 ops) ∙ ap (λ (xs : List Op). length xs) (items_hidden-the_row-Op-0 ops)

ran_few : {m : _} (ops : List Op) (row : Row_of-Body m) → fits_row (hidden-the_row-Op-0 ops) (row_bodies row) ≡ true → row_length row ≤ 128 → length ops ≤ 128
ran_few ops row e l =
    let a = hidden_length ops in
    let b = row_length_fits (hidden-the_row-Op-0 ops) (row_bodies row) e in
    let c = row_counts row in
    omega (arith, a, b, c, l)

branch_few : (heard : ℕ) (t : TxnAsk) (b : Body) → fits (op.Txn t) b ≡ true → BodyFits heard 127 b → length (branch t.success t.failure (branch_of b)) ≤ 128
branch_few heard t (body.Txn' true m row) e f = ran_few t.success row e f.1
branch_few heard t (body.Txn' false m row) e f = ran_few t.failure row e f.1
branch_few heard t (body.Range count more kvs) e f = omega arith
branch_few heard t (body.Put prev) e f = omega arith
branch_few heard t (body.Delete deleted prevs) e f = omega arith
branch_few heard t body.Compact e f = omega arith
branch_few heard t (body.Grant lease ttl) e f = omega arith
branch_few heard t body.Revoke e f = omega arith
branch_few heard t (body.KeepAlive lease ttl) e f = omega arith
branch_few heard t (body.TimeToLive lease ttl granted keys) e f = omega arith
branch_few heard t (body.Leases leases) e f = omega arith

-- ---- what a write is answered with

deleted_most : (heard : ℕ) (b : Body) → BodyFits heard 127 b → deleted_of b ≤ heard
deleted_most heard (body.Delete deleted prevs) f = f.0
deleted_most heard (body.Range count more kvs) f = omega arith
deleted_most heard (body.Put prev) f = omega arith
deleted_most heard (body.Txn' succeeded m row) f = omega arith
deleted_most heard body.Compact f = omega arith
deleted_most heard (body.Grant lease ttl) f = omega arith
deleted_most heard body.Revoke f = omega arith
deleted_most heard (body.KeepAlive lease ttl) f = omega arith
deleted_most heard (body.TimeToLive lease ttl granted keys) f = omega arith
deleted_most heard (body.Leases leases) f = omega arith

none_before : (heard : ℕ) → KvsFit heard []
none_before heard = record { all = tt; few = omega arith }

prevs_fit : (heard : ℕ) (b : Body) → BodyFits heard 127 b → KvsFit heard (prevs_of b)
prevs_fit heard (body.Delete deleted prevs) f = f.1
prevs_fit heard (body.Range count more kvs) f = none_before heard
prevs_fit heard (body.Put prev) f = none_before heard
prevs_fit heard (body.Txn' succeeded m row) f = none_before heard
prevs_fit heard body.Compact f = none_before heard
prevs_fit heard (body.Grant lease ttl) f = none_before heard
prevs_fit heard body.Revoke f = none_before heard
prevs_fit heard (body.KeepAlive lease ttl) f = none_before heard
prevs_fit heard (body.TimeToLive lease ttl granted keys) f = none_before heard
prevs_fit heard (body.Leases leases) f = none_before heard

sum_of_two : (heard : ℕ) (bs : List Body) → length bs ≤ 2 → AllOf (BodyFits heard 127) bs → sum_by deleted_of bs ≤ heard + heard
sum_of_two heard [] l f = omega arith
sum_of_two heard (a ∷ []) l f = let x = deleted_most heard a f.0 in omega (arith, x)
sum_of_two heard (a ∷ b ∷ []) l f = let x = deleted_most heard a f.0 in let y = deleted_most heard b f.1.0 in omega (arith, x, y)
sum_of_two heard (a ∷ b ∷ c ∷ bs) l f = absurd (omega (arith, l))

prevs_of_two : (heard : ℕ) (bs : List Body) → length bs ≤ 2 → AllOf (BodyFits heard 127) bs → length (flat_map prevs_of bs) ≤ heard + heard
prevs_of_two heard [] l f = omega arith
prevs_of_two heard (a ∷ []) l f = let x = (prevs_fit heard a f.0).few in let e = length-append (prevs_of a) [] in omega (arith, x, e)
prevs_of_two heard (a ∷ b ∷ []) l f =
    let x = (prevs_fit heard a f.0).few in
    let y = (prevs_fit heard b f.1.0).few in
    let d = length-append (prevs_of b) [] in
    let e = length-append (prevs_of a) (prevs_of b ++ []) in
    omega (arith, x, y, d, e)
prevs_of_two heard (a ∷ b ∷ c ∷ bs) l f = absurd (omega (arith, l))

twice : (heard : ℕ) → heard + heard ≤ max_number → heard ≤ max_number
twice heard l = omega (arith, l)

joined_fits : (heard : ℕ) (bs : List Body) → heard + heard ≤ max_number → length bs ≤ 2 → AllOf (BodyFits heard 127) bs → BodyFits max_number 128 (joined bs)
joined_fits heard bs l two f =
    let s = sum_of_two heard bs two f in
    let n = prevs_of_two heard bs two f in
    (least (sum_by deleted_of bs) (omega (arith, s, l)), record { all = all_flat (BodyFits heard 127) (KvFits max_number) prevs_of (λ b k. (kvs_weaker heard max_number (twice heard l) (prevs_of b) (prevs_fit heard b k)).all) bs f; few = omega (arith, n, l) })
  where
    least : (n : ℕ) → n ≤ max_number → capped n ≤ max_number
    least n h = omega (arith, h)

first_fits : (heard : ℕ) (bs : List Body) → heard ≤ max_number → AllOf (BodyFits heard 127) bs → BodyFits max_number 128 (first_body bs)
first_fits heard [] l f = tt
first_fits heard (b ∷ bs) l f = body_weaker heard max_number 127 128 l (omega arith) b f.0

-- what an answer to a write says
pub record Wrought (heard : ℕ) (q : Request) (reply : Reply) : Type 0 where
  pub header : HeaderFits heard reply.header
  pub body : BodyFits max_number 128 reply.body
  pub few : length (operations q reply.body) ≤ 128

abbrev pub WroughtIf : ℕ → Request → Option Written → Type 0
WroughtIf heard q None = Unit {0}
WroughtIf heard q (Some (Wrote reply)) = Wrought heard q reply
WroughtIf heard q (Some (Blocked os)) = Unit {0}

answered_fits : (heard : ℕ) (p : List ℕ) (q : Request) (bs : List Body) → heard + heard ≤ max_number → Bytes p → RequestFits 126 q → fits_all (write_ops p q) bs ≡ true → AllOf (BodyFits heard 127) bs → BodyFits max_number 128 (answer_of q bs)
answered_fits heard p (request.Delete ask) bs l b f e h =
    let parted = all_length_fits (write_ops p (request.Delete ask)) bs e in
    let mapped = length_map (delete_part ask.prev_kv) (parts p ask.range) in
    let two = (parts_fit p ask.range b f).few in
    either (BodyFits max_number 128) (is_one ask.range) (first_body bs) (joined bs) (first_fits heard bs (twice heard l) h) (joined_fits heard bs l (omega (arith, parted, mapped, two)) h)
answered_fits heard p (request.Put ask) bs l b f e h = first_fits heard bs (twice heard l) h
answered_fits heard p (request.Txn t) bs l b f e h = first_fits heard bs (twice heard l) h
answered_fits heard p (request.Range ask) bs l b f e h = first_fits heard bs (twice heard l) h
answered_fits heard p (request.Compact revision physical) bs l b f e h = first_fits heard bs (twice heard l) h
answered_fits heard p (request.Grant ttl lease) bs l b f e h = first_fits heard bs (twice heard l) h
answered_fits heard p (request.Revoke lease) bs l b f e h = first_fits heard bs (twice heard l) h
answered_fits heard p (request.KeepAlive lease) bs l b f e h = first_fits heard bs (twice heard l) h
answered_fits heard p (request.TimeToLive lease keys) bs l b f e h = first_fits heard bs (twice heard l) h
answered_fits heard p request.Leases bs l b f e h = first_fits heard bs (twice heard l) h
answered_fits heard p (request.Watch ask) bs l b f e h = first_fits heard bs (twice heard l) h

few_operations : (heard : ℕ) (p : List ℕ) (q : Request) (bs : List Body) → fits_all (write_ops p q) bs ≡ true → AllOf (BodyFits heard 127) bs → length (operations q (answer_of q bs)) ≤ 128
few_operations heard p (request.Txn t) [] e h = absurd (cc)
few_operations heard p (request.Txn t) (b ∷ bs) e h = branch_few heard t b (and_first (fits (op.Txn t) b) (fits_all [] bs) e) h.0
few_operations heard p (request.Delete ask) bs e h = omega arith
few_operations heard p (request.Put ask) bs e h = omega arith
few_operations heard p (request.Range ask) bs e h = omega arith
few_operations heard p (request.Compact revision physical) bs e h = omega arith
few_operations heard p (request.Grant ttl lease) bs e h = omega arith
few_operations heard p (request.Revoke lease) bs e h = omega arith
few_operations heard p (request.KeepAlive lease) bs e h = omega arith
few_operations heard p (request.TimeToLive lease keys) bs e h = omega arith
few_operations heard p request.Leases bs e h = omega arith
few_operations heard p (request.Watch ask) bs e h = omega arith

pub written_holds : (heard : ℕ) (p : List ℕ) (q : Request) (reply : Reply) → heard + heard ≤ max_number → Bytes p → RequestFits 126 q → ReplyFits heard reply → WroughtIf heard q (written p q reply)
written_holds heard p q reply l b f h = by_branch (fits_txn (guarded p q (λ k. 0)) reply.body) refl (branch_of reply.body) refl (branch_fits heard reply.body h.1)
  where
    by_ran : (succeeded : Bool) (bs : List Body) → cond succeeded (fits_all (write_ops p q) bs) (fits_all (guarded p q (λ k. 0)).failure bs) ≡ true → AllOf (BodyFits heard 127) bs → WroughtIf heard q (Some (written_of p q reply.header succeeded bs))
    by_ran true bs e k = record { header = h.0; body = answered_fits heard p q bs l b f e k; few = few_operations heard p q bs e k }
    by_ran false bs e k = tt

    by_branch : (x : Bool) → fits_txn (guarded p q (λ k. 0)) reply.body ≡ x → (o : Option (Bool × List Body)) → branch_of reply.body ≡ o → BranchFits heard o → WroughtIf heard q (reading x o (written_of p q reply.header))
    by_branch x e None g k = tt
    by_branch true e (Some ran) g k = by_ran ran.0 ran.1 (subst (λ (y : Option (Bool × List Body)). fits_branch y (fits_all (write_ops p q)) (fits_all (guarded p q (λ k. 0)).failure) ≡ true) g e) k
    by_branch false e (Some ran) g k = tt

-- ---- what an acquire found

abbrev pub ClaimHolds : ℕ → Claim → Type 0
ClaimHolds heard (Acquired create kv) = PrevFits heard kv
ClaimHolds heard (OwnedBy kv owner) = PrevFits heard kv

pub claim_holds : (heard : ℕ) (p k : List ℕ) (reply : Reply) → ReplyFits heard reply → If (ClaimHolds heard) (claimed p k reply)
claim_holds heard p k reply h = by_branch (fits_txn (acquire p k 0) reply.body) (branch_of reply.body) (branch_fits heard reply.body h.1)
  where
    by_ran : (succeeded : Bool) (bs : List Body) → AllOf (BodyFits heard 127) bs → ClaimHolds heard (claim_of p reply.header.revision succeeded bs)
    by_ran true bs f = record_shown heard bs 0 f
    by_ran false bs f = record_shown heard bs 0 f

    by_branch : (x : Bool) (o : Option (Bool × List Body)) → BranchFits heard o → If (ClaimHolds heard) (reading x o (claim_of p reply.header.revision))
    by_branch x None f = tt
    by_branch true (Some ran) f = by_ran ran.0 ran.1 f
    by_branch false (Some ran) f = tt

-- ---- what is read of held records

pub plain_fits : (most deep : ℕ) (o : Option Kv) → most ≤ max_number → PrevFits most o → BodyFits max_number deep (plain_body (option_to_list o))
plain_fits most deep None l h = (omega arith, record { all = tt; few = omega arith })
plain_fits most deep (Some kv) l h = (omega arith, record { all = (kv_weaker most max_number l kv h, tt); few = omega arith })

abbrev held_in : Keyed Entry → Held
held_in es = λ k. held_record (at es k)

held_kept : (most : ℕ) (o : Option Entry) → If (EntryHolds most) o → PrevFits most (unwrap_or (held_record o) None)
held_kept most None h = tt
held_kept most (Some e) h = either (λ (x : Option (Option Kv)). PrevFits most (unwrap_or x None)) (is_held (Some e)) (Some e.kv) None h tt

operation_fits : (most : ℕ) (es : Keyed Entry) (o : Op) → most ≤ max_number → EntriesHold most es → BodyFits max_number 127 (snapshot_body (held_in es) o)
operation_fits most es (op.Range ask) l h = plain_fits most 127 (record_held (held_in es) ask.range.key) l (held_kept most (at es ask.range.key) (at_holds (EntryHolds most) es ask.range.key h))
operation_fits most es (op.Put ask) l h = tt
operation_fits most es (op.Delete ask) l h = tt
operation_fits most es (op.Txn' compare m success n failure) l h = tt

all_operations_fit : (most : ℕ) (es : Keyed Entry) (ops : List Op) → most ≤ max_number → EntriesHold most es → AllOf (BodyFits max_number 127) (map (snapshot_body (held_in es)) ops)
all_operations_fit most es [] l h = tt
all_operations_fit most es (o ∷ ops) l h = (operation_fits most es o l h, all_operations_fit most es ops l h)

ran_fits : (most : ℕ) (es : Keyed Entry) (succeeded : Bool) (ops : List Op) → most ≤ max_number → length ops ≤ 128 → EntriesHold most es → BodyFits max_number 128 (body.Txn succeeded (map (snapshot_body (held_in es)) ops))
ran_fits most es succeeded ops l few h =
    let e = length_map (snapshot_body (held_in es)) ops in
    txn_fits max_number 127 succeeded (map (snapshot_body (held_in es)) ops) (omega (arith, e, few)) (all_operations_fit most es ops l h)

record HasRoomFor (t : TxnAsk) : Type 0 where
  success : length t.success ≤ 128
  failure : length t.failure ≤ 128

room_for : (t : TxnAsk) → is_snapshot t ≡ true → HasRoomFor t
room_for t e =
    let a = has_room t.compare && has_room t.success && has_room t.failure in
    let b = and_first (a && list_all _ t.compare) (list_all _ t.success) (and_first (a && list_all _ t.compare && list_all _ t.success) (list_all _ t.failure) e) in
    let c = and_first a (list_all _ t.compare) b in
    record {
      success = leb-true (length t.success) 128 (and_second (has_room t.compare) (has_room t.success) (and_first (has_room t.compare && has_room t.success) (has_room t.failure) c));
      failure = leb-true (length t.failure) 128 (and_second (has_room t.compare && has_room t.success) (has_room t.failure) c);
    }

snapshot_by_fits : (most : ℕ) (es : Keyed Entry) (t : TxnAsk) (succeeded : Bool) → most ≤ max_number → HasRoomFor t → EntriesHold most es → BodyFits max_number 128 (snapshot_by (held_in es) t succeeded)
snapshot_by_fits most es t true l r h = ran_fits most es true t.success l r.success h
snapshot_by_fits most es t false l r h = ran_fits most es false t.failure l r.failure h

snapshot_fits : (most : ℕ) (es : Keyed Entry) (t : TxnAsk) → most ≤ max_number → EntriesHold most es → If (BodyFits max_number 128) (snapshot (held_in es) t)
snapshot_fits most es t l h = by_test (is_snapshot t && not (names_nothing t) && all_held (held_in es) t) refl
  where
    by_test : (b : Bool) → is_snapshot t && not (names_nothing t) && all_held (held_in es) t ≡ b → If (BodyFits max_number 128) (cond b (Some (snapshot_by (held_in es) t (list_all (snapshot_holds (held_in es)) t.compare))) None)
    by_test false e = tt
    by_test true e =
        snapshot_by_fits most es t (list_all (snapshot_holds (held_in es)) t.compare) l
        (room_for t (and_first (is_snapshot t) (not (names_nothing t)) (and_first (is_snapshot t && not (names_nothing t)) (all_held (held_in es) t) e))) h

pub held_body_fits : (most : ℕ) (session : Option ℕ) (es : Keyed Entry) (q : Request) → most ≤ max_number → EntriesHold most es → If (BodyFits max_number 128) (if_live session (held_body es q))
held_body_fits most None es q l h = tt
held_body_fits most (Some n) es (request.Txn t) l h = snapshot_fits most es t l h
held_body_fits most (Some n) es (request.Range ask) l h = tt
held_body_fits most (Some n) es (request.Put ask) l h = tt
held_body_fits most (Some n) es (request.Delete ask) l h = tt
held_body_fits most (Some n) es (request.Compact revision physical) l h = tt
held_body_fits most (Some n) es (request.Grant ttl lease) l h = tt
held_body_fits most (Some n) es (request.Revoke lease) l h = tt
held_body_fits most (Some n) es (request.KeepAlive lease) l h = tt
held_body_fits most (Some n) es (request.TimeToLive lease keys) l h = tt
held_body_fits most (Some n) es request.Leases l h = tt
held_body_fits most (Some n) es (request.Watch ask) l h = tt
