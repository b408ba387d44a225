-- What isn't refused of a write.
use Rattle.std.proofs.Common.{◌≡◌, ℕ, Bool, true, false, not, ◌&&◌, ◌||◌, cond, List, [], ◌∷◌, ◌++◌, map, Option, None, Some, refl, sym, ◌∙◌, ap}
use Rattle.std.specs.List.{list_all, list_any}
use Rattle.std.specs.Ordering.{is_lt, is_eq}
use Rattle.std.specs.Option.{option_map}
use Rattle.etcd_types.specs.declared.answer.Body.{Body}
use Rattle.etcd_types.specs.declared.answer.Refusal.{Refusal}
use Rattle.etcd_types.specs.declared.operation.Op.{Op}
use Rattle.etcd_types.specs.declared.operation.Op.TheVariants as op
use Rattle.etcd_types.specs.declared.key_range.KeyRange.{KeyRange}
use Rattle.etcd_types.specs.declared.request.Request.{Request}
use Rattle.etcd_types.specs.declared.request.Request.TheVariants as request
use Rattle.etcd_types.specs.Keys.{is_empty}
use Rattle.etcd_types.specs.Ranges.{is_one, contains, overlaps}
use Rattle.etcd_types.proofs.Bools.{and_first, and_both, or_none, or_first, or_second, false_not}
use Rattle.store_model.specs.LeftRecords.{is_flat}
use Rattle.store_model.specs.Leaves.{all_leaves}
use Rattle.store_model.specs.Refusals.{key_not_provided, too_many_operations}
use Rattle.proxy_model.specs.Fits.{branch_of}
use Rattle.proxy_model.specs.Guarded.{delete_part}
use Rattle.proxy_model.specs.Prefixes.{only, prefix_end, leasing_range}
use Rattle.proxy_model.specs.RequestRefusals.{first_of, unserved, unserved_op, unserved_ops, unsupported, op_lacks_key, request_lacks_key, names_session, reserved_lease, given}
use Rattle.proxy_model.specs.SeveralKeys.{range_cmp, with_range, with_written, with_all_written, part_before, part_behind}
use Rattle.proxy_model.specs.declared.unserved.Unserved.{Unserved}
use Rattle.wait_model.specs.Operations.{branch}
use Rattle.core_model.specs.Refusals.{op_touches, touches, reserved_range, writes_too_much, refusal_of}
use Rattle.cache_laws.specs.Guards.Covers.{puts_out, deletes_out}
use Rattle.cache_laws.proofs.Guards.OwnershipProofs.{leaves_is_txn}
use Rattle.cache_laws.specs.Store.ToldAnswers.{told_branch, begins_empty}
use Rattle.call_laws.specs.Served.{ServedWritesMayBeSent, ToldOpsAreTheWrites}

-- the first of some is none where each is none

none_first : {A : Type 0} (o : Option A) (rest : List (Option A)) → first_of (o ∷ rest) ≡ None → o ≡ None
none_first None rest e = refl
none_first (Some x) rest e = e

none_rest : {A : Type 0} (o : Option A) (rest : List (Option A)) → first_of (o ∷ rest) ≡ None → first_of rest ≡ None
none_rest None rest e = e
none_rest (Some x) rest e = absurd (cc)

not_given : (b : Bool) (r : Refusal) → given b r ≡ None → b ≡ false
not_given true r e = absurd (cc)
not_given false r e = refl

not_mapped : (o : Option Unserved) → option_map unsupported o ≡ None → o ≡ None
not_mapped None e = refl
not_mapped (Some x) e = absurd (cc)

three : (a b c : Bool) → a || b || c ≡ false → (b ≡ false) × (c ≡ false)
three false false false h = (refl, refl)
three true b c h = absurd (cc)
three false true c h = absurd (cc)
three false false true h = absurd (cc)

-- What isn't refused of operations: they are no transactions, stay out of the leasing range, and name no empty key.

flat_op : (o : Op) → unserved_op o ≡ None → is_flat o ≡ true
flat_op (op.Range ask) u = refl
flat_op (op.Put ask) u = refl
flat_op (op.Delete ask) u = refl
flat_op (op.Txn' compare m success n failure) u = absurd (cc)

flat_all : (os : List Op) → unserved_ops os ≡ None → list_all is_flat os ≡ true
flat_all [] u = refl
flat_all (o ∷ os) u = and_both (is_flat o) (list_all is_flat os) (flat_op o (none_first (unserved_op o) _ u)) (flat_all os (none_first (unserved_ops os) [] (none_rest (unserved_op o) _ u)))

out_op : (p : List ℕ) (o : Op) → unserved_op o ≡ None → op_touches (leasing_range p) o ≡ false → all_leaves (puts_out p) (deletes_out p) o ≡ true
out_op p (op.Range ask) u t = refl
out_op p (op.Put ask) u t = false_not (contains (leasing_range p) ask.key) t
out_op p (op.Delete ask) u t = false_not (overlaps ask.range (leasing_range p)) (or_second (contains (leasing_range p) ask.range.key) (overlaps ask.range (leasing_range p)) t)
out_op p (op.Txn' compare m success n failure) u t = absurd (cc)

out_all : (p : List ℕ) (os : List Op) → unserved_ops os ≡ None → list_any (op_touches (leasing_range p)) os ≡ false → list_all (all_leaves (puts_out p) (deletes_out p)) os ≡ true
out_all p [] u t = refl
out_all p (o ∷ os) u t =
    and_both (all_leaves (puts_out p) (deletes_out p) o) (list_all (all_leaves (puts_out p) (deletes_out p)) os)
    (out_op p o (none_first (unserved_op o) _ u) (or_first (op_touches (leasing_range p) o) (list_any (op_touches (leasing_range p)) os) t))
    (out_all p os (none_first (unserved_ops os) [] (none_rest (unserved_op o) _ u)) (or_second (op_touches (leasing_range p) o) (list_any (op_touches (leasing_range p)) os) t))

with_range_keys : (r : KeyRange) (rs : List KeyRange) → begins_empty r ≡ false → list_any begins_empty rs ≡ false → list_any begins_empty (with_range r rs) ≡ false
with_range_keys r [] h t = or_none (begins_empty r) false h refl
with_range_keys r (s ∷ rs) h t = by (is_lt (range_cmp r s)) (is_eq (range_cmp r s)) (with_range_keys r rs h (or_second (begins_empty s) (list_any begins_empty rs) t))
  where
    by : (a b : Bool) → list_any begins_empty (with_range r rs) ≡ false → list_any begins_empty (cond a (r ∷ s ∷ rs) (cond b (s ∷ rs) (s ∷ with_range r rs))) ≡ false
    by true b later = or_none (begins_empty r) (list_any begins_empty (s ∷ rs)) h t
    by false true later = t
    by false false later = or_none (begins_empty s) (list_any begins_empty (with_range r rs)) (or_first (begins_empty s) (list_any begins_empty rs) t) later

written_keys : (o : Op) (rs : List KeyRange) → unserved_op o ≡ None → op_lacks_key o ≡ false → list_any begins_empty rs ≡ false → list_any begins_empty (with_written o rs) ≡ false
written_keys (op.Range ask) rs u l h = h
written_keys (op.Put ask) rs u l h = with_range_keys (only ask.key) rs l h
written_keys (op.Delete ask) rs u l h = with_range_keys ask.range rs l h
written_keys (op.Txn' compare m success n failure) rs u l h = absurd (cc)

all_written_keys : (os : List Op) (rs : List KeyRange) → unserved_ops os ≡ None → list_any op_lacks_key os ≡ false → list_any begins_empty rs ≡ false → list_any begins_empty (with_all_written os rs) ≡ false
all_written_keys [] rs u l h = h
all_written_keys (o ∷ os) rs u l h =
    all_written_keys os (with_written o rs) (none_first (unserved_ops os) [] (none_rest (unserved_op o) _ u)) (or_second (op_lacks_key o) (list_any op_lacks_key os) l)
    (written_keys o rs (none_first (unserved_op o) _ u) (or_first (op_lacks_key o) (list_any op_lacks_key os) l) h)

-- Of a whole request.

first_none : (a b c d e : Option Refusal) → first_of (a ∷ b ∷ c ∷ d ∷ e ∷ []) ≡ None → (a ≡ None) × (b ≡ None) × (c ≡ None)
first_none None None None d e h = (refl, refl, refl)
first_none None None (Some x) d e h = absurd (cc)
first_none None (Some x) c d e h = absurd (cc)
first_none (Some x) b c d e h = absurd (cc)

record Served (p : List ℕ) (q : Request) : Type 0 where
  served : unserved q ≡ None
  keyed : request_lacks_key q ≡ false
  apart : touches (leasing_range p) q ≡ false

is_served : (p : List ℕ) (q : Request) → is_empty p ≡ false → refusal_of p q ≡ None → Served p q
is_served p q named e =
    let n = first_none (option_map unsupported (unserved q)) (given (request_lacks_key q) key_not_provided) (given (not (is_empty p) && touches (leasing_range p) q) reserved_range) (given (names_session q) reserved_lease) (given (not (is_empty p) && writes_too_much q) too_many_operations) e in
    record {
      served = not_mapped (unserved q) n.0;
      keyed = not_given (request_lacks_key q) key_not_provided n.1;
      apart = sym (ap (λ (b : Bool). not b && touches (leasing_range p) q) named) ∙ not_given (not (is_empty p) && touches (leasing_range p) q) reserved_range n.2;
    }

pub served_writes_may_be_sent : ServedWritesMayBeSent
served_writes_may_be_sent p (request.Put ask) created named w e guards unleased =
    let k = (is_served p (request.Put ask) named e).keyed in
    record { is_write = tt; out = false_not (contains (leasing_range p) ask.key) (is_served p (request.Put ask) named e).apart; flat = refl; guards = guards; unleased = unleased; keys = or_none (is_empty ask.key) false k refl }
served_writes_may_be_sent p (request.Delete ask) created named w e guards unleased =
    let k = (is_served p (request.Delete ask) named e).keyed in
    record { is_write = tt; out = false_not (contains (leasing_range p) ask.range.key) (is_served p (request.Delete ask) named e).apart; flat = refl; guards = guards; unleased = unleased; keys = or_none (is_empty ask.range.key) false k refl }
served_writes_may_be_sent p (request.Txn t) created named w e guards unleased =
    let is = is_served p (request.Txn t) named e in
    let u = is.served in
    let first = none_first (unserved_ops t.success) _ u in
    let second = none_first (unserved_ops t.failure) [] (none_rest (unserved_ops t.success) _ u) in
    let lacks = three _ (list_any op_lacks_key t.success) (list_any op_lacks_key t.failure) is.keyed in
    let touched = is.apart in
    record {
      is_write = tt;
      out =
          leaves_is_txn (puts_out p) (deletes_out p) t
          ∙ and_both (list_all (all_leaves (puts_out p) (deletes_out p)) t.success) (list_all (all_leaves (puts_out p) (deletes_out p)) t.failure)
          (out_all p t.success first (or_first (list_any (op_touches (leasing_range p)) t.success) (list_any (op_touches (leasing_range p)) t.failure) touched))
          (out_all p t.failure second (or_second (list_any (op_touches (leasing_range p)) t.success) (list_any (op_touches (leasing_range p)) t.failure) touched));
      flat = and_both (list_all is_flat t.success) (list_all is_flat t.failure) (flat_all t.success first) (flat_all t.failure second);
      guards = guards;
      unleased = unleased;
      keys = all_written_keys t.failure (with_all_written t.success []) second lacks.1 (all_written_keys t.success [] first lacks.0 refl);
    }
served_writes_may_be_sent p (request.Range ask) created named w e guards unleased = absurd w
served_writes_may_be_sent p (request.Compact revision physical) created named w e guards unleased = absurd w
served_writes_may_be_sent p (request.Grant ttl lease) created named w e guards unleased = absurd w
served_writes_may_be_sent p (request.Revoke lease) created named w e guards unleased = absurd w
served_writes_may_be_sent p (request.KeepAlive lease) created named w e guards unleased = absurd w
served_writes_may_be_sent p (request.TimeToLive lease keys) created named w e guards unleased = absurd w
served_writes_may_be_sent p request.Leases created named w e guards unleased = absurd w
served_writes_may_be_sent p (request.Watch ask) created named w e guards unleased = absurd w

-- The operations that ran.

pub told_ops_are_the_writes : ToldOpsAreTheWrites
told_ops_are_the_writes p (request.Put ask) b single = refl
told_ops_are_the_writes p (request.Delete ask) b single = ap (map (delete_part ask.prev_kv)) (ap (λ (o : Bool). cond (o || not (overlaps ask.range (leasing_range p))) (ask.range ∷ []) (part_before p ask.range ++ part_behind (prefix_end p) ask.range)) (and_first (is_one ask.range) true single))
told_ops_are_the_writes p (request.Txn t) b single = by (branch_of b)
  where
    by : (o : Option (Bool × List Body)) → told_branch t o ≡ branch t.success t.failure o
    by None = refl
    by (Some (true, bodies)) = refl
    by (Some (false, bodies)) = refl
told_ops_are_the_writes p (request.Range ask) b single = refl
told_ops_are_the_writes p (request.Compact revision physical) b single = refl
told_ops_are_the_writes p (request.Grant ttl lease) b single = refl
told_ops_are_the_writes p (request.Revoke lease) b single = refl
told_ops_are_the_writes p (request.KeepAlive lease) b single = refl
told_ops_are_the_writes p (request.TimeToLive lease keys) b single = refl
told_ops_are_the_writes p request.Leases b single = refl
told_ops_are_the_writes p (request.Watch ask) b single = refl
