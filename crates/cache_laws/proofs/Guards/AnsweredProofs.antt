-- Which transactions the store answers, and which refusals the others can meet.
use Rattle.std.proofs.Common.{◌≡◌, ◌≢◌, ◌≤◌, sym, inl, ◌++◌, ℕ, ◌-◌, Bool, true, false, cond, not, ◌&&◌, ◌||◌, ◌==◌, nat_lt, nat_le, max, List, [], ◌∷◌, ◌++◌, length, map, Option, None, Some, Ok, refl, ◌∙◌, ap, subst, arith}
use Rattle.std.specs.List.{list_all, list_any}
use Rattle.std.proofs.lemmas.Bool.Decides.{nat_tests}
use Rattle.cache_laws.proofs.Guards.CoversProofs.{not_empty_with}
use Rattle.etcd_types.specs.declared.record.Kv.{Kv}
use Rattle.etcd_types.specs.declared.operation.PutAsk.{PutAsk}
use Rattle.etcd_types.specs.declared.key_range.KeyRange.{KeyRange}
use Rattle.etcd_types.specs.declared.operation.Compare.{Compare}
use Rattle.etcd_types.specs.declared.operation.DeleteAsk.{DeleteAsk}
use Rattle.etcd_types.specs.declared.operation.Sort.{Sort}
use Rattle.etcd_types.specs.declared.operation.Op.{Op}
use Rattle.etcd_types.specs.declared.operation.Op.TheVariants.{Range, Put, Delete, Txn'}
use Rattle.etcd_types.specs.declared.request.Request.TheVariants as request
use Rattle.etcd_types.specs.Keys.{is_empty, is_zero, up_to, before}
use Rattle.etcd_types.specs.Ranges.{is_one, overlaps}
use Rattle.store_model.specs.Records.{record_now}
use Rattle.store_model.specs.Reads.{is_unsupported}
use Rattle.store_model.specs.State.{State}
use Rattle.store_model.specs.Compares.{compare_holds}
use Rattle.store_model.specs.FirstRefusals.{exceeds_all, txn_lacks_key, repeats_key, operations_limit, put_keys, has_twins, deletes_one_of, list_repeats_key}
use Rattle.store_model.specs.Transactions.{run_all, put_on, answered, first_then}
use Rattle.proxy_model.specs.Acquire.{acquire}
use Rattle.proxy_model.specs.Asks.{created_at}
use Rattle.proxy_model.specs.Foreign.{ask_revoke, revoke_word}
use Rattle.proxy_model.specs.Guarded.{guard, guarded, delete_part, read_owners}
use Rattle.proxy_model.specs.SeveralKeys.{end_before, start_behind, parts}
use Rattle.proxy_model.specs.Leaving.{rescind}
use Rattle.proxy_model.specs.Prefixes.{only, leasing_range, prefix_end}
use Rattle.etcd_types.proofs.KeyOrder.{same-itself}
use Rattle.cache_laws.proofs.Guards.Compares.{holds-create}
use Rattle.proxy_model.specs.Snapshot.{is_plain, is_plain_read, is_unsorted, has_room, compares_one}
use Rattle.cache_laws.specs.Guards.Answered.{IsAnswered, SnapshotsAreAnswered, AcquiresAreAnswered, RescindsAreAnswered, AcquiresLackLease, RevokesAreAnswered, PutsAreAnswered, PutsLackLease, DeletesAreAnswered}
use Rattle.proxy_model.proofs.PrefixEnds.{end_not_empty}
use Rattle.store_laws.specs.Requests.Branches.{holds_now}
use Rattle.cache_laws.specs.Guards.GuardLaw.{create_of}
use Rattle.etcd_types.proofs.Bools.{and_first, and_second, and_both}
use Rattle.cache_laws.proofs.Guards.Running.{op_runs, Runs, runs_answered, ran_answers, txn_answers, only_txn, only_refused}

pub acquires_are_answered : AcquiresAreAnswered
acquires_are_answered s member p k lease np nk g =
    txn_answers s member (acquire p k lease) refl
    (λ i. (not_empty_with p k np i || (nk i || false)) || (nk i || (not_empty_with p k np i || false)) || (nk i || (not_empty_with p k np i || false)))
    refl (λ i. true && ((g i && true) && true)) refl

pub rescinds_are_answered : RescindsAreAnswered
rescinds_are_answered s member p k create np =
    txn_answers s member (rescind p k create) refl (λ i. (not_empty_with p k np i || false) || (not_empty_with p k np i || false) || false) refl refl refl

-- snapshots

unsorted_served : (sort : Sort) → is_unsorted sort ≡ true → is_unsupported sort ≡ false
unsorted_served sort e = grind (arith, nat_tests)

plain_runs : (s : State) (op : Op) → is_plain_read op ≡ true → op_runs s op ≡ true
plain_runs s (Range ask) e =
    let sorted = and_second _ (is_unsorted ask.sort) e in
    let to_now = and_first _ (not ask.serializable) (and_first _ (not ask.keys_only) (and_first _ (not ask.count_only) (and_first _ (is_unsorted ask.sort) e))) in
    and_both (ask.revision == 0) _ (and_second (is_one ask.range) _ to_now) (ap not (unsorted_served ask.sort sorted))
plain_runs s (Put ask) e = absurd (cc)
plain_runs s (Delete ask) e = absurd (cc)
plain_runs s (Txn' compare m success n failure) e = absurd (cc)

all_plain : (s : State) (ops : List Op) → list_all is_plain_read ops ≡ true → list_all (op_runs s) ops ≡ true
all_plain s [] e = refl
all_plain s (op ∷ ops) e = and_both (op_runs s op) _ (plain_runs s op (and_first (is_plain_read op) _ e)) (all_plain s ops (and_second (is_plain_read op) _ e))

plain_exceeds : (limit : ℕ) (ops : List Op) → list_all is_plain_read ops ≡ true → exceeds_all limit ops ≡ false
plain_exceeds limit [] e = refl
plain_exceeds limit (Range ask ∷ ops) e = plain_exceeds limit ops (and_second (is_plain ask) _ e)
plain_exceeds limit (Put ask ∷ ops) e = absurd (cc)
plain_exceeds limit (Delete ask ∷ ops) e = absurd (cc)
plain_exceeds limit (Txn' compare m success n failure ∷ ops) e = absurd (cc)

plain_puts : (ops : List Op) → list_all is_plain_read ops ≡ true → put_keys ops ≡ []
plain_puts [] e = refl
plain_puts (Range ask ∷ ops) e = plain_puts ops (and_second (is_plain ask) _ e)
plain_puts (Put ask ∷ ops) e = absurd (cc)
plain_puts (Delete ask ∷ ops) e = absurd (cc)
plain_puts (Txn' compare m success n failure ∷ ops) e = absurd (cc)

plain_deletes : (keys : List (List ℕ)) (ops : List Op) → list_all is_plain_read ops ≡ true → list_any (deletes_one_of keys) ops ≡ false
plain_deletes keys [] e = refl
plain_deletes keys (Range ask ∷ ops) e = plain_deletes keys ops (and_second (is_plain ask) _ e)
plain_deletes keys (Put ask ∷ ops) e = absurd (cc)
plain_deletes keys (Delete ask ∷ ops) e = absurd (cc)
plain_deletes keys (Txn' compare m success n failure ∷ ops) e = absurd (cc)

plain_repeats : (ops : List Op) → list_all is_plain_read ops ≡ true → list_any repeats_key ops ≡ false
plain_repeats [] e = refl
plain_repeats (Range ask ∷ ops) e = plain_repeats ops (and_second (is_plain ask) _ e)
plain_repeats (Put ask ∷ ops) e = absurd (cc)
plain_repeats (Delete ask ∷ ops) e = absurd (cc)
plain_repeats (Txn' compare m success n failure ∷ ops) e = absurd (cc)

plain_list : (ops : List Op) → list_all is_plain_read ops ≡ true → list_repeats_key ops ≡ false
plain_list ops e =
    ap (λ (ks : List (List ℕ)). has_twins ks || list_any (deletes_one_of ks) ops) (plain_puts ops e) ∙ plain_deletes [] ops e

roomy : (a b c : ℕ) → nat_le a 128 ≡ true → nat_le b 128 ≡ true → nat_le c 128 ≡ true → nat_lt 128 (max a (max b c)) ≡ false
roomy a b c e f g = grind (arith, nat_tests)

pub snapshots_are_answered : SnapshotsAreAnswered
snapshots_are_answered s member t form empty =
    let failure = and_second _ (list_all is_plain_read t.failure) form in
    let to_success = and_first _ (list_all is_plain_read t.failure) form in
    let success = and_second _ (list_all is_plain_read t.success) to_success in
    let to_compares = and_first _ (list_all is_plain_read t.success) to_success in
    let rooms = and_first _ (list_all compares_one t.compare) to_compares in
    let room_failure = and_second _ (has_room t.failure) rooms in
    let room_two = and_first _ (has_room t.failure) rooms in
    let room_success = and_second (has_room t.compare) _ room_two in
    let room_compare = and_first (has_room t.compare) _ room_two in
    let most = max (length t.compare) (max (length t.success) (length t.failure)) in
    txn_answers s member t
    (λ i. roomy (length t.compare) (length t.success) (length t.failure) room_compare room_success room_failure i || plain_exceeds (operations_limit - most) t.success success i || plain_exceeds (operations_limit - most) t.failure failure i)
    empty
    (λ i. plain_list t.success success i || plain_list t.failure failure i || plain_repeats t.success success i || plain_repeats t.failure failure i)
    (all_plain s t.success success) (all_plain s t.failure failure)

acquire_lacks : (p k : List ℕ) (lease : ℕ) → is_empty p ≡ false → is_empty k ≡ false → txn_lacks_key (acquire p k lease) ≡ false
acquire_lacks p k lease np nk = λ i. (not_empty_with p k np i || (nk i || false)) || (nk i || (not_empty_with p k np i || false)) || (nk i || (not_empty_with p k np i || false))

pub acquires_lack_lease : AcquiresLackLease
acquires_lack_lease s member p k lease refusal np nk e =
    only_refused s member (acquire p k lease) refusal refl (acquire_lacks p k lease np nk) refl (only_txn s (acquire p k lease) refl refl) e

-- a revoke call keeps the lease of a key that is there

there : (o : Option Kv) (create : ℕ) → create ≢ 0 → create_of o ≡ create → (kv : Kv) × (o ≡ Some kv)
there None create n e = absurd (n (sym e))
there (Some kv) create n e = (kv, refl)

pub revokes_are_answered : RevokesAreAnswered
revokes_are_answered s member p k create np n =
    ran_answers s member (ask_revoke p k create) refl (λ i. (not_empty_with p k np i || false) || (not_empty_with p k np i || false) || false) refl (by_branch (holds_now s (ask_revoke p k create)) refl)
  where
    by_branch : (h : Bool) → holds_now s (ask_revoke p k create) ≡ h → Runs (cond h (answered true (run_all s (ask_revoke p k create).success [])) (answered false (run_all s (ask_revoke p k create).failure [])))
    by_branch true e =
        let own = p ++ k in
        let (kv, found) = there (record_now s.history own) create n (holds-create s.history (only own) create own (same-itself own) (and_first (compare_holds s.history (created_at (only own) create)) _ e) (inl refl)) in
        let ask : PutAsk = record { key = own; value = revoke_word; lease = 0; prev_kv = false; ignore_lease = true } in
        runs_answered true (run_all s (ask_revoke p k create).success [])
        (subst (λ (o : Option Kv). Runs (first_then (put_on ask [] o) (λ next. Ok (next, [])))) (sym found) tt)
    by_branch false e = tt

pub puts_are_answered : PutsAreAnswered
puts_are_answered s member p ask created np nk g e =
    txn_answers s member (guarded p (request.Put ask) created) refl
    (λ i. (not_empty_with p ask.key np i || false) || (nk i || false) || (not_empty_with p ask.key np i || false))
    refl (λ i. (g i && not (e i)) && true) refl

pub puts_lack_lease : PutsLackLease
puts_lack_lease s member p ask created refusal np nk i e =
    only_refused s member (guarded p (request.Put ask) created) refusal refl
    (λ j. (not_empty_with p ask.key np j || false) || (nk j || false) || (not_empty_with p ask.key np j || false))
    refl (only_txn s (guarded p (request.Put ask) created) (λ j. not (i j) && true) refl) e

-- a delete in parts

-- at most two ranges, and none begins at the empty key
record AreFew (rs : List KeyRange) : Type 0 where
  few : length rs ≤ 2
  keys : list_any (λ r. is_empty r.key) rs ≡ false

few_answered : (s : State) (member : ℕ) (p : List ℕ) (ask : DeleteAsk) (guard : Compare) (rs : List KeyRange) → is_empty p ≡ false → is_empty ask.range.key ≡ false → is_empty guard.range.key ≡ false → AreFew rs
    → IsAnswered s member (record { compare = guard ∷ []; success = map (delete_part ask.prev_kv) rs; failure = read_owners p ask.range ∷ [] })
few_answered s member p ask guard [] np nk ng f =
    txn_answers s member _ refl (λ i. (ng i || false) || false || (not_empty_with p ask.range.key np i || false)) refl refl refl
few_answered s member p ask guard (a ∷ []) np nk ng f =
    txn_answers s member _ refl (λ i. (ng i || false) || f.keys i || (not_empty_with p ask.range.key np i || false)) refl refl refl
few_answered s member p ask guard (a ∷ b ∷ []) np nk ng f =
    txn_answers s member _ refl (λ i. (ng i || false) || f.keys i || (not_empty_with p ask.range.key np i || false)) refl refl refl
few_answered s member p ask guard (a ∷ b ∷ c ∷ rs) np nk ng f = absurd (let few = f.few in omega arith)

behind_key : (t : Bool) (e k : List ℕ) → is_empty e ≡ false → is_empty k ≡ false → is_empty (cond t e k) ≡ false
behind_key true e k ne nk = ne
behind_key false e k ne nk = nk

few_parts : (p : List ℕ) (r : KeyRange) → is_empty r.key ≡ false → AreFew (parts p r)
few_parts p r nk = by_tests (is_one r || not (overlaps r (leasing_range p))) (before r.key (end_before p r) && not (is_zero (end_before p r))) (not (is_zero (prefix_end p)) && (is_zero r.end || before (start_behind (prefix_end p) r) r.end))
  where
    first : KeyRange
    first = record { key = r.key; end = end_before p r }

    second : KeyRange
    second = record { key = start_behind (prefix_end p) r; end = r.end }

    second_key : is_empty (start_behind (prefix_end p) r) ≡ false
    second_key = behind_key (up_to r.key (prefix_end p)) (prefix_end p) r.key (end_not_empty p) nk

    by_tests : (a b c : Bool) → AreFew (cond a (r ∷ []) (cond b (first ∷ []) [] ++ cond c (second ∷ []) []))
    by_tests true b c = record { few = omega arith; keys = λ i. nk i || false }
    by_tests false true true = record { few = omega arith; keys = λ i. nk i || (second_key i || false) }
    by_tests false true false = record { few = omega arith; keys = λ i. nk i || false }
    by_tests false false true = record { few = omega arith; keys = λ i. second_key i || false }
    by_tests false false false = record { few = omega arith; keys = refl }

pub deletes_are_answered : DeletesAreAnswered
deletes_are_answered s member p ask created np nk =
    few_answered s member p ask (guard p created ask.range) (parts p ask.range) np nk (not_empty_with p ask.range.key np) (few_parts p ask.range nk)
