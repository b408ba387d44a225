-- Acquires, rescinds and revoke calls are moves of the view.
use Rattle.std.proofs.Common.{◌≡◌, ◌≢◌, ℕ, Bool, true, false, List, ◌++◌, Option, None, Some, refl, sym, ◌∙◌, ap, subst, arith}
use Rattle.std.proofs.lemmas.List.{append_cancel_left}
use Rattle.etcd_types.specs.declared.record.Kv.{Kv}
use Rattle.etcd_types.specs.declared.operation.TxnAsk.{TxnAsk}
use Rattle.etcd_types.specs.declared.request.Request.TheVariants as request
use Rattle.etcd_types.specs.Keys.{is_empty, same}
use Rattle.etcd_types.specs.Ranges.{contains}
use Rattle.etcd_types.specs.Records.{after_put}
use Rattle.etcd_types.proofs.KeyOrder.{same-equal, same-itself}
use Rattle.store_model.specs.History.{newest}
use Rattle.store_model.specs.Records.{record_now}
use Rattle.store_model.specs.State.{State}
use Rattle.store_model.specs.Transactions.{has_lease}
use Rattle.store_laws.specs.Requests.Requests.{GainsOneRevision}
use Rattle.store_laws.proofs.Requests.RequestProofs.{make_one_revision}
use Rattle.proxy_model.specs.Acquire.{acquire}
use Rattle.proxy_model.specs.Foreign.{ask_revoke, revoke_word}
use Rattle.proxy_model.specs.Leaving.{rescind}
use Rattle.proxy_model.specs.Prefixes.{leasing_range}
use Rattle.cache_laws.proofs.Guards.GuardProofs.{acquires_claim, rescinds_delete, revokes_mark}
use Rattle.cache_laws.specs.Moves.View.{Owner, nobody, Outcome}
use Rattle.cache_laws.specs.Moves.StoreMoves.{acquired}
use Rattle.cache_laws.proofs.Moves.StoreProofs.{acquires_keep}
use Rattle.cache_laws.specs.Store.StoreView.{is_client, owner_in, owner_at, kv_at}
use Rattle.cache_laws.specs.Store.CallSteps.{outcome, AcquiresStep, RescindsStep, RevokeCallsStep}
use Rattle.cache_laws.proofs.Store.Showing.{named, outside, at_true, at_false, chosen_else, owner_stays, kv_stays, next_shows, txn_leases, ran_of, call_stands}
use Rattle.store_laws.specs.Requests.Branches.{holds_now, after_txn}
use Rattle.store_model.specs.LeftRecords.{lease_of}
use Rattle.cache_laws.specs.Guards.GuardLaw.{create_of, create_now, IsAcquired, IsOnOwner}
use Rattle.cache_laws.proofs.Guards.CoversProofs.{in_leasing}
use Rattle.store_laws.proofs.Lives.SoundProofs.{requests_keep_sound}
use Rattle.store_laws.proofs.Lives.TestedProofs.{keys_stay_tested}
use Rattle.cache_laws.specs.Guards.OwnershipKeys.{has_owner}
use Rattle.cache_laws.proofs.Guards.OwnershipProofs.{owners_put_owned}
use Rattle.cache_laws.proofs.Guards.AloneProofs.{owners_put_alone}

-- a client key is no ownership key
pub apart_keys : (p key k : List ℕ) → is_empty key ≡ false → is_client p k ≡ true → k ≡ p ++ key → ⊥
apart_keys p key k n c e =
    let out = outside p k c in
    let inside = subst (λ (j : List ℕ). contains (leasing_range p) j ≡ true) (sym e) (in_leasing p key n) in
    absurd (cc)

pub acquires_step : AcquiresStep
acquires_step holder s member p key lease reply v i client told is_out call stands =
    record {
      shows = next_shows p s t v (acquired v i o (newest t.history)) stands.shows gains refl (λ k. refl) (λ k. refl) (λ r k. refl) (λ n. stands.shows.leases n ∙ ap (λ ls. has_lease ls n) (sym (txn_leases s member (acquire p key lease))));
      inv = acquires_keep holder v i o (newest t.history)
          (record {
            ran = ran_of s t o stands.shows gains is_out refl;
            kind = call.kind;
            untimed = refl;
            same = λ k. kv_stays s.history t.history p k (λ c. law.others k (apart_keys p key k (named p key client) c)) ∙ sym (stands.shows.kvs k);
            others = λ k n. owner_stays s.history t.history p k (λ c. law.others (p ++ k) (λ e. n (call.key ∙ sym (append_cancel_left p k key e)))) ∙ sym (stands.shows.owners k);
            failed = λ f k. owner_stays s.history t.history p k (λ c. law.failed f (p ++ k)) ∙ sym (stands.shows.owners k);
            newer = λ ok. (let e = stands.shows.rev in let g = law.newer ok in omega arith);
            created = λ ok. refl;
            free = λ ok k is.
                ap (λ (o : Owner). o.create) (stands.shows.owners k ∙ at_false (is_empty k) (owner_in (record_now s.history (p ++ k))) nobody (is_named k is))
                ∙ ap create_of (ap (λ (j : List ℕ). record_now s.history (p ++ j)) (sym (sym call.key ∙ is)) ∙ law.free ok);
            unleased = λ ok k is.
                ap lease_of (stands.shows.kvs k ∙ at_true (is_client p k) (record_now s.history k) None (is_it k is))
                ∙ ap (λ (j : List ℕ). lease_of (record_now s.history j)) (sym (sym call.key ∙ is)) ∙ law.unleased ok;
            owned = λ ok k is.
                at_false (is_empty k) (owner_in (record_now t.history (p ++ k))) nobody (is_named k is)
                ∙ ap owner_in (ap (λ (j : List ℕ). record_now t.history (p ++ j)) (sym (sym call.key ∙ is)) ∙ law.owned ok)
                ∙ (λ j. record { create = newest t.history; session = sym call.session j });
          })
          stands.inv;
      orderly = record {
        sound = requests_keep_sound s member (request.Txn (acquire p key lease)) stands.orderly.sound;
        owned = keys_stay_tested (has_owner p) s member (request.Txn (acquire p key lease)) stands.orderly.owned (owners_put_owned p key lease (named p key client)).0;
        alone = (owners_put_alone s member p key lease stands.orderly.alone).0;
      };
    }
  where
    t : State
    t = after_txn s member (acquire p key lease)

    o : Outcome
    o = outcome (after_txn s member (acquire p key lease)) p (holds_now s (acquire p key lease))

    gains : GainsOneRevision s (after_txn s member (acquire p key lease))
    gains = make_one_revision s member (request.Txn (acquire p key lease))

    law : IsAcquired p key lease s (after_txn s member (acquire p key lease))
    law = acquires_claim s member p key lease reply told

    is_it : (k : List ℕ) → (v.calls i).key ≡ k → is_client p k ≡ true
    is_it k is = subst (λ (j : List ℕ). is_client p j ≡ true) (sym call.key ∙ is) client

    is_named : (k : List ℕ) → (v.calls i).key ≡ k → is_empty k ≡ false
    is_named k is = named p k (is_it k is)

unlike : (key k : List ℕ) → same key k ≡ false → k ≢ key
unlike key k e f = (let g : same key key ≡ false = subst (λ (j : List ℕ). same key j ≡ false) f e in let h = same-itself key in absurd (cc))

pub rescinds_step : RescindsStep
rescinds_step holder s member p key create reply v i nonempty told is_out call stands =
    call_stands holder p s t v i o stands (record { sound = requests_keep_sound s member (request.Txn (rescind p key create)) stands.orderly.sound; owned = keys_stay_tested (has_owner p) s member (request.Txn (rescind p key create)) stands.orderly.owned (owners_put_owned p key create nonempty).1; alone = (owners_put_alone s member p key create stands.orderly.alone).1 })
    gains (txn_leases s member (rescind p key create)) (λ k. refl) (λ k. refl)
    (record {
      ran = ran_of s t o stands.shows gains is_out refl;
      kind = λ e. (let f = call.kind in absurd (cc));
      untimed = refl;
      guarded = λ ok k c.
          (let is = same-equal key k (sym (call.covers k) ∙ c) in
          ap (λ (o : Owner). o.create) (stands.shows.owners k ∙ at_false (is_empty k) (owner_in (record_now s.history (p ++ k))) nobody (is_named k is))
          ∙ ap (λ (j : List ℕ). create_now s (p ++ j)) (sym is) ∙ law.guard ok ∙ sym (call.guards k));
      others = λ k c. owner_stays s.history t.history p k (λ e. law.others (p ++ k) (λ f. unlike key k (sym (call.covers k) ∙ c) (append_cancel_left p k key f))) ∙ sym (stands.shows.owners k);
      others_kv = λ k c. same_kv k;
      failed = λ f k. owner_stays s.history t.history p k (λ e. law.failed f (p ++ k)) ∙ sym (stands.shows.owners k);
      failed_kv = λ f k. same_kv k;
      kept = λ q k. (let f = call.kind in absurd (cc));
      left = λ ok q. (let f = call.kind in absurd (cc));
      unleased = λ ok q. (let f = call.kind in absurd (cc));
      gone = λ n k c ok.
          (let is = same-equal key k (sym (call.covers k) ∙ c) in
          at_false (is_empty k) (owner_in (record_now t.history (p ++ k))) nobody (is_named k is)
          ∙ ap (λ (j : List ℕ). owner_in (record_now t.history (p ++ j))) (sym is) ∙ ap owner_in (law.left ok));
    })
  where
    t : State
    t = after_txn s member (rescind p key create)

    o : Outcome
    o = outcome (after_txn s member (rescind p key create)) p (holds_now s (rescind p key create))

    gains : GainsOneRevision s (after_txn s member (rescind p key create))
    gains = make_one_revision s member (request.Txn (rescind p key create))

    law : IsOnOwner p key create s (after_txn s member (rescind p key create)) (rescind p key create) (λ old. None)
    law = rescinds_delete s member p key create reply told

    is_named : (k : List ℕ) → key ≡ k → is_empty k ≡ false
    is_named k is = subst (λ (j : List ℕ). is_empty j ≡ false) is nonempty

    same_kv : (k : List ℕ) → kv_at (after_txn s member (rescind p key create)).history p k ≡ v.kvs k
    same_kv k = kv_stays s.history (after_txn s member (rescind p key create)).history p k (λ c. law.others k (apart_keys p key k nonempty c)) ∙ sym (stands.shows.kvs k)

owner_marked : (old : Option Kv) (k v : List ℕ) (create revision : ℕ) → create ≢ 0 → create_of old ≡ create → owner_in (Some (after_put old k v (lease_of old) revision)) ≡ owner_in old
owner_marked None k v create revision n e = absurd (n (sym e))
owner_marked (Some kv) k v create revision n e = refl

pub revoke_calls_step : RevokeCallsStep
revoke_calls_step holder s member p key create reply v i nonempty some told is_out other stands =
    call_stands holder p s t v i o stands (record { sound = requests_keep_sound s member (request.Txn u) stands.orderly.sound; owned = keys_stay_tested (has_owner p) s member (request.Txn u) stands.orderly.owned (owners_put_owned p key create nonempty).2; alone = (owners_put_alone s member p key create stands.orderly.alone).2 })
    gains (txn_leases s member u) (λ k. refl) (λ k. refl)
    (record {
      ran = ran_of s t o stands.shows gains is_out refl;
      kind = other.kind;
      untimed = refl;
      guarded = λ ok k c. absurd (let n = other.uncovered k in cc);
      others = λ k c. same_owner k;
      others_kv = λ k c. same_kv k;
      failed = λ f k. same_owner k;
      failed_kv = λ f k. same_kv k;
      kept = λ q k. same_owner k;
      left = λ ok q k c. absurd (let n = other.uncovered k in cc);
      unleased = λ ok q k c. absurd (let n = other.uncovered k in cc);
      gone = λ n k c. absurd (let n = other.uncovered k in cc);
    })
  where
    u : TxnAsk
    u = ask_revoke p key create

    t : State
    t = after_txn s member (ask_revoke p key create)

    o : Outcome
    o = outcome (after_txn s member (ask_revoke p key create)) p (holds_now s (ask_revoke p key create))

    gains : GainsOneRevision s (after_txn s member (ask_revoke p key create))
    gains = make_one_revision s member (request.Txn (ask_revoke p key create))

    law : IsOnOwner p key create s (after_txn s member (ask_revoke p key create)) (ask_revoke p key create) (λ old. Some (after_put old (p ++ key) revoke_word (lease_of old) (newest (after_txn s member (ask_revoke p key create)).history)))
    law = revokes_mark s member p key create reply told

    same_kv : (k : List ℕ) → kv_at (after_txn s member (ask_revoke p key create)).history p k ≡ v.kvs k
    same_kv k = kv_stays s.history (after_txn s member (ask_revoke p key create)).history p k (λ c. law.others k (apart_keys p key k nonempty c)) ∙ sym (stands.shows.kvs k)

    stays : (k : List ℕ) (b : Bool) → same key k ≡ b → (h : Bool) → holds_now s (ask_revoke p key create) ≡ h → owner_at (after_txn s member (ask_revoke p key create)).history p k ≡ owner_at s.history p k
    stays k false d h f = owner_stays s.history (after_txn s member (ask_revoke p key create)).history p k (λ e. law.others (p ++ k) (λ g. unlike key k d (append_cancel_left p k key g)))
    stays k true d false f = owner_stays s.history (after_txn s member (ask_revoke p key create)).history p k (λ e. law.failed f (p ++ k))
    stays k true d true f =
        chosen_else (is_empty k) (owner_in (record_now (after_txn s member (ask_revoke p key create)).history (p ++ k))) (owner_in (record_now s.history (p ++ k))) nobody
        (λ e. subst (λ (j : List ℕ). owner_in (record_now (after_txn s member (ask_revoke p key create)).history (p ++ j)) ≡ owner_in (record_now s.history (p ++ j))) (same-equal key k d)
        (ap owner_in (law.left f) ∙ owner_marked (record_now s.history (p ++ key)) (p ++ key) revoke_word create (newest (after_txn s member (ask_revoke p key create)).history) some (law.guard f)))

    same_owner : (k : List ℕ) → owner_at (after_txn s member (ask_revoke p key create)).history p k ≡ v.owners k
    same_owner k = stays k (same key k) refl (holds_now s (ask_revoke p key create)) refl ∙ sym (stands.shows.owners k)
