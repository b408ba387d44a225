-- Leases that are granted, kept alive and that end are moves of the view.
use Rattle.std.proofs.Common.{◌≡◌, ◌≢◌, ℕ, ◌≤◌, ◌==◌, Bool, true, false, cond, ◌||◌, List, [], ◌++◌, Option, None, Some, Result, Ok, Err, ◌⊎◌, inl, refl, sym, ◌∙◌, ap, subst, arith}
use Rattle.std.proofs.lemmas.Bool.Decides.{nat_tests}
use Rattle.etcd_types.specs.declared.record.Kv.{Kv}
use Rattle.etcd_types.specs.declared.answer.Answer.TheVariants as answer
use Rattle.etcd_types.specs.declared.answer.Body.TheVariants as body
use Rattle.etcd_types.specs.declared.answer.Reply.{Reply}
use Rattle.etcd_types.specs.declared.request.Request.TheVariants as request
use Rattle.etcd_types.specs.Keys.{is_empty}
use Rattle.store_model.specs.declared.store_fault.StoreFault.{StoreFault}
use Rattle.store_model.specs.declared.store_fault.StoreFault.TheVariants as fault
use Rattle.store_model.specs.History.{History, newest}
use Rattle.store_model.specs.Leases.{ended, expired, granted, granted_ttl, granted_lease, asked_number, least_free, with_lease, without_lease}
use Rattle.store_model.specs.Records.{record_now}
use Rattle.store_model.specs.State.{State}
use Rattle.store_model.specs.Refusals.{lease_exists, lease_not_found}
use Rattle.store_model.specs.Step.{exec, done, refused}
use Rattle.store_model.specs.Transactions.{has_lease}
use Rattle.store_laws.specs.Requests.NamedKeys.{is_on_lease}
use Rattle.store_laws.proofs.Requests.NamedProofs.{unattached_keys_stay}
use Rattle.store_laws.proofs.Requests.RequestProofs.{expiries_make_one_revision}
use Rattle.proxy_model.specs.RequestRefusals.{is_session}
use Rattle.cache_laws.specs.Moves.View.{Owner, nobody, View, put}
use Rattle.cache_laws.specs.Moves.StoreMoves.{executed, termed, leases_with}
use Rattle.cache_laws.proofs.Moves.StoreProofs.{terms_keep, ends_keep}
use Rattle.cache_laws.proofs.Moves.Numbers.{same_number, other_number}
use Rattle.cache_laws.specs.Store.StoreView.{is_client, owner_in, owner_at, kv_at, Stands}
use Rattle.cache_laws.specs.Store.CallSteps.{IsOut, IsOther, outcome}
use Rattle.cache_laws.specs.Store.LeaseSteps.{timed_outcome, GrantsStep, KeepAlivesStep, lease_gone, ExpiriesStep, RevocationsStep}
use Rattle.cache_laws.proofs.Store.LeaseLemmas.{has-with_lease, has-other, has-itself, granted-there}
use Rattle.cache_laws.proofs.Store.Showing.{at_true, at_false, owner_stays, kv_stays, next_shows, gained, ran_of, call_stands}
use Rattle.store_laws.specs.Lives.Sound.{Sound}
use Rattle.store_laws.proofs.Lives.LeaseLists.{none-below}
use Rattle.store_laws.proofs.Lives.LeaseProofs.{attached_keys_go}
use Rattle.store_model.specs.LeftRecords.{lease_of}
use Rattle.store_laws.proofs.Lives.SoundProofs.{requests_keep_sound, expiries_keep_sound}
use Rattle.store_laws.proofs.Lives.TestedProofs.{expiries_keep_tested}
use Rattle.cache_laws.specs.Guards.OwnershipKeys.{has_owner}
use Rattle.store_laws.specs.Lives.TestedKeys.{keys_pass}
use Rattle.std.specs.List.{list_all}
use Rattle.cache_laws.specs.Guards.OwnerEvents.{puts_alone}
use Rattle.cache_laws.proofs.Guards.AloneProofs.{ends_put_alone}

-- a step that changes leases alone

timed_stands : (holder : ℕ → ℕ) (s t : State) (p : List ℕ) (ttl : ℕ) (v : View) (i : ℕ) → t.history ≡ s.history → IsOut v i → IsOther (v.calls i)
    → ((n : ℕ) → leases_with v i (timed_outcome t p ttl) n ≡ has_lease t.leases n) → Sound t → Stands holder p s v → Stands holder p t (termed v i (timed_outcome t p ttl))
timed_stands holder s t p ttl v i same is_out other leases sound stands =
    record {
      shows = next_shows p s t v (termed v i (timed_outcome t p ttl)) stands.shows ([], same) rev (λ k. refl) (λ k. refl) (λ r k. ap (λ (n : ℕ). put v.told n (owner_at t.history p) r k) rev) leases;
      inv = terms_keep holder v i (timed_outcome t p ttl)
          (record {
            ran = record { sent = is_out.sent; fresh = is_out.fresh; done = refl; past = omega arith; next = omega arith };
            kind = other.kind;
            uncovered = other.uncovered;
            owners = λ k. ap (λ (h : History). owner_at h p k) same ∙ sym (stands.shows.owners k);
            kvs = λ k. ap (λ (h : History). kv_at h p k) same ∙ sym (stands.shows.kvs k);
          })
          stands.inv;
      orderly = record { sound = sound; owned = ap (list_all (keys_pass (has_owner p))) same ∙ stands.orderly.owned; alone = ap (list_all (puts_alone p)) same ∙ stands.orderly.alone };
    }
  where
    rev : v.rev ≡ newest t.history
    rev = stands.shows.rev ∙ ap newest (sym same)

-- grants

turned_test : (a b : ℕ) → (a == b) ≡ (b == a)
turned_test a b = grind (arith, nat_tests)

pub lives : (ttl : ℕ) → (granted_ttl ttl == 0) ≡ false
lives ttl = grind (arith, nat_tests)

put_either : (leases : ℕ → Bool) (n m : ℕ) → put leases n true m ≡ n == m || leases m
put_either leases n m = by_test (m == n) ∙ ap (λ (b : Bool). b || leases m) (turned_test m n)
  where
    by_test : (t : Bool) → cond t true (leases m) ≡ t || leases m
    by_test true = refl
    by_test false = refl

asked_itself : (s : State) (lease : ℕ) → lease ≢ 0 → asked_number s.leases lease ≡ lease
asked_itself s lease n = by_test (lease == 0) refl
  where
    by_test : (t : Bool) → (lease == 0) ≡ t → cond t (least_free s.leases) lease ≡ lease
    by_test true e = absurd (n (same_number lease 0 e))
    by_test false e = refl

record Granted (s t : State) (ttl lease : ℕ) : Type 0 where
  history : t.history ≡ s.history
  leases : t.leases ≡ with_lease (granted_lease (asked_number s.leases lease) ttl) s.leases

grant_did : (s : State) (member ttl lease : ℕ) (reply : Reply) → (exec s member (request.Grant ttl lease)).1 ≡ answer.Done reply → Granted s (exec s member (request.Grant ttl lease)).0 ttl lease
unfolding exec
grant_did s member ttl lease reply e = by_test (has_lease s.leases lease) e
  where
    free : ℕ
    free = asked_number s.leases lease

    by_test : (b : Bool) → (cond b (refused s lease_exists) (done (record s { leases = with_lease (granted_lease free ttl) s.leases }) member (body.Grant free (granted_ttl ttl)))).1 ≡ answer.Done reply
        → Granted s (cond b (refused s lease_exists) (done (record s { leases = with_lease (granted_lease free ttl) s.leases }) member (body.Grant free (granted_ttl ttl)))).0 ttl lease
    by_test true f = absurd (cc)
    by_test false f = record { history = refl; leases = refl }

pub grants_step : GrantsStep
grants_step holder s member p ttl lease reply v i some told is_out other names stands =
    let did = grant_did s member ttl lease reply told in
    timed_stands holder s (exec s member (request.Grant ttl lease)).0 p (granted_ttl ttl) v i did.history is_out other
    (λ n.
    ap (λ (b : Bool). cond b v.leases (put v.leases (v.calls i).session true) n) (lives ttl)
    ∙ put_either v.leases (v.calls i).session n
    ∙ (λ j. names j == n || stands.shows.leases n j)
    ∙ ap (λ (m : ℕ). m == n || has_lease s.leases n) (sym (asked_itself s lease some))
    ∙ sym (has-with_lease (granted_lease (asked_number s.leases lease) ttl) s.leases n)
    ∙ ap (λ ls. has_lease ls n) (sym did.leases))
    (requests_keep_sound s member (request.Grant ttl lease) stands.orderly.sound) stands

-- keepalives

pub keep_alives_step : KeepAlivesStep
unfolding exec
keep_alives_step holder s member p lease v i is_out other names stands =
    timed_stands holder s s p (granted s.leases lease) v i refl is_out other (λ n. by_ttl n (granted s.leases lease == 0) refl) stands.orderly.sound stands
  where
    there : (granted s.leases lease == 0) ≡ false → has_lease s.leases lease ≡ true
    there e = granted-there s.leases lease (other_number (granted s.leases lease) 0 e)

    by_number : (n : ℕ) (t : Bool) → (n == (v.calls i).session) ≡ t → has_lease s.leases lease ≡ true → cond t true (v.leases n) ≡ has_lease s.leases n
    by_number n true e h = sym (ap (has_lease s.leases) (same_number n (v.calls i).session e ∙ names) ∙ h)
    by_number n false e h = stands.shows.leases n

    by_ttl : (n : ℕ) (z : Bool) → (granted s.leases lease == 0) ≡ z → cond z v.leases (put v.leases (v.calls i).session true) n ≡ has_lease s.leases n
    by_ttl n true e = stands.shows.leases n
    by_ttl n false e = by_number n (n == (v.calls i).session) refl (there e)

-- ends

equal_lease : (a b : ℕ) → a ≡ b → (a == b) ≡ true
equal_lease a b e = grind (arith, nat_tests)

other_lease : (a b : ℕ) → a ≢ b → (a == b) ≡ false
other_lease a b n = by_test (a == b) refl
  where
    by_test : (t : Bool) → (a == b) ≡ t → t ≡ false
    by_test true e = absurd (n (same_number a b e))
    by_test false e = refl

on_lease : (o : Option Kv) (lease : ℕ) → lease ≢ 0 → lease_of o ≡ lease → is_on_lease lease o ≡ true
on_lease None lease n e = absurd (n (sym e))
on_lease (Some kv) lease n e = equal_lease kv.lease lease e

off_lease : (o : Option Kv) (lease : ℕ) → lease_of o ≢ lease → is_on_lease lease o ≡ false
off_lease None lease n = refl
off_lease (Some kv) lease n = other_lease kv.lease lease n

record HasEnded (s t : State) (lease : ℕ) : Type 0 where
  known : has_lease s.leases lease ≡ true
  after : t ≡ ended s lease

state_or : State → Result State StoreFault → State
state_or s (Ok t) = t
state_or s (Err fault) = s

expiry_did : (s t : State) (lease : ℕ) → expired s lease ≡ Ok t → HasEnded s t lease
unfolding expired state_or
expiry_did s t lease e = by_test (has_lease s.leases lease) refl e
  where
    by_test : (b : Bool) → has_lease s.leases lease ≡ b → cond b (Ok (ended s lease)) (Err (fault.NoSuchLease lease)) ≡ Ok t → HasEnded s t lease
    by_test true k f = record { known = k; after = sym (ap (state_or s) f) }
    by_test false k f = absurd (cc)

expires : (s : State) (lease : ℕ) → has_lease s.leases lease ≡ true → expired s lease ≡ Ok (ended s lease)
unfolding expired
expires s lease e = ap (λ (b : Bool). cond b (Ok (ended s lease)) (Err (fault.NoSuchLease lease))) e

-- a lease that is there has a number above 0
some_lease : (s : State) (lease : ℕ) → Sound s → has_lease s.leases lease ≡ true → lease ≢ 0
some_lease s lease sound known z =
    (let e : has_lease s.leases 0 ≡ true = subst (λ (n : ℕ). has_lease s.leases n ≡ true) z known in let f = none-below 0 0 s.leases (omega arith) sound.leases in absurd (cc))

end_stands : (holder : ℕ → ℕ) (s : State) (p : List ℕ) (lease : ℕ) (v : View) → has_lease s.leases lease ≡ true → (is_session lease ≡ false) ⊎ (v.floors lease ≤ v.clocks (holder lease)) → Stands holder p s v
    → Stands holder p (ended s lease) (lease_gone v (ended s lease) p lease)
end_stands holder s p lease v known due stands =
    record {
      shows = next_shows p s t v (lease_gone v t p lease) stands.shows (expiries_make_one_revision s t lease is) refl (λ k. refl) (λ k. refl) (λ r k. refl) leases;
      inv = ends_keep holder v lease (newest t.history) (owner_at t.history p) (kv_at t.history p)
          (record {
            some = some;
            due = due;
            past = (let e = stands.shows.rev in let g = (gained s t (expiries_make_one_revision s t lease is)).0 in omega arith);
            next = (let e = stands.shows.rev in let g = (gained s t (expiries_make_one_revision s t lease is)).1 in omega arith);
            owner_gone = λ k f. gone k (is_empty k) refl (ap (λ (o : Owner). o.session) (sym (stands.shows.owners k)) ∙ f);
            owner_kept = λ k f.
                owner_stays s.history t.history p k
                (λ c. unattached_keys_stay s t lease (p ++ k) is (off_lease (record_now s.history (p ++ k)) lease (λ g. f (ap (λ (o : Owner). o.session) (stands.shows.owners k ∙ at_false (is_empty k) (owner_in (record_now s.history (p ++ k))) nobody c) ∙ g))))
                ∙ sym (stands.shows.owners k);
            kept = λ k f.
                kv_stays s.history t.history p k
                (λ c. unattached_keys_stay s t lease k is (off_lease (record_now s.history k) lease (λ g. f (ap lease_of (stands.shows.kvs k ∙ at_true (is_client p k) (record_now s.history k) None c) ∙ g))))
                ∙ sym (stands.shows.kvs k);
          })
          stands.inv;
      orderly = record {
        sound = expiries_keep_sound s t lease is stands.orderly.sound;
        owned = expiries_keep_tested (has_owner p) s t lease is stands.orderly.owned;
        alone = ends_put_alone s t p lease is stands.orderly.alone;
      };
    }
  where
    t : State
    t = ended s lease

    is : expired s lease ≡ Ok (ended s lease)
    is = expires s lease known

    some : lease ≢ 0
    some = some_lease s lease stands.orderly.sound known

    gone : (k : List ℕ) (b : Bool) → is_empty k ≡ b → (cond b nobody (owner_in (record_now s.history (p ++ k)))).session ≡ lease → cond b nobody (owner_in (record_now (ended s lease).history (p ++ k))) ≡ nobody
    gone k true c f = refl
    gone k false c f = ap owner_in (attached_keys_go s (ended s lease) lease (p ++ k) is (on_lease (record_now s.history (p ++ k)) lease some f))

    leases : (n : ℕ) → put v.leases lease false n ≡ has_lease (without_lease lease s.leases) n
    leases n = by_test (n == lease) refl
      where
        by_test : (b : Bool) → (n == lease) ≡ b → cond b false (v.leases n) ≡ has_lease (without_lease lease s.leases) n
        by_test true e = sym (ap (has_lease (without_lease lease s.leases)) (same_number n lease e) ∙ has-itself 0 lease s.leases stands.orderly.sound.leases)
        by_test false e = stands.shows.leases n ∙ sym (has-other lease s.leases n e)

pub expiries_step : ExpiriesStep
expiries_step holder s t p lease v e due stands =
    let did = expiry_did s t lease e in
    subst (λ (u : State). Stands holder p u (lease_gone v u p lease)) (sym did.after) (end_stands holder s p lease v did.known due stands)

revoke_did : (s : State) (member lease : ℕ) (reply : Reply) → (exec s member (request.Revoke lease)).1 ≡ answer.Done reply → HasEnded s (exec s member (request.Revoke lease)).0 lease
unfolding exec
revoke_did s member lease reply e = by_test (has_lease s.leases lease) refl e
  where
    by_test : (b : Bool) → has_lease s.leases lease ≡ b → (cond b (done (ended s lease) member body.Revoke) (refused s lease_not_found)).1 ≡ answer.Done reply
        → HasEnded s (cond b (done (ended s lease) member body.Revoke) (refused s lease_not_found)).0 lease
    by_test true k f = record { known = k; after = refl }
    by_test false k f = absurd (cc)

pub revocations_step : RevocationsStep
revocations_step holder s member p lease reply v i client told is_out other stands =
    let did = revoke_did s member lease reply told in
    subst (λ (t : State). Stands holder p t (executed (lease_gone v t p lease) i (outcome t p true) (newest t.history))) (sym did.after)
    (answered (ended s lease) (end_stands holder s p lease v did.known (inl client) stands))
  where
    answered : (t : State) → Stands holder p t (lease_gone v t p lease) → Stands holder p t (executed (lease_gone v t p lease) i (outcome t p true) (newest t.history))
    answered t gone =
        call_stands holder p t t (lease_gone v t p lease) i (outcome t p true) gone gone.orderly ([], refl) refl (λ k. refl) (λ k. refl)
        (record {
          ran = ran_of t t (outcome t p true) gone.shows ([], refl) (record { sent = is_out.sent; fresh = is_out.fresh }) refl;
          kind = other.kind;
          untimed = refl;
          guarded = λ ok k c. absurd (let n = other.uncovered k in cc);
          others = λ k c. refl;
          others_kv = λ k c. refl;
          failed = λ f k. refl;
          failed_kv = λ f k. refl;
          kept = λ q k. refl;
          left = λ ok q k c. absurd (let n = other.uncovered k in cc);
          unleased = λ ok q k c. absurd (let n = other.uncovered k in cc);
          gone = λ n k c. absurd (let n = other.uncovered k in cc);
        })
