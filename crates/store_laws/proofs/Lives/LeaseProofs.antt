-- What each step leaves of the leases.
use Rattle.std.proofs.Common.{◌≡◌, ℕ, ◌<◌, ◌≤◌, Bool, true, false, cond, ◌||◌, ◌==◌, nat_lt, List, [], ◌∷◌, Option, None, Some, IsTrue, refl, sym, ◌∙◌, ap, subst, arith}
use Rattle.std.proofs.lemmas.Bool.Decides.{nat_tests}
use Rattle.etcd_types.specs.declared.record.Kv.{Kv}
use Rattle.etcd_types.specs.declared.answer.Answer.TheVariants as answer
use Rattle.etcd_types.specs.declared.answer.Body.{Body}
use Rattle.etcd_types.specs.declared.answer.Body.TheVariants as body
use Rattle.etcd_types.specs.declared.answer.Reply.{Reply}
use Rattle.etcd_types.proofs.Bools.{or_first, or_left, or_none, or_right, or_second}
use Rattle.store_model.specs.declared.lease.Lease.{Lease}
use Rattle.store_model.specs.Records.{record_now}
use Rattle.store_model.specs.Refusals.{lease_not_found, lease_exists}
use Rattle.store_model.specs.State.{State}
use Rattle.store_model.specs.Transactions.{has_lease}
use Rattle.store_model.specs.Leases.{attached, ended, expired, with_lease, without_lease, granted, granted_lease, granted_ttl, asked_number}
use Rattle.store_model.specs.Step.{exec, done, refused}
use Rattle.store_model.proofs.RunLemmas.{has_record}
use Rattle.store_laws.specs.Requests.NamedKeys.{is_on_lease}
use Rattle.store_laws.proofs.Requests.AnsweredProofs.{same_reply}
use Rattle.store_laws.proofs.Requests.Deletions.{attached-has, ended-record}
use Rattle.store_laws.proofs.Requests.StepCases.{exec_by}
use Rattle.store_laws.specs.Lives.Sound.{Sound, rise_above}
use Rattle.store_laws.specs.Lives.Leases.{KeepsLease, revokes, LeasesStay, OtherLeasesStay, ExpiredLeasesGo, RevokedLeasesGo, AttachedKeysGo, IsGrant, GrantsAreThere, KeepAlivesTell}
use Rattle.store_laws.proofs.Lives.LeaseLists.{none-below, asked-free, still-with_lease, still-without_lease, rises}
use Rattle.store_laws.proofs.Lives.TestedProofs.{expired_by}

-- the time to live that is found in a list

granted-with_lease : (lease : Lease) (leases : List Lease) (n : ℕ) → (lease.number == n) ≡ false → granted (with_lease lease leases) n ≡ granted leases n
granted-with_lease lease [] n d = ap (λ (t : Bool). cond t lease.ttl 0) d
granted-with_lease lease (other ∷ others) n d = by_test (granted-with_lease lease others n d) (nat_lt other.number lease.number)
  where
    by_test : granted (with_lease lease others) n ≡ granted others n → (t : Bool) → granted (cond t (other ∷ with_lease lease others) (lease ∷ other ∷ others)) n ≡ granted (other ∷ others) n
    by_test later true = ap (λ (k : ℕ). cond (other.number == n) other.ttl k) later
    by_test later false = ap (λ (t : Bool). cond t lease.ttl (granted (other ∷ others) n)) d

granted-without_lease : (number : ℕ) (leases : List Lease) (n : ℕ) → (number == n) ≡ false → granted (without_lease number leases) n ≡ granted leases n
granted-without_lease number [] n d = refl
granted-without_lease number (lease ∷ leases) n d = by_test (granted-without_lease number leases n d) (lease.number == number) refl
  where
    by_test : granted (without_lease number leases) n ≡ granted leases n → (t : Bool) → (lease.number == number) ≡ t → granted (cond t leases (lease ∷ without_lease number leases)) n ≡ granted (lease ∷ leases) n
    by_test later true e =
        let other : (lease.number == n) ≡ false = grind (arith, nat_tests) in
        sym (ap (λ (t : Bool). cond t lease.ttl (granted leases n)) other)
    by_test later false e = ap (λ (k : ℕ). cond (lease.number == n) lease.ttl k) later

itself : (n : ℕ) → (n == n) ≡ true
itself n = grind (arith, nat_tests)

turned : (a b : ℕ) → (a == b) ≡ false → (b == a) ≡ false
turned a b d = grind (arith, nat_tests)

-- a lease in its place is found there, where its number is new
granted-itself : (lease : Lease) (leases : List Lease) → has_lease leases lease.number ≡ false → granted (with_lease lease leases) lease.number ≡ lease.ttl
granted-itself lease [] e = ap (λ (t : Bool). cond t lease.ttl 0) (itself lease.number)
granted-itself lease (other ∷ others) e = by_test (λ f. granted-itself lease others f) (nat_lt other.number lease.number)
  where
    by_test : (has_lease others lease.number ≡ false → granted (with_lease lease others) lease.number ≡ lease.ttl) → (t : Bool) → granted (cond t (other ∷ with_lease lease others) (lease ∷ other ∷ others)) lease.number ≡ lease.ttl
    by_test later true =
        ap (λ (t : Bool). cond t other.ttl (granted (with_lease lease others) lease.number)) (or_first (other.number == lease.number) _ e)
        ∙ later (or_second (other.number == lease.number) _ e)
    by_test later false = ap (λ (t : Bool). cond t lease.ttl (granted (other ∷ others) lease.number)) (itself lease.number)

has-itself : (lease : Lease) (leases : List Lease) → has_lease (with_lease lease leases) lease.number ≡ true
has-itself lease [] = ap (λ (t : Bool). t || false) (itself lease.number)
has-itself lease (other ∷ others) = by_test (has-itself lease others) (nat_lt other.number lease.number)
  where
    by_test : has_lease (with_lease lease others) lease.number ≡ true → (t : Bool) → has_lease (cond t (other ∷ with_lease lease others) (lease ∷ other ∷ others)) lease.number ≡ true
    by_test later true = or_right (other.number == lease.number) _ later
    by_test later false = or_left (lease.number == lease.number) _ (itself lease.number)

gone-without_lease : (low number : ℕ) (leases : List Lease) → rise_above low leases ≡ true → has_lease (without_lease number leases) number ≡ false
gone-without_lease low number [] e = refl
gone-without_lease low number (lease ∷ leases) e = by_test (λ r. gone-without_lease lease.number number leases r) (lease.number == number) refl
  where
    by_test : (rise_above lease.number leases ≡ true → has_lease (without_lease number leases) number ≡ false) → (t : Bool) → (lease.number == number) ≡ t
        → has_lease (cond t leases (lease ∷ without_lease number leases)) number ≡ false
    by_test later true f =
        let r = rises low lease leases e in
        let most : number ≤ lease.number = grind (arith, nat_tests) in
        none-below lease.number number leases most r.rest
    by_test later false f = or_none (lease.number == number) _ f (later (rises low lease leases e).rest)

-- a lease that is there lives
lives-there : (low n : ℕ) (leases : List Lease) → rise_above low leases ≡ true → has_lease leases n ≡ true → 0 < granted leases n
lives-there low n [] e h = absurd (cc)
lives-there low n (lease ∷ leases) e h = by_test (λ r g. lives-there lease.number n leases r g) (lease.number == n) refl
  where
    by_test : (rise_above lease.number leases ≡ true → has_lease leases n ≡ true → 0 < granted leases n) → (t : Bool) → (lease.number == n) ≡ t → 0 < cond t lease.ttl (granted leases n)
    by_test later true f = let r = rises low lease leases e in let l = r.lives in omega arith
    by_test later false f = later (rises low lease leases e).rest (subst (λ (t : Bool). t || has_lease leases n ≡ true) f h)

none-there : (n : ℕ) (leases : List Lease) → has_lease leases n ≡ false → granted leases n ≡ 0
none-there n [] e = refl
none-there n (lease ∷ leases) e =
    ap (λ (t : Bool). cond t lease.ttl (granted leases n)) (or_first (lease.number == n) _ e) ∙ none-there n leases (or_second (lease.number == n) _ e)

-- through the steps

keeps-same : (s : State) (lease : ℕ) → has_lease s.leases lease ≡ true → KeepsLease s s lease
keeps-same s lease h = (h, refl)

keeps-granted : (s : State) (ttl number lease : ℕ) → Sound s → has_lease s.leases number ≡ false → has_lease s.leases lease ≡ true
    → KeepsLease s (record s { leases = with_lease (granted_lease (asked_number s.leases number) ttl) s.leases }) lease
keeps-granted s ttl number lease sound e h =
    let free = asked-free s.leases number sound.leases e in (
      still-with_lease (granted_lease (asked_number s.leases number) ttl) s.leases lease h,
      granted-with_lease (granted_lease (asked_number s.leases number) ttl) s.leases lease (differs (asked_number s.leases number) free.1),
    )
  where
    differs : (n : ℕ) → has_lease s.leases n ≡ false → (n == lease) ≡ false
    differs n f = by_test (n == lease) refl
      where
        by_test : (t : Bool) → (n == lease) ≡ t → t ≡ false
        by_test true g = absurd (let is : n ≡ lease = grind (arith, nat_tests) in let k = ap (has_lease s.leases) is in cc)
        by_test false g = refl

keeps-ended : (s : State) (number lease : ℕ) → (number == lease) ≡ false → has_lease s.leases lease ≡ true → KeepsLease s (ended s number) lease
keeps-ended s number lease d h =
    (still-without_lease number s.leases lease (turned number lease d) h, granted-without_lease number s.leases lease d)

pub leases_stay : LeasesStay
leases_stay s member q lease sound there other =
    exec_by s member (λ r step. revokes lease r ≡ false → KeepsLease s step.0 lease)
    (record {
      refuses = λ r refusal known d. keeps-same s lease there;
      runs = λ r op made b e serializable first ran d. (there, refl);
      reads = λ ask b e d. keeps-same s lease there;
      compacts = λ revision physical above within d. (there, refl);
      grants = λ ttl number e d. keeps-granted s ttl number lease sound e there;
      revokes = λ number e d. keeps-ended s number lease d there;
      keeps_alive = λ number d. keeps-same s lease there;
      tells = λ number keys d. keeps-same s lease there;
      lists = λ d. keeps-same s lease there;
    })
    q other

pub other_leases_stay : OtherLeasesStay
unfolding expired
other_leases_stay s t number lease e there d = expired_by (λ u. KeepsLease s u lease) s t number (has_lease s.leases number) e (keeps-ended s number lease d there)

pub expired_leases_go : ExpiredLeasesGo
unfolding expired
expired_leases_go s t lease sound e =
    expired_by (λ u. has_lease u.leases lease ≡ false) s t lease (has_lease s.leases lease) e (gone-without_lease 0 lease s.leases sound.leases)

pub revoked_leases_go : RevokedLeasesGo
unfolding exec
revoked_leases_go s member lease reply sound e = by_known (has_lease s.leases lease) e
  where
    by_known : (known : Bool) → (cond known (done (ended s lease) member body.Revoke) (refused s lease_not_found)).1 ≡ answer.Done reply
        → has_lease (cond known (done (ended s lease) member body.Revoke) (refused s lease_not_found)).0.leases lease ≡ false
    by_known true f = gone-without_lease 0 lease s.leases sound.leases
    by_known false f = absurd (cc)

gone : (s : State) (lease : ℕ) (k : List ℕ) → IsTrue (is_on_lease lease (record_now s.history k)) → record_now (ended s lease).history k ≡ None
gone s lease k on = ended-record s lease k ∙ by_found (record_now s.history k) refl on
  where
    by_found : (o : Option Kv) → record_now s.history k ≡ o → IsTrue (is_on_lease lease o) → cond (has_record k (attached s.history lease)) None o ≡ None
    by_found None e on = absurd (cc)
    by_found (Some kv) e on = ap (λ (t : Bool). cond t None (Some kv)) (attached-has s.history lease k kv e on)

pub attached_keys_go : AttachedKeysGo
unfolding expired
attached_keys_go s t lease k e on = expired_by (λ u. record_now u.history k ≡ None) s t lease (has_lease s.leases lease) e (gone s lease k on)

-- what grants and keepalives tell

grant_of : Body → ℕ × ℕ
grant_of (body.Grant lease ttl) = (lease, ttl)
grant_of _ = (0, 0)

alive_of : Body → ℕ × ℕ
alive_of (body.KeepAlive lease ttl) = (lease, ttl)
alive_of _ = (0, 0)

granted_is : (s : State) (asked number lease ttl : ℕ) → Sound s → has_lease s.leases number ≡ false → asked_number s.leases number ≡ lease → granted_ttl asked ≡ ttl
    → IsGrant s (record s { leases = with_lease (granted_lease (asked_number s.leases number) asked) s.leases }) lease ttl
granted_is s asked number lease ttl sound e l t =
    let free = asked-free s.leases number sound.leases e in
    let new = granted_lease (asked_number s.leases number) asked in
    record {
      new = ap (has_lease s.leases) (sym l) ∙ free.1;
      there = ap (has_lease (with_lease new s.leases)) (sym l) ∙ has-itself new s.leases;
      lives = ap (granted (with_lease new s.leases)) (sym l) ∙ granted-itself new s.leases free.1 ∙ t;
      positive = subst (λ (k : ℕ). 1 ≤ k) t (positive asked);
    }
  where
    positive : (k : ℕ) → 1 ≤ granted_ttl k
    positive k = omega arith

pub grants_are_there : GrantsAreThere
unfolding exec grant_of
grants_are_there s member asked number lease ttl reply sound e b = by_known (has_lease s.leases number) refl e
  where
    granted_state : State
    granted_state = record s { leases = with_lease (granted_lease (asked_number s.leases number) asked) s.leases }

    told : Body
    told = body.Grant (asked_number s.leases number) (granted_ttl asked)

    by_known : (known : Bool) → has_lease s.leases number ≡ known → (cond known (refused s lease_exists) (done granted_state member told)).1 ≡ answer.Done reply
        → IsGrant s (cond known (refused s lease_exists) (done granted_state member told)).0 lease ttl
    by_known true n f = absurd (cc)
    by_known false n f =
        let same : told ≡ body.Grant lease ttl = ap (λ (r : Reply). r.body) (same_reply _ reply f) ∙ b in
        let both : (asked_number s.leases number, granted_ttl asked) ≡ (lease, ttl) = ap grant_of same in
        granted_is s asked number lease ttl sound n (ap (λ (x : ℕ × ℕ). x.0) both) (ap (λ (x : ℕ × ℕ). x.1) both)

pub keep_alives_tell : KeepAlivesTell
unfolding exec alive_of
keep_alives_tell s member number lease ttl reply sound e b =
    let same : body.KeepAlive number (granted s.leases number) ≡ body.KeepAlive lease ttl = ap (λ (r : Reply). r.body) (same_reply _ reply e) ∙ b in
    let both : (number, granted s.leases number) ≡ (lease, ttl) = ap alive_of same in
    let time : granted s.leases number ≡ ttl = ap (λ (x : ℕ × ℕ). x.1) both in
    (sym (ap (λ (x : ℕ × ℕ). x.0) both), (λ l. is_there (has_lease s.leases number) refl time l, λ h. subst (λ (k : ℕ). 0 < k) time (lives-there 0 number s.leases sound.leases h)))
  where
    is_there : (t : Bool) → has_lease s.leases number ≡ t → granted s.leases number ≡ ttl → 0 < ttl → t ≡ true
    is_there true f g l = refl
    is_there false f g l = absurd (let none = none-there number s.leases f in omega arith)
