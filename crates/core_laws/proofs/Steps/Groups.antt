-- Keepalives of one lease: one call is out at most, and none is due beside it, as calls are sent and end.
use Rattle.std.proofs.Common.{◌≡◌, ℕ, ◌==◌, Bool, true, false, not, cond, ◌&&◌, ◌||◌, List, [], ◌∷◌, ◌++◌, map, filter, Option, None, Some, refl, sym, ◌∙◌, ap, subst}
use Rattle.std.specs.List.{list_any}
use Rattle.etcd_types.specs.declared.request.Request.{Request}
use Rattle.etcd_types.specs.declared.request.Request.TheVariants as request
use Rattle.etcd_types.proofs.Bools.{and_first, and_second, and_both, or_first, or_second, or_none, or_left, or_right, not_true, false_not, or_false, and_false}
use Rattle.wait_model.specs.declared.sending.Sending.{Sending}
use Rattle.wait_model.specs.declared.sending.Sending.TheVariants as sending
use Rattle.read_model.specs.declared.asked.Asked.{Asked}
use Rattle.read_model.specs.declared.asked.Stage.{Stage}
use Rattle.read_model.specs.declared.asked.Stage.TheVariants as stage
use Rattle.read_model.specs.declared.asked.Verdict.{Verdict}
use Rattle.read_model.specs.PlainRead.{in_stage}
use Rattle.core_model.specs.declared.out_call.OutCall.{OutCall}
use Rattle.core_model.specs.declared.out_call.OutJob.{OutJob}
use Rattle.core_model.specs.declared.out_call.OutJob.TheVariants as job
use Rattle.core_model.specs.DueJobs.{lease_of}
use Rattle.core_model.specs.Fits.{once, at_most_one, job_at, passes, numbers_of, is_keepalive, group_sending, group_stands, GroupsOk}
use Rattle.core_model.specs.Groups.{keeps, is_group_of, is_out_for, is_due_stage, group_sent, is_out_stage, waits_next, group_ended}
use Rattle.core_model.specs.Lookups.{without_out}
use Rattle.core_laws.proofs.Steps.Lists.{and_turned, same_number, number_itself, number_turned, all_kept, all_mapped, any_pushed, any_filtered, none_kept, one_of_push, one_of_last, one_of_filter, both_of_one}
use Rattle.core_laws.proofs.Steps.Calls.{job_grown, job_last, job_without, only_found}
use Rattle.core_laws.proofs.Steps.Comes.{by_test}

-- a call that is no group's
abbrev pub NoGroup : OutJob → Type 0
NoGroup j = (lease : ℕ) → is_group_of lease j ≡ false

keepalive_keeps : (lease : ℕ) (q : Request) → is_keepalive q ≡ true → keeps lease q ≡ (lease_of q == lease)
keepalive_keeps lease (request.KeepAlive n) h = refl
keepalive_keeps lease (request.Range ask) h = absurd (cc)
keepalive_keeps lease (request.Put ask) h = absurd (cc)
keepalive_keeps lease (request.Delete ask) h = absurd (cc)
keepalive_keeps lease (request.Txn t) h = absurd (cc)
keepalive_keeps lease (request.Compact revision physical) h = absurd (cc)
keepalive_keeps lease (request.Grant ttl n) h = absurd (cc)
keepalive_keeps lease (request.Revoke n) h = absurd (cc)
keepalive_keeps lease (request.TimeToLive n keys) h = absurd (cc)
keepalive_keeps lease request.Leases h = absurd (cc)
keepalive_keeps lease (request.Watch ask) h = absurd (cc)

keeps_is : (lease : ℕ) (q : Request) → keeps lease q ≡ true → (is_keepalive q ≡ true) × (lease_of q ≡ lease)
keeps_is lease (request.KeepAlive n) h = (refl, same_number n lease h)
keeps_is lease (request.Range ask) h = absurd (cc)
keeps_is lease (request.Put ask) h = absurd (cc)
keeps_is lease (request.Delete ask) h = absurd (cc)
keeps_is lease (request.Txn t) h = absurd (cc)
keeps_is lease (request.Compact revision physical) h = absurd (cc)
keeps_is lease (request.Grant ttl n) h = absurd (cc)
keeps_is lease (request.Revoke n) h = absurd (cc)
keeps_is lease (request.TimeToLive n keys) h = absurd (cc)
keeps_is lease request.Leases h = absurd (cc)
keeps_is lease (request.Watch ask) h = absurd (cc)

-- What stands where other calls are out.

-- for each lease one is out where one was, and the calls that stand are groups of it
pub record Alike (out then : List OutCall) : Type 0 where
  pub for_lease : (lease : ℕ) → is_out_for lease then ≡ is_out_for lease out
  pub calls : (lease n : ℕ) → passes (is_group_of lease) (job_at n out) ≡ true → passes (is_group_of lease) (job_at n then) ≡ true

sending_kept : (out then : List OutCall) → Alike out then → (lease : ℕ) (s : Option Sending) → group_sending out lease s ≡ true → group_sending then lease s ≡ true
sending_kept out then a lease None h = a.for_lease lease ∙ h
sending_kept out then a lease (Some (sending.Due since)) h = ap not (a.for_lease lease) ∙ h
sending_kept out then a lease (Some (sending.Out n)) h = a.calls lease n h

stage_kept : (out then : List OutCall) → Alike out then → (q : Request) (s : Stage) → group_stands out q s ≡ true → group_stands then q s ≡ true
stage_kept out then a q (stage.Grouped s) h = and_both (is_keepalive q) (group_sending then (lease_of q) s) (and_first (is_keepalive q) (group_sending out (lease_of q) s) h) (sending_kept out then a (lease_of q) s (and_second (is_keepalive q) (group_sending out (lease_of q) s) h))
stage_kept out then a q (stage.Calling s) h = refl
stage_kept out then a q stage.Acquiring h = refl
stage_kept out then a q stage.Joined h = refl
stage_kept out then a q stage.Behind h = refl
stage_kept out then a q stage.Writes h = refl
stage_kept out then a q (stage.Replied v) h = refl

groups_kept : (out then : List OutCall) (xs : List Asked) → Alike out then → ((lease : ℕ) → at_most_one (filter (λ o. is_group_of lease o.job) then) ≡ true) → GroupsOk out xs → GroupsOk then xs
groups_kept out then xs a o h = record { one = o; stand = all_kept (λ (x : Asked). group_stands out x.request x.stage) (λ (x : Asked). group_stands then x.request x.stage) (λ x t. stage_kept out then a x.request x.stage t) xs h.stand }

-- another call is sent
pub groups_pushed : (x : OutCall) (out : List OutCall) (xs : List Asked) → NoGroup x.job → GroupsOk out xs → GroupsOk (out ++ x ∷ []) xs
groups_pushed x out xs n h =
    groups_kept out (out ++ x ∷ []) xs
    (record {
      for_lease = λ lease. any_pushed (λ (o : OutCall). is_group_of lease o.job) x out ∙ ap (λ b. is_out_for lease out || b) (n lease) ∙ or_false (is_out_for lease out);
      calls = λ lease m t. job_grown (is_group_of lease) m x out t;
    })
    (λ lease. one_of_push (λ (o : OutCall). is_group_of lease o.job) x out (h.one lease) (n lease)) h

any_without : (n : ℕ) (p : OutJob → Bool) (out : List OutCall) → list_any (λ o. (o.call == n) && p o.job) out ≡ false → list_any (λ o. p o.job) (without_out n out) ≡ list_any (λ o. p o.job) out
any_without n p [] h = refl
any_without n p (o ∷ rest) h = by_head (any_without n p rest (or_second ((o.call == n) && p o.job) (list_any (λ x. (x.call == n) && p x.job) rest) h)) (o.call == n) (or_first ((o.call == n) && p o.job) (list_any (λ x. (x.call == n) && p x.job) rest) h)
  where
    by_head : list_any (λ (x : OutCall). p x.job) (without_out n rest) ≡ list_any (λ (x : OutCall). p x.job) rest → (b : Bool) → b && p o.job ≡ false → list_any (λ (x : OutCall). p x.job) (cond (not b) (o ∷ without_out n rest) (without_out n rest)) ≡ p o.job || list_any (λ (x : OutCall). p x.job) rest
    by_head more true t = more ∙ ap (λ b. b || list_any (λ (x : OutCall). p x.job) rest) (sym t)
    by_head more false t = ap (λ b. p o.job || b) more

calls_without : (p : OutJob → Bool) (n m : ℕ) (j : OutJob) (out : List OutCall) → job_at n out ≡ Some j → p j ≡ false → passes p (job_at m out) ≡ true → passes p (job_at m (without_out n out)) ≡ true
calls_without p n m j out f e h = by_value (m == n) refl
  where
    by_value : (b : Bool) → (m == n) ≡ b → passes p (job_at m (without_out n out)) ≡ true
    by_value true t = absurd (let u = sym h ∙ ap (λ i. passes p (job_at i out)) (same_number m n t) ∙ ap (passes p) f ∙ e in cc)
    by_value false t = ap (passes p) (job_without m n out t) ∙ h

-- another call ends
pub groups_left : (n : ℕ) (j : OutJob) (out : List OutCall) (xs : List Asked) → once (numbers_of out) ≡ true → job_at n out ≡ Some j → NoGroup j → GroupsOk out xs → GroupsOk (without_out n out) xs
groups_left n j out xs u f e h =
    groups_kept out (without_out n out) xs
    (record {
      for_lease = λ lease. any_without n (is_group_of lease) out (only_found n (is_group_of lease) j out u f (e lease));
      calls = λ lease m t. calls_without (is_group_of lease) n m j out f (e lease) t;
    })
    (λ lease. one_of_filter (λ (o : OutCall). is_group_of lease o.job) (λ (o : OutCall). not (o.call == n)) out (h.one lease)) h

-- A group is sent: none of its lease was out.

abbrev group_call : OutCall → ℕ → Type 0
group_call x lease = x.job ≡ job.Group lease

sent_stage : (x : OutCall) (lease : ℕ) (out : List OutCall) → group_call x lease → (q : Request) (s : Stage) → keeps lease q && is_due_stage s ≡ false → group_stands out q s ≡ true → group_stands (out ++ x ∷ []) q s ≡ true
sent_stage x lease out g q (stage.Grouped None) n h =
    and_both (is_keepalive q) (is_out_for (lease_of q) (out ++ x ∷ [])) (and_first (is_keepalive q) (is_out_for (lease_of q) out) h)
    (any_pushed (λ (o : OutCall). is_group_of (lease_of q) o.job) x out ∙ or_left (is_out_for (lease_of q) out) (is_group_of (lease_of q) x.job) (and_second (is_keepalive q) (is_out_for (lease_of q) out) h))
sent_stage x lease out g q (stage.Grouped (Some (sending.Due since))) n h =
    let k = and_first (is_keepalive q) (not (is_out_for (lease_of q) out)) h in
    let t = not_true (is_out_for (lease_of q) out) (and_second (is_keepalive q) (not (is_out_for (lease_of q) out)) h) in
    let other : (lease_of q == lease) ≡ false = sym (keepalive_keeps lease q k) ∙ unless (keeps lease q) n in
    and_both (is_keepalive q) (not (is_out_for (lease_of q) (out ++ x ∷ []))) k
    (false_not (is_out_for (lease_of q) (out ++ x ∷ [])) (any_pushed (λ (o : OutCall). is_group_of (lease_of q) o.job) x out ∙ or_none (is_out_for (lease_of q) out) (is_group_of (lease_of q) x.job) t (ap (is_group_of (lease_of q)) g ∙ number_turned (lease_of q) lease other)))
  where
    unless : (b : Bool) → b && true ≡ false → b ≡ false
    unless true e = absurd (cc)
    unless false e = refl
sent_stage x lease out g q (stage.Grouped (Some (sending.Out m))) n h =
    and_both (is_keepalive q) (passes (is_group_of (lease_of q)) (job_at m (out ++ x ∷ []))) (and_first (is_keepalive q) (passes (is_group_of (lease_of q)) (job_at m out)) h) (job_grown (is_group_of (lease_of q)) m x out (and_second (is_keepalive q) (passes (is_group_of (lease_of q)) (job_at m out)) h))
sent_stage x lease out g q (stage.Calling s) n h = refl
sent_stage x lease out g q stage.Acquiring n h = refl
sent_stage x lease out g q stage.Joined n h = refl
sent_stage x lease out g q stage.Behind n h = refl
sent_stage x lease out g q stage.Writes n h = refl
sent_stage x lease out g q (stage.Replied v) n h = refl

pub groups_sent : (x : OutCall) (lease : ℕ) (out : List OutCall) (xs : List Asked) → x.job ≡ job.Group lease → job_at x.call out ≡ None → is_out_for lease out ≡ false → GroupsOk out xs → GroupsOk (out ++ x ∷ []) (map (group_sent x.call lease) xs)
groups_sent x lease out xs g n none h = record {
  one = λ l. by_lease l (lease == l) refl;
  stand = all_mapped (λ (a : Asked). group_stands out a.request a.stage) (λ (a : Asked). group_stands (out ++ x ∷ []) a.request a.stage) (group_sent x.call lease) each xs h.stand;
}
  where
    by_lease : (l : ℕ) (b : Bool) → (lease == l) ≡ b → at_most_one (filter (λ (o : OutCall). is_group_of l o.job) (out ++ x ∷ [])) ≡ true
    by_lease l true t = one_of_last (λ (o : OutCall). is_group_of l o.job) x out (subst (λ (i : ℕ). is_out_for i out ≡ false) (same_number lease l t) none)
    by_lease l false t = one_of_push (λ (o : OutCall). is_group_of l o.job) x out (h.one l) (ap (is_group_of l) g ∙ t)

    sent : (a : Asked) → keeps lease a.request && is_due_stage a.stage ≡ true → group_stands (out ++ x ∷ []) a.request (stage.Grouped (Some (sending.Out x.call))) ≡ true
    sent a t =
        let k = keeps_is lease a.request (and_first (keeps lease a.request) (is_due_stage a.stage) t) in
        and_both (is_keepalive a.request) (passes (is_group_of (lease_of a.request)) (job_at x.call (out ++ x ∷ []))) k.0 (ap (passes (is_group_of (lease_of a.request))) (job_last x out n) ∙ ap (is_group_of (lease_of a.request)) g ∙ ap (λ i. lease == i) k.1 ∙ number_itself lease)

    each : (a : Asked) → group_stands out a.request a.stage ≡ true → group_stands (out ++ x ∷ []) (group_sent x.call lease a).request (group_sent x.call lease a).stage ≡ true
    each a t =
        by_test (λ (b : Asked). group_stands (out ++ x ∷ []) b.request b.stage ≡ true) (keeps lease a.request && is_due_stage a.stage) (in_stage (stage.Grouped (Some (sending.Out x.call))) a) a (λ u. sent a u) (λ u. sent_stage x lease out g a.request a.stage u t)

-- Its call ends: those in it are replied, and those that waited are due.

found_any : (n : ℕ) (p : OutJob → Bool) (j : OutJob) (out : List OutCall) → job_at n out ≡ Some j → p j ≡ true → list_any (λ o. p o.job && (o.call == n)) out ≡ true
found_any n p j [] f e = absurd (cc)
found_any n p j (o ∷ rest) f e = by_head (λ t. found_any n p j rest t e) (o.call == n) refl f
  where
    some_job : OutJob → Option OutJob → OutJob
    some_job d None = d
    some_job d (Some i) = i

    by_head : (job_at n rest ≡ Some j → list_any (λ x. p x.job && (x.call == n)) rest ≡ true) → (b : Bool) → (o.call == n) ≡ b → cond b (Some o.job) (job_at n rest) ≡ Some j → (p o.job && b) || list_any (λ x. p x.job && (x.call == n)) rest ≡ true
    by_head i true t f = or_left (p o.job && true) (list_any (λ x. p x.job && (x.call == n)) rest) (and_both (p o.job) true (ap p (ap (some_job o.job) f) ∙ e) refl)
    by_head i false t f = or_right (p o.job && false) (list_any (λ x. p x.job && (x.call == n)) rest) (i f)

none_left : (n lease : ℕ) (out : List OutCall) (xs : List Asked) → job_at n out ≡ Some (job.Group lease) → GroupsOk out xs → is_out_for lease (without_out n out) ≡ false
none_left n lease out xs f h = any_filtered (λ (o : OutCall). is_group_of lease o.job) (λ (o : OutCall). not (o.call == n)) out ∙ by_value (list_any (λ (o : OutCall). not (o.call == n) && is_group_of lease o.job) out) refl
  where
    swapped : (ys : List OutCall) → list_any (λ (o : OutCall). not (o.call == n) && is_group_of lease o.job) ys ≡ list_any (λ (o : OutCall). is_group_of lease o.job && not (o.call == n)) ys
    swapped [] = refl
    swapped (y ∷ ys) = ap (λ b. b || list_any (λ (o : OutCall). not (o.call == n) && is_group_of lease o.job) ys) (and_turned (not (y.call == n)) (is_group_of lease y.job)) ∙ ap (λ b. (is_group_of lease y.job && not (y.call == n)) || b) (swapped ys)

    never : (ys : List OutCall) → list_any (λ (o : OutCall). is_group_of lease o.job && ((o.call == n) && not (o.call == n))) ys ≡ false
    never [] = refl
    never (y ∷ ys) = or_none (is_group_of lease y.job && ((y.call == n) && not (y.call == n))) (list_any (λ (o : OutCall). is_group_of lease o.job && ((o.call == n) && not (o.call == n))) ys) (ap (λ b. is_group_of lease y.job && b) (both (y.call == n)) ∙ and_false (is_group_of lease y.job)) (never ys)
      where
        both : (b : Bool) → b && not b ≡ false
        both true = refl
        both false = refl

    by_value : (b : Bool) → list_any (λ (o : OutCall). not (o.call == n) && is_group_of lease o.job) out ≡ b → list_any (λ (o : OutCall). not (o.call == n) && is_group_of lease o.job) out ≡ false
    by_value true t =
        let x = both_of_one (λ (o : OutCall). is_group_of lease o.job) (λ (o : OutCall). o.call == n) (λ (o : OutCall). not (o.call == n)) out (h.one lease) (found_any n (is_group_of lease) (job.Group lease) out f (number_itself lease)) (sym (swapped out) ∙ t) in
        let y = never out in
        absurd (cc)
    by_value false t = t

ended_stage : (n lease : ℕ) (out : List OutCall) (xs : List Asked) → once (numbers_of out) ≡ true → job_at n out ≡ Some (job.Group lease) → GroupsOk out xs → (q : Request) (s : Stage) → is_out_stage n s ≡ false → keeps lease q && waits_next s ≡ false → group_stands out q s ≡ true → group_stands (without_out n out) q s ≡ true
ended_stage n lease out xs u f g q (stage.Grouped None) e w h =
    let k = and_first (is_keepalive q) (is_out_for (lease_of q) out) h in
    let other : (lease_of q == lease) ≡ false = sym (keepalive_keeps lease q k) ∙ unless (keeps lease q) w in
    and_both (is_keepalive q) (is_out_for (lease_of q) (without_out n out)) k
    (any_without n (is_group_of (lease_of q)) out (only_found n (is_group_of (lease_of q)) (job.Group lease) out u f (number_turned (lease_of q) lease other)) ∙ and_second (is_keepalive q) (is_out_for (lease_of q) out) h)
  where
    unless : (b : Bool) → b && true ≡ false → b ≡ false
    unless true e = absurd (cc)
    unless false e = refl
ended_stage n lease out xs u f g q (stage.Grouped (Some (sending.Due since))) e w h =
    and_both (is_keepalive q) (not (is_out_for (lease_of q) (without_out n out))) (and_first (is_keepalive q) (not (is_out_for (lease_of q) out)) h)
    (false_not (is_out_for (lease_of q) (without_out n out)) (any_filtered (λ (o : OutCall). is_group_of (lease_of q) o.job) (λ (o : OutCall). not (o.call == n)) out ∙ none_kept (λ (o : OutCall). is_group_of (lease_of q) o.job) (λ (o : OutCall). not (o.call == n) && is_group_of (lease_of q) o.job) (λ o t. and_second (not (o.call == n)) (is_group_of (lease_of q) o.job) t) out (not_true (is_out_for (lease_of q) out) (and_second (is_keepalive q) (not (is_out_for (lease_of q) out)) h))))
ended_stage n lease out xs u f g q (stage.Grouped (Some (sending.Out m))) e w h =
    and_both (is_keepalive q) (passes (is_group_of (lease_of q)) (job_at m (without_out n out))) (and_first (is_keepalive q) (passes (is_group_of (lease_of q)) (job_at m out)) h) (ap (passes (is_group_of (lease_of q))) (job_without m n out e) ∙ and_second (is_keepalive q) (passes (is_group_of (lease_of q)) (job_at m out)) h)
ended_stage n lease out xs u f g q (stage.Calling s) e w h = refl
ended_stage n lease out xs u f g q stage.Acquiring e w h = refl
ended_stage n lease out xs u f g q stage.Joined e w h = refl
ended_stage n lease out xs u f g q stage.Behind e w h = refl
ended_stage n lease out xs u f g q stage.Writes e w h = refl
ended_stage n lease out xs u f g q (stage.Replied v) e w h = refl

pub groups_end : (step n lease : ℕ) (v : Verdict) (out : List OutCall) (xs : List Asked) → once (numbers_of out) ≡ true → job_at n out ≡ Some (job.Group lease) → GroupsOk out xs → GroupsOk (without_out n out) (map (group_ended step n lease v) xs)
groups_end step n lease v out xs u f h = record {
  one = λ l. one_of_filter (λ (o : OutCall). is_group_of l o.job) (λ (o : OutCall). not (o.call == n)) out (h.one l);
  stand = all_mapped (λ (a : Asked). group_stands out a.request a.stage) (λ (a : Asked). group_stands (without_out n out) a.request a.stage) (group_ended step n lease v) each xs h.stand;
}
  where
    due : (a : Asked) → keeps lease a.request && waits_next a.stage ≡ true → group_stands (without_out n out) a.request (stage.Grouped (Some (sending.Due step))) ≡ true
    due a t =
        let k = keeps_is lease a.request (and_first (keeps lease a.request) (waits_next a.stage) t) in
        and_both (is_keepalive a.request) (not (is_out_for (lease_of a.request) (without_out n out))) k.0 (false_not (is_out_for (lease_of a.request) (without_out n out)) (ap (λ i. is_out_for i (without_out n out)) k.1 ∙ none_left n lease out xs f h))

    each : (a : Asked) → group_stands out a.request a.stage ≡ true → group_stands (without_out n out) (group_ended step n lease v a).request (group_ended step n lease v a).stage ≡ true
    each a t =
        by_test (λ (b : Asked). group_stands (without_out n out) b.request b.stage ≡ true) (is_out_stage n a.stage) (in_stage (stage.Replied v) a) (cond (keeps lease a.request && waits_next a.stage) (in_stage (stage.Grouped (Some (sending.Due step))) a) a)
        (λ e. refl)
        (λ e. by_test (λ (b : Asked). group_stands (without_out n out) b.request b.stage ≡ true) (keeps lease a.request && waits_next a.stage) (in_stage (stage.Grouped (Some (sending.Due step))) a) a (λ w. due a w) (λ w. ended_stage n lease out xs u f h a.request a.stage e w t))
