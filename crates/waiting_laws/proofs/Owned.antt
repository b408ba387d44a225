-- What a proxy owns behind each part of a step: notices, calls that end, requests that are forgotten, a session's end, and sendings.
use Rattle.std.proofs.Common.{◌≡◌, ℕ, Bool, true, false, cond, nat_lt, ◌&&◌, ◌||◌, ◌==◌, List, [], ◌∷◌, ◌++◌, Option, None, Some, is_some, refl, sym, ◌∙◌, ap, subst}
use Rattle.std.specs.List.{list_any}
use Rattle.std.specs.Option.{option_map}
use Rattle.std.specs.Ordering.{nat_cmp, is_lt, is_eq}
use Rattle.std.specs.Cmp.Lexicographic.{slice_cmp}
use Rattle.std.specs.FinMap.Entries.{below_all, is_sorted}
use Rattle.std.specs.declared.cmp.Ordering.{Ordering}
use Rattle.std.specs.declared.cmp.Ordering.TheVariants.{Less, Equal, Greater}
use Rattle.etcd_types.specs.declared.answer.Answer.{Answer}
use Rattle.etcd_types.specs.declared.answer.Answer.TheVariants as answer
use Rattle.etcd_types.specs.declared.watch.Change.{Change}
use Rattle.etcd_types.specs.declared.watch.Change.TheVariants as change
use Rattle.etcd_types.specs.declared.watch.Event.{Event}
use Rattle.etcd_types.specs.Keys.{same}
use Rattle.etcd_types.proofs.Bools.{and_first, and_second, and_both, and_false, or_left}
use Rattle.etcd_types.proofs.KeyOrder.{same-equal, same-itself}
use Rattle.proxy_model.specs.declared.lease.Entry.{Entry}
use Rattle.proxy_model.specs.declared.lease.Phase.{Phase}
use Rattle.proxy_model.specs.declared.lease.Phase.TheVariants.{Held, Writing, Leaving}
use Rattle.proxy_model.specs.declared.ownership.Owner.{Owner}
use Rattle.proxy_model.specs.declared.ownership.Written.{Written}
use Rattle.proxy_model.specs.declared.ownership.Written.TheVariants.{Wrote, Blocked}
use Rattle.proxy_model.specs.Foreign.{revoke_word}
use Rattle.proxy_model.specs.Guarded.{written}
use Rattle.proxy_model.specs.Keyed.{Keyed, at, with_at, is_in_order}
use Rattle.proxy_model.specs.Leaving.{guard_held}
use Rattle.proxy_model.specs.LeaseTable.{given_up}
use Rattle.proxy_model.proofs.KeyedLaws.{at-with_at, in_order-with_at}
use Rattle.wait_model.specs.declared.due.DueCall.{DueCall}
use Rattle.wait_model.specs.declared.sending.Sending.TheVariants as sending
use Rattle.wait_model.specs.declared.wait.WaitCall.{WaitCall}
use Rattle.wait_model.specs.declared.wait.WaitJob.{WaitJob}
use Rattle.wait_model.specs.declared.wait.WaitJob.TheVariants as job
use Rattle.wait_model.specs.declared.write.Write.{Write}
use Rattle.wait_model.specs.declared.write.WriteStage.TheVariants.{Sends}
use Rattle.wait_model.specs.Asked.{acquire_spoiled}
use Rattle.wait_model.specs.Covers.{is_single}
use Rattle.wait_model.specs.DueOrder.{first_call, first_rescind}
use Rattle.wait_model.specs.Edits.{without}
use Rattle.wait_model.specs.Endings.{given_back, forgotten_by, forgotten, revoke_back, revoke_answered, answered_job, answered, lost_job, lost}
use Rattle.wait_model.specs.Endings as endings
use Rattle.wait_model.specs.ForeignOwnership.{by_key, is_own, owned_left, finding}
use Rattle.wait_model.specs.GuardedAnswers.{Ending, staged_by, owns_at, is_gone, kept_entries, unwrote_entries, left_entries, other_owners, failed, done_if, write_answered, write_lost}
use Rattle.wait_model.specs.Leaving.{rescinded, if_read, rescind_answered}
use Rattle.wait_model.specs.LeasingStream.{all_given_up}
use Rattle.wait_model.specs.Notices.{owned_key, revoked_turn, put_noticed, deleted_phase, deleted_turn, noticed, all_noticed}
use Rattle.wait_model.specs.Passes.{proceeded}
use Rattle.wait_model.specs.Phases.{own_entry, is_of, is_session, is_rescind_due, rescind_sent, phase_sent}
use Rattle.wait_model.specs.Sent.{JobSent, is_revoke, revoke_job, write_job, call_of, call_sent, job_sent_after, job_sent}
use Rattle.wait_model.specs.Stages.{is_due, is_owner}
use Rattle.wait_model.specs.State.{Ownership}
use Rattle.wait_model.specs.Writes.{first_by, has_ticket, sends, asks, job_of, without_call}
use Rattle.wait_model.proofs.Bools.{or_rest}
use Rattle.core_model.specs.Fits.{passes}
use Rattle.core_laws.proofs.Steps.Comes.{by_test}
use Rattle.core_laws.proofs.Steps.Lists.{number_turned, number_itself}
use Rattle.waiting_laws.specs.Calls.{is_rescind_of}
use Rattle.waiting_laws.proofs.Due.{any_front, any_back}
use Rattle.waiting_laws.proofs.Entries.{phase_fits, is_among, entry_fits, AreOut, unsent_fits, given_up_keeps, put_out, each_out, without_out, wrote_out, unwrote_out, left_out, passed_out}

abbrev pub OwnOut : Ownership → Type 0
OwnOut own = AreOut own.waits.out own.entries

pub proceeded_out : (own : Ownership) → OwnOut own → OwnOut (proceeded own)
proceeded_out own h = passed_out own.waits.out own.waits.step [] own.entries own.waits.spoiled own.waits.writes h

-- ---- notices

revoked_fits : (out : List WaitCall) (session : Option ℕ) (k : List ℕ) (create lease : ℕ) (o : Option Entry) → entry_fits out k o ≡ true → entry_fits out k (revoked_turn session create lease o) ≡ true
revoked_fits out session k create lease None h = by_test (λ (o : Option Entry). entry_fits out k o ≡ true) (is_session session lease) (Some (own_entry create)) None (λ t. refl) (λ t. refl)
revoked_fits out session k create lease (Some e) h = by_test (λ (o : Option Entry). entry_fits out k o ≡ true) (e.create == create) (Some (given_up e)) (Some e) (λ t. given_up_keeps out k e h) (λ t. h)

deleted_fits : (out : List WaitCall) (k : List ℕ) (revision : ℕ) (o : Option Entry) → entry_fits out k o ≡ true → entry_fits out k (deleted_turn revision o) ≡ true
deleted_fits out k revision None h = refl
deleted_fits out k revision (Some e) h = by_test (λ (o : Option Entry). entry_fits out k o ≡ true) (nat_lt e.create revision) (deleted_phase e e.phase) (Some e) (λ t. by e.phase) (λ t. h)
  where
    by : (p : Phase) → entry_fits out k (deleted_phase e p) ≡ true
    by Held = refl
    by (Writing revoked) = refl
    by (Leaving sent) = h

put_noticed_out : (session : Option ℕ) (k : List ℕ) (create lease : ℕ) (own : Ownership) → OwnOut own → OwnOut (put_noticed session k create lease own)
put_noticed_out session k create lease own h =
    by_test OwnOut (is_some (at own.waits.spoiled k)) (acquire_spoiled k own) (record own { entries = with_at own.entries k (revoked_turn session create lease (at own.entries k)) })
    (λ t. h)
    (λ t. put_out own.waits.out own.entries k _ (revoked_fits own.waits.out session k create lease (at own.entries k) (h.sent k)) h)

noticed_out : (session : Option ℕ) (x : Change) (own : Ownership) → OwnOut own → OwnOut (noticed session x own)
noticed_out session (change.Put kv) own h =
    by_test OwnOut (same kv.value revoke_word) (put_noticed session (owned_key own.waits.prefix kv.key) kv.create kv.lease own) own (λ t. put_noticed_out session (owned_key own.waits.prefix kv.key) kv.create kv.lease own h) (λ t. h)
noticed_out session (change.Delete k revision) own h =
    let i = owned_key own.waits.prefix k in
    put_out own.waits.out own.entries i _ (deleted_fits own.waits.out i revision (at own.entries i) (h.sent i)) h

pub message_out : (session : Option ℕ) (es : List Event) (own : Ownership) → OwnOut own → OwnOut (all_noticed session es own)
message_out session [] own h = h
message_out session (e ∷ es) own h = message_out session es (noticed session e.change own) (noticed_out session e.change own h)

pub given_up_out : (own : Ownership) → OwnOut own → OwnOut (all_given_up own)
given_up_out own h = each_out own.waits.out (λ k e. given_up e) own.entries (λ k e. given_up_keeps own.waits.out k e) h

-- ---- requests that are forgotten

forgotten_by_out : (p : Write → Bool) (o : Option Write) (own : Ownership) → OwnOut own → OwnOut (forgotten_by p o own)
forgotten_by_out p None own h = h
forgotten_by_out p (Some w) own h =
    by_test (AreOut own.waits.out) (is_due w.stage) (unwrote_entries w own.entries) (left_entries w own.entries) (λ t. unwrote_out own.waits.out w own.entries h) (λ t. left_out own.waits.out w own.entries h)

pub forgotten_out : (ticket : ℕ) (own : Ownership) → OwnOut own → OwnOut (forgotten ticket own)
unfolding forgotten
forgotten_out ticket own h = forgotten_by_out (has_ticket ticket) (first_by (has_ticket ticket) own.waits.writes) own h

-- ---- calls that end

abbrev pub EndOut : Option Ending → Type 0
EndOut None = Unit {0}
EndOut (Some x) = OwnOut x.own

owned_left_out : (out : List WaitCall) (session : Option ℕ) (os : Keyed Owner) (es : Keyed Entry) → AreOut out es → AreOut out (owned_left session os es)
owned_left_out out session [] es h = h
owned_left_out out session (o ∷ os) es h =
    owned_left_out out session os (cond (is_own session es o) (with_at es o.0 (Some (own_entry o.1.create))) es)
    (by_test (AreOut out) (is_own session es o) (with_at es o.0 (Some (own_entry o.1.create))) es (λ t. put_out out es o.0 (Some (own_entry o.1.create)) refl h) (λ t. h))

failed_out : (session : Option ℕ) (p : Write → Bool) (w : Write) (os : List Owner) (own : Ownership) → OwnOut own → OwnOut (failed session p w os own)
failed_out session p w os own h =
    let kept = kept_entries w os own.entries in
    by_test OwnOut (is_owner w.stage && is_single w.request)
    (staged_by own (without (owns_at w own.entries) own.entries) p (Sends false (sending.Due own.waits.step)))
    (finding session p (by_key [] (other_owners w own.entries os)) own kept)
    (λ t. without_out own.waits.out (owns_at w own.entries) own.entries h)
    (λ t. owned_left_out own.waits.out session (by_key [] (other_owners w own.entries os)) kept (unwrote_out own.waits.out w (without (is_gone w own.entries os) own.entries) (without_out own.waits.out (is_gone w own.entries os) own.entries h)))

done_out : (session : Option ℕ) (p : Write → Bool) (w : Write) (o : Option Written) (own : Ownership) → OwnOut own → EndOut (done_if session p w o own)
done_out session p w None own h = tt
done_out session p w (Some (Wrote reply)) own h = wrote_out own.waits.out w _ own.entries h
done_out session p w (Some (Blocked os)) own h = failed_out session p w os own h

write_out : (session : Option ℕ) (p : Write → Bool) (o : Option Write) (a : Answer) (own : Ownership) → OwnOut own → EndOut (write_answered session p o a own)
write_out session p None a own h = h
write_out session p (Some w) (answer.Done reply) own h = done_out session p w (written own.waits.prefix w.request reply) own h
write_out session p (Some w) (answer.Refused r) own h = unwrote_out own.waits.out w own.entries h

back_out : (p : Write → Bool) (call : ℕ) (w : Write) (o : Option Bool) (own : Ownership) → OwnOut own → EndOut (revoke_back p call w o own)
back_out p call w None own h = tt
back_out p call w (Some held) own h = h

revoke_out : (p : Write → Bool) (call : ℕ) (o : Option Write) (a : Answer) (own : Ownership) → OwnOut own → EndOut (revoke_answered p call o a own)
revoke_out p call None a own h = h
revoke_out p call (Some w) (answer.Done reply) own h = back_out p call w (guard_held reply.body) own h
revoke_out p call (Some w) (answer.Refused r) own h = h

read_out : (o : Option Bool) (own : Ownership) → OwnOut own → EndOut (if_read o own)
read_out None own h = tt
read_out (Some held) own h = h

rescind_out : (a : Answer) (own : Ownership) → OwnOut own → EndOut (rescind_answered a own)
rescind_out (answer.Done reply) own h = read_out (guard_held reply.body) own h
rescind_out (answer.Refused r) own h = h

-- the call that ended is out no more: what it wasn't the rescind of has its own

kept_among : (p : WaitJob → Bool) (call : ℕ) (out : List WaitCall) → passes p (job_of call out) ≡ false → list_any (λ o. p o.job) out ≡ true → list_any (λ o. p o.job) (without_call call out) ≡ true
kept_among p call [] n h = h
kept_among p call (x ∷ xs) n h = by (x.call == call) n (kept_among p call xs)
  where
    by : (b : Bool) → passes p (cond b (Some x.job) (job_of call xs)) ≡ false → (passes p (job_of call xs) ≡ false → list_any (λ o. p o.job) xs ≡ true → list_any (λ o. p o.job) (without_call call xs) ≡ true) → list_any (λ o. p o.job) (cond b xs (x ∷ without_call call xs)) ≡ true
    by true n more = or_rest (p x.job) (list_any (λ o. p o.job) xs) n h
    by false n more = rest (p x.job) h
      where
        rest : (c : Bool) → c || list_any (λ o. p o.job) xs ≡ true → c || list_any (λ o. p o.job) (without_call call xs) ≡ true
        rest true t = refl
        rest false t = more n t

abbrev Other : List ℕ → Option WaitJob → Option Entry → Type 0
Other k j None = Unit {0}
Other k j (Some e) = passes (is_rescind_of k e.create) j ≡ false

phase_on : (b c : Bool) (p : Phase) → (b ≡ true → c ≡ true) → phase_fits b p ≡ true → phase_fits c p ≡ true
phase_on b c Held f h = refl
phase_on b c (Writing revoked) f h = refl
phase_on b c (Leaving false) f h = refl
phase_on b c (Leaving true) f h = f h

still_fits : (call : ℕ) (out : List WaitCall) (k : List ℕ) (o : Option Entry) → Other k (job_of call out) o → entry_fits out k o ≡ true → entry_fits (without_call call out) k o ≡ true
still_fits call out k None n h = refl
still_fits call out k (Some e) n h = phase_on (is_among out k e.create) (is_among (without_call call out) k e.create) e.phase (kept_among (is_rescind_of k e.create) call out n) h

-- of a call that is no rescind
plain_out : (call : ℕ) (own : Ownership) → ((k : List ℕ) (create : ℕ) → passes (is_rescind_of k create) (job_of call own.waits.out) ≡ false) → OwnOut own → OwnOut (endings.without_out call own)
plain_out call own n h = record { order = h.order; sent = λ k. still_fits call own.waits.out k (at own.entries k) (other k (at own.entries k)) (h.sent k) }
  where
    other : (k : List ℕ) (o : Option Entry) → Other k (job_of call own.waits.out) o
    other k None = tt
    other k (Some e) = n k e.create

not_of : (k : List ℕ) (create : ℕ) (o : Option Entry) → is_of create o ≡ false → Other k (Some (job.Rescind k create)) o
not_of k create None n = tt
not_of k create (Some e) n = ap (λ b. same k k && b) (number_turned e.create create n) ∙ and_false (same k k)

not_at : (k j : List ℕ) (create : ℕ) (o : Option Entry) → same k j ≡ false → Other j (Some (job.Rescind k create)) o
not_at k j create None n = tt
not_at k j create (Some e) n = ap (λ b. b && (create == e.create)) n

-- of a rescind: what stands at the other keys, and what is put at its own
ended_out : (call : ℕ) (k : List ℕ) (create : ℕ) (own : Ownership) (o : Option Entry) → job_of call own.waits.out ≡ Some (job.Rescind k create) → entry_fits (without_call call own.waits.out) k o ≡ true → OwnOut own → AreOut (without_call call own.waits.out) (with_at own.entries k o)
ended_out call k create own o e f h = record {
  order = in_order-with_at own.entries k o h.order;
  sent = λ j. ap (entry_fits (without_call call own.waits.out) j) (at-with_at own.entries k j o) ∙ by j (same k j) refl;
}
  where
    by : (j : List ℕ) (b : Bool) → same k j ≡ b → entry_fits (without_call call own.waits.out) j (cond b o (at own.entries j)) ≡ true
    by j true q = subst (λ (i : List ℕ). entry_fits (without_call call own.waits.out) i o ≡ true) (same-equal k j q) f
    by j false q = still_fits call own.waits.out j (at own.entries j) (subst (λ (x : Option WaitJob). Other j x (at own.entries j)) (sym e) (not_at k j create (at own.entries j) q)) (h.sent j)

rescinded_out : (call : ℕ) (k : List ℕ) (create now : ℕ) (own : Ownership) → job_of call own.waits.out ≡ Some (job.Rescind k create) → OwnOut own → OwnOut (rescinded k create now (endings.without_out call own))
rescinded_out call k create now own e h =
    by_test OwnOut (is_of create (at own.entries k)) _ (endings.without_out call own)
    (λ t. ended_out call k create own None e refl h)
    (λ t. record { order = h.order; sent = λ j. other t j (same k j) refl })
  where
    other : is_of create (at own.entries k) ≡ false → (j : List ℕ) (b : Bool) → same k j ≡ b → entry_fits (without_call call own.waits.out) j (at own.entries j) ≡ true
    other t j true q =
        subst (λ (i : List ℕ). entry_fits (without_call call own.waits.out) i (at own.entries i) ≡ true) (same-equal k j q)
        (still_fits call own.waits.out k (at own.entries k) (subst (λ (x : Option WaitJob). Other k x (at own.entries k)) (sym e) (not_of k create (at own.entries k) t)) (h.sent k))
    other t j false q = still_fits call own.waits.out j (at own.entries j) (subst (λ (x : Option WaitJob). Other j x (at own.entries j)) (sym e) (not_at k j create (at own.entries j) q)) (h.sent j)

pub answered_out : (call : ℕ) (a : Answer) (session : Option ℕ) (now : ℕ) (own : Ownership) → OwnOut own → EndOut (answered call a session now own)
unfolding answered
answered_out call a session now own h = by (job_of call own.waits.out) refl
  where
    plain : (j : Option WaitJob) → job_of call own.waits.out ≡ j → ((k : List ℕ) (create : ℕ) → passes (is_rescind_of k create) j ≡ false) → OwnOut (endings.without_out call own)
    plain j e n = plain_out call own (λ k create. ap (passes (is_rescind_of k create)) e ∙ n k create) h

    by : (j : Option WaitJob) → job_of call own.waits.out ≡ j → EndOut (answered_job call a session now j (endings.without_out call own))
    by None e = plain None e (λ k create. refl)
    by (Some (job.Rescind k create)) e = rescind_out a (rescinded k create now (endings.without_out call own)) (rescinded_out call k create now own e h)
    by (Some (job.Revoke k)) e = revoke_out (asks call) call (first_by (asks call) own.waits.writes) a (endings.without_out call own) (plain (Some (job.Revoke k)) e (λ i create. refl))
    by (Some job.Write) e = write_out session (sends call) (first_by (sends call) own.waits.writes) a (endings.without_out call own) (plain (Some job.Write) e (λ i create. refl))

write_lost_out : (p : Write → Bool) (o : Option Write) (own : Ownership) → OwnOut own → OwnOut (write_lost p o own).own
write_lost_out p None own h = h
write_lost_out p (Some w) own h = left_out own.waits.out w own.entries h

pub lost_out : (call : ℕ) (own : Ownership) → OwnOut own → OwnOut (lost call own).own
unfolding lost
lost_out call own h = by (job_of call own.waits.out) refl
  where
    plain : (j : Option WaitJob) → job_of call own.waits.out ≡ j → ((k : List ℕ) (create : ℕ) → passes (is_rescind_of k create) j ≡ false) → OwnOut (endings.without_out call own)
    plain j e n = plain_out call own (λ k create. ap (passes (is_rescind_of k create)) e ∙ n k create) h

    back : ℕ → Entry → Entry
    back create e = cond (e.create == create) (rescind_sent false e) e

    again : (k : List ℕ) (create : ℕ) → job_of call own.waits.out ≡ Some (job.Rescind k create) → (o : Option Entry) → entry_fits own.waits.out k o ≡ true → entry_fits (without_call call own.waits.out) k (option_map (back create) o) ≡ true
    again k create e None t = refl
    again k create e (Some x) t =
        by_test (λ (y : Entry). entry_fits (without_call call own.waits.out) k (Some y) ≡ true) (x.create == create) (rescind_sent false x) x
        (λ u. unsent_fits (is_among (without_call call own.waits.out) k x.create) x.phase)
        (λ u. still_fits call own.waits.out k (Some x) (subst (λ (y : Option WaitJob). Other k y (Some x)) (sym e) (not_of k create (Some x) u)) t)

    by : (j : Option WaitJob) → job_of call own.waits.out ≡ j → OwnOut (lost_job call j (endings.without_out call own)).own
    by None e = plain None e (λ k create. refl)
    by (Some (job.Rescind k create)) e = ended_out call k create own (option_map (back create) (at own.entries k)) e (again k create e (at own.entries k) (h.sent k)) h
    by (Some (job.Revoke k)) e = write_lost_out (asks call) (first_by (asks call) own.waits.writes) (endings.without_out call own) (plain (Some (job.Revoke k)) e (λ i create. refl))
    by (Some job.Write) e = write_lost_out (sends call) (first_by (sends call) own.waits.writes) (endings.without_out call own) (plain (Some job.Write) e (λ i create. refl))

-- ---- sendings

abbrev pub SentOut : Option JobSent → Type 0
SentOut None = Unit {0}
SentOut (Some x) = OwnOut x.own

grown_out : (out more : List WaitCall) (es : Keyed Entry) → AreOut out es → AreOut (out ++ more) es
grown_out out more es h = record { order = h.order; sent = λ k. by k (at es k) (h.sent k) }
  where
    by : (k : List ℕ) (o : Option Entry) → entry_fits out k o ≡ true → entry_fits (out ++ more) k o ≡ true
    by k None t = refl
    by k (Some e) t = phase_on (is_among out k e.create) (is_among (out ++ more) k e.create) e.phase (λ u. any_front (λ o. is_rescind_of k e.create o.job) out more u) t

none_below : (k : List ℕ) (es : Keyed Entry) → below_all (slice_cmp nat_cmp) k es ≡ true → at es k ≡ None
none_below k [] h = refl
none_below k (e ∷ es) h = by (slice_cmp nat_cmp k e.0) (and_first (is_lt (slice_cmp nat_cmp k e.0)) (below_all (slice_cmp nat_cmp) k es) h) (none_below k es (and_second (is_lt (slice_cmp nat_cmp k e.0)) (below_all (slice_cmp nat_cmp) k es) h))
  where
    by : (o : Ordering) → is_lt o ≡ true → at es k ≡ None → cond (is_eq o) (Some e.1) (at es k) ≡ None
    by Less t n = n
    by Equal t n = absurd (cc)
    by Greater t n = absurd (cc)

-- the first rescind is of what stands at its key
first_stands : (e : List ℕ × Entry) (es : Keyed Entry) → is_in_order es ≡ true → first_rescind es ≡ Some e → at es e.0 ≡ Some e.1
first_stands e [] s f = absurd (cc)
first_stands e (x ∷ xs) s f = by (is_rescind_due x.1) f (first_stands e xs (and_second (below_all (slice_cmp nat_cmp) x.0 xs) (is_sorted (slice_cmp nat_cmp) xs) s))
  where
    same_one : Some x ≡ Some e → x ≡ e
    same_one g = cc

    none : at xs x.0 ≡ None
    none = none_below x.0 xs (and_first (below_all (slice_cmp nat_cmp) x.0 xs) (is_sorted (slice_cmp nat_cmp) xs) s)

    apart : at xs e.0 ≡ Some e.1 → (b : Bool) → same e.0 x.0 ≡ b → cond b (Some x.1) (at xs e.0) ≡ Some e.1
    apart g true q = absurd (let m = sym (ap (at xs) (same-equal e.0 x.0 q) ∙ none) ∙ g in cc)
    apart g false q = g

    by : (b : Bool) → cond b (Some x) (first_rescind xs) ≡ Some e → (first_rescind xs ≡ Some e → at xs e.0 ≡ Some e.1) → at (x ∷ xs) e.0 ≡ Some e.1
    by true g more = subst (λ (y : List ℕ × Entry). at (x ∷ xs) y.0 ≡ Some y.1) (same_one g) (ap (λ b. cond b (Some x.1) (at xs x.0)) (same-itself x.0))
    by false g more = apart (more g) (same e.0 x.0) refl

call_out : (call : ℕ) (d : DueCall) (o : Option Write) (own : Ownership) → OwnOut own → SentOut (call_of call d o own)
call_out call d None own h = tt
call_out call d (Some w) own h =
    by_test (λ (x : JobSent). OwnOut x.own) (is_revoke d.place.kind) (revoke_job call d w own) (write_job call d w own)
    (λ t. grown_out own.waits.out _ own.entries h) (λ t. grown_out own.waits.out _ own.entries h)

pub job_sent_out : (call : ℕ) (own : Ownership) → OwnOut own → SentOut (job_sent call own)
unfolding job_sent
job_sent_out call own h = by (first_rescind own.entries) refl
  where
    by_call : (o : Option DueCall) → SentOut (call_sent call o own)
    by_call None = tt
    by_call (Some d) = call_out call d (first_by (has_ticket d.place.number) own.waits.writes) own h

    sent_fits : (p : Phase) → phase_fits true (phase_sent true p) ≡ true
    sent_fits Held = refl
    sent_fits (Writing revoked) = refl
    sent_fits (Leaving sent) = refl

    it_is : (e : List ℕ × Entry) → is_among (own.waits.out ++ record { call = call; job = job.Rescind e.0 e.1.create } ∷ []) e.0 e.1.create ≡ true
    it_is e =
        any_back (λ o. is_rescind_of e.0 e.1.create o.job) own.waits.out (record { call = call; job = job.Rescind e.0 e.1.create } ∷ [])
        (or_left (same e.0 e.0 && (e.1.create == e.1.create)) false (and_both (same e.0 e.0) (e.1.create == e.1.create) (same-itself e.0) (number_itself e.1.create)))

    by : (o : Option (List ℕ × Entry)) → first_rescind own.entries ≡ o → SentOut (job_sent_after call o own)
    by None e = by_call (first_call own.waits.writes)
    by (Some e) f =
        let more = record { call = call; job = job.Rescind e.0 e.1.create } ∷ [] in
        put_out (own.waits.out ++ more) own.entries e.0 (option_map (rescind_sent true) (at own.entries e.0))
        (ap (λ (o : Option Entry). entry_fits (own.waits.out ++ more) e.0 (option_map (rescind_sent true) o)) (first_stands e own.entries h.order f)
        ∙ ap (λ b. phase_fits b (phase_sent true e.1.phase)) (it_is e)
        ∙ sent_fits e.1.phase)
        (grown_out own.waits.out more own.entries h)
