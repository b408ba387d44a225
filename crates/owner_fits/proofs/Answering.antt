-- What the answers and losses of a proxy's own calls do to what it owns and to its writes.
use Rattle.std.proofs.Common.{◌≡◌, ℕ, Bool, true, false, not, cond, nat_lt, ◌&&◌, ◌==◌, List, [], ◌∷◌, map, Option, None, Some, refl}
use Rattle.std.specs.List.{list_all}
use Rattle.std.specs.Option.{option_map}
use Rattle.std.specs.Ordering.{nat_cmp}
use Rattle.std.specs.Cmp.Lexicographic.{slice_cmp}
use Rattle.std.specs.FinMap.Entries.{by_order}
use Rattle.std.specs.declared.cmp.Ordering.{Ordering}
use Rattle.std.specs.declared.cmp.Ordering.TheVariants.{Less, Equal, Greater}
use Rattle.etcd_types.specs.declared.answer.Answer.{Answer}
use Rattle.etcd_types.specs.declared.answer.Answer.TheVariants as answer
use Rattle.etcd_types.specs.Keys.{is_empty}
use Rattle.etcd_types.proofs.Bools.{and_first, and_second, and_both, not_true}
use Rattle.proxy_model.specs.declared.lease.Entry.{Entry}
use Rattle.proxy_model.specs.declared.ownership.Owner.{Owner}
use Rattle.proxy_model.specs.declared.ownership.Written.{Written}
use Rattle.proxy_model.specs.declared.ownership.Written.TheVariants.{Wrote, Blocked}
use Rattle.proxy_model.specs.Guarded.{written}
use Rattle.proxy_model.specs.Keyed.{Keyed, at, with_at}
use Rattle.proxy_model.specs.Leaving.{guard_held}
use Rattle.proxy_model.specs.LeaseTable.{unwritten}
use Rattle.wait_model.specs.declared.sending.Sending.TheVariants as sending
use Rattle.wait_model.specs.declared.wait.WaitJob.{WaitJob}
use Rattle.wait_model.specs.declared.wait.WaitJob.TheVariants as job
use Rattle.wait_model.specs.declared.write.Write.{Write}
use Rattle.wait_model.specs.declared.write.WriteStage.TheVariants.{Sends, Finds}
use Rattle.wait_model.specs.Covers.{is_single}
use Rattle.wait_model.specs.Edits.{without}
use Rattle.wait_model.specs.Endings.{revoke_back, revoke_answered, answered_job, without_out, answered, lost_job, lost}
use Rattle.wait_model.specs.ForeignOwnership.{by_key, is_own, owned_left, found_of, others, finding, stage_asked}
use Rattle.wait_model.specs.GuardedAnswers.{Ending, staged_by, owns_at, wrote_entries, unwrote_entries, left_entries, is_kept, is_gone, kept_entries, other_owners, failed, done_if, write_answered, write_lost}
use Rattle.wait_model.specs.Leaving.{rescinded, if_read, rescind_answered}
use Rattle.wait_model.specs.Phases.{own_entry, rescind_sent, is_of}
use Rattle.wait_model.specs.Stages.{is_owner}
use Rattle.wait_model.specs.State.{Ownership}
use Rattle.wait_model.specs.Writes.{first_by, sends, asks, job_of}
use Rattle.core_laws.proofs.Steps.Comes.{by_test, owner_asked}
use Rattle.core_laws.proofs.Steps.Lists.{all_mapped, all_filtered}
use Rattle.owner_fits.specs.Names.{is_named, found_named, owner_named, written_named, answer_named}
use Rattle.owner_fits.proofs.Going.{EntryGoes, EntriesGo, entries_stay, entries_on, at_one, at_most, eases_if, unsent_eases, writes_stay, first_staged}
use Rattle.owner_fits.proofs.Owning.{OwnGoes, goes_nowhere, asked_named, owned_eases, ended_goes}

-- Owners that were found, by key.

put_all : {A : Type 0} (p : List ℕ → A → Bool) (k : List ℕ) (x : A) (es : Keyed A) → ((j : List ℕ) (y : A) → p j y ≡ true → p j x ≡ true) → p k x ≡ true → list_all (λ e. p e.0 e.1) es ≡ true → list_all (λ e. p e.0 e.1) (with_at es k (Some x)) ≡ true
put_all p k x [] s n h = and_both (p k x) true n refl
put_all {A} p k x (e ∷ es) s n h = by (slice_cmp nat_cmp k e.0) (put_all p k x es s n (and_second (p e.0 e.1) (list_all (λ e. p e.0 e.1) es) h))
  where
    here : p e.0 e.1 ≡ true
    here = and_first (p e.0 e.1) (list_all (λ e. p e.0 e.1) es) h

    by : (o : Ordering) → list_all (λ e. p e.0 e.1) (with_at es k (Some x)) ≡ true → list_all (λ e. p e.0 e.1) (by_order o ((k, x) ∷ e ∷ es) ((e.0, x) ∷ es) (e ∷ with_at es k (Some x))) ≡ true
    by Less i = and_both (p k x) (list_all (λ e. p e.0 e.1) (e ∷ es)) n h
    by Equal i = and_both (p e.0 x) (list_all (λ e. p e.0 e.1) es) (s e.0 e.1 here) (and_second (p e.0 e.1) (list_all (λ e. p e.0 e.1) es) h)
    by Greater i = and_both (p e.0 e.1) (list_all (λ e. p e.0 e.1) (with_at es k (Some x))) here i

abbrev pair_named : List ℕ → Owner → Bool
pair_named k o = is_named k o.create

abbrev all_named : Keyed Owner → Bool
all_named os = list_all (λ e. pair_named e.0 e.1) os

-- of owners that have names
by_key_named : (found : Keyed Owner) (os : List Owner) → all_named found ≡ true → list_all owner_named os ≡ true → all_named (by_key found os) ≡ true
by_key_named found [] h i = h
by_key_named found (o ∷ os) h i =
    let n = and_first (owner_named o) (list_all owner_named os) i in
    by_key_named (with_at found o.key (Some o)) os (put_all pair_named o.key o found (λ j y t. and_both (nat_lt 0 o.create) (not (is_empty j)) (and_first (nat_lt 0 o.create) (not (is_empty o.key)) n) (and_second (nat_lt 0 y.create) (not (is_empty j)) t)) n h) (and_second (owner_named o) (list_all owner_named os) i)

found_of_named : (step : ℕ) (os : Keyed Owner) → all_named os ≡ true → list_all found_named (map (found_of step) os) ≡ true
found_of_named step os h = all_mapped (λ e. pair_named e.0 e.1) found_named (found_of step) (λ e t. t) os h

-- The entries that they leave.

left_goes : (named : Bool) (session : Option ℕ) (os : Keyed Owner) (es : Keyed Entry) → (named ≡ true → all_named os ≡ true) → EntriesGo named es (owned_left session os es)
left_goes named session [] es n = entries_stay named es
left_goes named session (o ∷ os) es n =
    let fs = cond (is_own session es o) (with_at es o.0 (Some (own_entry o.1.create))) es in
    entries_on named es fs (owned_left session os fs)
    (by_test (EntriesGo named es) (is_own session es o) (with_at es o.0 (Some (own_entry o.1.create))) es
    (λ t. at_one named es o.0 (Some (own_entry o.1.create)) (λ q l h. l.left o.0 o.1.create (λ b. not_true (is_empty o.0) (and_second (nat_lt 0 o.1.create) (not (is_empty o.0)) (and_first (pair_named o.0 o.1) (all_named os) (n b))))))
    (λ t. entries_stay named es))
    (left_goes named session os fs (λ b. and_second (pair_named o.0 o.1) (all_named os) (n b)))

kept_goes : (named : Bool) (w : Write) (os : List Owner) (es : Keyed Entry) → EntriesGo named es (kept_entries w os es)
kept_goes named w os es = entries_on named es (without (is_gone w es os) es) (kept_entries w os es) (at_most named (is_gone w es os) es) (owned_eases named w (λ k e. unwritten e) (without (is_gone w es os) es))

-- A write's own call.

failed_goes : (named : Bool) (session : Option ℕ) (p : Write → Bool) (w : Write) (os : List Owner) (own : Ownership) → first_by p own.waits.writes ≡ Some w → (named ≡ true → list_all owner_named os ≡ true) → OwnGoes named own (failed session p w os own)
failed_goes named session p w os own f n =
    by_test (OwnGoes named own) (is_owner w.stage && is_single w.request)
    (staged_by own (without (owns_at w own.entries) own.entries) p (Sends false (sending.Due own.waits.step)))
    (finding session p (by_key [] (other_owners w own.entries os)) own (kept_entries w os own.entries))
    (λ t. record { prefix = refl; entries = at_most named (owns_at w own.entries) own.entries; writes = first_staged named p w (Sends false (sending.Due own.waits.step)) own.waits.writes f (record { owner = λ u. absurd (cc); found = λ b h. refl }) })
    (λ t. record {
      prefix = refl;
      entries = entries_on named own.entries kept (owned_left session keyed kept) (kept_goes named w os own.entries) (left_goes named session keyed kept names);
      writes = first_staged named p w (Finds (map (found_of own.waits.step) (others session kept keyed))) own.waits.writes f (record { owner = λ u. absurd (cc); found = λ b h. found_of_named own.waits.step (others session kept keyed) (all_filtered (λ e. pair_named e.0 e.1) (λ o. not (is_own session kept o)) keyed (names b)) });
    })
  where
    kept : Keyed Entry
    kept = kept_entries w os own.entries

    keyed : Keyed Owner
    keyed = by_key [] (other_owners w own.entries os)

    names : named ≡ true → all_named (by_key [] (other_owners w own.entries os)) ≡ true
    names b = by_key_named [] (other_owners w own.entries os) refl (all_filtered owner_named (λ o. not (is_kept w own.entries os o.key)) os (n b))

abbrev pub GoesIf : Bool → Ownership → Option Ending → Type 0
GoesIf named own None = Unit {0}
GoesIf named own (Some x) = OwnGoes named own x.own

done_goes : (named : Bool) (session : Option ℕ) (p : Write → Bool) (w : Write) (o : Option Written) (own : Ownership) → first_by p own.waits.writes ≡ Some w → (named ≡ true → written_named o ≡ true) → GoesIf named own (done_if session p w o own)
done_goes named session p w None own f n = tt
done_goes named session p w (Some (Wrote reply)) own f n = ended_goes named p (wrote_entries w reply own.entries) own (owned_eases named w _ own.entries)
done_goes named session p w (Some (Blocked os)) own f n = failed_goes named session p w os own f n

write_goes : (named : Bool) (session : Option ℕ) (p : Write → Bool) (o : Option Write) (a : Answer) (own : Ownership) → first_by p own.waits.writes ≡ o → (named ≡ true → (w : Write) → o ≡ Some w → answer_named own.waits.prefix a w ≡ true) → GoesIf named own (write_answered session p o a own)
write_goes named session p None a own f n = goes_nowhere named own
write_goes named session p (Some w) (answer.Done reply) own f n = done_goes named session p w (written own.waits.prefix w.request reply) own f (λ b. n b w refl)
write_goes named session p (Some w) (answer.Refused r) own f n = ended_goes named p (unwrote_entries w own.entries) own (owned_eases named w _ own.entries)

-- A revoke call, and a rescind.

back_goes : (named : Bool) (p : Write → Bool) (call : ℕ) (w : Write) (o : Option Bool) (own : Ownership) → first_by p own.waits.writes ≡ Some w → GoesIf named own (revoke_back p call w o own)
back_goes named p call w None own f = tt
back_goes named p call w (Some held) own f = record { prefix = refl; entries = entries_stay named own.entries; writes = first_staged named p w (stage_asked call held w.stage) own.waits.writes f (record { owner = owner_asked call held w.stage; found = λ b h. asked_named call held w.stage h }) }

revoke_goes : (named : Bool) (p : Write → Bool) (call : ℕ) (o : Option Write) (a : Answer) (own : Ownership) → first_by p own.waits.writes ≡ o → GoesIf named own (revoke_answered p call o a own)
revoke_goes named p call None a own f = goes_nowhere named own
revoke_goes named p call (Some w) (answer.Done reply) own f = back_goes named p call w (guard_held reply.body) own f
revoke_goes named p call (Some w) (answer.Refused r) own f = ended_goes named p own.entries own (entries_stay named own.entries)

rescinded_goes : (named : Bool) (k : List ℕ) (create now : ℕ) (own : Ownership) → OwnGoes named own (rescinded k create now own)
rescinded_goes named k create now own =
    by_test (OwnGoes named own) (is_of create (at own.entries k)) _ own
    (λ t. record { prefix = refl; entries = at_one named own.entries k None (λ q l h. l.nothing k); writes = writes_stay named own.waits.writes })
    (λ t. goes_nowhere named own)

read_goes : (named : Bool) (o : Option Bool) (own next : Ownership) → OwnGoes named own next → GoesIf named own (if_read o next)
read_goes named None own next h = tt
read_goes named (Some held) own next h = h

rescind_goes : (named : Bool) (a : Answer) (own next : Ownership) → OwnGoes named own next → GoesIf named own (rescind_answered a next)
rescind_goes named (answer.Done reply) own next h = read_goes named (guard_held reply.body) own next h
rescind_goes named (answer.Refused r) own next h = h

-- Any call that is answered or lost.

abbrev pub AnswersName : Bool → ℕ → Answer → Ownership → Type 0
AnswersName named call a own = named ≡ true → (w : Write) → first_by (sends call) own.waits.writes ≡ Some w → answer_named own.waits.prefix a w ≡ true

job_goes : (named : Bool) (call : ℕ) (a : Answer) (session : Option ℕ) (now : ℕ) (o : Option WaitJob) (own : Ownership) → AnswersName named call a own → GoesIf named own (answered_job call a session now o own)
job_goes named call a session now None own n = goes_nowhere named own
job_goes named call a session now (Some (job.Rescind k create)) own n = rescind_goes named a own (rescinded k create now own) (rescinded_goes named k create now own)
job_goes named call a session now (Some (job.Revoke k)) own n = revoke_goes named (asks call) call (first_by (asks call) own.waits.writes) a own refl
job_goes named call a session now (Some job.Write) own n = write_goes named session (sends call) (first_by (sends call) own.waits.writes) a own refl n

outed : (named : Bool) (call : ℕ) (own : Ownership) (o : Option Ending) → GoesIf named (without_out call own) o → GoesIf named own o
outed named call own None h = h
outed named call own (Some x) h = record { prefix = h.prefix; entries = h.entries; writes = h.writes }

pub answered_goes : (named : Bool) (call : ℕ) (a : Answer) (session : Option ℕ) (now : ℕ) (own : Ownership) → AnswersName named call a own → GoesIf named own (answered call a session now own)
unfolding answered
answered_goes named call a session now own n = outed named call own (answered_job call a session now (job_of call own.waits.out) (without_out call own)) (job_goes named call a session now (job_of call own.waits.out) (without_out call own) n)

write_lost_goes : (named : Bool) (p : Write → Bool) (o : Option Write) (own : Ownership) → OwnGoes named own (write_lost p o own).own
write_lost_goes named p None own = goes_nowhere named own
write_lost_goes named p (Some w) own = ended_goes named p (left_entries w own.entries) own (owned_eases named w _ own.entries)

lost_job_goes : (named : Bool) (call : ℕ) (o : Option WaitJob) (own : Ownership) → OwnGoes named own (lost_job call o own).own
lost_job_goes named call None own = goes_nowhere named own
lost_job_goes named call (Some (job.Rescind k create)) own = record {
  prefix = refl;
  entries = at_one named own.entries k _ (by_entry (at own.entries k));
  writes = writes_stay named own.waits.writes;
}
  where
    back : Entry → Entry
    back e = cond (e.create == create) (rescind_sent false e) e

    by_entry : (o : Option Entry) → EntryGoes named k o (option_map back o)
    by_entry None q l h = h
    by_entry (Some e) q l h = l.eased k e (back e) (eases_if (e.create == create) e (rescind_sent false e) (unsent_eases false e)) h
lost_job_goes named call (Some (job.Revoke k)) own = write_lost_goes named (asks call) (first_by (asks call) own.waits.writes) own
lost_job_goes named call (Some job.Write) own = write_lost_goes named (sends call) (first_by (sends call) own.waits.writes) own

pub lost_goes : (named : Bool) (call : ℕ) (own : Ownership) → OwnGoes named own (lost call own).own
unfolding lost
lost_goes named call own = let h = lost_job_goes named call (job_of call own.waits.out) (without_out call own) in record { prefix = h.prefix; entries = h.entries; writes = h.writes }
