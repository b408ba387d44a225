-- A loss, and a write that is forgotten, part by part.
use Rattle.std.proofs.Common.{◌≡◌, ℕ, Bool, true, false, cond, List, [], ◌∷◌, Option, None, Some, refl, sym, ap, subst}
use Rattle.wait_model.specs.declared.wait.WaitCall.{WaitCall}
use Rattle.wait_model.specs.declared.wait.WaitJob.{WaitJob}
use Rattle.wait_model.specs.declared.wait.WaitJob.TheVariants as job
use Rattle.wait_model.specs.declared.write.Write.{Write}
use Rattle.wait_model.specs.Endings.{without_out, lost_job, lost, forgotten_by, forgotten}
use Rattle.wait_model.specs.Fits.{is_proper, are_proper}
use Rattle.wait_model.specs.GuardedAnswers.{Ending, ended_by, write_lost}
use Rattle.wait_model.specs.State.{Waits, Ownership}
use Rattle.wait_model.specs.Writes.{first_by, without_first, has_ticket, job_of, without_call, asks, sends}
use Rattle.revoke_calls.specs.declared.entries.Fate.TheVariants.{Left}
use Rattle.revoke_core.specs.Losses.{lost_writes, lost_entries, lost_settled}
use Rattle.revoke_core.specs.Steps.{settled_if, failed_of, given_back_if}
use Rattle.etcd_types.proofs.Bools.{and_first, and_second, and_both}
use Rattle.revoke_core.proofs.Searches.{none_removed}
use Rattle.revoke_calls.proofs.SettledEntries.{given_back-fate}

-- the first that passes is proper
pub first_proper : (p : Write → Bool) (ws : List Write) (w : Write) → are_proper ws ≡ true → first_by p ws ≡ Some w → is_proper w ≡ true
first_proper p [] w h f = absurd (cc)
first_proper p (v ∷ vs) w h f = by_test (p v) f (λ g. first_proper p vs w (and_second (is_proper v) (are_proper vs) h) g)
  where
    by_test : (b : Bool) → cond b (Some v) (first_by p vs) ≡ Some w → (first_by p vs ≡ Some w → is_proper w ≡ true) → is_proper w ≡ true
    by_test true g i = subst (λ (x : Write). is_proper x ≡ true) (ap (or_head v) g) (and_first (is_proper v) (are_proper vs) h)
      where
        or_head : Write → Option Write → Write
        or_head d None = d
        or_head d (Some x) = x
    by_test false g i = i g

same_without : (p : Write → Bool) (own : Ownership) → first_by p own.waits.writes ≡ None → own ≡ ended_by own own.entries p
same_without p own e = ap (λ (ws : List Write). record own { waits = record own.waits { writes = ws } }) (sym (none_removed p own.waits.writes e))

pub write_lost-parts : (p : Write → Bool) (own : Ownership) (o : Option Write) → first_by p own.waits.writes ≡ o → ◌≡◌ {A = Ending} (write_lost p o own) (record { own = ended_by own (settled_if Left o own.entries) p; settled = failed_of o })
write_lost-parts p own None e = ap (λ (x : Ownership). record { own = x; settled = failed_of None }) (same_without p own e)
write_lost-parts p own (Some w) e = refl

job_parts : (call : ℕ) (own : Ownership) (j : Option WaitJob) → ◌≡◌ {A = Ending} (lost_job call j own) (record { own = record { entries = lost_entries call j own.waits.writes own.entries; waits = record own.waits { writes = lost_writes call j own.waits.writes } }; settled = lost_settled call j own.waits.writes })
job_parts call own None = refl
job_parts call own (Some (job.Rescind k create)) = refl
job_parts call own (Some (job.Revoke k)) = write_lost-parts (asks call) own (first_by (asks call) own.waits.writes) refl
job_parts call own (Some job.Write) = write_lost-parts (sends call) own (first_by (sends call) own.waits.writes) refl

pub lost-parts : (call : ℕ) (own : Ownership) → ◌≡◌ {A = Ending} (lost call own) (record {
  own = record { entries = lost_entries call (job_of call own.waits.out) own.waits.writes own.entries; waits = record own.waits { writes = lost_writes call (job_of call own.waits.out) own.waits.writes; out = without_call call own.waits.out } };
  settled = lost_settled call (job_of call own.waits.out) own.waits.writes;
})
unfolding lost
lost-parts call own = job_parts call (without_out call own) (job_of call own.waits.out)

pub forgotten-parts : (ticket : ℕ) (own : Ownership) → forgotten ticket own ≡ record { entries = given_back_if (first_by (has_ticket ticket) own.waits.writes) own.entries; waits = record own.waits { writes = without_first (has_ticket ticket) own.waits.writes } }
unfolding forgotten
forgotten-parts ticket own = parts (first_by (has_ticket ticket) own.waits.writes) refl
  where
    parts : (o : Option Write) → first_by (has_ticket ticket) own.waits.writes ≡ o → forgotten_by (has_ticket ticket) o own ≡ record { entries = given_back_if o own.entries; waits = record own.waits { writes = without_first (has_ticket ticket) own.waits.writes } }
    parts None e = same_without (has_ticket ticket) own e
    parts (Some w) e = ap (λ es. ended_by own es (has_ticket ticket)) (given_back-fate w own.entries)

-- and the list stays proper
pub proper-without : (p : Write → Bool) (ws : List Write) → are_proper ws ≡ true → are_proper (without_first p ws) ≡ true
proper-without p [] h = h
proper-without p (v ∷ vs) h = by_test (p v) (proper-without p vs (and_second (is_proper v) (are_proper vs) h))
  where
    by_test : (b : Bool) → are_proper (without_first p vs) ≡ true → are_proper (cond b vs (v ∷ without_first p vs)) ≡ true
    by_test true i = and_second (is_proper v) (are_proper vs) h
    by_test false i = and_both (is_proper v) (are_proper (without_first p vs)) (and_first (is_proper v) (are_proper vs) h) i

pub proper-lost : (call : ℕ) (j : Option WaitJob) (ws : List Write) → are_proper ws ≡ true → are_proper (lost_writes call j ws) ≡ true
proper-lost call None ws h = h
proper-lost call (Some (job.Rescind k create)) ws h = h
proper-lost call (Some (job.Revoke k)) ws h = proper-without (asks call) ws h
proper-lost call (Some job.Write) ws h = proper-without (sends call) ws h

-- the waits, with other writes and calls
pub waits_same : (w : Waits) (ws vs : List Write) (os ps : List WaitCall) → ws ≡ vs → os ≡ ps → ◌≡◌ {A = Waits} (record w { writes = ws; out = os }) (record w { writes = vs; out = ps })
waits_same w ws vs os ps e f = λ i. record w { writes = e i; out = f i }
