-- The first due job of entries and writes is sent.
use Rattle.std.proofs.Common.{◌≡◌, ℕ, Bool, true, ◌&&◌, List, Option, None, Some, refl, sym, ◌∙◌}
use Rattle.std.specs.Option.{option_map}
use Rattle.etcd_types.specs.Keys.{same}
use Rattle.proxy_model.specs.declared.lease.Entry.{Entry}
use Rattle.proxy_model.specs.Keyed.{at}
use Rattle.wait_model.specs.declared.due.DueCall.{DueCall}
use Rattle.wait_model.specs.declared.found.Asking.TheVariants as asking
use Rattle.wait_model.specs.declared.found.Found.{Found}
use Rattle.wait_model.specs.declared.write.Write.{Write}
use Rattle.wait_model.specs.declared.write.WriteStage.{WriteStage}
use Rattle.wait_model.specs.declared.write.WriteStage.TheVariants.{Waiting, Sends, Finds}
use Rattle.wait_model.specs.DueOrder.{first_call, first_rescind}
use Rattle.wait_model.specs.Phases.{rescind_sent}
use Rattle.wait_model.specs.Sent.{JobSent, is_asking_due, found_sent, stage_revoking, stage_sent, is_revoke, revoke_job, write_job, call_of, call_sent, job_sent_after, job_sent}
use Rattle.wait_model.specs.Stages.{is_owner}
use Rattle.wait_model.specs.State.{Ownership}
use Rattle.wait_model.specs.Writes.{first_by, has_ticket}
use Rattle.core_laws.proofs.Steps.Comes.{by_test}
use Rattle.core_laws.proofs.Steps.Lists.{all_mapped}
use Rattle.owner_fits.specs.Names.{found_named, stage_named}
use Rattle.owner_fits.proofs.Going.{EntryGoes, entries_stay, at_one, unsent_eases, Calmer, writes_stay, first_staged}
use Rattle.owner_fits.proofs.Owning.{OwnGoes}

revoking_calmer : (named : Bool) (call : ℕ) (k : List ℕ) (w : Write) (s : WriteStage) → is_owner s ≡ is_owner w.stage → stage_named s ≡ stage_named w.stage → Calmer named w (stage_revoking call k s)
revoking_calmer named call k w s o n = record { owner = λ t. owner s o t; found = λ b h. found s n h }
  where
    owner : (s : WriteStage) → is_owner s ≡ is_owner w.stage → is_owner (stage_revoking call k s) ≡ true → is_owner w.stage ≡ true
    owner Waiting o t = absurd (cc)
    owner (Sends b s) o t = sym o ∙ t
    owner (Finds found) o t = absurd (cc)

    same_names : (f : Found) → found_named (found_sent call k f) ≡ found_named f
    same_names f = by_test (λ (x : Found). found_named x ≡ found_named f) (same k f.key && is_asking_due f.revoke) (record f { revoke = asking.Out call }) f (λ t. refl) (λ t. refl)

    found : (s : WriteStage) → stage_named s ≡ stage_named w.stage → stage_named w.stage ≡ true → stage_named (stage_revoking call k s) ≡ true
    found Waiting n h = refl
    found (Sends b s) n h = refl
    found (Finds fs) n h = all_mapped found_named found_named (found_sent call k) (λ f t. same_names f ∙ t) fs (n ∙ h)

sent_calmer : (named : Bool) (call : ℕ) (w : Write) (s : WriteStage) → is_owner s ≡ is_owner w.stage → stage_named s ≡ stage_named w.stage → Calmer named w (stage_sent call s)
sent_calmer named call w s o n = record { owner = λ t. owner s o t; found = λ b h. found s n h }
  where
    owner : (s : WriteStage) → is_owner s ≡ is_owner w.stage → is_owner (stage_sent call s) ≡ true → is_owner w.stage ≡ true
    owner Waiting o t = absurd (cc)
    owner (Sends b s) o t = sym o ∙ t
    owner (Finds found) o t = absurd (cc)

    found : (s : WriteStage) → stage_named s ≡ stage_named w.stage → stage_named w.stage ≡ true → stage_named (stage_sent call s) ≡ true
    found Waiting n h = refl
    found (Sends b s) n h = refl
    found (Finds fs) n h = n ∙ h

abbrev pub SentGoes : Bool → Ownership → Option JobSent → Type 0
SentGoes named own None = Unit {0}
SentGoes named own (Some x) = OwnGoes named own x.own

write_goes : (named : Bool) (call : ℕ) (d : DueCall) (o : Option Write) (own : Ownership) → first_by (has_ticket d.place.number) own.waits.writes ≡ o → SentGoes named own (call_of call d o own)
write_goes named call d None own f = tt
write_goes named call d (Some w) own f =
    by_test (λ (x : JobSent). OwnGoes named own x.own) (is_revoke d.place.kind) (revoke_job call d w own) (write_job call d w own)
    (λ t. record { prefix = refl; entries = entries_stay named own.entries; writes = first_staged named (has_ticket d.place.number) w (stage_revoking call d.key w.stage) own.waits.writes f (revoking_calmer named call d.key w w.stage refl refl) })
    (λ t. record { prefix = refl; entries = entries_stay named own.entries; writes = first_staged named (has_ticket d.place.number) w (stage_sent call w.stage) own.waits.writes f (sent_calmer named call w w.stage refl refl) })

pub sent_goes : (named : Bool) (call : ℕ) (own : Ownership) → SentGoes named own (job_sent call own)
unfolding job_sent
sent_goes named call own = by_rescind (first_rescind own.entries)
  where
    by_entry : (k : List ℕ) (o : Option Entry) → EntryGoes named k o (option_map (rescind_sent true) o)
    by_entry k None q l h = h
    by_entry k (Some e) q l h = l.eased k e (rescind_sent true e) (unsent_eases true e) h

    by_call : (o : Option DueCall) → SentGoes named own (call_sent call o own)
    by_call None = tt
    by_call (Some d) = write_goes named call d (first_by (has_ticket d.place.number) own.waits.writes) own refl

    by_rescind : (o : Option (List ℕ × Entry)) → SentGoes named own (job_sent_after call o own)
    by_rescind None = by_call (first_call own.waits.writes)
    by_rescind (Some e) = record { prefix = refl; entries = at_one named own.entries e.0 _ (by_entry e.0 (at own.entries e.0)); writes = writes_stay named own.waits.writes }
