-- A call that is out stays for what it is out for: its acquire stands at its key, and its write sends the same request.
use Rattle.std.proofs.Common.{◌≡◌, ◌≢◌, ℕ, true, false, List, Some, refl, sym, ◌∙◌, ap}
use Rattle.std.specs.List.{Contains}
use Rattle.proxy_model.specs.Keyed.{at}
use Rattle.wait_model.specs.declared.sending.Sending.TheVariants as sending
use Rattle.wait_model.specs.declared.write.Write.{Write}
use Rattle.wait_model.specs.declared.write.WriteStage.{WriteStage}
use Rattle.wait_model.specs.declared.write.WriteStage.TheVariants.{Waiting, Sends, Finds}
use Rattle.wait_model.specs.Writes.{first_by, stage_sends, sends}
use Rattle.core_laws.proofs.Writes.Kept.{first_passes}
use Rattle.read_model.specs.declared.acquire.Acquire.{Acquire}
use Rattle.core_model.specs.declared.event.CoreEvent.{CoreEvent}
use Rattle.core_model.specs.declared.out_call.OutCall.{OutCall}
use Rattle.core_model.specs.declared.out_call.OutJob.{OutJob}
use Rattle.core_model.specs.declared.out_call.OutJob.TheVariants as job
use Rattle.core_model.specs.declared.settings.Settings.{Settings}
use Rattle.core_model.specs.Fits.{job_at, CoreOk}
use Rattle.core_model.specs.Sending.{next_call}
use Rattle.core_model.specs.State.{Core}
use Rattle.core_model.specs.Step.{stepped}
use Rattle.core_laws.proofs.Steps.Lists.{same_number}
use Rattle.core_laws.proofs.Steps.Staying.{steps_stay}
use Rattle.core_laws.proofs.Steps.Stepping.{steps_keep}
use Rattle.core_fits.specs.Fits.{EachOf}
use Rattle.core_fits.proofs.Eachs.{each_kept}
use Rattle.call_laws.specs.Forms.{Form, Writes, Grants}
use Rattle.core_moves.specs.Answers.{form_of_job}
use Rattle.owner_fits.specs.Acquires.{IsOutAs}
use Rattle.owner_fits.proofs.Runs.{steps_fit}
use Rattle.out_laws.specs.Laws.{OutStays}
use Rattle.out_laws.proofs.Acquires.{stepped_since}
use Rattle.out_laws.proofs.Calls.{CoreHas}
use Rattle.out_laws.proofs.Lists.{IsFirst, each_of, of_each, each_all, jobs_found, found_has, firsts}
use Rattle.out_laws.proofs.Steps.{OutAs, stepped_has}
use Rattle.out_laws.proofs.Writes.{is_sent, Lasts}

-- Writes.

-- the same request was sent under this number before
record SentBefore (c : Core) (n : ℕ) (w : Write) : Type 0 where
  write : Write
  found : first_by (sends n) c.own.waits.writes ≡ Some write
  same : write.request ≡ w.request

abbrev SendsSince : Core → Write → Type 0
SendsSince c w = (n : ℕ) → sends n w ≡ true → n ≢ next_call c → SentBefore c n w

unsent_none : (n : ℕ) (s : WriteStage) → is_sent s ≡ false → stage_sends n s ≡ true → ⊥
unsent_none n Waiting q t = absurd (cc)
unsent_none n (Sends owner (sending.Due since)) q t = absurd (cc)
unsent_none n (Sends owner (sending.Out call)) q t = absurd (cc)
unsent_none n (Finds found) q t = absurd (cc)

sends_last : (c : Core) → Lasts (SendsSince c)
sends_last c w s q n t d = absurd (unsent_none n s q t)

abbrev OutSince : Core → OutCall → Type 0
OutSince c o = o.call ≢ next_call c → Contains c.out o

new_out : (c : Core) → OutAs (SendsSince c) (OutSince c) (sends_last c) (next_call c)
new_out c = record {
  writes = λ w owner n t d. absurd (d (sym (same_number (next_call c) n t)));
  out = λ o e d. absurd (d e);
}

sent_before : (c : Core) → CoreOk c → EachOf (SendsSince c) c.own.waits.writes
sent_before c k =
    each_kept (λ w. (n : ℕ) → IsFirst (sends n) c.own.waits.writes w) (SendsSince c) (λ w f n t d. record { write = w; found = f n t; same = refl }) c.own.waits.writes
    (each_all (λ n. IsFirst (sends n) c.own.waits.writes) c.own.waits.writes (λ n. firsts (sends n) c.own.waits.writes (k.agrees.writes.sends_once n)))

since_before : (c : Core) (e : CoreEvent) (now : ℕ) → CoreOk c → CoreHas (SendsSince c) (OutSince c) (sends_last c) (stepped c e now).core
since_before c e now k = stepped_has (SendsSince c) (OutSince c) (sends_last c) e now c (new_out c) (sent_before c k, each_of (OutSince c) c.out (λ o i d. i))

-- What it is out for.

acquire_same : (x y : Acquire) → Some x ≡ Some y → x ≡ y
acquire_same x y e = cc

acquire_suits : (c d : Core) (n : ℕ) (k : List ℕ) (form : Form) (x : Acquire) → at d.acquires k ≡ Some x → at c.acquires k ≡ Some x → form_of_job c n form (job.Acquire k) → form_of_job d n form (job.Acquire k)
acquire_suits c d n k form x e f h a i = h a (f ∙ sym e ∙ i)

wait_suits : (c d : Core) (n : ℕ) (form : Form) → n ≢ next_call c → EachOf (SendsSince c) d.own.waits.writes → form_of_job c n form job.Wait → form_of_job d n form job.Wait
wait_suits c d n form i h t w f = (formed.0, formed.1 ∙ ap (λ q. Writes q formed.0) before.same)
  where
    before : SentBefore c n w
    before = found_has (SendsSince c) (sends n) w d.own.waits.writes h f n (first_passes (sends n) d.own.waits.writes w f) i

    formed : (created : List ℕ → ℕ) × (form ≡ Writes before.write.request created)
    formed = t before.write before.found

pub out_stays : OutStays
out_stays c e now o form b k f i n = (of_each (OutSince c) d.out o kept.1 i n, suits o.job refl)
  where
    d : Core
    d = (stepped c e now).core

    kept : CoreHas (SendsSince c) (OutSince c) (sends_last c) (stepped c e now).core
    kept = since_before c e now k

    found : job_at o.call (stepped c e now).core.out ≡ Some o.job
    found = of_each (λ (x : OutCall). job_at x.call (stepped c e now).core.out ≡ Some x.job) (stepped c e now).core.out o (jobs_found (stepped c e now).core.out (steps_keep c e now b k).agrees.numbers.once) i

    suits : (j : OutJob) → o.job ≡ j → form_of_job c o.call form j → form_of_job (stepped c e now).core o.call form j
    suits (job.Grant number) u t = t ∙ ap (λ (s : Settings). Grants s.ttl number) (sym (steps_stay c e now).settings)
    suits (job.Keep number) u t = t
    suits (job.Acquire j) u t =
        let x : IsOutAs o.call (at (stepped c e now).core.acquires j) = (steps_fit c e now b k f).acquires.awaits o.call j (found ∙ ap (λ (y : OutJob). Some y) u) in
        acquire_suits c (stepped c e now).core o.call j form x.acquire x.stands (stepped_since c e now j o.call x.acquire x.stands x.out n) t
    suits job.Wait u t = wait_suits c (stepped c e now).core o.call form n kept.0 t
    suits (job.Ask kind) u t = tt
    suits (job.Group lease) u t = tt
