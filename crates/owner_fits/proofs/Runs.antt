-- A proxy at its start has the facts, each step keeps them, and so they hold after each step of a run; and what is read off them.
use Rattle.std.proofs.Common.{◌≡◌, ℕ, true, false, not, cond, ◌&&◌, List, [], ◌∷◌, Some, refl, sym, ◌∙◌, ap, subst}
use Rattle.etcd_types.proofs.Bools.{not_true}
use Rattle.wait_model.specs.declared.write.Write.{Write}
use Rattle.wait_model.specs.Covers.{covers, leased}
use Rattle.wait_model.specs.Fits.{stage_over}
use Rattle.wait_model.specs.Stages.{is_owner}
use Rattle.wait_model.specs.Writes.{first_by}
use Rattle.core_laws.proofs.Writes.FoundWrite.{head_found, rest_found}
use Rattle.core_laws.proofs.Writes.Kept.{first_passes}
use Rattle.core_model.specs.Fits.{CoreOk}
use Rattle.core_model.specs.State.{Core, first_core}
use Rattle.core_laws.specs.Steps.Kept.{Timed, after, ran, AllHeard}
use Rattle.core_laws.proofs.Steps.Start.{start_fits}
use Rattle.core_laws.proofs.Steps.Stepping.{steps_keep}
use Rattle.owner_fits.specs.Entries.{is_unleased}
use Rattle.owner_fits.specs.Laws.{OwnersFit, StartsFit, StepsFit, RunsFit, DueAcquiresStand, WritesAreUnleased, NamesIn, StartsNamed, StepsName, AllName, RunsName}
use Rattle.owner_fits.proofs.Dues.{StandsIf, first_stands}
use Rattle.owner_fits.proofs.Ending.{CoreFit}
use Rattle.owner_fits.proofs.Hearing.{first_has}
use Rattle.owner_fits.proofs.Steps.{step_fits}

-- Acquires and entries.

pub starts_fit : StartsFit
starts_fit settings = record {
  acquires = record { rising = refl; acquired = λ k a e. absurd (cc); under = λ k a e d. absurd (cc); awaits = λ call k e. absurd (cc) };
  entries = record { owned = λ k t. absurd (cc); unleased = λ k t. refl };
}

unnamed : (c : Core) → OwnersFit c → CoreFit false c
unnamed c h = record { acquires = h.acquires; entries = h.entries; names = λ b. absurd (cc) }

pub steps_fit : StepsFit
steps_fit c e now b o h = let x = step_fits false c e now b (λ t. absurd (cc)) o (unnamed c h) in record { acquires = x.acquires; entries = x.entries }

run_fits : (c : Core) (xs : List Timed) → CoreOk c → AllHeard c xs → OwnersFit c → OwnersFit (ran c xs)
run_fits c [] o b h = h
run_fits c (x ∷ xs) o b h = run_fits (after c x) xs (steps_keep c x.event x.now b.0 o) b.1 (steps_fit c x.event x.now b.0 o h)

pub runs_fit : RunsFit
runs_fit settings xs b = run_fits (first_core settings) xs (start_fits settings) b (starts_fit settings)

-- The first due job.

pub due_acquires_stand : DueAcquiresStand
due_acquires_stand c k a h e = subst (StandsIf c.acquires) e (first_stands c h.acquires.rising)

-- The first write over a key that is being written.

stage_of_first : (k : List ℕ) (w : Write) (ws : List Write) → first_by (λ v. covers v k) ws ≡ Some w → stage_over k ws ≡ w.stage
stage_of_first k w [] f = absurd (cc)
stage_of_first k w (v ∷ vs) f =
    elim (covers v k) as (λ b. covers v k ≡ b → cond b v.stage (stage_over k vs) ≡ w.stage) [
      | true ↦ λ e. ap (λ (x : Write). x.stage) (head_found (λ x. covers x k) v w vs e f)
      | false ↦ λ e. stage_of_first k w vs (rest_found (λ x. covers x k) v w vs e f)
    ] refl

pub writes_are_unleased : WritesAreUnleased
writes_are_unleased c k w o h t f =
    let u = first_has (λ v. covers v k) (is_unleased k) w c.own.waits.writes (h.entries.unleased k t) f in
    let owner = ap is_owner (sym (stage_of_first k w c.own.waits.writes f)) ∙ (o.reads.ground.keys k).ok.writer t in
    let over = first_passes (λ v. covers v k) c.own.waits.writes w f in
    not_true (leased w.request k) (sym (ap (λ b. not (b && (covers w k && leased w.request k))) owner ∙ ap (λ b. not (b && leased w.request k)) over) ∙ u)

-- Names.

pub starts_named : StartsNamed
starts_named settings = record { keys = λ k t. absurd (cc); found = refl }

pub steps_name : StepsName
steps_name c e now b n o h m = (step_fits true c e now b (λ t. n) o (record { acquires = h.acquires; entries = h.entries; names = λ t. m })).names refl

run_names : (c : Core) (xs : List Timed) → CoreOk c → AllHeard c xs → AllName c xs → OwnersFit c → NamesIn c → NamesIn (ran c xs)
run_names c [] o b n h m = m
run_names c (x ∷ xs) o b n h m =
    run_names (after c x) xs (steps_keep c x.event x.now b.0 o) b.1 n.1 (steps_fit c x.event x.now b.0 o h) (steps_name c x.event x.now b.0 n.0 o h m)

pub runs_name : RunsName
runs_name settings xs b n = run_names (first_core settings) xs (start_fits settings) b n (starts_fit settings) (starts_named settings)
