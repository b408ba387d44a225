-- A proxy's work while the owner's own write of a key is due: its call goes out, and other calls of writes and entries leave it.
use Rattle.std.proofs.Common.{◌≡◌, ℕ, ◌==◌, Bool, false, true, List, ◌∷◌, Option, None, Some, refl, sym, ◌∙◌, ap, subst}
use Rattle.etcd_types.specs.Keys.{same}
use Rattle.etcd_types.proofs.KeyOrder.{same-equal}
use Rattle.proxy_model.specs.declared.lease.Entry.{Entry}
use Rattle.proxy_model.specs.Keyed.{at, is_in_order}
use Rattle.wait_model.specs.DueOrder.{first_rescind}
use Rattle.wait_model.specs.Phases.{is_rescind_due, is_rescind_due_phase}
use Rattle.wait_model.specs.Sent.{JobSent, job_sent}
use Rattle.core_model.specs.DueJobs.{DueJob, ForWrites, first_job}
use Rattle.core_model.specs.Fits.{once, write_tickets}
use Rattle.core_model.specs.Sending.{next_call, sent_by, writes_sent, on_work}
use Rattle.core_model.specs.State.{Core}
use Rattle.core_fits.specs.Fits.{EachOf}
use Rattle.step_moves.proofs.DueCalls.{rescind_stands}
use Rattle.owned_laws.proofs.Cores.{CoreSo}
use Rattle.owned_laws.specs.OwnWrites.{OwnWrite}
use Rattle.owned_laws.proofs.Modes.{AllAlone, behind_as, phase_as}
use Rattle.owned_laws.proofs.Own.{OwnSo}
use Rattle.owned_laws.proofs.OwnSends.{own_goes_out}
use Rattle.owned_laws.proofs.Steps.{sent_each}
use Rattle.owned_laws.proofs.Ways.{CallSo, NotOf, writes_own}

no_true : {A : Type 0} → false ≡ true → A
no_true e = absurd (cc)

not_due : (own : Option ℕ) (c : Bool) → is_rescind_due_phase (phase_as own c) ≡ false
not_due None false = refl
not_due None true = refl
not_due (Some call) c = refl

module _ (k : List ℕ) (n : ℕ) (v : OwnWrite) (vs : List OwnWrite) (own : Option ℕ) (alone : AllAlone k (behind_as (v ∷ vs))) (e : Entry) (d : Core) (order : is_in_order d.own.entries ≡ true) where
  abbrev Mid : Type 0
  Mid = OwnSo (writes_own k n v vs own alone e) d.own

  same_entry : (x y : Entry) → Some x ≡ Some y → x ≡ y
  same_entry x y f = cc

  -- its entry isn't due to be given up
  no_rescind : Mid → (x : List ℕ × Entry) → first_rescind d.own.entries ≡ Some x → same x.0 k ≡ true → (e.create == x.1.create) ≡ false
  no_rescind t x f s =
      let r = rescind_stands d.own.entries x order f in
      let one : x.1 ≡ record e { phase = phase_as own t.case } = same_entry x.1 (record e { phase = phase_as own t.case }) (sym r.0 ∙ ap (at d.own.entries) (same-equal x.0 k s) ∙ t.entry refl) in
      no_true (sym (ap is_rescind_due one ∙ not_due own t.case) ∙ r.1)

  pub outs_stay : Mid → (s : JobSent) → job_sent (next_call d) d.own ≡ Some s → EachOf (CallSo (NotOf k e.create)) s.own.waits.out
  outs_stay t s j = sent_each (NotOf k e.create) (next_call d) d.own (no_rescind t) t.outs s j

module _ (k : List ℕ) (v : OwnWrite) (vs : List OwnWrite) (n : ℕ) (alone : AllAlone k (behind_as (v ∷ vs))) (e : Entry) (d : Core) (order : is_in_order d.own.entries ≡ true) (tickets : once (write_tickets d.own.waits.writes) ≡ true) (client : (0 == v.ticket) ≡ false) where
  -- its own call goes out
  pub own_sent : (now : ℕ) (s : JobSent) → first_job d ≡ Some ForWrites → job_sent (next_call d) d.own ≡ Some s → s.due.ticket ≡ v.ticket → CoreSo (writes_own k n v vs None alone e) d
      → CoreSo (writes_own k n v vs (Some (next_call d)) alone e) (on_work now d).core
  unfolding on_work
  own_sent now s f j names so =
      subst (λ (i : Option DueJob). CoreSo (writes_own k n v vs (Some (next_call d)) alone e) (sent_by now i d).core) (sym f)
      (subst (λ (o : Option JobSent). CoreSo (writes_own k n v vs (Some (next_call d)) alone e) (writes_sent now o d).core) (sym j)
      (λ y i. let r = so y tt in (own_goes_out k v vs n alone e (next_call d) d.own tickets s names client r.0 j (outs_stay k n v vs None alone e d order r.0 s j), r.1)))
