-- A rescind or a revoke call is sent.
use Rattle.std.proofs.Common.{◌≡◌, ◌≢◌, ℕ, nat_lt, true, false, not, List, Some, is_some, refl, sym, ◌∙◌, ap}
use Rattle.std.specs.List.{list_any}
use Rattle.etcd_types.specs.Keys.{is_empty, same}
use Rattle.etcd_types.proofs.Bools.{and_first, and_second, not_true}
use Rattle.proxy_model.specs.declared.lease.Entry.{Entry}
use Rattle.proxy_model.specs.Keyed.{at}
use Rattle.wait_model.specs.declared.due.DueCall.{DueCall}
use Rattle.wait_model.specs.declared.write.Write.{Write}
use Rattle.wait_model.specs.Fits.{stage_over}
use Rattle.wait_model.specs.Sent.{stage_revoking, rescind_job, revoke_job}
use Rattle.wait_model.specs.Writes.{first_by, with_first, has_ticket, sends}
use Rattle.core_model.specs.declared.out_call.OutJob.TheVariants as job
use Rattle.core_model.specs.Fits.{passes, is_write_job}
use Rattle.core_model.specs.Sending.{next_call, writes_sent}
use Rattle.core_model.specs.State.{Core}
use Rattle.core_laws.proofs.Steps.Calls.{is_new_wait}
use Rattle.core_laws.proofs.Steps.WaitEnds.{nobody_sends}
use Rattle.cache_laws.specs.Moves.View as view
use Rattle.cache_laws.specs.Moves.View.{Slot, View, no_call}
use Rattle.cache_laws.specs.Moves.Invariant.{Inv}
use Rattle.row_laws.specs.Rows.{row_of}
use Rattle.row_laws.proofs.JobRows.{rescind_sends}
use Rattle.call_laws.specs.Forms.{Rescinds, Revokes}
use Rattle.owner_fits.specs.Names.{is_named}
use Rattle.core_moves.specs.Sees.{ground_in, Sees}
use Rattle.step_moves.specs.Work.{MaySend, Worked}
use Rattle.step_moves.proofs.Calls.{no_acquire, mine, behind, sent_moves, goes, goes_unseen}
use Rattle.step_moves.proofs.DueCalls.{IsRescind}
use Rattle.step_moves.proofs.Staging.{same_written, over_revoking, sends_none, revoking_none}

-- no write sends the next call yet
pub next_unsent : (c : Core) → MaySend c → list_any (sends (next_call c)) c.own.waits.writes ≡ false
next_unsent c r = nobody_sends c.own.waits.out (next_call c) c.own.waits.writes (ap (passes is_write_job) (is_new_wait c.calls c.out c.own.waits.out r.ok.agrees.numbers)) r.ok.agrees.writes.out

module _ (holder : ℕ → ℕ) (v : View) (p now : ℕ) (own : ℕ → ℕ) (c : Core) (s : Sees v p now own c) (h : Inv holder v) (r : MaySend c) where
  pub rescind_moves : (e : List ℕ × Entry) → IsRescind c.own.entries e → Worked holder v p now own c (writes_sent now (Some (rescind_job (next_call c) e c.own)) c)
  rescind_moves e is =
      goes holder v p now own c s h job.Wait 0 _ d (Rescinds e.0 e.1.create) x refl (r.names.keys e.0 (ap is_some is.0), record { kind = refl; covers = λ j. refl; guards = λ j. refl })
      (λ w f. absurd (sends_none (next_call c) c.own.waits.writes (next_unsent c r) w f))
      (sent_moves holder v p now own c s h x (behind holder v p now own c s h job.Wait d) (no_acquire v p x (λ i. absurd (cc))) refl
      (rescind_sends v own (mine holder v p now own c s h x) e.0 e.1 (ground_in c) is.0 is.1 (record { kind = refl; covers = λ j. refl; guards = λ j. refl })))
    where
      x : view.Call
      x = record no_call { kind = view.Rescinds; covers = λ j. same e.0 j; guards = λ j. e.1.create }

      d : Core
      d = record c { own = (rescind_job (next_call c) e c.own).own }

  pub revoke_moves : (d : DueCall) (w : Write) → first_by (has_ticket d.place.number) c.own.waits.writes ≡ Some w → is_named d.key d.create ≡ true → Worked holder v p now own c (writes_sent now (Some (revoke_job (next_call c) d w c.own)) c)
  revoke_moves d w f named =
      goes_unseen holder v p now own c s h job.Wait w.ticket _ e (Revokes d.key d.create) no_call refl (not_true (is_empty d.key) (and_second (nat_lt 0 d.create) (not (is_empty d.key)) named), some, record { kind = λ i. absurd (cc); uncovered = λ k. refl })
      (λ y g. absurd (sends_none (next_call c) (with_first (has_ticket d.place.number) (stage_revoking (next_call c) d.key w.stage) c.own.waits.writes) (revoking_none (next_call c) (next_call c) d.key (has_ticket d.place.number) w c.own.waits.writes f (next_unsent c r)) y g))
      (λ i. absurd (cc)) (λ k. refl) refl rows
    where
      e : Core
      e = record c { own = (revoke_job (next_call c) d w c.own).own }

      some : d.create ≢ 0
      some z = absurd (let x : nat_lt 0 0 ≡ true = ap (nat_lt 0) (sym z) ∙ and_first (nat_lt 0 d.create) (not (is_empty d.key)) named in cc)

      rows : (k : List ℕ) → row_of own (ground_in e) k ≡ row_of own (ground_in c) k
      rows k =
          ap slot_at (same_written own (stage_over k (with_first (has_ticket d.place.number) (stage_revoking (next_call c) d.key w.stage) c.own.waits.writes)) (stage_over k c.own.waits.writes) (over_revoking own (next_call c) d.key (has_ticket d.place.number) w k c.own.waits.writes f) (at c.own.entries k))
        where
          slot_at : ℕ → Slot
          slot_at n = record (row_of own (ground_in c) k) { write = n }
