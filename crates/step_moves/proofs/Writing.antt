-- A write's own call is sent: it compares the create revisions of the entries that it writes, and 0 of every other key.
use Rattle.std.proofs.Common.{◌≡◌, ◌≢◌, ℕ, ◌+◌, ◌==◌, Bool, true, false, not, ◌&&◌, ◌||◌, cond, inl, inr, List, [], ◌∷◌, None, Some, refl, sym, ◌∙◌, ap}
use Rattle.std.specs.List.{list_any, list_all}
use Rattle.etcd_types.specs.declared.key_range.KeyRange.{KeyRange}
use Rattle.etcd_types.specs.declared.operation.Op.{Op}
use Rattle.etcd_types.specs.declared.operation.Op.TheVariants as op
use Rattle.etcd_types.specs.declared.request.Request.{Request}
use Rattle.etcd_types.specs.declared.request.Request.TheVariants as request
use Rattle.etcd_types.specs.Keys.{same}
use Rattle.etcd_types.specs.Ranges.{is_one, contains}
use Rattle.etcd_types.proofs.Bools.{and_first, and_second, and_both, or_first, or_second, or_right, or_false, not_true}
use Rattle.proxy_model.specs.Guarded.{IsWrite}
use Rattle.proxy_model.specs.Keyed.{at}
use Rattle.proxy_model.specs.LeaseTable.{is_held, is_writing}
use Rattle.proxy_model.specs.SeveralKeys.{written_ranges}
use Rattle.wait_model.specs.declared.due.DueCall.{DueCall}
use Rattle.wait_model.specs.declared.sending.Sending.TheVariants as sending
use Rattle.wait_model.specs.declared.write.Write.{Write}
use Rattle.wait_model.specs.declared.write.WriteStage.{WriteStage}
use Rattle.wait_model.specs.declared.write.WriteStage.TheVariants.{Waiting, Sends, Finds}
use Rattle.wait_model.specs.Covers.{covers, is_by_keys, op_leases, leased}
use Rattle.wait_model.specs.Fits.{is_write, is_proper}
use Rattle.wait_model.specs.GuardedAnswers.{owns, owns_at}
use Rattle.wait_model.specs.Sent.{create_or_zero, compared, stage_sent, write_job}
use Rattle.wait_model.specs.Stages.{is_due, is_owner}
use Rattle.wait_model.specs.Writes.{first_by, has_ticket}
use Rattle.core_model.specs.declared.out_call.OutJob.TheVariants as job
use Rattle.core_model.specs.Refusals.{refusal_of}
use Rattle.core_model.specs.Sending.{next_call, writes_sent}
use Rattle.core_model.specs.State.{Core}
use Rattle.cache_laws.specs.Moves.View as view
use Rattle.cache_laws.specs.Moves.View.{View, no_call}
use Rattle.cache_laws.specs.Moves.Invariant.{Inv}
use Rattle.cache_laws.specs.Guards.Covers as guards
use Rattle.cache_laws.specs.Guards.Covers.{AreGuards}
use Rattle.row_laws.specs.Laws.{IsWriteCall}
use Rattle.row_laws.proofs.SendRows.{write_sends}
use Rattle.cache_laws.specs.Store.CallSteps.{op_unleased, is_unleased}
use Rattle.cache_laws.specs.Store.StoreView.{is_client}
use Rattle.call_laws.specs.Forms.{Writes, MayWrite}
use Rattle.call_laws.proofs.Serving.{served_writes_may_be_sent}
use Rattle.core_fits.proofs.Found.{each_write}
use Rattle.owner_fits.specs.Entries as owners
use Rattle.core_moves.specs.Sees.{ground_in, Sees}
use Rattle.step_moves.specs.Work.{MaySend, Worked}
use Rattle.step_moves.proofs.Acquires.{owned_client}
use Rattle.step_moves.proofs.Calls.{no_acquire, mine, behind, sent_moves, goes}
use Rattle.step_moves.proofs.Rescinds.{next_unsent}
use Rattle.step_moves.proofs.Staging.{first_has, first_ranges, sent_is}

writes_is : (q : Request) → is_write q ≡ true → IsWrite q
writes_is (request.Put ask) h = tt
writes_is (request.Delete ask) h = tt
writes_is (request.Txn t) h = tt
writes_is (request.Range ask) h = absurd (cc)
writes_is (request.Compact revision physical) h = absurd (cc)
writes_is (request.Grant ttl lease) h = absurd (cc)
writes_is (request.Revoke lease) h = absurd (cc)
writes_is (request.KeepAlive lease) h = absurd (cc)
writes_is (request.TimeToLive lease keys) h = absurd (cc)
writes_is request.Leases h = absurd (cc)
writes_is (request.Watch ask) h = absurd (cc)

-- A put without a lease.

turned : (a b : Bool) → not a && b ≡ false → not b || a ≡ true
turned true true h = refl
turned true false h = refl
turned false true h = absurd (cc)
turned false false h = refl

unleased_op : (k : List ℕ) (o : Op) → op_leases k o ≡ false → op_unleased k o ≡ true
unleased_op k (op.Range ask) h = refl
unleased_op k (op.Put ask) h = turned (ask.lease == 0) (same ask.key k) h
unleased_op k (op.Delete ask) h = refl
unleased_op k (op.Txn' compare m success n failure) h = refl

unleased_all : (k : List ℕ) (os : List Op) → list_any (op_leases k) os ≡ false → list_all (op_unleased k) os ≡ true
unleased_all k [] h = refl
unleased_all k (o ∷ os) h = and_both (op_unleased k o) (list_all (op_unleased k) os) (unleased_op k o (or_first (op_leases k o) (list_any (op_leases k) os) h)) (unleased_all k os (or_second (op_leases k o) (list_any (op_leases k) os) h))

unleased_write : (k : List ℕ) (q : Request) → leased q k ≡ false → is_unleased k q ≡ true
unleased_write k (request.Put ask) h = unleased_op k (op.Put ask) h
unleased_write k (request.Txn t) h =
    and_both (list_all (op_unleased k) t.success) (list_all (op_unleased k) t.failure) (unleased_all k t.success (or_first (list_any (op_leases k) t.success) (list_any (op_leases k) t.failure) h)) (unleased_all k t.failure (or_second (list_any (op_leases k) t.success) (list_any (op_leases k) t.failure) h))
unleased_write k (request.Delete ask) h = refl
unleased_write k (request.Range ask) h = refl
unleased_write k (request.Compact revision physical) h = refl
unleased_write k (request.Grant ttl lease) h = refl
unleased_write k (request.Revoke lease) h = refl
unleased_write k (request.KeepAlive lease) h = refl
unleased_write k (request.TimeToLive lease keys) h = refl
unleased_write k request.Leases h = refl
unleased_write k (request.Watch ask) h = refl

owned_unleased : (owner covered leases : Bool) → owner ≡ true → covered ≡ true → not (owner && (covered && leases)) ≡ true → leases ≡ false
owned_unleased true true leases o d h = not_true leases h
owned_unleased true false leases o d h = absurd (cc)
owned_unleased false covered leases o d h = absurd (cc)

module _ (holder : ℕ → ℕ) (v : View) (p now : ℕ) (own : ℕ → ℕ) (c : Core) (s : Sees v p now own c) (h : Inv holder v) (r : MaySend c) (number : own (next_call c) ≡ v.sent + 1) where
  module _ (find : Write → Bool) (w : Write) (f : first_by find c.own.waits.writes ≡ Some w) where
    proper : is_proper w ≡ true
    proper = first_has is_proper find w c.own.waits.writes f r.ok.agrees.writes.proper

    ranges : w.ranges ≡ written_ranges w.request
    ranges = first_ranges find w c.own.waits.writes f r.ok.agrees.writes.ranges

    abbrev created : List ℕ → ℕ
    created = compared w c.own.entries

    are_guards : (b : Bool) → is_owner w.stage ≡ b → AreGuards w.request created
    are_guards true e = inl (ap (list_all is_one) (sym ranges) ∙ (sym (or_false (is_by_keys w)) ∙ sym (ap (λ (b : Bool). is_by_keys w || not b) e) ∙ and_second (is_write w.request) (is_by_keys w || not (is_owner w.stage)) proper))
    are_guards false e = inr (λ k. ap (λ (b : Bool). cond ((b && covers w k) && is_writing (at c.own.entries k)) (create_or_zero (at c.own.entries k)) 0) e)

    unleased : (k : List ℕ) → created k ≢ 0 → is_unleased k w.request ≡ true
    unleased k n = by (owns_at w c.own.entries k) refl n
      where
        by : (b : Bool) → owns_at w c.own.entries k ≡ b → cond b (create_or_zero (at c.own.entries k)) 0 ≢ 0 → is_unleased k w.request ≡ true
        by true e m =
            let o = and_first (owns w k) (is_writing (at c.own.entries k)) e in
            let l = first_has (owners.is_unleased k) find w c.own.waits.writes f (r.owners.entries.unleased k (and_second (owns w k) (is_writing (at c.own.entries k)) e)) in
            unleased_write k w.request (owned_unleased (is_owner w.stage) (covers w k) (leased w.request k) (and_first (is_owner w.stage) (covers w k) o) (and_second (is_owner w.stage) (covers w k) o) l)
        by false e m = absurd (m refl)

    may_write : MayWrite c.own.waits.prefix w.request created
    may_write =
        served_writes_may_be_sent c.own.waits.prefix w.request created r.leases (writes_is w.request (and_first (is_write w.request) (is_by_keys w || not (is_owner w.stage)) proper)) (each_write (λ (y : Write). refusal_of c.own.waits.prefix y.request ≡ None) find c.own.waits.writes w r.fits.served.writes f)
        (are_guards (is_owner w.stage) refl) unleased

    clients : (k : List ℕ) → is_writing (at c.own.entries k) ≡ true → is_client c.own.waits.prefix k ≡ true
    clients k t = owned_client c.own.waits.prefix k (r.owners.entries.owned k (or_right (is_held (at c.own.entries k)) (is_writing (at c.own.entries k)) t))

    abbrev x : view.Call
    x = record no_call { kind = view.Writes; covers = λ k. is_client c.own.waits.prefix k && guards.covers w.request k; guards = created }

    is_call : IsWriteCall (is_client c.own.waits.prefix) w c.own.entries (mine holder v p now own c s h x)
    is_call = record { kind = refl; covers = λ k. ap (λ (rs : List KeyRange). is_client c.own.waits.prefix k && list_any (λ q. contains q k) rs) (sym ranges); guards = λ k. refl }

  pub write_moves : (d : DueCall) (w : Write) → first_by (has_ticket d.place.number) c.own.waits.writes ≡ Some w → is_due w.stage ≡ true → Worked holder v p now own c (writes_sent now (Some (write_job (next_call c) d w c.own)) c)
  write_moves d w f due = by w.stage refl due
    where
      find : Write → Bool
      find = has_ticket d.place.number

      e : Core
      e = record c { own = (write_job (next_call c) d w c.own).own }

      by : (t : WriteStage) → w.stage ≡ t → is_due t ≡ true → Worked holder v p now own c (writes_sent now (Some (write_job (next_call c) d w c.own)) c)
      by Waiting i t = absurd (cc)
      by (Finds found) i t = absurd (cc)
      by (Sends owner (sending.Out call)) i t = absurd (cc)
      by (Sends owner (sending.Due since)) i t =
          goes holder v p now own c s h job.Wait w.ticket _ e (Writes w.request (created find w f)) (x find w f) refl (may_write find w f, record { kind = refl; covers = λ k. refl; guards = λ k. refl })
          (λ y g. (created find w f, ap (λ (q : Request). Writes q (created find w f)) (sym (sent_is (next_call c) find w (stage_sent (next_call c) w.stage) c.own.waits.writes f (next_unsent c r) y g))))
          (sent_moves holder v p now own c s h (x find w f) (behind holder v p now own c s h job.Wait e) (no_acquire v p (x find w f) (λ j. absurd (cc))) refl
          (write_sends v own (is_client c.own.waits.prefix) (mine holder v p now own c s h (x find w f)) find w owner since (next_call c) (ground_in c) r.ok.reads.ground.keys (clients find w f) f i (is_call find w f) number))
