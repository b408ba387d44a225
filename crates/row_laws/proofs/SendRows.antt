-- A write's call is sent.
use Rattle.std.proofs.Common.{◌≡◌, ◌+◌, ℕ, Bool, true, false, cond, ◌&&◌, List, Option, None, Some, refl, sym, ◌∙◌, ap, subst}
use Rattle.etcd_types.proofs.Bools.{and_second, and_both}
use Rattle.proxy_model.specs.declared.lease.Entry.{Entry}
use Rattle.proxy_model.specs.declared.lease.Phase.{Phase}
use Rattle.proxy_model.specs.declared.lease.Phase.TheVariants.{Held, Writing, Leaving}
use Rattle.proxy_model.specs.Keyed.{Keyed, at}
use Rattle.proxy_model.specs.LeaseTable.{is_writing, is_writing_phase}
use Rattle.wait_model.specs.declared.sending.Sending.TheVariants as sending
use Rattle.wait_model.specs.declared.write.Write.{Write}
use Rattle.wait_model.specs.declared.write.WriteStage.{WriteStage}
use Rattle.wait_model.specs.declared.write.WriteStage.TheVariants.{Sends}
use Rattle.wait_model.specs.Covers.{covers}
use Rattle.wait_model.specs.Fits.{stage_over}
use Rattle.wait_model.specs.GuardedAnswers.{owns, owns_at}
use Rattle.wait_model.specs.Sent.{create_or_zero, restaged, stage_sent}
use Rattle.wait_model.specs.Stages.{is_waiting, is_owner}
use Rattle.wait_model.specs.Writes.{with_first}
use Rattle.core_laws.proofs.Writes.Passes.{cond_true, cond_false}
use Rattle.read_model.specs.declared.acquire.Acquire.{Acquire}
use Rattle.cache_laws.specs.Moves.View as view
use Rattle.cache_laws.specs.Moves.View.{Absent, Writes, Slot, Call, View}
use Rattle.cache_laws.specs.Moves.Sends.{stays, writes}
use Rattle.row_laws.specs.Rows.{write_number, phase_in, written_in, acquired_by, spoiled_by, slot_of, row_of}
use Rattle.row_laws.specs.Laws.{IsWriteCall, SendsAt, with_own, WriteSends}
use Rattle.row_laws.proofs.Stages.{found_stage, away_stage, over_restaged}

-- a key that the call compares no create revision of
pub uncompared : (v : View) (c : Call) (k : List ℕ) (x y : Slot) → y ≡ x → (c.covers k ≡ true → c.guards k ≡ 0) → SendsAt v c k x y
uncompared v c k x y is z =
    record {
      compares = λ o n. absurd (n (z o));
      entry = λ o n. absurd (n (z o));
      becomes = stays is (λ o n. absurd (n (z o)));
    }

abbrev slot_in : (ℕ → ℕ) → Entry → Option Acquire → Option Bool → Phase → WriteStage → Slot
slot_in own e a s phase t = record { phase = phase_in phase; create = e.create; kv = e.kv; acquire = acquired_by own a; spoiled = spoiled_by s a; write = written_in own t phase }

-- the entry that it writes
written_send : (v : View) (own : ℕ → ℕ) (client : List ℕ → Bool) (c : Call) (w : Write) (es : Keyed Entry) (k : List ℕ) (e : Entry) (a : Option Acquire) (s : Option Bool) (stage next : WriteStage) (phase : Phase) → is_writing_phase phase ≡ true
    → write_number own stage ≡ 0 → write_number own next ≡ v.sent + 1 → c.kind ≡ Writes → c.covers k ≡ true → c.guards k ≡ e.create
    → SendsAt v c k (slot_in own e a s phase stage) (slot_in own e a s phase next)
written_send v own client c w es k e a s stage next Held t m n kind o g = absurd (cc)
written_send v own client c w es k e a s stage next (Leaving sent) t m n kind o g = absurd (cc)
written_send v own client c w es k e a s stage next (Writing revoked) t m n kind o g =
    record {
      compares = λ _ _. g;
      entry = λ _ _ f. absurd (cc);
      becomes = writes refl m kind o g (λ i. record { phase = view.Writing; create = e.create; kv = e.kv; acquire = acquired_by own a; spoiled = spoiled_by s a; write = n i });
    }

-- an entry that isn't written
other_send : (v : View) (own : ℕ → ℕ) (c : Call) (k : List ℕ) (e : Option Entry) (a : Option Acquire) (s : Option Bool) (stage next : WriteStage) → is_writing e ≡ false → (c.covers k ≡ true → c.guards k ≡ 0) → SendsAt v c k (slot_of own e a s stage) (slot_of own e a s next)
other_send v own c k None a s stage next u z = uncompared v c k _ _ refl z
other_send v own c k (Some e) a s stage next u z = by e.phase u
  where
    by : (phase : Phase) → is_writing_phase phase ≡ false
        → SendsAt v c k (slot_in own e a s phase stage) (slot_in own e a s phase next)
    by Held u = uncompared v c k _ _ refl z
    by (Writing revoked) u = absurd (cc)
    by (Leaving sent) u = uncompared v c k _ _ refl z

covered_send : (v : View) (own : ℕ → ℕ) (client : List ℕ → Bool) (c : Call) (w : Write) (owner : Bool) (since call : ℕ) (es : Keyed Entry) (k : List ℕ) (e : Option Entry) (a : Option Acquire) (s : Option Bool) → e ≡ at es k → covers w k ≡ true → (is_writing e ≡ true → owner ≡ true) → (is_writing e ≡ true → client k ≡ true)
    → is_owner w.stage ≡ owner → IsWriteCall client w es c → own call ≡ v.sent + 1
    → SendsAt v c k (slot_of own e a s (Sends owner (sending.Due since))) (slot_of own e a s (Sends owner (sending.Out call)))
covered_send v own client c w owner since call es k None a s is d wr cl ow i n = other_send v own c k None a s (Sends owner (sending.Due since)) (Sends owner (sending.Out call)) refl (λ _. i.guards k ∙ ap (λ (b : Bool). cond b (create_or_zero (at es k)) 0) (no_owner (owns w k) (at es k) is))
  where
    no_owner : (b : Bool) (x : Option Entry) → None ≡ x → b && is_writing x ≡ false
    no_owner true None q = refl
    no_owner true (Some y) q = absurd (cc)
    no_owner false x q = refl
covered_send v own client c w owner since call es k (Some e) a s is d wr cl ow i n =
    elim (is_writing_phase e.phase) as (λ t. is_writing_phase e.phase ≡ t → SendsAt v c k (slot_of own (Some e) a s (Sends owner (sending.Due since))) (slot_of own (Some e) a s (Sends owner (sending.Out call)))) [
      | true ↦ λ t.
          let here : owns_at w es k ≡ true = and_both (owns w k) (is_writing (at es k)) (and_both (is_owner w.stage) (covers w k) (ow ∙ wr t) d) (ap is_writing (sym is) ∙ t) in
          let g : c.guards k ≡ e.create = i.guards k ∙ cond_true (owns_at w es k) (create_or_zero (at es k)) 0 here ∙ ap create_or_zero (sym is) in
          written_send v own client c w es k e a s (Sends owner (sending.Due since)) (Sends owner (sending.Out call)) e.phase t refl n i.kind (i.covers k ∙ and_both (client k) (covers w k) (cl t) d) g
      | false ↦ λ t.
          other_send v own c k (Some e) a s (Sends owner (sending.Due since)) (Sends owner (sending.Out call)) t (λ _. i.guards k ∙ cond_false (owns_at w es k) (create_or_zero (at es k)) 0 (not_here (owns w k) (is_writing (at es k)) (ap is_writing (sym is) ∙ t)))
    ] refl
  where
    not_here : (x y : Bool) → y ≡ false → x && y ≡ false
    not_here true y q = q
    not_here false y q = refl

pub write_sends : WriteSends
write_sends v own client c find w owner since call g fits clients found stage i n k =
    elim (covers w k) as (λ b. covers w k ≡ b → SendsAt v c k (row_of own g k) (row_of own (with_own g (restaged find (stage_sent call w.stage) g.own)) k)) [
      | true ↦ λ d.
          let active : is_waiting w.stage ≡ false = ap is_waiting stage in
          let before : stage_over k ws ≡ Sends owner (sending.Due since) = found_stage find w ws k found d active (fits k).only ∙ stage in
          let after : stage_over k (with_first find (stage_sent call w.stage) ws) ≡ Sends owner (sending.Out call) = restaged_over (stage_sent call w.stage) d active ∙ ap (stage_sent call) stage in
          subst (λ (t : WriteStage). SendsAt v c k (slot_of own e a s t) (slot_of own e a s (stage_over k (with_first find (stage_sent call w.stage) ws)))) (sym before)
          (subst (λ (t : WriteStage). SendsAt v c k (slot_of own e a s (Sends owner (sending.Due since))) (slot_of own e a s t)) (sym after)
          (covered_send v own client c w owner since call g.own.entries k e a s refl d (λ t. sym (ap is_owner before) ∙ (fits k).ok.writer t) (clients k) (ap is_owner stage) i n))
      | false ↦ λ d.
          let z = λ (o : c.covers k ≡ true). uncovered o d in
          uncompared v c k _ _ (λ j. slot_of own e a s ((away_stage find w ws (stage_sent call w.stage) k found d).1 j)) z
    ] refl
  where
    ws : List Write
    ws = g.own.waits.writes

    e : Option Entry
    e = at g.own.entries k

    a : Option Acquire
    a = at g.acquires k

    s : Option Bool
    s = at g.own.waits.spoiled k

    uncovered : c.covers k ≡ true → covers w k ≡ false → c.guards k ≡ 0
    uncovered o d = let t = and_second (client k) (covers w k) (sym (i.covers k) ∙ o) in absurd (cc)

    restaged_over : (next : WriteStage) → covers w k ≡ true → is_waiting w.stage ≡ false → stage_over k (with_first find next g.own.waits.writes) ≡ next
    restaged_over next d active = over_restaged find w g.own.waits.writes next k found d active (fits k).only
