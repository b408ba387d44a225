-- What unanswered reads wait for, and what a plain read comes to at its own step.
use Rattle.std.proofs.Common.{◌≡◌, ℕ, Bool, true, false, cond, ◌||◌, ◌==◌, List, [], ◌∷◌, ◌++◌, Option, None, Some, is_some, refl, sym, ◌∙◌, ap}
use Rattle.std.specs.List.{list_all}
use Rattle.etcd_types.proofs.KeyOrder.{same-itself}
use Rattle.proxy_model.specs.declared.lease.Entry.{Entry}
use Rattle.proxy_model.specs.declared.lease.Phase.{Phase}
use Rattle.proxy_model.specs.declared.lease.Phase.TheVariants.{Held}
use Rattle.etcd_types.proofs.Bools.{and_first, and_second}
use Rattle.proxy_model.proofs.KeyedLaws.{at-with_at}
use Rattle.proxy_model.specs.Keyed.{at}
use Rattle.core_laws.specs.PlainReads.Laws.{HasCause, AllHaveCause, NoReadIsIdle, HeldIsReplied, HeldIsLive, AcquirableIsAcquired}
use Rattle.read_model.specs.Acquires.{read_asked}
use Rattle.read_model.specs.Fits.{is_owned, AllStand, GroundOk}
use Rattle.read_model.specs.PlainRead.{ask_key, shown, acquirable, held_turn, read_turn, Decision, stay, decision, begun_under, in_stage}
use Rattle.read_model.specs.Release.{names, stands, ask_stands}
use Rattle.read_model.specs.State.{Reads, Moment, Ground, ground_of, on}
use Rattle.wait_model.specs.Covers.{covers}
use Rattle.wait_model.specs.Fits.{stage_over}
use Rattle.wait_model.specs.Stages.{is_owner}
use Rattle.wait_model.specs.Writes.{first_by}
use Rattle.proxy_model.specs.LeaseTable.{is_held_phase, is_writing_phase}
use Rattle.wait_model.specs.declared.sending.Sending.TheVariants as sending
use Rattle.wait_model.specs.declared.write.Write.{Write}
use Rattle.read_model.specs.declared.asked.Asked.{Asked}
use Rattle.read_model.specs.declared.acquire.Acquire.{Acquire}
use Rattle.read_model.specs.declared.asked.Stage.{Stage}
use Rattle.read_model.specs.declared.asked.Stage.TheVariants as stage

-- the owner write over the key
owner_over : (k : List ℕ) (ws : List Write) → is_owner (stage_over k ws) ≡ true → (w : Write) × (first_by (λ v. covers v k) ws ≡ Some w) × (is_owner w.stage ≡ true)
owner_over k [] o = absurd (cc)
owner_over k (v ∷ ws) o = by_cover (covers v k) o (owner_over k ws)
  where
    by_cover : (b : Bool) → is_owner (cond b v.stage (stage_over k ws)) ≡ true → (is_owner (stage_over k ws) ≡ true → (w : Write) × (first_by (λ v. covers v k) ws ≡ Some w) × (is_owner w.stage ≡ true)) → (w : Write) × (cond b (Some v) (first_by (λ v. covers v k) ws) ≡ Some w) × (is_owner w.stage ≡ true)
    by_cover true o f = (v, refl, o)
    by_cover false o f = f o

cause : (standing : Bool) (g : Ground) (a : Asked) (s : Stage) → GroundOk standing g → stands a.ticket (at g.own.entries (ask_key a)) (at g.acquires (ask_key a)) s ≡ true → HasCause g a s
cause standing g a (stage.Calling s) h t = tt
cause standing g a stage.Acquiring h t = named (at g.acquires (ask_key a)) t
  where
    named : (o : Option Acquire) → names a.ticket o ≡ true → (c : Acquire) × (o ≡ Some c) × (c.ticket == a.ticket ≡ true)
    named None t = absurd (cc)
    named (Some c) t = (c, refl, t)
cause standing g a stage.Joined h t = some (at g.acquires (ask_key a)) t
  where
    some : (o : Option Acquire) → is_some o ≡ true → (c : Acquire) × (o ≡ Some c)
    some None t = absurd (cc)
    some (Some c) t = (c, refl)
cause standing g a stage.Behind h t = owner_over (ask_key a) g.own.waits.writes ((h.keys (ask_key a)).ok.writer t)
cause standing g a stage.Writes h t = tt
cause standing g a (stage.Grouped s) h t = tt
cause standing g a (stage.Replied v) h t = tt

causes : (standing : Bool) (g : Ground) → GroundOk standing g → (xs : List Asked) → AllStand g xs → AllHaveCause g xs
causes standing g h [] t = tt
causes standing g h (a ∷ xs) t = (cause standing g a a.stage h (and_first (ask_stands g a) (list_all (ask_stands g) xs) t), causes standing g h xs (and_second (ask_stands g a) (list_all (ask_stands g) xs) t))

pub no_read_is_idle : NoReadIsIdle
no_read_is_idle standing r h = causes standing (ground_of r) h.ground r.asks h.asks

-- A read that is asked.

pub asked_by : (m : Moment) (a : Asked) (r : Reads) (d : Decision) → decision m (ground_of r) (ask_key a) ≡ d → read_asked m a r ≡ on (begun_under a.ticket (ask_key a) d.under (ground_of r)) (r.asks ++ in_stage d.stage a ∷ [])
asked_by m a r d q = ap (λ (x : Decision). on (begun_under a.ticket (ask_key a) x.under (ground_of r)) (r.asks ++ in_stage x.stage a ∷ [])) q

pub held_decision : (m : Moment) (g : Ground) (k : List ℕ) (e : Entry) → at g.own.entries k ≡ Some e → e.phase ≡ Held → decision m g k ≡ stay (shown m.header e.kv)
held_decision m g k e q p =
    ap (λ (o : Option Entry). read_turn m.header g.own.waits.step o (is_some (at g.acquires k)) (acquirable m g.own k)) q
    ∙ ap (λ (x : Phase). stay (held_turn m.header g.own.waits.step e.kv x)) p

pub held_is_replied : HeldIsReplied
held_is_replied m a r e q p = asked_by m a r (stay (shown m.header e.kv)) (held_decision m (ground_of r) (ask_key a) e q p)

pub held_is_live : HeldIsLive
held_is_live standing r k e h q p = by_standing standing refl
  where
    by_standing : (b : Bool) → standing ≡ b → b ≡ true
    by_standing true s = refl
    by_standing false s = absurd (let t = sym (ap is_owned q ∙ ap (λ (x : Phase). is_held_phase x || is_writing_phase x) p) ∙ h.ground.owned s k in cc)

pub free_decision : (m : Moment) (g : Ground) (k : List ℕ) (n : ℕ) → at g.own.entries k ≡ None → at g.acquires k ≡ None → acquirable m g.own k ≡ Some n → decision m g k ≡ record { stage = stage.Acquiring; under = Some n }
free_decision m g k n e c u =
    ap (λ (o : Option Entry). read_turn m.header g.own.waits.step o (is_some (at g.acquires k)) (acquirable m g.own k)) e
    ∙ ap (λ (o : Option Acquire). read_turn m.header g.own.waits.step None (is_some o) (acquirable m g.own k)) c
    ∙ ap (λ (o : Option ℕ). read_turn m.header g.own.waits.step None false o) u

pub acquirable_is_acquired : AcquirableIsAcquired
acquirable_is_acquired m a r n e c u =
    let k = ask_key a in
    let d : Decision = record { stage = stage.Acquiring; under = Some n } in
    let q = free_decision m (ground_of r) k n e c u in
    let x : Acquire = record { ticket = a.ticket; session = n; sending = sending.Due r.own.waits.step } in
    record {
      claim = ap (λ (s : Reads). at s.acquires k) (asked_by m a r d q) ∙ at-with_at r.acquires k k (Some x) ∙ ap (λ b. cond b (Some x) (at r.acquires k)) (same-itself k);
      asks = ap (λ (s : Reads). s.asks) (asked_by m a r d q);
    }
