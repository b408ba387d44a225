-- What a step makes of the writes whose calls are out, their own or those that ask owners: at each it finds what was there, or none. So what
-- holds of each call by its write's ticket lasts.
use Rattle.std.proofs.Common.{◌≡◌, ℕ, Bool, true, List, [], ◌∷◌, map, Option, None, Some, sym, subst}
use Rattle.etcd_types.specs.declared.answer.Answer.{Answer}
use Rattle.etcd_types.specs.declared.request.Request.{Request}
use Rattle.etcd_types.specs.declared.watch.Change.{Change}
use Rattle.etcd_types.specs.declared.watch.Change.TheVariants as change
use Rattle.etcd_types.specs.declared.watch.Event.{Event}
use Rattle.etcd_types.specs.Keys.{same}
use Rattle.proxy_model.specs.declared.lease.Entry.{Entry}
use Rattle.proxy_model.specs.Foreign.{revoke_word}
use Rattle.proxy_model.specs.Keyed.{Keyed, at, with_at}
use Rattle.wait_model.specs.declared.wait.Settled.{Settled}
use Rattle.wait_model.specs.declared.wait.Settled.TheVariants as settled
use Rattle.wait_model.specs.declared.write.Write.{Write}
use Rattle.wait_model.specs.declared.write.WriteStage.{WriteStage}
use Rattle.wait_model.specs.Asked.{acquire_spoiled, new_write}
use Rattle.wait_model.specs.Covers.{is_single}
use Rattle.wait_model.specs.Endings.{answered, lost, forgotten, forgotten_by, without_out}
use Rattle.wait_model.specs.ForeignOwnership.{stage_gone}
use Rattle.wait_model.specs.GuardedAnswers.{Ending}
use Rattle.wait_model.specs.Notices.{owned_key, put_noticed, noticed, all_noticed, revoked_turn}
use Rattle.wait_model.specs.Passes.{passed}
use Rattle.wait_model.specs.SessionEnd.{stage_ended}
use Rattle.wait_model.specs.Stages.{staged}
use Rattle.wait_model.specs.State.{Ownership}
use Rattle.wait_model.specs.Writes.{first_by, without_first, has_ticket, sends, asks}
use Rattle.core_model.specs.Fits.{WritesOk}
use Rattle.core_laws.proofs.Steps.Comes.{by_test, Calms, stage_gone_calms, stage_ended_calms, Comes, AllCome, passed_come}
use Rattle.core_laws.proofs.Steps.WaitEnds.{IsRemoved, EndsAs, EndedIf, answered_ends, lost_ends}
use Rattle.core_fits.specs.Fits.{EachOf}

-- ---- what lasts of a write

-- what holds of a write, and still holds where it comes to another stage, which has no call that it hadn't before
pub record Lasting (P : Write → Type 0) : Type 0 where
  pub calm : (w : Write) (s : WriteStage) → Calms w.stage s → P w → P (staged w s)
  pub comes : (w v : Write) → Comes w v → P w → P v
  -- one that is asked anew has no call
  pub fresh : (ticket : ℕ) (q : Request) → P (new_write ticket q)

-- of each call that is out for a write, by the write's ticket
abbrev pub IsSent : (ℕ → ℕ → Type 0) → Write → Type 0
IsSent W w = (call : ℕ) → sends call w ≡ true → W w.ticket call

-- and of each call that is out to ask an owner for it
abbrev pub IsAsking : (ℕ → ℕ → Type 0) → Write → Type 0
IsAsking W w = (call : ℕ) → asks call w ≡ true → W w.ticket call

pub sends_last : (W : ℕ → ℕ → Type 0) → Lasting (IsSent W)
sends_last W = record {
  calm = λ w s c h call t. h call (c.sends call t);
  comes = λ w v c h call t. subst (λ (n : ℕ). W n call) (sym c.ticket) (h call (c.calm.sends call t));
  fresh = λ ticket q call e. absurd (cc);
}

pub asks_last : (W : ℕ → ℕ → Type 0) → Lasting (IsAsking W)
asks_last W = record {
  calm = λ w s c h call t. h call (c.asks call t);
  comes = λ w v c h call t. subst (λ (n : ℕ). W n call) (sym c.ticket) (h call (c.calm.asks call t));
  fresh = λ ticket q call e. absurd (cc);
}

abbrev pub AreSent : (ℕ → ℕ → Type 0) → List Write → Type 0
AreSent W ws = EachOf (IsSent W) ws

-- of each write
abbrev pub OwnSo : (Write → Type 0) → Ownership → Type 0
OwnSo P own = EachOf P own.waits.writes

abbrev pub EndSo : (Write → Type 0) → Option Ending → Type 0
EndSo P None = Unit {0}
EndSo P (Some x) = OwnSo P x.own

module _ (P : Write → Type 0) (l : Lasting P) where
  abbrev AllSo : List Write → Type 0
  AllSo ws = EachOf P ws

  all_come : (ws vs : List Write) → AllCome ws vs → AllSo ws → AllSo vs
  all_come [] [] a h = tt
  all_come [] (v ∷ vs) a h = absurd a
  all_come (w ∷ ws) [] a h = absurd a
  all_come (w ∷ ws) (v ∷ vs) a h = (l.comes w v a.0 h.0, all_come ws vs a.1 h.1)

  without_sent : (p : Write → Bool) (ws : List Write) → AllSo ws → AllSo (without_first p ws)
  without_sent p [] h = tt
  without_sent p (w ∷ ws) h = by_test AllSo (p w) ws (w ∷ without_first p ws) (λ t. h.1) (λ t. (h.0, without_sent p ws h.1))

  staged_sent : (g : Write → WriteStage) → ((w : Write) → Calms w.stage (g w)) → (ws : List Write) → AllSo ws → AllSo (map (λ w. staged w (g w)) ws)
  staged_sent g c [] h = tt
  staged_sent g c (w ∷ ws) h = (l.calm w (g w) (c w) h.0, staged_sent g c ws h.1)

  -- passes

  pub passed_sent : (step : ℕ) (earlier : List Write) (es : Keyed Entry) (ss : Keyed Bool) (ws : List Write) → AllSo ws → AllSo (passed step earlier es ss ws).writes
  passed_sent step earlier es ss ws h = all_come ws (passed step earlier es ss ws).writes (passed_come step earlier es ss ws) h

  -- answers and losses

  removed_sent : (ticket : ℕ) (ws vs : List Write) → IsRemoved ticket ws vs → AllSo ws → AllSo vs
  removed_sent ticket ws vs r h = subst AllSo (sym r.rest) (without_sent r.test ws h)

  ends_sent : (ws : List Write) (s : Settled) (vs : List Write) → EndsAs ws s vs → AllSo ws → AllSo vs
  ends_sent ws settled.Nothing vs e h = all_come ws vs e h
  ends_sent ws (settled.Reply ticket a) vs e h = removed_sent ticket ws vs e h
  ends_sent ws (settled.Failed ticket) vs e h = removed_sent ticket ws vs e h

  pub answered_sent : (call : ℕ) (a : Answer) (session : Option ℕ) (now : ℕ) (own : Ownership) → WritesOk own.waits.writes own.waits.out → OwnSo P own → EndSo P (answered call a session now own)
  answered_sent call a session now own ok h = by (answered call a session now own) (answered_ends call a session now own ok)
    where
      by : (o : Option Ending) → EndedIf call (without_out call own) o → EndSo P o
      by None e = tt
      by (Some x) e = ends_sent own.waits.writes x.settled x.own.waits.writes e.how h

  pub lost_sent : (call : ℕ) (own : Ownership) → WritesOk own.waits.writes own.waits.out → OwnSo P own → OwnSo P (lost call own).own
  lost_sent call own ok h = let e = lost_ends call own ok in ends_sent own.waits.writes (lost call own).settled (lost call own).own.waits.writes e.how h

  -- what is forgotten

  forget_sent : (p : Write → Bool) (o : Option Write) (own : Ownership) → OwnSo P own → OwnSo P (forgotten_by p o own)
  forget_sent p None own h = h
  forget_sent p (Some w) own h = without_sent p own.waits.writes h

  pub forgotten_sent : (ticket : ℕ) (own : Ownership) → OwnSo P own → OwnSo P (forgotten ticket own)
  unfolding forgotten
  forgotten_sent ticket own h = forget_sent (has_ticket ticket) (first_by (has_ticket ticket) own.waits.writes) own h

  -- the session's end, and notices

  pub ended_sent : (ws : List Write) → AllSo ws → AllSo (map (λ w. staged w (stage_ended (is_single w.request) w.stage)) ws)
  ended_sent ws h = staged_sent (λ w. stage_ended (is_single w.request) w.stage) (λ w. stage_ended_calms (is_single w.request) w.stage) ws h

  pub gone_sent : (p : List ℕ → Bool) (ws : List Write) → AllSo ws → AllSo (map (λ w. staged w (stage_gone p w.stage)) ws)
  gone_sent p ws h = staged_sent (λ w. stage_gone p w.stage) (λ w. stage_gone_calms p w.stage) ws h

  put_sent : (session : Option ℕ) (k : List ℕ) (create lease : ℕ) (own : Ownership) → OwnSo P own → OwnSo P (put_noticed session k create lease own)
  put_sent session k create lease own h =
      by_test (OwnSo P) (Rattle.std.specs.Prelude.is_some (at own.waits.spoiled k)) (acquire_spoiled k own) (record own { entries = with_at own.entries k (revoked_turn session create lease (at own.entries k)) }) (λ t. h) (λ t. h)

  notice_sent : (session : Option ℕ) (c : Change) (own : Ownership) → OwnSo P own → OwnSo P (noticed session c own)
  notice_sent session (change.Put kv) own h =
      by_test (OwnSo P) (same kv.value revoke_word) (put_noticed session (owned_key own.waits.prefix kv.key) kv.create kv.lease own) own (λ t. put_sent session (owned_key own.waits.prefix kv.key) kv.create kv.lease own h) (λ t. h)
  notice_sent session (change.Delete k revision) own h = gone_sent (same (owned_key own.waits.prefix k)) own.waits.writes h

  pub message_sent : (session : Option ℕ) (events : List Event) (own : Ownership) → OwnSo P own → OwnSo P (all_noticed session events own)
  message_sent session [] own h = h
  message_sent session (e ∷ es) own h = message_sent session es (noticed session e.change own) (notice_sent session e.change own h)
