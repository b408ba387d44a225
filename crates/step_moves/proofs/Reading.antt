-- What a step makes of entries and requests at once: releases, the end of a session, requests that end, acquires and writes that are
-- answered or lost.
use Rattle.std.proofs.Common.{◌≡◌, ℕ, ◌==◌, Bool, true, false, cond, ◌&&◌, ◌||◌, not, List, [], ◌∷◌, map, Option, None, Some, refl, sym, ◌∙◌, subst}
use Rattle.etcd_types.specs.declared.answer.Answer.{Answer}
use Rattle.etcd_types.specs.declared.answer.Answer.TheVariants.{Done, Refused}
use Rattle.etcd_types.specs.declared.code.TheConstants.{NOT_FOUND}
use Rattle.etcd_types.specs.declared.record.Header.{Header}
use Rattle.etcd_types.specs.declared.record.Kv.{Kv}
use Rattle.std.specs.Option.{option_to_list}
use Rattle.proxy_model.specs.declared.ownership.Claim.{Claim}
use Rattle.proxy_model.specs.declared.ownership.Claim.TheVariants.{Acquired, OwnedBy}
use Rattle.proxy_model.specs.Acquire.{claimed}
use Rattle.proxy_model.specs.Keyed.{at}
use Rattle.proxy_model.specs.Snapshot.{plain_body}
use Rattle.wait_model.specs.Endings.{answered, lost, forgotten}
use Rattle.wait_model.specs.GuardedAnswers.{Ending}
use Rattle.wait_model.specs.Phases.{is_session}
use Rattle.wait_model.specs.State.{Ownership}
use Rattle.read_model.specs.declared.acquire.Acquire.{Acquire}
use Rattle.read_model.specs.declared.asked.Asked.{Asked}
use Rattle.read_model.specs.declared.asked.Verdict.TheVariants as verdict
use Rattle.read_model.specs.Acquires.{AfterAcquire, told, told_lost, acquire_gone, won, found_own, acquired, owned_by, acquire_done, done_by, acquire_refused, answered_acquire, is_to_be_held, acquire_lost, acquire_answered}
use Rattle.read_model.specs.PlainRead.{ask_key, shown, decision, begun_under, decided_ground}
use Rattle.read_model.specs.Release.{ask_stands, released_ground, released_from, released}
use Rattle.read_model.specs.SessionEnd.{over, session_over, dropped}
use Rattle.read_model.specs.State.{Reads, Moment, Ground, ground_of, on}
use Rattle.read_model.specs.TakingOff.{is_writes, forgotten_all, falls, taken_off}
use Rattle.read_model.specs.WriteAnswers.{settled_ask, ending, answered_by, wait_answered, wait_lost}
use Rattle.core_laws.proofs.Steps.Comes.{by_test}
use Rattle.core_fits.specs.Fits.{EachOf}
use Rattle.step_moves.proofs.Orders.{Rises, Ordered, EndOrdered, at_rises, answered_ordered, lost_ordered, forgotten_ordered}
use Rattle.step_moves.proofs.Stages.{Fits, told_fits, told_lost_fits, settled_fits, released_each, each_fits}

begun_entries : (ticket : ℕ) (k : List ℕ) (o : Option ℕ) (g : Ground) → (begun_under ticket k o g).own.entries ≡ g.own.entries
begun_entries ticket k None g = refl
begun_entries ticket k (Some n) g = refl

pub decided_entries : (m : Moment) (g : Ground) (a : Asked) → (decided_ground m g a).own.entries ≡ g.own.entries
decided_entries m g a = begun_entries a.ticket (ask_key a) (decision m g (ask_key a)).under g

released_entries : (again : Bool) (m : Moment) (g : Ground) (xs : List Asked) → (released_from again m g xs).ground.own.entries ≡ g.own.entries
unfolding released_from
released_entries again m g [] = refl
released_entries again m g (a ∷ rest) =
    released_entries again m (released_ground again m g a) rest
    ∙ by_test (λ (h : Ground). h.own.entries ≡ g.own.entries) (ask_stands g a || not again) g (decided_ground m g a) (λ t. refl) (λ t. decided_entries m g a)

module _ (prefix : List ℕ) where
  -- of the entries and of each request
  abbrev pub ReadsFit : Reads → Type 0
  ReadsFit r = Ordered r.own × EachOf (Fits prefix) r.asks

  abbrev pub ReadsFitIf : Option Reads → Type 0
  ReadsFitIf None = Unit {0}
  ReadsFitIf (Some r) = ReadsFit r

  abbrev pub AfterFits : Option AfterAcquire → Type 0
  AfterFits None = Unit {0}
  AfterFits (Some x) = ReadsFit x.reads

  pub released_fit : (again : Bool) (m : Moment) (r : Reads) → ReadsFit r → ReadsFit (released again m r)
  released_fit again m r h = (subst Rises (sym (released_entries again m (ground_of r) r.asks)) h.0, released_each prefix again m (ground_of r) r.asks h.1)

  pub session_over_fit : (m : Moment) (r : Reads) → EachOf (Fits prefix) r.asks → ReadsFit (session_over m r)
  session_over_fit m r h = released_fit false m (on (over (ground_of r)) r.asks) (refl, h)

  forgotten_all_ordered : (p : Asked → Bool) (xs : List Asked) (own : Ownership) → Ordered own → Ordered (forgotten_all p xs own)
  forgotten_all_ordered p [] own h = h
  forgotten_all_ordered p (a ∷ rest) own h =
      forgotten_all_ordered p rest (cond (p a && is_writes a.stage) (forgotten a.ticket own) own) (by_test Ordered (p a && is_writes a.stage) (forgotten a.ticket own) own (λ t. forgotten_ordered a.ticket own h) (λ t. h))

  pub taken_off_fit : (m : Moment) (p : Asked → Bool) (xs : List Asked) (r : Reads) → EachOf (Fits prefix) xs → Ordered r.own → ReadsFit (taken_off m p xs r)
  taken_off_fit m p xs r t h = released_fit false m (on (dropped (falls p r) (record (ground_of r) { own = forgotten_all p r.asks r.own })) xs) (forgotten_all_ordered p r.asks r.own h, t)

  -- Acquires.

  told_shown : (k : List ℕ) (h : Header) (kv : Option Kv) (xs : List Asked) → EachOf (Fits prefix) xs → EachOf (Fits prefix) (map (told k (shown h kv)) xs)
  told_shown k h kv xs t = each_fits prefix (told k (shown h kv)) (told_fits prefix k (verdict.Said (Done (record { header = h; body = plain_body (option_to_list kv) })))) xs t

  claim_fit : (m : Moment) (k : List ℕ) (held : Bool) (h : Header) (c : Claim) (r : Reads) → ReadsFit r → ReadsFit (acquire_done m k held h c r)
  claim_fit m k held h (Acquired create kv) r t =
      released_fit held m (acquired m k held h create kv r) (at_rises k (Some (won held create kv)) r.own.entries t.0, told_shown k h kv r.asks t.1)
  claim_fit m k held h (OwnedBy kv owner) r t =
      released_fit false m (owned_by m k h kv owner r) (at_rises k (found_own m.session owner (at r.own.entries k)) r.own.entries t.0, told_shown k h kv r.asks t.1)

  claimed_fit : (m : Moment) (k : List ℕ) (held : Bool) (h : Header) (o : Option Claim) (r : Reads) → ReadsFit r → AfterFits (done_by m k held h o r)
  claimed_fit m k held h None r t = tt
  claimed_fit m k held h (Some c) r t = claim_fit m k held h c r t

  refused_fit : (m : Moment) (k : List ℕ) (ends : Bool) (r : Reads) → ReadsFit r → ReadsFit (acquire_refused m k ends r).reads
  refused_fit m k true r t = session_over_fit m (on (acquire_gone k (ground_of r)) r.asks) t.1
  refused_fit m k false r t = released_fit false m (on (acquire_gone k (ground_of r)) r.asks) t

  acquire_by_fit : (m : Moment) (k : List ℕ) (o : Option Acquire) (a : Answer) (r : Reads) → ReadsFit r → AfterFits (answered_acquire m k o a r)
  acquire_by_fit m k None a r t = t
  acquire_by_fit m k (Some c) (Done reply) r t = claimed_fit m k (is_to_be_held m k c r) reply.header (claimed r.own.waits.prefix k reply) r t
  acquire_by_fit m k (Some c) (Refused x) r t = refused_fit m k (is_session m.session c.session && (x.code == NOT_FOUND)) r t

  pub acquire_answered_fit : (m : Moment) (k : List ℕ) (a : Answer) (r : Reads) → ReadsFit r → AfterFits (acquire_answered m k a r)
  acquire_answered_fit m k a r t = acquire_by_fit m k (at r.acquires k) a r t

  pub acquire_lost_fit : (members : ℕ) (m : Moment) (k : List ℕ) (r : Reads) → ReadsFit r → ReadsFit (acquire_lost members m k r)
  acquire_lost_fit members m k r t =
      released_fit false m (on (acquire_gone k (ground_of r)) (map (told_lost members r.own.waits.step k) r.asks)) (t.0, each_fits prefix (told_lost members r.own.waits.step k) (told_lost_fits prefix members r.own.waits.step k) r.asks t.1)

  -- Writes.

  ending_fit : (x : Ending) (r : Reads) → EachOf (Fits prefix) r.asks → Ordered x.own → ReadsFit (ending x r)
  ending_fit x r t h = (h, each_fits prefix (settled_ask x.settled) (settled_fits prefix x.settled) r.asks t)

  answered_by_fit : (m : Moment) (o : Option Ending) (r : Reads) → EndOrdered o → EachOf (Fits prefix) r.asks → ReadsFitIf (answered_by m o r)
  answered_by_fit m None r h t = tt
  answered_by_fit m (Some x) r h t = released_fit true m (ending x r) (ending_fit x r t h)

  pub wait_answered_fit : (m : Moment) (call : ℕ) (a : Answer) (r : Reads) → ReadsFit r → ReadsFitIf (wait_answered m call a r)
  wait_answered_fit m call a r t = answered_by_fit m (answered call a m.session m.now r.own) r (answered_ordered call a m.session m.now r.own t.0) t.1

  pub wait_lost_fit : (m : Moment) (call : ℕ) (r : Reads) → ReadsFit r → ReadsFit (wait_lost m call r)
  wait_lost_fit m call r t = released_fit false m (ending (lost call r.own) r) (ending_fit (lost call r.own) r t.1 (lost_ordered call r.own t.0))
