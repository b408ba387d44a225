-- What the reads of a step make of the writes: releases, the end of a session, requests that end, acquires and writes that are answered or
-- lost.
use Rattle.std.proofs.Common.{ℕ, ◌==◌, Bool, true, false, ◌&&◌, List, [], ◌∷◌, Option, None, Some}
use Rattle.etcd_types.specs.declared.answer.Answer.{Answer}
use Rattle.etcd_types.specs.declared.answer.Answer.TheVariants.{Done, Refused}
use Rattle.etcd_types.specs.declared.code.TheConstants.{NOT_FOUND}
use Rattle.etcd_types.specs.declared.record.Header.{Header}
use Rattle.proxy_model.specs.declared.ownership.Claim.{Claim}
use Rattle.proxy_model.specs.declared.ownership.Claim.TheVariants.{Acquired, OwnedBy}
use Rattle.proxy_model.specs.Acquire.{claimed}
use Rattle.proxy_model.specs.Keyed.{at}
use Rattle.wait_model.specs.declared.write.Write.{Write}
use Rattle.wait_model.specs.Endings.{answered}
use Rattle.wait_model.specs.GuardedAnswers.{Ending}
use Rattle.wait_model.specs.Phases.{is_session}
use Rattle.read_model.specs.declared.acquire.Acquire.{Acquire}
use Rattle.read_model.specs.declared.asked.Asked.{Asked}
use Rattle.read_model.specs.Acquires.{AfterAcquire, acquire_gone, acquired, owned_by, acquire_done, done_by, acquire_refused, answered_acquire, is_to_be_held, acquire_lost, acquire_answered}
use Rattle.read_model.specs.Release.{released}
use Rattle.read_model.specs.SessionEnd.{over, session_over}
use Rattle.read_model.specs.State.{Reads, Moment, ground_of, on}
use Rattle.read_model.specs.TakingOff.{taken_off}
use Rattle.read_model.specs.WriteAnswers.{ending, answered_by, wait_answered, wait_lost}
use Rattle.core_fits.specs.Fits.{EachOf}
use Rattle.core_fits.proofs.ReadRows as rows
use Rattle.out_laws.proofs.Writes as writes
use Rattle.out_laws.proofs.Writes.{Lasts}

-- nothing is asked of the requests
abbrev Any : Asked → Type 0
Any a = Unit {0}

any : (xs : List Asked) → EachOf Any xs
any [] = tt
any (a ∷ xs) = (tt, any xs)

module _ (W : Write → Type 0) (l : Lasts W) where
  abbrev pub ReadsHave : Reads → Type 0
  ReadsHave r = EachOf W r.own.waits.writes

  abbrev pub ReadsIf : Option Reads → Type 0
  ReadsIf None = Unit {0}
  ReadsIf (Some r) = ReadsHave r

  abbrev pub AfterHas : Option AfterAcquire → Type 0
  AfterHas None = Unit {0}
  AfterHas (Some x) = ReadsHave x.reads

  released_has : (again : Bool) (m : Moment) (r : Reads) → ReadsHave r → ReadsHave (released again m r)
  released_has again m r h = (rows.released_has Any W (λ x y g t. tt) again m r (any r.asks, h)).1

  -- the end of a session, and requests that end

  pub over_has : (m : Moment) (r : Reads) → ReadsHave r → ReadsHave (session_over m r)
  over_has m r h = released_has false m (on (over (ground_of r)) r.asks) (writes.over_has W l r.own.waits.writes h)

  pub taken_off_has : (m : Moment) (p : Asked → Bool) (xs : List Asked) (r : Reads) → ReadsHave r → ReadsHave (taken_off m p xs r)
  taken_off_has m p xs r h = (rows.taken_off_has Any W (λ x y g t. tt) m p xs r (any xs) h).1

  -- acquires

  claim_has : (m : Moment) (k : List ℕ) (held : Bool) (h : Header) (c : Claim) (r : Reads) → ReadsHave r → ReadsHave (acquire_done m k held h c r)
  claim_has m k held h (Acquired create kv) r t = released_has held m (acquired m k held h create kv r) t
  claim_has m k held h (OwnedBy kv owner) r t = released_has false m (owned_by m k h kv owner r) t

  claimed_has : (m : Moment) (k : List ℕ) (held : Bool) (h : Header) (o : Option Claim) (r : Reads) → ReadsHave r → AfterHas (done_by m k held h o r)
  claimed_has m k held h None r t = tt
  claimed_has m k held h (Some c) r t = claim_has m k held h c r t

  refused_has : (m : Moment) (k : List ℕ) (ends : Bool) (r : Reads) → ReadsHave r → ReadsHave (acquire_refused m k ends r).reads
  refused_has m k true r t = over_has m (on (acquire_gone k (ground_of r)) r.asks) t
  refused_has m k false r t = released_has false m (on (acquire_gone k (ground_of r)) r.asks) t

  acquire_has : (m : Moment) (k : List ℕ) (o : Option Acquire) (a : Answer) (r : Reads) → ReadsHave r → AfterHas (answered_acquire m k o a r)
  acquire_has m k None a r t = t
  acquire_has m k (Some c) (Done reply) r t = claimed_has m k (is_to_be_held m k c r) reply.header (claimed r.own.waits.prefix k reply) r t
  acquire_has m k (Some c) (Refused x) r t = refused_has m k (is_session m.session c.session && (x.code == NOT_FOUND)) r t

  pub acquire_answered_has : (m : Moment) (k : List ℕ) (a : Answer) (r : Reads) → ReadsHave r → AfterHas (acquire_answered m k a r)
  acquire_answered_has m k a r t = acquire_has m k (at r.acquires k) a r t

  pub acquire_lost_has : (members : ℕ) (m : Moment) (k : List ℕ) (r : Reads) → ReadsHave r → ReadsHave (acquire_lost members m k r)
  acquire_lost_has members m k r t = (rows.acquire_lost_has Any W (λ x y g u. tt) members m k r (any r.asks, t)).1

  -- writes

  answered_has : (m : Moment) (o : Option Ending) (r : Reads) → writes.EndHas W l o → ReadsIf (answered_by m o r)
  answered_has m None r h = tt
  answered_has m (Some x) r h = released_has true m (ending x r) h

  pub wait_answered_has : (m : Moment) (call : ℕ) (a : Answer) (r : Reads) → ReadsHave r → ReadsIf (wait_answered m call a r)
  wait_answered_has m call a r t = answered_has m (answered call a m.session m.now r.own) r (writes.answered_has W l call a m.session m.now r.own t)

  pub wait_lost_has : (m : Moment) (call : ℕ) (r : Reads) → ReadsHave r → ReadsHave (wait_lost m call r)
  wait_lost_has m call r t = (rows.wait_lost_has Any W (λ x y g u. tt) m call r (any r.asks, t)).1
