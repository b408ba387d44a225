-- What a read waits for, what a release leaves, and what a plain read comes to at its own step.
use Rattle.std.specs.Prelude.{◌≡◌, ℕ, Bool, true, ◌==◌, List, [], ◌∷◌, ◌++◌, None, Some}
use Rattle.proxy_model.specs.declared.lease.Entry.{Entry}
use Rattle.proxy_model.specs.declared.lease.Phase.TheVariants.{Held}
use Rattle.proxy_model.specs.Keyed.{at}
use Rattle.read_model.specs.Acquires.{read_asked}
use Rattle.read_model.specs.Fits.{GroundOk, ReadsOk}
use Rattle.read_model.specs.PlainRead.{ask_key, shown, acquirable, in_stage}
use Rattle.read_model.specs.Release.{released}
use Rattle.read_model.specs.State.{Reads, Moment, Ground, ground_of}
use Rattle.wait_model.specs.Covers.{covers}
use Rattle.wait_model.specs.Stages.{is_owner}
use Rattle.wait_model.specs.Writes.{first_by}
use Rattle.wait_model.specs.declared.sending.Sending.TheVariants as sending
use Rattle.wait_model.specs.declared.write.Write.{Write}
use Rattle.read_model.specs.declared.asked.Asked.{Asked}
use Rattle.read_model.specs.declared.acquire.Acquire.{Acquire}
use Rattle.read_model.specs.declared.asked.Stage.{Stage}
use Rattle.read_model.specs.declared.asked.Stage.TheVariants as stage

-- The release: after it each waiting read has what it waits for, whatever the requests were before.
abbrev pub ReleaseStands : Type 0
ReleaseStands = (standing again : Bool) (m : Moment) (r : Reads) → GroundOk standing (ground_of r) → ReadsOk standing (released again m r)

-- No idle wait: what an unanswered read waits for.

abbrev pub HasCause : Ground → Asked → Stage → Type 0
HasCause g a (stage.Calling s) = Unit {0}
HasCause g a stage.Acquiring = (c : Acquire) × (at g.acquires (ask_key a) ≡ Some c) × (c.ticket == a.ticket ≡ true)
HasCause g a stage.Joined = (c : Acquire) × (at g.acquires (ask_key a) ≡ Some c)
HasCause g a stage.Behind = (w : Write) × (first_by (λ v. covers v (ask_key a)) g.own.waits.writes ≡ Some w) × (is_owner w.stage ≡ true)
HasCause g a stage.Writes = Unit {0}
HasCause g a (stage.Grouped s) = Unit {0}
HasCause g a (stage.Replied v) = Unit {0}

abbrev pub AllHaveCause : Ground → List Asked → Type 0
AllHaveCause g [] = Unit {0}
AllHaveCause g (a ∷ rest) = HasCause g a a.stage × AllHaveCause g rest

abbrev pub NoReadIsIdle : Type 0
NoReadIsIdle = (standing : Bool) (r : Reads) → ReadsOk standing r → AllHaveCause (ground_of r) r.asks

-- a plain read of a held key is replied at its own step, with no call
abbrev pub HeldIsReplied : Type 0
HeldIsReplied =
    (m : Moment) (a : Asked) (r : Reads) (e : Entry) → at r.own.entries (ask_key a) ≡ Some e → e.phase ≡ Held → read_asked m a r ≡ record r { asks = r.asks ++ in_stage (shown m.header e.kv) a ∷ [] }

-- where nothing is owned without a session, one is live then
abbrev pub HeldIsLive : Type 0
HeldIsLive = (standing : Bool) (r : Reads) (k : List ℕ) (e : Entry) → ReadsOk standing r → at r.own.entries k ≡ Some e → e.phase ≡ Held → standing ≡ true

-- one of an acquirable key makes an acquire due that names its ticket
pub record AcquireIsDue (m : Moment) (a : Asked) (r : Reads) (n : ℕ) : Type 0 where
  pub claim : at (read_asked m a r).acquires (ask_key a) ≡ Some (record { ticket = a.ticket; session = n; sending = sending.Due r.own.waits.step })
  pub asks : (read_asked m a r).asks ≡ r.asks ++ in_stage stage.Acquiring a ∷ []

abbrev pub AcquirableIsAcquired : Type 0
AcquirableIsAcquired =
    (m : Moment) (a : Asked) (r : Reads) (n : ℕ) → at r.own.entries (ask_key a) ≡ None → at r.acquires (ask_key a) ≡ None → acquirable m r.own (ask_key a) ≡ Some n → AcquireIsDue m a r n
