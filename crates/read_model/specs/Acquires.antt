-- Acquire: what its answer and its loss do. Where it succeeded under the live session and wasn't spoiled, its key is held and its
-- readers are answered from the entry; else what it took is given up, and they become calls of their own. Its own reader has the
-- record that came with the answer.
use Rattle.std.specs.Prelude.{ℕ, ◌+◌, nat_le, Bool, true, false, not, ◌==◌, ◌&&◌, if◌then◌else◌, List, [], ◌∷◌, ◌++◌, map, Option, None, Some, is_some}
use Rattle.etcd_types.specs.declared.answer.Answer.{Answer}
use Rattle.etcd_types.specs.declared.answer.Answer.TheVariants as answer
use Rattle.etcd_types.specs.declared.code.TheConstants.{NOT_FOUND}
use Rattle.etcd_types.specs.declared.record.Header.{Header}
use Rattle.etcd_types.specs.declared.record.Kv.{Kv}
use Rattle.etcd_types.specs.Keys.{same}
use Rattle.proxy_model.specs.declared.lease.Entry.{Entry}
use Rattle.proxy_model.specs.declared.lease.Phase.TheVariants.{Held}
use Rattle.proxy_model.specs.declared.ownership.Claim.{Claim}
use Rattle.proxy_model.specs.declared.ownership.Claim.TheVariants.{Acquired, OwnedBy}
use Rattle.proxy_model.specs.declared.ownership.Owner.{Owner}
use Rattle.proxy_model.specs.Acquire.{claimed}
use Rattle.proxy_model.specs.Keyed.{at, with_at, changed_at}
use Rattle.proxy_model.specs.Limits.{capped}
use Rattle.wait_model.specs.declared.sending.Sending.TheVariants as sending
use Rattle.wait_model.specs.Asked.{acquire_ended, is_spoiled}
use Rattle.wait_model.specs.Phases.{own_entry, is_session}
use Rattle.read_model.specs.declared.acquire.Acquire.{Acquire}
use Rattle.read_model.specs.declared.asked.Asked.{Asked}
use Rattle.read_model.specs.declared.asked.Stage.{Stage}
use Rattle.read_model.specs.declared.asked.Stage.TheVariants as stage
use Rattle.read_model.specs.declared.asked.Verdict.TheVariants as verdict
use Rattle.read_model.specs.PlainRead.{ask_key, shown, called, decided_ground, decided_ask, in_stage}
use Rattle.read_model.specs.Release.{released}
use Rattle.read_model.specs.SessionEnd.{session_over}
use Rattle.read_model.specs.State.{Reads, Moment, Ground, ground_of, on}

-- a plain read is asked
abbrev pub read_asked : Moment → Asked → Reads → Reads
read_asked m a r = on (decided_ground m (ground_of r) a) (r.asks ++ decided_ask m (ground_of r) a ∷ [])

-- An acquire is sent.

abbrev pub sent_out : ℕ → Acquire → Acquire
sent_out call c = record c { sending = sending.Out call }

abbrev pub acquire_sent : ℕ → List ℕ → Reads → Reads
acquire_sent call k r = record r { acquires = changed_at r.acquires k (sent_out call) }

-- It is answered.

abbrev pub is_acquiring : Stage → Bool
is_acquiring stage.Acquiring = true
is_acquiring _ = false

-- the acquire of this key is for this read
abbrev pub acquires_at : List ℕ → Asked → Bool
acquires_at k a = is_acquiring a.stage && same (ask_key a) k

-- its reader has this stage
abbrev pub told : List ℕ → Stage → Asked → Asked
told k s a = if acquires_at k a then in_stage s a else a

abbrev pub acquire_gone : List ℕ → Ground → Ground
acquire_gone k g = record { own = acquire_ended k g.own; acquires = with_at g.acquires k None }

abbrev pub with_entry : List ℕ → Option Entry → Ground → Ground
with_entry k e g = record g { own = record g.own { entries = with_at g.own.entries k e } }

abbrev pub won : Bool → ℕ → Option Kv → Entry
won held create kv = if held then record { create = create; kv = kv; phase = Held } else own_entry create

-- an ownership key of the live session that isn't known of is given up
abbrev pub found_own : Option ℕ → Option Owner → Option Entry → Option Entry
found_own session None e = e
found_own session (Some o) e = if is_session session o.lease && not (is_some e) then Some (own_entry o.create) else e

-- before the release
abbrev pub acquired : Moment → List ℕ → Bool → Header → ℕ → Option Kv → Reads → Reads
acquired m k held h create kv r =
    on (with_entry k (Some (won held create kv)) (acquire_gone k (ground_of r))) (map (told k (shown h kv)) r.asks)

abbrev pub owned_by : Moment → List ℕ → Header → Option Kv → Option Owner → Reads → Reads
owned_by m k h kv owner r =
    on (with_entry k (found_own m.session owner (at r.own.entries k)) (acquire_gone k (ground_of r))) (map (told k (shown h kv)) r.asks)

abbrev pub acquire_done : Moment → List ℕ → Bool → Header → Claim → Reads → Reads
acquire_done m k held h (Acquired create kv) r = released held m (acquired m k held h create kv r)
acquire_done m k held h (OwnedBy kv owner) r = released false m (owned_by m k h kv owner r)

-- what stands after it, and whether the session ended by it
pub record AfterAcquire : Type 0 where
  pub reads : Reads
  pub ends : Bool

abbrev pub done_by : Moment → List ℕ → Bool → Header → Option Claim → Reads → Option AfterAcquire
done_by m k held h None r = None
done_by m k held h (Some c) r = Some (record { reads = acquire_done m k held h c r; ends = false })

-- the live session's lease isn't there any more, and so the session ends; any other refusal changes nothing else
abbrev pub acquire_refused : Moment → List ℕ → Bool → Reads → AfterAcquire
acquire_refused m k ends r =
    if ends then record { reads = session_over m (on (acquire_gone k (ground_of r)) r.asks); ends = true }
    else record { reads = released false m (on (acquire_gone k (ground_of r)) r.asks); ends = false }

abbrev pub is_to_be_held : Moment → List ℕ → Acquire → Reads → Bool
is_to_be_held m k c r = is_session m.session c.session && not (is_spoiled k r.own)

abbrev pub answered_acquire : Moment → List ℕ → Option Acquire → Answer → Reads → Option AfterAcquire
answered_acquire m k None a r = Some (record { reads = r; ends = false })
answered_acquire m k (Some c) (answer.Done reply) r =
    done_by m k (is_to_be_held m k c r) reply.header (claimed r.own.waits.prefix k reply) r
answered_acquire m k (Some c) (answer.Refused x) r =
    Some (acquire_refused m k (is_session m.session c.session && (x.code == NOT_FOUND)) r)

-- nothing, where the answer can't be one to an acquire
abbrev pub acquire_answered : Moment → List ℕ → Answer → Reads → Option AfterAcquire
acquire_answered m k a r = answered_acquire m k (at r.acquires k) a r

-- It is lost.

-- one call of a read is lost: it is due again, until there was one for each member
abbrev pub lost_once : ℕ → ℕ → Asked → Asked
lost_once members step a =
    record a { losses = capped (a.losses + 1); stage = (if nat_le members (capped (a.losses + 1)) then stage.Replied verdict.Lost else called step) }

abbrev pub told_lost : ℕ → ℕ → List ℕ → Asked → Asked
told_lost members step k a = if acquires_at k a then lost_once members step a else a

abbrev pub acquire_lost : ℕ → Moment → List ℕ → Reads → Reads
acquire_lost members m k r =
    released false m (on (acquire_gone k (ground_of r)) (map (told_lost members r.own.waits.step k) r.asks))
