-- Jobs that are sent beside writes: a rescind and an acquire, as what the move of a sending asks for at each key.
use Rattle.std.specs.Prelude.{◌≡◌, ◌+◌, ◌==◌, ◌&&◌, ℕ, Bool, true, false, List, Option, Some}
use Rattle.etcd_types.specs.Keys.{same}
use Rattle.proxy_model.specs.declared.lease.Entry.{Entry}
use Rattle.proxy_model.specs.Keyed.{at, changed_at}
use Rattle.wait_model.specs.declared.sending.Sending.TheVariants as sending
use Rattle.wait_model.specs.Fits.{Fits}
use Rattle.wait_model.specs.Phases.{is_rescind_due, rescind_sent}
use Rattle.wait_model.specs.State.{Ownership}
use Rattle.read_model.specs.declared.acquire.Acquire.{Acquire}
use Rattle.read_model.specs.Acquires.{sent_out}
use Rattle.read_model.specs.State.{Ground}
use Rattle.cache_laws.specs.Moves.View.{Acquires, Rescinds, Call, View}
use Rattle.row_laws.specs.Laws.{Rows, AreMarked, with_own, SendsAt}
use Rattle.row_laws.specs.Rows.{row_of}

-- a rescind covers its key alone, and compares the create revision of the entry that is given up
pub record IsRescindCall (k : List ℕ) (create : ℕ) (c : Call) : Type 0 where
  pub kind : c.kind ≡ Rescinds
  pub covers : (j : List ℕ) → c.covers j ≡ same k j
  pub guards : (j : List ℕ) → c.guards j ≡ create

abbrev pub RescindSends : Type 0
RescindSends =
    (v : View) (own : ℕ → ℕ) (c : Call) (k : List ℕ) (e : Entry) (g : Ground) → at g.own.entries k ≡ Some e → is_rescind_due e ≡ true → IsRescindCall k e.create c
    → (j : List ℕ) → SendsAt v c j (row_of own g j) (row_of own (with_own g (record g.own { entries = changed_at g.own.entries k (rescind_sent true) })) j)

-- an acquire covers no key
pub record IsAcquireCall (k : List ℕ) (c : Call) : Type 0 where
  pub kind : c.kind ≡ Acquires
  pub key : c.key ≡ k
  pub covers : (j : List ℕ) → c.covers j ≡ false

-- the key's acquire, as if it weren't spoiled: that it was spoiled while it was due is a turn of its own, behind the sending
abbrev pub unspoiled : List ℕ → Ground → Ground
unspoiled k g = record g { own = record g.own { waits = record g.own.waits { spoiled = changed_at g.own.waits.spoiled k (λ s. false) } } }

abbrev pub sent_ground : ℕ → List ℕ → Ground → Ground
sent_ground call k g = record g { acquires = changed_at g.acquires k (sent_out call) }

abbrev pub AcquireSends : Type 0
AcquireSends =
    (v : View) (own : ℕ → ℕ) (c : Call) (k : List ℕ) (call since : ℕ) (a : Acquire) (g : Ground) → AreMarked g → Fits g.own → at g.acquires k ≡ Some a → a.sending ≡ sending.Due since
    → IsAcquireCall k c → own call ≡ v.sent + 1
    → (j : List ℕ) → SendsAt v c j (row_of own g j) (row_of own (unspoiled k (sent_ground call k g)) j)

-- that turn: the acquire, which is out now, was spoiled while it was due
abbrev pub SpoiledTurns : Type 0
SpoiledTurns = (v : View) (p : ℕ) (own : ℕ → ℕ) (k : List ℕ) (g : Ground) → Rows v p own (unspoiled k g) g
