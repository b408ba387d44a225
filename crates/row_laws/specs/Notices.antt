-- What the leasing stream brings, as turns of a proxy's row in the view: a key that is asked for, one whose ownership key is deleted, a
-- whole message, and a stream that begins anew.
use Rattle.std.specs.Prelude.{◌≡◌, ℕ, true, List, [], ◌∷◌, Option}
use Rattle.etcd_types.specs.declared.watch.Change.{Change}
use Rattle.etcd_types.specs.declared.watch.Change.TheVariants as change
use Rattle.etcd_types.specs.declared.watch.Event.{Event}
use Rattle.etcd_types.specs.Keys.{same}
use Rattle.proxy_model.specs.Foreign.{revoke_word}
use Rattle.wait_model.specs.LeasingStream.{resynced, all_given_up}
use Rattle.wait_model.specs.Notices.{delete_noticed, owned_key, all_noticed}
use Rattle.read_model.specs.State.{Ground}
use Rattle.cache_laws.specs.Moves.View.{View}
use Rattle.cache_laws.specs.Moves.Answers.{IsShown}
use Rattle.row_laws.specs.Laws.{Rows, AreMarked, IsLive, with_own}

-- an ownership key was deleted: nothing is asked of the event
abbrev pub DeletesTurn : Type 0
DeletesTurn = (v : View) (p : ℕ) (own : ℕ → ℕ) (k : List ℕ) (revision : ℕ) (g : Ground) → Rows v p own g (with_own g (delete_noticed k revision g.own))

-- a put of the revoking word shows an owner that the view was told of
abbrev pub TellsChange : View → List ℕ → Change → Type 0
TellsChange v prefix (change.Put kv) = same kv.value revoke_word ≡ true → IsShown v (owned_key prefix kv.key) (record { create = kv.create; session = kv.lease })
TellsChange v prefix (change.Delete k revision) = Unit {0}

abbrev pub AreTold : View → List ℕ → List Event → Type 0
AreTold v prefix [] = Unit {0}
AreTold v prefix (e ∷ es) = TellsChange v prefix e.change × AreTold v prefix es

-- a message's events, in order
abbrev pub MessagesTurn : Type 0
MessagesTurn =
    (v : View) (p : ℕ) (own : ℕ → ℕ) (session : Option ℕ) (events : List Event) (g : Ground) → IsLive v p session → AreMarked g → AreTold v g.own.waits.prefix events
    → Rows v p own g (with_own g (all_noticed session events g.own))

-- after the created message from revision 0 all that was found counts as deleted, of which nothing is seen
abbrev pub ResyncTurns : Type 0
ResyncTurns = (v : View) (p : ℕ) (own : ℕ → ℕ) (g : Ground) → Rows v p own g (with_own g (resynced g.own))

-- a cancellation that names a compaction
abbrev pub CancellationTurns : Type 0
CancellationTurns = (v : View) (p : ℕ) (own : ℕ → ℕ) (g : Ground) → Rows v p own g (with_own g (all_given_up g.own))
