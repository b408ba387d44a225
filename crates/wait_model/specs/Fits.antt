-- What holds of each key, of its entry, its acquire and the writes that cover it; and what a waiting write waits for.
use Rattle.std.specs.Prelude.{◌≡◌, ℕ, Bool, true, false, not, ◌&&◌, ◌||◌, if◌then◌else◌, List, [], ◌∷◌, Option, is_some}
use Rattle.std.specs.List.{list_any, list_all}
use Rattle.etcd_types.specs.declared.request.Request.{Request}
use Rattle.etcd_types.specs.declared.request.Request.TheVariants as request
use Rattle.proxy_model.specs.declared.lease.Entry.{Entry}
use Rattle.proxy_model.specs.Keyed.{Keyed, at}
use Rattle.proxy_model.specs.LeaseTable.{is_writing}
use Rattle.wait_model.specs.declared.write.Write.{Write}
use Rattle.wait_model.specs.declared.write.WriteStage.{WriteStage}
use Rattle.wait_model.specs.declared.write.WriteStage.TheVariants.{Waiting}
use Rattle.wait_model.specs.State.{Ownership}
use Rattle.wait_model.specs.Covers.{covers, shares, is_by_keys}
use Rattle.wait_model.specs.Phases.{is_leaving}
use Rattle.wait_model.specs.Stages.{is_waiting, is_owner}

-- no write of the list that covers the key is active
abbrev pub is_quiet : List ℕ → List Write → Bool
is_quiet k [] = true
is_quiet k (w ∷ ws) = if covers w k then is_waiting w.stage && is_quiet k ws else is_quiet k ws

-- of the writes that cover the key, only the first may be active
abbrev pub only_first : List ℕ → List Write → Bool
only_first k [] = true
only_first k (w ∷ ws) = if covers w k then is_quiet k ws else only_first k ws

-- the stage of the first write that covers the key
abbrev pub stage_over : List ℕ → List Write → WriteStage
stage_over k [] = Waiting
stage_over k (w ∷ ws) = if covers w k then w.stage else stage_over k ws

-- what stands at a key beside the stage of the first write over it
pub record StageOk (e : Option Entry) (s : Option Bool) (stage : WriteStage) : Type 0 where
  -- no acquire is due or out where there is an entry
  pub apart : is_some s ≡ true → is_some e ≡ false
  -- nor beside an active write
  pub free : is_waiting stage ≡ false → is_some s ≡ false
  -- an entry that is written has its owner write
  pub writer : is_writing e ≡ true → is_owner stage ≡ true

pub record KeyOk (e : Option Entry) (s : Option Bool) (ws : List Write) (k : List ℕ) : Type 0 where
  pub only : only_first k ws ≡ true
  pub ok : StageOk e s (stage_over k ws)

abbrev pub Fits : Ownership → Type 0
Fits own = (k : List ℕ) → KeyOk (at own.entries k) (at own.waits.spoiled k) own.waits.writes k

-- What a waiting write waits for.

-- an acquire of the key, or a leaving entry, holds a write of it back
abbrev pub is_held_back : Option Entry → Option Bool → Bool
is_held_back e s = is_some s || is_leaving e

-- where no earlier write shares a key with it, something holds it back at one of its keys
abbrev pub HasCause : List Write → Keyed Entry → Keyed Bool → Write → Type 0
HasCause earlier es ss w =
    is_waiting w.stage ≡ true → list_any (shares w) earlier ≡ false → (k : List ℕ) × (covers w k ≡ true) × (is_held_back (at es k) (at ss k) ≡ true)

abbrev pub AllHaveCause : List Write → Keyed Entry → Keyed Bool → List Write → Type 0
AllHaveCause earlier es ss [] = Unit {0}
AllHaveCause earlier es ss (w ∷ ws) = HasCause earlier es ss w × AllHaveCause (w ∷ earlier) es ss ws

abbrev pub IsSettled : Ownership → Type 0
IsSettled own = AllHaveCause [] own.entries own.waits.spoiled own.waits.writes

-- What holds of each write by itself.

abbrev pub is_write : Request → Bool
is_write (request.Put ask) = true
is_write (request.Delete ask) = true
is_write (request.Txn t) = true
is_write _ = false

-- it is a put, a delete or a transaction, and compares entries of this proxy only where it writes single keys
abbrev pub is_proper : Write → Bool
is_proper w = is_write w.request && (is_by_keys w || not (is_owner w.stage))

abbrev pub are_proper : List Write → Bool
are_proper ws = list_all is_proper ws
