-- What a worker works with: that it stays the same, and what it tells at a moment.
use Rattle.std.specs.Prelude.{◌≡◌, ℕ, List, Option}
use Rattle.outside.specs.Calls.{LinkCall, Handed}
use Rattle.server_model.specs.Steps.{Step}
use Rattle.server_model.specs.Working.{Ledger, ledger}
use Rattle.proxy_workers.specs.declared.desk.Desk.{Desk}

-- it has the same turn, clock, link and spawner
pub record IsSame {T C L P : Type 0} (old new : Desk T C L P) : Type 0 where
  pub turn : new.turn.ghost_name ≡ old.turn.ghost_name
  pub clock : new.clock.ghost_name ≡ old.clock.ghost_name
  pub link : new.link.ghost_name ≡ old.link.ghost_name
  pub spawner : new.spawner.ghost_name ≡ old.spawner.ghost_name

-- what its turn, link and spawner tell, and how often the latter two have failed
abbrev pub told_by : {T C L P Q : Type 0} → (T → Option (List Step)) → (L → Option (List LinkCall)) → (P → Option (List (Handed Q))) → (L → ℕ) → (P → ℕ) → Desk T C L P → Ledger Q
told_by made calls handed link_faults spawner_faults desk =
    ledger (made desk.turn.now) (calls desk.link.now) (handed desk.spawner.now) (link_faults desk.link.now) (spawner_faults desk.spawner.now)
