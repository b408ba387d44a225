-- A key that a proxy acquires or holds, and what leaves it alone: no write is over it, the revoking word doesn't come for it, and no deletion
-- of its ownership key that is later than the ownership (the leasing cache of etcd's clientv3).
use Rattle.std.specs.Prelude.{◌≡◌, ℕ, ◌==◌, Bool, true, false, nat_lt, List, [], ◌∷◌, Option, None, Some}
use Rattle.std.specs.List.{list_any}
use Rattle.etcd_types.specs.declared.watch.Change.{Change}
use Rattle.etcd_types.specs.declared.watch.Change.TheVariants as change
use Rattle.etcd_types.specs.declared.watch.Event.{Event}
use Rattle.etcd_types.specs.Keys.{same}
use Rattle.proxy_model.specs.Foreign.{revoke_word}
use Rattle.wait_model.specs.declared.write.Write.{Write}
use Rattle.wait_model.specs.Covers.{covers}
use Rattle.wait_model.specs.Notices.{owned_key}
use Rattle.core_model.specs.State.{Seat}

-- the session has this number
abbrev pub seat_is : ℕ → Option Seat → Bool
seat_is n None = false
seat_is n (Some s) = s.session.number == n

-- no write is over the key
abbrev pub NoneOver : List ℕ → List Write → Type 0
NoneOver k ws = list_any (λ w. covers w k) ws ≡ false

-- `watched` where the key is being acquired or held, `held` where it is held, since this create revision
abbrev pub Spares : List ℕ → Bool → Bool → ℕ → List ℕ → Change → Type 0
Spares k watched held create prefix (change.Put kv) = watched ≡ true → same kv.value revoke_word ≡ true → same (owned_key prefix kv.key) k ≡ false
Spares k watched held create prefix (change.Delete j revision) = held ≡ true → same (owned_key prefix j) k ≡ true → nat_lt create revision ≡ false

abbrev pub AllSpare : List ℕ → Bool → Bool → ℕ → List ℕ → List Event → Type 0
AllSpare k watched held create prefix [] = Unit {0}
AllSpare k watched held create prefix (e ∷ es) = Spares k watched held create prefix e.change × AllSpare k watched held create prefix es
