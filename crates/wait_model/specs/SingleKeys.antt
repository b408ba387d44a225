-- Write of one key, and transactions whose writes are of single keys: what is held of these keys is written by its owner,
-- after the acquires and the entries that leave are out of the way. What is put with a lease isn't kept.
use Rattle.std.specs.Prelude.{ℕ, Bool, ◌&&◌, if◌then◌else◌, List, is_some}
use Rattle.std.specs.List.{list_any}
use Rattle.proxy_model.specs.declared.lease.Entry.{Entry}
use Rattle.proxy_model.specs.Keyed.{Keyed, at}
use Rattle.wait_model.specs.declared.write.Write.{Write}
use Rattle.wait_model.specs.Covers.{covers, leased}
use Rattle.wait_model.specs.Edits.{each}
use Rattle.wait_model.specs.Phases.{is_leaving, let_go, begun}
use Rattle.wait_model.specs.Stages.{gone_on}

-- One write's turn: what stands after it.
pub record Turn : Type 0 where
  pub entries : Keyed Entry
  pub spoiled : Keyed Bool
  pub write : Write

abbrev pub let_go_leased : Write → List ℕ → Entry → Entry
let_go_leased w k e = if covers w k && leased w.request k then let_go e else e

abbrev pub begun_over : Write → List ℕ → Entry → Entry
begun_over w k e = if covers w k then begun e else e

-- some key of a write of single keys passes the test
abbrev pub any_key : Write → (List ℕ → Bool) → Bool
any_key w p = list_any (λ r. p r.key) w.ranges

-- it waits where an entry of its keys leaves; else its call is due, as the owner's where there is an entry
abbrev pub keys_begun : ℕ → Keyed Entry → Keyed Bool → Write → Turn
keys_begun step es ss w =
    if any_key w (λ k. is_leaving (at es k)) then record { entries = es; spoiled = ss; write = w }
    else record { entries = each (begun_over w) es; spoiled = ss; write = gone_on step (any_key w (λ k. is_some (at es k))) w }

-- it waits where an acquire of its keys is due or out; else what it puts with a lease is given up first
abbrev pub by_keys : ℕ → Keyed Entry → Keyed Bool → Write → Turn
by_keys step es ss w =
    if any_key w (λ k. is_some (at ss k)) then record { entries = es; spoiled = ss; write = w }
    else keys_begun step (each (let_go_leased w) es) ss w
