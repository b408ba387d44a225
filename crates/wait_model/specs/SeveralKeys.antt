-- Write of several keys, with a range among them: all that it covers is given up, and it waits until nothing of that is left.
use Rattle.std.specs.Prelude.{ℕ, Bool, false, ◌||◌, if◌then◌else◌, List}
use Rattle.std.specs.List.{list_any}
use Rattle.proxy_model.specs.declared.lease.Entry.{Entry}
use Rattle.proxy_model.specs.Keyed.{Keyed}
use Rattle.proxy_model.specs.LeaseTable.{given_up}
use Rattle.wait_model.specs.declared.write.Write.{Write}
use Rattle.wait_model.specs.Covers.{covers}
use Rattle.wait_model.specs.Edits.{each}
use Rattle.wait_model.specs.SingleKeys.{Turn}
use Rattle.wait_model.specs.Stages.{gone_on}

abbrev pub given_up_over : Write → List ℕ → Entry → Entry
given_up_over w k e = if covers w k then given_up e else e

abbrev pub spoiled_over : Write → List ℕ → Bool → Bool
spoiled_over w k s = covers w k || s

abbrev pub any_covered : {A : Type 0} → Write → Keyed A → Bool
any_covered w es = list_any (λ e. covers w e.0) es

abbrev pub ranges_begun : ℕ → Keyed Entry → Keyed Bool → Write → Turn
ranges_begun step es ss w =
    record { entries = es; spoiled = ss; write = if any_covered w es || any_covered w ss then w else gone_on step false w }

abbrev pub by_ranges : ℕ → Keyed Entry → Keyed Bool → Write → Turn
by_ranges step es ss w = ranges_begun step (each (given_up_over w) es) (each (spoiled_over w) ss) w
