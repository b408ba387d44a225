-- Writes of single keys whose own keys keep them waiting: then it makes no difference whether earlier ones do, too.
use Rattle.std.specs.Prelude.{◌≡◌, ℕ, Bool, not, ◌&&◌, ◌||◌, List, get_or, is_some}
use Rattle.proxy_model.specs.declared.lease.Entry.{Entry}
use Rattle.proxy_model.specs.Keyed.{Keyed, at}
use Rattle.wait_model.specs.declared.write.Write.{Write}
use Rattle.wait_model.specs.Covers.{is_by_keys, leased}
use Rattle.wait_model.specs.Passes.{turn_if}
use Rattle.wait_model.specs.Phases.{is_leaving}
use Rattle.wait_model.specs.SingleKeys.{any_key}
use Rattle.wait_model.specs.Stages.{is_waiting, stage_on}
use Rattle.revoke_core.specs.Steps.{is_blocked}

-- an acquire of a key is due or out, or an entry leaves and none is given up
abbrev pub keys_keep : Keyed Entry → Keyed Bool → Write → Bool
keys_keep es ss w =
    any_key w (λ k. is_some (at ss k)) || (any_key w (λ k. is_leaving (at es k)) && not (any_key w (leased w.request)))

abbrev pub is_kept : Keyed Entry → Keyed Bool → Write → Bool
is_kept es ss w = is_waiting (stage_on w.stage) && is_by_keys w && keys_keep es ss w

-- the turn of the i-th is as if it were held back or not, as by the earlier ones
abbrev pub StaysAlike : Bool → List Write → ℕ → Keyed Entry → Keyed Bool → Type 0
StaysAlike b ws i es ss = (step : ℕ) (w : Write) → w ≡ get_or ws i w → turn_if step b es ss w ≡ turn_if step (is_blocked ws i) es ss w
