-- What a pass has seen of its hub's history.
use Rattle.std.specs.Prelude.{ℕ, ◌+◌, ◌^◌, ◌==◌, Bool, length}
use Rattle.turn_hub.specs.History.{Begins}
use Rattle.turn_hub.specs.Known.{Known, base_of}
use Rattle.turn_hub.specs.Steps.{IsAllowed}
use Rattle.turn_hub.specs.declared.view.Opening.{Opening}
use Rattle.core_model.specs.State.{Core}
use Rattle.server_model.specs.Steps.{Step}
use Rattle.proxy_core.specs.Faults.{CoreSteps}

-- the hub has made its last step, and the pass has seen it
abbrev pub is_at_limit : Known (Opening Core) Step → Bool
is_at_limit pass = length pass.seen + base_of pass.hub == 2 ^ 62

-- it has seen a history that the core allows
abbrev pub IsSound : Known (Opening Core) Step → Type 0
IsSound pass = IsAllowed CoreSteps pass

-- the same, and it begins with all that was seen before
abbrev pub Grows : Known (Opening Core) Step → Known (Opening Core) Step → Type 0
Grows before after = IsSound after × Begins before.seen after.seen
