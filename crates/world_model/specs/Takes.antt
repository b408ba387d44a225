-- A client takes the next message of its watch, or leaves. Both look for the ticket before the proxy makes a step.
use Rattle.std.specs.Prelude.{ℕ, Bool, true, false, [], ◌∷◌, is_some}
use Rattle.core_model.specs.declared.event.CoreEvent.TheVariants as event
use Rattle.core_model.specs.declared.event.Outcome.{Outcome}
use Rattle.core_model.specs.declared.event.Outcome.TheVariants as outcome
use Rattle.core_model.specs.Lookups.{is_known}
use Rattle.script_text.specs.declared.item.Item.TheVariants as item
use Rattle.watch_model.specs.Lookups.{watch_at}
use Rattle.world_model.specs.declared.fault.WorldFault.TheVariants as fault
use Rattle.world_model.specs.Gains.{taken_items, gained}
use Rattle.world_model.specs.State.{Place, World}
use Rattle.world_model.specs.Steps.{Step, refuses, at_place, steps}

abbrev pub is_watch : ℕ → Place → Bool
is_watch ticket x = is_some (watch_at ticket x.core.watches.watches)

abbrev pub took : World → ℕ → ℕ → Place → Outcome → Step
took w p ticket x (outcome.Item i) = gained w p x (taken_items p x.posted ticket i) []
took w p ticket x _ = gained w p x (item.Pending p ticket ∷ []) []

abbrev pub taken_if : World → ℕ → ℕ → Place → Bool → Step
taken_if w p ticket x false = refuses w (fault.NoSuchTicket ticket)
taken_if w p ticket x true = steps w p x (event.Take ticket) (fault.NoSuchTicket ticket) (took w p ticket)

abbrev pub taken_at : World → ℕ → ℕ → Place → Step
taken_at w p ticket x = taken_if w p ticket x (is_watch ticket x)

abbrev pub message_taken : World → ℕ → ℕ → Step
message_taken w p ticket = at_place w p (taken_at w p ticket)

abbrev pub has_left : World → ℕ → ℕ → Place → Outcome → Step
has_left w p ticket x o = gained w p x (item.Left p ticket ∷ []) []

abbrev pub left_if : World → ℕ → ℕ → Place → Bool → Step
left_if w p ticket x false = refuses w (fault.NoSuchTicket ticket)
left_if w p ticket x true = steps w p x (event.Leave ticket) (fault.NoSuchTicket ticket) (has_left w p ticket)

abbrev pub left_at : World → ℕ → ℕ → Place → Step
left_at w p ticket x = left_if w p ticket x (is_known ticket x.core)

abbrev pub left : World → ℕ → ℕ → Step
left w p ticket = at_place w p (left_at w p ticket)
