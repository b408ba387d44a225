use Rattle.std.proofs.Common.{sym, ◌∙◌, subst, map, List, [], ◌∷◌, ◌++◌}
use mathlib.Core.Option.{some}
use Rattle.turn_hub.specs.declared.view.Stowed.{Stowed}
use Rattle.turn_hub.specs.declared.view.Stowed.TheVariants.{Machine}
use Rattle.turn_hub.specs.Views.{starting}
use Rattle.turn_hub.specs.Rule.{Kept}
use Rattle.turn_hub.proofs.Seats.{opens_kept}
use Rattle.turn_hub.proofs.hub.Hub+M.new_at.Goals as goal

pub new-requires-2 : goal.new-requires-2
new-requires-2 g c =
    let P : List (Stowed g.row.M.Denot g.row.M-Event.Denot g.row.M-Outcome.Denot g.row.M-Fault.Denot) → Type 0 = λ l. Kept g.M.Machine.steps c.of.result.value c.args.count (record { words = c.args.count ∷ 0 ∷ []; homes = map some l; views = starting c.of.result.value c.args.count ∷ [] }) in
    let Q : g.row.M.Denot → Type 0 = λ m. P (Machine m ∷ []) in
    let items = c.in_ok-push.ensures.items ∙ (λ i. c.new-slots.ensures.items i ++ Machine c.args.machine ∷ []) in
    subst P (sym items) (subst Q c.of.ensures (opens_kept g.M.Machine.steps c.of.result.value c.args.count c.requires))
