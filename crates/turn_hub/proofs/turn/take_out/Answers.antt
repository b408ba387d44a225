use Rattle.std.proofs.Common.{sym, ◌∙◌, ◌∷◌}
use Rattle.atomic_table.specs.Table.{rest}
use Rattle.turn_hub.specs.declared.view.Stowed.TheVariants.{Machine}
use Rattle.turn_hub.proofs.turn.take_out.Goals as goal

pub exchange-requires : goal.exchange-requires
exchange-requires g c =
    let there = c.requires.there in
    (c.requires.sits.at_table, (Machine there.0, there.1 ∙ (λ i. (0, Machine there.0) ∷ rest (sym there.1 i))))
