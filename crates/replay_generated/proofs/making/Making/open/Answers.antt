-- The world begins, and its first item is counted.
use Rattle.std.proofs.Common.{◌∷◌, [], ◌∙◌, ap}
use Rattle.replay_counts.specs.declared.tally.Tally.{Tally}
use Rattle.replay_counts.specs.Tallies.{no_tally, noted_all}
use Rattle.replay_generated.proofs.Begun.{begun_so}
use Rattle.script_text.specs.declared.item.Item.{Item}
use Rattle.replay_generated.proofs.making.Making.open.Goals as goal

pub returns : goal.returns
returns g c =
    begun_so _ _ c.in_ok-items.items c.args.number c.in_ok-world.ensures (c.in_ok-items.ensures ∙ ap (λ (i : Item). i ∷ []) c.in_ok-item.ensures)
    (c.in_ok-note_all.ensures ∙ ap (λ (t : Tally). noted_all t c.as_slice.result.now) c.new-tally.ensures ∙ ap (noted_all no_tally) c.as_slice.ensures)
