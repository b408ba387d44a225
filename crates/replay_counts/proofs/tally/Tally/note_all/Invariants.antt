use Rattle.std.proofs.Common.{◌≡◌, drop}
use Rattle.replay_counts.specs.Tallies.{noted_all}
use Rattle.replay_counts.proofs.tally.Tally.note_all.Given as goal

-- what is left to note, from here
abbrev pub invariant-loop-item : goal.invariant-loop-item
invariant-loop-item l = noted_all l.self (drop l.item-index l.items) ≡ noted_all l.initial.self l.items
