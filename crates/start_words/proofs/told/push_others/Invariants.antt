-- So many hosts stand there.
use Rattle.std.proofs.Common.{◌≡◌, ◌++◌, ◌∷◌, flat_map, take}
use Rattle.start_words.proofs.told.push_others.Given as goal

abbrev pub invariant-loop-host : goal.invariant-loop-host
invariant-loop-host l = l.text.items ≡ l.initial.text.items ++ flat_map (λ other. 44 ∷ other) (take l.host-index l.hosts)
