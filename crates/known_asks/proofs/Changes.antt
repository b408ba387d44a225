-- Changes of stages one by one: one more.
use Rattle.std.proofs.Common.{◌≡◌, ℕ, List, [], ◌∷◌, ◌++◌, refl}
use Rattle.read_model.specs.declared.asked.Asked.{Asked}
use Rattle.read_model.specs.declared.asked.Stage.{Stage}
use Rattle.read_model.specs.PlainRead.{in_stage}
use Rattle.known_asks.specs.Asks.{one_changed}
use Rattle.known_asks.specs.Changes.{restaged}

pub restaged-append : (cs : List (ℕ × Stage)) (c : ℕ × Stage) (xs : List Asked) → restaged (cs ++ c ∷ []) xs ≡ one_changed c.0 (in_stage c.1) (restaged cs xs)
restaged-append [] c xs = refl
restaged-append (d ∷ cs) c xs = restaged-append cs c (one_changed d.0 (in_stage d.1) xs)
