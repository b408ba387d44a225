use Rattle.std.proofs.Common.{ℕ, List, [], ◌∷◌, ◌++◌, refl, ◌∙◌, ap}
use Rattle.store_index.proofs.PartLemmas.{piece_pushed, parts_pushed}
use Rattle.store_index.proofs.places.Places.push.Goals as goal

pub invariant_of-self-in-Ok : goal.invariant_of-self-in-Ok
invariant_of-self-in-Ok c =
    piece_pushed c.self.inside.ends c.push.new.self _ c.self.inside.keys c.args.keys.now c.push_all.new.self c.self.invariant c.in-Ok.ensures.ok c.in_ok-push_all.ensures.ok refl

pub returns-in-Ok-clause-ok : goal.returns-in-Ok-clause-ok
returns-in-Ok-clause-ok c =
    parts_pushed c.self.inside.ends c.push.new.self _ c.self.inside.keys c.args.keys.now c.push_all.new.self c.self.invariant c.in-Ok.ensures.ok c.in_ok-push_all.ensures.ok refl
    ∙ ap (λ (ks : List (List (List ℕ))). ks ++ c.args.keys.now ∷ []) c.self.view_is
