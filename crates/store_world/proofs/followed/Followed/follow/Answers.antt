-- Of a watch that is new nothing is noted but that no revision is below 2.
use Rattle.std.proofs.Common.{◌++◌, ◌∷◌, [], List, sym, subst, ap, ◌∙◌}
use Rattle.std.specs.List.{All}
use Rattle.store_world.specs.declared.followed.Looked.{Looked}
use Rattle.store_world.specs.Looked.{IsLooked}
use Rattle.store_world.proofs.LookedLemmas.{all_followed}
use Rattle.store_world.proofs.followed.Followed.follow.Goals as goal

pub invariant_of-self-2 : goal.invariant_of-self-2
invariant_of-self-2 c =
    let index = c.self.inside.index in
    let new = c.in_ok-push.ensures.items ∙ ap (λ (ls : List Looked). ls ++ record { ask = c.in_ok-ask.ask; from = 2; to = 2 } ∷ []) c.truncate.ensures.items in
    subst (λ (ls : List Looked). All (IsLooked index) ls) (sym new) (all_followed index c.self.inside.looked.items c.place_of.result c.in_ok-ask.ask c.self.invariant)
