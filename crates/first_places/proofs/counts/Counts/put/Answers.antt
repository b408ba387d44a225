-- The count of the pair is the new one, and no other changes.
use Rattle.std.proofs.Common.{Bool, List, ℕ, Some, cond, ◌∙◌, ap}
use Rattle.first_places.specs.Counts.{counted_at}
use Rattle.first_places.specs.Places.{is_pair}
use Rattle.first_places.proofs.Kept.{pair_tied}
use Rattle.first_places.proofs.counts.Counts.put.Goals as goal

pub returns : goal.returns
returns c = λ a b. c.in_ok-insert.ensures.updates.0 (a, b)
    ∙ ap (λ (t : Bool). cond t (Some (c.args.place, c.args.count)) (counted_at c.self.inside.map.entries a b)) (pair_tied c.args.whose c.args.number a b)
    ∙ ap (λ (kept : List ((ℕ × ℕ) × (ℕ × ℕ))). cond (is_pair (Some (c.args.whose, c.args.number)) a b) (Some (c.args.place, c.args.count)) (counted_at kept a b)) c.self.view_is
