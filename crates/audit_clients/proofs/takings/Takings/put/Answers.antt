-- What is kept for the pair is the new one, and no other changes.
use Rattle.std.proofs.Common.{Bool, List, ℕ, Some, cond, ◌∙◌, ap}
use Rattle.first_places.specs.Places.{is_pair}
use Rattle.first_places.proofs.Kept.{pair_tied}
use Rattle.audit_clients.specs.Takings.{taking_at}
use Rattle.audit_clients.specs.declared.takings.Taking.{Taking}
use Rattle.audit_clients.proofs.takings.Takings.put.Goals as goal

pub returns : goal.returns
returns c = λ a b. c.in_ok-insert.ensures.updates.0 (a, b)
    ∙ ap (λ (t : Bool). cond t (Some c.args.taking) (taking_at c.self.inside.map.entries a b)) (pair_tied c.args.proxy c.args.ticket a b)
    ∙ ap (λ (kept : List ((ℕ × ℕ) × Taking)). cond (is_pair (Some (c.args.proxy, c.args.ticket)) a b) (Some c.args.taking) (taking_at kept a b)) c.self.view_is
