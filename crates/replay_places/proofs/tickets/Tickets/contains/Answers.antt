use Rattle.std.proofs.Common.{◌≡◌, ℕ, ◌<◌, false, sym, ap, ◌∙◌, arith}
use Rattle.std.specs.Prelude.{nat_le}
use Rattle.std.specs.BTreeSet.{BTreeSet}
use Rattle.std.proofs.lemmas.Bool.Decides.{nat_tests}
use Rattle.world_model.specs.Places.{is_among}
use Rattle.replay_places.proofs.Greatest.{not_among}
use Rattle.replay_places.proofs.tickets.Tickets.contains.Goals as goal

pub returns-else-ticket-self : goal.returns-else-ticket-self
returns-else-ticket-self c =
    let less : c.self.inside.most < c.args.ticket = omega (arith, c.if-ticket-self.false) in
    let greater : nat_le c.args.ticket c.self.inside.most ≡ false = grind (arith, nat_tests) in
    greater ∙ sym (not_among c.self.inside.all c.self.inside.most c.args.ticket c.self.invariant less) ∙ ap (λ (s : BTreeSet ℕ). is_among s c.args.ticket) c.self.view_is
