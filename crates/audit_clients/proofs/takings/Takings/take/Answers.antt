-- The watch stands behind the message, and no other moves.
use Rattle.std.proofs.Common.{Bool, Option, Some, cond, sym, ◌∙◌, ap, subst}
use Rattle.audit_clients.specs.Takings.{IsTaking, taking_at}
use Rattle.audit_clients.specs.declared.takings.Taking.{Taking}
use Rattle.audit_clients.proofs.Following.{pair_self}
use Rattle.audit_clients.proofs.takings.Takings.take.Goals as goal

pub returns : goal.returns
returns c = record {
  others = λ a b h. c.in_ok-put.ensures a b ∙ ap (λ (t : Bool). cond t (Some c.in_ok-taking.taking) (taking_at c.args.self.now a b)) h;
  own = c.in_ok-taking.taking;
  there = c.in_ok-put.ensures c.args.proxy c.args.ticket
      ∙ ap (λ (t : Bool). cond t (Some c.in_ok-taking.taking) (taking_at c.args.self.now c.args.proxy c.args.ticket)) (pair_self c.args.proxy c.args.ticket);
  now = c.in_ok-taking.ensures.place;
  tracks = λ taken h. c.in_ok-taking.ensures.tracks taken (subst (λ (o : Option Taking). IsTaking o c.args.ask.now taken) (sym c.find.ensures) h);
}
