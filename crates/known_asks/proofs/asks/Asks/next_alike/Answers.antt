-- It is the first one of that kin.
use Rattle.std.proofs.Common.{sym, subst}
use Rattle.std.specs.Option.{option_copied}
use Rattle.known_asks.specs.Alike.{IsNextAlikeOf, is_kin}
use Rattle.known_asks.specs.declared.kin.Kin.{Kin}
use Rattle.known_asks.proofs.asks.Asks.next_alike.Goals as goal

pub returns-in-Stage-clause-next : goal.returns-in-Stage-clause-next
returns-in-Stage-clause-next c =
    subst (λ (k : Kin). IsNextAlikeOf (is_kin k) c.args.from (option_copied c.next_by_stage.result) c.args.self.now) (sym c.in-Stage.is) c.next_by_stage.ensures.next

pub returns-in-Key-clause-next : goal.returns-in-Key-clause-next
returns-in-Key-clause-next c =
    subst (λ (k : Kin). IsNextAlikeOf (is_kin k) c.args.from (option_copied c.next_at_key.result) c.args.self.now) (sym c.in-Key.is) c.next_at_key.ensures.next
