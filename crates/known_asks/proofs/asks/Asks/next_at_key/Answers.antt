-- By the first one from the mark on.
use Rattle.std.proofs.Common.{Option, subst, sym}
use Rattle.read_model.specs.declared.asked.Asked.{Asked}
use Rattle.known_asks.specs.Alike.{IsNextAlikeOf}
use Rattle.ask_tables.specs.KeyMarks.{by_key}
use Rattle.ask_tables.specs.RowMarks.{has_key}
use Rattle.known_asks.proofs.SideBySide.{next_found, none_is_left}
use Rattle.known_asks.proofs.asks.Asks.next_at_key.Goals as goal

pub returns-in-Some-clause-next : goal.returns-in-Some-clause-next
returns-in-Some-clause-next c =
    subst (λ (o : Option Asked). IsNextAlikeOf (has_key by_key 0 c.args.number) c.args.from o c.args.self.now) (sym c.only_at_key.ensures) (next_found by_key 0 c.args.number c.args.from c.in-Some.ask.now c.args.self.now (rw c.new.ensures at c.in-Some.ensures.next))

pub returns-in-None-clause-next : goal.returns-in-None-clause-next
returns-in-None-clause-next c =
    none_is_left by_key 0 c.args.number c.args.from c.args.self.now (rw c.new.ensures at c.in-None.ensures.next)
