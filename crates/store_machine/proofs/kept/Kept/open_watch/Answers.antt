-- The watch was opened.
use Rattle.store_machine.proofs.Parts.{first_member, opened_so}
use Rattle.store_machine.proofs.kept.Kept.open_watch.Goals as goal

pub open_watch-requires : goal.open_watch-requires
open_watch-requires c = first_member c.args.self.now.store

pub returns-clause-ok : goal.returns-clause-ok
returns-clause-ok c = λ s h. opened_so c.args.self.now c.open_watch.new.self c.args.ask.now c.in_ok-number.number s c.in_ok-number.ensures.step h
