use Rattle.std.proofs.Common.{◌∙◌, Ok, Err}
use Rattle.turn_hub.specs.declared.view.Note.{Note}
use Rattle.turn_hub.specs.declared.view.Stowed.TheVariants.{Noted}
use Rattle.turn_hub.specs.History.{entry_of}
use Rattle.turn_hub.proofs.Made.{makes_step, stops_step}
use Rattle.turn_hub.proofs.step.step_as.Goals as goal

pub give_back-requires-2-clause-carried : goal.give_back-requires-2-clause-carried
give_back-requires-2-clause-carried g c =
    let note : Note g.row.M.Denot g.row.M-Event.Denot g.row.M-Outcome.Denot g.row.M-Fault.Denot = record { machine = c.of.result; event = c.of-asked.result; now = c.now-now.result; answer = c.of-2.result } in
    (Noted note, λ i. (c.raise.ensures.me i).1)

pub returns-then-look-ge-MOST-clause-fault : goal.returns-then-look-ge-MOST-clause-fault
returns-then-look-ge-MOST-clause-fault g c =
    stops_step g.M.Machine.steps c.args.board.now.table_id c.args.board.now.key c.args.seat.now.me.0 c.take_turn-machine.new.seat.me.0 c.look.new.seat.me.0 c.give_back.new.seat.me.0
    c.take_turn-machine.result c.look.result c.requires.rests.stands.within (λ i. (c.take_turn-machine.ensures.me i).0) c.look.ensures.looked c.look.ensures.sits.counts (λ i. (c.give_back.ensures.me i).0) c.if-look-ge-MOST.true

pub returns-in-Ok-clause-outcome : goal.returns-in-Ok-clause-outcome
returns-in-Ok-clause-outcome g c =
    let note : Note g.row.M.Denot g.row.M-Event.Denot g.row.M-Outcome.Denot g.row.M-Fault.Denot = record { machine = c.of.result; event = c.of-asked.result; now = c.now-now.result; answer = c.of-2.result } in
    makes_step g.M.Machine.steps c.args.board.now.table_id c.args.board.now.key c.args.seat.now.me.0 c.take_turn-machine.new.seat.me.0 c.look.new.seat.me.0 c.raise.new.seat.me.0 c.give_back-2.new.seat.me.0
    c.take_turn-machine.result c.look.result note c.args.event (g.C.Clock.last c.now-now.new.self) (Ok c.in-Ok.outcome)
    c.requires.rests.stands.within (λ i. (c.take_turn-machine.ensures.me i).0) c.look.ensures.looked c.look.ensures.sits.counts (λ i. (c.raise.ensures.me i).0) c.raise.ensures.added (λ i. (c.give_back-2.ensures.me i).0)
    (λ i. entry_of (c.of-asked.ensures i) (c.now-now.ensures.reading i) ((c.of-2.ensures ∙ c.in-Ok.is) i))

pub returns-in-Err-clause-fault : goal.returns-in-Err-clause-fault
returns-in-Err-clause-fault g c =
    let note : Note g.row.M.Denot g.row.M-Event.Denot g.row.M-Outcome.Denot g.row.M-Fault.Denot = record { machine = c.of.result; event = c.of-asked.result; now = c.now-now.result; answer = c.of-2.result } in
    makes_step g.M.Machine.steps c.args.board.now.table_id c.args.board.now.key c.args.seat.now.me.0 c.take_turn-machine.new.seat.me.0 c.look.new.seat.me.0 c.raise.new.seat.me.0 c.give_back-2.new.seat.me.0
    c.take_turn-machine.result c.look.result note c.args.event (g.C.Clock.last c.now-now.new.self) (Err c.in-Err.fault)
    c.requires.rests.stands.within (λ i. (c.take_turn-machine.ensures.me i).0) c.look.ensures.looked c.look.ensures.sits.counts (λ i. (c.raise.ensures.me i).0) c.raise.ensures.added (λ i. (c.give_back-2.ensures.me i).0)
    (λ i. entry_of (c.of-asked.ensures i) (c.now-now.ensures.reading i) ((c.of-2.ensures ∙ c.in-Err.is) i))
