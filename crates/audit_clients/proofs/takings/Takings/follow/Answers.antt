-- A watch takes a message, or none does.
use Rattle.std.proofs.Common.{sym, ◌∙◌, ap}
use Rattle.std.specs.Option.{option_copied}
use Rattle.audit_clients.specs.Takings.{asked_watch}
use Rattle.audit_clients.proofs.Following.{follows_other, follows_watch, no_watch_follows}
use Rattle.audit_clients.proofs.takings.Takings.follow.Goals as goal

pub returns-in_ok-take-in-Some : goal.returns-in_ok-take-in-Some
returns-in_ok-take-in-Some c = λ items t e s f.
    let w = c.in-Taken in
    follows_watch items c.args.item.now w.proxy w.ticket c.life_start-start.result c.count.result _ w.message c.args.self.now c.take.new.self w.is e s f
    (ap asked_watch (sym (c.asked_as.ensures items t)) ∙ sym c.watch_of.ensures ∙ ap option_copied c.in-Some.is)
    (c.life_start-start.ensures items t) (c.count.ensures items t) c.in_ok-take-in-Some.ensures

pub returns-in-None : goal.returns-in-None
returns-in-None c = λ items t e s f.
    let w = c.in-Taken in
    absurd (no_watch_follows items c.args.item.now w.proxy w.ticket w.message w.is e (ap asked_watch (sym (c.asked_as.ensures items t)) ∙ sym c.watch_of.ensures ∙ ap option_copied c.in-None.is))

pub returns-in_default : goal.returns-in_default
returns-in_default c = λ items t e s f. follows_other items c.args.item.now c.args.self.now c.in_default.not-Taken e f
