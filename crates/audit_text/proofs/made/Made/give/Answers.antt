-- Each kind of item by what was tested of it.
use Rattle.std.proofs.Common.{sym, ◌∙◌}
use Rattle.script_text.specs.declared.item.Item.TheVariants as item
use Rattle.world_model.specs.Answers.{seen}
use Rattle.audit_text.proofs.Clients.{replied, not_replied, taken, not_taken, expires, early, others}
use Rattle.audit_text.proofs.Rules.{makes_as, on_ok, if_err}
use Rattle.audit_text.proofs.made.Made.give.Goals as goal

pub returns-in-Reply-clause-taken : goal.returns-in-Reply-clause-taken
returns-in-Reply-clause-taken c =
    let w = c.in-Reply in
    let i = c.args.item.now in
    let j = item.Reply w.proxy w.ticket w.answer in
    on_ok c.reply.result (λ t items m g.
    let x = t items (makes_as c.args.self.now (seen items) j i (sym w.is) m) g in
    (replied items i w.proxy w.ticket w.answer w.is x.0, makes_as c.reply.new.self (seen items) i j w.is x.1)) c.reply.ensures.taken

pub returns-in-Reply-clause-fault : goal.returns-in-Reply-clause-fault
returns-in-Reply-clause-fault c =
    let w = c.in-Reply in
    let i = c.args.item.now in
    let j = item.Reply w.proxy w.ticket w.answer in
    if_err c.reply.result (λ f r items m g.
    not_replied items i w.proxy w.ticket w.answer f w.is (r items (makes_as c.args.self.now (seen items) j i (sym w.is) m) g)) c.reply.ensures.fault

pub returns-in-Taken-clause-taken : goal.returns-in-Taken-clause-taken
returns-in-Taken-clause-taken c =
    let w = c.in-Taken in
    let i = c.args.item.now in
    let j = item.Taken w.proxy w.ticket w.item in
    on_ok c.take.result (λ t items m g.
    let x = t items (makes_as c.args.self.now (seen items) j i (sym w.is) m) g in
    (taken items i w.proxy w.ticket w.item w.is x.0, makes_as c.take.new.self (seen items) i j w.is x.1)) c.take.ensures.taken

pub returns-in-Taken-clause-fault : goal.returns-in-Taken-clause-fault
returns-in-Taken-clause-fault c =
    let w = c.in-Taken in
    let i = c.args.item.now in
    let j = item.Taken w.proxy w.ticket w.item in
    if_err c.take.result (λ f r items m g.
    not_taken items i w.proxy w.ticket w.item f w.is (r items (makes_as c.args.self.now (seen items) j i (sym w.is) m) g)) c.take.ensures.fault

pub returns-in-Expired-clause-taken : goal.returns-in-Expired-clause-taken
returns-in-Expired-clause-taken c =
    let w = c.in-Expired in
    let i = c.args.item.now in
    on_ok c.end.result (λ t items m g. (expires items i w.lease w.is ∙ t items g, m)) c.end.ensures.taken

pub returns-in-Expired-clause-fault : goal.returns-in-Expired-clause-fault
returns-in-Expired-clause-fault c =
    let w = c.in-Expired in
    if_err c.end.result (λ f r items m g. early items c.args.item.now w.lease f w.is (r items g)) c.end.ensures.fault

pub returns-in_default : goal.returns-in_default
returns-in_default c =
    let o = c.in_default in
    record {
      taken = λ items m g. (others items c.args.item.now o.not-Reply o.not-Taken o.not-Expired, m);
      fault = tt;
    }
