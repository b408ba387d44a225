-- Each kind of item by what was tested of it.
use Rattle.std.proofs.Common.{Some, refl, sym, ◌∙◌, ap}
use Rattle.script_text.specs.declared.item.Item.TheVariants as item
use Rattle.world_model.specs.Answers.{seen}
use Rattle.audit_model.specs.declared.fault.AuditFault.TheVariants as fault
use Rattle.audit_text.proofs.Rules.{out_of_order, kept_as, fault_as, makes_as, refused_order, refused_answer, refused_message, on_ok, if_err, others}
use Rattle.audit_text.proofs.made.Made.step.Goals as goal

pub returns-then-not-is_in_order-clause-fault : goal.returns-then-not-is_in_order-clause-fault
returns-then-not-is_in_order-clause-fault c = λ items m g.
    out_of_order items c.args.item.now m.some (sym (c.if-not-is_in_order.ensures items g)) ∙ ap (λ n. Some (fault.Order n)) (sym c.about.ensures)

pub returns-in_ok-open-in-Opened-clause-taken : goal.returns-in_ok-open-in-Opened-clause-taken
returns-in_ok-open-in-Opened-clause-taken c = λ items m g.
    let w = c.in-Opened in (
      kept_as items c.args.item.now (item.Opened w.proxy w.stream w.member w.request) w.is m.some (sym (c.if-not-is_in_order.ensures items g)) refl refl refl,
      makes_as c.open.new.self (seen items) c.args.item.now (item.Opened w.proxy w.stream w.member w.request) w.is (c.in_ok-open-in-Opened.ensures (seen items) m.seen),
    )

pub returns-in-Executed-clause-taken : goal.returns-in-Executed-clause-taken
returns-in-Executed-clause-taken c =
    let w = c.in-Executed in
    on_ok c.execute.result (λ t items m g.
    let x = t items m.seen g in (
      kept_as items c.args.item.now (item.Executed w.call w.answer) w.is m.some (sym (c.if-not-is_in_order.ensures items g)) refl x.0 refl,
      makes_as c.execute.new.self (seen items) c.args.item.now (item.Executed w.call w.answer) w.is x.1,
    )) c.execute.ensures.taken

pub returns-in-Executed-clause-fault : goal.returns-in-Executed-clause-fault
returns-in-Executed-clause-fault c =
    let w = c.in-Executed in
    if_err c.execute.result (λ f r items m g.
    fault_as items c.args.item.now (item.Executed w.call w.answer) f w.is (sym (c.if-not-is_in_order.ensures items g))
    (λ fits. refused_answer items (item.Executed w.call w.answer) f m.some fits refl (r items m.seen g))) c.execute.ensures.fault

pub returns-in-Pushed-clause-taken : goal.returns-in-Pushed-clause-taken
returns-in-Pushed-clause-taken c =
    let w = c.in-Pushed in
    on_ok c.push.result (λ t items m g.
    let x = t (seen items) m.seen in (
      kept_as items c.args.item.now (item.Pushed w.stream w.item) w.is m.some (sym (c.if-not-is_in_order.ensures items g)) refl refl x.0,
      makes_as c.push.new.self (seen items) c.args.item.now (item.Pushed w.stream w.item) w.is x.1,
    )) c.push.ensures.taken

pub returns-in-Pushed-clause-fault : goal.returns-in-Pushed-clause-fault
returns-in-Pushed-clause-fault c =
    let w = c.in-Pushed in
    if_err c.push.result (λ f r items m g.
    fault_as items c.args.item.now (item.Pushed w.stream w.item) f w.is (sym (c.if-not-is_in_order.ensures items g))
    (λ fits. refused_message items (item.Pushed w.stream w.item) f m.some fits refl refl (r (seen items) m.seen))) c.push.ensures.fault

pub returns-in-Expired-clause-taken : goal.returns-in-Expired-clause-taken
returns-in-Expired-clause-taken c =
    let w = c.in-Expired in
    on_ok c.expire.result (λ t items m g.
    let x = t (seen items) m.seen in (
      kept_as items c.args.item.now (item.Expired w.lease) w.is m.some (sym (c.if-not-is_in_order.ensures items g)) x.0 refl refl,
      makes_as c.expire.new.self (seen items) c.args.item.now (item.Expired w.lease) w.is x.1,
    )) c.expire.ensures.taken

pub returns-in-Expired-clause-fault : goal.returns-in-Expired-clause-fault
returns-in-Expired-clause-fault c =
    let w = c.in-Expired in
    if_err c.expire.result (λ f r items m g.
    fault_as items c.args.item.now (item.Expired w.lease) f w.is (sym (c.if-not-is_in_order.ensures items g))
    (λ fits. refused_order items (item.Expired w.lease) f m.some fits (r (seen items) m.seen))) c.expire.ensures.fault

pub returns-in-Applied-clause-taken : goal.returns-in-Applied-clause-taken
returns-in-Applied-clause-taken c =
    let w = c.in-Applied in
    on_ok c.apply.result (λ t items m g.
    let x = t (seen items) m.seen in (
      kept_as items c.args.item.now (item.Applied w.member w.revision) w.is m.some (sym (c.if-not-is_in_order.ensures items g)) x.0 refl refl,
      makes_as c.apply.new.self (seen items) c.args.item.now (item.Applied w.member w.revision) w.is x.1,
    )) c.apply.ensures.taken

pub returns-in-Applied-clause-fault : goal.returns-in-Applied-clause-fault
returns-in-Applied-clause-fault c =
    let w = c.in-Applied in
    if_err c.apply.result (λ f r items m g.
    fault_as items c.args.item.now (item.Applied w.member w.revision) f w.is (sym (c.if-not-is_in_order.ensures items g))
    (λ fits. refused_order items (item.Applied w.member w.revision) f m.some fits (r (seen items) m.seen))) c.apply.ensures.fault

pub returns-in_default : goal.returns-in_default
returns-in_default c =
    let o = c.in_default in
    record {
      taken = λ items m g.
          others items c.args.item.now c.args.self.now o.not-Opened o.not-Executed o.not-Pushed o.not-Expired o.not-Applied m (sym (c.if-not-is_in_order.ensures items g));
      fault = tt;
    }
