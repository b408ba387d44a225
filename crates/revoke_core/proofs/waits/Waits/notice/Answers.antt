-- The parts of a message's end are those of the definition; the writes stay proper.
use Rattle.std.proofs.Common.{◌∙◌, ap}
use Rattle.wait_model.specs.Notices.{all_noticed}
use Rattle.wait_model.specs.State.{Waits, owned}
use Rattle.revoke_core.specs.contracts.waits.Waits.{the_view}
use Rattle.revoke_core.proofs.NoticeParts.{notice_waits, notice_entries, told_proper}
use Rattle.revoke_core.proofs.waits.Waits.notice.Goals as goal

pub invariant_of-self : goal.invariant_of-self
invariant_of-self c =
    record {
      proper = rw c.take_all.ensures.writes (told_proper c.args.session c.in_ok-notices.notices.items (record { entries = c.reserve.new.self.entries; spoiled = c.self.inside.spoiled; writes = c.self.inside.writes.items }) c.self.invariant.proper);
      left = tt;
    }

pub returns-clause-waits : goal.returns-clause-waits
returns-clause-waits c =
    let w : Waits = the_view c.self.inside in
    let es = c.args.table.now.entries in
    notice_waits c.args.session c.args.events.now (owned es w) c.reserve.new.self.entries c.in_ok-notices.notices.items c.take_all.new.spoiled c.take_all.new.writes.items c.in_ok-reserve.ensures.entries c.in_ok-notices.ensures c.take_all.ensures.spoiled c.take_all.ensures.writes ∙ ap (λ (v : Waits). (all_noticed c.args.session c.args.events.now (owned es v)).waits) c.self.view_is

pub returns-clause-entries : goal.returns-clause-entries
returns-clause-entries c =
    let w : Waits = the_view c.self.inside in
    let es = c.args.table.now.entries in
    notice_entries c.args.session c.args.events.now (owned es w) c.reserve.new.self.entries c.take_all.new.table.entries c.in_ok-notices.notices.items c.in_ok-reserve.ensures.entries c.in_ok-notices.ensures c.take_all.ensures.entries ∙ ap (λ (v : Waits). (all_noticed c.args.session c.args.events.now (owned es v)).entries) c.self.view_is
