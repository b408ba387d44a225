-- It waits for nothing, waits on, or comes to what is seen.
use Rattle.std.proofs.Common.{Some, sym, ◌∙◌, ap}
use Rattle.std.specs.Option.{option_copied}
use Rattle.revoke_core.specs.Readings.{read_entries}
use Rattle.write_answers.specs.Seen.{what}
use Rattle.write_answers.proofs.Views.{idle_stays, seen_stays, seen_comes}
use Rattle.write_answers.proofs.release.After.stage_at.Goals as goal

pub returns-then-not-waits : goal.returns-then-not-waits
returns-then-not-waits c =
    let s = c.args.self.now in
    idle_stays s.header s.step (read_entries s.session s.read.now (option_copied s.write) s.table.now.entries) s.acquires.now c.args.ask.now (sym c.waits.ensures ∙ c.if-not-waits.true)

pub returns-then-stands_by : goal.returns-then-stands_by
returns-then-stands_by c =
    let s = c.args.self.now in
    let es = read_entries s.session s.read.now (option_copied s.write) s.table.now.entries in
    seen_stays s.header s.step es s.acquires.now c.args.ask.now c.args.key.now (what c.seen_after-seen.result) (option_copied c.find.result) c.requires (c.seen_after-seen.ensures s.session) c.find.ensures (sym c.if-stands_by.true ∙ c.stands_by.ensures)

pub returns : goal.returns
returns c =
    let s = c.args.self.now in
    let es = read_entries s.session s.read.now (option_copied s.write) s.table.now.entries in
    ap Some c.in_ok-seen_stage.ensures ∙ seen_comes s.header s.step es s.acquires.now c.args.ask.now c.args.key.now (what c.seen_after-seen.result) (option_copied c.find.result) c.requires (c.seen_after-seen.ensures s.session) c.find.ensures (sym c.if-stands_by.false ∙ c.stands_by.ensures)
