-- The next line is a message, or why none comes.
use Rattle.std.proofs.Common.{None, sym, ap, ◌∙◌}
use Rattle.json_model.specs.WatchItems.{item_of}
use Rattle.server_model.proofs.Follows.{body_ended, no_line, message_came, no_message, not_read, nexts_as}
use Rattle.proxy_streams.proofs.Faults.{cause_of, unreadable_as}
use Rattle.proxy_streams.proofs.next.next.Goals as goal

pub returns-in-Ok-None-clause-nexts : goal.returns-in-Ok-None-clause-nexts
returns-in-Ok-None-clause-nexts g c =
    nexts_as c.args.most _ c.args.framing.now _ None _ _ c.cut_at.result _ c.cut_at.ensures (body_ended c.args.most _ _ _ _ _ _ c.in-Ok-None.field-0 c.in-Ok-None.field-0-is (c.in-Ok-None.ensures.read c.requires.sound))

pub returns-in-Err-clause-nexts : goal.returns-in-Err-clause-nexts
returns-in-Err-clause-nexts g c =
    no_line c.args.most _ _ _ _ _ _ c.in-Err.fault c.stop_by.result c.stop_by.ensures (cause_of _ c.in-Err.fault _ _ (c.in-Err.ensures.cause c.requires.sound)) (c.in-Err.ensures.read c.requires.sound)

pub returns-in-Ok-clause-nexts : goal.returns-in-Ok-clause-nexts
returns-in-Ok-clause-nexts g c =
    message_came c.args.most _ _ _ _ 0 0 c.in-Ok-Some.field-0 c.in-Ok-Some.line c.in-Ok.item c.in-Ok-Some.field-0-is (c.in-Ok-Some.ensures.read c.requires.sound) (ap item_of (sym c.as_slice.ensures) ∙ c.in-Ok.ensures)

pub returns-in-Err-Unreadable-clause-nexts : goal.returns-in-Err-Unreadable-clause-nexts
returns-in-Err-Unreadable-clause-nexts g c =
    nexts_as c.args.most _ c.args.framing.now _ None _ _ c.cut_at-in-Err-Unreadable.result _ c.cut_at-in-Err-Unreadable.ensures
    (no_message c.args.most _ _ _ _ _ _ c.in-Ok-Some.field-0 c.in-Ok-Some.line c.in-Ok-Some.field-0-is (c.in-Ok-Some.ensures.read c.requires.sound)
    (ap item_of (sym c.as_slice.ensures) ∙ unreadable_as c.in-Err-Unreadable.field-0 _ c.in-Err-Unreadable.field-0-is c.in-Err-Unreadable.ensures))

pub returns-clause-nexts : goal.returns-clause-nexts
returns-clause-nexts g c =
    nexts_as c.args.most _ c.args.framing.now _ None _ _ c.cut_at-in-Err-NoMemory.result _ c.cut_at-in-Err-NoMemory.ensures
    (not_read c.args.most _ _ _ _ _ _ c.in-Ok-Some.field-0 c.in-Ok-Some.line c.in-Ok-Some.field-0-is (c.in-Ok-Some.ensures.read c.requires.sound))
