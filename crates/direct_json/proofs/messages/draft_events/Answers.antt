-- The steps write the parts of the message.
use Rattle.direct_json.proofs.Drafted.{events_member}
use Rattle.direct_json.proofs.messages.draft_events.Goals as goal

pub returns : goal.returns
returns c = rw (c.in_ok-end.ensures, c.in_ok-draft_header.ensures, c.in_ok-draft_list.ensures, c.in_ok-begin.ensures) (events_member c.args.header.now c.args.events.now c.args.draft.now)
