-- The steps write the parts of the event of a deletion.
use Rattle.json.specs.Print.{escape_byte}
use Rattle.direct_json.proofs.Drafted.{delete_item}
use Rattle.direct_json.proofs.messages.draft_delete.Goals as goal

pub returns : goal.returns
unfolding escape_byte
returns c = rw (c.in_ok-end.ensures, c.in_ok-whole.ensures, c.in_ok-draft_prev.ensures, c.in_ok-draft_deleted.ensures, c.in_ok-begin.ensures) (delete_item c.args.key.now c.args.modified c.args.prev.now c.args.draft.now)
