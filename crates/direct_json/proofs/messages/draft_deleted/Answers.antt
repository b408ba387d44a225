-- The steps write the parts of what was deleted.
use Rattle.direct_json.proofs.Drafted.{deleted_member}
use Rattle.direct_json.proofs.messages.draft_deleted.Goals as goal

pub returns : goal.returns
returns c = rw (c.in_ok-end.ensures, c.in_ok-number.ensures, c.in_ok-bytes.ensures, c.in_ok-begin.ensures) (deleted_member c.args.key.now c.args.modified c.args.draft.now)
