-- A record behind this opening.
use Rattle.direct_json.proofs.Drafted.{record_item}
use Rattle.direct_json.proofs.replies.draft_item.Goals as goal

pub returns : goal.returns
returns c = rw c.in_ok-draft_record.ensures (record_item c.args.kv.now c.args.draft.now)
