-- The steps write the parts of the put.
use Rattle.direct_json.proofs.Drafted.{put_ask_item}
use Rattle.direct_json.proofs.requests.draft_put_ask.Goals as goal

pub returns : goal.returns
returns c = rw (c.in_ok-end.ensures, c.in_ok-bytes-2.ensures, c.in_ok-flag-2.ensures, c.in_ok-number.ensures, c.in_ok-bytes.ensures, c.in_ok-flag.ensures, c.in_ok-begin.ensures) (put_ask_item c.args.ask.now c.args.draft.now)
