-- The steps write the parts of the range.
use Rattle.direct_json.proofs.Drafted.{range_ask_item}
use Rattle.direct_json.proofs.requests.draft_range_ask.Goals as goal

pub returns : goal.returns
returns c =
    rw (
      c.in_ok-end.ensures,
      c.in_ok-flag-3.ensures,
      c.in_ok-number-6.ensures,
      c.in_ok-bytes-2.ensures,
      c.in_ok-number-5.ensures,
      c.in_ok-number-4.ensures,
      c.in_ok-number-3.ensures,
      c.in_ok-number-2.ensures,
      c.in_ok-number.ensures,
      c.in_ok-flag-2.ensures,
      c.in_ok-bytes.ensures,
      c.in_ok-flag.ensures,
      c.in_ok-begin.ensures,
    )
    (range_ask_item c.args.ask.now c.args.draft.now c.requires.order c.requires.target)
