-- The body is the opening, the base64 texts of the key and of the range's end round what stands between them, and the end.
use Rattle.api_request.proofs.PlainWatches.{range_watch_back}
use Rattle.api_request.proofs.plain.range_watch.Goals as goal

pub returns : goal.returns
returns c =
    let key = c.in_ok-key.ensures in
    let end = c.in_ok-end.ensures in
    rw c.watch_of.ensures (range_watch_back c.args.body.now c.args.key.now c.args.end.now c.in_ok-key.key c.in_ok-end.end c.requires key.text end.text key.bytes end.bytes key.some end.some)
