-- The body is the opening, the base64 text of the key, and the end.
use Rattle.api_request.proofs.PlainWatches.{key_watch_back}
use Rattle.api_request.proofs.plain.key_watch.Goals as goal

pub returns : goal.returns
returns c =
    let key = c.in_ok-key.ensures in
    rw (c.watch_of.ensures, c.new.ensures) (key_watch_back c.args.body.now c.args.text.now c.in_ok-key.key c.requires key.text key.bytes key.some)
