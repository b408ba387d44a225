-- The body is the opening, the base64 text of the key, and the end.
use Rattle.api_request.proofs.PlainRequests.{read_back}
use Rattle.api_request.proofs.plain.read_from.Goals as goal

pub returns : goal.returns
returns c =
    let key = c.in_ok-key.ensures in
    rw c.read_of.ensures (read_back c.args.body.now c.in_ok-text.text.now c.in_ok-key.key c.in_ok-text.ensures key.text key.bytes key.some)
